-- A choice by a test.
use Rattle.std.specs.Prelude.{Bool, true, false}

-- x where the test holds, and else y. A refusal chain is a nest of these, in the order of the tests
unfoldable pub pick : {A : Type 0} → Bool → A → A → A
pick true x y = x
pick false x y = y
