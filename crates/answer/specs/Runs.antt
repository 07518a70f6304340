-- Lists of calls on a state s: each takes the state that the last one left. A call gives an A, in which `left` finds that state.
use Rattle.std.specs.Prelude.{List, [], ◌∷◌}

module _ {S C A : Type 0} (left : A → S) (call : S → C → A) where
  -- what each call gives
  unfoldable pub run : S → List C → List A
  run s [] = []
  run s (c ∷ cs) = call s c ∷ run (left (call s c)) cs

  -- the state after the last one
  unfoldable pub after : S → List C → S
  after s [] = s
  after s (c ∷ cs) = after (left (call s c)) cs
