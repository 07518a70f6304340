-- Lists by their elements, and lists of octets put into others.
use Rattle.std.specs.Prelude.{ℕ, zero, suc, ◌+◌, ◌≡◌, List, [], ◌∷◌, ◌++◌, length, get_or, take, drop, leb}
use Rattle.octets.specs.Choice.{pick}

-- f 0, f 1, .., f (n - 1)
unfoldable pub cells : ℕ → (ℕ → ℕ) → List ℕ
cells zero f = []
cells (suc n) f = cells n f ++ (f n ∷ [])

-- the first n octets of s, and zeros after them where s has fewer
unfoldable pub sized : ℕ → List ℕ → List ℕ
sized n s = cells n (λ k. get_or s k 0)

-- n octets of s from i, or as many as there are
abbrev pub part : List ℕ → ℕ → ℕ → List ℕ
part s i n = take n (drop i s)

-- d with s over its front
abbrev pub over : List ℕ → List ℕ → List ℕ
over s d = s ++ drop (length s) d

-- d with s in place of its octets from i
unfoldable pub pasted : List ℕ → ℕ → List ℕ → List ℕ
pasted d i s = take i d ++ s ++ drop (i + length s) d

-- the same where s fits there, and else d
unfoldable pub put : List ℕ → ℕ → List ℕ → List ℕ
put d i s = pick (leb (i + length s) (length d)) (pasted d i s) d

-- the place after s, put into d from i; i where s does not fit
unfoldable pub next_at : List ℕ → ℕ → List ℕ → ℕ
next_at d i s = pick (leb (i + length s) (length d)) (i + length s) i

-- s was put into d from i; next is the place after it
pub record Appended (d : List ℕ) (i : ℕ) (s : List ℕ) (next : ℕ) (after : List ℕ) : Type 0 where
  pub place : next ≡ next_at d i s
  pub now : after ≡ put d i s

-- s after n turns, turn t by f t of what x has at t
unfoldable pub turns : {A B : Type 0} → (ℕ → B → A → A) → (ℕ → B) → A → ℕ → A
turns f x s zero = s
turns f x s (suc t) = f t (x t) (turns f x s t)
