-- 01, "What a call answers": 10 to 14, of any packet of EAP and over whatever follows. A refusal k gives `refuse k`.
use Rattle.std.specs.Prelude.{ℕ, List, Bool, Result, not, ◌&&◌, ◌||◌, length, get_or, take, ltb, eqb}
use Rattle.octets.specs.Choice.{pick}
use Rattle.octets.specs.Octets.{number_at}
use Rattle.octets.specs.declared.Order.TheVariants.{Big}
use Rattle.answer.specs.Results.{told_by}
use Rattle.answer.specs.declared.Refusal.{Refusal}
use Rattle.answer.specs.Outcome.{Told, gives, refuses}
use Rattle.answer.specs.Sizes.{max_packet}

abbrev pub code_of : List ℕ → ℕ
code_of q = get_or q 0 0

-- L
abbrev pub length_of : List ℕ → ℕ
length_of p = number_at Big p 2

-- "Octets after L are padding, ignored on reading"
abbrev pub cut_of : List ℕ → List ℕ
cut_of p = take (length_of p) p

-- Code 1 or 2: there is a Type
abbrev pub with_type : ℕ → Bool
with_type code = eqb code 1 || eqb code 2

module _ {A : Type 0} (refuse : ℕ → A) where
  -- 10 "fewer than 4 octets lent", 11 "L under 4 or over the octets lent", 12 "L over 1,020"
  unfoldable pub framed : (List ℕ → A) → List ℕ → A
  framed next p =
      pick (ltb (length p) 4) (refuse 10)
      (pick (ltb (length_of p) 4 || ltb (length p) (length_of p)) (refuse 11)
      (pick (ltb max_packet (length_of p)) (refuse 12)
      (next (cut_of p))))

  -- 13 "Code not for this end", 14 "Code 1 or 2 and no Type octet, or Type not" this one; q is a packet, cut at L
  unfoldable pub typed : (ℕ → Bool) → ℕ → (List ℕ → A) → List ℕ → A
  typed codes type next q =
      pick (not (codes (code_of q))) (refuse 13)
      (pick (with_type (code_of q) && (ltb (length q) 5 || not (eqb (get_or q 4 0) type))) (refuse 14)
      (next q))

-- L, or the first of 10 to 12
unfoldable pub frame_of : List ℕ → Told ℕ
frame_of p = framed (λ k. refuses k 0) (λ q. gives (length q)) p

abbrev pub told_frame : Result ℕ Refusal → Told ℕ
told_frame = told_by (λ l. l) 0
