-- A Failure Request's C taken as its 16 octets: the case of its digits is free, and nothing else.
use Prim.Native.Nat.{ℕ, zero, suc, ◌+◌, ◌-◌, ◌*◌, ◌/◌, ◌%◌, ◌≤◌, ◌<◌}
use mathlib.Core.Path.{◌≡◌, sym, ap, subst, ◌∙◌}
use mathlib.Core.Logic.{inl, inr}
use mathlib.Core.Bool.{true}
use mathlib.Core.List.{List, [], ◌∷◌, ◌++◌, append_assoc}
use native.Mathlib.Omega.{arith}
use lib.ListN.{length, get_or, take, drop, length-append}
use lib.Seq.{take_at, drop_at}
use borrow.Author.Tests.{lt-ltb, le-ltb}
use Rattle.octets.specs.Lists.{part, pasted}
use Rattle.octets.specs.Octets.{AreOctets, is_hex, all_hex, hex_value, unhex_at}
use Rattle.octets.proofs.Exits.{pick_true, pick_false, pick_both, below, clash}
use Rattle.octets.proofs.Lists.{get_or_cells}
use Rattle.octets.proofs.Scans.{get_or_past}
use Rattle.octets.proofs.Parts.{length_part, drop_next}
use Rattle.packet.specs.declared.Kind.{Kind}
use Rattle.packet.specs.declared.End.TheVariants.{Peer}
use Rattle.packet.specs.declared.Packet.{Packet}
use Rattle.packet.specs.declared.Place.{Place}
use Rattle.packet.specs.Forms.{word_e, word_r, word_c, word_v, word_m, failure_message, header, chap_packet}
use Rattle.packet.specs.Frame.{cut_of}
use Rattle.packet.specs.Learned.{sixteen_of, HasC, SameDigit, equal, upper_lower, lower_upper, SameButForCase, ReadAlikeButForCase}
use Rattle.packet.specs.Reader.{at, place}
use Rattle.packet.proofs.Exact.{cut_octets}
use Rattle.packet.proofs.Readings.{tells, Shape}
use Rattle.packet.proofs.Shapes.{FailureShape}
use Rattle.packet.proofs.Sizes.{length_chap_packet, length_failure}
use Rattle.packet.proofs.Alike.{places_cut, with_c, failures_but}

-- ---- one digit
data HexDigit (x : ℕ) : Type 0 where
  ten : 48 ≤ x → x < 58 → hex_value x ≡ x - 48 → HexDigit x
  upper : 65 ≤ x → x < 71 → hex_value x ≡ x - 55 → HexDigit x
  lower : 97 ≤ x → x < 103 → hex_value x ≡ x - 87 → HexDigit x

hex_digit_lem : (x : ℕ) → is_hex true x ≡ true → HexDigit x
unfolding is_hex hex_value
hex_digit_lem x t =
    below x 48 (λ l. clash (pick_true _ _ _ (lt-ltb _ _ l)) t) (λ h48.
    below x 58 (λ l. ten h48 l (pick_false _ _ _ (le-ltb _ _ h48) ∙ pick_true _ _ _ (lt-ltb _ _ l))) (λ h58.
    below x 65 (λ l. clash (pick_false _ _ _ (le-ltb _ _ h48) ∙ pick_false _ _ _ (le-ltb _ _ h58) ∙ pick_true _ _ _ (lt-ltb _ _ l)) t) (λ h65.
    below x 71 (λ l. upper h65 l (pick_false _ _ _ (le-ltb _ _ h48) ∙ pick_false _ _ _ (le-ltb _ _ h58) ∙ pick_false _ _ _ (le-ltb _ _ h65) ∙ pick_true _ _ _ (lt-ltb _ _ l))) (λ h71.
    below x 97
    (λ l. clash (pick_false _ _ _ (le-ltb _ _ h48) ∙ pick_false _ _ _ (le-ltb _ _ h58) ∙ pick_false _ _ _ (le-ltb _ _ h65) ∙ pick_false _ _ _ (le-ltb _ _ h71) ∙ pick_true _ _ _ (lt-ltb _ _ l)) t) (λ h97.
    below x 103
    (λ l. lower h97 l (pick_false _ _ _ (le-ltb _ _ h48) ∙ pick_false _ _ _ (le-ltb _ _ h58) ∙ pick_false _ _ _ (le-ltb _ _ h65) ∙ pick_false _ _ _ (le-ltb _ _ h71) ∙ pick_false _ _ _ (le-ltb _ _ h97) ∙ pick_true _ _ _ (lt-ltb _ _ l)))
    (λ h. clash (pick_false _ _ _ (le-ltb _ _ h48) ∙ pick_false _ _ _ (le-ltb _ _ h58) ∙ pick_false _ _ _ (le-ltb _ _ h65) ∙ pick_false _ _ _ (le-ltb _ _ h71) ∙ pick_false _ _ _ (le-ltb _ _ h97) ∙ pick_false _ _ _ (le-ltb _ _ h)) t))))))

same_digit : {a b : ℕ} → HexDigit a → HexDigit b → hex_value a ≡ hex_value b → SameDigit a b
same_digit {a} {b} (ten h l v) (ten k m w) e = let i : a ≡ b = omega arith in subst (SameDigit a) i (equal a)
same_digit (ten h l v) (upper k m w) e = absurd (omega arith)
same_digit (ten h l v) (lower k m w) e = absurd (omega arith)
same_digit (upper h l v) (ten k m w) e = absurd (omega arith)
same_digit {a} {b} (upper h l v) (upper k m w) e = let i : a ≡ b = omega arith in subst (SameDigit a) i (equal a)
same_digit {a} {b} (upper h l v) (lower k m w) e = let i : a + 32 ≡ b = omega arith in subst (SameDigit a) i (upper_lower a h (omega arith))
same_digit (lower h l v) (ten k m w) e = absurd (omega arith)
same_digit {a} {b} (lower h l v) (upper k m w) e = let i : b + 32 ≡ a = omega arith in subst (λ (x : ℕ). SameDigit x b) i (lower_upper b k (omega arith))
same_digit {a} {b} (lower h l v) (lower k m w) e = let i : a ≡ b = omega arith in subst (SameDigit a) i (equal a)

value_small : {x : ℕ} → HexDigit x → hex_value x < 16
value_small (ten h l v) = omega arith
value_small (upper h l v) = omega arith
value_small (lower h l v) = omega arith

-- ---- 32 digits
all_hex_at : (s : List ℕ) (k : ℕ) → all_hex true s ≡ true → k < length s → HexDigit (get_or s k 0)
unfolding all_hex
all_hex_at [] k t h = absurd (omega arith)
all_hex_at (x ∷ xs) zero t h = hex_digit_lem x (pick_both _ _ t).0
all_hex_at (x ∷ xs) (suc k) t h = all_hex_at xs k (pick_both _ _ t).1 (omega arith)

pair_same : (a b c d : ℕ) → b < 16 → d < 16 → a * 16 + b ≡ c * 16 + d → (a ≡ c) × (b ≡ d)
pair_same a b c d h k e = (omega arith, omega arith)

module _ (c c' : List ℕ) (n : length c ≡ 32) (n' : length c' ≡ 32) (t : all_hex true c ≡ true) (t' : all_hex true c' ≡ true) (same : sixteen_of c ≡ sixteen_of c') where
  digit : (k : ℕ) → k < 32 → HexDigit (get_or c k 0)
  digit k h = all_hex_at c k t (omega arith)

  digit' : (k : ℕ) → k < 32 → HexDigit (get_or c' k 0)
  digit' k h = all_hex_at c' k t' (omega arith)

  values : (k : ℕ) → k < 16 → (hex_value (get_or c (k * 2) 0) ≡ hex_value (get_or c' (k * 2) 0)) × (hex_value (get_or c (k * 2 + 1) 0) ≡ hex_value (get_or c' (k * 2 + 1) 0))
  unfolding unhex_at
  values k h =
      pair_same _ _ _ _ (value_small (digit (k * 2 + 1) (omega arith))) (value_small (digit' (k * 2 + 1) (omega arith)))
      (sym (get_or_cells 16 (unhex_at c) k h) ∙ ap (λ (l : List ℕ). get_or l k 0) same ∙ get_or_cells 16 (unhex_at c') k h)

  same_digits : (k : ℕ) → SameDigit (get_or c k 0) (get_or c' k 0)
  same_digits k =
      below k 32
      (λ h. same_digit (digit k h) (digit' k h)
      (below (k % 2) 1
      (λ l. let e : k / 2 * 2 ≡ k = omega arith in rw e at (values (k / 2) (omega arith)).0)
      (λ g. let e : k / 2 * 2 + 1 ≡ k = omega arith in rw e at (values (k / 2) (omega arith)).1)))
      (λ h. rw (← get_or_past c k (omega arith), ← get_or_past c' k (omega arith)) (equal 0))

-- ---- the rest
module _ (id chapid r : ℕ) (e v text : List ℕ) where
  abbrev size : ℕ
  size = 56 + length e + length v + length text

  abbrev message : List ℕ → List ℕ
  message c = chap_packet 1 4 id chapid (failure_message e r c v text)

  abbrev before : List ℕ
  before = header 1 4 id chapid size ++ (word_e ++ (e ++ (word_r ++ (r ∷ word_c))))

  abbrev behind : List ℕ
  behind = word_v ++ (v ++ (word_m ++ text))

  around : (c : List ℕ) → length c ≡ 32 → message c ≡ before ++ (c ++ behind)
  unfolding chap_packet failure_message header
  around c h =
      let n : 9 + length (failure_message e r c v text) ≡ size = sym (length_chap_packet 1 4 id chapid (failure_message e r c v text)) ∙ length_failure id chapid e r c v text h in
      (λ j. header 1 4 id chapid (n j) ++ failure_message e r c v text)
      ∙ ap (λ (l : List ℕ). header 1 4 id chapid size ++ (word_e ++ l)) (sym (append_assoc e (word_r ++ (r ∷ word_c)) (c ++ behind)))

  length_before : length before ≡ 18 + length e
  unfolding header
  length_before = omega (arith, length-append e (word_r ++ (r ∷ word_c)))

  other_digits : (c c' : List ℕ) → length c ≡ 32 → length c' ≡ 32 → message c' ≡ pasted (message c) (18 + length e) c'
  unfolding pasted
  other_digits c c' h h' =
      let n = length_before in
      let w = around c h in
      let a : take (18 + length e) (message c) ≡ before = ap (take (18 + length e)) w ∙ take_at before (c ++ behind) (18 + length e) n in
      let from : drop (18 + length e) (message c) ≡ c ++ behind = ap (drop (18 + length e)) w ∙ drop_at before (c ++ behind) (18 + length e) n in
      let b : drop (18 + length e + length c') (message c) ≡ behind = drop_next (message c) c behind (18 + length e) 32 (18 + length e + length c') from h (omega arith) in
      around c' h' ∙ sym (append_assoc before c' behind) ∙ sym (λ j. a j ++ c' ++ b j)

-- two Failure Requests with one reading, cut at L
failures : (q q' : List ℕ) (x : Packet) → AreOctets q → AreOctets q' → FailureShape q x → FailureShape q' x → sixteen_of (at q x.challenge) ≡ sixteen_of (at q' x.challenge) → at q x.tail ≡ at q' x.tail → SameButForCase q q' x
failures q q' x o o' s s' same tail =
    let a = s.a in
    let l = s.least in
    let ea : length (part q 11 a) ≡ a = length_part q 11 a (omega arith) in
    let i : x.challenge ≡ place (18 + a) 32 = ap (λ (z : Packet). z.challenge) s.reads in
    let i' : x.challenge ≡ place (18 + s'.a) 32 = ap (λ (z : Packet). z.challenge) s'.reads in
    let c : part q (18 + a) 32 ≡ at q x.challenge = ap (at q) (sym i) in
    let c' : part q' (18 + a) 32 ≡ at q' x.challenge = ap (at q') (sym i) in
    let d : part q' (18 + s'.a) 32 ≡ at q' x.challenge = ap (at q') (sym i') in
    let f = s.spelling in
    let f' = s'.spelling in
    let n : length (at q x.challenge) ≡ 32 = ap length (sym c) ∙ f.c_size in
    let n' : length (at q' x.challenge) ≡ 32 = ap length (sym d) ∙ f'.c_size in
    let h : all_hex true (at q x.challenge) ≡ true = ap (all_hex true) (sym c) ∙ f.c_hex in
    let h' : all_hex true (at q' x.challenge) ≡ true = ap (all_hex true) (sym d) ∙ f'.c_hex in
    let w : with_c q x s (at q x.challenge) ≡ q = sym (s.is o ∙ ap (with_c q x s) c) in
    let w' : q' ≡ with_c q x s (at q' x.challenge) = failures_but q' q x o' s' s (sym tail) ∙ ap (with_c q x s) c' in
    let e : 18 + length (part q 11 a) ≡ x.challenge.start = omega (arith, ap (λ (z : Place). z.start) i) in
    record {
      outside = w' ∙ other_digits _ _ _ _ _ _ (at q x.challenge) (at q' x.challenge) n n' ∙ (λ j. pasted (w j) (e j) (at q' x.challenge));
      digits = same_digits (at q x.challenge) (at q' x.challenge) n n' h h' same;
    }

of_failure : (k : Kind) (q : List ℕ) (x : Packet) → HasC k → Shape k q x → FailureShape q x
of_failure k q x (inl e) s = subst (λ (z : Kind). Shape z q x) e s
of_failure k q x (inr e) s = subst (λ (z : Kind). Shape z q x) e s

pub read_alike_but_for_case : ReadAlikeButForCase
read_alike_but_for_case p p' x o o' e e' c same tail =
    let t = tells Peer p x e in
    let t' = tells Peer p' x e' in
    let k = places_cut Peer p x e in
    let k' = places_cut Peer p' x e' in
    let q = take x.length p in
    let q' = take x.length p' in
    let s : SameButForCase q q' x =
    failures q q' x (cut_octets p x.length o) (cut_octets p' x.length o') (of_failure _ q x c t.shape) (of_failure _ q' x c t'.shape)
    (ap sixteen_of k.challenge ∙ same ∙ sym (ap sixteen_of k'.challenge)) (k.tail ∙ tail ∙ sym k'.tail) in
    subst (λ (n : ℕ). SameButForCase (take n p) (cut_of p') x) t.size (subst (λ (n : ℕ). SameButForCase q (take n p') x) t'.size s)
