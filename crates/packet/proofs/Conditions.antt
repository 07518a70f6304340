-- Each refusal of the reader is given exactly when its condition holds and none earlier does.
use Prim.Native.Nat.{ℕ, ◌+◌, ◌-◌, ◌≤◌, ◌<◌}
use mathlib.Core.Path.{◌≡◌, refl, sym, ap, subst, ◌∙◌}
use mathlib.Core.Logic.{◌⊎◌, inl, inr}
use mathlib.Core.Bool.{Bool, true, false, not, ◌||◌}
use mathlib.Core.List.{List}
use native.Mathlib.Omega.{arith}
use lib.ListN.{length, get_or, drop, take-append-drop}
use lib.Seq.{length-take-le, get_or-take}
use lib.Dec.{ltb, eqb}
use borrow.Author.Tests.{ltb-true, ltb-false, le-ltb, eqb-true, eqb-false, eq-eqb, not-true, not-false}
use Rattle.octets.specs.Octets.{AreOctets, number_at}
use Rattle.octets.specs.declared.Order.TheVariants.{Big}
use Rattle.octets.proofs.Exits.{picked, below, clash, or_none}
use Rattle.octets.proofs.Parts.{number_take}
use Rattle.octets.proofs.Scans.{get_or_past}
use Rattle.answer.specs.Outcome.{Told, gives}
use Rattle.answer.specs.Sizes.{max_packet}
use Rattle.packet.specs.declared.End.{End}
use Rattle.packet.specs.declared.End.TheVariants.{Peer, Server}
use Rattle.packet.specs.declared.Kind.{Kind}
use Rattle.packet.specs.declared.Packet.{Packet}
use Rattle.packet.specs.declared.Place.{Place}
use Rattle.packet.specs.Forms.{Formed}
use Rattle.packet.specs.Frame.{code_of, length_of, cut_of, framed}
use Rattle.packet.specs.Inner.{at_peer, at_server, at_end}
use Rattle.packet.specs.Reader.{refusal, chap_row, read_challenge, read_response, read_success, failure_row, read_failure, read_bare, read_packet}
use Rattle.packet.specs.Promises.{type_of, op_code_of, ms_length_of, CodeFor, HasOpCode, FirstFour, a_challenge, a_response, a_success_request, a_failure_request, InTable, first_four, a_success_response, a_failure_response, Condition, too_few, bad_length, too_long, bad_code, bad_type, bad_opcode, bad_ms_length, bad_form, First, RefusedExactly, ReadExactly}
use Rattle.packet.proofs.Frames.{neither, InFrame}
use Rattle.packet.proofs.Ends.{at_end_lem}
use Rattle.packet.proofs.Readings.{tells}
use Rattle.packet.proofs.Exact.{formed_reads, reads_formed}

-- ---- the conditions, one after the other
module _ (end : End) (p : List ℕ) where
  -- every condition that holds has a number from k on
  abbrev Past : ℕ → Type 0
  Past k = (j : ℕ) → Condition end p j → k ≤ j

  past_next : (k : ℕ) → Past k → (Condition end p k → ⊥) → Past (k + 1)
  past_next k past none j c =
      below k j (λ h. omega arith) (λ h. let e : j ≡ k = omega (arith, past j c) in absurd (none (subst (Condition end p) e c)))

  numbered : {j : ℕ} → Condition end p j → (10 ≤ j) × (j ≤ 17)
  numbered (too_few h) = (omega arith, omega arith)
  numbered (bad_length h) = (omega arith, omega arith)
  numbered (too_long h) = (omega arith, omega arith)
  numbered (bad_code h) = (omega arith, omega arith)
  numbered (bad_type t h) = (omega arith, omega arith)
  numbered (bad_opcode t h) = (omega arith, omega arith)
  numbered (bad_ms_length t h) = (omega arith, omega arith)
  numbered (bad_form h) = (omega arith, omega arith)

  past_10 : Past 10
  past_10 j c = (numbered c).0

  not_10 : 4 ≤ length p → Condition end p 10 → ⊥
  not_10 h (too_few l) = omega arith

  not_11 : 4 ≤ length_of p → length_of p ≤ length p → Condition end p 11 → ⊥
  not_11 h k (bad_length (inl l)) = omega arith
  not_11 h k (bad_length (inr l)) = omega arith

  not_12 : length_of p ≤ max_packet → Condition end p 12 → ⊥
  not_12 h (too_long l) = omega arith

  not_13 : CodeFor end (code_of p) → Condition end p 13 → ⊥
  not_13 h (bad_code l) = l h

  not_14 : (HasOpCode (code_of p) → (5 ≤ length_of p) × (type_of p ≡ 26)) → Condition end p 14 → ⊥
  not_14 h (bad_type t (inl l)) = let u = (h t).0 in omega arith
  not_14 h (bad_type t (inr l)) = l (h t).1

  not_15 : (HasOpCode (code_of p) → (6 ≤ length_of p) × InTable (code_of p) (op_code_of p)) → Condition end p 15 → ⊥
  not_15 h (bad_opcode t (inl l)) = let u = (h t).0 in omega arith
  not_15 h (bad_opcode t (inr l)) = l (h t).1

  not_16 : (FirstFour (code_of p) (op_code_of p) → (9 ≤ length_of p) × (ms_length_of p ≡ length_of p - 5)) → Condition end p 16 → ⊥
  not_16 h (bad_ms_length t (inl l)) = let u = (h t).0 in omega arith
  not_16 h (bad_ms_length t (inr l)) = l (h t).1

  not_17 : Formed end (cut_of p) → Condition end p 17 → ⊥
  not_17 h (bad_form l) = l h

-- ---- the table's columns
four_op : {code op : ℕ} → FirstFour code op → HasOpCode code
four_op a_challenge = inl refl
four_op a_response = inr refl
four_op a_success_request = inl refl
four_op a_failure_request = inl refl

four_2 : {code op : ℕ} → FirstFour code op → code ≡ 2 → op ≡ 2
four_2 a_challenge e = absurd (omega arith)
four_2 a_response e = refl
four_2 a_success_request e = absurd (omega arith)
four_2 a_failure_request e = absurd (omega arith)

table_1 : {code op : ℕ} → InTable code op → code ≡ 1 → (op ≡ 1 → ⊥) → (op ≡ 3 → ⊥) → (op ≡ 4 → ⊥) → ⊥
table_1 (first_four _ _ a_challenge) e a b c = a refl
table_1 (first_four _ _ a_response) e a b c = omega arith
table_1 (first_four _ _ a_success_request) e a b c = b refl
table_1 (first_four _ _ a_failure_request) e a b c = c refl
table_1 a_success_response e a b c = omega arith
table_1 a_failure_response e a b c = omega arith

table_2 : {code op : ℕ} → InTable code op → code ≡ 2 → (op ≡ 2 → ⊥) → (op ≡ 3 → ⊥) → (op ≡ 4 → ⊥) → ⊥
table_2 (first_four _ _ a_challenge) e a b c = omega arith
table_2 (first_four _ _ a_response) e a b c = a refl
table_2 (first_four _ _ a_success_request) e a b c = omega arith
table_2 (first_four _ _ a_failure_request) e a b c = omega arith
table_2 a_success_response e a b c = b refl
table_2 a_failure_response e a b c = c refl

no_op : {code : ℕ} → 3 ≤ code → HasOpCode code → ⊥
no_op h (inl e) = omega arith
no_op h (inr e) = omega arith

no_code : {code : ℕ} → (code ≡ 3 → ⊥) → (code ≡ 4 → ⊥) → (code ≡ 1 → ⊥) → CodeFor Peer code → ⊥
no_code a b c (inl e) = c e
no_code a b c (inr (inl e)) = a e
no_code a b c (inr (inr e)) = b e

-- ---- what the reader answers
data Answered (end : End) (p : List ℕ) : Told Packet → Type 0 where
  refused : (k : ℕ) → Condition end p k → Past end p k → Answered end p (refusal k)
  read : (x : Packet) → read_packet end p ≡ gives x → Past end p 18 → Answered end p (gives x)

abbrev Case : End → List ℕ → Told Packet → Type 0
Case end p t = read_packet end p ≡ t → Answered end p t

-- a packet in its frame, cut at L
module _ (p : List ℕ) (o : AreOctets p) (f : InFrame p) where
  abbrev q : List ℕ
  q = cut_of p

  size : length q ≡ length_of p
  size = length-take-le (length_of p) p f.inside

  here : (i : ℕ) → i < length_of p → get_or q i 0 ≡ get_or p i 0
  here i h = get_or-take (length_of p) p i 0 h

  code_here : code_of q ≡ code_of p
  code_here = here 0 (omega (arith, f.least))

  -- an octet that is not 0 is there
  there : (i n : ℕ) → get_or q i 0 ≡ n → 1 ≤ n → (i + 1 ≤ length_of p) × (get_or p i 0 ≡ n)
  there i n e h =
      below i (length_of p)
      (λ l. (omega arith, sym (here i l) ∙ e))
      (λ g. let z : 0 ≡ get_or q i 0 = get_or_past q i (omega (arith, size)) in absurd (omega arith))

  -- octet i is not there, or is none that fits
  unlike : {A : Type 0} (i : ℕ) → (get_or q i 0 ≡ get_or p i 0 → A) → (length_of p < i + 1) ⊎ A
  unlike i g = below (length_of p) (i + 1) inl (λ h. inr (g (here i (omega arith))))

  -- 17
  unformed : {end : End} → read_packet end p ≡ refusal 17 → Formed end q → ⊥
  unformed {end} e m =
      let t = formed_reads end q m (omega (arith, size, f.most)) in
      let r : read_packet end p ≡ gives t.packet = ap (read_packet end) (sym (take-append-drop (length_of p) p)) ∙ t.reads (drop (length_of p) p) in
      let z : ◌≡◌ {A = ℕ} 17 0 = ap (λ (t : Told Packet). t.number) (sym e ∙ r) in
      omega arith

  form_case : {end : End} → Past end p 17 → Case end p (refusal 17)
  form_case past e = refused 17 (bad_form (unformed e)) past

  read_case : {end : End} (x : Packet) → Past end p 17 → Case end p (gives x)
  read_case {end} x past e = read x e (past_next end p 17 past (not_17 end p (reads_formed end p x o e)))

  -- 16
  ms_bad : (ltb (length q) 9 || not (eqb (number_at Big q 7) (length q - 5))) ≡ true → (length_of p < 9) ⊎ (ms_length_of p ≡ length_of p - 5 → ⊥)
  ms_bad t =
      below (length_of p) 9 inl (λ h. inr (λ e.
      let n = size in
      let m : number_at Big q 7 ≡ length q - 5 = number_take Big (length_of p) p 7 (omega arith) ∙ e ∙ omega arith in
      let l : 9 ≤ length q = omega arith in
      clash (or_none _ _ (le-ltb _ _ l) (ap not (eq-eqb _ _ m))) t))

  ms_good : (ltb (length q) 9 || not (eqb (number_at Big q 7) (length q - 5))) ≡ false → (9 ≤ length_of p) × (ms_length_of p ≡ length_of p - 5)
  ms_good t =
      let n = size in
      let u = neither _ _ t in
      let l : 9 ≤ length q = ltb-false _ _ u.0 in
      let m : number_at Big q 7 ≡ length q - 5 = eqb-true _ _ (not-false _ u.1) in
      (omega arith, sym (number_take Big (length_of p) p 7 (omega arith)) ∙ m ∙ omega arith)

  chap_case : {end : End} → FirstFour (code_of p) (op_code_of p) → Past end p 16 →
      (kind : Kind) (formed : Bool) (error : ℕ) (challenge response : Place) (tail : ℕ) → Case end p (chap_row kind q formed error challenge response tail)
  unfolding chap_row
  chap_case {end} four past kind formed error challenge response tail =
      picked (Case end p) _ (λ t e. refused 16 (bad_ms_length four (ms_bad t)) past)
      (λ t.
      let past-17 = past_next end p 16 past (not_16 end p (λ _. ms_good t)) in
      picked (Case end p) _ (λ _. form_case past-17) (λ _. read_case _ past-17))

  bare_case : {end : End} → Past end p 17 → (kind : Kind) (l : ℕ) → Case end p (read_bare kind l q)
  unfolding read_bare
  bare_case {end} past kind l = picked (Case end p) _ (λ _. form_case past) (λ _. read_case _ past)

  -- 13 to 15
  past_bare : {end : End} → Past end p 13 → CodeFor end (code_of p) → (HasOpCode (code_of p) → ⊥) → Past end p 17
  past_bare {end} past c none =
      past_next end p 16 (past_next end p 15 (past_next end p 14 (past_next end p 13 past (not_13 end p c)) (not_14 end p (λ t. absurd (none t)))) (not_15 end p (λ t. absurd (none t))))
      (not_16 end p (λ t. absurd (none (four_op t))))

  past_typed : {end : End} → Past end p 13 → CodeFor end (code_of p) → not (eqb (get_or q 4 0) 26) ≡ false → Past end p 15
  past_typed {end} past c t =
      past_next end p 14 (past_next end p 13 past (not_13 end p c)) (not_14 end p (λ _. there 4 26 (eqb-true _ _ (not-false _ t)) (omega arith)))

  untyped : {end : End} → HasOpCode (code_of p) → not (eqb (get_or q 4 0) 26) ≡ true → Condition end p 14
  untyped h t = bad_type h (unlike 4 (λ e k. eqb-false _ _ (not-true _ t) (e ∙ k)))

  past_op : {end : End} (code op : ℕ) → Past end p 15 → code_of p ≡ code → eqb (get_or q 5 0) op ≡ true → 1 ≤ op → InTable code op → Past end p 16
  past_op {end} code op past c t h table =
      let u = there 5 op (eqb-true _ _ t) h in
      past_next end p 15 past (not_15 end p (λ _. (u.0, rw (c, u.1) table)))

  four_here : (code op : ℕ) → code_of p ≡ code → eqb (get_or q 5 0) op ≡ true → 1 ≤ op → FirstFour code op → FirstFour (code_of p) (op_code_of p)
  four_here code op c t h four = rw (c, (there 5 op (eqb-true _ _ t) h).1) four

  op_case : {end : End} (code op : ℕ) → Past end p 15 → code_of p ≡ code → FirstFour code op → 1 ≤ op → eqb (get_or q 5 0) op ≡ true →
      (kind : Kind) (formed : Bool) (error : ℕ) (challenge response : Place) (tail : ℕ) → Case end p (chap_row kind q formed error challenge response tail)
  op_case code op past c four h t = chap_case (four_here code op c t h four) (past_op code op past c t h (first_four code op four))

  -- a Response with nothing after its OpCode
  bare_op_case : (op : ℕ) → Past Server p 15 → code_of p ≡ 2 → InTable 2 op → 3 ≤ op → eqb (get_or q 5 0) op ≡ true → (kind : Kind) → Case Server p (read_bare kind 6 q)
  bare_op_case op past c table h t kind =
      let i : op_code_of p ≡ op = (there 5 op (eqb-true _ _ t) (omega arith)).1 in
      bare_case (past_next Server p 16 (past_op 2 op past c t (omega arith) table) (not_16 Server p (λ four. absurd (omega (arith, four_2 four c))))) kind 6

  -- the Code is or is not c
  code_so : (c : ℕ) → eqb (code_of q) c ≡ true → code_of p ≡ c
  code_so c t = sym code_here ∙ eqb-true _ _ t

  code_not : (c : ℕ) → eqb (code_of q) c ≡ false → code_of p ≡ c → ⊥
  code_not c t e = eqb-false _ _ t (code_here ∙ e)

  op_not : {n : ℕ} → eqb (get_or q 5 0) n ≡ false → get_or q 5 0 ≡ op_code_of p → op_code_of p ≡ n → ⊥
  op_not t e k = eqb-false _ _ t (e ∙ k)

  at_case : (end : End) → Past end p 13 → Case end p (at_end end (code_of q) (get_or q 4 0) (get_or q 5 0) q)
  unfolding at_end at_peer at_server read_challenge read_response read_success read_failure failure_row
  at_case Peer past =
      picked (Case Peer p) _ (λ t. let c = code_so 3 t in bare_case (past_bare past (inr (inl c)) (no_op (omega arith))) _ 4) (λ n3.
      picked (Case Peer p) _ (λ t. let c = code_so 4 t in bare_case (past_bare past (inr (inr c)) (no_op (omega arith))) _ 4) (λ n4.
      picked (Case Peer p) _ (λ t e. refused 13 (bad_code (no_code (code_not 3 n3) (code_not 4 n4) (code_not 1 (not-true _ t)))) past) (λ t.
      let c : code_of p ≡ 1 = code_so 1 (not-false _ t) in
      picked (Case Peer p) _ (λ u e. refused 14 (untyped (inl c) u) (past_next Peer p 13 past (not_13 Peer p (inl c)))) (λ u.
      let past-15 = past_typed past (inl c) u in
      picked (Case Peer p) _ (λ v. op_case 1 1 past-15 c a_challenge (omega arith) v _ _ _ _ _ _) (λ o1.
      picked (Case Peer p) _ (λ v. op_case 1 3 past-15 c a_success_request (omega arith) v _ _ _ _ _ _) (λ o3.
      picked (Case Peer p) _ (λ v. op_case 1 4 past-15 c a_failure_request (omega arith) v _ _ _ _ _ _) (λ o4 e.
      refused 15 (bad_opcode (inl c) (unlike 5 (λ i table. table_1 table c (op_not o1 i) (op_not o3 i) (op_not o4 i)))) past-15)))))))
  at_case Server past =
      picked (Case Server p) _ (λ t e. refused 13 (bad_code (code_not 2 (not-true _ t))) past) (λ t.
      let c : code_of p ≡ 2 = code_so 2 (not-false _ t) in
      picked (Case Server p) _ (λ u e. refused 14 (untyped (inr c) u) (past_next Server p 13 past (not_13 Server p c))) (λ u.
      let past-15 = past_typed past c u in
      picked (Case Server p) _ (λ v. op_case 2 2 past-15 c a_response (omega arith) v _ _ _ _ _ _) (λ o2.
      picked (Case Server p) _ (λ v. bare_op_case 3 past-15 c a_success_response (omega arith) v _) (λ o3.
      picked (Case Server p) _ (λ v. bare_op_case 4 past-15 c a_failure_response (omega arith) v _) (λ o4 e.
      refused 15 (bad_opcode (inr c) (unlike 5 (λ i table. table_2 table c (op_not o2 i) (op_not o3 i) (op_not o4 i)))) past-15)))))

-- ---- the octets lent
module _ (end : End) (p : List ℕ) (o : AreOctets p) where
  answered : Answered end p (read_packet end p)
  unfolding read_packet framed
  answered =
      picked (Case end p) _ (λ t e. refused 10 (too_few (ltb-true _ _ t)) (past_10 end p)) (λ t.
      let past-11 = past_next end p 10 (past_10 end p) (not_10 end p (ltb-false _ _ t)) in
      picked (Case end p) _ (λ u e. refused 11 (bad_length (either_way u)) past-11) (λ u.
      let w = neither _ _ u in
      let past-12 = past_next end p 11 past-11 (not_11 end p (ltb-false _ _ w.0) (ltb-false _ _ w.1)) in
      picked (Case end p) _ (λ v e. refused 12 (too_long (ltb-true _ _ v)) past-12) (λ v e.
      let f : InFrame p = record { least = ltb-false _ _ w.0; inside = ltb-false _ _ w.1; most = ltb-false _ _ v } in
      subst (Answered end p) (sym (at_end_lem end (cut_of p))) (at_case p o f end (past_next end p 12 past-12 (not_12 end p f.most)) (e ∙ at_end_lem end (cut_of p)))))) refl
    where
      either_way : (ltb (length_of p) 4 || ltb (length p) (length_of p)) ≡ true → (length_of p < 4) ⊎ (length p < length_of p)
      either_way t = below (length_of p) 4 inl (λ h. inr (ltb-true _ _ (sym (ap (λ (b : Bool). b || ltb (length p) (length_of p)) (le-ltb _ _ h)) ∙ t)))

  -- the number that is given is the first
  given : {t : Told Packet} (k : ℕ) → Answered end p t → t ≡ refusal k → First end p k
  given k (refused j c past) e =
      let i : j ≡ k = ap (λ (t : Told Packet). t.number) e in
      subst (First end p) i (record { holds = c; none_earlier = λ n h d. omega (arith, past n d) })
  given k (read x r past) e =
      let l : x.length ≡ 0 = ap (λ (t : Told Packet). t.value.length) e in
      absurd (omega (arith, (tells end p x r).least))

  -- and the first is given
  first : {t : Told Packet} (k : ℕ) → Answered end p t → First end p k → t ≡ refusal k
  first k (refused j c past) s =
      let h : j ≤ k = past k s.holds in
      below j k (λ l. absurd (s.none_earlier j l c)) (λ g. let i : j ≡ k = omega arith in ap refusal i)
  first k (read x r past) s = absurd (omega (arith, past k s.holds, (numbered end p s.holds).1))

  -- 0 is given where no condition holds
  none_holds : {t : Told Packet} → Answered end p t → t.number ≡ 0 → (k : ℕ) → Condition end p k → ⊥
  none_holds (refused j c past) e k d = omega (arith, (numbered end p c).0)
  none_holds (read x r past) e k d = omega (arith, past k d, (numbered end p d).1)

  read_so : {t : Told Packet} → Answered end p t → ((k : ℕ) → Condition end p k → ⊥) → t.number ≡ 0
  read_so (refused j c past) none = absurd (none j c)
  read_so (read x r past) none = refl

pub refused_exactly : RefusedExactly
refused_exactly end p k o = (given end p o k (answered end p o), first end p o k (answered end p o))

pub read_exactly : ReadExactly
read_exactly end p o = (none_holds end p o (answered end p o), read_so end p o (answered end p o))
