-- The hash of a text.
use Prim.Native.Nat.{ℕ, ◌-◌, ◌<◌, ◌≤◌}
use mathlib.Core.Path.{◌≡◌, sym, ap, ◌∙◌}
use mathlib.Core.List.{List}
use mathlib.Core.Bool.{Bool, true, false, not}
use native.Mathlib.Nat.{sub-zero}
use native.Mathlib.Omega.{arith}
use lib.ListN.{length, take}
use lib.Seq.{length-take-le}
use lib.Dec.{ltb}
use Rattle.std.specs.Str.{IsUtf8}
use Rattle.octets.specs.Choice.{pick}
use borrow.Author.Tests.{lt-ltb, le-ltb}
use Rattle.octets.proofs.Exits.{pick_true, pick_false}
use Rattle.answer.specs.declared.Refusal.{Refusal}
use Rattle.std.proofs.Common.{Result, Ok, Err}
use Rattle.mschap.specs.Responses.{password_hash}
use Rattle.mschap.proofs.Responses.{length_password_hash, password_hash_ok}
use Rattle.mschap.specs.Answers.{password_hash_told, told_password_hash}
use Rattle.password.specs.Utf8.{is_utf8}
use Rattle.password.specs.Utf16.{utf16}
use Rattle.password.proofs.Characters.{utf8_so, utf8_not}
use Rattle.password.specs.Hashed.{hashed_of}
use Rattle.password.specs.declared.PasswordError.TheVariants.{NotUtf8, TooLong}

pub not_hashed : (text : List ℕ) → (IsUtf8 text → ⊥) → Err NotUtf8 ≡ hashed_of text
unfolding hashed_of
not_hashed text f = sym (pick_true _ _ _ (ap not (utf8_not text f)))

module _ (text : List ℕ) (u : IsUtf8 text) where
  pub hash_long : 256 < length (utf16 text) → Err TooLong ≡ hashed_of text
  unfolding hashed_of
  hash_long h = sym (pick_false _ _ _ (ap not (utf8_so text u)) ∙ pick_true _ _ _ (lt-ltb _ _ h))

  -- the units are the first n of an array of 256
  module _ (units : List ℕ) (n : ℕ) (h : n ≤ 256) (long : length units ≡ 256) (c : take n units ≡ utf16 text) where
    few : length (utf16 text) ≤ 256
    few = let z = ap length c in omega (arith, length-take-le n units (omega arith))

    pub hash_made : (r : Result (List ℕ) Refusal) → told_password_hash r ≡ password_hash_told (take (n - 0) units) → r ≡ Ok (password_hash (utf16 text))
    hash_made r d =
        let e : take (n - 0) units ≡ utf16 text = rw (sub-zero n) c in
        password_hash_ok r (utf16 text) (d ∙ ap password_hash_told e) few

    pub hash_good : Ok (password_hash (utf16 text)) ≡ hashed_of text
    unfolding hashed_of
    hash_good = sym (pick_false _ _ _ (ap not (utf8_so text u)) ∙ pick_false _ _ _ (le-ltb _ _ few))

-- a hash has sixteen octets
pub length_hashed : (text hash : List ℕ) → hashed_of text ≡ Ok hash → length hash ≡ 16
unfolding hashed_of pick
length_hashed text hash e = by (not (is_utf8 text)) (ltb 256 (length (utf16 text))) e
  where
    by : (b b' : Bool) → pick b (Err NotUtf8) (pick b' (Err TooLong) (Ok (password_hash (utf16 text)))) ≡ Ok hash → length hash ≡ 16
    by true b' p = cc
    by false true p = cc
    by false false p = let q : password_hash (utf16 text) ≡ hash = cc in rw (← q) (length_password_hash (utf16 text))
