-- What is made is well formed.
use Prim.Native.Nat.{ℕ, suc, ◌+◌, ◌≤◌}
use native.Mathlib.Omega.{arith}
use mathlib.Core.Path.{◌≡◌, refl, ap, ◌∙◌}
use mathlib.Core.List.{List, [], ◌∷◌}
use mathlib.Core.Bool.{Bool, true, false, not}
use lib.ListN.{length, drop, length-append}
use lib.Dec.{eqb, ltb}
use borrow.Author.Tests.{ltb-false}
use Rattle.std.specs.Prelude.{Option, Some, None, Result, Ok, Err}
use Rattle.octets.specs.Choice.{pick}
use Rattle.octets.specs.Lists.{cells}
use Rattle.octets.specs.Octets.{octet_is, stands_at, unhex_at}
use Rattle.octets.proofs.Exits.{arms, picked}
use Rattle.octets.proofs.Lists.{length_cells}
use Rattle.accounts.specs.Accounts.{well_formed}
use Rattle.accounts.proofs.Joined.{joined_formed, empty_formed}
use Rattle.accounts.proofs.Appending.{record_formed}
use Rattle.password.specs.Hashed.{hashed_of}
use Rattle.password.specs.declared.PasswordError.{PasswordError}
use Rattle.password.proofs.Hashes.{length_hashed}
use Rattle.roster.specs.Lines.{upto, has, hash_mark, before, after, trimmed, word_hash, hex_secret, spelt, secret_of, code_after, bad, entry, entry_by, entry_with, some_entry, entry_of}
use Rattle.roster.specs.Made.{lines_of, added_to, added_by, record_in, AfterLine, added_line, All, made_from, made_of}
use Rattle.roster.specs.Promises.{MadeFormed}
use Rattle.roster.specs.declared.LineError.{LineError}
use Rattle.roster.specs.declared.LineError.TheVariants as error
use Rattle.roster.specs.declared.Entry.{Entry}
use Rattle.roster.specs.declared.BadLine.{BadLine}

-- ---- all lines
added_formed : (room : ℕ) (t q : List ℕ) → room ≤ 65536 → well_formed t ≡ true → well_formed q ≡ true → well_formed (added_to room t q) ≡ true
unfolding added_to
added_formed room t q h v w =
    picked (λ (l : List ℕ). well_formed l ≡ true) _ (λ _. v)
    (λ e. let k : length t + length q ≤ room = ltb-false _ _ e in joined_formed t q v w (omega (arith, length-append t q)))

length_secret : (s hash : List ℕ) → secret_of s ≡ Ok hash → length hash ≡ 16
unfolding secret_of hex_secret pick
length_secret s hash e = by (stands_at s 0 word_hash) e
  where
    by_hex : (a b : Bool) → pick a (Err error.BadHash) (pick b (Err error.BadHash) (Ok (cells 16 (unhex_at (drop 5 s))))) ≡ Ok hash → length hash ≡ 16
    by_hex true b e = cc
    by_hex false true e = cc
    by_hex false false e = let q : cells 16 (unhex_at (drop 5 s)) ≡ hash = cc in rw (← q) (length_cells 16 _)

    by_spelt : (r : Result (List ℕ) PasswordError) → hashed_of s ≡ r → spelt r ≡ Ok hash → length hash ≡ 16
    by_spelt (Ok h) f e = let q : h ≡ hash = cc in length_hashed s hash (f ∙ ap Ok q)
    by_spelt (Err why) f e = cc

    by : (b : Bool) → pick b (hex_secret s) (spelt (hashed_of s)) ≡ Ok hash → length hash ≡ 16
    by true e = by_hex _ _ e
    by false e = by_spelt (hashed_of s) refl e

length_with : (s : List ℕ) (n : ℕ) (x : Entry) → entry_with s n ≡ Ok x → length x.hash ≡ 16
unfolding entry_with
length_with s n x e = by (code_after (after 9 s)) (secret_of (before 9 (after 9 s))) refl e
  where
    by : (c : Option ℕ) (r : Result (List ℕ) LineError) → secret_of (before 9 (after 9 s)) ≡ r → entry_by c r n ≡ Ok x → length x.hash ≡ 16
    by None r f e = cc
    by (Some code) (Err why) f e = cc
    by (Some code) (Ok hash) f e = let q : entry code hash n ≡ x = cc in rw (← q) (length_secret _ hash f)

length_entry : (s : List ℕ) (x : Entry) → entry_of s ≡ Ok (Some x) → length x.hash ≡ 16
unfolding entry_of pick
length_entry s x e = by (eqb (length s) 0) (octet_is s 0 hash_mark) (not (has 9 s)) (eqb (upto 9 s) 0) (ltb 256 (upto 9 s)) e
  where
    some : (r : Result Entry BadLine) → entry_with s (upto 9 s) ≡ r → some_entry r ≡ Ok (Some x) → length x.hash ≡ 16
    some (Ok y) f e = let q : y ≡ x = cc in length_with s (upto 9 s) x (f ∙ ap Ok q)
    some (Err why) f e = cc

    by : (a b c d f : Bool)
        → pick a (Ok None) (pick b (Ok None) (pick c (Err (bad error.NoPassword 0 0)) (pick d (Err (bad error.NoName 0 0)) (pick f (Err (bad error.LongName 0 0)) (some_entry (entry_with s (upto 9 s))))))) ≡ Ok (Some x)
        → length x.hash ≡ 16
    by true b c d f e = cc
    by false true c d f e = cc
    by false false true d f e = cc
    by false false false true f e = cc
    by false false false false true e = cc
    by false false false false false e = some (entry_with s (upto 9 s)) refl e

line_formed : (room : ℕ) (t s : List ℕ) → room ≤ 65536 → well_formed t ≡ true → well_formed (added_line room t s).table ≡ true
unfolding added_line added_by record_in
line_formed room t s h w = by (entry_of s) refl
  where
    by : (r : Result (Option Entry) BadLine) → entry_of s ≡ r → well_formed (added_by r room t s).table ≡ true
    by (Err why) e = w
    by (Ok None) e = w
    by (Ok (Some x)) e =
        let q : well_formed (record_in x s) ≡ true = record_formed x.code x.hash _ (length_entry s x e) in
        let a : well_formed (added_to room t (record_in x s)) ≡ true = added_formed room t (record_in x s) h w q in
        arms (λ (o : AfterLine). well_formed o.table ≡ true) _ a a

from_formed : (room k : ℕ) (t : List ℕ) (ls : List (List ℕ)) → room ≤ 65536 → well_formed t ≡ true → well_formed (made_from room k t ls).last.table ≡ true
unfolding made_from
from_formed room k t [] h w = w
from_formed room k t (l ∷ ls) h w =
    let v : well_formed (added_line room t (trimmed l)).table ≡ true = line_formed room t (trimmed l) h w in
    arms (λ (x : All). well_formed x.last.table ≡ true) _ v (from_formed room (suc k) _ ls h v)

pub made_formed : MadeFormed
unfolding made_of
made_formed room text =
    picked (λ (x : All). well_formed x.last.table ≡ true) _ (λ _. empty_formed) (λ e. from_formed room 0 [] (lines_of text) (ltb-false _ _ e) empty_formed)
