-- A challenge counted up once more is another.
use Rattle.std.proofs.Common.{◌≡◌, ℕ, ◌+◌, ◌%◌, List, length, get_or, sym, ap, ◌∙◌, arith, get_or-set_same}
use Rattle.login.specs.Counted.{counted_up, CountedDiffers}

last_of : (c : List ℕ) (k : ℕ) → length c ≡ 16 → get_or (counted_up c k) 15 0 ≡ (get_or c 15 0 + k) % 256
last_of c k e = get_or-set_same c 15 _ 0 (omega arith)

pub counted_differs : CountedDiffers
counted_differs c k e h =
    let m : (get_or c 15 0 + k) % 256 ≡ (get_or c 15 0 + (k + 1)) % 256 = sym (last_of c k e) ∙ ap (λ (l : List ℕ). get_or l 15 0) h ∙ last_of c (k + 1) e in
    omega arith
