-- Examples: RFC 3629, section 7; and what section 4 shuts out.
use Rattle.std.specs.Prelude.{◌≡◌, [], ◌∷◌, true, false}
use Rattle.password.specs.Utf8.{is_utf8}
use Rattle.password.specs.Utf16.{utf16}

pub record Examples : Type 0 where
  -- "A<NOT IDENTICAL TO><ALPHA>."
  pub greek : utf16 (65 ∷ 226 ∷ 137 ∷ 162 ∷ 206 ∷ 145 ∷ 46 ∷ []) ≡ 65 ∷ 8802 ∷ 913 ∷ 46 ∷ []
  -- U+233B4
  pub beyond : utf16 (240 ∷ 163 ∷ 142 ∷ 180 ∷ []) ≡ 55372 ∷ 57268 ∷ []
  pub whole : is_utf8 (65 ∷ 226 ∷ 137 ∷ 162 ∷ 240 ∷ 163 ∷ 142 ∷ 180 ∷ []) ≡ true
  -- "C0 80", "ED A1 8C", "F4 90 80 80", a character cut short, a tail alone
  pub overlong : is_utf8 (192 ∷ 128 ∷ []) ≡ false
  pub surrogate : is_utf8 (237 ∷ 161 ∷ 140 ∷ []) ≡ false
  pub outside : is_utf8 (244 ∷ 144 ∷ 128 ∷ 128 ∷ []) ≡ false
  pub short : is_utf8 (65 ∷ 226 ∷ 137 ∷ []) ≡ false
  pub tail : is_utf8 (128 ∷ []) ≡ false
