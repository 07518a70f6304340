-- RFC 2759, 8.3: the hash of a password of "0-to-256-unicode-char", given in UTF-8.
use Rattle.std.specs.Prelude.{List, not, ℕ, Result, Ok, Err, length, ltb}
use Rattle.octets.specs.Choice.{pick}
use Rattle.mschap.specs.Responses.{password_hash}
use Rattle.password.specs.Utf8.{is_utf8}
use Rattle.password.specs.Utf16.{utf16}
use Rattle.password.specs.declared.PasswordError.{PasswordError}
use Rattle.password.specs.declared.PasswordError.TheVariants.{NotUtf8, TooLong}

unfoldable pub hashed_of : List ℕ → Result (List ℕ) PasswordError
hashed_of text =
    pick (not (is_utf8 text)) (Err NotUtf8)
    (pick (ltb 256 (length (utf16 text))) (Err TooLong)
    (Ok (password_hash (utf16 text))))
