-- The hash of a password.
use mathlib.Core.Path.{refl}
use Rattle.mschap.specs.Responses.{password_hash}
use Rattle.change.specs.Change.{password_octets}
use Rattle.change.specs.Promises.{HashOfOctets}

pub hash_of_octets : HashOfOctets
unfolding password_hash password_octets
hash_of_octets units = refl
