-- 01, number 12 and "Sizes": the most octets of a packet and of a name, and the most retries.
use Rattle.std.specs.Prelude.{ℕ}

abbrev pub max_packet : ℕ
max_packet = 1020

abbrev pub max_name : ℕ
max_name = 256

abbrev pub max_retries : ℕ
max_retries = 10
