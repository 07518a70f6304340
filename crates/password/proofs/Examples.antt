-- The examples hold: by computing the definitions.
use mathlib.Core.Path.{refl}
use Rattle.octets.specs.Choice.{pick}
use Rattle.password.specs.Utf8.{size_by, within, lowest, highest, is_tail, size_with, size_of, formed_after, is_utf8}
use Rattle.password.specs.Utf16.{point_of_two, point_of_three, point_of_four, point_with, point_of, first_unit, second_unit, units_of, stride_of, units_after, utf16}
use Rattle.password.specs.Examples.{Examples}

pub examples : Examples
unfolding pick size_by within lowest highest is_tail size_with size_of formed_after is_utf8 point_of_two point_of_three point_of_four point_with point_of first_unit second_unit units_of stride_of units_after utf16
examples = record { greek = refl; beyond = refl; whole = refl; overlong = refl; surrogate = refl; outside = refl; short = refl; tail = refl }
