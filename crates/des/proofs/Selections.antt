-- The tables name bits of their words.
use Rattle.std.proofs.Common.{refl, arith}
use Rattle.des.specs.Tables.{ip_table, fp_table, e_table, p_table, pc1_table, pc2_table}
use Rattle.des.specs.Inner.{names, Table}

pub initial : Table 64 64 ip_table
unfolding names ip_table
initial = record { rows = refl; short = omega arith; most = omega arith; long = refl; names = refl }

pub final : Table 64 64 fp_table
unfolding names fp_table
final = record { rows = refl; short = omega arith; most = omega arith; long = refl; names = refl }

pub selection : Table 48 32 e_table
unfolding names e_table
selection = record { rows = refl; short = omega arith; most = omega arith; long = refl; names = refl }

pub permutation : Table 32 32 p_table
unfolding names p_table
permutation = record { rows = refl; short = omega arith; most = omega arith; long = refl; names = refl }

pub choice_1 : Table 56 64 pc1_table
unfolding names pc1_table
choice_1 = record { rows = refl; short = omega arith; most = omega arith; long = refl; names = refl }

pub choice_2 : Table 48 56 pc2_table
unfolding names pc2_table
choice_2 = record { rows = refl; short = omega arith; most = omega arith; long = refl; names = refl }
