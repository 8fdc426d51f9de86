-- Special variables by their numbers.
use Rattle.std.proofs.Common.{◌<◌, lit<}
use Rattle.sem_primitives.specs.ConstantNumbers.{special_number}
use Rattle.sem_primitives.specs.declared.constants.Special.{Special}
use Rattle.sem_primitives.specs.declared.constants.Special.TheVariants.{Argc, Convfmt, Filename, Fnr, Fs, Nf, Nr, Ofmt, Ofs, Ors, Rlength, Rs, Rstart, Subsep}

pub number_below : (s : Special) → special_number s < 14
number_below Argc = lit< tt
number_below Convfmt = lit< tt
number_below Filename = lit< tt
number_below Fnr = lit< tt
number_below Fs = lit< tt
number_below Nf = lit< tt
number_below Nr = lit< tt
number_below Ofmt = lit< tt
number_below Ofs = lit< tt
number_below Ors = lit< tt
number_below Rlength = lit< tt
number_below Rs = lit< tt
number_below Rstart = lit< tt
number_below Subsep = lit< tt
