-- What a word says of each sort of constant, by names.
use Rattle.std.specs.Prelude.{ℕ, Bool, Option, slice_get}
use Rattle.awk_values.specs.declared.comparison.CompareOp.{CompareOp}
use Rattle.sem_primitives.specs.declared.constants.Destination.{Destination}
use Rattle.sem_primitives.specs.declared.constants.NameKind.{NameKind}
use Rattle.sem_primitives.specs.declared.constants.Special.{Special}
use Rattle.sem_primitives.specs.Constants.{specials, comparisons, flags, destinations, kinds}

abbrev pub special_at : ℕ → Option Special
special_at n = slice_get specials n

abbrev pub comparison_at : ℕ → Option CompareOp
comparison_at n = slice_get comparisons n

abbrev pub flag_at : ℕ → Option Bool
flag_at n = slice_get flags n

abbrev pub destination_at : ℕ → Option Destination
destination_at n = slice_get destinations n

abbrev pub kind_at : ℕ → Option NameKind
kind_at n = slice_get kinds n
