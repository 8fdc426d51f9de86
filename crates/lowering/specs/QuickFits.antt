-- Which quick ways can be emitted: the names in them are numbers of globals, the parameters places of locals, and their code fits.
use Rattle.std.specs.Prelude.{ℕ, ◌<◌, Option, Some, None, ℤ, unsigned_abs}
use Rattle.sem_primitives.specs.declared.table.Primitive.TheVariants as row
use Rattle.mid_program.specs.declared.mid.Operation.TheVariants.{Host}
use Rattle.mid_program.specs.Mid.{Code, Do, Get, End, At}
use Rattle.lower_model.specs.Emission.{Layout}
use Rattle.lower_model.specs.Quick.{Sum, Tally, Remainder, Pair}
use Rattle.lower_expressions.specs.Fits.{ArrayFits, Fits}
use Rattle.lower_expressions.specs.Sources.{HolderFits, SourceFits}

abbrev pub SumFits : Sum → Type 0
SumFits sum = HolderFits sum.target × (SourceFits sum.left × SourceFits sum.right)

abbrev pub PairFits : Pair → Type 0
PairFits pair = SourceFits pair.left × SourceFits pair.right

-- a factor is not 0
abbrev pub FactorFits : Option ℤ → Type 0
FactorFits None = Unit {0}
FactorFits (Some factor) = 0 < unsigned_abs factor

abbrev pub RemainderFits : Remainder → Type 0
RemainderFits remainder = HolderFits remainder.target × (HolderFits remainder.multiple.name × FactorFits remainder.multiple.factor)

-- a counter's key in temporary 0, and what is added in the next one
abbrev pub TallyFits : Layout → Tally → ℕ → Type 0
TallyFits layout tally exit = Fits layout tally.key 0 0 exit × (Fits layout tally.added 1 0 exit × (ArrayFits tally.read × ArrayFits tally.written))

-- the texts of a chain, each in temporary 0
abbrev pub ChainFits : Layout → Code → (exit : ℕ) → Type 0
ChainFits layout (Do (Host row.Concat) (At (Get name) (At code End))) exit = Fits layout code 0 0 exit
ChainFits layout (Do (Host row.Concat) (At chain (At code End))) exit = ChainFits layout chain exit × Fits layout code 0 0 exit
ChainFits layout code exit = ⊥
