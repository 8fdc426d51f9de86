-- What the type of separators stands for.
use Rattle.std.specs.Prelude.{◌≡◌, ℕ, List, Ok}
use Rattle.ere_match.specs.Autos.{IsAutoOf}
use Rattle.sem_primitives.specs.Fields.{Separator, Blanks, Nothing, Byte, Expression, separator_of}
use Rattle.sem_primitives.specs.Eres.{expression_of}
use Rattle.sem_primitives.specs.SharedState.{◌>>=◌}
use Rattle.host_format.specs.declared.sep.Plain.{Plain}
use Rattle.host_format.specs.declared.sep.Plain.TheVariants as plains
use Rattle.host_format.specs.declared.sep.Sep.{Sep}
use Rattle.host_format.specs.declared.sep.Sep.TheVariants as seps

abbrev pub IsSep : Sep → Separator → Type 0
IsSep seps.Blanks Blanks = Unit {0}
IsSep seps.EachByte Nothing = Unit {0}
IsSep (seps.Byte b) (Byte c) = b ≡ c
IsSep (seps.Ere auto) (Expression t) = IsAutoOf auto t
IsSep sep separator = ⊥

-- a text that means the expression that it is
abbrev pub IsLong : List ℕ → Type 0
IsLong text = separator_of text ≡ (expression_of text >>= λ t. Ok (Expression t))

-- the separator that a text means
abbrev pub Separates : List ℕ → Sep → Type 0
Separates text sep = (s : Separator) × (separator_of text ≡ Ok s) × IsSep sep s

abbrev pub IsAnySep : Sep → Type 0
IsAnySep sep = (s : Separator) × IsSep sep s

abbrev pub separator_by : Plain → Separator
separator_by plains.Blanks = Blanks
separator_by (plains.Byte b) = Byte b
