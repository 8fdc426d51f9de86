-- Assignments of the command line (POSIX.1-2017 awk, "OPTIONS", -v; "OPERANDS", assignment).
use Rattle.std.specs.Prelude.{ℕ, ◌+◌, ◌==◌, ◌||◌, ◌&&◌, not, nat_le, Bool, true, false, if◌then◌else◌, List, [], ◌∷◌, codes, length, drop, take_while, Option, Some, None, Result, Ok, Err, is_some}
use Rattle.awk_text.specs.Bytes.{digit_zero, digit_nine, equals, upper_a, upper_z, underscore, lower_a, lower_z}
use Rattle.awk_text.specs.Escapes.{unescaped}
use Rattle.awk_tokens.specs.Words.{reserved_word_of}
use Rattle.awk_values.specs.declared.fault.Fault.{Fault}
use Rattle.awk_values.specs.declared.fault.Fault.TheVariants.{BadAssignment}
use Rattle.awk_values.specs.declared.value.Value.TheVariants.{StrNum}
use Rattle.sem_primitives.specs.Constants.{specials}
use Rattle.sem_primitives.specs.SharedState.{Inner}
use Rattle.sem_primitives.specs.Texts.{is_empty, same_text}
use Rattle.sem_primitives.specs.FieldMeaning.{set_special}
use Rattle.sem_primitives.specs.declared.constants.NameKind.{NameKind}
use Rattle.sem_primitives.specs.declared.constants.NameKind.TheVariants.{Scalar, ArrayOrFunction}
use Rattle.sem_primitives.specs.declared.constants.Special.{Special}
use Rattle.sem_primitives.specs.declared.constants.Special.TheVariants.{Argc, Convfmt, Filename, Fnr, Fs, Nf, Nr, Ofmt, Ofs, Ors, Rlength, Rs, Rstart, Subsep}

-- a letter or an underscore, then these and digits (POSIX.1-2017 XBD 3.235)
abbrev pub begins_name : ℕ → Bool
begins_name c = (nat_le upper_a c && nat_le c upper_z) || ((nat_le lower_a c && nat_le c lower_z) || (c == underscore))

abbrev pub continues_name : ℕ → Bool
continues_name c = begins_name c || (nat_le digit_zero c && nat_le c digit_nine)

abbrev pub is_name : List ℕ → Bool
is_name [] = false
is_name (c ∷ cs) = begins_name c && is_empty (drop (length (take_while continues_name cs)) cs)

-- an operand that is an assignment: a name, `=` and a text
abbrev pub behind_name : List ℕ → List ℕ → Option (List ℕ × List ℕ)
behind_name name [] = None
behind_name name (c ∷ cs) = if (c == equals) && is_name name then Some (name, cs) else None

abbrev pub assignment_of : List ℕ → Option (List ℕ × List ℕ)
assignment_of text = behind_name (take_while continues_name text) (drop (length (take_while continues_name text)) text)

abbrev pub special_name : Special → List ℕ
special_name Argc = codes "ARGC"
special_name Convfmt = codes "CONVFMT"
special_name Filename = codes "FILENAME"
special_name Fnr = codes "FNR"
special_name Fs = codes "FS"
special_name Nf = codes "NF"
special_name Nr = codes "NR"
special_name Ofmt = codes "OFMT"
special_name Ofs = codes "OFS"
special_name Ors = codes "ORS"
special_name Rlength = codes "RLENGTH"
special_name Rs = codes "RS"
special_name Rstart = codes "RSTART"
special_name Subsep = codes "SUBSEP"

abbrev pub named : List ℕ → List Special → Option Special
named name [] = None
named name (s ∷ rest) = if same_text name (special_name s) then Some s else named name rest

-- the number and the kind of a name of the script
abbrev pub declared : ℕ → List ℕ → List (List ℕ × NameKind) → Option (ℕ × NameKind)
declared n name [] = None
declared n name (d ∷ rest) = if same_text name d.0 then Some (n, d.1) else declared (n + 1) name rest

-- what is no name, a reserved word and the two arrays that awk sets take no assignment
abbrev pub takes_none : List ℕ → Bool
takes_none name = not (is_name name) || (is_some (reserved_word_of name) || (same_text name (codes "ARGV") || same_text name (codes "ENVIRON")))

-- an assignment is made here, or is pending: the script is to make it
abbrev pub assigned_global : Option (ℕ × NameKind) → List ℕ → Inner → Result (Inner × Bool) Fault
assigned_global None text inner = Ok (inner, false)
assigned_global (Some (n, Scalar)) text inner = Ok (record inner { pending = Some (n, StrNum text) }, true)
assigned_global (Some (n, ArrayOrFunction)) text inner = Err BadAssignment

abbrev pub made_here : Result Inner Fault → Result (Inner × Bool) Fault
made_here (Ok inner) = Ok (inner, false)
made_here (Err fault) = Err fault

abbrev pub assigned_by : Option Special → List ℕ → List ℕ → Inner → Result (Inner × Bool) Fault
assigned_by (Some s) name text inner = made_here (set_special s (StrNum text) inner)
assigned_by None name text inner = assigned_global (declared 0 name inner.names) text inner

-- escapes in the text are those of strings
abbrev pub assigned : List ℕ → List ℕ → Inner → Result (Inner × Bool) Fault
assigned name text inner = elim (takes_none name) [ true ↦ Err BadAssignment | false ↦ assigned_by (named name specials) name (unescaped text) inner ]
