-- An assignment leaves the main input as it is.
use Rattle.std.proofs.Common.{◌≡◌, ℕ, Bool, true, false, List, Option, Some, None, Result, Ok, Err, refl, subst}
use Rattle.std.specs.Prelude.{ℤ}
use Rattle.awk_text.specs.Escapes.{unescaped}
use Rattle.awk_values.specs.Values.{number_of_value}
use Rattle.awk_values.specs.declared.fault.Fault.{Fault}
use Rattle.awk_values.specs.declared.fault.Fault.TheVariants.{BadAssignment}
use Rattle.awk_values.specs.declared.value.Value.{Value}
use Rattle.awk_values.specs.declared.value.Value.TheVariants.{StrNum}
use Rattle.sem_primitives.specs.Constants.{specials}
use Rattle.sem_primitives.specs.SharedState.{Inner, ◌>>=◌}
use Rattle.sem_primitives.specs.Texts.{limited}
use Rattle.sem_primitives.specs.FieldMeaning.{field_number, joined, resized, set_special, special_text, with_count}
use Rattle.sem_primitives.specs.Assignments.{assigned, assigned_by, assigned_global, declared, made_here, named, takes_none}
use Rattle.sem_primitives.specs.declared.constants.NameKind.{NameKind}
use Rattle.sem_primitives.specs.declared.constants.NameKind.TheVariants.{Scalar, ArrayOrFunction}
use Rattle.sem_primitives.specs.declared.constants.Special.{Special}
use Rattle.sem_primitives.specs.declared.constants.Special.TheVariants.{Argc, Convfmt, Filename, Fnr, Fs, Nf, Nr, Ofmt, Ofs, Ors, Rlength, Rs, Rstart, Subsep}

abbrev Keeps : Inner → Result Inner Fault → Type 0
Keeps inner (Ok after) = after.main ≡ inner.main
Keeps inner (Err fault) = Unit {0}

abbrev KeepsMain : Inner → Result (Inner × Bool) Fault → Type 0
KeepsMain inner (Ok x) = x.0.main ≡ inner.main
KeepsMain inner (Err fault) = Unit {0}

fields_keep : (inner : Inner) (values : List Value) (r : Result (List ℕ) Fault) →
    Keeps inner (r >>= λ text. Ok (record inner { whole = StrNum text; fields = values }))
fields_keep inner values (Ok text) = refl
fields_keep inner values (Err fault) = tt

count_keeps : (inner : Inner) (n : ℕ) → Keeps inner (with_count n inner)
count_keeps inner n = fields_keep inner (resized n inner.fields) (limited (joined (special_text Ofs inner) (resized n inner.fields)))

number_keeps : (inner : Inner) (r : Result ℕ Fault) → Keeps inner (r >>= λ n. with_count n inner)
number_keeps inner (Ok n) = count_keeps inner n
number_keeps inner (Err fault) = tt

value_keeps : (inner : Inner) (r : Result ℤ Fault) → Keeps inner (r >>= λ z. field_number z >>= λ n. with_count n inner)
value_keeps inner (Ok z) = number_keeps inner (field_number z)
value_keeps inner (Err fault) = tt

special_keeps : (s : Special) (v : Value) (inner : Inner) → Keeps inner (set_special s v inner)
special_keeps Nf v inner = value_keeps inner (number_of_value v)
special_keeps Argc v inner = refl
special_keeps Convfmt v inner = refl
special_keeps Filename v inner = refl
special_keeps Fnr v inner = refl
special_keeps Fs v inner = refl
special_keeps Nr v inner = refl
special_keeps Ofmt v inner = refl
special_keeps Ofs v inner = refl
special_keeps Ors v inner = refl
special_keeps Rlength v inner = refl
special_keeps Rs v inner = refl
special_keeps Rstart v inner = refl
special_keeps Subsep v inner = refl

made_keeps : (inner : Inner) (r : Result Inner Fault) → Keeps inner r → KeepsMain inner (made_here r)
made_keeps inner (Ok after) k = k
made_keeps inner (Err fault) k = tt

global_keeps : (o : Option (ℕ × NameKind)) (text : List ℕ) (inner : Inner) → KeepsMain inner (assigned_global o text inner)
global_keeps None text inner = refl
global_keeps (Some (n, Scalar)) text inner = refl
global_keeps (Some (n, ArrayOrFunction)) text inner = tt

by_keeps : (o : Option Special) (name text : List ℕ) (inner : Inner) → KeepsMain inner (assigned_by o name text inner)
by_keeps (Some s) name text inner = made_keeps inner (set_special s (StrNum text) inner) (special_keeps s (StrNum text) inner)
by_keeps None name text inner = global_keeps (declared 0 name inner.names) text inner

if_keeps : (b : Bool) (name text : List ℕ) (inner : Inner) →
    KeepsMain inner (elim b [ true ↦ Err BadAssignment | false ↦ assigned_by (named name specials) name (unescaped text) inner ])
if_keeps true name text inner = tt
if_keeps false name text inner = by_keeps (named name specials) name (unescaped text) inner

pub assigned_keeps : (name text : List ℕ) (inner after : Inner) (pending : Bool) → assigned name text inner ≡ Ok (after, pending) → after.main ≡ inner.main
assigned_keeps name text inner after pending e = subst (KeepsMain inner) e (if_keeps (takes_none name) name text inner)
