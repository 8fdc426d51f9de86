-- Names and parameters, one before others; and the first part of a script.
use Rattle.std.proofs.Common.{◌≡◌, ℕ, zero, suc, ◌+◌, ◌-◌, ◌<◌, Bool, true, false, if◌then◌else◌, List, ◌∷◌, drop, drop-cons, get_or, length, map, refl, sym, ap, ◌∙◌, arith}
use Rattle.wasm_types.specs.Syntax.{Instructions, Done}
use Rattle.wasm_types.specs.declared.instr.Simple.TheVariants.{Br}
use Rattle.mid_program.specs.Mid.{Kind, Boxed, Unboxed, ArrayKind, Program, Steps}
use Rattle.mid_program.specs.declared.program.Kind.{Kind as ParameterKind}
use Rattle.mid_program.specs.declared.program.Kind.TheVariants as one
use Rattle.sem_primitives.specs.declared.constants.NameKind.{NameKind}
use Rattle.sem_primitives.specs.declared.constants.NameKind.TheVariants.{ArrayOrFunction}
use Rattle.mid_program.specs.declared.program.Declared.{Declared as DeclaredName}
use Rattle.mid_program.specs.View.{view_declared, view_kind}
use Rattle.mid_program.specs.Sorted.{kinds_of}
use Rattle.lower_model.specs.Emission.{Layout}
use Rattle.lower_model.specs.Small.{emit}
use Rattle.lower_model.specs.Statements.{declared, declared_kind, first_part, names_declared, parameters_dropped, records_read, routines_declared, steps_emitted}
use Rattle.lowering.specs.Parts.{first_code, parameter_dropped, records_if}

records_choice : (y : Layout) (reads : Bool) (items : Steps) (k : Instructions) → records_if y reads items k ≡ (if reads then records_read y items zero k else k)
records_choice y true items k = refl
records_choice y false items k = refl

pub first_is : (y : Layout) (p : Program) → first_code y p Done ≡ first_part y p
first_is y p = ap (steps_emitted y p.begin zero zero zero zero) (records_choice y p.reads p.items (emit (Br 1) Done))

-- a name before others
pub names_step : (y : Layout) (ds : List DeclaredName) (i text : ℕ) (d : DeclaredName) (e : NameKind) (k : Instructions) → i < length ds → d ≡ get_or ds i d → e ≡ declared_kind y (view_kind d.kind) →
    declared y e text (names_declared y (text + 1) (kinds_of (map view_declared (drop (i + 1) ds))) k) ≡ names_declared y text (kinds_of (map view_declared (drop i ds))) k
names_step y ds i text d e k lt at h =
    let more : text + 1 ≡ suc text = omega arith in
    let next : i + 1 ≡ suc i = omega arith in
    (λ j. declared y (h j) text (names_declared y (more j) (kinds_of (map view_declared (drop (next j) ds))) k))
    ∙ ap (λ (x : DeclaredName). declared y (declared_kind y (view_kind x.kind)) text (names_declared y (suc text) (kinds_of (map view_declared (drop (suc i) ds))) k)) at
    ∙ sym (ap (λ (xs : List DeclaredName). names_declared y text (kinds_of (map view_declared xs)) k) (drop-cons ds i d lt))

-- a function before others
pub routines_step : (y : Layout) (text past : ℕ) (k : Instructions) → text < past →
    routines_declared y text (past - text) k ≡ declared y ArrayOrFunction text (routines_declared y (text + 1) (past - (text + 1)) k)
routines_step y text past k lt =
    let more : past - text ≡ suc (past - (text + 1)) = omega arith in
    let next : suc text ≡ text + 1 = omega arith in
    ap (λ (m : ℕ). routines_declared y text m k) more ∙ ap (λ (j : ℕ). declared y ArrayOrFunction text (routines_declared y j (past - (text + 1)) k)) next

-- a parameter before others

parameter_first : (y : Layout) (kind : Kind) (x : ℕ) (ks : List Kind) (k : Instructions) → parameter_dropped kind x (parameters_dropped y (suc x) ks k) ≡ parameters_dropped y x (kind ∷ ks) k
parameter_first y Boxed x ks k = refl
parameter_first y Unboxed x ks k = refl
parameter_first y ArrayKind x ks k = refl

pub parameters_step : (y : Layout) (ks : List ParameterKind) (i : ℕ) (k : Instructions) → i < length ks →
    parameter_dropped (view_kind (get_or ks i one.Boxed)) i (parameters_dropped y (i + 1) (map view_kind (drop (i + 1) ks)) k) ≡ parameters_dropped y i (map view_kind (drop i ks)) k
parameters_step y ks i k lt =
    let next : i + 1 ≡ suc i = omega arith in
    (λ j. parameter_dropped (view_kind (get_or ks i one.Boxed)) i (parameters_dropped y (next j) (map view_kind (drop (next j) ks)) k))
    ∙ parameter_first y (view_kind (get_or ks i one.Boxed)) i (map view_kind (drop (suc i) ks)) k
    ∙ sym (ap (λ (xs : List ParameterKind). parameters_dropped y i (map view_kind xs) k) (drop-cons ks i one.Boxed lt))
