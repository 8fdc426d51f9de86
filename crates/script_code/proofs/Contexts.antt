-- What the code of a script may name is what the script's names are.
use Rattle.std.proofs.Common.{◌≡◌, ℕ, zero, suc, ◌+◌, ◌<◌, Bool, true, false, not, ◌||◌, List, [], ◌∷◌, length, refl, sym, ap, ◌∙◌, true≢false, lt-ltb, arith}
use Rattle.std.specs.Prelude.{if◌then◌else◌, map, is_some, codes, Option, Some, None}
use Rattle.sem_primitives.specs.declared.constants.Special.{Special}
use Rattle.sem_scripts.specs.Names.{Name, Function, Resolved, Scope, Variable, Global, Parameter, Reserved, same_name, next_place, place_in, function_in, or_past, names_length, functions_length, function_at, special_named, special_array, is_special_array, variable_by, variable_of, global_or_special, own_or_special, arrays_before, array_by, kind_at, variable_is_array}
use Rattle.mid_program.specs.Mid.{Kind, Boxed, ArrayKind, Routine, parameters_at}
use Rattle.mid_program.specs.Sorted.{Context, same_kind, has_kind, is_array_place, kinds_of, is_many, arrays_among, context_of}
use Rattle.mid_program.specs.Translation.{kind_of, declared_code, routine_code, most_parameters, program_with}
use Rattle.mid_program.proofs.Lenders.{none_lend_has_none}
use Rattle.script_code.specs.Fits.{scalar_at, is_scalar_variable}
use Rattle.script_code.proofs.Good.{is_known}
use Rattle.script_code.proofs.Places.{Agrees}

or_false : (b : Bool) → (b || false) ≡ true → b ≡ true
or_false true e = refl
or_false false e = e

-- Kinds.

kinds_again : (ns : List Name) → kinds_of (map declared_code ns) ≡ map kind_of ns
kinds_again [] = refl
kinds_again (n ∷ ns) = ap (λ ks. kind_of n ∷ ks) (kinds_again ns)

is_boxed : (b : Bool) → not b ≡ true → same_kind (if b then ArrayKind else Boxed) Boxed ≡ true
is_boxed true e = absurd (true≢false (sym e))
is_boxed false e = refl

is_an_array : (b : Bool) → b ≡ true → same_kind (if b then ArrayKind else Boxed) ArrayKind ≡ true
is_an_array true e = refl
is_an_array false e = absurd (true≢false (sym e))

scalar_kind : (ns : List Name) (i : ℕ) → scalar_at ns i ≡ true → has_kind (map kind_of ns) i Boxed ≡ true
scalar_kind [] i e = absurd (true≢false (sym e))
scalar_kind (n ∷ ns) zero e = is_boxed n.is_array e
scalar_kind (n ∷ ns) (suc i) e = scalar_kind ns i e

array_kind : (ns : List Name) (i : ℕ) → kind_at ns i ≡ true → has_kind (map kind_of ns) i ArrayKind ≡ true
array_kind [] i e = absurd (true≢false (sym e))
array_kind (n ∷ ns) zero e = is_an_array n.is_array e
array_kind (n ∷ ns) (suc i) e = array_kind ns i e

-- The numbers of arrays.

past_next : (n : ℕ) (o : Option ℕ) → or_past (suc n) (next_place o) ≡ suc (or_past n o)
past_next n (Some i) = refl
past_next n None = refl

here_among : (b : Bool) (n : ℕ) → b ≡ true → 0 < (if is_many (if b then ArrayKind else Boxed) then suc n else n)
here_among true n e = omega arith
here_among false n e = absurd (true≢false (sym e))

more_among : (b : Bool) (m n : ℕ) → m < n → (if b then suc m else m) < (if is_many (if b then ArrayKind else Boxed) then suc n else n)
more_among true m n l = omega (arith, l)
more_among false m n l = l

-- b: the name is the first of the list
array_number_by : (b : Bool) (n : Name) (ns : List Name) (x : List ℕ) → kind_at (n ∷ ns) (or_past (suc (names_length ns)) (if b then Some 0 else next_place (place_in ns x))) ≡ true →
    (kind_at ns (or_past (names_length ns) (place_in ns x)) ≡ true → arrays_before ns x < arrays_among (map declared_code ns)) →
    (if b then 0 else (if n.is_array then suc (arrays_before ns x) else arrays_before ns x)) < arrays_among (map declared_code (n ∷ ns))
array_number_by true n ns x e h = here_among n.is_array (arrays_among (map declared_code ns)) e
array_number_by false n ns x e h =
    let k : kind_at (n ∷ ns) (suc (or_past (names_length ns) (place_in ns x))) ≡ true = ap (kind_at (n ∷ ns)) (sym (past_next (names_length ns) (place_in ns x))) ∙ e in
    more_among n.is_array (arrays_before ns x) (arrays_among (map declared_code ns)) (h k)

array_number : (ns : List Name) (x : List ℕ) → kind_at ns (or_past (names_length ns) (place_in ns x)) ≡ true → arrays_before ns x < arrays_among (map declared_code ns)
array_number [] x e = absurd (true≢false (sym e))
array_number (n ∷ ns) x e = array_number_by (same_name n.name x) n ns x e (array_number ns x)

-- The numbers of functions.

next_number : (past n : ℕ) (o : Option ℕ) → is_some (next_place o) ≡ true → (is_some o ≡ true → or_past past o < n) → or_past past (next_place o) < suc n
next_number past n (Some i) e h = let l = h refl in omega (arith, l)
next_number past n None e h = absurd (true≢false (sym e))

module _ (texts : List (List ℕ)) (script : Resolved) where
  abbrev calls : List Function → List (List Kind)
  calls fs = map (λ (r : Routine). r.parameters) (map (routine_code texts script) fs)

  function_number_by : (b : Bool) (past : ℕ) (g : Function) (fs : List Function) (f : List ℕ) → is_some (if b then Some 0 else next_place (function_in fs f)) ≡ true → (is_some (function_in fs f) ≡ true → or_past past (function_in fs f) < length (calls fs)) →
      or_past past (if b then Some 0 else next_place (function_in fs f)) < length (calls (g ∷ fs))
  function_number_by true past g fs f e h = omega arith
  function_number_by false past g fs f e h = let l = next_number past (length (calls fs)) (function_in fs f) e h in omega (arith, l)

  function_number_below : (past : ℕ) (fs : List Function) (f : List ℕ) → is_some (function_in fs f) ≡ true → or_past past (function_in fs f) < length (calls fs)
  function_number_below past [] f e = absurd (true≢false (sym e))
  function_number_below past (g ∷ fs) f e = function_number_by (same_name g.name f) past g fs f e (function_number_below past fs f)

  parameters_again : (fs : List Function) (f : ℕ) → parameters_at (calls fs) f ≡ map kind_of (function_at fs f).parameters
  parameters_again [] f = refl
  parameters_again (g ∷ fs) zero = refl
  parameters_again (g ∷ fs) (suc f) = parameters_again fs f

  module _ (parameters : List Name) where
    abbrev scope : Scope
    scope = record { script = script; parameters = parameters }

    abbrev context : Context
    context = context_of (program_with texts script) (map kind_of parameters)

    known : (v : Variable) → is_scalar_variable scope v ≡ true → is_known context v ≡ true
    known (Global i) e = rw (kinds_again script.globals) (scalar_kind script.globals i e)
    known (Parameter i) e = scalar_kind parameters i e
    known (Reserved s) e = refl

    -- b and d: the name is ARGV, or ENVIRON
    special_place : (b d : Bool) (x : List ℕ) → (kind_at script.globals (or_past (names_length script.globals) (place_in script.globals x)) || is_special_array (if b then Some 0 else (if d then Some 1 else None))) ≡ true →
        is_array_place context (own_or_special script.globals x (if b then Some 0 else (if d then Some 1 else None))) ≡ true
    special_place true d x e = lt-ltb 0 context.arrays (omega arith)
    special_place false true x e = lt-ltb 1 context.arrays (omega arith)
    special_place false false x e = let l = array_number script.globals x (or_false _ e) in lt-ltb (2 + arrays_before script.globals x) context.arrays (omega (arith, l))

    own_place : (s : Option Special) (x : List ℕ) → variable_is_array scope x (global_or_special script.globals x s) ≡ true → is_array_place context (own_or_special script.globals x (special_array x)) ≡ true
    own_place (Some s) x e = absurd (true≢false (sym e))
    own_place None x e = special_place (same_name (codes "ARGV") x) (same_name (codes "ENVIRON") x) x e

    array_place : (o : Option ℕ) (x : List ℕ) → variable_is_array scope x (variable_by scope x o) ≡ true → is_array_place context (array_by scope x o) ≡ true
    array_place (Some i) x e = array_kind parameters i e
    array_place None x e = own_place (special_named x) x e

    pub agreement : Agrees context texts scope
    agreement = record {
      text = refl;
      unlent = none_lend_has_none (most_parameters (map (routine_code texts script) script.functions));
      scalar = λ x e. known (variable_of scope x) e;
      array = λ x e. array_place (place_in parameters x) x e;
      call = λ f e. lt-ltb (or_past (functions_length script.functions) (function_in script.functions f)) (length (calls script.functions)) (function_number_below (functions_length script.functions) script.functions f e);
      parameters = parameters_again script.functions;
    }
