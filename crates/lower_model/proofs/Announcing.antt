-- Before a script runs: its names are announced to the host, each once, and what each name has is made.
use Rattle.std.proofs.Common.{◌≡◌, inl, inr, ℕ, suc, ◌+◌, ◌<◌, ◌≤◌, Bool, true, false, List, [], ◌∷◌, ◌++◌, length, Some, None, Option, refl, sym, ap, ap₂, ◌∙◌, append_assoc, append-nil, arith}
use Rattle.std.specs.Prelude.{get_or, map, not, is_some, if◌then◌else◌, ◌||◌}
use Rattle.std.proofs.lemmas.Bool.{and_parts, cases_eq}
use Rattle.std.proofs.lemmas.List.{length-append}
use Rattle.sem_primitives.specs.Assignments.{declared as told_at}
use Rattle.sem_primitives.specs.ConstantNumbers.{kind_number}
use Rattle.sem_primitives.specs.SharedState.{Shared, shared_after}
use Rattle.sem_primitives.specs.Sorts.{InAnswer}
use Rattle.sem_primitives.specs.Table.{arguments_of, answer_of, meaning}
use Rattle.sem_primitives.specs.Texts.{same_text}
use Rattle.sem_primitives.specs.declared.constants.NameKind.{NameKind}
use Rattle.sem_primitives.specs.declared.constants.NameKind.TheVariants.{Scalar, ArrayOrFunction}
use Rattle.sem_primitives.specs.declared.sorts.Argument.TheVariants as argument
use Rattle.sem_primitives.specs.declared.sorts.Constant.TheVariants as constant
use Rattle.sem_primitives.specs.declared.table.Primitive.TheVariants as row
use Rattle.awk_values.specs.declared.value.Value.{Value}
use Rattle.awk_values.specs.declared.value.Value.TheVariants.{Uninit}
use Rattle.wasm_types.specs.Syntax.{Instructions}
use Rattle.wasm_types.specs.declared.instr.Simple.TheVariants.{GlobalSet}
use Rattle.wasm_store.specs.declared.word.Word.TheVariants.{I32}
use Rattle.mid_program.specs.Mid.{Kind, Boxed, Unboxed, ArrayKind, Program, Declared, Routine}
use Rattle.mid_program.specs.MidMeaning.{global_name, routine_name}
use Rattle.sem_scripts.specs.Names.{same_name}
use Rattle.sem_scripts.specs.ScriptRun.{kind_of, announced, arrays_made}
use Rattle.sem_scripts.specs.ScriptState.{State, Gives, Execution, ◌>>◌, nothing, call}
use Rattle.mid_program.specs.Sorted.{kinds_of, is_many, is_named, all_differ, same_kind}
use Rattle.lower_model.specs.Cells.{Cell, Bits, Held, OwnedArray, is_owned}
use Rattle.lower_model.specs.Emission.{Layout}
use Rattle.lower_model.specs.Functions.{layout_of, texts_of}
use Rattle.lower_model.specs.ImportCalls.{Host, with_some, where_so, and_rest, row_in, acted, replied, primitive_acts}
use Rattle.lower_model.specs.Machine.{Label, Store, at}
use Rattle.lower_model.specs.Places.{Bases, place_of, memory_of, handle_global}
use Rattle.lower_model.specs.Small.{emit as instruction}
use Rattle.lower_model.specs.Statements.{declared, declared_kind, names_declared, routines_declared, names_made}
use Rattle.host_imports.specs.declared.import.Import.TheVariants.{OfPrimitive}
use Rattle.lower_model.proofs.HostLaws.{Few}
use Rattle.lower_model.proofs.Observer.{Observer}
use Rattle.lower_model.proofs.Runs.{Goes, goes_to, then_goes, stays}
use Rattle.lower_model.proofs.Regions.{upd, upd_same, upd_other, behind_at}
use Rattle.lower_model.proofs.Globals.{Globals, Hand, placed}
use Rattle.lower_model.proofs.Steps.{empty}
use Rattle.lower_model.proofs.State.{kind_here, arrays_before, name_hand}
use Rattle.lower_model.proofs.Conversions.{same_state}
use Rattle.lower_model.proofs.GlobalSteps.{storing, boxed_comes, global_set_ok}
use Rattle.lower_model.proofs.Calls.{called}
use Rattle.lower_model.proofs.Relation.{kind_told, globals_told, routines_told}
use Rattle.lower_model.proofs.Answers.{machine}
use Rattle.lower_model.proofs.Texts.{text_placed}

-- a name and its kind for the command line
abbrev pub Telling : Type 0
Telling = List ℕ × NameKind

abbrev pub names_in : List Telling → List (List ℕ)
names_in [] = []
names_in (t ∷ ts) = t.0 ∷ names_in ts

abbrev pub tell_work : List Telling → ℕ
tell_work [] = 0
tell_work (t ∷ ts) = 1 + tell_work ts

-- The code that tells names, and what a script does.

abbrev pub tells : Layout → ℕ → List Telling → Instructions → Instructions
tells y i [] k = k
tells y i (t ∷ ts) k = declared y t.1 i (tells y (suc i) ts k)

abbrev pub telling : List Telling → Execution (Unit {0})
telling [] = nothing
telling (t ∷ ts) = call row.Declare (t.0, (t.1, tt)) >> telling ts

kind_emitted : (y : Layout) (k : Kind) → declared_kind y k ≡ kind_told k
kind_emitted y Boxed = refl
kind_emitted y Unboxed = refl
kind_emitted y ArrayKind = refl

kind_meant : (k : Kind) → kind_of (is_many k) ≡ kind_told k
kind_meant Boxed = refl
kind_meant Unboxed = refl
kind_meant ArrayKind = refl

pub globals_emitted : (y : Layout) (ds : List Declared) (i : ℕ) (rest : Instructions) → names_declared y i (kinds_of ds) rest ≡ tells y i (globals_told ds []) rest
globals_emitted y [] i rest = refl
globals_emitted y (d ∷ ds) i rest = ap₂ (λ k r. declared y k i r) (kind_emitted y d.kind) (globals_emitted y ds (suc i) rest)

pub routines_emitted : (y : Layout) (rs : List Routine) (i : ℕ) (rest : Instructions) → routines_declared y i (length rs) rest ≡ tells y i (routines_told rs) rest
routines_emitted y [] i rest = refl
routines_emitted y (r ∷ rs) i rest = ap (declared y ArrayOrFunction i) (routines_emitted y rs (suc i) rest)

pub globals_meant : (ds : List Declared) → announced (map global_name ds) ≡ telling (globals_told ds [])
globals_meant [] = refl
globals_meant (d ∷ ds) = ap₂ (λ k (r : Execution (Unit {0})). call row.Declare (d.name, (k, tt)) >> r) (kind_meant d.kind) (globals_meant ds)

pub routines_meant : (rs : List Routine) → announced (map routine_name rs) ≡ telling (routines_told rs)
routines_meant [] = refl
routines_meant (r ∷ rs) = ap (λ (m : Execution (Unit {0})). call row.Declare (r.name, (ArrayOrFunction, tt)) >> m) (routines_meant rs)

-- Names that differ.

abbrev pub NoneIs : List (List ℕ) → List ℕ → Type 0
NoneIs [] x = Unit {0}
NoneIs (n ∷ ns) x = (same_name n x ≡ false) × NoneIs ns x

abbrev pub Differ : List (List ℕ) → Type 0
Differ [] = Unit {0}
Differ (n ∷ ns) = NoneIs ns n × Differ ns

neither : (a c : Bool) → not (a || c) ≡ true → (a ≡ false) × (not c ≡ true)
neither true c e = cc
neither false c e = (refl, e)

none_is : (ns : List (List ℕ)) (x : List ℕ) → not (is_named ns x) ≡ true → NoneIs ns x
none_is [] x e = tt
none_is (n ∷ ns) x e = let q = neither (same_name n x) (is_named ns x) e in (q.0, none_is ns x q.1)

pub they_differ : (ns : List (List ℕ)) → all_differ ns ≡ true → Differ ns
they_differ [] e = tt
they_differ (n ∷ ns) e = let q = and_parts (not (is_named ns n)) (all_differ ns) e in (none_is ns n q.0, they_differ ns q.1)

-- none of these was told yet
abbrev pub Untold : List (List ℕ) → List Telling → Type 0
Untold [] told = Unit {0}
Untold (x ∷ xs) told = (told_at 0 x told ≡ None) × Untold xs told

pub none_told : (xs : List (List ℕ)) → Untold xs []
none_told [] = tt
none_told (x ∷ xs) = (refl, none_told xs)

past_one : (t : Bool) (a : ℕ × NameKind) (r s : Option (ℕ × NameKind)) → (r ≡ None → s ≡ None) → (if t then Some a else r) ≡ None → (if t then Some a else s) ≡ None
past_one true a r s h e = e
past_one false a r s h e = h e

still_untold : (m : ℕ) (x : List ℕ) (told : List Telling) (t : Telling) → same_text x t.0 ≡ false → told_at m x told ≡ None → told_at m x (told ++ (t ∷ [])) ≡ None
still_untold m x [] t e h = ap (λ q. if q then Some (m, t.1) else None) e
still_untold m x (d ∷ told) t e h = past_one (same_text x d.0) (m, d.1) (told_at (m + 1) x told) (told_at (m + 1) x (told ++ (t ∷ []))) (λ q. still_untold (m + 1) x told t e q) h

untold_after : (xs : List (List ℕ)) (told : List Telling) (t : Telling) → NoneIs xs t.0 → Untold xs told → Untold xs (told ++ (t ∷ []))
untold_after [] told t d u = tt
untold_after (x ∷ xs) told t d u = (still_untold 0 x told t d.0 u.0, untold_after xs told t d.1 u.1)

kind_read : (memory : List ℕ) (k : NameKind) → row_in memory (argument.Constant constant.NameKind ∷ []) (Bits (I32 (kind_number k)) ∷ []) ≡ Some (k, tt)
kind_read memory Scalar = refl
kind_read memory ArrayOrFunction = refl

abbrev pub host_with : Shared → Host
host_with sh = record { shared = sh; arguments = []; fault = None }

module _ (p : Program) (deepest : Observer) (b : Bases) (K : List Label) (L gs : List Cell) where
  -- one name is told
  tell_ok : (i : ℕ) (t : Telling) (sh : Shared) (k : Instructions) → get_or (texts_of p) i [] ≡ t.0 → told_at 0 t.0 sh.inner.names ≡ None →
      Goes (machine p deepest [] []) 1 (at [] [] K L [] (declared (layout_of p b) t.1 i k) (storing gs (host_with sh))) (at [] [] K L [] k (storing gs (host_with (shared_after sh (meaning row.Declare (t.0, (t.1, tt)) sh)))))
  tell_ok i t sh k e u =
      let ts = texts_of p in
      let memory = memory_of ts in
      let place = Bits (I32 (place_of ts i)) in
      let size = Bits (I32 (length (get_or ts i []))) in
      let kind = Bits (I32 (kind_number t.1)) in
      let d = primitive_acts {A = InAnswer (answer_of row.Declare)} [] false (meaning row.Declare (t.0, (t.1, tt)) sh) in
      let read : row_in memory (arguments_of row.Declare) (place ∷ (size ∷ (kind ∷ []))) ≡ Some (t.0, (t.1, tt)) =
      ap (λ o. with_some (and_rest o (kind ∷ [])) (λ x. with_some (row_in memory (argument.Constant constant.NameKind ∷ []) x.1) (λ rest. Some (x.0, rest)))) (text_placed ts i ∙ ap Some e)
      ∙ ap (λ o. with_some o (λ rest. Some (t.0, rest))) (kind_read memory t.1) in
      called (OfPrimitive row.Declare) (place ∷ (size ∷ (kind ∷ []))) [] (storing gs (host_with sh)) None (host_with (shared_after sh (meaning row.Declare (t.0, (t.1, tt)) sh))) refl refl
      (ap (acted (OfPrimitive row.Declare) (host_with sh)) read
      ∙ ap (λ q. with_some (where_so q (Some d)) (λ a. Some (replied (answer_of row.Declare) (host_with sh) a a.does.answer))) (ap (λ o. not (is_some o)) u))

  -- so many names were told
  pub record Told (ts : List Telling) (i : ℕ) (k : Instructions) (σ : State) : Type 0 where
    pub last : Shared
    pub goes : Goes (machine p deepest [] []) (tell_work ts) (at [] [] K L [] (tells (layout_of p b) i ts k) (storing gs (host_with σ.shared))) (at [] [] K L [] k (storing gs (host_with last)))
    pub means : telling ts σ ≡ Gives tt (record σ { shared = last })
    pub names : last.inner.names ≡ σ.shared.inner.names ++ ts
    pub pending : last.inner.pending ≡ σ.shared.inner.pending
    pub arrays : last.inner.arrays ≡ σ.shared.inner.arrays
    pub fields : Few σ.shared.inner → Few last.inner

  pub tells_ok : (ts : List Telling) (i : ℕ) (front rest : List (List ℕ)) (k : Instructions) (σ : State) → texts_of p ≡ front ++ (names_in ts ++ rest) → length front ≡ i → Differ (names_in ts) → Untold (names_in ts) σ.shared.inner.names → Told ts i k σ
  tells_ok [] i front rest k σ e n d u = record { last = σ.shared; goes = stays; means = refl; names = sym (append-nil σ.shared.inner.names); pending = refl; arrays = refl; fields = λ h. h }
  tells_ok (t ∷ ts) i front rest k σ e n d u =
      let sh = shared_after σ.shared (meaning row.Declare (t.0, (t.1, tt)) σ.shared) in
      let here : i ≡ i + 0 = omega arith in
      let found : get_or (texts_of p) i [] ≡ t.0 = ap₂ (λ xs m. get_or xs m []) e here ∙ behind_at front (t.0 ∷ (names_in ts ++ rest)) i 0 [] n in
      let more = length-append front (t.0 ∷ []) in
      let r = tells_ok ts (suc i) (front ++ (t.0 ∷ [])) rest k (record σ { shared = sh }) (e ∙ sym (append_assoc front (t.0 ∷ []) (names_in ts ++ rest))) (omega (arith, n, more)) d.1 (untold_after (names_in ts) σ.shared.inner.names t d.0 u.1) in
      record {
        last = r.last;
        goes = then_goes (tell_ok i t σ.shared (tells (layout_of p b) (suc i) ts k) found u.0) r.goes;
        means = r.means;
        names = r.names ∙ append_assoc σ.shared.inner.names (t ∷ []) ts;
        pending = r.pending;
        arrays = r.arrays;
        fields = r.fields;
      }

-- What names have.

abbrev pub making : List Kind → Execution (Unit {0})
making [] = nothing
making (k ∷ ks) = (if is_many k then (call row.NewArray tt >> nothing) else nothing) >> making ks

pub making_meant : (ds : List Declared) → arrays_made (map global_name ds) ≡ making (kinds_of ds)
making_meant [] = refl
making_meant (d ∷ ds) = ap (λ (m : Execution (Unit {0})). (if is_many d.kind then (call row.NewArray tt >> nothing) else nothing) >> m) (making_meant ds)

abbrev pub make_work : List Kind → ℕ
make_work [] = 0
make_work (k ∷ ks) = 2 + make_work ks

module _ (p : Program) (deepest : Observer) (b : Bases) (K : List Label) (L : List Cell) where
  abbrev pub kinds : List Kind
  kinds = kinds_of p.globals

  -- what a name has at first
  abbrev pub first_hand : ℕ → Cell
  first_hand x = name_hand (kind_here kinds x) (suc (suc (arrays_before kinds x))) Uninit

  abbrev pub store_of : Globals → Shared → Store
  store_of g sh = storing (placed p.ranges (length kinds) g) (host_with sh)

  pub record Made (ks : List Kind) (i : ℕ) (k : Instructions) (g : Globals) (σ : State) : Type 0 where
    pub hands : ℕ → Cell
    pub last : Shared
    pub steps : ℕ
    pub few : steps ≤ make_work ks
    pub goes : Goes (machine p deepest [] []) steps (at [] [] K L [] (names_made (layout_of p b) i ks k) (store_of g σ.shared)) (at [] [] K L [] k (store_of (record g { hand = hands }) last))
    pub means : making ks σ ≡ Gives tt (record σ { shared = last })
    pub each : (x : ℕ) → x < length kinds → hands x ≡ first_hand x
    pub names : last.inner.names ≡ σ.shared.inner.names
    pub pending : last.inner.pending ≡ σ.shared.inner.pending
    pub fields : Few σ.shared.inner → Few last.inner

  -- names from i on are still to be made, and a arrays were
  pub record Halfway (ks : List Kind) (i a : ℕ) (g : Globals) (sh : Shared) : Type 0 where
    pub alike : (x : ℕ) → kind_here kinds (i + x) ≡ kind_here ks x
    pub counted : (x : ℕ) → arrays_before kinds (i + x) ≡ a + arrays_before ks x
    pub size : i + length ks ≡ length kinds
    pub arrays : length sh.inner.arrays ≡ suc (suc a)
    pub made : (x : ℕ) → x < i → g.hand x ≡ first_hand x
    pub todo : (x : ℕ) → i ≤ x → g.hand x ≡ empty

  kind_first : (k : Kind) (ks : List Kind) (i a : ℕ) (g : Globals) (sh : Shared) → Halfway (k ∷ ks) i a g sh → first_hand i ≡ name_hand k (suc (suc a)) Uninit
  kind_first k ks i a g sh h =
      let z : i ≡ i + 0 = omega arith in
      let q : a + 0 ≡ a = omega arith in
      ap₂ (λ j m. name_hand j (suc (suc m)) Uninit) (ap (kind_here kinds) z ∙ h.alike 0) (ap (arrays_before kinds) z ∙ (h.counted 0 ∙ q))

  -- one name more is made
  onward : (k : Kind) (ks : List Kind) (i a a1 : ℕ) (g : Globals) (c : Cell) (sh sh1 : Shared) → Halfway (k ∷ ks) i a g sh → ((x : ℕ) → arrays_before (k ∷ ks) (suc x) + a ≡ a1 + arrays_before ks x) → length sh1.inner.arrays ≡ suc (suc a1) → first_hand i ≡ c → Halfway ks (suc i) a1 (record g { hand = upd g.hand i c }) sh1
  onward k ks i a a1 g c sh sh1 h more e f = record {
    alike = λ x. let z : suc i + x ≡ i + suc x = omega arith in ap (kind_here kinds) z ∙ h.alike (suc x);
    counted = λ x. let z : suc i + x ≡ i + suc x = omega arith in let m = more x in let q = h.counted (suc x) in ap (arrays_before kinds) z ∙ omega (arith, m, q);
    size = let q = h.size in omega (arith, q);
    arrays = e;
    made = λ x lt. elim (cases_eq x i) [
      | inl q ↦ ap (upd g.hand i c) q ∙ (upd_same g.hand i c ∙ (sym f ∙ ap first_hand (sym q)))
      | inr ne ↦ upd_other g.hand i x c ne ∙ h.made x (omega (arith, lt, ne))
    ];
    todo = λ x le. upd_other g.hand i x c (λ q. omega (arith, q, le)) ∙ h.todo x (omega (arith, le));
  }

  within_names : (k : Kind) (ks : List Kind) (i a : ℕ) (g : Globals) (sh : Shared) → Halfway (k ∷ ks) i a g sh → i < length kinds
  within_names k ks i a g sh h = let q = h.size in omega (arith, q)

  no_number : (k : Kind) (ks : List Kind) (i a : ℕ) (g : Globals) (sh : Shared) → Halfway (k ∷ ks) i a g sh → same_kind k Unboxed ≡ false → same_kind (kind_here kinds i) Unboxed ≡ false
  no_number k ks i a g sh h e =
      let z : i ≡ i + 0 = omega arith in
      ap (λ j. same_kind j Unboxed) (ap (kind_here kinds) z ∙ h.alike 0) ∙ e

  pub names_ok : (ks : List Kind) (i a : ℕ) (k : Instructions) (g : Globals) (σ : State) → Halfway ks i a g σ.shared → Made ks i k g σ
  names_ok [] i a k g σ h = record { hands = g.hand; last = σ.shared; steps = 0; few = omega arith; goes = stays; means = refl; each = λ x lt. h.made x (let q = h.size in omega (arith, q, lt)); names = refl; pending = refl; fields = λ x. x }
  names_ok (Unboxed ∷ ks) i a k g σ h =
      let r = names_ok ks (suc i) a k g σ (unboxed_on g h) in
      record { hands = r.hands; last = r.last; steps = r.steps; few = (let q = r.few in omega (arith, q)); goes = r.goes; means = r.means; each = r.each; names = r.names; pending = r.pending; fields = r.fields }
    where
      unboxed_on : (g : Globals) → Halfway (Unboxed ∷ ks) i a g σ.shared → Halfway ks (suc i) a g σ.shared
      unboxed_on g h = record {
        alike = λ x. let z : suc i + x ≡ i + suc x = omega arith in ap (kind_here kinds) z ∙ h.alike (suc x);
        counted = λ x. let z : suc i + x ≡ i + suc x = omega arith in ap (arrays_before kinds) z ∙ h.counted (suc x);
        size = let q = h.size in omega (arith, q);
        arrays = h.arrays;
        made = λ x lt. elim (cases_eq x i) [
          | inl q ↦ h.todo x (omega (arith, q)) ∙ (sym (kind_first Unboxed ks i a g σ.shared h) ∙ ap first_hand (sym q))
          | inr ne ↦ h.made x (omega (arith, lt, ne))
        ];
        todo = λ x le. h.todo x (omega (arith, le));
      }
  names_ok (Boxed ∷ ks) i a k g σ h =
      let sh1 = shared_after σ.shared (meaning row.Uninit tt σ.shared) in
      let same : sh1 ≡ σ.shared = ap (λ (τ : State). τ.shared) (same_state {A = Value} σ Uninit) in
      let nn = length kinds in
      let r = names_ok ks (suc i) a k (record g { hand = upd g.hand i (Held Uninit) }) σ (onward Boxed ks i a a g (Held Uninit) σ.shared σ.shared h (λ x. omega arith) h.arrays (kind_first Boxed ks i a g σ.shared h)) in
      record {
        hands = r.hands;
        last = r.last;
        steps = 2 + r.steps;
        few = (let q = r.few in omega (arith, q));
        goes = then_goes
            (then_goes (goes_to (called (OfPrimitive row.Uninit) [] [] (store_of g σ.shared) (Some (Held Uninit)) (host_with sh1) refl refl refl) (ap (λ z. at [] (Held Uninit ∷ []) K L [] (instruction (GlobalSet (handle_global p.ranges i)) (names_made (layout_of p b) (suc i) ks k)) (store_of g z)) same))
            (global_set_ok p.ranges nn g (Hand i) (Held Uninit) (within_names Boxed ks i a g σ.shared h) (ap is_owned (h.todo i (omega arith)))
            (boxed_comes p.ranges p.globals None i (g.hand i) (Held Uninit) (no_number Boxed ks i a g σ.shared h refl)))) r.goes;
        means = r.means;
        each = r.each;
        names = r.names;
        pending = r.pending;
        fields = r.fields;
      }
  names_ok (ArrayKind ∷ ks) i a k g σ h =
      let sh1 = shared_after σ.shared (meaning row.NewArray tt σ.shared) in
      let m = length σ.shared.inner.arrays in
      let nn = length kinds in
      let more = length-append σ.shared.inner.arrays ([] ∷ []) in
      let counted = h.arrays in
      let r = names_ok ks (suc i) (suc a) k (record g { hand = upd g.hand i (OwnedArray m) }) (record σ { shared = sh1 })
      (onward ArrayKind ks i a (suc a) g (OwnedArray m) σ.shared sh1 h (λ x. omega arith) (omega (arith, more, counted)) (kind_first ArrayKind ks i a g σ.shared h ∙ ap OwnedArray (sym counted))) in
      record {
        hands = r.hands;
        last = r.last;
        steps = 2 + r.steps;
        few = (let q = r.few in omega (arith, q));
        goes = then_goes
            (then_goes (called (OfPrimitive row.NewArray) [] [] (store_of g σ.shared) (Some (OwnedArray m)) (host_with sh1) refl refl refl)
            (global_set_ok p.ranges nn g (Hand i) (OwnedArray m) (within_names ArrayKind ks i a g σ.shared h) (ap is_owned (h.todo i (omega arith)))
            (boxed_comes p.ranges p.globals None i (g.hand i) (OwnedArray m) (no_number ArrayKind ks i a g σ.shared h refl)))) r.goes;
        means = r.means;
        each = r.each;
        names = r.names;
        pending = r.pending;
        fields = r.fields;
      }
