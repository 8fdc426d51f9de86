-- The beginning of `main`: a fault that the job brings ends it; else its names are announced and made, and it is where a script begins.
use Rattle.std.proofs.Common.{◌≡◌, ℕ, zero, suc, ◌+◌, ◌<◌, ◌≤◌, ◌^◌, true, List, [], ◌∷◌, ◌++◌, length, None, refl, sym, ap, ap₂, ◌∙◌, append-nil, subst, arith}
use Rattle.std.specs.Prelude.{get_or, replicate, map}
use Rattle.awk_values.specs.declared.value.Value.TheVariants.{Uninit}
use Rattle.sem_primitives.specs.SharedState.{Shared}
use Rattle.sem_primitives.specs.declared.constants.NameKind.{NameKind}
use Rattle.wasm_types.specs.Syntax.{Instructions}
use Rattle.wasm_store.specs.declared.word.Word.TheVariants.{I32, I64}
use Rattle.mid_program.specs.Mid.{Kind, Boxed, Unboxed, ArrayKind, Program, Declared, Routine}
use Rattle.mid_program.specs.MidMeaning.{global_name, routine_name}
use Rattle.sem_scripts.specs.Names.{names_length}
use Rattle.sem_scripts.specs.ScriptRun.{Setting, start, announced, arrays_made}
use Rattle.sem_scripts.specs.ScriptState.{State, Outcome, Gives, Stops, Execution, ◌>>=◌, ◌>>◌, go_on}
use Rattle.mid_program.specs.Sorted.{kinds_of, all_differ, announced_names}
use Rattle.lower_model.specs.Cells.{Cell, Bits, Gone}
use Rattle.lower_model.specs.Functions.{layout_of}
use Rattle.lower_model.specs.Machine.{Notes, Label, at}
use Rattle.lower_model.specs.Places.{Bases}
use Rattle.lower_model.specs.Runs.{first_globals, zero_ranges, empty_names}
use Rattle.lower_model.specs.Small.{least}
use Rattle.lower_model.specs.Statements.{declared, names_declared, routines_declared, names_made}
use Rattle.lower_model.proofs.Observer.{watched}
use Rattle.lower_model.proofs.Runs.{Goes, goes_to, goes_from, then_goes}
use Rattle.lower_model.proofs.Regions.{cells, pairs, pairs_same}
use Rattle.lower_model.proofs.Globals.{Globals, placed}
use Rattle.lower_model.proofs.GlobalSteps.{storing}
use Rattle.lower_model.proofs.Steps.{empty}
use Rattle.lower_model.proofs.State.{kind_here, arrays_before, name_hand, name_word, cells_of, host_of}
use Rattle.lower_model.proofs.Relation.{Calm, globals_told, routines_told}
use Rattle.lower_model.proofs.Answers.{machine, beside_state}
use Rattle.lower_model.proofs.Announcing.{Telling, names_in, tell_work, make_work, tells, telling, first_hand, globals_emitted, routines_emitted, globals_meant, routines_meant, making_meant, they_differ, none_told, Differ, tells_ok, names_ok}

-- globals as a module starts
abbrev pub first_cells : Globals
first_cells = record { way = Bits (I32 0); status = Bits (I64 0); text = Gone; range = λ i. Bits (I32 0); hand = λ i. empty; number = λ i. Bits (I64 least) }

ranges_zero : (m : ℕ) → zero_ranges m ≡ cells (λ i. Bits (I32 0)) m
ranges_zero zero = refl
ranges_zero (suc m) = ap (λ r. Bits (I32 0) ∷ r) (ranges_zero m)

names_empty : (ks : List Kind) → empty_names ks ≡ pairs (λ i. empty) (λ i. Bits (I64 least)) (length ks) ++ []
names_empty [] = refl
names_empty (k ∷ ks) = ap (λ r. empty ∷ (Bits (I64 least) ∷ r)) (names_empty ks)

pub first_placed : (p : Program) → first_globals p ≡ placed p.ranges (length (kinds_of p.globals)) first_cells
first_placed p = ap₂ (λ x y. Bits (I32 0) ∷ (Bits (I64 0) ∷ (Gone ∷ (x ++ y)))) (ranges_zero p.ranges) (names_empty (kinds_of p.globals))

-- the names that are told are those that the module has in memory

told_both : (ds : List Declared) (rs : List (List ℕ × NameKind)) → globals_told ds [] ++ rs ≡ globals_told ds rs
told_both [] rs = refl
told_both (d ∷ ds) rs = ap (λ r. globals_told (d ∷ []) [] ++ r) (told_both ds rs)

names_of_globals : (ds : List Declared) → names_in (globals_told ds []) ≡ map (λ (d : Declared). d.name) ds
names_of_globals [] = refl
names_of_globals (d ∷ ds) = ap (λ r. d.name ∷ r) (names_of_globals ds)

names_of_routines : (rs : List Routine) → names_in (routines_told rs) ≡ map (λ (r : Routine). r.name) rs
names_of_routines [] = refl
names_of_routines (r ∷ rs) = ap (λ x. r.name ∷ x) (names_of_routines rs)

names_of_both : (ts us : List (List ℕ × NameKind)) → names_in (ts ++ us) ≡ names_in ts ++ names_in us
names_of_both [] us = refl
names_of_both (t ∷ ts) us = ap (λ r. t.0 ∷ r) (names_of_both ts us)

telling_both : (ts us : List (List ℕ × NameKind)) (σ : State) → telling (ts ++ us) σ ≡ (telling ts >> telling us) σ
telling_both [] us σ = refl
telling_both (t ∷ ts) us σ = telling_both ts us _

word_unset : (k : Kind) → name_word k Uninit ≡ least
word_unset Boxed = refl
word_unset Unboxed = refl
word_unset ArrayKind = refl

unset_there : (m x : ℕ) → get_or (replicate m Uninit) x Uninit ≡ Uninit
unset_there zero x = refl
unset_there (suc m) zero = refl
unset_there (suc m) (suc x) = unset_there m x

told_length : (ds : List Declared) → length (globals_told ds []) ≡ length ds
told_length [] = refl
told_length (d ∷ ds) = ap suc (told_length ds)

unset_length : (m : ℕ) → length (replicate m Uninit) ≡ m
unset_length zero = refl
unset_length (suc m) = ap suc (unset_length m)

named_length : (ds : List Declared) → names_length (map global_name ds) ≡ length ds
named_length [] = refl
named_length (d ∷ ds) = ap suc (named_length ds)

on_both : {A B C : Type 0} → (r : Outcome A) (m : Execution B) (f : B → Execution C) → go_on r (λ a. m >>= f) ≡ go_on (go_on r (λ a. m)) f
on_both (Gives a σ) m f = refl
on_both (Stops why σ) m f = refl

module _ (p : Program) (notes : Notes) (s : Setting) (b : Bases) (turns : ℕ) (differ : all_differ (announced_names p) ≡ true) where
  -- a script's state as it begins
  abbrev pub begins : State
  begins = start s (names_length (map global_name p.globals)) turns

  abbrev pub globals_then : List Telling
  globals_then = globals_told p.globals [] ++ routines_told p.routines

  told_again : (ts us : List Telling) (i j : ℕ) (k : Instructions) → i + length ts ≡ j → tells (layout_of p b) i ts (tells (layout_of p b) j us k) ≡ tells (layout_of p b) i (ts ++ us) k
  told_again [] us i j k e = let q : j ≡ i = omega (arith, e) in ap (λ x. tells (layout_of p b) x us k) q
  told_again (t ∷ ts) us i j k e = ap (declared (layout_of p b) t.1 i) (told_again ts us (suc i) j k (omega (arith, e)))

  names_alike : announced_names p ≡ names_in globals_then
  names_alike = sym (names_of_both (globals_told p.globals []) (routines_told p.routines) ∙ ap₂ (λ x y. x ++ y) (names_of_globals p.globals) (names_of_routines p.routines))

  -- the code that announces and makes names, and what is after it
  abbrev pub naming : Instructions → Instructions
  naming k = names_declared (layout_of p b) (length p.texts) (kinds_of p.globals) (routines_declared (layout_of p b) (length p.texts + length p.globals) (length p.routines) (names_made (layout_of p b) zero (kinds_of p.globals) k))

  abbrev pub named_meant : Execution (Unit {0}) → Execution (Unit {0})
  named_meant rest = announced (map global_name p.globals) >>= λ u. announced (map routine_name p.routines) >>= λ v. arrays_made (map global_name p.globals) >>= λ w. rest

  naming_told : (k : Instructions) → naming k ≡ tells (layout_of p b) (length p.texts) globals_then (names_made (layout_of p b) zero (kinds_of p.globals) k)
  naming_told k =
      let y = layout_of p b in
      let n = told_length p.globals in
      globals_emitted y p.globals (length p.texts) _
      ∙ (ap (tells y (length p.texts) (globals_told p.globals [])) (routines_emitted y p.routines (length p.texts + length p.globals) (names_made y zero (kinds_of p.globals) k))
      ∙ told_again (globals_told p.globals []) (routines_told p.routines) (length p.texts) (length p.texts + length p.globals) (names_made y zero (kinds_of p.globals) k) (omega (arith, n)))

  -- every name is announced and has what it is to have
  pub record Named (K : List Label) (L : List Cell) (k : Instructions) : Type 0 where
    pub last : Shared
    pub steps : ℕ
    pub few : steps ≤ tell_work globals_then + make_work (kinds_of p.globals)
    pub goes : Goes (machine p (watched notes s) [] []) steps (at [] [] K L [] (naming k) (storing (placed p.ranges (length (kinds_of p.globals)) first_cells) (host_of begins None))) (at [] [] K L [] k (beside_state p (watched notes s) [] [] (record begins { shared = last })))
    pub means : (rest : Execution (Unit {0})) → named_meant rest begins ≡ rest (record begins { shared = last })
    pub calm : Calm p last

  made_store : (hands : ℕ → Cell) (last : Shared) → ((x : ℕ) → x < length (kinds_of p.globals) → hands x ≡ first_hand p (watched notes s) b [] [] x) →
      placed p.ranges (length (kinds_of p.globals)) (record first_cells { hand = hands }) ≡ placed p.ranges (length (kinds_of p.globals)) (cells_of (kinds_of p.globals) 0 (record begins { shared = last }))
  made_store hands last each =
      let ks = kinds_of p.globals in
      let m = names_length (map global_name p.globals) in
      let g = cells_of ks 0 (record begins { shared = last }) in
      ap (λ r. g.way ∷ (g.status ∷ (g.text ∷ (cells g.range p.ranges ++ (r ++ [])))))
      (pairs_same hands first_cells.number g.hand g.number (length ks)
      (λ x lt. each x lt ∙ ap (name_hand (kind_here ks x) (suc (suc (arrays_before ks x)))) (sym (unset_there m x)))
      (λ x lt. ap (λ z. Bits (I64 z)) (sym (ap (name_word (kind_here ks x)) (unset_there m x) ∙ word_unset (kind_here ks x)))))

  pub named_ok : (K : List Label) (L : List Cell) (k : Instructions) → Named K L k
  named_ok K L k =
      let y = layout_of p b in
      let ks = kinds_of p.globals in
      let gs = placed p.ranges (length ks) first_cells in
      let after = names_made y zero ks k in
      let told = tells_ok p (watched notes s) b K L gs globals_then (length p.texts) p.texts [] after begins (ap (λ r. p.texts ++ r) (names_alike ∙ sym (append-nil (names_in globals_then)))) refl
      (subst Differ names_alike (they_differ (announced_names p) differ)) (none_told (names_in globals_then)) in
      let σ1 : State = record begins { shared = told.last } in
      let made = names_ok p (watched notes s) b K L ks zero zero k first_cells σ1 (record {
        alike = λ x. let z : zero + x ≡ x = omega arith in ap (kind_here ks) z;
        counted = λ x. let z : zero + x ≡ x = omega arith in ap (arrays_before ks) z ∙ omega arith;
        size = omega arith;
        arrays = ap length told.arrays;
        made = λ x lt. absurd (omega (arith, lt));
        todo = λ x le. refl;
      }) in
      record {
        last = made.last;
        steps = tell_work globals_then + made.steps;
        few = let q = made.few in omega (arith, q);
        goes = goes_from (ap (λ c. at [] [] K L [] c (storing gs (host_of begins None))) (naming_told k))
            (then_goes told.goes (goes_to made.goes (ap (λ g. at [] [] K L [] k (storing g (host_of (record begins { shared = made.last }) None))) (made_store made.hands made.last made.each))));
        means = λ rest.
            on_both (announced (map global_name p.globals) begins) (announced (map routine_name p.routines)) (λ v. arrays_made (map global_name p.globals) >>= λ w. rest)
            ∙ (ap (λ r. go_on r (λ v. arrays_made (map global_name p.globals) >>= λ w. rest))
            (ap₂ (λ (m n : Execution (Unit {0})). (m >> n) begins) (globals_meant p.globals) (routines_meant p.routines) ∙ (sym (telling_both (globals_told p.globals []) (routines_told p.routines) begins) ∙ told.means))
            ∙ ap (λ r. go_on r (λ w. rest)) (ap (λ (m : Execution (Unit {0})). m σ1) (making_meant p.globals) ∙ made.means));
        calm = record { pending = made.pending ∙ told.pending; names = made.names ∙ (told.names ∙ told_both p.globals (routines_told p.routines)); few = made.fields (told.fields (let none : 0 ≤ 2 ^ 20 = omega arith in none)) };
      }

  -- as many values as names
  pub values_many : length begins.globals ≡ length p.globals
  values_many = unset_length (names_length (map global_name p.globals)) ∙ named_length p.globals
