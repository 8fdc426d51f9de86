-- Well-sorted code can be emitted where there are few places and labels.
use Rattle.std.proofs.Common.{◌≡◌, ℕ, suc, ◌+◌, ◌≤◌, Bool, true, false, List, [], ◌∷◌, Option, length, subst, arith, rules}
use Rattle.std.specs.Prelude.{◌&&◌, if◌then◌else◌, is_some, nat_lt, not}
use Rattle.std.proofs.lemmas.Bool.{and_parts, ltb-true}
use Rattle.sem_primitives.specs.declared.sorts.Sort.TheVariants as sort
use Rattle.mid_program.specs.declared.mid.Operation.{Operation}
use Rattle.mid_program.specs.declared.mid.Operation.TheVariants.{Inline}
use Rattle.mid_program.specs.MidMeaning.{three_values}
use Rattle.mid_program.specs.Mid as plain
use Rattle.sem_scripts.specs.Names.{ArrayName, Numbered, Given}
use Rattle.mid_program.specs.Mid.{Kind, Boxed, Unboxed, ArrayKind, Slot, Global, Parameter, Code, Do, Over, Compare, Call, Ask, AskLine, FileLine, Replace, Number, Text, Unset, Get, Set, Array, IsOpen, Choose, Seq, Let, Bound, Codes, End, At, Fixed, Fresh, Step, Eval, Block, If, Loop, Each, Break, Continue, Next, Exit, ExitWith, Return, Mark, Steps, NoStep, Then, a_value, arguments, form_of, source_of, parameters_at}
use Rattle.mid_program.specs.Sorted.{Context, all_sorted, are_missing, all_values, are_enough, fit_call, fit_row, fits, has_lender, is_array_place, is_chosen, is_done_here, is_dropped, is_kept, is_slot, is_tested, keeps_well, lender_at, scalar_kind, sorted, step_sorted, steps_sorted, stores_well, takes, test_sorted}
use Rattle.lower_model.proofs.Reading.{kind_below}
use Rattle.lower_model.specs.Emission.{Layout}
use Rattle.lower_model.specs.Places.{arrays_among, arrays_in, made_in, room, rooms, step_arrays, step_iterators, step_room, steps_arrays, steps_iterators, steps_room}
use Rattle.lower_model.specs.Quick.{addition_in, pair_in, step_jumps, sum_in}
use Rattle.lower_pieces.specs.Bounds.{most_labels, most_places}
use Rattle.lower_modules.specs.Labels.{choice_labels, chosen_labels, return_labels, labels_among, labels_in, more_if, one_if, step_labels, steps_labels}
use Rattle.lower_expressions.specs.Fits.{AllCode, AllFit, ArrayFits, Fits, IsGiven, SlotFits, Within}
use Rattle.lowering.specs.StepFits.{ReturnFits, StepFits, StepsFit, TestFits}

-- what sorted code names is there, and its numbers are within their fields
pub record Named (c : Context) (y : Layout) : Type 0 where
  pub texts : c.texts ≤ length y.texts
  pub globals : length c.globals ≤ most_places
  pub ranges : c.ranges ≤ most_places
  pub calls : c.calls ≡ y.calls
  pub functions : length c.calls ≤ most_places
  pub parameters : length c.parameters ≤ most_places

-- room for code, and two more temporaries and labels
pub record Room (e : Code) (t w d : ℕ) : Type 0 where
  pub places : suc (suc (t + room e)) ≤ most_places
  pub arrays : w + arrays_in e ≤ most_places
  pub labels : suc (suc (d + labels_in e)) ≤ most_labels

-- room for operands
pub record Rooms (es : Codes) (t w d : ℕ) : Type 0 where
  pub places : suc (suc (t + rooms es)) ≤ most_places
  pub arrays : w + arrays_among es ≤ most_places
  pub labels : suc (suc (d + labels_among es)) ≤ most_labels

-- the operands of a sum of sources stand one label deeper

one_deeper : (q : Bool) (d n : ℕ) → (if q then suc d else d) + n ≡ d + more_if q n
one_deeper true d n = omega arith
one_deeper false d n = omega arith

operands_places : (o : Operation) (es : Codes) → rooms es ≤ room (Do o es)
operands_places (Inline a) es = omega arith
operands_places o es = omega arith

operands_room : (o : Operation) (es : Codes) (t w d : ℕ) → Room (Do o es) t w d → Rooms es t w (if is_some (addition_in o es) then suc d else d)
operands_room o es t w d r = record {
  places = let le = operands_places o es in omega (arith, r.places, le);
  arrays = r.arrays;
  labels = let same = one_deeper (is_some (addition_in o es)) d (labels_among es) in omega (arith, r.labels, same);
}

within : (e : Code) (t w d : ℕ) → Room e t w d → Within t w d
within e t w d r = (omega (arith, r.places), (omega (arith, r.arrays), omega (arith, r.labels)))

-- Operands.

values_are_code : (fs : List plain.Form) (es : Codes) → all_values fs es ≡ true → AllCode es
values_are_code fs End h = tt
values_are_code fs (At e es) h = values_are_code fs es (and_parts _ _ h).1
values_are_code fs (Fixed n es) h = cc
values_are_code fs (Fresh es) h = cc

call_is_given : (lender : ℕ → Option ℕ) (fs : List plain.Form) (ks : List Kind) (es : Codes) → fit_call lender fs ks es ≡ true → IsGiven ks es
call_is_given lender fs [] End h = tt
call_is_given lender fs [] (At e es) h = cc
call_is_given lender fs [] (Fixed n es) h = cc
call_is_given lender fs [] (Fresh es) h = cc
call_is_given lender fs (Boxed ∷ ks) End h = cc
call_is_given lender fs (Boxed ∷ ks) (At e es) h = call_is_given (λ i. lender (suc i)) fs ks es (and_parts _ _ h).1
call_is_given lender fs (Boxed ∷ ks) (Fixed n es) h = cc
call_is_given lender fs (Boxed ∷ ks) (Fresh es) h = cc
call_is_given lender fs (Unboxed ∷ ks) End h = cc
call_is_given lender fs (Unboxed ∷ ks) (At e es) h = call_is_given (λ i. lender (suc i)) fs ks es (and_parts _ _ h).1
call_is_given lender fs (Unboxed ∷ ks) (Fixed n es) h = cc
call_is_given lender fs (Unboxed ∷ ks) (Fresh es) h = cc
call_is_given lender fs (ArrayKind ∷ ks) End h = cc
call_is_given lender fs (ArrayKind ∷ ks) (At e es) h = call_is_given (λ i. lender (suc i)) fs ks es (and_parts _ _ h).1
call_is_given lender fs (ArrayKind ∷ ks) (Fixed n es) h = cc
call_is_given lender fs (ArrayKind ∷ ks) (Fresh es) h = call_is_given (λ i. lender (suc i)) fs ks es h

made_within : (es : Codes) → made_in es ≤ arrays_among es
made_within End = omega arith
made_within (At e es) = let h = made_within es in omega (arith, h)
made_within (Fixed n es) = made_within es
made_within (Fresh es) = let h = made_within es in omega (arith, h)

module _ {c : Context} {y : Layout} (n : Named c y) where
  slot_fits : (x : Slot) → is_slot c x ≡ true → SlotFits x
  slot_fits (Global u i) h = let l = kind_below c.globals i (scalar_kind u) h in let m = n.globals in omega (arith, l, m)
  slot_fits (Parameter u i) h = let l = kind_below c.parameters i (scalar_kind u) h in let m = n.parameters in omega (arith, l, m)

  pub array_fits : (a : ArrayName) → is_array_place c a ≡ true → ArrayFits a
  array_fits (Numbered i) h = tt
  array_fits (Given i) h = let l = kind_below c.parameters i ArrayKind h in let m = n.parameters in omega (arith, l, m)

  mutual
    unfolding sorted all_sorted

    pub code_fits : (fs : List plain.Form) (e : Code) (t w d : ℕ) → sorted c fs e ≡ true → Room e t w d → Fits y e t w d
    code_fits fs (Do o es) t w d s r =
        let s1 = and_parts (is_done_here o) (fit_row fs (arguments o) es && all_sorted c fs es) s in
        let s2 = and_parts (fit_row fs (arguments o) es) (all_sorted c fs es) s1.1 in
        codes_fit fs es t w (if is_some (addition_in o es) then suc d else d) s2.1 (operands_room o es t w d r)
    code_fits fs (Over l es) t w d s r =
        let s1 = and_parts (are_enough l es) (all_values fs es && all_sorted c fs es) s in
        let s2 = and_parts (all_values fs es) (all_sorted c fs es) s1.1 in
        (values_are_code fs es s2.0, codes_fit fs es t w d s2.1 (record { places = omega (arith, r.places); arrays = r.arrays; labels = r.labels }))
    code_fits fs (Compare op a b) t w d s r =
        let x = sorted c fs a in
        let z = sorted c fs b in
        let s1 = and_parts (fits (form_of fs a) sort.Value) (fits (form_of fs b) sort.Value && (x && z)) s in
        let s2 = and_parts x z (and_parts (fits (form_of fs b) sort.Value) (x && z) s1.1).1 in (
          within (Compare op a b) t w d r,
          (
            code_fits fs a t w d s2.0 (record { places = omega (arith, r.places); arrays = omega (arith, r.arrays); labels = omega (arith, r.labels) }),
            code_fits fs b (suc t) w d s2.1 (record { places = omega (arith, r.places); arrays = omega (arith, r.arrays); labels = omega (arith, r.labels) }),
          ),
        )
    code_fits fs (Call f es) t w d s r =
        let lender = lender_at c.lenders in
        let s1 = and_parts (nat_lt f (length c.calls)) (fit_call lender fs (parameters_at c.calls f) es && all_sorted c fs es) s in
        let s2 = and_parts (fit_call lender fs (parameters_at c.calls f) es) (all_sorted c fs es) s1.1 in
        let few = ltb-true f (length c.calls) s1.0 in
        let all = n.functions in
        let made = made_within es in (
          subst (λ (cs : List (List Kind)). IsGiven (parameters_at cs f) es) n.calls (call_is_given lender fs (parameters_at c.calls f) es s2.0),
          (
            omega (arith, few, all),
            (
              omega (arith, made, r.arrays),
              codes_fit fs es t w d s2.1 (record { places = omega (arith, r.places); arrays = r.arrays; labels = r.labels }),
            ),
          ),
        )
    code_fits fs Ask t w d s r = within Ask t w d r
    code_fits fs (AskLine e) t w d s r =
        let x = stores_well fs e in
        let z = sorted c (a_value ∷ fs) e in
        let s1 = and_parts (not (has_lender c.lenders)) (x && z) s in
        let s2 = and_parts x z s1.1 in (
          within (AskLine e) t w d r,
          code_fits (a_value ∷ fs) e (suc (suc t)) w (suc d) s2.1 (record { places = omega (arith, r.places); arrays = omega (arith, r.arrays); labels = omega (arith, r.labels) }),
        )
    code_fits fs (FileLine f e) t w d s r =
        let x = sorted c fs f in
        let z = sorted c (a_value ∷ fs) e in
        let s1 = and_parts x (stores_well fs e && z) (and_parts (fits (form_of fs f) sort.Value) (x && (stores_well fs e && z)) s).1 in
        let s2 = and_parts (stores_well fs e) z s1.1 in (
          within (FileLine f e) t w d r,
          (
            code_fits fs f t w d s1.0 (record { places = omega (arith, r.places); arrays = omega (arith, r.arrays); labels = omega (arith, r.labels) }),
            code_fits (a_value ∷ fs) e (suc (suc t)) w (suc d) s2.1 (record { places = omega (arith, r.places); arrays = omega (arith, r.arrays); labels = omega (arith, r.labels) }),
          ),
        )
    code_fits fs (Replace all es e) t w d s r =
        let x = all_sorted c fs es in
        let z = sorted c (a_value ∷ fs) e in
        let s1 = and_parts (fit_row fs three_values es) (x && (stores_well fs e && z)) s in
        let s2 = and_parts x (stores_well fs e && z) s1.1 in
        let s3 = and_parts (stores_well fs e) z s2.1 in (
          within (Replace all es e) t w d r,
          (
            codes_fit fs es t w d s2.0 (record { places = omega (arith, r.places); arrays = omega (arith, r.arrays); labels = omega (arith, r.labels) }),
            code_fits (a_value ∷ fs) e (suc (suc t)) w (suc d) s3.1 (record { places = omega (arith, r.places); arrays = omega (arith, r.arrays); labels = omega (arith, r.labels) }),
          ),
        )
    code_fits fs (Number z) t w d s r = within (Number z) t w d r
    code_fits fs (Text i) t w d s r =
        let lt = ltb-true i c.texts s in
        let there = n.texts in
        (within (Text i) t w d r, omega (arith, lt, there))
    code_fits fs Unset t w d s r = within Unset t w d r
    code_fits fs (Get x) t w d s r = (within (Get x) t w d r, slot_fits x s)
    code_fits fs (Set x e) t w d s r =
        let s1 = and_parts (is_slot c x) (takes c x (source_of e) (form_of fs e) && sorted c fs e) s in
        let s2 = and_parts (takes c x (source_of e) (form_of fs e)) (sorted c fs e) s1.1 in
        (within (Set x e) t w d r, (slot_fits x s1.0, code_fits fs e t w d s2.1 (record { places = r.places; arrays = r.arrays; labels = r.labels })))
    code_fits fs (Array a) t w d s r = let here = within (Array a) t w d r in let there = array_fits a s in search rules
    code_fits fs (IsOpen i) t w d s r =
        let lt = ltb-true i c.ranges s in
        let few = n.ranges in
        (within (IsOpen i) t w d r, omega (arith, lt, few))
    code_fits fs (Choose g e a b) t w d s r =
        let x = sorted c fs a in
        let z = sorted c fs b in
        let s1 = and_parts (is_chosen g) (is_tested (form_of fs e) && (fits (form_of fs a) g && (fits (form_of fs b) g && (sorted c fs e && (x && z))))) s in
        let s2 = and_parts (is_tested (form_of fs e)) (fits (form_of fs a) g && (fits (form_of fs b) g && (sorted c fs e && (x && z)))) s1.1 in
        let s3 = and_parts (fits (form_of fs a) g) (fits (form_of fs b) g && (sorted c fs e && (x && z))) s2.1 in
        let s4 = and_parts (fits (form_of fs b) g) (sorted c fs e && (x && z)) s3.1 in
        let s5 = and_parts (sorted c fs e) (x && z) s4.1 in
        let s6 = and_parts x z s5.1 in (
          within (Choose g e a b) t w d r,
          (
            code_fits fs e t w d s5.0 (record { places = omega (arith, r.places); arrays = omega (arith, r.arrays); labels = omega (arith, r.labels) }),
            (
              code_fits fs a t w (suc d) s6.0 (record { places = omega (arith, r.places); arrays = omega (arith, r.arrays); labels = omega (arith, r.labels) }),
              code_fits fs b t w (suc d) s6.1 (record { places = omega (arith, r.places); arrays = omega (arith, r.arrays); labels = omega (arith, r.labels) }),
            ),
          ),
        )
    code_fits fs (Seq a b) t w d s r =
        let s1 = and_parts (is_dropped (form_of fs a)) (sorted c fs a && sorted c fs b) s in
        let s2 = and_parts (sorted c fs a) (sorted c fs b) s1.1 in (
          within (Seq a b) t w d r,
          (
            code_fits fs a t w d s2.0 (record { places = omega (arith, r.places); arrays = omega (arith, r.arrays); labels = omega (arith, r.labels) }),
            code_fits fs b t w d s2.1 (record { places = omega (arith, r.places); arrays = omega (arith, r.arrays); labels = omega (arith, r.labels) }),
          ),
        )
    code_fits fs (Let a b) t w d s r =
        let x = sorted c fs a in
        let z = sorted c (form_of fs a ∷ fs) b in
        let s1 = and_parts (is_kept (form_of fs a)) (keeps_well b && (x && z)) s in
        let s2 = and_parts x z (and_parts (keeps_well b) (x && z) s1.1).1 in (
          within (Let a b) t w d r,
          (
            code_fits fs a t w d s2.0 (record { places = omega (arith, r.places); arrays = omega (arith, r.arrays); labels = omega (arith, r.labels) }),
            code_fits (form_of fs a ∷ fs) b (suc t) w d s2.1 (record { places = omega (arith, r.places); arrays = omega (arith, r.arrays); labels = omega (arith, r.labels) }),
          ),
        )
    code_fits fs (Bound m i) t w d s r = within (Bound m i) t w d r

    pub codes_fit : (fs : List plain.Form) (es : Codes) (t w d : ℕ) → all_sorted c fs es ≡ true → Rooms es t w d → AllFit y es t w d
    codes_fit fs End t w d s r = (omega (arith, r.places), (omega (arith, r.arrays), omega (arith, r.labels)))
    codes_fit fs (At e es) t w d s r =
        let s1 = and_parts (sorted c fs e) (all_sorted c fs es) s in (
          (omega (arith, r.places), (omega (arith, r.arrays), omega (arith, r.labels))),
          (
            code_fits fs e t w d s1.0 (record { places = omega (arith, r.places); arrays = omega (arith, r.arrays); labels = omega (arith, r.labels) }),
            codes_fit fs es (suc t) w d s1.1 (record { places = omega (arith, r.places); arrays = omega (arith, r.arrays); labels = omega (arith, r.labels) }),
          ),
        )
    codes_fit fs (Fixed m es) t w d s r = codes_fit fs es t w d s (record { places = r.places; arrays = r.arrays; labels = r.labels })
    codes_fit fs (Fresh es) t w d s r = (
      (omega (arith, r.places), (omega (arith, r.arrays), omega (arith, r.labels))),
      codes_fit fs es t (suc w) d (and_parts (are_missing es) (all_sorted c fs es) s).1 (record { places = r.places; arrays = omega (arith, r.arrays); labels = r.labels }),
    )

-- labels of quick ways

more_least : (q : Bool) (n : ℕ) → n ≤ more_if q n
more_least true n = omega arith
more_least false n = omega arith

deeper : (q : Bool) (d n : ℕ) → more_if q d + n ≡ d + more_if q n
deeper true d n = omega arith
deeper false d n = omega arith

one_least : (q : Bool) (n : ℕ) → n ≤ one_if q n
one_least true n = omega arith
one_least false n = omega arith

-- the test and both ways of a choice are within its labels
choice_least : (q : Bool) (t a b : ℕ) → (t ≤ choice_labels q t a b) × ((suc (more_if q a) ≤ choice_labels q t a b) × (suc b ≤ choice_labels q t a b))
choice_least true t a b = (omega arith, (omega arith, omega arith))
choice_least false t a b = (omega arith, (omega arith, omega arith))

-- room for a statement, which is emitted at temporary 0 with no arrays in use, and for two more temporaries and five more labels
pub record StepRoom (s : Step) (u d : ℕ) : Type 0 where
  pub places : suc (suc (step_room s)) ≤ most_places
  pub arrays : step_arrays s ≤ most_places
  pub iterators : u + step_iterators s ≤ most_places
  pub labels : 5 + (d + step_labels s) ≤ most_labels

pub record StepsRoom (ss : Steps) (u d : ℕ) : Type 0 where
  pub places : suc (suc (steps_room ss)) ≤ most_places
  pub arrays : steps_arrays ss ≤ most_places
  pub iterators : u + steps_iterators ss ≤ most_places
  pub labels : 5 + (d + steps_labels ss) ≤ most_labels

-- room for code that may stand one label deeper
record TestRoom (e : Code) (d : ℕ) : Type 0 where
  pub places : suc (suc (room e)) ≤ most_places
  pub arrays : arrays_in e ≤ most_places
  pub labels : 3 + (d + labels_in e) ≤ most_labels

-- what is chosen for `return` is within its labels
chosen_least : (q : Bool) (t a b : ℕ) → (t ≤ chosen_labels q t a b) × ((suc a ≤ chosen_labels q t a b) × (more_if (not q) b ≤ chosen_labels q t a b))
chosen_least true t a b = (omega arith, (omega arith, omega arith))
chosen_least false t a b = (omega arith, (omega arith, omega arith))

-- room for what is returned
record ReturnRoom (e : Code) (d : ℕ) : Type 0 where
  pub places : suc (suc (room e)) ≤ most_places
  pub arrays : arrays_in e ≤ most_places
  pub labels : 5 + (d + return_labels e) ≤ most_labels

module _ {c : Context} {y : Layout} (n : Named c y) where
  test_fits : (e : Code) (d : ℕ) → sorted c [] e ≡ true → TestRoom e d → TestFits y e d
  test_fits e d s r = (
    code_fits n [] e 0 0 d s (record { places = omega (arith, r.places); arrays = omega (arith, r.arrays); labels = omega (arith, r.labels) }),
    code_fits n [] e 0 0 (suc d) s (record { places = omega (arith, r.places); arrays = omega (arith, r.arrays); labels = omega (arith, r.labels) }),
  )

  return_fits : (e : Code) (d : ℕ) → sorted c [] e ≡ true → ReturnRoom e d → ReturnFits y e d
  unfolding sorted
  return_fits (Choose sort.Value e a b) d s r =
      let x = sorted c [] a in
      let z = sorted c [] b in
      let s1 = and_parts (is_tested (form_of [] e)) (fits (form_of [] a) sort.Value && (fits (form_of [] b) sort.Value && (sorted c [] e && (x && z)))) s in
      let s2 = and_parts (fits (form_of [] a) sort.Value) (fits (form_of [] b) sort.Value && (sorted c [] e && (x && z))) s1.1 in
      let s3 = and_parts (fits (form_of [] b) sort.Value) (sorted c [] e && (x && z)) s2.1 in
      let s4 = and_parts (sorted c [] e) (x && z) s3.1 in
      let s5 = and_parts x z s4.1 in
      let q = is_some (pair_in e) in
      let least = chosen_least q (labels_in e) (return_labels a) (return_labels b) in
      let deep = deeper (not q) d (return_labels b) in (
        omega (arith, r.labels),
        (
          (
            code_fits n [] e 0 0 d s4.0 (record { places = omega (arith, r.places); arrays = omega (arith, r.arrays); labels = omega (arith, r.labels, least) }),
            test_fits e (suc d) s4.0 (record { places = omega (arith, r.places); arrays = omega (arith, r.arrays); labels = omega (arith, r.labels, least) }),
          ),
          (
            return_fits a (suc d) s5.0 (record { places = omega (arith, r.places); arrays = omega (arith, r.arrays); labels = omega (arith, r.labels, least) }),
            return_fits b (more_if (not q) d) s5.1 (record { places = omega (arith, r.places); arrays = omega (arith, r.arrays); labels = omega (arith, r.labels, least, deep) }),
          ),
        ),
      )
  return_fits e d s r = (omega (arith, r.labels), code_fits n [] e 0 0 d s (record { places = omega (arith, r.places); arrays = omega (arith, r.arrays); labels = omega (arith, r.labels) }))

  mutual
    unfolding step_sorted steps_sorted

    pub step_fits : (o l : Bool) (s : Step) (u d : ℕ) → step_sorted c o l s ≡ true → StepRoom s u d → StepFits y s u d
    step_fits o l (Eval e) u d s r =
        let more = one_least (is_some (sum_in e)) (labels_in e) in (
          omega (arith, r.labels),
          code_fits n [] e 0 0 d (and_parts (is_dropped (form_of [] e)) (sorted c [] e) s).1 (record { places = omega (arith, r.places); arrays = omega (arith, r.arrays); labels = omega (arith, r.labels, more) }),
        )
    step_fits o l (Block ss) u d s r = steps_fit o l ss u d s (record { places = r.places; arrays = r.arrays; iterators = r.iterators; labels = r.labels })
    step_fits o l (If e a b) u d s r =
        let x = step_sorted c o l a in
        let z = step_sorted c o l b in
        let s1 = and_parts (test_sorted c e) (x && z) s in
        let s2 = and_parts x z s1.1 in
        let s0 = (and_parts (is_tested (form_of [] e)) (sorted c [] e) s1.0).1 in
        let q = is_some (pair_in e) in
        let least = choice_least q (labels_in e) (step_labels a) (step_labels b) in
        let deep = deeper q d (step_labels a) in (
          (
            omega (arith, r.labels),
            (
              code_fits n [] e 0 0 d s0 (record { places = omega (arith, r.places); arrays = omega (arith, r.arrays); labels = omega (arith, r.labels, least) }),
              test_fits e (suc (suc d)) s0 (record { places = omega (arith, r.places); arrays = omega (arith, r.arrays); labels = omega (arith, r.labels, least) }),
            ),
          ),
          (
            step_fits o l a u (suc (more_if q d)) s2.0 (record { places = omega (arith, r.places); arrays = omega (arith, r.arrays); iterators = omega (arith, r.iterators); labels = omega (arith, r.labels, least, deep) }),
            step_fits o l b u (suc d) s2.1 (record { places = omega (arith, r.places); arrays = omega (arith, r.arrays); iterators = omega (arith, r.iterators); labels = omega (arith, r.labels, least) }),
          ),
        )
    step_fits o l (Loop true e a b) u d s r =
        let x = step_sorted c o true a in
        let z = step_sorted c o false b in
        let s1 = and_parts (test_sorted c e) (x && z) s in
        let s2 = and_parts x z s1.1 in
        let s0 = (and_parts (is_tested (form_of [] e)) (sorted c [] e) s1.0).1 in
        let more = more_least (is_some (pair_in e)) (labels_in e) in
        let deep = deeper (step_jumps a) d (step_labels a) in (
          omega (arith, r.labels),
          (
            test_fits e (suc (suc d)) s0 (record { places = omega (arith, r.places); arrays = omega (arith, r.arrays); labels = omega (arith, r.labels, more) }),
            (
              step_fits o true a u (suc (suc (more_if (step_jumps a) d))) s2.0 (record { places = omega (arith, r.places); arrays = omega (arith, r.arrays); iterators = omega (arith, r.iterators); labels = omega (arith, r.labels, deep) }),
              step_fits o false b u (suc (suc d)) s2.1 (record { places = omega (arith, r.places); arrays = omega (arith, r.arrays); iterators = omega (arith, r.iterators); labels = omega (arith, r.labels) }),
            ),
          ),
        )
    step_fits o l (Loop false e a b) u d s r =
        let x = step_sorted c o true a in
        let z = step_sorted c o false b in
        let s1 = and_parts (test_sorted c e) (x && z) s in
        let s2 = and_parts x z s1.1 in
        let s0 = (and_parts (is_tested (form_of [] e)) (sorted c [] e) s1.0).1 in (
          omega (arith, r.labels),
          (
            test_fits e (suc (suc d)) s0 (record { places = omega (arith, r.places); arrays = omega (arith, r.arrays); labels = omega (arith, r.labels) }),
            (
              step_fits o true a u (suc (suc (suc d))) s2.0 (record { places = omega (arith, r.places); arrays = omega (arith, r.arrays); iterators = omega (arith, r.iterators); labels = omega (arith, r.labels) }),
              step_fits o false b u (suc (suc d)) s2.1 (record { places = omega (arith, r.places); arrays = omega (arith, r.arrays); iterators = omega (arith, r.iterators); labels = omega (arith, r.labels) }),
            ),
          ),
        )
    step_fits o l (Each a e b) u d s r =
        let x = sorted c (a_value ∷ []) e in
        let z = step_sorted c o true b in
        let s1 = and_parts (is_array_place c a) (stores_well [] e && (x && z)) s in
        let s2 = and_parts (stores_well [] e) (x && z) s1.1 in
        let s3 = and_parts x z s2.1 in (
          omega (arith, r.labels),
          (
            omega (arith, r.iterators),
            (
              array_fits n a s1.0,
              (
                code_fits n (a_value ∷ []) e 1 0 (suc (suc d)) s3.0 (record { places = omega (arith, r.places); arrays = omega (arith, r.arrays); labels = omega (arith, r.labels) }),
                step_fits o true b (suc u) (suc (suc (suc d))) s3.1 (record { places = omega (arith, r.places); arrays = omega (arith, r.arrays); iterators = omega (arith, r.iterators); labels = omega (arith, r.labels) }),
              ),
            ),
          ),
        )
    step_fits o l Break u d s r = tt
    step_fits o l Continue u d s r = tt
    step_fits o l Next u d s r = tt
    step_fits o l Exit u d s r = tt
    step_fits o l (ExitWith e) u d s r = (
      omega (arith, r.labels),
      code_fits n [] e 0 0 d (and_parts (fits (form_of [] e) sort.Number) (sorted c [] e) s).1 (record { places = omega (arith, r.places); arrays = omega (arith, r.arrays); labels = omega (arith, r.labels) }),
    )
    step_fits o l (Return e) u d s r =
        let s1 = and_parts o (fits (form_of [] e) sort.Value && sorted c [] e) s in
        return_fits e d (and_parts (fits (form_of [] e) sort.Value) (sorted c [] e) s1.1).1 (record { places = r.places; arrays = r.arrays; labels = r.labels })
    step_fits o l (Mark i b) u d s r = let lt = ltb-true i c.ranges s in let few = n.ranges in omega (arith, lt, few)

    pub steps_fit : (o l : Bool) (ss : Steps) (u d : ℕ) → steps_sorted c o l ss ≡ true → StepsRoom ss u d → StepsFit y ss u d
    steps_fit o l NoStep u d s r = tt
    steps_fit o l (Then a ss) u d s r =
        let s1 = and_parts (step_sorted c o l a) (steps_sorted c o l ss) s in (
          step_fits o l a u d s1.0 (record { places = omega (arith, r.places); arrays = omega (arith, r.arrays); iterators = omega (arith, r.iterators); labels = omega (arith, r.labels) }),
          steps_fit o l ss u d s1.1 (record { places = omega (arith, r.places); arrays = omega (arith, r.arrays); iterators = omega (arith, r.iterators); labels = omega (arith, r.labels) }),
        )
