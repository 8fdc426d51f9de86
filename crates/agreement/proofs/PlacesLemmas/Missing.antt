-- In well-sorted code a call makes an array for each array parameter that it has no argument for, and for nothing else.
use Rattle.std.proofs.Common.{◌≡◌, inl, inr, ℕ, suc, Bool, true, false, T, ◌&&◌, List, [], ◌∷◌, ◌++◌, Option, refl, ap, subst, arith}
use Rattle.std.specs.List.{Contains}
use Rattle.std.proofs.lemmas.Bool.{and_parts}
use Rattle.std.proofs.lemmas.List.Elements.{Contains-append_cases}
use Rattle.mid_program.specs.Mid as mid
use Rattle.mid_program.specs.Mid.{Kind, Boxed, Unboxed, ArrayKind, Code, Do, Over, Compare, Call, Ask, AskLine, FileLine, Replace, Number, Text, Unset, Get, Set, Array, IsOpen, Choose, Seq, Let, Bound, Codes, End, At, Fixed, Fresh, Form, Step, Eval, Each, Break, Continue, Next, Exit, ExitWith, Return, Mark, Steps, NoStep, Program, Routine, a_value, form_of, parameters_at}
use Rattle.mid_program.specs.Sorted.{Context, IsSorted, all_differ, all_sorted, announced_names, are_lenders, calls_of, context_of, fit_call, fits, is_chosen, is_sorted, is_tested, kinds_of, lender_at, parts_sorted, routines_sorted, sorted, step_sorted, steps_sorted}
use Rattle.lower_model.specs.Machine.{Callee}
use Rattle.lower_model.specs.Places.{made_in}
use Rattle.agreement.specs.Places.Calls.{HasCall, code_calls, codes_calls, main_calls, missing_arrays, step_calls, steps_calls}
use Rattle.agreement.proofs.PlacesLemmas.Given.{first_or}

made_missing : (lender : ℕ → Option ℕ) (fs : List Form) (ks : List Kind) (es : Codes) → fit_call lender fs ks es ≡ true → made_in es ≡ missing_arrays ks es
made_missing lender fs [] End h = refl
made_missing lender fs (Boxed ∷ ks) (At e es) h = made_missing (λ i. lender (suc i)) fs ks es (and_parts _ _ h).1
made_missing lender fs (Unboxed ∷ ks) (At e es) h = made_missing (λ i. lender (suc i)) fs ks es (and_parts _ _ h).1
made_missing lender fs (ArrayKind ∷ ks) (At e es) h = made_missing (λ i. lender (suc i)) fs ks es (and_parts _ _ h).1
made_missing lender fs (ArrayKind ∷ ks) (Fresh es) h = ap suc (made_missing (λ i. lender (suc i)) fs ks es h)
made_missing lender fs ks es h = cc

module _ (c : Context) where
  abbrev Fits : ℕ → Codes → Type 0
  Fits f es = made_in es ≡ missing_arrays (parameters_at c.calls f) es

  abbrev AllFit : List (ℕ × Codes) → Type 0
  AllFit xs = (f : ℕ) (es : Codes) → Contains xs (f, es) → Fits f es

  none : AllFit []
  none f es h = let lt = h.1 in absurd (omega (arith, lt))

  joined : (xs ys : List (ℕ × Codes)) → AllFit xs → AllFit ys → AllFit (xs ++ ys)
  joined xs ys a b f es h = let w = Contains-append_cases xs ys (f, es) h in elim w [ inl q ↦ a f es q | inr q ↦ b f es q ]

  one_more : (g : ℕ) (ds : Codes) (xs : List (ℕ × Codes)) → Fits g ds → AllFit xs → AllFit ((g, ds) ∷ xs)
  one_more g ds xs a b f es h =
      let w = first_or (g, ds) xs (f, es) h in
      elim w [ inl e ↦ subst (λ (x : ℕ × Codes). Fits x.0 x.1) e a | inr q ↦ b f es q ]

  mutual
    unfolding sorted all_sorted

    code_fits : (e : Code) (fs : List Form) → sorted c fs e ≡ true → AllFit (code_calls e)
    code_fits (Do o es) fs h = codes_fits es fs (and_parts _ _ (and_parts _ _ h).1).1
    code_fits (Over l es) fs h = codes_fits es fs (and_parts _ _ (and_parts _ _ h).1).1
    code_fits (Compare o a b) fs h =
        let w = and_parts _ _ (and_parts _ _ (and_parts _ _ h).1).1 in
        joined (code_calls a) (code_calls b) (code_fits a fs w.0) (code_fits b fs w.1)
    code_fits (Call f es) fs h =
        let w = and_parts _ _ (and_parts _ _ h).1 in
        one_more f es (codes_calls es) (made_missing (lender_at c.lenders) fs (parameters_at c.calls f) es w.0) (codes_fits es fs w.1)
    code_fits Ask fs h = none
    code_fits (AskLine s) fs h = code_fits s (a_value ∷ fs) (and_parts _ _ (and_parts _ _ h).1).1
    code_fits (FileLine e s) fs h =
        let w = and_parts _ _ (and_parts _ _ h).1 in
        joined (code_calls e) (code_calls s) (code_fits e fs w.0) (code_fits s (a_value ∷ fs) (and_parts _ _ w.1).1)
    code_fits (Replace every es s) fs h =
        let w = and_parts _ _ (and_parts _ _ h).1 in
        joined (codes_calls es) (code_calls s) (codes_fits es fs w.0) (code_fits s (a_value ∷ fs) (and_parts _ _ w.1).1)
    code_fits (Number z) fs h = none
    code_fits (Text i) fs h = none
    code_fits Unset fs h = none
    code_fits (Get x) fs h = none
    code_fits (Set x e) fs h = code_fits e fs (and_parts _ _ (and_parts _ _ h).1).1
    code_fits (Array a) fs h = none
    code_fits (IsOpen i) fs h = none
    code_fits (Choose s e a b) fs h =
        let ways = sorted c fs a && sorted c fs b in
        let all = sorted c fs e && ways in
        let fit = fits (form_of fs b) s && all in
        let both = fits (form_of fs a) s && fit in
        let tested = and_parts (is_chosen s) (is_tested (form_of fs e) && both) h in
        let w = and_parts (sorted c fs e) ways (and_parts (fits (form_of fs b) s) all (and_parts (fits (form_of fs a) s) fit (and_parts (is_tested (form_of fs e)) both tested.1).1).1).1 in
        let v = and_parts (sorted c fs a) (sorted c fs b) w.1 in
        joined (code_calls e) (code_calls a ++ code_calls b) (code_fits e fs w.0) (joined (code_calls a) (code_calls b) (code_fits a fs v.0) (code_fits b fs v.1))
    code_fits (Seq a b) fs h =
        let w = and_parts _ _ (and_parts _ _ h).1 in
        joined (code_calls a) (code_calls b) (code_fits a fs w.0) (code_fits b fs w.1)
    code_fits (Let a b) fs h =
        let w = and_parts _ _ (and_parts _ _ (and_parts _ _ h).1).1 in
        joined (code_calls a) (code_calls b) (code_fits a fs w.0) (code_fits b (form_of fs a ∷ fs) w.1)
    code_fits (Bound m i) fs h = none

    codes_fits : (es : Codes) (fs : List Form) → all_sorted c fs es ≡ true → AllFit (codes_calls es)
    codes_fits End fs h = none
    codes_fits (At e es) fs h = let w = and_parts _ _ h in joined (code_calls e) (codes_calls es) (code_fits e fs w.0) (codes_fits es fs w.1)
    codes_fits (Fixed n es) fs h = codes_fits es fs h
    codes_fits (Fresh es) fs h = codes_fits es fs (and_parts _ _ h).1

  mutual
    unfolding step_sorted steps_sorted

    step_fits : (s : Step) (r l : Bool) → step_sorted c r l s ≡ true → AllFit (step_calls s)
    step_fits (Eval e) r l h = code_fits e [] (and_parts _ _ h).1
    step_fits (mid.Block ss) r l h = steps_fits ss r l h
    step_fits (mid.If e a b) r l h =
        let w = and_parts _ _ h in
        let v = and_parts _ _ w.1 in
        joined (code_calls e) (step_calls a ++ step_calls b) (code_fits e [] (and_parts _ _ w.0).1) (joined (step_calls a) (step_calls b) (step_fits a r l v.0) (step_fits b r l v.1))
    step_fits (mid.Loop first e a b) r l h =
        let w = and_parts _ _ h in
        let v = and_parts _ _ w.1 in
        joined (code_calls e) (step_calls a ++ step_calls b) (code_fits e [] (and_parts _ _ w.0).1) (joined (step_calls a) (step_calls b) (step_fits a r true v.0) (step_fits b r false v.1))
    step_fits (Each a e s) r l h =
        let w = and_parts _ _ (and_parts _ _ (and_parts _ _ h).1).1 in
        joined (code_calls e) (step_calls s) (code_fits e (a_value ∷ []) w.0) (step_fits s r true w.1)
    step_fits Break r l h = none
    step_fits Continue r l h = none
    step_fits Next r l h = none
    step_fits Exit r l h = none
    step_fits (ExitWith e) r l h = code_fits e [] (and_parts _ _ h).1
    step_fits (Return e) r l h = code_fits e [] (and_parts _ _ (and_parts _ _ h).1).1
    step_fits (Mark i b) r l h = none

    steps_fits : (ss : Steps) (r l : Bool) → steps_sorted c r l ss ≡ true → AllFit (steps_calls ss)
    steps_fits NoStep r l h = none
    steps_fits (mid.Then s ss) r l h = let w = and_parts _ _ h in joined (step_calls s) (steps_calls ss) (step_fits s r l w.0) (steps_fits ss r l w.1)

from_T : (b : Bool) → T b → b ≡ true
from_T true t = refl
from_T false t = absurd t

module _ (p : Program) (well : IsSorted p) where
  each_sorted : (rs : List Routine) → routines_sorted p rs ≡ true → (r : Routine) → Contains rs r → steps_sorted (context_of p r.parameters) true false r.body ≡ true
  each_sorted [] h r q = let lt = q.1 in absurd (omega (arith, lt))
  each_sorted (x ∷ rs) h r q =
      let parts = and_parts _ _ h in
      let w = first_or x rs r q in
      elim w [ inl e ↦ subst (λ (z : Routine). steps_sorted (context_of p z.parameters) true false z.body ≡ true) e parts.0 | inr there ↦ each_sorted rs parts.1 r there ]

  whole : (routines_sorted p p.routines ≡ true) × (parts_sorted p (context_of p []) ≡ true)
  whole =
      let main = parts_sorted p (context_of p []) in
      let code = routines_sorted p p.routines && main in
      let lend = are_lenders (kinds_of p.globals) p.lenders in
      and_parts (routines_sorted p p.routines) main (and_parts lend code (and_parts (all_differ (announced_names p)) (lend && code) (from_T (is_sorted p) well)).1).1

  abbrev Missing : ℕ → Codes → Type 0
  Missing f es = made_in es ≡ missing_arrays (parameters_at (calls_of p) f) es

  main_missing : (f : ℕ) (es : Codes) → Contains (main_calls p) (f, es) → Missing f es
  main_missing =
      let c = context_of p [] in
      let w = and_parts _ _ whole.1 in
      let v = and_parts _ _ w.1 in
      joined c (steps_calls p.begin) (steps_calls p.items ++ steps_calls p.end) (steps_fits c p.begin false false w.0)
      (joined c (steps_calls p.items) (steps_calls p.end) (steps_fits c p.items false false v.0) (steps_fits c p.end false false v.1))

  -- A CALL makes as many arrays as it has array parameters without an argument
  pub call_missing : (f : Callee) (called : ℕ) (given : Codes) → HasCall p f called given → Missing called given
  call_missing f called given (inl h) = steps_fits (context_of p h.0.parameters) h.0.body true false (each_sorted p.routines whole.0 h.0 h.1) called given h.3
  call_missing f called given (inr h) = main_missing called given h.1
