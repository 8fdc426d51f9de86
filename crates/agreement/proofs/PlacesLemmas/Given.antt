-- A call in the code of a function is one of its mid code, and right after it the arrays that were made for that call are freed, and no others.
use Rattle.std.proofs.Common.{◌≡◌, ◌⊎◌, inl, inr, ℕ, zero, suc, Bool, true, false, ◌&&◌, ◌||◌, nat_eq, List, [], ◌∷◌, ◌++◌, map, refl, sym, subst, arith}
use Rattle.std.specs.List.{Contains}
use Rattle.std.proofs.lemmas.Bool.{and_from, and_parts, eq-eqb, eqb-true}
use Rattle.std.proofs.lemmas.List.Elements.{Contains-append_cases, Contains-append_left, Contains-append_right, Contains-push_cases}
use Rattle.wasm_types.specs.Syntax.{Instructions, Plain, Then}
use Rattle.wasm_types.specs.declared.instr.Simple.TheVariants.{Call as CallOf}
use Rattle.mid_program.specs.Mid as mid
use Rattle.mid_program.specs.Mid.{Code, Do, Over, Compare, Call, Ask, AskLine, FileLine, Replace, Number, Text, Unset, Get, Set, Array, IsOpen, Choose, Seq, Let, Bound, Codes, End, At, Fixed, Fresh, Step, Eval, Each, Break, Continue, Next, Exit, ExitWith, Return, Mark, Steps, NoStep, Program, Routine}
use Rattle.lower_model.specs.Emission.{function_number}
use Rattle.lower_model.specs.Functions.{layout_of, main_bases, main_callee, routine_bases, routine_callee}
use Rattle.lower_model.specs.Machine.{Callee, freed_next}
use Rattle.lower_model.specs.Modules.{all_callees}
use Rattle.lower_model.specs.Places.{made_in}
use Rattle.agreement.specs.Places.Calls.{HasCall, code_calls, codes_calls, main_calls, step_calls, steps_calls}
use Rattle.agreement.specs.Places.Places.{IsPart}
use Rattle.agreement.proofs.PlacesLemmas.Pending.{AllMeet, Limit, Meets, StepMeets, StepsMeet, call_within, calls_fit}
use Rattle.agreement.proofs.PlacesLemmas.Stepping.{main_nops, routine_nops}

only : {A : Type 0} (a x : A) → Contains (a ∷ []) x → a ≡ x
only a x h =
    let w = Contains-push_cases [] a x h in
    elim w [ inl none ↦ (let lt = none.1 in absurd (omega (arith, lt))) | inr e ↦ e ]

pub first_or : {A : Type 0} (a : A) (xs : List A) (x : A) → Contains (a ∷ xs) x → (a ≡ x) ⊎ Contains xs x
first_or a xs x h =
    let w = Contains-append_cases (a ∷ []) xs x h in
    elim w [ inl q ↦ inl (only a x q) | inr q ↦ inr q ]

-- Whether one of these calls is of the function with this number in the code, and has so many arrays made for it.

abbrev is_this : (ℕ × Codes) → (n freed : ℕ) → Bool
is_this (f, es) n freed = nat_eq (function_number f) n && nat_eq freed (made_in es)

abbrev is_among : List (ℕ × Codes) → (n freed : ℕ) → Bool
is_among [] n freed = false
is_among (c ∷ cs) n freed = is_this c n freed || is_among cs n freed

or_left : (a b : Bool) → a ≡ true → (a || b) ≡ true
or_left true b e = refl
or_left false b e = cc

or_right : (a b : Bool) → b ≡ true → (a || b) ≡ true
or_right true b e = refl
or_right false b e = e

is_itself : (c : ℕ × Codes) (f : ℕ) (es : Codes) → c ≡ (f, es) → is_this c (function_number f) (made_in es) ≡ true
is_itself c f es e =
    subst (λ (x : ℕ × Codes). is_this x (function_number f) (made_in es) ≡ true) (sym e)
    (and_from (nat_eq (function_number f) (function_number f)) (nat_eq (made_in es) (made_in es)) (eq-eqb (function_number f) (function_number f) refl) (eq-eqb (made_in es) (made_in es) refl))

among : (cs : List (ℕ × Codes)) (f : ℕ) (es : Codes) → Contains cs (f, es) → is_among cs (function_number f) (made_in es) ≡ true
among [] f es h = let lt = h.1 in absurd (omega (arith, lt))
among (c ∷ cs) f es h =
    let here = is_this c (function_number f) (made_in es) in
    let there = is_among cs (function_number f) (made_in es) in
    let w = first_or c cs (f, es) h in
    elim w [ inl e ↦ or_left here there (is_itself c f es e) | inr q ↦ or_right here there (among cs f es q) ]

-- such a call
pub record This (cs : List (ℕ × Codes)) (n freed : ℕ) : Type 0 where
  pub called : ℕ
  pub given : Codes
  pub is : Contains cs (called, given)
  pub number : function_number called ≡ n
  pub all : freed ≡ made_in given

this_one : (cs : List (ℕ × Codes)) (n freed : ℕ) → is_among cs n freed ≡ true → This cs n freed
this_one [] n freed e = cc
this_one ((f, es) ∷ cs) n freed e = by (is_this (f, es) n freed) refl e (this_one cs n freed)
  where
    by : (b : Bool) → is_this (f, es) n freed ≡ b → (b || is_among cs n freed) ≡ true → (is_among cs n freed ≡ true → This cs n freed) → This ((f, es) ∷ cs) n freed
    by true q e rest =
        let w = and_parts (nat_eq (function_number f) n) (nat_eq freed (made_in es)) q in
        record { called = f; given = es; is = (zero, omega arith, refl); number = eqb-true (function_number f) n w.0; all = eqb-true freed (made_in es) w.1 }
    by false q e rest =
        let r = rest e in
        record { called = r.called; given = r.given; is = Contains-append_right ((f, es) ∷ []) cs (r.called, r.given) r.is; number = r.number; all = r.all }

-- Each call in mid code is one of a list that has all of them.

module _ (cs : List (ℕ × Codes)) where
  abbrev Has : (t f : ℕ) → Codes → Type 0
  Has t f es = Contains cs (f, es)

  abbrev In : List (ℕ × Codes) → Type 0
  In xs = (f : ℕ) (es : Codes) → Contains xs (f, es) → Contains cs (f, es)

  left : (xs ys : List (ℕ × Codes)) → In (xs ++ ys) → In xs
  left xs ys k f es h = k f es (Contains-append_left xs ys (f, es) h)

  right : (xs ys : List (ℕ × Codes)) → In (xs ++ ys) → In ys
  right xs ys k f es h = k f es (Contains-append_right xs ys (f, es) h)

  mutual
    code_in : (e : Code) (t : ℕ) → In (code_calls e) → Meets Has t e
    code_in (Do o es) t k = codes_in es t k
    code_in (Over l es) t k = codes_in es t k
    code_in (Compare c a b) t k = (code_in a t (left (code_calls a) (code_calls b) k), code_in b (suc t) (right (code_calls a) (code_calls b) k))
    code_in (Call f es) t k = (k f es (zero, omega arith, refl), codes_in es t (right ((f, es) ∷ []) (codes_calls es) k))
    code_in Ask t k = tt
    code_in (AskLine s) t k = code_in s (suc (suc t)) k
    code_in (FileLine e s) t k = (code_in e t (left (code_calls e) (code_calls s) k), code_in s (suc (suc t)) (right (code_calls e) (code_calls s) k))
    code_in (Replace all es s) t k = (codes_in es t (left (codes_calls es) (code_calls s) k), code_in s (suc (suc t)) (right (codes_calls es) (code_calls s) k))
    code_in (Number z) t k = tt
    code_in (Text i) t k = tt
    code_in Unset t k = tt
    code_in (Get x) t k = tt
    code_in (Set x e) t k = code_in e t k
    code_in (Array a) t k = tt
    code_in (IsOpen i) t k = tt
    code_in (Choose s c a b) t k =
        let r = right (code_calls c) (code_calls a ++ code_calls b) k in
        (code_in c t (left (code_calls c) (code_calls a ++ code_calls b) k), (code_in a t (left (code_calls a) (code_calls b) r), code_in b t (right (code_calls a) (code_calls b) r)))
    code_in (Seq a b) t k = (code_in a t (left (code_calls a) (code_calls b) k), code_in b t (right (code_calls a) (code_calls b) k))
    code_in (Let a b) t k = (code_in a t (left (code_calls a) (code_calls b) k), code_in b (suc t) (right (code_calls a) (code_calls b) k))
    code_in (Bound z i) t k = tt

    codes_in : (es : Codes) (t : ℕ) → In (codes_calls es) → AllMeet Has t es
    codes_in End t k = tt
    codes_in (At e es) t k = (code_in e t (left (code_calls e) (codes_calls es) k), codes_in es (suc t) (right (code_calls e) (codes_calls es) k))
    codes_in (Fixed n es) t k = codes_in es t k
    codes_in (Fresh es) t k = codes_in es t k

  mutual
    step_in : (s : Step) → In (step_calls s) → StepMeets Has s
    step_in (Eval e) k = code_in e zero k
    step_in (mid.Block ss) k = steps_in ss k
    step_in (mid.If e a b) k =
        let r = right (code_calls e) (step_calls a ++ step_calls b) k in
        (code_in e zero (left (code_calls e) (step_calls a ++ step_calls b) k), (step_in a (left (step_calls a) (step_calls b) r), step_in b (right (step_calls a) (step_calls b) r)))
    step_in (mid.Loop first e a b) k =
        let r = right (code_calls e) (step_calls a ++ step_calls b) k in
        (code_in e zero (left (code_calls e) (step_calls a ++ step_calls b) k), (step_in a (left (step_calls a) (step_calls b) r), step_in b (right (step_calls a) (step_calls b) r)))
    step_in (Each a e s) k = (code_in e 1 (left (code_calls e) (step_calls s) k), step_in s (right (code_calls e) (step_calls s) k))
    step_in Break k = tt
    step_in Continue k = tt
    step_in Next k = tt
    step_in Exit k = tt
    step_in (ExitWith e) k = code_in e zero k
    step_in (Return e) k = code_in e zero k
    step_in (Mark i b) k = tt

    steps_in : (ss : Steps) → In (steps_calls ss) → StepsMeet Has ss
    steps_in NoStep k = tt
    steps_in (mid.Then s ss) k = (step_in s (left (step_calls s) (steps_calls ss) k), steps_in ss (right (step_calls s) (steps_calls ss) k))

  abbrev own : Limit
  own = record { asked = true; allowed = λ n a z. is_among cs n z }

module _ (p : Program) where
  routine_fits : (r : Routine) → calls_fit (own (steps_calls r.body)) (routine_callee p r).body ≡ true
  routine_fits r =
      let cs = steps_calls r.body in
      (routine_nops (layout_of p (routine_bases r)) (own cs) (Has cs) (λ t f es h. among cs f es h) r.parameters r.body (λ z. steps_in cs r.body (λ f es h. h))).calls refl

  main_fits : calls_fit (own (main_calls p)) (main_callee p).body ≡ true
  main_fits =
      let cs = main_calls p in
      let first = steps_calls p.begin in
      let more = steps_calls p.items in
      let last = steps_calls p.end in
      let r = right cs first (more ++ last) (λ f es h. h) in
      (main_nops (layout_of p (main_bases p)) (own cs) (Has cs) (λ t f es h. among cs f es h) p
      (λ z. (steps_in cs p.begin (left cs first (more ++ last) (λ f es h. h)), (steps_in cs p.items (left cs more last r), steps_in cs p.end (right cs more last r))))).calls refl

  is_routine : (rs : List Routine) (f : Callee) → Contains (map (routine_callee p) rs) f → (r : Routine) × Contains rs r × (f ≡ routine_callee p r)
  is_routine [] f h = let lt = h.1 in absurd (omega (arith, lt))
  is_routine (r ∷ rs) f h =
      let w = first_or (routine_callee p r) (map (routine_callee p) rs) f h in
      elim w [ inl e ↦ (r, (zero, omega arith, refl), sym e) | inr q ↦ (let v = is_routine rs f q in (v.0, Contains-append_right (r ∷ []) rs v.0 v.1, v.2)) ]

  abbrev AfterCall : Callee → (called : ℕ) → Instructions → Type 0
  AfterCall f called place = (given : Codes) × HasCall p f called given × (freed_next place ≡ made_in given)

  found : (cs : List (ℕ × Codes)) (body : Instructions) → calls_fit (own cs) body ≡ true → (called : ℕ) (place : Instructions) → IsPart body (Then (Plain (CallOf (function_number called))) place)
      → (given : Codes) × Contains cs (called, given) × (freed_next place ≡ made_in given)
  found cs body fit called place part =
      let w = this_one cs (function_number called) (freed_next place) (call_within (own cs) body place called part fit) in
      let number = w.number in
      (w.given, subst (λ (n : ℕ). Contains cs (n, w.given)) (omega (arith, number)) w.is, w.all)

  -- A CALL in the code of a function is one of its mid code
  pub call_given : (f : Callee) → Contains (all_callees p) f → (called : ℕ) (place : Instructions) → IsPart f.body (Then (Plain (CallOf (function_number called))) place) → AfterCall f called place
  call_given f is called place part =
      let w = Contains-push_cases (map (routine_callee p) p.routines) (main_callee p) f is in
      elim w [ inl q ↦ in_routine q | inr e ↦ in_main (sym e) ]
    where
      at : (g : Callee) → f ≡ g → IsPart g.body (Then (Plain (CallOf (function_number called))) place)
      at g e = subst (λ (g : Callee). IsPart g.body (Then (Plain (CallOf (function_number called))) place)) e part

      in_routine : Contains (map (routine_callee p) p.routines) f → AfterCall f called place
      in_routine q =
          let r = is_routine p.routines f q in
          let v = found (steps_calls r.0.body) (routine_callee p r.0).body (routine_fits r.0) called place (at (routine_callee p r.0) r.2) in
          (v.0, inl (r.0, r.1, r.2, v.1), v.2)

      in_main : f ≡ main_callee p → AfterCall f called place
      in_main e =
          let v = found (main_calls p) (main_callee p).body main_fits called place (at (main_callee p) e) in
          (v.0, inr (e, v.1), v.2)
