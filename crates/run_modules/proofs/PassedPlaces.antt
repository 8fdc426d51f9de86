-- How often chosen places were passed is before how many steps the code that came next began so.
use Rattle.std.proofs.Common.{◌≡◌, ◌≢◌, ◌⊎◌, inl, inr, ℕ, zero, suc, ◌+◌, ◌≤◌, ◌<◌, Bool, true, false, ◌&&◌, cond, List, [], ◌∷◌, Option, Some, None, refl, sym, ap, ap₂, ◌∙◌, arith}
use Rattle.std.specs.List.{count_by}
use Rattle.std.specs.Prelude.{nat_eq, option_and_then, option_map, slice_get}
use Rattle.std.proofs.lemmas.Bool.{eq-eqb, ne_eqb}
use Rattle.std.proofs.lemmas.Bool.Decides.{eqb_tells}
use Rattle.std.proofs.lemmas.List.Sums.{sum_by-cons}
use Rattle.std.proofs.lemmas.Option.{slice_get-map}
use Rattle.wasm_types.specs.Syntax as tree
use Rattle.wasm_types.specs.Syntax.{FuncForm, Instructions, ModuleForm, Then}
use Rattle.wasm_types.specs.declared.instr.Simple.TheVariants.{Nop}
use Rattle.wasm_model.specs.Frames.{FrameForm, settled_code}
use Rattle.wasm_loader.specs.Flat.{Form, Plain, code_from, flat}
use Rattle.wasm_loader.specs.Landings.{framed_at}
use Rattle.wasm_loader.proofs.Flattening.{code_flat}
use Rattle.wasm_machine.specs.Places.{StandsAt}
use Rattle.wasm_machine.specs.StatementAt.{BeginsNone}
use Rattle.agreement.specs.Places.NoLeaks.{begins_statement}
use Rattle.agreement.specs.Places.Statements.{starts_in}
use Rattle.script_places.specs.Passes.{Moment, entry, nops_from, nops_in, nops_of, passes, stood, times_at}
use Rattle.run_modules.specs.Executions.{Choice, begun_at, passed_from, passed_in, times_passed}
use Rattle.run_modules.proofs.StandingPlaces.{Matches, matched}

-- Sums.

none_of : (b : Bool) → cond {A = ℕ} b 0 0 ≡ 0
none_of true = refl
none_of false = refl

sum_of : (b : Bool) (n m : ℕ) → cond b (n + m) 0 ≡ cond b n 0 + cond b m 0
sum_of true n m = refl
sum_of false n m = refl

counted : {X : Type 0} (p : X → Bool) (x : X) (xs : List X) → count_by p (x ∷ xs) ≡ cond (p x) 1 0 + count_by p xs
counted p x xs = sum_by-cons (λ y. cond {A = ℕ} (p y) 1 0) x xs

-- One moment more.

module _ (nops : List (List ℕ)) (x : Moment) (xs : List Moment) where
  more_times : (f : ℕ) (o : Option ℕ) → times_at (x ∷ xs) f o ≡ times_at xs f o + times_at (x ∷ []) f o
  more_times f None = refl
  more_times f (Some at) =
      let a = counted (stood f at) x xs in
      let b : count_by (stood f at) (x ∷ []) ≡ cond (stood f at x) 1 0 + 0 = counted (stood f at) x [] in
      omega (arith, a, b)

  module _ (chosen : Choice) where
    more_from : (f k : ℕ) (codes : List Instructions)
        → passed_from chosen nops (x ∷ xs) f k codes ≡ passed_from chosen nops xs f k codes + passed_from chosen nops (x ∷ []) f k codes
    more_from f k [] = refl
    more_from f k (code ∷ codes) =
        let here : cond (chosen code) (passes nops (x ∷ xs) f k) 0 ≡ cond (chosen code) (passes nops xs f k) 0 + cond (chosen code) (passes nops (x ∷ []) f k) 0 =
        ap (λ (n : ℕ). cond (chosen code) n 0) (more_times f (entry nops f k)) ∙ sum_of (chosen code) (passes nops xs f k) (passes nops (x ∷ []) f k) in
        let rest = more_from f (k + 1) codes in
        omega (arith, here, rest)

    more_in : (f : ℕ) (funcs : List FuncForm)
        → passed_in chosen nops (x ∷ xs) f funcs ≡ passed_in chosen nops xs f funcs + passed_in chosen nops (x ∷ []) f funcs
    more_in f [] = refl
    more_in f (func ∷ funcs) =
        let here = more_from f 0 (starts_in func.body) in
        let rest = more_in (f + 1) funcs in
        omega (arith, here, rest)

pub one_more_passed : (chosen : Choice) (whole : ModuleForm) (x : Moment) (xs : List Moment)
    → times_passed chosen whole (x ∷ xs) ≡ times_passed chosen whole xs + times_passed chosen whole (x ∷ [])
one_more_passed chosen whole x xs = more_in (nops_in whole) x xs chosen 0 whole.funcs

none_from : (chosen : Choice) (nops : List (List ℕ)) (f k : ℕ) (codes : List Instructions) → passed_from chosen nops [] f k codes ≡ 0
none_from chosen nops f k [] = refl
none_from chosen nops f k (code ∷ codes) =
    let here : cond (chosen code) (passes nops [] f k) 0 ≡ 0 = ap (λ (n : ℕ). cond (chosen code) n 0) (by (entry nops f k)) ∙ none_of (chosen code) in
    let rest = none_from chosen nops f (k + 1) codes in
    omega (arith, here, rest)
  where
    by : (o : Option ℕ) → times_at [] f o ≡ 0
    by None = refl
    by (Some at) = refl

none_in : (chosen : Choice) (nops : List (List ℕ)) (f : ℕ) (funcs : List FuncForm) → passed_in chosen nops [] f funcs ≡ 0
none_in chosen nops f [] = refl
none_in chosen nops f (func ∷ funcs) =
    let here = none_from chosen nops f 0 (starts_in func.body) in
    let rest = none_in chosen nops (f + 1) funcs in
    omega (arith, here, rest)

pub none_passed : (chosen : Choice) (whole : ModuleForm) → times_passed chosen whole [] ≡ 0
none_passed chosen whole = none_in chosen (nops_in whole) 0 whole.funcs

-- A place of flat code is one `nop` at most.

abbrev nop_of : Option Form → ℕ
nop_of (Some (Plain Nop)) = 1
nop_of _ = 0

before_all : (fs : List Form) (p at : ℕ) → at < p → count_by (nat_eq at) (nops_from p fs) ≡ 0
before_all [] p at less = refl
before_all (Plain Nop ∷ fs) p at less =
    let here : cond {A = ℕ} (nat_eq at p) 1 0 ≡ 0 = ap (λ (b : Bool). cond {A = ℕ} b 1 0) (ne_eqb at p (λ e. omega (arith, less, e))) in
    let one = counted (nat_eq at) p (nops_from (p + 1) fs) in
    let rest = before_all fs (p + 1) at (omega (arith, less)) in
    omega (arith, here, one, rest)
before_all (f ∷ fs) p at less = before_all fs (p + 1) at (omega (arith, less))

nops_there : (fs : List Form) (p j : ℕ) → count_by (nat_eq (p + j)) (nops_from p fs) ≡ nop_of (slice_get fs j)
nops_there [] p j = refl
nops_there (Plain Nop ∷ fs) p zero =
    let here : cond {A = ℕ} (nat_eq (p + 0) p) 1 0 ≡ 1 = ap (λ (b : Bool). cond {A = ℕ} b 1 0) (eq-eqb (p + 0) p (omega arith)) in
    let one = counted (nat_eq (p + 0)) p (nops_from (p + 1) fs) in
    let rest = before_all fs (p + 1) (p + 0) (omega arith) in
    omega (arith, here, one, rest)
nops_there (f ∷ fs) p zero = before_all fs (p + 1) (p + 0) (omega arith)
nops_there (Plain Nop ∷ fs) p (suc j) =
    let later : nat_eq (p + suc j) p ≡ false = ne_eqb (p + suc j) p (λ e. omega (arith, e)) in
    let here : cond {A = ℕ} (nat_eq (p + suc j) p) 1 0 ≡ 0 = ap (λ (b : Bool). cond {A = ℕ} b 1 0) later in
    let one = counted (nat_eq (p + suc j)) p (nops_from (p + 1) fs) in
    let same : p + suc j ≡ (p + 1) + j = omega arith in
    let rest : count_by (nat_eq (p + suc j)) (nops_from (p + 1) fs) ≡ nop_of (slice_get fs j) =
    ap (λ (n : ℕ). count_by (nat_eq n) (nops_from (p + 1) fs)) same ∙ nops_there fs (p + 1) j in
    omega (arith, here, one, rest)
nops_there (f ∷ fs) p (suc j) =
    let same : p + suc j ≡ (p + 1) + j = omega arith in
    ap (λ (n : ℕ). count_by (nat_eq n) (nops_from (p + 1) fs)) same ∙ nops_there fs (p + 1) j

-- The code at a place of flat code begins so, if a `nop` is there.
begun_there : (chosen : Choice) (fs : List Form) (at : ℕ) → cond (chosen (code_from fs at)) (nop_of (slice_get fs at)) 0 ≡ begun_at chosen (code_from fs at)
begun_there chosen [] zero = none_of (chosen (code_from [] zero))
begun_there chosen [] (suc at) = none_of (chosen (code_from [] (suc at)))
begun_there chosen (Plain Nop ∷ fs) zero = refl
begun_there chosen (f ∷ fs) zero = none_of (chosen (code_from (f ∷ fs) zero))
begun_there chosen (f ∷ fs) (suc at) = begun_there chosen fs at

-- Where no statement begins in flat code none of it begins so.
none_begun : (chosen : Choice) (fs : List Form) (at : ℕ) → BeginsNone fs → begun_at chosen (code_from fs at) ≡ 0
none_begun chosen fs at none =
    sym (begun_there chosen fs at) ∙ ap (λ (m : ℕ). cond (chosen (code_from fs at)) m 0) (by (slice_get fs at) (none at)) ∙ none_of (chosen (code_from fs at))
  where
    by : (o : Option Form) → (o ≡ Some (Plain Nop) → ⊥) → nop_of o ≡ 0
    by (Some (Plain Nop)) away = absurd (away refl)
    by o away = refl

-- One moment.

module _ (chosen : Choice) (whole : ModuleForm) (x : Moment) where
  abbrev once : List Moment
  once = x ∷ []

  -- at another function
  elsewhere : (f : ℕ) (o : Option ℕ) → x.place.function ≢ f → times_at once f o ≡ 0
  elsewhere f None away = refl
  elsewhere f (Some at) away =
      let no : stood f at x ≡ false = ap (λ (b : Bool). b && nat_eq x.place.at at) (ne_eqb x.place.function f away) in
      let one : times_at once f (Some at) ≡ cond (stood f at x) 1 0 + 0 = counted (stood f at) x [] in
      one ∙ ap (λ (b : Bool). cond {A = ℕ} b 1 0 + 0) no

  elsewhere_from : (f k : ℕ) (codes : List Instructions) → x.place.function ≢ f → passed_from chosen (nops_in whole) once f k codes ≡ 0
  elsewhere_from f k [] away = refl
  elsewhere_from f k (code ∷ codes) away =
      let here : cond (chosen code) (passes (nops_in whole) once f k) 0 ≡ 0 =
      ap (λ (n : ℕ). cond (chosen code) n 0) (elsewhere f (entry (nops_in whole) f k) away) ∙ none_of (chosen code) in
      let rest = elsewhere_from f (k + 1) codes away in
      omega (arith, here, rest)

  later_functions : (f : ℕ) (funcs : List FuncForm) → x.place.function < f → passed_in chosen (nops_in whole) once f funcs ≡ 0
  later_functions f [] less = refl
  later_functions f (func ∷ funcs) less =
      let here = elsewhere_from f 0 (starts_in func.body) (λ e. omega (arith, less, e)) in
      let rest = later_functions (f + 1) funcs (omega (arith, less)) in
      omega (arith, here, rest)

  -- in its function, at the places from one on, beside the code at each
  module _ (fs : List Form) where
    abbrev there : Instructions
    there = code_from fs x.place.at

    here_once : (f n : ℕ) (code : Instructions) → x.place.function ≡ f → code ≡ code_from fs n
        → cond (chosen code) (times_at once f (Some n)) 0 ≡ cond (chosen there) (cond (nat_eq x.place.at n) 1 0) 0
    here_once f n code same is = by (eqb_tells x.place.at n)
      where
        times : times_at once f (Some n) ≡ cond (nat_eq x.place.at n) 1 0
        times =
            let yes : stood f n x ≡ nat_eq x.place.at n = ap (λ (b : Bool). b && nat_eq x.place.at n) (eq-eqb x.place.function f same) in
            let one : times_at once f (Some n) ≡ cond (stood f n x) 1 0 + 0 = counted (stood f n) x [] in
            let shown : cond {A = ℕ} (stood f n x) 1 0 ≡ cond (nat_eq x.place.at n) 1 0 = ap (λ (b : Bool). cond {A = ℕ} b 1 0) yes in
            omega (arith, one, shown)

        by : ((nat_eq x.place.at n ≡ true) × (x.place.at ≡ n)) ⊎ ((nat_eq x.place.at n ≡ false) × (x.place.at ≢ n))
            → cond (chosen code) (times_at once f (Some n)) 0 ≡ cond (chosen there) (cond (nat_eq x.place.at n) 1 0) 0
        by (inl q) = ap₂ (λ (c : Instructions) (m : ℕ). cond (chosen c) m 0) (is ∙ ap (code_from fs) (sym q.1)) times
        by (inr q) =
            let no : cond {A = ℕ} (nat_eq x.place.at n) 1 0 ≡ 0 = ap (λ (b : Bool). cond {A = ℕ} b 1 0) q.0 in
            ap (λ (m : ℕ). cond (chosen code) m 0) (times ∙ no) ∙ none_of (chosen code)
            ∙ sym (ap (λ (m : ℕ). cond (chosen there) m 0) no ∙ none_of (chosen there))

    from_matches : (f k : ℕ) (ns : List ℕ) (codes : List Instructions) → x.place.function ≡ f → Matches 0 fs ns codes
        → ((j : ℕ) → entry (nops_in whole) f (k + j) ≡ slice_get ns j)
        → passed_from chosen (nops_in whole) once f k codes ≡ cond (chosen there) (count_by (nat_eq x.place.at) ns) 0
    from_matches f k [] [] same m row = sym (none_of (chosen there))
    from_matches f k (n ∷ ns) (code ∷ codes) same m row =
        let at : entry (nops_in whole) f k ≡ Some n = ap (entry (nops_in whole) f) (let e : k ≡ k + 0 = omega arith in e) ∙ row 0 in
        let number : m.0.0 ≡ n = (let e = m.0.1 in omega (arith, e)) in
        let is : code ≡ code_from fs n = m.0.2 ∙ ap (code_from fs) number in
        let here : cond (chosen code) (passes (nops_in whole) once f k) 0 ≡ cond (chosen there) (cond (nat_eq x.place.at n) 1 0) 0 =
        ap (λ (o : Option ℕ). cond (chosen code) (times_at once f o) 0) at ∙ here_once f n code same is in
        let rest = from_matches f (k + 1) ns codes same m.1
        (λ j. ap (entry (nops_in whole) f) (let e : (k + 1) + j ≡ k + suc j = omega arith in e) ∙ row (suc j)) in
        let all = ap (λ (m : ℕ). cond (chosen there) m 0) (counted (nat_eq x.place.at) n ns)
        ∙ sum_of (chosen there) (cond (nat_eq x.place.at n) 1 0) (count_by (nat_eq x.place.at) ns) in
        omega (arith, here, rest, all)
    from_matches f k [] (code ∷ codes) same m row = absurd m
    from_matches f k (n ∷ ns) [] same m row = absurd m

  module _ (frame : FrameForm) (stands : StandsAt whole x.place (Some frame)) where
    in_function : (func : FuncForm) → slice_get whole.funcs x.place.function ≡ Some func
        → passed_from chosen (nops_in whole) once x.place.function 0 (starts_in func.body) ≡ begun_at chosen frame.code
    in_function func is =
        let fs = flat 0 func.body in
        let row : slice_get (nops_in whole) x.place.function ≡ Some (nops_of func) = slice_get-map nops_of whole.funcs x.place.function ∙ ap (option_map nops_of) is in
        let entries : (j : ℕ) → entry (nops_in whole) x.place.function (0 + j) ≡ slice_get (nops_of func) j =
        λ j. ap (λ (o : Option (List ℕ)). option_and_then (λ (ns : List ℕ). slice_get ns (0 + j)) o) row ∙ ap (slice_get (nops_of func)) (let e : 0 + j ≡ j = omega arith in e) in
        let sum = from_matches fs x.place.function 0 (nops_of func) (starts_in func.body) refl (matched func.body 0 fs (code_flat fs func.body refl)) entries in
        let at : count_by (nat_eq x.place.at) (nops_of func) ≡ nop_of (slice_get fs x.place.at) =
        ap (λ (n : ℕ). count_by (nat_eq n) (nops_of func)) (let e : x.place.at ≡ 0 + x.place.at = omega arith in e) ∙ nops_there fs 0 x.place.at in
        let next : frame ≡ framed_at stands.code stands.words x.place.at = cc (stands.stands) in
        let code : code_from fs x.place.at ≡ frame.code =
        ap (λ (gs : List Form). code_from gs x.place.at) (sym (stands.body func is)) ∙ sym (ap (λ (f : FrameForm). f.code) next) in
        sum ∙ ap (λ (m : ℕ). cond (chosen (code_from fs x.place.at)) m 0) at ∙ begun_there chosen fs x.place.at ∙ ap (begun_at chosen) code

    -- what a function is worth, if it is the one at work
    abbrev worth : Option FuncForm → ℕ
    worth None = 0
    worth (Some func) = begun_at chosen frame.code

    from_function : (f j : ℕ) (funcs : List FuncForm) → x.place.function ≡ f + j → ((i : ℕ) → slice_get whole.funcs (f + i) ≡ slice_get funcs i)
        → passed_in chosen (nops_in whole) once f funcs ≡ worth (slice_get funcs j)
    from_function f j [] e rest = refl
    from_function f zero (func ∷ funcs) e rest =
        let same : x.place.function ≡ f = omega (arith, e) in
        let is : slice_get whole.funcs x.place.function ≡ Some func = ap (slice_get whole.funcs) e ∙ rest 0 in
        let here : passed_from chosen (nops_in whole) once f 0 (starts_in func.body) ≡ begun_at chosen frame.code =
        ap (λ (n : ℕ). passed_from chosen (nops_in whole) once n 0 (starts_in func.body)) (sym same) ∙ in_function func is in
        let later = later_functions (f + 1) funcs (omega (arith, same)) in
        omega (arith, here, later)
    from_function f (suc j) (func ∷ funcs) e rest =
        let here = elsewhere_from f 0 (starts_in func.body) (λ same. omega (arith, e, same)) in
        let later = from_function (f + 1) j funcs (omega (arith, e))
        (λ i. ap (slice_get whole.funcs) (let q : (f + 1) + i ≡ f + suc i = omega arith in q) ∙ rest (suc i)) in
        omega (arith, here, later)

    one_in_function : times_passed chosen whole once ≡ worth (slice_get whole.funcs x.place.function)
    one_in_function =
        from_function 0 x.place.function whole.funcs (omega arith) (λ i. ap (slice_get whole.funcs) (let q : 0 + i ≡ i = omega arith in q))

    -- the places that one moment passed
    pub one_passed : times_passed chosen whole once ≡ begun_at chosen frame.code
    one_passed = one_in_function ∙ by (slice_get whole.funcs x.place.function) refl
      where
        next : frame ≡ framed_at stands.code stands.words x.place.at
        next = cc (stands.stands)

        by : (o : Option FuncForm) → slice_get whole.funcs x.place.function ≡ o → worth o ≡ begun_at chosen frame.code
        by (Some func) q = refl
        by None q = sym (ap (λ (f : FrameForm). begun_at chosen f.code) next ∙ none_begun chosen stands.code.forms x.place.at (stands.first q))

-- The code that comes next begins so where the code does, if nothing is settled before a statement.

begins_none : (chosen : Choice) (code : Instructions) → begins_statement code ≡ false → begun_at chosen code ≡ 0
begins_none chosen (Then (tree.Plain Nop) code) e = cc
begins_none chosen code e = refl

begun_settled : (chosen : Choice) (code : Instructions) → begun_at chosen code ≤ begun_at chosen (settled_code code)
begun_settled chosen (Then (tree.Plain Nop) code) = omega arith
begun_settled chosen code = omega arith

pub settled_same : (chosen : Choice) (code : Instructions) → (begins_statement (settled_code code) ≡ true → settled_code code ≡ code)
    → begun_at chosen (settled_code code) ≡ begun_at chosen code
settled_same chosen code same = by (begins_statement (settled_code code)) refl
  where
    by : (b : Bool) → begins_statement (settled_code code) ≡ b → begun_at chosen (settled_code code) ≡ begun_at chosen code
    by true q = ap (begun_at chosen) (same q)
    by false q =
        let none = begins_none chosen (settled_code code) q in
        let most = begun_settled chosen code in
        omega (arith, none, most)
