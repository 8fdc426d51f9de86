-- What the algorithm does to a stack of types is exactly what the typing allows.
use Rattle.std.proofs.Common.{◌≡◌, List, [], ◌∷◌, ◌++◌, Option, Some, None, Bool, true, false, refl, sym, ap, ◌∙◌, subst, append_assoc, append-nil}
use Rattle.std.specs.Prelude.{IsSomeAnd}
use Rattle.wasm_types.specs.declared.types.ValType.{ValType}
use Rattle.wasm_types.specs.declared.types.ValType.TheVariants.{I32, I64}
use Rattle.wasm_types.specs.Typing.{one, Effect, Fixed, Leaves, Drops, Selects}
use Rattle.module_validator.specs.Forms.{Form, Matches, FitsBoth, Fits, next, given, pop_both, pop, any_both, pop_any, push, push_one, pops, select_by, selects, after, Moves, AfterIsExact}

-- a step of the algorithm that gives what is known below what it took
abbrev pub Gives : Option Form → List ValType → Type 0
Gives r ks = IsSomeAnd r (λ t. Fits t ks)

pop_there : (k : ValType) (es : List (Option ValType)) (o : Bool) (ks : List ValType) → FitsBoth es o (k ∷ ks) → Gives (pop_both k es o) ks
pop_there k [] true ks h = tt
pop_there k [] false ks h = cc
pop_there k (None ∷ es) o ks h = h.1
pop_there I32 (Some I32 ∷ es) o ks h = h.1
pop_there I32 (Some I64 ∷ es) o ks h = let e : I32 ≡ I64 = h.0 in cc
pop_there I64 (Some I32 ∷ es) o ks h = let e : I64 ≡ I32 = h.0 in cc
pop_there I64 (Some I64 ∷ es) o ks h = h.1

pop_back : (k : ValType) (es : List (Option ValType)) (o : Bool) (ks : List ValType) → Gives (pop_both k es o) ks → FitsBoth es o (k ∷ ks)
pop_back k [] true ks h = tt
pop_back k [] false ks h = absurd h
pop_back k (None ∷ es) o ks h = (tt, h)
pop_back I32 (Some I32 ∷ es) o ks h = (refl, h)
pop_back I32 (Some I64 ∷ es) o ks h = absurd h
pop_back I64 (Some I32 ∷ es) o ks h = absurd h
pop_back I64 (Some I64 ∷ es) o ks h = (refl, h)

next_there : {A B : Type 0} (r : Option A) (f : A → Option B) (P : A → Type 0) (Q : B → Type 0) → IsSomeAnd r P → ((x : A) → P x → IsSomeAnd (f x) Q) → IsSomeAnd (next r f) Q
next_there None f P Q h k = absurd h
next_there (Some x) f P Q h k = k x h

next_back : {A B C : Type 0} (r : Option A) (f : A → Option B) (Q : B → Type 0) → IsSomeAnd (next r f) Q → ((x : A) → r ≡ Some x → IsSomeAnd (f x) Q → C) → C
next_back None f Q h k = absurd h
next_back (Some x) f Q h k = k x refl h

pub pops_there : (ps : List ValType) (s : Form) (ks : List ValType) → Fits s (ps ++ ks) → Gives (pops ps s) ks
pops_there [] s ks h = h
pops_there (p ∷ ps) s ks h = next_there (pop p s) (λ t. pops ps t) (λ t. Fits t (ps ++ ks)) (λ t. Fits t ks) (pop_there p s.0 s.1 (ps ++ ks) h) (λ t g. pops_there ps t ks g)

pub pops_back : (ps : List ValType) (s : Form) (ks : List ValType) → Gives (pops ps s) ks → Fits s (ps ++ ks)
pops_back [] s ks h = h
pops_back (p ∷ ps) s ks h = next_back (pop p s) (λ t. pops ps t) (λ t. Fits t ks) h (λ t e g. pop_back p s.0 s.1 (ps ++ ks) (subst (λ r. Gives r (ps ++ ks)) (sym e) (pops_back ps t ks g)))

-- some stack is always allowed
inhabited_both : (es : List (Option ValType)) (o : Bool) → (ks : List ValType) × FitsBoth es o ks
inhabited_both [] true = ([], tt)
inhabited_both [] false = ([], refl)
inhabited_both (None ∷ es) o = let r = inhabited_both es o in (I32 ∷ r.0, (tt, r.1))
inhabited_both (Some k ∷ es) o = let r = inhabited_both es o in (k ∷ r.0, (refl, r.1))

given_there : {A B : Type 0} (r : Option A) (f : A → B) (P : A → Type 0) (Q : B → Type 0) → IsSomeAnd r P → ((x : A) → P x → Q (f x)) → IsSomeAnd (given r f) Q
given_there None f P Q h k = absurd h
given_there (Some x) f P Q h k = k x h

given_back : {A B C : Type 0} (r : Option A) (f : A → B) (Q : B → Type 0) → IsSomeAnd (given r f) Q → ((x : A) → r ≡ Some x → Q (f x) → C) → C
given_back None f Q h k = absurd h
given_back (Some x) f Q h k = k x refl h

push_there : (g : Option ValType) (s : Form) (ks : List ValType) → Fits s ks → Fits (push_one g s) (one g ++ ks)
push_there None s ks h = h
push_there (Some k) s ks h = (refl, h)

push_back : (g : Option ValType) (s : Form) (ms : List ValType) → Fits (push_one g s) ms → (ks : List ValType) × Fits s ks × (ms ≡ one g ++ ks)
push_back None s ms h = (ms, h, refl)
push_back (Some k) s [] h = absurd h
push_back (Some k) s (m ∷ ms) h = (ms, h.1, ap (λ (x : ValType). x ∷ ms) h.0)

any_there : (k : ValType) (es : List (Option ValType)) (o : Bool) (ks : List ValType) → FitsBoth es o (k ∷ ks) → IsSomeAnd (any_both es o) (λ x. Matches x.0 k × Fits x.1 ks)
any_there k [] true ks h = (tt, tt)
any_there k [] false ks h = cc
any_there k (e ∷ es) o ks h = h

any_back : (es : List (Option ValType)) (o : Bool) (e : Option ValType) (t : Form) (k : ValType) (ks : List ValType) → any_both es o ≡ Some (e, t) → Matches e k → Fits t ks → FitsBoth es o (k ∷ ks)
any_back [] true e t k ks q m h = tt
any_back [] false e t k ks q m h = cc
any_back (d ∷ es) o e t k ks q m h =
    let p : (e, t) ≡ (d, (es, o)) = cc in
    (subst (λ (x : Option ValType). Matches x k) (ap (λ (x : Option ValType × Form). x.0) p) m, subst (λ (x : Form). Fits x ks) (ap (λ (x : Option ValType × Form). x.1) p) h)

some_kind : (e : Option ValType) → (k : ValType) × Matches e k
some_kind None = (I32, tt)
some_kind (Some k) = (k, refl)

push_any_back : (e : Option ValType) (s : Form) (ms : List ValType) → Fits (push e s) ms → (m : ValType) × (under : List ValType) × Matches e m × Fits s under × (ms ≡ m ∷ under)
push_any_back e s [] h = absurd h
push_any_back e s (m ∷ ms) h = (m, ms, h.0, h.1, refl)

select_by_there : (e : Option ValType) (s : Form) (k : ValType) (ks : List ValType) → Matches e k → Fits s (k ∷ ks) → IsSomeAnd (select_by e s) (λ t. Fits t (k ∷ ks))
select_by_there (Some j) s k ks m h =
    given_there (pop j s) (push (Some j)) (λ t. Fits t ks) (λ t. Fits t (k ∷ ks)) (pop_there j s.0 s.1 ks (subst (λ (x : ValType). Fits s (x ∷ ks)) m h)) (λ t g. (m, g))
select_by_there None s k ks m h =
    given_there (pop_any s) (λ x. push x.0 x.1) (λ x. Matches x.0 k × Fits x.1 ks) (λ t. Fits t (k ∷ ks)) (any_there k s.0 s.1 ks h) (λ x g. g)

select_by_back : (e : Option ValType) (s : Form) (ms : List ValType) → IsSomeAnd (select_by e s) (λ t. Fits t ms) → (k : ValType) × (under : List ValType) × Matches e k × Fits s (k ∷ under) × (ms ≡ k ∷ under)
select_by_back (Some j) s ms h =
    given_back (pop j s) (push (Some j)) (λ t. Fits t ms) h (λ t e g.
    let r = push_any_back (Some j) t ms g in
    (j, r.1, refl, pop_back j s.0 s.1 r.1 (subst (λ x. Gives x r.1) (sym e) r.3), r.4 ∙ ap (λ (x : ValType). x ∷ r.1) r.2))
select_by_back None s ms h =
    given_back (pop_any s) (λ x. push x.0 x.1) (λ t. Fits t ms) h (λ x e g.
    let r = push_any_back x.0 x.1 ms g in
    (r.0, r.1, tt, any_back s.0 s.1 x.0 x.1 r.0 r.1 e r.2 r.3, r.4))

selects_there : (s : Form) (k : ValType) (ks : List ValType) → Fits s (I32 ∷ (k ∷ (k ∷ ks))) → IsSomeAnd (selects s) (λ t. Fits t (k ∷ ks))
selects_there s k ks h =
    next_there (pop I32 s) (λ t. next (pop_any t) (λ x. select_by x.0 x.1)) (λ t. Fits t (k ∷ (k ∷ ks))) (λ t. Fits t (k ∷ ks)) (pop_there I32 s.0 s.1 (k ∷ (k ∷ ks)) h) (λ t g.
    next_there (pop_any t) (λ x. select_by x.0 x.1) (λ x. Matches x.0 k × Fits x.1 (k ∷ ks)) (λ t. Fits t (k ∷ ks)) (any_there k t.0 t.1 (k ∷ ks) g) (λ x m. select_by_there x.0 x.1 k ks m.0 m.1))

selects_back : (s : Form) (ms : List ValType) → IsSomeAnd (selects s) (λ t. Fits t ms) → (k : ValType) × (under : List ValType) × Fits s (I32 ∷ (k ∷ (k ∷ under))) × (ms ≡ k ∷ under)
selects_back s ms h =
    next_back (pop I32 s) (λ t. next (pop_any t) (λ x. select_by x.0 x.1)) (λ t. Fits t ms) h (λ t e g.
    next_back (pop_any t) (λ x. select_by x.0 x.1) (λ t. Fits t ms) g (λ x d q.
    let r = select_by_back x.0 x.1 ms q in
    (r.0, r.1, pop_back I32 s.0 s.1 (r.0 ∷ (r.0 ∷ r.1)) (subst (λ y. Gives y (r.0 ∷ (r.0 ∷ r.1))) (sym e) (any_back t.0 t.1 x.0 x.1 r.0 (r.0 ∷ r.1) d r.2 r.3)), r.4)))

pub exact_there : (e : Effect) (s : Form) (ms ks : List ValType) → Fits s ks → Moves e ks ms → IsSomeAnd (after e s) (λ t. Fits t ms)
exact_there (Fixed ts g) s ms ks h m =
    let q : ks ≡ ts ++ m.2 = m.4 ∙ ap (λ (zs : List ValType). zs ++ m.2) m.3.0 in
    let p : ms ≡ one g ++ m.2 = m.5 ∙ ap (λ (zs : List ValType). zs ++ m.2) m.3.1 in
    given_there (pops ts s) (push_one g) (λ t. Fits t m.2) (λ t. Fits t ms) (pops_there ts s m.2 (subst (λ (zs : List ValType). Fits s zs) q h)) (λ t f. subst (λ (zs : List ValType). Fits (push_one g t) zs) (sym p) (push_there g t m.2 f))
exact_there (Leaves ts) s ms ks h m =
    let q : ks ≡ ts ++ (m.3.0 ++ m.2) = m.4 ∙ (ap (λ (zs : List ValType). zs ++ m.2) m.3.1 ∙ append_assoc ts m.3.0 m.2) in
    given_there (pops ts s) (λ t. ([], true)) (λ t. Fits t (m.3.0 ++ m.2)) (λ t. Fits t ms) (pops_there ts s (m.3.0 ++ m.2) (subst (λ (zs : List ValType). Fits s zs) q h)) (λ t f. tt)
exact_there Drops s ms ks h m =
    let q : ks ≡ m.3.0 ∷ m.2 = m.4 ∙ ap (λ (zs : List ValType). zs ++ m.2) m.3.1 in
    let p : ms ≡ m.2 = m.5 ∙ ap (λ (zs : List ValType). zs ++ m.2) m.3.2 in
    given_there (pop_any s) (λ x. x.1) (λ x. Matches x.0 m.3.0 × Fits x.1 m.2) (λ t. Fits t ms) (any_there m.3.0 s.0 s.1 m.2 (subst (λ (zs : List ValType). Fits s zs) q h)) (λ x f. subst (λ (zs : List ValType). Fits x.1 zs) (sym p) f.1)
exact_there Selects s ms ks h m =
    let q : ks ≡ I32 ∷ (m.3.0 ∷ (m.3.0 ∷ m.2)) = m.4 ∙ ap (λ (zs : List ValType). zs ++ m.2) m.3.1 in
    let p : ms ≡ m.3.0 ∷ m.2 = m.5 ∙ ap (λ (zs : List ValType). zs ++ m.2) m.3.2 in
    subst (λ (zs : List ValType). IsSomeAnd (selects s) (λ t. Fits t zs)) (sym p) (selects_there s m.3.0 m.2 (subst (λ (zs : List ValType). Fits s zs) q h))

pub exact_back : (e : Effect) (s : Form) (ms : List ValType) → IsSomeAnd (after e s) (λ t. Fits t ms) → (ks : List ValType) × Fits s ks × Moves e ks ms
exact_back (Fixed ts g) s ms h =
    given_back (pops ts s) (push_one g) (λ t. Fits t ms) h (λ t e f.
    let r = push_back g t ms f in
    (ts ++ r.0, pops_back ts s r.0 (subst (λ x. Gives x r.0) (sym e) r.1), (ts, one g, r.0, (refl, refl), refl, r.2)))
exact_back (Leaves ts) s ms h =
    given_back (pops ts s) (λ t. ([], true)) (λ t. Fits t ms) h (λ t e f.
    let r = inhabited_both t.0 t.1 in
    (ts ++ r.0, pops_back ts s r.0 (subst (λ x. Gives x r.0) (sym e) r.1), (ts ++ r.0, ms, [], (r.0, refl), sym (append-nil (ts ++ r.0)), sym (append-nil ms))))
exact_back Drops s ms h =
    given_back (pop_any s) (λ x. x.1) (λ t. Fits t ms) h (λ x e f.
    let k = some_kind x.0 in
    (k.0 ∷ ms, any_back s.0 s.1 x.0 x.1 k.0 ms e k.1 f, (k.0 ∷ [], [], ms, (k.0, refl, refl), refl, refl)))
exact_back Selects s ms h =
    let r = selects_back s ms h in
    (I32 ∷ (r.0 ∷ (r.0 ∷ r.1)), r.2, (I32 ∷ (r.0 ∷ (r.0 ∷ [])), r.0 ∷ [], r.1, (r.0, refl, refl), refl, r.3))

pub after_exact : AfterIsExact
after_exact e s ms = (λ h. exact_there e s ms h.0 h.1 h.2, λ h. exact_back e s ms h)
