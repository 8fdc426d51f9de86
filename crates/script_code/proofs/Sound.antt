-- What a tree's code needs, at each of its nodes, and that a tree has it whose marks are met.
use Rattle.std.proofs.Common.{◌≡◌, ℕ, suc, ◌+◌, Bool, true, false, List, [], ◌∷◌, ◌++◌, refl, sym, ap, subst, ◌∙◌, true≢false, ne_eqb, arith}
use Rattle.std.proofs.lemmas.Bool.{and_parts, not-true}
use Rattle.std.specs.Prelude.{IsTrue, Option}
use Rattle.std.specs.List.{list_all}
use Rattle.awk_tokens.specs.declared.reserved_words.Builtin.{Builtin}
use Rattle.awk_tokens.specs.declared.reserved_words.Builtin.TheVariants.{Split}
use Rattle.awk_grammar.specs.Tree.{IsSome, IsWellFormed, AreWellFormed, suits, within, second_is_var}
use Rattle.awk_grammar.specs.Trees.{count, Tree, Leaf, Length, Var, Index, Field, Group, Call, Apply, Unary, Pre, Post, Bin, Has, HasList, Cond, Get, GetInto, GetFrom, GetIntoFrom, Trees, NoTree, Then}
use Rattle.awk_grammar.specs.Marks.{Array, Scalar, Mark, Used, Called, Computed, Given, fills, marks, all_marks, computed_marks, argument_marks, operand_marks}
use Rattle.sem_scripts.specs.Names.{Name, Resolved, Scope, is_array, kind_at}
use Rattle.mid_program.specs.Texts.{literal_texts, texts_in, all_texts}
use Rattle.script_code.specs.Fits.{is_scalar, is_function, parameters_named, takes_array, is_passed, scope_at, is_met, AreMet}
use Rattle.script_code.proofs.Good.{is_within}

-- both parts of a list
pub parts : {A : Type 0} (p : A → Bool) (xs ys : List A) → list_all p (xs ++ ys) ≡ true → (list_all p xs ≡ true) × (list_all p ys ≡ true)
parts p [] ys h = (refl, h)
parts p (x ∷ xs) ys h =
    let both = and_parts (p x) (list_all p (xs ++ ys)) h in
    let rest = parts p xs ys both.1 in
    (rw (both.0, rest.0) refl, rest.1)

abbrev pub AllWithin : List (List ℕ) → List (List ℕ) → Type 0
AllWithin texts ts = IsTrue (list_all (is_within texts) ts)

module _ (texts : List (List ℕ)) (scope : Scope) where
  abbrev mutual
    pub Sound : Tree → Type 0
    Sound (Leaf c) = AllWithin texts (literal_texts c)
    Sound Length = Unit {0}
    Sound (Var x) = IsTrue (is_scalar scope x)
    Sound (Index x ts) = IsTrue (is_array scope x) × IsSome ts × AllSound ts
    Sound (Field t) = Sound t
    Sound (Group t) = Sound t
    Sound (Call f ts) = IsTrue (is_function scope.script f) × Passed (parameters_named scope.script f) ts
    Sound (Apply f ts) = Applied f ts
    Sound (Unary p t) = Sound t
    Sound (Pre s t) = Sound t
    Sound (Post s t) = Sound t
    Sound (Bin op a b) = Sound a × Sound b
    Sound (Has t x) = Sound t × IsTrue (is_array scope x)
    Sound (HasList t ts x) = Sound t × IsSome ts × AllSound ts × IsTrue (is_array scope x)
    Sound (Cond c a b) = Sound c × Sound a × Sound b
    Sound Get = Unit {0}
    Sound (GetInto v) = Sound v
    Sound (GetFrom s) = Sound s
    Sound (GetIntoFrom v s) = Sound v × Sound s

    pub AllSound : Trees → Type 0
    AllSound NoTree = Unit {0}
    AllSound (Then t ts) = Sound t × AllSound ts

    -- arguments for these parameters
    pub Passed : List Name → Trees → Type 0
    Passed ps NoTree = Unit {0}
    Passed [] (Then t ts) = Unit {0}
    Passed (p ∷ ps) (Then (Var x) ts) = IsTrue (is_passed scope p.is_array x) × Passed ps ts
    Passed (p ∷ ps) (Then t ts) = (p.is_array ≡ false) × Sound t × Passed ps ts

    pub Applied : Builtin → Trees → Type 0
    Applied Split (Then s (Then (Var a) ts)) = Sound s × IsTrue (is_array scope a) × AllSound ts
    Applied Split ts = ⊥
    Applied f NoTree = IsTrue (suits f NoTree)
    Applied f (Then t ts) = IsTrue (suits f (Then t ts)) × Sound t × AllSound ts

module _ (texts : List (List ℕ)) (script : Resolved) (place : Option (List ℕ)) where
  abbrev here : Scope
  here = scope_at script place

  abbrev Met : Tree → Type 0
  Met t = AreMet script (marks place t)

  met_parts : (xs ys : List Mark) → AreMet script (xs ++ ys) → AreMet script xs × AreMet script ys
  met_parts xs ys h = parts (is_met script) xs ys h

  text_parts : (xs ys : List (List ℕ)) → AllWithin texts (xs ++ ys) → AllWithin texts xs × AllWithin texts ys
  text_parts xs ys h = parts (is_within texts) xs ys h

  one_met : (m : Mark) (ms : List Mark) → AreMet script (m ∷ ms) → IsTrue (is_met script m) × AreMet script ms
  one_met m ms h = and_parts (is_met script m) (list_all (is_met script) ms) h

  mutual
    unfolding texts_in all_texts

    pub sound : (t : Tree) (g : Bool) → IsWellFormed g t → Met t → AllWithin texts (texts_in t) → Sound texts here t
    sound (Leaf c) g w m h = h
    sound Length g w m h = tt
    sound (Var x) g w m h = (one_met (Used Scalar place x) [] m).0
    sound (Index x ts) g w m h = let p = one_met (Used Array place x) (all_marks place ts) m in (p.0, w.1, all_sound ts true w.0 p.1 h)
    sound (Field t) g w m h = sound t g w.0 m h
    sound (Group t) g w m h = sound t true w m h
    sound (Call f ts) g w m h =
        let p = one_met (Called f (count ts)) (computed_marks f 0 ts ++ argument_marks place f 0 ts) m in
        let q = met_parts (computed_marks f 0 ts) (argument_marks place f 0 ts) p.1 in
        (p.0, passed_sound f 0 ts (parameters_named script f) (λ k. ap (kind_at (parameters_named script f)) (omega arith)) w q.0 q.1 h)
    sound (Apply f ts) g w m h = applied_sound f ts w.0 w.1 m h
    sound (Unary p t) g w m h = sound t g w.0 m h
    sound (Pre s t) g w m h = sound t g w.0 m h
    sound (Post s t) g w m h = sound t g w.0 m h
    sound (Bin op a b) g w m h = let p = met_parts (marks place a) (marks place b) m in let q = text_parts (texts_in a) (texts_in b) h in (sound a g w.0 p.0 q.0, sound b g w.1 p.1 q.1)
    sound (Has t x) g w m h = let p = met_parts (marks place t) (Used Array place x ∷ []) m in (sound t g w.0 p.0 h, (one_met (Used Array place x) [] p.1).0)
    sound (HasList t ts x) g w m h =
        let p = met_parts (marks place t) (all_marks place ts ++ Used Array place x ∷ []) m in
        let r = met_parts (all_marks place ts) (Used Array place x ∷ []) p.1 in
        let q = text_parts (texts_in t) (all_texts ts) h in
        (sound t true w.0 p.0 q.0, w.2, all_sound ts true w.1 r.0 q.1, (one_met (Used Array place x) [] r.1).0)
    sound (Cond c a b) g w m h =
        let p = met_parts (marks place c) (marks place a ++ marks place b) m in
        let r = met_parts (marks place a) (marks place b) p.1 in
        let q = text_parts (texts_in c) (texts_in a ++ texts_in b) h in
        let s = text_parts (texts_in a) (texts_in b) q.1 in
        (sound c g w.0 p.0 q.0, sound a g w.1 r.0 s.0, sound b g w.2 r.1 s.1)
    sound Get g w m h = tt
    sound (GetInto v) g w m h = sound v g w.0 m h
    sound (GetFrom s) g w m h = sound s g w.0 m h
    sound (GetIntoFrom v s) g w m h = let p = met_parts (marks place v) (marks place s) m in let q = text_parts (texts_in v) (texts_in s) h in (sound v g w.0 p.0 q.0, sound s g w.2 p.1 q.1)

    pub all_sound : (ts : Trees) (g : Bool) → AreWellFormed g ts → AreMet script (all_marks place ts) → AllWithin texts (all_texts ts) → AllSound texts here ts
    all_sound NoTree g w m h = tt
    all_sound (Then t ts) g w m h = let p = met_parts (marks place t) (all_marks place ts) m in let q = text_parts (texts_in t) (all_texts ts) h in (sound t g w.0 p.0 q.0, all_sound ts g w.1 p.1 q.1)

    -- operands from a number on, of which none is filled
    operands_sound : (f : Builtin) (i : ℕ) (ts : Trees) → ((k : ℕ) → fills f (i + k) ≡ false) → AreWellFormed true ts → AreMet script (operand_marks place f i ts) → AllWithin texts (all_texts ts) → AllSound texts here ts
    operands_sound f i NoTree n w m h = tt
    operands_sound f i (Then t ts) n w m h =
        let e : fills f i ≡ false = ap (fills f) (omega arith) ∙ n 0 in
        let m1 : AreMet script (marks place t ++ operand_marks place f (i + 1) ts) = rw e at m in
        let p = met_parts (marks place t) (operand_marks place f (i + 1) ts) m1 in
        let q = text_parts (texts_in t) (all_texts ts) h in
        (sound t true w.0 p.0 q.0, operands_sound f (i + 1) ts (λ k. ap (fills f) (omega arith) ∙ n (suc k)) w.1 p.1 q.1)

    applied_sound : (f : Builtin) (ts : Trees) → AreWellFormed true ts → IsTrue (suits f ts) → AreMet script (operand_marks place f 0 ts) → AllWithin texts (all_texts ts) → Applied texts here f ts
    applied_sound Split (Then s (Then (Var a) ts)) w u m h =
        let p = met_parts (marks place s) (operand_marks place Split 1 (Then (Var a) ts)) m in
        let r = one_met (Used Array place a) (operand_marks place Split 2 ts) p.1 in
        let q = text_parts (texts_in s) (all_texts ts) h in
        (sound s true w.0 p.0 q.0, r.0, operands_sound Split 2 ts (λ k. ne_eqb (2 + k) 1 (omega arith)) w.1.1 r.1 q.1)
    applied_sound Split ts w u m h = absurd (true≢false (sym (and_parts (within 2 3 ts) (second_is_var ts) u).1))
    applied_sound f NoTree w u m h = u
    applied_sound f (Then t ts) w u m h =
        let p = met_parts (marks place t) (operand_marks place f 1 ts) m in
        let q = text_parts (texts_in t) (all_texts ts) h in
        (u, sound t true w.0 p.0 q.0, operands_sound f 1 ts (λ k. refl) w.1 p.1 q.1)

    -- arguments from a number on, for these of the parameters
    passed_sound : (f : List ℕ) (i : ℕ) (ts : Trees) (ps : List Name) → ((k : ℕ) → kind_at (parameters_named script f) (i + k) ≡ kind_at ps k) → AreWellFormed true ts → AreMet script (computed_marks f i ts) → AreMet script (argument_marks place f i ts) → AllWithin texts (all_texts ts) → Passed texts here ps ts
    passed_sound f i NoTree ps e w m l h = tt
    passed_sound f i (Then t ts) [] e w m l h = tt
    passed_sound f i (Then (Var x) ts) (p ∷ ps) e w m l h =
        let array : takes_array script f i ≡ p.is_array = ap (kind_at (parameters_named script f)) (omega arith) ∙ e 0 in
        let q = one_met (Given f i place x) (argument_marks place f (i + 1) ts) l in
        (subst (λ b. IsTrue (is_passed here b x)) array q.0, passed_sound f (i + 1) ts ps (λ k. ap (kind_at (parameters_named script f)) (omega arith) ∙ e (suc k)) w.1 m q.1 h)
    passed_sound f i (Then t ts) (p ∷ ps) e w m l h =
        let array : takes_array script f i ≡ p.is_array = ap (kind_at (parameters_named script f)) (omega arith) ∙ e 0 in
        let n = one_met (Computed f i) (computed_marks f (i + 1) ts) m in
        let q = met_parts (marks place t) (argument_marks place f (i + 1) ts) l in
        let r = text_parts (texts_in t) (all_texts ts) h in
        (sym array ∙ not-true (takes_array script f i) n.0, sound t true w.0 q.0 r.0, passed_sound f (i + 1) ts ps (λ k. ap (kind_at (parameters_named script f)) (omega arith) ∙ e (suc k)) w.1 n.1 q.1 r.1)
