-- What a run does to the names that the host has: only more come, and with a fault none. So at a place from which the run comes to all names it has a front of them.
use Rattle.std.proofs.Common.{◌≡◌, ℕ, zero, suc, ◌+◌, ◌++◌, Bool, true, false, List, [], ◌∷◌, drop, Option, Some, None, append-nil, append_assoc, refl, sym, ap, ◌∙◌, arith, slice_get}
use Rattle.std.specs.Prelude.{if◌then◌else◌}
use Rattle.awk_values.specs.declared.fault.Fault.{Fault}
use Rattle.sem_primitives.specs.Assignments.{declared}
use Rattle.sem_primitives.specs.Texts.{same_text}
use Rattle.sem_primitives.specs.declared.constants.NameKind.{NameKind}
use Rattle.sem_primitives.specs.declared.constants.NameKind.TheVariants.{ArrayOrFunction, Scalar}
use Rattle.mid_program.specs.Mid.{Declared, Routine}
use Rattle.lower_model.specs.Machine.{Code, Conf, Deep, Look, Over, Run, Store, Stuck, go, step}
use Rattle.lower_model.proofs.Announcing.{Telling}
use Rattle.lower_model.proofs.Relation.{globals_told, routines_told}
use Rattle.agreement.proofs.ModulesLemmas.Stores.{InStore, Leads, step_in}
use Rattle.agreement.proofs.WordsLemmas.Names.{call_leaves, look_leaves}

abbrev names_of : Store → List Telling
names_of G = G.host.shared.inner.names

-- these are the first of all names
abbrev pub IsFront : List Telling → List Telling → Type 0
IsFront all names = (rest : List Telling) × (names ++ rest ≡ all)

abbrev pub HasFront : List Telling → Store → Type 0
HasFront all G = IsFront all (names_of G)

-- more names may have come
abbrev Grew : List Telling → Store → Type 0
Grew names G = (more : List Telling) × (names_of G ≡ names ++ more)

-- a fault is kept, and no name was announced
abbrev pub EndsEarly : Fault → Store → Type 0
EndsEarly f G = (G.host.fault ≡ Some f) × (names_of G ≡ [])

module _ (u : Code) where
  go_in : (R : Store → Type 0) → Leads u R R → (n : ℕ) (P : Conf) → InStore R P → InStore R (go u n P)
  go_in R l zero P h = h
  go_in R l (suc n) P h = go_in R l n (step u P) (step_in u R R l P h)

  grew_leads : (names : List Telling) → Leads u (Grew names) (Grew names)
  grew_leads names = record {
    same = λ G q. q;
    noted = λ code G q. q;
    called = λ i cs a G e q. let h = (call_leaves G.host u.memory i cs a e).grows in (q.0 ++ h.more, h.names ∙ (ap (λ z. z ++ h.more) q.1 ∙ append_assoc names q.0 h.more));
    looked = λ i c a G e q. let h = (look_leaves G.host i c a e).grows in (q.0 ++ h.more, h.names ∙ (ap (λ z. z ++ h.more) q.1 ∙ append_assoc names q.0 h.more));
    read = λ x G q. q;
    written = λ x v G e q. q;
  }

  early_leads : (f : Fault) → Leads u (EndsEarly f) (EndsEarly f)
  early_leads f = record {
    same = λ G q. q;
    noted = λ code G q. q;
    called = λ i cs a G e q. let h = (call_leaves G.host u.memory i cs a e).faulted f q.0 in (h.0, h.1 ∙ q.1);
    looked = λ i c a G e q. let h = (look_leaves G.host i c a e).faulted f q.0 in (h.0, h.1 ∙ q.1);
    read = λ x G q. q;
    written = λ x v G e q. q;
  }

  pub early_on : (f : Fault) (n : ℕ) (P : Conf) → InStore (EndsEarly f) P → InStore (EndsEarly f) (go u n P)
  early_on f n P h = go_in (EndsEarly f) (early_leads f) n P h

  module _ (all : List Telling) where
    front_of : (names : List Telling) (G : Store) → Grew names G → HasFront all G → IsFront all names
    front_of names G g f = (g.0 ++ f.0, sym (append_assoc names g.0 f.0) ∙ (ap (λ z. z ++ f.0) (sym g.1) ∙ f.1))

    front_then : (names : List Telling) (P : Conf) → InStore (Grew names) P → InStore (HasFront all) P → (P ≡ Stuck → ⊥) → IsFront all names
    front_then names (Run ks vs K L F c G) g f alive = front_of names G g f
    front_then names (Look x ks vs K L F c G) g f alive = front_of names G g f
    front_then names (Over v G) g f alive = front_of names G g f
    front_then names (Deep G) g f alive = front_of names G g f
    front_then names Stuck g f alive = absurd (alive refl)

    -- what was so later was so before
    pub front_before : (j : ℕ) (P : Conf) → InStore (HasFront all) (go u j P) → (go u j P ≡ Stuck → ⊥) → InStore (HasFront all) P
    front_before j P f alive = by P (λ names h. front_then names (go u j P) (go_in (Grew names) (grew_leads names) j P h) f alive)
      where
        from_here : (names : List Telling) → names ≡ names ++ []
        from_here names = sym (append-nil names)

        by : (Q : Conf) → ((names : List Telling) → InStore (Grew names) Q → IsFront all names) → InStore (HasFront all) Q
        by (Run ks vs K L F c G) h = h (names_of G) ([], from_here (names_of G))
        by (Look x ks vs K L F c G) h = h (names_of G) ([], from_here (names_of G))
        by (Over v G) h = h (names_of G) ([], from_here (names_of G))
        by (Deep G) h = h (names_of G) ([], from_here (names_of G))
        by Stuck h = tt

-- WHICH NAME a number stands for: where the host has a front of a script's names, that of a scalar is the script's global of this number.

abbrev first_told : Telling → List Telling → Telling
first_told t [] = t
first_told t (u ∷ us) = u

one_tells : (name : List ℕ) (n i : ℕ) (t : Telling) (rest : Option (ℕ × NameKind)) → (if same_text name t.0 then Some (n, t.1) else rest) ≡ Some (i, Scalar) →
    (A : Type 0) → (same_text name t.0 ≡ true → n ≡ i → t.1 ≡ Scalar → A) → (rest ≡ Some (i, Scalar) → A) → A
one_tells name n i t rest e A here later = by (same_text name t.0) refl e
  where
    number_in : Option (ℕ × NameKind) → ℕ
    number_in None = n
    number_in (Some x) = x.0

    kind_in : Option (ℕ × NameKind) → NameKind
    kind_in None = t.1
    kind_in (Some x) = x.1

    by : (b : Bool) → same_text name t.0 ≡ b → (if b then Some (n, t.1) else rest) ≡ Some (i, Scalar) → A
    by true q e = here q (ap number_in e) (ap kind_in e)
    by false q e = later e

-- a function is no scalar
none_told : (name : List ℕ) (i n : ℕ) (rs : List Routine) (names rest : List Telling) → names ++ rest ≡ routines_told rs → declared n name names ≡ Some (i, Scalar) → ⊥
none_told name i n rs [] rest e d = cc
none_told name i n [] (t ∷ names) rest e d = cc
none_told name i n (r ∷ rs) (t ∷ names) rest e d =
    let same = ap (first_told t) e in
    let kind = ap (λ (z : Telling). z.1) same in
    one_tells name n i t (declared (n + 1) name names) d ⊥ (λ q m k. let w : ArrayOrFunction ≡ Scalar = sym kind ∙ k in cc) (λ z. none_told name i (n + 1) rs names rest (ap (drop 1) e) z)

pub named_there : (name : List ℕ) (i n : ℕ) (ds : List Declared) (rs : List Routine) (names rest : List Telling) → names ++ rest ≡ globals_told ds (routines_told rs) → declared n name names ≡ Some (i, Scalar) →
    (k : ℕ) × (n + k ≡ i) × (d : Declared) × (slice_get ds k ≡ Some d) × (same_text name d.name ≡ true)
named_there name i n ds rs [] rest e d = cc
named_there name i n [] rs (t ∷ names) rest e d = absurd (none_told name i n rs (t ∷ names) rest e d)
named_there name i n (g ∷ ds) rs (t ∷ names) rest e d =
    let same = ap (first_told t) e in
    one_tells name n i t (declared (n + 1) name names) d _
    (λ q m k. (zero, omega (arith, m), g, refl, ap (λ (z : Telling). same_text name z.0) (sym same) ∙ q))
    (λ z. let r = named_there name i (n + 1) ds rs names rest (ap (drop 1) e) z in let m = r.1 in (suc r.0, omega (arith, m), r.2, r.3, r.4))
