-- Arrays of a program: where they stand, that they are there, and how their numbers come onto the stack.
use Rattle.std.proofs.Common.{◌≡◌, inl, inr, ⊎_elim, ℕ, zero, suc, ◌-◌, ◌<◌, ◌≤◌, true, List, [], ◌∷◌, length, Some, None, refl, sym, ap, ap₂, ◌∙◌, arith}
use Rattle.std.specs.Prelude.{nat_lt, ◌||◌, if◌then◌else◌}
use Rattle.std.proofs.lemmas.Bool.{lt-ltb, ltb-true, eq-eqb, or_left, or_right, cases_lt}
use Rattle.sem_primitives.specs.declared.sorts.Sort.TheVariants as sort
use Rattle.wasm_types.specs.Syntax.{Instructions}
use Rattle.wasm_store.specs.declared.word.Word.TheVariants.{I32}
use Rattle.mid_program.specs.Mid.{Kind, Boxed, Unboxed, ArrayKind, Program, Declared}
use Rattle.sem_scripts.specs.Names.{ArrayName, Numbered, Given}
use Rattle.sem_scripts.specs.ScriptState.{State, local_array, global_value}
use Rattle.mid_program.specs.Sorted.{context_of, is_array_place, has_kind, kinds_of, arrays_among, is_many}
use Rattle.lower_model.specs.Cells.{Cell, Bits, OwnedArray, LentArray, left_by, cell_at, has_owner, owns}
use Rattle.lower_model.specs.Emission.{array_pushed}
use Rattle.lower_model.specs.Functions.{layout_of}
use Rattle.lower_model.specs.ImportCalls.{in_sort}
use Rattle.lower_model.specs.Machine.{Label, Frame, at, is_live, live_if_lent, owner_waits}
use Rattle.lower_model.specs.Places.{Bases, array_name}
use Rattle.lower_model.proofs.Observer.{Observer}
use Rattle.lower_model.proofs.Runs.{Goes, stays}
use Rattle.lower_model.proofs.Globals.{Hand, placed_at}
use Rattle.lower_model.proofs.Locals.{Locals, Param, laid}
use Rattle.lower_model.proofs.Steps.{get_copied}
use Rattle.lower_model.proofs.GlobalSteps.{global_copied}
use Rattle.lower_model.proofs.State.{cells_of, kind_here, arrays_before, name_hand}
use Rattle.lower_model.proofs.Relation.{Lives, IsArray, Fit, array_at}
use Rattle.lower_model.proofs.Answers.{machine, beside_state}

-- the name of each array of the script is one of an array, and as many arrays stand before it
pub record ArrayNamed (kinds : List Kind) (i : ℕ) : Type 0 where
  pub there : array_name kinds i < length kinds
  pub many : kind_here kinds (array_name kinds i) ≡ ArrayKind
  pub before : arrays_before kinds (array_name kinds i) ≡ i

named_at : (k : Kind) (ds : List Declared) → ((i : ℕ) → i < arrays_among ds → ArrayNamed (kinds_of ds) i) → (i : ℕ) → i < (if is_many k then suc (arrays_among ds) else arrays_among ds) → ArrayNamed (k ∷ kinds_of ds) i
named_at ArrayKind ds f zero h = record { there = omega arith; many = refl; before = refl }
named_at ArrayKind ds f (suc i) h = let r = f i (omega (arith, h)) in record { there = omega (arith, r.there); many = r.many; before = ap suc r.before }
named_at Boxed ds f i h = let r = f i h in record { there = omega (arith, r.there); many = r.many; before = r.before }
named_at Unboxed ds f i h = let r = f i h in record { there = omega (arith, r.there); many = r.many; before = r.before }

pub array_named : (ds : List Declared) (i : ℕ) → i < arrays_among ds → ArrayNamed (kinds_of ds) i
array_named [] i h = absurd (omega (arith, h))
array_named (d ∷ ds) i h = named_at d.kind ds (array_named ds) i h

pub owner_at : (cs : List Cell) (x a : ℕ) → cell_at cs x ≡ OwnedArray a → has_owner a cs ≡ true
owner_at [] x a e = cc
owner_at (c ∷ cs) zero a e = or_left (owns a c) (has_owner a cs) (ap (owns a) e ∙ eq-eqb a a refl)
owner_at (c ∷ cs) (suc x) a e = or_right (owns a c) (has_owner a cs) (owner_at cs x a e)

module _ (p : Program) (deepest : Observer) (ks : List Kind) (F : List Frame) where
  -- the global of an array's name has the array
  array_owned : (i : ℕ) (σ : State) → i < arrays_among p.globals → (cells_of (kinds_of p.globals) 0 σ).hand (array_name (kinds_of p.globals) i) ≡ OwnedArray (suc (suc i))
  array_owned i σ h =
      let r = array_named p.globals i h in
      ap₂ (λ k a. name_hand k (suc (suc a)) (global_value (array_name (kinds_of p.globals) i) σ)) r.many r.before

  pub lives_live : (a : ℕ) (L : List Cell) (σ : State) → Lives p deepest ks F a → is_live L F (beside_state p deepest ks F σ).globals a ≡ true
  lives_live a L σ (inr w) =
      or_right (nat_lt a 2) (has_owner a gs || (has_owner a L || owner_waits a F)) (or_right (has_owner a gs) (has_owner a L || owner_waits a F) (or_right (has_owner a L) (owner_waits a F) w))
    where
      gs : List Cell
      gs = (beside_state p deepest ks F σ).globals
  lives_live a L σ (inl lt) = ⊎_elim
      (λ l. or_left (nat_lt a 2) (has_owner a gs || (has_owner a L || owner_waits a F)) (lt-ltb a 2 l))
      (λ ge. or_right (nat_lt a 2) (has_owner a gs || (has_owner a L || owner_waits a F)) (or_left (has_owner a gs) (has_owner a L || owner_waits a F) (owned ge)))
      (cases_lt a 2)
    where
      gs : List Cell
      gs = (beside_state p deepest ks F σ).globals

      owned : 2 ≤ a → has_owner a (beside_state p deepest ks F σ).globals ≡ true
      owned ge =
          let kinds = kinds_of p.globals in
          let i = a - 2 in
          let li : i < arrays_among p.globals = omega (arith, ge, lt) in
          let e : suc (suc i) ≡ a = omega (arith, ge) in
          owner_at (beside_state p deepest ks F σ).globals _ a (placed_at p.ranges (length kinds) (cells_of kinds 0 σ) (Hand (array_name kinds i)) (array_named p.globals i li).there ∙ (array_owned i σ li ∙ ap OwnedArray e))

  pub array_live : (a : ℕ) (c : Cell) (L : List Cell) (σ : State) → IsArray p deepest ks F a c → live_if_lent L F (beside_state p deepest ks F σ).globals c ≡ true
  array_live a c L σ (inl q) = ap (live_if_lent L F (beside_state p deepest ks F σ).globals) q.1
  array_live a c L σ (inr q) = ap (live_if_lent L F (beside_state p deepest ks F σ).globals) q.0 ∙ lives_live a L σ q.1

  pub array_in_sort : (a : ℕ) (c : Cell) → IsArray p deepest ks F a c → in_sort sort.Array c ≡ Some a
  array_in_sort a c (inl q) = ap (in_sort sort.Array) q.1 ∙ ap (λ t. if t then Some a else None) (lt-ltb a 2 q.0)
  array_in_sort a c (inr q) = ap (in_sort sort.Array) q.0

  -- an array's number comes onto the stack
  pub record PushedArray (b : Bases) (a : ArrayName) (vs : List Cell) (k : Instructions) (K : List Label) (l : Locals) (σ : State) : Type 0 where
    pub cell : Cell
    pub steps : ℕ
    pub few : steps ≤ 1
    pub goes : Goes (machine p deepest ks F) steps (at ks vs K (laid b l) F (array_pushed (layout_of p b) a k) (beside_state p deepest ks F σ)) (at ks (cell ∷ vs) K (laid b l) F k (beside_state p deepest ks F σ))
    pub array : IsArray p deepest ks F (array_at a σ) cell

  param_pushed : (b : Bases) (i t u w : ℕ) (vs : List Cell) (k : Instructions) (K : List Label) (l : Locals) (σ : State) → i < b.parameters → IsArray p deepest ks F (local_array i σ) (l.param i) → PushedArray b (Given i) vs k K l σ
  param_pushed b i t u w vs k K l σ lt h = record { cell = l.param i; steps = 1; few = omega arith; goes = get_copied b l (Param i) (l.param i) lt refl (stays_array (local_array i σ) (l.param i) h); array = h }
    where
      stays_array : (a : ℕ) (c : Cell) → IsArray p deepest ks F a c → left_by c ≡ c
      stays_array a c (inl q) = ap left_by q.1 ∙ sym q.1
      stays_array a c (inr q) = ap left_by q.0 ∙ sym q.0

  pub array_pushed_ok : (b : Bases) (a : ArrayName) (t u w : ℕ) (vs : List Cell) (k : Instructions) (K : List Label) (l : Locals) (σ : State) → is_array_place (context_of p ks) a ≡ true → length ks ≡ b.parameters → Fit p deepest ks F t u w l σ → PushedArray b a vs k K l σ
  array_pushed_ok b (Numbered zero) t u w vs k K l σ h n f = record { cell = Bits (I32 0); steps = 0; few = omega arith; goes = stays; array = inl (omega arith, refl) }
  array_pushed_ok b (Numbered (suc zero)) t u w vs k K l σ h n f = record { cell = Bits (I32 1); steps = 0; few = omega arith; goes = stays; array = inl (omega arith, refl) }
  array_pushed_ok b (Numbered (suc (suc i))) t u w vs k K l σ h n f =
      let lt : i < arrays_among p.globals = below h in
      let kinds = kinds_of p.globals in
      record {
        cell = LentArray (suc (suc i));
        steps = 1;
        few = omega arith;
        goes = global_copied p.ranges (length kinds) (cells_of kinds 0 σ) (Hand (array_name kinds i)) (OwnedArray (suc (suc i))) (array_named p.globals i lt).there (array_owned i σ lt) refl;
        array = inr (refl, inl (omega (arith, lt)));
      }
    where
      below : nat_lt (suc (suc i)) (suc (suc (arrays_among p.globals))) ≡ true → i < arrays_among p.globals
      below e = let l = ltb-true (suc (suc i)) (suc (suc (arrays_among p.globals))) e in omega (arith, l)
  array_pushed_ok b (Given i) t u w vs k K l σ h n f = let lt = kind_below ks i ArrayKind h in param_pushed b i t u w vs k K l σ (omega (arith, lt, n)) (f.params i ArrayKind h)
    where
      kind_below : (ks : List Kind) (i : ℕ) (k : Kind) → has_kind ks i k ≡ true → i < length ks
      kind_below [] i k e = cc
      kind_below (j ∷ ks) zero k e = omega arith
      kind_below (j ∷ ks) (suc i) k e = let r = kind_below ks i k e in omega (arith, r)
