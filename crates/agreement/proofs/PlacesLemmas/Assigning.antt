-- NAMES GET NO HANDLE but by the command line: the machine over values puts a value into the handle of an unboxed name that takes no copies only while it makes an assignment to that name, which the host had pending.
use Rattle.std.proofs.Common.{◌≡◌, ◌⊎◌, inl, inr, ℕ, zero, suc, ◌+◌, ◌-◌, Bool, true, false, not, ◌||◌, List, [], ◌∷◌, set, Option, Some, None, refl, sym, ap, ◌∙◌, arith}
use Rattle.std.proofs.lemmas.Bool.{cases_eq, eqb-true}
use Rattle.std.proofs.lemmas.List.{get_or-set_other}
use Rattle.awk_values.specs.declared.value.Value.{Value}
use Rattle.sem_primitives.specs.declared.table.Primitive.TheVariants as row
use Rattle.lower_model.specs.Cells.{Cell, Bits, Held, IteratorOf, OwnedArray, LentArray, Gone, cell_at, is_bare_handle, is_gone, is_handle_of, is_word, left_in_global, may_come}
use Rattle.lower_model.specs.Machine.{Code, Conf, Store, assigning_after, assigning_then, number_pending, step}
use Rattle.host_imports.specs.declared.import.Import.{Import}
use Rattle.host_imports.specs.declared.import.Import.TheVariants.{OfPrimitive}
use Rattle.agreement.proofs.ModulesLemmas.Stores.{InStore, Leads, step_in}

-- a global that was set has its new cell, where there is such a global
set_at : (gs : List Cell) (x : ℕ) (c : Cell) → (cell_at (set gs x c) x ≡ c) ⊎ (cell_at (set gs x c) x ≡ cell_at gs x)
set_at [] x c = inr refl
set_at (g ∷ gs) zero c = inl refl
set_at (g ∷ gs) (suc x) c = set_at gs x c

left_word : (c : Cell) → is_word (left_in_global c) ≡ false → is_word c ≡ false
left_word (Bits w) e = e
left_word (Held v) e = refl
left_word (IteratorOf t) e = refl
left_word (OwnedArray a) e = refl
left_word (LentArray a) e = refl
left_word Gone e = refl

gone_word : (c : Cell) → is_gone c ≡ true → is_word c ≡ false
gone_word (Bits w) e = cc
gone_word (Held v) e = refl
gone_word (IteratorOf t) e = refl
gone_word (OwnedArray a) e = refl
gone_word (LentArray a) e = refl
gone_word Gone e = refl

either_true : (a b : Bool) → (a || b) ≡ true → (a ≡ true) ⊎ (b ≡ true)
either_true true b e = inl refl
either_true false b e = inr e

handle_of : (name : Option ℕ) (i : ℕ) → is_handle_of name (i + i) ≡ true → name ≡ Some i
handle_of None i e = cc
handle_of (Some j) i e = let q = eqb-true (i + i) (j + j) e in let z : j ≡ i = omega (arith, q) in ap Some z

-- what may come where no word is set
comes_by : (before : ℕ) (bs : List Bool) (name : Option ℕ) (i : ℕ) (old new : Cell) → is_bare_handle bs (i + i) ≡ true → is_word new ≡ false → may_come before bs name (before + (i + i)) old new ≡ true →
    (is_word old ≡ false) ⊎ (name ≡ Some i)
comes_by before bs name i old new b w e =
    let x : before + (i + i) - before ≡ i + i = omega arith in
    by (either_true (is_gone old) (is_handle_of name (i + i))
    (sym (ap (λ z. z || (is_gone old || (not (is_bare_handle bs (before + (i + i) - before)) || is_handle_of name (before + (i + i) - before)))) w
    ∙ (ap (λ z. is_gone old || (not (is_bare_handle bs z) || is_handle_of name z)) x
    ∙ ap (λ z. is_gone old || (not z || is_handle_of name (i + i))) b)) ∙ e))
  where
    by : (is_gone old ≡ true) ⊎ (is_handle_of name (i + i) ≡ true) → (is_word old ≡ false) ⊎ (name ≡ Some i)
    by (inl h) = inl (gone_word old h)
    by (inr h) = inr (handle_of name i h)

-- names that are assigned are among some
module _ (u : Code) (T : ℕ → Type 0) where
  pub record Told (G : Store) : Type 0 where
    pub assigning : (i : ℕ) → G.assigning ≡ Some i → T i
    pub handles : (i : ℕ) → is_bare_handle u.bare (i + i) ≡ true → is_word (cell_at G.globals (u.before + (i + i))) ≡ false → T i

  pub record Asks (G : Store) : Type 0 where
    pub told : Told G
    pub pending : (i : ℕ) (v : Value) → G.host.shared.inner.pending ≡ Some (i, v) → T i

  number_told : (o : Option (ℕ × Value)) → ((i : ℕ) (v : Value) → o ≡ Some (i, v) → T i) → (i : ℕ) → number_pending o ≡ Some i → T i
  number_told None h i e = cc
  number_told (Some x) h i e = h i x.1 (ap (λ o. name_with o) e)
    where
      name_with : Option ℕ → Option (ℕ × Value)
      name_with None = None
      name_with (Some j) = Some (j, x.1)

  after_told : (i : Import) (G : Store) → Asks G → (j : ℕ) → assigning_after i G ≡ Some j → T j
  after_told (OfPrimitive row.PendingName) G a j e = number_told G.host.shared.inner.pending a.pending j e
  after_told _ G a j e = a.told.assigning j e

  read_told : (x : ℕ) (G : Store) → Asks G → (i : ℕ) → is_bare_handle u.bare (i + i) ≡ true → is_word (cell_at (set G.globals x (left_in_global (cell_at G.globals x))) (u.before + (i + i))) ≡ false → T i
  read_told x G a i b e = by (cases_eq (u.before + (i + i)) x)
    where
      y : ℕ
      y = u.before + (i + i)

      left : Cell
      left = left_in_global (cell_at G.globals x)

      here : y ≡ x → (cell_at (set G.globals x left) x ≡ left) ⊎ (cell_at (set G.globals x left) x ≡ cell_at G.globals x) → T i
      here q (inl h) = a.told.handles i b (ap (λ z. is_word (cell_at G.globals z)) q ∙ left_word (cell_at G.globals x) (sym (ap is_word h) ∙ (sym (ap (λ z. is_word (cell_at (set G.globals x left) z)) q) ∙ e)))
      here q (inr h) = a.told.handles i b (ap (λ z. is_word (cell_at G.globals z)) q ∙ (sym (ap is_word h) ∙ (sym (ap (λ z. is_word (cell_at (set G.globals x left) z)) q) ∙ e)))

      by : (y ≡ x) ⊎ (y ≡ x → ⊥) → T i
      by (inl q) = here q (set_at G.globals x left)
      by (inr ne) = a.told.handles i b (sym (ap is_word (get_or-set_other G.globals x y left Gone ne)) ∙ e)

  assigned_before : (v : Cell) (name : Option ℕ) (i : ℕ) → assigning_then v name ≡ Some i → name ≡ Some i
  assigned_before (Bits w) name i q = q
  assigned_before (Held v) name i q = cc
  assigned_before (IteratorOf t) name i q = cc
  assigned_before (OwnedArray x) name i q = cc
  assigned_before (LentArray x) name i q = cc
  assigned_before Gone name i q = cc

  written_told : (x : ℕ) (v : Cell) (G : Store) → may_come u.before u.bare G.assigning x (cell_at G.globals x) v ≡ true → Asks G → (i : ℕ) → is_bare_handle u.bare (i + i) ≡ true → is_word (cell_at (set G.globals x v) (u.before + (i + i))) ≡ false → T i
  written_told x v G may a i b e = by (cases_eq (u.before + (i + i)) x)
    where
      y : ℕ
      y = u.before + (i + i)

      came : (is_word (cell_at G.globals y) ≡ false) ⊎ (G.assigning ≡ Some i) → T i
      came (inl h) = a.told.handles i b h
      came (inr h) = a.told.assigning i h

      here : y ≡ x → (cell_at (set G.globals x v) x ≡ v) ⊎ (cell_at (set G.globals x v) x ≡ cell_at G.globals x) → T i
      here q (inl h) =
          came (comes_by u.before u.bare G.assigning i (cell_at G.globals y) v b (sym (ap is_word h) ∙ (sym (ap (λ z. is_word (cell_at (set G.globals x v) z)) q) ∙ e))
          (ap (λ z. may_come u.before u.bare G.assigning z (cell_at G.globals z) v) q ∙ may))
      here q (inr h) = a.told.handles i b (ap (λ z. is_word (cell_at G.globals z)) q ∙ (sym (ap is_word h) ∙ (sym (ap (λ z. is_word (cell_at (set G.globals x v) z)) q) ∙ e)))

      by : (y ≡ x) ⊎ (y ≡ x → ⊥) → T i
      by (inl q) = here q (set_at G.globals x v)
      by (inr ne) = a.told.handles i b (sym (ap is_word (get_or-set_other G.globals x y v Gone ne)) ∙ e)

  leads : Leads u Asks Told
  leads = record {
    same = λ G a. a.told;
    noted = λ code G a. record { assigning = a.told.assigning; handles = a.told.handles };
    called = λ i cs r G e a. record { assigning = after_told i G a; handles = a.told.handles };
    looked = λ i c r G e a. record { assigning = a.told.assigning; handles = a.told.handles };
    read = λ x G a. record { assigning = a.told.assigning; handles = read_told x G a };
    written = λ x v G e a. record { assigning = λ i q. a.told.assigning i (assigned_before v G.assigning i q); handles = written_told x v G e a };
  }

  -- ONE STEP
  pub step_told : (c : Conf) → InStore Asks c → InStore Told (step u c)
  step_told c a = step_in u Asks Told leads c a
