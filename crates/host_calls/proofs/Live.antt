-- What a host shows alive is what the definition has alive.
use Rattle.std.proofs.Common.{◌≡◌, ℕ, ℤ, Bool, true, false, List, [], ◌∷◌, length, map, None, Some, refl, sym, ap, subst, ◌∙◌}
use Rattle.std.specs.Prelude.{◌&&◌, Option, T, cond, option_map}
use Rattle.std.specs.Cmp.{int_cmp_total}
use Rattle.std.specs.FinMap as finmap
use Rattle.std.specs.FinMap.{FinMap, int_cmp-IsAntisymmetric}
use Rattle.std.specs.FinMap.Entries.{below_all, find, is_sorted, same_entries}
use Rattle.std.specs.Ordering.{eq_by_cmp, int_cmp, is_lt}
use Rattle.std.proofs.lemmas.List.{length-map}
use Rattle.awk_values.specs.declared.fault.Fault.{Fault}
use Rattle.host_step.specs.HostState.{HostState}
use Rattle.host_step.specs.Live.{live_arrays, live_iterators, live_values}
use Rattle.host_values.specs.Forms.{HostForm, IsHeld, Shows, Stands}
use Rattle.host_values.specs.Shown.{SharesBy, Shown}

-- the keys of entries, with nothing at each
abbrev marks : {A : Type 0} → List (ℤ × A) → List (ℤ × Unit {0})
marks es = map (λ e. (e.0, tt)) es

abbrev mark : {A : Type 0} → Option A → Option (Unit {0})
mark o = option_map (λ x. tt) o

below_marks : {A : Type 0} (k : ℤ) (es : List (ℤ × A)) → below_all int_cmp k (marks es) ≡ below_all int_cmp k es
below_marks k [] = refl
below_marks k (e ∷ es) = ap (λ b. is_lt (int_cmp k e.0) && b) (below_marks k es)

sorted_marks : {A : Type 0} (es : List (ℤ × A)) → is_sorted int_cmp (marks es) ≡ is_sorted int_cmp es
sorted_marks [] = refl
sorted_marks (e ∷ es) = ap (λ b. b && is_sorted int_cmp (marks es)) (below_marks e.0 es) ∙ ap (λ b. below_all int_cmp e.0 es && b) (sorted_marks es)

mark_cond : {A : Type 0} (b : Bool) (x : A) (o : Option A) → cond b (Some tt) (mark o) ≡ mark (cond b (Some x) o)
mark_cond true x o = refl
mark_cond false x o = refl

find_marks : {A : Type 0} (q : ℤ) (es : List (ℤ × A)) → find int_cmp q (marks es) ≡ mark (find int_cmp q es)
find_marks q [] = refl
find_marks q (e ∷ es) = ap (cond (eq_by_cmp int_cmp q e.0) (Some tt)) (find_marks q es) ∙ mark_cond (eq_by_cmp int_cmp q e.0) e.1 (find int_cmp q es)

module _ {A B : Type 0} (m : FinMap int_cmp A) (n : FinMap int_cmp B) (same : (q : ℤ) → mark (finmap.get m q) ≡ mark (finmap.get n q)) where
  same_marks : marks (finmap.entries m) ≡ marks (finmap.entries n)
  same_marks =
      same_entries int_cmp int_cmp_total int_cmp-IsAntisymmetric (marks (finmap.entries m)) (marks (finmap.entries n))
      (subst T (sym (sorted_marks (finmap.entries m))) (finmap.entries_sorted m)) (subst T (sym (sorted_marks (finmap.entries n))) (finmap.entries_sorted n))
      (λ q. find_marks q (finmap.entries m) ∙ ap mark (sym (finmap.get-entries m q)) ∙ same q ∙ ap mark (finmap.get-entries n q) ∙ sym (find_marks q (finmap.entries n)))

  -- maps with the same keys have as many
  same_length : length (finmap.entries m) ≡ length (finmap.entries n)
  same_length = sym (length-map (finmap.entries m) (λ e. (e.0, tt))) ∙ ap length same_marks ∙ length-map (finmap.entries n) (λ e. (e.0, tt))

shown_marks : {A : Type 0} (all : List A) (place : Option ℕ) (held : Option A) → Shows all place held → mark held ≡ mark place
shown_marks all None None h = refl
shown_marks all (Some n) (Some x) h = refl
shown_marks all None (Some x) h = absurd h
shown_marks all (Some n) None h = absurd h

held_length : {A : Type 0} (held : FinMap int_cmp A) (places : FinMap int_cmp ℕ) (all : List A) → IsHeld held places all → finmap.len held ≡ length (finmap.entries places)
held_length held places all is =
    finmap.len-entries held ∙ same_length held places (λ q. shown_marks all (finmap.get places q) (finmap.get held q) (is.shows q))

pub record AreCounts (f : HostForm) (s : HostState) : Type 0 where
  pub values : finmap.len f.values ≡ live_values s
  pub arrays : finmap.len f.arrays ≡ live_arrays s
  pub iterators : finmap.len f.iterators ≡ live_iterators s

stands_counts : (f : HostForm) (s : HostState) → Stands f s → AreCounts f s
stands_counts f s stands = record {
  values = finmap.len-entries f.values ∙ ap live_values (sym stands.state);
  arrays = held_length f.arrays stands.past.array_places stands.past.arrays stands.arrays ∙ ap live_arrays (sym stands.state);
  iterators = held_length f.iterators stands.past.iterator_places stands.past.iterators stands.iterators ∙ ap live_iterators (sym stands.state);
}

counts_by : (kept : Option Fault) (form f : HostForm) (s : HostState) → SharesBy kept form f → AreCounts form s → AreCounts f s
counts_by None form f s same counts = subst (λ g. AreCounts g s) same counts
counts_by (Some fault) form f s same counts = record {
  values = ap finmap.len (sym same.values) ∙ counts.values;
  arrays = ap finmap.len (sym same.arrays) ∙ counts.arrays;
  iterators = ap finmap.len (sym same.iterators) ∙ counts.iterators;
}

pub counts : (f : HostForm) (s : HostState) → Shown f s → AreCounts f s
counts f s shown = counts_by f.fault shown.form f s shown.same (stands_counts shown.form s shown.stands)
