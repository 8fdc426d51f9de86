-- A search passes over bytes without a look at the table.
use Rattle.std.proofs.Common.{◌≡◌, ℕ, zero, suc, ◌+◌, ◌<◌, ◌≤◌, inl, inr, Bool, true, false, List, [], ◌∷◌, length, Option, Some, None, refl, sym, ap, ◌∙◌, subst, arith, get_or}
use Rattle.std.specs.Prelude.{slice_get}
use Rattle.std.specs.Option.{is_some}
use Rattle.std.proofs.Common.{Vec, Global}
use Rattle.std.proofs.lemmas.Bool.{cases_lt}
use Rattle.std.proofs.lemmas.Option.{slice_get-get_or, get_or_from_slice_get}
use Rattle.ere_match.specs.declared.lead.Lead.{Lead}
use Rattle.ere_match.specs.declared.node.Node.{Node}
use Rattle.ere_match.specs.declared.row.Row.{Row}
use Rattle.ere_match.specs.declared.row.Move.{Move}
use Rattle.ere_match.specs.declared.row.Moves.{Moves}
use Rattle.ere_match.specs.declared.row.Table.{Table}
use Rattle.ere_match.specs.Leads.{IsLead, lead_has}
use Rattle.ere_match.specs.Runs.{Runs}
use Rattle.ere_match.specs.Threads.{better_of}
use Rattle.ere_match.specs.Rows.{CanEnter, HasBegun, HasEntered, HasMoved, IsIdle, IsLoop, IsSearching, IsStepOf, IsTable, column_at, columns, started, threads_of}
use Rattle.ere_match.proofs.Places.{step_at}
use Rattle.ere_match.proofs.Searches.{search_at, search_begins}
use Rattle.ere_match.proofs.Spreads.{spread_holds}
use Rattle.ere_match.proofs.Tables.{enter_step, has_moved}

-- ---- no match begins before a place

module _ (all : List Node) (text : List ℕ) (entry from : ℕ) where
  -- no run has begun before a place at which all threads begin
  idle_none : (i state : ℕ) (t : Table) → IsSearching all text entry from i state None t → IsIdle t state i → (s j m : ℕ) → from ≤ s → s < i → Runs all text j m entry s → ⊥
  idle_none i state t h idle s j m above before run =
      let a = search_at all text entry from i state None t idle.row idle.is h in
      elim (cases_lt j i) [
        | inl past ↦ a.is_best s j m above past run
        | inr later ↦ (
            let o = a.threads.on s j m above (omega (arith, before)) later tt run in
            let u = spread_holds (λ k. get_or t.starts.items k 0) (threads_of idle.row) o.2.id o.0 o.2.holds in
            let few = a.known.few o.2.id u.number u.holds in
            let e : u.number ≡ 0 = omega (arith, few, idle.one) in
            let here = u.is ∙ ap (λ k. get_or t.starts.items k 0) e ∙ idle.here in
            omega (arith, here, o.1, before))
      ]

  -- nor is there one at places whose bytes begin none
  lead_none : (lead : Lead) (i to : ℕ) → IsLead all entry lead → to ≤ length text → ((k : ℕ) → k < length text → get_or text k 0 < 256) → ((k : ℕ) → i ≤ k → k < to → lead_has lead (get_or text k 0) ≡ false) → (s j m : ℕ) → i ≤ s → s < to → Runs all text j m entry s → ⊥
  lead_none lead i to leads inside small none s j m above before run =
      let less : s < length text = omega (arith, before, inside) in
      let has = leads text s j m (get_or text s 0) run (slice_get-get_or text s 0 less) (small s less) in
      let bad : true ≡ false = sym has ∙ none s above before in cc

  widen : (to state : ℕ) (t : Table) → from ≤ to → ((s j m : ℕ) → from ≤ s → s < to → Runs all text j m entry s → ⊥) → IsSearching all text entry to to state None t → IsSearching all text entry from to state None t
  widen to state t le none h = record {
    row = h.row;
    is = h.is;
    room = h.room;
    at = record {
      known = h.at.known;
      is_first = h.at.is_first;
      increasing = h.at.increasing;
      near = h.at.near;
      threads = record {
        len = h.at.threads.len;
        starts = λ id s holds. (let x = h.at.threads.starts id s holds in (omega (arith, x.0, le), x.1));
        back = h.at.threads.back;
        on = λ s j m above below r open' run. elim (cases_lt s to) [
          | inl before ↦ absurd (none s j m above before run)
          | inr here ↦ h.at.threads.on s j m here below r open' run
        ];
      };
      is_best = λ s j m above below run. elim (cases_lt s to) [
        | inl before ↦ none s j m above before run
        | inr here ↦ h.at.is_best s j m here below run
      ];
    };
  }

  pub leapt : (lead : Lead) (to new : ℕ) (classes : List ℕ) (u : Table) → from ≤ to → to ≤ length text → IsLead all entry lead → ((k : ℕ) → k < length text → get_or text k 0 < 256) → ((k : ℕ) → from ≤ k → k < to → lead_has lead (get_or text k 0) ≡ false) → IsTable all entry classes u → HasBegun all entry to u new → IsSearching all text entry from to new None u
  leapt lead to new classes u after inside leads small none table begun =
      widen to new u after (λ s j m low high run. lead_none lead from to leads inside small none s j m low high run) (search_begins all text entry to new classes u table begun)

  pub jumped : (lead : Lead) (i to old new : ℕ) (classes : List ℕ) (t u : Table) → from ≤ i → i ≤ to → to ≤ length text → IsLead all entry lead → ((k : ℕ) → k < length text → get_or text k 0 < 256) → ((k : ℕ) → i ≤ k → k < to → lead_has lead (get_or text k 0) ≡ false) → IsIdle t old i → IsSearching all text entry from i old None t → IsTable all entry classes u → HasBegun all entry to u new → IsSearching all text entry from to new None u
  jumped lead i to old new classes t u above after inside leads small none idle h table begun =
      widen to new u (omega (arith, above, after))
      (λ s j m low high run. elim (cases_lt s i) [
        | inl before ↦ idle_none i old t h idle s j m low before run
        | inr later ↦ lead_none lead i to leads inside small none s j m later high run
      ])
      (search_begins all text entry to new classes u table begun)

-- ---- a byte leads from a row to itself

pub not_some : {X : Type 0} (o : Option X) → is_some o ≡ false → o ≡ None
not_some None e = refl
not_some (Some x) e = absurd cc

pub filled_at : (found : Bool) (moves : List Moves) (state class : ℕ) (x : Moves) (m : Move) → slice_get moves state ≡ Some x → get_or (columns found x) class None ≡ Some m → column_at found (slice_get moves state) class ≡ Some m
filled_at found moves state class x m is read = ap (λ o. column_at found o class) is ∙ read

module _ (all : List Node) (entry byte state : ℕ) (classes : List ℕ) (t : Table) (m : Move) (h : IsTable all entry classes t) (l : IsLoop t classes state byte m) (b : ℕ) (small : b < 256) (same : get_or classes b 0 ≡ get_or classes byte 0) where
  loop_step : IsStepOf all entry b false t state t m
  loop_step = (let k = h.moves false state (get_or classes byte 0) m l.filled in record { before = k.row; is = k.is; step = k.leads b small same })

  loop_read : l.row ≡ get_or t.rows.items state l.row
  loop_read = sym (get_or_from_slice_get t.rows.items state l.row l.row l.is)

  pub loop_can : (count : ℕ) → count ≡ l.row.count → CanEnter t count m
  loop_can count counts =
      let room = (h.rows state l.row l.is).room in
      enter_step all entry b state count classes false t t m l.row loop_read counts (omega (arith, room, counts)) h loop_step

  pub loop_moved : (count at to : ℕ) (new : Table) → count ≡ l.row.count → HasEntered t count m at new to → HasMoved all entry b false at t state new to
  loop_moved count at to new counts e = has_moved all entry b state count at to false t t new m l.row loop_read counts (λ k less. refl) loop_step e

pub loop_kept : (state byte : ℕ) (classes : List ℕ) (t new : Table) (m : Move) → new.rows ≡ t.rows → new.moves ≡ t.moves → IsLoop t classes state byte m → IsLoop new classes state byte m
loop_kept state byte classes t new m rows moves l = record {
  row = l.row;
  is = ap (λ (v : Vec Row Global). slice_get v.items state) rows ∙ l.is;
  none = l.none;
  goes = l.goes;
  filled = ap (λ (v : Vec Moves Global). column_at false (slice_get v.items state) (get_or classes byte 0)) moves ∙ l.filled;
}

pub loop_on : (all : List Node) (text : List ℕ) (entry from i byte state to count : ℕ) (classes : List ℕ) (t new : Table) (m : Move) → from ≤ i → i < length text → get_or text i 0 < 256 → get_or classes (get_or text i 0) 0 ≡ get_or classes byte 0 → (l : IsLoop t classes state byte m) → count ≡ l.row.count → IsTable all entry classes t → IsTable all entry classes new → HasEntered t count m (i + 1) new to → IsSearching all text entry from i state None t → IsSearching all text entry from (i + 1) state None new
loop_on all text entry from i byte state to count classes t new m above inside small same l counts h h' e s =
    let read : l.row ≡ get_or t.rows.items state l.row = sym (get_or_from_slice_get t.rows.items state l.row l.row l.is) in
    let moved = loop_moved all entry byte state classes t m h l (get_or text i 0) small same count (i + 1) to new counts e in
    subst (λ k. IsSearching all text entry from (i + 1) k None new) (e.goes ∙ l.goes)
    (step_at all text entry from i state None t l.row read s to false None classes new above inside (sym (ap (λ (o : Option ℕ). better_of (started t.starts.items o) i None) l.none)) refl h' moved)

there : {X : Type 0} (xs : List X) (k : ℕ) → k < length xs → (x : X) × (slice_get xs k ≡ Some x)
there [] k less = absurd (omega (arith, less))
there (x ∷ xs) zero less = (x, refl)
there (x ∷ xs) (suc k) less = there xs k (omega (arith, less))

pub starts_there : (all : List Node) (entry state : ℕ) (classes : List ℕ) (t : Table) → IsTable all entry classes t → state < length t.rows.items → 0 < length t.starts.items
starts_there all entry state classes t h less = (let x = there t.rows.items state less in let r = (h.rows state x.0 x.1).room in omega (arith, r))
