-- Dead ends.
use Rattle.std.proofs.Common.{◌≡◌, ℕ, ◌+◌, ◌*◌, ◌<◌, ◌≤◌, ◌⊎◌, inl, inr, Bool, true, false, cond, List, [], ◌∷◌, ◌++◌, length, Option, Some, None, Vec, Global, refl, sym, ap, ◌∙◌, subst, arith, set, get_or}
use Rattle.std.specs.Prelude.{slice_get, nat_eq, nat_lt, is_none, ◌&&◌}
use Rattle.std.proofs.Props.{props}
use Rattle.std.proofs.Math.Logic.{∥∥₁_elim, ∥∥₁_map}
use Rattle.std.proofs.lemmas.Bool.{cases_eq, cases_lt, ltb-false, ltb-true}
use Rattle.std.proofs.lemmas.Option.{slice_get_within}
use Rattle.ere_match.specs.declared.dead_ends.DeadEnds.{DeadEnds}
use Rattle.ere_match.specs.declared.node.Node.{Node}
use Rattle.ere_match.specs.declared.row.Row.{Row}
use Rattle.ere_match.specs.Ends.{AreAllMarked, AreDead, AreTails, IsNoted, IsTail, LeadsNowhere, MarksOnly, raised}
use Rattle.ere_match.specs.Rows.{Begins, IsMoved, IsRow, cut, last_number, limit_of, threads_of}
use Rattle.ere_match.specs.Runs.{Runs}
use Rattle.ere_match.specs.Threads.{Holds, IsAccepted, SetRuns}
use Rattle.ere_match.proofs.Crowds.{made_in, place_last}
use Rattle.ere_match.proofs.Ranks.{holds_rank, length_cut, length_numbers, rank_thread}
use Rattle.ere_match.proofs.Scans.{place_in}
use Rattle.ere_match.proofs.Spreads.{closed_cut, holds_cut}
use Rattle.ere_match.proofs.Steps.{ends_in, runs_le, step_on}
use Rattle.ere_match.proofs.Tables.{slice_here, slice_last, slice_other}

abbrev Set : Type 0
Set = List (Option ℕ)

abbrev Marks : Type 0
Marks = Vec Bool Global

-- ---- what is marked

-- one row of marks takes the place of another
noted_put : (step number place id : ℕ) (marks : List Marks) (old new : Marks) (ranks : List ℕ) → slice_get marks number ≡ Some old → MarksOnly ranks old.items new.items → IsNoted step (set marks number new) place id → IsNoted step marks place id ⊎ ((place ≡ number * step) × (0 < get_or ranks id 0))
noted_put step number place id marks old new ranks is only n = elim (cases_eq n.number number) [
  | inr apart ↦ inl (record { number = n.number; at = n.at; nodes = n.nodes; is = sym (slice_other marks number n.number new apart) ∙ n.is; marked = n.marked })
  | inl same ↦ (
      let here : Some new ≡ Some n.nodes = sym (slice_here marks number new (slice_get_within marks number old is)) ∙ ap (λ k. slice_get (set marks number new) k) (sym same) ∙ n.is in
      elim (only id (ap (λ (v : Marks). get_or v.items id false) (inner new n.nodes here) ∙ n.marked)) [
        | inl older ↦ inl (record { number = number; at = n.at ∙ ap (λ k. k * step) same; nodes = old; is = is; marked = older })
        | inr now ↦ inr (n.at ∙ ap (λ k. k * step) same, now)
      ])
]
  where
    inner : (a b : Marks) → Some a ≡ Some b → a ≡ b
    inner a b e = cc

-- a row without marks is put behind the others
pub noted_more : (step place id : ℕ) (mid new : List Marks) (x : Marks) → new ≡ mid ++ x ∷ [] → x.items ≡ [] → IsNoted step new place id → IsNoted step mid place id
noted_more step place id mid new x e empty n = elim (slice_last mid x n.nodes n.number (sym (ap (λ (xs : List Marks). slice_get xs n.number) e) ∙ n.is)) [
  | inl older ↦ record { number = n.number; at = n.at; nodes = n.nodes; is = older; marked = n.marked }
  | inr same ↦ absurd (let bad : false ≡ true = sym (ap (λ (xs : List Bool). get_or xs id false) empty) ∙ ap (λ (v : Marks). get_or v.items id false) same ∙ n.marked in cc)
]

-- ---- what is known of it

pub tails_wider : (all : List Node) (text : List ℕ) (i n n' : ℕ) (on on' : Bool) (row : Row) (ends : DeadEnds) → n ≤ n' → (on ≡ true → on' ≡ true) → AreTails all text i n on row ends → AreTails all text i n' on' row ends
tails_wider all text i n n' on on' row ends le more t = λ place id j m noted above inside run.
    (let x = t place id j m noted above inside run in (more x.0, omega (arith, x.1, le), x.2))

pub dead_tails : (all : List Node) (text : List ℕ) (i n : ℕ) (on : Bool) (row : Row) (ends : DeadEnds) → AreDead all text ends → AreTails all text i n on row ends
dead_tails all text i n on row ends d = λ place id j m noted above inside run. absurd (d place id j m noted above inside run)

pub nowhere_dead : (all : List Node) (text : List ℕ) (i n : ℕ) (on : Bool) (row : Row) (ends : DeadEnds) → LeadsNowhere all text i row → AreTails all text i n on row ends → AreDead all text ends
nowhere_dead all text i n on row ends none t = λ place id j m noted above inside run.
    ∥∥₁_elim (t place id j m noted above inside run).2.1 (hlevel props) (λ r. none j r.0 inside r.1)

-- ---- no mark up to a place is believed

above_both : (end place : ℕ) (ends : DeadEnds) → (raised end ends).floor < place → (ends.floor < place) × (end < place)
above_both end place ends above = by (nat_lt ends.floor end) refl above
  where
    by : (b : Bool) → nat_lt ends.floor end ≡ b → cond b end ends.floor < place → (ends.floor < place) × (end < place)
    by true e h = ((let x = ltb-true ends.floor end e in omega (arith, x, h)), h)
    by false e h = (h, (let x = ltb-false ends.floor end e in omega (arith, x, h)))

pub above_raised : (end place : ℕ) (ends : DeadEnds) → ends.floor < place → end < place → (raised end ends).floor < place
above_raised end place ends floor behind = by (nat_lt ends.floor end)
  where
    by : (b : Bool) → cond b end ends.floor < place
    by true = behind
    by false = floor

pub raised_dead : (all : List Node) (text : List ℕ) (end : ℕ) (ends : DeadEnds) → AreDead all text ends → AreDead all text (raised end ends)
raised_dead all text end ends d = λ place id j m noted above inside run. d place id j m noted (above_both end place ends above).0 inside run

-- up to the place before which all that is noted was noted
pub past_dead : (all : List Node) (text : List ℕ) (i n end past : ℕ) (on : Bool) (row : Row) (ends : DeadEnds) → n ≤ past + 1 → end ≤ past → AreTails all text i n on row (raised end ends) → AreDead all text (raised past ends)
past_dead all text i n end past on row ends short le t = λ place id j m noted above inside run.
    (let p = above_both past place ends above in
    let x = t place id j m noted (above_raised end place ends p.0 (omega (arith, p.1, le))) inside run in
    omega (arith, x.1, p.1, short))

-- the floor is there
module _ (all : List Node) (text : List ℕ) (end : ℕ) (old new : DeadEnds) (steps : new.step ≡ old.step) (noted : new.marks ≡ old.marks) (higher : old.floor ≤ new.floor) (floor : end ≤ new.floor) where
  noted_before : (place id : ℕ) → IsNoted new.step new.marks.items place id → IsNoted old.step old.marks.items place id
  noted_before place id n = subst (λ k. IsNoted k old.marks.items place id) steps (subst (λ (v : Vec Marks Global). IsNoted new.step v.items place id) noted n)

  pub forgotten_tails : (i n : ℕ) (on : Bool) (row : Row) → AreTails all text i n on row (raised end old) → AreTails all text i n on row new
  forgotten_tails i n on row t = λ place id j m is above inside run.
      t place id j m (noted_before place id is) (above_raised end place old (omega (arith, above, higher)) (omega (arith, above, floor))) inside run

  pub forgotten_dead : AreDead all text (raised end old) → AreDead all text new
  forgotten_dead d = λ place id j m is above inside run.
      d place id j m (noted_before place id is) (above_raised end place old (omega (arith, above, higher)) (omega (arith, above, floor))) inside run

-- ---- a row is looked at

-- the threads of a row are marked at its place
module _ (all : List Node) (text : List ℕ) (at number : ℕ) (row : Row) (ends : DeadEnds) (old new : Marks) (marks : List Marks) (place : at ≡ number * ends.step) (is : slice_get marks number ≡ Some old) (kept : (place id : ℕ) → IsNoted ends.step marks place id → IsNoted ends.step ends.marks.items place id) (above : ends.floor < at) (t : AreTails all text at at true row ends) where
  pub marked_nowhere : AreAllMarked row.ranks.items old.items → LeadsNowhere all text at row
  marked_nowhere whole = λ j s inside r.
      (let n : IsNoted ends.step marks at r.id = record { number = number; at = place; nodes = old; is = is; marked = whole r.id (holds_rank row.ranks.items r.id s r.holds) } in
      let x = t at r.id j r.steps (kept at r.id n) above inside r.run in absurd (omega (arith, x.1)))

  pub marked_tails : MarksOnly row.ranks.items old.items new.items → (place id j m : ℕ) → IsNoted ends.step (set marks number new) place id → ends.floor < place → j ≤ length text → Runs all text j m id place → (true ≡ true) × (place < at + 1) × IsTail all text at row j
  marked_tails only = λ q id j m noted high inside run. elim (noted_put ends.step number q id marks old new row.ranks.items is only noted) [
    | inl older ↦ (let x = t q id j m (kept q id older) high inside run in (refl, omega (arith, x.1), x.2))
    | inr now ↦ (
        let e : q ≡ at = now.0 ∙ sym place in
        let here = subst (λ k. Runs all text j m id k) e run in
        let h = rank_thread row.ranks.items id now.1 in
        (refl, omega (arith, e), (runs_le all text j m id at here, ∣ (h.0, record { steps = m; id = id; holds = h.1; run = here }) ∣₁)))
  ]

-- ---- a search goes on

some_out : {X : Type 0} (o : Option X) → is_none o ≡ true → o ≡ None
some_out None e = refl
some_out (Some x) e = absurd cc

both_true : (a b : Bool) → (a && b) ≡ true → (a ≡ true) × (b ≡ true)
both_true true b e = (refl, e)
both_true false b e = absurd cc

-- a row that accepts nothing keeps all its threads
all_threads : (found : Bool) (row : Row) → row.inside ≡ None → limit_of found row ≡ row.count
all_threads false row e = refl
all_threads true row e = ap (λ o. last_number o row.count) e

begun_in : (all : List Node) (entry count : ℕ) (found : Bool) (old new : Set) → found ≡ true → Begins found entry count old new → new ≡ old
begun_in all entry count true old new e b = b
begun_in all entry count false old new e b = absurd cc

module _ (all : List Node) (text : List ℕ) (entry i byte : ℕ) (old : Row) (known : IsRow all old) (is_first : old.first ≡ nat_eq i 0) (inside : i < length text) (here : slice_get text i ≡ Some byte) where
  len : length (threads_of old) ≡ length all
  len = length_numbers old.ranks.items ∙ known.len

  -- no run of the row's threads ends here, where it accepts nothing
  ends_later : old.inside ≡ None → (j s : ℕ) → i ≤ j → SetRuns all text j i (threads_of old) s → i < j
  ends_later none j s le r = elim (cases_lt i j) [
    | inl later ↦ later
    | inr not ↦ (
        let e : j ≡ i = omega arith in
        let run = subst (λ x. Runs all text x r.steps r.id i) e r.run in
        let a = ends_in all text i old.first false (threads_of old) (place_in text i old.first is_first inside) len known.closed r.steps r.id s r.holds run in
        absurd (subst (λ x. IsAccepted all (threads_of old) (length all) x) none known.inside a.id a.first (slice_get_within all a.id _ a.accepts) a.holds a.accepts))
  ]

  goes_on : (j s : ℕ) (new : Row) (f : ℕ → ℕ) (found : Bool) → found ≡ true → old.inside ≡ None → IsMoved all entry byte found old new f → i < j → SetRuns all text j i (threads_of old) s → (k : ℕ) × SetRuns all text j (i + 1) (threads_of new) k
  goes_on j s new f found is none m later r =
      let held = holds_cut (limit_of found old) (threads_of old) r.id s r.holds (let x = known.few r.id s r.holds in omega (arith, x, all_threads found old none)) in
      let n = step_on all text j i byte old.first false (cut (limit_of found old) (threads_of old)) m.stepped (place_in text i old.first is_first inside) here later (length_cut (limit_of found old) (threads_of old) ∙ len) (closed_cut all old.first false 0 (limit_of found old) (threads_of old) known.closed) m.steps s (record { steps = r.steps; id = r.id; holds = held; run = r.run }) in
      let begun = subst (λ (xs : Set). Holds xs n.runs.id n.first) (sym (begun_in all entry old.count found m.stepped m.made.begun is m.made.begins)) n.runs.holds in
      made_in all text entry j (i + 1) n.first old.count found false m.stepped new f m.made (record { steps = n.runs.steps; id = n.runs.id; holds = begun; run = n.runs.run })

  pub tails_on : (new : Row) (f : ℕ → ℕ) (found : Bool) (ends : DeadEnds) → IsMoved all entry byte found old new f → AreTails all text i (i + 1) (found && is_none old.inside) old ends → AreTails all text (i + 1) (i + 1) found new ends
  tails_on new f found ends m t = λ place id j n noted above within run.
      (let x = t place id j n noted above within run in
      let on = both_true found (is_none old.inside) x.0 in
      let none = some_out old.inside on.1 in
      let later : i < j = ∥∥₁_elim x.2.1 (search props) (λ r. ends_later none j r.0 x.2.0 r.1) in
      (on.0, x.1, (omega (arith, later), ∥∥₁_map x.2.1 (λ r. goes_on j r.0 new f found on.0 none m later r.1))))

-- the text ends, and nothing is accepted
pub end_dead : (all : List Node) (text : List ℕ) (i n : ℕ) (on : Bool) (row : Row) (ends : DeadEnds) → IsRow all row → row.first ≡ nat_eq i 0 → i ≡ length text → row.at_end ≡ None → AreTails all text i n on row ends → AreDead all text ends
end_dead all text i n on row ends known is_first e none t = λ place id j m noted above inside run.
    (let x = t place id j m noted above inside run in
    ∥∥₁_elim x.2.1 (hlevel props) (λ r.
    (let same : j ≡ i = omega (arith, x.2.0, inside, e) in
    let now = subst (λ k. Runs all text k r.1.steps r.1.id i) same r.1.run in
    let w = known.is_ending.within.at r.1.id r.0 r.1.holds in
    let a = ends_in all text i row.first true known.ending (place_last text i row.first is_first e) (known.is_ending.len ∙ length_numbers row.ranks.items ∙ known.len) known.is_ending.closed r.1.steps r.1.id w.first w.holds now in
    subst (λ o. IsAccepted all known.ending (length all) o) none known.at_end a.id a.first (slice_get_within all a.id _ a.accepts) a.holds a.accepts)))
