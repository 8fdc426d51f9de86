-- A search by rows does what a scan with threads does.
use Rattle.std.proofs.Common.{◌≡◌, ℕ, ◌+◌, ◌<◌, ◌≤◌, inl, inr, Bool, true, false, cond, List, length, Option, Some, None, refl, sym, ap, ◌∙◌, subst, arith, get_or, nat_eq, nat_le}
use Rattle.std.specs.Prelude.{slice_get}
use Rattle.std.specs.Option.{is_some}
use Rattle.std.proofs.lemmas.Bool.{cases_lt, eq-eqb, eqb-true, eqb-false, leb-false}
use Rattle.ere_match.specs.declared.node.Node.{Node}
use Rattle.ere_match.specs.declared.row.Row.{Row}
use Rattle.ere_match.specs.declared.row.Table.{Table}
use Rattle.ere_match.specs.Ends.{LeadsNowhere}
use Rattle.ere_match.specs.Threads.{AreThreads, Holds, IsAt, IsBest, IsNear, IsOpen, IsSeeded, IsSettled, better_of}
use Rattle.ere_match.specs.Rows.{AreEarly, Begins, HasBegun, HasMoved, IsIncreasing, IsLatest, IsMade, IsRow, IsSearching, IsSearchingAt, IsTable, cut, last_number, limit_of, spread, started_with, threads_of, with_new}
use Rattle.ere_match.proofs.Ranks.{length_cut, length_spread}
use Rattle.ere_match.proofs.Scans.{best_done, best_start, settled, threads_closed, threads_seed, threads_start, threads_stay, threads_step}
use Rattle.ere_match.proofs.Spreads.{AreBelow, accepted_spread, closed_cut, closed_spread, closure_spread, cut_holds, down, holds_cut, holds_spread, seeded_spread, spread_holds, spread_same, spread_spread, stepped_spread}

abbrev Set : Type 0
Set = List (Option ℕ)

pub row_in : (a b : Row) → Some a ≡ Some b → a ≡ b
row_in a b e = cc

with_old : (f : ℕ → ℕ) (n at k : ℕ) → k < n → with_new f n at k ≡ f k
with_old f n at k less = by (nat_eq k n) refl
  where
    by : (b : Bool) → nat_eq k n ≡ b → cond b at (f k) ≡ f k
    by true e = absurd (let x = eqb-true k n e in omega (arith, x, less))
    by false e = refl

with_last : (f : ℕ → ℕ) (n at : ℕ) → with_new f n at n ≡ at
with_last f n at = ap (λ b. cond b at (f n)) (eq-eqb n n refl)

pub not_first : (i : ℕ) → nat_eq (i + 1) 0 ≡ false
not_first i = by (nat_eq (i + 1) 0) refl
  where
    by : (b : Bool) → nat_eq (i + 1) 0 ≡ b → b ≡ false
    by true e = absurd (let x = eqb-true (i + 1) 0 e in omega (arith, x))
    by false e = refl

with_increasing : (f : ℕ → ℕ) (n at : ℕ) → IsIncreasing n f → ((k : ℕ) → k < n → f k < at) → IsIncreasing (n + 1) (with_new f n at)
with_increasing f n at inc low = record {
  up = λ a b less below.
      (let x = with_old f n at a (omega (arith, less, below)) in
      elim (cases_lt b n) [
        | inl small ↦ (let y = with_old f n at b small in let z = inc.up a b less small in omega (arith, x, y, z))
        | inr large ↦ (let e : b ≡ n = omega arith in let y = ap (with_new f n at) e ∙ with_last f n at in let z = low a (omega (arith, less, below)) in omega (arith, x, y, z))
      ]);
}

-- ---- a row is entered

module _ (all : List Node) (text : List ℕ) (entry from p n : ℕ) (f g : ℕ → ℕ) (found first : Bool) (stepped : Set) (row : Row) (inc : IsIncreasing (n + 1) f) (last : f n ≡ p) (few : AreBelow n stepped) (known : IsRow all row) (made : IsMade all entry found first n stepped row g) where
  few_more : AreBelow (n + 1) stepped
  few_more id s holds = (let x = few id s holds in omega (arith, x))

  begun_few : (b : Bool) → Begins b entry n stepped made.begun → AreBelow (n + 1) made.begun
  begun_few false b id s holds = elim (b.only id s holds) [ inl older ↦ few_more id s older | inr is ↦ omega (arith, is.1) ]
  begun_few true b id s holds = few_more id s (subst (λ (xs : Set). Holds xs id s) b holds)

  begun_threads : (best : Option (ℕ × ℕ)) → from ≤ p → is_some best ≡ found → IsBest all text entry from p best → AreThreads all text entry from p p (spread f stepped) best → AreThreads all text entry from p (p + 1) (spread f made.begun) best
  begun_threads None above is b th =
      let s = subst (λ k. Begins k entry n stepped made.begun) (sym is) made.begins in
      threads_seed all text entry from p (spread f stepped) (spread f made.begun) above th (subst (λ k. IsSeeded entry k (spread f stepped) (spread f made.begun)) last (seeded_spread (n + 1) f inc entry n stepped made.begun (omega arith) few_more s))
  begun_threads (Some q) above is b th =
      let s : made.begun ≡ stepped = subst (λ k. Begins k entry n stepped made.begun) (sym is) made.begins in
      subst (λ xs. AreThreads all text entry from p (p + 1) (spread f xs) (Some q)) (sym s) (threads_stay all text entry from p (spread f stepped) q th b)

  few_now : AreBelow (n + 1) (spread g (threads_of row))
  few_now id t holds = (let o = spread_holds g (threads_of row) id t holds in let x = made.known o.number (known.few id o.number o.holds) in omega (arith, x, o.is))

  pub entered_threads : (best : Option (ℕ × ℕ)) → from ≤ p → IsNear text p first false → is_some best ≡ found → IsBest all text entry from p best → AreThreads all text entry from p p (spread f stepped) best → AreThreads all text entry from p (p + 1) (spread (λ k. f (g k)) (threads_of row)) best
  entered_threads best above near is b th =
      let closes = closure_spread (n + 1) f inc all first false made.begun (spread g (threads_of row)) (begun_few found made.begins) few_now made.closes in
      subst (λ xs. AreThreads all text entry from p (p + 1) xs best) (spread_spread f g (threads_of row))
      (threads_closed all text entry from p first false near (spread f made.begun) (spread f (spread g (threads_of row))) best (begun_threads best above is b th) closes)

  pub entered_increasing : IsIncreasing row.count (λ k. f (g k))
  entered_increasing = record { up = λ a b less below. inc.up (g a) (g b) (made.increasing.up a b less below) (let x = made.known b below in omega (arith, x)) }

-- ---- the search begins

pub search_begins : (all : List Node) (text : List ℕ) (entry from state : ℕ) (classes : List ℕ) (t : Table) → IsTable all entry classes t → HasBegun all entry from t state → IsSearching all text entry from from state None t
search_begins all text entry from state classes t h b =
    let known = h.rows state b.row b.is in
    let f : ℕ → ℕ = with_new (λ _. 0) 0 from in
    let inc = with_increasing (λ _. 0) 0 from (record { up = λ a b less below. absurd (omega arith) }) (λ k less. absurd (omega arith)) in
    let few : AreBelow 0 b.stepped = λ id s holds. absurd (b.empty.none id s holds) in
    let at : (k : ℕ) → k < b.row.count → f (b.f k) ≡ get_or t.starts.items k 0 = λ k less.
    (let x = b.made.known k less in let e : b.f k ≡ 0 = omega (arith, x) in ap f e ∙ with_last (λ _. 0) 0 from ∙ sym (b.starts k less)) in
    let none : (id s : ℕ) → Holds (spread f b.stepped) id s → ⊥ = λ id s holds. (let o = spread_holds f b.stepped id s holds in b.empty.none id o.number o.holds) in
    let th = threads_start all text entry from from (spread f b.stepped) (length_spread f b.stepped ∙ b.len) none refl in
    let near : IsNear text from (nat_eq from 0) false = record { is_first = eqb-true from 0; is_last = λ e. absurd cc } in
    let best = best_start all text entry from from refl in record {
      row = b.row;
      is = b.is;
      room = known.room;
      at = record {
        known = known.is;
        is_first = b.made.is_first;
        increasing = record { up = λ i j less below. (let x = (entered_increasing all text entry from from 0 f b.f false (nat_eq from 0) b.stepped b.row inc (with_last (λ _. 0) 0 from) few known.is b.made).up i j less below in let y = at i (omega (arith, less, below)) in let z = at j below in omega (arith, x, y, z)) };
        near = λ k less. (let x = b.starts k less in omega (arith, x));
        threads = subst (λ xs. AreThreads all text entry from from (from + 1) xs None) (spread_same (λ k. f (b.f k)) (λ k. get_or t.starts.items k 0) (threads_of b.row) (λ id s holds. at s (known.is.few id s holds)))
            (entered_threads all text entry from from 0 f b.f false (nat_eq from 0) b.stepped b.row inc (with_last (λ _. 0) 0 from) few known.is b.made None (omega arith) near refl best th);
        is_best = best;
      };
    }

-- ---- a place of the search

pub search_at : (all : List Node) (text : List ℕ) (entry from i state : ℕ) (best : Option (ℕ × ℕ)) (t : Table) (row : Row) → slice_get t.rows.items state ≡ Some row → IsSearching all text entry from i state best t → IsSearchingAt all text entry from i best t.starts.items row
search_at all text entry from i state best t row is s = subst (IsSearchingAt all text entry from i best t.starts.items) (row_in s.row row (sym s.is ∙ is)) s.at

module _ (all : List Node) (text : List ℕ) (entry from i : ℕ) (best : Option (ℕ × ℕ)) (starts : List ℕ) (row : Row) (s : IsSearchingAt all text entry from i best starts row) where
  start : ℕ → ℕ
  start k = get_or starts k 0

  place_at : i < length text → IsAt text i row.first false
  place_at inside = record {
    near = record { is_first = λ e. eqb-true i 0 (sym s.is_first ∙ e); is_last = λ e. absurd cc };
    first_is = λ e. s.is_first ∙ eq-eqb i 0 e;
    last_is = λ e. absurd (omega (arith, inside, e));
  }

  pub search_settled : i < length text → IsSettled all text entry from i row.first false (spread (λ k. get_or starts k 0) (threads_of row)) (better_of (started_with (λ k. get_or starts k 0) row.inside) i best)
  search_settled inside = settled all text entry from i row.first false (place_at inside) (spread (λ k. get_or starts k 0) (threads_of row)) best (started_with (λ k. get_or starts k 0) row.inside) (omega (arith, inside)) s.threads
      (closed_spread row.count (λ k. get_or starts k 0) s.increasing all row.first false 0 (threads_of row) s.known.few s.known.closed)
      (accepted_spread row.count (λ k. get_or starts k 0) s.increasing all (length all) (threads_of row) row.inside s.known.few s.known.inside) s.is_best

  pub search_ends : i ≡ length text → IsBest all text entry from (i + 1) (better_of (started_with (λ k. get_or starts k 0) row.at_end) i best)
  search_ends e =
      let near : IsNear text i row.first true = record { is_first = λ k. eqb-true i 0 (sym s.is_first ∙ k); is_last = λ _. e } in
      let is : IsAt text i row.first true = record { near = near; first_is = λ k. s.is_first ∙ eq-eqb i 0 k; last_is = λ _. refl } in
      let few : AreBelow row.count s.known.ending = λ id t holds. (let o = s.known.is_ending.starts.at id t holds in s.known.few o.0 t o.1) in
      let closes = closure_spread row.count (λ k. get_or starts k 0) s.increasing all row.first true (threads_of row) s.known.ending s.known.few few s.known.is_ending in
      (settled all text entry from i row.first true is (spread (λ k. get_or starts k 0) s.known.ending) best (started_with (λ k. get_or starts k 0) row.at_end) (omega (arith, e))
      (threads_closed all text entry from i row.first true near (spread (λ k. get_or starts k 0) (threads_of row)) (spread (λ k. get_or starts k 0) s.known.ending) best s.threads closes) closes.closed
      (accepted_spread row.count (λ k. get_or starts k 0) s.increasing all (length all) s.known.ending row.at_end few s.known.at_end) s.is_best).best

  -- no start that may still be the first is behind the last number of use
  open_limit : (o : Option ℕ) (k : ℕ) → k < row.count → IsOpen (better_of (started_with (λ k. get_or starts k 0) o) i best) (get_or starts k 0) → k ≤ last_number o row.count
  open_limit None k less h = omega (arith, less)
  open_limit (Some c) k less h = by best h
    where
      by : (best : Option (ℕ × ℕ)) → IsOpen (better_of (Some (get_or starts c 0)) i best) (get_or starts k 0) → k ≤ c
      by None h = down row.count (λ k. get_or starts k 0) s.increasing k c less h
      by (Some p) h = at (nat_le (get_or starts c 0) p.0) refl h
        where
          at : (b : Bool) → nat_le (get_or starts c 0) p.0 ≡ b → IsOpen (cond b (Some (get_or starts c 0, i)) (Some p)) (get_or starts k 0) → k ≤ c
          at true q h = down row.count (λ k. get_or starts k 0) s.increasing k c less h
          at false q h = down row.count (λ k. get_or starts k 0) s.increasing k c less (let l = leb-false (get_or starts c 0) p.0 q in omega (arith, l, h))

  limit_open : (found : Bool) (k : ℕ) → k < row.count → IsOpen (better_of (started_with (λ k. get_or starts k 0) row.inside) i best) (get_or starts k 0) → k ≤ limit_of found row
  limit_open false k less h = omega (arith, less)
  limit_open true k less h = open_limit row.inside k less h

  pub search_cut : (found : Bool) → i < length text → IsSettled all text entry from i row.first false (spread (λ k. get_or starts k 0) (cut (limit_of found row) (threads_of row))) (better_of (started_with (λ k. get_or starts k 0) row.inside) i best)
  search_cut found inside =
      let h = search_settled inside in
      let few : AreBelow row.count (cut (limit_of found row) (threads_of row)) = λ id k holds. s.known.few id k (cut_holds (limit_of found row) (threads_of row) id k holds).0 in
      let back : (id t : ℕ) → Holds (spread (λ k. get_or starts k 0) (cut (limit_of found row) (threads_of row))) id t → Holds (spread (λ k. get_or starts k 0) (threads_of row)) id t = λ id t holds.
      (let o = spread_holds (λ k. get_or starts k 0) (cut (limit_of found row) (threads_of row)) id t holds in
      subst (λ u. Holds (spread (λ k. get_or starts k 0) (threads_of row)) id u) (sym o.is) (holds_spread (λ k. get_or starts k 0) (threads_of row) id o.number (cut_holds (limit_of found row) (threads_of row) id o.number o.holds).0)) in record {
        threads = record {
          len = length_spread (λ k. get_or starts k 0) (cut (limit_of found row) (threads_of row)) ∙ length_cut (limit_of found row) (threads_of row) ∙ sym (length_spread (λ k. get_or starts k 0) (threads_of row)) ∙ h.threads.len;
          starts = λ id t holds. h.threads.starts id t (back id t holds);
          back = λ j t r. h.threads.back j t (record { steps = r.steps; id = r.id; holds = back r.id t r.holds; run = r.run });
          on = λ t j m above below r open' run.
              (let o = h.threads.on t j m above below r open' run in
              let u = spread_holds (λ k. get_or starts k 0) (threads_of row) o.2.id o.0 o.2.holds in
              let open'' = opens_less (better_of (started_with (λ k. get_or starts k 0) row.inside) i best) t (get_or starts u.number 0) (omega (arith, o.1, u.is)) open' in
              let c = holds_cut (limit_of found row) (threads_of row) o.2.id u.number u.holds (limit_open found u.number (s.known.few o.2.id u.number u.holds) open'') in
              (o.0, o.1, record { steps = o.2.steps; id = o.2.id; holds = subst (λ v. Holds (spread (λ k. get_or starts k 0) (cut (limit_of found row) (threads_of row))) o.2.id v) (sym u.is) (holds_spread (λ k. get_or starts k 0) (cut (limit_of found row) (threads_of row)) o.2.id u.number c); run = o.2.run }));
        };
        best = h.best;
        closed = closed_spread row.count (λ k. get_or starts k 0) s.increasing all row.first false 0 (cut (limit_of found row) (threads_of row)) few (closed_cut all row.first false 0 (limit_of found row) (threads_of row) s.known.closed);
      }
    where
      opens_less : (best : Option (ℕ × ℕ)) (t u : ℕ) → u ≤ t → IsOpen best t → IsOpen best u
      opens_less None t u le h = tt
      opens_less (Some p) t u le h = omega (arith, le, h)

  pub search_over : (p : ℕ × ℕ) → LeadsNowhere all text i row → i < length text → better_of (started_with (λ k. get_or starts k 0) row.inside) i best ≡ Some p → IsBest all text entry from (length text + 1) (Some p)
  search_over p none inside is =
      let h = search_settled inside in
      let th = subst (AreThreads all text entry from i (i + 1) (spread (λ k. get_or starts k 0) (threads_of row))) is h.threads in
      let b = subst (IsBest all text entry from (i + 1)) is h.best in
      best_done all text entry from i (spread (λ k. get_or starts k 0) (threads_of row)) p i (omega arith) th (λ j t within r.
      (let o = spread_holds (λ k. get_or starts k 0) (threads_of row) r.id t r.holds in none j o.number within (record { steps = r.steps; id = r.id; holds = o.holds; run = r.run }))) b inside

-- ---- the search goes on

pub search_step : (all : List Node) (text : List ℕ) (entry from i byte state to : ℕ) (found : Bool) (best next : Option (ℕ × ℕ)) (classes : List ℕ) (old new : Table) (row : Row) → from ≤ i → i < length text → slice_get text i ≡ Some byte → slice_get old.rows.items state ≡ Some row → next ≡ better_of (started_with (λ k. get_or old.starts.items k 0) row.inside) i best → is_some next ≡ found → IsTable all entry classes new → HasMoved all entry byte found (i + 1) old state new to → IsSearching all text entry from i state best old → IsSearching all text entry from (i + 1) to next new
search_step all text entry from i byte state to found best next classes old new row above inside here is now has h m s =
    go (subst (λ (r : Row). next ≡ better_of (started_with (λ k. get_or old.starts.items k 0) r.inside) i best) (row_in row m.before (sym is ∙ m.was)) now) (search_at all text entry from i state best old m.before m.was s)
  where
    go : next ≡ better_of (started_with (λ k. get_or old.starts.items k 0) m.before.inside) i best → IsSearchingAt all text entry from i best old.starts.items m.before → IsSearching all text entry from (i + 1) to next new
    go e a =
        let r : ℕ → ℕ = λ k. get_or old.starts.items k 0 in
        let n = m.before.count in
        let f : ℕ → ℕ = with_new (λ k. get_or old.starts.items k 0) m.before.count (i + 1) in
        let known = h.rows to m.row m.is in
        let inc = with_increasing (λ k. get_or old.starts.items k 0) m.before.count (i + 1) a.increasing (λ k less. (let x = a.near k less in omega (arith, x))) in
        let few : AreBelow m.before.count m.moved.stepped = λ id k holds. (let o = m.moved.steps.only id k holds in a.known.few o.0 k (cut_holds (limit_of found m.before) (threads_of m.before) o.0 k o.1).0) in
        let cutfew : AreBelow m.before.count (cut (limit_of found m.before) (threads_of m.before)) = λ id k holds. a.known.few id k (cut_holds (limit_of found m.before) (threads_of m.before) id k holds).0 in
        let settled' = subst (IsSettled all text entry from i m.before.first false (spread (λ k. get_or old.starts.items k 0) (cut (limit_of found m.before) (threads_of m.before)))) (sym e) (search_cut all text entry from i best old.starts.items m.before a found inside) in
        let st = stepped_spread m.before.count (λ k. get_or old.starts.items k 0) a.increasing all byte (length all) (cut (limit_of found m.before) (threads_of m.before)) m.moved.stepped cutfew m.moved.steps in
        let th = threads_step all text entry from i m.before.first false (place_at all text entry from i best old.starts.items m.before a inside) (spread (λ k. get_or old.starts.items k 0) (cut (limit_of found m.before) (threads_of m.before))) (spread (λ k. get_or old.starts.items k 0) m.moved.stepped) next byte here settled' st in
        let th' = subst (λ xs. AreThreads all text entry from (i + 1) (i + 1) xs next) (spread_same (λ k. get_or old.starts.items k 0) (with_new (λ k. get_or old.starts.items k 0) m.before.count (i + 1)) m.moved.stepped (λ id k holds. sym (with_old (λ k. get_or old.starts.items k 0) m.before.count (i + 1) k (few id k holds)))) th in
        let last = with_last (λ k. get_or old.starts.items k 0) m.before.count (i + 1) in
        let near : IsNear text (i + 1) false false = record { is_first = λ q. absurd cc; is_last = λ q. absurd cc } in
        let up = entered_increasing all text entry from (i + 1) m.before.count (with_new (λ k. get_or old.starts.items k 0) m.before.count (i + 1)) m.f found false m.moved.stepped m.row inc last few known.is m.moved.made in record {
          row = m.row;
          is = m.is;
          room = known.room;
          at = record {
            known = known.is;
            is_first = m.moved.made.is_first ∙ sym (not_first i);
            increasing = record { up = λ x y less below. (let u = up.up x y less below in let v = m.shifted x (omega (arith, less, below)) in let w = m.shifted y below in omega (arith, u, v, w)) };
            near = λ k less. (let v = m.shifted k less in let b = reach (λ k. get_or old.starts.items k 0) m.before.count (i + 1) (m.f k) (m.moved.made.known k less) (λ j q. (let x = a.near j q in omega (arith, x))) in omega (arith, v, b));
            threads = subst (λ xs. AreThreads all text entry from (i + 1) (i + 1 + 1) xs next) (spread_same (λ k. with_new (λ k. get_or old.starts.items k 0) m.before.count (i + 1) (m.f k)) (λ k. get_or new.starts.items k 0) (threads_of m.row) (λ id k holds. sym (m.shifted k (known.is.few id k holds))))
                (entered_threads all text entry from (i + 1) m.before.count (with_new (λ k. get_or old.starts.items k 0) m.before.count (i + 1)) m.f found false m.moved.stepped m.row inc last few known.is m.moved.made next (omega (arith, above)) near has settled'.best th');
            is_best = settled'.best;
          };
        }
      where
        reach : (g : ℕ → ℕ) (n at k : ℕ) → k ≤ n → ((j : ℕ) → j < n → g j ≤ at) → with_new g n at k ≤ at
        reach g n at k le small = by (nat_eq k n) refl
          where
            by : (b : Bool) → nat_eq k n ≡ b → cond b at (g k) ≤ at
            by true q = omega arith
            by false q = small k (let x = eqb-false k n q in omega (arith, x, le))

-- ---- no later start is left behind a match

late_none : (all : List Node) (row : Row) (starts : List ℕ) (start : ℕ) → IsIncreasing row.count (λ k. get_or starts k 0) → (o : Option ℕ) → row.inside ≡ o → ((k : ℕ) → o ≡ Some k → k < row.count) → IsLatest row starts o start → (id k : ℕ) → Holds (threads_of row) id k → k ≤ limit_of true row → get_or starts k 0 ≤ start
late_none all row starts start inc None e small latest id k holds le = latest id k holds
late_none all row starts start inc (Some c) e small latest id k holds le =
    let limit = ap (λ o. last_number o row.count) e in
    elim (cases_lt k c) [
      | inl less ↦ (let x = inc.up k c less (small c refl) in omega (arith, x, latest))
      | inr not ↦ (let same : k ≡ c = omega (arith, not, le, limit) in omega (arith, ap (λ n. get_or starts n 0) same, latest))
    ]

pub early_on : (all : List Node) (text : List ℕ) (entry from i byte state to start : ℕ) (best : Option (ℕ × ℕ)) (classes : List ℕ) (old new : Table) → (m : HasMoved all entry byte true (i + 1) old state new to) → IsSearchingAt all text entry from i best old.starts.items m.before → ((k : ℕ) → m.before.inside ≡ Some k → k < m.before.count) → IsLatest m.before old.starts.items m.before.inside start → IsTable all entry classes new → AreEarly m.row new.starts.items start
early_on all text entry from i byte state to start best classes old new m a small latest h = λ id k holds.
    (let below = (h.rows to m.row m.is).is.few id k holds in
    let begun = m.moved.made.closes.starts.at id (m.f k) (holds_spread m.f (threads_of m.row) id k holds) in
    let stepped = subst (λ (xs : Set). Holds xs begun.0 (m.f k)) m.moved.made.begins begun.1 in
    let o = m.moved.steps.only begun.0 (m.f k) stepped in
    let was = cut_holds (limit_of true m.before) (threads_of m.before) o.0 (m.f k) o.1 in
    let x = m.shifted k below in
    let y = with_old (λ n. get_or old.starts.items n 0) m.before.count (i + 1) (m.f k) (a.known.few o.0 (m.f k) was.0) in
    let z = late_none all m.before old.starts.items start a.increasing m.before.inside refl small latest o.0 (m.f k) was.0 was.1 in
    omega (arith, x, y, z))
