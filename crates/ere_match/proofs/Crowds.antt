-- Crowds.
use Rattle.std.proofs.Common.{◌≡◌, ℕ, ◌+◌, ◌<◌, ◌≤◌, inl, inr, Bool, true, false, List, length, Option, Some, None, refl, sym, ap, ◌∙◌, subst, arith, set, get_or, nat_eq}
use Rattle.std.specs.Prelude.{slice_get}
use Rattle.std.proofs.lemmas.Bool.{cases_lt, eq-eqb, eqb-true}
use Rattle.std.proofs.lemmas.Option.{slice_get_within}
use Rattle.ere_match.specs.declared.crowd.Crowd.{Crowd}
use Rattle.ere_match.specs.declared.node.Node.{Node}
use Rattle.ere_match.specs.declared.row.Move.{Move}
use Rattle.ere_match.specs.declared.row.Moves.{Moves}
use Rattle.ere_match.specs.declared.row.Row.{Row}
use Rattle.ere_match.specs.declared.row.Table.{Table}
use Rattle.ere_match.specs.Crowds.{HasGathered, HasLeapt, IsCrowd, IsCrowded, IsLeap, IsLeapColumn}
use Rattle.ere_match.specs.Rows.{AddsNoMoves, AreClasses, HasLed, IsMade, IsMadeMove, IsRow, column_at, columns, cut, source, threads_of}
use Rattle.ere_match.specs.Runs.{Runs}
use Rattle.ere_match.specs.Threads.{Holds, IsAccepted, IsAt, IsBest, IsStepped, SetRuns}
use Rattle.ere_match.proofs.Ranks.{length_cut, length_numbers}
use Rattle.ere_match.proofs.Scans.{place_in}
use Rattle.ere_match.proofs.Searches.{not_first}
use Rattle.ere_match.proofs.Spreads.{closed_cut, holds_cut, spread_holds}
use Rattle.ere_match.proofs.Steps.{ends_in, runs_le, runs_within, step_on}
use Rattle.ere_match.proofs.Tables.{column_set, led_few, stepped_class}

abbrev Set : Type 0
Set = List (Option ℕ)

abbrev pub AreKept : List Row → List Row → Type 0
AreKept old new = (r : ℕ) (row : Row) → slice_get old r ≡ Some row → slice_get new r ≡ Some row

abbrev pub AreLeaps : List Node → ℕ → List ℕ → List Row → List Moves → Type 0
AreLeaps all entry classes rows leaps = (r c : ℕ) (m : Move) → column_at false (slice_get leaps r) c ≡ Some m → IsLeapColumn all entry classes rows r c m.to

-- ---- leaps

pub leaps_on : (all : List Node) (entry : ℕ) (classes : List ℕ) (old new : List Row) (leaps more : List Moves) → AreKept old new → AddsNoMoves leaps more → AreLeaps all entry classes old leaps → AreLeaps all entry classes new more
leaps_on all entry classes old new leaps more kept adds h = λ r c m e.
    (let k = h r c m (adds.only false r c m e) in record {
      row = k.row;
      is = kept r k.row k.is;
      leads = λ byte small class. (let l = k.leads byte small class in record { row = l.row; is = kept m.to l.row l.is; stepped = l.stepped; steps = l.steps; f = l.f; made = l.made });
    })

pub leaps_put : (all : List Node) (entry byte state class : ℕ) (classes : List ℕ) (row : Row) (rows : List Row) (leaps : List Moves) (x y : Moves) (to : Move) → AreClasses all classes → byte < 256 → class ≡ get_or classes byte 0 → slice_get rows state ≡ Some row → IsLeap all entry byte row rows to.to → slice_get leaps state ≡ Some x → columns false y ≡ set (columns false x) class (Some to) → ((b : Bool) → (b ≡ false → ⊥) → columns b y ≡ columns b x) → AreLeaps all entry classes rows leaps → AreLeaps all entry classes rows (set leaps state y)
leaps_put all entry byte state class classes row rows leaps x y to apart small is_class is leap at here other h = λ r c m e. elim (column_set false false r c state class m leaps x y to at here other e) [
  | inl older ↦ h r c m older
  | inr now ↦ record {
    row = row;
    is = ap (λ k. slice_get rows k) now.0 ∙ is;
    leads = λ d below same. record {
      row = leap.row;
      is = ap (λ (k : Move). slice_get rows k.to) now.3 ∙ leap.is;
      stepped = leap.stepped;
      steps = stepped_class all classes byte d (length all) _ leap.stepped apart small below (sym is_class ∙ sym now.2 ∙ sym same) leap.steps;
      f = leap.f;
      made = leap.made;
    };
  }
]

pub leap_made : (all : List Node) (entry byte count state : ℕ) (rows : List Row) (now : Table) (next : Set) (m : Move) → (l : HasLed all byte false rows state next count) → IsMadeMove all entry false false 0 next now m → IsLeap all entry byte l.row now.rows.items m.to
leap_made all entry byte count state rows now next m l made = record {
  row = made.row;
  is = made.is.is;
  stepped = next;
  steps = l.steps;
  f = source now.sources.items m;
  made = made.made;
}

-- in a crowd the threads that were led on have number 0
pub led_one : (all : List Node) (byte state count id s : ℕ) (rows : List Row) (next : Set) → ((row : Row) → slice_get rows state ≡ Some row → IsRow all row) → ((row : Row) → slice_get rows state ≡ Some row → row.count ≤ 1) → HasLed all byte false rows state next count → Holds next id s → s < 1
led_one all byte state count id s rows next known single l holds = (let f = led_few all byte state count id s false rows next known l holds in let x = single l.row l.is in omega (arith, f, x, l.counts))

-- ---- places

pub single_made : (all : List Node) (entry : ℕ) (first : Bool) (stepped : Set) (row : Row) (f : ℕ → ℕ) → IsMade all entry false first 0 stepped row f → row.count ≤ 1
single_made all entry first stepped row f made = elim (cases_lt 1 row.count) [
  | inl more ↦ absurd (let x = made.increasing.up 0 1 (omega arith) more in let y = made.known 1 more in omega (arith, x, y))
  | inr few ↦ few
]

pub place_last : (text : List ℕ) (i : ℕ) (first : Bool) → first ≡ nat_eq i 0 → i ≡ length text → IsAt text i first true
place_last text i first is e = record {
  near = record { is_first = λ k. eqb-true i 0 (sym is ∙ k); is_last = λ _. e };
  first_is = λ k. is ∙ eq-eqb i 0 k;
  last_is = λ _. refl;
}

-- threads of the row of those that were led on
pub made_in : (all : List Node) (text : List ℕ) (entry j p s n : ℕ) (found first : Bool) (stepped : Set) (row : Row) (f : ℕ → ℕ) → (made : IsMade all entry found first n stepped row f) → SetRuns all text j p made.begun s → (k : ℕ) × SetRuns all text j p (threads_of row) k
made_in all text entry j p s n found first stepped row f made r =
    let h = made.closes.within.at r.id s r.holds in
    let o = spread_holds f (threads_of row) r.id h.first h.holds in
    (o.number, record { steps = r.steps; id = r.id; holds = o.holds; run = r.run })

-- a thread that begins here
begun_in : (all : List Node) (text : List ℕ) (entry j p m : ℕ) (first : Bool) (stepped : Set) (row : Row) (f : ℕ → ℕ) → length stepped ≡ length all → IsMade all entry false first 0 stepped row f → Runs all text j m entry p → (k : ℕ) × SetRuns all text j p (threads_of row) k
begun_in all text entry j p m first stepped row f len made run =
    let h = made.begins.here (omega (arith, runs_within all text j m entry p run, len)) in
    made_in all text entry j p h.first 0 false first stepped row f made (record { steps = m; id = entry; holds = h.holds; run = run })

pub crowded_begins : (all : List Node) (text : List ℕ) (entry from to : ℕ) (crowd : Crowd) → HasGathered all entry (nat_eq from 0) crowd to → IsCrowded all text entry from from to crowd
crowded_begins all text entry from to crowd g = record {
  row = g.row;
  is = g.is;
  single = single_made all entry (nat_eq from 0) g.stepped g.row g.f g.made;
  is_first = g.made.is_first;
  on = λ t j m above below r run.
      (let e : t ≡ from = omega arith in
      begun_in all text entry j from m (nat_eq from 0) g.stepped g.row g.f g.len g.made (subst (λ k. Runs all text j m entry k) e run));
}

module _ (all : List Node) (text : List ℕ) (entry from i state : ℕ) (classes : List ℕ) (crowd : Crowd) (row : Row) (read : slice_get crowd.table.rows.items state ≡ Some row) (h : IsCrowd all entry classes crowd) (c : IsCrowded all text entry from i state crowd) where
  known : IsRow all row
  known = (h.table.rows state row read).is

  same_row : c.row ≡ row
  same_row = inner c.row row (sym c.is ∙ read)
    where
      inner : (a b : Row) → Some a ≡ Some b → a ≡ b
      inner a b e = cc

  is_first : row.first ≡ nat_eq i 0
  is_first = ap (λ (r : Row). r.first) (sym same_row) ∙ c.is_first

  on : (t j m : ℕ) → from ≤ t → t ≤ i → i ≤ j → Runs all text j m entry t → (s : ℕ) × SetRuns all text j i (threads_of row) s
  on t j m above below r run = subst (λ (x : Row). (s : ℕ) × SetRuns all text j i (threads_of x) s) same_row (c.on t j m above below r run)

  len : length (threads_of row) ≡ length all
  len = length_numbers row.ranks.items ∙ known.len

  pub crowded_none : row.inside ≡ None → i < length text → IsBest all text entry from i None → IsBest all text entry from (i + 1) None
  crowded_none e inside b = λ s j m above below run. elim (cases_lt j i) [
    | inl before ↦ b s j m above before run
    | inr here ↦ (
        let is : j ≡ i = omega arith in
        let now = subst (λ x. Runs all text x m entry s) is run in
        let o = on s i m above (runs_le all text i m entry s now) (omega arith) now in
        let a = ends_in all text i row.first false (threads_of row) (place_in text i row.first is_first inside) len known.closed o.1.steps o.1.id o.0 o.1.holds o.1.run in
        let none = subst (λ x. IsAccepted all (threads_of row) (length all) x) e known.inside in
        none a.id a.first (slice_get_within all a.id _ a.accepts) a.holds a.accepts)
  ]

  pub crowded_over : row.at_end ≡ None → i ≡ length text → IsBest all text entry from i None → IsBest all text entry from (i + 1) None
  crowded_over e at b = λ s j m above below run. elim (cases_lt j i) [
    | inl before ↦ b s j m above before run
    | inr here ↦ (
        let is : j ≡ i = omega arith in
        let now = subst (λ x. Runs all text x m entry s) is run in
        let o = on s i m above (runs_le all text i m entry s now) (omega arith) now in
        let w = known.is_ending.within.at o.1.id o.0 o.1.holds in
        let a = ends_in all text i row.first true known.ending (place_last text i row.first is_first at) (known.is_ending.len ∙ len) known.is_ending.closed o.1.steps o.1.id w.first w.holds o.1.run in
        let none = subst (λ x. IsAccepted all known.ending (length all) x) e known.at_end in
        none a.id a.first (slice_get_within all a.id _ a.accepts) a.holds a.accepts)
  ]

  pub crowded_on : (byte to : ℕ) (new : Crowd) → i < length text → slice_get text i ≡ Some byte → HasLeapt all entry byte crowd state new to → IsCrowded all text entry from (i + 1) to new
  crowded_on byte to new inside here l = record {
    row = l.leap.row;
    is = l.leap.is;
    single = single_made all entry false l.leap.stepped l.leap.row l.leap.f l.leap.made;
    is_first = l.leap.made.is_first ∙ sym (not_first i);
    on = λ t j m above below r run. elim (cases_lt i t) [
      | inl now ↦ (let e : t ≡ i + 1 = omega arith in begun_in all text entry j (i + 1) m false l.leap.stepped l.leap.row l.leap.f st.len l.leap.made (subst (λ k. Runs all text j m entry k) e run))
      | inr older ↦ (
          let o = on t j m above older (omega (arith, r)) run in
          let held = holds_cut row.count (threads_of row) o.1.id o.0 o.1.holds (let x = known.few o.1.id o.0 o.1.holds in omega (arith, x)) in
          let n = step_on all text j i byte row.first false (cut row.count (threads_of row)) l.leap.stepped (place_in text i row.first is_first inside) here (omega (arith, r)) (length_cut row.count (threads_of row) ∙ len) (closed_cut all row.first false 0 row.count (threads_of row) known.closed) st o.0 (record { steps = o.1.steps; id = o.1.id; holds = held; run = o.1.run }) in
          let w = l.leap.made.begins.within.at n.runs.id n.first n.runs.holds in
          made_in all text entry j (i + 1) w.first 0 false false l.leap.stepped l.leap.row l.leap.f l.leap.made (record { steps = n.runs.steps; id = n.runs.id; holds = w.holds; run = n.runs.run }))
    ];
  }
    where
      same_before : l.before ≡ row
      same_before = inner l.before row (sym l.was ∙ read)
        where
          inner : (a b : Row) → Some a ≡ Some b → a ≡ b
          inner a b e = cc

      st : IsStepped all byte (length all) (cut row.count (threads_of row)) l.leap.stepped
      st = subst (λ (x : Row). IsStepped all byte (length all) (cut x.count (threads_of x)) l.leap.stepped) same_before l.leap.steps
