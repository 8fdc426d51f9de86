-- The places of a search.
use Rattle.std.proofs.Common.{◌≡◌, ℕ, ◌+◌, ◌<◌, ◌≤◌, Bool, true, List, length, Option, Some, None, sym, ap, ◌∙◌, subst, arith, get_or, nat_eq}
use Rattle.std.specs.Prelude.{slice_get, is_none, ◌&&◌}
use Rattle.std.proofs.Props.{props}
use Rattle.std.specs.Option.{is_some}
use Rattle.std.proofs.Math.Logic.{∥∥₁_elim, ∥∥₁_map₂, ∥∥₁_prop}
use Rattle.std.proofs.lemmas.Option.{slice_get-get_or, slice_get_within}
use Rattle.ere_match.specs.declared.dead_ends.DeadEnds.{DeadEnds}
use Rattle.ere_match.specs.declared.node.Node.{Node}
use Rattle.ere_match.specs.declared.row.Row.{Row}
use Rattle.ere_match.specs.declared.row.Table.{Table}
use Rattle.ere_match.specs.Ends.{AreDead, AreTails, LeadsNowhere}
use Rattle.ere_match.specs.Threads.{AreThreads, Holds, IsAccepted, IsBest, better_of}
use Rattle.ere_match.specs.Rows.{AreEarly, HasMoved, IsLatest, IsRow, IsSearching, IsTable, spread, started, threads_of}
use Rattle.ere_match.proofs.Ends.{tails_on}
use Rattle.ere_match.proofs.Searches.{early_on, row_in, search_at, search_ends, search_over, search_step}

accepted_small : (all : List Node) (row : Row) (set : List (Option ℕ)) (n k : ℕ) (o : Option ℕ) → o ≡ Some k → ((id s : ℕ) → Holds set id s → s < row.count) → IsAccepted all set n o → k < row.count
accepted_small all row set n k None e few a = absurd cc
accepted_small all row set n k (Some j) e few a = (let same : j ≡ k = inner j k e in let x = few a.0.0 j a.0.1 in omega (arith, x, same))
  where
    inner : (a b : ℕ) → Some a ≡ Some b → a ≡ b
    inner a b e = cc

pub inside_small : (all : List Node) (row : Row) (k : ℕ) → IsRow all row → row.inside ≡ Some k → k < row.count
inside_small all row k r e = accepted_small all row (threads_of row) (length all) k row.inside e r.few r.inside

pub ending_small : (all : List Node) (row : Row) (k : ℕ) → IsRow all row → row.at_end ≡ Some k → k < row.count
ending_small all row k r e = accepted_small all row r.ending (length all) k row.at_end e (λ id s h. (let o = r.is_ending.starts.at id s h in r.few o.0 s o.1)) r.at_end

-- a thread that is accepted is one of the row's
pub early_inside : (all : List Node) (row : Row) (starts : List ℕ) (start k : ℕ) → IsRow all row → AreEarly row starts start → row.inside ≡ Some k → get_or starts k 0 ≤ start
early_inside all row starts start k known early e = (let a = subst (IsAccepted all (threads_of row) (length all)) e known.inside in early a.0.0 k a.0.1)

module _ (all : List Node) (text : List ℕ) (entry from i state : ℕ) (best : Option (ℕ × ℕ)) (t : Table) (row : Row) (read : row ≡ get_or t.rows.items state row) (s : IsSearching all text entry from i state best t) where
  pub row_read : slice_get t.rows.items state ≡ Some row
  row_read = slice_get-get_or t.rows.items state row (slice_get_within t.rows.items state s.row s.is) ∙ ap Some (sym read)

  pub row_room : row.count < length t.starts.items
  row_room = subst (λ (r : Row). r.count < length t.starts.items) (inner s.row row (sym s.is ∙ row_read)) s.room
    where
      inner : (a b : Row) → Some a ≡ Some b → a ≡ b
      inner a b e = cc

  pub inside_room : (k : ℕ) → row.inside ≡ Some k → k < length t.starts.items
  inside_room k e = (let x = inside_small all row k (search_at all text entry from i state best t row row_read s).known e in let y = row_room in omega (arith, x, y))

  pub ending_room : (k : ℕ) → row.at_end ≡ Some k → k < length t.starts.items
  ending_room k e = (let x = ending_small all row k (search_at all text entry from i state best t row row_read s).known e in let y = row_room in omega (arith, x, y))

  pub over_at : (b : Option (ℕ × ℕ)) → is_some b ≡ true → b ≡ better_of (started t.starts.items row.inside) i best → LeadsNowhere all text i row → i < length text → IsBest all text entry from (length text + 1) b
  over_at None found is none inside = absurd cc
  over_at (Some p) found is none inside = search_over all text entry from i best t.starts.items row (search_at all text entry from i state best t row row_read s) p none inside (sym is)

  pub end_at : (b : Option (ℕ × ℕ)) → b ≡ better_of (started t.starts.items row.at_end) (length text) best → i ≡ length text → IsBest all text entry from (length text + 1) b
  end_at b is e =
      let h = search_ends all text entry from i best t.starts.items row (search_at all text entry from i state best t row row_read s) e in
      subst (IsBest all text entry from (length text + 1)) (sym is) (subst (λ n. IsBest all text entry from (n + 1) (better_of (started t.starts.items row.at_end) n best)) e h)

  pub step_at : (to : ℕ) (found : Bool) (next : Option (ℕ × ℕ)) (classes : List ℕ) (new : Table) → from ≤ i → i < length text → next ≡ better_of (started t.starts.items row.inside) i best → found ≡ is_some next → IsTable all entry classes new → HasMoved all entry (get_or text i 0) found (i + 1) t state new to → IsSearching all text entry from (i + 1) to next new
  step_at to found next classes new above inside is has h m =
      search_step all text entry from i (get_or text i 0) state to found best next classes t new row above inside (slice_get-get_or text i 0 inside) row_read is (sym has) h m s

  -- what threads without the table begin with

  pub read_len : length row.ranks.items ≡ length all
  read_len = (search_at all text entry from i state best t row row_read s).known.len

  pub read_few : (id n : ℕ) → Holds (threads_of row) id n → n < length t.starts.items
  read_few id n h = (let x = (search_at all text entry from i state best t row row_read s).known.few id n h in let y = row_room in omega (arith, x, y))

  pub read_near : (id n : ℕ) → Holds (spread (λ k. get_or t.starts.items k 0) (threads_of row)) id n → n ≤ i
  read_near id n h = ((search_at all text entry from i state best t row row_read s).threads.starts id n h).1

  pub read_threads : AreThreads all text entry from i i (spread (λ k. get_or t.starts.items k 0) (threads_of row)) best
  read_threads = (let th = (search_at all text entry from i state best t row row_read s).threads in record {
    len = th.len;
    starts = th.starts;
    back = th.back;
    on = λ n j m above below r open' run. th.on n j m above (omega (arith, below)) r open' run;
  })

  pub read_best : IsBest all text entry from i best
  read_best = (search_at all text entry from i state best t row row_read s).is_best

  -- what is noted of dead ends

  pub row_known : IsRow all row
  row_known = (search_at all text entry from i state best t row row_read s).known

  pub tails_at : (to : ℕ) (found : Bool) (ends : DeadEnds) (new : Table) → i < length text → HasMoved all entry (get_or text i 0) found (i + 1) t state new to → AreTails all text i (i + 1) (found && is_none row.inside) row ends → (r : Row) → slice_get new.rows.items to ≡ Some r → AreTails all text (i + 1) (i + 1) found r ends
  tails_at to found ends new inside m h r is =
      let a = search_at all text entry from i state best t m.before m.was s in
      let h' = subst (λ (x : Row). AreTails all text i (i + 1) (found && is_none x.inside) x ends) (row_in row m.before (sym row_read ∙ m.was)) h in
      subst (λ (x : Row). AreTails all text (i + 1) (i + 1) found x ends) (row_in m.row r (sym m.is ∙ is))
      (tails_on all text entry i (get_or text i 0) m.before a.known a.is_first inside (slice_get-get_or text i 0 inside) m.row m.f found ends m.moved h')

-- the same of mere facts

pub read_tails : (all : List Node) (text : List ℕ) (entry from i state : ℕ) (best : Option (ℕ × ℕ)) (t : Table) (row : Row) → row ≡ get_or t.rows.items state row → (ends : DeadEnds) → ∥ IsSearching all text entry from i state best t ∥₁ → ((r : Row) → slice_get t.rows.items state ≡ Some r → AreTails all text i i true r ends) → AreTails all text i i true row ends
read_tails all text entry from i state best t row read ends s tails = ∥∥₁_elim s (hlevel props) (λ x. tails row (row_read all text entry from i state best t row read x))

pub read_early : (all : List Node) (text : List ℕ) (entry from i state : ℕ) (best : Option (ℕ × ℕ)) (t : Table) (row : Row) → row ≡ get_or t.rows.items state row → (start : ℕ) → ∥ IsSearching all text entry from i state best t ∥₁ → ((r : Row) → slice_get t.rows.items state ≡ Some r → AreEarly r t.starts.items start) → AreEarly row t.starts.items start
read_early all text entry from i state best t row read start s early = λ id k holds. ∥∥₁_elim s (search props) (λ x. early row (row_read all text entry from i state best t row read x) id k holds)

pub search_tails : (all : List Node) (text : List ℕ) (entry from i state : ℕ) (best : Option (ℕ × ℕ)) (t : Table) (row : Row) → row ≡ get_or t.rows.items state row → (to : ℕ) (found : Bool) (ends : DeadEnds) (new : Table) → i < length text → ∥ HasMoved all entry (get_or text i 0) found (i + 1) t state new to ∥₁ → ∥ IsSearching all text entry from i state best t ∥₁ → AreTails all text i (i + 1) (found && is_none row.inside) row ends → (r : Row) → slice_get new.rows.items to ≡ Some r → AreTails all text (i + 1) (i + 1) found r ends
search_tails all text entry from i state best t row read to found ends new inside m s h r is = ∥∥₁_elim s (hlevel props) (λ x. ∥∥₁_elim m (hlevel props) (λ y. tails_at all text entry from i state best t row read x to found ends new inside y h r is))

pub search_moves : (all : List Node) (text : List ℕ) (entry from i state : ℕ) (best : Option (ℕ × ℕ)) (t : Table) (row : Row) → row ≡ get_or t.rows.items state row → (to : ℕ) (found : Bool) (next : Option (ℕ × ℕ)) (classes : List ℕ) (new : Table) → from ≤ i → i < length text → next ≡ better_of (started t.starts.items row.inside) i best → found ≡ is_some next → ∥ IsTable all entry classes new ∥₁ → ∥ HasMoved all entry (get_or text i 0) found (i + 1) t state new to ∥₁ → ∥ IsSearching all text entry from i state best t ∥₁ → ∥ IsSearching all text entry from (i + 1) to next new ∥₁
search_moves all text entry from i state best t row read to found next classes new above inside is has h m s = ∥∥₁_elim s ∥∥₁_prop (λ x. ∥∥₁_map₂ h m (λ y z. step_at all text entry from i state best t row read x to found next classes new above inside is has y z))

pub early_moves : (all : List Node) (text : List ℕ) (entry from i state : ℕ) (best : Option (ℕ × ℕ)) (t : Table) (row : Row) → row ≡ get_or t.rows.items state row → (to start : ℕ) (classes : List ℕ) (new : Table) → IsLatest row t.starts.items row.inside start → ∥ IsTable all entry classes new ∥₁ → ∥ HasMoved all entry (get_or text i 0) true (i + 1) t state new to ∥₁ → ∥ IsSearching all text entry from i state best t ∥₁ → (r : Row) → slice_get new.rows.items to ≡ Some r → AreEarly r new.starts.items start
early_moves all text entry from i state best t row read to start classes new latest h m s r is = λ id k holds. ∥∥₁_elim s (search props) (λ x. ∥∥₁_elim m (search props) (λ y. ∥∥₁_elim h (search props) (λ z.
    (let a = search_at all text entry from i state best t y.before y.was x in
    let same = row_in row y.before (sym (row_read all text entry from i state best t row read x) ∙ y.was) in
    let early = early_on all text entry from i (get_or text i 0) state to start best classes t new y a (λ n e. inside_small all y.before n a.known e) (subst (λ (q : Row). IsLatest q t.starts.items q.inside start) same latest) z in
    subst (λ (q : Row). AreEarly q new.starts.items start) (row_in y.row r (sym y.is ∙ is)) early id k holds))))

-- the text ends
pub ending : (all : List Node) (text : List ℕ) (entry from i state : ℕ) (best : Option (ℕ × ℕ)) (t : Table) (row : Row) → row ≡ get_or t.rows.items state row → (old new : DeadEnds) (on : Bool) → i ≡ length text → ∥ IsSearching all text entry from i state best t ∥₁ → ((r : Row) → slice_get t.rows.items state ≡ Some r → AreTails all text i i on r old) → (IsRow all row → row.first ≡ nat_eq (length text) 0 → AreTails all text (length text) (length text) on row old → AreDead all text new) → AreDead all text new
ending all text entry from i state best t row read old new on e s tails last = ∥∥₁_elim s (hlevel props) (λ x.
    (let is = row_read all text entry from i state best t row read x in
    let a = search_at all text entry from i state best t row is x in
    last a.known (a.is_first ∙ ap (λ n. nat_eq n 0) e) (subst (λ n. AreTails all text n n on row old) e (tails row is))))
