-- What is in a table stays right.
use Rattle.std.proofs.Common.{◌≡◌, ℕ, zero, suc, ◌+◌, ◌<◌, ◌≤◌, ◌⊎◌, ◌++◌, inl, inr, Bool, true, false, cond, List, [], ◌∷◌, length, Option, Some, None, refl, sym, ap, ◌∙◌, subst, arith, set, get_or, length-set, length-append, get_or-set_same, get_or-set_other}
use Rattle.std.specs.Prelude.{slice_get}
use Rattle.std.proofs.Math.Bool.{beq}
use Rattle.std.specs.Vec.{with_items}
use Rattle.std.proofs.lemmas.List.{with_items_is}
use Rattle.std.proofs.Common.{Vec, Global}
use Rattle.std.specs.Cmp.Lexicographic.{pointwise}
use Rattle.std.specs.Prelude.{◌&&◌, nat_eq}
use Rattle.std.proofs.lemmas.Bool.{cases_lt, cases_eq, eqb-true, eqb-false}
use Rattle.std.proofs.lemmas.Option.{slice_get-get_or, slice_get_within, get_or_from_slice_get}
use Rattle.ere_match.specs.declared.node.Node.{Node}
use Rattle.ere_match.specs.declared.node.Node.TheVariants as nodes
use Rattle.ere_match.specs.declared.row.Row.{Row}
use Rattle.ere_match.specs.declared.row.Move.{Move}
use Rattle.ere_match.specs.declared.row.Moves.{Moves}
use Rattle.ere_match.specs.declared.row.Table.{Table}
use Rattle.ere_match.specs.Threads.{Holds, IsClosedFrom, IsClosure, IsStepped, Takes}
use Rattle.ere_match.specs.Rows.{AddsNoMoves, AddsRows, AreClasses, Begins, CanEnter, FoundRow, HasBegun, HasEntered, HasLed, HasMoved, IsBegin, IsEmpty, IsColumn, IsIncreasing, IsKnownRow, IsKnownTable, IsMade, IsMadeMove, IsMove, IsNumbered, IsPlaced, IsRow, IsSame, IsShifted, IsStep, IsStepOf, IsTable, SetSettled, begin_at, column_at, columns, cut, limit_of, numbers, source, spread, threads_of, with_new}
use Rattle.ere_match.proofs.Spreads.{closed_back, cut_holds, spread_same}

abbrev Set : Type 0
Set = List (Option ℕ)

some_in : {X : Type 0} (a b : X) → Some a ≡ Some b → a ≡ b
some_in a b e = cc

pub item_is : {X : Type 0} (xs : List X) (k : ℕ) (x : X) → k < length xs → x ≡ get_or xs k x → slice_get xs k ≡ Some x
item_is xs k x inside is = slice_get-get_or xs k x inside ∙ ap Some (sym is)

pub same_bool : (a b : Bool) → beq a b ≡ true → a ≡ b
same_bool true true e = refl
same_bool false false e = refl
same_bool true false e = absurd cc
same_bool false true e = absurd cc

pub same_list : (xs ys : List ℕ) → pointwise nat_eq xs ys ≡ true → xs ≡ ys
same_list [] [] e = refl
same_list [] (y ∷ ys) e = absurd cc
same_list (x ∷ xs) [] e = absurd cc
same_list (x ∷ xs) (y ∷ ys) e = by (same_list xs ys) (nat_eq x y) refl e
  where
    by : (pointwise nat_eq xs ys ≡ true → xs ≡ ys) → (b : Bool) → nat_eq x y ≡ b → (b && pointwise nat_eq xs ys) ≡ true → x ∷ xs ≡ y ∷ ys
    by rest true is h = ap (λ (zs : List ℕ). x ∷ zs) (rest h) ∙ ap (λ z. z ∷ ys) (eqb-true x y is)
    by rest false is h = absurd cc

-- a vector into which as many items are written has these
pub written : {X : Type 0} (v : Vec X Global) (xs : List X) → length xs ≡ length v.items → (with_items v xs).items ≡ xs
written v xs e = with_items_is v xs (omega (arith, e, v.ok.0))

pub written_len : {X : Type 0} (v : Vec X Global) (xs : List X) (all : List Node) → length v.items ≡ length all → length xs ≡ length all → length (with_items v xs).items ≡ length all
written_len v xs all f e = ap length (written v xs (e ∙ sym f)) ∙ e

pub begins_same : (old new : Table) → new.at_first ≡ old.at_first → new.elsewhere ≡ old.elsewhere → (first : Bool) → begin_at first new ≡ begin_at first old
begins_same old new f e true = f
begins_same old new f e false = e

same_kind : (a b : Bool) → (a ≡ b) ⊎ (a ≡ b → ⊥)
same_kind true true = inl refl
same_kind false false = inl refl
same_kind true false = inr (λ e. absurd cc)
same_kind false true = inr (λ e. absurd cc)

get_past : {X : Type 0} (xs : List (Option X)) (k : ℕ) → length xs ≤ k → get_or xs k None ≡ None
get_past [] k le = refl
get_past (x ∷ xs) zero le = absurd (omega (arith, le))
get_past (x ∷ xs) (suc k) le = get_past xs k (omega (arith, le))

pub slice_other : {X : Type 0} (xs : List X) (i k : ℕ) (x : X) → (k ≡ i → ⊥) → slice_get (set xs i x) k ≡ slice_get xs k
slice_other [] i k x out = refl
slice_other (y ∷ xs) zero zero x out = absurd (out refl)
slice_other (y ∷ xs) zero (suc k) x out = refl
slice_other (y ∷ xs) (suc i) zero x out = refl
slice_other (y ∷ xs) (suc i) (suc k) x out = slice_other xs i k x (λ e. out (ap suc e))

pub slice_here : {X : Type 0} (xs : List X) (i : ℕ) (x : X) → i < length xs → slice_get (set xs i x) i ≡ Some x
slice_here [] i x below = absurd (omega (arith, below))
slice_here (y ∷ xs) zero x below = refl
slice_here (y ∷ xs) (suc i) x below = slice_here xs i x (omega (arith, below))

-- ---- the same numbers

made_same : (all : List Node) (entry : ℕ) (found first : Bool) (count : ℕ) (stepped : Set) (row : Row) (f g : ℕ → ℕ) → ((id s : ℕ) → Holds (threads_of row) id s → s < row.count) → ((k : ℕ) → k < row.count → g k ≡ f k) → IsMade all entry found first count stepped row f → IsMade all entry found first count stepped row g
made_same all entry found first count stepped row f g few same m = record {
  begun = m.begun;
  begins = m.begins;
  closes = subst (λ xs. IsClosure all first false m.begun xs) (spread_same f g (threads_of row) (λ id s holds. sym (same s (few id s holds)))) m.closes;
  increasing = record { up = λ a b less below. (let x = m.increasing.up a b less below in let p = same a (omega (arith, less, below)) in let q = same b below in omega (arith, x, p, q)) };
  known = λ k less. (let x = m.known k less in let p = same k less in omega (arith, x, p));
  is_first = m.is_first;
}

module _ (all : List Node) (entry : ℕ) (old_rows rows : List Row) (old_sources sources : List ℕ) (kept : (r : ℕ) (row : Row) → slice_get old_rows r ≡ Some row → slice_get rows r ≡ Some row) (sames : IsSame old_sources sources) (known : (r : ℕ) (row : Row) → slice_get old_rows r ≡ Some row → IsRow all row) where
  source_same : (m : Move) (row : Row) → IsMove old_rows old_sources m row → (k : ℕ) → k < row.count → source sources m k ≡ source old_sources m k
  source_same m row is k less = sames.at (m.start + k) (omega (arith, is.room))

  move_on : (m : Move) (row : Row) → IsMove old_rows old_sources m row → IsMove rows sources m row
  move_on m row is = record {
    is = kept m.to row is.is;
    room = omega (arith, is.room, sames.longer);
    fewer = is.fewer;
    same = λ k less. source_same m row is k (omega (arith, is.fewer)) ∙ is.same k less;
  }

  pub begin_on : (first : Bool) (m : Move) → IsBegin all entry first old_rows old_sources m → IsBegin all entry first rows sources m
  begin_on first m b = record {
    row = b.row;
    is = move_on m b.row b.is;
    stepped = b.stepped;
    len = b.len;
    empty = b.empty;
    made = made_same all entry false first 0 b.stepped b.row (source old_sources m) (source sources m) (known m.to b.row b.is.is).few (source_same m b.row b.is) b.made;
  }

  pub step_kept : (byte : ℕ) (found : Bool) (old : Row) (m : Move) → IsStep all entry byte found old old_rows old_sources m → IsStep all entry byte found old rows sources m
  step_kept byte found old m b = record {
    row = b.row;
    is = move_on m b.row b.is;
    moved = record {
      stepped = b.moved.stepped;
      steps = b.moved.steps;
      made = made_same all entry found false old.count b.moved.stepped b.row (source old_sources m) (source sources m) (known m.to b.row b.is.is).few (source_same m b.row b.is) b.moved.made;
    };
  }

pub known_table : (all : List Node) (entry : ℕ) (classes : List ℕ) (old new : Table) → length new.set.items ≡ length all → length new.next.items ≡ length all → length new.rows.items ≤ length new.moves.items → AddsRows all new.starts.items old.rows.items new.rows.items → AddsNoMoves old.moves.items new.moves.items → IsSame old.sources.items new.sources.items → length old.starts.items ≤ length new.starts.items → ((first : Bool) → begin_at first new ≡ begin_at first old) → IsTable all entry classes old → IsKnownTable all entry classes old new
known_table all entry classes old new set_len next_len wide rows moves sources starts begins t = record {
  table = record {
    set_len = set_len;
    next_len = next_len;
    wide = wide;
    rows = λ r row is. elim (rows.only r row is) [
      | inl older ↦ (let k = t.rows r row older in record { is = k.is; room = omega (arith, k.room, starts) })
      | inr newer ↦ newer
    ];
    moves = λ found r c m is. (let k = t.moves found r c m (moves.only found r c m is) in record {
      row = k.row;
      is = rows.kept r k.row k.is;
      leads = λ byte small class. step_kept all entry old.rows.items new.rows.items old.sources.items new.sources.items rows.kept sources known byte found k.row m (k.leads byte small class);
    });
    begins = λ first m is. begin_on all entry old.rows.items new.rows.items old.sources.items new.sources.items rows.kept sources known first m (t.begins first m (sym (begins first) ∙ is));
  };
  rows = rows.kept;
}
  where
    known : (r : ℕ) (row : Row) → slice_get old.rows.items r ≡ Some row → IsRow all row
    known r row is = (t.rows r row is).is

-- ---- what stays as it is

pub rows_same : (all : List Node) (starts : List ℕ) (rows : List Row) → AddsRows all starts rows rows
rows_same all starts rows = record { kept = λ r row is. is; only = λ r row is. inl is }

pub moves_same : (moves : List Moves) → AddsNoMoves moves moves
moves_same moves = record { longer = omega arith; only = λ found r c m is. is }

pub items_same : (xs : List ℕ) → IsSame xs xs
items_same xs = record { longer = omega arith; at = λ k less. refl }

pub same_then : (a b c : List ℕ) → IsSame a b → IsSame b c → IsSame a c
same_then a b c f g = record { longer = omega (arith, f.longer, g.longer); at = λ k less. g.at k (omega (arith, f.longer)) ∙ f.at k less }

pub known_then : (all : List Node) (entry : ℕ) (classes : List ℕ) (a b c : Table) → IsKnownTable all entry classes a b → IsKnownTable all entry classes b c → IsKnownTable all entry classes a c
known_then all entry classes a b c f g = record { table = g.table; rows = λ r row is. g.rows r row (f.rows r row is) }

-- ---- more

slice_left : {X : Type 0} (xs : List X) (x y : X) (k : ℕ) → slice_get xs k ≡ Some y → slice_get (xs ++ x ∷ []) k ≡ Some y
slice_left [] x y k e = absurd cc
slice_left (z ∷ xs) x y zero e = e
slice_left (z ∷ xs) x y (suc k) e = slice_left xs x y k e

pub slice_last : {X : Type 0} (xs : List X) (x y : X) (k : ℕ) → slice_get (xs ++ x ∷ []) k ≡ Some y → (slice_get xs k ≡ Some y) ⊎ (x ≡ y)
slice_last [] x y zero e = inr (some_in x y e)
slice_last [] x y (suc k) e = absurd cc
slice_last (z ∷ xs) x y zero e = inl e
slice_last (z ∷ xs) x y (suc k) e = slice_last xs x y k e

slice_at_end : {X : Type 0} (xs : List X) (x : X) (k : ℕ) → k ≡ length xs → slice_get (xs ++ x ∷ []) k ≡ Some x
slice_at_end [] x zero e = refl
slice_at_end [] x (suc k) e = absurd (omega (arith, e))
slice_at_end (y ∷ xs) x zero e = absurd (omega (arith, e))
slice_at_end (y ∷ xs) x (suc k) e = slice_at_end xs x k (omega (arith, e))

pub slice_end : {X : Type 0} (xs ys : List X) (x : X) (k : ℕ) → k ≡ length xs → ys ≡ xs ++ x ∷ [] → slice_get ys k ≡ Some x
slice_end xs ys x k e is = subst (λ zs. slice_get zs k ≡ Some x) (sym is) (slice_at_end xs x k e)

pub rows_more : (all : List Node) (starts : List ℕ) (old new : List Row) (row : Row) → new ≡ old ++ row ∷ [] → IsKnownRow all starts row → AddsRows all starts old new
rows_more all starts old new row e known = subst (AddsRows all starts old) (sym e) (record {
  kept = λ r x is. slice_left old row x r is;
  only = λ r x is. elim (slice_last old row x r is) [ inl older ↦ inl older | inr same ↦ inr (subst (IsKnownRow all starts) same known) ];
})

pub moves_more : (old mid new : List Moves) (x : Moves) → new ≡ mid ++ x ∷ [] → ((found : Bool) (c : ℕ) → get_or (columns found x) c None ≡ None) → AddsNoMoves old mid → AddsNoMoves old new
moves_more old mid new x e free a = subst (AddsNoMoves old) (sym e) (record {
  longer = omega (arith, a.longer, length-append mid (x ∷ []));
  only = λ found r c m is. by found r c m (slice_get (mid ++ x ∷ []) r) refl is;
})
  where
    by : (found : Bool) (r c : ℕ) (m : Move) (o : Option Moves) → slice_get (mid ++ x ∷ []) r ≡ o → column_at found (slice_get (mid ++ x ∷ []) r) c ≡ Some m → column_at found (slice_get old r) c ≡ Some m
    by found r c m None e is = absurd (let bad : None ≡ Some m = sym (ap (λ o. column_at found o c) e) ∙ is in cc)
    by found r c m (Some y) e is = elim (slice_last mid x y r e) [
      | inl older ↦ a.only found r c m (ap (λ o. column_at found o c) older ∙ sym (ap (λ o. column_at found o c) e) ∙ is)
      | inr same ↦ absurd (let bad : None ≡ Some m = sym (free found c) ∙ ap (λ z. get_or (columns found z) c None) same ∙ sym (ap (λ o. column_at found o c) e) ∙ is in cc)
    ]

-- ---- emptied, and filled

pub table_empty : (all : List Node) (entry : ℕ) (classes : List ℕ) (t : Table) → length t.set.items ≡ length all → length t.next.items ≡ length all → t.rows.items ≡ [] → t.moves.items ≡ [] → t.at_first ≡ None → t.elsewhere ≡ None → IsTable all entry classes t
table_empty all entry classes t set_len next_len rows moves at_first elsewhere = record {
  set_len = set_len;
  next_len = next_len;
  wide = omega (arith, ap length rows, ap length moves);
  rows = λ r row is. absurd (let bad : None ≡ Some row = ap (λ (xs : List Row). slice_get xs r) (sym rows) ∙ is in cc);
  moves = λ found r c m is. absurd (let bad : None ≡ Some m = ap (λ (xs : List Moves). column_at found (slice_get xs r) c) (sym moves) ∙ is in cc);
  begins = by;
}
  where
    by : (first : Bool) (m : Move) → begin_at first t ≡ Some m → IsBegin all entry first t.rows.items t.sources.items m
    by true m is = absurd (let bad : None ≡ Some m = sym at_first ∙ is in cc)
    by false m is = absurd (let bad : None ≡ Some m = sym elsewhere ∙ is in cc)

-- bytes of one class lead alike
takes_class : (all : List Node) (classes : List ℕ) (b c : ℕ) → AreClasses all classes → b < 256 → c < 256 → get_or classes b 0 ≡ get_or classes c 0 → (id to : ℕ) (o : Option Node) → slice_get all id ≡ o → Takes b o to → Takes c o to
takes_class all classes b c h lb lc e id to None is t = absurd t
takes_class all classes b c h lb lc e id to (Some (nodes.Take f a)) is t = (h b c lb lc e id a f is t.0, t.1)
takes_class all classes b c h lb lc e id to (Some (nodes.Split x y)) is t = absurd t
takes_class all classes b c h lb lc e id to (Some (nodes.Start x)) is t = absurd t
takes_class all classes b c h lb lc e id to (Some (nodes.End x)) is t = absurd t
takes_class all classes b c h lb lc e id to (Some nodes.Never) is t = absurd t
takes_class all classes b c h lb lc e id to (Some nodes.Accept) is t = absurd t

pub stepped_class : (all : List Node) (classes : List ℕ) (b c n : ℕ) (old new : Set) → AreClasses all classes → b < 256 → c < 256 → get_or classes b 0 ≡ get_or classes c 0 → IsStepped all b n old new → IsStepped all c n old new
stepped_class all classes b c n old new h lb lc e s = record {
  len = s.len;
  into = λ id to t below holds takes small. s.into id to t below holds (takes_class all classes c b h lc lb (sym e) id to (slice_get all id) refl takes) small;
  only = λ to t holds. (let o = s.only to t holds in (o.0, o.1, takes_class all classes b c h lb lc e o.0 to (slice_get all o.0) refl o.2));
}

pub step_class : (all : List Node) (entry b c : ℕ) (classes : List ℕ) (found : Bool) (row : Row) (rows : List Row) (sources : List ℕ) (m : Move) → AreClasses all classes → b < 256 → c < 256 → get_or classes b 0 ≡ get_or classes c 0 → IsStep all entry b found row rows sources m → IsStep all entry c found row rows sources m
step_class all entry b c classes found row rows sources m h lb lc e s = record {
  row = s.row;
  is = s.is;
  moved = record { stepped = s.moved.stepped; steps = stepped_class all classes b c (length all) _ s.moved.stepped h lb lc e s.moved.steps; made = s.moved.made };
}

-- ---- how a row is made

pub placed_all : (start bound bound' count : ℕ) (first : Bool) (set next : Set) (sources ranks : List ℕ) (m : Move) (t : Table) → bound' ≡ bound → m.start ≡ start → t.sources.items ≡ sources → set ≡ next → IsNumbered start bound' set sources ranks count → FoundRow t.rows.items ranks count first m.to → m.kept ≤ count → ((k : ℕ) → k < m.kept → get_or t.sources.items (m.start + k) 0 ≡ k) → IsPlaced first bound next t m
placed_all start bound bound' count first set next sources ranks m t most at now same n row fewer kept =
    let f : ℕ → ℕ = source t.sources.items m in
    let is : (k : ℕ) → f k ≡ get_or sources (start + k) 0 = λ k. ap (λ xs. get_or xs (m.start + k) 0) now ∙ ap (λ i. get_or sources (i + k) 0) at in record {
      row = row.row;
      is = record { is = row.is; room = omega (arith, at, ap length now, n.sum, row.same_count); fewer = omega (arith, fewer, row.same_count); same = kept };
      threads = ap (λ xs. spread (source t.sources.items m) (numbers xs)) row.same_ranks ∙ spread_same (source t.sources.items m) (λ k. get_or sources (start + k) 0) (numbers ranks) (λ id s holds. is s) ∙ n.spreads ∙ same;
      increasing = record { up = λ a b less below. (let x = n.increasing.up a b less (omega (arith, below, row.same_count)) in let p = is a in let q = is b in omega (arith, x, p, q)) };
      known = λ k less. (let x = n.below k (omega (arith, less, row.same_count)) in let p = is k in omega (arith, x, p, most));
      is_first = row.same_first;
    }

pub closed_numbers : (all : List Node) (start bound count : ℕ) (first : Bool) (set next : Set) (sources ranks : List ℕ) → set ≡ next → IsNumbered start bound set sources ranks count → IsClosedFrom all first false 0 next → IsClosedFrom all first false 0 (numbers ranks)
closed_numbers all start bound count first set next sources ranks same n closed =
    closed_back count (λ k. get_or sources (start + k) 0) n.increasing all first false 0 (numbers ranks) n.few (subst (IsClosedFrom all first false 0) (sym (n.spreads ∙ same)) closed)

pub made_all : (all : List Node) (entry count : ℕ) (found first : Bool) (stepped before closed after : Set) (t : Table) (m : Move) → before ≡ stepped → after ≡ closed → SetSettled all entry found first count before closed → IsPlaced first (count + 1) after t m → IsMadeMove all entry found first count stepped t m
made_all all entry count found first stepped before closed after t m old new s p = record {
  row = p.row;
  is = p.is;
  made = record {
    begun = s.begun;
    begins = subst (λ (xs : Set). Begins found entry count xs s.begun) old s.begins;
    closes = subst (IsClosure all first false s.begun) (sym (p.threads ∙ new)) s.closes;
    increasing = p.increasing;
    known = λ k less. (let x = p.known k less in omega (arith, x));
    is_first = p.is_first;
  };
}

-- ---- a column or a beginning is filled

pub column_set : (found b : Bool) (r c state class : ℕ) (m : Move) (moves : List Moves) (x y : Moves) (to : Move) → slice_get moves state ≡ Some x → columns found y ≡ set (columns found x) class (Some to) → ((d : Bool) → (d ≡ found → ⊥) → columns d y ≡ columns d x) → column_at b (slice_get (set moves state y) r) c ≡ Some m → (column_at b (slice_get moves r) c ≡ Some m) ⊎ ((r ≡ state) × (b ≡ found) × (c ≡ class) × (m ≡ to))
column_set found b r c state class m moves x y to at here other e = elim (cases_eq r state) [
  | inr apart ↦ inl (ap (λ o. column_at b o c) (sym (slice_other moves state r y apart)) ∙ e)
  | inl same ↦ (
      let now : get_or (columns b y) c None ≡ Some m = sym (ap (λ o. column_at b o c) (ap (λ k. slice_get (set moves state y) k) same ∙ slice_here moves state y (slice_get_within moves state x at))) ∙ e in
      elim (same_kind b found) [
        | inr apart ↦ inl (ap (λ o. column_at b o c) (ap (λ k. slice_get moves k) same ∙ at) ∙ sym (ap (λ xs. get_or xs c None) (other b apart)) ∙ now)
        | inl kind ↦ (
            let now' : get_or (set (columns found x) class (Some to)) c None ≡ Some m = sym (ap (λ xs. get_or xs c None) here) ∙ subst (λ d. get_or (columns d y) c None ≡ Some m) kind now in
            elim (cases_eq c class) [
              | inr apart ↦ inl (ap (λ o. column_at b o c) (ap (λ k. slice_get moves k) same ∙ at) ∙ ap (λ d. get_or (columns d x) c None) kind ∙ sym (get_or-set_other (columns found x) class c (Some to) None apart) ∙ now')
              | inl place ↦ by place now' same kind (cases_lt class (length (columns found x)))
            ])
      ])
]
  where
    by : c ≡ class → get_or (set (columns found x) class (Some to)) c None ≡ Some m → r ≡ state → b ≡ found → (class < length (columns found x)) ⊎ (length (columns found x) ≤ class) → (column_at b (slice_get moves r) c ≡ Some m) ⊎ ((r ≡ state) × (b ≡ found) × (c ≡ class) × (m ≡ to))
    by place now same kind (inl within) = inr (same, kind, place, some_in m to (sym now ∙ ap (λ k. get_or (set (columns found x) class (Some to)) k None) place ∙ get_or-set_same (columns found x) class (Some to) None within))
    by place now same kind (inr past) = absurd (let bad : None ≡ Some m = sym (get_past (set (columns found x) class (Some to)) c (omega (arith, length-set (columns found x) class (Some to), past, place))) ∙ now in cc)

pub table_put : (all : List Node) (entry byte state class : ℕ) (classes : List ℕ) (found : Bool) (row : Row) (to : Move) (x y : Moves) (t new : Table) → length new.set.items ≡ length all → length new.next.items ≡ length all → new.rows.items ≡ t.rows.items → new.sources.items ≡ t.sources.items → new.starts.items ≡ t.starts.items → ((first : Bool) → begin_at first new ≡ begin_at first t) → new.moves.items ≡ set t.moves.items state y → AreClasses all classes → byte < 256 → class ≡ get_or classes byte 0 → IsTable all entry classes t → slice_get t.rows.items state ≡ Some row → IsStep all entry byte found row t.rows.items t.sources.items to → slice_get t.moves.items state ≡ Some x → columns found y ≡ set (columns found x) class (Some to) → ((b : Bool) → (b ≡ found → ⊥) → columns b y ≡ columns b x) → IsTable all entry classes new
table_put all entry byte state class classes found row to x y t new set_len next_len rows sources starts begins moves apart small is_class h is step mx here other = record {
  set_len = set_len;
  next_len = next_len;
  wide = omega (arith, h.wide, ap length rows, ap length moves, length-set t.moves.items state y);
  rows = λ r k e. subst (λ xs. IsKnownRow all xs k) (sym starts) (h.rows r k (ap (λ xs. slice_get xs r) (sym rows) ∙ e));
  moves = λ b r c m e. elim (column_set found b r c state class m t.moves.items x y to mx here other (ap (λ xs. column_at b (slice_get xs r) c) (sym moves) ∙ e)) [
    | inl older ↦ subst (λ ys. IsColumn all entry classes new.rows.items ys b r c m) (sym sources) (subst (λ xs. IsColumn all entry classes xs t.sources.items b r c m) (sym rows) (h.moves b r c m older))
    | inr now ↦ subst (λ ys. IsColumn all entry classes new.rows.items ys b r c m) (sym sources) (subst (λ xs. IsColumn all entry classes xs t.sources.items b r c m) (sym rows) (filled b r c m now.0 now.1 now.2 now.3))
  ];
  begins = λ first m e. subst (λ ys. IsBegin all entry first new.rows.items ys m) (sym sources) (subst (λ xs. IsBegin all entry first xs t.sources.items m) (sym rows) (h.begins first m (sym (begins first) ∙ e)));
}
  where
    filled : (b : Bool) (r c : ℕ) (m : Move) → r ≡ state → b ≡ found → c ≡ class → m ≡ to → IsColumn all entry classes t.rows.items t.sources.items b r c m
    filled b r c m at kind place same = record {
      row = row;
      is = ap (λ k. slice_get t.rows.items k) at ∙ is;
      leads = λ d below e. subst (λ k. IsStep all entry d k row t.rows.items t.sources.items m) (sym kind) (subst (λ k. IsStep all entry d found row t.rows.items t.sources.items k) (sym same)
          (step_class all entry byte d classes found row t.rows.items t.sources.items to apart small below (sym is_class ∙ sym place ∙ sym e) step));
    }

pub step_made : (all : List Node) (entry byte count state : ℕ) (found : Bool) (rows : List Row) (now : Table) (led next : Set) (m : Move) → led ≡ next → (l : HasLed all byte found rows state led count) → IsMadeMove all entry found false count next now m → IsStep all entry byte found l.row now.rows.items now.sources.items m
step_made all entry byte count state found rows now led next m same l made = record {
  row = made.row;
  is = made.is;
  moved = record {
    stepped = next;
    steps = subst (IsStepped all byte (length all) (cut (limit_of found l.row) (threads_of l.row))) same l.steps;
    made = subst (λ n. IsMade all entry found false n next made.row (source now.sources.items m)) (sym l.counts) made.made;
  };
}

pub step_of : (all : List Node) (entry byte count state : ℕ) (found : Bool) (old now : Table) (led next : Set) (m : Move) → led ≡ next → HasLed all byte found old.rows.items state led count → IsMadeMove all entry found false count next now m → IsStepOf all entry byte found old state now m
step_of all entry byte count state found old now led next m same l made = record {
  before = l.row;
  is = l.is;
  step = step_made all entry byte count state found old.rows.items now led next m same l made;
}

pub first_put : (all : List Node) (entry : ℕ) (classes : List ℕ) (first : Bool) (to : Move) (t new : Table) → length new.set.items ≡ length all → length new.next.items ≡ length all → new.rows.items ≡ t.rows.items → new.sources.items ≡ t.sources.items → new.starts.items ≡ t.starts.items → new.moves.items ≡ t.moves.items → begin_at first new ≡ Some to → ((b : Bool) → (b ≡ first → ⊥) → begin_at b new ≡ begin_at b t) → IsBegin all entry first t.rows.items t.sources.items to → IsTable all entry classes t → IsTable all entry classes new
first_put all entry classes first to t new set_len next_len rows sources starts moves here other b h = record {
  set_len = set_len;
  next_len = next_len;
  wide = omega (arith, h.wide, ap length rows, ap length moves);
  rows = λ r k e. subst (λ xs. IsKnownRow all xs k) (sym starts) (h.rows r k (ap (λ xs. slice_get xs r) (sym rows) ∙ e));
  moves = λ f r c m e. subst (λ ys. IsColumn all entry classes new.rows.items ys f r c m) (sym sources) (subst (λ xs. IsColumn all entry classes xs t.sources.items f r c m) (sym rows) (h.moves f r c m (ap (λ xs. column_at f (slice_get xs r) c) (sym moves) ∙ e)));
  begins = λ f m e. subst (λ ys. IsBegin all entry f new.rows.items ys m) (sym sources) (subst (λ xs. IsBegin all entry f xs t.sources.items m) (sym rows) (elim (same_kind f first) [
    | inl kind ↦ (
        let is : m ≡ to = some_in m to (sym e ∙ ap (λ k. begin_at k new) kind ∙ here) in
        subst (λ k. IsBegin all entry k t.rows.items t.sources.items m) (sym kind) (subst (IsBegin all entry first t.rows.items t.sources.items) (sym is) b))
    | inr apart ↦ h.begins f m (sym (other f apart) ∙ e)
  ]));
}

-- ---- how a search goes on

pub stepped_as : (all : List Node) (byte n : ℕ) (a b x y : Set) → x ≡ a → y ≡ b → IsStepped all byte n x b → IsStepped all byte n a y
stepped_as all byte n a b x y e f h = subst (λ (u : Set). IsStepped all byte n u y) e (subst (λ (v : Set). IsStepped all byte n x v) (sym f) h)

pub put_true : (t new : Table) → new.elsewhere ≡ t.elsewhere → (first : Bool) → first ≡ true → (b : Bool) → (b ≡ first → ⊥) → begin_at b new ≡ begin_at b t
put_true t new e first is true out = absurd (out (sym is))
put_true t new e first is false out = e

pub put_false : (t new : Table) → new.at_first ≡ t.at_first → (first : Bool) → first ≡ false → (b : Bool) → (b ≡ first → ⊥) → begin_at b new ≡ begin_at b t
put_false t new e first is false out = absurd (out (sym is))
put_false t new e first is true out = e

-- a move that can be taken leads to the row that is read
pub record CanEnterAt (t : Table) (count : ℕ) (m : Move) (row : Row) : Type 0 where
  pub is : IsMove t.rows.items t.sources.items m row
  pub small : count < length t.starts.items
  pub room : row.count < length t.starts.items
  pub increasing : IsIncreasing row.count (source t.sources.items m)
  pub known : (k : ℕ) → k < row.count → source t.sources.items m k ≤ count

pub can_at : (t : Table) (count : ℕ) (m : Move) (row : Row) → row ≡ get_or t.rows.items m.to row → CanEnter t count m → CanEnterAt t count m row
can_at t count m row read e =
    let same : e.row ≡ row = sym (get_or_from_slice_get t.rows.items m.to e.row row e.is.is) ∙ sym read in
    subst (CanEnterAt t count m) same (record { is = e.is; small = e.small; room = e.room; increasing = e.increasing; known = e.known })

pub led_few : (all : List Node) (byte state count id s : ℕ) (found : Bool) (rows : List Row) (next : Set) → ((row : Row) → slice_get rows state ≡ Some row → IsRow all row) → HasLed all byte found rows state next count → Holds next id s → s < count
led_few all byte state count id s found rows next known l holds =
    let o = l.steps.only id s holds in
    let h = cut_holds (limit_of found l.row) (threads_of l.row) o.0 s o.1 in
    let f = (known l.row l.is).few o.0 s h.0 in omega (arith, f, l.counts)

pub step_of_as : (all : List Node) (entry byte state : ℕ) (found : Bool) (old t new : Table) (m : Move) → new.rows ≡ t.rows → new.sources ≡ t.sources → IsStepOf all entry byte found old state t m → IsStepOf all entry byte found old state new m
step_of_as all entry byte state found old t new m rows sources s = record {
  before = s.before;
  is = s.is;
  step = subst (λ (v : Vec ℕ Global). IsStep all entry byte found s.before new.rows.items v.items m) (sym sources) (subst (λ (v : Vec Row Global). IsStep all entry byte found s.before v.items t.sources.items m) (sym rows) s.step);
}

-- a column that is read
pub column_read : (all : List Node) (entry byte state class : ℕ) (classes : List ℕ) (found : Bool) (x : Moves) (m : Move) (t : Table) → IsTable all entry classes t → byte < 256 → class ≡ get_or classes byte 0 → slice_get t.moves.items state ≡ Some x → get_or (columns found x) class None ≡ Some m → IsStepOf all entry byte found t state t m
column_read all entry byte state class classes found x m t h small is_class at read =
    let k = h.moves found state class m (ap (λ o. column_at found o class) at ∙ read) in record {
      before = k.row;
      is = k.is;
      step = k.leads byte small (sym is_class);
    }

above : (n : ℕ) (f : ℕ → ℕ) → IsIncreasing n f → (k : ℕ) → k < n → k ≤ f k
above n f inc zero less = omega arith
above n f inc (suc k) less = (let x = above n f inc k (omega (arith, less)) in let y = inc.up k (suc k) (omega arith) less in omega (arith, x, y))

pub shifted_on : (old starts sources : List ℕ) (count at fewer number : ℕ) (m : Move) → number < fewer → number < length starts → IsIncreasing fewer (source sources m) → ((k : ℕ) → k < number → get_or starts k 0 ≡ with_new (λ n. get_or old n 0) count at (source sources m k)) → ((k : ℕ) → number ≤ k → get_or starts k 0 ≡ with_new (λ n. get_or old n 0) count at k) → ((k : ℕ) → k < number + 1 → get_or (set starts number (get_or starts (source sources m number) 0)) k 0 ≡ with_new (λ n. get_or old n 0) count at (source sources m k)) × ((k : ℕ) → number + 1 ≤ k → get_or (set starts number (get_or starts (source sources m number) 0)) k 0 ≡ with_new (λ n. get_or old n 0) count at k)
shifted_on old starts sources count at fewer number m less inside inc done rest =
    let x = get_or starts (source sources m number) 0 in (
      λ k below. elim (cases_lt k number) [
        | inl low ↦ get_or-set_other starts number k (get_or starts (source sources m number) 0) 0 (λ e. omega arith) ∙ done k low
        | inr here ↦ (let e : k ≡ number = omega arith in subst (λ i. get_or (set starts number (get_or starts (source sources m number) 0)) i 0 ≡ with_new (λ n. get_or old n 0) count at (source sources m i)) (sym e)
            (get_or-set_same starts number (get_or starts (source sources m number) 0) 0 inside ∙ rest (source sources m number) (above fewer (source sources m) inc number less)))
      ],
      λ k far. get_or-set_other starts number k (get_or starts (source sources m number) 0) 0 (λ e. omega arith) ∙ rest k (omega (arith, far)),
    )

pub shifted_as : (old old' new new' sources sources' : List ℕ) (count at : ℕ) (m : Move) (row row' : Row) → old ≡ old' → new' ≡ new → sources ≡ sources' → row ≡ row' → IsShifted old new count at row.count (source sources m) → IsShifted old' new' count at row'.count (source sources' m)
shifted_as old old' new new' sources sources' count at m row row' e f g h s =
    subst (λ xs. IsShifted xs new' count at row'.count (source sources' m)) e
    (subst (λ xs. IsShifted old xs count at row'.count (source sources' m)) (sym f)
    (subst (λ xs. IsShifted old new count at row'.count (source xs m)) g
    (subst (λ (r : Row). IsShifted old new count at r.count (source sources m)) h s)))

pub enter_begin : (all : List Node) (entry : ℕ) (classes : List ℕ) (first : Bool) (t : Table) (m : Move) → IsTable all entry classes t → IsBegin all entry first t.rows.items t.sources.items m → CanEnter t 0 m
enter_begin all entry classes first t m h b =
    let k = h.rows m.to b.row b.is.is in record {
      row = b.row;
      is = b.is;
      small = omega (arith, k.room);
      room = k.room;
      increasing = b.made.increasing;
      known = b.made.known;
    }

pub enter_step : (all : List Node) (entry byte state count : ℕ) (classes : List ℕ) (found : Bool) (old t : Table) (m : Move) (read : Row) → read ≡ get_or old.rows.items state read → count ≡ read.count → count < length t.starts.items → IsTable all entry classes t → IsStepOf all entry byte found old state t m → CanEnter t count m
enter_step all entry byte state count classes found old t m read is counts small h s =
    let k = h.rows m.to s.step.row s.step.is.is in
    let same : read ≡ s.before = is ∙ get_or_from_slice_get old.rows.items state s.before read s.is in record {
      row = s.step.row;
      is = s.step.is;
      small = small;
      room = k.room;
      increasing = s.step.moved.made.increasing;
      known = λ i less. (let x = s.step.moved.made.known i less in let e = ap (λ (r : Row). r.count) same in omega (arith, x, e, counts));
    }

pub has_begun : (all : List Node) (entry from to : ℕ) (t new : Table) (m : Move) → IsBegin all entry (nat_eq from 0) t.rows.items t.sources.items m → HasEntered t 0 m from new to → HasBegun all entry from new to
has_begun all entry from to t new m b e = record {
  row = b.row;
  is = ap (λ k. slice_get new.rows.items k) e.goes ∙ ap (λ (v : Vec Row Global). slice_get v.items m.to) e.rows ∙ b.is.is;
  f = source t.sources.items m;
  stepped = b.stepped;
  len = b.len;
  empty = b.empty;
  made = b.made;
  starts = λ k less.
      (let x = b.made.known k less in
      let zero' : source t.sources.items m k ≡ 0 = omega (arith, x) in
      e.shifted b.row b.is.is k less ∙ ap (with_new (λ n. get_or t.starts.items n 0) 0 from) zero');
}

pub has_moved : (all : List Node) (entry byte state count at to : ℕ) (found : Bool) (old t new : Table) (m : Move) (read : Row) → read ≡ get_or old.rows.items state read → count ≡ read.count → ((k : ℕ) → k < count → get_or t.starts.items k 0 ≡ get_or old.starts.items k 0) → IsStepOf all entry byte found old state t m → HasEntered t count m at new to → HasMoved all entry byte found at old state new to
has_moved all entry byte state count at to found old t new m read is counts starts s e =
    let same : read ≡ s.before = is ∙ get_or_from_slice_get old.rows.items state s.before read s.is in
    let c : s.before.count ≡ count = sym (ap (λ (r : Row). r.count) same) ∙ sym counts in record {
      before = s.before;
      was = s.is;
      row = s.step.row;
      is = ap (λ k. slice_get new.rows.items k) e.goes ∙ ap (λ (v : Vec Row Global). slice_get v.items m.to) e.rows ∙ s.step.is.is;
      f = source t.sources.items m;
      moved = s.step.moved;
      shifted = λ k less.
          (let x = s.step.moved.made.known k less in
          e.shifted s.step.row s.step.is.is k less ∙ new_same (λ n. get_or t.starts.items n 0) (λ n. get_or old.starts.items n 0) count s.before.count at (source t.sources.items m k) (sym c) (omega (arith, x, c)) starts);
    }
  where
    new_same : (f g : ℕ → ℕ) (n n' at k : ℕ) → n ≡ n' → k ≤ n → ((i : ℕ) → i < n → f i ≡ g i) → with_new f n at k ≡ with_new g n' at k
    new_same f g n n' at k e le h = subst (λ u. with_new f n at k ≡ with_new g u at k) e (by (nat_eq k n) refl)
      where
        by : (b : Bool) → nat_eq k n ≡ b → cond (nat_eq k n) at (f k) ≡ cond (nat_eq k n) at (g k)
        by true q = subst (λ x. cond x at (f k) ≡ cond x at (g k)) (sym q) refl
        by false q = subst (λ x. cond x at (f k) ≡ cond x at (g k)) (sym q) (h k (let p = eqb-false k n q in omega (arith, p, le)))

pub begin_of : (all : List Node) (entry : ℕ) (first : Bool) (next : Set) (t : Table) (m : Move) → length next ≡ length all → IsEmpty next → IsMadeMove all entry false first 0 next t m → IsBegin all entry first t.rows.items t.sources.items m
begin_of all entry first next t m len empty made = record { row = made.row; is = made.is; stepped = next; len = len; empty = empty; made = made.made }

pub begin_as : (all : List Node) (entry : ℕ) (first : Bool) (t new : Table) (m : Move) → new.rows ≡ t.rows → new.sources ≡ t.sources → IsBegin all entry first t.rows.items t.sources.items m → IsBegin all entry first new.rows.items new.sources.items m
begin_as all entry first t new m rows sources b = subst (λ (v : Vec ℕ Global). IsBegin all entry first new.rows.items v.items m) (sym sources) (subst (λ (v : Vec Row Global). IsBegin all entry first v.items t.sources.items m) (sym rows) b)
