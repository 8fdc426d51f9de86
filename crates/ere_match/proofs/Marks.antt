-- Marking a node, and leading its thread on.
use Rattle.std.proofs.Common.{◌≡◌, ◌≢◌, ℕ, zero, suc, ◌+◌, ◌<◌, ◌≤◌, ◌⊎◌, inl, inr, Bool, true, false, List, [], ◌∷◌, length, Option, Some, None, refl, sym, ap, ◌∙◌, subst, arith, set, get_or, length-set, get_or-set_same, get_or-set_other}
use Rattle.std.specs.Prelude.{slice_get, nat_le, ◌&&◌, ◌||◌}
use Rattle.std.proofs.lemmas.Option.{slice_get-get_or, slice_get_past, slice_get_within}
use Rattle.std.proofs.lemmas.Bool.{cases_lt, cases_eq, leb-false, or_cases}
use Rattle.ere_match.specs.declared.node.Node.{Node}
use Rattle.ere_match.specs.declared.node.Node.TheVariants as nodes
use Rattle.ere_match.specs.Runs.{Runs}
use Rattle.ere_match.specs.Threads.{IsNear, Holds, HoldsBy, LeadsTo, cost, IsLess, IsCovered, IsKeptFrom, IsWithin, IsMarked, IsRaised, IsSeeded, IsFollowed, IsFrom, AreStarts, IsLed, IsVisited, IsPassed}
use Rattle.ere_match.proofs.Paths.{go}

abbrev Set : Type 0
Set = List (Option ℕ)

some_is : (a b : ℕ) → Some (Some a) ≡ Some (Some b) → a ≡ b
some_is a b e = cc

pub read_holds : (xs : Set) (i s : ℕ) → Holds xs i s → get_or xs i None ≡ Some s
read_holds xs i s h = let w = slice_get_within xs i (Some s) h.is in inner (get_or xs i None) (Some s) (sym (slice_get-get_or xs i None w) ∙ h.is)
  where
    inner : (a b : Option ℕ) → Some a ≡ Some b → a ≡ b
    inner a b e = cc

pub holds_read : (xs : Set) (i s : ℕ) → i < length xs → get_or xs i None ≡ Some s → Holds xs i s
holds_read xs i s w e = record { is = slice_get-get_or xs i None w ∙ ap Some e }

pub holds_by : (xs : Set) (i s : ℕ) → Holds xs i s → HoldsBy xs i s
holds_by xs i s h = record { first = s; early = omega arith; holds = h }

pub by_later : (xs : Set) (i s t : ℕ) → s ≤ t → HoldsBy xs i s → HoldsBy xs i t
by_later xs i s t le h = record { first = h.first; early = omega (arith, h.early); holds = h.holds }

cost_set : (bound : ℕ) (xs : Set) (i s : ℕ) → i < length xs → IsLess bound s (get_or xs i None) → cost bound (set xs i (Some s)) < cost bound xs
cost_set bound [] i s h less = absurd (omega (arith, h))
cost_set bound (None ∷ xs) zero s h less = omega (arith, less)
cost_set bound (Some b ∷ xs) zero s h less = omega (arith, less)
cost_set bound (None ∷ xs) (suc i) s h less = let k = cost_set bound xs i s (omega arith) less in omega (arith, k)
cost_set bound (Some b ∷ xs) (suc i) s h less = let k = cost_set bound xs i s (omega arith) less in omega (arith, k)

same_get : (xs : Set) (i s : ℕ) → i < length xs → Holds (set xs i (Some s)) i s
same_get xs i s h = record { is = slice_get-get_or (set xs i (Some s)) i None (omega (arith, length-set xs i (Some s))) ∙ ap Some (get_or-set_same xs i (Some s) None h) }

other_get : (xs : Set) (i k s : ℕ) → k ≢ i → slice_get (set xs i (Some s)) k ≡ slice_get xs k
other_get xs i k s h = elim (cases_lt k (length xs)) [
  | inl within ↦ slice_get-get_or (set xs i (Some s)) k None (omega (arith, length-set xs i (Some s))) ∙ ap Some (get_or-set_other xs i k (Some s) None h) ∙ sym (slice_get-get_or xs k None within)
  | inr past ↦ slice_get_past (set xs i (Some s)) k (omega (arith, length-set xs i (Some s))) ∙ sym (slice_get_past xs k past)
]

less_than : (bound s t : ℕ) (o : Option ℕ) → o ≡ Some t → IsLess bound s o → s ≤ t
less_than bound s t o e less = let P : Option ℕ → Type 0 = IsLess bound s in let k = subst P e less in omega (arith, k)

pub marked_new : (bound i s : ℕ) (xs : Set) → i < length xs → IsLess bound s (get_or xs i None) → IsMarked bound i s xs (set xs i (Some s)) true
marked_new bound i s xs h less = record {
  len = length-set xs i (Some s);
  within = record {
    at = λ k t holds. elim (cases_eq k i) [
      | inl same ↦ record {
        first = s;
        early = less_than bound s t (get_or xs i None) (read_holds xs i t (subst (λ m. Holds xs m t) same holds)) less;
        holds = subst (λ m. Holds (set xs i (Some s)) m s) (sym same) (same_get xs i s h);
      }
      | inr other ↦ holds_by (set xs i (Some s)) k t (record { is = other_get xs i k s other ∙ holds.is })
    ];
  };
  here = λ _. holds_by (set xs i (Some s)) i s (same_get xs i s h);
  only = λ k t holds. elim (cases_eq k i) [
    | inl same ↦ (let there = subst (λ m. Holds (set xs i (Some s)) m t) same holds in inr (same, some_is t s (sym there.is ∙ (same_get xs i s h).is)))
    | inr other ↦ inl (record { is = sym (other_get xs i k s other) ∙ holds.is })
  ];
  quiet = λ bad. cc;
  fewer = (let k = cost_set bound xs i s h less in omega (arith, k));
  less = λ _. cost_set bound xs i s h less;
}

pub marked_old : (bound i s : ℕ) (xs : Set) → (i < length xs → IsCovered (get_or xs i None) s) → IsMarked bound i s xs xs false
marked_old bound i s xs covered = record {
  len = refl;
  within = record { at = λ k t holds. holds_by xs k t holds };
  here = λ h. by h (get_or xs i None) refl (covered h);
  only = λ k t holds. inl holds;
  quiet = λ _. refl;
  fewer = omega arith;
  less = λ bad. cc;
}
  where
    by : i < length xs → (o : Option ℕ) → get_or xs i None ≡ o → IsCovered o s → HoldsBy xs i s
    by h None e c = absurd c
    by h (Some b) e c = record { first = b; early = c; holds = holds_read xs i b h e }

pub seeded : (bound i s : ℕ) (old new : Set) (x : Bool) → IsMarked bound i s old new x → IsSeeded i s old new
seeded bound i s old new x m = record { len = m.len; within = m.within; here = m.here; only = m.only }

within_on : (a b c : Set) → IsWithin a b → IsWithin b c → IsWithin a c
within_on a b c g h = record { at = λ k s holds. (let x = g.at k s holds in by_later c k x.first s x.early (h.at k x.first x.holds)) }

pub within_by : (a b : Set) (k s : ℕ) → IsWithin a b → HoldsBy a k s → HoldsBy b k s
within_by a b k s w h = by_later b k h.first s h.early (w.at k h.first h.holds)

or_false : (x y : Bool) → (x || y) ≡ false → (x ≡ false) × (y ≡ false)
or_false true y h = cc
or_false false y h = (refl, h)

-- ---- following

kept_all : (n : ℕ) (old new : Set) → new ≡ old → IsKeptFrom n old new
kept_all n old new e = record { at = λ k t above there. subst (λ (u : Set). Holds u k t) e there }

and_false : (x y : Bool) → (x && y) ≡ false → (x ≡ false) ⊎ (y ≡ false)
and_false true y h = inr h
and_false false y h = inl refl

and_true : (x y : Bool) → (x && y) ≡ true → x ≡ true
and_true true y h = refl
and_true false y h = cc

pub raised : (n bound a s : ℕ) (old new : Set) (x : Bool) → IsMarked bound a s old new x → IsRaised n bound a s old new (x && nat_le n a)
raised n bound a s old new x g = record {
  len = g.len;
  within = g.within;
  here = g.here;
  only = g.only;
  quiet = λ e. elim (and_false x (nat_le n a) e) [
    | inl same ↦ kept_all n old new (g.quiet same)
    | inr below ↦ record { at = λ k t above there. elim (g.only k t there) [ inl older ↦ older | inr is ↦ absurd (let l = leb-false n a below in omega (arith, l, above, is.0)) ] }
  ];
  fewer = g.fewer;
  less = λ e. g.less (and_true x (nat_le n a) e);
}

pub followed_split : (first last : Bool) (bound n s a b : ℕ) (old one two : Set) (x y : Bool) → IsRaised n bound a s old one x → IsRaised n bound b s one two y → IsFollowed first last bound n s (nodes.Split a b) old two (x || y)
followed_split first last bound n s a b old one two x y g h = record {
  len = h.len ∙ g.len;
  within = within_on old one two g.within h.within;
  all_in = λ to leads inside. elim leads [
    | inl one' ↦ subst (λ k. HoldsBy two k s) (sym one') (within_by one two a s h.within (g.here (omega arith)))
    | inr two' ↦ subst (λ k. HoldsBy two k s) (sym two') (h.here (omega (arith, g.len)))
  ];
  only = λ k t holds. elim (h.only k t holds) [
    | inl before ↦ elim (g.only k t before) [ inl older ↦ inl older | inr is ↦ inr (inl is.0, is.1) ]
    | inr is ↦ inr (inr is.0, is.1)
  ];
  quiet = λ e. (let both = or_false x y e in record { at = λ k t above there. (g.quiet both.0).at k t above ((h.quiet both.1).at k t above there) });
  fewer = omega (arith, g.fewer, h.fewer);
  less = λ e. elim (or_cases x y e) [ inl first ↦ omega (arith, g.less first, h.fewer) | inr second ↦ omega (arith, g.fewer, h.less second) ];
}

pub followed_start : (first last : Bool) (bound n s a : ℕ) (old new : Set) (x : Bool) → first ≡ true → IsRaised n bound a s old new x → IsFollowed first last bound n s (nodes.Start a) old new x
followed_start first last bound n s a old new x e g = record {
  len = g.len;
  within = g.within;
  all_in = λ to leads inside. subst (λ k. HoldsBy new k s) (sym leads.1) (g.here (omega (arith, leads.1)));
  only = λ k t holds. elim (g.only k t holds) [ inl older ↦ inl older | inr is ↦ inr ((e, is.0), is.1) ];
  quiet = g.quiet;
  fewer = g.fewer;
  less = g.less;
}

pub followed_end : (first last : Bool) (bound n s a : ℕ) (old new : Set) (x : Bool) → last ≡ true → IsRaised n bound a s old new x → IsFollowed first last bound n s (nodes.End a) old new x
followed_end first last bound n s a old new x e g = record {
  len = g.len;
  within = g.within;
  all_in = λ to leads inside. subst (λ k. HoldsBy new k s) (sym leads.1) (g.here (omega (arith, leads.1)));
  only = λ k t holds. elim (g.only k t holds) [ inl older ↦ inl older | inr is ↦ inr ((e, is.0), is.1) ];
  quiet = g.quiet;
  fewer = g.fewer;
  less = g.less;
}

pub followed_none : (first last : Bool) (bound n s : ℕ) (node : Node) (old : Set) → ((to : ℕ) → LeadsTo first last (Some node) to → ⊥) → IsFollowed first last bound n s node old old false
followed_none first last bound n s node old none = record {
  len = refl;
  within = record { at = λ k t holds. holds_by old k t holds };
  all_in = λ to leads inside. absurd (none to leads);
  only = λ k t holds. inl holds;
  quiet = λ _. kept_all n old old refl;
  fewer = omega arith;
  less = λ bad. cc;
}

-- ---- visiting

leads_run : (all : List Node) (first last : Bool) (text : List ℕ) (i j n id to : ℕ) (node : Node) → IsNear text i first last → slice_get all id ≡ Some node → LeadsTo first last (Some node) to → Runs all text j n to i → Runs all text j (suc n) id i
leads_run all first last text i j n id to (nodes.Split a b) is h leads r = go all text j n id i _ h (elim leads [
  | inl one ↦ inl (subst (λ k. Runs all text j n k i) one r)
  | inr two ↦ inr (subst (λ k. Runs all text j n k i) two r)
])
leads_run all first last text i j n id to (nodes.Start a) is h leads r = go all text j n id i _ h (is.is_first leads.0, subst (λ k. Runs all text j n k i) leads.1 r)
leads_run all first last text i j n id to (nodes.End a) is h leads r = go all text j n id i _ h (is.is_last leads.0, subst (λ k. Runs all text j n k i) leads.1 r)
leads_run all first last text i j n id to (nodes.Take f a) is h leads r = absurd leads
leads_run all first last text i j n id to nodes.Never is h leads r = absurd leads
leads_run all first last text i j n id to nodes.Accept is h leads r = absurd leads

pub visited : (all : List Node) (first last : Bool) (bound id s : ℕ) (node : Node) (old new : Set) (x : Bool) → slice_get all id ≡ Some node → Holds old id s → IsFollowed first last bound id s node old new x → IsVisited all first last bound id old new x
visited all first last bound id s node old new x h holds f = record {
  len = f.len;
  within = f.within;
  from = record {
    at = λ text i is j n k t there r. elim (f.only k t there) [
      | inl older ↦ (n, k, older, r)
      | inr leads ↦ (suc n, id, subst (λ t. Holds old id t) (sym leads.1) holds, leads_run all first last text i j n id k node is h leads.0 r)
    ];
  };
  starts = record { at = λ k t there. elim (f.only k t there) [ inl older ↦ (k, older) | inr leads ↦ (id, subst (λ t. Holds old id t) (sym leads.1) holds) ] };
  quiet = f.quiet;
  closed = λ e to t there leads inside.
      (let older = (f.quiet e).at id t (omega arith) there in
      let is : t ≡ s = some_is t s (sym older.is ∙ holds.is) in
      subst (λ t. HoldsBy new to t) (sym is) (f.all_in to (subst (λ o. LeadsTo first last o to) h leads) (omega (arith, f.len))));
  fewer = f.fewer;
  less = f.less;
}

pub not_visited : (all : List Node) (first last : Bool) (bound id : ℕ) (old : Set) → get_or old id None ≡ None → IsVisited all first last bound id old old false
not_visited all first last bound id old out = record {
  len = refl;
  within = record { at = λ k t holds. holds_by old k t holds };
  from = record { at = λ text i is j n k t there r. (n, k, there, r) };
  starts = record { at = λ k t there. (k, there) };
  quiet = λ _. kept_all id old old refl;
  closed = λ e to t there leads within. (let is : None ≡ Some t = sym out ∙ read_holds old id t there in cc);
  fewer = omega arith;
  less = λ bad. cc;
}

-- ---- one pass

-- the threads of a node at which none is new stay led on
led_on : (all : List Node) (first last : Bool) (old new : Set) (id : ℕ) → length new ≡ length old → ((s : ℕ) → Holds new id s → Holds old id s) → IsWithin old new → IsLed all first last old id → IsLed all first last new id
led_on all first last old new id len older w led = λ to s there leads inside. within_by old new to s w (led to s (older s there) leads (omega (arith, inside, len)))

pub passed_none : (all : List Node) (first last : Bool) (bound n : ℕ) (old : Set) → length old ≡ length all → n ≡ length all → IsPassed all first last bound n old old false
passed_none all first last bound n old len e = record {
  len = refl;
  within = record { at = λ k t holds. holds_by old k t holds };
  from = record { at = λ text i is j m k t there r. (m, k, there, r) };
  starts = record { at = λ k t there. (k, there) };
  closed = λ _. record { at = λ id above below. absurd (omega (arith, len, e)) };
  fewer = omega arith;
  less = λ bad. cc;
}

pub passed_on : (all : List Node) (first last : Bool) (bound id n : ℕ) (old mid new : Set) (x y z : Bool) → n ≡ id + 1 → IsPassed all first last bound n old mid x → IsVisited all first last bound id mid new y → ((z ≡ true → (x ≡ true) ⊎ (y ≡ true)) × (z ≡ false → (x ≡ false) × (y ≡ false))) → IsPassed all first last bound id old new z
passed_on all first last bound id n old mid new x y z is p v or = record {
  len = v.len ∙ p.len;
  within = within_on old mid new p.within v.within;
  from = record { at = λ text i is j m k t there r. (let back = v.from.at text i is j m k t there r in p.from.at text i is j back.0 back.1 t back.2 back.3) };
  starts = record { at = λ k t there. (let back = v.starts.at k t there in p.starts.at back.0 t back.1) };
  closed = λ e. (let both = or.1 e in record {
    at = λ k above below. elim (cases_lt id k) [
      | inl later ↦ led_on all first last mid new k v.len (λ s there. (v.quiet both.1).at k s (omega (arith, later)) there) v.within ((p.closed both.0).at k (omega (arith, is)) (omega (arith, below, v.len)))
      | inr here ↦ (let same_id : id ≡ k = omega arith in subst (λ m. IsLed all first last new m) same_id (v.closed both.1))
    ];
  });
  fewer = omega (arith, p.fewer, v.fewer);
  less = λ e. elim (or.0 e) [ inl first ↦ omega (arith, p.less first, v.fewer) | inr second ↦ omega (arith, p.fewer, v.less second) ];
}

pub starts_bound : (old new : Set) (bound : ℕ) → AreStarts old new → ((k s : ℕ) → Holds old k s → s < bound) → (k s : ℕ) → Holds new k s → s < bound
starts_bound old new bound h small k s there = let o = h.at k s there in small o.0 s o.1

pub closure_start : (all : List Node) (first last : Bool) (old : Set) → IsFrom all first last old old × AreStarts old old × IsWithin old old
closure_start all first last old = (record { at = λ text i is j m k t there r. (m, k, there, r) }, record { at = λ k t there. (k, there) }, record { at = λ k t holds. holds_by old k t holds })

pub from_on : (all : List Node) (first last : Bool) (a b c : Set) → IsFrom all first last a b → IsFrom all first last b c → IsFrom all first last a c
from_on all first last a b c g h = record { at = λ text i is j m k t there r. (let back = h.at text i is j m k t there r in g.at text i is j back.0 back.1 t back.2 back.3) }

pub starts_on : (a b c : Set) → AreStarts a b → AreStarts b c → AreStarts a c
starts_on a b c g h = record { at = λ k t there. (let back = h.at k t there in g.at back.0 t back.1) }

pub within_then : (a b c : Set) → IsWithin a b → IsWithin b c → IsWithin a c
within_then a b c g h = within_on a b c g h
