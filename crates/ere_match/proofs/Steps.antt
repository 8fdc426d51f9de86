-- A step of a closed set, and what it accepts.
use Rattle.std.proofs.Common.{◌≡◌, ℕ, zero, suc, ◌+◌, ◌<◌, ◌≤◌, inl, inr, Bool, true, false, cond, List, [], ◌∷◌, length, Option, Some, None, refl, sym, ap, ◌∙◌, subst, arith, get_or, nat_le}
use Rattle.std.specs.Prelude.{slice_get}
use Rattle.std.proofs.lemmas.Option.{slice_get-get_or, slice_get_past, slice_get_within}
use Rattle.std.proofs.lemmas.Bool.{cases_lt, leb-true, leb-false}
use Rattle.ere_match.specs.declared.node.Filter.{Filter}
use Rattle.ere_match.specs.declared.node.Node.{Node}
use Rattle.ere_match.specs.declared.node.Node.TheVariants as nodes
use Rattle.ere_match.specs.Runs.{Runs, Step, IsTaken, filter_set}
use Rattle.ere_match.specs.Threads.{IsAt, Holds, HoldsBy, LeadsTo, Takes, IsTarget, IsMarked, IsClosedFrom, IsAdvanced, IsStepped, IsAccepted, least_of, SetRuns, cost}
use Rattle.ere_match.proofs.Paths.{go, gone}
use Rattle.ere_match.proofs.Marks.{read_holds, holds_read, holds_by, within_by}

abbrev Set : Type 0
Set = List (Option ℕ)

pub node_is : (all : List Node) (id : ℕ) (node : Node) → id < length all → node ≡ get_or all id node → slice_get all id ≡ Some node
node_is all id node h e = slice_get-get_or all id node h ∙ ap Some (sym e)

pub smaller : (bound : ℕ) (old new : Set) (x y : Bool) → y ≡ true → (x ≡ true → cost bound new < cost bound old) → cost bound new ≤ cost bound old → cost bound new + cond x 1 0 < cost bound old + cond y 1 0
smaller bound old new true true e less fewer = let l = less refl in omega (arith, l)
smaller bound old new false true e less fewer = omega (arith, fewer)
smaller bound old new x false e less fewer = absurd cc

-- ---- runs

runs_le_at : (all : List Node) (text : List ℕ) (j n i : ℕ) → ((id k : ℕ) → Runs all text j n id k → k ≤ j) → (o : Option Node) → Step (λ to k. Runs all text j n to k) text i j o → i ≤ j
runs_le_at all text j n i le None s = absurd s
runs_le_at all text j n i le (Some nodes.Accept) s = omega (arith, s)
runs_le_at all text j n i le (Some nodes.Never) s = absurd s
runs_le_at all text j n i le (Some (nodes.Take f to)) s = omega (arith, le to (i + 1) s.1)
runs_le_at all text j n i le (Some (nodes.Split a b)) s = elim s [ inl l ↦ le a i l | inr r ↦ le b i r ]
runs_le_at all text j n i le (Some (nodes.Start to)) s = le to i s.1
runs_le_at all text j n i le (Some (nodes.End to)) s = le to i s.1

pub runs_le : (all : List Node) (text : List ℕ) (j n id i : ℕ) → Runs all text j n id i → i ≤ j
runs_le all text j zero id i r = absurd r
runs_le all text j (suc n) id i r = runs_le_at all text j n i (runs_le all text j n) (slice_get all id) r

pub runs_within : (all : List Node) (text : List ℕ) (j n id i : ℕ) → Runs all text j n id i → id < length all
runs_within all text j zero id i r = absurd r
runs_within all text j (suc n) id i r = elim (cases_lt id (length all)) [
  | inl within ↦ within
  | inr past ↦ absurd (gone all text j n id i None (slice_get_past all id past) r)
]

-- a thread no later than s from which a run goes on
pub record RunsBy (all : List Node) (text : List ℕ) (j i : ℕ) (set : Set) (s : ℕ) : Type 0 where
  pub first : ℕ
  pub early : first ≤ s
  pub runs : SetRuns all text j i set first

by_earlier : (all : List Node) (text : List ℕ) (j i : ℕ) (set : Set) (s t : ℕ) → s ≤ t → RunsBy all text j i set s → RunsBy all text j i set t
by_earlier all text j i set s t le r = record { first = r.first; early = omega (arith, r.early); runs = r.runs }

led : (all : List Node) (first last : Bool) (set : Set) (id to s : ℕ) (o : Option Node) → length set ≡ length all → IsClosedFrom all first last 0 set → Holds set id s → slice_get all id ≡ o → LeadsTo first last o to → to < length all → HoldsBy set to s
led all first last set id to s o len closed holds h leads small =
    closed.at id (omega arith) (slice_get_within set id (Some s) holds.is) to s holds (let P : Option Node → Type 0 = λ o. LeadsTo first last o to in subst P (sym h) leads) (omega (arith, len))

some_nat : (a b : ℕ) → Some a ≡ Some b → a ≡ b
some_nat a b e = cc

-- by the byte at a place
taken : (f : Filter) (text : List ℕ) (i byte : ℕ) → slice_get text i ≡ Some byte → IsTaken (filter_set f) text i → slice_get (filter_set f) byte ≡ Some true
taken f text i byte here t = subst (λ c. slice_get (filter_set f) c ≡ Some true) (some_nat t.0 byte (sym t.1 ∙ here)) t.2

module _ (all : List Node) (text : List ℕ) (j i byte : ℕ) (first last : Bool) (set new : Set) (is : IsAt text i first last) (here : slice_get text i ≡ Some byte) (before : i < j) (len : length set ≡ length all) (closed : IsClosedFrom all first last 0 set) (st : IsStepped all byte (length all) set new) where
  on_at : (n id s : ℕ) → Holds set id s → id < length all → (o : Option Node) → slice_get all id ≡ o → Step (λ to k. Runs all text j n to k) text i j o → ((to t : ℕ) → Holds set to t → Runs all text j n to i → RunsBy all text j (i + 1) new t) → RunsBy all text j (i + 1) new s
  on_at n id s holds small None h r rest = absurd r
  on_at n id s holds small (Some nodes.Accept) h r rest = absurd (omega (arith, r))
  on_at n id s holds small (Some nodes.Never) h r rest = absurd r
  on_at n id s holds small (Some (nodes.Take f to)) h r rest =
      let k = st.into id to s small holds (let P : Option Node → Type 0 = λ o. Takes byte o to in subst P (sym h) (taken f text i byte here r.0, refl)) (runs_within all text j n to (i + 1) r.1) in
      record { first = k.first; early = k.early; runs = record { steps = n; id = to; holds = k.holds; run = r.1 } }
  on_at n id s holds small (Some (nodes.Split a b)) h r rest = elim r [
    | inl l ↦ (let k = led all first last set id a s (Some (nodes.Split a b)) len closed holds h (inl refl) (runs_within all text j n a i l) in by_earlier all text j (i + 1) new k.first s k.early (rest a k.first k.holds l))
    | inr l ↦ (let k = led all first last set id b s (Some (nodes.Split a b)) len closed holds h (inr refl) (runs_within all text j n b i l) in by_earlier all text j (i + 1) new k.first s k.early (rest b k.first k.holds l))
  ]
  on_at n id s holds small (Some (nodes.Start to)) h r rest =
      let k = led all first last set id to s (Some (nodes.Start to)) len closed holds h (is.first_is r.0, refl) (runs_within all text j n to i r.1) in by_earlier all text j (i + 1) new k.first s k.early (rest to k.first k.holds r.1)
  on_at n id s holds small (Some (nodes.End to)) h r rest =
      let k = led all first last set id to s (Some (nodes.End to)) len closed holds h (is.last_is r.0, refl) (runs_within all text j n to i r.1) in by_earlier all text j (i + 1) new k.first s k.early (rest to k.first k.holds r.1)

  on_from : (n id s : ℕ) → Holds set id s → Runs all text j n id i → RunsBy all text j (i + 1) new s
  on_from zero id s holds r = absurd r
  on_from (suc n) id s holds r = on_at n id s holds (runs_within all text j (suc n) id i r) (slice_get all id) refl r (on_from n)

  pub step_on : (s : ℕ) → SetRuns all text j i set s → RunsBy all text j (i + 1) new s
  step_on s r = on_from r.steps r.id s r.holds r.run

-- a closed set that has a run which ends here holds an accepting node
pub record AcceptsBy (all : List Node) (set : Set) (s : ℕ) : Type 0 where
  pub first : ℕ
  pub early : first ≤ s
  pub id : ℕ
  pub holds : Holds set id first
  pub accepts : slice_get all id ≡ Some nodes.Accept

accepts_earlier : (all : List Node) (set : Set) (s t : ℕ) → s ≤ t → AcceptsBy all set s → AcceptsBy all set t
accepts_earlier all set s t le a = record { first = a.first; early = omega (arith, a.early); id = a.id; holds = a.holds; accepts = a.accepts }

module _ (all : List Node) (text : List ℕ) (j : ℕ) (first last : Bool) (set : Set) (is : IsAt text j first last) (len : length set ≡ length all) (closed : IsClosedFrom all first last 0 set) where
  ends_at : (n id s : ℕ) → Holds set id s → (o : Option Node) → slice_get all id ≡ o → Step (λ to k. Runs all text j n to k) text j j o → ((to t : ℕ) → Holds set to t → Runs all text j n to j → AcceptsBy all set t) → AcceptsBy all set s
  ends_at n id s holds None h r rest = absurd r
  ends_at n id s holds (Some nodes.Accept) h r rest = record { first = s; early = omega arith; id = id; holds = holds; accepts = h }
  ends_at n id s holds (Some nodes.Never) h r rest = absurd r
  ends_at n id s holds (Some (nodes.Take f to)) h r rest = absurd (omega (arith, runs_le all text j n to (j + 1) r.1))
  ends_at n id s holds (Some (nodes.Split a b)) h r rest = elim r [
    | inl l ↦ (let k = led all first last set id a s (Some (nodes.Split a b)) len closed holds h (inl refl) (runs_within all text j n a j l) in accepts_earlier all set k.first s k.early (rest a k.first k.holds l))
    | inr l ↦ (let k = led all first last set id b s (Some (nodes.Split a b)) len closed holds h (inr refl) (runs_within all text j n b j l) in accepts_earlier all set k.first s k.early (rest b k.first k.holds l))
  ]
  ends_at n id s holds (Some (nodes.Start to)) h r rest =
      let k = led all first last set id to s (Some (nodes.Start to)) len closed holds h (is.first_is r.0, refl) (runs_within all text j n to j r.1) in accepts_earlier all set k.first s k.early (rest to k.first k.holds r.1)
  ends_at n id s holds (Some (nodes.End to)) h r rest =
      let k = led all first last set id to s (Some (nodes.End to)) len closed holds h (is.last_is r.0, refl) (runs_within all text j n to j r.1) in accepts_earlier all set k.first s k.early (rest to k.first k.holds r.1)

  pub ends_in : (n id s : ℕ) → Holds set id s → Runs all text j n id j → AcceptsBy all set s
  ends_in zero id s holds r = absurd r
  ends_in (suc n) id s holds r = ends_at n id s holds (slice_get all id) refl r (ends_in n)

taken_run : (all : List Node) (text : List ℕ) (j n i id to byte : ℕ) (o : Option Node) → slice_get text i ≡ Some byte → slice_get all id ≡ o → Takes byte o to → Runs all text j n to (i + 1) → Runs all text j (suc n) id i
taken_run all text j n i id to byte None here h t r = absurd t
taken_run all text j n i id to byte (Some (nodes.Take f a)) here h t r = go all text j n id i _ h ((byte, here, t.0), subst (λ k. Runs all text j n k (i + 1)) t.1 r)
taken_run all text j n i id to byte (Some (nodes.Split a b)) here h t r = absurd t
taken_run all text j n i id to byte (Some (nodes.Start a)) here h t r = absurd t
taken_run all text j n i id to byte (Some (nodes.End a)) here h t r = absurd t
taken_run all text j n i id to byte (Some nodes.Never) here h t r = absurd t
taken_run all text j n i id to byte (Some nodes.Accept) here h t r = absurd t

pub step_back : (all : List Node) (text : List ℕ) (j i byte : ℕ) (set new : Set) (s : ℕ) → slice_get text i ≡ Some byte → IsStepped all byte (length all) set new → SetRuns all text j (i + 1) new s → SetRuns all text j i set s
step_back all text j i byte set new s here st r =
    let o = st.only r.id s r.holds in
    record { steps = suc r.steps; id = o.0; holds = o.1; run = taken_run all text j r.steps i o.0 r.id byte (slice_get all o.0) here refl o.2 r.run }

-- ---- how the nodes are gone through

pub stepped_none : (all : List Node) (byte : ℕ) (set new : Set) → length new ≡ length all → ((id s : ℕ) → Holds new id s → ⊥) → IsStepped all byte 0 set new
stepped_none all byte set new len empty = record { len = len; into = λ id to s below. absurd (omega arith); only = λ to s holds. absurd (empty to s holds) }

pub stepped_on : (all : List Node) (byte id : ℕ) (set old new : Set) → IsStepped all byte id set old → IsAdvanced all byte id set old new → IsStepped all byte (id + 1) set new
stepped_on all byte id set old new st ad = record {
  len = ad.len ∙ st.len;
  into = λ k to s below holds takes small. elim (cases_lt k id) [
    | inl before ↦ within_by old new to s ad.within (st.into k to s before holds takes small)
    | inr here ↦ (let is : k ≡ id = omega arith in ad.into to s (subst (λ m. Holds set m s) is holds) (subst (λ m. Takes byte (slice_get all m) to) is takes) small)
  ];
  only = λ to s holds. elim (ad.only to s holds) [ inl older ↦ st.only to s older | inr now ↦ (id, now.0, now.1) ];
}

pub advanced_out : (all : List Node) (byte id : ℕ) (set old : Set) → get_or set id None ≡ None → IsAdvanced all byte id set old old
advanced_out all byte id set old out = record {
  len = refl;
  within = record { at = λ k t holds. holds_by old k t holds };
  into = λ to s holds. absurd (let is : None ≡ Some s = sym out ∙ read_holds set id s holds in cc);
  only = λ to s holds. inl holds;
}

takes_found : (byte to : ℕ) (node : Node) (found : Option ℕ) → IsTarget node byte found → Takes byte (Some node) to → found ≡ Some to
takes_found byte to (nodes.Take f a) found t k = elim t [
  | inl same ↦ same.1 ∙ ap Some (sym k.1)
  | inr other ↦ absurd (
      let w = slice_get_within (filter_set f) byte true k.0 in
      let is : Some true ≡ Some false = sym k.0 ∙ slice_get-get_or (filter_set f) byte false w ∙ ap Some other.0 in cc)
]
takes_found byte to (nodes.Split a b) found t k = absurd k
takes_found byte to (nodes.Start a) found t k = absurd k
takes_found byte to (nodes.End a) found t k = absurd k
takes_found byte to nodes.Never found t k = absurd k
takes_found byte to nodes.Accept found t k = absurd k

-- a byte that is in the set stands within its table
pub true_within : (xs : List Bool) (c : ℕ) → get_or xs c false ≡ true → slice_get xs c ≡ Some true
true_within [] c e = absurd cc
true_within (x ∷ xs) zero e = ap Some e
true_within (x ∷ xs) (suc c) e = true_within xs c e

found_takes : (byte to : ℕ) (node : Node) → IsTarget node byte (Some to) → Takes byte (Some node) to
found_takes byte to (nodes.Take f a) t = elim t [
  | inl same ↦ (true_within (filter_set f) byte same.0, some_nat to a same.1)
  | inr other ↦ (let e : Some to ≡ None = other.1 in cc)
]
found_takes byte to (nodes.Split a b) t = (let e : Some to ≡ None = t in cc)
found_takes byte to (nodes.Start a) t = (let e : Some to ≡ None = t in cc)
found_takes byte to (nodes.End a) t = (let e : Some to ≡ None = t in cc)
found_takes byte to nodes.Never t = (let e : Some to ≡ None = t in cc)
found_takes byte to nodes.Accept t = (let e : Some to ≡ None = t in cc)

pub advanced_none : (all : List Node) (id byte : ℕ) (node : Node) (set old : Set) → slice_get all id ≡ Some node → IsTarget node byte None → IsAdvanced all byte id set old old
advanced_none all id byte node set old h t = record {
  len = refl;
  within = record { at = λ k t holds. holds_by old k t holds };
  into = λ to s holds takes small. (let e : None ≡ Some to = takes_found byte to node None t (let P : Option Node → Type 0 = λ o. Takes byte o to in subst P h takes) in cc);
  only = λ to s holds. inl holds;
}

pub advanced_some : (all : List Node) (id byte a s bound : ℕ) (node : Node) (set old new : Set) (x : Bool) → length old ≡ length all → slice_get all id ≡ Some node → get_or set id None ≡ Some s → id < length set → IsTarget node byte (Some a) → IsMarked bound a s old new x → IsAdvanced all byte id set old new
advanced_some all id byte a s bound node set old new x len h at inside t m = record {
  len = m.len;
  within = m.within;
  into = λ to r holds takes small.
      (let same : a ≡ to = some_nat a to (takes_found byte to node (Some a) t (let P : Option Node → Type 0 = λ o. Takes byte o to in subst P h takes)) in
      let start : s ≡ r = some_nat s r (sym at ∙ read_holds set id r holds) in
      subst (λ k. HoldsBy new k r) same (subst (λ u. HoldsBy new a u) start (m.here (omega (arith, len)))));
  only = λ to r holds. elim (m.only to r holds) [
    | inl older ↦ inl older
    | inr is ↦ inr (subst (λ u. Holds set id u) (sym is.1) (holds_read set id s inside at), (let P : Option Node → Type 0 = λ o. Takes byte o to in subst P (sym h) (subst (λ k. Takes byte (Some node) k) (sym is.0) (found_takes byte a node t))))
  ];
}

-- ---- accepting

pub accepted_none : (all : List Node) (set : Set) → IsAccepted all set 0 None
accepted_none all set = λ id s below. absurd (omega arith)

accepted_off : (all : List Node) (set : Set) (n : ℕ) (x : Option ℕ) → ((s : ℕ) → Holds set n s → slice_get all n ≡ Some nodes.Accept → ⊥) → IsAccepted all set n x → IsAccepted all set (n + 1) x
accepted_off all set n None out a = λ id s below holds is. elim (cases_lt id n) [
  | inl before ↦ a id s before holds is
  | inr here ↦ (let e : id ≡ n = omega arith in out s (subst (λ m. Holds set m s) e holds) (subst (λ m. slice_get all m ≡ Some nodes.Accept) e is))
]
accepted_off all set n (Some f) out a = (
  a.0,
  λ id s below holds is. elim (cases_lt id n) [
    | inl before ↦ a.1 id s before holds is
    | inr here ↦ (let e : id ≡ n = omega arith in absurd (out s (subst (λ m. Holds set m s) e holds) (subst (λ m. slice_get all m ≡ Some nodes.Accept) e is)))
  ],
)

pub accepted_other : (all : List Node) (set : Set) (n : ℕ) (x : Option ℕ) (node : Node) → slice_get all n ≡ Some node → (node ≡ nodes.Accept → ⊥) → IsAccepted all set n x → IsAccepted all set (n + 1) x
accepted_other all set n x node h out a = accepted_off all set n x (λ s holds is. out (inner node nodes.Accept (sym h ∙ is))) a
  where
    inner : (a b : Node) → Some a ≡ Some b → a ≡ b
    inner a b e = cc

here_or : (all : List Node) (set : Set) (n s f : ℕ) → get_or set n None ≡ Some f → (id : ℕ) → n ≤ id → id < n + 1 → Holds set id s → f ≡ s
here_or all set n s f e id above below holds =
    let is : id ≡ n = omega arith in some_nat f s (sym e ∙ read_holds set n s (subst (λ m. Holds set m s) is holds))

pub accepted_here : (all : List Node) (set : Set) (n : ℕ) (x o : Option ℕ) → n < length set → slice_get all n ≡ Some nodes.Accept → get_or set n None ≡ o → IsAccepted all set n x → IsAccepted all set (n + 1) (least_of x o)
accepted_here all set n x None inside h e a = subst (IsAccepted all set (n + 1)) (same x) (accepted_off all set n x (λ s holds is. (let c : None ≡ Some s = sym e ∙ read_holds set n s holds in cc)) a)
  where
    same : (x : Option ℕ) → x ≡ least_of x None
    same None = refl
    same (Some a) = refl
accepted_here all set n None (Some f) inside h e a = (
  (n, holds_read set n f inside e, h),
  λ id s below holds is. elim (cases_lt id n) [
    | inl before ↦ absurd (a id s before holds is)
    | inr here ↦ (let q = here_or all set n s f e id here below holds in omega (arith, q))
  ],
)
accepted_here all set n (Some g) (Some f) inside h e a = by (nat_le g f) refl
  where
    by : (b : Bool) → nat_le g f ≡ b → IsAccepted all set (n + 1) (cond b (Some g) (Some f))
    by true q = (
      a.0,
      λ id s below holds is. elim (cases_lt id n) [
        | inl before ↦ a.1 id s before holds is
        | inr here ↦ (let r = here_or all set n s f e id here below holds in let l = leb-true g f q in omega (arith, r, l))
      ],
    )
    by false q = (
      (n, holds_read set n f inside e, h),
      λ id s below holds is. elim (cases_lt id n) [
        | inl before ↦ (let r = a.1 id s before holds is in let l = leb-false g f q in omega (arith, r, l))
        | inr here ↦ (let r = here_or all set n s f e id here below holds in omega (arith, r))
      ],
    )
