-- A scan of the text, place by place.
use Rattle.std.proofs.Common.{◌≡◌, nat_eq, ℕ, zero, ◌+◌, ◌<◌, ◌≤◌, ◌⊎◌, inl, inr, Bool, true, false, cond, List, length, Option, Some, None, refl, sym, ◌∙◌, subst, arith, nat_le}
use Rattle.std.specs.Prelude.{slice_get}
use Rattle.std.proofs.lemmas.Bool.{cases_lt, eq-eqb, eqb-true, leb-true, leb-false}
use Rattle.std.proofs.lemmas.Option.{slice_get_past}
use Rattle.ere_match.specs.declared.node.Node.{Node}
use Rattle.ere_match.specs.declared.node.Node.TheVariants as nodes
use Rattle.ere_match.specs.Runs.{Runs}
use Rattle.ere_match.specs.Threads.{IsAt, IsNear, Holds, IsSeeded, IsClosure, IsClosedFrom, IsStepped, IsAccepted, IsBest, IsOpen, AreThreads, IsSettled, SetRuns, better_of}
use Rattle.ere_match.proofs.Paths.{go}
use Rattle.ere_match.proofs.Steps.{runs_le, runs_within, AcceptsBy, step_on, step_back, ends_in}

abbrev Set : Type 0
Set = List (Option ℕ)

-- what the tests of a place say
pub place_is : (text : List ℕ) (i : ℕ) → IsAt text i (nat_eq i 0) (nat_eq i (length text))
place_is text i = record {
  near = record { is_first = eqb-true i 0; is_last = eqb-true i (length text) };
  first_is = eq-eqb i 0;
  last_is = eq-eqb i (length text);
}

-- what they say of a place before the end
pub place_in : (text : List ℕ) (i : ℕ) (first : Bool) → first ≡ nat_eq i 0 → i < length text → IsAt text i first false
place_in text i first is inside = record {
  near = record { is_first = λ e. eqb-true i 0 (sym is ∙ e); is_last = λ e. absurd cc };
  first_is = λ e. is ∙ eq-eqb i 0 e;
  last_is = λ e. absurd (omega (arith, inside, e));
}

module _ (all : List Node) (text : List ℕ) (entry from i : ℕ) where
  pub threads_start : (set : Set) → length set ≡ length all → ((id s : ℕ) → Holds set id s → ⊥) → from ≡ i → AreThreads all text entry from i i set None
  threads_start set len empty e = record {
    len = len;
    starts = λ id s holds. absurd (empty id s holds);
    back = λ j s r. absurd (empty r.id s r.holds);
    on = λ s j m above below r open' run. absurd (omega (arith, e));
  }

  pub best_start : from ≡ i → IsBest all text entry from i None
  best_start e = λ s j m above below run. (let le = runs_le all text j m entry s run in omega (arith, le, e))

  -- a thread begins
  pub threads_seed : (set new : Set) → from ≤ i → AreThreads all text entry from i i set None → IsSeeded entry i set new → AreThreads all text entry from i (i + 1) new None
  threads_seed set new le th m = record {
    len = m.len ∙ th.len;
    starts = λ id s holds. elim (m.only id s holds) [
      | inl older ↦ th.starts id s older
      | inr is ↦ (omega (arith, is.1), omega (arith, is.1))
    ];
    back = λ j s r. elim (m.only r.id s r.holds) [
      | inl older ↦ th.back j s (record { steps = r.steps; id = r.id; holds = older; run = r.run })
      | inr is ↦ (
        r.steps,
        (
            let a = subst (λ k. Runs all text j r.steps k i) is.0 r.run in
            subst (λ k. Runs all text j r.steps entry k) (sym is.1) a),
      )
    ];
    on = λ s j m' above below r open' run. elim (cases_lt s i) [
      | inl before ↦ (
          let o = th.on s j m' above before r tt run in
          let w = m.within.at o.2.id o.0 o.2.holds in
          (w.first, omega (arith, o.1, w.early), record { steps = o.2.steps; id = o.2.id; holds = w.holds; run = o.2.run }))
      | inr here ↦ (
          let is : s ≡ i = omega arith in
          let now = subst (λ k. Runs all text j m' entry k) is run in
          let w = m.here (omega (arith, runs_within all text j m' entry i now, th.len)) in
          (w.first, omega (arith, w.early, is), record { steps = m'; id = entry; holds = w.holds; run = now }))
    ];
  }

  -- no thread begins once there is a match
  pub threads_stay : (set : Set) (p : ℕ × ℕ) → AreThreads all text entry from i i set (Some p) → IsBest all text entry from i (Some p) → AreThreads all text entry from i (i + 1) set (Some p)
  threads_stay set p th b = record {
    len = th.len;
    starts = th.starts;
    back = th.back;
    on = λ s j m above below r open' run. th.on s j m above (omega (arith, open', b.2, b.3)) r open' run;
  }

  -- the threads are led on
  pub threads_closed : (first last : Bool) → IsNear text i first last → (set new : Set) (best : Option (ℕ × ℕ)) → AreThreads all text entry from i (i + 1) set best → IsClosure all first last set new → AreThreads all text entry from i (i + 1) new best
  threads_closed first last is set new best th c = record {
    len = c.len ∙ th.len;
    starts = λ id s holds. (let o = c.starts.at id s holds in th.starts o.0 s o.1);
    back = λ j s r. (let o = c.from.at text i is j r.steps r.id s r.holds r.run in th.back j s (record { steps = o.0; id = o.1; holds = o.2; run = o.3 }));
    on = λ s j m above below r open' run.
        (let o = th.on s j m above below r open' run in
        let w = c.within.at o.2.id o.0 o.2.holds in
        (w.first, omega (arith, o.1, w.early), record { steps = o.2.steps; id = o.2.id; holds = w.holds; run = o.2.run }));
  }

  -- no thread comes to an end
  pub best_done : (new : Set) (p : ℕ × ℕ) (at : ℕ) → at ≤ i + 1 → AreThreads all text entry from at (i + 1) new (Some p) → ((j s : ℕ) → j ≤ length text → SetRuns all text j at new s → ⊥) → IsBest all text entry from (i + 1) (Some p) → i < length text → IsBest all text entry from (length text + 1) (Some p)
  best_done new p at near th empty b inside = (
    b.0,
    b.1,
    omega (arith, b.2),
    b.3,
    b.4,
    λ s j m above below run. elim (cases_lt j (i + 1)) [
      | inl before ↦ b.5 s j m above before run
      | inr later ↦ elim (cases_lt p.0 s) [
        | inl past ↦ (omega arith, λ e. absurd (omega arith))
        | inr open' ↦ (let o = th.on s j m above (omega (arith, b.2, b.3)) (omega (arith, later, near)) open' run in absurd (empty j o.0 (omega (arith, below)) o.2))
      ]
    ],
  )

module _ (all : List Node) (text : List ℕ) (entry from i : ℕ) (first last : Bool) (is : IsAt text i first last) where
  -- a run that ends here from an open start is accepted here
  accepts_here : (set : Set) (best : Option (ℕ × ℕ)) (s m : ℕ) → AreThreads all text entry from i (i + 1) set best → IsClosedFrom all first last 0 set → from ≤ s → IsOpen best s → Runs all text i m entry s → AcceptsBy all set s
  accepts_here set best s m th cl above open' run =
      let le = runs_le all text i m entry s run in
      let o = th.on s i m above (omega (arith, le)) (omega arith) open' run in
      let a = ends_in all text i first last set is th.len cl o.2.steps o.2.id o.0 o.2.holds o.2.run in
      record { first = a.first; early = omega (arith, a.early, o.1); id = a.id; holds = a.holds; accepts = a.accepts }

  within_all : (set : Set) (k s : ℕ) → length set ≡ length all → slice_get all k ≡ Some nodes.Accept → k < length all
  within_all set k s len is = elim (cases_lt k (length all)) [ inl w ↦ w | inr past ↦ absurd (let e : None ≡ Some nodes.Accept = sym (slice_get_past all k past) ∙ is in cc) ]

  -- an accepted start is the start of a run that ends here
  accepted_run : (set : Set) (best : Option (ℕ × ℕ)) (k s : ℕ) → AreThreads all text entry from i (i + 1) set best → Holds set k s → slice_get all k ≡ Some nodes.Accept → (m : ℕ) × Runs all text i m entry s
  accepted_run set best k s th holds is = th.back i s (record { steps = 1; id = k; holds = holds; run = go all text i zero k i _ is refl })

  -- what ends here, or before
  here_or_before : (j : ℕ) → j < i + 1 → (j < i) ⊎ (j ≡ i)
  here_or_before j below = elim (cases_lt j i) [ inl l ↦ inl l | inr r ↦ inr (omega arith) ]

  at_end : (j m s : ℕ) → j ≡ i → Runs all text j m entry s → Runs all text i m entry s
  at_end j m s e run = let P : ℕ → Type 0 = λ x. Runs all text x m entry s in subst P e run

  pub best_none : (set : Set) (best : Option (ℕ × ℕ)) → AreThreads all text entry from i (i + 1) set best → IsClosedFrom all first last 0 set → IsAccepted all set (length all) None → IsBest all text entry from i best → IsBest all text entry from (i + 1) best
  best_none set None th cl acc b = λ s j m above below run. elim (here_or_before j below) [
    | inl before ↦ b s j m above before run
    | inr here ↦ (let a = accepts_here set None s m th cl above tt (at_end j m s here run) in acc a.id a.first (within_all set a.id a.first th.len a.accepts) a.holds a.accepts)
  ]
  best_none set (Some p) th cl acc b = (
    b.0,
    b.1,
    omega (arith, b.2),
    b.3,
    b.4,
    λ s j m above below run. elim (here_or_before j below) [
      | inl before ↦ b.5 s j m above before run
      | inr here ↦ elim (cases_lt p.0 s) [
        | inl later ↦ (omega arith, λ e. absurd (omega arith))
        | inr open' ↦ (let a = accepts_here set (Some p) s m th cl above open' (at_end j m s here run) in absurd (acc a.id a.first (within_all set a.id a.first th.len a.accepts) a.holds a.accepts))
      ]
    ],
  )

  pub best_first : (set : Set) (f : ℕ) → i ≤ length text → AreThreads all text entry from i (i + 1) set None → IsClosedFrom all first last 0 set → IsAccepted all set (length all) (Some f) → IsBest all text entry from i None → IsBest all text entry from (i + 1) (Some (f, i))
  best_first set f inside th cl acc b =
      let st = th.starts acc.0.0 f acc.0.1 in (
        st.0,
        omega (arith, st.1),
        omega arith,
        st.1,
        accepted_run set None acc.0.0 f th acc.0.1 acc.0.2,
        λ s j m above below run. elim (here_or_before j below) [
          | inl before ↦ absurd (b s j m above before run)
          | inr here ↦ (let a = accepts_here set None s m th cl above tt (at_end j m s here run) in let l = acc.1 a.id a.first (within_all set a.id a.first th.len a.accepts) a.holds a.accepts in (omega (arith, l, a.early), λ e. omega arith))
        ],
      )

  pub best_same : (set : Set) (p : ℕ × ℕ) (f : ℕ) → i ≤ length text → f ≤ p.0 → AreThreads all text entry from i (i + 1) set (Some p) → IsClosedFrom all first last 0 set → IsAccepted all set (length all) (Some f) → IsBest all text entry from i (Some p) → IsBest all text entry from (i + 1) (Some (f, i))
  best_same set p f inside le th cl acc b =
      let st = th.starts acc.0.0 f acc.0.1 in (
        st.0,
        omega (arith, st.1),
        omega arith,
        st.1,
        accepted_run set (Some p) acc.0.0 f th acc.0.1 acc.0.2,
        λ s j m above below run. elim (here_or_before j below) [
          | inl before ↦ (let l = b.5 s j m above before run in (omega (arith, l.0), λ e. omega arith))
          | inr here ↦ elim (cases_lt p.0 s) [
            | inl later ↦ (omega arith, λ e. omega arith)
            | inr open' ↦ (let a = accepts_here set (Some p) s m th cl above open' (at_end j m s here run) in let l = acc.1 a.id a.first (within_all set a.id a.first th.len a.accepts) a.holds a.accepts in (omega (arith, l, a.early), λ e. omega arith))
          ]
        ],
      )

  pub best_later : (set : Set) (p : ℕ × ℕ) (f : ℕ) → p.0 < f → AreThreads all text entry from i (i + 1) set (Some p) → IsClosedFrom all first last 0 set → IsAccepted all set (length all) (Some f) → IsBest all text entry from i (Some p) → IsBest all text entry from (i + 1) (Some p)
  best_later set p f more th cl acc b = (
    b.0,
    b.1,
    omega (arith, b.2),
    b.3,
    b.4,
    λ s j m above below run. elim (here_or_before j below) [
      | inl before ↦ b.5 s j m above before run
      | inr here ↦ elim (cases_lt p.0 s) [
        | inl later ↦ (omega arith, λ e. absurd (omega arith))
        | inr open' ↦ (let a = accepts_here set (Some p) s m th cl above open' (at_end j m s here run) in let l = acc.1 a.id a.first (within_all set a.id a.first th.len a.accepts) a.holds a.accepts in absurd (omega (arith, l, a.early)))
      ]
    ],
  )

  pub best_next : (set : Set) (best : Option (ℕ × ℕ)) (a : Option ℕ) → i ≤ length text → AreThreads all text entry from i (i + 1) set best → IsClosedFrom all first last 0 set → IsAccepted all set (length all) a → IsBest all text entry from i best → IsBest all text entry from (i + 1) (better_of a i best)
  best_next set best None inside th cl acc b = best_none set best th cl acc b
  best_next set None (Some f) inside th cl acc b = best_first set f inside th cl acc b
  best_next set (Some p) (Some f) inside th cl acc b = by (nat_le f p.0) refl
    where
      by : (x : Bool) → nat_le f p.0 ≡ x → IsBest all text entry from (i + 1) (cond x (Some (f, i)) (Some p))
      by true e = best_same set p f inside (leb-true f p.0 e) th cl acc b
      by false e = best_later set p f (leb-false f p.0 e) th cl acc b

  -- fewer starts are open with a better match
  opens : (best : Option (ℕ × ℕ)) (a : Option ℕ) (s : ℕ) → IsOpen (better_of a i best) s → IsOpen best s
  opens None a s h = tt
  opens (Some p) None s h = h
  opens (Some p) (Some f) s h = by (nat_le f p.0) refl h
    where
      by : (x : Bool) → nat_le f p.0 ≡ x → IsOpen (cond x (Some (f, i)) (Some p)) s → s ≤ p.0
      by true e h = (let l = leb-true f p.0 e in omega (arith, l, h))
      by false e h = h

  pub settled : (set : Set) (best : Option (ℕ × ℕ)) (a : Option ℕ) → i ≤ length text → AreThreads all text entry from i (i + 1) set best → IsClosedFrom all first last 0 set → IsAccepted all set (length all) a → IsBest all text entry from i best → IsSettled all text entry from i first last set (better_of a i best)
  settled set best a inside th cl acc b = record {
    threads = record {
      len = th.len;
      starts = th.starts;
      back = th.back;
      on = λ s j m above below r open' run. th.on s j m above below r (opens best a s open') run;
    };
    best = best_next set best a inside th cl acc b;
    closed = cl;
  }

  -- on to the next place
  pub threads_step : (set new : Set) (best : Option (ℕ × ℕ)) (byte : ℕ) → slice_get text i ≡ Some byte → IsSettled all text entry from i first last set best → IsStepped all byte (length all) set new → AreThreads all text entry from (i + 1) (i + 1) new best
  threads_step set new best byte here h st = record {
    len = st.len;
    starts = λ id s holds. (let o = st.only id s holds in let b = h.threads.starts o.0 s o.1 in (b.0, omega (arith, b.1)));
    back = λ j s r. h.threads.back j s (step_back all text j i byte set new s here st r);
    on = λ s j m above below r open' run.
        (let o = h.threads.on s j m above below (omega arith) open' run in
        let n = step_on all text j i byte first last set new is here (omega arith) h.threads.len h.closed st o.0 o.2 in
        (n.first, omega (arith, o.1, n.early), n.runs));
  }
