-- What holds of threads with numbered starts holds of them with the starts in place of the numbers.
use Rattle.std.proofs.Common.{◌≡◌, ℕ, zero, suc, ◌<◌, ◌≤◌, inl, inr, Bool, true, false, cond, List, [], ◌∷◌, Option, Some, None, refl, sym, ap, ◌∙◌, subst, arith, nat_le}
use Rattle.std.specs.Prelude.{slice_get}
use Rattle.std.proofs.lemmas.Bool.{cases_lt, leb-true, leb-false}
use Rattle.ere_match.specs.declared.node.Node.{Node}
use Rattle.ere_match.specs.Threads.{Holds, HoldsBy, IsAccepted, IsClosedFrom, IsClosure, IsSeeded, IsStepped}
use Rattle.ere_match.specs.Rows.{IsIncreasing, cut, spread, started_with}
use Rattle.ere_match.proofs.Ranks.{length_cut, length_spread}

abbrev Set : Type 0
Set = List (Option ℕ)

abbrev pub AreBelow : ℕ → Set → Type 0
AreBelow c xs = (id s : ℕ) → Holds xs id s → s < c

some_is : (a b : ℕ) → Some (Some a) ≡ Some (Some b) → a ≡ b
some_is a b e = cc

holds_at : (f : ℕ → ℕ) (xs : Set) (id s : ℕ) → slice_get xs id ≡ Some (Some s) → slice_get (spread f xs) id ≡ Some (Some (f s))
holds_at f [] id s e = absurd cc
holds_at f (None ∷ xs) zero s e = absurd cc
holds_at f (Some n ∷ xs) zero s e = ap (λ m. Some (Some (f m))) (some_is n s e)
holds_at f (None ∷ xs) (suc id) s e = holds_at f xs id s e
holds_at f (Some n ∷ xs) (suc id) s e = holds_at f xs id s e

pub holds_spread : (f : ℕ → ℕ) (xs : Set) (id s : ℕ) → Holds xs id s → Holds (spread f xs) id (f s)
holds_spread f xs id s h = record { is = holds_at f xs id s h.is }

pub record Spread (f : ℕ → ℕ) (xs : Set) (id t : ℕ) : Type 0 where
  pub number : ℕ
  pub holds : Holds xs id number
  pub is : t ≡ f number

pub spread_holds : (f : ℕ → ℕ) (xs : Set) (id t : ℕ) → Holds (spread f xs) id t → Spread f xs id t
spread_holds f [] id t h = absurd (let e = h.is in cc)
spread_holds f (None ∷ xs) zero t h = absurd (let e = h.is in cc)
spread_holds f (Some n ∷ xs) zero t h = record { number = n; holds = record { is = refl }; is = sym (some_is (f n) t h.is) }
spread_holds f (None ∷ xs) (suc id) t h = (let o = spread_holds f xs id t (record { is = h.is }) in record { number = o.number; holds = record { is = o.holds.is }; is = o.is })
spread_holds f (Some n ∷ xs) (suc id) t h = (let o = spread_holds f xs id t (record { is = h.is }) in record { number = o.number; holds = record { is = o.holds.is }; is = o.is })

pub spread_spread : (f g : ℕ → ℕ) (xs : Set) → spread f (spread g xs) ≡ spread (λ k. f (g k)) xs
spread_spread f g [] = refl
spread_spread f g (None ∷ xs) = ap (λ (ys : Set). None ∷ ys) (spread_spread f g xs)
spread_spread f g (Some n ∷ xs) = ap (λ (ys : Set). Some (f (g n)) ∷ ys) (spread_spread f g xs)

pub spread_same : (f g : ℕ → ℕ) (xs : Set) → ((id s : ℕ) → Holds xs id s → f s ≡ g s) → spread f xs ≡ spread g xs
spread_same f g [] h = refl
spread_same f g (None ∷ xs) h = ap (λ (ys : Set). None ∷ ys) (spread_same f g xs (λ id s holds. h (suc id) s (record { is = holds.is })))
spread_same f g (Some n ∷ xs) h =
    let rest : spread f xs ≡ spread g xs = spread_same f g xs (λ id s holds. h (suc id) s (record { is = holds.is })) in
    ap (λ (ys : Set). Some (f n) ∷ ys) rest ∙ ap (λ m. Some m ∷ spread g xs) (h zero n (record { is = refl }))

module _ (c : ℕ) (f : ℕ → ℕ) (inc : IsIncreasing c f) where
  up : (a b : ℕ) → a ≤ b → b < c → f a ≤ f b
  up a b le below = elim (cases_lt a b) [
    | inl less ↦ (let x = inc.up a b less below in omega (arith, x))
    | inr not ↦ (let e : a ≡ b = omega arith in omega (arith, ap f e))
  ]

  pub down : (a b : ℕ) → a < c → f a ≤ f b → a ≤ b
  down a b below le = elim (cases_lt b a) [ inl less ↦ absurd (let x = inc.up b a less below in omega (arith, x)) | inr not ↦ not ]

  by_spread : (xs : Set) (id s t : ℕ) → s < c → t ≡ f s → HoldsBy xs id s → HoldsBy (spread f xs) id t
  by_spread xs id s t below e h = record { first = f h.first; early = (let x = up h.first s h.early below in omega (arith, x, e)); holds = holds_spread f xs id h.first h.holds }

  pub closed_spread : (all : List Node) (first last : Bool) (n : ℕ) (xs : Set) → AreBelow c xs → IsClosedFrom all first last n xs → IsClosedFrom all first last n (spread f xs)
  closed_spread all first last n xs few closed = record {
    at = λ id above below to t holds leads small.
        (let o = spread_holds f xs id t holds in
        let l = length_spread f xs in
        by_spread xs to o.number t (few id o.number o.holds) o.is (closed.at id above (omega (arith, below, l)) to o.number o.holds leads (omega (arith, small, l))));
  }

  pub closed_back : (all : List Node) (first last : Bool) (n : ℕ) (xs : Set) → AreBelow c xs → IsClosedFrom all first last n (spread f xs) → IsClosedFrom all first last n xs
  closed_back all first last n xs few closed = record {
    at = λ id above below to s holds leads small.
        (let l = length_spread f xs in
        let h = closed.at id above (omega (arith, below, l)) to (f s) (holds_spread f xs id s holds) leads (omega (arith, small, l)) in
        let o = spread_holds f xs to h.first h.holds in
        record { first = o.number; early = down o.number s (few to o.number o.holds) (omega (arith, h.early, o.is)); holds = o.holds });
  }

  pub stepped_spread : (all : List Node) (byte n : ℕ) (set new : Set) → AreBelow c set → IsStepped all byte n set new → IsStepped all byte n (spread f set) (spread f new)
  stepped_spread all byte n set new few st = record {
    len = length_spread f new ∙ st.len;
    into = λ id to t below holds takes small. (let o = spread_holds f set id t holds in by_spread new to o.number t (few id o.number o.holds) o.is (st.into id to o.number below o.holds takes small));
    only = λ to t holds. (let o = spread_holds f new to t holds in let k = st.only to o.number o.holds in (k.0, subst (λ u. Holds (spread f set) k.0 u) (sym o.is) (holds_spread f set k.0 o.number k.1), k.2));
  }

  pub seeded_spread : (entry n : ℕ) (old new : Set) → n < c → AreBelow c old → IsSeeded entry n old new → IsSeeded entry (f n) (spread f old) (spread f new)
  seeded_spread entry n old new below few s = record {
    len = length_spread f new ∙ s.len ∙ sym (length_spread f old);
    within = record { at = λ id t holds. (let o = spread_holds f old id t holds in by_spread new id o.number t (few id o.number o.holds) o.is (s.within.at id o.number o.holds)) };
    here = λ inside. by_spread new entry n (f n) below refl (s.here (omega (arith, inside, length_spread f old)));
    only = λ id t holds. (let o = spread_holds f new id t holds in elim (s.only id o.number o.holds) [
      | inl older ↦ inl (subst (λ u. Holds (spread f old) id u) (sym o.is) (holds_spread f old id o.number older))
      | inr is ↦ inr (is.0, o.is ∙ ap f is.1)
    ]);
  }

  pub closure_spread : (all : List Node) (first last : Bool) (old new : Set) → AreBelow c old → AreBelow c new → IsClosure all first last old new → IsClosure all first last (spread f old) (spread f new)
  closure_spread all first last old new few few' k = record {
    len = length_spread f new ∙ k.len ∙ sym (length_spread f old);
    within = record { at = λ id t holds. (let o = spread_holds f old id t holds in by_spread new id o.number t (few id o.number o.holds) o.is (k.within.at id o.number o.holds)) };
    from = record {
      at = λ text i is j n id t holds run.
          (let o = spread_holds f new id t holds in
          let b = k.from.at text i is j n id o.number o.holds run in
          (b.0, b.1, subst (λ u. Holds (spread f old) b.1 u) (sym o.is) (holds_spread f old b.1 o.number b.2), b.3));
    };
    starts = record {
      at = λ id t holds.
          (let o = spread_holds f new id t holds in
          let b = k.starts.at id o.number o.holds in
          (b.0, subst (λ u. Holds (spread f old) b.0 u) (sym o.is) (holds_spread f old b.0 o.number b.1)));
    };
    closed = closed_spread all first last 0 new few' k.closed;
  }

  pub accepted_spread : (all : List Node) (n : ℕ) (xs : Set) (o : Option ℕ) → AreBelow c xs → IsAccepted all xs n o → IsAccepted all (spread f xs) n (started_with f o)
  accepted_spread all n xs None few a = λ id t below holds is. (let o = spread_holds f xs id t holds in a id o.number below o.holds is)
  accepted_spread all n xs (Some k) few a = (
    (a.0.0, holds_spread f xs a.0.0 k a.0.1, a.0.2),
    λ id t below holds is. (let o = spread_holds f xs id t holds in let l = up k o.number (a.1 id o.number below o.holds is) (few id o.number o.holds) in omega (arith, l, o.is)),
  )

-- ---- cut

cut_at : (limit : ℕ) (xs : Set) (id s : ℕ) → Holds xs id s → s ≤ limit → Holds (cut limit xs) id s
cut_at limit [] id s h le = absurd (let e = h.is in cc)
cut_at limit (None ∷ xs) zero s h le = absurd (let e = h.is in cc)
cut_at limit (Some n ∷ xs) zero s h le = by (some_is n s h.is) (nat_le n limit) refl
  where
    by : n ≡ s → (b : Bool) → nat_le n limit ≡ b → Holds (cond b (Some n) None ∷ cut limit xs) zero s
    by e true q = record { is = ap (λ m. Some (Some m)) e }
    by e false q = absurd (let l = leb-false n limit q in omega (arith, l, le, e))
cut_at limit (None ∷ xs) (suc id) s h le = record { is = (cut_at limit xs id s (record { is = h.is }) le).is }
cut_at limit (Some n ∷ xs) (suc id) s h le = record { is = (cut_at limit xs id s (record { is = h.is }) le).is }

pub holds_cut : (limit : ℕ) (xs : Set) (id s : ℕ) → Holds xs id s → s ≤ limit → Holds (cut limit xs) id s
holds_cut limit xs id s h le = cut_at limit xs id s h le

pub cut_holds : (limit : ℕ) (xs : Set) (id s : ℕ) → Holds (cut limit xs) id s → Holds xs id s × (s ≤ limit)
cut_holds limit [] id s h = absurd (let e = h.is in cc)
cut_holds limit (None ∷ xs) zero s h = absurd (let e = h.is in cc)
cut_holds limit (Some n ∷ xs) zero s h = by (nat_le n limit) refl h
  where
    by : (b : Bool) → nat_le n limit ≡ b → Holds (cond b (Some n) None ∷ cut limit xs) zero s → Holds (Some n ∷ xs) zero s × (s ≤ limit)
    by true q k = (record { is = k.is }, (let l = leb-true n limit q in let e = some_is n s k.is in omega (arith, l, e)))
    by false q k = absurd (let e = k.is in cc)
cut_holds limit (None ∷ xs) (suc id) s h = (let o = cut_holds limit xs id s (record { is = h.is }) in (record { is = o.0.is }, o.1))
cut_holds limit (Some n ∷ xs) (suc id) s h = (let o = cut_holds limit xs id s (record { is = h.is }) in (record { is = o.0.is }, o.1))

pub closed_cut : (all : List Node) (first last : Bool) (n limit : ℕ) (xs : Set) → IsClosedFrom all first last n xs → IsClosedFrom all first last n (cut limit xs)
closed_cut all first last n limit xs closed = record {
  at = λ id above below to s holds leads small.
      (let o = cut_holds limit xs id s holds in
      let l = length_cut limit xs in
      let h = closed.at id above (omega (arith, below, l)) to s o.0 leads (omega (arith, small, l)) in
      record { first = h.first; early = h.early; holds = cut_at limit xs to h.first h.holds (omega (arith, h.early, o.1)) });
}
