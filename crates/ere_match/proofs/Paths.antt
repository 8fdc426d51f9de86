-- Which relations nodes lead along.
use Rattle.std.proofs.Common.{◌≡◌, ℕ, zero, suc, ◌+◌, ◌≤◌, ◌⊎◌, inl, inr, true, List, length, Option, Some, None, refl, sym, subst, arith}
use Rattle.std.specs.Prelude.{slice_get}
use Rattle.std.proofs.lemmas.Option.{slice_get_within}
use Rattle.ere_syntax.specs.Matches.{Iterated, IsAllowed}
use Rattle.ere_match.specs.declared.node.Filter.{Filter}
use Rattle.ere_match.specs.declared.node.Node.{Node}
use Rattle.ere_match.specs.declared.node.Node.TheVariants as nodes
use Rattle.ere_match.specs.Runs.{Step, Runs, filter_set}
use Rattle.ere_match.specs.Means.{Back, Means}

pub go : (all : List Node) (text : List ℕ) (j n id i : ℕ) (o : Option Node) → slice_get all id ≡ o → Step (λ to k. Runs all text j n to k) text i j o → Runs all text j (suc n) id i
go all text j n id i o h s = let P : Option Node → Type 0 = λ x. Step (λ to k. Runs all text j n to k) text i j x in subst P (sym h) s

pub gone : (all : List Node) (text : List ℕ) (j n id i : ℕ) (o : Option Node) → slice_get all id ≡ o → Runs all text j (suc n) id i → Step (λ to k. Runs all text j n to k) text i j o
gone all text j n id i o h s = let P : Option Node → Type 0 = λ x. Step (λ to k. Runs all text j n to k) text i j x in subst P h s

moved : (all : List Node) (text : List ℕ) (j n id i k : ℕ) → i ≡ k → Runs all text j n id k → Runs all text j n id i
moved all text j n id i k e r = let P : ℕ → Type 0 = λ x. Runs all text j n id x in subst P (sym e) r

-- ---- relations of places

abbrev pub Same : List ℕ → ℕ → ℕ → Type 0
Same text i j = (i ≡ j) × (i ≤ length text)

abbrev pub Then : (ℕ → ℕ → Type 0) → (ℕ → ℕ → Type 0) → ℕ → ℕ → Type 0
Then R S i j = (k : ℕ) × R i k × S k j

abbrev pub Either : (ℕ → ℕ → Type 0) → (ℕ → ℕ → Type 0) → ℕ → ℕ → Type 0
Either R S i j = R i j ⊎ S i j

abbrev pub Often : (ℕ → ℕ → Type 0) → ℕ → Option ℕ → List ℕ → ℕ → ℕ → Type 0
Often R low high text i j = (n : ℕ) × IsAllowed low high n × Iterated R n i j × (i ≤ length text)

pub means_as : (all : List Node) (text : List ℕ) (R S : ℕ → ℕ → Type 0) (entry next : ℕ) → ((i j : ℕ) → R i j → S i j) → ((i j : ℕ) → S i j → R i j) → Means all text R entry next → Means all text S entry next
means_as all text R S entry next to from m = record {
  inside = λ i k s. m.inside i k (from i k s);
  forward = λ j i k n s r. m.forward j i k n (from i k s) r;
  backward = λ j i n le r. (let b = m.backward j i n le r in record { at = b.at; left = b.left; fewer = b.fewer; related = to i b.at b.related; run = b.run });
}

pub means_same : (all : List Node) (text : List ℕ) (next : ℕ) → Means all text (Same text) next next
means_same all text next = record {
  inside = λ i k s. omega (arith, s.0, s.1);
  forward = λ j i k n s r. (n, moved all text j n next i k s.0 r);
  backward = λ j i n le r. record { at = i; left = n; fewer = omega arith; related = (refl, le); run = r };
}

pub means_then : (all : List Node) (text : List ℕ) (R S : ℕ → ℕ → Type 0) (entry m next : ℕ) → Means all text R entry m → Means all text S m next → Means all text (Then R S) entry next
means_then all text R S entry m next f g = record {
  inside = λ i k s. g.inside s.0 k s.2;
  forward = λ j i k n s r. (let a = g.forward j s.0 k n s.2 r in f.forward j i s.0 a.0 s.1 a.1);
  backward = λ j i n le r.
      (let a = f.backward j i n le r in
      let b = g.backward j a.at a.left (f.inside i a.at a.related) a.run in
      record { at = b.at; left = b.left; fewer = omega (arith, a.fewer, b.fewer); related = (a.at, a.related, b.related); run = b.run });
}

pub means_take : (all : List Node) (text : List ℕ) (f : Filter) (entry next : ℕ) → slice_get all entry ≡ Some (nodes.Take f next) → Means all text (λ i j. (c : ℕ) × (slice_get text i ≡ Some c) × (slice_get (filter_set f) c ≡ Some true) × (i + 1 ≡ j)) entry next
means_take all text f entry next h = record {
  inside = λ i k s. (let w = slice_get_within text i s.0 s.1 in omega (arith, w, s.3));
  forward = λ j i k n s r. (suc n, go all text j n entry i _ h ((s.0, s.1, s.2), moved all text j n next (i + 1) k s.3 r));
  backward = λ j i n le r. by j i n r;
}
  where
    by : (j i n : ℕ) → Runs all text j n entry i → Back all text j (λ k. (c : ℕ) × (slice_get text i ≡ Some c) × (slice_get (filter_set f) c ≡ Some true) × (i + 1 ≡ k)) n next
    by j i zero r = absurd r
    by j i (suc n) r = (let s = gone all text j n entry i _ h r in record { at = i + 1; left = n; fewer = omega arith; related = (s.0.0, s.0.1, s.0.2, refl); run = s.1 })

pub means_start : (all : List Node) (text : List ℕ) (entry next : ℕ) → slice_get all entry ≡ Some (nodes.Start next) → Means all text (λ i j. (i ≡ 0) × (i ≡ j)) entry next
means_start all text entry next h = record {
  inside = λ i k s. omega (arith, s.0, s.1);
  forward = λ j i k n s r. (suc n, go all text j n entry i _ h (s.0, moved all text j n next i k s.1 r));
  backward = λ j i n le r. by j i n r;
}
  where
    by : (j i n : ℕ) → Runs all text j n entry i → Back all text j (λ k. (i ≡ 0) × (i ≡ k)) n next
    by j i zero r = absurd r
    by j i (suc n) r = (let s = gone all text j n entry i _ h r in record { at = i; left = n; fewer = omega arith; related = (s.0, refl); run = s.1 })

pub means_end : (all : List Node) (text : List ℕ) (entry next : ℕ) → slice_get all entry ≡ Some (nodes.End next) → Means all text (λ i j. (i ≡ length text) × (i ≡ j)) entry next
means_end all text entry next h = record {
  inside = λ i k s. omega (arith, s.0, s.1);
  forward = λ j i k n s r. (suc n, go all text j n entry i _ h (s.0, moved all text j n next i k s.1 r));
  backward = λ j i n le r. by j i n r;
}
  where
    by : (j i n : ℕ) → Runs all text j n entry i → Back all text j (λ k. (i ≡ length text) × (i ≡ k)) n next
    by j i zero r = absurd r
    by j i (suc n) r = (let s = gone all text j n entry i _ h r in record { at = i; left = n; fewer = omega arith; related = (s.0, refl); run = s.1 })

pub means_never : (all : List Node) (text : List ℕ) (R : ℕ → ℕ → Type 0) (entry next : ℕ) → slice_get all entry ≡ Some nodes.Never → ((i j : ℕ) → R i j → ⊥) → Means all text R entry next
means_never all text R entry next h none = record {
  inside = λ i k s. absurd (none i k s);
  forward = λ j i k n s r. absurd (none i k s);
  backward = λ j i n le r. by j i n r;
}
  where
    by : (j i n : ℕ) → Runs all text j n entry i → Back all text j (R i) n next
    by j i zero r = absurd r
    by j i (suc n) r = absurd (gone all text j n entry i _ h r)

pub means_either : (all : List Node) (text : List ℕ) (R S : ℕ → ℕ → Type 0) (entry x y next : ℕ) → slice_get all entry ≡ Some (nodes.Split x y) → Means all text R x next → Means all text S y next → Means all text (Either R S) entry next
means_either all text R S entry x y next h f g = record {
  inside = λ i k s. elim s [ inl a ↦ f.inside i k a | inr b ↦ g.inside i k b ];
  forward = λ j i k n s r. elim s [
    | inl a ↦ (let m = f.forward j i k n a r in (suc m.0, go all text j m.0 entry i _ h (inl m.1)))
    | inr b ↦ (let m = g.forward j i k n b r in (suc m.0, go all text j m.0 entry i _ h (inr m.1)))
  ];
  backward = λ j i n le r. by j i n le r;
}
  where
    by : (j i n : ℕ) → i ≤ length text → Runs all text j n entry i → Back all text j (λ k. R i k ⊎ S i k) n next
    by j i zero le r = absurd r
    by j i (suc n) le r = elim (gone all text j n entry i _ h r) [
      | inl a ↦ (let b = f.backward j i n le a in record { at = b.at; left = b.left; fewer = omega (arith, b.fewer); related = inl b.related; run = b.run })
      | inr a ↦ (let b = g.backward j i n le a in record { at = b.at; left = b.left; fewer = omega (arith, b.fewer); related = inr b.related; run = b.run })
    ]

-- both lead there already
pub means_both : (all : List Node) (text : List ℕ) (R S : ℕ → ℕ → Type 0) (entry next : ℕ) → Means all text R entry next → Means all text S entry next → Means all text (Either R S) entry next
means_both all text R S entry next f g = record {
  inside = λ i k s. elim s [ inl a ↦ f.inside i k a | inr b ↦ g.inside i k b ];
  forward = λ j i k n s r. elim s [ inl a ↦ f.forward j i k n a r | inr b ↦ g.forward j i k n b r ];
  backward = λ j i n le r. (let b = f.backward j i n le r in record { at = b.at; left = b.left; fewer = b.fewer; related = inl b.related; run = b.run });
}

-- ---- any number of turns

iterated_inside : (text : List ℕ) (R : ℕ → ℕ → Type 0) → ((i k : ℕ) → R i k → k ≤ length text) → (n i j : ℕ) → i ≤ length text → Iterated R n i j → j ≤ length text
iterated_inside text R h zero i j le e = omega (arith, e)
iterated_inside text R h (suc n) i j le s = iterated_inside text R h n s.0 j (h i s.0 s.1) s.2

star_forward : (all : List Node) (text : List ℕ) (R : ℕ → ℕ → Type 0) (entry next x : ℕ) → slice_get all entry ≡ Some (nodes.Split x next) → Means all text R x entry → (j c i k n : ℕ) → Iterated R c i k → Runs all text j n next k → (m : ℕ) × Runs all text j m entry i
star_forward all text R entry next x h body j zero i k n it r = (suc n, go all text j n entry i _ h (inr (moved all text j n next i k it r)))
star_forward all text R entry next x h body j (suc c) i k n it r =
    let rest = star_forward all text R entry next x h body j c it.0 k n it.2 r in
    let first = body.forward j i it.0 rest.0 it.1 rest.1 in
    (suc first.0, go all text j first.0 entry i _ h (inl first.1))

star_backward : (all : List Node) (text : List ℕ) (R : ℕ → ℕ → Type 0) (entry next x : ℕ) → slice_get all entry ≡ Some (nodes.Split x next) → Means all text R x entry → (j f n i : ℕ) → n ≤ f → i ≤ length text → Runs all text j n entry i → Back all text j (λ k. (c : ℕ) × Iterated R c i k) n next
star_backward all text R entry next x h body j f zero i le inside r = absurd r
star_backward all text R entry next x h body j zero (suc n) i le inside r = absurd (omega arith)
star_backward all text R entry next x h body j (suc f) (suc n) i le inside r = elim (gone all text j n entry i _ h r) [
  | inl a ↦ (
      let first = body.backward j i n inside a in
      let few : first.left ≤ f = omega (arith, first.fewer) in
      let rest = star_backward all text R entry next x h body j f first.left first.at few (body.inside i first.at first.related) first.run in
      record { at = rest.at; left = rest.left; fewer = omega (arith, first.fewer, rest.fewer); related = (suc rest.related.0, (first.at, first.related, rest.related.1)); run = rest.run })
  | inr past ↦ record { at = i; left = n; fewer = omega arith; related = (zero, refl); run = past }
]

pub means_star : (all : List Node) (text : List ℕ) (R : ℕ → ℕ → Type 0) (entry next x : ℕ) → slice_get all entry ≡ Some (nodes.Split x next) → Means all text R x entry → Means all text (Often R 0 None text) entry next
means_star all text R entry next x h body = record {
  inside = λ i k s. iterated_inside text R body.inside s.0 i k s.3 s.2;
  forward = λ j i k n s r. star_forward all text R entry next x h body j s.0 i k n s.2 r;
  backward = λ j i n le r. (let b = star_backward all text R entry next x h body j n n i (omega arith) le r in record { at = b.at; left = b.left; fewer = b.fewer; related = (b.related.0, omega arith, b.related.1, le); run = b.run });
}

-- ---- a body that leads along its relation everywhere, without a node

everywhere_forward : (all : List Node) (text : List ℕ) (R : ℕ → ℕ → Type 0) (entry : ℕ) → Means all text R entry entry → (j c i k n : ℕ) → Iterated R c i k → Runs all text j n entry k → (m : ℕ) × Runs all text j m entry i
everywhere_forward all text R entry body j zero i k n it r = (n, moved all text j n entry i k it r)
everywhere_forward all text R entry body j (suc c) i k n it r =
    let rest = everywhere_forward all text R entry body j c it.0 k n it.2 r in
    body.forward j i it.0 rest.0 it.1 rest.1

everywhere_backward : (all : List Node) (text : List ℕ) (R : ℕ → ℕ → Type 0) (entry : ℕ) → Means all text R entry entry → (j c i n : ℕ) → i ≤ length text → Runs all text j n entry i → Back all text j (λ k. Iterated R c i k) n entry
everywhere_backward all text R entry body j zero i n le r = record { at = i; left = n; fewer = omega arith; related = refl; run = r }
everywhere_backward all text R entry body j (suc c) i n le r =
    let first = body.backward j i n le r in
    let rest = everywhere_backward all text R entry body j c first.at first.left (body.inside i first.at first.related) first.run in
    record { at = rest.at; left = rest.left; fewer = omega (arith, first.fewer, rest.fewer); related = (first.at, first.related, rest.related); run = rest.run }

-- so many turns of it, where so many are allowed
pub means_turns : (all : List Node) (text : List ℕ) (R : ℕ → ℕ → Type 0) (entry low : ℕ) (high : Option ℕ) → IsAllowed low high low → Means all text R entry entry → Means all text (Often R low high text) entry entry
means_turns all text R entry low high allowed body = record {
  inside = λ i k s. iterated_inside text R body.inside s.0 i k s.3 s.2;
  forward = λ j i k n s r. everywhere_forward all text R entry body j s.0 i k n s.2 r;
  backward = λ j i n le r. (let b = everywhere_backward all text R entry body j low i n le r in record { at = b.at; left = b.left; fewer = b.fewer; related = (low, allowed, b.related, le); run = b.run });
}
