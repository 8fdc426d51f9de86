-- Threads that are led on and over a byte in one pass.
use Rattle.std.proofs.Common.{◌≡◌, ℕ, ◌+◌, ◌<◌, ◌≤◌, inl, inr, List, length, Option, Some, sym, ◌∙◌, subst, arith}
use Rattle.std.specs.Prelude.{slice_get}
use Rattle.std.proofs.lemmas.Bool.{cases_lt}
use Rattle.std.proofs.lemmas.Option.{slice_get_past}
use Rattle.ere_match.specs.declared.node.Node.{Node}
use Rattle.ere_match.specs.Threads.{Holds, HoldsBy, IsAdvanced, IsKeptFrom, IsStepped, IsWithin, Takes}
use Rattle.ere_match.proofs.Marks.{within_by}

abbrev Set : Type 0
Set = List (Option ℕ)

-- next has what the threads at nodes not before n lead to by the byte
pub record IsSweptTo (all : List Node) (byte n : ℕ) (set next : Set) : Type 0 where
  pub len : length next ≡ length all
  pub into : (id to s : ℕ) → n ≤ id → Holds set id s → Takes byte (slice_get all id) to → to < length all → HoldsBy next to s
  pub only : (to s : ℕ) → Holds next to s → (id : ℕ) × (n ≤ id) × Holds set id s × Takes byte (slice_get all id) to

same_start : (set : Set) (id s t : ℕ) → Holds set id s → Holds set id t → s ≡ t
same_start set id s t one two = inner s t (sym one.is ∙ two.is)
  where
    inner : (a b : ℕ) → Some (Some a) ≡ Some (Some b) → a ≡ b
    inner a b e = cc

pub swept_none : (all : List Node) (byte n : ℕ) (set next : Set) → n ≡ length all → length next ≡ length all → ((id s : ℕ) → Holds next id s → ⊥) → IsSweptTo all byte n set next
swept_none all byte n set next at len empty = record {
  len = len;
  into = λ id to s above holds takes small. (let P : Option Node → Type 0 = λ o. Takes byte o to in absurd (subst P (slice_get_past all id (omega (arith, above, at))) takes));
  only = λ to s holds. absurd (empty to s holds);
}

pub swept_on : (all : List Node) (byte id n : ℕ) (old new next more : Set) → n ≡ id + 1 → IsWithin old new → IsKeptFrom id old new → IsAdvanced all byte id new next more → IsSweptTo all byte n old next → IsSweptTo all byte id new more
swept_on all byte id n old new next more is within kept ad sw = record {
  len = ad.len ∙ sw.len;
  into = λ k to s above holds takes small. elim (cases_lt id k) [
    | inl later ↦ within_by next more to s ad.within (sw.into k to s (omega (arith, later, is)) (kept.at k s above holds) takes small)
    | inr here ↦ (let e : k ≡ id = omega arith in ad.into to s (subst (λ m. Holds new m s) e holds) (subst (λ m. Takes byte (slice_get all m) to) e takes) small)
  ];
  only = λ to s holds. elim (ad.only to s holds) [
    | inl older ↦ (
        let o = sw.only to s older in
        let w = within.at o.0 s o.2 in
        let e = same_start old o.0 w.first s (kept.at o.0 w.first (omega (arith, o.1, is)) w.holds) o.2 in
        (o.0, omega (arith, o.1, is), subst (λ t. Holds new o.0 t) e w.holds, o.3))
    | inr now ↦ (id, omega arith, now.0, now.1)
  ];
}

pub swept_all : (all : List Node) (byte n : ℕ) (set next : Set) → n ≡ 0 → IsSweptTo all byte n set next → IsStepped all byte (length all) set next
swept_all all byte n set next at sw = record {
  len = sw.len;
  into = λ id to s below holds takes small. sw.into id to s (omega (arith, at)) holds takes small;
  only = λ to s holds. (let o = sw.only to s holds in (o.0, o.2, o.3));
}
