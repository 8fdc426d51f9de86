-- The first place on each line, with one more place.
use Rattle.std.proofs.Common.{◌≡◌, ℕ, ◌<◌, ◌≤◌, Bool, true, false, List, [], ◌∷◌, ◌++◌, Option, Some, None, append_assoc, refl, sym, ap, ◌∙◌, subst, arith}
use Rattle.std.specs.Prelude.{if◌then◌else◌, nat_eq, nat_le}
use Rattle.std.specs.List.{All}
use Rattle.std.proofs.lemmas.Bool.Decides.{nat_tests}
use Rattle.std.proofs.lemmas.List.Elements.{All-append, All-cons, All-nil, All-push, All-weaker}
use Rattle.awk_tokens.specs.Cutting.{Spelled}
use Rattle.run_report.specs.declared.counts.PlaceCount.{PlaceCount}
use Rattle.awk_tree.specs.Lines.{line_at}
use Rattle.run_report.specs.CountTexts.{at_line}
use Rattle.script_places.specs.Passes.{AreFirsts, BeginsOn, IsFirst, IsFirstOf}
use Rattle.script_places.specs.Tallies.{earlier_of}

module _ (tokens : List Spelled) (n : ℕ) where
  -- the first one stays
  kept : (places : List PlaceCount) (p first : PlaceCount) → (BeginsOn tokens n p → first.before ≤ p.before) → IsFirst tokens places n first → IsFirst tokens (places ++ p ∷ []) n first
  kept places p first later is = record {
    earlier = is.earlier;
    later = is.later ++ p ∷ [];
    among = ap (λ (ps : List PlaceCount). ps ++ p ∷ []) is.among ∙ append_assoc is.earlier (first ∷ is.later) (p ∷ []);
    begins = is.begins;
    before = is.before;
    after = All-push (λ q. BeginsOn tokens n q → first.before ≤ q.before) is.later p is.after later;
  }

  -- the new one comes before all others
  taken : (places : List PlaceCount) (p : PlaceCount) → BeginsOn tokens n p → All (λ q. BeginsOn tokens n q → p.before < q.before) places → IsFirst tokens (places ++ p ∷ []) n p
  taken places p on before = record {
    earlier = places;
    later = [];
    among = refl;
    begins = on;
    before = before;
    after = All-nil (λ q. BeginsOn tokens n q → p.before ≤ q.before);
  }

  replaced : (places : List PlaceCount) (p first : PlaceCount) → p.before < first.before → IsFirst tokens places n first → All (λ q. BeginsOn tokens n q → p.before < q.before) places
  replaced places p first lt is =
      let P = λ (q : PlaceCount). BeginsOn tokens n q → p.before < q.before in
      let earlier = All-weaker (λ q. BeginsOn tokens n q → first.before < q.before) P (λ q h on. let k = h on in omega (arith, k, lt)) is.earlier is.before in
      let later = All-weaker (λ q. BeginsOn tokens n q → first.before ≤ q.before) P (λ q h on. let k = h on in omega (arith, k, lt)) is.later is.after in
      subst (All P) (sym is.among) (All-append P is.earlier (first ∷ is.later) earlier (All-cons P first is.later (λ on. lt) later))

  -- one more place on the line
  pub first_more : (places : List PlaceCount) (o : Option PlaceCount) (p : PlaceCount) → IsFirstOf tokens places n o → BeginsOn tokens n p
      → IsFirstOf tokens (places ++ p ∷ []) n (Some (earlier_of o p))
  first_more places None p is on =
      taken places p on (All-weaker (λ q. BeginsOn tokens n q → ⊥) (λ q. BeginsOn tokens n q → p.before < q.before) (λ q h k. absurd (h k)) places is)
  first_more places (Some first) p is on = by (nat_le first.before p.before) refl
    where
      by : (b : Bool) → nat_le first.before p.before ≡ b → IsFirst tokens (places ++ p ∷ []) n (if b then first else p)
      by true e = let le : first.before ≤ p.before = grind (arith, nat_tests, e) in kept places p first (λ k. le) is
      by false e = let lt : p.before < first.before = grind (arith, nat_tests, e) in taken places p on (replaced places p first lt is)

  -- one more place that does not begin on it
  pub other_more : (places : List PlaceCount) (o : Option PlaceCount) (p : PlaceCount) → IsFirstOf tokens places n o → (BeginsOn tokens n p → ⊥)
      → IsFirstOf tokens (places ++ p ∷ []) n o
  other_more places None p is off = All-push (λ q. BeginsOn tokens n q → ⊥) places p is off
  other_more places (Some first) p is off = kept places p first (λ on. absurd (off on)) is

-- a place on a line
pub added : (tokens : List Spelled) (places : List PlaceCount) (lines after : List (Option PlaceCount)) (p : PlaceCount) (line : ℕ) → line_at tokens (Some p.before) ≡ Some line
    → ((n : ℕ) → at_line after n ≡ (if nat_eq n line then Some (earlier_of (at_line lines n) p) else at_line lines n)) → AreFirsts tokens places lines
    → AreFirsts tokens (places ++ p ∷ []) after
added tokens places lines after p line on is are = λ n. by n (nat_eq n line) refl
  where
    by : (n : ℕ) (b : Bool) → nat_eq n line ≡ b → IsFirstOf tokens (places ++ p ∷ []) n (at_line after n)
    by n true e =
        let same : n ≡ line = grind (arith, nat_tests, e) in
        let found : at_line after n ≡ Some (earlier_of (at_line lines n) p) = is n ∙ ap (λ (b : Bool). if b then Some (earlier_of (at_line lines n) p) else at_line lines n) e in
        subst (IsFirstOf tokens (places ++ p ∷ []) n) (sym found) (first_more tokens n places (at_line lines n) p (are n) (on ∙ ap (λ (m : ℕ). Some m) (sym same)))
    by n false e =
        let found : at_line after n ≡ at_line lines n = is n ∙ ap (λ (b : Bool). if b then Some (earlier_of (at_line lines n) p) else at_line lines n) e in
        subst (IsFirstOf tokens (places ++ p ∷ []) n) (sym found) (other_more tokens n places (at_line lines n) p (are n) (λ here. off n e (sym here ∙ on)))
      where
        off : (n : ℕ) → nat_eq n line ≡ false → Some n ≡ Some line → ⊥
        off n e q = let same : n ≡ line = cc in absurd (grind (arith, nat_tests, same, e))

-- a place on no line
pub unplaced : (tokens : List Spelled) (places : List PlaceCount) (lines : List (Option PlaceCount)) (p : PlaceCount) → line_at tokens (Some p.before) ≡ None → AreFirsts tokens places lines
    → AreFirsts tokens (places ++ p ∷ []) lines
unplaced tokens places lines p none are = λ n. other_more tokens n places (at_line lines n) p (are n) (λ here. let both : Some n ≡ None = sym here ∙ none in cc)
