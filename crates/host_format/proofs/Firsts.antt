-- First matches: there is one answer, and what lies before it.
use Rattle.std.proofs.Common.{◌≡◌, ◌⊎◌, inl, inr, ℕ, zero, suc, ◌+◌, ◌-◌, ◌<◌, ◌≤◌, true, false, List, length, Option, Some, None, refl, sym, ap, subst, ◌∙◌, arith}
use Rattle.std.specs.Prelude.{nat_lt, if◌then◌else◌, IfSome}
use Rattle.std.proofs.lemmas.Bool.{cases_lt}
use Rattle.std.proofs.lemmas.Bool.Decides.{nat_tests}
use Rattle.ere_syntax.specs.Matches.{Matches}
use Rattle.ere_syntax.specs.Tree.{Tree}
use Rattle.ere_syntax.proofs.Meaning.{matches_inside}
use Rattle.ere_syntax.specs.FirstMatch.{IsFirst, IsFirstMatch}
use Rattle.sem_primitives.specs.FirstMatch.{first_by, first_match, longest, or_next}
use Rattle.sem_primitives.proofs.Firsts.{first_match_is}
use Rattle.host_format.specs.Expressions.{IsFirstAt, IsFirstBy, not_empty, unless_empty}

same_pair : (p q : ℕ × ℕ) → p.0 ≡ q.0 → p.1 ≡ q.1 → p ≡ q
same_pair p q e f = ap (λ x. (x, p.1)) e ∙ ap (λ y. (q.0, y)) f

one_first : (t : Tree) (text : List ℕ) (from : ℕ) (p q : ℕ × ℕ) → IsFirst t text from p.0 p.1 → IsFirst t text from q.0 q.1 → p ≡ q
one_first t text from p q f g =
    let a = f.least q.0 q.1 g.above g.matches in
    let b = g.least p.0 p.1 f.above f.matches in
    let start : p.0 ≡ q.0 = omega (arith, a, b) in
    let c = f.greatest q.1 (subst (λ x. Matches t text x q.1) (sym start) g.matches) in
    let d = g.greatest p.1 (subst (λ x. Matches t text x p.1) start f.matches) in
    same_pair p q start (omega (arith, c, d))

-- a first match is the one that is computed
pub first_match_value : (t : Tree) (text : List ℕ) (from : ℕ) (a b : Option (ℕ × ℕ)) → IsFirstMatch t text from a → IsFirstMatch t text from b → a ≡ b
first_match_value t text from None None f g = refl
first_match_value t text from None (Some q) f g = absurd (f q.0 q.1 g.above g.matches)
first_match_value t text from (Some p) None f g = absurd (g p.0 p.1 f.above f.matches)
first_match_value t text from (Some p) (Some q) f g = ap (λ x. Some x) (one_first t text from p q f g)

pub computed_first : (t : Tree) (text : List ℕ) (from : ℕ) (a : Option (ℕ × ℕ)) → IsFirstMatch t text from a → a ≡ first_match t text from
computed_first t text from a f = first_match_value t text from a (first_match t text from) f (first_match_is t text from)

pub first_inside : (t : Tree) (text : List ℕ) (from : ℕ) (a : Option (ℕ × ℕ)) → IsFirstMatch t text from a → IfSome a (λ m. (from ≤ m.0) × (m.0 ≤ m.1) × (m.1 ≤ length text))
first_inside t text from None f = tt
first_inside t text from (Some p) f = let inside = matches_inside t text p.0 p.1 f.matches in (f.above, inside.0, inside.1)

-- Places that have an end, by their order.

same_or_less : (a b : ℕ) → a ≤ b → (a ≡ b) ⊎ (a < b)
same_or_less a b le = elim (cases_lt a b) [ inl l ↦ inr l | inr ge ↦ inl (omega (arith, le, ge)) ]

later : (end : ℕ → Option ℕ) (at size : ℕ) (r : Option (ℕ × ℕ)) → end at ≡ None → IsFirstBy end (at + 1) size r → IsFirstBy end at size r
later end at size None none f = λ k low high. elim (same_or_less at k low) [
  | inl e ↦ subst (λ x. end x ≡ None) e none
  | inr less ↦ f k (omega (arith, less)) high
]
later end at size (Some p) none f = record {
  low = (let le = f.low in omega (arith, le));
  high = f.high;
  is = f.is;
  before = λ k low high. elim (same_or_less at k low) [
    | inl e ↦ subst (λ x. end x ≡ None) e none
    | inr less ↦ f.before k (omega (arith, less)) high
  ];
}

next_by : (end : ℕ → Option ℕ) (at size : ℕ) (next : ℕ → Option (ℕ × ℕ)) (o : Option ℕ) → at < size → end at ≡ o → IsFirstBy end (at + 1) size (next (at + 1)) → IsFirstBy end at size (or_next o at next)
next_by end at size next (Some to) low e f = record { low = omega arith; high = low; is = e; before = λ k a b. absurd (omega (arith, a, b)) }
next_by end at size next None low e f = later end at size (next (at + 1)) e f

pub first_by_is : (end : ℕ → Option ℕ) (n at size : ℕ) → n + at ≡ size → IsFirstBy end at size (first_by end n at)
first_by_is end zero at size e = λ k low high. absurd (omega (arith, e, low, high))
first_by_is end (suc n) at size e = next_by end at size (first_by end n) (end at) (omega (arith, e)) refl (first_by_is end n (at + 1) size (omega (arith, e)))

-- what lies before a first match
pub first_facts : (t : Tree) (text : List ℕ) (from : ℕ) (r : Option (ℕ × ℕ)) → from ≤ length text → r ≡ first_match t text from → IsFirstBy (longest t text) from (length text + 1) r
first_facts t text from r low e =
    let sum : length text + 1 - from + from ≡ length text + 1 = omega (arith, low) in
    subst (λ x. IsFirstBy (longest t text) from (length text + 1) x) (sym e) (first_by_is (longest t text) (length text + 1 - from) from (length text + 1) sum)

pub some_first : (t : Tree) (text : List ℕ) (from s e : ℕ) (r : Option (ℕ × ℕ)) → from ≤ length text → r ≡ first_match t text from → r ≡ Some (s, e) → IsFirstAt (longest t text) from (length text + 1) s e
some_first t text from s e r low is some = subst (λ x. IsFirstBy (longest t text) from (length text + 1) x) some (first_facts t text from r low is)

pub none_first : (t : Tree) (text : List ℕ) (from : ℕ) (r : Option (ℕ × ℕ)) → from ≤ length text → r ≡ first_match t text from → r ≡ None → IsFirstBy (longest t text) from (length text + 1) None
none_first t text from r low is none = subst (λ x. IsFirstBy (longest t text) from (length text + 1) x) none (first_facts t text from r low is)

-- Matches that are not empty.

pub record NoneFrom (t : Tree) (text : List ℕ) (from to : ℕ) : Type 0 where
  pub none : (k : ℕ) → from ≤ k → k < to → not_empty t text k ≡ None

pub none_yet : (t : Tree) (text : List ℕ) (from : ℕ) → NoneFrom t text from from
none_yet t text from = record { none = λ k low high. absurd (omega (arith, low, high)) }

none_there : (t : Tree) (text : List ℕ) (k : ℕ) → longest t text k ≡ None → not_empty t text k ≡ None
none_there t text k e = ap (unless_empty k) e

less_by : (a b : ℕ) → a < b → nat_lt a b ≡ true
less_by a b h = grind (arith, nat_tests)

not_less_by : (a b : ℕ) → b ≤ a → nat_lt a b ≡ false
not_less_by a b h = grind (arith, nat_tests)

empty_there : (t : Tree) (text : List ℕ) (k e : ℕ) → longest t text k ≡ Some e → e ≤ k → not_empty t text k ≡ None
empty_there t text k e is le = ap (unless_empty k) is ∙ ap (λ b. if b then Some e else None) (not_less_by k e le)

some_there : (t : Tree) (text : List ℕ) (k e : ℕ) → longest t text k ≡ Some e → k < e → not_empty t text k ≡ Some e
some_there t text k e is less = ap (unless_empty k) is ∙ ap (λ b. if b then Some e else None) (less_by k e less)

skipped : (t : Tree) (text : List ℕ) (from at s e size : ℕ) → e ≤ s → NoneFrom t text from at → IsFirstAt (longest t text) at size s e → NoneFrom t text from (s + 1)
skipped t text from at s e size le before f = record {
  none = λ k low high. elim (cases_lt k at) [
    | inl less ↦ before.none k low less
    | inr not ↦ elim (same_or_less k s (omega (arith, high))) [
      | inl q ↦ subst (λ x. not_empty t text x ≡ None) (sym q) (empty_there t text s e f.is le)
      | inr less ↦ none_there t text k (f.before k not less)
    ]
  ];
}

taken : (t : Tree) (text : List ℕ) (from at s e size : ℕ) → s < e → e ≤ length text → from ≤ at → NoneFrom t text from at → IsFirstAt (longest t text) at size s e → IsFirstAt (not_empty t text) from (length text) s e
taken t text from at s e size less inside low before f = record {
  low = (let le = f.low in omega (arith, le, low));
  high = omega (arith, less, inside);
  is = some_there t text s e f.is less;
  before = λ k a b. elim (cases_lt k at) [
    | inl l ↦ before.none k a l
    | inr not ↦ none_there t text k (f.before k not b)
  ];
}

none_left : (t : Tree) (text : List ℕ) (from at : ℕ) → NoneFrom t text from at → IsFirstBy (longest t text) at (length text + 1) None → NoneFrom t text from (length text)
none_left t text from at before f = record {
  none = λ k low high. elim (cases_lt k at) [
    | inl less ↦ before.none k low less
    | inr not ↦ none_there t text k (f k not (omega (arith, high)))
  ];
}

-- Where a match lies, and what it says of those that are not empty.

abbrev pub MatchIn : ℕ → ℕ → Option (ℕ × ℕ) → Type 0
MatchIn from size found = IfSome found (λ m. (from ≤ m.0) × (m.0 ≤ m.1) × (m.1 ≤ size))

pub match_in : (from size s e : ℕ) (found : Option (ℕ × ℕ)) → found ≡ Some (s, e) → MatchIn from size found → (from ≤ s) × (s ≤ e) × (e ≤ size)
match_in from size s e found is inside = subst (MatchIn from size) is inside

pub full_in : (from at size s e : ℕ) (found : Option (ℕ × ℕ)) → found ≡ Some (s, e) → MatchIn at size found → from ≤ at → s < e → (from ≤ s) × (s + 1 ≤ e) × (e ≤ size)
full_in from at size s e found is inside low less = let m = match_in at size s e found is inside in (omega (arith, low, m.0), omega (arith, less), m.2)

pub next_in : (from at size s e : ℕ) (found : Option (ℕ × ℕ)) → found ≡ Some (s, e) → MatchIn at size found → from ≤ at → (s ≡ size → ⊥) → (from ≤ s + 1) × (s + 1 ≤ size)
next_in from at size s e found is inside low not = let m = match_in at size s e found is inside in (omega (arith, low, m.0), omega (arith, m.1, m.2, not))

module _ (t : Tree) (text : List ℕ) (from at : ℕ) (found : Option (ℕ × ℕ)) (high : at ≤ length text) (first : found ≡ first_match t text at) (before : NoneFrom t text from at) where
  pub taken_at : (s e : ℕ) → found ≡ Some (s, e) → MatchIn at (length text) found → from ≤ at → s < e → IsFirstBy (not_empty t text) from (length text) (Some (s, e))
  taken_at s e is inside low less =
      taken t text from at s e (length text + 1) less (match_in at (length text) s e found is inside).2 low before (some_first t text at s e found high first is)

  pub skipped_at : (s e : ℕ) → found ≡ Some (s, e) → e ≤ s → NoneFrom t text from (s + 1)
  skipped_at s e is le = skipped t text from at s e (length text + 1) le before (some_first t text at s e found high first is)

  pub none_behind : (s e : ℕ) → found ≡ Some (s, e) → e ≤ s → s ≡ length text → IsFirstBy (not_empty t text) from (length text) None
  none_behind s e is le end = λ k low less. (skipped_at s e is le).none k low (omega (arith, less, end))

  pub none_at : found ≡ None → IsFirstBy (not_empty t text) from (length text) None
  none_at is = (none_left t text from at before (none_first t text at found high first is)).none
