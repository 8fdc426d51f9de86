-- The next match to be replaced.
use Rattle.std.proofs.Common.{◌≡◌, inl, inr, ℕ, zero, suc, ◌+◌, ◌-◌, ◌<◌, ◌≤◌, Bool, true, false, List, [], ◌∷◌, length, Option, Some, None, refl, sym, ap, ◌∙◌, arith, eqb-true, eq-eqb}
use Rattle.std.specs.Prelude.{◌==◌, ◌&&◌, if◌then◌else◌, IfSome}
use Rattle.std.proofs.lemmas.Bool.{cases_Bool, false≢true}
use Rattle.ere_syntax.specs.Tree.{Tree}
use Rattle.sem_primitives.specs.FirstMatch.{first_by, first_match, longest}
use Rattle.sem_primitives.specs.TextMeaning.{behind, is_at, is_empty_at, places}
use Rattle.host_format.specs.Substitutions.{IsNextPlace}

abbrev First : Type 0
First = ℕ → Option (ℕ × ℕ)

abbrev cut : First → ℕ → Option ℕ → Option (ℕ × ℕ) → List (ℕ × ℕ)
cut first n last r = elim r [ None ↦ [] | Some p ↦ elim (is_empty_at last p) [ true ↦ places first n (behind p) last | false ↦ p ∷ places first n (behind p) (Some p.1) ] ]

none_there : (first : First) (n at : ℕ) (last : Option ℕ) → first at ≡ None → places first n at last ≡ []
none_there first zero at last e = refl
none_there first (suc n) at last e = ap (λ r. cut first n last r) e

taken : (first : First) (n at : ℕ) (last : Option ℕ) (p : ℕ × ℕ) → first at ≡ Some p → is_empty_at last p ≡ false → places first (suc n) at last ≡ p ∷ places first n (behind p) (Some p.1)
taken first n at last p e f =
    ap (λ r. cut first n last r) e
    ∙ ap (λ b. elim b [ true ↦ places first n (behind p) last | false ↦ p ∷ places first n (behind p) (Some p.1) ]) f

passed : (first : First) (n at : ℕ) (last : Option ℕ) (p : ℕ × ℕ) → first at ≡ Some p → is_empty_at last p ≡ true → places first (suc n) at last ≡ places first n (behind p) last
passed first n at last p e f =
    ap (λ r. cut first n last r) e
    ∙ ap (λ b. elim b [ true ↦ places first n (behind p) last | false ↦ p ∷ places first n (behind p) (Some p.1) ]) f

not_same : (a b : ℕ) → (a == b) ≡ false → a ≡ b → ⊥
not_same a b e same = false≢true (sym e ∙ eq-eqb a b same)

not_equal : (a b : ℕ) → a < b → (a == b) ≡ false
not_equal a b less = elim (cases_Bool (a == b)) [ inl held ↦ absurd (let e = eqb-true a b held in omega (arith, e, less)) | inr out ↦ out ]

pub behind_more : (p : ℕ × ℕ) → p.0 ≤ p.1 → p.0 + 1 ≤ behind p
behind_more p le = elim (cases_Bool (p.0 == p.1)) [
  | inl held ↦ (let e : behind p ≡ p.1 + 1 = ap (λ b. if b then p.1 + 1 else p.1) held in omega (arith, e, le))
  | inr out ↦ (let e : behind p ≡ p.1 = ap (λ b. if b then p.1 + 1 else p.1) out in omega (arith, e, le, not_same p.0 p.1 out))
]

pub behind_end : (p : ℕ × ℕ) → p.1 ≤ behind p
behind_end p = elim (cases_Bool (p.0 == p.1)) [
  | inl held ↦ (let e : behind p ≡ p.1 + 1 = ap (λ b. if b then p.1 + 1 else p.1) held in omega (arith, e))
  | inr out ↦ (let e : behind p ≡ p.1 = ap (λ b. if b then p.1 + 1 else p.1) out in omega (arith, e))
]

pub next_none : (t : Tree) (text : List ℕ) (at : ℕ) (last : Option ℕ) → first_match t text at ≡ None → IsNextPlace t text at last None
next_none t text at last e = λ n enough. none_there (first_match t text) n at last e

pub next_past : (t : Tree) (text : List ℕ) (at : ℕ) (last : Option ℕ) → length text < at → IsNextPlace t text at last None
next_past t text at last past =
    let none : length text + 1 - at ≡ 0 = omega (arith, past) in
    next_none t text at last (ap (λ n. first_by (longest t text) n at) none)

next_by : (t : Tree) (text : List ℕ) (at : ℕ) (last : Option ℕ) (p : ℕ × ℕ) (n : ℕ) → length text + 1 ≤ n + at → at ≤ length text → at ≤ p.0 → p.0 ≤ p.1 → first_match t text at ≡ Some p → is_empty_at last p ≡ false → (m : ℕ) × (length text + 1 ≤ m + behind p) × (places (first_match t text) n at last ≡ p ∷ places (first_match t text) m (behind p) (Some p.1))
next_by t text at last p zero enough low start order e f = absurd (omega (arith, enough, low))
next_by t text at last p (suc n) enough low start order e f =
    let more = behind_more p order in
    (n, omega (arith, enough, start, more), taken (first_match t text) n at last p e f)

pub next_some : (t : Tree) (text : List ℕ) (at : ℕ) (last : Option ℕ) (p : ℕ × ℕ) → at ≤ length text → at ≤ p.0 → p.0 ≤ p.1 → first_match t text at ≡ Some p → is_empty_at last p ≡ false → IsNextPlace t text at last (Some p)
next_some t text at last p low start order e f = λ n enough. next_by t text at last p n enough low start order e f

both : (a b : Bool) → (a && b) ≡ true → (a ≡ true) × (b ≡ true)
both true b e = (refl, e)
both false b e = (e, absurd (false≢true e))

later_by : (last : Option ℕ) (m n k : ℕ) → ((m == n) && is_at last m) ≡ true → m + 1 ≤ k → is_at last k ≡ false
later_by None m n k e le = refl
later_by (Some l) m n k e le =
    let same : l ≡ m = eqb-true l m (both (m == n) (l == m) e).1 in
    not_equal l k (omega (arith, same, le))

and_false : (a b : Bool) → b ≡ false → (a && b) ≡ false
and_false true b e = e
and_false false b e = refl

later_not : (last : Option ℕ) (p q : ℕ × ℕ) → is_empty_at last p ≡ true → p.0 + 1 ≤ q.0 → is_empty_at last q ≡ false
later_not last p q e le = and_false (q.0 == q.1) (is_at last q.0) (later_by last p.0 p.1 q.0 e le)

pub next_after : (t : Tree) (text : List ℕ) (p : ℕ × ℕ) (last : Option ℕ) (r : Option (ℕ × ℕ)) → p.0 + 1 ≤ length text → is_empty_at last p ≡ true → r ≡ first_match t text (p.0 + 1) → IfSome r (λ m. (p.0 + 1 ≤ m.0) × (m.0 ≤ m.1) × (m.1 ≤ length text)) → IsNextPlace t text (p.0 + 1) last r
next_after t text p last None low e found inside = next_none t text (p.0 + 1) last (sym found)
next_after t text p last (Some q) low e found inside = next_some t text (p.0 + 1) last q low inside.0 inside.1 (sym found) (later_not last p q e inside.0)

behind_empty : (last : Option ℕ) (p : ℕ × ℕ) → is_empty_at last p ≡ true → behind p ≡ p.0 + 1
behind_empty last p e =
    let held = (both (p.0 == p.1) (is_at last p.0) e).0 in
    ap (λ b. if b then p.1 + 1 else p.1) held ∙ ap (λ n. n + 1) (sym (eqb-true p.0 p.1 held))

skip_by : (t : Tree) (text : List ℕ) (at : ℕ) (last : Option ℕ) (p : ℕ × ℕ) (n : ℕ) → length text + 1 ≤ n + at → at ≤ p.0 → p.0 ≤ length text → first_match t text at ≡ Some p → is_empty_at last p ≡ true → (m : ℕ) × (length text + 1 ≤ m + (p.0 + 1)) × (places (first_match t text) n at last ≡ places (first_match t text) m (p.0 + 1) last)
skip_by t text at last p zero enough start low e f = absurd (omega (arith, enough, start, low))
skip_by t text at last p (suc n) enough start low e f =
    (n, omega (arith, enough, start), passed (first_match t text) n at last p e f ∙ ap (λ k. places (first_match t text) n k last) (behind_empty last p f))

pub next_skipped : (t : Tree) (text : List ℕ) (at : ℕ) (last : Option ℕ) (p : ℕ × ℕ) (r : Option (ℕ × ℕ)) → at ≤ p.0 → p.0 ≤ length text → first_match t text at ≡ Some p → is_empty_at last p ≡ true → IsNextPlace t text (p.0 + 1) last r → IsNextPlace t text at last r
next_skipped t text at last p None start low e f next = λ n enough.
    let s = skip_by t text at last p n enough start low e f in
    s.2 ∙ next s.0 s.1
next_skipped t text at last p (Some q) start low e f next = λ n enough.
    let s = skip_by t text at last p n enough start low e f in
    let r = next s.0 s.1 in
    (r.0, r.1, s.2 ∙ r.2)

pub behind_high : (p : ℕ × ℕ) → behind p ≤ p.1 + 1
behind_high p = elim (cases_Bool (p.0 == p.1)) [
  | inl held ↦ (let e : behind p ≡ p.1 + 1 = ap (λ b. if b then p.1 + 1 else p.1) held in omega (arith, e))
  | inr out ↦ (let e : behind p ≡ p.1 = ap (λ b. if b then p.1 + 1 else p.1) out in omega (arith, e))
]
