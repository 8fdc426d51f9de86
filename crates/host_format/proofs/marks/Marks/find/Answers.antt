use Rattle.std.proofs.Common.{◌≡◌, inl, inr, ℕ, ◌+◌, ◌-◌, ◌≤◌, Bool, List, drop, get_or, length, Some, None, sym, ap, subst, ◌∙◌, arith}
use Rattle.std.proofs.lemmas.Bool.{cases_lt}
use Rattle.std.proofs.lemmas.List.{get_or-drop, length-drop}
use Rattle.memchr.specs.Find.{IsFirstByte, Nowhere, Passes}
use Rattle.host_format.specs.Marks.{is_mark}
use Rattle.host_bytes.proofs.Rests.{rest_of}
use Rattle.host_format.proofs.marks.Marks.find.Goals as goal

abbrev Test : Type 0
Test = ℕ → Bool

at_rest : (xs : List ℕ) (near k : ℕ) → near ≤ k → get_or (drop near xs) (k - near) 0 ≡ get_or xs k 0
at_rest xs near k low =
    let same : near + (k - near) ≡ k = omega (arith, low) in
    get_or-drop near xs (k - near) 0 ∙ ap (λ n. get_or xs n 0) same

nowhere_yet : (test : Test) (xs : List ℕ) (near m : ℕ) → Nowhere (Passes test xs) 0 near → Nowhere (Passes test (drop near xs)) 0 m → Nowhere (Passes test xs) 0 (near + m)
nowhere_yet test xs near m a b = λ k low high p. elim (cases_lt k near) [
  | inl less ↦ a k low less p
  | inr not ↦ b (k - near) (omega arith) (omega (arith, high, not)) (ap test (at_rest xs near k not) ∙ p)
]

found_there : (test : Test) (xs : List ℕ) (near at : ℕ) → Nowhere (Passes test xs) 0 near → IsFirstByte test (drop near xs) (Some at) → IsFirstByte test xs (Some (near + at))
found_there test xs near at a h =
    let high = h.0.high in (
      record {
        low = omega arith;
        high = omega (arith, high, length-drop near xs);
        before = nowhere_yet test xs near at a h.0.before;
      },
      ap test (sym (get_or-drop near xs at 0)) ∙ h.1,
    )

found_nowhere : (test : Test) (xs : List ℕ) (near : ℕ) → near ≤ length xs → Nowhere (Passes test xs) 0 near → IsFirstByte test (drop near xs) None → IsFirstByte test xs None
found_nowhere test xs near within a h =
    let all : near + length (drop near xs) ≡ length xs = omega (arith, within, length-drop near xs) in
    subst (λ n. Nowhere (Passes test xs) 0 n) all (nowhere_yet test xs near (length (drop near xs)) a h)

pub returns-in-Some : goal.returns-in-Some
returns-in-Some c =
    let text = c.args.text.now in
    let near = c.min-near.result in
    let test = is_mark c.args.self in
    let same : c.loop-at.at ≡ near = (let least = c.loop-at-test.false in let most = c.loop-at.auto.at-end in omega (arith, least, most)) in
    found_there test text near c.in-Some.at (subst (λ n. Nowhere (Passes test text) 0 n) same c.loop-at.invariant)
    (subst (λ (xs : List ℕ). IsFirstByte test xs (Some c.in-Some.at)) (rest_of text near) c.in-Some.ensures)

pub returns-in-None : goal.returns-in-None
returns-in-None c =
    let text = c.args.text.now in
    let near = c.min-near.result in
    let test = is_mark c.args.self in
    let same : c.loop-at.at ≡ near = (let least = c.loop-at-test.false in let most = c.loop-at.auto.at-end in omega (arith, least, most)) in
    found_nowhere test text near (let e = c.min-near.ensures in omega (arith, e)) (subst (λ n. Nowhere (Passes test text) 0 n) same c.loop-at.invariant)
    (subst (λ (xs : List ℕ). IsFirstByte test xs None) (rest_of text near) c.in-None.ensures)
