-- What a replacement stands for, and the text that is put together.
use Rattle.std.proofs.Common.{◌≡◌, inl, inr, ℕ, ◌+◌, ◌-◌, ◌≤◌, Bool, true, false, ◌||◌, List, [], ◌∷◌, ◌++◌, length, take, drop, slice_range, Option, refl, sym, ap, subst, ◌∙◌, arith, eqb-true, eq-eqb}
use Rattle.std.specs.Prelude.{◌==◌, if◌then◌else◌}
use Rattle.std.proofs.lemmas.Bool.{cases_Bool}
use Rattle.std.proofs.lemmas.List.{drop-drop, drop_at, take_at}
use Rattle.std.proofs.lemmas.List.Folds.{drop_split}
use Rattle.ere_syntax.specs.Tree.{Tree}
use Rattle.ere_syntax.proofs.Meaning.{matches_inside}
use Rattle.sem_primitives.specs.TextMeaning.{places_of, replacement, escaped, replaced}
use Rattle.agreement.specs.Texts.Substitutions.{end_of, ArePlaces, no_more, next, IsPlace, IsSpecial, BeginsPlain, StandsFor, ends, match, escaped as is_escaped, backslash, byte, Becomes, rest, replace}
use Rattle.agreement.proofs.TextsLemmas.Leftmost.{length_range}
use Rattle.agreement.proofs.TextsLemmas.Places.{all_places, the_place}

-- ---- replacements

abbrev plainly : List ℕ → ℕ → List ℕ → Bool → List ℕ
plainly matched c cs b = (if b then matched else c ∷ []) ++ replacement matched cs

abbrev by_byte : List ℕ → ℕ → List ℕ → Bool → List ℕ
by_byte matched c cs b = elim b [ true ↦ escaped matched cs | false ↦ plainly matched c cs (c == 38) ]

abbrev after_backslash : List ℕ → ℕ → List ℕ → Bool → List ℕ
after_backslash matched c cs b = (if b then [] else 92 ∷ []) ++ (c ∷ replacement matched cs)

differs : (a b : ℕ) → (a == b) ≡ false → a ≡ b → ⊥
differs a b e same = let h : (a == b) ≡ true = eq-eqb a b same in absurd cc

equal_not : (a b : ℕ) → (a ≡ b → ⊥) → (a == b) ≡ false
equal_not a b h = elim (cases_Bool (a == b)) [ inl e ↦ absurd (h (eqb-true a b e)) | inr e ↦ e ]

not_special : (c : ℕ) → (c == 38) ≡ false → (c == 92) ≡ false → IsSpecial c → ⊥
not_special c e f (inl s) = differs c 38 e s
not_special c e f (inr s) = differs c 92 f s

plain_by : (matched : List ℕ) (c : ℕ) (cs : List ℕ) → (c == 92) ≡ false → StandsFor matched cs (replacement matched cs) → (b : Bool) → (c == 38) ≡ b → StandsFor matched (c ∷ cs) (plainly matched c cs b)
plain_by matched c cs f d true e = match (eqb-true c 38 e) d
plain_by matched c cs f d false e = byte (not_special c e f) d

escaped_by : (matched : List ℕ) (c : ℕ) (cs : List ℕ) → StandsFor matched cs (replacement matched cs) → (x y : Bool) → (c == 38) ≡ x → (c == 92) ≡ y → StandsFor matched (92 ∷ c ∷ cs) (after_backslash matched c cs (x || y))
escaped_by matched c cs d true y e f = is_escaped refl (inl (eqb-true c 38 e)) d
escaped_by matched c cs d false true e f = is_escaped refl (inr (eqb-true c 92 f)) d
escaped_by matched c cs d false false e f = backslash refl (not_special c e f) (byte (not_special c e f) d)

byte_by : (matched : List ℕ) (c : ℕ) (cs : List ℕ) → StandsFor matched cs (replacement matched cs) → StandsFor matched (92 ∷ cs) (escaped matched cs) → (b : Bool) → (c == 92) ≡ b → StandsFor matched (c ∷ cs) (by_byte matched c cs b)
byte_by matched c cs d k true e = subst (λ x. StandsFor matched (x ∷ cs) (escaped matched cs)) (sym (eqb-true c 92 e)) k
byte_by matched c cs d k false e = plain_by matched c cs e d (c == 38) refl

mutual
  pub stands_for : (matched by : List ℕ) → StandsFor matched by (replacement matched by)
  stands_for matched [] = ends
  stands_for matched (c ∷ cs) = byte_by matched c cs (stands_for matched cs) (stands_escaped matched cs) (c == 92) refl

  stands_escaped : (matched by : List ℕ) → StandsFor matched (92 ∷ by) (escaped matched by)
  stands_escaped matched [] = backslash refl tt ends
  stands_escaped matched (c ∷ cs) = escaped_by matched c cs (stands_for matched cs) (c == 38) (c == 92) refl refl

plain_value : (matched : List ℕ) (c : ℕ) (cs : List ℕ) → (IsSpecial c → ⊥) → replacement matched (c ∷ cs) ≡ c ∷ replacement matched cs
plain_value matched c cs h =
    ap (by_byte matched c cs) (equal_not c 92 λ e. h (inr e)) ∙ ap (plainly matched c cs) (equal_not c 38 λ e. h (inl e))

backslash_value : (matched cs : List ℕ) → BeginsPlain cs → escaped matched cs ≡ 92 ∷ replacement matched cs
backslash_value matched [] h = refl
backslash_value matched (c ∷ cs) h =
    let a : (c == 38) ≡ false = equal_not c 38 λ e. h (inl e) in
    let b : (c == 92) ≡ false = equal_not c 92 λ e. h (inr e) in
    ap (λ x. after_backslash matched c cs (x || (c == 92))) a ∙ ap (after_backslash matched c cs) b ∙ ap (92 ∷◌) (sym (plain_value matched c cs h))

escaped_value : (matched : List ℕ) (c : ℕ) (cs : List ℕ) → IsSpecial c → escaped matched (c ∷ cs) ≡ c ∷ replacement matched cs
escaped_value matched c cs (inl e) = subst (λ x. escaped matched (x ∷ cs) ≡ x ∷ replacement matched cs) (sym e) refl
escaped_value matched c cs (inr e) = subst (λ x. escaped matched (x ∷ cs) ≡ x ∷ replacement matched cs) (sym e) refl

pub stands_value : {matched by new : List ℕ} → StandsFor matched by new → new ≡ replacement matched by
stands_value ends = refl
stands_value {matched} (match {c} {cs} e d) =
    ap (matched ++◌) (stands_value d) ∙ subst (λ x. matched ++ replacement matched cs ≡ replacement matched (x ∷ cs)) (sym e) refl
stands_value {matched} (is_escaped {b} {c} {cs} e s d) =
    ap (c ∷◌) (stands_value d) ∙ sym (escaped_value matched c cs s) ∙ subst (λ x. escaped matched (c ∷ cs) ≡ replacement matched (x ∷ (c ∷ cs))) (sym e) refl
stands_value {matched} (backslash {c} {cs} {new} e p d) =
    ap (λ x. x ∷ new) e ∙ ap (92 ∷◌) (stands_value d) ∙ sym (backslash_value matched cs p) ∙ subst (λ x. escaped matched cs ≡ replacement matched (x ∷ cs)) (sym e) refl
stands_value {matched} (byte {c} {cs} h d) = ap (c ∷◌) (stands_value d) ∙ sym (plain_value matched c cs h)

-- ---- texts

-- places one after another, within a text of this length
abbrev InOrder : ℕ → ℕ → List (ℕ × ℕ) → Type 0
InOrder size at [] = Unit {0}
InOrder size at (p ∷ ps) = (at ≤ p.0) × (p.0 ≤ p.1) × (p.1 ≤ size) × InOrder size p.1 ps

places_in_order : {t : Tree} {text : List ℕ} {former : Option ℕ} {ps : List (ℕ × ℕ)} → ArePlaces t text former ps → InOrder (length text) (end_of former) ps
places_in_order (no_more h) = tt
places_in_order {t} {text} (next {p} f r) =
    let inside = matches_inside t text p.0 p.1 f.is.0 in
    (f.above, inside.0, inside.1, places_in_order r)

place_in_order : (t : Tree) (text : List ℕ) (ps : List (ℕ × ℕ)) → IsPlace t text ps → InOrder (length text) 0 ps
place_in_order t text [] h = tt
place_in_order t text (p ∷ []) h = let inside = matches_inside t text p.0 p.1 h.is in (h.above, inside.0, inside.1, tt)
place_in_order t text (p ∷ q ∷ ps) h = absurd h

in_order : (t : Tree) (text : List ℕ) (all : Bool) → InOrder (length text) 0 (places_of t text all)
in_order t text true = places_in_order (all_places t text)
in_order t text false = place_in_order t text (places_of t text false) (the_place t text)

becomes : (by text : List ℕ) (at : ℕ) (ps : List (ℕ × ℕ)) → InOrder (length text) at ps → Becomes by at ps (drop at text) (replaced text by at ps)
becomes by text at [] h = rest
becomes by text at (p ∷ ps) h =
    let split = drop_split text at p.0 h.0 ∙ ap (slice_range text at p.0 ++◌) (drop_split text p.0 p.1 h.1) in
    let start = length_range text at p.0 h.0 (omega (arith, h.1, h.2)) in
    let end = length_range text p.0 p.1 h.1 h.2 in
    subst (λ x. Becomes by at (p ∷ ps) x (replaced text by at (p ∷ ps))) (sym split)
    (replace (slice_range text at p.0) (slice_range text p.0 p.1) start end (stands_for (slice_range text p.0 p.1) by) (becomes by text p.1 ps h.3))

pub becomes_replaced : (t : Tree) (text by : List ℕ) (all : Bool) → Becomes by 0 (places_of t text all) text (replaced text by 0 (places_of t text all))
becomes_replaced t text by all = becomes by text 0 (places_of t text all) (in_order t text all)

-- a part of the rest, by its length
part : (text front back : List ℕ) (at end : ℕ) → front ++ back ≡ drop at text → end ≡ at + length front → (slice_range text at end ≡ front) × (drop end text ≡ back)
part text front back at end e size =
    let same : length front ≡ end - at = omega (arith, size) in (
      ap (take (end - at)) (sym e) ∙ take_at front back (end - at) same,
      ap (λ n. drop n text) size ∙ sym (drop-drop (length front) at text) ∙ ap (drop (length front)) (sym e) ∙ drop_at front back (length front) refl,
    )

pub becomes_value : {by old new : List ℕ} {at : ℕ} {ps : List (ℕ × ℕ)} (text : List ℕ) → Becomes by at ps old new → old ≡ drop at text → new ≡ replaced text by at ps
becomes_value text rest e = e
becomes_value {by} {at} text (replace {p} {ps} {put} {old} {new} kept matched start end d r) e =
    let a = part text kept (matched ++ old) at p.0 e start in
    let b = part text matched old p.0 p.1 (sym a.1) end in
    let put_is : put ≡ replacement (slice_range text p.0 p.1) by = stands_value d ∙ ap (λ m. replacement m by) (sym b.0) in
    ap (λ x. x ++ (put ++ new)) (sym a.0)
    ∙ ap (λ x. slice_range text at p.0 ++ (x ++ new)) put_is
    ∙ ap (λ x. slice_range text at p.0 ++ (replacement (slice_range text p.0 p.1) by ++ x)) (becomes_value text r (sym b.1))
