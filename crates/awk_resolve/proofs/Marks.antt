-- Marks of the code, one after another.
use Rattle.std.proofs.Common.{◌≡◌, ℕ, ◌+◌, ◌<◌, List, [], ◌∷◌, ◌++◌, length, take, drop, get_or, Option, Some, None, refl, ap, sym, ◌∙◌, true≢false, is_some, false}
use Rattle.std.proofs.lemmas.List.{take_more}
use Rattle.awk_grammar.specs.Marks.{Mark as PlainMark, Defined, Parameter, Used, Called, Computed, Given}
use Rattle.awk_grammar.specs.Kinds.{Key, Inside, Head, or_else, defined, declared, duplicate, first_duplicate}
use Rattle.awk_resolve.specs.View.{view_mark, view_marks, view_place}
use Rattle.awk_resolve.specs.declared.mark.Mark.{Mark}
use Rattle.std.specs.Borrow.{Bor}
use Rattle.awk_resolve.proofs.Names.{drop_any}

views_append : (ms ns : List Mark) → view_marks (ms ++ ns) ≡ view_marks ms ++ view_marks ns
views_append [] ns = refl
views_append (m ∷ ms) ns = ap (λ (u : List PlainMark). view_mark m ∷ u) (views_append ms ns)

-- the marks so far and one more
pub take_at : (ms : List Mark) (i : ℕ) (d : Mark) → i < length ms → view_marks (take (i + 1) ms) ≡ view_marks (take i ms) ++ view_mark (get_or ms i d) ∷ []
take_at ms i d lt = ap view_marks (take_more ms i d lt) ∙ views_append (take i ms) (get_or ms i d ∷ [])

pub defined_append : (ms ns : List PlainMark) → defined (ms ++ ns) ≡ defined ms ++ defined ns
defined_append [] ns = refl
defined_append (Defined f ∷ ms) ns = ap (λ (u : List (List ℕ)). f ∷ u) (defined_append ms ns)
defined_append (Parameter f x ∷ ms) ns = defined_append ms ns
defined_append (Used kind place x ∷ ms) ns = defined_append ms ns
defined_append (Called f n ∷ ms) ns = defined_append ms ns
defined_append (Computed f i ∷ ms) ns = defined_append ms ns
defined_append (Given f i place x ∷ ms) ns = defined_append ms ns

pub declared_append : (ms ns : List PlainMark) → declared (ms ++ ns) ≡ declared ms ++ declared ns
declared_append [] ns = refl
declared_append (Defined f ∷ ms) ns = declared_append ms ns
declared_append (Parameter f x ∷ ms) ns = ap (λ (u : List Key). Inside f x ∷ u) (declared_append ms ns)
declared_append (Used kind place x ∷ ms) ns = declared_append ms ns
declared_append (Called f n ∷ ms) ns = declared_append ms ns
declared_append (Computed f i ∷ ms) ns = declared_append ms ns
declared_append (Given f i place x ∷ ms) ns = declared_append ms ns

no_place : (o : Option (Bor (List ℕ))) → is_some o ≡ false → view_place o ≡ None
no_place None h = refl
no_place (Some x) h = absurd (true≢false h)

pub nothing_found : (o : Option (Bor (List ℕ))) (p q : Option (List ℕ)) → is_some o ≡ false → view_place o ≡ p → or_else p q ≡ q
nothing_found o p q h e = ap (λ (u : Option (List ℕ)). or_else u q) (sym e ∙ no_place o h)

-- a mark without a duplicate name
pub no_duplicate : (hs : List Head) (ms : List Mark) (i : ℕ) (d : Mark) (o : Option (Bor (List ℕ))) (fs : List (List ℕ)) (ks : List Key) → i < length ms
    → fs ≡ defined (view_marks (take i ms)) → ks ≡ declared (view_marks (take i ms)) → is_some o ≡ false → view_place o ≡ duplicate hs fs ks (view_mark (get_or ms i d))
    → first_duplicate hs (view_marks (take (i + 1) ms)) (view_marks (drop (i + 1) ms)) ≡ first_duplicate hs (view_marks (take i ms)) (view_marks (drop i ms))
no_duplicate hs ms i d o fs ks lt f g h e =
    let m = view_mark (get_or ms i d) in
    let front = view_marks (take i ms) in
    let rest = view_marks (drop (i + 1) ms) in
    ap (λ (u : List PlainMark). first_duplicate hs u rest) (take_at ms i d lt)
    ∙ sym (nothing_found o (duplicate hs (defined front) (declared front) m) (first_duplicate hs (front ++ m ∷ []) rest) h
    (e ∙ ap (λ (u : List (List ℕ)). duplicate hs u ks m) f ∙ ap (λ (u : List Key). duplicate hs (defined front) u m) g))
    ∙ sym (ap (λ (u : List Mark). first_duplicate hs front (view_marks u)) (drop_any ms i d lt))

-- what the marks so far and one more name
pub more_defined : (ms : List Mark) (i : ℕ) (d : Mark) (old new : List (List ℕ)) → i < length ms → old ≡ defined (view_marks (take i ms)) → new ≡ old ++ defined (view_mark (get_or ms i d) ∷ []) → new ≡ defined (view_marks (take (i + 1) ms))
more_defined ms i d old new lt e f =
    f ∙ ap (λ (u : List (List ℕ)). u ++ defined (view_mark (get_or ms i d) ∷ [])) e ∙ sym (ap defined (take_at ms i d lt) ∙ defined_append (view_marks (take i ms)) (view_mark (get_or ms i d) ∷ []))

pub more_declared : (ms : List Mark) (i : ℕ) (d : Mark) (old new : List Key) → i < length ms → old ≡ declared (view_marks (take i ms)) → new ≡ old ++ declared (view_mark (get_or ms i d) ∷ []) → new ≡ declared (view_marks (take (i + 1) ms))
more_declared ms i d old new lt e f =
    f ∙ ap (λ (u : List Key). u ++ declared (view_mark (get_or ms i d) ∷ [])) e ∙ sym (ap declared (take_at ms i d lt) ∙ declared_append (view_marks (take i ms)) (view_mark (get_or ms i d) ∷ []))
