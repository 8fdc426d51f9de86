-- The places of functions with their counts, one more at a time.
use Rattle.std.proofs.Common.{◌≡◌, ℕ, suc, ◌+◌, ◌<◌, List, [], ◌∷◌, ◌++◌, add-one, append_assoc, drop, drop-cons, get_or, length, sym, ap, ◌∙◌}
use Rattle.awk_grammar.specs.Trees.{Item}
use Rattle.awk_tree.specs.Lines.{places_in}
use Rattle.run_report.specs.declared.counts.PlaceCount.{PlaceCount}
use Rattle.script_places.specs.Passes.{Moment, counted_from, counted_in, passes}

-- a place that is added was the first that was left
pub one_place : (nops : List (List ℕ)) (moments : List Moment) (f k before : ℕ) (all : List ℕ) (places after : List PlaceCount) (p : PlaceCount) (whole : List PlaceCount)
    → k < length all → before ≡ get_or all k 0 → p ≡ record { before = before; count = passes nops moments f k } → after ≡ places ++ p ∷ []
    → places ++ counted_from nops moments f k (drop k all) ≡ whole → after ++ counted_from nops moments f (k + 1) (drop (k + 1) all) ≡ whole
one_place nops moments f k before all places after p whole inside is new pushed was =
    let rest = counted_from nops moments f (k + 1) (drop (k + 1) all) in
    let here : drop k all ≡ before ∷ drop (k + 1) all = drop-cons all k 0 inside ∙ ap (λ (x : ℕ). x ∷ drop (suc k) all) (sym is) ∙ ap (λ (n : ℕ). before ∷ drop n all) (sym (add-one k)) in
    ap (λ (ps : List PlaceCount). ps ++ rest) pushed ∙ append_assoc places (p ∷ []) rest ∙ ap (λ (q : PlaceCount). places ++ q ∷ rest) new
    ∙ sym (ap (λ (bs : List ℕ). places ++ counted_from nops moments f k bs) here) ∙ was

-- those of one function more
pub one_function : (script : List Item) (nops : List (List ℕ)) (moments : List Moment) (f : ℕ) → counted_in script nops moments f ++ counted_from nops moments f 0 (places_in script f) ≡ counted_in script nops moments (f + 1)
one_function script nops moments f = ap (counted_in script nops moments) (sym (add-one f))
