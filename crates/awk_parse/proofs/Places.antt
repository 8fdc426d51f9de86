-- Jumps without lines.
use Rattle.std.proofs.Common.{◌≡◌, ℕ, ◌+◌, ◌<◌, ◌≤◌, suc, Bool, true, false, None, List, [], ◌∷◌, ◌++◌, length, drop, get_or, drop-cons, map, add-one, append_assoc, refl, ap, sym, ◌∙◌}
use Rattle.std.proofs.lemmas.List.{drop_all}
use Rattle.awk_tokens.specs.Views.{spelled}
use Rattle.awk_tokens.specs.declared.token.Token.{Token}
use Rattle.awk_parse.specs.Jumps.{first_misplaced, is_jump, jump_lines, line_if}

no_lines : (fits : List Bool) → first_misplaced fits [] ≡ None
no_lines [] = refl
no_lines (true ∷ fits) = refl
no_lines (false ∷ fits) = refl

pub misplaced_short : (fits : List Bool) (lines : List ℕ) (i : ℕ) → length lines ≤ i → first_misplaced (drop i fits) (drop i lines) ≡ None
misplaced_short fits lines i le = ap (first_misplaced (drop i fits)) (drop_all i lines le) ∙ no_lines (drop i fits)

-- the element at a place, and the rest
pub drop_at : {A : Type 0} (xs : List A) (i : ℕ) (x : A) → i < length xs → x ≡ get_or xs i x → drop i xs ≡ x ∷ drop (i + 1) xs
drop_at xs i x le is = drop-cons xs i x le ∙ ap (λ (u : ℕ). get_or xs i x ∷ drop u xs) (sym (add-one i)) ∙ ap (λ y. y ∷ drop (i + 1) xs) (sym is)

-- some jumps more, and then the rest
pub more_jumps : (old new js rest : List Bool) → new ≡ old ++ js → new ++ rest ≡ old ++ (js ++ rest)
more_jumps old new js rest e = ap (λ (u : List Bool). u ++ rest) e ∙ append_assoc old js rest

-- the line of a token, if that is a jump, and then the rest

pub line_more : (lines more : List ℕ) (tokens : List Token) (i : ℕ) (d : Token) → i < length tokens → true ≡ is_jump (get_or tokens i d).kind → more ≡ lines ++ (get_or tokens i d).line ∷ []
    → more ++ jump_lines (map spelled (drop (i + 1) tokens)) ≡ lines ++ jump_lines (map spelled (drop i tokens))
line_more lines more tokens i d lt jump e =
    let rest = jump_lines (map spelled (drop (suc i) tokens)) in
    (λ j. e j ++ jump_lines (map spelled (drop (add-one i j) tokens))) ∙ append_assoc lines ((get_or tokens i d).line ∷ []) rest
    ∙ ap (λ (b : Bool). lines ++ line_if b (get_or tokens i d).line rest) jump
    ∙ ap (λ (ts : List Token). lines ++ jump_lines (map spelled ts)) (sym (drop-cons tokens i d lt))

pub line_less : (lines : List ℕ) (tokens : List Token) (i : ℕ) (d : Token) → i < length tokens → false ≡ is_jump (get_or tokens i d).kind
    → lines ++ jump_lines (map spelled (drop (i + 1) tokens)) ≡ lines ++ jump_lines (map spelled (drop i tokens))
line_less lines tokens i d lt jump =
    let rest = jump_lines (map spelled (drop (suc i) tokens)) in
    ap (λ (n : ℕ). lines ++ jump_lines (map spelled (drop n tokens))) (add-one i)
    ∙ ap (λ (b : Bool). lines ++ line_if b (get_or tokens i d).line rest) jump
    ∙ ap (λ (ts : List Token). lines ++ jump_lines (map spelled ts)) (sym (drop-cons tokens i d lt))
