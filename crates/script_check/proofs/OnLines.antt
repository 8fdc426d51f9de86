-- Lines of bytes.
use Rattle.std.proofs.Common.{◌≡◌, ◌≤◌, ◌<◌, ◌+◌, ◌-◌, ◌∷◌, ◌∙◌, ℕ, suc, Bool, List, [], true, false, ap, arith, drop, get_or, length}
use Rattle.std.specs.Prelude.{if◌then◌else◌}
use Rattle.std.proofs.lemmas.Bool.{le-leb}
use Rattle.std.proofs.lemmas.List.{at_drop_more}
use Rattle.script_check.specs.Page.{first_line, is_newline}
use Rattle.script_check.specs.Uncut.{line_start}

pub short : (b : List ℕ) → length (first_line b) ≤ length b
short [] = omega arith
short (x ∷ b) =
    let rest : length (first_line b) ≤ length b = short b in
    elim (is_newline x) as (λ t. length (if t then [] else x ∷ first_line b) ≤ length (x ∷ b)) [ true ↦ omega arith | false ↦ omega arith ]

-- a line that was looked for begins here
pub started : (left i n : ℕ) (b : List ℕ) → i < length b → left ≤ 1 → i + line_start left (drop i b) ≡ n → i ≡ n
started left i n b lt le so_far =
    let rest = suc (line_start (if is_newline (get_or b i 0) then left - 1 else left) (drop (i + 1) b)) in
    let none : line_start left (drop i b) ≡ 0 = at_drop_more (line_start left) b i 0 lt ∙ ap (λ (t : Bool). if t then 0 else rest) (le-leb left 1 le) in
    omega arith
