-- Searches from an end back.
use Rattle.std.proofs.Common.{◌≡◌, ◌≤◌, ◌<◌, ◌+◌, ◌-◌, ◌∙◌, ℕ, Bool, true, false, List, Option, None, Some, add-one, ap, arith, eqb, refl, sym}
use Rattle.std.specs.Prelude.{if◌then◌else◌}
use Rattle.std.proofs.lemmas.Bool.{ne_eqb}
use Rattle.awk_tokens.specs.declared.token.Token.{Token}
use Rattle.script_check.specs.Layout.{kind_at}
use Rattle.script_check.specs.Stopped.{closes, innermost, opens}

-- what one token back gives, by what it does
abbrev chosen : (closing opening none_closed : Bool) → (one_more here one_less same : Option ℕ) → Option ℕ
chosen a b z x y w v = if a then x else if b then (if z then y else w) else v

one_back : (tokens : List Token) (closed i n : ℕ) → n ≡ i + 1 → innermost tokens closed n ≡ chosen (closes (kind_at tokens i)) (opens (kind_at tokens i)) (eqb closed 0) (innermost tokens (closed + 1) i) (Some i) (innermost tokens (closed - 1) i) (innermost tokens closed i)
one_back tokens closed i n e = ap (innermost tokens closed) e ∙ rw add-one refl

-- what an earlier place gives, so this one does
module _ (tokens : List Token) (closed i n : ℕ) (found : Option ℕ) (e : n ≡ i + 1) (so_far : innermost tokens closed n ≡ found) where
  pub at_closing : (next place : ℕ) → next ≡ closed + 1 → place ≡ i → closes (kind_at tokens i) ≡ true → innermost tokens next place ≡ found
  at_closing next place more at is_so =
      ap (λ (c : ℕ). innermost tokens c place) more ∙ ap (innermost tokens (closed + 1)) at
      ∙ sym (one_back tokens closed i n e ∙ ap (λ (a : Bool). chosen a (opens (kind_at tokens i)) (eqb closed 0) (innermost tokens (closed + 1) i) (Some i) (innermost tokens (closed - 1) i) (innermost tokens closed i)) is_so)
      ∙ so_far

  pub at_opening : closes (kind_at tokens i) ≡ false → opens (kind_at tokens i) ≡ true → closed ≡ 0 → Some i ≡ found
  at_opening is_not is_so none =
      sym
      (one_back tokens closed i n e
      ∙ ap (λ (a : Bool). chosen a (opens (kind_at tokens i)) (eqb closed 0) (innermost tokens (closed + 1) i) (Some i) (innermost tokens (closed - 1) i) (innermost tokens closed i)) is_not
      ∙ ap (λ (b : Bool). chosen false b (eqb closed 0) (innermost tokens (closed + 1) i) (Some i) (innermost tokens (closed - 1) i) (innermost tokens closed i)) is_so
      ∙ ap (λ (z : ℕ). chosen false true (eqb z 0) (innermost tokens (closed + 1) i) (Some i) (innermost tokens (closed - 1) i) (innermost tokens closed i)) none)
      ∙ so_far

  pub at_inner_opening : (next place : ℕ) → next ≡ closed - 1 → place ≡ i → closes (kind_at tokens i) ≡ false → opens (kind_at tokens i) ≡ true → (closed ≡ 0 → ⊥) → innermost tokens next place ≡ found
  at_inner_opening next place less at is_not is_so some =
      ap (λ (c : ℕ). innermost tokens c place) less ∙ ap (innermost tokens (closed - 1)) at
      ∙ sym
      (one_back tokens closed i n e
      ∙ ap (λ (a : Bool). chosen a (opens (kind_at tokens i)) (eqb closed 0) (innermost tokens (closed + 1) i) (Some i) (innermost tokens (closed - 1) i) (innermost tokens closed i)) is_not
      ∙ ap (λ (b : Bool). chosen false b (eqb closed 0) (innermost tokens (closed + 1) i) (Some i) (innermost tokens (closed - 1) i) (innermost tokens closed i)) is_so
      ∙ ap (λ (z : Bool). chosen false true z (innermost tokens (closed + 1) i) (Some i) (innermost tokens (closed - 1) i) (innermost tokens closed i)) (ne_eqb closed 0 some))
      ∙ so_far

  pub at_other : (next place : ℕ) → next ≡ closed → place ≡ i → closes (kind_at tokens i) ≡ false → opens (kind_at tokens i) ≡ false → innermost tokens next place ≡ found
  at_other next place same at is_not none =
      ap (λ (c : ℕ). innermost tokens c place) same ∙ ap (innermost tokens closed) at
      ∙ sym
      (one_back tokens closed i n e
      ∙ ap (λ (a : Bool). chosen a (opens (kind_at tokens i)) (eqb closed 0) (innermost tokens (closed + 1) i) (Some i) (innermost tokens (closed - 1) i) (innermost tokens closed i)) is_not
      ∙ ap (λ (b : Bool). chosen false b (eqb closed 0) (innermost tokens (closed + 1) i) (Some i) (innermost tokens (closed - 1) i) (innermost tokens closed i)) none)
      ∙ so_far
