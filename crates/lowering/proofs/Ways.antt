-- Code that is done for what it does alone, and tests: the first of the ways that there is.
use Rattle.std.proofs.Common.{◌≡◌, ℕ, Option, Some, None, ap, ◌∙◌}
use Rattle.wasm_types.specs.Syntax.{Instructions}
use Rattle.mid_program.specs.Mid.{Code}
use Rattle.lower_model.specs.Emission.{Layout}
use Rattle.lower_model.specs.Quick.{Counted, Pair, Remainder, Sum, Tally, Update, counted_in, pair_in, remainder_in, sum_in, tally_in, update_in}
use Rattle.lower_model.specs.Statements.{barely_dropped, left_unless_counted, left_unless_pair, plainly_dropped, quickly_dropped, remainder_dropped, tallied, updated}

module _ (y : Layout) (e : Code) (d : ℕ) (k : Instructions) where
  no_sum : None ≡ sum_in e → plainly_dropped y (update_in e) e d k ≡ quickly_dropped y (sum_in e) e d k
  no_sum s = ap (λ (o : Option Sum). quickly_dropped y o e d k) s

  no_update : None ≡ sum_in e → None ≡ update_in e → barely_dropped y (tally_in e) e d k ≡ quickly_dropped y (sum_in e) e d k
  no_update s u = ap (λ (o : Option Update). plainly_dropped y o e d k) u ∙ no_sum s

  pub sum_way : (q : Option Sum) → q ≡ sum_in e → quickly_dropped y q e d k ≡ quickly_dropped y (sum_in e) e d k
  sum_way q s = ap (λ (o : Option Sum). quickly_dropped y o e d k) s

  pub update_way : (q : Update) → None ≡ sum_in e → Some q ≡ update_in e → updated y q d k ≡ quickly_dropped y (sum_in e) e d k
  update_way q s u = ap (λ (o : Option Update). plainly_dropped y o e d k) u ∙ no_sum s

  pub tally_way : (q : Tally) → None ≡ sum_in e → None ≡ update_in e → Some q ≡ tally_in e → tallied y q d k ≡ quickly_dropped y (sum_in e) e d k
  tally_way q s u t = ap (λ (o : Option Tally). barely_dropped y o e d k) t ∙ no_update s u

  pub last_way : (q : Option Remainder) → None ≡ sum_in e → None ≡ update_in e → None ≡ tally_in e → q ≡ remainder_in e → remainder_dropped y q e d k ≡ quickly_dropped y (sum_in e) e d k
  last_way q s u t r = ap (λ (o : Option Remainder). remainder_dropped y o e d k) r ∙ ap (λ (o : Option Tally). barely_dropped y o e d k) t ∙ no_update s u

-- a test that compares no sources
pub no_pair : (y : Layout) (q : Option Counted) (e : Code) (d l : ℕ) (k : Instructions) → None ≡ pair_in e → q ≡ counted_in e → left_unless_counted y q e d l k ≡ left_unless_pair y (pair_in e) e d l k
no_pair y q e d l k p c = ap (λ (o : Option Counted). left_unless_counted y o e d l k) c ∙ ap (λ (o : Option Pair). left_unless_pair y o e d l k) p
