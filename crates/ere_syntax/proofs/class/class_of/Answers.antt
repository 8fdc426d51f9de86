use Rattle.std.proofs.Common.{refl, sym, ap, ◌∙◌, arith, ℕ, List}
use Rattle.ere_syntax.specs.Readers.{strip}
use Rattle.ere_syntax.specs.Reads.{class_read}
use Rattle.ere_syntax.proofs.Lexes.{class_next, class_some}
use Rattle.ere_syntax.proofs.class.class_of.Goals as goal

pub loop-class-init : goal.loop-class-init
unfolding class_read
loop-class-init c = refl

pub loop-class-preserved : goal.loop-class-preserved
loop-class-preserved c = class_next _ c.loop-class.class-index _ c.args.text.now (omega arith) (ap (λ (n : List ℕ). strip n c.args.text.now) (sym c.closed_name.ensures) ∙ sym c.in-None.ensures) ∙ c.loop-class.invariant

pub returns-in-Some : goal.returns-in-Some
returns-in-Some c = class_some _ c.loop-class.class-index _ c.args.text.now c.in-Some.rest.now (omega arith) (ap (λ (n : List ℕ). strip n c.args.text.now) (sym c.closed_name.ensures) ∙ sym c.in-Some.ensures) ∙ c.loop-class.invariant
