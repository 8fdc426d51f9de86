use Rattle.std.proofs.Common.{◌∙◌, ap, sym, subst}
use Rattle.lower_pieces.specs.Emits.{Reads}
use Rattle.lower_pieces.specs.Forms.{view_form}
use Rattle.lower_expressions.specs.Keeping.{Keeping, kept_more}
use Rattle.lowering.proofs.evaluating.kept_first.Goals as goal

pub returns-in-Ok : goal.returns-in-Ok
returns-in-Ok c = λ next whole h. subst (λ (m : Keeping). Reads c.args.out.now (next m) whole) (sym (c.in-Ok.ensures ∙ ap (kept_more (view_form c.args.form) 0) c.none-kept.ensures)) h

pub returns-in-Err : goal.returns-in-Err
returns-in-Err c = λ next whole h. c.refuse.ensures _ whole
