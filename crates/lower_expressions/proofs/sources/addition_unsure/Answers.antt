use Rattle.std.proofs.Common.{ap, ◌∙◌, map, subst, sym}
use Rattle.lower_quick.specs.View.{view_addition, view_holder}
use Rattle.lower_expressions.specs.Sources.{NamesFit}
use Rattle.lower_expressions.proofs.SourceLemmas.{source_list}
use Rattle.lower_expressions.proofs.sources.addition_unsure.Goals as goal

pub all_unsure-requires : goal.all_unsure-requires
all_unsure-requires c =
    let s = view_addition c.args.addition in
    subst NamesFit (sym (ap (map view_holder) c.deref.ensures.value ∙ c.in-Ok.ensures)) (source_list s.left _ c.requires.0 (source_list s.right _ c.requires.1 tt))

pub returns-in-Ok : goal.returns-in-Ok
returns-in-Ok c = rw (ap (map view_holder) c.deref.ensures.value ∙ c.in-Ok.ensures) at c.all_unsure.ensures

pub returns-in-Err : goal.returns-in-Err
returns-in-Err c = λ k whole h. c.refuse.ensures k whole
