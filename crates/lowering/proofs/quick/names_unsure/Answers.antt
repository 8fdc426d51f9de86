use Rattle.std.proofs.Common.{◌≡◌, ◌∙◌, Result, Ok, IfOk, sym, ap, map, subst}
use Rattle.lower_expressions.specs.Sources.{NamesFit}
use Rattle.lower_quick.specs.View.{view_holder}
use Rattle.lowering.proofs.quick.names_unsure.Goals as goal

there : {T E : Type 0} (P : T → Type 0) (r : Result T E) (v : T) → r ≡ Ok v → IfOk r P → P v
there {T} {E} P r v e h = subst (λ (x : Result T E). IfOk x P) e h

pub all_unsure-requires : goal.all_unsure-requires
all_unsure-requires c = subst NamesFit (sym (ap (map view_holder) c.deref.ensures.value)) (there _ c.args.names c.in-Ok.names c.in-Ok.is c.requires)

pub returns-in-Ok : goal.returns-in-Ok
returns-in-Ok c = λ all e. rw (ap (map view_holder) c.deref.ensures.value ∙ there _ c.args.names c.in-Ok.names c.in-Ok.is e) at c.all_unsure.ensures

pub returns-in-Err : goal.returns-in-Err
returns-in-Err c = λ all e k whole h. c.refuse.ensures k whole
