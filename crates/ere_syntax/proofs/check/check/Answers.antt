use Rattle.std.proofs.Common.{rules, arith, sym, ◌∙◌}
use Rattle.ere_syntax.specs.Lexing.{token_view}
use Rattle.ere_syntax.proofs.Texts.{checked_whole, checked_none, code_none, code_less, code_checked, code_unchecked, none_of_false, opens_one}
use Rattle.ere_syntax.proofs.check.check.Goals as goal

pub loop-rest-init : goal.loop-rest-init
loop-rest-init c = record { same = checked_whole c.args.text.now (search rules); few = omega arith }

pub returns-in-Err : goal.returns-in-Err
returns-in-Err c =
    let s = c.loop-rest in
    none_of_false c.args.text.now (sym s.invariant.same ∙ checked_none s.groups s.last s.rest.now (search rules) (code_none s.groups s.rest.now c.in-Err.ensures))

pub returns-in-None : goal.returns-in-None
returns-in-None c =
    let s = c.loop-rest in
    none_of_false c.args.text.now (sym s.invariant.same ∙ code_unchecked s.groups s.last s.rest.now c.in-Ok.after.now (token_view c.in-Ok.token) c.in-Ok.ensures c.in-None.ensures)

pub loop-rest-smaller : goal.loop-rest-smaller
loop-rest-smaller c = code_less c.loop-rest.groups c.loop-rest.rest.now c.in-Ok.after.now (token_view c.in-Ok.token) c.in-Ok.ensures

pub loop-rest-preserved : goal.loop-rest-preserved
loop-rest-preserved c =
    let s = c.loop-rest in
    let less = code_less s.groups s.rest.now c.in-Ok.after.now (token_view c.in-Ok.token) c.in-Ok.ensures in
    let one = opens_one (token_view c.in-Ok.token) s.groups s.last c.in-Some.open c.in-Some.kind c.in-Some.ensures in
    record {
      same = code_checked s.groups s.last s.rest.now c.in-Ok.after.now (token_view c.in-Ok.token) c.in-Some.open c.in-Some.kind c.in-Ok.ensures c.in-Some.ensures ∙ s.invariant.same;
      few = omega (arith, less, one, s.invariant.few);
    }
