use Rattle.std.proofs.Common.{rules}
use Rattle.ere_syntax.specs.Lexing.{token_view}
use Rattle.ere_syntax.proofs.Texts.{code_less}
use Rattle.ere_syntax.proofs.Wholes.{reading_start, reading_no_token, reading_step, reading_next, reading_fault, reading_open, reading_end, reading_none}
use Rattle.ere_syntax.proofs.read.build_on.Goals as goal

pub loop-rest-init : goal.loop-rest-init
loop-rest-init c = reading_start c.args.text.now c.args.stack.now.items c.fresh-frame.result c.requires.any c.requires.empty c.fresh-frame.ensures.same c.fresh-frame.ensures.sized

pub returns-in-Err : goal.returns-in-Err
returns-in-Err c = let s = c.loop-rest in reading_no_token c.args.text.now s.rest.now s.stack.items s.frame c.len.result (search rules) (search rules) s.invariant c.requires.some c.in-Err.ensures

pub returns-in-Err-step : goal.returns-in-Err-step
returns-in-Err-step c =
    let s = c.loop-rest in
    let y = reading_step c.args.text.now s.rest.now c.in-Ok.after.now s.stack.items s.frame (token_view c.in-Ok.token) c.len.result (search rules) s.invariant c.requires.some c.in-Ok.ensures in
    reading_fault c.args.text.now c.in-Ok.after.now c.step.new.stack.items y.0 c.in-Err-step.fault y.2 y.3 (c.in-Err-step.ensures y.0 s.invariant.ready y.1)

pub returns-in-Ok-None : goal.returns-in-Ok-None
returns-in-Ok-None c =
    let s = c.loop-rest in
    let y = reading_step c.args.text.now s.rest.now c.in-Ok.after.now s.stack.items s.frame (token_view c.in-Ok.token) c.len.result (search rules) s.invariant c.requires.some c.in-Ok.ensures in
    rw c.in-Ok-None.field-0-is at (c.in-Ok-None.ensures y.0 s.invariant.ready y.1)

pub loop-rest-smaller : goal.loop-rest-smaller
loop-rest-smaller c = code_less c.len.result c.loop-rest.rest.now c.in-Ok.after.now (token_view c.in-Ok.token) c.in-Ok.ensures

pub loop-rest-preserved : goal.loop-rest-preserved
loop-rest-preserved c =
    let s = c.loop-rest in
    let y = reading_step c.args.text.now s.rest.now c.in-Ok.after.now s.stack.items s.frame (token_view c.in-Ok.token) c.len.result (search rules) s.invariant c.requires.some c.in-Ok.ensures in
    reading_next c.args.text.now c.in-Ok.after.now c.step.new.stack.items c.in-Ok-Some.next y.0 y.2 y.3 (rw c.in-Ok-Some.field-0-is at (c.in-Ok-Some.ensures y.0 s.invariant.ready y.1))

pub returns-then-not-is_empty : goal.returns-then-not-is_empty
returns-then-not-is_empty c = let s = c.loop-rest in reading_open c.args.text.now s.rest.now s.stack.items s.frame s.invariant c.requires.some (search rules) (search rules)

pub returns-in-None : goal.returns-in-None
returns-in-None c =
    let s = c.loop-rest in
    let whole = reading_end c.args.text.now s.rest.now s.stack.items s.frame s.invariant (search rules) (search rules) in
    reading_none c.args.text.now s.frame c.requires.some whole (rw c.in-None.is at c.in_ok-finish.ensures.same)
