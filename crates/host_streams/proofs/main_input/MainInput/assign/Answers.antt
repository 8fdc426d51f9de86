use Rattle.std.proofs.Common.{◌+◌, ◌∙◌, Some, ap, arith, drop, refl, sym}
use Rattle.host_streams.proofs.Finding.{rest_is}
use Rattle.host_streams.proofs.MainSteps.{assigns_at}
use Rattle.host_streams.proofs.Moves.{short_operand, short_step}
use Rattle.host_streams.proofs.Passed.{one_taken}
use Rattle.host_streams.proofs.Refused.{is_stop}
use Rattle.host_streams.proofs.main_input.MainInput.assign.Goals as goal

pub returns-clause-told : goal.returns-clause-told
returns-clause-told c = λ state inner.
    let value = c.in_ok-value.ensures ∙ rest_is (c.args.len + 1) c.args.text.now in
    assigns_at _ state.outside c.args.text.now c.in_ok-name.name c.in_ok-value.value _
    (c.requires.name.1 ∙ ap (λ n. Some (n, drop (c.args.len + 1) c.args.text.now)) (sym c.in_ok-name.ensures) ∙ ap (λ v. Some (c.in_ok-name.name, v)) (sym value))

pub returns-clause-operand : goal.returns-clause-operand
returns-clause-operand c =
    let value = c.in_ok-value.ensures ∙ rest_is (c.args.len + 1) c.args.text.now in
    let assigns =
    c.requires.name.1 ∙ ap (λ n. Some (n, drop (c.args.len + 1) c.args.text.now)) (sym c.in_ok-name.ensures)
    ∙ ap (λ v. Some (c.in_ok-name.name, v)) (sym value) in
    record {
      passes = λ texts e. (c.args.text.now, one_taken texts c.args.self.now.next c.args.self.now.found c.args.text.now e c.requires.left, assigns, refl);
      standard = refl;
      one = (omega arith, omega arith);
      answers = tt;
      idle = tt;
      named = c.requires.left;
      more = λ count. tt;
      finds = λ later outside inner. assigns_at _ outside c.args.text.now c.in_ok-name.name c.in_ok-value.value _ assigns;
    }

pub returns-in_err-name : goal.returns-in_err-name
returns-in_err-name c = rw (is_stop c.from_residual.result c.from_residual.ensures.1) (record {
  reading = refl;
  told = λ state inner. refl;
  steps = short_step c.args.self.now c.requires.live c.requires.idle;
  operand = short_operand c.args.self.now c.requires.left c.args.text.now;
})

pub returns-in_err-value : goal.returns-in_err-value
returns-in_err-value c = rw (is_stop c.from_residual-in_err-value.result c.from_residual-in_err-value.ensures.1) (record {
  reading = refl;
  told = λ state inner. refl;
  steps = short_step c.args.self.now c.requires.live c.requires.idle;
  operand = short_operand c.args.self.now c.requires.left c.args.text.now;
})
