use Rattle.std.proofs.Common.{◌≡◌, ◌≤◌, ap, arith, length}
use Rattle.std.proofs.lemmas.Result.{IfErr-weaker}
use Rattle.script_places.specs.Lines.{form_of, function_text}
use Rattle.script_places.proofs.Long.{lines_long}
use Rattle.module_writer.specs.declared.fault.WriteFault.TheVariants.{TooLarge}
use Rattle.script_places.proofs.writing.put_function.Goals as goal

pub returns-clause-large : goal.returns-clause-large
returns-clause-large c =
    let f = c.args.function.now in
    let lines = c.deref-2.result.now in
    let same = ap length c.deref-2.ensures.value in
    let long = lines_long (form_of f) in
    IfErr-weaker c.put_lines.result (λ fault. fault ≡ TooLarge → 4294967296 ≤ length lines) (λ fault. fault ≡ TooLarge → 4294967296 ≤ length (function_text (form_of f)))
    (λ fault many e. (let few = many e in omega (arith, few, same, long))) c.put_lines.ensures.large
