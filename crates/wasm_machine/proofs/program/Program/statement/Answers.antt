use Rattle.std.proofs.Common.{◌≡◌, ◌<◌, ◌≤◌, ◌∙◌, ℕ, List, Option, Some, None, length, refl, ap, sym, subst, arith}
use Rattle.std.specs.Prelude.{slice_get}
use Rattle.std.proofs.lemmas.Option.{slice_get_past, slice_get_read}
use Rattle.wasm_types.specs.Syntax.{FuncForm}
use Rattle.wasm_loader.specs.Flat.{Form}
use Rattle.wasm_loader.specs.Laid.{Laid, laid}
use Rattle.wasm_machine.specs.StatementAt.{IsStatementAt, code_in}
use Rattle.wasm_machine.specs.ViewConf.{program_of}
use Rattle.wasm_machine.proofs.Placed.{code_kept}
use Rattle.wasm_machine.proofs.WithCodes.{without}
use Rattle.wasm_machine.proofs.program.Program.statement.Goals as goal

pub returns-then-place-len : goal.returns-then-place-len
returns-then-place-len c =
    let p = c.args.self.now in
    let n = c.args.place.function in
    let past : length p.whole.funcs.items ≤ n = omega arith in
    subst (λ (found : Option FuncForm). IsStatementAt (code_in found) p.numbers.items c.args.import c.args.place.at None)
    (sym (without p n (slice_get_past p.whole.funcs.items n past)))
    (record { beginning = None; begins = λ at may. (let is = may.nop in absurd cc); number = refl })

pub returns : goal.returns
returns c =
    let p = c.args.self.now in
    let n = c.args.place.function in
    let code = c.in_ok-code.code.now in
    let codes = c.deref.result.now in
    let found = c.in_ok-code.ensures.lookup in
    let code_is : slice_get p.codes.items n ≡ Some code =
    sym (ap (λ (xs : List Laid). slice_get xs n) c.deref.ensures.value) ∙ slice_get_read codes (length codes) n code refl found.3.0 found.1 in
    let inside : n < length p.whole.funcs.items = omega arith in
    let fs = (laid c.layout.result.now).forms in
    let kept : fs ≡ code_in (slice_get (program_of p).whole.funcs n) =
    ap (λ (f : Laid). f.forms) c.layout.ensures.same ∙ sym (code_kept p c.requires.codes n code code_is inside) in
    let at = c.args.place.at in
    let statement = c.statement_at.result in
    subst (λ (gs : List Form). IsStatementAt gs p.numbers.items c.args.import at statement) kept
    (subst (λ (ns : List ℕ). IsStatementAt fs ns c.args.import at statement) c.deref-2.ensures.value c.statement_at.ensures)
