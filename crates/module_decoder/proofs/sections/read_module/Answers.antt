use Rattle.std.proofs.Common.{◌≡◌, true, length, Ok, subst}
use Rattle.std.specs.Prelude.{nat_le}
use Rattle.std.proofs.lemmas.Bool.{le-leb}
use Rattle.wasm_types.specs.ModuleGrammar.{Parts}
use Rattle.module_decoder.specs.View.{view_progress}
use Rattle.module_decoder.specs.Reading.{no_progress, sections_at}
use Rattle.module_decoder.proofs.sections.read_module.Goals as goal

pub returns : goal.returns
returns c =
    let total = length c.args.bytes.now in
    let rest = c.in_ok-rest.rest.now in
    let small : nat_le total 16777216 ≡ true = le-leb total 16777216 c.if-total-gt-MAX_MODULE_BYTES.false in
    let read : sections_at total (length rest) no_progress rest ≡ Ok (view_progress c.sections.new.self) =
    subst (λ (p : Parts). sections_at total (length rest) (record { last = 0; functions = 0; parts = p }) rest ≡ Ok (view_progress c.sections.new.self)) c.new.ensures c.in_ok-sections.ensures in
    rw (c.in_ok-rest.ensures, small, read) c.finish.ensures
