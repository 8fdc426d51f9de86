use Rattle.std.proofs.Common.{ℕ, List, ◌++◌, Some, subst}
use Rattle.wasm_types.specs.View.{view_module}
use Rattle.wasm_types.specs.ModuleGrammar.{header}
use Rattle.module_writer.specs.Outputs.{Adds}
use Rattle.module_writer.specs.Writers.{Gives}
use Rattle.module_writer.specs.Writing.{fit, from_types_to, module_to}
use Rattle.module_writer.proofs.Loops.{both}
use Rattle.module_writer.proofs.Written.{spelled, least, refused}
use Rattle.module_writer.proofs.sections.write.Goals as goal

pub returns : goal.returns
returns c =
    let m = view_module c.args.m.now in
    let begun : Adds c.new-out.result c.bytes.new.self (Some header) = subst (λ (bytes : List ℕ). Adds c.new-out.result c.bytes.new.self (Some (bytes ++ header))) c.new-out.ensures.empty c.bytes.ensures in
    let gives : Gives c.all.result (module_to m) =
    c.all.ensures c.new-out.result (module_to m) c.new-out.ensures.open
    (both (from_types_to m header) fit (both (Some header) (from_types_to m) begun c.sections.ensures) c.limit.ensures) in
    record {
      spelled = spelled m c.all.result gives;
      shortest = least m c.all.result gives;
      refused = refused m c.all.result gives;
    }
