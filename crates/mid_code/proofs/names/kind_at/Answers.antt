use Rattle.std.proofs.Common.{ap, ◌∙◌}
use Rattle.awk_resolve.specs.declared.function_names.NameKind.{NameKind}
use Rattle.mid_code.proofs.NameTables.{kind_is, kind_past}
use Rattle.mid_code.proofs.names.kind_at.Goals as goal

pub returns-in-Some : goal.returns-in-Some
returns-in-Some c =
    ap (λ (n : NameKind). n.is_array) c.in-Some.ensures.lookup.1 ∙ kind_is c.args.names.now c.args.number c.in-Some.name.now c.in-Some.ensures.lookup.3.0

pub returns-in-None : goal.returns-in-None
returns-in-None c = kind_past c.args.names.now c.args.number c.in-None.ensures.lookup.3
