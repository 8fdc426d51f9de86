use Rattle.std.proofs.Common.{ℕ, List, [], map, subst, arith}
use Rattle.module_writer.specs.Outputs.{Adds}
use Rattle.module_writer.specs.Writers.{Written, vec_to}
use Rattle.module_writer.proofs.Loops.{not_empty}
use Rattle.module_writer.proofs.sections.entry_section.Goals as goal

pub returns-in-len1-up : goal.returns-in-len1-up
returns-in-len1-up g c =
    let contents : List ℕ → Written = vec_to g.K.Kind.writes (map g.K.Kind.form c.args.all.now) in
    rw (not_empty c.args.id g.K.Kind.writes g.K.Kind.form c.args.all.now c.args.out.now.bytes.items (omega arith)) (c.section.ensures c.new-contents.result (contents []) c.new-contents.ensures.open
    (subst (λ (bytes : List ℕ). Adds c.new-contents.result c.entries.new.out (contents bytes)) c.new-contents.ensures.empty c.entries.ensures))
