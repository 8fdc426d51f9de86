use Rattle.std.proofs.Common.{◌∙◌, ap}
use Rattle.world_os.specs.Named.{is_one_borrowed}
use Rattle.world_os.proofs.NameLemmas.{one_of_borrowed}
use Rattle.world_os.proofs.fenced_names.Names.contains.Goals as goal

pub returns : goal.returns
returns c = c.is_in.ensures ∙ ap (λ names. is_one_borrowed names c.args.name.now) c.deref.ensures.value
    ∙ c.args.self.now.same c.args.name.now ∙ one_of_borrowed c.args.self.now.listed.now c.args.name.now
