use Rattle.std.proofs.Common.{◌∙◌}
use Rattle.indexmap.proofs.CallerLemmas.{insert_entry-new}
use Rattle.host_texts.specs.NameForms.{announced, with_names}
use Rattle.host_texts.proofs.Announced.{none_there}
use Rattle.host_texts.proofs.names.Names.add.Goals as goal

pub returns : goal.returns
returns c inner =
    let names = c.args.self.now in
    let last = c.in_ok-insert.ensures.entries ∙ insert_entry-new _ names.names c.args.text c.args.kind (none_there c.args.text (announced names) c.requires) in
    λ i. record (with_names names inner) { names = last i }
