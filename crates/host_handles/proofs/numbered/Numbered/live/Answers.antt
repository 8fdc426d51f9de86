use Rattle.std.proofs.Common.{ap, sym, ◌∙◌}
use Rattle.std.specs.FinMap as map
use Rattle.host_handles.proofs.TableLemmas.{len-table-count}
use Rattle.host_handles.proofs.numbered.Numbered.live.Goals as goal

pub returns : goal.returns
returns g c = c.len.ensures ∙ sym (len-table-count c.self.inside.slab.slots) ∙ ap map.len c.self.view_is
