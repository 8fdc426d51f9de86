use Rattle.std.proofs.Common.{◌≡◌, ◌∙◌, rules}
use Rattle.std.specs.FinMap as map
use Rattle.host_calls.specs.Forms.{host_form}
use Rattle.host_calls.proofs.Live.{counts}
use Rattle.host_calls.proofs.host.Host.live_arrays.Goals as goal

pub returns-clause-counted : goal.returns-clause-counted
returns-clause-counted g c = λ s shown.
    let form = host_form g.W.World.state c.args.self.now in
    let is : c.live.result ≡ map.len form.arrays = search rules in
    is ∙ (counts form s shown).arrays
