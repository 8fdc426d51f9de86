use Rattle.std.proofs.Common.{◌≡◌, ◌∙◌, true, sym, rules}
use Rattle.world_os.proofs.BehindLemmas.{open-behind}
use Rattle.world_os.proofs.fenced.FencedWorldWorld.open_write.Goals as goal

pub returns-clause-told : goal.returns-clause-told
returns-clause-told g c = λ told.
    let let_through : g.F.Fence.writes c.args.self.now.fence c.args.name.now ≡ true = search rules in
    open-behind (g.F.Fence.reads c.args.self.now.fence) c.args.name.now c.args.append c.open_write.result _ _
    (sym (g.met.F.Fence.both told.1 c.args.self.now.fence c.args.name.now) ∙ let_through) (c.open_write.ensures.told told.0)
