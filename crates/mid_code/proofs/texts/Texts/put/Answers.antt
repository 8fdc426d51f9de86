use Rattle.std.proofs.Common.{rules, ◌≡◌, false}
use Rattle.mid_code.proofs.TextTables.{put_adds}
use Rattle.mid_code.proofs.texts.Texts.put.Goals as goal

pub returns-then-not-self : goal.returns-then-not-self
returns-then-not-self c =
    let fine : c.args.self.now.is_refused ≡ false = search rules in
    put_adds c.args.self.now _ c.insert.result c.args.text fine c.is_err-self.ensures.value c.insert.ensures.keys
