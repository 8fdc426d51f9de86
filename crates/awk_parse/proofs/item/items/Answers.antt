use Rattle.awk_grammar.specs.ReadItem.{script_at}
use Rattle.awk_parse.specs.Seen.{seen}
use Rattle.awk_parse.proofs.Scripts.{why, what}
use Rattle.awk_parse.proofs.item.items.Goals as goal

pub returns-in-Some : goal.returns-in-Some
returns-in-Some c = why _ (seen c.args.tokens.now) _ _ _ (script_at 1000) c.in-Some.is c.all_items-read.ensures

pub returns-in-None : goal.returns-in-None
returns-in-None c = what _ (seen c.args.tokens.now) _ _ (script_at 1000) c.in-None.is c.all_items-read.ensures
