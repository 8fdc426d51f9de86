use Rattle.awk_grammar.proofs.Views.{view_block}
use Rattle.awk_parse.proofs.statement_node.block_of.Goals as goal

pub returns-clause-read : goal.returns-clause-read
returns-clause-read c = rw (← view_block c.args.inner) c.on_heap.ensures.read

pub returns-clause-held : goal.returns-clause-held
returns-clause-held c = c.on_heap.ensures.held
