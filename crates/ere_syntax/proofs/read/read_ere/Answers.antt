use Rattle.ere_syntax.proofs.Wholes.{bad_is, tree_answer, refused_answer}
use Rattle.ere_syntax.proofs.read.read_ere.Goals as goal

pub returns-in-Err-clause-refused : goal.returns-in-Err-clause-refused
returns-in-Err-clause-refused c = bad_is c.args.text.now c.place.result c.place.ensures c.in-Err.ensures

pub returns-in-Ok-clause-tree : goal.returns-in-Ok-clause-tree
returns-in-Ok-clause-tree c = tree_answer c.args.text.now c.build.result c.build.ensures

pub returns-in-Ok-clause-refused : goal.returns-in-Ok-clause-refused
returns-in-Ok-clause-refused c = refused_answer c.args.text.now c.build.result (c.in-Ok.ensures {u = tt}) c.build.ensures
