use Rattle.awk_grammar.specs.Marks.{script_marks}
use Rattle.awk_grammar.specs.Kinds.{same_key, heads, members, pairs}
use Rattle.awk_resolve.proofs.Names.{key_sound, key_refl}
use Rattle.awk_resolve.proofs.Least.{least_is}
use Rattle.awk_resolve.proofs.answer.kinds_are_least.Goals as goal

pub returns : goal.returns
returns c = λ kind script. least_is same_key key_sound key_refl (members kind (heads script) (script_marks script)) (pairs (heads script) (script_marks script))
