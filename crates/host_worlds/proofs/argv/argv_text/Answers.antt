use Rattle.std.proofs.Common.{None, Some, ◌∙◌}
use Rattle.std.proofs.lemmas.Result.{IfOk-weaker}
use Rattle.host_worlds.proofs.ArgvTexts.{argv_is}
use Rattle.host_worlds.proofs.argv.argv_text.Goals as goal

pub returns-in-Ok : goal.returns-in-Ok
returns-in-Ok c = c.in-Ok.ensures.ok ∙ argv_is c.args.arrays.now c.args.number c.as_bytes.result.now (Some c.in-Some.value.now) (c.as_bytes.ensures ∙ c.key_of-key.ensures) c.in-Some.ensures

pub returns-in-None : goal.returns-in-None
returns-in-None c = IfOk-weaker c.from_slice.result _ _ (λ text h. h ∙ argv_is c.args.arrays.now c.args.number c.as_bytes.result.now None (c.as_bytes.ensures ∙ c.key_of-key.ensures) c.in-None.ensures) c.from_slice.ensures
