use Rattle.std.proofs.Common.{ap, ◌∙◌, arith}
use Rattle.host_texts.specs.States.{specials_of}
use Rattle.std.specs.Prelude.{slice_set}
use Rattle.host_worlds.proofs.SpecialNumbers.{number_within, special_put}
use Rattle.host_worlds.proofs.record.put.Goals as goal

pub returns : goal.returns
returns c =
    let all = c.told-values in
    let within = number_within c.args.special in
    ap (λ n. specials_of (slice_set c.args.values.now n c.args.value)) (c.from.ensures ∙ c.number.ensures) ∙ special_put c.args.values.now c.args.special c.args.value (omega (arith, all, within))
