use Rattle.std.proofs.Common.{ap, arith, get_or, sym, ◌∙◌}
use Rattle.std.proofs.lemmas.List.{get_or_default}
use Rattle.std.proofs.lemmas.Result.{on_ok_weaker}
use Rattle.awk_values.specs.declared.value.Value.TheVariants.{Uninit}
use Rattle.std.specs.Prelude.{slice_set}
use Rattle.host_texts.specs.States.{specials_of}
use Rattle.host_worlds.specs.Counts.{next_count}
use Rattle.host_worlds.proofs.SpecialNumbers.{number_within, special_put}
use Rattle.host_worlds.proofs.record.count_in.Goals as goal

pub returns-clause-ok : goal.returns-clause-ok
returns-clause-ok c =
    let all = c.told-values in
    let within = number_within c.args.special in
    let place = c.from.ensures ∙ c.number.ensures in
    on_ok_weaker c.count.result (λ next. (
      c.count.new.value,
      ap (λ v. next_count v) (ap (λ n. get_or c.args.values.now n Uninit) (sym place) ∙ get_or_default c.args.values.now c.from.result Uninit c.index-values-from.result (omega (arith, all, within, place))) ∙ next,
      ap (λ n. specials_of (slice_set c.args.values.now n c.count.new.value)) place ∙ special_put c.args.values.now c.args.special c.count.new.value (omega (arith, all, within)),
    )) c.count.ensures.ok
