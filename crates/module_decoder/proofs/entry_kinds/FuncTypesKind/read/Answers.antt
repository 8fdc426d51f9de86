use Rattle.std.proofs.lemmas.List.{map-id}
use Rattle.module_decoder.specs.Readers.{both_at, option_at, tagged_at, vec_at}
use Rattle.module_decoder.specs.Reading.{val_type_at}
use Rattle.module_decoder.proofs.Steps.{both_is, mapped_is, tagged_is}
use Rattle.module_decoder.proofs.entry_kinds.FuncTypesKind.read.Goals as goal

pub returns : goal.returns
returns c =
    let s = c.args.reader.now.span in
    mapped_is (λ x. record { params = x.0; result = x.1 }) (tagged_at s 0x60 (both_at (vec_at s (val_type_at s)) (option_at s (val_type_at s))))
    (tagged_is 0x60 (λ p. both_at (vec_at p (val_type_at p)) (option_at p (val_type_at p))) c.tag.ensures
    (both_is (λ p. vec_at p (val_type_at p)) (λ p. option_at p (val_type_at p)) (rw map-id at c.entries-params.ensures) c.result_type-result.ensures))
