use Rattle.value_kinds.proofs.Whole.{unboxes}
use Rattle.value_kinds.proofs.number_names.names_of_numbers_are_unboxed.Goals as goal

pub returns : goal.returns
returns c = unboxes c.numbers_are_unboxed.ensures
