use Rattle.agreement.proofs.StoresLemmas.Files.{all_held}
use Rattle.agreement.proofs.stores.files_hold_what_is_printed.Goals as goal

pub returns : goal.returns
returns c = λ prints state end none all t. all_held all none t
