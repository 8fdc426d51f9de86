-- The text of an element of ARGV.
use Rattle.std.proofs.Common.{◌≡◌, ℕ, pos, List, Option, sym, ap, ◌∙◌}
use Rattle.std.specs.Prelude.{decimal}
use Rattle.awk_values.specs.declared.value.Value.{Value}
use Rattle.sem_primitives.specs.InputParts.{text_or_none}
use Rattle.host_arrays.specs.Pairs.{get_pair, pairs_at}
use Rattle.host_values.specs.Forms.{Arrays}
use Rattle.host_values.proofs.Elements.{element-get_pair}
use Rattle.host_worlds.specs.States.{argv_texts}

pub argv_is : (arrays : Arrays) (n : ℕ) (key : List ℕ) (found : Option Value) → key ≡ decimal n → found ≡ get_pair key (pairs_at arrays (pos 0)) → text_or_none found ≡ argv_texts arrays n
argv_is arrays n key found same is =
    ap text_or_none (is ∙ ap (λ (k : List ℕ). get_pair k (pairs_at arrays (pos 0))) same ∙ sym (element-get_pair (decimal n) (pairs_at arrays (pos 0))))
