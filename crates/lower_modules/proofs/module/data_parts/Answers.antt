use Rattle.std.proofs.Common.{◌≡◌, [], ◌∷◌, length, ap, ◌∙◌, rules}
use Rattle.std.specs.Vec.{vec_len}
use Rattle.wasm_types.specs.declared.types.Limits.{Limits}
use Rattle.lower_model.specs.Modules.{memory_for}
use Rattle.lower_modules.proofs.module.data_parts.Goals as goal

pub returns : goal.returns
returns c =
    let own_size : vec_len c.args.bytes ≡ length c.args.bytes.items = search rules in
    record {
      memories = c.in_ok-vec.ensures.items ∙ ap (λ (l : Limits). l ∷ []) (c.memory_for.ensures ∙ ap memory_for (c.len-size.ensures ∙ own_size));
      globals = c.in_ok-globals.ensures;
      exports = c.in_ok-exports.ensures;
      segments = c.in_ok-segments.ensures;
    }
