use Rattle.std.proofs.Common.{◌++◌, ◌∷◌, [], List, ap, ◌∙◌, append_assoc}
use Rattle.wasm_types.specs.declared.types.ValType.{ValType}
use Rattle.wasm_types.specs.declared.types.ValType.TheVariants.{I32}
use Rattle.lower_model.specs.Places.{handle_types}
use Rattle.lower_modules.proofs.LengthsLemmas.{handles_more}
use Rattle.lower_modules.proofs.needs.put_handles.Goals as goal

pub loop-done-preserved : goal.loop-done-preserved
loop-done-preserved c =
    let old = c.args.types.now.items in
    c.in_ok-push.ensures.items ∙ ap (λ (ts : List ValType). ts ++ I32 ∷ []) c.loop-done.invariant ∙ append_assoc old (handle_types c.loop-done._done) (I32 ∷ [])
    ∙ ap (λ (ts : List ValType). old ++ ts) (handles_more c.loop-done._done)
