use Rattle.std.proofs.Common.{◌++◌, ◌∷◌, [], List, ap, ◌∙◌, append_assoc}
use Rattle.wasm_types.specs.declared.types.ValType.{ValType}
use Rattle.wasm_types.specs.declared.types.ValType.TheVariants.{I32, I64}
use Rattle.lower_model.specs.Places.{temporary_types}
use Rattle.lower_modules.proofs.LengthsLemmas.{temporaries_more}
use Rattle.lower_modules.proofs.needs.put_temporaries.Goals as goal

pub loop-done-preserved : goal.loop-done-preserved
loop-done-preserved c =
    let old = c.args.types.now.items in
    let some = temporary_types c.loop-done._done in
    let first = c.in_ok-push.ensures.items ∙ ap (λ (ts : List ValType). ts ++ I32 ∷ []) c.loop-done.invariant ∙ append_assoc old some (I32 ∷ []) in
    c.in_ok-push-2.ensures.items ∙ ap (λ (ts : List ValType). ts ++ I64 ∷ []) first ∙ append_assoc old (some ++ I32 ∷ []) (I64 ∷ [])
    ∙ ap (λ (ts : List ValType). old ++ ts) (temporaries_more c.loop-done._done)
