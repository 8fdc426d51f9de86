use Rattle.std.proofs.Common.{inl, inr, sym, subst}
use Rattle.wasm_types.specs.ModuleGrammar.{IsModule}
use Rattle.wasm_types.specs.Syntax.{ModuleForm}
use Rattle.script_compiler.proofs.compiler.bytes_of.Goals as goal

pub returns-in-Ok-write-clause-ok : goal.returns-in-Ok-write-clause-ok
returns-in-Ok-write-clause-ok c = subst (λ (m : ModuleForm). IsModule c.in-Ok-write.bytes.items m) c.in-Ok.ensures.module c.in-Ok-write.ensures.spelled

pub returns-in-Err-TooLarge-write-clause-err : goal.returns-in-Err-TooLarge-write-clause-err
returns-in-Err-TooLarge-write-clause-err c = inr (λ w q.
    c.in-Err-TooLarge-write.ensures.refused c.in-Err-TooLarge-write.field-0-is w (subst (λ (m : ModuleForm). IsModule w m) (sym c.in-Ok.ensures.module) q))

pub returns-in-Err-TooLarge-clause-err : goal.returns-in-Err-TooLarge-clause-err
returns-in-Err-TooLarge-clause-err c = inl (c.in-Err-TooLarge.ensures.too_large c.in-Err-TooLarge.field-0-is)
