-- A reader that gives a module has given it, or there was no memory.
use Rattle.std.proofs.Common.{◌≡◌, Result, Ok, Err, refl, sym}
use Rattle.std.specs.Prelude.{MatchResult}
use Rattle.wasm_types.specs.declared.module.Module.{Module}
use Rattle.wasm_types.specs.Syntax.{ModuleForm}
use Rattle.wasm_types.specs.View.{view_module}
use Rattle.module_decoder.specs.declared.fault.DecodeFault.{DecodeFault}
use Rattle.module_decoder.specs.declared.fault.DecodeFault.TheVariants.{BadHeader, Truncated, BadSection, BadInteger, BadOpcode, Float, TooLarge, NoMemory}
use Rattle.module_decoder.specs.Readers.{Gives}

abbrev read : ModuleForm → Result ModuleForm DecodeFault
read m = Ok m

ok_is : (m n : ModuleForm) → read m ≡ read n → m ≡ n
ok_is m n e = cc

no_fault : (m : ModuleForm) (e : DecodeFault) → read m ≡ Err e → ⊥
no_fault m e h = absurd cc

pub given_again : (m : ModuleForm) (r : Result Module DecodeFault) → Gives view_module r (Ok m) → MatchResult r (λ n. view_module n ≡ m) (λ e. e ≡ NoMemory)
given_again m (Ok n) h = sym (ok_is m (view_module n) h)
given_again m (Err NoMemory) h = refl
given_again m (Err BadHeader) h = absurd (no_fault m BadHeader h)
given_again m (Err (Truncated n)) h = absurd (no_fault m (Truncated n) h)
given_again m (Err (BadSection n)) h = absurd (no_fault m (BadSection n) h)
given_again m (Err (BadInteger n)) h = absurd (no_fault m (BadInteger n) h)
given_again m (Err (BadOpcode n)) h = absurd (no_fault m (BadOpcode n) h)
given_again m (Err (Float n)) h = absurd (no_fault m (Float n) h)
given_again m (Err TooLarge) h = absurd (no_fault m TooLarge h)
