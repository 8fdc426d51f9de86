-- Bytes that the decoder refuses are no module.
use Rattle.std.proofs.Common.{◌≡◌, ◌∙◌, ℕ, List, Err, true≢false, sym, ap}
use Rattle.std.specs.Result.{is_ok}
use Rattle.module_decoder.specs.Readers.{Fails}
use Rattle.module_decoder.specs.Reading.{module_at}
use Rattle.module_decoder.specs.declared.fault.DecodeFault.{DecodeFault}
use Rattle.module_decoder.specs.declared.fault.DecodeFault.TheVariants as decoding
use Rattle.module_decoder.proofs.CompleteModule.{module_again}
use Rattle.task_pages.specs.Calls.{IsUnlisted, undecoded}
use Rattle.task_pages.specs.declared.checks.Unlisted.TheVariants.{Decode}

no_module : (bytes : List ℕ) (f : DecodeFault) → module_at bytes ≡ Err f → IsUnlisted bytes (Decode f)
no_module bytes f e = (e, λ m r. true≢false (ap is_ok (sym (module_again bytes m r) ∙ e)))

pub undecoded_answers : (bytes : List ℕ) (f : DecodeFault) → Fails f (module_at bytes) → IsUnlisted bytes (undecoded f)
undecoded_answers bytes decoding.NoMemory r = tt
undecoded_answers bytes decoding.BadHeader r = no_module bytes decoding.BadHeader r
undecoded_answers bytes (decoding.Truncated n) r = no_module bytes (decoding.Truncated n) r
undecoded_answers bytes (decoding.BadSection n) r = no_module bytes (decoding.BadSection n) r
undecoded_answers bytes (decoding.BadInteger n) r = no_module bytes (decoding.BadInteger n) r
undecoded_answers bytes (decoding.BadOpcode n) r = no_module bytes (decoding.BadOpcode n) r
undecoded_answers bytes (decoding.Float n) r = no_module bytes (decoding.Float n) r
undecoded_answers bytes decoding.TooLarge r = no_module bytes decoding.TooLarge r
