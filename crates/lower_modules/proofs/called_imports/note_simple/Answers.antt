use Rattle.std.proofs.Common.{◌≡◌, ℕ, ◌<◌, ◌≤◌, length, refl, sym, ap, ◌∙◌, arith}
use Rattle.wasm_types.specs.declared.instr.Simple.{Simple}
use Rattle.wasm_types.specs.declared.instr.Simple.TheVariants.{Call}
use Rattle.lower_model.specs.Modules.{is_call}
use Rattle.lower_modules.specs.Calls.{noted}
use Rattle.lower_modules.proofs.Noted.{noted_none, noted_one, noted_past}
use Rattle.lower_modules.proofs.called_imports.note_simple.Goals as goal

pub returns-then-number-called : goal.returns-then-number-called
returns-then-number-called c =
    let below = c.if-number-called.true in
    let inside : c.in-Call.number < length c.args.called.now = omega (arith, below) in
    sym (noted_one c.in-Call.number c.args.called.now inside) ∙ ap (λ (p : Simple). noted (λ i. is_call i p) c.args.called.now) (sym c.in-Call.is)

pub returns-else-number-called : goal.returns-else-number-called
returns-else-number-called c =
    let past = c.if-number-called.false in
    let outside : length c.args.called.now ≤ c.in-Call.number = omega (arith, past) in
    sym (noted_past c.in-Call.number c.args.called.now outside) ∙ ap (λ (p : Simple). noted (λ i. is_call i p) c.args.called.now) (sym c.in-Call.is)

pub returns-in_default : goal.returns-in_default
returns-in_default c = other c.args.simple c.in_default.not-Call
  where
    other : (p : Simple) → ((n : ℕ) → p ≡ Call n → ⊥) → c.args.called.now ≡ noted (λ i. is_call i p) c.args.called.now
    other (Call n) h = absurd (h n refl)
    other p h = sym (noted_none c.args.called.now)
