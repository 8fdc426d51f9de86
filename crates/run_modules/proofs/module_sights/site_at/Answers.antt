use Rattle.std.proofs.Common.{rules, ℕ, subst}
use Rattle.wasm_machine.specs.Places.{HasStatement}
use Rattle.run_modules.proofs.module_sights.site_at.Goals as goal

pub returns : goal.returns
returns c = record {
  statement = subst (λ (n : ℕ). HasStatement c.args.machine.now.program n c.args.at c.statement-place.result) c.number.ensures c.statement-place.ensures;
  line = search rules;
  name = search rules;
}
