use Rattle.std.proofs.Common.{◌≡◌, ◌⊎◌, inl, inr, ◌<◌, ◌≤◌, subst, arith}
use Rattle.std.proofs.lemmas.Bool.{cases_lt}
use Rattle.wasm_loader.specs.Laid.{laid}
use Rattle.wasm_machine.specs.StatementAt.{CalledAt}
use Rattle.wasm_machine.proofs.statements.is_called_between.Goals as goal

pub loop-at-preserved : goal.loop-at-preserved
loop-at-preserved c k from to called = by (cases_lt k c.loop-at.at) where
  by : (k < c.loop-at.at) ⊎ (c.loop-at.at ≤ k) → ⊥
  by (inl l) = c.loop-at.invariant k from l called
  by (inr g) =
      let same : k ≡ c.loop-at.at = omega arith in
      c.is_called.ensures.no c.if-is_called.false (subst (CalledAt (laid c.args.layout.now).forms c.args.numbers.now c.args.import) same called)

pub returns-clause-no : goal.returns-clause-no
returns-clause-no c e called = by (cases_lt called.0 c.loop-at.at) where
  by : (called.0 < c.loop-at.at) ⊎ (c.loop-at.at ≤ called.0) → ⊥
  by (inl l) = c.loop-at.invariant called.0 called.1 l called.3
  by (inr g) = let before = called.2 in omega arith
