use Rattle.wasm_types.proofs.leb128.+raw_at.Given as goal

abbrev pub decreases-raw_at : goal.decreases-raw_at
decreases-raw_at l = l.most
