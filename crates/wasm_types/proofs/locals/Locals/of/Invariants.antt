use Rattle.std.proofs.Common.{◌≡◌, take}
use Rattle.wasm_types.proofs.locals.Locals.of.Given as goal

abbrev pub invariant-loop-ty : goal.invariant-loop-ty
invariant-loop-ty l = l.locals ≡ take l.ty-index l.types
