-- What is known unless memory ran out.
use Rattle.std.proofs.Common.{◌≡◌, inl, inr, ap}
use Rattle.wasm_types.specs.Syntax.{Instructions}
use Rattle.lower_pieces.specs.Emits.{Emits}
use Rattle.lower_pieces.specs.declared.emitted.Emitted.{Emitted}
use Rattle.lower_pieces.proofs.Appended.{Follows, same}
use Rattle.lower_expressions.specs.CodeAt.{Refused, Unrefused}

-- once it ran out, it did so for all that is emitted later
pub still_refused : {a b : Emitted} {code : Instructions → Instructions} → Emits a b code → Refused a → Refused b
still_refused p refused = λ rest whole. p rest whole (refused _ whole)

pub weaker : {a : Emitted} {P Q : Type 0} → (P → Q) → Unrefused a P → Unrefused a Q
weaker f (inl refused) = inl refused
weaker f (inr p) = inr (f p)

-- the same code, by what is known
pub told : {A : Type 0} {a : Emitted} {x y : A} (code : A → Instructions) → Unrefused a (x ≡ y) → Follows a (code x) a (code y)
told code (inl refused) = λ whole h. refused _ whole
told code (inr e) = same (ap code e)
