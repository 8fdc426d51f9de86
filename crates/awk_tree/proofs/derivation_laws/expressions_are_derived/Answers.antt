use Rattle.std.proofs.Common.{subst}
use Rattle.awk_tree.specs.Expressions.{Expr, Derives}
use Rattle.awk_tree.proofs.Derived.{derived}
use Rattle.awk_tree.proofs.Deriving.{deriving_of}
use Rattle.awk_tree.proofs.derivation_laws.expressions_are_derived.Goals as goal

pub returns : goal.returns
returns c = λ g t ts. (λ d. ((derived d).fine, (derived d).parts), λ h. subst (Derives g Expr t) h.1 (deriving_of g t h.0))
