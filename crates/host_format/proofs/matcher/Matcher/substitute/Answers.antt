use Rattle.std.proofs.Common.{subst, sym}
use Rattle.ere_match.specs.Autos.{IsAutoOf}
use Rattle.host_format.proofs.matcher.Matcher.substitute.Goals as goal

pub returns-in-Err-clause-err : goal.returns-in-Err-clause-err
returns-in-Err-clause-err c = rw (← c.self.view_is) (c.self.invariant.0, c.self.invariant.1, c.in-Err.ensures.err c.self.invariant.0 (subst (λ a. IsAutoOf a c.self.invariant.0) (sym c.deref_mut.ensures.value) c.self.invariant.2))
