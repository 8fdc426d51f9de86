use Rattle.std.proofs.Common.{subst, sym}
use Rattle.ere_match.specs.Autos.{IsAutoOf}
use Rattle.host_format.proofs.matcher.Matcher.is_match.Goals as goal

pub returns-clause-found : goal.returns-clause-found
returns-clause-found c = rw (← c.self.view_is) (c.self.invariant.0, c.self.invariant.1, c.in_ok-found.ensures.found c.self.invariant.0 (subst (λ a. IsAutoOf a c.self.invariant.0) (sym c.deref_mut.ensures.value) c.self.invariant.2))
