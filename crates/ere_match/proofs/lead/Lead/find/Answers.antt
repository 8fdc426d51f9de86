use Rattle.std.proofs.Common.{subst, ℕ, Option, drop, take, length, ◌-◌}
use Rattle.memchr.specs.Find.{IsFirstByte}
use Rattle.ere_match.specs.Leads.{lead_has}
use Rattle.ere_match.proofs.Begins.{first_as, none_after, none_before, none_first}
use Rattle.ere_match.proofs.lead.Lead.find.Goals as goal
use Rattle.ere_match.proofs.lead.Lead.find.Goals.{in-Nothing, in-One, in-Two, in-Three}

pub returns-in-Some-clause-none : goal.returns-in-Some-clause-none
returns-in-Some-clause-none c = λ place low high.
    (let h : IsFirstByte (lead_has c.args.self.now) (take (length c.args.text.now - c.args.at) (drop c.args.at c.args.text.now)) c.match-self.found = elim c.match-self.branch [
      | in-Nothing w ↦ first_as c.args.self.now _ (take (length c.args.text.now - c.args.at) (drop c.args.at c.args.text.now)) c.match-self.found _ w.in-Nothing.is w.found-is (none_first (take (length c.args.text.now - c.args.at) (drop c.args.at c.args.text.now)))
      | in-One w ↦ first_as c.args.self.now _ (take (length c.args.text.now - c.args.at) (drop c.args.at c.args.text.now)) c.match-self.found _ w.in-One.is w.found-is w.memchr-found.ensures
      | in-Two w ↦ first_as c.args.self.now _ (take (length c.args.text.now - c.args.at) (drop c.args.at c.args.text.now)) c.match-self.found _ w.in-Two.is w.found-is w.memchr2-found.ensures
      | in-Three w ↦ first_as c.args.self.now _ (take (length c.args.text.now - c.args.at) (drop c.args.at c.args.text.now)) c.match-self.found _ w.in-Three.is w.found-is w.memchr3-found.ensures
    ] in
    none_before (lead_has c.args.self.now) c.args.text.now c.args.at c.in-Some.place place (subst (λ (o : Option ℕ). IsFirstByte (lead_has c.args.self.now) (take (length c.args.text.now - c.args.at) (drop c.args.at c.args.text.now)) o) c.in-Some.is h) low high)

pub returns-in-None-clause-none : goal.returns-in-None-clause-none
returns-in-None-clause-none c = λ place low high.
    (let h : IsFirstByte (lead_has c.args.self.now) (take (length c.args.text.now - c.args.at) (drop c.args.at c.args.text.now)) c.match-self.found = elim c.match-self.branch [
      | in-Nothing w ↦ first_as c.args.self.now _ (take (length c.args.text.now - c.args.at) (drop c.args.at c.args.text.now)) c.match-self.found _ w.in-Nothing.is w.found-is (none_first (take (length c.args.text.now - c.args.at) (drop c.args.at c.args.text.now)))
      | in-One w ↦ first_as c.args.self.now _ (take (length c.args.text.now - c.args.at) (drop c.args.at c.args.text.now)) c.match-self.found _ w.in-One.is w.found-is w.memchr-found.ensures
      | in-Two w ↦ first_as c.args.self.now _ (take (length c.args.text.now - c.args.at) (drop c.args.at c.args.text.now)) c.match-self.found _ w.in-Two.is w.found-is w.memchr2-found.ensures
      | in-Three w ↦ first_as c.args.self.now _ (take (length c.args.text.now - c.args.at) (drop c.args.at c.args.text.now)) c.match-self.found _ w.in-Three.is w.found-is w.memchr3-found.ensures
    ] in
    none_after (lead_has c.args.self.now) c.args.text.now c.args.at place (subst (λ (o : Option ℕ). IsFirstByte (lead_has c.args.self.now) (take (length c.args.text.now - c.args.at) (drop c.args.at c.args.text.now)) o) c.in-None.is h) low high)
