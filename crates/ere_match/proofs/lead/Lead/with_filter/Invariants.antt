use Rattle.std.proofs.Common.{◌≡◌, ℕ, ◌<◌, true, get_or}
use Rattle.std.specs.Prelude.{false}
use Rattle.ere_match.specs.Leads.{IsWider, lead_has}
use Rattle.ere_match.specs.Runs.{filter_set}
use Rattle.ere_match.proofs.lead.Lead.with_filter.Given as goal

abbrev pub invariant-loop-byte : goal.invariant-loop-byte
invariant-loop-byte l = record {
  wider : IsWider l.fn.self l.lead;
  has : (b : ℕ) → b < l.byte → get_or (filter_set l.filter) b false ≡ true → lead_has l.lead b ≡ true;
}
