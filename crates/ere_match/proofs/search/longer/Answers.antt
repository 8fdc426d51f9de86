use Rattle.std.proofs.Common.{arith, ap, sym, ◌∙◌, ◌+◌, cond, refl, subst, get_or, Some, true}
use Rattle.std.specs.Prelude.{is_none}
use Rattle.std.proofs.lemmas.Bool.{le-leb}
use Rattle.ere_match.specs.Ends.{raised}
use Rattle.ere_match.specs.Threads.{better_of}
use Rattle.ere_match.specs.Rows.{IsLatest, started}
use Rattle.ere_match.proofs.Ends.{dead_tails, past_dead, tails_wider}
use Rattle.ere_match.proofs.Places.{early_inside}
use Rattle.ere_match.proofs.search.longer.Goals as goal

pub returns-in-Some-clause-best : goal.returns-in-Some-clause-best
returns-in-Some-clause-best c = λ all known early.
    (let start = get_or c.args.starts.now c.in-Some.number 0 in
    sym (ap (λ o. better_of (started c.args.starts.now o) c.args.at (Some c.args.best)) c.in-Some.is
    ∙ ap (λ b. cond b (Some (start, c.args.at)) (Some c.args.best)) (le-leb start c.args.best.0 (early_inside all c.args.row.now c.args.starts.now c.args.best.0 c.in-Some.number known early c.in-Some.is))))

pub returns-in-Some-clause-latest : goal.returns-in-Some-clause-latest
returns-in-Some-clause-latest c = λ early. subst (λ o. IsLatest c.args.row.now c.args.starts.now o (get_or c.args.starts.now c.in-Some.number 0)) (sym c.in-Some.is) refl

pub returns-in-Some-clause-tails : goal.returns-in-Some-clause-tails
returns-in-Some-clause-tails c = λ all text ends t.
    dead_tails all text c.args.at (c.args.at + 1) (is_none c.args.row.now.inside) c.args.row.now (raised c.args.at ends)
    (past_dead all text c.args.at (c.args.at + 1) c.args.best.1 c.args.at true c.args.row.now ends (omega arith) (omega (arith, c.requires.ended)) t)

pub returns-in-None-clause-best : goal.returns-in-None-clause-best
returns-in-None-clause-best c = λ all known early. sym (ap (λ o. better_of (started c.args.starts.now o) c.args.at (Some c.args.best)) c.in-None.is)

pub returns-in-None-clause-latest : goal.returns-in-None-clause-latest
returns-in-None-clause-latest c = λ early. subst (λ o. IsLatest c.args.row.now c.args.starts.now o c.args.best.0) (sym c.in-None.is) early

pub returns-in-None-clause-tails : goal.returns-in-None-clause-tails
returns-in-None-clause-tails c = λ all text ends t.
    tails_wider all text c.args.at (c.args.at + 1) (c.args.at + 1) true (is_none c.args.row.now.inside) c.args.row.now (raised c.args.best.1 ends) (omega arith) (λ _. ap is_none c.in-None.is) t
