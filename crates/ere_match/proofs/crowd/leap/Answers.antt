use Rattle.std.proofs.Common.{rules, arith, ap, sym, ◌∙◌, get_or, false}
use Rattle.ere_match.specs.Rows.{column_at}
use Rattle.ere_match.proofs.Tables.{item_is}
use Rattle.ere_match.proofs.crowd.leap.Goals as goal

pub returns-in-Some-clause-leapt : goal.returns-in-Some-clause-leapt
returns-in-Some-clause-leapt c =
    let class = get_or c.args.classes.now c.from.result 0 in
    let at = item_is c.args.crowd.now.leaps.items c.args.state c.index.result.now (omega (arith, c.requires.crowd.wide, c.requires.state)) c.index.ensures in
    let k = c.requires.crowd.leaps c.args.state class c.in-Some.to (ap (λ o. column_at false o class) at ∙ sym c.at.ensures ∙ c.in-Some.is) in
    record {
      before = k.row;
      was = k.is;
      leap = k.leads c.args.byte (search rules) (ap (λ i. get_or c.args.classes.now i 0) (sym c.from.ensures));
    }
