use Rattle.std.proofs.Common.{rules, sym, ap, ◌∙◌}
use Rattle.ere_syntax.specs.Readers.{member_at}
use Rattle.ere_syntax.specs.Reads.{closed_by}
use Rattle.ere_syntax.specs.declared.bracket.Front.{Front}
use Rattle.ere_syntax.proofs.Members.{items_and, read_start, read_next, read_none, read_end, item_less}
use Rattle.ere_syntax.proofs.bracket.members.Goals as goal

pub loop-after-init : goal.loop-after-init
loop-after-init c = record { same = read_start c.empty-set.result.has c.args.text.now c.empty-set.ensures; len = search rules }

pub returns-in-Some : goal.returns-in-Some
returns-in-Some c =
    let s = c.loop-after in
    sym (read_end s.first s.set.has s.rest.now c.in-Some.after.now s.invariant.len (c.in-Some.ensures ∙ ap (λ (f : Front). closed_by f s.rest.now) c.front_of-front.ensures)) ∙ s.invariant.same

pub returns-in-Err : goal.returns-in-Err
returns-in-Err c =
    let s = c.loop-after in
    sym (read_none s.first s.set.has s.rest.now (c.in-None.ensures ∙ ap (λ (f : Front). closed_by f s.rest.now) c.front_of-front.ensures) (c.in-Err.ensures ∙ ap (λ (f : Front). items_and (member_at s.rest.now f)) c.front_of-front.ensures)) ∙ s.invariant.same

pub loop-after-smaller : goal.loop-after-smaller
loop-after-smaller c =
    let s = c.loop-after in
    item_less s.first s.rest.now c.in-Ok.after.now c.in-Ok.item (c.in-Ok.ensures ∙ ap (λ (f : Front). items_and (member_at s.rest.now f)) c.front_of-front.ensures)

pub loop-after-preserved : goal.loop-after-preserved
loop-after-preserved c =
    let s = c.loop-after in
    record {
      same = read_next s.first s.set.has c.insert.new.set.has s.rest.now c.in-Ok.after.now c.in-Ok.item (c.in-Ok.ensures ∙ ap (λ (f : Front). items_and (member_at s.rest.now f)) c.front_of-front.ensures) c.insert.ensures.bytes ∙ s.invariant.same;
      len = c.insert.ensures.size;
    }
