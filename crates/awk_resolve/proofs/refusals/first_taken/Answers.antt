use Rattle.std.proofs.Common.{[], sym, ◌∙◌}
use Rattle.awk_resolve.specs.ViewNames.{names, view_heads, view_variables}
use Rattle.awk_resolve.specs.declared.mark.Mark.{Mark}
use Rattle.awk_resolve.specs.declared.mark.Mark.TheVariants.{Defined}
use Rattle.awk_resolve.proofs.Names.{absent}
use Rattle.awk_resolve.proofs.Marks.{no_duplicate, more_defined, more_declared}
use Rattle.awk_resolve.proofs.refusals.first_taken.Goals as goal

pub loop-mark-preserved : goal.loop-mark-preserved
loop-mark-preserved c =
    let ms = c.args.marks.now in
    let i = c.loop-mark.mark-index in
    let d : Mark = Defined (record { ref_ptr = (0, 0); now = [] }) in
    let before = c.loop-mark.invariant in
    let lt = c.loop-mark-test.true in
    let old = c.loop-mark.seen in
    let new = c.note-taken.new.seen in
    let none = sym c.is_some.ensures ∙ c.if-is_some.false in
    let nothing = absent c.note-taken.result none in
    record {
      functions = λ fine. more_defined ms i d (names old.functions.keys) (names new.functions.keys) lt (before.functions (c.note-taken.ensures.taken fine).0) (c.note-taken.ensures.functions fine nothing);
      parameters = λ fine. more_declared ms i d (view_variables old.parameters.keys) (view_variables new.parameters.keys) lt (before.parameters (c.note-taken.ensures.taken fine).0) (c.note-taken.ensures.parameters fine nothing);
      rest = λ fine.
          let was = (c.note-taken.ensures.taken fine).0 in
          no_duplicate (view_heads c.args.scopes.now.heads.items) ms i d c.note-taken.result (names old.functions.keys) (view_variables old.parameters.keys) lt (before.functions was) (before.parameters was) none (c.note-taken.ensures.taken fine).1 ∙ before.rest was;
    }
