use Rattle.std.proofs.Common.{subst, sym, ◌∙◌}
use Rattle.host_bytes.specs.Outcomes.{IsStopOf}
use Rattle.host_streams.specs.declared.reader.FileNext.TheVariants as file
use Rattle.host_worlds.specs.Givens.{kept_by}
use Rattle.host_worlds.specs.States.{Finding, Over, with_tables}
use Rattle.host_worlds.proofs.FileReads.{file_got, file_row_is}
use Rattle.host_worlds.proofs.Kept.{stop_gives}
use Rattle.host_worlds.proofs.files.read.Goals as goal

pub returns-in-Ok-clause-told : goal.returns-in-Ok-clause-told
returns-in-Ok-clause-told g c = λ tells inner value same.
    file_row_is c.args.to value _ _ ∙ file_got (file.Record c.in-Ok-Record.text) c.args.to _ _ c.in-Ok-Record.field-0-is (c.in-Ok-Record.ensures.told tells inner (kept_by c.args.to) value same) ∙ c.in-Ok.ensures.ok (Over (g.W.World.state c.next.new.world)) inner

pub returns-in-Err-keep-clause-told : goal.returns-in-Err-keep-clause-told
returns-in-Err-keep-clause-told g c = λ tells inner value same.
    let now = g.W.World.state c.next.new.world in
    stop_gives _ c.in-Err-keep.stop (with_tables c.keep.new.texts c.keep.new.input (Over now) inner)
    (subst (λ r. IsStopOf r c.in-Err-keep.stop) (sym (file_row_is c.args.to value _ _ ∙ file_got (file.Record c.in-Ok-Record.text) c.args.to _ _ c.in-Ok-Record.field-0-is (c.in-Ok-Record.ensures.told tells inner (kept_by c.args.to) value same)))
    (c.in-Err-keep.ensures.err (Over now) inner))

pub returns-in-Ok-End-clause-told : goal.returns-in-Ok-End-clause-told
returns-in-Ok-End-clause-told g c = λ tells inner value same.
    file_row_is c.args.to value _ _ ∙ file_got file.End c.args.to _ _ c.in-Ok-End.field-0-is (c.in-Ok-End.ensures.told tells inner (kept_by c.args.to) value same)

pub returns-in-Ok-Failed-clause-told : goal.returns-in-Ok-Failed-clause-told
returns-in-Ok-Failed-clause-told g c = λ tells inner value same.
    file_row_is c.args.to value _ _ ∙ file_got file.Failed c.args.to _ _ c.in-Ok-Failed.field-0-is (c.in-Ok-Failed.ensures.told tells inner (kept_by c.args.to) value same)

pub returns-in-Ok-clause-finds : goal.returns-in-Ok-clause-finds
returns-in-Ok-clause-finds g c =
    let finds = c.in-Ok-Record.ensures.finds in (
      finds.0,
      λ later outside inner value same.
          file_row_is c.args.to value _ _ ∙ file_got (file.Record c.in-Ok-Record.text) c.args.to _ _ c.in-Ok-Record.field-0-is (finds.1 later outside inner (kept_by c.args.to) value same) ∙ c.in-Ok.ensures.ok (Finding later) inner,
    )

pub returns-in-Err-keep-clause-finds : goal.returns-in-Err-keep-clause-finds
returns-in-Err-keep-clause-finds g c =
    let finds = c.in-Ok-Record.ensures.finds in (
      finds.0,
      λ later outside inner value same.
          stop_gives _ c.in-Err-keep.stop (with_tables c.keep.new.texts c.keep.new.input (Finding later) inner)
          (subst (λ r. IsStopOf r c.in-Err-keep.stop) (sym (file_row_is c.args.to value _ _ ∙ file_got (file.Record c.in-Ok-Record.text) c.args.to _ _ c.in-Ok-Record.field-0-is (finds.1 later outside inner (kept_by c.args.to) value same)))
          (c.in-Err-keep.ensures.err (Finding later) inner)),
    )

pub returns-in-Ok-End-clause-finds : goal.returns-in-Ok-End-clause-finds
returns-in-Ok-End-clause-finds g c =
    let finds = c.in-Ok-End.ensures.finds in
    (finds.0, λ later outside inner value same. file_row_is c.args.to value _ _ ∙ file_got file.End c.args.to _ _ c.in-Ok-End.field-0-is (finds.1 later outside inner (kept_by c.args.to) value same))

pub returns-in-Ok-Failed-clause-finds : goal.returns-in-Ok-Failed-clause-finds
returns-in-Ok-Failed-clause-finds g c =
    let finds = c.in-Ok-Failed.ensures.finds in
    (finds.0, λ later outside inner value same. file_row_is c.args.to value _ _ ∙ file_got file.Failed c.args.to _ _ c.in-Ok-Failed.field-0-is (finds.1 later outside inner (kept_by c.args.to) value same))
