use Rattle.std.proofs.Common.{◌∙◌, sym}
use Rattle.std.proofs.lemmas.Result.{IfOk-weaker}
use Rattle.awkwasm.proofs.Words.{file_word, not_both}
use Rattle.awkwasm.proofs.refuse.Goals as goal

pub returns-then-is_script_file-clause-err : goal.returns-then-is_script_file-clause-err
returns-then-is_script_file-clause-err c =
    let is = c.is_script_file.ensures.0 c.if-is_script_file.true in
    (is.0, sym (file_word c.args.words.now) ∙ is.1)

pub returns-then-is_text_apart-clause-err : goal.returns-then-is_text_apart-clause-err
returns-then-is_text_apart-clause-err c =
    let is = c.is_text_apart.ensures.0 c.if-is_text_apart.true in
    (is.0, sym (file_word c.args.words.now) ∙ not_both _ _ c.is_script_file.ensures.1 c.if-is_script_file.false is.0, is.1)

pub returns-clause-ok : goal.returns-clause-ok
returns-clause-ok c =
    IfOk-weaker c.tell_refused.result _ _ (λ code is. (
      is,
      λ unknown. (
        sym (file_word c.args.words.now) ∙ not_both _ _ c.is_script_file.ensures.1 c.if-is_script_file.false unknown,
        not_both _ _ c.is_text_apart.ensures.1 c.if-is_text_apart.false unknown,
      ),
    )) c.tell_refused.ensures.ok
