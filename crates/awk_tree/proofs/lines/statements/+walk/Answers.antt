use Rattle.std.proofs.Common.{◌++◌, ap, ◌∙◌}
use Rattle.std.proofs.lemmas.Result.{on_ok_weaker}
use Rattle.awk_grammar.specs.Stmt.{print_stmt}
use Rattle.awk_tree.specs.Lexemes.{lexemes}
use Rattle.awk_grammar.proofs.Views.{block_is}
use Rattle.awk_tree.specs.Lines.{stmt_places}
use Rattle.awk_tree.proofs.lines.statements.+walk.Goals as goal

pub statement-returns-in-Block-clause-tokens : goal.statement-returns-in-Block-clause-tokens
statement-returns-in-Block-clause-tokens t c =
    on_ok_weaker c.action.result (λ h. h ∙ ap (λ u. lexemes c.args.tokens.now.items ++ print_stmt u) (block_is c.args.s.now c.in-Block.body _ c.in-Block.is c.deref.ensures.value)) c.action.ensures.tokens

pub statement-returns-in-Block-clause-places : goal.statement-returns-in-Block-clause-places
statement-returns-in-Block-clause-places t c =
    on_ok_weaker c.action.result (λ h. h ∙ ap (λ u. c.args.places.now.items ++ stmt_places (lexemes c.args.tokens.now.items) u) (block_is c.args.s.now c.in-Block.body _ c.in-Block.is c.deref.ensures.value)) c.action.ensures.places
