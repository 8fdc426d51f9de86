use Rattle.std.proofs.Common.{ℕ, ◌+◌, ◌++◌, drop, map, ap, sym, ◌∙◌}
use Rattle.std.specs.declared.vec.Vec.{Vec}
use Rattle.std.specs.declared.alloc.Global.{Global}
use Rattle.awk_tokens.specs.Views.{spelled}
use Rattle.awk_parse.specs.Jumps.{jump_lines}
use Rattle.awk_parse.proofs.Places.{line_less, line_more}
use Rattle.awk_parse.proofs.placed.jump_lines.Goals.{then-is_jump+in_ok-push, else-is_jump}
use Rattle.awk_parse.proofs.placed.jump_lines.Goals as goal

pub loop-token-preserved : goal.loop-token-preserved
loop-token-preserved c =
    let lines = c.loop-token.lines.items in
    let tokens = c.args.tokens.now in
    let i = c.loop-token.token-index in
    elim c.if-is_jump.branch [
      | then-is_jump+in_ok-push w ↦
          line_more lines c.if-is_jump.lines.items tokens i _ c.loop-token-test.true (sym w.if-is_jump.true ∙ c.is_jump.ensures)
          (ap (λ (v : Vec ℕ Global). v.items) w.lines-is ∙ w.in_ok-push.ensures.items)
          ∙ c.loop-token.invariant
      | else-is_jump w ↦
          ap (λ (v : Vec ℕ Global). v.items ++ jump_lines (map spelled (drop (i + 1) tokens))) w.lines-is
          ∙ line_less lines tokens i _ c.loop-token-test.true (sym w.if-is_jump.false ∙ c.is_jump.ensures)
          ∙ c.loop-token.invariant
    ]
