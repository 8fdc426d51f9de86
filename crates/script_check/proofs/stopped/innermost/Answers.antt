use Rattle.std.proofs.Common.{◌≡◌, ◌∙◌, ◌+◌, ◌-◌, ◌≤◌, ℕ, Option, Some, Bool, true, false, ap, arith, sym}
use Rattle.awk_tokens.specs.declared.token.TokenKind.{TokenKind}
use Rattle.script_check.specs.Layout.{kind_at}
use Rattle.script_check.specs.Stopped.{closes, innermost, opens}
use Rattle.script_check.proofs.Searched.{at_closing, at_inner_opening, at_opening, at_other}
use Rattle.script_check.proofs.stopped.innermost.Goals as goal
use Rattle.script_check.proofs.stopped.innermost.Goals.{then-closes, else-closes+then-opens+else-closed-eq0, else-closes+else-opens}

-- a test of the kind that was read
told : (test : Option TokenKind → Bool) (kind read : Option TokenKind) (answer so : Bool) → read ≡ kind → answer ≡ test read → answer ≡ so → test kind ≡ so
told test kind read answer so is by so_it_is = ap test (sym is) ∙ sym by ∙ so_it_is

pub returns-then-closed-eq0 : goal.returns-then-closed-eq0
returns-then-closed-eq0 c =
    let tokens = c.args.tokens.now in
    let back = c.loop-back.back in
    let i = c.args.end - 1 - back in
    let one : c.args.end - back ≡ i + 1 = omega arith in
    at_opening tokens c.loop-back.closed i (c.args.end - back) (innermost tokens 0 c.args.end) one c.loop-back.invariant.rest (told closes (kind_at tokens i) c.kind_at-kind.result c.closes.result false c.kind_at-kind.ensures c.closes.ensures c.if-closes.false)
    (told opens (kind_at tokens i) c.kind_at-kind.result c.opens.result true c.kind_at-kind.ensures c.opens.ensures c.if-opens.true) c.if-closed-eq0.true

pub loop-back-preserved : goal.loop-back-preserved
loop-back-preserved c =
    let tokens = c.args.tokens.now in
    let back = c.loop-back.back in
    let closed = c.loop-back.closed in
    let i = c.args.end - 1 - back in
    let n = c.args.end - back in
    let place = c.args.end - (back + 1) in
    let found = innermost tokens 0 c.args.end in
    let one : n ≡ i + 1 = omega arith in
    let at : place ≡ i = omega arith in
    record {
      few = elim c.if-closes.branch [ then-closes w ↦ omega arith | else-closes+then-opens+else-closed-eq0 w ↦ omega arith | else-closes+else-opens w ↦ omega arith ];
      rest =
          elim c.if-closes.branch [
            | then-closes w ↦ at_closing tokens closed i n found one c.loop-back.invariant.rest c.if-closes.closed place w.closed-is at
                (told closes (kind_at tokens i) c.kind_at-kind.result c.closes.result true c.kind_at-kind.ensures c.closes.ensures w.if-closes.true)
            | else-closes+then-opens+else-closed-eq0 w ↦ at_inner_opening tokens closed i n found one c.loop-back.invariant.rest c.if-closes.closed place w.closed-is at
                (told closes (kind_at tokens i) c.kind_at-kind.result c.closes.result false c.kind_at-kind.ensures c.closes.ensures w.if-closes.false)
                (told opens (kind_at tokens i) c.kind_at-kind.result w.opens.result true c.kind_at-kind.ensures w.opens.ensures w.if-opens.true) w.if-closed-eq0.false
            | else-closes+else-opens w ↦ at_other tokens closed i n found one c.loop-back.invariant.rest c.if-closes.closed place w.closed-is at
                (told closes (kind_at tokens i) c.kind_at-kind.result c.closes.result false c.kind_at-kind.ensures c.closes.ensures w.if-closes.false)
                (told opens (kind_at tokens i) c.kind_at-kind.result w.opens.result false c.kind_at-kind.ensures w.opens.ensures w.if-opens.false)
          ];
    }
