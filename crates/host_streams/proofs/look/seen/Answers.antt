use Rattle.std.proofs.Common.{ℕ, ◌+◌, ◌<◌, ◌^◌, sym, subst, arith}
use Rattle.host_streams.specs.Looks.{IsThere}
use Rattle.host_streams.proofs.Finding.{rest_is}
use Rattle.host_streams.proofs.Cuts.{there, there_long, open_long, open_more}
use Rattle.host_streams.proofs.look.seen.Goals as goal

pub returns-then-to-gt-MAX_TEXT : goal.returns-then-to-gt-MAX_TEXT
returns-then-to-gt-MAX_TEXT c = let h = rw (rest_is c.skipped-from.result c.args.bytes.now) at c.in-Some.ensures in
    there_long c.args.rs c.args.bytes.now c.skipped-from.result c.in-Some.len (sym c.skipped-from.ensures.value) (omega (arith, c.skipped-from.ensures.within)) h.0 h.1 c.if-to-gt-MAX_TEXT.true

pub returns-then-to-gt-MAX_TEXT-2 : goal.returns-then-to-gt-MAX_TEXT-2
returns-then-to-gt-MAX_TEXT-2 c =
    let h = rw (rest_is c.skipped-from.result c.args.bytes.now) at c.in-None.ensures in
    let t = rw (rest_is c.skipped-from.result c.args.bytes.now) at c.trimmed.ensures.value in
    open_long c.args.rs c.args.bytes.now c.skipped-from.result (sym c.skipped-from.ensures.value) (omega (arith, c.skipped-from.ensures.within)) h (subst (λ (k : ℕ). 2 ^ 26 < c.skipped-from.result + k) t c.if-to-gt-MAX_TEXT-2.true)

pub returns-else-to-gt-MAX_TEXT : goal.returns-else-to-gt-MAX_TEXT
returns-else-to-gt-MAX_TEXT c =
    let h = rw (rest_is c.skipped-from.result c.args.bytes.now) at c.in-Some.ensures in
    subst (λ (w : ℕ). IsThere c.args.rs c.args.bytes.now c.skipped-from.result (c.skipped-from.result + c.in-Some.len) (c.skipped-from.result + c.in-Some.len + w)) (sym c.width.ensures.value)
    (there c.args.rs c.args.bytes.now c.skipped-from.result c.in-Some.len (sym c.skipped-from.ensures.value) (omega (arith, c.skipped-from.ensures.within)) h.0 h.1 c.if-to-gt-MAX_TEXT.false)

pub returns-else-to-gt-MAX_TEXT-2 : goal.returns-else-to-gt-MAX_TEXT-2
returns-else-to-gt-MAX_TEXT-2 c =
    let h = rw (rest_is c.skipped-from.result c.args.bytes.now) at c.in-None.ensures in
    let t = rw (rest_is c.skipped-from.result c.args.bytes.now) at c.trimmed.ensures.value in
    let m = rw (rest_is c.skipped-from.result c.args.bytes.now) at c.trimmed.ensures.most in
    let s = rw (rest_is c.skipped-from.result c.args.bytes.now) at c.searched.ensures in
    open_more c.args.rs c.args.bytes.now c.skipped-from.result c.trimmed.result c.searched.result (sym c.skipped-from.ensures.value) (omega (arith, c.skipped-from.ensures.within)) h t c.if-to-gt-MAX_TEXT-2.false m s
