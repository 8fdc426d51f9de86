use Rattle.std.proofs.Common.{◌+◌, ◌++◌, ap, arith, drop, length, length-drop, sym, take}
use Rattle.sem_primitives.specs.TextMeaning.{escaped, replacement}
use Rattle.host_bytes.proofs.Grown.{grows_both, grows_same}
use Rattle.host_bytes.proofs.Rests.{rest_of}
use Rattle.host_bytes.proofs.Replaced.{at_ampersand, at_backslash, no_special}
use Rattle.host_bytes.proofs.replacement.put_replacement.Goals as goal

pub loop-at-preserved-then-rest-at-eq38 : goal.loop-at-preserved-then-rest-at-eq38
loop-at-preserved-then-rest-at-eq38 c =
    let out = c.loop-at.out in
    let next = c.put.new.self in
    let last = c.put-then-rest-at-eq38.new.self in
    let rest = c.loop-at.rest.now in
    let at = c.in-Some.at in
    let matched = c.args.matched.now in
    let left = replacement matched (drop (at + 1) rest) in
    record {
      short = (let short = c.loop-at.invariant.short in omega (arith, short, length-drop (at + 1) rest, ap length (rest_of rest (at + 1))));
      grows = λ end g. c.loop-at.invariant.grows end
          (grows_same out end _ _ (sym (at_ampersand matched rest at c.in-Some.ensures c.if-rest-at-eq38.true))
          (grows_both out next end (take at rest) (matched ++ left) c.put.ensures
          (grows_both next last end matched left c.put-then-rest-at-eq38.ensures
          (grows_same last end _ _ (ap (λ xs. replacement matched xs) (rest_of rest (at + 1))) g))));
    }

pub loop-at-preserved : goal.loop-at-preserved
loop-at-preserved c =
    let out = c.loop-at.out in
    let next = c.put.new.self in
    let rest = c.loop-at.rest.now in
    let at = c.in-Some.at in
    let matched = c.args.matched.now in
    record {
      short = (let short = c.loop-at.invariant.short in let less = c.put_escaped-rest.ensures.left in omega (arith, short, less, length-drop (at + 1) rest, ap length (rest_of rest (at + 1))));
      grows = λ end g. c.loop-at.invariant.grows end
          (grows_same out end _ _ (sym (at_backslash matched rest at c.in-Some.ensures c.if-rest-at-eq38.false))
          (grows_both out next end (take at rest) (escaped matched (drop (at + 1) rest)) c.put.ensures
          (grows_same next end _ _ (ap (λ xs. escaped matched xs) (rest_of rest (at + 1))) (c.put_escaped-rest.ensures.grows matched end g))));
    }

pub returns : goal.returns
returns c =
    let rest = c.loop-at.rest.now in
    let last = c.put-2.new.self in
    c.loop-at.invariant.grows last (grows_same c.loop-at.out last rest _ (sym (no_special c.args.matched.now rest c.in_default.ensures)) c.put-2.ensures)
