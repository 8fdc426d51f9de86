use Rattle.std.proofs.Common.{◌≡◌, ◌+◌, ◌≤◌, length, Some, None, map, sym, ap, ◌∙◌, arith, inr, rules}
use Rattle.std.specs.Global.{Vec}
use Rattle.awk_tokens.specs.declared.token.Token.{Token}
use Rattle.awk_tokens.specs.Cutting.{divides}
use Rattle.awk_tokens.specs.Reading.{front_of, raw_of}
use Rattle.awk_tokens.specs.State.{context_of, with_front}
use Rattle.awk_tokens.specs.Views.{spelled}
use Rattle.awk_tokens.proofs.Steps.{cut_start, cut_ended, front_within, refused_here, cut_next, pushed_front}
use Rattle.std.proofs.lemmas.Grind.{common_steps}
use Rattle.awk_tokens.proofs.cut.cut.Goals as goal
use Rattle.awk_tokens.proofs.cut.cut.Goals.{in-Some-kept+in_ok-push+in_ok-push-2, in_default-kept}

pub loop-rest-init : goal.loop-rest-init
loop-rest-init c = cut_start c.in_ok-tokens.tokens.items (context_of c.new-before.result) c.args.script.now c.in_ok-tokens.ensures.items c.new-before.ensures

pub split_at-requires : goal.split_at-requires
split_at-requires c =
    front_within _ _ c.in-Some.piece c.in-Some.more (sym (ap (λ b. front_of b c.loop-rest.rest.now) c.divides-division.ensures) ∙ sym c.in-Some.ensures)

pub overflow_add-more : goal.overflow_add-more
overflow_add-more c =
    let w : c.in-Some.more + 1 ≤ length c.loop-rest.rest.now = front_within _ _ c.in-Some.piece c.in-Some.more (sym (ap (λ b. front_of b c.loop-rest.rest.now) c.divides-division.ensures) ∙ sym c.in-Some.ensures) in
    grind (arith, common_steps, w)

pub returns-clause-found : goal.returns-clause-found
returns-clause-found c = let e : length c.loop-rest.rest.now ≡ 0 = search rules in cut_ended c.loop-rest.invariant.turns c.loop-rest.line (context_of c.loop-rest.before) c.loop-rest.rest.now (map spelled c.loop-rest.tokens.items) (raw_of c.args.script.now) e c.loop-rest.invariant.told

pub returns-in_default-clause-refused : goal.returns-in_default-clause-refused
returns-in_default-clause-refused c =
    let some : 1 ≤ length c.loop-rest.rest.now = search rules in
    inr (refused_here c.divides-division.result c.loop-rest.invariant.turns c.loop-rest.line (context_of c.loop-rest.before) c.loop-rest.rest.now (map spelled c.loop-rest.tokens.items) _ _ some c.loop-rest.invariant.enough
    c.divides-division.ensures (sym c.front.ensures ∙ c.in_default.is) c.refused.ensures c.loop-rest.invariant.told)

pub loop-rest-preserved : goal.loop-rest-preserved
loop-rest-preserved c =
    let some : 1 ≤ length c.loop-rest.rest.now = search rules in
    let f : front_of (divides (context_of c.loop-rest.before)) c.loop-rest.rest.now ≡ Some (c.in-Some.piece, c.in-Some.more) = sym (ap (λ b. front_of b c.loop-rest.rest.now) c.divides-division.ensures) ∙ sym c.in-Some.ensures in
    let k = c.kind_kept-kept.ensures in
    elim c.match-kept.branch [
      | in-Some-kept+in_ok-push+in_ok-push-2 w ↦ (
          let e = ap (λ (v : Vec Token). v.items) w.tokens-is ∙ w.in_ok-push-2.ensures.items in
          cut_next c.loop-rest.tokens.items c.match-kept.tokens.items (context_of c.loop-rest.before) (context_of c.match-kept.before) c.loop-rest.line c.count_newlines-line.result c.loop-rest.rest.now c.split_at.result.0.now c.split_at.result.1.now c.args.script.now c.in-Some.piece c.in-Some.more (Some w.in-Some-kept.kind) some c.loop-rest.invariant f c.split_at.ensures.front c.split_at.ensures.back (sym w.in-Some-kept.is ∙ k) c.count_newlines-line.ensures.count c.count_newlines-line.ensures.few
          (ap context_of w.before-is ∙ w.in_ok-push.ensures) (pushed_front _ _ _ e))
      | in_default-kept w ↦ (
          cut_next c.loop-rest.tokens.items c.match-kept.tokens.items (context_of c.loop-rest.before) (context_of c.match-kept.before) c.loop-rest.line c.count_newlines-line.result c.loop-rest.rest.now c.split_at.result.0.now c.split_at.result.1.now c.args.script.now c.in-Some.piece c.in-Some.more None some c.loop-rest.invariant f c.split_at.ensures.front c.split_at.ensures.back (sym w.in_default-kept.is ∙ k) c.count_newlines-line.ensures.count c.count_newlines-line.ensures.few
          (ap context_of w.before-is) (λ r. ap (λ (v : Vec Token). with_front (map spelled v.items) r) (sym w.tokens-is)))
    ]
