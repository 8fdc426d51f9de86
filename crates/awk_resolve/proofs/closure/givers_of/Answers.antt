use Rattle.std.proofs.Common.{ℕ, ◌+◌, ◌<◌, ◌++◌, ◌∷◌, [], List, drop, get_or, length, length-set, ap, sym, subst, ◌∙◌}
use Rattle.std.specs.Global.{Vec}
use Rattle.awk_resolve.specs.Waiting.{given_for, numbers_at}
use Rattle.awk_resolve.proofs.Names.{drop_any}
use Rattle.awk_resolve.proofs.Waiting.{at_get, numbers_set}
use Rattle.awk_resolve.proofs.closure.givers_of.Goals as goal

pub loop-given-preserved : goal.loop-given-preserved
loop-given-preserved c =
    let ps = c.args.pairs.now in
    let i = c.loop-given.given-index in
    let lt = c.loop-given-test.true in
    let d : ℕ × ℕ = (0, 0) in
    let p = get_or ps i d in
    let gs = c.loop-given.givers.items in
    let v = c.push.new.self in
    let before = c.loop-given.invariant in
    let small : p.1 < length gs = subst (λ (k : ℕ). p.1 < k) (sym before.length) (c.requires i d lt).1 in
    record {
      length = length-set gs p.1 v ∙ before.length;
      rest = λ n. numbers_set gs p.1 p.0 v (given_for (drop (i + 1) ps) n) n small (c.in_ok-push.ensures.items ∙ ap (λ (u : Vec ℕ). u.items ++ p.0 ∷ []) c.index_mut.ensures.value ∙ ap (λ (xs : List ℕ). xs ++ p.0 ∷ []) (at_get gs p.1 c.index_mut.result.now small))
          ∙ sym (ap (λ (qs : List (ℕ × ℕ)). numbers_at gs n ++ given_for qs n) (drop_any ps i d lt)) ∙ before.rest n;
    }
