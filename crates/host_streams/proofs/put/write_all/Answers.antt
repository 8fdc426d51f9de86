use Rattle.std.proofs.Common.{◌≡◌, ◌<◌, ◌≤◌, length, arith, Err, List, ℕ, ◌-◌, take, drop, ap, length-drop, subst, ◌∙◌}
use Rattle.std.proofs.lemmas.Result.{err_from_is_err_and}
use Rattle.world_core.specs.Calls.{Writes, WritesSome}
use Rattle.host_streams.proofs.Given.{fails_next, writes_next}
use Rattle.host_streams.proofs.Writing.{rest_is, fits_next, part_next, put_fails, size_all, size_fails}
use Rattle.host_streams.proofs.Begun.{on_err, put_begins}
use Rattle.host_streams.proofs.put.write_all.Goals as goal

pub returns-in_err-n-clause-told : goal.returns-in_err-n-clause-told
returns-in_err-n-clause-told g c =
    let p = err_from_is_err_and c.from_residual.result c.from_residual.ensures.1 in
    let at_test : c.loop-at.at < length c.args.text.now = c.loop-at-test.true in rw (p.1, p.2) (λ tells.
    put_fails c.loop-at.at c.args.id c.args.text.now _ _ _ c.in_err-n.field-0.0 at_test (c.loop-at.invariant.fits tells) (c.loop-at.invariant.does tells) (subst (λ (piece : List ℕ). Writes c.args.id piece (g.W.World.state c.loop-at.world) (Err c.in_err-n.field-0.0) (g.W.World.state c.write.new.self)) (rest_is c.loop-at.at c.args.text.now) (c.in_err-n.ensures.told tells)))

pub loop-at-preserved : goal.loop-at-preserved
loop-at-preserved g c = record {
  within = let e : length (take (length c.args.text.now - c.loop-at.at) (drop c.loop-at.at c.args.text.now)) ≡ length c.args.text.now - c.loop-at.at = ap length (rest_is c.loop-at.at c.args.text.now) ∙ length-drop c.loop-at.at c.args.text.now in omega (arith, c.in_ok-n.ensures.within);
  kinds = c.in_ok-n.ensures.kinds ∙ c.loop-at.invariant.kinds;
  count = c.in_ok-n.ensures.count ∙ c.loop-at.invariant.count;
  made = writes_next g.W.World.did _ _ _ c.args.id c.loop-at.at c.in_ok-n.n c.args.text.now c.loop-at.invariant.made c.in_ok-n.ensures.did;
  fits = λ tells. fits_next c.loop-at.at c.in_ok-n.n c.args.id c.args.text.now _ _ _ c.loop-at.invariant.within (c.loop-at.invariant.fits tells) (c.loop-at.invariant.does tells) (subst (λ (piece : List ℕ). WritesSome c.args.id c.in_ok-n.n piece (g.W.World.state c.loop-at.world) (g.W.World.state c.write.new.self)) (rest_is c.loop-at.at c.args.text.now) (c.in_ok-n.ensures.told tells));
  does = λ tells. part_next c.loop-at.at c.in_ok-n.n c.args.id c.args.text.now _ _ _ (c.loop-at.invariant.does tells) (subst (λ (piece : List ℕ). WritesSome c.args.id c.in_ok-n.n piece (g.W.World.state c.loop-at.world) (g.W.World.state c.write.new.self)) (rest_is c.loop-at.at c.args.text.now) (c.in_ok-n.ensures.told tells));
}

pub returns-in_err-n-clause-some : goal.returns-in_err-n-clause-some
returns-in_err-n-clause-some g c =
    let at_test : c.loop-at.at < length c.args.text.now = c.loop-at-test.true in
    on_err c.from_residual.result (0 < length c.args.text.now) (omega (arith, at_test))

pub returns-in_err-n-clause-begun : goal.returns-in_err-n-clause-begun
returns-in_err-n-clause-begun g c =
    let p = err_from_is_err_and c.from_residual.result c.from_residual.ensures.1 in rw (p.1, p.2)
    (put_begins g.W.World.is_modelled c.loop-at.at c.args.id c.args.text.now _ _ _ c.in_err-n.field-0.0 c.loop-at.invariant.fits c.loop-at.invariant.does
    (λ tells. subst (λ (piece : List ℕ). Writes c.args.id piece (g.W.World.state c.loop-at.world) (Err c.in_err-n.field-0.0) (g.W.World.state c.write.new.self)) (rest_is c.loop-at.at c.args.text.now) (c.in_err-n.ensures.told tells)))

pub returns-in_err-n-clause-given : goal.returns-in_err-n-clause-given
returns-in_err-n-clause-given g c =
    let p = err_from_is_err_and c.from_residual.result c.from_residual.ensures.1 in
    let at_test : c.loop-at.at < length c.args.text.now = c.loop-at-test.true in
    let fails = λ (tells : g.W.World.is_modelled). size_fails c.loop-at.at c.args.id c.args.text.now (g.W.World.state c.args.world.now) (g.W.World.state c.loop-at.world) (g.W.World.state c.write.new.self) c.in_err-n.field-0.0 at_test (c.loop-at.invariant.fits tells) (c.loop-at.invariant.does tells)
    (subst (λ (piece : List ℕ). Writes c.args.id piece (g.W.World.state c.loop-at.world) (Err c.in_err-n.field-0.0) (g.W.World.state c.write.new.self)) (rest_is c.loop-at.at c.args.text.now) (c.in_err-n.ensures.told tells)) in
    rw (p.1, p.2) (record {
      size = c.loop-at.at;
      made = fails_next g.W.World.did _ _ _ c.args.id c.loop-at.at c.args.text.now c.loop-at.invariant.made c.in_err-n.ensures.did;
      is = at_test;
      fits = λ tells. (fails tells).0;
      does = λ tells. (fails tells).1;
    })

pub returns-clause-given : goal.returns-clause-given
returns-clause-given g c =
    let whole : length c.args.text.now ≤ c.loop-at.at = c.loop-at-test.false in record {
      size = c.loop-at.at;
      made = c.loop-at.invariant.made;
      is = omega (arith, c.loop-at.invariant.within, whole);
      fits = λ tells. size_all c.loop-at.at c.args.id c.args.text.now (g.W.World.state c.args.world.now) c.loop-at.invariant.within whole (c.loop-at.invariant.fits tells);
      does = c.loop-at.invariant.does;
    }
