use Rattle.std.proofs.Common.{arith, ◌∙◌, ap, ◌+◌, ◌<◌, None, Some, refl, get_or, length, set, length-set}
use Rattle.ere_match.specs.Rows.{IsRefinedTo, key_of}
use Rattle.ere_match.specs.Runs.{filter_set}
use Rattle.ere_match.proofs.Ranks.{at_equals}
use Rattle.ere_match.proofs.Apart.{key_small, nowhere, refined_all, refined_none, refined_same, refined_more}
use Rattle.ere_match.proofs.classes.refined.Goals as goal
use Rattle.ere_match.proofs.classes.refined.Goals.{in-Some, in-None}

pub loop-place-init : goal.loop-place-init
loop-place-init c = record {
  to = refined_none (filter_set c.args.filter.now) c.args.classes.now _ _ (λ k. nowhere 512 k None refl);
  cut_len = refl;
  seen_len = refl;
}

pub loop-place-preserved : goal.loop-place-preserved
loop-place-preserved c =
    let s = c.loop-place in
    let inside : s.place < length s.cut = omega (arith, c.loop-place-test.true, s.invariant.cut_len) in
    let key = c.key-key.ensures ∙ ap (key_of (get_or c.args.classes.now s.place 0)) c.takes.ensures in
    let room : c.key-key.result < length s.seen = (let k = key_small (get_or c.args.classes.now s.place 0) c.takes.result (c.fits-classes s.place) in omega (arith, k, c.key-key.ensures, s.invariant.seen_len)) in
    record {
      to = elim c.match-seen-key.branch [
        | in-Some w ↦ at_equals (IsRefinedTo (s.place + 1) (filter_set c.args.filter.now) c.args.classes.now) (set s.cut s.place w.in-Some.class) c.match-seen-key.cut s.seen c.match-seen-key.seen s.count c.match-seen-key.count w.cut-is w.seen-is w.count-is
            (refined_same s.place w.in-Some.class c.key-key.result s.count (filter_set c.args.filter.now) c.args.classes.now s.cut s.seen inside key w.in-Some.is s.invariant.to)
        | in-None w ↦ at_equals (IsRefinedTo (s.place + 1) (filter_set c.args.filter.now) c.args.classes.now) (set s.cut s.place s.count) c.match-seen-key.cut (set s.seen c.key-key.result (Some s.count)) c.match-seen-key.seen (s.count + 1) c.match-seen-key.count w.cut-is w.seen-is w.count-is
            (refined_more s.place c.key-key.result s.count (filter_set c.args.filter.now) c.args.classes.now s.cut s.seen inside room key w.in-None.is s.invariant.to)
      ];
      cut_len = elim c.match-seen-key.branch [
        | in-Some w ↦ ap length w.cut-is ∙ length-set s.cut s.place w.in-Some.class ∙ s.invariant.cut_len
        | in-None w ↦ ap length w.cut-is ∙ length-set s.cut s.place s.count ∙ s.invariant.cut_len
      ];
      seen_len = elim c.match-seen-key.branch [
        | in-Some w ↦ ap length w.seen-is ∙ s.invariant.seen_len
        | in-None w ↦ ap length w.seen-is ∙ length-set s.seen c.key-key.result (Some s.count) ∙ s.invariant.seen_len
      ];
    }

pub returns : goal.returns
returns c = refined_all c.loop-place.place c.loop-place.count (filter_set c.args.filter.now) c.args.classes.now c.loop-place.cut c.loop-place.seen (omega (arith, c.loop-place-test.false)) c.loop-place.invariant.to
