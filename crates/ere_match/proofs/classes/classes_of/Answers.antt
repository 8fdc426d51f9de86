use Rattle.std.proofs.Common.{arith, subst, sym, ◌∙◌, ap, Some, ◌+◌}
use Rattle.std.proofs.lemmas.Option.{slice_get_within}
use Rattle.ere_match.specs.Rows.{ClassesTo}
use Rattle.ere_match.proofs.Apart.{classes_other, classes_take}
use Rattle.ere_match.proofs.Steps.{node_is}
use Rattle.ere_match.proofs.classes.classes_of.Goals as goal
use Rattle.ere_match.proofs.classes.classes_of.Goals.{in-Take, in_default}

pub loop-node-preserved : goal.loop-node-preserved
loop-node-preserved c =
    let s = c.loop-node in
    let is = node_is c.args.nodes.now s.node-index c.node-item.result c.loop-node-test.true c.node-item.is in
    elim c.match-node.branch [
      | in-Take w ↦ subst (ClassesTo (s.node-index + 1) c.args.nodes.now) (sym w.classes-is) (classes_take s.node-index w.in-Take.field-1 c.args.nodes.now s.classes w.refined-classes.result w.in-Take.filter (is ∙ ap Some w.in-Take.is) w.refined-classes.ensures s.invariant)
      | in_default w ↦ subst (ClassesTo (s.node-index + 1) c.args.nodes.now) (sym w.classes-is) (classes_other s.node-index c.args.nodes.now s.classes c.node-item.result is w.in_default.not-Take s.invariant)
    ]

pub returns : goal.returns
returns c = λ b d lb ld e id to f is has.
    (let within = slice_get_within c.args.nodes.now id _ is in
    c.loop-node.invariant b d lb ld e id to f (omega (arith, within, c.loop-node-test.false)) is has)
