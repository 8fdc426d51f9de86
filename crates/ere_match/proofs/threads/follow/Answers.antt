use Rattle.std.proofs.Common.{refl, sym, subst, true, false, Bool, ◌≡◌}
use Rattle.std.specs.Prelude.{◌||◌}
use Rattle.ere_match.specs.Threads.{IsFollowed}
use Rattle.ere_match.specs.declared.node.Node.{Node}
use Rattle.ere_match.specs.declared.node.Node.TheVariants as nodes
use Rattle.ere_match.proofs.Marks.{followed_split}
use Rattle.ere_match.proofs.threads.follow.Goals as goal

pub returns-then-one : goal.returns-then-one
returns-then-one c = λ bound small.
    (let f = followed_split c.args.first c.args.last bound c.args.id c.args.start c.in-Split.to c.in-Split.other c.args.set.now c.raise-one.new.set c.raise-two.new.set c.raise-one.result c.raise-two.result (c.raise-one.ensures bound small) (c.raise-two.ensures bound small) in
    let one : (c.raise-one.result || c.raise-two.result) ≡ c.raise-one.result = joined c.raise-one.result c.raise-two.result c.if-one.true in
    let P : Node → Type 0 = λ n. IsFollowed c.args.first c.args.last bound c.args.id c.args.start n c.args.set.now c.raise-two.new.set c.raise-one.result in
    subst P (sym c.in-Split.is) (subst (λ (b : Bool). IsFollowed c.args.first c.args.last bound c.args.id c.args.start (nodes.Split c.in-Split.to c.in-Split.other) c.args.set.now c.raise-two.new.set b) one f))
  where
    joined : (a b : Bool) → a ≡ true → (a || b) ≡ a
    joined true b e = refl
    joined false b e = absurd cc

pub returns-else-one : goal.returns-else-one
returns-else-one c = λ bound small.
    (let f = followed_split c.args.first c.args.last bound c.args.id c.args.start c.in-Split.to c.in-Split.other c.args.set.now c.raise-one.new.set c.raise-two.new.set c.raise-one.result c.raise-two.result (c.raise-one.ensures bound small) (c.raise-two.ensures bound small) in
    let two : (c.raise-one.result || c.raise-two.result) ≡ c.raise-two.result = joined c.raise-one.result c.raise-two.result c.if-one.false in
    let P : Node → Type 0 = λ n. IsFollowed c.args.first c.args.last bound c.args.id c.args.start n c.args.set.now c.raise-two.new.set c.raise-two.result in
    subst P (sym c.in-Split.is) (subst (λ (b : Bool). IsFollowed c.args.first c.args.last bound c.args.id c.args.start (nodes.Split c.in-Split.to c.in-Split.other) c.args.set.now c.raise-two.new.set b) two f))
  where
    joined : (a b : Bool) → a ≡ false → (a || b) ≡ b
    joined true b e = absurd cc
    joined false b e = refl
