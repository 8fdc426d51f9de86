use Rattle.std.proofs.Common.{rules, arith, refl, ap, sym, ◌∙◌, ◌≡◌, inl, inr, get_or, Vec, Global}
use Rattle.std.specs.Prelude.{slice_get}
use Rattle.std.proofs.Math.Logic.{∥∥₁_elim, ∥∥₁_map, ∥∥₁_prop}
use Rattle.std.proofs.lemmas.Bool.{cases_lt}
use Rattle.ere_match.specs.Rows.{SpecRow}
use Rattle.ere_match.proofs.Hastes.{loop_can, loop_kept, loop_on}
use Rattle.ere_match.proofs.haste.pass_over.Goals as goal

pub enter-requires : goal.enter-requires
enter-requires c = ∥∥₁_map c.loop-place.invariant.table (λ t.
    (let l = c.loop-place.invariant.is_loop in
    loop_can c.args.nodes.now c.args.entry c.args.byte c.args.state c.args.classes.now c.loop-place.table c.args.to t l c.args.byte (search rules) refl c.index.result.now.count (c.loop-place.invariant.counts l.row l.is)))

pub loop-place-preserved : goal.loop-place-preserved
loop-place-preserved c =
    let l = c.loop-place.invariant.is_loop in
    let e = c.enter.ensures.entered in
    record {
      table = ∥∥₁_map c.loop-place.invariant.table (λ t. c.enter.ensures.table c.args.nodes.now c.args.entry c.args.classes.now t);
      is_loop = loop_kept c.args.state c.args.byte c.args.classes.now c.loop-place.table c.enter.new.table c.args.to e.rows c.enter.ensures.moves l;
      counts = λ row is. c.loop-place.invariant.counts row (ap (λ (v : Vec SpecRow Global). slice_get v.items c.args.state) (sym e.rows) ∙ is);
      search = λ from above s. ∥∥₁_elim (c.loop-place.invariant.search from above s) ∥∥₁_prop (λ x. ∥∥₁_map c.loop-place.invariant.table (λ t.
          loop_on c.args.nodes.now c.args.text.now c.args.entry from c.loop-place.place c.args.byte c.args.state c.enter.result c.index.result.now.count c.args.classes.now c.loop-place.table c.enter.new.table c.args.to (omega (arith, above, c.loop-place.auto.place)) c.loop-place-test.true (search rules)
          (ap (λ i. get_or c.args.classes.now i 0) (sym c.from-in-loop-place.ensures) ∙ c.if-classes-from.false ∙ ap (λ i. get_or c.args.classes.now i 0) c.from.ensures) l (c.loop-place.invariant.counts l.row l.is) t (c.enter.ensures.table c.args.nodes.now c.args.entry c.args.classes.now t) e x));
    }

pub bounds-text-place : goal.bounds-text-place
bounds-text-place c = omega arith

pub overflow_add-place : goal.overflow_add-place
overflow_add-place c = omega arith

pub returns-then-classes-from-clause-further : goal.returns-then-classes-from-clause-further
returns-then-classes-from-clause-further c = λ inside here. elim (cases_lt c.args.at c.loop-place.place) [
  | inl after ↦ after
  | inr not ↦ absurd (
      let e : c.loop-place.place ≡ c.args.at = omega (arith, not, c.loop-place.auto.place) in
      c.if-classes-from.true (ap (λ i. get_or c.args.classes.now i 0) (c.from-in-loop-place.ensures ∙ ap (λ k. get_or c.args.text.now k 0) e ∙ here ∙ sym c.from.ensures)))
]
