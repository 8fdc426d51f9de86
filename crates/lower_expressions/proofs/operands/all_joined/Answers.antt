use Rattle.std.proofs.Common.{◌≡◌, ℕ, ◌+◌, List, [], ◌∷◌, length, map, ap, sym, ◌∙◌, arith}
use Rattle.std.proofs.lemmas.List.{length-map, map-append}
use Rattle.mid_program.specs.Mid as plain
use Rattle.lower_pieces.specs.Forms.{view_form}
use Rattle.lower_pieces.specs.declared.form.Form.{Form}
use Rattle.lower_pieces.proofs.Appended.{◌⨟◌, same}
use Rattle.lower_expressions.specs.Parts.{all_joined, joined_form}
use Rattle.lower_expressions.specs.View.{view_layout}
use Rattle.lower_expressions.proofs.Keys.{joined_last}
use Rattle.lower_expressions.proofs.WalkLemmas.{no_items}
use Rattle.lower_expressions.proofs.operands.all_joined.Goals as goal

pub loop-first-preserved : goal.loop-first-preserved
loop-first-preserved c =
    let y = view_layout c.args.layout.now in
    let gs = map view_form c.in-Some.before.now in
    let second = view_form c.loop-first.second in
    let there : c.args.temporary + length c.in-Some.before.now ≡ c.args.temporary + length gs = ap (λ (n : ℕ). c.args.temporary + n) (sym (length-map c.in-Some.before.now view_form)) in
    record {
      few = let n = c.in-Some.ensures.cases.1 in let h = c.loop-first.invariant.few in omega (arith, n, h);
      emits = λ k. same (ap (λ (f : plain.Form). all_joined y gs f c.args.temporary c.args.exit k) c.operation_form-second.ensures)
          ⨟ c.joined.ensures (all_joined y gs joined_form c.args.temporary c.args.exit k)
          ⨟ same (sym (joined_last y gs (view_form c.in-Some.first.now) second _ c.args.temporary c.args.exit k there))
          ⨟ same (ap (λ (fs : List plain.Form). all_joined y fs second c.args.temporary c.args.exit k) (sym (map-append view_form c.in-Some.before.now (c.in-Some.first.now ∷ [])) ∙ sym (ap (map view_form) c.in-Some.ensures.cases.0)))
          ⨟ c.loop-first.invariant.emits k;
    }

pub returns : goal.returns
returns c = λ k.
    same (ap (λ (fs : List Form). all_joined (view_layout c.args.layout.now) (map view_form fs) (view_form c.loop-first.second) c.args.temporary c.args.exit k) (no_items c.loop-first.left.now c.in_default.ensures.cases)) ⨟ c.loop-first.invariant.emits k
