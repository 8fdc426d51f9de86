use Rattle.std.proofs.Common.{◌≡◌, ℕ, suc, ◌+◌, ◌-◌, ◌∷◌, List, replicate, refl, ap, subst, arith}
use Rattle.wasm_types.specs.Syntax.{GlobalForm}
use Rattle.wasm_types.specs.View.{view_global}
use Rattle.lower_model.specs.Modules.{long_global, word_global}
use Rattle.lower_model.specs.Small.{minus_one}
use Rattle.latched.proofs.LatchedLemmas.{Adding, adding_all, adding_first, adding_next, adds_one}
use Rattle.lower_modules.proofs.sections.put_first_globals.Goals as goal

abbrev ranges : ℕ → List GlobalForm
ranges n = replicate n (word_global 0)

pub loop-done-init : goal.loop-done-init
loop-done-init c =
    let all : c.args.ranges ≡ c.args.ranges - 0 = omega arith in
    let old = c.args.all.now in
    let new = c.push_made-3.new.self in
    let last = word_global minus_one ∷ ranges c.args.ranges in
    let whole = word_global 0 ∷ (long_global 0 ∷ last) in
    subst (λ (n : ℕ). Adding view_global old new (ranges n) whole) all
    (adding_next view_global {a = old} {b = c.push_made-2.new.self} last refl
    (adding_next view_global {a = old} {b = c.push_made.new.self} (long_global 0 ∷ last) refl
    (adding_next view_global {a = old} {b = old} whole refl (adding_first view_global old whole)
    (adds_one view_global c.word.result (word_global 0) c.push_made.ensures.added c.word.ensures))
    (adds_one view_global c.long.result (long_global 0) c.push_made-2.ensures.added c.long.ensures))
    (adds_one view_global c.word-2.result (word_global minus_one) c.push_made-3.ensures.added c.word-2.ensures))

pub loop-done-preserved : goal.loop-done-preserved
loop-done-preserved c =
    let one_less : c.args.ranges - c.loop-done._done ≡ suc (c.args.ranges - (c.loop-done._done + 1)) = omega arith in
    adding_next view_global (ranges (c.args.ranges - c.loop-done._done)) (ap ranges one_less) c.loop-done.invariant
    (adds_one view_global c.word-in-loop-done.result (word_global 0) c.push_made-in-loop-done.ensures.added c.word-in-loop-done.ensures)

pub returns : goal.returns
returns c =
    let none : c.args.ranges - c.loop-done._done ≡ 0 = omega arith in
    adding_all view_global (ranges (c.args.ranges - c.loop-done._done)) (ap ranges none) c.loop-done.invariant
