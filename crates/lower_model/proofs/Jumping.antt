-- A step that has no `break` and no `continue` of the loop around it is sorted as one outside loops.
use Rattle.std.proofs.Common.{◌≡◌, Bool, true, false, ap₂, refl, true≢false}
use Rattle.std.specs.Prelude.{◌&&◌, ◌||◌}
use Rattle.std.proofs.lemmas.Bool.{and_parts}
use Rattle.mid_program.specs.Mid.{Step, Eval, Block, If, Loop, Each, Break, Continue, Next, Exit, ExitWith, Return, Mark, Steps, NoStep, Then}
use Rattle.mid_program.specs.Sorted.{Context, test_sorted, step_sorted, steps_sorted}
use Rattle.lower_model.specs.Quick.{step_jumps, steps_jump}

or_parts : (s t : Bool) → s || t ≡ false → (s ≡ false) × (t ≡ false)
or_parts true t e = absurd (true≢false e)
or_parts false t e = (refl, e)

mutual
  unfolding step_sorted steps_sorted

  pub sorted_anyway : (c : Context) (r : Bool) (x : Step) → step_sorted c r true x ≡ true → step_jumps x ≡ false → step_sorted c r false x ≡ true
  sorted_anyway c r (Eval e) so nj = so
  sorted_anyway c r (Block ss) so nj = all_sorted_anyway c r ss so nj
  sorted_anyway c r (If e a b) so nj =
      let s = and_parts (test_sorted c e) (step_sorted c r true a && step_sorted c r true b) so in
      let s1 = and_parts (step_sorted c r true a) (step_sorted c r true b) s.1 in
      let j = or_parts (step_jumps a) (step_jumps b) nj in
      ap₂ (λ x y. x && y) s.0 (ap₂ (λ x y. x && y) (sorted_anyway c r a s1.0 j.0) (sorted_anyway c r b s1.1 j.1))
  sorted_anyway c r (Loop first e a b) so nj = so
  sorted_anyway c r (Each a e s) so nj = so
  sorted_anyway c r Break so nj = absurd (true≢false nj)
  sorted_anyway c r Continue so nj = absurd (true≢false nj)
  sorted_anyway c r Next so nj = so
  sorted_anyway c r Exit so nj = so
  sorted_anyway c r (ExitWith e) so nj = so
  sorted_anyway c r (Return e) so nj = so
  sorted_anyway c r (Mark i b) so nj = so

  pub all_sorted_anyway : (c : Context) (r : Bool) (ss : Steps) → steps_sorted c r true ss ≡ true → steps_jump ss ≡ false → steps_sorted c r false ss ≡ true
  all_sorted_anyway c r NoStep so nj = so
  all_sorted_anyway c r (Then s ss) so nj =
      let s1 = and_parts (step_sorted c r true s) (steps_sorted c r true ss) so in
      let j = or_parts (step_jumps s) (steps_jump ss) nj in
      ap₂ (λ x y. x && y) (sorted_anyway c r s s1.0 j.0) (all_sorted_anyway c r ss s1.1 j.1)
