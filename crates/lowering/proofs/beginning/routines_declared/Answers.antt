use Rattle.std.proofs.Common.{◌≡◌, ℕ, ◌+◌, ◌-◌, List, ap, sym, ◌∙◌, length, map, arith}
use Rattle.std.proofs.lemmas.List.{length-map}
use Rattle.mid_program.specs.Mid as plain
use Rattle.mid_program.specs.View.{view_routine}
use Rattle.mid_program.specs.declared.program.Routine.{Routine}
use Rattle.lower_model.specs.Statements.{routines_declared}
use Rattle.lower_expressions.specs.View.{view_layout}
use Rattle.lower_pieces.proofs.Appended.{◌⨟◌, same}
use Rattle.lowering.proofs.Announced.{routines_step}
use Rattle.lowering.proofs.beginning.routines_declared.Goals as goal

-- how many functions are called
called : (rs : List Routine) → length (map (λ (r : plain.Routine). r.parameters) (map view_routine rs)) ≡ length rs
called rs = length-map (map view_routine rs) (λ (r : plain.Routine). r.parameters) ∙ length-map rs view_routine

pub overflow_add-past : goal.overflow_add-past
overflow_add-past c =
    let n = ap length c.routines.ensures in
    let calls = called c.args.layout.now.script.now.program.now.routines.items in
    omega (arith, n, calls)

pub declared-requires : goal.declared-requires
declared-requires c =
    let n = ap length c.routines.ensures in
    let calls = called c.args.layout.now.script.now.program.now.routines.items in
    omega (arith, n, calls)

pub loop-text-init : goal.loop-text-init
loop-text-init c = λ k.
    let y = view_layout c.args.layout.now in
    let n = ap length c.routines.ensures in
    let calls = called c.args.layout.now.script.now.program.now.routines.items in
    let count : (c.args.first + length c.routines.result.now) - c.args.first ≡ length y.calls = omega (arith, n, calls) in
    same (ap (λ (m : ℕ). routines_declared y c.args.first m k) count)

pub loop-text-preserved : goal.loop-text-preserved
loop-text-preserved c = λ k.
    c.declared.ensures _ ⨟ same (sym (routines_step (view_layout c.args.layout.now) c.loop-text.text (c.args.first + length c.routines.result.now) k (omega arith))) ⨟ c.loop-text.invariant k

pub returns : goal.returns
returns c = λ k.
    let none : (c.args.first + length c.routines.result.now) - c.loop-text.text ≡ 0 = omega arith in
    same (sym (ap (λ (m : ℕ). routines_declared (view_layout c.args.layout.now) c.loop-text.text m k) none)) ⨟ c.loop-text.invariant k
