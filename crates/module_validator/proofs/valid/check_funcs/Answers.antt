use Rattle.std.proofs.Common.{List, length, get_or, ap, arith, below_more}
use Rattle.std.specs.List.{All}
use Rattle.wasm_types.specs.declared.module.Func.{Func}
use Rattle.wasm_types.specs.Typing.{FuncOk}
use Rattle.wasm_types.specs.View.{view_func, view_module}
use Rattle.module_validator.proofs.Functions.{func_more, func_nested, func_refused, funcs_done, handed_on}
use Rattle.module_validator.proofs.valid.check_funcs.Goals as goal

pub check_func-requires : goal.check_func-requires
check_func-requires c =
    func_nested c.args.m.now c.loop-index.index c.f-item.result (rw (← c.deref-f-items.ensures.value) c.loop-index-test.true) (rw (← c.deref-f-items.ensures.value) c.f-item.is) c.requires.nested

pub returns-in_err-check_func : goal.returns-in_err-check_func
returns-in_err-check_func c =
    handed_on (All (FuncOk (view_module c.args.m.now)) (view_module c.args.m.now).funcs) (view_module c.args.m.now) c.from_residual.result c.in_err-check_func.field-0.0 c.from_residual.ensures
    (func_refused c.args.m.now c.loop-index.index c.f-item.result c.args.imports c.requires.imports
    (rw (← c.deref-f-items.ensures.value) c.loop-index-test.true) (rw (← c.deref-f-items.ensures.value) c.f-item.is) c.loop-index.invariant c.in_err-check_func.field-0.0 c.in_err-check_func.ensures)

pub loop-index-preserved : goal.loop-index-preserved
loop-index-preserved c =
    let more = func_more c.args.m.now c.loop-index.index c.f-item.result (rw (← c.deref-f-items.ensures.value) c.loop-index-test.true) (rw (← c.deref-f-items.ensures.value) c.f-item.is) c.in_ok-check_func.ensures in
    λ k d h. below_more (λ n. FuncOk (view_module c.args.m.now) (view_func (get_or c.args.m.now.funcs.items n d))) c.loop-index.index (λ n l. c.loop-index.invariant n d l) (more d) k h

pub returns : goal.returns
returns c =
    let same = ap (λ (fs : List Func). length fs) c.deref-f-items.ensures.value in
    funcs_done c.args.m.now (λ k d h. c.loop-index.invariant k d (let past = c.loop-index-test.false in omega arith))
