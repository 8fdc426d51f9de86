use Rattle.std.proofs.Common.{◌≡◌, ◌∙◌, ◌++◌, List, ap}
use Rattle.std.specs.declared.vec.Vec.{Vec}
use Rattle.std.specs.declared.alloc.Global.{Global}
use Rattle.wasm_types.specs.declared.instr.Instr.{Instr}
use Rattle.wasm_types.specs.declared.types.ValType.{ValType}
use Rattle.wasm_types.specs.Typing.{Context, context_in}
use Rattle.wasm_types.specs.View.{signature_of, view_func, view_module, views}
use Rattle.module_validator.proofs.Functions.{not_ok, told_of}
use Rattle.module_validator.proofs.valid.check_func.Goals as goal

pub returns : goal.returns
returns c =
    let m = view_module c.args.m.now in
    let f = view_func c.args.f.now in
    let t = signature_of c.in-Some.t.now in
    let C : Context = record (context_in m t f.locals) { locals = c.deref.result.now ++ f.locals } in
    let context : C ≡ context_in m t f.locals = ap (λ (ls : List ValType). record (context_in m t f.locals) { locals = ls ++ f.locals }) c.deref.ensures.value in
    let body = ap views (c.deref-3.ensures.value ∙ ap (λ (v : Vec Instr Global). v.items) c.deref-2.ensures) in
    let again = ap views (c.deref-in-Err-Untyped-2.ensures.value ∙ ap (λ (v : Vec Instr Global). v.items) c.deref-in-Err-Untyped.ensures) in
    told_of m f c.args.function t C (views c.deref-in-Err-Untyped-2.result.now) c.in-Some.ensures context again
    (not_ok m f t C (views c.deref-3.result.now) c.in-Some.ensures context body (rw (c.new-labels.ensures, c.in-Err-Untyped.field-0-is) at c.in-Err-Untyped.ensures.judges)) c.name.result c.name.ensures
