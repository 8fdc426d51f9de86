use Rattle.std.proofs.Common.{◌≡◌, ℕ, List, [], None, Result, sym, ap, subst, ◌∙◌}
use Rattle.std.specs.declared.vec.Vec.{Vec}
use Rattle.std.specs.declared.alloc.Global.{Global}
use Rattle.wasm_types.specs.declared.instr.Instr.{Instr}
use Rattle.wasm_types.specs.Syntax.{FuncForm}
use Rattle.wasm_types.specs.View.{view_func}
use Rattle.module_writer.specs.declared.fault.WriteFault.{WriteFault}
use Rattle.module_writer.specs.declared.output.Output.{Output}
use Rattle.module_writer.specs.Outputs.{Adds}
use Rattle.module_writer.specs.Writers.{Written, Gives, bytes_to, sized_to}
use Rattle.module_writer.specs.Writing.{locals_to, expr_to, code_parts_to}
use Rattle.module_writer.proofs.Loops.{fails_then, both}
use Rattle.module_writer.proofs.entry_kinds.CodesKind.write.Goals as goal

parts : {a b c : Output} (f : FuncForm) (r : Result (Vec ℕ Global) WriteFault) → ((before : Output) (all : Written) → before.refused ≡ None → Adds before c all → Gives r all)
    → a.refused ≡ None → a.bytes.items ≡ [] → Adds a b (locals_to f.locals a.bytes.items) → Adds b c (expr_to f.body b.bytes.items) → Gives r (code_parts_to f [])
parts {a} f r all fresh empty h k =
    subst (λ (bytes : List ℕ). Gives r (code_parts_to f bytes)) empty (all a (code_parts_to f a.bytes.items) fresh (both (locals_to f.locals a.bytes.items) (expr_to f.body) h k))

pub returns-in-Ok : goal.returns-in-Ok
returns-in-Ok c =
    let f = view_func c.args.one.now in
    let body = c.deref-2.ensures.value ∙ ap (λ (v : Vec Instr Global). v.items) c.deref.ensures in
    let given : Gives c.all.result (code_parts_to f []) = parts f c.all.result c.all.ensures c.new-code.ensures.open c.new-code.ensures.empty c.locals.ensures (rw body at c.expr.ensures) in
    let fine = subst (λ (r : Result (Vec ℕ Global) WriteFault). Gives r (code_parts_to f [])) c.in-Ok.is given in
    subst (λ (r : Written). Adds c.args.out.now c.counted.new.self (sized_to r c.args.out.now.bytes.items)) (sym fine) (rw c.deref-in-Ok.ensures.value at c.counted.ensures)

pub returns-in-Err : goal.returns-in-Err
returns-in-Err c =
    let f = view_func c.args.one.now in
    let body = c.deref-2.ensures.value ∙ ap (λ (v : Vec Instr Global). v.items) c.deref.ensures in
    let given : Gives c.all.result (code_parts_to f []) = parts f c.all.result c.all.ensures c.new-code.ensures.open c.new-code.ensures.empty c.locals.ensures (rw body at c.expr.ensures) in
    c.refuse.ensures (sized_to (code_parts_to f []) c.args.out.now.bytes.items)
    (fails_then c.in-Err.fault (code_parts_to f []) (λ xs. bytes_to xs c.args.out.now.bytes.items) (subst (λ (r : Result (Vec ℕ Global) WriteFault). Gives r (code_parts_to f [])) c.in-Err.is given))
