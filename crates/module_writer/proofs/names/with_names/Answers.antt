use Rattle.std.proofs.Common.{rules, ◌≡◌, ℕ, ◌++◌, ◌≤◌, List, length, map, subst, sym, arith}
use Rattle.std.proofs.lemmas.Grind.{common_steps}
use Rattle.std.specs.Global.{Vec}
use Rattle.std.specs.Vec.{vec_len}
use Rattle.wasm_types.specs.ModuleGrammar.{IsModule}
use Rattle.wasm_types.specs.Profile.{most_module_bytes}
use Rattle.module_writer.specs.Names.{names_text}
use Rattle.module_writer.proofs.NoTrace.{names_no_trace}
use Rattle.module_writer.proofs.names.with_names.Goals as goal

pub returns-clause-same : goal.returns-clause-same
returns-clause-same c =
    let all = c.put_counted.new.out.items in
    let names = map (λ (name : Vec ℕ). name.items) c.args.names.now in
    let text : all ≡ c.args.bytes.now ++ names_text c.args.first names = grind (arith, common_steps) in
    let own : vec_len c.put_counted.new.out ≡ length all = search rules in
    let few : length all ≤ most_module_bytes = (let len = c.len.ensures in let within = c.if-len-gt-MAX_MODULE_BYTES.false in omega (arith, own, len, within)) in
    λ m h. subst (λ (bs : List ℕ). IsModule bs m) (sym text)
    (names_no_trace c.args.bytes.now c.args.first names m h (subst (λ (bs : List ℕ). length bs ≤ most_module_bytes) text few))
