use Rattle.std.proofs.Common.{rules, ◌≡◌, ℕ, ◌++◌, ◌≤◌, List, Some, length, map, subst, sym, arith}
use Rattle.std.proofs.lemmas.Grind.{common_steps}
use Rattle.std.specs.Vec.{vec_len}
use Rattle.wasm_types.specs.ModuleGrammar.{IsModule}
use Rattle.wasm_types.specs.Profile.{most_module_bytes}
use Rattle.script_places.specs.Lines.{form_of, lines_text}
use Rattle.script_places.specs.Reading.{table_in}
use Rattle.script_places.proofs.Found.{table_found}
use Rattle.script_places.proofs.Traces.{lines_no_trace}
use Rattle.script_places.proofs.writing.with_lines.Goals as goal

pub returns-clause-same : goal.returns-clause-same
returns-clause-same c =
    let all = c.put_counted.new.out.items in
    let table = map form_of c.args.table.now in
    let text : all ≡ c.args.bytes.now ++ lines_text table = grind (arith, common_steps) in
    let own : vec_len c.put_counted.new.out ≡ length all = search rules in
    let few : length all ≤ most_module_bytes = (let len = c.len.ensures in let within = c.if-len-gt-MAX_MODULE_BYTES.false in omega (arith, own, len, within)) in
    λ m h. subst (λ (bs : List ℕ). IsModule bs m) (sym text)
    (lines_no_trace c.args.bytes.now table m h (subst (λ (bs : List ℕ). length bs ≤ most_module_bytes) text few))

pub returns-clause-found : goal.returns-clause-found
returns-clause-found c =
    let all = c.put_counted.new.out.items in
    let table = map form_of c.args.table.now in
    let text : all ≡ c.args.bytes.now ++ lines_text table = grind (arith, common_steps) in
    let own : vec_len c.put_counted.new.out ≡ length all = search rules in
    let few : length all ≤ most_module_bytes = (let len = c.len.ensures in let within = c.if-len-gt-MAX_MODULE_BYTES.false in omega (arith, own, len, within)) in
    λ m h. subst (λ (bs : List ℕ). table_in bs ≡ Some table) (sym text)
    (table_found c.args.bytes.now m table h c.in_ok-contents.ensures.fit (subst (λ (bs : List ℕ). length bs ≤ most_module_bytes) text few))
