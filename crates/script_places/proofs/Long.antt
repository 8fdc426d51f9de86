-- How long the section is: at least as long as what it tells.
use Rattle.std.proofs.Common.{ℕ, ◌+◌, ◌<◌, ◌≤◌, ◌/◌, ◌%◌, Bool, true, false, cond, ltb, List, [], ◌∷◌, ◌++◌, length, flat_map, map, arith, length-append}
use Rattle.std.proofs.lemmas.List.{length-map}
use Rattle.wasm_types.specs.Leb128Texts.{u32_text, unsigned_text}
use Rattle.module_writer.specs.Names.{counted}
use Rattle.script_places.specs.Lines.{FunctionForm, form_of, function_text, lines_contents, own_name, table_text}
use Rattle.script_places.specs.declared.module_table.FunctionLines.{FunctionLines}

number_some : (n : ℕ) → 0 < length (u32_text n)
unfolding u32_text
number_some n = by (ltb n 128)
  where
    by : (b : Bool) → 0 < length (cond b (n ∷ []) ((n % 128 + 128) ∷ unsigned_text 4 (n / 128)))
    by true = omega arith
    by false = omega arith

parts_long : {A : Type 0} (text : A → List ℕ) → ((x : A) → 0 < length (text x)) → (xs : List A) → length xs ≤ length (flat_map text xs)
parts_long text some [] = omega arith
parts_long text some (x ∷ xs) =
    let all = length-append (text x) (flat_map text xs) in
    let one = some x in
    let rest = parts_long text some xs in
    omega (arith, all, one, rest)

pub name_long : (f : FunctionForm) → length f.name ≤ length (function_text f)
name_long f =
    let own = u32_text (length f.lines) ++ flat_map u32_text f.lines in
    let all = length-append (counted f.name) own in
    let name = length-append (u32_text (length f.name)) f.name in
    omega (arith, all, name)

pub lines_long : (f : FunctionForm) → length f.lines ≤ length (function_text f)
lines_long f =
    let lines = flat_map u32_text f.lines in
    let all = length-append (counted f.name) (u32_text (length f.lines) ++ lines) in
    let own = length-append (u32_text (length f.lines)) lines in
    let long = parts_long u32_text number_some f.lines in
    omega (arith, all, own, long)

function_some : (f : FunctionForm) → 0 < length (function_text f)
function_some f =
    let own = u32_text (length f.lines) ++ flat_map u32_text f.lines in
    let all = length-append (counted f.name) own in
    let name = length-append (u32_text (length f.name)) f.name in
    let some = number_some (length f.name) in
    omega (arith, all, name, some)

pub contents_long : (table : List FunctionLines) → length table ≤ length (lines_contents (map form_of table))
contents_long table =
    let rows = map form_of table in
    let text = flat_map function_text rows in
    let many = parts_long function_text function_some rows in
    let same = length-map table form_of in
    let own = length-append (u32_text (length rows)) text in
    let all = length-append own_name (table_text rows) in
    omega (arith, many, same, own, all)
