-- What is written behind the bytes of a module is found.
use Rattle.std.proofs.Common.{◌≡◌, ℕ, zero, suc, ◌+◌, ◌<◌, ◌≤◌, ◌^◌, Some, None, Option, List, [], ◌∷◌, ◌++◌, length, drop, refl, ap, ◌∙◌, subst, arith, append_assoc, length-append, le-leb, take_at, drop_at}
use Rattle.std.proofs.lemmas.List.{append-nil}
use Rattle.std.specs.List.{AllByRecursion, flat_map}
use Rattle.wasm_types.specs.Leb128.{IsU32}
use Rattle.wasm_types.specs.Leb128Texts.{u32_at, u32_text}
use Rattle.wasm_types.specs.ModuleGrammar.{AreSections, Custom, IsModule, IsSection, Section, contents, header, section_id}
use Rattle.wasm_types.specs.Profile.{most_module_bytes}
use Rattle.wasm_types.specs.Syntax.{ModuleForm}
use Rattle.wasm_types.proofs.Groups.{u32_is, u32_written, unsigned_again}
use Rattle.module_writer.specs.Names.{counted}
use Rattle.script_places.specs.Lines.{FunctionForm, function_text, lines_contents, lines_text, table_text}
use Rattle.script_places.specs.Reading.{AllFit, Fits, IsWord, Read, counted_at, cut_at, function_at, items_at, lines_at, own_by, own_in, own_of, own_section, section_at, table_at, table_in}

-- a number by any of its spellings
number_back : (text : List ℕ) (n : ℕ) (rest : List ℕ) → IsU32 text n → u32_at (text ++ rest) ≡ Some (n, rest)
number_back text n rest is = u32_is (text ++ rest) ∙ unsigned_again 5 (2 ^ 32) text n rest is

u32_back : (n : ℕ) (rest : List ℕ) → IsWord n → u32_at (u32_text n ++ rest) ≡ Some (n, rest)
u32_back n rest h = number_back (u32_text n) n rest (u32_written n h)

cut_back : (bytes rest : List ℕ) → cut_at (length bytes) (bytes ++ rest) ≡ Some (bytes, rest)
cut_back bytes rest =
    let fits : length bytes ≤ length (bytes ++ rest) = omega (arith, length-append bytes rest) in
    rw (le-leb (length bytes) (length (bytes ++ rest)) fits, take_at bytes rest (length bytes) refl, drop_at bytes rest (length bytes) refl) refl

-- bytes behind their number, by any of its spellings
bytes_back : (size bytes rest : List ℕ) → IsU32 size (length bytes) → counted_at ((size ++ bytes) ++ rest) ≡ Some (bytes, rest)
bytes_back size bytes rest is =
    rw (append_assoc size bytes rest, number_back size (length bytes) (bytes ++ rest) is) (cut_back bytes rest)

counted_back : (bytes rest : List ℕ) → IsWord (length bytes) → counted_at (counted bytes ++ rest) ≡ Some (bytes, rest)
counted_back bytes rest h = bytes_back (u32_text (length bytes)) bytes rest (u32_written (length bytes) h)

module _ {A : Type 0} (one : List ℕ → Read A) (text : A → List ℕ) (P : A → Type 0) (back : (x : A) (rest : List ℕ) → P x → one (text x ++ rest) ≡ Some (x, rest)) where
  items_back : (xs : List A) (rest : List ℕ) → AllByRecursion P xs → items_at one (length xs) (flat_map text xs ++ rest) ≡ Some (xs, rest)
  items_back [] rest h = refl
  items_back (x ∷ xs) rest h =
      rw (append_assoc (text x) (flat_map text xs) rest, back x (flat_map text xs ++ rest) h.0, items_back xs rest h.1) refl

lines_back : (lines rest : List ℕ) → IsWord (length lines) → AllByRecursion IsWord lines → lines_at ((u32_text (length lines) ++ flat_map u32_text lines) ++ rest) ≡ Some (lines, rest)
lines_back lines rest few small =
    rw (append_assoc (u32_text (length lines)) (flat_map u32_text lines) rest, u32_back (length lines) (flat_map u32_text lines ++ rest) few)
    (items_back u32_at u32_text IsWord u32_back lines rest small)

function_back : (f : FunctionForm) (rest : List ℕ) → Fits f → function_at (function_text f ++ rest) ≡ Some (f, rest)
function_back f rest h =
    let own = u32_text (length f.lines) ++ flat_map u32_text f.lines in
    rw (append_assoc (counted f.name) own rest, counted_back f.name (own ++ rest) h.name, lines_back f.lines rest h.count h.lines) refl

table_back : (table : List FunctionForm) → AllFit table → table_at (table_text table) ≡ Some (table, [])
table_back table h =
    let all = flat_map function_text table in
    let functions : items_at function_at (length table) all ≡ Some (table, []) =
    subst (λ (bytes : List ℕ). items_at function_at (length table) bytes ≡ Some (table, [])) (append-nil all) (items_back function_at function_text Fits function_back table [] h.1) in
    rw (u32_back (length table) all h.0) functions

-- a section, and what comes after it
section_back : (s : Section) (text rest : List ℕ) → IsSection s text → section_at (text ++ rest) ≡ Some (section_id s, contents s, rest)
section_back s text rest h = rw (h.2, bytes_back h.0 (contents s) rest h.1) refl

-- nothing comes after it
found_last : (w : ℕ) (found : Option (List ℕ)) → own_in w found [] ≡ found
found_last zero found = refl
found_last (suc w) found = refl

written_found : (table : List FunctionForm) (w : ℕ) (found : Option (List ℕ)) → IsWord (length (lines_contents table)) → own_in (suc w) found (lines_text table) ≡ Some (table_text table)
written_found table w found few =
    let c = lines_contents table in
    let read : section_at (lines_text table ++ []) ≡ Some (0, c, []) = section_back (Custom c) (lines_text table) [] (u32_text (length c), u32_written (length c) few, refl) in
    let same : section_at (lines_text table) ≡ Some (0, c, []) = subst (λ (bytes : List ℕ). section_at bytes ≡ Some (0, c, [])) (append-nil (lines_text table)) read in
    ap (own_by (own_in w) found) same ∙ found_last w (Some (table_text table))

-- whatever comes before it
found_after : (table : List FunctionForm) → IsWord (length (lines_contents table)) → (ss : List Section) (rest : List ℕ) (w : ℕ) (found : Option (List ℕ)) → AreSections ss rest → length rest < w
    → own_in w found (rest ++ lines_text table) ≡ Some (table_text table)
found_after table few ss rest zero found are lt = absurd (omega (arith, lt))
found_after table few [] rest (suc w) found are lt = rw are (written_found table w found few)
found_after table few (s ∷ ss) rest (suc w) found h lt =
    let text = lines_text table in
    let whole : rest ++ text ≡ h.0 ++ (h.1 ++ text) = ap (λ (bytes : List ℕ). bytes ++ text) h.4 ∙ append_assoc h.0 h.1 text in
    let read : section_at (rest ++ text) ≡ Some (section_id s, contents s, h.1 ++ text) = ap section_at whole ∙ section_back s h.0 (h.1 ++ text) h.2 in
    let size : length rest ≡ length h.0 + length h.1 = ap length h.4 ∙ length-append h.0 h.1 in
    let own : length h.0 ≡ suc (length (h.2.0 ++ contents s)) = ap length h.2.2 in
    ap (own_by (own_in w) found) read ∙ found_after table few ss h.1 w (own_of found (section_id s) (contents s)) h.3 (omega (arith, lt, size, own))

pub table_found : (bytes : List ℕ) (m : ModuleForm) (table : List FunctionForm) → IsModule bytes m → AllFit table → length (bytes ++ lines_text table) ≤ most_module_bytes
    → table_in (bytes ++ lines_text table) ≡ Some table
table_found bytes m table h fits few =
    let text = lines_text table in
    let c = lines_contents table in
    let whole = length-append bytes text in
    let own = length-append (u32_text (length c)) c in
    let word : IsWord (length c) = omega (arith, few, whole, own) in
    let behind : drop 8 (bytes ++ text) ≡ h.rest ++ text = ap (λ (bs : List ℕ). drop 8 (bs ++ text)) h.begins in
    let front = ap length h.begins in
    let size = length-append header h.rest in
    let some : length text ≡ suc (length (counted c)) = refl in
    let enough : length h.rest < length (bytes ++ text) = omega (arith, whole, front, size, some) in
    let found : own_section (bytes ++ text) ≡ Some (table_text table) =
    ap (own_in (length (bytes ++ text)) None) behind ∙ found_after table word h.sections h.rest (length (bytes ++ text)) None h.spelled enough in
    rw (found, table_back table fits) refl
