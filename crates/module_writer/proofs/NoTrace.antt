-- A custom section behind a module's bytes leaves no trace.
use Rattle.std.proofs.Common.{ℕ, ◌^◌, ◌<◌, ◌≤◌, List, [], ◌∷◌, ◌++◌, length, inl, refl, sym, ap, ◌∙◌, append_assoc, arith, length-append}
use Rattle.std.proofs.lemmas.List.{append-nil}
use Rattle.std.proofs.lemmas.Str.{IsUtf8-from_ascii}
use Rattle.std.specs.Str.{IsAscii}
use Rattle.std.specs.Prelude.{zero, suc}
use Rattle.wasm_types.specs.Syntax.{ModuleForm}
use Rattle.wasm_types.specs.Leb128.{IsU32}
use Rattle.wasm_types.specs.Leb128Texts.{u32_text}
use Rattle.wasm_types.specs.ModuleGrammar.{AreSections, Custom, Give, IsCustom, IsModule, IsSection, Known, Parts, Section, header, no_parts, number}
use Rattle.wasm_types.specs.Profile.{most_module_bytes}
use Rattle.wasm_types.proofs.Groups.{u32_written}
use Rattle.module_writer.specs.Names.{counted, functions_text, name_contents, names_text}

more_sections : (ss : List Section) (s : Section) (rest text : List ℕ) → AreSections ss rest → IsSection s text → AreSections (ss ++ s ∷ []) (rest ++ text)
more_sections [] s rest text h is = (text, [], is, refl, ap (λ (u : List ℕ). u ++ text) h ∙ sym (append-nil text))
more_sections (x ∷ ss) s rest text h is =
    (h.0, h.1 ++ text, h.2, more_sections ss s h.1 text h.3 is, ap (λ (u : List ℕ). u ++ text) h.4 ∙ append_assoc h.0 h.1 text)

more_given : (ss : List Section) (c : List ℕ) (last : ℕ) (p q : Parts) → IsCustom c → Give ss last p q → Give (ss ++ Custom c ∷ []) last p q
more_given [] c last p q k h = (k, h)
more_given (Custom d ∷ ss) c last p q k h = (h.0, more_given ss c last p q k h.1)
more_given (Known i d ∷ ss) c last p q k h = (h.0, h.1, h.2, more_given ss c (number i) h.1 q k h.3)

pub no_trace : (bytes custom contents : List ℕ) (m : ModuleForm) → IsModule bytes m → IsCustom contents → IsSection (Custom contents) custom → length (bytes ++ custom) ≤ most_module_bytes →
    IsModule (bytes ++ custom) m
no_trace bytes custom contents m h k s few = record {
  sections = h.sections ++ Custom contents ∷ [];
  rest = h.rest ++ custom;
  parts = h.parts;
  begins = ap (λ (u : List ℕ). u ++ custom) h.begins ∙ append_assoc header h.rest custom;
  size = few;
  spelled = more_sections h.sections (Custom contents) h.rest custom h.spelled s;
  gives = more_given h.sections contents 0 no_parts h.parts k h.gives;
  counts = h.counts;
  result = h.result;
}

-- the section of names is one

four : IsU32 (4 ∷ []) 4
four = record { weight = 128; raw = inl (omega arith, refl, refl, refl); len = omega arith; small = omega arith }

ascii : IsAscii (110 ∷ 97 ∷ 109 ∷ 101 ∷ [])
ascii zero = omega arith
ascii (suc zero) = omega arith
ascii (suc (suc zero)) = omega arith
ascii (suc (suc (suc zero))) = omega arith
ascii (suc (suc (suc (suc i)))) = omega arith

names_custom : (first : ℕ) (names : List (List ℕ)) → IsCustom (name_contents first names)
names_custom first names = (
  110 ∷ 97 ∷ 109 ∷ 101 ∷ [],
  4 ∷ 110 ∷ 97 ∷ 109 ∷ 101 ∷ [],
  1 ∷ counted (functions_text first names),
  (IsUtf8-from_ascii (110 ∷ 97 ∷ 109 ∷ 101 ∷ []) ascii, (4 ∷ [], four, refl)),
  refl,
)

names_section : (first : ℕ) (names : List (List ℕ)) → length (name_contents first names) < 2 ^ 32 → IsSection (Custom (name_contents first names)) (names_text first names)
names_section first names few = (u32_text (length (name_contents first names)), u32_written (length (name_contents first names)) few, refl)

pub names_no_trace : (bytes : List ℕ) (first : ℕ) (names : List (List ℕ)) (m : ModuleForm) → IsModule bytes m → length (bytes ++ names_text first names) ≤ most_module_bytes →
    IsModule (bytes ++ names_text first names) m
names_no_trace bytes first names m h few =
    let c = name_contents first names in
    let whole = length-append bytes (names_text first names) in
    let own = length-append (u32_text (length c)) c in
    no_trace bytes (names_text first names) c m h (names_custom first names) (names_section first names (omega (arith, few, whole, own))) few
