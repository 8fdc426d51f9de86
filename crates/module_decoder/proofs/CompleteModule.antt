-- A module is read from its bytes, so bytes are of at most one module.
use Rattle.std.proofs.Common.{◌≡◌, ℕ, zero, suc, ◌+◌, ◌-◌, ◌≤◌, ◌^◌, false, List, [], ◌∷◌, ◌++◌, length, Some, Result, Ok, refl, sym, ap, subst, ◌∙◌, append_assoc, arith, length-append, eq-eqb, nat_eq}
use Rattle.std.proofs.lemmas.Bool.{le-leb, lt-ltb}
use Rattle.std.proofs.lemmas.List.{take_at, drop_at}
use Rattle.wasm_types.specs.declared.module.SectionId.{SectionId}
use Rattle.wasm_types.specs.declared.module.SectionId.TheVariants as section
use Rattle.wasm_types.specs.Syntax.{ModuleForm}
use Rattle.wasm_types.specs.View.{view_module}
use Rattle.wasm_types.specs.declared.module.Module.{Module}
use Rattle.wasm_types.specs.Leb128.{IsU32}
use Rattle.wasm_types.specs.ModuleGrammar.{Parts, number, Section, Custom, Known, IsCustom, AreSections, Give, module_of, header, IsModule}
use Rattle.wasm_types.proofs.Groups.{unsigned_again, u32_is}
use Rattle.module_decoder.specs.declared.fault.DecodeFault.{DecodeFault}
use Rattle.module_decoder.specs.declared.basics.Span.{Span}
use Rattle.module_decoder.specs.Readers.{◌>>=◌, Gives}
use Rattle.module_decoder.specs.Reading.{name_at, section_by, Progress, made_frame, frame_at, functions_at, section_at, sections_at, no_progress, finished, after_header, contents_at, module_at}
use Rattle.module_decoder.proofs.Sound.{ok_is}
use Rattle.module_decoder.proofs.Complete.{name_again}
use Rattle.module_decoder.proofs.CompleteParts.{part_again}

frame_again : (total : ℕ) (size contents rest : List ℕ) → IsU32 size (length contents) → frame_at total (size ++ (contents ++ rest)) ≡ Ok (made_frame contents rest)
frame_again total size contents rest h =
    let room : length contents ≤ length (contents ++ rest) = omega (arith, length-append contents rest) in
    rw (u32_is (size ++ (contents ++ rest)), unsigned_again 5 (2 ^ 32) size (length contents) (contents ++ rest) h, le-leb (length contents) (length (contents ++ rest)) room, take_at contents rest (length contents) refl, drop_at contents rest (length contents) refl) refl

id_again : (k : SectionId) → (nat_eq (number k) 0 ≡ false) × (section_by (number k) ≡ Some k)
id_again section.Type = (refl, refl)
id_again section.Import = (refl, refl)
id_again section.Function = (refl, refl)
id_again section.Table = (refl, refl)
id_again section.Memory = (refl, refl)
id_again section.Global = (refl, refl)
id_again section.Export = (refl, refl)
id_again section.Start = (refl, refl)
id_again section.Element = (refl, refl)
id_again section.Code = (refl, refl)
id_again section.Data = (refl, refl)

record ReadsAll (total w : ℕ) (s : Progress) (bytes : List ℕ) (q : Parts) : Type 0 where
  progress : Progress
  reads : sections_at total w s bytes ≡ Ok progress
  parts_are : progress.parts ≡ q

-- one section, and the rest of them
goes_on : (total w : ℕ) (s t : Progress) (b : ℕ) (tail rest : List ℕ) (q : Parts) → section_at total s b tail ≡ Ok (t, rest) → ReadsAll total w t rest q → ReadsAll total (suc w) s (b ∷ tail) q
goes_on total w s t b tail rest q h r = record { progress = r.progress; reads = rw h r.reads; parts_are = r.parts_are }

custom_name : (c : Span) (bytes : List ℕ) (h : IsCustom bytes) → name_at c bytes ≡ Ok (h.0, h.2)
custom_name c bytes h = ap (name_at c) h.4 ∙ name_again c h.0 h.1 h.2 h.3

sections_again : (total w : ℕ) (ss : List Section) (s : Progress) (text : List ℕ) (q : Parts) → AreSections ss text → Give ss s.last s.parts q → length text ≤ w → ReadsAll total w s text q
sections_again total w [] s text q h g room = rw h (record { progress = s; reads = refl; parts_are = sym g })
sections_again total zero (Custom c ∷ ss) s text q h g room =
    absurd (omega (arith, room, ap length h.4, length-append h.0 h.1, ap length h.2.2))
sections_again total (suc w) (Custom c ∷ ss) s text q h g room =
    let p : text ≡ 0 ∷ (h.2.0 ++ (c ++ h.1)) = h.4 ∙ ap (λ (u : List ℕ). u ++ h.1) h.2.2 ∙ ap (λ (u : List ℕ). 0 ∷ u) (append_assoc h.2.0 c h.1) in
    let at = total - (length (h.2.0 ++ (c ++ h.1)) + 1) in
    let span : ℕ = total - length h.1 in
    let named : section_at total s 0 (h.2.0 ++ (c ++ h.1)) ≡ Ok (s, h.1) =
    rw (frame_again total h.2.0 c h.1 h.2.1, custom_name (record { section = at; end = span }) c g.0) refl in
    rw p (goes_on total w s s 0 (h.2.0 ++ (c ++ h.1)) h.1 q named (sections_again total w ss s h.1 q h.3 g.1 (omega (arith, room, ap length h.4, length-append h.0 h.1, ap length h.2.2))))
sections_again total zero (Known k c ∷ ss) s text q h g room =
    absurd (omega (arith, room, ap length h.4, length-append h.0 h.1, ap length h.2.2))
sections_again total (suc w) (Known k c ∷ ss) s text q h g room =
    let p : text ≡ number k ∷ (h.2.0 ++ (c ++ h.1)) = h.4 ∙ ap (λ (u : List ℕ). u ++ h.1) h.2.2 ∙ ap (λ (u : List ℕ). number k ∷ u) (append_assoc h.2.0 c h.1) in
    let at = total - (length (h.2.0 ++ (c ++ h.1)) + 1) in
    let span : ℕ = total - length h.1 in
    let t : Progress = record { last = number k; functions = functions_at k at s.functions; parts = g.1 } in
    let i = id_again k in
    let known : section_at total s (number k) (h.2.0 ++ (c ++ h.1)) ≡ Ok (t, h.1) =
    rw (i.0, i.1, lt-ltb s.last (number k) g.0, frame_again total h.2.0 c h.1 h.2.1, part_again (record { section = at; end = span }) k s.parts c g.1 g.2) refl in
    rw p (goes_on total w s t (number k) (h.2.0 ++ (c ++ h.1)) h.1 q known (sections_again total w ss t h.1 q h.3 g.3 (omega (arith, room, ap length h.4, length-append h.0 h.1, ap length h.2.2))))

header_again : (total : ℕ) (hs rest : List ℕ) → after_header total hs (hs ++ rest) ≡ Ok rest
header_again total [] rest = refl
header_again total (h ∷ hs) rest = rw (eq-eqb h h refl) (header_again total hs rest)

pub module_again : (bytes : List ℕ) (m : ModuleForm) → IsModule bytes m → module_at bytes ≡ Ok m
module_again bytes m h =
    let s = sections_again (length bytes) (length h.rest) h.sections no_progress h.rest h.parts h.spelled h.gives (omega arith) in
    let first : after_header (length bytes) header bytes ≡ Ok h.rest = ap (after_header (length bytes) header) h.begins ∙ header_again (length bytes) header h.rest in
    let counts : length s.progress.parts.type_indices ≡ length s.progress.parts.codes = rw s.parts_are h.counts in
    let end : finished s.progress ≡ Ok m = rw (eq-eqb _ _ counts) (ap (λ (p : Parts). Ok (module_of p)) s.parts_are ∙ ap (λ (x : ModuleForm). Ok x) (sym h.result)) in
    let all : contents_at (length bytes) h.rest ≡ Ok m = rw (le-leb (length bytes) (2 ^ 24) h.size, s.reads) end in
    ap (λ (r : Result (List ℕ) DecodeFault). r >>= contents_at (length bytes)) first ∙ all

pub one_module : (bytes : List ℕ) (m n : ModuleForm) → IsModule bytes m → IsModule bytes n → m ≡ n
one_module bytes m n h g = ok_is m n (sym (module_again bytes m h) ∙ module_again bytes n g)

pub only : (bytes : List ℕ) (r : Result Module DecodeFault) → Gives view_module r (module_at bytes) → (m : ModuleForm) → IsModule bytes m → Gives view_module r (Ok m)
only bytes r h m g = subst (Gives view_module r) (module_again bytes m g) h
