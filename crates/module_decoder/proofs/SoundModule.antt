-- What is read is a module.
use Rattle.std.proofs.Common.{◌≡◌, ℕ, zero, suc, ◌+◌, ◌-◌, ◌^◌, Bool, true, false, cond, ltb, leb, List, [], ◌∷◌, ◌++◌, length, take, drop, Option, Some, None, Result, Ok, Err, refl, sym, ap, subst, ◌∙◌, append_assoc, nat_eq}
use Rattle.std.specs.Prelude.{IfOk}
use Rattle.std.proofs.lemmas.Bool.{eqb-true, leb-true, ltb-true}
use Rattle.std.proofs.lemmas.List.{take-append-drop, length-take-le}
use Rattle.wasm_types.specs.declared.module.SectionId.{SectionId}
use Rattle.wasm_types.specs.Syntax.{ModuleForm}
use Rattle.wasm_types.specs.View.{view_module}
use Rattle.wasm_types.specs.declared.module.Module.{Module}
use Rattle.wasm_types.specs.Leb128.{IsU32}
use Rattle.wasm_types.specs.Leb128Texts.{u32_at}
use Rattle.wasm_types.specs.ModuleGrammar.{Parts, number, Section, Custom, Known, IsSection, AreSections, Give, module_of, header, IsModule}
use Rattle.wasm_types.proofs.Groups.{unsigned_sound, u32_is}
use Rattle.module_decoder.specs.declared.fault.DecodeFault.{DecodeFault}
use Rattle.module_decoder.specs.declared.fault.DecodeFault.TheVariants.{BadHeader, Truncated, BadSection, BadInteger, TooLarge}
use Rattle.module_decoder.specs.Readers.{◌>>=◌, Gives, unfinished}
use Rattle.module_decoder.specs.Reading.{name_at, all_sections, find_section, section_by, part_at, Progress, Frame, made_frame, framed, size_by, frame_at, span_of, custom_in, custom_at, functions_at, known_in, known_by, section_at, sections_at, no_progress, finished, after_header, contents_at, module_at}
use Rattle.module_decoder.proofs.Sound.{bind_ok, IsOk, ok_is, IsErr, err_ok, passed, name_sound}
use Rattle.module_decoder.proofs.SoundParts.{part_sound}

-- ---- sections

record Framed (bytes : List ℕ) (f : Frame) : Type 0 where
  size : List ℕ
  number_of : IsU32 size (length f.contents)
  parts : bytes ≡ size ++ (f.contents ++ f.after)

framed_sound : (total : ℕ) (bytes size : List ℕ) (n : ℕ) (rest : List ℕ) (f : Frame) → IsU32 size n → bytes ≡ size ++ rest → framed total (n, rest) ≡ Ok f → Framed bytes f
framed_sound total bytes size n rest f h q e =
    let p = passed (leb n (length rest)) (Ok (made_frame (take n rest) (drop n rest))) (Truncated total) f e in
    let small = leb-true n (length rest) p.0 in
    subst (Framed bytes) (ok_is (made_frame (take n rest) (drop n rest)) f p.1)
    (record { size = size; number_of = subst (IsU32 size) (sym (length-take-le n rest small)) h; parts = q ∙ ap (λ (u : List ℕ). size ++ u) (sym (take-append-drop n rest)) })

no_size : (total : ℕ) (bytes : List ℕ) (f : Frame) → size_by total bytes None ≡ IsOk f → ⊥
no_size total bytes f e = by (unfinished 5 bytes) e
  where
    by : (b : Bool) → cond b (IsErr Frame (Truncated total)) (Err (BadInteger (total - length bytes))) ≡ IsOk f → ⊥
    by true q = err_ok (Truncated total) f q
    by false q = err_ok (BadInteger (total - length bytes)) f q

frame_sound : (total : ℕ) (bytes : List ℕ) (f : Frame) → frame_at total bytes ≡ Ok f → Framed bytes f
frame_sound total bytes f e = by (u32_at bytes) refl e
  where
    by : (o : Option (ℕ × List ℕ)) → u32_at bytes ≡ o → size_by total bytes o ≡ Ok f → Framed bytes f
    by None q h = absurd (no_size total bytes f h)
    by (Some x) q h = let t = unsigned_sound 5 (2 ^ 32) bytes x (sym (u32_is bytes) ∙ q) in framed_sound total bytes t.text x.0 x.1 f t.number t.parts h

-- a section at the front, after which reading goes on
record TakesSection (bytes : List ℕ) (s : Progress) (x : Progress × List ℕ) : Type 0 where
  section : Section
  text : List ℕ
  spelled : IsSection section text
  parts : bytes ≡ text ++ x.1
  gives : (ss : List Section) (q : Parts) → Give ss x.0.last x.0.parts q → Give (section ∷ ss) s.last s.parts q

framed_text : (id : ℕ) (bytes : List ℕ) (f : Frame) (g : Framed bytes f) → id ∷ bytes ≡ (id ∷ g.size ++ f.contents) ++ f.after
framed_text id bytes f g = ap (λ (u : List ℕ). id ∷ u) (g.parts ∙ sym (append_assoc g.size f.contents f.after))

custom_sound : (total at : ℕ) (s : Progress) (bytes : List ℕ) (x : Progress × List ℕ) → custom_at total at s bytes ≡ Ok x → TakesSection (0 ∷ bytes) s x
custom_sound total at s bytes x e =
    let f = bind_ok (frame_at total bytes) (custom_in total at s) x e in
    let n = bind_ok (name_at (span_of total at f.0) f.0.contents) (λ name. Ok (s, f.0.after)) x f.2 in
    let g = frame_sound total bytes f.0 f.1 in
    let t = name_sound (span_of total at f.0) f.0.contents n.0 n.1 in
    subst (TakesSection (0 ∷ bytes) s) (ok_is (s, f.0.after) x n.2)
    (record { section = Custom f.0.contents; text = 0 ∷ g.size ++ f.0.contents; spelled = (g.size, g.number_of, refl); parts = framed_text 0 bytes f.0 g; gives = λ ss q h. ((n.0.0, t.0, n.0.1, t.1, t.2), h) })

known_sound : (total at : ℕ) (k : SectionId) (s : Progress) (bytes : List ℕ) (x : Progress × List ℕ) → known_by total at (Some k) s bytes ≡ Ok x → TakesSection (number k ∷ bytes) s x
known_sound total at k s bytes x e =
    let p = passed (ltb s.last (number k)) (frame_at total bytes >>= known_in total at k s) (BadSection at) x e in
    let f = bind_ok (frame_at total bytes) (known_in total at k s) x p.1 in
    let r = bind_ok (part_at (span_of total at f.0) k s.parts f.0.contents) (λ p. Ok (record { last = number k; functions = functions_at k at s.functions; parts = p }, f.0.after)) x f.2 in
    let g = frame_sound total bytes f.0 f.1 in
    let t = part_sound (span_of total at f.0) k s.parts f.0.contents r.0 r.1 in
    let later = ltb-true s.last (number k) p.0 in
    subst (TakesSection (number k ∷ bytes) s) (ok_is (record { last = number k; functions = functions_at k at s.functions; parts = r.0 }, f.0.after) x r.2)
    (record { section = Known k f.0.contents; text = number k ∷ g.size ++ f.0.contents; spelled = (g.size, g.number_of, refl); parts = framed_text (number k) bytes f.0 g; gives = λ ss q h. (later, r.0, t, h) })

abbrev no_id : Option SectionId
no_id = None

found_id : (ks : List SectionId) (b : ℕ) (k : SectionId) → find_section ks b ≡ Some k → number k ≡ b
found_id [] b k e = absurd cc
found_id (j ∷ ks) b k e = by (λ h. found_id ks b k h) (nat_eq b (number j)) refl e
  where
    by : (find_section ks b ≡ Some k → number k ≡ b) → (t : Bool) → nat_eq b (number j) ≡ t → cond t (Some j) (find_section ks b) ≡ Some k → number k ≡ b
    by f true q h = let same : j ≡ k = cc in ap number (sym same) ∙ sym (eqb-true b (number j) q)
    by f false q h = f h

section_sound : (total : ℕ) (s : Progress) (id : ℕ) (bytes : List ℕ) (x : Progress × List ℕ) → section_at total s id bytes ≡ Ok x → TakesSection (id ∷ bytes) s x
section_sound total s id bytes x e = by (nat_eq id 0) refl e
  where
    known : (o : Option SectionId) → section_by id ≡ o → known_by total (total - (length bytes + 1)) o s bytes ≡ Ok x → TakesSection (id ∷ bytes) s x
    known None q h = absurd (err_ok (BadSection (total - (length bytes + 1))) x h)
    known (Some k) q h = subst (λ (n : ℕ). TakesSection (n ∷ bytes) s x) (found_id all_sections id k q) (known_sound total (total - (length bytes + 1)) k s bytes x h)

    by : (t : Bool) → nat_eq id 0 ≡ t → cond t (custom_at total (total - (length bytes + 1)) s bytes) (known_by total (total - (length bytes + 1)) (section_by id) s bytes) ≡ Ok x → TakesSection (id ∷ bytes) s x
    by true q h = subst (λ (n : ℕ). TakesSection (n ∷ bytes) s x) (sym (eqb-true id 0 q)) (custom_sound total (total - (length bytes + 1)) s bytes x h)
    by false q h = known (section_by id) refl h

record GivesAll (bytes : List ℕ) (s t : Progress) : Type 0 where
  sections : List Section
  spelled : AreSections sections bytes
  gives : Give sections s.last s.parts t.parts

sections_sound : (total w : ℕ) (s : Progress) (bytes : List ℕ) (t : Progress) → sections_at total w s bytes ≡ Ok t → GivesAll bytes s t
sections_sound total w s [] t e = subst (GivesAll [] s) (ok_is s t e) (record { sections = []; spelled = refl; gives = refl })
sections_sound total zero s (b ∷ bytes) t e = absurd (err_ok TooLarge t e)
sections_sound total (suc w) s (b ∷ bytes) t e =
    let a = bind_ok (section_at total s b bytes) (λ x. sections_at total w x.0 x.1) t e in
    let h = section_sound total s b bytes a.0 a.1 in
    let g = sections_sound total w a.0.0 a.0.1 t a.2 in
    record { sections = h.section ∷ g.sections; spelled = (h.text, a.0.1, h.spelled, g.spelled, h.parts); gives = h.gives g.sections t.parts g.gives }

-- ---- modules

header_sound : (total : ℕ) (hs bytes rest : List ℕ) → after_header total hs bytes ≡ Ok rest → bytes ≡ hs ++ rest
header_sound total [] bytes rest e = ok_is bytes rest e
header_sound total (h ∷ hs) [] rest e = absurd (err_ok (Truncated total) rest e)
header_sound total (h ∷ hs) (b ∷ bytes) rest e =
    let p = passed (nat_eq b h) (after_header total hs bytes) BadHeader rest e in
    ap (λ (n : ℕ). n ∷ bytes) (eqb-true b h p.0) ∙ ap (λ (u : List ℕ). h ∷ u) (header_sound total hs bytes rest p.1)

pub module_sound : (bytes : List ℕ) (m : ModuleForm) → module_at bytes ≡ Ok m → IsModule bytes m
module_sound bytes m e =
    let h = bind_ok (after_header (length bytes) header bytes) (contents_at (length bytes)) m e in
    let p = passed (leb (length bytes) (2 ^ 24)) (sections_at (length bytes) (length h.0) no_progress h.0 >>= finished) TooLarge m h.2 in
    let s = bind_ok (sections_at (length bytes) (length h.0) no_progress h.0) finished m p.1 in
    let g = sections_sound (length bytes) (length h.0) no_progress h.0 s.0 s.1 in
    let f = passed (nat_eq (length s.0.parts.type_indices) (length s.0.parts.codes)) (Ok (module_of s.0.parts)) (BadSection s.0.functions) m s.2 in
    record {
      sections = g.sections;
      rest = h.0;
      parts = s.0.parts;
      begins = header_sound (length bytes) header bytes h.0 h.1;
      size = leb-true (length bytes) (2 ^ 24) p.0;
      spelled = g.spelled;
      gives = g.gives;
      counts = eqb-true (length s.0.parts.type_indices) (length s.0.parts.codes) f.0;
      result = sym (ok_is (module_of s.0.parts) m f.1);
    }

pub found : (bytes : List ℕ) (r : Result Module DecodeFault) → Gives view_module r (module_at bytes) → IfOk r (λ m. IsModule bytes (view_module m))
found bytes (Ok m) h = module_sound bytes (view_module m) h
found bytes (Err e) h = tt
