-- A module that is linked begins in a well-typed configuration.
use Rattle.std.proofs.Common.{◌≡◌, ◌≢◌, ◌≤◌, ◌+◌, ℕ, zero, suc, List, [], ◌∷◌, Option, Some, None, Bool, true, false, map, length, refl, sym, ap, subst, ◌∙◌, arith, if◌then◌else◌, reverse, replicate}
use Rattle.std.specs.Prelude.{slice_get, option_map}
use Rattle.std.specs.List.{All}
use Rattle.std.proofs.lemmas.List.{length-map}
use Rattle.std.proofs.lemmas.Option.{slice_get-map}
use Rattle.wasm_types.specs.declared.types.Limits.{Limits}
use Rattle.wasm_types.specs.declared.types.ValType.{ValType}
use Rattle.wasm_types.specs.declared.types.ValType.TheVariants as ty
use Rattle.wasm_types.specs.declared.instr.Simple.TheVariants.{Call, I32Const, I64Const}
use Rattle.wasm_types.specs.declared.module.ExportDesc.{ExportDesc}
use Rattle.wasm_types.specs.declared.module.ExportDesc.TheVariants as export
use Rattle.wasm_types.specs.Syntax.{Instructions, Done, Then, Plain, Signature, ImportForm, ExportForm, GlobalForm, ModuleForm}
use Rattle.wasm_types.specs.Typing.{one, Context, CodeOk, done, more, InstrOk, Fixed, effect_of, GrowsTo, IsConstant, LimitsOk, ModuleOk, StartOk, callee_in, typed_in, context_in}
use Rattle.wasm_types.specs.Typing as typing
use Rattle.wasm_store.specs.declared.word.Word.{Word}
use Rattle.wasm_store.specs.Memories.{MemoryForm, fresh}
use Rattle.wasm_store.specs.Words.{type_of}
use Rattle.wasm_model.specs.declared.fault.LinkFault.{LinkFault}
use Rattle.wasm_model.specs.declared.fault.LinkFault.TheVariants as fault
use Rattle.wasm_model.specs.Frames.{FrameForm, begun}
use Rattle.wasm_model.specs.Hosts.{Finds}
use Rattle.wasm_model.specs.Links.{first_some, first_none, main_type, main_function, main_at, main_of, is_main_name, number_if, number_for, numbers_for, value_of, least, limits_or_none, Refuses, filled, poured, entry_code, beginning}
use Rattle.wasm_model.specs.LinkAnswers.{NumberRefused}
use Rattle.wasm_model.specs.Machines.{CallerForm, ProgramForm, agree}
use Rattle.wasm_model.specs.Typed.{bottom, ConfOk, IsCalls, Linked}
use Rattle.wasm_model.proofs.Types.{agreed}

pub least_is : (ls : List Limits) → (limits_or_none ls).min ≡ least ls
least_is [] = refl
least_is (l ∷ ls) = refl

grows_few : (least : ℕ) (most : Option ℕ) → GrowsTo 65536 least most → least ≤ 65536
grows_few n None h = h
grows_few n (Some k) h = omega (arith, h.0, h.1)

pub pages_few : (ls : List Limits) → All (LimitsOk 65536) ls → (limits_or_none ls).min ≤ 65536
pages_few [] a = omega arith
pages_few (l ∷ ls) a = grows_few l.min l.max (a zero l (omega arith))

pub none_missing : (ns : List ℕ) → first_none (map Some ns) ≡ None
none_missing [] = refl
none_missing (n ∷ ns) = ap (λ (o : Option ℕ). elim o [ None ↦ None | Some i ↦ Some (i + 1) ]) (none_missing ns)

-- Main.

chosen : (b : Bool) (o : Option ℕ) (n : ℕ) → (if b then o else None) ≡ Some n → (b ≡ true) × (o ≡ Some n)
chosen true o n e = (refl, e)
chosen false o n e = cc

main_typed : (m : ModuleForm) (d : ExportDesc) (n : ℕ) → main_function m d ≡ Some n → callee_in m n ≡ Some main_type
main_typed m (export.Func k) n e =
    let h = chosen (agree (Some main_type) (callee_in m k)) (Some k) n e in
    let q : k ≡ n = (let x = h.1 in cc) in
    subst (λ (j : ℕ). callee_in m j ≡ Some main_type) q (agreed (Some main_type) (callee_in m k) main_type refl h.0)
main_typed m (export.Table k) n e = cc
main_typed m (export.Memory k) n e = cc
main_typed m (export.Global k) n e = cc

among_by : (m : ModuleForm) (e : ExportForm) (rest : Option ℕ) (n : ℕ) (o : Option ℕ) → main_at m e ≡ o → elim o [ Some y ↦ Some y | None ↦ rest ] ≡ Some n → (rest ≡ Some n → callee_in m n ≡ Some main_type) → callee_in m n ≡ Some main_type
among_by m e rest n None q h k = k h
among_by m e rest n (Some y) q h k = main_typed m e.desc n (chosen (is_main_name e.name) (main_function m e.desc) n (q ∙ h)).1

among : (m : ModuleForm) (es : List ExportForm) (n : ℕ) → first_some (main_at m) es ≡ Some n → callee_in m n ≡ Some main_type
among m [] n e = cc
among m (x ∷ es) n e = among_by m x (first_some (main_at m) es) n (main_at m x) refl e (among m es n)

pub main_callee : (m : ModuleForm) (n : ℕ) → main_of m ≡ Some n → callee_in m n ≡ Some main_type
main_callee m n e = among m m.exports n e

-- Globals.

constant_typed : (code : Instructions) (k : ValType) → IsConstant code k → type_of (value_of code) ≡ k
constant_typed Done k e = cc
constant_typed (Then (Plain (I32Const n)) Done) k e = cc
constant_typed (Then (Plain (I64Const n)) Done) k e = cc
constant_typed (Then i (Then j is)) k e = cc
constant_typed (Then i Done) k e = cc

globals_typed : (gs : List GlobalForm) → All (λ g. IsConstant g.init g.ty.value) gs → map type_of (map (λ g. value_of g.init) gs) ≡ map (λ g. g.ty.value) gs
globals_typed [] a = refl
globals_typed (g ∷ gs) a =
    ap (λ (k : ValType). k ∷ map type_of (map (λ h. value_of h.init) gs)) (constant_typed g.init g.ty.value (a zero g (omega arith)))
    ∙ ap (λ (ks : List ValType). g.ty.value ∷ ks) (globals_typed gs (λ k d lt. a (suc k) d (omega (arith, lt))))

-- The code of the first frame.

calls : (m : ModuleForm) (n : ℕ) (t : Signature) → callee_in m n ≡ Some t → t.params ≡ [] → InstrOk (context_in m main_type []) (Some ty.I32 ∷ []) (Plain (Call n)) [] (one t.result)
calls m n t e p = typing.simple {C = context_in m main_type []} (Fixed [] t.result) (ap (λ (o : Option Signature). typing.over o (λ s. Fixed (reverse s.params) s.result)) e ∙ ap (λ (ps : List ValType). Some (Fixed (reverse ps) t.result)) p) (refl, refl)

entry_typed : (m : ModuleForm) (s : Option ℕ) (n : ℕ) → callee_in m n ≡ Some main_type → StartOk m s → CodeOk (context_in m main_type []) (Some ty.I32 ∷ []) (entry_code s n) [] (one (Some ty.I32))
entry_typed m None n e h = more [] (one (Some ty.I32)) [] (calls m n main_type e refl) refl done
entry_typed m (Some k) n e h = more [] [] [] (calls m k (record { params = []; result = None }) h refl) refl (more [] (one (Some ty.I32)) [] (calls m n main_type e refl) refl done)

entry_calls : (s : Option ℕ) (n : ℕ) → IsCalls (entry_code s n)
entry_calls None n = tt
entry_calls (Some k) n = tt

pub begun_ok : (m : ModuleForm) → ModuleOk m → (n : ℕ) → main_of m ≡ Some n → ConfOk m (beginning m n)
begun_ok m p n e = record {
  ty = main_type;
  locals = [];
  frame_ok = record { labels = Some ty.I32 ∷ []; own = []; end = one (Some ty.I32); labels_ok = bottom {C = context_in m main_type []} refl; code_ok = entry_typed m m.start n (main_callee m n e) p.level.start_ok; values_ok = refl; locals_ok = refl };
  result_is = refl;
  callers_ok = refl;
  first_ok = (refl, refl, entry_calls m.start n);
  globals_ok = globals_typed m.globals p.level.globals_ok;
}

-- A configuration is the beginning, part by part.
pub beginning_is : (m : ModuleForm) (n : ℕ) (frame : FrameForm) (gl : List Word) (cs : List CallerForm) (mem : MemoryForm) (t : List (Option ℕ)) →
    frame ≡ begun (entry_code m.start n) → cs ≡ [] → mem ≡ poured (fresh (limits_or_none m.memories)) m.data_segments → t ≡ filled (replicate (least m.tables) None) m.elems → gl ≡ map (λ g. value_of g.init) m.globals →
    record { frame = frame; result = Some ty.I32; callers = cs; memory = mem; table = t; globals = gl } ≡ beginning m n
beginning_is m n frame gl cs mem t a b c d e = cc

-- Imports.

number_some : (m : ModuleForm) (k : ℕ) (o : Option (ℕ × Signature)) (n : ℕ) → number_if m k o ≡ Some n → (r : ℕ × Signature) × (o ≡ Some r) × (r.0 ≡ n) × (typed_in m k ≡ Some r.1)
number_some m k None n e = cc
number_some m k (Some r) n e =
    let h = chosen (agree (Some r.1) (typed_in m k)) (Some r.0) n e in
    let q : r.0 ≡ n = (let x = h.1 in cc) in
    (r, refl, q, agreed (Some r.1) (typed_in m k) r.1 refl h.0)

pub linked_is : (F : Finds) (T : ℕ → Option Signature) (law : (from name : List ℕ) (r : ℕ × Signature) → F from name ≡ Some r → T r.0 ≡ Some r.1) (m : ProgramForm) → numbers_for F m.whole ≡ map Some m.numbers → Linked T m
linked_is F T law m e i x n at is =
    let a : slice_get (numbers_for F m.whole) i ≡ Some (number_for F m.whole x) = slice_get-map (number_for F m.whole) m.whole.imports i ∙ ap (λ (o : Option ImportForm). option_map (number_for F m.whole) o) at in
    let b : slice_get (map Some m.numbers) i ≡ Some (Some n) = slice_get-map Some m.numbers i ∙ ap (λ (o : Option ℕ). option_map Some o) is in
    let c : Some (number_for F m.whole x) ≡ Some (Some n) = sym a ∙ (ap (λ (os : List (Option ℕ)). slice_get os i) e ∙ b) in
    let d : number_for F m.whole x ≡ Some n = cc in
    let s = number_some m.whole x.ty (F x.from x.name) n d in
    ap T (sym s.2) ∙ (law x.from x.name s.0 s.1 ∙ sym s.3)

pub numbered : (F : Finds) (m : ProgramForm) → numbers_for F m.whole ≡ map Some m.numbers → length m.numbers ≡ length m.whole.imports
numbered F m e = sym (length-map m.numbers Some) ∙ (ap (λ (os : List (Option ℕ)). length os) (sym e) ∙ length-map m.whole.imports (number_for F m.whole))

pub refused_by : (F : Finds) (m : ModuleForm) (f : LinkFault) → main_of m ≢ None → NumberRefused (numbers_for F m) f → Refuses F m f
refused_by F m fault.NoMain h r = absurd r
refused_by F m (fault.BadImport i) h r = (h, r)
refused_by F m fault.SegmentBounds h r = absurd r
refused_by F m fault.NoMemory h r = tt
