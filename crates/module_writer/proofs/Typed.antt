-- In a module that the rules type every index is of something that there is, so it has its width where there are few things.
use Rattle.std.proofs.Common.{◌≡◌, ◌⊎◌, inl, inr, ℕ, zero, suc, ◌+◌, ◌^◌, ◌<◌, ◌≤◌, Bool, true, false, List, [], ◌∷◌, length, map, Option, Some, None, refl, subst, arith, length-append}
use Rattle.std.specs.Prelude.{reverse, slice_get}
use Rattle.std.specs.Str.{IsUtf8}
use Rattle.std.specs.List.{AllByRecursion, Contains}
use Rattle.std.proofs.lemmas.Bool.{cases_lt}
use Rattle.std.proofs.lemmas.List.{length-map}
use Rattle.std.proofs.lemmas.List.Elements.{Contains-append_right, recursion_from_All}
use Rattle.std.proofs.lemmas.Option.{slice_get_within}
use Rattle.wasm_types.specs.declared.types.GlobalType.{GlobalType}
use Rattle.wasm_types.specs.declared.types.Limits.{Limits}
use Rattle.wasm_types.specs.declared.types.ValType.{ValType}
use Rattle.wasm_types.specs.declared.types.ValType.TheVariants.{I32}
use Rattle.wasm_types.specs.declared.module.ExportDesc.{ExportDesc}
use Rattle.wasm_types.specs.declared.module.ExportDesc.TheVariants as export
use Rattle.wasm_types.specs.declared.instr.Simple.{Simple}
use Rattle.wasm_types.specs.declared.instr.Simple.TheVariants.{Unreachable, Nop, Br, BrIf, Return, Call, CallIndirect, Drop, Select, LocalGet, LocalSet, LocalTee, GlobalGet, GlobalSet, Load, Store, MemorySize, MemoryGrow, I32Const, I64Const, Test, Compare, Unary, Binary, Convert}
use Rattle.wasm_types.specs.Syntax.{Instruction, Plain, BrTable, Block, Loop, If, Instructions, Done, Then, Signature, ImportForm, FuncForm, GlobalForm, ExportForm, ElemForm, DataForm, ModuleForm}
use Rattle.wasm_types.specs.Immediates.{immediates}
use Rattle.wasm_types.specs.Instructions.{depth, depths}
use Rattle.wasm_types.specs.ModuleGrammar.{IsModule}
use Rattle.wasm_types.specs.Typing.{CodeOk, Context, DataOk, DescOk, Effect, ElemOk, Fixed, FuncOk, GrowsTo, ImportOk, InstrOk, IsConstant, IsFunction, LimitsOk, ModuleOk, StartOk, block, callee_in, choice, constant_of, context_in, effect_of, function_types, loop, more, over, set_effect, simple, table, typed_in}
use Rattle.module_writer.specs.Limits.{CanBeSpelled, HasNumbers, HasWords, HaveNumbers, HaveWords, HoldsWords, IsDescribed, IsImportable, IsIndexed, IsMost, IsShallow, IsSpellable, IsWithinLimits, PassesALimit, WordFits, blocks, bytes, elements, locals, pages}
use Rattle.module_writer.specs.Size.{code_size, each_size, global_size, import_size, module_size, signature_size, type_size, vec_section_size}
use Rattle.module_writer.proofs.Within.{each_most, has_bytes}

-- ---- instructions without a body

over_some : {A : Type 0} (o : Option A) (f : A → Effect) (e : Effect) → over o f ≡ Some e → (x : A) × (o ≡ Some x)
over_some None f e h = absurd cc
over_some (Some x) f e h = (x, refl)

-- few things have indices in this context
record IsBounded (C : Context) : Type 0 where
  locals : length C.locals < 2 ^ 32
  globals : length C.globals < 2 ^ 32
  callee : (n : ℕ) (t : Signature) → C.callee n ≡ Some t → n < 2 ^ 32
  typed : (n : ℕ) (t : Signature) → C.typed n ≡ Some t → n < 2 ^ 32

in_list : {A : Type 0} (xs : List A) (n : ℕ) (x : A) → slice_get xs n ≡ Some x → length xs < 2 ^ 32 → n < 2 ^ 32
in_list xs n x e few = let l = slice_get_within xs n x e in omega (arith, l, few)

module _ (C : Context) (few : IsBounded C) (L : List (Option ValType)) (shallow : length L < 2 ^ 32) where
  index_there : {A : Type 0} (xs : List A) (f : A → Effect) (n : ℕ) (e : Effect) → over (slice_get xs n) f ≡ Some e → length xs < 2 ^ 32 → n < 2 ^ 32
  index_there xs f n e h least = let x = over_some (slice_get xs n) f e h in in_list xs n x.0 x.1 least

  simple_numbers : (p : Simple) (e : Effect) → effect_of C L p ≡ Some e → WordFits (immediates p) → CanBeSpelled (immediates p)
  simple_numbers Unreachable e h w = tt
  simple_numbers Nop e h w = tt
  simple_numbers (Br n) e h w = index_there L _ n e h shallow
  simple_numbers (BrIf n) e h w = index_there L _ n e h shallow
  simple_numbers Return e h w = tt
  simple_numbers (Call n) e h w = let t = over_some (C.callee n) _ e h in few.callee n t.0 t.1
  simple_numbers (CallIndirect n) e h w = by C.table h
    where
      by : (b : Bool) → (elim b [ false ↦ None | true ↦ over (C.typed n) (λ t. Fixed (I32 ∷ reverse t.params) t.result) ]) ≡ Some e → n < 2 ^ 32
      by false k = absurd cc
      by true k = let t = over_some (C.typed n) _ e k in few.typed n t.0 t.1
  simple_numbers Drop e h w = tt
  simple_numbers Select e h w = tt
  simple_numbers (LocalGet x) e h w = index_there C.locals _ x e h few.locals
  simple_numbers (LocalSet x) e h w = index_there C.locals _ x e h few.locals
  simple_numbers (LocalTee x) e h w = index_there C.locals _ x e h few.locals
  simple_numbers (GlobalGet x) e h w = index_there C.globals _ x e h few.globals
  simple_numbers (GlobalSet x) e h w = by (slice_get C.globals x) refl h
    where
      by : (o : Option GlobalType) → slice_get C.globals x ≡ o → (elim o [ None ↦ None | Some g ↦ set_effect g.mutable g.value ]) ≡ Some e → x < 2 ^ 32
      by None is k = absurd cc
      by (Some g) is k = in_list C.globals x g is few.globals
  simple_numbers (Load op m) e h w = w
  simple_numbers (Store op m) e h w = w
  simple_numbers MemorySize e h w = tt
  simple_numbers MemoryGrow e h w = tt
  simple_numbers (I32Const n) e h w = w
  simple_numbers (I64Const n) e h w = w
  simple_numbers (Test k op) e h w = tt
  simple_numbers (Compare k op) e h w = tt
  simple_numbers (Unary k op) e h w = tt
  simple_numbers (Binary k op) e h w = tt
  simple_numbers (Convert op) e h w = tt

  labels_there : (r : Option ValType) (ns : List ℕ) → AllByRecursion (λ k. slice_get L k ≡ Some r) ns → AllByRecursion IsIndexed ns
  labels_there r [] h = tt
  labels_there r (n ∷ ns) h = (in_list L n r h.0 shallow, labels_there r ns h.1)

-- ---- code

module _ (C : Context) (few : IsBounded C) where
  mutual
    code_numbers : (is : Instructions) (L : List (Option ValType)) (ks ns : List ValType) → CodeOk C L is ks ns → HaveWords is → length L + depths is < 2 ^ 32 →
        HaveNumbers is
    code_numbers Done L ks ns h w low = tt
    code_numbers (Then i is) L ks ns (more ps rs under h e k) w low =
        (instr_numbers i L ps rs h w.0 (omega (arith, low)), code_numbers is L _ ns k w.1 (omega (arith, low)))

    instr_numbers : (i : Instruction) (L : List (Option ValType)) (ps rs : List ValType) → InstrOk C L i ps rs → HasWords i → length L + depth i < 2 ^ 32 →
        HasNumbers i
    instr_numbers (Plain p) L ps rs (simple e h t) w low = simple_numbers C few L (omega (arith, low)) p e h w
    instr_numbers (BrTable ns n) L ps rs (table r h all t) w low =
        (labels_there C few L (omega (arith, low)) r ns (recursion_from_All (λ k. slice_get L k ≡ Some r) ns all), in_list L n r h (omega (arith, low)))
    instr_numbers (Block r is) L ps rs (block h t) w low = code_numbers is (r ∷ L) _ _ h w (omega (arith, low))
    instr_numbers (Loop r is) L ps rs (loop h t) w low = code_numbers is (None ∷ L) _ _ h w (omega (arith, low))
    instr_numbers (If r is js) L ps rs (choice h k t) w low =
        (code_numbers is (r ∷ L) _ _ h w.0 (omega (arith, low)), code_numbers js (r ∷ L) _ _ k w.1 (omega (arith, low)))

-- ---- constant expressions

constant_one : (i : Instruction) (k : ValType) → constant_of i ≡ Some k → HasWords i → HasNumbers i × (depth i ≡ 0)
constant_one (Plain (I32Const n)) k h w = (w, refl)
constant_one (Plain (I64Const n)) k h w = (w, refl)
constant_one (Plain Unreachable) k h w = absurd cc
constant_one (Plain Nop) k h w = absurd cc
constant_one (Plain (Br n)) k h w = absurd cc
constant_one (Plain (BrIf n)) k h w = absurd cc
constant_one (Plain Return) k h w = absurd cc
constant_one (Plain (Call n)) k h w = absurd cc
constant_one (Plain (CallIndirect n)) k h w = absurd cc
constant_one (Plain Drop) k h w = absurd cc
constant_one (Plain Select) k h w = absurd cc
constant_one (Plain (LocalGet x)) k h w = absurd cc
constant_one (Plain (LocalSet x)) k h w = absurd cc
constant_one (Plain (LocalTee x)) k h w = absurd cc
constant_one (Plain (GlobalGet x)) k h w = absurd cc
constant_one (Plain (GlobalSet x)) k h w = absurd cc
constant_one (Plain (Load op m)) k h w = absurd cc
constant_one (Plain (Store op m)) k h w = absurd cc
constant_one (Plain MemorySize) k h w = absurd cc
constant_one (Plain MemoryGrow) k h w = absurd cc
constant_one (Plain (Test t op)) k h w = absurd cc
constant_one (Plain (Compare t op)) k h w = absurd cc
constant_one (Plain (Unary t op)) k h w = absurd cc
constant_one (Plain (Binary t op)) k h w = absurd cc
constant_one (Plain (Convert op)) k h w = absurd cc
constant_one (BrTable ns n) k h w = absurd cc
constant_one (Block r is) k h w = absurd cc
constant_one (Loop r is) k h w = absurd cc
constant_one (If r is js) k h w = absurd cc

constant_numbers : (is : Instructions) (k : ValType) → IsConstant is k → HaveWords is → HaveNumbers is × IsShallow is
constant_numbers Done k h w = absurd cc
constant_numbers (Then i Done) k h w = let c = constant_one i k h w.0 in let d = c.1 in ((c.0, tt), omega (arith, d))
constant_numbers (Then i (Then j is)) k h w = absurd cc

-- ---- modules

pub section_most : {A : Type 0} (f : A → ℕ) → ((x : A) → 1 ≤ f x) → (xs : List A) → length xs ≤ vec_section_size f xs
section_most f some [] = omega arith
section_most f some (x ∷ xs) = let m = each_most f some (x ∷ xs) in omega (arith, m)

pub section_each : {A : Type 0} (f : A → ℕ) (xs : List A) → each_size f xs ≤ vec_section_size f xs
section_each f [] = omega arith
section_each f (x ∷ xs) = omega arith

pub one_of_each : {A : Type 0} (f : A → ℕ) (xs : List A) (n : ℕ) (x : A) → slice_get xs n ≡ Some x → f x ≤ each_size f xs
one_of_each f [] n x e = absurd cc
one_of_each f (y ∷ ys) zero x e = by e
  where
    by : Some y ≡ Some x → f x ≤ each_size f (y ∷ ys)
    by is = let same : y ≡ x = cc in subst (λ (z : _). f z ≤ each_size f (y ∷ ys)) same (omega arith)
one_of_each f (y ∷ ys) (suc n) x e = let h = one_of_each f ys n x e in omega (arith, h)

module _ (m : ModuleForm) (ok : ModuleOk m) (words : HoldsWords m) (size : module_size m ≤ 2 ^ 24)
    (deep : AllByRecursion (λ (f : FuncForm). IsShallow f.body) m.funcs) (long : AllByRecursion (λ (f : FuncForm). length f.locals ≤ 50000) m.funcs) where
  few_types : length m.types ≤ 2 ^ 24
  few_types = let l = section_most signature_size (λ s. omega arith) m.types in omega (arith, l, size)

  few_imports : length m.imports ≤ 2 ^ 24
  few_imports = let l = section_most import_size (λ i. omega arith) m.imports in omega (arith, l, size)

  few_functions : length m.funcs ≤ 2 ^ 24
  few_functions = let l = section_most code_size (λ f. omega arith) m.funcs in omega (arith, l, size)

  few_globals : length m.globals ≤ 2 ^ 24
  few_globals = let l = section_most global_size (λ g. omega arith) m.globals in omega (arith, l, size)

  all_few : length (function_types m) < 2 ^ 32
  all_few =
      let a = length-append (map (λ (i : ImportForm). i.ty) m.imports) (map (λ (f : FuncForm). f.ty) m.funcs) in
      let b = length-map m.imports (λ (i : ImportForm). i.ty) in
      let c = length-map m.funcs (λ (f : FuncForm). f.ty) in
      let i = few_imports in
      let f = few_functions in
      omega (arith, a, b, c, i, f)

  called_there : (n : ℕ) (t : Signature) → callee_in m n ≡ Some t → n < 2 ^ 32
  called_there n t h = by (slice_get (function_types m) n) refl h
    where
      by : (o : Option ℕ) → slice_get (function_types m) n ≡ o → (elim o [ None ↦ None | Some ty ↦ typed_in m ty ]) ≡ Some t → n < 2 ^ 32
      by None is k = absurd cc
      by (Some ty) is k = in_list (function_types m) n ty is all_few

  typed_there : (n : ℕ) (t : Signature) → typed_in m n ≡ Some t → n < 2 ^ 32
  typed_there n t h = let f = few_types in in_list m.types n t h (omega (arith, f))

  few_parameters : (n : ℕ) (t : Signature) → typed_in m n ≡ Some t → length t.params ≤ 2 ^ 24
  few_parameters n t h =
      let a = one_of_each signature_size m.types n t h in
      let b = section_each signature_size m.types in
      let c = each_most type_size (λ t. omega arith) t.params in
      omega (arith, a, b, c, size)

  bounded : (n : ℕ) (t : Signature) (ls : List ValType) → typed_in m n ≡ Some t → length ls ≤ 50000 → IsBounded (context_in m t ls)
  bounded n t ls h few = record {
    locals = let a = length-append t.params ls in let b = few_parameters n t h in omega (arith, a, b, few);
    globals = let a = length-map m.globals (λ (g : GlobalForm). g.ty) in let b = few_globals in omega (arith, a, b);
    callee = called_there;
    typed = typed_there;
  }

  functions_can : (fs : List FuncForm) → AllByRecursion (FuncOk m) fs → AllByRecursion (λ (f : FuncForm). HaveWords f.body) fs →
      AllByRecursion (λ (f : FuncForm). IsShallow f.body) fs → AllByRecursion (λ (f : FuncForm). length f.locals ≤ 50000) fs →
      AllByRecursion (λ (f : FuncForm). IsIndexed f.ty) fs × AllByRecursion (λ (f : FuncForm). HaveNumbers f.body) fs
  functions_can [] h w d l = (tt, tt)
  functions_can (f ∷ fs) h w d l =
      let t = h.0.0 in
      let depth = d.0 in
      let rest = functions_can fs h.1 w.1 d.1 l.1 in (
        (typed_there f.ty t h.0.1, rest.0),
        (code_numbers (context_in m t f.locals) (bounded f.ty t f.locals h.0.1 l.0) f.body (t.result ∷ []) _ _ h.0.2 w.0 (omega (arith, depth)), rest.1),
      )

  imports_can : (is : List ImportForm) → AllByRecursion (ImportOk m) is → AllByRecursion (λ (i : ImportForm). IsUtf8 i.from × IsUtf8 i.name) is →
      AllByRecursion IsImportable is
  imports_can [] h w = tt
  imports_can (i ∷ is) h w = let a = h.0 in let f = few_types in ((w.0.0, (w.0.1, omega (arith, a, f))), imports_can is h.1 w.1)

  grows_can : (least : ℕ) (o : Option ℕ) → GrowsTo 65536 least o → IsMost o
  grows_can least None h = tt
  grows_can least (Some most) h = let a = h.1 in omega (arith, a)

  memories_can : (ls : List Limits) → AllByRecursion (LimitsOk 65536) ls → AllByRecursion (λ (l : Limits). IsMost l.max) ls
  memories_can [] h = tt
  memories_can (l ∷ ls) h = (grows_can l.min l.max h.0, memories_can ls h.1)

  globals_can : (gs : List GlobalForm) → AllByRecursion (λ (g : GlobalForm). IsConstant g.init g.ty.value) gs →
      AllByRecursion (λ (g : GlobalForm). HaveWords g.init) gs →
      AllByRecursion (λ (g : GlobalForm). HaveNumbers g.init) gs × AllByRecursion (λ (g : GlobalForm). IsShallow g.init) gs
  globals_can [] h w = (tt, tt)
  globals_can (g ∷ gs) h w =
      let c = constant_numbers g.init g.ty.value h.0 w.0 in
      let rest = globals_can gs h.1 w.1 in
      ((c.0, rest.0), (c.1, rest.1))

  desc_can : (d : ExportDesc) → DescOk m d → IsDescribed d
  desc_can (export.Func n) h = let a = all_few in omega (arith, a, h)
  desc_can (export.Table n) h = let a = ok.level.one_table in omega (arith, a, h)
  desc_can (export.Memory n) h = let a = ok.level.one_memory in omega (arith, a, h)
  desc_can (export.Global n) h = let a = few_globals in omega (arith, a, h)

  exports_can : (es : List ExportForm) → AllByRecursion (λ (e : ExportForm). DescOk m e.desc) es → AllByRecursion (λ (e : ExportForm). IsUtf8 e.name) es →
      AllByRecursion (λ (e : ExportForm). IsUtf8 e.name × IsDescribed e.desc) es
  exports_can [] h w = tt
  exports_can (e ∷ es) h w = ((w.0, desc_can e.desc h.0), exports_can es h.1 w.1)

  start_can : (o : Option ℕ) → StartOk m o → IsMost o
  start_can None h = tt
  start_can (Some n) h = called_there n _ h

  functions_there : (ns : List ℕ) → AllByRecursion (IsFunction m) ns → AllByRecursion IsIndexed ns
  functions_there [] h = tt
  functions_there (n ∷ ns) h = let a = h.0 in let b = all_few in (omega (arith, a, b), functions_there ns h.1)

  elems_can : (es : List ElemForm) → AllByRecursion (ElemOk m) es → AllByRecursion (λ (e : ElemForm). HaveWords e.offset) es →
      AllByRecursion (λ (e : ElemForm). IsIndexed e.table × (HaveNumbers e.offset × AllByRecursion IsIndexed e.init)) es
      × AllByRecursion (λ (e : ElemForm). IsShallow e.offset) es
  elems_can [] h w = (tt, tt)
  elems_can (e ∷ es) h w =
      let c = constant_numbers e.offset I32 h.0.offset w.0 in
      let rest = elems_can es h.1 w.1 in
      let a = h.0.of_table in
      let b = ok.level.one_table in
      (((omega (arith, a, b), (c.0, functions_there e.init (recursion_from_All (IsFunction m) e.init h.0.functions))), rest.0), (c.1, rest.1))

  data_can : (ds : List DataForm) → AllByRecursion (DataOk m) ds → AllByRecursion (λ (d : DataForm). HaveWords d.offset) ds →
      AllByRecursion (λ (d : DataForm). IsIndexed d.memory × HaveNumbers d.offset) ds × AllByRecursion (λ (d : DataForm). IsShallow d.offset) ds
  data_can [] h w = (tt, tt)
  data_can (d ∷ ds) h w =
      let c = constant_numbers d.offset I32 h.0.offset w.0 in
      let rest = data_can ds h.1 w.1 in
      let a = h.0.of_memory in
      let b = ok.level.one_memory in
      (((omega (arith, a, b), c.0), rest.0), (c.1, rest.1))

  functions_are : AllByRecursion (λ (f : FuncForm). IsIndexed f.ty) m.funcs × AllByRecursion (λ (f : FuncForm). HaveNumbers f.body) m.funcs
  functions_are = functions_can m.funcs (recursion_from_All (FuncOk m) m.funcs ok.funcs_ok) words.codes deep long

  globals_are : AllByRecursion (λ (g : GlobalForm). HaveNumbers g.init) m.globals × AllByRecursion (λ (g : GlobalForm). IsShallow g.init) m.globals
  globals_are = globals_can m.globals (recursion_from_All (λ (g : GlobalForm). IsConstant g.init g.ty.value) m.globals ok.level.globals_ok) words.globals

  elems_are : AllByRecursion (λ (e : ElemForm). IsIndexed e.table × (HaveNumbers e.offset × AllByRecursion IsIndexed e.init)) m.elems
      × AllByRecursion (λ (e : ElemForm). IsShallow e.offset) m.elems
  elems_are = elems_can m.elems (recursion_from_All (ElemOk m) m.elems ok.level.elems_ok) words.elems

  data_are : AllByRecursion (λ (d : DataForm). IsIndexed d.memory × HaveNumbers d.offset) m.data_segments
      × AllByRecursion (λ (d : DataForm). IsShallow d.offset) m.data_segments
  data_are = data_can m.data_segments (recursion_from_All (DataOk m) m.data_segments ok.level.data_ok) words.data_segments

  spellable : IsSpellable m
  spellable = record {
    imports = imports_can m.imports (recursion_from_All (ImportOk m) m.imports ok.level.imports_ok) words.imports;
    types = functions_are.0;
    tables = words.tables;
    memories = memories_can m.memories (recursion_from_All (LimitsOk 65536) m.memories ok.level.memories_ok);
    globals = globals_are.0;
    exports = exports_can m.exports (recursion_from_All (λ (e : ExportForm). DescOk m e.desc) m.exports ok.level.exports_ok) words.exports;
    start = start_can m.start ok.level.start_ok;
    elems = elems_are.0;
    codes = functions_are.1;
    data_segments = data_are.0;
  }

  within : AllByRecursion (λ (l : Limits). l.min ≤ 65536) m.tables → AllByRecursion (λ (l : Limits). l.min ≤ 256) m.memories → IsWithinLimits m
  within tables memories = record {
    size = size;
    locals = long;
    bodies = deep;
    globals = globals_are.1;
    elems = elems_are.1;
    data_segments = data_are.1;
    tables = tables;
    memories = memories;
  }

-- ---- bytes, or a limit

pub found : {X : Type 0} (f : X → ℕ) (most : ℕ) (xs : List X) → AllByRecursion (λ (x : X). f x ≤ most) xs ⊎ ((x : X) × Contains xs x × (most < f x))
found f most [] = inl tt
found f most (x ∷ xs) = by (cases_lt most (f x)) (found f most xs)
  where
    by : (most < f x) ⊎ (f x ≤ most) → AllByRecursion (λ y. f y ≤ most) xs ⊎ ((y : _) × Contains xs y × (most < f y)) →
        AllByRecursion (λ y. f y ≤ most) (x ∷ xs) ⊎ ((y : _) × Contains (x ∷ xs) y × (most < f y))
    by (inl high) rest = inr (x, (0, omega arith, refl), high)
    by (inr low) (inl all) = inl (low, all)
    by (inr low) (inr other) = inr (other.0, Contains-append_right (x ∷ []) xs other.0 other.1, other.2)

abbrev pub HasBytes : ModuleForm → Type 0
HasBytes m = (text : List ℕ) × IsModule text m × (length text ≡ module_size m)

-- A TYPED MODULE HAS BYTES, OR IT PASSES A LIMIT
pub bytes_or_limit : (m : ModuleForm) → ModuleOk m → HoldsWords m → HasBytes m ⊎ PassesALimit m
bytes_or_limit m ok words = by (cases_lt (2 ^ 24) (module_size m)) (found (λ (f : FuncForm). length f.locals) 50000 m.funcs)
    (found (λ (f : FuncForm). depths f.body) 4000 m.funcs) (found (λ (l : Limits). l.min) 65536 m.tables) (found (λ (l : Limits). l.min) 256 m.memories)
  where
    by : (2 ^ 24 < module_size m) ⊎ (module_size m ≤ 2 ^ 24) →
        AllByRecursion (λ (f : FuncForm). length f.locals ≤ 50000) m.funcs ⊎ ((f : FuncForm) × Contains m.funcs f × (50000 < length f.locals)) →
        AllByRecursion (λ (f : FuncForm). IsShallow f.body) m.funcs ⊎ ((f : FuncForm) × Contains m.funcs f × (4000 < depths f.body)) →
        AllByRecursion (λ (l : Limits). l.min ≤ 65536) m.tables ⊎ ((l : Limits) × Contains m.tables l × (65536 < l.min)) →
        AllByRecursion (λ (l : Limits). l.min ≤ 256) m.memories ⊎ ((l : Limits) × Contains m.memories l × (256 < l.min)) → HasBytes m ⊎ PassesALimit m
    by (inl high) l d t p = inr (bytes high)
    by (inr low) (inr f) d t p = inr (locals f.0 f.1 f.2)
    by (inr low) (inl l) (inr f) t p = inr (blocks f.0 f.1 f.2)
    by (inr low) (inl l) (inl d) (inr t) p = inr (elements t.0 t.1 t.2)
    by (inr low) (inl l) (inl d) (inl t) (inr p) = inr (pages p.0 p.1 p.2)
    by (inr low) (inl l) (inl d) (inl t) (inl p) = inl (has_bytes m (spellable m ok words low d l) (within m ok words low d l t p))
