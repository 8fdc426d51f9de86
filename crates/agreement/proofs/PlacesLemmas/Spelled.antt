-- A program whose module has bytes is small, but for the parameters of its functions: each instruction and each global takes a byte at least, and a function of a module has at most 50,000 locals
-- of its own.
use Rattle.std.proofs.Common.{◌≡◌, ◌⊎◌, inl, inr, ℕ, suc, ◌+◌, ◌^◌, ◌≤◌, Bool, List, [], ◌∷◌, ◌++◌, length, map, max, replicate, refl, sym, ap, ap₂, subst, arith}
use Rattle.std.specs.List.{All, AllByRecursion as ByRecursion}
use Rattle.std.proofs.lemmas.List.{length-append, length-map, length-replicate}
use Rattle.std.proofs.lemmas.List.Elements.{All-append, All-cons, All-from_recursion, All-map, All-nil, All-weaker, recursion_from_All}
use Rattle.wasm_types.specs.Instructions.{Each, IsVec, SpellAll, Spells, block_code, depth, depths}
use Rattle.wasm_types.specs.ModuleGrammar.{AreSections, CodeForm, Custom, Give, GivesPart, IsCode, IsData, IsGlobal, IsModule, Known, Parts, Section, joined, no_parts, number}
use Rattle.wasm_types.specs.Syntax.{BrTable, Block, DataForm, Done, FuncForm, GlobalForm, If, Instruction, Instructions, Loop, ModuleForm, Plain, Then}
use Rattle.wasm_types.specs.declared.module.SectionId.{SectionId}
use Rattle.wasm_types.specs.declared.module.SectionId.TheVariants as section
use Rattle.mid_program.specs.Mid.{Declared, Kind, Program}
use Rattle.mid_program.specs.Sorted.{kinds_of}
use Rattle.lower_model.specs.Functions.{main_callee, routine_callee}
use Rattle.lower_model.specs.Machine.{Callee}
use Rattle.lower_model.specs.Modules.{all_callees, called_imports, functions_from, imports_of, module_of, name_globals, renumbered, renumbered_one, word_global}
use Rattle.lower_model.specs.Functions.{texts_of}
use Rattle.lower_model.specs.Places.{memory_of}
use Rattle.agreement.specs.Places.Places.{IsSmall, IsWithin, size, size_inside}

-- Instructions.

mutual
  all_sized : (is : Instructions) (text : List ℕ) → SpellAll is text → size is ≤ length text
  all_sized Done text h = omega arith
  all_sized (Then i k) text h =
      let a = one_sized i h.0 h.2 in
      let b = all_sized k h.1 h.3 in
      let e = ap (λ (z : List ℕ). length z) h.4 in
      let l = length-append h.0 h.1 in
      omega (arith, a, b, e, l)

  one_sized : (i : Instruction) (text : List ℕ) → Spells i text → suc (size_inside i) ≤ length text
  one_sized (Plain p) text h = let e = ap (λ (z : List ℕ). length z) h.2 in omega (arith, e)
  one_sized (BrTable ns n) text h = let e = ap (λ (z : List ℕ). length z) h.4 in omega (arith, e)
  one_sized (Block k is) text h =
      let a = all_sized is h.0 h.1 in
      let e = ap (λ (z : List ℕ). length z) h.2 in
      let l = length-append h.0 (0x0b ∷ []) in
      omega (arith, a, e, l)
  one_sized (Loop k is) text h =
      let a = all_sized is h.0 h.1 in
      let e = ap (λ (z : List ℕ). length z) h.2 in
      let l = length-append h.0 (0x0b ∷ []) in
      omega (arith, a, e, l)
  one_sized (If k is js) text h = by h.4 (all_sized is h.0 h.2) (all_sized js h.1 h.3)
    where
      by : (text ≡ 0x04 ∷ block_code k ∷ h.0 ++ 0x05 ∷ h.1 ++ 0x0b ∷ []) ⊎ ((js ≡ Done) × (text ≡ 0x04 ∷ block_code k ∷ h.0 ++ 0x0b ∷ [])) →
          size is ≤ length h.0 → size js ≤ length h.1 → suc (size is + size js) ≤ length text
      by (inl e) a b =
          let q = ap (λ (z : List ℕ). length z) e in
          let l = length-append (h.0 ++ (0x05 ∷ h.1)) (0x0b ∷ []) in
          let m = length-append h.0 (0x05 ∷ h.1) in
          omega (arith, a, b, q, l, m)
      by (inr e) a b =
          let q = ap (λ (z : List ℕ). length z) e.1 in
          let l = length-append h.0 (0x0b ∷ []) in
          let d = ap size e.0 in
          omega (arith, a, q, l, d)

-- calls that are numbered anew are as many
mutual
  size_same : (bs : List Bool) (code : Instructions) → size (renumbered bs code) ≡ size code
  size_same bs Done = refl
  size_same bs (Then i k) = let a = inside_same bs i in let b = size_same bs k in omega (arith, a, b)

  inside_same : (bs : List Bool) (i : Instruction) → size_inside (renumbered_one bs i) ≡ size_inside i
  inside_same bs (Plain p) = refl
  inside_same bs (BrTable ns n) = refl
  inside_same bs (Block r a) = size_same bs a
  inside_same bs (Loop r a) = size_same bs a
  inside_same bs (If r a b) = let x = size_same bs a in let y = size_same bs b in omega (arith, x, y)

mutual
  depths_same : (bs : List Bool) (code : Instructions) → depths (renumbered bs code) ≡ depths code
  depths_same bs Done = refl
  depths_same bs (Then i k) = ap₂ (λ x y. max x y) (depth_same bs i) (depths_same bs k)

  depth_same : (bs : List Bool) (i : Instruction) → depth (renumbered_one bs i) ≡ depth i
  depth_same bs (Plain p) = refl
  depth_same bs (BrTable ns n) = refl
  depth_same bs (Block r a) = ap (λ x. x + 1) (depths_same bs a)
  depth_same bs (Loop r a) = ap (λ x. x + 1) (depths_same bs a)
  depth_same bs (If r a b) = ap₂ (λ x y. max x y + 1) (depths_same bs a) (depths_same bs b)

-- Parts.

module _ (n : ℕ) where
  abbrev CodeFits : CodeForm → Type 0
  CodeFits c = (length c.locals ≤ 50000) × (size c.body ≤ n) × (depths c.body ≤ 4000)

  abbrev DataFits : DataForm → Type 0
  DataFits d = length d.init ≤ n

  record PartsFit (p : Parts) : Type 0 where
    codes : ByRecursion CodeFits p.codes
    functions : length p.codes ≤ n
    globals : length p.globals ≤ n
    data_fits : ByRecursion DataFits p.data_segments

  each_fits : {A : Type 0} (P : A → List ℕ → Type 0) (Q : A → Type 0) → ((x : A) (a : List ℕ) → P x a → length a ≤ n → Q x) →
      (xs : List A) (text : List ℕ) → Each P xs text → length text ≤ n → ByRecursion Q xs
  each_fits P Q f [] text h l = tt
  each_fits P Q f (x ∷ xs) text h l =
      let e = ap (λ (z : List ℕ). length z) h.4 in
      let s = length-append h.0 h.1 in
      (f x h.0 h.2 (omega (arith, e, s, l)), each_fits P Q f xs h.1 h.3 (omega (arith, e, s, l)))

  vec_fits : {A : Type 0} (P : A → List ℕ → Type 0) (Q : A → Type 0) → ((x : A) (a : List ℕ) → P x a → length a ≤ n → Q x) →
      (xs : List A) (text : List ℕ) → IsVec P xs text → length text ≤ n → ByRecursion Q xs
  vec_fits P Q f xs text h l =
      let e = ap (λ (z : List ℕ). length z) h.4 in
      let s = length-append h.0 h.1 in
      each_fits P Q f xs h.1 h.3 (omega (arith, e, s, l))

  code_fits : (c : CodeForm) (text : List ℕ) → IsCode c text → length text ≤ n → CodeFits c
  code_fits c text h l =
      let e = ap (λ (z : List ℕ). length z) h.4 in
      let s = length-append h.0 h.1 in
      let both = h.3 in
      let f = ap (λ (z : List ℕ). length z) both.4 in
      let t = length-append both.0 both.1 in
      let body = both.3 in
      let g = ap (λ (z : List ℕ). length z) body.3 in
      let u = length-append body.0 (0x0b ∷ []) in
      let w = all_sized c.body body.0 body.1 in
      (both.2.3, omega (arith, e, s, f, t, g, u, w, l), body.2)

  data_fits_in : (d : DataForm) (text : List ℕ) → IsData d text → length text ≤ n → DataFits d
  data_fits_in d text h l =
      let e = ap (λ (z : List ℕ). length z) h.4 in
      let s = length-append h.0 h.1 in
      let both = h.3 in
      let f = ap (λ (z : List ℕ). length z) both.4 in
      let t = length-append both.0 both.1 in
      let bytes = both.3 in
      let g = ap (λ (z : List ℕ). length z) bytes.2 in
      let u = length-append bytes.0 d.init in
      omega (arith, e, s, f, t, g, u, l)

  -- a global takes a byte at least
  globals_few : (xs : List GlobalForm) (text : List ℕ) → Each IsGlobal xs text → length xs ≤ length text
  globals_few [] text h = omega arith
  globals_few (x ∷ xs) text h =
      let e = ap (λ (z : List ℕ). length z) h.4 in
      let s = length-append h.0 h.1 in
      let f = ap (λ (z : List ℕ). length z) h.2.4 in
      let t = length-append h.2.0 h.2.1 in
      let g = ap (λ (z : List ℕ). length z) h.2.2 in
      let r = globals_few xs h.1 h.3 in
      omega (arith, e, s, f, t, g, r)

  -- and so does a function: the end of its code
  code_takes : (c : CodeForm) (text : List ℕ) → IsCode c text → 1 ≤ length text
  code_takes c text h =
      let e = ap (λ (z : List ℕ). length z) h.4 in
      let s = length-append h.0 h.1 in
      let both = h.3 in
      let f = ap (λ (z : List ℕ). length z) both.4 in
      let t = length-append both.0 both.1 in
      let body = both.3 in
      let g = ap (λ (z : List ℕ). length z) body.3 in
      let u = length-append body.0 (0x0b ∷ []) in
      omega (arith, e, s, f, t, g, u)

  codes_few : (xs : List CodeForm) (text : List ℕ) → Each IsCode xs text → length xs ≤ length text
  codes_few [] text h = omega arith
  codes_few (x ∷ xs) text h =
      let e = ap (λ (z : List ℕ). length z) h.4 in
      let s = length-append h.0 h.1 in
      let c = code_takes x h.0 h.2 in
      let r = codes_few xs h.1 h.3 in
      omega (arith, e, s, c, r)

  vec_few : (xs : List CodeForm) (text : List ℕ) → IsVec IsCode xs text → length xs ≤ length text
  vec_few xs text h =
      let e = ap (λ (z : List ℕ). length z) h.4 in
      let s = length-append h.0 h.1 in
      let r = codes_few xs h.1 h.3 in
      omega (arith, e, s, r)

  given_fits : (k : SectionId) (text : List ℕ) (p q : Parts) → GivesPart k text p q → length text ≤ n → PartsFit p → PartsFit q
  given_fits section.Type text p q h l f = subst PartsFit (sym h.2) (record { codes = f.codes; functions = f.functions; globals = f.globals; data_fits = f.data_fits })
  given_fits section.Import text p q h l f = subst PartsFit (sym h.2) (record { codes = f.codes; functions = f.functions; globals = f.globals; data_fits = f.data_fits })
  given_fits section.Function text p q h l f = subst PartsFit (sym h.2) (record { codes = f.codes; functions = f.functions; globals = f.globals; data_fits = f.data_fits })
  given_fits section.Table text p q h l f = subst PartsFit (sym h.2) (record { codes = f.codes; functions = f.functions; globals = f.globals; data_fits = f.data_fits })
  given_fits section.Memory text p q h l f = subst PartsFit (sym h.2) (record { codes = f.codes; functions = f.functions; globals = f.globals; data_fits = f.data_fits })
  given_fits section.Global text p q h l f =
      let e = ap (λ (z : List ℕ). length z) h.1.4 in
      let s = length-append h.1.0 h.1.1 in
      let g = globals_few h.0 h.1.1 h.1.3 in
      subst PartsFit (sym h.2) (record { codes = f.codes; functions = f.functions; globals = omega (arith, e, s, g, l); data_fits = f.data_fits })
  given_fits section.Export text p q h l f = subst PartsFit (sym h.2) (record { codes = f.codes; functions = f.functions; globals = f.globals; data_fits = f.data_fits })
  given_fits section.Start text p q h l f = subst PartsFit (sym h.2) (record { codes = f.codes; functions = f.functions; globals = f.globals; data_fits = f.data_fits })
  given_fits section.Element text p q h l f = subst PartsFit (sym h.2) (record { codes = f.codes; functions = f.functions; globals = f.globals; data_fits = f.data_fits })
  given_fits section.Code text p q h l f = subst PartsFit (sym h.3) (record { codes = vec_fits IsCode CodeFits code_fits h.0 text h.1 l; functions = (let r = vec_few h.0 text h.1 in omega (arith, r, l)); globals = f.globals; data_fits = f.data_fits })
  given_fits section.Data text p q h l f = subst PartsFit (sym h.2) (record { codes = f.codes; functions = f.functions; globals = f.globals; data_fits = vec_fits IsData DataFits data_fits_in h.0 text h.1 l })

  sections_fit : (ss : List Section) (last : ℕ) (text : List ℕ) (p q : Parts) → AreSections ss text → Give ss last p q → length text ≤ n → PartsFit p → PartsFit q
  sections_fit [] last text p q h g l f = subst PartsFit (sym g) f
  sections_fit (Custom c ∷ ss) last text p q h g l f =
      let e = ap (λ (z : List ℕ). length z) h.4 in
      let s = length-append h.0 h.1 in
      sections_fit ss last h.1 p q h.3 g.1 (omega (arith, e, s, l)) f
  sections_fit (Known k c ∷ ss) last text p q h g l f =
      let e = ap (λ (z : List ℕ). length z) h.4 in
      let s = length-append h.0 h.1 in
      let d = ap (λ (z : List ℕ). length z) h.2.2 in
      let t = length-append h.2.0 c in
      sections_fit ss (number k) h.1 g.1 q h.3 g.3 (omega (arith, e, s, l)) (given_fits k c p g.1 g.2 (omega (arith, e, s, d, t, l)) f)

  -- Functions.

  abbrev FunctionFits : FuncForm → Type 0
  FunctionFits f = (length f.locals ≤ 50000) × (size f.body ≤ n) × (depths f.body ≤ 4000)

  joined_fit : (ts : List ℕ) (cs : List CodeForm) → ByRecursion CodeFits cs → ByRecursion FunctionFits (joined ts cs)
  joined_fit [] cs h = tt
  joined_fit (t ∷ ts) [] h = tt
  joined_fit (t ∷ ts) (c ∷ cs) h = (h.0, joined_fit ts cs h.1)

  functions_fit : (bs : List Bool) (k : ℕ) (fs : List Callee) → ByRecursion FunctionFits (functions_from bs k fs) → ByRecursion (λ (f : Callee). length f.kinds ≤ 100) fs → ByRecursion (IsWithin 100000 n) fs
  functions_fit bs k [] h w = tt
  functions_fit bs k (f ∷ fs) h w =
      let a = w.0 in
      let b = h.0.0 in
      let c = h.0.1 in
      let e = size_same bs f.body in
      (record { locals = omega (arith, a, b); code = omega (arith, c, e) }, functions_fit bs (suc k) fs h.1 w.1)

  joined_few : (ts : List ℕ) (cs : List CodeForm) → length (joined ts cs) ≤ length cs
  joined_few [] cs = omega arith
  joined_few (t ∷ ts) [] = omega arith
  joined_few (t ∷ ts) (c ∷ cs) = let r = joined_few ts cs in omega (arith, r)

  functions_counted : (bs : List Bool) (k : ℕ) (fs : List Callee) → length (functions_from bs k fs) ≡ length fs
  functions_counted bs k [] = refl
  functions_counted bs k (f ∷ fs) = ap suc (functions_counted bs (suc k) fs)

  abbrev Limited : Callee → Type 0
  Limited f = (length f.locals ≤ 50000) × (depths f.body ≤ 4000)

  functions_limited : (bs : List Bool) (k : ℕ) (fs : List Callee) → ByRecursion FunctionFits (functions_from bs k fs) → ByRecursion Limited fs
  functions_limited bs k [] h = tt
  functions_limited bs k (f ∷ fs) h = ((h.0.0, subst (λ d. d ≤ 4000) (depths_same bs f.body) h.0.2), functions_limited bs (suc k) fs h.1)

names_counted : (ks : List Kind) → length (name_globals ks) ≡ length ks + length ks
names_counted [] = refl
names_counted (k ∷ ks) = let r = names_counted ks in omega (arith, r)

-- what a program's module has of what the limits are of: locals of a function beside its parameters, and blocks in one another; functions, names, ranges and texts take bytes
pub record IsLimited (p : Program) : Type 0 where
  pub functions : All (λ (f : Callee). (length f.locals ≤ 50000) × (depths f.body ≤ 4000)) (all_callees p)
  pub routines : length p.routines ≤ 2 ^ 24
  pub names : length p.globals ≤ 2 ^ 24
  pub ranges : p.ranges ≤ 2 ^ 24
  pub texts : length (memory_of (texts_of p)) ≤ 2 ^ 24

-- A PROGRAM WHOSE MODULE HAS BYTES is within the limits of modules
pub spelled_limited : (p : Program) (bytes : List ℕ) → IsModule bytes (module_of p) → IsLimited p
spelled_limited p bytes m =
    let e = ap (λ (z : List ℕ). length z) m.begins in
    let l = m.size in
    let fit = sections_fit (2 ^ 24) m.sections 0 m.rest no_parts m.parts m.spelled m.gives (omega (arith, e, l)) (record { codes = tt; functions = omega arith; globals = omega arith; data_fits = tt }) in
    let g = fit.globals in
    let q = ap (λ (z : ModuleForm). length z.globals) m.result in
    let fs = subst (λ (z : ModuleForm). ByRecursion (FunctionFits (2 ^ 24)) z.funcs) (sym m.result) (joined_fit (2 ^ 24) m.parts.type_indices m.parts.codes fit.codes) in
    let texts = (subst (λ (z : ModuleForm). ByRecursion (DataFits (2 ^ 24)) z.data_segments) (sym m.result) fit.data_fits).0 in
    let c = fit.functions in
    let j = joined_few (2 ^ 24) m.parts.type_indices m.parts.codes in
    let r = ap (λ (z : ModuleForm). length z.funcs) m.result in
    let n = functions_counted (2 ^ 24) (called_imports p) (length (imports_of p)) (all_callees p) in
    let a = length-append (map (routine_callee p) p.routines) (main_callee p ∷ []) in
    let b = length-map p.routines (routine_callee p) in
    let k = names_counted (kinds_of p.globals) in
    let d = length-map p.globals (λ (x : Declared). x.kind) in
    let w = length-append (replicate p.ranges (word_global 0)) (name_globals (kinds_of p.globals)) in
    let y = length-replicate p.ranges (word_global 0) in
    record {
      functions = All-from_recursion (Limited (2 ^ 24)) (all_callees p) (functions_limited (2 ^ 24) (called_imports p) (length (imports_of p)) (all_callees p) fs);
      routines = omega (arith, c, j, r, n, a, b);
      names = omega (arith, g, q, k, d, w, y);
      ranges = omega (arith, g, q, k, d, w, y);
      texts = omega (arith, texts);
    }

-- MODULES OF BYTES are small
pub spelled_small : (p : Program) (bytes : List ℕ) → IsModule bytes (module_of p) → All (λ r. length r.parameters ≤ 100) p.routines → IsSmall p
spelled_small p bytes m few =
    let e = ap (λ (z : List ℕ). length z) m.begins in
    let l = m.size in
    let fit = sections_fit (2 ^ 24) m.sections 0 m.rest no_parts m.parts m.spelled m.gives (omega (arith, e, l)) (record { codes = tt; functions = omega arith; globals = omega arith; data_fits = tt }) in
    let g = fit.globals in
    let q = ap (λ (z : ModuleForm). length z.globals) m.result in
    let kinds = recursion_from_All (λ (f : Callee). length f.kinds ≤ 100) (all_callees p)
    (All-append (λ (f : Callee). length f.kinds ≤ 100) (map (routine_callee p) p.routines) (main_callee p ∷ []) (All-map (λ (f : Callee). length f.kinds ≤ 100) (routine_callee p) p.routines few)
    (All-cons (λ (f : Callee). length f.kinds ≤ 100) (main_callee p) [] (omega arith) (All-nil (λ (f : Callee). length f.kinds ≤ 100)))) in
    let functions = subst (λ (z : ModuleForm). ByRecursion (FunctionFits (2 ^ 24)) z.funcs) (sym m.result) (joined_fit (2 ^ 24) m.parts.type_indices m.parts.codes fit.codes) in
    let texts = (subst (λ (z : ModuleForm). ByRecursion (DataFits (2 ^ 24)) z.data_segments) (sym m.result) fit.data_fits).0 in
    let within = functions_fit (2 ^ 24) (called_imports p) (length (imports_of p)) (all_callees p) functions kinds in
    record {
      functions = All-weaker (IsWithin 100000 (2 ^ 24)) (IsWithin 100000 (2 ^ 29)) (λ f w. let c = w.code in record { locals = w.locals; code = omega (arith, c) }) (all_callees p)
          (All-from_recursion (IsWithin 100000 (2 ^ 24)) (all_callees p) within);
      globals = omega (arith, g, q);
      texts = omega (arith, texts);
    }
