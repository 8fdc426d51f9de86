-- A module's bytes are no fewer than what its code takes at least.
use Rattle.std.proofs.Common.{◌≡◌, ◌⊎◌, inl, inr, ℕ, suc, ◌+◌, ◌^◌, ◌≤◌, Bool, List, [], ◌∷◌, ◌++◌, length, refl, sym, ap, subst, arith}
use Rattle.std.proofs.lemmas.List.{length-append}
use Rattle.wasm_types.specs.Instructions.{Each, SpellAll, Spells, SpellsImmediates, block_code}
use Rattle.wasm_types.specs.Leb128.{IsRaw}
use Rattle.wasm_types.specs.ModuleGrammar.{AreSections, CodeForm, Custom, Give, GivesPart, IsCode, IsModule, Known, Parts, Section, joined, no_parts, number}
use Rattle.wasm_types.specs.Immediates.{Immediates, Nothing, Index, Memory, Bits32, Bits64, IndexReserved, Reserved, immediates}
use Rattle.wasm_types.specs.Syntax.{BrTable, Block, Done, FuncForm, If, Instruction, Instructions, Loop, ModuleForm, Plain, Then}
use Rattle.wasm_types.specs.declared.instr.Simple.{Simple}
use Rattle.wasm_types.specs.declared.instr.Simple.TheVariants.{Call}
use Rattle.wasm_types.specs.declared.module.SectionId.{SectionId}
use Rattle.wasm_types.specs.declared.module.SectionId.TheVariants as section
use Rattle.mid_program.specs.Mid.{Program}
use Rattle.lower_model.specs.Machine.{Callee}
use Rattle.lower_model.specs.Modules.{all_callees, called_imports, functions_from, imports_of, module_of, renumbered, renumbered_one, renumbered_simple}
use Rattle.lower_modules.specs.Lengths.{least_among, least_in, least_of, least_with}

-- Instructions.

some : (text : List ℕ) (n w : ℕ) → IsRaw text n w → 1 ≤ length text
some [] n w h = absurd h
some (b ∷ bs) n w h = omega arith

behind_least : (i : Immediates) (text : List ℕ) → SpellsImmediates i text → least_with i ≤ suc (length text)
behind_least Nothing text h = omega arith
behind_least (Index n) text h = let a = some text n h.weight h.raw in omega (arith, a)
behind_least (Memory m) text h =
    let a = some h.0 m.align h.2.weight h.2.raw in
    let e = ap (λ (z : List ℕ). length z) h.4 in
    let l = length-append h.0 h.1 in
    omega (arith, a, e, l)
behind_least (Bits32 n) text h = let a = some text h.number h.weight h.raw in omega (arith, a)
behind_least (Bits64 n) text h = let a = some text h.number h.weight h.raw in omega (arith, a)
behind_least (IndexReserved n) text h =
    let e = ap (λ (z : List ℕ). length z) h.2 in
    let l = length-append h.0 (0 ∷ []) in
    omega (arith, e, l)
behind_least Reserved text h = let e = ap (λ (z : List ℕ). length z) h in omega (arith, e)

mutual
  all_least : (is : Instructions) (text : List ℕ) → SpellAll is text → least_in is ≤ length text
  all_least Done text h = omega arith
  all_least (Then i k) text h =
      let a = one_least i h.0 h.2 in
      let b = all_least k h.1 h.3 in
      let e = ap (λ (z : List ℕ). length z) h.4 in
      let l = length-append h.0 h.1 in
      omega (arith, a, b, e, l)

  one_least : (i : Instruction) (text : List ℕ) → Spells i text → least_of i ≤ length text
  one_least (Plain p) text h =
      let a = behind_least (immediates p) h.0 h.1 in
      let e = ap (λ (z : List ℕ). length z) h.2 in
      omega (arith, a, e)
  one_least (BrTable ns n) text h = let e = ap (λ (z : List ℕ). length z) h.4 in omega (arith, e)
  one_least (Block k is) text h =
      let a = all_least is h.0 h.1 in
      let e = ap (λ (z : List ℕ). length z) h.2 in
      let l = length-append h.0 (0x0b ∷ []) in
      omega (arith, a, e, l)
  one_least (Loop k is) text h =
      let a = all_least is h.0 h.1 in
      let e = ap (λ (z : List ℕ). length z) h.2 in
      let l = length-append h.0 (0x0b ∷ []) in
      omega (arith, a, e, l)
  one_least (If k is js) text h = by h.4 (all_least is h.0 h.2) (all_least js h.1 h.3)
    where
      by : (text ≡ 0x04 ∷ block_code k ∷ h.0 ++ 0x05 ∷ h.1 ++ 0x0b ∷ []) ⊎ ((js ≡ Done) × (text ≡ 0x04 ∷ block_code k ∷ h.0 ++ 0x0b ∷ [])) →
          least_in is ≤ length h.0 → least_in js ≤ length h.1 → least_in is + least_in js + 3 ≤ length text
      by (inl e) a b =
          let q = ap (λ (z : List ℕ). length z) e in
          let l = length-append (h.0 ++ (0x05 ∷ h.1)) (0x0b ∷ []) in
          let m = length-append h.0 (0x05 ∷ h.1) in
          omega (arith, a, b, q, l, m)
      by (inr e) a b =
          let q = ap (λ (z : List ℕ). length z) e.1 in
          let l = length-append h.0 (0x0b ∷ []) in
          let d = ap least_in e.0 in
          omega (arith, a, q, l, d)

-- calls that are numbered anew take as much
simple_same : (bs : List Bool) (p : Simple) → least_with (immediates (renumbered_simple bs p)) ≡ least_with (immediates p)
simple_same bs (Call n) = refl
simple_same bs p = refl

mutual
  all_same : (bs : List Bool) (code : Instructions) → least_in (renumbered bs code) ≡ least_in code
  all_same bs Done = refl
  all_same bs (Then i k) = let a = one_same bs i in let b = all_same bs k in omega (arith, a, b)

  one_same : (bs : List Bool) (i : Instruction) → least_of (renumbered_one bs i) ≡ least_of i
  one_same bs (Plain p) = simple_same bs p
  one_same bs (BrTable ns n) = refl
  one_same bs (Block r a) = let x = all_same bs a in omega (arith, x)
  one_same bs (Loop r a) = let x = all_same bs a in omega (arith, x)
  one_same bs (If r a b) = let x = all_same bs a in let y = all_same bs b in omega (arith, x, y)

-- Functions and sections.

abbrev in_codes : List CodeForm → ℕ
in_codes [] = 0
in_codes (c ∷ cs) = least_in c.body + in_codes cs

abbrev in_functions : List FuncForm → ℕ
in_functions [] = 0
in_functions (f ∷ fs) = least_in f.body + in_functions fs

codes_least : (cs : List CodeForm) (text : List ℕ) → Each IsCode cs text → in_codes cs ≤ length text
codes_least [] text h = omega arith
codes_least (c ∷ cs) text h =
    let code = h.2 in
    let both = code.3 in
    let body = both.3 in
    let a = all_least c.body body.0 body.1 in
    let b = codes_least cs h.1 h.3 in
    let e = ap (λ (z : List ℕ). length z) h.4 in
    let l = length-append h.0 h.1 in
    let f = ap (λ (z : List ℕ). length z) code.4 in
    let m = length-append code.0 code.1 in
    let g = ap (λ (z : List ℕ). length z) both.4 in
    let n = length-append both.0 both.1 in
    let d = ap (λ (z : List ℕ). length z) body.3 in
    let o = length-append body.0 (0x0b ∷ []) in
    omega (arith, a, b, e, l, f, m, g, n, d, o)

module _ (n : ℕ) where
  abbrev IsShort : Parts → Type 0
  IsShort p = in_codes p.codes ≤ n

  given_short : (k : SectionId) (text : List ℕ) (p q : Parts) → GivesPart k text p q → length text ≤ n → IsShort p → IsShort q
  given_short section.Type text p q h l f = subst IsShort (sym h.2) f
  given_short section.Import text p q h l f = subst IsShort (sym h.2) f
  given_short section.Function text p q h l f = subst IsShort (sym h.2) f
  given_short section.Table text p q h l f = subst IsShort (sym h.2) f
  given_short section.Memory text p q h l f = subst IsShort (sym h.2) f
  given_short section.Global text p q h l f = subst IsShort (sym h.2) f
  given_short section.Export text p q h l f = subst IsShort (sym h.2) f
  given_short section.Start text p q h l f = subst IsShort (sym h.2) f
  given_short section.Element text p q h l f = subst IsShort (sym h.2) f
  given_short section.Code text p q h l f =
      let a = codes_least h.0 h.1.1 h.1.3 in
      let e = ap (λ (z : List ℕ). length z) h.1.4 in
      let s = length-append h.1.0 h.1.1 in
      subst IsShort (sym h.3) (omega (arith, a, e, s, l))
  given_short section.Data text p q h l f = subst IsShort (sym h.2) f

  sections_short : (ss : List Section) (last : ℕ) (text : List ℕ) (p q : Parts) → AreSections ss text → Give ss last p q → length text ≤ n → IsShort p → IsShort q
  sections_short [] last text p q h g l f = subst IsShort (sym g) f
  sections_short (Custom c ∷ ss) last text p q h g l f =
      let e = ap (λ (z : List ℕ). length z) h.4 in
      let s = length-append h.0 h.1 in
      sections_short ss last h.1 p q h.3 g.1 (omega (arith, e, s, l)) f
  sections_short (Known k c ∷ ss) last text p q h g l f =
      let e = ap (λ (z : List ℕ). length z) h.4 in
      let s = length-append h.0 h.1 in
      let d = ap (λ (z : List ℕ). length z) h.2.2 in
      let t = length-append h.2.0 c in
      sections_short ss (number k) h.1 g.1 q h.3 g.3 (omega (arith, e, s, l)) (given_short k c p g.1 g.2 (omega (arith, e, s, d, t, l)) f)

joined_least : (ts : List ℕ) (cs : List CodeForm) → in_functions (joined ts cs) ≤ in_codes cs
joined_least [] cs = omega arith
joined_least (t ∷ ts) [] = omega arith
joined_least (t ∷ ts) (c ∷ cs) = let r = joined_least ts cs in omega (arith, r)

functions_same : (bs : List Bool) (k : ℕ) (fs : List Callee) → in_functions (functions_from bs k fs) ≡ least_among fs
functions_same bs k [] = refl
functions_same bs k (f ∷ fs) = let a = all_same bs f.body in let r = functions_same bs (suc k) fs in omega (arith, a, r)

-- A MODULE OF BYTES has code that takes no more than a module may have
pub spelled_short : (p : Program) (bytes : List ℕ) → IsModule bytes (module_of p) → least_among (all_callees p) ≤ 2 ^ 24
spelled_short p bytes m =
    let e = ap (λ (z : List ℕ). length z) m.begins in
    let l = m.size in
    let short = sections_short (2 ^ 24) m.sections 0 m.rest no_parts m.parts m.spelled m.gives (omega (arith, e, l)) (omega arith) in
    let joint = joined_least m.parts.type_indices m.parts.codes in
    let same = functions_same (called_imports p) (length (imports_of p)) (all_callees p) in
    let whole = ap (λ (z : ModuleForm). in_functions z.funcs) m.result in
    omega (arith, short, joint, same, whole)
