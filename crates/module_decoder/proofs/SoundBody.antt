-- What is read of instructions is spelled so.
use Rattle.std.proofs.Common.{◌≡◌, ℕ, zero, suc, ◌+◌, ◌-◌, ◌≤◌, max, Bool, true, false, cond, List, [], ◌∷◌, ◌++◌, length, Option, Some, None, Ok, ◌⊎◌, inl, inr, refl, sym, ap, subst, ◌∙◌, append_assoc, arith, nat_eq}
use Rattle.std.proofs.lemmas.Bool.{eqb-true}
use Rattle.wasm_types.specs.declared.types.ValType.{ValType}
use Rattle.wasm_types.specs.declared.types.ValType.TheVariants.{I32, I64}
use Rattle.wasm_types.specs.declared.instr.Simple.{Simple}
use Rattle.wasm_types.specs.declared.instr.Simple.TheVariants as simple
use Rattle.wasm_types.specs.declared.instr.MemArg.{MemArg}
use Rattle.wasm_types.specs.declared.opcodes.IndexOp.{IndexOp}
use Rattle.wasm_types.specs.declared.opcodes.IndexOp.TheVariants.{Br, BrIf, Call, LocalGet, LocalSet, LocalTee, GlobalGet, GlobalSet}
use Rattle.wasm_types.specs.declared.opcodes.Lead.{Lead}
use Rattle.wasm_types.specs.declared.opcodes.Lead.TheVariants as lead
use Rattle.wasm_types.specs.Syntax.{Instruction, Plain, BrTable, Block, Loop, If, Instructions, Done}
use Rattle.wasm_types.specs.Opcodes.{opcode, index_opcode, load_opcode, store_opcode}
use Rattle.wasm_types.specs.Immediates.{Immediates, Nothing, Index, Memory, Bits32, Bits64, IndexReserved, Reserved, immediates}
use Rattle.wasm_types.specs.Leads.{indexed, code, find_lead, lead_at, is_float, control_leads, memory_leads, i32_leads, i64_leads, convert_leads}
use Rattle.wasm_types.specs.Instructions.{IsIndex, val_code, IsValType, block_code, SpellsImmediates, Spells, SpellAll, depth, depths, IsExpr}
use Rattle.module_decoder.specs.declared.fault.DecodeFault.TheVariants.{BadSection, BadOpcode, Float, TooLarge}
use Rattle.module_decoder.specs.declared.basics.Span.{Span}
use Rattle.module_decoder.specs.declared.body.Ending.{Ending}
use Rattle.module_decoder.specs.declared.body.Ending.TheVariants as ending
use Rattle.module_decoder.specs.Readers.{◌>>=◌, malformed, place, index_at, bits32_at, bits64_at, vec_at}
use Rattle.module_decoder.specs.Reading.{val_type_by, val_type_at, block_type_at, reserved_at, step_by, Body, ReadBody, made_body, by_end, second_side, mem_arg_at, instr_by, with_first, body_more, by_step, body_by, body_at, same, expr_at}
use Rattle.module_decoder.proofs.Sound.{bind_ok, IsOk, ok_is, IsErr, err_ok, passed, Takes, IsSound, index_sound, bits32_sound, bits64_sound, vec_sound}

-- ---- types

val_type_by_sound : (c : Span) (b : ℕ) (bytes : List ℕ) (t : ValType) → val_type_by c b bytes ≡ Ok t → b ≡ val_code t
val_type_by_sound c b bytes t e = first (nat_eq b 0x7f) refl e
  where
    third : (k : Bool) → cond k (IsErr ValType (Float (place c bytes))) (malformed c) ≡ Ok t → b ≡ val_code t
    third true e = absurd (err_ok (Float (place c bytes)) t e)
    third false e = absurd (err_ok (BadSection c.section) t e)

    second : (k : Bool) → nat_eq b 0x7e ≡ k → cond k (Ok I64) (cond (cond (nat_eq b 0x7d) true (nat_eq b 0x7c)) (IsErr ValType (Float (place c bytes))) (malformed c)) ≡ Ok t → b ≡ val_code t
    second true q e = subst (λ (u : ValType). b ≡ val_code u) (ok_is I64 t e) (eqb-true b 0x7e q)
    second false q e = third (cond (nat_eq b 0x7d) true (nat_eq b 0x7c)) e

    first : (k : Bool) → nat_eq b 0x7f ≡ k → cond k (Ok I32) (cond (nat_eq b 0x7e) (Ok I64) (cond (cond (nat_eq b 0x7d) true (nat_eq b 0x7c)) (IsErr ValType (Float (place c bytes))) (malformed c))) ≡ Ok t → b ≡ val_code t
    first true q e = subst (λ (u : ValType). b ≡ val_code u) (ok_is I32 t e) (eqb-true b 0x7f q)
    first false q e = second (nat_eq b 0x7e) refl e

pub val_type_sound : (c : Span) → IsSound IsValType (val_type_at c)
val_type_sound c [] x e = absurd (err_ok (BadSection c.section) x e)
val_type_sound c (b ∷ bytes) x e =
    let a = bind_ok (val_type_by c b (b ∷ bytes)) (λ t. Ok (t, bytes)) x e in
    subst (Takes IsValType (b ∷ bytes)) (ok_is (a.0, bytes) x a.2) (val_code a.0 ∷ [], refl, ap (λ (n : ℕ). n ∷ bytes) (val_type_by_sound c b (b ∷ bytes) a.0 a.1))

block_type_sound : (c : Span) (bytes : List ℕ) (x : Option ValType × List ℕ) → block_type_at c bytes ≡ Ok x → bytes ≡ block_code x.0 ∷ x.1
block_type_sound c [] x e = absurd (err_ok (BadSection c.section) x e)
block_type_sound c (b ∷ bytes) x e = by (nat_eq b 0x40) refl e
  where
    by : (k : Bool) → nat_eq b 0x40 ≡ k → cond k (Ok (None, bytes)) (val_type_by c b (b ∷ bytes) >>= λ t. Ok (Some t, bytes)) ≡ Ok x → b ∷ bytes ≡ block_code x.0 ∷ x.1
    by true q e = subst (λ (y : Option ValType × List ℕ). b ∷ bytes ≡ block_code y.0 ∷ y.1) (ok_is (None, bytes) x e) (ap (λ (n : ℕ). n ∷ bytes) (eqb-true b 0x40 q))
    by false q e =
        let a = bind_ok (val_type_by c b (b ∷ bytes)) (λ t. Ok (Some t, bytes)) x e in
        subst (λ (y : Option ValType × List ℕ). b ∷ bytes ≡ block_code y.0 ∷ y.1) (ok_is (Some a.0, bytes) x a.2) (ap (λ (n : ℕ). n ∷ bytes) (val_type_by_sound c b (b ∷ bytes) a.0 a.1))

reserved_sound : (c : Span) (bytes : List ℕ) (x : Unit {0} × List ℕ) → reserved_at c bytes ≡ Ok x → bytes ≡ 0 ∷ x.1
reserved_sound c [] x e = absurd (err_ok (BadSection c.section) x e)
reserved_sound c (b ∷ bytes) x e =
    let p = passed (nat_eq b 0) (Ok (tt, bytes)) (BadOpcode (place c (b ∷ bytes))) x e in
    subst (λ (y : Unit {0} × List ℕ). b ∷ bytes ≡ 0 ∷ y.1) (ok_is (tt, bytes) x p.1) (ap (λ (n : ℕ). n ∷ bytes) (eqb-true b 0 p.0))

-- ---- opcodes

is_nothing : Immediates → Bool
is_nothing Nothing = true
is_nothing i = false

nothing_is : (i : Immediates) → is_nothing i ≡ true → i ≡ Nothing
unfolding is_nothing
nothing_is Nothing e = refl
nothing_is (Index n) e = absurd cc
nothing_is (Memory m) e = absurd cc
nothing_is (Bits32 n) e = absurd cc
nothing_is (Bits64 n) e = absurd cc
nothing_is (IndexReserved n) e = absurd cc
nothing_is Reserved e = absurd cc

abbrev is_bare : Lead → Bool
is_bare (lead.Bare p) = is_nothing (immediates p)
is_bare l = true

abbrev all_bare : List Lead → Bool
all_bare [] = true
all_bare (l ∷ ls) = cond (is_bare l) (all_bare ls) false

abbrev IsNone : Lead → Type 0
IsNone lead.Float = Unit {0}
IsNone lead.Unknown = Unit {0}
IsNone l = ⊥

-- the byte is the lead's code, or there is no such instruction
abbrev Codes : ℕ → Lead → Type 0
Codes b l = ((code l ≡ b) × (is_bare l ≡ true)) ⊎ IsNone l

both_true : (a b : Bool) → cond a b false ≡ true → (a ≡ true) × (b ≡ true)
both_true true b e = (refl, e)
both_true false b e = absurd cc

found : (ls : List Lead) (other : Lead) (b : ℕ) → all_bare ls ≡ true → Codes b other → Codes b (find_lead ls other b)
found [] other b bare h = h
found (l ∷ ls) other b bare h =
    let p = both_true (is_bare l) (all_bare ls) bare in
    by p.0 (found ls other b p.1 h) (nat_eq b (code l)) refl
  where
    by : is_bare l ≡ true → Codes b (find_lead ls other b) → (t : Bool) → nat_eq b (code l) ≡ t → Codes b (cond t l (find_lead ls other b))
    by q k true e = inl (sym (eqb-true b (code l) e), q)
    by q k false e = k

lead_sound : (b : ℕ) → Codes b (lead_at b)
unfolding lead_at is_nothing
lead_sound b = by (is_float b)
  where
    by : (t : Bool) → Codes b (cond t lead.Float (find_lead control_leads (find_lead memory_leads (find_lead i32_leads (find_lead i64_leads (find_lead convert_leads lead.Unknown b) b) b) b) b))
    by true = inr tt
    by false =
        found control_leads _ b refl (found memory_leads _ b refl (found i32_leads _ b refl (found i64_leads _ b refl (found convert_leads lead.Unknown b refl (inr tt)))))

index_immediates : (i : IndexOp) (n : ℕ) → immediates (indexed i n) ≡ Index n
index_immediates Br n = refl
index_immediates BrIf n = refl
index_immediates Call n = refl
index_immediates LocalGet n = refl
index_immediates LocalSet n = refl
index_immediates LocalTee n = refl
index_immediates GlobalGet n = refl
index_immediates GlobalSet n = refl

pub index_code : (i : IndexOp) (n : ℕ) → opcode (indexed i n) ≡ index_opcode i
index_code Br n = refl
index_code BrIf n = refl
index_code Call n = refl
index_code LocalGet n = refl
index_code LocalSet n = refl
index_code LocalTee n = refl
index_code GlobalGet n = refl
index_code GlobalSet n = refl

-- ---- instructions

-- an instruction at the front, nested no deeper than d
abbrev TakesInstr : ℕ → List ℕ → Instruction × List ℕ → Type 0
TakesInstr d bytes x = (depth x.0 ≤ d) × Takes Spells bytes x

-- an instruction without a body, by its code and what stands behind it
plain_sound : (d : ℕ) (p : Simple) (k : ℕ) (i : Immediates) (a bytes rest : List ℕ) (x : Instruction × List ℕ) → opcode p ≡ k → immediates p ≡ i → SpellsImmediates i a → bytes ≡ a ++ rest → IsOk (Plain p, rest) ≡ Ok x → TakesInstr d (k ∷ bytes) x
plain_sound d p k i a bytes rest x q w h parts e =
    subst (TakesInstr d (k ∷ bytes)) (ok_is (Plain p, rest) x e)
    (omega arith, (k ∷ a, (a, subst (λ (j : Immediates). SpellsImmediates j a) (sym w) h, ap (λ (n : ℕ). n ∷ a) (sym q)), ap (λ (u : List ℕ). k ∷ u) parts))

mem_arg_sound : (c : Span) (bytes : List ℕ) (x : MemArg × List ℕ) → mem_arg_at c bytes ≡ Ok x → Takes (λ m t. SpellsImmediates (Memory m) t) bytes x
mem_arg_sound c bytes x e =
    let a = bind_ok (index_at c bytes) (λ a. index_at c a.1 >>= λ o. Ok (record { align = a.0; offset = o.0 }, o.1)) x e in
    let b = bind_ok (index_at c a.0.1) (λ o. Ok (record { align = a.0.0; offset = o.0 }, o.1)) x a.2 in
    let t = index_sound c bytes a.0 a.1 in
    let u = index_sound c a.0.1 b.0 b.1 in
    subst (Takes (λ m t. SpellsImmediates (Memory m) t) bytes) (ok_is (record { align = a.0.0; offset = b.0.0 }, b.0.1) x b.2)
    (t.0 ++ u.0, (t.0, u.0, t.1, u.1, refl), t.2 ∙ ap (λ (v : List ℕ). t.0 ++ v) u.2 ∙ sym (append_assoc t.0 u.0 b.0.1))

unfoldable pub mark : Ending → ℕ
mark ending.End = 0x0b
mark ending.Else = 0x05

pub record EndsBy (most : ℕ) (bytes : List ℕ) (b : Body) : Type 0 where
  pub text : List ℕ
  pub spelled : SpellAll b.instrs text
  pub parts : bytes ≡ text ++ mark b.ending ∷ b.rest
  pub shallow : depths b.instrs ≤ most

-- bodies are spelled so, and nested less deep than d; and no deeper than d
abbrev IsInner : ℕ → (List ℕ → ReadBody) → Type 0
IsInner d body = (bytes : List ℕ) (b : Body) → body bytes ≡ Ok b → (most : ℕ) × (most + 1 ≤ d) × EndsBy most bytes b

abbrev IsCode : ℕ → (List ℕ → ReadBody) → Type 0
IsCode d body = (bytes : List ℕ) (b : Body) → body bytes ≡ Ok b → EndsBy d bytes b

record Reads (most : ℕ) (bytes : List ℕ) (is : Instructions) (e : Ending) (rest : List ℕ) : Type 0 where
  text : List ℕ
  spelled : SpellAll is text
  parts : bytes ≡ text ++ mark e ∷ rest
  shallow : depths is + 1 ≤ most

reads_of : (d : ℕ) (body : List ℕ → ReadBody) → IsInner d body → (bytes : List ℕ) (b : Body) → body bytes ≡ Ok b → Reads d bytes b.instrs b.ending b.rest
reads_of d body s bytes b e = let g = s bytes b e in record { text = g.2.text; spelled = g.2.spelled; parts = g.2.parts; shallow = omega (arith, g.1, g.2.shallow) }

block_sound : (c : Span) (d : ℕ) (bytes r0 : List ℕ) (k : Option ValType) (is : Instructions) (e : Ending) (r : List ℕ) (x : Instruction × List ℕ) → bytes ≡ block_code k ∷ r0 → Reads d r0 is e r → by_end c (Block k) (made_body is e r) ≡ Ok x → TakesInstr d (0x02 ∷ bytes) x
unfolding mark
block_sound c d bytes r0 k is ending.End r x q h e =
    subst (TakesInstr d (0x02 ∷ bytes)) (ok_is (Block k is, r) x e)
    (h.shallow, (0x02 ∷ block_code k ∷ h.text ++ 0x0b ∷ [], (h.text, h.spelled, refl), ap (λ (u : List ℕ). 0x02 ∷ u) (q ∙ ap (λ (u : List ℕ). block_code k ∷ u) (h.parts ∙ sym (append_assoc h.text (0x0b ∷ []) r)))))
block_sound c d bytes r0 k is ending.Else r x q h e = absurd (err_ok (BadOpcode (c.end - (length r + 1))) x e)

loop_sound : (c : Span) (d : ℕ) (bytes r0 : List ℕ) (k : Option ValType) (is : Instructions) (e : Ending) (r : List ℕ) (x : Instruction × List ℕ) → bytes ≡ block_code k ∷ r0 → Reads d r0 is e r → by_end c (Loop k) (made_body is e r) ≡ Ok x → TakesInstr d (0x03 ∷ bytes) x
unfolding mark
loop_sound c d bytes r0 k is ending.End r x q h e =
    subst (TakesInstr d (0x03 ∷ bytes)) (ok_is (Loop k is, r) x e)
    (h.shallow, (0x03 ∷ block_code k ∷ h.text ++ 0x0b ∷ [], (h.text, h.spelled, refl), ap (λ (u : List ℕ). 0x03 ∷ u) (q ∙ ap (λ (u : List ℕ). block_code k ∷ u) (h.parts ∙ sym (append_assoc h.text (0x0b ∷ []) r)))))
loop_sound c d bytes r0 k is ending.Else r x q h e = absurd (err_ok (BadOpcode (c.end - (length r + 1))) x e)

two_sound : (c : Span) (d : ℕ) (bytes r0 middle : List ℕ) (k : Option ValType) (is js : Instructions) (e : Ending) (r : List ℕ) (x : Instruction × List ℕ) → bytes ≡ block_code k ∷ r0 → Reads d r0 is ending.Else middle → Reads d middle js e r → by_end c (If k is) (made_body js e r) ≡ Ok x → TakesInstr d (0x04 ∷ bytes) x
unfolding mark
two_sound c d bytes r0 middle k is js ending.End r x q h g e =
    let p : h.text ++ (0x05 ∷ (g.text ++ 0x0b ∷ r)) ≡ (h.text ++ (0x05 ∷ g.text) ++ 0x0b ∷ []) ++ r = simp append_assoc in
    let deep : max (depths is) (depths js) + 1 ≤ d = omega (arith, h.shallow, g.shallow) in
    subst (TakesInstr d (0x04 ∷ bytes)) (ok_is (If k is js, r) x e)
    (deep, (0x04 ∷ block_code k ∷ h.text ++ 0x05 ∷ g.text ++ 0x0b ∷ [], (h.text, g.text, h.spelled, g.spelled, inl refl), ap (λ (u : List ℕ). 0x04 ∷ u) (q ∙ ap (λ (u : List ℕ). block_code k ∷ u) (h.parts ∙ ap (λ (u : List ℕ). h.text ++ 0x05 ∷ u) g.parts ∙ p))))
two_sound c d bytes r0 middle k is js ending.Else r x q h g e = absurd (err_ok (BadOpcode (c.end - (length r + 1))) x e)

if_sound : (c : Span) (d : ℕ) (body : List ℕ → ReadBody) → IsInner d body → (bytes r0 : List ℕ) (k : Option ValType) (is : Instructions) (e : Ending) (r : List ℕ) (x : Instruction × List ℕ) → bytes ≡ block_code k ∷ r0 → Reads d r0 is e r → second_side c body k (made_body is e r) ≡ Ok x → TakesInstr d (0x04 ∷ bytes) x
unfolding mark
if_sound c d body s bytes r0 k is ending.End r x q h e =
    let deep : max (depths is) 0 + 1 ≤ d = omega (arith, h.shallow) in
    subst (TakesInstr d (0x04 ∷ bytes)) (ok_is (If k is Done, r) x e)
    (deep, (0x04 ∷ block_code k ∷ h.text ++ 0x0b ∷ [], (h.text, [], h.spelled, refl, inr (refl, refl)), ap (λ (u : List ℕ). 0x04 ∷ u) (q ∙ ap (λ (u : List ℕ). block_code k ∷ u) (h.parts ∙ sym (append_assoc h.text (0x0b ∷ []) r)))))
if_sound c d body s bytes r0 k is ending.Else r x q h e =
    let b = bind_ok (body r) (by_end c (If k is)) x e in
    two_sound c d bytes r0 r k is b.0.instrs b.0.ending b.0.rest x q h (reads_of d body s r b.0 b.1) b.2

instr_sound : (c : Span) (d : ℕ) (body : List ℕ → ReadBody) → IsInner d body → (l : Lead) → is_bare l ≡ true → (bytes : List ℕ) (x : Instruction × List ℕ) → instr_by c body l bytes ≡ Ok x → TakesInstr d (code l ∷ bytes) x
instr_sound c d body s (lead.Bare p) bare bytes x e = plain_sound d p (opcode p) Nothing [] bytes bytes x refl (nothing_is (immediates p) bare) refl refl e
instr_sound c d body s (lead.Index i) bare bytes x e =
    let a = bind_ok (index_at c bytes) (λ n. Ok (Plain (indexed i n.0), n.1)) x e in
    let t = index_sound c bytes a.0 a.1 in
    plain_sound d (indexed i a.0.0) (index_opcode i) (Index a.0.0) t.0 bytes a.0.1 x (index_code i a.0.0) (index_immediates i a.0.0) t.1 t.2 a.2
instr_sound c d body s (lead.Load op) bare bytes x e =
    let a = bind_ok (mem_arg_at c bytes) (λ m. Ok (Plain (simple.Load op m.0), m.1)) x e in
    let t = mem_arg_sound c bytes a.0 a.1 in
    plain_sound d (simple.Load op a.0.0) (load_opcode op) (Memory a.0.0) t.0 bytes a.0.1 x refl refl t.1 t.2 a.2
instr_sound c d body s (lead.Store op) bare bytes x e =
    let a = bind_ok (mem_arg_at c bytes) (λ m. Ok (Plain (simple.Store op m.0), m.1)) x e in
    let t = mem_arg_sound c bytes a.0 a.1 in
    plain_sound d (simple.Store op a.0.0) (store_opcode op) (Memory a.0.0) t.0 bytes a.0.1 x refl refl t.1 t.2 a.2
instr_sound c d body s lead.I32Const bare bytes x e =
    let a = bind_ok (bits32_at c bytes) (λ n. Ok (Plain (simple.I32Const n.0), n.1)) x e in
    let t = bits32_sound c bytes a.0 a.1 in
    plain_sound d (simple.I32Const a.0.0) 0x41 (Bits32 a.0.0) t.0 bytes a.0.1 x refl refl t.1 t.2 a.2
instr_sound c d body s lead.I64Const bare bytes x e =
    let a = bind_ok (bits64_at c bytes) (λ n. Ok (Plain (simple.I64Const n.0), n.1)) x e in
    let t = bits64_sound c bytes a.0 a.1 in
    plain_sound d (simple.I64Const a.0.0) 0x42 (Bits64 a.0.0) t.0 bytes a.0.1 x refl refl t.1 t.2 a.2
instr_sound c d body s lead.CallIndirect bare bytes x e =
    let a = bind_ok (index_at c bytes) (λ n. reserved_at c n.1 >>= λ r. Ok (Plain (simple.CallIndirect n.0), r.1)) x e in
    let b = bind_ok (reserved_at c a.0.1) (λ r. Ok (Plain (simple.CallIndirect a.0.0), r.1)) x a.2 in
    let t = index_sound c bytes a.0 a.1 in
    let z = reserved_sound c a.0.1 b.0 b.1 in
    plain_sound d (simple.CallIndirect a.0.0) 0x11 (IndexReserved a.0.0) (t.0 ++ 0 ∷ []) bytes b.0.1 x refl refl (t.0, t.1, refl) (t.2 ∙ ap (λ (u : List ℕ). t.0 ++ u) z ∙ sym (append_assoc t.0 (0 ∷ []) b.0.1)) b.2
instr_sound c d body s lead.MemorySize bare bytes x e =
    let b = bind_ok (reserved_at c bytes) (λ r. Ok (Plain simple.MemorySize, r.1)) x e in
    plain_sound d simple.MemorySize 0x3f Reserved (0 ∷ []) bytes b.0.1 x refl refl refl (reserved_sound c bytes b.0 b.1) b.2
instr_sound c d body s lead.MemoryGrow bare bytes x e =
    let b = bind_ok (reserved_at c bytes) (λ r. Ok (Plain simple.MemoryGrow, r.1)) x e in
    plain_sound d simple.MemoryGrow 0x40 Reserved (0 ∷ []) bytes b.0.1 x refl refl refl (reserved_sound c bytes b.0 b.1) b.2
instr_sound c d body s lead.BrTable bare bytes x e =
    let a = bind_ok (vec_at c (index_at c) bytes) (λ ns. index_at c ns.1 >>= λ n. Ok (BrTable ns.0 n.0, n.1)) x e in
    let b = bind_ok (index_at c a.0.1) (λ n. Ok (BrTable a.0.0 n.0, n.1)) x a.2 in
    let t = vec_sound c IsIndex (index_at c) (index_sound c) bytes a.0 a.1 in
    let u = index_sound c a.0.1 b.0 b.1 in
    subst (TakesInstr d (0x0e ∷ bytes)) (ok_is (BrTable a.0.0 b.0.0, b.0.1) x b.2)
    (omega arith, (0x0e ∷ t.0 ++ u.0, (t.0, u.0, t.1, u.1, refl), ap (λ (v : List ℕ). 0x0e ∷ v) (t.2 ∙ ap (λ (v : List ℕ). t.0 ++ v) u.2 ∙ sym (append_assoc t.0 u.0 b.0.1))))
instr_sound c d body s lead.Block bare bytes x e =
    let a = bind_ok (block_type_at c bytes) (λ k. body k.1 >>= by_end c (Block k.0)) x e in
    let b = bind_ok (body a.0.1) (by_end c (Block a.0.0)) x a.2 in
    block_sound c d bytes a.0.1 a.0.0 b.0.instrs b.0.ending b.0.rest x (block_type_sound c bytes a.0 a.1) (reads_of d body s a.0.1 b.0 b.1) b.2
instr_sound c d body s lead.Loop bare bytes x e =
    let a = bind_ok (block_type_at c bytes) (λ k. body k.1 >>= by_end c (Loop k.0)) x e in
    let b = bind_ok (body a.0.1) (by_end c (Loop a.0.0)) x a.2 in
    loop_sound c d bytes a.0.1 a.0.0 b.0.instrs b.0.ending b.0.rest x (block_type_sound c bytes a.0 a.1) (reads_of d body s a.0.1 b.0 b.1) b.2
instr_sound c d body s lead.If bare bytes x e =
    let a = bind_ok (block_type_at c bytes) (λ k. body k.1 >>= second_side c body k.0) x e in
    let b = bind_ok (body a.0.1) (second_side c body a.0.0) x a.2 in
    if_sound c d body s bytes a.0.1 a.0.0 b.0.instrs b.0.ending b.0.rest x (block_type_sound c bytes a.0 a.1) (reads_of d body s a.0.1 b.0 b.1) b.2
instr_sound c d body s lead.Else bare bytes x e = absurd (err_ok (BadOpcode (c.end - (length bytes + 1))) x e)
instr_sound c d body s lead.End bare bytes x e = absurd (err_ok (BadOpcode (c.end - (length bytes + 1))) x e)
instr_sound c d body s lead.Float bare bytes x e = absurd (err_ok (Float (c.end - (length bytes + 1))) x e)
instr_sound c d body s lead.Unknown bare bytes x e = absurd (err_ok (BadOpcode (c.end - (length bytes + 1))) x e)

more_sound : (c : Span) (d : ℕ) (body go : List ℕ → ReadBody) → IsInner d body → IsCode d go → (l : Lead) → is_bare l ≡ true → (bytes : List ℕ) (b : Body) → body_more c body go l bytes ≡ Ok b → EndsBy d (code l ∷ bytes) b
more_sound c d body go s sg l bare bytes b e =
    let i = bind_ok (instr_by c body l bytes) (λ i. go i.1 >>= λ b. Ok (with_first i.0 b)) b e in
    let k = bind_ok (go i.0.1) (λ b. Ok (with_first i.0.0 b)) b i.2 in
    let t = instr_sound c d body s l bare bytes i.0 i.1 in
    let g = sg i.0.1 k.0 k.1 in
    subst (EndsBy d (code l ∷ bytes)) (ok_is (with_first i.0.0 k.0) b k.2)
    (record { text = t.1.0 ++ g.text; spelled = (t.1.0, g.text, t.1.1, g.spelled, refl); parts = t.1.2 ∙ ap (λ (u : List ℕ). t.1.0 ++ u) g.parts ∙ sym (append_assoc t.1.0 g.text (mark k.0.ending ∷ k.0.rest)); shallow = omega (arith, t.0, g.shallow) })

step_sound : (c : Span) (d : ℕ) (body go : List ℕ → ReadBody) → IsInner d body → IsCode d go → (l : Lead) → is_bare l ≡ true → (bytes : List ℕ) (b : Body) → by_step c body go (Some (step_by l, bytes)) ≡ Ok b → EndsBy d (code l ∷ bytes) b
unfolding mark
step_sound c d body go s sg lead.End bare bytes b e = subst (EndsBy d (0x0b ∷ bytes)) (ok_is (made_body Done ending.End bytes) b e) (record { text = []; spelled = refl; parts = refl; shallow = omega arith })
step_sound c d body go s sg lead.Else bare bytes b e = subst (EndsBy d (0x05 ∷ bytes)) (ok_is (made_body Done ending.Else bytes) b e) (record { text = []; spelled = refl; parts = refl; shallow = omega arith })
step_sound c d body go s sg l bare bytes b e = more_sound c d body go s sg l bare bytes b e

none_not : (c : Span) (body go : List ℕ → ReadBody) (l : Lead) → IsNone l → (bytes : List ℕ) (b : Body) → by_step c body go (Some (step_by l, bytes)) ≡ Ok b → ⊥
none_not c body go lead.Float h bytes b e = err_ok (Float (c.end - (length bytes + 1))) b e
none_not c body go lead.Unknown h bytes b e = err_ok (BadOpcode (c.end - (length bytes + 1))) b e
none_not c body go l h bytes b e = absurd h

by_sound : (c : Span) (d : ℕ) (body : List ℕ → ReadBody) → IsInner d body → (w : ℕ) → IsCode d (body_by c body w)
by_sound c d body s zero bytes b e = absurd (err_ok (BadSection c.section) b e)
by_sound c d body s (suc w) [] b e = absurd (err_ok (BadSection c.section) b e)
by_sound c d body s (suc w) (o ∷ bytes) b e = elim (lead_sound o) [
  | inl q ↦ subst (λ (n : ℕ). EndsBy d (n ∷ bytes) b) q.0 (step_sound c d body (body_by c body w) s (by_sound c d body s w) (lead_at o) q.1 bytes b e)
  | inr q ↦ absurd (none_not c body (body_by c body w) (lead_at o) q bytes b e)
]

pub body_sound : (c : Span) (d : ℕ) → IsInner d (body_at c d)
unfolding body_at
body_sound c zero bytes b e = absurd (err_ok TooLarge b e)
body_sound c (suc d) bytes b e = (d, omega arith, by_sound c d (body_at c d) (body_sound c d) (length bytes) bytes b e)

pub expr_sound : (c : Span) → IsSound IsExpr (expr_at c)
unfolding mark
expr_sound c bytes x e =
    let a = bind_ok (body_at c 4001 bytes) (by_end c same) x e in
    let g = body_sound c 4001 bytes a.0 a.1 in
    by a.0.instrs a.0.ending a.0.rest (record { text = g.2.text; spelled = g.2.spelled; parts = g.2.parts; shallow = omega (arith, g.1, g.2.shallow) }) a.2
  where
    by : (is : Instructions) (e : Ending) (r : List ℕ) → Reads 4001 bytes is e r → by_end c same (made_body is e r) ≡ Ok x → Takes IsExpr bytes x
    by is ending.End r h f = subst (Takes IsExpr bytes) (ok_is (is, r) x f) (h.text ++ 0x0b ∷ [], (h.text, h.spelled, omega (arith, h.shallow), refl), h.parts ∙ sym (append_assoc h.text (0x0b ∷ []) r))
    by is ending.Else r h f = absurd (err_ok (BadOpcode (c.end - (length r + 1))) x f)
