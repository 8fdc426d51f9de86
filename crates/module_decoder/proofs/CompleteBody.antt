-- What is spelled of instructions is read.
use Rattle.std.proofs.Common.{◌≡◌, ℕ, zero, suc, ◌+◌, ◌≤◌, List, [], ◌∷◌, ◌++◌, length, Option, Some, None, Ok, inl, inr, refl, ap, ◌∙◌, append_assoc, arith, length-append}
use Rattle.wasm_types.specs.declared.types.ValType.{ValType}
use Rattle.wasm_types.specs.declared.types.ValType.TheVariants.{I32, I64}
use Rattle.wasm_types.specs.declared.instr.Simple.{Simple}
use Rattle.wasm_types.specs.declared.instr.Simple.TheVariants as simple
use Rattle.wasm_types.specs.declared.opcodes.IndexOp.{IndexOp}
use Rattle.wasm_types.specs.declared.opcodes.IndexOp.TheVariants.{Br, BrIf, Call, LocalGet, LocalSet, LocalTee, GlobalGet, GlobalSet}
use Rattle.wasm_types.specs.declared.opcodes.Lead.{Lead}
use Rattle.wasm_types.specs.declared.opcodes.Lead.TheVariants as lead
use Rattle.wasm_types.specs.Syntax.{Instruction, Plain, BrTable, Block, Loop, If, Instructions, Done, Then}
use Rattle.wasm_types.specs.Opcodes.{opcode, index_opcode}
use Rattle.wasm_types.specs.Immediates.{Memory}
use Rattle.wasm_types.specs.Leads.{IsLead, IsBare, indexed, code, lead_at}
use Rattle.wasm_types.specs.Leb128.{IsU32}
use Rattle.wasm_types.specs.Instructions.{IsIndex, IsValType, block_code, SpellsImmediates, Spells, SpellAll, depth, depths, IsExpr}
use Rattle.wasm_types.proofs.Leads.{lead_again}
use Rattle.module_decoder.specs.declared.basics.Span.{Span}
use Rattle.module_decoder.specs.declared.body.Ending.{Ending}
use Rattle.module_decoder.specs.declared.body.Ending.TheVariants as ending
use Rattle.module_decoder.specs.declared.body.Step.TheVariants.{Opens}
use Rattle.module_decoder.specs.Readers.{index_at}
use Rattle.module_decoder.specs.Reading.{val_type_at, block_type_at, step_by, ReadBody, made_body, mem_arg_at, instr_by, body_by, body_at, expr_at}
use Rattle.module_decoder.proofs.SoundBody.{mark}
use Rattle.module_decoder.proofs.Complete.{IsAgain, index_again, bits32_again, bits64_again, vec_again}

pub val_type_again : (c : Span) → IsAgain IsValType (val_type_at c)
val_type_again c I32 text rest h = rw h refl
val_type_again c I64 text rest h = rw h refl

block_type_again : (c : Span) (k : Option ValType) (rest : List ℕ) → block_type_at c (block_code k ∷ rest) ≡ Ok (k, rest)
block_type_again c None rest = refl
block_type_again c (Some I32) rest = refl
block_type_again c (Some I64) rest = refl

mem_arg_again : (c : Span) → IsAgain (λ m t. SpellsImmediates (Memory m) t) (mem_arg_at c)
mem_arg_again c m text rest h =
    let q : text ++ rest ≡ h.0 ++ (h.1 ++ rest) = rw h.4 (append_assoc h.0 h.1 rest) in
    rw (q, index_again c m.align h.0 (h.1 ++ rest) h.2, index_again c m.offset h.1 rest h.3) refl

-- an instruction is read again
record Again (c : Span) (body : List ℕ → ReadBody) (t : Instruction) (text rest : List ℕ) : Type 0 where
  lead : Lead
  known : IsLead lead
  opens : step_by lead ≡ Opens lead
  tail : List ℕ
  parts : text ≡ code lead ∷ tail
  reads : instr_by c body lead (tail ++ rest) ≡ Ok (t, rest)

bare_again : (c : Span) (body : List ℕ → ReadBody) (p : Simple) → IsBare p → (text rest a : List ℕ) → a ≡ [] → text ≡ opcode p ∷ a → Again c body (Plain p) text rest
bare_again c body p bare text rest a e q = record { lead = lead.Bare p; known = bare; opens = refl; tail = []; parts = q ∙ ap (λ (u : List ℕ). opcode p ∷ u) e; reads = refl }

indexed_again : (c : Span) (body : List ℕ → ReadBody) (i : IndexOp) (n : ℕ) (text rest a : List ℕ) → IsU32 a n → text ≡ index_opcode i ∷ a → Again c body (Plain (indexed i n)) text rest
indexed_again c body i n text rest a h q = record { lead = lead.Index i; known = tt; opens = refl; tail = a; parts = q; reads = rw (index_again c n a rest h) refl }

simple_again : (c : Span) (body : List ℕ → ReadBody) (p : Simple) (text rest : List ℕ) → Spells (Plain p) text → Again c body (Plain p) text rest
simple_again c body simple.Unreachable text rest h = bare_again c body simple.Unreachable tt text rest h.0 h.1 h.2
simple_again c body simple.Nop text rest h = bare_again c body simple.Nop tt text rest h.0 h.1 h.2
simple_again c body simple.Return text rest h = bare_again c body simple.Return tt text rest h.0 h.1 h.2
simple_again c body simple.Drop text rest h = bare_again c body simple.Drop tt text rest h.0 h.1 h.2
simple_again c body simple.Select text rest h = bare_again c body simple.Select tt text rest h.0 h.1 h.2
simple_again c body (simple.Test t op) text rest h = bare_again c body (simple.Test t op) tt text rest h.0 h.1 h.2
simple_again c body (simple.Compare t op) text rest h = bare_again c body (simple.Compare t op) tt text rest h.0 h.1 h.2
simple_again c body (simple.Unary t op) text rest h = bare_again c body (simple.Unary t op) tt text rest h.0 h.1 h.2
simple_again c body (simple.Binary t op) text rest h = bare_again c body (simple.Binary t op) tt text rest h.0 h.1 h.2
simple_again c body (simple.Convert op) text rest h = bare_again c body (simple.Convert op) tt text rest h.0 h.1 h.2
simple_again c body (simple.Br n) text rest h = indexed_again c body Br n text rest h.0 h.1 h.2
simple_again c body (simple.BrIf n) text rest h = indexed_again c body BrIf n text rest h.0 h.1 h.2
simple_again c body (simple.Call n) text rest h = indexed_again c body Call n text rest h.0 h.1 h.2
simple_again c body (simple.LocalGet n) text rest h = indexed_again c body LocalGet n text rest h.0 h.1 h.2
simple_again c body (simple.LocalSet n) text rest h = indexed_again c body LocalSet n text rest h.0 h.1 h.2
simple_again c body (simple.LocalTee n) text rest h = indexed_again c body LocalTee n text rest h.0 h.1 h.2
simple_again c body (simple.GlobalGet n) text rest h = indexed_again c body GlobalGet n text rest h.0 h.1 h.2
simple_again c body (simple.GlobalSet n) text rest h = indexed_again c body GlobalSet n text rest h.0 h.1 h.2
simple_again c body (simple.Load op m) text rest h = record { lead = lead.Load op; known = tt; opens = refl; tail = h.0; parts = h.2; reads = rw (mem_arg_again c m h.0 rest h.1) refl }
simple_again c body (simple.Store op m) text rest h = record { lead = lead.Store op; known = tt; opens = refl; tail = h.0; parts = h.2; reads = rw (mem_arg_again c m h.0 rest h.1) refl }
simple_again c body (simple.I32Const n) text rest h = record { lead = lead.I32Const; known = tt; opens = refl; tail = h.0; parts = h.2; reads = rw (bits32_again c n h.0 rest h.1) refl }
simple_again c body (simple.I64Const n) text rest h = record { lead = lead.I64Const; known = tt; opens = refl; tail = h.0; parts = h.2; reads = rw (bits64_again c n h.0 rest h.1) refl }
simple_again c body (simple.CallIndirect n) text rest h =
    let q : h.0 ++ rest ≡ h.1.0 ++ (0 ∷ rest) = rw h.1.2 (append_assoc h.1.0 (0 ∷ []) rest) in
    record { lead = lead.CallIndirect; known = tt; opens = refl; tail = h.0; parts = h.2; reads = rw (q, index_again c n h.1.0 (0 ∷ rest) h.1.1) refl }
simple_again c body simple.MemorySize text rest h = record { lead = lead.MemorySize; known = tt; opens = refl; tail = h.0; parts = h.2; reads = rw h.1 refl }
simple_again c body simple.MemoryGrow text rest h = record { lead = lead.MemoryGrow; known = tt; opens = refl; tail = h.0; parts = h.2; reads = rw h.1 refl }

-- ---- bodies

abbrev ReadsAll : Span → ℕ → Instructions → Ending → List ℕ → List ℕ → Type 0
ReadsAll c d is e text rest = body_at c d (text ++ mark e ∷ rest) ≡ Ok (made_body is e rest)

one_less : (c : Span) (d n : ℕ) (is : Instructions) (e : Ending) (text rest : List ℕ) → n + 1 ≤ d → ((k : ℕ) → n ≤ k → body_by c (body_at c k) (length (text ++ mark e ∷ rest)) (text ++ mark e ∷ rest) ≡ Ok (made_body is e rest)) → ReadsAll c d is e text rest
unfolding body_at
one_less c zero n is e text rest h f = absurd (omega arith)
one_less c (suc d) n is e text rest h f = f d (omega arith)

marks : (c : Span) (body : List ℕ → ReadBody) (w : ℕ) (e : Ending) (rest : List ℕ) → body_by c body (suc w) (mark e ∷ rest) ≡ Ok (made_body Done e rest)
unfolding lead_at mark
marks c body w ending.End rest = refl
marks c body w ending.Else rest = refl

abbrev ReadsEnd : (List ℕ → ReadBody) → List ℕ → List ℕ → Instructions → Type 0
ReadsEnd body a rest is = body (a ++ 0x0b ∷ rest) ≡ Ok (made_body is ending.End rest)

block_again : (c : Span) (body : List ℕ → ReadBody) (k : Option ValType) (is : Instructions) (a rest : List ℕ) → ReadsEnd body a rest is → Again c body (Block k is) (0x02 ∷ block_code k ∷ a ++ 0x0b ∷ []) rest
block_again c body k is a rest h =
    let p : (a ++ 0x0b ∷ []) ++ rest ≡ a ++ 0x0b ∷ rest = append_assoc a (0x0b ∷ []) rest in
    record { lead = lead.Block; known = tt; opens = refl; tail = block_code k ∷ a ++ 0x0b ∷ []; parts = refl; reads = rw (block_type_again c k ((a ++ 0x0b ∷ []) ++ rest), p, h) refl }

loop_again : (c : Span) (body : List ℕ → ReadBody) (k : Option ValType) (is : Instructions) (a rest : List ℕ) → ReadsEnd body a rest is → Again c body (Loop k is) (0x03 ∷ block_code k ∷ a ++ 0x0b ∷ []) rest
loop_again c body k is a rest h =
    let p : (a ++ 0x0b ∷ []) ++ rest ≡ a ++ 0x0b ∷ rest = append_assoc a (0x0b ∷ []) rest in
    record { lead = lead.Loop; known = tt; opens = refl; tail = block_code k ∷ a ++ 0x0b ∷ []; parts = refl; reads = rw (block_type_again c k ((a ++ 0x0b ∷ []) ++ rest), p, h) refl }

one_again : (c : Span) (body : List ℕ → ReadBody) (k : Option ValType) (is : Instructions) (a rest : List ℕ) → ReadsEnd body a rest is → Again c body (If k is Done) (0x04 ∷ block_code k ∷ a ++ 0x0b ∷ []) rest
one_again c body k is a rest h =
    let p : (a ++ 0x0b ∷ []) ++ rest ≡ a ++ 0x0b ∷ rest = append_assoc a (0x0b ∷ []) rest in
    record { lead = lead.If; known = tt; opens = refl; tail = block_code k ∷ a ++ 0x0b ∷ []; parts = refl; reads = rw (block_type_again c k ((a ++ 0x0b ∷ []) ++ rest), p, h) refl }

two_again : (c : Span) (body : List ℕ → ReadBody) (k : Option ValType) (is js : Instructions) (a b rest : List ℕ) → body (a ++ 0x05 ∷ (b ++ 0x0b ∷ rest)) ≡ Ok (made_body is ending.Else (b ++ 0x0b ∷ rest)) → ReadsEnd body b rest js → Again c body (If k is js) (0x04 ∷ block_code k ∷ a ++ 0x05 ∷ b ++ 0x0b ∷ []) rest
two_again c body k is js a b rest h g =
    let p : ((a ++ (0x05 ∷ b)) ++ 0x0b ∷ []) ++ rest ≡ a ++ (0x05 ∷ (b ++ 0x0b ∷ rest)) = simp append_assoc in
    record { lead = lead.If; known = tt; opens = refl; tail = block_code k ∷ ((a ++ (0x05 ∷ b)) ++ 0x0b ∷ []); parts = refl; reads = rw (block_type_again c k (((a ++ (0x05 ∷ b)) ++ 0x0b ∷ []) ++ rest), p, h, g) refl }

table_again : (c : Span) (body : List ℕ → ReadBody) (ns : List ℕ) (n : ℕ) (text rest : List ℕ) → Spells (BrTable ns n) text → Again c body (BrTable ns n) text rest
table_again c body ns n text rest h =
    let q : (h.0 ++ h.1) ++ rest ≡ h.0 ++ (h.1 ++ rest) = append_assoc h.0 h.1 rest in
    record { lead = lead.BrTable; known = tt; opens = refl; tail = h.0 ++ h.1; parts = h.4; reads = rw (q, vec_again c IsIndex (index_at c) (index_again c) ns h.0 (h.1 ++ rest) h.2, index_again c n h.1 rest h.3) refl }

step : (c : Span) (body : List ℕ → ReadBody) (w : ℕ) (i : Instruction) (is : Instructions) (e : Ending) (a b rest : List ℕ) → Again c body i a (b ++ mark e ∷ rest) → length (a ++ (b ++ mark e ∷ rest)) ≤ w → ((v : ℕ) → length (b ++ mark e ∷ rest) ≤ v → body_by c body v (b ++ mark e ∷ rest) ≡ Ok (made_body is e rest)) → body_by c body w (a ++ (b ++ mark e ∷ rest)) ≡ Ok (made_body (Then i is) e rest)
step c body zero i is e a b rest r room h = let p = ap length r.parts in absurd (omega (arith, length-append a (b ++ mark e ∷ rest)))
step c body (suc w) i is e a b rest r room h =
    let p = ap length r.parts in
    let next = h w (omega (arith, length-append a (b ++ mark e ∷ rest), p)) in
    rw (r.parts, lead_again r.lead r.known, r.opens, r.reads, next) refl

mutual
  unfolding mark

  instr_again : (c : Span) (i : Instruction) (d : ℕ) (text rest : List ℕ) → Spells i text → depth i ≤ d → Again c (body_at c d) i text rest
  instr_again c (Plain p) d text rest h s = simple_again c (body_at c d) p text rest h
  instr_again c (BrTable ns n) d text rest h s = table_again c (body_at c d) ns n text rest h
  instr_again c (Block k is) d text rest h s =
      rw h.2 (block_again c (body_at c d) k is h.0 rest (one_less c d (depths is) is ending.End h.0 rest s (λ m l. all_again c is m (length (h.0 ++ 0x0b ∷ rest)) h.0 ending.End rest h.1 l (omega arith))))
  instr_again c (Loop k is) d text rest h s =
      rw h.2 (loop_again c (body_at c d) k is h.0 rest (one_less c d (depths is) is ending.End h.0 rest s (λ m l. all_again c is m (length (h.0 ++ 0x0b ∷ rest)) h.0 ending.End rest h.1 l (omega arith))))
  instr_again c (If k is js) d text rest h s = elim h.4 [
    | inl q ↦ rw q (two_again c (body_at c d) k is js h.0 h.1 rest
        (one_less c d (depths is) is ending.Else h.0 (h.1 ++ 0x0b ∷ rest) (omega arith) (λ m l. all_again c is m (length (h.0 ++ 0x05 ∷ (h.1 ++ 0x0b ∷ rest))) h.0 ending.Else (h.1 ++ 0x0b ∷ rest) h.2 l (omega arith)))
        (one_less c d (depths js) js ending.End h.1 rest (omega arith) (λ m l. all_again c js m (length (h.1 ++ 0x0b ∷ rest)) h.1 ending.End rest h.3 l (omega arith))))
    | inr q ↦ rw (q.0, q.1) (one_again c (body_at c d) k is h.0 rest (one_less c d (depths is) is ending.End h.0 rest (omega arith) (λ m l. all_again c is m (length (h.0 ++ 0x0b ∷ rest)) h.0 ending.End rest h.2 l (omega arith))))
  ]

  all_again : (c : Span) (is : Instructions) (d w : ℕ) (text : List ℕ) (e : Ending) (rest : List ℕ) → SpellAll is text → depths is ≤ d → length (text ++ mark e ∷ rest) ≤ w → body_by c (body_at c d) w (text ++ mark e ∷ rest) ≡ Ok (made_body is e rest)
  all_again c Done d zero text e rest h s room = absurd (omega (arith, length-append text (mark e ∷ rest)))
  all_again c Done d (suc w) text e rest h s room = rw h (marks c (body_at c d) w e rest)
  all_again c (Then i is) d w text e rest h s room =
      let q : text ++ mark e ∷ rest ≡ h.0 ++ (h.1 ++ mark e ∷ rest) = rw h.4 (append_assoc h.0 h.1 (mark e ∷ rest)) in
      rw q (step c (body_at c d) w i is e h.0 h.1 rest (instr_again c i d h.0 (h.1 ++ mark e ∷ rest) h.2 (omega arith)) (omega (arith, ap length q)) (λ v l. all_again c is d v h.1 e rest h.3 (omega arith) l))

body_again : (c : Span) (d : ℕ) (is : Instructions) (text : List ℕ) (e : Ending) (rest : List ℕ) → SpellAll is text → depths is + 1 ≤ d → body_at c d (text ++ mark e ∷ rest) ≡ Ok (made_body is e rest)
body_again c d is text e rest h s = one_less c d (depths is) is e text rest s (λ k l. all_again c is k (length (text ++ mark e ∷ rest)) text e rest h l (omega arith))

pub expr_again : (c : Span) → IsAgain IsExpr (expr_at c)
unfolding mark
expr_again c is text rest h =
    let q : text ++ rest ≡ h.0 ++ 0x0b ∷ rest = rw h.3 (append_assoc h.0 (0x0b ∷ []) rest) in
    rw (q, body_again c 4001 is h.0 ending.End rest h.1 (omega (arith, h.2))) refl
