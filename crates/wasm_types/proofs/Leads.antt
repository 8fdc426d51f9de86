-- Each opcode begins what has it, and nothing else.
use Rattle.std.proofs.Common.{◌≡◌, refl, sym, ap, ◌∙◌}
use Rattle.wasm_types.specs.declared.types.ValType.TheVariants.{I32, I64}
use Rattle.wasm_types.specs.declared.instr.ITestOp.TheVariants.{Eqz}
use Rattle.wasm_types.specs.declared.instr.IRelOp.TheVariants.{Eq, Ne, LtS, LtU, GtS, GtU, LeS, LeU, GeS, GeU}
use Rattle.wasm_types.specs.declared.instr.IUnOp.TheVariants.{Clz, Ctz, Popcnt}
use Rattle.wasm_types.specs.declared.instr.IBinOp.TheVariants.{Add, Sub, Mul, DivS, DivU, RemS, RemU, And, Or, Xor, Shl, ShrS, ShrU, Rotl, Rotr}
use Rattle.wasm_types.specs.declared.instr.CvtOp.TheVariants.{I32WrapI64, I64ExtendI32S, I64ExtendI32U, I32Extend8S, I32Extend16S, I64Extend8S, I64Extend16S, I64Extend32S}
use Rattle.wasm_types.specs.declared.instr.LoadOp.TheVariants.{I32Load, I64Load, I32Load8S, I32Load8U, I32Load16S, I32Load16U, I64Load8S, I64Load8U, I64Load16S, I64Load16U, I64Load32S, I64Load32U}
use Rattle.wasm_types.specs.declared.instr.StoreOp.TheVariants.{I32Store, I64Store, I32Store8, I32Store16, I64Store8, I64Store16, I64Store32}
use Rattle.wasm_types.specs.declared.instr.Simple.{Simple}
use Rattle.wasm_types.specs.declared.instr.Simple.TheVariants as simple
use Rattle.wasm_types.specs.declared.opcodes.IndexOp.TheVariants.{Br, BrIf, Call, LocalGet, LocalSet, LocalTee, GlobalGet, GlobalSet}
use Rattle.wasm_types.specs.declared.opcodes.Lead.{Lead}
use Rattle.wasm_types.specs.declared.opcodes.Lead.TheVariants as lead
use Rattle.wasm_types.specs.Leads.{code, lead_at, IsLead, IsBare}

bare_again : (p : Simple) → IsBare p → lead_at (code (lead.Bare p)) ≡ lead.Bare p
unfolding lead_at
bare_again simple.Unreachable h = refl
bare_again simple.Nop h = refl
bare_again simple.Return h = refl
bare_again simple.Drop h = refl
bare_again simple.Select h = refl
bare_again (simple.Test I32 Eqz) h = refl
bare_again (simple.Compare I32 Eq) h = refl
bare_again (simple.Compare I32 Ne) h = refl
bare_again (simple.Compare I32 LtS) h = refl
bare_again (simple.Compare I32 LtU) h = refl
bare_again (simple.Compare I32 GtS) h = refl
bare_again (simple.Compare I32 GtU) h = refl
bare_again (simple.Compare I32 LeS) h = refl
bare_again (simple.Compare I32 LeU) h = refl
bare_again (simple.Compare I32 GeS) h = refl
bare_again (simple.Compare I32 GeU) h = refl
bare_again (simple.Unary I32 Clz) h = refl
bare_again (simple.Unary I32 Ctz) h = refl
bare_again (simple.Unary I32 Popcnt) h = refl
bare_again (simple.Binary I32 Add) h = refl
bare_again (simple.Binary I32 Sub) h = refl
bare_again (simple.Binary I32 Mul) h = refl
bare_again (simple.Binary I32 DivS) h = refl
bare_again (simple.Binary I32 DivU) h = refl
bare_again (simple.Binary I32 RemS) h = refl
bare_again (simple.Binary I32 RemU) h = refl
bare_again (simple.Binary I32 And) h = refl
bare_again (simple.Binary I32 Or) h = refl
bare_again (simple.Binary I32 Xor) h = refl
bare_again (simple.Binary I32 Shl) h = refl
bare_again (simple.Binary I32 ShrS) h = refl
bare_again (simple.Binary I32 ShrU) h = refl
bare_again (simple.Binary I32 Rotl) h = refl
bare_again (simple.Binary I32 Rotr) h = refl
bare_again (simple.Test I64 Eqz) h = refl
bare_again (simple.Compare I64 Eq) h = refl
bare_again (simple.Compare I64 Ne) h = refl
bare_again (simple.Compare I64 LtS) h = refl
bare_again (simple.Compare I64 LtU) h = refl
bare_again (simple.Compare I64 GtS) h = refl
bare_again (simple.Compare I64 GtU) h = refl
bare_again (simple.Compare I64 LeS) h = refl
bare_again (simple.Compare I64 LeU) h = refl
bare_again (simple.Compare I64 GeS) h = refl
bare_again (simple.Compare I64 GeU) h = refl
bare_again (simple.Unary I64 Clz) h = refl
bare_again (simple.Unary I64 Ctz) h = refl
bare_again (simple.Unary I64 Popcnt) h = refl
bare_again (simple.Binary I64 Add) h = refl
bare_again (simple.Binary I64 Sub) h = refl
bare_again (simple.Binary I64 Mul) h = refl
bare_again (simple.Binary I64 DivS) h = refl
bare_again (simple.Binary I64 DivU) h = refl
bare_again (simple.Binary I64 RemS) h = refl
bare_again (simple.Binary I64 RemU) h = refl
bare_again (simple.Binary I64 And) h = refl
bare_again (simple.Binary I64 Or) h = refl
bare_again (simple.Binary I64 Xor) h = refl
bare_again (simple.Binary I64 Shl) h = refl
bare_again (simple.Binary I64 ShrS) h = refl
bare_again (simple.Binary I64 ShrU) h = refl
bare_again (simple.Binary I64 Rotl) h = refl
bare_again (simple.Binary I64 Rotr) h = refl
bare_again (simple.Convert I32WrapI64) h = refl
bare_again (simple.Convert I64ExtendI32S) h = refl
bare_again (simple.Convert I64ExtendI32U) h = refl
bare_again (simple.Convert I32Extend8S) h = refl
bare_again (simple.Convert I32Extend16S) h = refl
bare_again (simple.Convert I64Extend8S) h = refl
bare_again (simple.Convert I64Extend16S) h = refl
bare_again (simple.Convert I64Extend32S) h = refl
bare_again p h = absurd h

-- each lead is found at its code
pub lead_again : (l : Lead) → IsLead l → lead_at (code l) ≡ l
unfolding lead_at
lead_again (lead.Bare p) h = bare_again p h
lead_again (lead.Index Br) h = refl
lead_again (lead.Index BrIf) h = refl
lead_again (lead.Index Call) h = refl
lead_again (lead.Index LocalGet) h = refl
lead_again (lead.Index LocalSet) h = refl
lead_again (lead.Index LocalTee) h = refl
lead_again (lead.Index GlobalGet) h = refl
lead_again (lead.Index GlobalSet) h = refl
lead_again (lead.Load I32Load) h = refl
lead_again (lead.Load I64Load) h = refl
lead_again (lead.Load I32Load8S) h = refl
lead_again (lead.Load I32Load8U) h = refl
lead_again (lead.Load I32Load16S) h = refl
lead_again (lead.Load I32Load16U) h = refl
lead_again (lead.Load I64Load8S) h = refl
lead_again (lead.Load I64Load8U) h = refl
lead_again (lead.Load I64Load16S) h = refl
lead_again (lead.Load I64Load16U) h = refl
lead_again (lead.Load I64Load32S) h = refl
lead_again (lead.Load I64Load32U) h = refl
lead_again (lead.Store I32Store) h = refl
lead_again (lead.Store I64Store) h = refl
lead_again (lead.Store I32Store8) h = refl
lead_again (lead.Store I32Store16) h = refl
lead_again (lead.Store I64Store8) h = refl
lead_again (lead.Store I64Store16) h = refl
lead_again (lead.Store I64Store32) h = refl
lead_again lead.I32Const h = refl
lead_again lead.I64Const h = refl
lead_again lead.CallIndirect h = refl
lead_again lead.MemorySize h = refl
lead_again lead.MemoryGrow h = refl
lead_again lead.BrTable h = refl
lead_again lead.Block h = refl
lead_again lead.Loop h = refl
lead_again lead.If h = refl
lead_again lead.Else h = refl
lead_again lead.End h = refl
lead_again lead.Float h = absurd h
lead_again lead.Unknown h = absurd h

pub one_lead : (l m : Lead) → IsLead l → IsLead m → code l ≡ code m → l ≡ m
one_lead l m h g e = sym (lead_again l h) ∙ ap lead_at e ∙ lead_again m g
