use Rattle.wasm_types.specs.declared.instr.Simple.TheVariants as simple
use Rattle.wasm_types.specs.Leads.{indexed}
use Rattle.wasm_types.specs.Syntax.{Plain}
use Rattle.module_decoder.specs.Readers.{◌>>=◌, bits32_at, bits64_at, index_at}
use Rattle.std.proofs.Common.{Ok}
use Rattle.module_decoder.specs.Reading.{mem_arg_at, reserved_at}
use Rattle.module_decoder.proofs.Steps.{mapped_is, next_part, took}
use Rattle.module_decoder.proofs.body.plain.Goals as goal

pub returns-in-Index : goal.returns-in-Index
returns-in-Index c = λ body. rw (c.in-Index.is, c.with.ensures) (mapped_is (λ n. Plain (indexed c.in-Index.op n)) (index_at c.args.reader.now.span) c.index.ensures)

pub returns-in-Load : goal.returns-in-Load
returns-in-Load c = λ body. rw c.in-Load.is (mapped_is (λ m. Plain (simple.Load c.in-Load.op m)) (mem_arg_at c.args.reader.now.span) c.mem_arg.ensures)

pub returns-in-Store : goal.returns-in-Store
returns-in-Store c = λ body. rw c.in-Store.is (mapped_is (λ m. Plain (simple.Store c.in-Store.op m)) (mem_arg_at c.args.reader.now.span) c.mem_arg-in-Store.ensures)

pub returns-in-I32Const : goal.returns-in-I32Const
returns-in-I32Const c = λ body.
    rw c.in-I32Const.is (mapped_is (λ n. Plain (simple.I32Const n)) (bits32_at c.args.reader.now.span) (took (λ n. n) c.bits32.result (bits32_at c.args.reader.now.span c.args.reader.now.rest.now) c.take-n.ensures.span c.take-n.ensures.took c.bits32.ensures))

pub returns-in-MemorySize : goal.returns-in-MemorySize
returns-in-MemorySize c = λ body. rw c.in-MemorySize.is (mapped_is (λ r. Plain simple.MemorySize) (reserved_at c.args.reader.now.span) c.reserved-in-MemorySize.ensures)

pub returns-in-MemoryGrow : goal.returns-in-MemoryGrow
returns-in-MemoryGrow c = λ body. rw c.in-MemoryGrow.is (mapped_is (λ r. Plain simple.MemoryGrow) (reserved_at c.args.reader.now.span) c.reserved-in-MemoryGrow.ensures)

pub returns-in-I64Const : goal.returns-in-I64Const
returns-in-I64Const c = λ body.
    rw c.in-I64Const.is (mapped_is (λ n. Plain (simple.I64Const n)) (bits64_at c.args.reader.now.span) (took (λ n. n) c.bits64.result (bits64_at c.args.reader.now.span c.args.reader.now.rest.now) c.take-n-in-I64Const.ensures.span c.take-n-in-I64Const.ensures.took c.bits64.ensures))

pub returns-in-CallIndirect : goal.returns-in-CallIndirect
returns-in-CallIndirect c = λ body.
    rw c.in-CallIndirect.is (next_part (index_at c.args.reader.now.span c.args.reader.now.rest.now) (λ p n. reserved_at p n.1 >>= λ r. Ok (Plain (simple.CallIndirect n.0), r.1)) c.index-n.ensures
    (mapped_is (λ r. Plain (simple.CallIndirect c.index-n.result)) (reserved_at c.index-n.new.self.span) c.reserved.ensures))
