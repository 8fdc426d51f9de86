use Rattle.std.proofs.Common.{rules, ◌≡◌, Some, Ok, ap, subst, sym, ◌∙◌}
use Rattle.std.specs.FinMap as map
use Rattle.sem_primitives.specs.declared.table.Primitive.TheVariants as row
use Rattle.host_imports.specs.declared.import.Import.TheVariants.{OfPrimitive}
use Rattle.host_values.specs.Calls.{reserved_handle}
use Rattle.host_values.proofs.ReservedHandle.{reserved_removed}
use Rattle.host_values.specs.ElementCalls.{IsTableCall}
use Rattle.host_worlds.specs.Forms.{flushing}
use Rattle.host_worlds.proofs.Flushes.{flush_call, flush_memory, flush_traps}
use Rattle.host_worlds.proofs.flushing.flush.Goals as goal

pub returns-in-Err-clause-step : goal.returns-in-Err-clause-step
returns-in-Err-clause-step c = λ f memory none. flush_traps (flushing c.args.handles.now c.args.streams.now f) c.args.words.now memory none c.in-Err.kind (sym c.in-Err.ensures)

pub returns-in_default-clause-step : goal.returns-in_default-clause-step
returns-in_default-clause-step c = λ f memory none.
    let before = flushing c.args.handles.now c.args.streams.now f in
    flush_memory before c.args.words.now memory none c.in-Ok.read.0 c.in-Ok.read.1.now (sym c.in-Ok.ensures) before

pub returns-clause-step : goal.returns-clause-step
returns-clause-step c = λ f memory none.
    let before = flushing c.args.handles.now c.args.streams.now f in
    let gone : c.take.new.self ≡ map.remove c.args.handles.now c.in-Ok.read.0 = search rules in
    subst (λ w. IsTableCall (OfPrimitive row.Flush) before c.args.words.now memory (Ok (Some w)) (flushing c.take.new.self c.args.streams.now f)) (sym c.code.ensures)
    (flush_call before c.args.words.now memory none c.in-Ok.read.0 c.in-Ok.read.1.now (sym c.in-Ok.ensures) c.take.new.self c.as_slice.result.now c.is_out.result gone
    (c.as_slice.ensures.value ∙ c.in-Ok-to_text.ensures.ok) c.is_out.ensures)

pub returns-clause-reserved : goal.returns-clause-reserved
returns-clause-reserved c free = ap (λ m. map.get m reserved_handle) c.take.ensures.rest ∙ reserved_removed c.args.handles.now _ free
