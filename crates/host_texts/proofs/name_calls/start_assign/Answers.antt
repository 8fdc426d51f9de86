use Rattle.std.proofs.Common.{rules, ◌≡◌, false, is_some, Some, Ok, sym, subst}
use Rattle.awk_values.specs.declared.fault.Stop.{Stop}
use Rattle.sem_primitives.specs.MainInput.{start_assign_row}
use Rattle.sem_primitives.specs.declared.table.Primitive.TheVariants as row
use Rattle.wasm_store.specs.declared.word.Word.{Word}
use Rattle.host_imports.specs.declared.import.Import.TheVariants.{OfPrimitive}
use Rattle.host_bytes.specs.Outcomes.{IsStopOf}
use Rattle.host_values.specs.ElementCalls.{IsTableCall}
use Rattle.host_values.specs.Forms.{inner_of}
use Rattle.host_texts.specs.NameForms.{of_all, with_all}
use Rattle.host_texts.proofs.NameSteps.{start_call, start_fault, start_memory}
use Rattle.host_texts.proofs.name_calls.start_assign.Goals as goal

pub returns-in-Ok-make_left : goal.returns-in-Ok-make_left
returns-in-Ok-make_left c = record {
  step = λ f memory none.
      let before = of_all c.args.texts.now c.args.names.now f in
      let after = of_all c.make_left.new.texts c.make_left.new.names f in
      let pending : is_some c.args.names.now.pending ≡ false = search rules in
      subst (λ (w : Word). IsTableCall (OfPrimitive row.StartAssign) before c.args.words.now memory (Ok (Some w)) after) (sym c.assign_word.ensures)
      (start_call before c.args.words.now memory none (sym c.in-Ok.ensures) (with_all c.make_left.new.texts c.make_left.new.names f.shared.inner) c.in-Ok-make_left.answer pending
      (λ p. c.in-Ok-make_left.ensures.ok (inner_of f.shared.inner p.arrays p.iterators)));
}

pub returns-in-Err-Fault : goal.returns-in-Err-Fault
returns-in-Err-Fault c = record {
  step = λ f memory none.
      let before = of_all c.args.texts.now c.args.names.now f in
      let pending : is_some c.args.names.now.pending ≡ false = search rules in
      start_fault before c.args.words.now memory none (sym c.in-Ok.ensures) c.in-Err-Fault.fault pending
      (λ p.
      let inner = inner_of f.shared.inner p.arrays p.iterators in
      subst (λ (stop : Stop). IsStopOf (start_assign_row (with_all c.args.texts.now c.args.names.now inner)) stop) c.in-Err-Fault.field-0-is (c.in-Err-Fault.ensures.err inner));
}

pub returns-in-Err-NoMemory : goal.returns-in-Err-NoMemory
returns-in-Err-NoMemory c = record {
  step = λ f memory none.
      let before = of_all c.args.texts.now c.args.names.now f in
      let pending : is_some c.args.names.now.pending ≡ false = search rules in
      start_memory before c.args.words.now memory none (sym c.in-Ok.ensures) pending (of_all c.make_left.new.texts c.make_left.new.names f);
}
