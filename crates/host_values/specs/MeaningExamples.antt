-- What is told of calls, computed.
use Rattle.std.specs.Prelude.{◌≡◌, ◌^◌, ◌-◌, Some, None, Ok, Err, refl}
use Rattle.awk_values.specs.declared.fault.Fault.TheVariants.{TextLimit}
use Rattle.sem_primitives.specs.declared.table.Primitive.TheVariants.{Elem, IntOf}
use Rattle.wasm_model.specs.declared.host.HostAnswer.TheVariants as told
use Rattle.wasm_store.specs.declared.trap.TrapKind.TheVariants.{BadHandle}
use Rattle.wasm_store.specs.declared.word.Word.TheVariants.{I32, I64}
use Rattle.host_imports.specs.declared.import.Import.TheVariants.{Arg, OfPrimitive}
use Rattle.host_step.specs.declared.refusal.Refusal.TheVariants as why
use Rattle.host_values.specs.Forms.{HostForm}
use Rattle.host_values.specs.Shown.{SharesBy, form_with_output}
use Rattle.host_values.specs.TableCalls.{Fits, answer_of_call, left_by_call}

-- an answer, a trap, want of memory; and at a fault the import's refusal: -1, the least number of 64 bits, or nothing
pub answered : answer_of_call (OfPrimitive Elem) (Ok (Some (I32 7))) ≡ told.Done (Some (I32 7))
answered = refl

pub trapped : answer_of_call (OfPrimitive Elem) (Err (why.Trap BadHandle)) ≡ told.Trap BadHandle
trapped = refl

pub wanting : answer_of_call (OfPrimitive Elem) (Err why.NoMemory) ≡ told.NoMemory
wanting = refl

pub faulted : answer_of_call (OfPrimitive Elem) (Err (why.Fault TextLimit)) ≡ told.Done (Some (I32 (2 ^ 32 - 1)))
faulted = refl

pub faulted_number : answer_of_call (OfPrimitive IntOf) (Err (why.Fault TextLimit)) ≡ told.Done (Some (I64 (2 ^ 63)))
faulted_number = refl

pub faulted_nothing : answer_of_call Arg (Err (why.Fault TextLimit)) ≡ told.Done None
faulted_nothing = refl

-- a handle is a word of 32 bits, a number one of 64
pub handle_fits : Fits (OfPrimitive Elem) (Ok (Some (I32 7)))
handle_fits = refl

pub number_fits : Fits (OfPrimitive IntOf) (Ok (Some (I64 7)))
number_fits = refl

module _ (f : HostForm) where
  -- a fault is kept, and nothing else; a trap keeps none
  pub keeps : (left_by_call (Err (why.Fault TextLimit)) f).fault ≡ Some TextLimit
  keeps = refl

  pub keeps_arrays : (left_by_call (Err (why.Fault TextLimit)) f).arrays ≡ f.arrays
  keeps_arrays = refl

  pub keeps_none : left_by_call (Err (why.Trap BadHandle)) f ≡ f
  keeps_none = refl

  -- while no fault is kept, a form is taken for itself
  pub whole : SharesBy None f f
  whole = refl

  pub own_output : form_with_output f.shared.output f ≡ f
  own_output = refl
