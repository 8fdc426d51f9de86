-- Each topic is found by its name, so no two topics have the same.
use Rattle.std.specs.Prelude.{◌≡◌, None, Some, codes, refl}
use Rattle.awk_values.specs.declared.fault.Fault.TheVariants as faults
use Rattle.wasm_store.specs.declared.trap.TrapKind.TheVariants as traps
use Rattle.run_report.specs.declared.report.FileFault.TheVariants as files
use Rattle.run_report.specs.declared.topic.ScriptTopic.TheVariants as scripts
use Rattle.run_report.specs.declared.topic.ModuleTopic.TheVariants as modules
use Rattle.run_report.specs.declared.topic.EndTopic.TheVariants as ends
use Rattle.run_report.specs.declared.topic.StatusTopic.TheVariants as statuses
use Rattle.run_report.specs.declared.topic.Topic.{Topic}
use Rattle.run_report.specs.declared.topic.Topic.TheVariants.{End, Fault, File, Module, Script, Status, Trap}
use Rattle.run_report.specs.Topics.{named, topic_name}

pub each_is_found : (topic : Topic) → named (topic_name topic) ≡ Some topic
each_is_found (Fault faults.Range) = refl
each_is_found (Fault faults.Fraction) = refl
each_is_found (Fault faults.DivisionByZero) = refl
each_is_found (Fault faults.Inexact) = refl
each_is_found (Fault faults.FieldNumber) = refl
each_is_found (Fault faults.Format) = refl
each_is_found (Fault faults.BadEre) = refl
each_is_found (Fault faults.EreTooLarge) = refl
each_is_found (Fault faults.TextLimit) = refl
each_is_found (Fault faults.OpenInput) = refl
each_is_found (Fault faults.ReadFailed) = refl
each_is_found (Fault faults.OpenOutput) = refl
each_is_found (Fault faults.WriteFailed) = refl
each_is_found (Fault faults.TooManyStreams) = refl
each_is_found (Fault faults.NextOutside) = refl
each_is_found (Fault faults.BadAssignment) = refl
each_is_found (Script scripts.TooLarge) = refl
each_is_found (Script scripts.BadByte) = refl
each_is_found (Script scripts.OpenString) = refl
each_is_found (Script scripts.OpenEre) = refl
each_is_found (Script scripts.LeftOut) = refl
each_is_found (Script scripts.NotWhole) = refl
each_is_found (Script scripts.ConstantRange) = refl
each_is_found (Script scripts.Syntax) = refl
each_is_found (Script scripts.TooDeep) = refl
each_is_found (Script scripts.Misplaced) = refl
each_is_found (Script scripts.TooMany) = refl
each_is_found (Script scripts.DuplicateName) = refl
each_is_found (Script scripts.UnknownFunction) = refl
each_is_found (Script scripts.ArgCount) = refl
each_is_found (Script scripts.KindClash) = refl
each_is_found (Module modules.BadHeader) = refl
each_is_found (Module modules.Truncated) = refl
each_is_found (Module modules.BadSection) = refl
each_is_found (Module modules.BadInteger) = refl
each_is_found (Module modules.BadOpcode) = refl
each_is_found (Module modules.Float) = refl
each_is_found (Module modules.BadIndex) = refl
each_is_found (Module modules.BadType) = refl
each_is_found (Module modules.BadAlign) = refl
each_is_found (Module modules.BadModule) = refl
each_is_found (Module modules.NoMain) = refl
each_is_found (Module modules.BadImport) = refl
each_is_found (Module modules.SegmentBounds) = refl
each_is_found (Trap traps.Unreachable) = refl
each_is_found (Trap traps.DivideByZero) = refl
each_is_found (Trap traps.IntegerOverflow) = refl
each_is_found (Trap traps.MemoryBounds) = refl
each_is_found (Trap traps.TableBounds) = refl
each_is_found (Trap traps.EmptyElement) = refl
each_is_found (Trap traps.WrongType) = refl
each_is_found (Trap traps.BadHandle) = refl
each_is_found (Trap traps.BadPointer) = refl
each_is_found (Trap traps.BadArgument) = refl
each_is_found (End ends.OutOfSteps) = refl
each_is_found (End ends.Exhausted) = refl
each_is_found (End ends.NoMemory) = refl
each_is_found (File files.CannotRead) = refl
each_is_found (File files.CannotWrite) = refl
each_is_found (Status statuses.Own) = refl
each_is_found (Status statuses.Faulted) = refl
each_is_found (Status statuses.Refused) = refl
each_is_found (Status statuses.OutOfSteps) = refl
each_is_found (Status statuses.NoMemory) = refl
each_is_found (Status statuses.Exhausted) = refl
each_is_found (Status statuses.Trapped) = refl
each_is_found (Status statuses.Line) = refl

-- a line as it is on the standard error, small letters, and a name that does not exist
pub line_is_found : named (codes "awkwasm: LeftOut 1 system") ≡ Some (Script scripts.LeftOut)
line_is_found = refl

pub small_is_found : named (codes "fraction") ≡ Some (Fault faults.Fraction)
small_is_found = refl

pub other_is_not_found : named (codes "awkwasm:") ≡ None
other_is_not_found = refl
