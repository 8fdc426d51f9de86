-- Topics: the names that lines for the standard error begin with, and the exit statuses.
use Rattle.std.specs.Prelude.{ℕ, ◌==◌, List, [], ◌∷◌, Bool, Option, codes, ◌≡◌, ◌++◌, drop, if◌then◌else◌, length, take}
use Rattle.std.specs.List.{before_first, find, starts_with}
use Rattle.std.specs.Str.{str_eq_ignore_ascii_case}
use Rattle.awk_values.specs.FaultNames.{fault_name}
use Rattle.awk_values.specs.declared.fault.Fault.TheVariants as faults
use Rattle.wasm_store.specs.declared.trap.TrapKind.TheVariants as traps
use Rattle.run_report.specs.EndTexts.{trap_word}
use Rattle.run_report.specs.declared.report.FileFault.{FileFault}
use Rattle.run_report.specs.declared.report.FileFault.TheVariants as files
use Rattle.run_report.specs.declared.topic.ScriptTopic.{ScriptTopic}
use Rattle.run_report.specs.declared.topic.ScriptTopic.TheVariants as scripts
use Rattle.run_report.specs.declared.topic.ModuleTopic.{ModuleTopic}
use Rattle.run_report.specs.declared.topic.ModuleTopic.TheVariants as modules
use Rattle.run_report.specs.declared.topic.EndTopic.{EndTopic}
use Rattle.run_report.specs.declared.topic.EndTopic.TheVariants as ends
use Rattle.run_report.specs.declared.topic.StatusTopic.{StatusTopic}
use Rattle.run_report.specs.declared.topic.StatusTopic.TheVariants as statuses
use Rattle.run_report.specs.declared.topic.Topic.{Topic}
use Rattle.run_report.specs.declared.topic.Topic.TheVariants.{End, Fault, File, Module, Script, Status, Trap}

abbrev pub script_name : ScriptTopic → List ℕ
script_name scripts.TooLarge = codes "TooLarge"
script_name scripts.BadByte = codes "BadByte"
script_name scripts.OpenString = codes "OpenString"
script_name scripts.OpenEre = codes "OpenEre"
script_name scripts.LeftOut = codes "LeftOut"
script_name scripts.NotWhole = codes "NotWhole"
script_name scripts.ConstantRange = codes "ConstantRange"
script_name scripts.Syntax = codes "Syntax"
script_name scripts.TooDeep = codes "TooDeep"
script_name scripts.Misplaced = codes "Misplaced"
script_name scripts.TooMany = codes "TooMany"
script_name scripts.DuplicateName = codes "DuplicateName"
script_name scripts.UnknownFunction = codes "UnknownFunction"
script_name scripts.ArgCount = codes "ArgCount"
script_name scripts.KindClash = codes "KindClash"

abbrev pub module_name : ModuleTopic → List ℕ
module_name modules.BadHeader = codes "BadHeader"
module_name modules.Truncated = codes "Truncated"
module_name modules.BadSection = codes "BadSection"
module_name modules.BadInteger = codes "BadInteger"
module_name modules.BadOpcode = codes "BadOpcode"
module_name modules.Float = codes "Float"
module_name modules.BadIndex = codes "BadIndex"
module_name modules.BadType = codes "BadType"
module_name modules.BadAlign = codes "BadAlign"
module_name modules.BadModule = codes "BadModule"
module_name modules.NoMain = codes "NoMain"
module_name modules.BadImport = codes "BadImport"
module_name modules.SegmentBounds = codes "SegmentBounds"

abbrev pub end_name : EndTopic → List ℕ
end_name ends.OutOfSteps = codes "OutOfSteps"
end_name ends.Exhausted = codes "Exhausted"
end_name ends.NoMemory = codes "NoMemory"

abbrev pub file_name : FileFault → List ℕ
file_name files.CannotRead = codes "CannotRead"
file_name files.CannotWrite = codes "CannotWrite"

-- a status is named by its digits
abbrev pub status_name : StatusTopic → List ℕ
status_name statuses.Own = codes "0"
status_name statuses.Faulted = codes "2"
status_name statuses.Refused = codes "3"
status_name statuses.OutOfSteps = codes "4"
status_name statuses.NoMemory = codes "5"
status_name statuses.Exhausted = codes "6"
status_name statuses.Trapped = codes "7"
status_name statuses.Line = codes "8"

abbrev pub topic_name : Topic → List ℕ
topic_name (Fault fault) = fault_name fault
topic_name (Script refusal) = script_name refusal
topic_name (Module refusal) = module_name refusal
topic_name (Trap kind) = trap_word kind
topic_name (End end) = end_name end
topic_name (File fault) = file_name fault
topic_name (Status status) = status_name status

-- What is shown of a topic begins so: with the program's name and the topic's, or with a status alone.
abbrev pub shown_first : Topic → List ℕ
shown_first (Status status) = status_name status
shown_first topic = codes "awkwasm: " ++ topic_name topic

abbrev pub Shows : Topic → List ℕ → Type 0
Shows topic text = take (length (shown_first topic)) text ≡ shown_first topic

abbrev pub all_topics : List Topic
all_topics =
    Fault faults.Range ∷ Fault faults.Fraction ∷ Fault faults.DivisionByZero ∷ Fault faults.Inexact ∷ Fault faults.FieldNumber ∷ Fault faults.Format ∷
    Fault faults.BadEre ∷ Fault faults.EreTooLarge ∷ Fault faults.TextLimit ∷ Fault faults.OpenInput ∷ Fault faults.ReadFailed ∷ Fault faults.OpenOutput ∷
    Fault faults.WriteFailed ∷ Fault faults.TooManyStreams ∷ Fault faults.NextOutside ∷ Fault faults.BadAssignment ∷ Script scripts.TooLarge
    ∷ Script scripts.BadByte ∷
    Script scripts.OpenString ∷ Script scripts.OpenEre ∷ Script scripts.LeftOut ∷ Script scripts.NotWhole ∷ Script scripts.ConstantRange
    ∷ Script scripts.Syntax ∷
    Script scripts.TooDeep ∷ Script scripts.Misplaced ∷ Script scripts.TooMany ∷ Script scripts.DuplicateName ∷ Script scripts.UnknownFunction
    ∷ Script scripts.ArgCount ∷
    Script scripts.KindClash ∷ Module modules.BadHeader ∷ Module modules.Truncated ∷ Module modules.BadSection ∷ Module modules.BadInteger
    ∷ Module modules.BadOpcode ∷
    Module modules.Float ∷ Module modules.BadIndex ∷ Module modules.BadType ∷ Module modules.BadAlign ∷ Module modules.BadModule ∷ Module modules.NoMain ∷
    Module modules.BadImport ∷ Module modules.SegmentBounds ∷ Trap traps.Unreachable ∷ Trap traps.DivideByZero ∷ Trap traps.IntegerOverflow
    ∷ Trap traps.MemoryBounds ∷
    Trap traps.TableBounds ∷ Trap traps.EmptyElement ∷ Trap traps.WrongType ∷ Trap traps.BadHandle ∷ Trap traps.BadPointer ∷ Trap traps.BadArgument ∷
    End ends.OutOfSteps ∷ End ends.Exhausted ∷ End ends.NoMemory ∷ File files.CannotRead ∷ File files.CannotWrite ∷ Status statuses.Own ∷
    Status statuses.Faulted ∷ Status statuses.Refused ∷ Status statuses.OutOfSteps ∷ Status statuses.NoMemory ∷ Status statuses.Exhausted
    ∷ Status statuses.Trapped ∷
    Status statuses.Line ∷ []

abbrev pub is_space : ℕ → Bool
is_space byte = byte == 32

-- a line without the program's name before it
abbrev pub without_program : List ℕ → List ℕ
without_program text = if starts_with ◌==◌ text (codes "awkwasm: ") then drop 9 text else text

-- the name in a line, or alone: it ends at the first space
abbrev pub name_of_line : List ℕ → List ℕ
name_of_line text = before_first is_space (without_program text)

-- capital letters or small ones
abbrev pub is_named : List ℕ → Topic → Bool
is_named name topic = str_eq_ignore_ascii_case (topic_name topic) name

-- the first topic of the name in a line
abbrev pub named : List ℕ → Option Topic
named text = find (is_named (name_of_line text)) all_topics

-- the name among what is told: it comes first
abbrev pub name_in : List (List ℕ) → List ℕ
name_in [] = []
name_in (name ∷ carried) = name
