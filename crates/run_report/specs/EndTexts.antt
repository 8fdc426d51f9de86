-- What is told of a run's end and of a file: the exit status, and a line with the innermost name and what it carries.
use Rattle.std.specs.Prelude.{ℕ, List, [], ◌∷◌, ◌++◌, Option, Some, None, codes, decimal}
use Rattle.awk_parse.specs.declared.fault.Feature.{Feature}
use Rattle.awk_parse.specs.declared.fault.Feature.TheVariants.{Pipe, Word}
use Rattle.awk_parse.specs.declared.fault.ParseFault.{ParseFault}
use Rattle.awk_parse.specs.declared.fault.ParseFault.TheVariants as parsing
use Rattle.awk_resolve.specs.declared.fault.ResolveFault.{ResolveFault}
use Rattle.awk_resolve.specs.declared.fault.ResolveFault.TheVariants as resolving
use Rattle.run_report.specs.declared.compile_fault.CompileFault.{CompileFault}
use Rattle.run_report.specs.declared.compile_fault.CompileFault.TheVariants as compiling
use Rattle.run_report.specs.declared.end.Refusal.{Refusal}
use Rattle.run_report.specs.declared.end.Refusal.TheVariants.{Compile, Decode, Invalid, Link}
use Rattle.run_report.specs.declared.end.RunEnd.{RunEnd}
use Rattle.run_report.specs.declared.end.RunEnd.TheVariants.{Ended, Exhausted, Faulted, NoMemory, OutOfSteps, Refused, Trapped}
use Rattle.awk_tokens.specs.declared.token.TokenFault.{TokenFault}
use Rattle.awk_tokens.specs.declared.token.TokenFault.TheVariants as cutting
use Rattle.awk_tokens.specs.declared.reserved_words.LeftOut.{LeftOut}
use Rattle.awk_tokens.specs.declared.reserved_words.LeftOut.TheVariants.{Atan2, Cos, Exp, Func, Log, Rand, Sin, Sqrt, Srand, System}
use Rattle.awk_values.specs.FaultNames.{fault_name}
use Rattle.ere_syntax.specs.declared.fault.EreFault.{EreFault}
use Rattle.ere_syntax.specs.declared.fault.EreFault.TheVariants as expressions
use Rattle.module_decoder.specs.declared.fault.DecodeFault.{DecodeFault}
use Rattle.module_decoder.specs.declared.fault.DecodeFault.TheVariants as decoding
use Rattle.module_validator.specs.declared.valid.InvalidFault.{InvalidFault}
use Rattle.module_validator.specs.declared.valid.InvalidFault.TheVariants as typing
use Rattle.wasm_model.specs.declared.fault.LinkFault.{LinkFault}
use Rattle.wasm_model.specs.declared.fault.LinkFault.TheVariants as linking
use Rattle.wasm_store.specs.declared.trap.TrapKind.{TrapKind}
use Rattle.wasm_store.specs.declared.trap.TrapKind.TheVariants as traps
use Rattle.run_report.specs.declared.report.FileFault.{FileFault}
use Rattle.run_report.specs.declared.report.FileFault.TheVariants.{CannotRead, CannotWrite}

-- What is told is a list of words: the name, and what it carries.

-- a name alone
abbrev pub alone : List ℕ → List (List ℕ)
alone name = name ∷ []

-- a name with a line, a place, an index or a length
abbrev pub numbered : List ℕ → ℕ → List (List ℕ)
numbered name number = name ∷ decimal number ∷ []

-- a fault's name with a name of the script
abbrev pub named : List ℕ → List ℕ → List (List ℕ)
named fault name = fault ∷ name ∷ []

abbrev pub token_words : TokenFault → List (List ℕ)
token_words (cutting.BadByte line) = numbered (codes "BadByte") line
token_words (cutting.OpenString line) = numbered (codes "OpenString") line
token_words (cutting.OpenEre line) = numbered (codes "OpenEre") line
token_words cutting.NoMemory = alone (codes "NoMemory")

-- a word that is left out, as scripts have it
abbrev pub left_out_word : LeftOut → List ℕ
left_out_word Atan2 = codes "atan2"
left_out_word Cos = codes "cos"
left_out_word Sin = codes "sin"
left_out_word Exp = codes "exp"
left_out_word Log = codes "log"
left_out_word Sqrt = codes "sqrt"
left_out_word Rand = codes "rand"
left_out_word Srand = codes "srand"
left_out_word System = codes "system"
left_out_word Func = codes "func"

abbrev pub feature_word : Feature → List ℕ
feature_word (Word word) = left_out_word word
feature_word Pipe = codes "pipe"

abbrev pub parse_words : ParseFault → List (List ℕ)
parse_words (parsing.LeftOut line feature) = codes "LeftOut" ∷ decimal line ∷ feature_word feature ∷ []
parse_words (parsing.NotWhole line) = numbered (codes "NotWhole") line
parse_words (parsing.ConstantRange line) = numbered (codes "ConstantRange") line
parse_words (parsing.Syntax line) = numbered (codes "Syntax") line
parse_words (parsing.TooDeep line) = numbered (codes "TooDeep") line
parse_words (parsing.Misplaced line) = numbered (codes "Misplaced") line
parse_words parsing.NoMemory = alone (codes "NoMemory")

-- of an expression on this line
abbrev pub ere_words : ℕ → EreFault → List (List ℕ)
ere_words line (expressions.BadEre place) = codes "BadEre" ∷ decimal line ∷ decimal place ∷ []
ere_words line expressions.EreTooLarge = numbered (codes "EreTooLarge") line
ere_words line expressions.NoMemory = alone (codes "NoMemory")

abbrev pub resolve_words : ResolveFault → List (List ℕ)
resolve_words (resolving.TooMany function) = named (codes "TooMany") function
resolve_words (resolving.DuplicateName name) = named (codes "DuplicateName") name
resolve_words (resolving.UnknownFunction function) = named (codes "UnknownFunction") function
resolve_words (resolving.ArgCount function) = named (codes "ArgCount") function
resolve_words (resolving.KindClash name) = named (codes "KindClash") name
resolve_words resolving.NoMemory = alone (codes "NoMemory")

abbrev pub compile_words : CompileFault → List (List ℕ)
compile_words compiling.TooLarge = alone (codes "TooLarge")
compile_words (compiling.Token fault) = token_words fault
compile_words (compiling.Parse fault) = parse_words fault
compile_words (compiling.Ere line fault) = ere_words line fault
compile_words (compiling.Resolve fault) = resolve_words fault
compile_words compiling.NoMemory = alone (codes "NoMemory")

abbrev pub decode_words : DecodeFault → List (List ℕ)
decode_words decoding.BadHeader = alone (codes "BadHeader")
decode_words (decoding.Truncated length) = numbered (codes "Truncated") length
decode_words (decoding.BadSection place) = numbered (codes "BadSection") place
decode_words (decoding.BadInteger place) = numbered (codes "BadInteger") place
decode_words (decoding.BadOpcode place) = numbered (codes "BadOpcode") place
decode_words (decoding.Float place) = numbered (codes "Float") place
decode_words decoding.TooLarge = alone (codes "TooLarge")
decode_words decoding.NoMemory = alone (codes "NoMemory")

abbrev pub invalid_words : InvalidFault → List (List ℕ)
invalid_words (typing.BadIndex function) = numbered (codes "BadIndex") function
invalid_words (typing.BadType function) = numbered (codes "BadType") function
invalid_words (typing.BadAlign function) = numbered (codes "BadAlign") function
invalid_words typing.BadModule = alone (codes "BadModule")
invalid_words typing.NoMemory = alone (codes "NoMemory")

abbrev pub link_words : LinkFault → List (List ℕ)
link_words linking.NoMain = alone (codes "NoMain")
link_words (linking.BadImport index) = numbered (codes "BadImport") index
link_words linking.SegmentBounds = alone (codes "SegmentBounds")
link_words linking.NoMemory = alone (codes "NoMemory")

abbrev pub refusal_words : Refusal → List (List ℕ)
refusal_words (Compile fault) = compile_words fault
refusal_words (Decode fault) = decode_words fault
refusal_words (Invalid fault) = invalid_words fault
refusal_words (Link fault) = link_words fault

abbrev pub trap_word : TrapKind → List ℕ
trap_word traps.Unreachable = codes "Unreachable"
trap_word traps.DivideByZero = codes "DivideByZero"
trap_word traps.IntegerOverflow = codes "IntegerOverflow"
trap_word traps.MemoryBounds = codes "MemoryBounds"
trap_word traps.TableBounds = codes "TableBounds"
trap_word traps.EmptyElement = codes "EmptyElement"
trap_word traps.WrongType = codes "WrongType"
trap_word traps.BadHandle = codes "BadHandle"
trap_word traps.BadPointer = codes "BadPointer"
trap_word traps.BadArgument = codes "BadArgument"

-- the innermost name of an end and what it carries; of an end with a status of its own nothing is told
abbrev pub end_words : RunEnd → Option (List (List ℕ))
end_words (Ended status) = None
end_words (Faulted fault) = Some (alone (fault_name fault))
end_words OutOfSteps = Some (alone (codes "OutOfSteps"))
end_words Exhausted = Some (alone (codes "Exhausted"))
end_words NoMemory = Some (alone (codes "NoMemory"))
end_words (Refused refusal) = Some (refusal_words refusal)
end_words (Trapped kind) = Some (alone (trap_word kind))

-- each word after a space
abbrev pub spaced : List (List ℕ) → List ℕ
spaced [] = []
spaced (word ∷ words) = 32 ∷ (word ++ spaced words)

-- one line for the standard error
unfoldable pub line_of : List (List ℕ) → List ℕ
line_of words = codes "awkwasm:" ++ (spaced words ++ codes "\n")

abbrev pub line_or_nothing : Option (List (List ℕ)) → List ℕ
line_or_nothing None = []
line_or_nothing (Some words) = line_of words

abbrev pub end_text : RunEnd → List ℕ
end_text end = line_or_nothing (end_words end)

abbrev pub exit_code : RunEnd → ℕ
exit_code (Ended status) = status
exit_code (Faulted fault) = 2
exit_code (Refused refusal) = 3
exit_code OutOfSteps = 4
exit_code NoMemory = 5
exit_code Exhausted = 6
exit_code (Trapped kind) = 7

abbrev pub file_text : FileFault → List ℕ
file_text CannotRead = line_of (alone (codes "CannotRead"))
file_text CannotWrite = line_of (alone (codes "CannotWrite"))
