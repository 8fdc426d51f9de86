-- What `explain` says of each topic.
use Rattle.std.specs.Prelude.{ℕ, List, codes}
use Rattle.awk_values.specs.declared.fault.Fault.{Fault}
use Rattle.awk_values.specs.declared.fault.Fault.TheVariants as faults
use Rattle.run_report.specs.declared.topic.ScriptTopic.{ScriptTopic}
use Rattle.run_report.specs.declared.topic.ScriptTopic.TheVariants as scripts
use Rattle.run_report.specs.declared.topic.ModuleTopic.{ModuleTopic}
use Rattle.run_report.specs.declared.topic.ModuleTopic.TheVariants as modules
use Rattle.wasm_store.specs.declared.trap.TrapKind.{TrapKind}
use Rattle.wasm_store.specs.declared.trap.TrapKind.TheVariants as traps
use Rattle.run_report.specs.declared.topic.EndTopic.{EndTopic}
use Rattle.run_report.specs.declared.topic.EndTopic.TheVariants as ends
use Rattle.run_report.specs.declared.report.FileFault.{FileFault}
use Rattle.run_report.specs.declared.report.FileFault.TheVariants as files
use Rattle.run_report.specs.declared.topic.StatusTopic.{StatusTopic}
use Rattle.run_report.specs.declared.topic.StatusTopic.TheVariants as statuses
use Rattle.run_report.specs.declared.topic.Topic.{Topic}
use Rattle.run_report.specs.declared.topic.Topic.TheVariants.{End, Fault as OfFault, File, Module, Script, Status, Trap}
use Rattle.run_report.specs.declared.explained.Explanation.{Explanation}

-- what it means, a command that it comes of, what that command says, and what to do
pub record ExplanationForm : Type 0 where
  pub meaning : List ℕ
  pub command : List ℕ
  pub shown : List ℕ
  pub advice : List ℕ

abbrev pub form_of : Explanation → ExplanationForm
form_of e = record { meaning = e.meaning.now; command = e.command.now; shown = e.shown.now; advice = e.advice.now }

abbrev pub fault_explanation : Fault → ExplanationForm
fault_explanation faults.Range = record {
  meaning = codes "A number is below -2^53 or above 2^53.";
  command = codes "awkwasm run 'BEGIN { print 2 ^ 53 + 1 }'";
  shown = codes "awkwasm: Range";
  advice = codes "Count in larger units. Digits that you only print, or compare as text, have no limit.";
}
fault_explanation faults.Fraction = record {
  meaning = codes "A field or another text was used as a number, and that number is not whole.";
  command = codes "echo 0.5 | awkwasm run '{ print $1 + 1 }'";
  shown = codes "awkwasm: Fraction";
  advice = codes "int($1) cuts it to a whole number. A field that you only print stays as it is. For money in cents: examples/recipes/money. For percentages: examples/recipes/percentages.";
}
fault_explanation faults.DivisionByZero = record {
  meaning = codes "The divisor of / or % is 0, or 0 is raised to a negative power.";
  command = codes "awkwasm run 'BEGIN { print 1 % n }'";
  shown = codes "awkwasm: DivisionByZero";
  advice = codes "Test the divisor first: if (n) print 1 % n";
}
fault_explanation faults.Inexact = record {
  meaning = codes "A quotient, or a power with a negative exponent, is not a whole number.";
  command = codes "awkwasm run 'BEGIN { print 7 / 2 }'";
  shown = codes "awkwasm: Inexact";
  advice = codes "int(7 / 2) is the quotient without its remainder, and 7 % 2 is the remainder. For decimals: examples/recipes/percentages. For means and rounding: examples/recipes/rounding.";
}
fault_explanation faults.FieldNumber = record {
  meaning = codes "A field number, or NF, is below 0 or above 1,048,576.";
  command = codes "echo | awkwasm run '{ print $(NF - 1) }'";
  shown = codes "awkwasm: FieldNumber";
  advice = codes "Test first that the field exists: NF > 1 { print $(NF - 1) }";
}
fault_explanation faults.Format = record {
  meaning = codes "A format of printf or sprintf is malformed, or an argument for it is missing.";
  command = codes "awkwasm run 'BEGIN { printf \"%d\\n\" }'";
  shown = codes "awkwasm: Format";
  advice = codes "Give each conversion an argument, and write %% for a percent sign. %e, %g, %a and a width of * are left out.";
}
fault_explanation faults.BadEre = record {
  meaning = codes "A text was used as a regular expression and is not one. For a constant such as /(/, the line and the position in the expression follow the name.";
  command = codes "awkwasm run 'BEGIN { print \"x\" ~ \"(\" }'";
  shown = codes "awkwasm: BadEre";
  advice = codes "To match a special character itself, put a backslash before it, as in /\\(/, or search with index. [. .] and [= =] are left out.";
}
fault_explanation faults.EreTooLarge = record {
  meaning = codes "A regular expression is nested more than 1,000 deep, or has more than 10,000 positions after its counts are expanded.";
  command = codes "awkwasm run 'BEGIN { print \"a\" ~ \"(a{200}){200}\" }'";
  shown = codes "awkwasm: EreTooLarge";
  advice = codes "Use smaller counts, or test the length with length.";
}
fault_explanation faults.TextLimit = record {
  meaning = codes "A text would be longer than 67,108,864 bytes.";
  command = codes "awkwasm run 'BEGIN { s = \"a\"; while (1) s = s s }'";
  shown = codes "awkwasm: TextLimit";
  advice = codes "Print parts as they come, or keep them in the elements of an array. If a file is one long line, set RS.";
}
fault_explanation faults.OpenInput = record {
  meaning = codes "An operand names a file that did not open.";
  command = codes "awkwasm run '{ print }' nosuch";
  shown = codes "awkwasm: OpenInput";
  advice = codes "Check that the name is right and that you may read the file. An option such as --no-files or --may-read may forbid it.";
}
fault_explanation faults.ReadFailed = record {
  meaning = codes "An operand or the standard input could not be read, or it is longer than --most-input allows.";
  command = codes "awkwasm run '{ print }' /";
  shown = codes "awkwasm: ReadFailed";
  advice = codes "Name files, not folders. If the input may be that long, raise --most-input.";
}
fault_explanation faults.OpenOutput = record {
  meaning = codes "A file that print or printf writes to did not open.";
  command = codes "awkwasm run 'BEGIN { print 1 > \"/\" }'";
  shown = codes "awkwasm: OpenOutput";
  advice = codes "Check that its folder exists and that you may write there. An option such as --no-files, --read-only, --only-operands or --may-write may forbid it.";
}
fault_explanation faults.WriteFailed = record {
  meaning = codes "A write failed: the disk is full, the standard output is closed, or a limit such as ulimit -f or --most-output is reached.";
  command = codes "awkwasm run 'BEGIN { print 1 }' >/dev/full";
  shown = codes "awkwasm: WriteFailed";
  advice = codes "Make room, or raise the limit. What the script wrote before stays.";
}
fault_explanation faults.TooManyStreams = record {
  meaning = codes "256 files are open, and the script opens one more.";
  command = codes "awkwasm run 'BEGIN { for (p = \"/dev/\"; ; p = p \"/\") getline < (p \"null\") }'";
  shown = codes "awkwasm: TooManyStreams";
  advice = codes "Call close(name) when you are done with a file.";
}
fault_explanation faults.NextOutside = record {
  meaning = codes "next or nextfile ran while no record was being processed, in a function that BEGIN or END called.";
  command = codes "awkwasm run 'function f() { next } BEGIN { f() }'";
  shown = codes "awkwasm: NextOutside";
  advice = codes "Leave the function with return, and use next and nextfile in the actions of patterns.";
}
fault_explanation faults.BadAssignment = record {
  meaning = codes "An assignment on the command line, such as -v NAME=TEXT, names something that is not a variable.";
  command = codes "awkwasm run -v 'length=1' 'BEGIN { print 2 }'";
  shown = codes "awkwasm: BadAssignment";
  advice = codes "Choose a name of letters, digits and _ that is not a word of awk, and not a function or array of the script. If the name of a file has a =, write ./NAME.";
}

abbrev pub script_explanation : ScriptTopic → ExplanationForm
script_explanation scripts.TooLarge = record {
  meaning = codes "The script has more than 1,048,576 bytes, or a module exceeds a limit: 16 MiB, 4,000 nested blocks, 50,000 locals, 256 pages, 65,536 table elements.";
  command = codes "head -c 1048577 /dev/zero | awkwasm compile /dev/stdin out.wasm";
  shown = codes "awkwasm: TooLarge";
  advice = codes "Split the script, and move lists of data into a file that it reads.";
}
script_explanation scripts.BadByte = record {
  meaning = codes "No token of awk begins with this byte. The number is its line.";
  command = codes "awkwasm run 'BEGIN { print @ }'";
  shown = codes "awkwasm: BadByte 1";
  advice = codes "Look for a stray character on the line, such as a quote that an editor has curled. run takes the text of a script, not a file: awkwasm run \"$(cat prog.awk)\"";
}
script_explanation scripts.OpenString = record {
  meaning = codes "A string is not closed on its line. The number is the line.";
  command = codes "awkwasm run 'BEGIN { print \"a }'";
  shown = codes "awkwasm: OpenString 1";
  advice = codes "Close it with a double quote. In a string, \\n is a newline and \\\" a double quote.";
}
script_explanation scripts.OpenEre = record {
  meaning = codes "A regular expression is not closed on its line. The number is the line.";
  command = codes "awkwasm run '/a { print }'";
  shown = codes "awkwasm: OpenEre 1";
  advice = codes "Close it with a slash. In the expression, write \\/ for a slash, also within brackets.";
}
script_explanation scripts.LeftOut = record {
  meaning = codes "The script uses something that awkwasm leaves out. The line and what is left out follow the name.";
  command = codes "awkwasm run 'BEGIN { system(\"ls\") }'";
  shown = codes "awkwasm: LeftOut 1 system";
  advice = codes "For system or a pipe, run the program first, and give its output to the standard input. For func, write function. atan2, cos, sin, exp, log, sqrt, rand and srand are left out because numbers are whole.";
}
script_explanation scripts.NotWhole = record {
  meaning = codes "The script has a number that is not whole. The line follows the name.";
  command = codes "awkwasm run 'BEGIN { x = 0.5 }'";
  shown = codes "awkwasm: NotWhole 1";
  advice = codes "Count in smaller units, such as cents.";
}
script_explanation scripts.ConstantRange = record {
  meaning = codes "The script has a number above 2^53. The line follows the name.";
  command = codes "awkwasm run 'BEGIN { x = 9007199254740993 }'";
  shown = codes "awkwasm: ConstantRange 1";
  advice = codes "If you only print it, or compare it as text, write it as a string.";
}
script_explanation scripts.Syntax = record {
  meaning = codes "This is not an awk script. The number is the line where the parser stopped.";
  command = codes "awkwasm run 'BEGIN { if (n { print } }'";
  shown = codes "awkwasm: Syntax 1";
  advice = codes "Look there, and before it, for a missing brace, parenthesis or operator. After print, > names a file: put a comparison in parentheses.";
}
script_explanation scripts.TooDeep = record {
  meaning = codes "Expressions or statements are nested more than 1,000 deep. The number is the line.";
  command = codes "awkwasm run \"BEGIN { print $(printf '%01200d' | tr 0 '(')1$(printf '%01200d' | tr 0 ')') }\"";
  shown = codes "awkwasm: TooDeep 1";
  advice = codes "Assign parts to variables, move statements into functions, or fill an array in a loop.";
}
script_explanation scripts.Misplaced = record {
  meaning = codes "next, nextfile, break, continue or return is in the wrong place. The number is its line.";
  command = codes "awkwasm run 'BEGIN { next }'";
  shown = codes "awkwasm: Misplaced 1";
  advice = codes "next and nextfile belong in the action of a pattern or in a function, break and continue in a loop, return in a function.";
}
script_explanation scripts.TooMany = record {
  meaning = codes "The script defines this function after 1,000 others, or gives it more than 100 parameters. awkwasm check shows where.";
  command = codes "awkwasm run \"function f($(seq -s, -f a%g 101)) { }\"";
  shown = codes "awkwasm: TooMany f";
  advice = codes "Pass an array in place of many parameters.";
}
script_explanation scripts.DuplicateName = record {
  meaning = codes "The name is used for two things: two functions, two parameters of a function, or a function and a variable. awkwasm check shows where.";
  command = codes "awkwasm run 'function f(a, a) { } BEGIN { f(1) }'";
  shown = codes "awkwasm: DuplicateName a";
  advice = codes "Rename one of them. Names of special variables, such as NF, are taken.";
}
script_explanation scripts.UnknownFunction = record {
  meaning = codes "The script calls a function that it does not define. awkwasm check shows where.";
  command = codes "awkwasm run 'BEGIN { print f(1) }'";
  shown = codes "awkwasm: UnknownFunction f";
  advice = codes "Define the function. Functions of other awks, such as gensub and strftime, are left out. A variable before a parenthesis needs a space: f (1)";
}
script_explanation scripts.ArgCount = record {
  meaning = codes "The script calls a function with more arguments than it has parameters. awkwasm check shows where.";
  command = codes "awkwasm run 'function f(a) { } BEGIN { f(1, 2) }'";
  shown = codes "awkwasm: ArgCount f";
  advice = codes "Remove an argument, or add a parameter.";
}
script_explanation scripts.KindClash = record {
  meaning = codes "The name is used both as an array and as a variable. awkwasm check shows where.";
  command = codes "awkwasm run 'BEGIN { a = 1; a[1] = 2 }'";
  shown = codes "awkwasm: KindClash a";
  advice = codes "Use two names. length(a) of an array is left out: count its elements in a loop.";
}

abbrev pub module_explanation : ModuleTopic → ExplanationForm
module_explanation modules.BadHeader = record {
  meaning = codes "This file is not a module: it does not begin with the 8 bytes of WebAssembly, version 1.";
  command = codes "echo 'BEGIN { print 2 }' | awkwasm exec /dev/stdin";
  shown = codes "awkwasm: BadHeader";
  advice = codes "exec runs what compile wrote: awkwasm compile prog.awk prog.wasm; awkwasm exec prog.wasm. To run a script without a module: awkwasm run \"$(cat prog.awk)\"";
}
module_explanation modules.Truncated = record {
  meaning = codes "The module ends too soon. The number is its length in bytes.";
  command = codes "printf '\\0asm\\1\\0\\0' | awkwasm exec /dev/stdin";
  shown = codes "awkwasm: Truncated 7";
  advice = codes "The file was cut off, for example by a full disk. Compile the script again, or copy the module again.";
}
module_explanation modules.BadSection = record {
  meaning = codes "A section of the module is unknown, out of order, repeated or malformed. The number is the position of its first byte.";
  command = codes "printf '\\0asm\\1\\0\\0\\0\\77\\0' | awkwasm exec /dev/stdin";
  shown = codes "awkwasm: BadSection 8";
  advice = codes "Compile the script again. If the module is from another compiler, leave out what is newer than WebAssembly 1.0.";
}
module_explanation modules.BadInteger = record {
  meaning = codes "An integer in the module is too long, or has wrong unused bits. The number is the position of its first byte.";
  command = codes "printf '\\0asm\\1\\0\\0\\0\\1\\200\\200\\200\\200\\200\\0' | awkwasm exec /dev/stdin";
  shown = codes "awkwasm: BadInteger 9";
  advice = codes "The file was changed. Compile the script again, or copy the module again.";
}
module_explanation modules.BadOpcode = record {
  meaning = codes "A byte in the module does not begin an instruction. The number is its position.";
  command = codes "printf '\\0asm\\1\\0\\0\\0\\1\\4\\1\\140\\0\\0\\3\\2\\1\\0\\12\\5\\1\\3\\0\\377\\13' | awkwasm exec /dev/stdin";
  shown = codes "awkwasm: BadOpcode 23";
  advice = codes "Compile the script again. If the module is from another compiler, allow only WebAssembly 1.0 and sign extension.";
}
module_explanation modules.Float = record {
  meaning = codes "The module has a floating-point type or instruction. The number is its position.";
  command = codes "printf '\\0asm\\1\\0\\0\\0\\1\\5\\1\\140\\1\\175\\0' | awkwasm exec /dev/stdin";
  shown = codes "awkwasm: Float 13";
  advice = codes "awkwasm runs modules that compute with integers only.";
}
module_explanation modules.BadIndex = record {
  meaning = codes "A function of the module names a type, function, local, global, label, table or memory that does not exist. The number is the index of that function.";
  command = codes "awkwasm exec m.wasm   # m.wasm: (module (func local.get 0 drop))";
  shown = codes "awkwasm: BadIndex 0";
  advice = codes "Report it to the author of the module. What compile writes is always valid.";
}
module_explanation modules.BadType = record {
  meaning = codes "A function of the module does not type-check. The number is its index.";
  command = codes "awkwasm exec m.wasm   # m.wasm: (module (func drop))";
  shown = codes "awkwasm: BadType 0";
  advice = codes "Report it to the author of the module. What compile writes is always valid.";
}
module_explanation modules.BadAlign = record {
  meaning = codes "A load or store in the module has too large an alignment. The number is the index of its function.";
  command = codes "awkwasm exec m.wasm   # m.wasm: (module (memory 1) (func (drop (i32.load align=8 (i32.const 0)))))";
  shown = codes "awkwasm: BadAlign 0";
  advice = codes "Report it to the author of the module. What compile writes is always valid.";
}
module_explanation modules.BadModule = record {
  meaning = codes "Something outside the functions of the module is invalid: an index, a limit, a constant, the start function, or two exports of one name.";
  command = codes "printf '\\0asm\\1\\0\\0\\0\\7\\10\\1\\4main\\0\\0' | awkwasm exec /dev/stdin";
  shown = codes "awkwasm: BadModule";
  advice = codes "Report it to the author of the module. What compile writes is always valid.";
}
module_explanation modules.NoMain = record {
  meaning = codes "The module does not export a function main that takes nothing and returns a 32-bit integer.";
  command = codes "printf '\\0asm\\1\\0\\0\\0' | awkwasm exec /dev/stdin";
  shown = codes "awkwasm: NoMain";
  advice = codes "exec runs what compile wrote. A module from elsewhere needs such a function.";
}
module_explanation modules.BadImport = record {
  meaning = codes "The module imports something that awkwasm does not have, or has with another type. The number is the index of the import, from 0 on.";
  command = codes "awkwasm exec m.wasm   # m.wasm: (module (import \"env\" \"now\" (func)) (func (export \"main\") (result i32) i32.const 0))";
  shown = codes "awkwasm: BadImport 0";
  advice = codes "docs/EMBEDDING.md lists all imports. Those of WASI are not among them.";
}
module_explanation modules.SegmentBounds = record {
  meaning = codes "A segment of the module does not fit into its memory or table.";
  command = codes "awkwasm exec m.wasm   # m.wasm: (module (memory 1) (data (i32.const 65536) \"a\") (func (export \"main\") (result i32) i32.const 0))";
  shown = codes "awkwasm: SegmentBounds";
  advice = codes "Report it to the author of the module: make the memory or table larger, or place the segment lower.";
}

abbrev pub trap_explanation : TrapKind → ExplanationForm
trap_explanation traps.Unreachable = record {
  meaning = codes "The module ran the instruction unreachable.";
  command = codes "awkwasm exec m.wasm   # m.wasm: (module (func (export \"main\") (result i32) unreachable))";
  shown = codes "awkwasm: Unreachable";
  advice = codes "Compiled scripts never trap. Report it to the author of the module.";
}
trap_explanation traps.DivideByZero = record {
  meaning = codes "The module divided an integer by 0.";
  command = codes "awkwasm exec m.wasm   # m.wasm: (module (func (export \"main\") (result i32) (i32.div_s (i32.const 1) (i32.const 0))))";
  shown = codes "awkwasm: DivideByZero";
  advice = codes "Compiled scripts never trap. Report it to the author of the module.";
}
trap_explanation traps.IntegerOverflow = record {
  meaning = codes "A quotient in the module does not fit into its integer type.";
  command = codes "awkwasm exec m.wasm   # m.wasm: (module (func (export \"main\") (result i32) (i32.div_s (i32.const 0x80000000) (i32.const -1))))";
  shown = codes "awkwasm: IntegerOverflow";
  advice = codes "Compiled scripts never trap. Report it to the author of the module.";
}
trap_explanation traps.MemoryBounds = record {
  meaning = codes "A load or store in the module reaches past the end of its memory.";
  command = codes "awkwasm exec m.wasm   # m.wasm: (module (memory 1) (func (export \"main\") (result i32) (i32.load (i32.const 65536))))";
  shown = codes "awkwasm: MemoryBounds";
  advice = codes "Compiled scripts never trap. Report it to the author of the module.";
}
trap_explanation traps.TableBounds = record {
  meaning = codes "An indirect call in the module reaches past the end of its table.";
  command = codes "awkwasm exec m.wasm   # m.wasm: (module (table 1 funcref) (func (export \"main\") (result i32) (call_indirect (result i32) (i32.const 1))))";
  shown = codes "awkwasm: TableBounds";
  advice = codes "Compiled scripts never trap. Report it to the author of the module.";
}
trap_explanation traps.EmptyElement = record {
  meaning = codes "An indirect call in the module meets an element of its table that has no function.";
  command = codes "awkwasm exec m.wasm   # m.wasm: (module (table 1 funcref) (func (export \"main\") (result i32) (call_indirect (result i32) (i32.const 0))))";
  shown = codes "awkwasm: EmptyElement";
  advice = codes "Compiled scripts never trap. Report it to the author of the module.";
}
trap_explanation traps.WrongType = record {
  meaning = codes "An indirect call in the module meets a function of another type.";
  command = codes "awkwasm exec m.wasm   # m.wasm: (module (table funcref (elem $f)) (func $f) (func (export \"main\") (result i32) (call_indirect (result i32) (i32.const 0))))";
  shown = codes "awkwasm: WrongType";
  advice = codes "Compiled scripts never trap. Report it to the author of the module.";
}
trap_explanation traps.BadHandle = record {
  meaning = codes "The module passed the handle of a value, array or iterator that does not exist to a host call, for example one that it had consumed.";
  command = codes "awkwasm exec m.wasm   # m.wasm: (module (import \"awk1\" \"to_num\" (func (param i32) (result i64))) (func (export \"main\") (result i32) (drop (call 0 (i32.const 9))) (i32.const 0)))";
  shown = codes "awkwasm: BadHandle";
  advice = codes "Compiled scripts never trap. Report it to the author of the module. docs/EMBEDDING.md says which handles each call consumes.";
}
trap_explanation traps.BadPointer = record {
  meaning = codes "The module passed an address and a length that do not fit into its memory to a host call.";
  command = codes "awkwasm exec m.wasm   # m.wasm: (module (import \"awk1\" \"lit\" (func (param i32 i32) (result i32))) (memory 1) (func (export \"main\") (result i32) (call 0 (i32.const 65536) (i32.const 1))))";
  shown = codes "awkwasm: BadPointer";
  advice = codes "Compiled scripts never trap. Report it to the author of the module.";
}
trap_explanation traps.BadArgument = record {
  meaning = codes "The module passed another argument that does not fit to a host call, or made the call out of turn.";
  command = codes "awkwasm exec m.wasm   # m.wasm: (module (import \"awk1\" \"fail\" (func (param i32))) (func (export \"main\") (result i32) (call 0 (i32.const 99)) (i32.const 0)))";
  shown = codes "awkwasm: BadArgument";
  advice = codes "Compiled scripts never trap. Report it to the author of the module. docs/EMBEDDING.md says what each call takes.";
}

abbrev pub end_explanation : EndTopic → ExplanationForm
end_explanation ends.OutOfSteps = record {
  meaning = codes "The run took all the steps that --steps allows. What the script printed is the beginning of its output.";
  command = codes "awkwasm run --steps 1000 'BEGIN { while (1) n++ }'";
  shown = codes "awkwasm: OutOfSteps";
  advice = codes "Allow more steps, or look for an endless loop.";
}
end_explanation ends.Exhausted = record {
  meaning = codes "Calls are nested too deeply: a function was called while 9,999 calls were waiting.";
  command = codes "awkwasm run 'function f(n) { return f(n + 1) } BEGIN { f(0) }'";
  shown = codes "awkwasm: Exhausted";
  advice = codes "Look for endless recursion, or use a loop.";
}
end_explanation ends.NoMemory = record {
  meaning = codes "Memory ran out. What the script printed is the beginning of its output.";
  command = codes "(ulimit -v 100000; awkwasm run 'BEGIN { while (1) a[n++] = n }')";
  shown = codes "awkwasm: NoMemory";
  advice = codes "Allow more memory, or keep less: delete elements, and close files.";
}

abbrev pub file_explanation : FileFault → ExplanationForm
file_explanation files.CannotRead = record {
  meaning = codes "The file of the script or module could not be read.";
  command = codes "awkwasm compile nosuch out.wasm";
  shown = codes "awkwasm: CannotRead";
  advice = codes "Check that the name is right and that you may read the file.";
}
file_explanation files.CannotWrite = record {
  meaning = codes "The module could not be written, or the text of imports, explain, check, --help or --version could not be printed.";
  command = codes "echo 'BEGIN { }' | awkwasm compile /dev/stdin /";
  shown = codes "awkwasm: CannotWrite";
  advice = codes "Check that the folder exists, that you may write there, and that the disk has room. compile does not overwrite its script.";
}

abbrev pub status_explanation : StatusTopic → ExplanationForm
status_explanation statuses.Own = record {
  meaning = codes "The script ended by itself: with the status that it gave to exit, or with 0. That may be any status from 0 to 255, and then awkwasm prints no line.";
  command = codes "awkwasm run 'BEGIN { exit 0 }'; echo $?";
  shown = codes "0";
  advice = codes "In your scripts, leave 2 to 8 to awkwasm.";
}
status_explanation statuses.Faulted = record {
  meaning = codes "A runtime error ended the run. Its name is on the standard error.";
  command = codes "awkwasm run 'BEGIN { print 7 / 2 }' 2>/dev/null; echo $?";
  shown = codes "2";
  advice = codes "For more, give that name to awkwasm explain.";
}
status_explanation statuses.Refused = record {
  meaning = codes "The script or module was refused, and nothing ran. The cause is on the standard error.";
  command = codes "awkwasm run 'BEGIN { next }' 2>/dev/null; echo $?";
  shown = codes "3";
  advice = codes "For more, give the name of the cause to awkwasm explain.";
}
status_explanation statuses.OutOfSteps = record {
  meaning = codes "The run took all the steps that --steps allows.";
  command = codes "awkwasm run --steps 9 'BEGIN { while (1) n++ }' 2>/dev/null; echo $?";
  shown = codes "4";
  advice = codes "For more: awkwasm explain OutOfSteps";
}
status_explanation statuses.NoMemory = record {
  meaning = codes "Memory ran out.";
  command = codes "(ulimit -v 100000; awkwasm run 'BEGIN { while (1) a[n++] = n }') 2>/dev/null; echo $?";
  shown = codes "5";
  advice = codes "For more: awkwasm explain NoMemory";
}
status_explanation statuses.Exhausted = record {
  meaning = codes "Calls were nested too deeply.";
  command = codes "awkwasm run 'function f() { f() } BEGIN { f() }' 2>/dev/null; echo $?";
  shown = codes "6";
  advice = codes "For more: awkwasm explain Exhausted";
}
status_explanation statuses.Trapped = record {
  meaning = codes "The module trapped. The kind of trap is on the standard error.";
  command = codes "awkwasm exec m.wasm 2>/dev/null; echo $?   # m.wasm: (module (func (export \"main\") (result i32) unreachable))";
  shown = codes "7";
  advice = codes "For more, give the name of the trap to awkwasm explain.";
}
status_explanation statuses.Line = record {
  meaning = codes "The command line was refused, or a file that it names could not be read or written.";
  command = codes "awkwasm compile nosuch out.wasm 2>/dev/null; echo $?";
  shown = codes "8";
  advice = codes "awkwasm --help shows the commands and options.";
}

abbrev pub explanation : Topic → ExplanationForm
explanation (OfFault fault) = fault_explanation fault
explanation (Script refusal) = script_explanation refusal
explanation (Module refusal) = module_explanation refusal
explanation (Trap kind) = trap_explanation kind
explanation (End end) = end_explanation end
explanation (File fault) = file_explanation fault
explanation (Status status) = status_explanation status
