-- Why the tokens of a script have no code.
use Rattle.std.proofs.Common.{◌≡◌, List}
use Rattle.awk_tokens.specs.Cutting.{Spelled}
use Rattle.awk_parse.specs.Parsing.{IsParsed, IsRefused}
use Rattle.awk_parse.specs.declared.fault.ParseFault.{ParseFault}
use Rattle.awk_parse.specs.declared.fault.ParseFault.TheVariants.{LeftOut, NotWhole, ConstantRange, Syntax, TooDeep, Misplaced}
use Rattle.awk_parse.specs.declared.fault.ParseFault.TheVariants as parsing
use Rattle.awk_grammar.specs.Trees.{Item}
use Rattle.awk_grammar.specs.Kinds.{refusal}
use Rattle.awk_resolve.specs.ViewResolved.{IsCause}
use Rattle.awk_resolve.specs.declared.fault.ResolveFault.{ResolveFault}
use Rattle.awk_resolve.specs.declared.fault.ResolveFault.TheVariants.{TooMany, DuplicateName, UnknownFunction, ArgCount, KindClash}
use Rattle.awk_resolve.specs.declared.fault.ResolveFault.TheVariants as resolving
use Rattle.script_code.specs.Expressions.{AreFine, HasBad}
use Rattle.script_code.specs.Refusals.{HasNoCode}
use Rattle.run_report.specs.CompileFaults.{of_names, of_tree}
use Rattle.run_report.specs.declared.compile_fault.CompileFault.{CompileFault}
use Rattle.run_report.specs.declared.compile_fault.CompileFault.TheVariants.{TooLarge, Token, Parse, Ere, Resolve, NoMemory}

pub no_script : (tokens : List Spelled) (fault : ParseFault) → IsRefused tokens fault → HasNoCode tokens (of_tree fault)
no_script tokens (LeftOut line feature) r = record { named = λ e. cc; cause = r }
no_script tokens (NotWhole line) r = record { named = λ e. cc; cause = r }
no_script tokens (ConstantRange line) r = record { named = λ e. cc; cause = r }
no_script tokens (Syntax line) r = record { named = λ e. cc; cause = r }
no_script tokens (TooDeep line) r = record { named = λ e. cc; cause = r }
no_script tokens (Misplaced line) r = record { named = λ e. cc; cause = r }
no_script tokens parsing.NoMemory r = tt

pub bad_expression : (tokens : List Spelled) (script : List Item) (fault : CompileFault) → IsParsed tokens script → HasBad tokens fault → HasNoCode tokens fault
bad_expression tokens script TooLarge p r = absurd r
bad_expression tokens script (Token fault) p r = absurd r
bad_expression tokens script (Parse fault) p r = absurd r
bad_expression tokens script (Ere line fault) p r = record { script = script; parsed = p; first = r }
bad_expression tokens script (Resolve fault) p r = absurd r
bad_expression tokens script NoMemory p r = tt

pub bad_name : (tokens : List Spelled) (script : List Item) (fault : ResolveFault) → IsParsed tokens script → AreFine tokens → IsCause fault (refusal script) → HasNoCode tokens (of_names fault)
bad_name tokens script (TooMany f) p a r = record { script = script; parsed = p; expressions = a; named = λ e. cc; cause = r }
bad_name tokens script (DuplicateName x) p a r = record { script = script; parsed = p; expressions = a; named = λ e. cc; cause = r }
bad_name tokens script (UnknownFunction f) p a r = record { script = script; parsed = p; expressions = a; named = λ e. cc; cause = r }
bad_name tokens script (ArgCount f) p a r = record { script = script; parsed = p; expressions = a; named = λ e. cc; cause = r }
bad_name tokens script (KindClash x) p a r = record { script = script; parsed = p; expressions = a; named = λ e. cc; cause = r }
bad_name tokens script resolving.NoMemory p a r = tt
