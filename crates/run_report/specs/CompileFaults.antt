-- Why a script has no code, from the faults of its passes.
use Rattle.awk_tokens.specs.declared.token.TokenFault.{TokenFault}
use Rattle.awk_tokens.specs.declared.token.TokenFault.TheVariants as cutting
use Rattle.awk_parse.specs.declared.fault.ParseFault.{ParseFault}
use Rattle.awk_parse.specs.declared.fault.ParseFault.TheVariants as parsing
use Rattle.awk_resolve.specs.declared.fault.ResolveFault.{ResolveFault}
use Rattle.awk_resolve.specs.declared.fault.ResolveFault.TheVariants as resolving
use Rattle.run_report.specs.declared.compile_fault.CompileFault.{CompileFault}
use Rattle.run_report.specs.declared.compile_fault.CompileFault.TheVariants.{Token, Parse, Resolve, NoMemory}

-- a fault of the tokens, of the tree, of the names, as one of the script
abbrev pub of_tokens : TokenFault → CompileFault
of_tokens cutting.NoMemory = NoMemory
of_tokens fault = Token fault

abbrev pub of_tree : ParseFault → CompileFault
of_tree parsing.NoMemory = NoMemory
of_tree fault = Parse fault

abbrev pub of_names : ResolveFault → CompileFault
of_names resolving.NoMemory = NoMemory
of_names fault = Resolve fault
