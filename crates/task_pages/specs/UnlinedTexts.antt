-- What is told of where a module without lines was: a line that begins with two spaces.
use Rattle.std.specs.Prelude.{ℕ, List, ◌++◌, Option, Some, None, codes, decimal}

-- of a module without lines: the number of the function at work, if one was
abbrev pub unlined_text : Option ℕ → List ℕ
unlined_text (Some n) = codes "  in function " ++ (decimal n ++ codes " of the module, which has no lines: awkwasm compile --lines writes them\n")
unlined_text None = codes "  the module has no lines: awkwasm compile --lines writes them\n"
