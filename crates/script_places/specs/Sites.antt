-- Where the frames of a run stand in a script.
use Rattle.std.specs.Prelude.{◌≡◌, ℕ, List, Some, Ok, option_and_then, slice_get}
use Rattle.awk_grammar.specs.Trees.{Item}
use Rattle.awk_parse.specs.Parsing.{IsParsed}
use Rattle.awk_tokens.specs.Cutting.{IsTokens, Spelled}
use Rattle.awk_tree.specs.Lines.{function_names, line_of}
use Rattle.sem_primitives.specs.declared.table.Primitive.TheVariants.{NextMain}
use Rattle.wasm_model.specs.Machines.{Conf, ProgramForm}
use Rattle.wasm_machine.specs.Places.{HasStatement, StandsAt, frame_at}
use Rattle.wasm_machine.specs.declared.places.Place.{Place}
use Rattle.host_imports.specs.Names.{import_number}
use Rattle.host_imports.specs.declared.import.Import.TheVariants.{OfPrimitive}
use Rattle.run_report.specs.declared.whereabouts.CallSite.{CallSite}

-- the import by which the loop over records begins with the next one: outside of all statements, and after those of BEGIN
abbrev pub next_record : ℕ
next_record = import_number (OfPrimitive NextMain)

-- What is told of where a frame stands in a function of the module: the place of the statement at work; the line of this place, in that function,
-- or none where it is at no statement; and the name of the function, if it is one of the script's.
pub record IsSite (tokens : List Spelled) (script : List Item) (program : ProgramForm) (place : Place) (site : CallSite) : Type 0 where
  pub statement : HasStatement program next_record place site.place
  pub line : site.line ≡ option_and_then (line_of tokens script place.function) site.place
  pub name : site.function ≡ slice_get (function_names script) place.function

-- each site is told of the frame of its number, the innermost first, at the place where that stands
abbrev pub AreSites : List Spelled → List Item → ProgramForm → Conf → List CallSite → Type 0
AreSites tokens script program conf sites = (n : ℕ) (site : CallSite) → slice_get sites n ≡ Some site
    → (place : Place) × StandsAt program.whole place (frame_at conf n) × IsSite tokens script program place site

-- this holds of the tokens and the tree of a text
abbrev pub OfSource : List ℕ → (List Spelled → List Item → Type 0) → Type 0
OfSource bytes holds = (tokens : List Spelled) × (script : List Item) × IsTokens bytes (Ok tokens) × IsParsed tokens script × holds tokens script
