-- What stands at a counted place of a compiled script is the code of the spot of the same number, whose line is the place's.
use Rattle.std.proofs.Common.{◌≡◌, ℕ, List, Option, Some, None, Ok, map, refl, sym, ap, ◌∙◌, subst}
use Rattle.std.specs.Prelude.{option_map, slice_get}
use Rattle.std.proofs.lemmas.Option.{slice_get-map}
use Rattle.awk_grammar.specs.Trees.{Item}
use Rattle.awk_parse.specs.Parsing.{IsParsed}
use Rattle.awk_tokens.specs.Cutting.{IsTokens, Spelled}
use Rattle.module_decoder.proofs.CompleteModule.{one_module}
use Rattle.sem_scripts.specs.Kinds.{resolved}
use Rattle.wasm_machine.specs.Places.{StandsAt}
use Rattle.wasm_machine.specs.declared.places.Place.{Place}
use Rattle.wasm_model.specs.Frames.{FrameForm}
use Rattle.wasm_types.specs.ModuleGrammar.{IsModule}
use Rattle.wasm_types.specs.Syntax.{FuncForm, Instructions, ModuleForm}
use Rattle.lower_model.specs.Modules.{module_of}
use Rattle.agreement.specs.Places.Statements.{starts_in}
use Rattle.agreement.specs.Spots.InOrder.{Spot, spots_in}
use Rattle.agreement.specs.Spots.Places.{final_program}
use Rattle.agreement.specs.Spots.Probed.{module_place}
use Rattle.agreement.proofs.SpotsLemmas.InOrder.{module_so}
use Rattle.script_compiler.specs.Compiled.{IsCompiled}
use Rattle.script_places.specs.Passes.{nops_of}
use Rattle.run_modules.specs.SpotPlaces.{IsOfSpot}
use Rattle.run_modules.proofs.StandingPlaces.{stands_at_place}
use Rattle.awk_run.proofs.Sound.{same_script, same_tokens}
use Rattle.run_modules.proofs.SpotLines.{line_is_spots}

-- the spot that a place has
spot_at : (place : Spot → Instructions) (found : Option Spot) (code : Instructions) → option_map place found ≡ Some code
    → (spot : Spot) × (found ≡ Some spot) × (code ≡ place spot)
spot_at place None code e = let no : None ≡ Some code = e in absurd cc
spot_at place (Some spot) code e = let same : place spot ≡ code = cc in (spot, refl, sym same)

of_module : (tokens : List Spelled) (script : List Item) (whole : ModuleForm) → IsParsed tokens script → whole ≡ module_of (final_program (resolved script))
    → (place : Place) (frame : FrameForm) (func : FuncForm) (k : ℕ) → StandsAt whole place (Some frame) → slice_get whole.funcs place.function ≡ Some func
    → slice_get (nops_of func) k ≡ Some place.at → IsOfSpot tokens script place.function k frame.code
of_module tokens script whole parsed is place frame func k stands there at =
    let code = λ (spot : Spot). module_place (resolved script) spot.0 spot.1 in
    let spots = spots_in script place.function in
    let begins : starts_in func.body ≡ map code spots = module_so script place.function func (ap (λ (m : ModuleForm). slice_get m.funcs place.function) (sym is)
    ∙ there) in
    let passed : slice_get (map code spots) k ≡ Some frame.code =
    ap (λ (cs : List Instructions). slice_get cs k) (sym begins) ∙ stands_at_place whole place frame func k stands there at in
    let found = spot_at code (slice_get spots k) frame.code (sym (slice_get-map code spots k) ∙ passed) in
    record {
      home = found.0.0;
      spot = found.0.1;
      among = found.1;
      code_is = found.2;
      line = line_is_spots tokens script parsed.read.tree place.function k found.0.0 found.0.1 found.1;
    }

-- whichever module the compiled bytes are, and whichever script the text is
pub counted_spots : (bytes compiled : List ℕ) → IsCompiled bytes compiled → (tokens : List Spelled) (script : List Item) (whole : ModuleForm)
    → IsTokens bytes (Ok tokens) → IsParsed tokens script → IsModule compiled whole
    → (place : Place) (frame : FrameForm) (func : FuncForm) (k : ℕ) → StandsAt whole place (Some frame) → slice_get whole.funcs place.function ≡ Some func
    → slice_get (nops_of func) k ≡ Some place.at → IsOfSpot tokens script place.function k frame.code
counted_spots bytes compiled c tokens script whole cut parsed spelled =
    let same = same_tokens bytes c.tokens tokens c.cut cut in
    let is = same_script tokens c.script script (subst (λ (ts : List Spelled). IsParsed ts c.script) same c.sound.parsed) parsed in
    of_module tokens script whole parsed
    (one_module compiled whole c.whole spelled c.spelled ∙ c.whole_is ∙ ap module_of c.code_is
    ∙ ap (λ (s : List Item). module_of (final_program (resolved s))) is)
