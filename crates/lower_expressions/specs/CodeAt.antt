-- Code at a place of a function: which can be emitted there, and what is emitted.
use Rattle.std.specs.Prelude.{Bool, ◌⊎◌}
use Rattle.wasm_types.specs.Syntax.{Instructions}
use Rattle.mid_program.specs.Mid.{Code, Codes}
use Rattle.lower_model.specs.Emission.{all_emitted, emitted}
use Rattle.lower_pieces.specs.Emits.{Reads}
use Rattle.lower_pieces.specs.declared.emitted.Emitted.{Emitted}
use Rattle.lower_expressions.specs.Fits.{AllFit, Fits}
use Rattle.lower_expressions.specs.Keeping.{Keeping}
use Rattle.lower_expressions.specs.View.{view_layout}
use Rattle.lower_expressions.specs.declared.at.At.{At}
use Rattle.lower_expressions.specs.declared.function_layout.FunctionLayout.{FunctionLayout}

abbrev pub FitsAt : FunctionLayout → Code → At → Type 0
FitsAt layout code at = Fits (view_layout layout) code at.temporary at.arrays at.exit

abbrev pub AllFitAt : FunctionLayout → Codes → At → Type 0
AllFitAt layout codes at = AllFit (view_layout layout) codes at.temporary at.arrays at.exit

abbrev pub emitted_at : FunctionLayout → (valued : Bool) → Keeping → Code → At → Instructions → Instructions
emitted_at layout valued kept code at = emitted (view_layout layout) valued kept.forms kept.temporaries code at.temporary at.arrays at.exit

abbrev pub all_emitted_at : FunctionLayout → Keeping → Codes → At → Instructions → Instructions
all_emitted_at layout kept codes at = all_emitted (view_layout layout) kept.forms kept.temporaries codes at.temporary at.arrays at.exit

-- nothing is promised any more of what was emitted
abbrev pub Refused : Emitted → Type 0
Refused out = (rest whole : Instructions) → Reads out rest whole

-- this holds, unless memory ran out
abbrev pub Unrefused : Emitted → Type 0 → Type 0
Unrefused out Told = Refused out ⊎ Told
