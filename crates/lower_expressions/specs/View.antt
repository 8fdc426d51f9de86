-- What code is emitted for, as the definitions see it.
use Rattle.mid_program.specs.View.{view_mid}
use Rattle.lower_model.specs.Emission as plain
use Rattle.lower_model.specs.Functions.{layout_of}
use Rattle.lower_expressions.specs.declared.immediates.Immediate.{Immediate}
use Rattle.lower_expressions.specs.declared.immediates.Immediate.TheVariants.{Field, Text, Number}
use Rattle.lower_expressions.specs.declared.function_layout.FunctionLayout.{FunctionLayout}

abbrev pub view_layout : FunctionLayout → plain.Layout
view_layout layout = layout_of (view_mid layout.script.now.program.now) layout.bases.now

abbrev pub view_immediate : Immediate → plain.Immediate
view_immediate (Field number) = plain.FieldOf number
view_immediate (Text text) = plain.TextOf text
view_immediate (Number number) = plain.NumberOf number
