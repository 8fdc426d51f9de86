-- What stands in a temporary, as the definitions see it.
use Rattle.mid_program.specs.Mid as plain
use Rattle.lower_pieces.specs.declared.form.Form.{Form}
use Rattle.lower_pieces.specs.declared.form.Form.TheVariants.{PrimitiveAnswer, NumberOrText, OptionalNumber}

abbrev pub view_form : Form → plain.Form
view_form (PrimitiveAnswer given) = plain.PrimitiveAnswer given
view_form NumberOrText = plain.NumberOrText
view_form OptionalNumber = plain.OptionalNumber
