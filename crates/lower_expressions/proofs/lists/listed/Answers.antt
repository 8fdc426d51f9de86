use Rattle.std.proofs.Common.{ℕ, ap, sym}
use Rattle.std.proofs.lemmas.List.{length-map}
use Rattle.lower_model.specs.Emission.{listed_asked}
use Rattle.lower_pieces.specs.Forms.{view_form}
use Rattle.lower_pieces.proofs.Appended.{◌⨟◌, same}
use Rattle.lower_expressions.specs.View.{view_layout}
use Rattle.lower_expressions.proofs.lists.listed.Goals as goal

pub returns : goal.returns
returns c = λ k.
    c.listed_asked.ensures k
    ⨟ same (ap (λ (m : ℕ). listed_asked (view_layout c.args.layout.now) c.args.listed m c.args.temporary c.args.exit k) (sym (length-map c.args.forms.now view_form)))
    ⨟ c.all_appended.ensures _ ⨟ c.all_boxed.ensures _
