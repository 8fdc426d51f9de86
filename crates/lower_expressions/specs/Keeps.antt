-- What is kept while calls wait.
use Rattle.lower_pieces.specs.Forms.{view_form}
use Rattle.lower_expressions.specs.Keeping.{Keeping, kept_more}
use Rattle.lower_expressions.specs.declared.kept.Keeps.{Keeps}
use Rattle.lower_expressions.specs.declared.kept.Keeps.TheVariants.{Before, Last'}

-- what the last call keeps comes first
abbrev pub keeping_in : Keeps → Keeping
keeping_in (Before kept) = kept.now
keeping_in (Last' entry p before) = kept_more (view_form entry.form) entry.temporary (keeping_in before)
