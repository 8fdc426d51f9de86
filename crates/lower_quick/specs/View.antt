-- The shapes that are found, as the definitions see them.
use Rattle.std.specs.Prelude.{pos}
use Rattle.awk_text.specs.Number.{largest}
use Rattle.lower_model.specs.Appends as appends
use Rattle.lower_model.specs.Quick as plain
use Rattle.mid_program.specs.ViewCode.{view, view_array}
use Rattle.lower_quick.specs.declared.addition.Addition.{Addition}
use Rattle.lower_quick.specs.declared.append.Append.{Append}
use Rattle.lower_quick.specs.declared.counted.Counted.{Counted}
use Rattle.lower_quick.specs.declared.source.Holder.{Holder}
use Rattle.lower_quick.specs.declared.source.Holder.TheVariants as holder
use Rattle.lower_quick.specs.declared.source.Source.{Source}
use Rattle.lower_quick.specs.declared.source.Source.TheVariants.{Held, Constant}
use Rattle.lower_quick.specs.declared.remainder.Multiple.{Multiple}
use Rattle.lower_quick.specs.declared.remainder.Remainder.{Remainder}
use Rattle.lower_quick.specs.declared.sum.Sum.{Sum}
use Rattle.lower_quick.specs.declared.pair.Pair.{Pair}
use Rattle.lower_quick.specs.declared.tally.Tally.{Tally}
use Rattle.lower_quick.specs.declared.update.Update.{Update}
use Rattle.lower_quick.specs.declared.within.Within.{Within}

abbrev pub view_holder : Holder → plain.Holder
view_holder (holder.Name name) = plain.OfName name
view_holder (holder.Parameter place) = plain.OfParameter place

abbrev pub view_source : Source → plain.Source
view_source (Held name) = plain.Held (view_holder name)
view_source (Constant number) = plain.Constant number

abbrev pub view_addition : Addition → plain.Addition
view_addition addition = record { op = addition.op; left = view_source addition.left; right = view_source addition.right }

abbrev pub view_sum : Sum → plain.Sum
view_sum sum = record { target = view_holder sum.target; op = sum.op; left = view_source sum.left; right = view_source sum.right }

abbrev pub view_pair : Pair → plain.Pair
view_pair pair = record { op = pair.op; left = view_source pair.left; right = view_source pair.right }

-- numbers from -2^53 on
abbrev pub view_within : Within → plain.Within
view_within within = record { name = view_holder within.name; shift = pos largest; width = within.width }

abbrev pub view_counted : Counted → plain.Counted
view_counted counted = record { op = counted.op; name = view_holder counted.name }

abbrev pub view_update : Update → plain.Update
view_update update = record { target = view_holder update.target; op = update.op; name = view_holder update.name; added = view update.added.now }

abbrev pub view_tally : Tally → plain.Tally
view_tally tally =
    record { read = view_array tally.read; written = view_array tally.written; key = view tally.key.now; op = tally.op; added = view tally.added.now }

abbrev pub view_multiple : Multiple → plain.Multiple
view_multiple multiple = record { name = view_holder multiple.name; factor = multiple.factor }

abbrev pub view_remainder : Remainder → plain.Remainder
view_remainder remainder = record { target = view_holder remainder.target; multiple = view_multiple remainder.multiple; divisor = remainder.divisor }

abbrev pub view_append : Append → appends.Append
view_append append = record { target = append.target; chain = view append.chain.now }
