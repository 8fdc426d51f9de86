-- What takes values, as the code has it.
use Rattle.std.specs.Prelude.{Bool, true, false, Option, Some, None}
use Rattle.std.specs.declared.alloc.Global.{Global}
use Rattle.std.specs.declared.boxed.Box.{Box}
use Rattle.awk_tokens.specs.declared.reserved_words.Builtin.{Builtin}
use Rattle.awk_tokens.specs.declared.reserved_words.Builtin.TheVariants.{Sub, Gsub}
use Rattle.mid_program.specs.Mid as mid
use Rattle.mid_program.specs.Translation as plain
use Rattle.mid_program.specs.ViewCode.{view, view_array}
use Rattle.mid_program.specs.declared.code.Code.{Code}
use Rattle.mid_code.specs.ViewNames.{view_variable}
use Rattle.mid_code.specs.declared.target.Target.{Target}
use Rattle.mid_code.specs.declared.target.Target.TheVariants.{Element, Name, Field}

abbrev pub view_target : Target → plain.Target
view_target (Element a) = plain.ElementTarget (view_array a)
view_target (Name x) = plain.NameTarget (view_variable x)
view_target Field = plain.FieldTarget

-- the function that replaces one match or all
abbrev pub sub_or_gsub : Bool → Builtin
sub_or_gsub false = Sub
sub_or_gsub true = Gsub

-- what is kept for a target, if anything is
abbrev pub view_kept : Option (Box Code Global) → Option mid.Code
view_kept None = None
view_kept (Some kept) = Some (view kept.value)
