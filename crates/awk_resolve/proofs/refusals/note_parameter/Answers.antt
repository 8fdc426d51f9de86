use Rattle.std.proofs.Common.{Bool, not, ◌||◌, ap, sym, ◌∙◌}
use Rattle.std.specs.List.{list_any}
use Rattle.awk_grammar.specs.Kinds.{Inside, same_key, has_name, is_function, specials}
use Rattle.awk_resolve.specs.ViewNames.{view_heads, view_variables}
use Rattle.awk_resolve.specs.declared.scopes.Variable.TheVariants.{Inside as InsideVariable}
use Rattle.awk_resolve.proofs.Names.{not_added, any_is}
use Rattle.awk_resolve.proofs.refusals.note_parameter.Goals as goal

pub returns-in-Ok-clause-taken : goal.returns-in-Ok-clause-taken
returns-in-Ok-clause-taken c =
    let s = has_name specials c.args.name.now in
    let f = is_function (view_heads c.args.scopes.now.heads.items) c.args.name.now in
    let t = list_any (same_key (Inside c.args.function.now c.args.name.now)) (view_variables c.args.seen.now.parameters.keys) in
    λ fine. (
      fine,
      not_added c.in-Ok.added f t
          (c.in-Ok.ensures.added ∙ ap not (any_is (InsideVariable c.args.function c.args.name) c.args.seen.now.parameters.keys)) (sym c.is_function.ensures ∙ c.if-is_function.false)
          ∙ sym (ap (λ (b : Bool). b || (f || t)) (sym c.is_special.ensures ∙ c.if-is_special.false)),
    )
