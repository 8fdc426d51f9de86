use Rattle.std.proofs.Common.{not, ap, sym, ◌∙◌}
use Rattle.awk_grammar.specs.Kinds.{has_name, specials}
use Rattle.awk_resolve.specs.ViewNames.{names}
use Rattle.awk_resolve.proofs.Names.{not_added, names_any}
use Rattle.awk_resolve.proofs.refusals.note_function.Goals as goal

pub returns-in-Ok-clause-taken : goal.returns-in-Ok-clause-taken
returns-in-Ok-clause-taken c =
    λ fine. (
      fine,
      not_added c.in-Ok.added (has_name specials c.args.name.now) (has_name (names c.args.seen.now.functions.keys) c.args.name.now)
          (c.in-Ok.ensures.added ∙ ap not (names_any c.args.name c.args.seen.now.functions.keys)) (sym c.is_special.ensures ∙ c.if-is_special.false),
    )
