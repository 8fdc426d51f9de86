use Rattle.std.proofs.Common.{List, subst}
use Rattle.awk_resolve.specs.ViewVariables.{distinct_parameters, AreKeys}
use Rattle.awk_resolve.specs.ViewNames.{names, view_heads}
use Rattle.awk_resolve.specs.declared.scopes.Head.{Head}
use Rattle.awk_resolve.proofs.Noted.{begun, first_marks}
use Rattle.awk_resolve.proofs.uses.first_uses.Goals as goal

pub returns : goal.returns
returns c =
    let hs = view_heads c.args.scopes.now.heads.items in
    let keys = subst (λ (us : List Head). AreKeys c.of_parameters.result (distinct_parameters (view_heads us))) c.deref.ensures.value c.of_parameters.ensures in
    first_marks hs (names c.special_arrays.result) (names c.special_scalars.result) c.special_arrays.ensures c.special_scalars.ensures
    (begun hs _ keys c.new.ensures.items c.new-2.ensures.items c.new-3.ensures.items) c.note_specials.ensures c.note_specials-2.ensures
