use Rattle.std.proofs.Common.{[], ◌∷◌, Option, subst, rules}
use Rattle.awk_grammar.specs.Kinds.{Key, key_in}
use Rattle.awk_resolve.specs.View.{view_kind, view_place}
use Rattle.awk_resolve.specs.ViewNames.{view_heads, view_maybe_variable}
use Rattle.awk_resolve.specs.ViewUses.{NotesGiven, NotesUses}
use Rattle.awk_resolve.proofs.Noted.{mark_called, mark_computed, mark_defined, mark_given, mark_parameter, mark_used}
use Rattle.awk_resolve.proofs.uses.note.Goals as goal

pub returns-in-Used : goal.returns-in-Used
returns-in-Used c =
    let m = c.in-Used in
    rw m.is (mark_used (view_kind m.kind) (view_place m.place) m.name.now
    (subst (λ (k : Key). NotesUses c.args.uses.now c.note_use.new.uses (view_kind m.kind) (k ∷ [])) c.variable_in.ensures c.note_use.ensures))

pub returns-in-Given : goal.returns-in-Given
returns-in-Given c =
    let m = c.in-Given in
    let old = c.args.uses.now in
    let new = c.note_given.new.uses in
    let key = key_in (view_heads c.args.scopes.now.heads.items) (view_place m.place) m.name.now in
    let parameter = view_maybe_variable c.parameter_at-parameter.result in
    let given : NotesGiven old new key parameter = subst (λ (k : Key). NotesGiven old new k parameter) c.variable_in-in-Given.ensures c.note_given.ensures in
    rw m.is (mark_given m.function.now m.argument (view_place m.place) m.name.now (subst (λ (p : Option Key). NotesGiven old new key p) c.parameter_at-parameter.ensures given))

pub returns-in_default : goal.returns-in_default
returns-in_default c = search (rules, mark_defined, mark_parameter, mark_called, mark_computed)
