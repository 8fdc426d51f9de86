use Rattle.std.proofs.Common.{◌≡◌, ap, sym, ◌∙◌, length, None, List, [], ◌∷◌, ◌++◌}
use Rattle.world_core.specs.Memory.{place}
use Rattle.world_core.proofs.NameLemmas.{place-push, entry_at-push}
use Rattle.world_core.specs.declared.names.NamedFile.{NamedFile}
use Rattle.world_core.proofs.names.place_of.Goals as goal

pub returns-clause-found : goal.returns-clause-found
returns-clause-found c =
    let f : NamedFile = record { name = c.in_ok-name.name; file = c.absent-file.result } in
    let none : place c.args.files.now.items f.name ≡ None
    = ap (place c.args.files.now.items) c.in_ok-name.ensures ∙ ap (λ (files : List NamedFile). place files c.args.name.now) (sym c.as_slice.ensures.value) ∙ sym c.in_default.ensures in
    rw (c.in_ok-push.ensures.items, ap length c.as_slice-at.ensures.value)
    (ap (place (c.args.files.now.items ++ f ∷ [])) (sym c.in_ok-name.ensures) ∙ place-push c.args.files.now.items f none)

pub returns-clause-kept : goal.returns-clause-kept
returns-clause-kept c =
    let f : NamedFile = record { name = c.in_ok-name.name; file = c.absent-file.result } in
    rw c.in_ok-push.ensures.items (entry_at-push c.args.files.now.items f c.absent-file.ensures)
