use Rattle.std.proofs.Common.{◌≡◌, ap, sym, ◌∙◌, cond, set}
use Rattle.world_core.specs.Memory.{entry_of, entry_at}
use Rattle.world_core.proofs.NameLemmas.{name_itself, entry_at-place, entry_at-write}
use Rattle.world_core.specs.declared.names.NamedFile.{NamedFile}
use Rattle.world_core.proofs.names.write_named.Goals as goal

pub returns-clause-entry : goal.returns-clause-entry
returns-clause-entry c =
    let g = c.index_mut-named.result.now in
    let now : entry_at (set c.place_of.new.files.items c.in_ok-at.at (record { name = g.name; file = c.write_file.new.file })) c.args.name.now ≡ entry_of c.write_file.new.file
    = entry_at-write c.place_of.new.files.items c.args.name.now c.in_ok-at.at g c.write_file.new.file c.in_ok-at.ensures.found c.index_mut-named.ensures.value c.args.name.now
    ∙ ap (λ b. cond b (entry_of c.write_file.new.file) (entry_at c.place_of.new.files.items c.args.name.now)) (name_itself c.args.name.now) in
    let was : entry_at c.args.files.now.items c.args.name.now ≡ entry_of g.file
    = sym (c.in_ok-at.ensures.kept c.args.name.now) ∙ entry_at-place c.place_of.new.files.items c.args.name.now c.in_ok-at.at g c.in_ok-at.ensures.found
    ∙ ap (λ (f : NamedFile). entry_of f.file) (sym c.index_mut-named.ensures.value) in
    rw (now, was) c.write_file.ensures

pub returns-clause-others : goal.returns-clause-others
returns-clause-others c = λ other differs.
    entry_at-write c.place_of.new.files.items c.args.name.now c.in_ok-at.at c.index_mut-named.result.now c.write_file.new.file c.in_ok-at.ensures.found c.index_mut-named.ensures.value other
    ∙ ap (λ b. cond b (entry_of c.write_file.new.file) (entry_at c.place_of.new.files.items other)) differs
    ∙ c.in_ok-at.ensures.kept other
