use Rattle.std.proofs.Common.{ℕ, List, ◌++◌, refl, sym, ap, subst, ◌∙◌}
use Rattle.awk_values.specs.Values.{text_of_value}
use Rattle.sem_primitives.specs.InputMeaning.{getline_file_by, open_or_read, reader_named}
use Rattle.sem_primitives.specs.Records.{record_separator}
use Rattle.host_streams.specs.OpenFiles.{has_room, names_of, readers_in}
use Rattle.host_streams.proofs.Given.{none_still}
use Rattle.host_worlds.specs.Givens.{FileGives}
use Rattle.host_worlds.specs.Keeps.{with_files}
use Rattle.host_worlds.specs.States.{Finding, Over, with_tables}
use Rattle.host_worlds.proofs.Apart.{holds_file, tables_file}
use Rattle.host_worlds.proofs.FileFound.{file_finds, readers_found}
use Rattle.host_worlds.proofs.FileReads.{file_gives_named, room_found, room_is}
use Rattle.host_worlds.proofs.files.next.Goals as goal

pub returns-clause-held : goal.returns-clause-held
returns-clause-held g c =
    holds_file c.args.input.now c.file_next.new.self (g.W.World.kinds c.args.world.now) (g.W.World.kinds c.file_next.new.world) c.requires.held c.file_next.ensures.held c.file_next.ensures.others

pub returns-clause-told : goal.returns-clause-told
returns-clause-told g c = λ tells inner keep value same.
    let old = g.W.World.state c.args.world.now in
    let new = g.W.World.state c.file_next.new.world in
    let now = with_tables c.args.texts.now c.args.input.now (Over old) inner in
    subst (λ x. FileGives (getline_file_by keep value old.outside now) keep c.file_next.result x)
    (tables_file c.args.input.now (g.W.World.kinds c.args.world.now) c.requires.held (g.met.W.World.input c.args.world.now) old new (c.file_next.ensures.places tells) c.args.texts.now c.file_next.new.self inner (ap (λ w. names_of w.items) c.file_next.ensures.writers))
    (file_gives_named keep c.args.name.now value _ now (sym (ap record_separator (c.as_slice.ensures ∙ c.in_ok-rs.ensures ∙ ap text_of_value c.get.ensures))) same old.outside (has_room c.args.input.now.files) c.file_next.result (readers_in c.file_next.new.self.readers.items new)
    (room_is c.args.input.now.files c.args.texts.now c.args.input.now old inner refl) (c.file_next.ensures.told tells))

pub returns-clause-finds : goal.returns-clause-finds
returns-clause-finds g c =
    let old = c.args.input.now in
    let finds = file_finds c.args.name.now _ (g.W.World.kinds c.args.world.now) old.files.readers.items c.file_next.new.self.readers.items
    c.requires.held.files.0 c.file_next.ensures.kept (has_room old.files) c.file_next.result c.file_next.ensures.readers c.file_next.ensures.handed in (
      finds.0,
      λ later outside inner keep value same.
          subst (λ n. FileGives (open_or_read keep n outside (reader_named n (readers_found old.files.readers.items)) (with_tables c.args.texts.now old (Finding (finds.0 ++ later)) inner)) keep c.file_next.result
          (with_tables c.args.texts.now (with_files c.file_next.new.self old) (Finding later) inner)) (sym same)
          (subst (λ (ws : List (List ℕ)). FileGives (open_or_read keep c.args.name.now outside (reader_named c.args.name.now (readers_found old.files.readers.items)) (with_tables c.args.texts.now old (Finding (finds.0 ++ later)) inner)) keep c.file_next.result
          (record (with_tables c.args.texts.now (with_files c.file_next.new.self old) (Finding later) inner) { writers = ws })) (sym (ap (λ w. names_of w.items) c.file_next.ensures.writers))
          (finds.1 later outside (with_tables c.args.texts.now old (Finding later) inner) (ap record_separator (sym (c.as_slice.ensures ∙ c.in_ok-rs.ensures ∙ ap text_of_value c.get.ensures)))
          (room_found c.args.texts.now old later inner) keep)),
    )

pub returns-in_err-rs-clause-gives : goal.returns-in_err-rs-clause-gives
returns-in_err-rs-clause-gives g c = none_still g.W.World.did c.args.world.now
