use Rattle.std.proofs.Common.{◌≡◌, length, ap, sym, ◌∙◌, arith}
use Rattle.awk_resolve.specs.ViewKinds.{view_name_kinds}
use Rattle.sem_scripts.specs.Names.{names_length, or_past}
use Rattle.mid_code.proofs.NameTables.{length_kinds, place_from_is}
use Rattle.mid_code.proofs.names.Names.global.Goals as goal

pub returns-in-Some : goal.returns-in-Some
returns-in-Some c =
    let gs = c.args.self.now.resolved.now.globals.items in
    let ns = view_name_kinds gs in
    let x = c.args.name.now in
    sym (ap (or_past (names_length ns)) (sym (place_from_is ns x) ∙ sym (c.args.self.now.globals_found x) ∙ sym c.in-Some.ensures.value))

pub returns-in-None : goal.returns-in-None
returns-in-None c =
    let gs = c.args.self.now.resolved.now.globals.items in
    let ns = view_name_kinds gs in
    let x = c.args.name.now in
    let n : c.len.result ≡ length gs = omega arith in
    n ∙ sym (length_kinds gs)
    ∙ sym (ap (or_past (names_length ns)) (sym (place_from_is ns x) ∙ sym (c.args.self.now.globals_found x) ∙ sym c.in-None.ensures.value))
