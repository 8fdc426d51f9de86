use Rattle.std.proofs.Common.{ℕ, List, get_or, length, ap, ◌∙◌, arith}
use Rattle.awk_resolve.specs.ViewKinds.{view_name_kinds}
use Rattle.mid_code.specs.ViewNames.{array_numbers}
use Rattle.mid_code.proofs.NameTables.{number_of_array, numbers_length, place_within}
use Rattle.mid_code.proofs.names.Names.array.Goals as goal

pub index-requires : goal.index-requires
index-requires c =
    let ns = view_name_kinds c.args.self.now.resolved.now.globals.items in
    let a = place_within ns c.args.name.now in
    let b = numbers_length 2 ns in
    let e = ap length c.args.self.now.numbers_found in
    omega arith

pub returns : goal.returns
returns c =
    let ns = view_name_kinds c.args.self.now.resolved.now.globals.items in
    let d = c.index.result.now in
    c.index.ensures
    ∙ ap (λ (xs : List ℕ). get_or xs c.global.result d) c.args.self.now.numbers_found
    ∙ ap (λ (i : ℕ). get_or (array_numbers 2 ns) i d) c.global.ensures
    ∙ number_of_array 2 ns c.args.name.now d
