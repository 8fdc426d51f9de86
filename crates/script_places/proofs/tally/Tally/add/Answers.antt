use Rattle.std.proofs.Common.{◌∙◌, ◌++◌, ◌∷◌, [], List, ℕ, ap, subst, sym}
use Rattle.std.proofs.lemmas.List.{map-append}
use Rattle.std.specs.declared.vec.Vec.{Vec}
use Rattle.std.specs.declared.alloc.Global.{Global}
use Rattle.script_places.specs.Tallies.{AreTallied, rows_of}
use Rattle.script_places.proofs.Tallying.{one_row_more}
use Rattle.script_places.proofs.tally.Tally.add.Goals as goal

pub returns-clause-rows : goal.returns-clause-rows
returns-clause-rows c = λ are.
    let old = c.args.self.now.rows.items in
    let made = c.in_ok-row.ensures.items_if_clones_equal (λ y e. e) in
    let items = ap rows_of c.in_ok-push-2.ensures ∙ (map-append (λ (v : Vec ℕ Global). v.items) old (c.in_ok-row.row ∷ []) ∙ ap (λ (ns : List ℕ). rows_of old ++ ns ∷ []) made) in
    subst (AreTallied []) (sym items) (one_row_more (rows_of old) c.in_ok-nops.nops.at are)
