use Rattle.std.proofs.Common.{ℕ, ◌∷◌, List, [], map, take, get_or, ap, sym, subst, ◌∙◌}
use Rattle.std.specs.Borrow.{Bor}
use Rattle.std.proofs.lemmas.List.{map-append, take_all, take_more}
use Rattle.awk_grammar.specs.Kinds.{Key, Whole}
use Rattle.awk_resolve.specs.View.{view_kind}
use Rattle.awk_resolve.specs.ViewNames.{names}
use Rattle.awk_resolve.specs.ViewUses.{NotesUses}
use Rattle.awk_resolve.proofs.Noted.{uses_both, uses_none}
use Rattle.awk_resolve.proofs.uses.note_specials.Goals as goal

pub loop-name-init : goal.loop-name-init
loop-name-init c = uses_none c.args.uses.now (view_kind c.args.kind)

pub loop-name-preserved : goal.loop-name-preserved
loop-name-preserved c =
    let xs = c.args.specials.now in
    let i = c.loop-name.name-index in
    let d : Bor (List ℕ) = record { ref_ptr = (0, 0); now = [] } in
    let x = get_or xs i d in
    let keys = map Whole (names (take i xs)) in
    let more = ap (λ (ns : List (Bor (List ℕ))). map Whole (names ns)) (take_more xs i d c.loop-name-test.true) ∙ ap (map Whole) (map-append (λ (n : Bor (List ℕ)). n.now) (take i xs) (x ∷ [])) ∙ map-append Whole (names (take i xs)) (x.now ∷ []) in
    subst (λ (ks : List Key). NotesUses c.args.uses.now c.note_use.new.uses (view_kind c.args.kind) ks) (sym more) (uses_both keys (Whole x.now ∷ []) c.loop-name.invariant c.note_use.ensures)

pub returns : goal.returns
returns c =
    subst (λ (ns : List (Bor (List ℕ))). NotesUses c.args.uses.now c.loop-name.uses (view_kind c.args.kind) (map Whole (names ns))) (take_all c.loop-name.name-index c.args.specials.now c.loop-name-test.false) c.loop-name.invariant
