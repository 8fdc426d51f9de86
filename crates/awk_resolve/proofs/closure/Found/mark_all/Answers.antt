use Rattle.std.proofs.Common.{ℕ, ◌<◌, List, [], ◌∷◌, take, get_or, sym, subst}
use Rattle.std.proofs.lemmas.List.{take_more, take_all}
use Rattle.awk_resolve.specs.ViewFound.{Adds}
use Rattle.awk_resolve.proofs.Waiting.{adds_none, adds_both}
use Rattle.awk_resolve.proofs.closure.Found.mark_all.Goals as goal

pub loop-n-init : goal.loop-n-init
loop-n-init c = adds_none c.args.self.now

pub mark-requires : goal.mark-requires
mark-requires c = subst (λ (k : ℕ). get_or c.args.numbers.now c.loop-n.n-index 0 < k) (sym c.loop-n.invariant.size) (c.requires c.loop-n.n-index 0 c.loop-n-test.true)

pub loop-n-preserved : goal.loop-n-preserved
loop-n-preserved c =
    let xs = c.args.numbers.now in
    let i = c.loop-n.n-index in
    subst (λ (ys : List ℕ). Adds ys c.args.self.now c.mark.new.self) (sym (take_more xs i 0 c.loop-n-test.true)) (adds_both (take i xs) (get_or xs i 0 ∷ []) c.loop-n.invariant c.mark.ensures)

pub returns : goal.returns
returns c = subst (λ (ys : List ℕ). Adds ys c.args.self.now c.loop-n.self) (take_all c.loop-n.n-index c.args.numbers.now c.loop-n-test.false) c.loop-n.invariant
