use Rattle.std.proofs.Common.{◌≡◌, Bool, false, not, ◌||◌, refl, ap, sym, ◌∙◌}
use Rattle.std.proofs.lemmas.List.{get_or_read}
use Rattle.std.specs.Result.{is_ok}
use Rattle.awk_resolve.proofs.Waiting.{adds_known, adds_new}
use Rattle.awk_resolve.proofs.closure.Found.mark.Goals as goal
use Rattle.awk_resolve.proofs.closure.Found.mark.Goals.{then-self, else-self}

pub returns-then-index : goal.returns-then-index
returns-then-index c = adds_known c.args.self.now c.args.n (sym (get_or_read c.args.self.now.marked.items _ _ c.requires c.index.ensures false) ∙ c.if-index.true)

pub returns : goal.returns
returns c =
    let put = is_ok c.push.result in
    let refused : c.if-self.self ≡ (c.args.self.now.is_refused || not put) = elim c.if-self.branch [
      | then-self w ↦ w.self-is ∙ w.if-self.true ∙ sym (ap (λ (b : Bool). b || not put) w.if-self.true)
      | else-self w ↦ w.self-is ∙ ap not c.is_ok-is_put.ensures.value ∙ sym (ap (λ (b : Bool). b || not put) w.if-self.false)
    ] in
    adds_new c.args.self.now _ c.args.n put c.requires (sym (get_or_read c.args.self.now.marked.items _ _ c.requires c.index.ensures false) ∙ c.if-index.false) refl c.push.ensures.items refused
