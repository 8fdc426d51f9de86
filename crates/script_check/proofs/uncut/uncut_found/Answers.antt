use Rattle.std.proofs.Common.{◌≡◌, ◌∙◌, ℕ, Option, Some, None, ap, subst, sym}
use Rattle.script_check.specs.Uncut.{IsLastStop, IsUncut, IsUnfound, StopsAt, at_place, fault_line, line_end, line_start, on_line}
use Rattle.script_check.proofs.uncut.uncut_found.Goals as goal

pub returns-in-Some : goal.returns-in-Some
returns-in-Some c =
    let script = c.args.script.now in
    let fault = c.args.fault in
    let from = c.line_start-from.result in
    let to = c.line_end-to.result in
    let same : from ≡ line_start (fault_line fault) script = c.line_start-from.ensures.value ∙ ap (λ (n : ℕ). line_start n script) c.fault_line.ensures in
    let last : IsLastStop script fault from to c.in-Some.place = subst (StopsAt script fault from to) c.in-Some.is c.in_ok-place.ensures in
    subst (IsUncut script fault) (sym c.stop_found.ensures) (at_place from c.in-Some.place same (subst (λ (n : ℕ). IsLastStop script fault from n c.in-Some.place) c.line_end-to.ensures.value last))

pub returns-in-None : goal.returns-in-None
returns-in-None c =
    let script = c.args.script.now in
    let fault = c.args.fault in
    let from = c.line_start-from.result in
    let to = c.line_end-to.result in
    let same : from ≡ line_start (fault_line fault) script = c.line_start-from.ensures.value ∙ ap (λ (n : ℕ). line_start n script) c.fault_line.ensures in
    let unfound : IsUnfound script fault from to = subst (StopsAt script fault from to) c.in-None.is c.in_ok-place.ensures in
    subst (IsUncut script fault) (sym c.line_found.ensures) (on_line from same (subst (λ (n : ℕ). IsUnfound script fault from n) c.line_end-to.ensures.value unfound))
