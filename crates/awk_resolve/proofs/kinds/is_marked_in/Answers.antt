use Rattle.std.proofs.Common.{◌≡◌, ◌≤◌, ℕ, false, nat_lt, length, ap, sym, subst, ◌∙◌}
use Rattle.std.specs.List.{position_or_len}
use Rattle.std.proofs.lemmas.Bool.{ltb-false}
use Rattle.std.proofs.lemmas.List.{get_or_past}
use Rattle.awk_resolve.specs.Marked.{is_marked}
use Rattle.awk_resolve.specs.contracts.scopes.VariablePartialEq.TheImpl.{eq-value}
use Rattle.awk_resolve.proofs.Places.{place_is, some_place, none_place}
use Rattle.awk_resolve.proofs.kinds.is_marked_in.Goals as goal

pub returns-in-None : goal.returns-in-None
returns-in-None c =
    let vs = c.args.variables.now.keys in
    let ms = c.args.marked.now in
    let p = position_or_len (eq-value.it c.args.variable) vs in
    let none : nat_lt p (length vs) ≡ false = none_place (nat_lt p (length vs)) p (sym c.get_index_of.ensures.index ∙ c.in-None.is) in
    let past : length ms ≤ p = subst (λ (n : ℕ). n ≤ p) (sym c.requires) (ltb-false p (length vs) none) in
    sym (get_or_past ms p false past) ∙ ap (is_marked ms) (place_is c.args.variable vs)

pub returns-in-Some : goal.returns-in-Some
returns-in-Some c =
    let vs = c.args.variables.now.keys in
    let p = position_or_len (eq-value.it c.args.variable) vs in
    ap (is_marked c.args.marked.now) (sym (some_place (nat_lt p (length vs)) p c.in-Some.number (sym c.get_index_of.ensures.index ∙ c.in-Some.is)) ∙ place_is c.args.variable vs)
