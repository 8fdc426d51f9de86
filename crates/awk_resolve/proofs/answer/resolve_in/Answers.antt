use Rattle.std.proofs.Common.{◌≡◌, ℕ, List, Option, None, ap, sym, subst, ◌∙◌}
use Rattle.std.specs.Option.{option_map}
use Rattle.awk_grammar.specs.Kinds.{KindClash, Refusal, name_refusal}
use Rattle.awk_resolve.specs.Marked.{is_marked_in}
use Rattle.awk_resolve.specs.View.{view_marks}
use Rattle.awk_resolve.specs.ViewNames.{view_heads, view_variables}
use Rattle.awk_resolve.specs.ViewRefused.{view_maybe_refused}
use Rattle.awk_resolve.specs.ViewResolved.{IsCause}
use Rattle.awk_resolve.proofs.Causes.{by_sets}
use Rattle.awk_resolve.proofs.answer.resolve_in.Goals as goal

pub returns-in-Some-first_clash-clause-refused : goal.returns-in-Some-first_clash-clause-refused
returns-in-Some-first_clash-clause-refused c =
    let hs = view_heads c.args.scopes.now.heads.items in
    let ms = view_marks c.args.marks.now in
    let k = c.in_ok-kinds.kinds in
    let keys = view_variables k.variables.keys in
    let none : name_refusal hs ms ≡ None = sym c.in_ok-refused.ensures ∙ ap view_maybe_refused c.in_default.is in
    subst (λ (r : Option Refusal). IsCause c.fault-in-Some-first_clash.result r)
    (ap (λ (u : Option (List ℕ)). option_map KindClash u) c.in-Some-first_clash.ensures ∙ by_sets (is_marked_in keys k.arrays.items) (is_marked_in keys k.scalars.items) hs ms c.in_ok-kinds.ensures.arrays c.in_ok-kinds.ensures.scalars none)
    c.fault-in-Some-first_clash.ensures

pub returns-clause-fine : goal.returns-clause-fine
returns-clause-fine c =
    let hs = view_heads c.args.scopes.now.heads.items in
    let ms = view_marks c.args.marks.now in
    let k = c.in_ok-kinds.kinds in
    let keys = view_variables k.variables.keys in
    let none : name_refusal hs ms ≡ None = sym c.in_ok-refused.ensures ∙ ap view_maybe_refused c.in_default.is in
    sym (by_sets (is_marked_in keys k.arrays.items) (is_marked_in keys k.scalars.items) hs ms c.in_ok-kinds.ensures.arrays c.in_ok-kinds.ensures.scalars none)
    ∙ ap (λ (u : Option (List ℕ)). option_map KindClash u) (sym c.in_default-first_clash.ensures)
