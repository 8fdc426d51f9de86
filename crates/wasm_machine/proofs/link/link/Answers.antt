use Rattle.std.proofs.Common.{◌≡◌, ◌∙◌, List, Option, Some, ℕ, map, ap, sym, subst}
use Rattle.std.proofs.lemmas.Simd.{map-map}
use Rattle.wasm_types.specs.declared.module.Import.{Import}
use Rattle.wasm_types.specs.View.{view_import, view_module}
use Rattle.wasm_model.specs.Links.{first_none, main_of, number_for, numbers_for}
use Rattle.wasm_model.specs.LinkAnswers.{NumberRefused}
use Rattle.wasm_model.proofs.Beginning.{none_missing, refused_by}
use Rattle.wasm_machine.proofs.link.link.Goals as goal

pub returns-then-not-segments_fit-clause-refused : goal.returns-then-not-segments_fit-clause-refused
returns-then-not-segments_fit-clause-refused g c =
    let F = g.H.HostCalls.finds in
    let m = view_module c.args.whole.now in
    let found : main_of m ≡ Some c.in-Some.main = sym c.main_of.ensures ∙ c.in-Some.is in
    let all : numbers_for F m ≡ map Some c.in-Ok.numbers.items =
    map-map (number_for F m) view_import c.args.whole.now.imports.items ∙ (ap (λ (is : List Import). map (λ x. number_for F m (view_import x)) is) (sym c.deref.ensures.value) ∙ c.in-Ok.ensures) in
    ((λ e. cc), ap (λ (os : List (Option ℕ)). first_none os) all ∙ none_missing c.in-Ok.numbers.items, λ fit. let t = c.segments_fit.ensures.1 fit in let f = c.if-not-segments_fit.true in cc)

pub returns-in-Err-clause-refused : goal.returns-in-Err-clause-refused
returns-in-Err-clause-refused g c =
    let F = g.H.HostCalls.finds in
    let m = view_module c.args.whole.now in
    let found : main_of m ≡ Some c.in-Some.main = sym c.main_of.ensures ∙ c.in-Some.is in
    let same : map (λ x. number_for F m (view_import x)) c.deref.result.now ≡ numbers_for F m =
    ap (λ (is : List Import). map (λ x. number_for F m (view_import x)) is) c.deref.ensures.value ∙ sym (map-map (number_for F m) view_import c.args.whole.now.imports.items) in
    refused_by F m c.in-Err.fault (λ e. cc) (subst (λ (os : List (Option ℕ)). NumberRefused os c.in-Err.fault) same c.in-Err.ensures)

pub returns-else-not-segments_fit-clause-ok : goal.returns-else-not-segments_fit-clause-ok
returns-else-not-segments_fit-clause-ok g c =
    let F = g.H.HostCalls.finds in
    let m = view_module c.args.whole.now in (
      sym c.main_of.ensures ∙ c.in-Some.is,
      map-map (number_for F m) view_import c.args.whole.now.imports.items ∙ (ap (λ (is : List Import). map (λ x. number_for F m (view_import x)) is) (sym c.deref.ensures.value) ∙ c.in-Ok.ensures),
      c.segments_fit.ensures.0 c.if-not-segments_fit.false,
    )
