use Rattle.std.proofs.Common.{◌<◌, ℕ, Some, ap, sym, subst, ◌∙◌}
use Rattle.std.proofs.lemmas.List.{length-map}
use Rattle.awk_grammar.specs.ViewStmt.{view_names}
use Rattle.awk_grammar.specs.Kinds.{Head as PlainHead}
use Rattle.awk_resolve.specs.ViewNames.{head_names, view_head, view_heads}
use Rattle.awk_resolve.specs.declared.scopes.Head.{Head}
use Rattle.awk_resolve.proofs.Tables.{no_parameters, parameters_at, place_small}
use Rattle.awk_resolve.proofs.scopes.Scopes.parameters_of.Goals as goal

pub index-requires : goal.index-requires
index-requires c =
    let scopes = c.args.self.now in
    let hs = view_heads scopes.heads.items in
    let small = place_small (head_names hs) c.args.function.now c.in-Some.place (sym (scopes.functions_found c.args.function.now) ∙ sym c.place_at.ensures ∙ c.in-Some.is) in
    subst (λ (n : ℕ). c.in-Some.place < n) (length-map hs (λ (h : PlainHead). h.name) ∙ length-map scopes.heads.items view_head ∙ sym scopes.heads.ok.0) small

pub returns-in-Some : goal.returns-in-Some
returns-in-Some c =
    let scopes = c.args.self.now in
    ap (λ (h : Head). Some (view_names h.parameters.now)) c.index.ensures
    ∙ sym (parameters_at scopes.heads.items c.args.function.now c.in-Some.place c.index.result.now (sym (scopes.functions_found c.args.function.now) ∙ sym c.place_at.ensures ∙ c.in-Some.is))

pub returns-in-None : goal.returns-in-None
returns-in-None c =
    let scopes = c.args.self.now in
    sym (no_parameters scopes.heads.items c.args.function.now (sym (scopes.functions_found c.args.function.now) ∙ sym c.place_at.ensures ∙ c.in-None.is))
