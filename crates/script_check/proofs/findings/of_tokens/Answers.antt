use Rattle.std.proofs.Common.{◌≡◌, ◌++◌, ◌∙◌, List, ap, length, map, subst}
use Rattle.awk_grammar.specs.ViewStmt.{view_script}
use Rattle.awk_parse.specs.Parsing.{IsParsed, IsRefused}
use Rattle.awk_tokens.specs.Cutting.{Spelled}
use Rattle.awk_tokens.specs.Views.{spelled}
use Rattle.script_check.specs.declared.finding.Finding.{Finding}
use Rattle.script_check.specs.Layout.{Layout, layout, numbered}
use Rattle.script_check.specs.Refused.{refused_found}
use Rattle.script_check.specs.Remarks.{view_findings}
use Rattle.script_check.proofs.Whole.{by_refusal, by_tree, laid}
use Rattle.script_check.proofs.findings.of_tokens.Goals as goal

pub returns-in-Ok : goal.returns-in-Ok
returns-in-Ok c =
    let script = c.args.script.now in
    let tokens = c.args.tokens.now in
    let lay : Layout = record { size = length script; tokens = tokens; begins = c.deref.result.now; uses = c.deref-2.result.now } in
    let same : lay ≡ layout script tokens =
    laid script tokens c.deref.result.now c.deref-2.result.now (c.deref.ensures.value ∙ c.in_ok-starts.ensures) (c.deref-2.ensures.value ∙ c.in_ok-told.ensures) in
    let renumbered : map spelled c.deref-3.result.now ≡ numbered tokens = ap (map spelled) (c.deref-3.ensures.value ∙ c.in_ok-numbered.ensures) in
    by_tree script tokens lay (view_script c.in-Ok.script) c.of_tree.result same (subst (λ (ts : List Spelled). IsParsed ts (view_script c.in-Ok.script)) renumbered c.in-Ok.ensures.parsed) c.of_tree.ensures

pub returns : goal.returns
returns c =
    let script = c.args.script.now in
    let tokens = c.args.tokens.now in
    let fault = c.in-Err.fault in
    let lay : Layout = record { size = length script; tokens = tokens; begins = c.deref.result.now; uses = c.deref-2.result.now } in
    let same : lay ≡ layout script tokens =
    laid script tokens c.deref.result.now c.deref-2.result.now (c.deref.ensures.value ∙ c.in_ok-starts.ensures) (c.deref-2.ensures.value ∙ c.in_ok-told.ensures) in
    let renumbered : map spelled c.deref-3.result.now ≡ numbered tokens = ap (map spelled) (c.deref-3.ensures.value ∙ c.in_ok-numbered.ensures) in
    let said = c.in_ok-push_refused-in-Err.ensures in
    by_refusal script tokens lay fault (view_findings c.push_refused.new.out.items) same said.memory (subst (λ (ts : List Spelled). IsRefused ts fault) renumbered c.in-Err.ensures.refused)
    (said.refused ∙ ap (λ (fs : List Finding). view_findings fs ++ refused_found lay fault) c.new-out.ensures.items)
