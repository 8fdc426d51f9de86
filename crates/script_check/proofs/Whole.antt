-- All that is found, from what its parts say.
use Rattle.std.proofs.Common.{◌≡◌, ◌≢◌, ◌++◌, ◌∷◌, ◌∙◌, ℕ, List, [], Result, Ok, Err, ap, length, map, subst, sym}
use Rattle.std.specs.Prelude.{IfOk}
use Rattle.std.specs.Global.{Vec}
use Rattle.std.specs.declared.alloc.AllocError.{AllocError}
use Rattle.awk_grammar.specs.Trees.{Item}
use Rattle.awk_parse.specs.Parsing.{IsParsed, IsRefused}
use Rattle.awk_parse.specs.declared.fault.ParseFault.{ParseFault}
use Rattle.awk_parse.specs.declared.fault.ParseFault.TheVariants as parsing
use Rattle.awk_tokens.specs.Cutting.{IsTokens}
use Rattle.awk_tokens.specs.Views.{spelled}
use Rattle.awk_tokens.specs.declared.token.Token.{Token}
use Rattle.awk_tokens.specs.declared.token.TokenFault.{TokenFault}
use Rattle.script_check.specs.declared.finding.Finding.{Finding}
use Rattle.script_check.specs.Findings.{AreFound, AreOfTree, of_tree, refused, uncut}
use Rattle.script_check.specs.Layout.{Layout, layout, numbered}
use Rattle.script_check.specs.Places as places
use Rattle.script_check.specs.Refused.{refused_found}
use Rattle.script_check.specs.Remarks.{Found, view_finding, view_findings}
use Rattle.script_check.specs.Uncut.{IsUncut}

pub by_stop : (script : List ℕ) (fault : TokenFault) (found : Finding) (before after : List Finding) → before ≡ [] → after ≡ before ++ found ∷ [] → IsUncut script fault (view_finding found) → IsTokens script (Err fault) → AreFound script (view_findings after)
by_stop script fault found before after none more stop cut =
    subst (λ (fs : List Finding). AreFound script (view_findings fs)) (sym (more ∙ ap (λ (fs : List Finding). fs ++ found ∷ []) none)) (uncut fault (view_finding found) cut stop)

pub laid : (script : List ℕ) (tokens : List Token) (begins uses : List ℕ) → begins ≡ places.starts script tokens (length tokens) → uses ≡ places.told tokens (length tokens) → record { size = length script; tokens = tokens; begins = begins; uses = uses } ≡ layout script tokens
laid script tokens begins uses b u =
    let at_begins = λ (bs : List ℕ). let lay : Layout = record { size = length script; tokens = tokens; begins = bs; uses = uses } in lay in
    let at_uses = λ (us : List ℕ). let lay : Layout = record { size = length script; tokens = tokens; begins = places.starts script tokens (length tokens); uses = us } in lay in
    ap at_begins b ∙ ap at_uses u

pub by_tree : (script : List ℕ) (tokens : List Token) (lay : Layout) (items : List Item) (r : Result (Vec Finding) AllocError) → lay ≡ layout script tokens → IsParsed (numbered tokens) items → IfOk r (λ v. AreOfTree lay items (view_findings v.items)) → IsTokens script (Ok (map spelled tokens)) → IfOk r (λ v. AreFound script (view_findings v.items))
by_tree script tokens lay items (Ok v) same parsed found cut =
    of_tree tokens items (view_findings v.items) cut parsed (subst (λ (l : Layout). AreOfTree l items (view_findings v.items)) same found)
by_tree script tokens lay items (Err e) same parsed found cut = tt

pub by_refusal : (script : List ℕ) (tokens : List Token) (lay : Layout) (fault : ParseFault) (found : List Found) → lay ≡ layout script tokens → fault ≢ parsing.NoMemory → IsRefused (numbered tokens) fault → found ≡ refused_found lay fault → IsTokens script (Ok (map spelled tokens)) → AreFound script found
by_refusal script tokens lay fault found same some why is cut =
    subst (AreFound script) (ap (λ (l : Layout). refused_found l fault) (sym same) ∙ sym is) (refused tokens fault cut some why)
