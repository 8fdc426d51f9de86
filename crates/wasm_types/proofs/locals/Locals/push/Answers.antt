use Rattle.std.proofs.Common.{◌≡◌, ℕ, ◌-◌, ◌++◌, List, ap, sym, subst, ◌∙◌, replicate, arith}
use Rattle.wasm_types.specs.declared.types.ValType.{ValType}
use Rattle.wasm_types.specs.Runs.{Rises, expanded_from, past_all}
use Rattle.wasm_types.proofs.RunLemmas.{expanded_more, rises_more}
use Rattle.wasm_types.proofs.locals.Locals.push.Goals as goal

pub invariant_of-self-2 : goal.invariant_of-self-2
invariant_of-self-2 c =
    let runs = c.self.inside.runs.items in
    let all = c.past_all.ensures ∙ ap (past_all 0) c.deref.ensures.value in
    subst (Rises 0) (sym c.in_ok-push.ensures.items) (rises_more 0 runs (record { end = c.in-Some.end; ty = c.args.ty }) c.self.invariant (omega (arith, all, c.in-Some.ensures, c.if-count-eq0.false)))

pub returns-clause-added : goal.returns-clause-added
returns-clause-added c =
    let runs = c.self.inside.runs.items in
    let all = c.past_all.ensures ∙ ap (past_all 0) c.deref.ensures.value in
    let more : c.in-Some.end - past_all 0 runs ≡ c.args.count = omega (arith, all, c.in-Some.ensures) in
    ap (expanded_from 0) c.in_ok-push.ensures.items
    ∙ (expanded_more 0 runs (record { end = c.in-Some.end; ty = c.args.ty })
    ∙ (ap (λ (n : ℕ). expanded_from 0 runs ++ replicate n c.args.ty) more ∙ ap (λ (ts : List ValType). ts ++ replicate c.args.count c.args.ty) c.self.view_is))
