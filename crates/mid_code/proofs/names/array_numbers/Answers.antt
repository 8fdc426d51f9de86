use Rattle.std.proofs.Common.{◌+◌, ℕ, List, ◌∷◌, ◌++◌, [], drop, ap, sym, ◌∙◌, arith}
use Rattle.std.proofs.lemmas.List.{append_assoc, drop_all}
use Rattle.awk_resolve.specs.ViewKinds.{view_name_kinds}
use Rattle.awk_resolve.specs.declared.function_names.NameKind.{NameKind}
use Rattle.mid_code.specs.ViewNames.{array_numbers}
use Rattle.mid_code.proofs.NameTables.{drop_any, next_number, next_within}
use Rattle.mid_code.proofs.names.array_numbers.Goals as goal

pub loop-name-preserved : goal.loop-name-preserved
loop-name-preserved c =
    let names = c.args.names.now in
    let i = c.loop-name.name-index in
    let n = c.loop-name.next in
    let old = c.loop-name.numbers.items in
    let left = view_name_kinds (drop (i + 1) names) in
    let rest = array_numbers (n + c.from-next.result) left in
    record {
      numbers =
          ap (λ (xs : List ℕ). xs ++ rest) c.in_ok-push.ensures.items ∙ append_assoc old (n ∷ []) rest
          ∙ ap (λ (xs : List ℕ). old ++ xs)
          (ap (λ (m : ℕ). n ∷ array_numbers m left) (next_number n _ _ c.from-next.ensures)
          ∙ sym (ap (λ (ns : List NameKind). array_numbers n (view_name_kinds ns)) (drop_any names i _ c.loop-name-test.true)))
          ∙ c.loop-name.invariant.numbers;
      within = omega (arith, next_within _ _ c.from-next.ensures, c.loop-name.invariant.within);
    }

pub returns : goal.returns
returns c =
    let old = c.loop-name.numbers.items in
    c.in_ok-push-2.ensures.items
    ∙ ap (λ (xs : List ℕ). old ++ xs) (sym (ap (λ (ns : List NameKind). array_numbers c.loop-name.next (view_name_kinds ns)) (drop_all c.loop-name.name-index c.args.names.now (omega arith))))
    ∙ c.loop-name.invariant.numbers
