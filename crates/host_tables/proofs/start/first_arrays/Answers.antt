use Rattle.std.proofs.Common.{ℕ, ◌∷◌, [], pos, List, map, codes, ap, ◌∙◌}
use Rattle.std.specs.FinMap as maps
use Rattle.sem_primitives.specs.Jobs.{arguments_from, environment_in}
use Rattle.host_values.specs.Forms.{Arrays}
use Rattle.host_texts.specs.NameForms.{pair_of}
use Rattle.host_texts.specs.declared.names.NamedText.{NamedText}
use Rattle.host_tables.proofs.Starting.{filled_both, nothing, there_first, there_second}
use Rattle.host_tables.proofs.start.first_arrays.Goals as goal

pub fill_argv-requires : goal.fill_argv-requires
fill_argv-requires c = ap (λ (m : Arrays). maps.contains_key m (pos 0)) c.in_ok-arrays.ensures ∙ there_first

pub fill_environ-requires : goal.fill_environ-requires
fill_environ-requires c =
    let argv = arguments_from 0 (codes "awk" ∷ c.as_slice.result.now) in
    ap (λ (m : Arrays). maps.contains_key m (pos 1)) (c.in_ok-fill_argv.ensures ∙ ap (λ (m : Arrays). maps.insert m (pos 0) argv) c.in_ok-arrays.ensures) ∙ there_second argv

pub returns : goal.returns
returns c =
    let argv = arguments_from 0 (codes "awk" ∷ c.as_slice.result.now) in
    let environ = environment_in [] (map pair_of c.as_slice-2.result.now) in
    c.in_ok-fill_environ.ensures
    ∙ ap (λ (m : Arrays). maps.insert m (pos 1) environ) (c.in_ok-fill_argv.ensures ∙ ap (λ (m : Arrays). maps.insert m (pos 0) argv) c.in_ok-arrays.ensures)
    ∙ filled_both argv environ
    ∙ ap (λ (xs : List (List ℕ)). maps.insert (maps.insert nothing (pos 0) (arguments_from 0 (codes "awk" ∷ xs))) (pos 1) environ) c.as_slice.ensures.value
    ∙ ap (λ (xs : List NamedText). maps.insert (maps.insert nothing (pos 0) (arguments_from 0 (codes "awk" ∷ c.args.job.now.operands.items))) (pos 1) (environment_in [] (map pair_of xs))) c.as_slice-2.ensures.value
