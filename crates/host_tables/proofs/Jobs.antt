-- Whether a text of a job is too long, as any is.
use Rattle.std.proofs.Common.{◌≡◌, ℕ, Bool, ◌||◌, List, [], ◌∷◌, map, Option, Some, None, if◌then◌else◌, refl, sym, ap, ◌∙◌}
use Rattle.std.specs.List.{list_any}
use Rattle.awk_values.specs.declared.fault.Fault.{Fault}
use Rattle.awk_values.specs.declared.fault.Fault.TheVariants.{TextLimit}
use Rattle.sem_primitives.specs.Jobs.{any_long, any_long_pair, fault_of_job, is_long}
use Rattle.host_texts.specs.NameForms.{pair_of}
use Rattle.host_texts.specs.declared.names.NamedText.{NamedText}
use Rattle.host_tables.specs.Starts.{is_long_pair, job_of}
use Rattle.host_tables.specs.declared.job.Job.{Job}

pub any_long_is : (texts : List (List ℕ)) → any_long texts ≡ list_any is_long texts
any_long_is [] = refl
any_long_is (text ∷ texts) = ap (λ b. is_long text || b) (any_long_is texts)

pub any_long_pair_is : (pairs : List NamedText) → any_long_pair (map pair_of pairs) ≡ list_any is_long_pair pairs
any_long_pair_is [] = refl
any_long_pair_is (pair ∷ pairs) = ap (λ b. is_long_pair pair || b) (any_long_pair_is pairs)

abbrev fault_if : Bool → Option Fault
fault_if b = if b then Some TextLimit else None

pub fault_is : (job : Job) (b : Bool) → b ≡ (list_any is_long job.operands.items || (list_any is_long_pair job.assigns.items || list_any is_long_pair job.environment.items))
    → fault_if b ≡ fault_of_job (job_of job)
fault_is job b same =
    ap fault_if (same
    ∙ ap (λ c. c || (list_any is_long_pair job.assigns.items || list_any is_long_pair job.environment.items)) (sym (any_long_is job.operands.items))
    ∙ ap (λ c. any_long job.operands.items || (c || list_any is_long_pair job.environment.items)) (sym (any_long_pair_is job.assigns.items))
    ∙ ap (λ c. any_long job.operands.items || (any_long_pair (map pair_of job.assigns.items) || c)) (sym (any_long_pair_is job.environment.items)))
