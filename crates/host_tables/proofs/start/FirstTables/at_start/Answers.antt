use Rattle.std.proofs.Common.{rules, ◌≡◌, length, map, ap, ◌∙◌}
use Rattle.std.specs.FinMap as maps
use Rattle.sem_primitives.specs.SharedState.{specials_at_start}
use Rattle.host_texts.specs.NameForms.{pair_of}
use Rattle.host_tables.specs.Starts.{job_of}
use Rattle.host_tables.specs.declared.start.FirstTables.{FirstTables}
use Rattle.host_tables.proofs.Starting.{none_there, reserved_first, stands}
use Rattle.host_values.specs.Calls.{reserved_handle}
use Rattle.host_tables.proofs.start.FirstTables.at_start.Goals as goal

pub returns-clause-stands : goal.returns-clause-stands
returns-clause-stands c input outside coming =
    let t : FirstTables = record { handles = c.new.result; arrays = c.in_ok-arrays.arrays; iterators = c.new-2.result; texts = c.in_ok-texts.texts; names = c.at_start-2.result; arguments = c.new-3.result; fault = c.fault_of-fault.result } in
    let count : c.in-Ok.operands ≡ length c.args.job.now.operands.items = search rules in
    stands t (job_of c.args.job.now)
    (record {
      handles = c.new.ensures;
      arrays = c.in_ok-arrays.ensures;
      iterators = c.new-2.ensures;
      specials = λ s. c.in_ok-texts.ensures.specials s ∙ ap (λ n. specials_at_start n s) count;
      held = c.in_ok-texts.ensures.fields;
      substituted = c.in_ok-texts.ensures.substituted;
      names = c.at_start-2.ensures.names;
      assigns = c.at_start-2.ensures.assigns ∙ ap (map pair_of) (c.in_ok-assigns.ensures ∙ c.as_slice.ensures.value);
      pending = c.at_start-2.ensures.pending;
      arguments = c.new-3.ensures.items;
      fault = c.fault_of-fault.ensures;
    })
    input outside coming

pub returns-clause-values : goal.returns-clause-values
returns-clause-values c = ap (λ m. maps.get m reserved_handle) c.new.ensures ∙ none_there reserved_handle

pub returns-clause-arrays : goal.returns-clause-arrays
returns-clause-arrays c = ap (λ m. maps.get m reserved_handle) c.in_ok-arrays.ensures ∙ reserved_first _ _

pub returns-clause-iterators : goal.returns-clause-iterators
returns-clause-iterators c = ap (λ m. maps.get m reserved_handle) c.new-2.ensures ∙ none_there reserved_handle
