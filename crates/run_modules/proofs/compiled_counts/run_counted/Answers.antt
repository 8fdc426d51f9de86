use Rattle.std.proofs.Common.{◌∙◌, List, ℕ, ap, subst, sym}
use Rattle.std.specs.Prelude.{max}
use Rattle.std.specs.declared.vec.Vec.{Vec}
use Rattle.std.specs.declared.alloc.Global.{Global}
use Rattle.host_calls.specs.Forms.{host_form}
use Rattle.run_modules.specs.Counted.{values_in}
use Rattle.script_places.specs.Passes.{AreFirsts, places_counted}
use Rattle.script_places.specs.Sites.{OfSource}
use Rattle.script_places.specs.Tallies.{rows_of}
use Rattle.run_modules.proofs.Pausing.{of_some}
use Rattle.run_modules.proofs.compiled_counts.run_counted.Goals as goal

pub returns-clause-did : goal.returns-clause-did
returns-clause-did g c = c.step_through-end.ensures.did

pub returns-clause-counted : goal.returns-clause-counted
returns-clause-counted g c =
    let told = g.W.World.state in
    let t = c.step_through-end.ensures.tallied in
    let left = host_form told c.step_through-end.new.host in
    let nops = ap (λ (v : Vec (Vec ℕ Global) Global). rows_of v.items) c.step_through-end.ensures.nops ∙ c.requires.nops in
    of_some c.counts_of-counts.result (λ w s. record {
      moments = t.moments;
      end = c.step_through-end.result.0;
      conf = c.step_through-end.new.machine.conf;
      left = left;
      stepped = t.stepped;
      over = λ q. t.count ∙ t.over q;
      steps_taken = s.steps_taken ∙ sym t.count;
      values = s.most ∙ ap (max (values_in left)) t.most;
      records = s.records;
      lines = subst (λ (rows : List (List ℕ)). OfSource c.args.script.now (λ tokens script. AreFirsts tokens (places_counted script rows t.moments) w.lines.items)) nops s.lines;
    }) (c.counts_of-counts.ensures t.moments t.tallied)
