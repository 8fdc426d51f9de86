-- What forms share, and what they show.
use Rattle.std.proofs.Common.{◌≡◌, List, Option, Some, None, refl, sym, ap, subst, ◌∙◌}
use Rattle.awk_values.specs.declared.fault.Fault.{Fault}
use Rattle.world_core.specs.WorldState.{Action}
use Rattle.host_step.specs.HostState.{HostState}
use Rattle.host_step.specs.Worlds.{with_output}
use Rattle.host_values.specs.Forms.{HostForm, Stands}
use Rattle.host_values.specs.Findings.{After, Finding, View, form_finding, viewed}
use Rattle.host_values.specs.Shown.{SharesBy, SharesTables, Shown, form_with_output}

pub shares_self : (o : Option Fault) (f : HostForm) → SharesBy o f f
shares_self None f = refl
shares_self (Some fault) f = record { values = refl; arrays = refl; iterators = refl; fault = refl; outside = refl; output = refl }

-- what is shared whether a fault is kept or not
pub shares_tables : (o : Option Fault) (form f : HostForm) → SharesBy o form f → SharesTables form f
shares_tables None form f e = record {
  values = ap (λ (z : HostForm). z.values) e;
  arrays = ap (λ (z : HostForm). z.arrays) e;
  iterators = ap (λ (z : HostForm). z.iterators) e;
  fault = ap (λ (z : HostForm). z.fault) e;
  outside = ap (λ (z : HostForm). z.shared.outside) e;
  output = ap (λ (z : HostForm). z.shared.output) e;
}
shares_tables (Some fault) form f e = e

pub shown_of : (f : HostForm) (s : HostState) → Stands f s → Shown f s
shown_of f s h = record { form = f; same = shares_self f.fault f; stands = h }

pub stands_of : (f : HostForm) (s : HostState) → f.fault ≡ None → Shown f s → Stands f s
stands_of f s none h = subst (λ (z : HostForm). Stands z s) (subst (λ (o : Option Fault). SharesBy o h.form f) none h.same) h.stands

-- the same with another output before
pub stands_with : (o : List Action) (f : HostForm) (s : HostState) → Stands f s → Stands (form_with_output o f) (with_output o s)
stands_with o f s h = record { past = h.past; state = ap (with_output o) h.state; arrays = h.arrays; iterators = h.iterators; first = h.first }

pub own_output : (o : List Action) (f : HostForm) (s : HostState) → Stands (form_with_output o f) s → with_output o s ≡ s
own_output o f s h = ap (with_output o) h.state ∙ sym h.state

-- the fault that is kept, and what the names outside hold, are those of the state
pub shown_fault : (f : HostForm) (s : HostState) → Shown f s → s.fault ≡ f.fault
shown_fault f s h = subst (λ (z : HostState). z.fault ≡ f.fault) (sym h.stands.state) (shares_tables f.fault h.form f h.same).fault

pub shown_outside : (f : HostForm) (s : HostState) → Shown f s → s.shared.outside ≡ f.shared.outside
shown_outside f s h = subst (λ (z : HostState). z.shared.outside ≡ f.shared.outside) (sym h.stands.state) (shares_tables f.fault h.form f h.same).outside

pub shown_output : (f : HostForm) (s : HostState) → Shown f s → s.shared.output ≡ f.shared.output
shown_output f s h = subst (λ (z : HostState). z.shared.output ≡ f.shared.output) (sym h.stands.state) (shares_tables f.fault h.form f h.same).output

-- Once a fault is kept, tables that share so much show the same states.
module _ (f g : HostForm) (fault : Fault) (kept : f.fault ≡ Some fault) (shares : SharesTables f g) where
  pub shows_too : (v : View) (s : HostState) → Shown (viewed v f) s → Shown (viewed v g) s
  shows_too (After o) s h =
      let t = shares_tables f.fault h.form (form_with_output o f) h.same in
      record {
        form = h.form;
        same = subst (λ (x : Option Fault). SharesBy x h.form (form_with_output o g)) (sym kept ∙ shares.fault) (record {
          values = t.values ∙ shares.values;
          arrays = t.arrays ∙ shares.arrays;
          iterators = t.iterators ∙ shares.iterators;
          fault = t.fault ∙ shares.fault;
          outside = t.outside ∙ shares.outside;
          output = t.output;
        });
        stands = h.stands;
      }
  shows_too (Finding finds outside o) s h =
      let t = shares_tables f.fault h.form (form_finding finds outside o f) h.same in
      record {
        form = h.form;
        same = subst (λ (x : Option Fault). SharesBy x h.form (form_finding finds outside o g)) (sym kept ∙ shares.fault) (record {
          values = t.values ∙ shares.values;
          arrays = t.arrays ∙ shares.arrays;
          iterators = t.iterators ∙ shares.iterators;
          fault = t.fault ∙ shares.fault;
          outside = t.outside;
          output = t.output;
        });
        stands = h.stands;
      }
