-- Calls that are made one after another.
use Rattle.std.proofs.Common.{◌≡◌, ◌∙◌, ℕ, Bool, List, [], ◌∷◌, ◌++◌, Result, Ok, Err, refl, sym, ap, subst}
use Rattle.std.proofs.lemmas.List.{append_assoc}
use Rattle.world_core.specs.declared.world.WorldFault.{WorldFault}
use Rattle.world_core.specs.declared.world.WorldFault.TheVariants.{Failed, NoMemory}
use Rattle.world_core.specs.WorldState.{Action, State}
use Rattle.world_core.specs.Calls.{OpensToWrite, Writes}
use Rattle.world_core.specs.Traces.{Call, DoesCall, Targets, Trace, actions_by, actions_of, next_targets, opening, writing}
use Rattle.world_core.specs.TraceParts.{targets_after}

pub trace-append : {W : Type 0} (did : W → Call → W → Type 0) (old : W) (calls : List Call) (between : W) (more : List Call) (new : W) →
    Trace did old calls between → Trace did between more new → Trace did old (calls ++ more) new
trace-append did old [] between more new first then = subst (λ w. Trace did w more new) first then
trace-append did old (call ∷ calls) between more new first then = (first.0, first.1, trace-append did first.0 calls between more new first.2 then)

pub targets-append : (calls more : List Call) (targets : Targets) → targets_after (calls ++ more) targets ≡ targets_after more (targets_after calls targets)
targets-append [] more targets = refl
targets-append (call ∷ calls) more targets = targets-append calls more (next_targets call targets)

pub actions-append : (calls more : List Call) (targets : Targets) →
    actions_of (calls ++ more) targets ≡ actions_of calls targets ++ actions_of more (targets_after calls targets)
actions-append [] more targets = refl
actions-append (call ∷ calls) more targets =
    ap (λ (rest : List Action). actions_by call targets ++ rest) (actions-append calls more (next_targets call targets))
    ∙ sym (append_assoc (actions_by call targets) (actions_of calls (next_targets call targets)) (actions_of more (targets_after calls (next_targets call targets))))

-- what a world in memory tells of a call is what the call does
pub does-writing : (id : ℕ) (text : List ℕ) (r : Result ℕ WorldFault) (old new : State) → Writes id text old r new → DoesCall (writing id text r) old new
does-writing id text (Ok n) old new w = w.does
does-writing id text (Err Failed) old new w = ap (λ (s : State). s.outside) w.unchanged
does-writing id text (Err NoMemory) old new w = ap (λ (s : State). s.outside) w

pub does-opening : (name : List ℕ) (append : Bool) (r : Result ℕ WorldFault) (old new : State) → OpensToWrite name append old r new → DoesCall (opening name append r) old new
does-opening name append (Ok id) old new o = o
does-opening name append (Err Failed) old new o = ap (λ (s : State). s.outside) o.0
does-opening name append (Err NoMemory) old new o = ap (λ (s : State). s.outside) o
