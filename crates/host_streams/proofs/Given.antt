-- Calls that give nothing, one after another, and calls that give bytes.
use Rattle.std.proofs.Common.{◌≡◌, ◌∙◌, ℕ, ◌+◌, ◌-◌, List, [], ◌∷◌, ◌++◌, length, take, drop, Result, Ok, Err, refl, sym, ap, subst, take-add}
use Rattle.std.proofs.lemmas.List.{append-nil}
use Rattle.awk_values.specs.declared.fault.Fault.TheVariants.{WriteFailed}
use Rattle.awk_values.specs.declared.fault.Stop.{Stop}
use Rattle.awk_values.specs.declared.fault.Stop.TheVariants.{Fault as IsFault, NoMemory as OutOfMemory}
use Rattle.world_core.specs.declared.world.WorldFault.{WorldFault}
use Rattle.world_core.specs.declared.world.WorldFault.TheVariants.{Failed, NoMemory}
use Rattle.world_core.specs.WorldState.{Action, Outside, State, free, puts}
use Rattle.world_core.specs.Traces.{Call, Other, Wrote, Targets, actions_of, writing}
use Rattle.world_core.specs.TraceParts.{targets_after}
use Rattle.world_core.proofs.TraceLemmas.{actions-append, targets-append, trace-append}
use Rattle.sem_primitives.specs.Finds.{seen}
use Rattle.sem_primitives.specs.OutputMeaning.{what_fits}
use Rattle.host_streams.specs.Given.{GivesNone, Makes, PutsSize, WritesSize}
use Rattle.host_streams.proofs.Writing.{part_put, puts-append, rest_is, seen_over}

pub none_still : {W : Type 0} (did : W → Call → W → Type 0) (w : W) → GivesNone did w w
none_still did w = record { calls = []; made = refl; gives = λ targets. refl; same = λ targets. refl }

pub none_one : {W : Type 0} (did : W → Call → W → Type 0) (old new : W) → did old Other new → GivesNone did old new
none_one did old new made = record { calls = Other ∷ []; made = (new, made, refl); gives = λ targets. refl; same = λ targets. refl }

pub makes_then : {W : Type 0} (did : W → Call → W → Type 0) (a b c : W) (f h : Targets → List Action) → Makes did a b f → Makes did b c h
    → Makes did a c (λ targets. f targets ++ h targets)
makes_then did a b c f h x y = record {
  calls = x.calls ++ y.calls;
  made = trace-append did a x.calls b y.calls c x.made y.made;
  gives = λ targets.
      actions-append x.calls y.calls targets
      ∙ ap (λ (rest : List Action). actions_of x.calls targets ++ rest) (ap (actions_of y.calls) (x.same targets) ∙ y.gives targets)
      ∙ ap (λ (front : List Action). front ++ h targets) (x.gives targets);
  same = λ targets. targets-append x.calls y.calls targets ∙ ap (targets_after y.calls) (x.same targets) ∙ y.same targets;
}

pub makes_as : {W : Type 0} (did : W → Call → W → Type 0) (a b : W) (f h : Targets → List Action) → ((targets : Targets) → f targets ≡ h targets)
    → Makes did a b f → Makes did a b h
makes_as did a b f h same x = record { calls = x.calls; made = x.made; gives = λ targets. x.gives targets ∙ same targets; same = x.same }

pub none_then : {W : Type 0} (did : W → Call → W → Type 0) (a b c : W) → GivesNone did a b → GivesNone did b c → GivesNone did a c
none_then did a b c x y = makes_then did a b c (λ targets. []) (λ targets. []) x y

-- and then nothing
pub makes_last : {W : Type 0} (did : W → Call → W → Type 0) (a b c : W) (f : Targets → List Action) → Makes did a b f → GivesNone did b c → Makes did a c f
makes_last did a b c f x y = makes_as did a c (λ targets. f targets ++ []) f (λ targets. append-nil (f targets)) (makes_then did a b c f (λ targets. []) x y)

-- a write that took n bytes of what was left of a text
pub writes_next : {W : Type 0} (did : W → Call → W → Type 0) (a b c : W) (id at n : ℕ) (text : List ℕ)
    → Makes did a b (λ targets. puts (targets id) (take at text)) →
    did b (writing {E = WorldFault} id (take (length text - at) (drop at text)) (Ok n)) c → Makes did a c (λ targets. puts (targets id) (take (at + n) text))
writes_next did a b c id at n text x made =
    let piece : did b (Wrote id (take n (drop at text))) c = subst (λ (xs : List ℕ). did b (Wrote id (take n xs)) c) (rest_is at text) made in
    makes_as did a c (λ targets. puts (targets id) (take at text) ++ puts (targets id) (take n (drop at text))) (λ targets. puts (targets id) (take
    (at + n) text))
    (λ targets. sym (puts-append (targets id) (take at text) (take n (drop at text))) ∙ ap (puts (targets id)) (sym (take-add at n text)))
    (makes_then did a b c (λ targets. puts (targets id) (take at text)) (λ targets. puts (targets id) (take n (drop at text))) x record {
      calls = Wrote id (take n (drop at text)) ∷ [];
      made = (c, piece, refl);
      gives = λ targets. append-nil (puts (targets id) (take n (drop at text)));
      same = λ targets. refl;
    })

-- one that failed
pub fails_next : {W : Type 0} (did : W → Call → W → Type 0) (a b c : W) (id at : ℕ) (text : List ℕ)
    → Makes did a b (λ targets. puts (targets id) (take at text)) → did b Other c →
    Makes did a c (λ targets. puts (targets id) (take at text))
fails_next did a b c id at text x made = makes_last did a b c (λ targets. puts (targets id) (take at text)) x (none_one did b c made)

-- What a text that was put to an open stream gave.

open_all : (x : Unit {0}) {W : Type 0} (tells : Type 0) (did : W → Call → W → Type 0) (old new : W) (id : ℕ) (text : List ℕ) (before now : State)
    → WritesSize tells did old new id text before now (Ok x)
    → PutsSize tells did old new id text before now (Ok tt)
open_all x tells did old new id text before now p = record {
  size = p.size;
  made = p.made;
  is = p.is;
  told = λ tells shared e. ap (puts (before.writers id)) (p.fits tells
      ∙ ap (λ (f : Outside). what_fits (free (f (before.writers id))) text) (sym (seen_over before shared e)));
  outside = λ tells. (p.does tells).outside;
}

open_part : {W : Type 0} (tells : Type 0) (did : W → Call → W → Type 0) (old new : W) (id : ℕ) (text : List ℕ) (before now : State)
    → WritesSize tells did old new id text before now (Err Failed)
    → PutsSize tells did old new id text before now (Err (IsFault WriteFailed))
open_part tells did old new id text before now p = record {
  size = p.size;
  made = p.made;
  is = p.is;
  told = λ tells shared e. ap (puts (before.writers id)) (p.fits tells
      ∙ ap (λ (f : Outside). what_fits (free (f (before.writers id))) text) (sym (seen_over before shared e)));
  outside = λ tells. (p.does tells).outside;
}

open_short : {W : Type 0} (tells : Type 0) (did : W → Call → W → Type 0) (old new : W) (id : ℕ) (text : List ℕ) (before now : State)
    → WritesSize tells did old new id text before now (Err NoMemory)
    → PutsSize tells did old new id text before now (Err OutOfMemory)
open_short tells did old new id text before now p = record {
  size = p.size;
  made = p.made;
  is = p.is;
  told = λ tells shared e. (
    p.size,
    ap (puts (before.writers id)) (p.fits tells)
        ∙ part_put (before.writers id) p.size text (seen shared.inner shared.outside) before.outside (seen_over before shared e),
  );
  outside = λ tells. (p.does tells).outside;
}

-- how putting the first bytes ends as a world's call does
abbrev pub stop_of : Result (Unit {0}) WorldFault → Result (Unit {0}) Stop
stop_of (Ok x) = Ok tt
stop_of (Err Failed) = Err (IsFault WriteFailed)
stop_of (Err NoMemory) = Err OutOfMemory

pub puts_open : {W : Type 0} (tells : Type 0) (did : W → Call → W
    → Type 0) (old new : W) (id : ℕ) (text : List ℕ) (before now : State) (r : Result (Unit {0}) WorldFault)
    → WritesSize tells did old new id text before now r
    → PutsSize tells did old new id text before now (stop_of r)
puts_open tells did old new id text before now (Ok x) p = open_all x tells did old new id text before now p
puts_open tells did old new id text before now (Err Failed) p = open_part tells did old new id text before now p
puts_open tells did old new id text before now (Err NoMemory) p = open_short tells did old new id text before now p
