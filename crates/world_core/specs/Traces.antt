-- The calls that were made of a world, one after another, and what they give to the outside.
use Rattle.std.specs.Prelude.{◌≡◌, ℕ, ◌==◌, List, [], ◌∷◌, ◌++◌, take, cond, Bool, Result, Ok, Err}
use Rattle.world_core.specs.WorldState.{Action, Named, Open, State, Target, puts}
use Rattle.world_core.specs.Calls.{Does, OpensWriter}

-- What a call gives to the outside: a name was opened for writing, as the stream of a number; or the stream of a number took bytes. Every other call gives
-- nothing, nor does one that fails.
pub data Call : Type 0 where
  Opened : (name : List ℕ) (append : Bool) (id : ℕ) → Call
  Wrote : (id : ℕ) (bytes : List ℕ) → Call
  Other : Call

-- a name was to be opened for writing
abbrev pub opening : {E : Type 0} → List ℕ → Bool → Result ℕ E → Call
opening name append (Ok id) = Opened name append id
opening name append (Err fault) = Other

-- a text was to be written: its first n bytes were taken
abbrev pub writing : {E : Type 0} → ℕ → List ℕ → Result ℕ E → Call
writing id text (Ok n) = Wrote id (take n text)
writing id text (Err fault) = Other

-- These calls were made of a world, in this order, and no other. What a world is after a call, `did` says.
abbrev pub Trace : {W : Type 0} → (W → Call → W → Type 0) → W → List Call → W → Type 0
Trace did old [] new = new ≡ old
Trace {W = W} did old (call ∷ calls) new = (between : W) × did old call between × Trace did between calls new

-- Where the streams that are open for writing go, by their numbers. A number that is closed goes nowhere: none writes to it until it is opened anew.
abbrev pub Targets : Type 0
Targets = ℕ → Target

abbrev pub next_targets : Call → Targets → Targets
next_targets (Opened name append id) targets = λ k. cond (k == id) (Named name) (targets k)
next_targets _ targets = targets

abbrev pub actions_by : Call → Targets → List Action
actions_by (Opened name append id) targets = Open name append ∷ []
actions_by (Wrote id bytes) targets = puts (targets id) bytes
actions_by Other targets = []

-- what the calls are to the outside
abbrev pub actions_of : List Call → Targets → List Action
actions_of [] targets = []
actions_of (call ∷ calls) targets = actions_by call targets ++ actions_of calls (next_targets call targets)

-- what a call does where the world is modelled
abbrev pub DoesCall : Call → State → State → Type 0
DoesCall (Opened name append id) old new = OpensWriter name append id old new
DoesCall (Wrote id bytes) old new = Does (puts (old.writers id) bytes) old new
DoesCall Other old new = new.outside ≡ old.outside
