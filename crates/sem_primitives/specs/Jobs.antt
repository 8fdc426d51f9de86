-- The job of a script: its operands, the assignments of the command line, its environment; and the state before it runs.
use Rattle.std.specs.Prelude.{ℕ, ◌+◌, Bool, false, not, ◌||◌, nat_le, if◌then◌else◌, List, [], ◌∷◌, length, codes, decimal, Option, Some, None}
use Rattle.awk_values.specs.declared.fault.Fault.{Fault}
use Rattle.awk_values.specs.declared.fault.Fault.TheVariants.{TextLimit}
use Rattle.awk_values.specs.declared.value.Value.TheVariants.{Uninit, StrNum}
use Rattle.world_core.specs.WorldState.{Entry, Outside, Source, absent}
use Rattle.sem_primitives.specs.Limits.{most_text}
use Rattle.sem_primitives.specs.SharedState.{Pairs, Shared, NoFile, specials_at_start}
use Rattle.sem_primitives.specs.ArrayMeaning.{stored}

pub record JobForm : Type 0 where
  pub operands : List (List ℕ)
  pub assigns : List (List ℕ × List ℕ)
  pub environment : List (List ℕ × List ℕ)

-- a text is past the limit
abbrev pub is_long : List ℕ → Bool
is_long text = not (nat_le (length text) most_text)

abbrev pub any_long : List (List ℕ) → Bool
any_long [] = false
any_long (text ∷ rest) = is_long text || any_long rest

abbrev pub any_long_pair : List (List ℕ × List ℕ) → Bool
any_long_pair [] = false
any_long_pair (pair ∷ rest) = (is_long pair.0 || is_long pair.1) || any_long_pair rest

-- the fault before all else
abbrev pub fault_of_job : JobForm → Option Fault
fault_of_job job = if any_long job.operands || (any_long_pair job.assigns || any_long_pair job.environment) then Some TextLimit else None

-- ARGV: the name of awk, and the operands by their numbers
abbrev pub arguments_from : ℕ → List (List ℕ) → Pairs
arguments_from n [] = []
arguments_from n (text ∷ texts) = (decimal n, StrNum text) ∷ arguments_from (n + 1) texts

-- ENVIRON: a later pair replaces an earlier one of its name
abbrev pub environment_in : Pairs → List (List ℕ × List ℕ) → Pairs
environment_in ps [] = ps
environment_in ps (pair ∷ rest) = environment_in (stored pair.0 (StrNum pair.1) ps) rest

-- What is outside as a script begins to run: names of which nobody else changes what they hold; or names that others change too, of which is said
-- what is found there, each time that something is opened, read or written.
pub data Environment : Type 0 where
  Closed : Outside → Environment
  Opened : List Entry → Environment

abbrev pub kept_by : Environment → Outside
kept_by (Closed outside) = outside
kept_by (Opened finds) = λ target. absent

abbrev pub found_by : Environment → Option (List Entry)
found_by (Closed outside) = None
found_by (Opened finds) = Some finds

-- what script and host share before the script runs: ARGV is array 0, ENVIRON array 1
abbrev pub shared_in : JobForm → Source → Environment → Shared
shared_in job input environment = record {
  inner = record {
    arrays = arguments_from 0 (codes "awk" ∷ job.operands) ∷ (environment_in [] job.environment ∷ []);
    iterators = [];
    specials = specials_at_start (length job.operands);
    whole = Uninit;
    fields = [];
    readers = [];
    writers = [];
    main = record { standard = input; next = 1; operands = NoFile; reading = None; ended = false };
    in_end = false;
    names = [];
    assigns = job.assigns;
    pending = None;
    line = None;
    substituted = None;
    finds = found_by environment;
  };
  outside = kept_by environment;
  output = [];
}
