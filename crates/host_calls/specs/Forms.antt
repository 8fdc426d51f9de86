-- The host's form: its tables, its files and main input, and the world beneath.
use Rattle.std.specs.Prelude.{[], None, false}
use Rattle.awk_values.specs.declared.value.Value.TheVariants.{Uninit}
use Rattle.sem_primitives.specs.SharedState.{Inner, NoFile, specials_at_start}
use Rattle.world_core.specs.WorldState.{Outside, Source, State}
use Rattle.host_values.specs.Forms.{Coming, HostForm}
use Rattle.host_worlds.specs.States.{Over, coming_of, with_input}
use Rattle.host_worlds.specs.declared.input.Input.{Input}
use Rattle.host_texts.specs.States.{with_texts}
use Rattle.host_tables.specs.declared.tables.Tables.{Tables}
use Rattle.host_calls.specs.declared.host.Host.{Host}

-- These tables, with what else a script and its host share. The host keeps no output: the world has it.
abbrev pub form_over : Tables → Inner → Coming → Outside → HostForm
form_over t inner coming outside = record {
  values = t.handles;
  arrays = t.arrays;
  iterators = t.iterators;
  shared = record { inner = with_texts t.texts inner; outside = outside; output = [] };
  coming = coming;
  arguments = t.arguments.items;
  fault = t.fault;
}

-- The state of a host whose tables say nothing: every part of it that is looked at is replaced by one of the host's. Its lists of arrays and iterators
-- are not looked at, since the tables have their own.
abbrev pub nothing : Source → Inner
nothing source = record {
  arrays = [];
  iterators = [];
  specials = specials_at_start 0;
  whole = Uninit;
  fields = [];
  readers = [];
  writers = [];
  main = record { standard = source; next = 1; operands = NoFile; reading = None; ended = false };
  in_end = false;
  names = [];
  assigns = [];
  pending = None;
  line = None;
  substituted = None;
  finds = None;
}

-- tables and input over a state of the world
abbrev pub form_in : Tables → Input → State → HostForm
form_in t i state = form_over t (with_input i (Over state) (nothing (state.readers 0))) (coming_of i) state.outside

-- the form of a host, whose world says of its state what the function says
abbrev pub host_form : {W : Type 0} {g : _} → (W → State) → Host W g → HostForm
host_form told h = form_in h.tables h.input (told h.world)
