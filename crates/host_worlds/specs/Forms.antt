-- The host's form with what the imports that write look at and change.
use Rattle.std.specs.Prelude.{Bool, true, false, List, None}
use Rattle.awk_values.specs.declared.value.Value.{Value}
use Rattle.sem_primitives.specs.SharedState.{Inner, Shared}
use Rattle.sem_primitives.specs.declared.answers.StreamAnswer.TheVariants as stream
use Rattle.wasm_store.specs.declared.word.Word.{Word}
use Rattle.wasm_store.specs.declared.word.Word.TheVariants.{I32}
use Rattle.world_core.specs.WorldState.{State}
use Rattle.host_imports.specs.Codes.{stream_code}
use Rattle.host_streams.specs.OpenFiles.{names_of, readers_in}
use Rattle.host_streams.specs.Readers.{coming}
use Rattle.host_streams.specs.declared.streams.Streams.{Streams}
use Rattle.host_texts.specs.States.{specials_of}
use Rattle.host_texts.specs.declared.specials.Specials.{Specials}
use Rattle.host_values.specs.Forms.{HostForm}
use Rattle.host_values.specs.Evaluations.{Values}

abbrev pub inner_with : Specials → Inner → Inner
inner_with specials inner = record inner { specials = specials_of specials.values }

-- with these special variables
abbrev pub shared_with : Specials → Shared → Shared
shared_with specials shared = record shared { inner = inner_with specials shared.inner }

-- with these files open, over this outside, where nobody else changes what names hold
abbrev pub shared_over : Streams → State → Shared → Shared
shared_over streams state shared = record shared {
  inner = record shared.inner { readers = readers_in streams.readers.items state; writers = names_of streams.writers.items; finds = None };
  outside = state.outside;
}

abbrev pub with_specials : Specials → HostForm → HostForm
with_specials specials f = record f { shared = shared_with specials f.shared }

abbrev pub with_streams : Streams → State → HostForm → HostForm
with_streams streams state f = record f {
  shared = shared_over streams state f.shared;
  coming = record f.coming { readers = readers_in streams.readers.items coming };
}

abbrev pub with_arguments : List Value → HostForm → HostForm
with_arguments arguments f = record f { arguments = arguments }

abbrev pub with_values : Values → HostForm → HostForm
with_values values f = record f { values = values }

-- what printf looks at
abbrev pub writing : List Value → Streams → State → HostForm → HostForm
writing arguments streams state f = with_arguments arguments (with_streams streams state f)

-- what print looks at
abbrev pub printing : List Value → Specials → Streams → State → HostForm → HostForm
printing arguments specials streams state f = writing arguments streams state (with_specials specials f)

-- what close looks at
abbrev pub closing : Values → Streams → State → HostForm → HostForm
closing values streams state f = with_values values (with_streams streams state f)

-- what flush looks at
abbrev pub flushing : Values → Streams → HostForm → HostForm
flushing values streams f = record f {
  values = values;
  shared = record f.shared { inner = record f.shared.inner { writers = names_of streams.writers.items } };
}

abbrev pub closed_code : Bool → Word
closed_code true = I32 (stream_code stream.Done)
closed_code false = I32 (stream_code stream.NotOpen)
