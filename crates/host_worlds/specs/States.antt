-- The host's state with what these imports read and change, over a world.
use Rattle.std.specs.Prelude.{ℕ, pos, Bool, List, [], ◌∷◌, false, map, Option, Some, None, decimal}
use Rattle.awk_values.specs.declared.value.Value.{Value}
use Rattle.world_core.specs.WorldState.{Entry, Source, State}
use Rattle.world_core.specs.Calls.{Kind}
use Rattle.sem_primitives.specs.ArrayMeaning.{element}
use Rattle.sem_primitives.specs.InputParts.{text_or_none}
use Rattle.sem_primitives.specs.SharedState.{Inner, MainInput as MainForm}
use Rattle.host_arrays.specs.Pairs.{pairs_at}
use Rattle.host_streams.specs.MainFinds.{main_found}
use Rattle.host_streams.specs.Mains.{HoldsMain, IsApartFrom, main_at_start, main_of}
use Rattle.host_streams.specs.OpenFiles.{HoldsOpen, names_of, reader_handle, readers_in, writer_handle}
use Rattle.host_streams.specs.Readers.{coming}
use Rattle.host_streams.specs.declared.main_input.MainInput.{MainInput}
use Rattle.host_streams.specs.declared.main_input.Reading.{Reading}
use Rattle.host_streams.specs.declared.streams.NamedReader.{NamedReader}
use Rattle.host_streams.specs.declared.streams.Streams.{Streams}
use Rattle.host_texts.specs.States.{with_texts}
use Rattle.host_texts.specs.declared.texts.Texts.{Texts}
use Rattle.host_values.specs.Evaluations.{Values}
use Rattle.host_values.specs.Forms.{Arrays, Coming, HostForm}
use Rattle.host_texts.specs.NameForms.{with_names}
use Rattle.host_texts.specs.declared.names.Names.{Names}
use Rattle.host_worlds.specs.declared.input.Input.{Input}

-- a world of which nobody else changes what names hold; or what is found, where others change it too
pub data Around : Type 0 where
  Over : State → Around
  Finding : List Entry → Around

-- what the world has for files is known, or that it is to come
abbrev pub readers_by : List NamedReader → Around → List (List ℕ × Source)
readers_by readers (Over state) = readers_in readers state
readers_by readers (Finding finds) = readers_in readers coming

abbrev pub main_by : MainInput → Around → MainForm
main_by m (Over state) = main_of m state
main_by m (Finding finds) = main_found m

abbrev pub finds_by : Around → Option (List Entry)
finds_by (Over state) = None
finds_by (Finding finds) = Some finds

-- the shared state with this input
abbrev pub with_input : Input → Around → Inner → Inner
with_input i around inner = with_names i.names (record inner {
  readers = readers_by i.files.readers.items around;
  writers = names_of i.files.writers.items;
  main = main_by i.main around;
  in_end = i.in_end;
  line = i.line;
  finds = finds_by around;
})

-- that before anything is read, with these names
abbrev pub input_at_start : Names → State → Inner → Inner
input_at_start names state inner = with_names names
    (record inner { readers = []; writers = []; main = main_at_start (state.readers 0); in_end = false; line = None; finds = None })

-- and with these texts
abbrev pub with_tables : Texts → Input → Around → Inner → Inner
with_tables texts input around inner = with_texts texts (with_input input around inner)

-- what these have left where nothing is known of what is to come
abbrev pub coming_of : Input → Coming
coming_of i = record { readers = readers_in i.files.readers.items coming; main = main_found i.main }

-- the host's tables, over a world
abbrev pub over_world : Texts → Input → State → HostForm → HostForm
over_world texts input state f = record f {
  shared = record f.shared { inner = with_tables texts input (Over state) f.shared.inner; outside = state.outside };
  coming = coming_of input;
}

-- what begin_end looks at, and what line does
abbrev pub form_ending : Bool → HostForm → HostForm
form_ending in_end f = record f { shared = record f.shared { inner = record f.shared.inner { in_end = in_end } } }

abbrev pub form_line : Values → Option Value → HostForm → HostForm
form_line values line f = record f { values = values; shared = record f.shared { inner = record f.shared.inner { line = line } } }

-- no stream of these is the file that the main input reads
abbrev pub AreApart : Reading → List (List ℕ × ℕ) → Type 0
AreApart r [] = Unit {0}
AreApart r (h ∷ hs) = IsApartFrom h.1 r × AreApart r hs

abbrev pub FilesApart : Reading → Streams → Type 0
FilesApart r s = AreApart r (map reader_handle s.readers.items) × AreApart r (map writer_handle s.writers.items)

-- what main input and files have open is open in the world, each by itself
pub record HoldsInput (i : Input) (kinds : ℕ → Kind) : Type 0 where
  pub main : HoldsMain i.main kinds
  pub files : HoldsOpen i.files kinds
  pub apart : FilesApart i.main.reading i.files

-- the texts of the elements of ARGV by their numbers, empty where there is none
abbrev pub argv_texts : Arrays → ℕ → List ℕ
argv_texts arrays n = text_or_none (element (decimal n) (pairs_at arrays (pos 0)))
