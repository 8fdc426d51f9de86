-- The host's form with its tables.
use Rattle.host_texts.specs.NameForms.{with_all}
use Rattle.host_texts.specs.declared.names.Names.{Names}
use Rattle.host_texts.specs.States.{with_texts}
use Rattle.host_values.specs.Forms.{HostForm}
use Rattle.host_tables.specs.declared.tables.Tables.{Tables}

-- whatever the files and the main input are
abbrev pub of_tables : Tables → HostForm → HostForm
of_tables t f = record {
  values = t.handles;
  arrays = t.arrays;
  iterators = t.iterators;
  shared = record f.shared { inner = with_texts t.texts f.shared.inner };
  coming = f.coming;
  arguments = t.arguments.items;
  fault = t.fault;
}

-- with the names of the script and the assignments of the command line beside them
abbrev pub of_tables_and_names : Tables → Names → HostForm → HostForm
of_tables_and_names t n f = record (of_tables t f) { shared = record f.shared { inner = with_all t.texts n f.shared.inner } }
