-- Forms of the host with the tables of one family, whatever its other tables are.
use Rattle.std.specs.Prelude.{List}
use Rattle.awk_values.specs.declared.value.Value.{Value}
use Rattle.host_values.specs.Evaluations.{Values}
use Rattle.host_texts.specs.States.{with_texts}
use Rattle.host_texts.specs.declared.texts.Texts.{Texts}
use Rattle.host_values.specs.Forms.{HostForm}

-- with these values
abbrev pub of_values : Values → HostForm → HostForm
of_values values f = record f { values = values }

-- with these values, special variables, record and text of a substitution
abbrev pub of_texts : Texts → Values → HostForm → HostForm
of_texts t values f = record f { values = values; shared = record f.shared { inner = with_texts t f.shared.inner } }

-- with these values and this argument list
abbrev pub of_listed : List Value → Values → HostForm → HostForm
of_listed arguments values f = record f { values = values; arguments = arguments }
