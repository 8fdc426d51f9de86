-- The host's state with what these imports keep.
use Rattle.std.specs.Prelude.{List, [], get_or}
use Rattle.awk_values.specs.declared.value.Value.{Value}
use Rattle.awk_values.specs.declared.value.Value.TheVariants.{Uninit}
use Rattle.sem_primitives.specs.ConstantNumbers.{special_number}
use Rattle.sem_primitives.specs.SharedState.{Inner}
use Rattle.sem_primitives.specs.declared.constants.Special.{Special}
use Rattle.host_step.specs.HostState.{HostState}
use Rattle.host_fields.specs.Held.{Held}
use Rattle.host_texts.specs.declared.texts.Texts.{Texts}
use Rattle.host_values.specs.States.{with_inner}

-- the special variables whose values these are
abbrev pub specials_of : List Value → Special → Value
specials_of values s = get_or values (special_number s) Uninit

-- `$0` has no value, and there is no field
abbrev pub no_record : Held
no_record = record { whole = Uninit; fields = [] }

abbrev pub with_texts : Texts → Inner → Inner
with_texts t inner = record inner { specials = specials_of t.specials.values; whole = t.current_record.whole; fields = t.current_record.fields; substituted = t.substituted }

-- a state with these special variables, this record and this text of a substitution
abbrev pub holding : Texts → HostState → HostState
holding t s = with_inner (with_texts t s.shared.inner) s
