use Rattle.std.proofs.Common.{◌∙◌, sym, ap}
use Rattle.host_streams.specs.Mains.{is_equals}
use Rattle.host_streams.proofs.MainSteps.{name_there}
use Rattle.host_streams.proofs.Writing.{rest_is}
use Rattle.host_streams.proofs.main_input.name_len.Goals as goal

pub returns-then-is_name : goal.returns-then-is_name
returns-then-is_name c =
    name_there c.args.text.now c.name_bytes-len.result c.name_bytes-len.ensures.value c.name_bytes-len.ensures.within
    (ap is_equals (sym (rest_is c.name_bytes-len.result c.args.text.now)) ∙ sym c.if-not-is_equals.ensures) (sym c.if-is_name.ensures)
