use Rattle.std.proofs.Common.{◌∙◌, ap, sym, length, take}
use Rattle.wasm_model.specs.Runs.{MachineForm}
use Rattle.wasm_machine.proofs.Waiting.{waiting_below}
use Rattle.wasm_machine.proofs.machine.Machine.waiting.Goals as goal

pub returns : goal.returns
returns c =
    let fr = c.self.inside.parts.state.frames in
    c.waiting.ensures ∙ (sym (waiting_below c.self.inside.parts.program.codes.items (take fr.current.base fr.words.items) fr.below.items) ∙ ap (λ (m : MachineForm). length m.conf.callers) c.self.view_is)
