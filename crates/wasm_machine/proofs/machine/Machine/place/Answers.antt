use Rattle.std.proofs.Common.{◌≡◌, ◌≤◌, ◌∙◌, None, ap, length, sym, subst}
use Rattle.wasm_model.specs.Runs.{MachineForm}
use Rattle.wasm_machine.specs.Confs.{shared}
use Rattle.wasm_machine.specs.Places.{StandsAt, frame_at}
use Rattle.wasm_machine.specs.declared.places.Place.{Place}
use Rattle.wasm_machine.proofs.Placed.{frame_stands, frame_within, none_stands, place_of}
use Rattle.wasm_machine.proofs.machine.Machine.place.Goals as goal

pub returns-in-Some-clause-stands : goal.returns-in-Some-clause-stands
returns-in-Some-clause-stands c =
    let m = c.self.inside in
    rw c.place_of.ensures (subst (λ (v : MachineForm). StandsAt v.program.whole (place_of c.in-Some.frame) (frame_at v.conf c.args.number)) c.self.view_is
    (frame_stands m.parts.program c.self.invariant.0.0 m.parts.state.frames (shared m.parts.state) c.args.number c.in-Some.frame (sym c.numbered.ensures ∙ c.in-Some.is)))

pub returns-in-Some-clause-within : goal.returns-in-Some-clause-within
returns-in-Some-clause-within c going =
    let m = c.self.inside in
    let still = c.self.invariant.1 (ap (λ (v : MachineForm). v.ended) c.self.view_is ∙ going) in
    let here = frame_within m.parts.program c.self.invariant.0.0 m.parts.state.frames still c.args.number c.in-Some.frame (sym c.numbered.ensures ∙ c.in-Some.is) in
    subst (λ (p : Place). p.function ≤ length c.args.self.now.program.whole.funcs) (sym c.place_of.ensures)
    (subst (λ (v : MachineForm). c.in-Some.frame.function ≤ length v.program.whole.funcs) c.self.view_is here)

pub returns-in-None-clause-stands : goal.returns-in-None-clause-stands
returns-in-None-clause-stands c =
    let m = c.self.inside in
    subst (λ (v : MachineForm). frame_at v.conf c.args.number ≡ None) c.self.view_is
    (none_stands m.parts.program c.self.invariant.0.0 m.parts.state.frames (shared m.parts.state) c.args.number (sym c.numbered.ensures ∙ c.in-None.is))
