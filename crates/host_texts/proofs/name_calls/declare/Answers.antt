use Rattle.std.proofs.Common.{◌≡◌, ◌++◌, ◌∷◌, [], ℕ, false, is_some, List, sym, ap, ◌∙◌}
use Rattle.sem_primitives.specs.Assignments.{declared}
use Rattle.host_texts.specs.NameForms.{announced, of_names, with_names}
use Rattle.host_texts.proofs.NameSteps.{declare_call, declare_memory}
use Rattle.host_texts.proofs.name_calls.declare.Goals as goal

pub returns-in_default : goal.returns-in_default
returns-in_default c = record {
  step = λ f none.
      let before = of_names c.args.names.now f.values f in
      declare_memory before c.args.words.now c.args.memory.now none c.in-Ok.said.0.now c.in-Ok.said.1 (sym c.in-Ok.ensures) before;
}

pub returns-in-Ok-add : goal.returns-in-Ok-add
returns-in-Ok-add c = record {
  step = λ f none.
      let names = c.args.names.now in
      let text = c.in-Ok-from_slice.ensures in
      let found = c.declared.ensures ∙ ap (λ (t : List ℕ). declared 0 t (announced names)) text in
      let absent : is_some (declared 0 c.in-Ok.said.0.now (announced names)) ≡ false = sym (ap is_some found) ∙ sym c.is_some.ensures ∙ c.if-is_some.false in
      declare_call (of_names names f.values f) c.args.words.now c.args.memory.now none c.in-Ok.said.0.now c.in-Ok.said.1 (sym c.in-Ok.ensures) absent (with_names c.add.new.self f.shared.inner)
      (c.in-Ok-add.ensures f.shared.inner ∙ ap (λ (t : List ℕ). record (with_names names f.shared.inner) { names = announced names ++ (t, c.in-Ok.said.1) ∷ [] }) text);
}

pub returns-in-Err-add : goal.returns-in-Err-add
returns-in-Err-add c = record {
  step = λ f none.
      declare_memory (of_names c.args.names.now f.values f) c.args.words.now c.args.memory.now none c.in-Ok.said.0.now c.in-Ok.said.1 (sym c.in-Ok.ensures) (of_names c.add.new.self f.values f);
}
