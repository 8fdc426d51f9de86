use Rattle.std.proofs.Common.{◌++◌, ℕ, List, Vec, Global, ap, ◌∙◌}
use Rattle.mid_program.specs.View.{view_texts}
use Rattle.mid_program.specs.declared.program.Declared.{Declared}
use Rattle.mid_program.specs.declared.program.Routine.{Routine}
use Rattle.lower_model.specs.Places.{memory_of}
use Rattle.lower_modules.proofs.Pieces.{declared_names, memory_whole, routine_names}
use Rattle.lower_modules.proofs.sections.memory.Goals as goal

pub returns : goal.returns
returns c =
    let mid = c.args.mid.now in
    let texts = c.in_ok-bytes.ensures ∙ ap (λ (ts : List (Vec ℕ Global)). memory_of (view_texts ts)) c.as_slice.ensures.keys in
    let names = c.in_ok-put_names.ensures ∙ ap (λ (ds : List Declared). c.in_ok-bytes.bytes.items ++ memory_of (declared_names ds)) c.deref.ensures.value
    ∙ ap (λ (bs : List ℕ). bs ++ memory_of (declared_names mid.globals.items)) texts in
    c.in_ok-put_routine_names.ensures ∙ ap (λ (rs : List Routine). c.put_names.new.bytes.items ++ memory_of (routine_names rs)) c.deref-2.ensures.value
    ∙ ap (λ (bs : List ℕ). bs ++ memory_of (routine_names mid.routines.items)) names
    ∙ memory_whole mid.texts.keys mid.globals.items mid.routines.items
