-- The machine shows what a program does, for every well-sorted program: with notes, and so without.
use Rattle.std.proofs.Common.{◌+◌, ◌*◌, length, refl, subst, arith}
use Rattle.mid_program.specs.Mid.{Program}
use Rattle.sem_scripts.specs.ScriptRun.{Ending}
use Rattle.mid_program.specs.Sorted.{kinds_of}
use Rattle.lower_model.specs.Follows.{Shown, EmissionFollows, EmissionNotes}
use Rattle.lower_model.specs.Functions.{main_bases}
use Rattle.lower_model.specs.Machine.{no_notes}
use Rattle.lower_model.proofs.Recursion.{exprs_do}
use Rattle.lower_model.proofs.MainInput.{reading, starting}
use Rattle.lower_model.proofs.Following.{Helped, emission_notes}
use Rattle.lower_model.proofs.Silent.{silent_run}

helped : (p : Program) → Helped p
helped p = record {
  least = 40 + 4 * length (kinds_of p.globals);
  first_work = 11;
  read_work = 21 + 4 * length (kinds_of p.globals);
  exprs = λ M deepest n le calls lends ks F b e. exprs_do p M deepest n le calls lends ks F b e;
  starting = λ M deepest n le. starting p deepest (main_bases p) M n refl (omega arith) le;
  reading = λ M deepest n le. reading p deepest (main_bases p) M n refl (omega arith);
}

pub code_notes : EmissionNotes
code_notes = emission_notes (λ p ok. helped p)

pub code_follows : EmissionFollows
code_follows p ok =
    let f = code_notes p ok in
    record { bound = f.bound; shown = λ s turns. subst (λ (e : Ending). Shown p s turns (f.bound * (turns + 1)) e) (silent_run p s turns) (f.shown no_notes s turns) }
