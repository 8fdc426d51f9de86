-- The rest of what is being read is given up.
use Rattle.std.proofs.Common.{◌≡◌, ◌≢◌, List, [], ℕ, refl, sym, ap, subst, ◌∙◌}
use Rattle.world_core.specs.declared.world.Ending.TheVariants.{End}
use Rattle.world_core.specs.WorldState.{Source, State}
use Rattle.sem_primitives.specs.InputMeaning.{gives_up}
use Rattle.sem_primitives.specs.Rows.{next_file_row}
use Rattle.sem_primitives.specs.InputParts.{to_come}
use Rattle.sem_primitives.specs.SharedState.{Inner, MainInput, Standard}
use Rattle.host_streams.specs.declared.main_input.MainInput.{MainInput as Mains}
use Rattle.host_streams.specs.declared.main_input.Reading.{Reading}
use Rattle.host_streams.specs.declared.main_input.Reading.TheVariants as reading
use Rattle.host_streams.specs.declared.reader.Phase.{Phase}
use Rattle.host_streams.specs.declared.reader.Phase.TheVariants.{Broken, Ended}
use Rattle.host_streams.specs.declared.reader.Reader.{Reader}
use Rattle.host_streams.specs.Mains.{StandardIs, idle, left_main, main_of, reading_of, with_main}
use Rattle.host_streams.specs.MainFinds.{main_found, reading_found}
use Rattle.host_streams.specs.Passing.{StandardSkips}
use Rattle.host_streams.specs.Readers.{coming, left, left_in, unread}
use Rattle.host_streams.proofs.MainFound.{found_idle, found_rest}

-- the standard input has failed only where it is read
pub not_read : (r : Reading) (p : Phase) → StandardIs r p → r ≢ reading.Standard → p ≢ Broken
not_read reading.Nothing p is other = is
not_read reading.Standard p is other = absurd (other refl)
not_read (reading.File f) p is other = is

pub skips_standard : (r : Reading) (old new : Reader) → r ≡ reading.Standard → new.id ≡ old.id → new.phase ≡ Ended → unread new ≡ [] → StandardSkips r old new
skips_standard r old new e id ended none = subst (λ (x : Reading). StandardSkips x old new) (sym e) (id, ended, none)

pub skips_none : (r : Reading) (old new : Reader) → r ≢ reading.Standard → new ≡ old → StandardSkips r old new
skips_none reading.Nothing old new other same = same
skips_none reading.Standard old new other same = absurd (other refl)
skips_none (reading.File f) old new other same = same

nothing_left : (r : Reader) (source : Source) → r.phase ≡ Ended → unread r ≡ [] → left r source ≡ record { rest = []; ending = End }
nothing_left r source ended none = ap (λ p. left_in p (unread r) source) ended ∙ ap (λ (k : List ℕ). record { rest = k; ending = End }) none

abbrev done_with : Inner → Inner × Unit {0}
done_with i = (i, tt)

-- the standard input, whose reader is at its end now
pub skipped_standard : (m new : Mains) (s : Reader) (state later : State) (inner : Inner) → m.reading ≡ reading.Standard → s.phase ≡ Ended → unread s ≡ []
    → main_of new later ≡ idle (main_of (record m { standard = s }) state)
    → next_file_row (with_main (main_of m state) inner) ≡ (with_main (main_of new later) inner, tt)
skipped_standard m new s state later inner e ended none told =
    ap (λ r. done_with (gives_up r (with_main (main_of m state) inner))) (ap (λ r. reading_of r state) e)
    ∙ ap (λ (x : Source). done_with (with_main (idle (left_main Standard x (main_of m state))) inner)) (sym (nothing_left s (state.readers s.id) ended none))
    ∙ ap (λ (x : MainInput). done_with (with_main x inner)) (sym told)

given_up : (m : Mains) (state : State) (inner : Inner) (r : Reading) → m.reading ≡ r → r ≢ reading.Standard
    → gives_up (reading_of r state) (with_main (main_of m state) inner) ≡ with_main (idle (main_of m state)) inner
given_up m state inner reading.Nothing e other = ap (λ r. with_main (record (main_of m state) { reading = reading_of r state }) inner) e
given_up m state inner reading.Standard e other = absurd (other refl)
given_up m state inner (reading.File f) e other = refl

-- a file, or nothing
pub skipped_file : (m new : Mains) (state later : State) (inner : Inner) → m.reading ≢ reading.Standard → main_of new later ≡ idle (main_of m state)
    → next_file_row (with_main (main_of m state) inner) ≡ (with_main (main_of new later) inner, tt)
skipped_file m new state later inner other told =
    ap done_with (given_up m state inner m.reading refl other) ∙ ap (λ (x : MainInput). done_with (with_main x inner)) (sym told)

-- The same where nothing is known of what is to come: the standard input is at its end for ever.
pub skipped_found : (old new : Mains) (inner : Inner) → new.reading ≡ reading.Nothing → new.ended ≡ old.ended → new.next ≡ old.next → new.found ≡ old.found
    → StandardSkips old.reading old.standard new.standard → next_file_row (with_main (main_found old) inner) ≡ (with_main (main_found new) inner, tt)
skipped_found old new inner nothing ended next found standard = by old.reading refl standard
  where
    file : old.reading ≢ reading.Standard → new.standard ≡ old.standard → next_file_row (with_main (main_found old) inner) ≡ (with_main (main_found new) inner, tt)
    file other same = skipped_file old new coming coming inner other (found_idle old new nothing ended next found same)

    by : (r : Reading) → old.reading ≡ r → StandardSkips r old.standard new.standard → next_file_row (with_main (main_found old) inner) ≡ (with_main (main_found new) inner, tt)
    by reading.Nothing e same = file (λ is. cc (sym e ∙ is)) same
    by reading.Standard e skips =
        ap (λ r. done_with (gives_up (reading_found r) (with_main (main_found old) inner))) e
        ∙ ap (λ (x : Source). done_with (with_main (record (idle (main_found old)) { standard = x }) inner)) (sym (nothing_left new.standard to_come skips.1 skips.2))
        ∙ ap (λ (x : MainInput). done_with (with_main x inner)) (sym (found_rest old new nothing ended next found))
    by (reading.File f) e same = file (λ is. cc (sym e ∙ is)) same
