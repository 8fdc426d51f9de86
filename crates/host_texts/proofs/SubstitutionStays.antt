-- Setting a special variable leaves the text of a substitution.
use Rattle.std.proofs.Common.{◌≡◌, false, [], None, Result, Ok, Err, refl, subst}
use Rattle.awk_values.specs.Values.{number_of_value}
use Rattle.awk_values.specs.declared.fault.Fault.{Fault}
use Rattle.awk_values.specs.declared.value.Value.{Value}
use Rattle.awk_values.specs.declared.value.Value.TheVariants.{StrNum, Uninit}
use Rattle.world_core.specs.declared.world.Ending.TheVariants.{End}
use Rattle.sem_primitives.specs.FieldMeaning.{field_number, joined, resized, set_special, special_text, with_count}
use Rattle.sem_primitives.specs.SharedState.{Inner, NoFile, ◌>>=◌}
use Rattle.sem_primitives.specs.Texts.{limited}
use Rattle.sem_primitives.specs.declared.constants.Special.{Special}
use Rattle.sem_primitives.specs.declared.constants.Special.TheVariants.{Argc, Convfmt, Filename, Fnr, Fs, Nf, Nr, Ofmt, Ofs, Ors, Rlength, Rs, Rstart, Subsep}
use Rattle.host_texts.specs.States.{with_texts}
use Rattle.host_texts.specs.declared.texts.Texts.{Texts}

abbrev Stays : Inner → Result Inner Fault → Type 0
Stays i (Ok j) = j.substituted ≡ i.substituted
Stays i (Err fault) = Unit {0}

then_stays : {A : Type 0} (i : Inner) (r : Result A Fault) (f : A → Result Inner Fault) → ((a : A) → Stays i (f a)) → Stays i (r >>= f)
then_stays i (Ok a) f h = h a
then_stays i (Err fault) f h = tt

set_stays : (s : Special) (v : Value) (i : Inner) → Stays i (set_special s v i)
set_stays Argc v i = refl
set_stays Convfmt v i = refl
set_stays Filename v i = refl
set_stays Fnr v i = refl
set_stays Fs v i = refl
set_stays Nf v i =
    then_stays i (number_of_value v) (λ z. field_number z >>= λ n. with_count n i) (λ z.
    then_stays i (field_number z) (λ n. with_count n i) (λ n.
    then_stays i (limited (joined (special_text Ofs i) (resized n i.fields))) (λ text. Ok (record i { whole = StrNum text; fields = resized n i.fields })) (λ text. refl)))
set_stays Nr v i = refl
set_stays Ofmt v i = refl
set_stays Ofs v i = refl
set_stays Ors v i = refl
set_stays Rlength v i = refl
set_stays Rs v i = refl
set_stays Rstart v i = refl
set_stays Subsep v i = refl

-- some shared state
nothing_yet : Inner
nothing_yet = record {
  arrays = [];
  iterators = [];
  specials = λ s. Uninit;
  whole = Uninit;
  fields = [];
  readers = [];
  writers = [];
  main = record { standard = record { rest = []; ending = End }; next = 0; operands = NoFile; reading = None; ended = false };
  in_end = false;
  names = [];
  assigns = [];
  pending = None;
  line = None;
  substituted = None;
  finds = None;
}

pub substituted_stays : (t u : Texts) (s : Special) (v : Value) → ((inner : Inner) → set_special s v (with_texts t inner) ≡ Ok (with_texts u inner)) → u.substituted ≡ t.substituted
substituted_stays t u s v made = subst (Stays (with_texts t nothing_yet)) (made nothing_yet) (set_stays s v (with_texts t nothing_yet))
