-- What is computed is given: the walk over the reader at hand and the operands.
use Rattle.std.proofs.Common.{◌≡◌, inl, inr, ℕ, zero, suc, ◌+◌, ◌-◌, Bool, true, false, List, [], ◌∷◌, Option, Some, None, Result, Ok, Err, refl, sym, ap, subst, ◌∙◌, arith}
use Rattle.std.specs.Prelude.{◌≢◌, ◌^◌, ℤ}
use Rattle.awk_values.specs.Values.{number_of_value}
use Rattle.awk_values.specs.declared.fault.Fault.{Fault}
use Rattle.world_core.specs.WorldState.{Outside, Source}
use Rattle.sem_primitives.specs.SharedState.{Inner, MainReader, Standard, File, Operands, NoFile, SomeFile, NoneLeft, ◌>>=◌, special_of}
use Rattle.sem_primitives.specs.Finds.{seen}
use Rattle.sem_primitives.specs.Assignments.{assignment_of, assigned}
use Rattle.sem_primitives.specs.Records.{Got, Record, AtEnd, Broken}
use Rattle.sem_primitives.specs.MainInput.{got_main, read_main, opened, made, file_or_assignment, taken, over, follows, reached, reach, reach_by, next_operand, go_on, main_input}
use Rattle.sem_primitives.specs.InputParts.{next_record, reader_source, leaves, stops_reading, begins_reading, with_operands, file_named, reader_of, operand_text, passes_operand, is_below}
use Rattle.sem_primitives.specs.Carrying.{counted_by, carried_behind, carried_reading, carried_opened, carried_operand, carried_taken, carried_reached, carried_reach, carried_by, carried_next, carried_on, carried_main}
use Rattle.sem_primitives.specs.declared.constants.Special.TheVariants.{Argc}
use Rattle.agreement.specs.Input.MainInput as walk
use Rattle.agreement.specs.Input.MainInput.{Given, Reader, Operand, Gives, GivesNext, IsNext, IsPast}
use Rattle.agreement.proofs.InputLemmas.Kept.{assigned_keeps}

-- what is left keeps the number of the next operand and whether one named a file
pub leaves_next : (reader : MainReader) (left : Source) (inner : Inner) → (leaves reader left inner).main.next ≡ inner.main.next
leaves_next Standard left inner = refl
leaves_next (File source) left inner = refl

pub leaves_operands : (reader : MainReader) (left : Source) (inner : Inner) → (leaves reader left inner).main.operands ≡ inner.main.operands
leaves_operands Standard left inner = refl
leaves_operands (File source) left inner = refl

-- the state where an operand is a file, and that in which it is read
abbrev pub file_state : Inner → Inner
file_state inner = file_named (passes_operand inner)

abbrev pub reading_state : Inner → List ℕ → MainReader → Inner
reading_state inner name reader = begins_reading name reader (file_state inner)

pub some_file : (o : Operands) → o ≡ SomeFile → o ≢ NoneLeft
some_file NoneLeft e h = absurd cc
some_file NoFile e h = absurd cc
some_file SomeFile e h = absurd cc

-- nothing is carried out after the operands
pub none_made : (reader : MainReader) (inner : Inner) → carried_reading (λ i. 0) reader inner ≡ 0
none_made reader inner = by (next_record inner (reader_source reader inner))
  where
    by : (r : Result (Got × Source) Fault) → carried_behind (λ i. 0) reader inner r ≡ 0
    by (Ok (Record text, left)) = refl
    by (Ok (AtEnd, left)) = refl
    by (Ok (Broken, left)) = refl
    by (Err fault) = refl

module _ (outside : Outside) where
  -- what these functions give and count
  abbrev Follow : (Inner → Given) → (Inner → ℕ) → Inner → Type 0
  Follow on count inner = Gives outside Operand inner (on inner) (count inner)

  reader_gives : (on : Inner → Given) (count : Inner → ℕ) (reader : MainReader) (inner : Inner) →
      ((left : Source) → Follow on count (stops_reading (leaves reader left inner))) →
      Gives outside (Reader reader) inner (read_main on reader inner) (carried_reading count reader inner)
  reader_gives on count reader inner go = by (next_record inner (reader_source reader inner)) refl
    where
      by : (r : Result (Got × Source) Fault) → next_record inner (reader_source reader inner) ≡ r →
          Gives outside (Reader reader) inner (r >>= λ got. got_main on reader inner got) (carried_behind count reader inner r)
      by (Ok (Record text, left)) e = walk.one_record text left e
      by (Ok (AtEnd, left)) e = walk.at_end left e (go left)
      by (Ok (Broken, left)) e = walk.broken left e
      by (Err fault) e = walk.too_long e

  past_gives : (inner : Inner) → IsPast inner → inner.main.operands ≢ NoneLeft → Gives outside Operand inner (follows inner.main.operands inner) 0
  past_gives inner past some = by inner.main.operands refl
    where
      by : (o : Operands) → inner.main.operands ≡ o → Gives outside Operand inner (follows o inner) 0
      by NoFile e =
          let from : Inner = begins_reading [] Standard (with_operands NoneLeft inner) in
          walk.standard_input e past (subst (Gives outside (Reader Standard) from (read_main over Standard from)) (none_made Standard from)
          (reader_gives over (λ i. 0) Standard from (λ left. walk.followed refl)))
      by SomeFile e = walk.none_left e past
      by NoneLeft e = absurd (some e)

  -- an operand, where what is looked at after it is known
  module _ (on : Inner → Given) (count : Inner → ℕ) (inner : Inner)
      (go : (after : Inner) → after.main.operands ≢ NoneLeft → after.main.next ≡ inner.main.next + 1 → Follow on count after) where
    file_gives : (c : ℕ) (cs : List ℕ) → IsNext inner (c ∷ cs) → assignment_of (c ∷ cs) ≡ None →
        Gives outside Operand inner (opened on (c ∷ cs) (reader_of (seen inner outside) (c ∷ cs)) (file_state inner)) (carried_opened count (c ∷ cs)
        (reader_of (seen inner outside) (c ∷ cs)) (file_state inner))
    file_gives c cs next none = by (reader_of (seen inner outside) (c ∷ cs)) refl
      where
        by : (o : Option MainReader) → reader_of (seen inner outside) (c ∷ cs) ≡ o →
            Gives outside Operand inner (opened on (c ∷ cs) o (file_state inner)) (carried_opened count (c ∷ cs) o (file_state inner))
        by None e = walk.not_opened c cs next none e
        by (Some reader) e = walk.opened c cs reader next none e (reader_gives on count reader (reading_state inner (c ∷ cs) reader)
            (λ left. go (stops_reading (leaves reader left (reading_state inner (c ∷ cs) reader)))
            (some_file (leaves reader left (reading_state inner (c ∷ cs)
            reader)).main.operands (leaves_operands reader left (reading_state inner (c ∷ cs) reader)))
            (leaves_next reader left (reading_state inner (c ∷ cs) reader))))

    assignment_gives : (c : ℕ) (cs name text : List ℕ) → IsNext inner (c ∷ cs) → assignment_of (c ∷ cs) ≡ Some (name, text) →
        Gives outside Operand inner (assigned name text (passes_operand inner) >>= λ x. made on x)
        (counted_by count (assigned name text (passes_operand inner)))
    assignment_gives c cs name text next e = by (assigned name text (passes_operand inner)) refl
      where
        by : (r : Result (Inner × Bool) Fault) → assigned name text (passes_operand inner) ≡ r →
            Gives outside Operand inner (r >>= λ x. made on x) (counted_by count r)
        by (Ok (after, true)) f = walk.left_to_script c cs name text after next e f
        by (Ok (after, false)) f =
            let same = assigned_keeps name text (passes_operand inner) after false f in
            walk.carried_out c cs name text after next e f (go after (λ h. next.looked (sym (ap (λ m. m.operands) same) ∙ h)) (ap (λ m. m.next) same))
        by (Err fault) f = walk.not_allowed c cs name text next e f

    taken_gives : (text : List ℕ) → IsNext inner text → Gives outside Operand inner (taken on outside text (passes_operand inner))
        (carried_taken count outside text (passes_operand inner))
    taken_gives [] next = walk.skipped next (go (passes_operand inner) next.looked refl)
    taken_gives (c ∷ cs) next = by (assignment_of (c ∷ cs)) refl
      where
        by : (o : Option (List ℕ × List ℕ)) → assignment_of (c ∷ cs) ≡ o →
            Gives outside Operand inner (file_or_assignment on outside (c ∷ cs) o (passes_operand inner)) (carried_operand count outside (c ∷ cs)
            o (passes_operand inner))
        by (Some (name, text)) e = assignment_gives c cs name text next e
        by None e = file_gives c cs next e

  -- n operands may still be taken
  reach_gives : (n : ℕ) (inner : Inner) → inner.main.operands ≢ NoneLeft → 2 ^ 20 + 1 - inner.main.next ≡ n →
      Gives outside Operand inner (reach n outside inner) (carried_reach n outside inner)
  reach_gives zero inner some left = by (number_of_value (special_of inner Argc)) refl
    where
      by : (r : Result ℤ Fault) → number_of_value (special_of inner Argc) ≡ r → Gives outside Operand inner (r >>= λ argc. follows inner.main.operands inner) 0
      by (Ok argc) e = past_gives inner (record { argc = argc; count = e; past = inl (omega (arith, left)) }) some
      by (Err fault) e = walk.no_count some e
  reach_gives (suc n) inner some left =
      by (λ after kept next. reach_gives n after kept (omega (arith, left, next))) (number_of_value (special_of inner Argc)) refl
    where
      below : ((after : Inner) → after.main.operands ≢ NoneLeft → after.main.next ≡ inner.main.next + 1 →
          Follow (reach n outside) (carried_reach n outside) after) →
          (argc : ℤ) → number_of_value (special_of inner Argc) ≡ Ok argc → (b : Bool) → is_below inner.main.next argc ≡ b →
          Gives outside Operand inner
          (elim b [
            | true ↦ taken (reach n outside) outside (operand_text inner.main.next inner) (passes_operand inner)
            | false ↦ follows inner.main.operands inner
          ])
          (elim b [ true ↦ carried_taken (carried_reach n outside) outside (operand_text inner.main.next inner) (passes_operand inner) | false ↦ 0 ])
      below go argc e true f = taken_gives (reach n outside) (carried_reach n outside) inner go (operand_text inner.main.next inner)
          (record { looked = some; within = omega (arith, left); argc = argc; count = e; below = f; here = refl })
      below go argc e false f = past_gives inner (record { argc = argc; count = e; past = inr f }) some

      by : ((after : Inner) → after.main.operands ≢ NoneLeft → after.main.next ≡ inner.main.next + 1 →
          Follow (reach n outside) (carried_reach n outside) after) →
          (r : Result ℤ Fault) → number_of_value (special_of inner Argc) ≡ r →
          Gives outside Operand inner (r >>= reached (reach n outside) outside inner) (carried_reached (carried_reach n outside) outside inner r)
      by go (Ok argc) e = below go argc e (is_below inner.main.next argc) refl
      by go (Err fault) e = walk.no_count some e

  operand_gives : (inner : Inner) → Follow (next_operand outside) (carried_next outside) inner
  operand_gives inner = by inner.main.operands refl
    where
      differs : (o : Operands) → o ≢ NoneLeft → inner.main.operands ≡ o → inner.main.operands ≢ NoneLeft
      differs o some e h = some (sym e ∙ h)

      by : (o : Operands) → inner.main.operands ≡ o → Gives outside Operand inner (reach_by o outside inner) (carried_by o outside inner)
      by NoneLeft e = walk.followed e
      by NoFile e = reach_gives (2 ^ 20 + 1 - inner.main.next) inner (differs NoFile (λ h. absurd cc) e) refl
      by SomeFile e = reach_gives (2 ^ 20 + 1 - inner.main.next) inner (differs SomeFile (λ h. absurd cc) e) refl

  pub main_gives : (inner : Inner) → GivesNext outside inner (main_input outside inner) (carried_main outside inner)
  main_gives inner = by inner.main.ended inner.main.reading refl refl
    where
      by : (b : Bool) (o : Option MainReader) → inner.main.ended ≡ b → inner.main.reading ≡ o →
          GivesNext outside inner (go_on b o (next_operand outside) inner) (carried_on b o outside inner)
      by true o e f = walk.ended e
      by false None e f = walk.from_operand e f (operand_gives inner)
      by false (Some reader) e f = walk.from_reader reader e f (reader_gives (next_operand outside) (carried_next outside) reader inner
          (λ left. operand_gives (stops_reading (leaves reader left inner))))
