-- What is given is computed.
use Rattle.std.proofs.Common.{◌≡◌, inl, inr, ℕ, zero, suc, ◌+◌, ◌-◌, Bool, true, false, List, [], ◌∷◌, Option, Some, None, Result, Ok, Err, refl, sym, ap, ◌∙◌, arith}
use Rattle.std.specs.Prelude.{◌≢◌, ◌^◌, ℤ}
use Rattle.awk_values.specs.Values.{number_of_value}
use Rattle.awk_values.specs.declared.fault.Fault.{Fault}
use Rattle.world_core.specs.WorldState.{Outside, Source}
use Rattle.sem_primitives.specs.SharedState.{Inner, MainReader, Standard, Operands, NoFile, SomeFile, NoneLeft, ◌>>=◌, special_of}
use Rattle.sem_primitives.specs.Finds.{seen}
use Rattle.sem_primitives.specs.Assignments.{assignment_of, assigned}
use Rattle.sem_primitives.specs.Records.{Got, Record, AtEnd, Broken}
use Rattle.sem_primitives.specs.MainInput.{got_main, read_main, opened, made, file_or_assignment, taken, over, follows, reached, reach, reach_by, next_operand, go_on, main_input}
use Rattle.sem_primitives.specs.InputParts.{next_record, reader_source, leaves, stops_reading, begins_reading, with_operands, reader_of, operand_text, passes_operand, is_below}
use Rattle.sem_primitives.specs.Carrying.{counted_by, carried_behind, carried_reading, carried_opened, carried_operand, carried_taken, carried_reached, carried_reach, carried_by, carried_next, carried_on, carried_main}
use Rattle.sem_primitives.specs.declared.constants.Special.TheVariants.{Argc}
use Rattle.agreement.specs.Input.MainInput as walk
use Rattle.agreement.specs.Input.MainInput.{Given, Stage, Reader, Operand, Gives, GivesNext, IsNext, IsPast}
use Rattle.agreement.proofs.InputLemmas.Kept.{assigned_keeps}
use Rattle.agreement.proofs.InputLemmas.Given.{file_state, leaves_next, leaves_operands, none_made, reading_state, some_file}

-- two ways to go on after a reader that agree there

read_same : (f g : Inner → Given) (reader : MainReader) (inner : Inner) →
    ((left : Source) → f (stops_reading (leaves reader left inner)) ≡ g (stops_reading (leaves reader left inner))) →
    read_main f reader inner ≡ read_main g reader inner
read_same f g reader inner same = by (next_record inner (reader_source reader inner))
  where
    by : (r : Result (Got × Source) Fault) → (r >>= λ got. got_main f reader inner got) ≡ (r >>= λ got. got_main g reader inner got)
    by (Ok (Record text, left)) = refl
    by (Ok (AtEnd, left)) = same left
    by (Ok (Broken, left)) = refl
    by (Err fault) = refl

count_same : (f g : Inner → ℕ) (reader : MainReader) (inner : Inner) →
    ((left : Source) → f (stops_reading (leaves reader left inner)) ≡ g (stops_reading (leaves reader left inner))) →
    carried_reading f reader inner ≡ carried_reading g reader inner
count_same f g reader inner same = by (next_record inner (reader_source reader inner))
  where
    by : (r : Result (Got × Source) Fault) → carried_behind f reader inner r ≡ carried_behind g reader inner r
    by (Ok (Record text, left)) = refl
    by (Ok (AtEnd, left)) = same left
    by (Ok (Broken, left)) = refl
    by (Err fault) = refl

module _ (outside : Outside) where
  -- how many operands may still be taken
  abbrev rest : Inner → ℕ
  rest inner = 2 ^ 20 + 1 - inner.main.next

  abbrev Reaches : Inner → Given → ℕ → Type 0
  Reaches inner given count = (next_operand outside inner ≡ given) × (carried_next outside inner ≡ count)

  reaches : (inner : Inner) → inner.main.operands ≢ NoneLeft → Reaches inner (reach (rest inner) outside inner) (carried_reach (rest inner) outside inner)
  reaches inner some = by inner.main.operands some
    where
      by : (o : Operands) → o ≢ NoneLeft → (reach_by o outside inner ≡ reach (rest inner) outside inner)
          × (carried_by o outside inner ≡ carried_reach (rest inner) outside inner)
      by NoFile h = (refl, refl)
      by SomeFile h = (refl, refl)
      by NoneLeft h = absurd (h refl)

  -- after an operand
  next_reaches : (inner after : Inner) → after.main.operands ≢ NoneLeft → after.main.next ≡ inner.main.next + 1 →
      Reaches after (reach (2 ^ 20 + 1 - (inner.main.next + 1)) outside after) (carried_reach (2 ^ 20 + 1 - (inner.main.next + 1)) outside after)
  next_reaches inner after some e = (
    (reaches after some).0 ∙ ap (λ n. reach (2 ^ 20 + 1 - n) outside after) e,
    (reaches after some).1 ∙
        ap (λ n. carried_reach (2 ^ 20 + 1 - n) outside after) e,
  )

  fault_reaches : (inner : Inner) (fault : Fault) → number_of_value (special_of inner Argc) ≡ Err fault → (n : ℕ) →
      (reach n outside inner ≡ Err fault) × (carried_reach n outside inner ≡ 0)
  fault_reaches inner fault e zero = (ap (λ z. z >>= λ argc. follows inner.main.operands inner) e, refl)
  fault_reaches inner fault e (suc n) = (
    ap (λ z. z >>= reached (reach n outside) outside inner) e,
    ap (carried_reached (carried_reach n outside)
        outside inner) e,
  )

  -- the choice by ARGC
  abbrev chosen : ℕ → Inner → Bool → Given
  chosen n inner b = elim b [
    | true ↦ taken (reach n outside) outside (operand_text inner.main.next inner) (passes_operand inner)
    | false ↦ follows inner.main.operands inner
  ]

  abbrev chosen_count : ℕ → Inner → Bool → ℕ
  chosen_count n inner b = elim b [
    | true ↦ carried_taken (carried_reach n outside) outside (operand_text inner.main.next inner)
        (passes_operand inner)
    | false ↦ 0
  ]

  above_reaches : (inner : Inner) (argc : ℤ) → number_of_value (special_of inner Argc) ≡ Ok argc → is_below inner.main.next argc ≡ false → (n : ℕ) →
      (reach n outside inner ≡ follows inner.main.operands inner) × (carried_reach n outside inner ≡ 0)
  above_reaches inner argc e f zero = (ap (λ z. z >>= λ argc. follows inner.main.operands inner) e, refl)
  above_reaches inner argc e f (suc n) = (
    ap (λ z. z >>= reached (reach n outside) outside inner) e ∙
        ap (chosen n inner) f,
    ap (carried_reached (carried_reach n outside) outside inner) e ∙ ap (chosen_count n inner) f,
  )

  past_reaches : (inner : Inner) → IsPast inner → inner.main.operands ≢ NoneLeft → Reaches inner (follows inner.main.operands inner) 0
  past_reaches inner p some = elim p.past [
    | inl more ↦ (let none : rest inner ≡ 0 = omega (arith, more) in (
      (reaches inner some).0 ∙ (ap (λ n. reach n outside inner) none ∙ ap (λ z. z >>= λ argc. follows inner.main.operands inner) p.count),
      (reaches inner some).1 ∙ ap (λ n. carried_reach n outside inner) none,
    ))
    | inr f ↦ (let x = above_reaches inner p.argc p.count f (rest inner) in ((reaches inner some).0 ∙ x.0, (reaches inner some).1 ∙ x.1))
  ]

  abbrev others : Inner → ℕ
  others inner = 2 ^ 20 + 1 - (inner.main.next + 1)

  text_reaches : (inner : Inner) (text : List ℕ) → IsNext inner text →
      Reaches inner (taken (reach (others inner) outside) outside text (passes_operand inner)) (carried_taken (carried_reach (others inner) outside)
      outside text (passes_operand inner))
  text_reaches inner text n =
      let within = n.within in
      let one : rest inner ≡ suc (others inner) = omega (arith, within) in (
        (reaches inner n.looked).0 ∙ (ap (λ k. reach k outside inner) one ∙ (ap (λ z. z >>= reached (reach (others inner) outside) outside inner) n.count ∙
            (ap (chosen (others inner) inner) n.below ∙ ap (λ t. taken (reach (others inner) outside) outside t (passes_operand inner)) n.here))),
        (reaches inner n.looked).1 ∙ (ap (λ k. carried_reach k outside inner) one ∙
            (ap (carried_reached (carried_reach (others inner) outside) outside inner) n.count ∙
            (ap (chosen_count (others inner) inner) n.below ∙ ap (λ t. carried_taken (carried_reach (others inner) outside)
            outside t (passes_operand inner)) n.here))),
      )

  abbrev Says : Stage → Inner → Given → ℕ → Type 0
  Says (Reader reader) inner given count = (read_main (next_operand outside) reader inner ≡ given) × (carried_reading (carried_next outside)
      reader inner ≡ count)
  Says Operand inner given count = Reaches inner given count

  reader_says : (reader : MainReader) (inner : Inner) (r : Result (Got × Source) Fault) → next_record inner (reader_source reader inner) ≡ r →
      Says (Reader reader) inner (r >>= λ got. got_main (next_operand outside) reader inner got) (carried_behind (carried_next outside) reader inner r)
  reader_says reader inner r e = (
    ap (λ x. x >>= λ got. got_main (next_operand outside) reader inner got)
        e,
    ap (carried_behind (carried_next outside) reader inner) e,
  )

  -- an operand that is no assignment, and one that is
  file_says : (inner : Inner) (c : ℕ) (cs : List ℕ) (o : Option MainReader) → IsNext inner (c ∷ cs) → assignment_of (c ∷ cs) ≡ None →
      reader_of (seen inner outside) (c ∷ cs) ≡ o →
      Reaches inner (opened (reach (others inner) outside) (c ∷ cs) o (file_state inner)) (carried_opened (carried_reach (others inner) outside)
      (c ∷ cs) o (file_state inner))
  file_says inner c cs o n e f =
      let t = text_reaches inner (c ∷ cs) n in
      let at : Inner = file_state inner in (
        t.0 ∙ (ap (λ a. file_or_assignment (reach (others inner) outside) outside (c ∷ cs) a (passes_operand inner)) e ∙
            ap (λ a. opened (reach (others inner) outside) (c ∷ cs) a at) f),
        t.1 ∙ (ap (λ a. carried_operand (carried_reach (others inner) outside) outside (c ∷ cs) a (passes_operand inner)) e ∙
            ap (λ a. carried_opened (carried_reach (others inner) outside) (c ∷ cs) a at) f),
      )

  assignment_says : (inner : Inner) (c : ℕ) (cs name text : List ℕ) (r : Result (Inner × Bool) Fault) → IsNext inner (c ∷ cs) →
      assignment_of (c ∷ cs) ≡ Some (name, text) →
      assigned name text (passes_operand inner) ≡ r → Reaches inner (r >>= λ x. made (reach (others inner) outside) x)
      (counted_by (carried_reach (others inner) outside) r)
  assignment_says inner c cs name text r n e f =
      let t = text_reaches inner (c ∷ cs) n in (
        t.0 ∙ (ap (λ a. file_or_assignment (reach (others inner) outside) outside (c ∷ cs) a (passes_operand inner)) e ∙
            ap (λ z. z >>= λ x. made (reach (others inner) outside) x) f),
        t.1 ∙ (ap (λ a. carried_operand (carried_reach (others inner) outside) outside (c ∷ cs) a (passes_operand inner)) e ∙
            ap (counted_by (carried_reach (others inner) outside)) f),
      )

  opened_says : (inner : Inner) (c : ℕ) (cs : List ℕ) (reader : MainReader) (given : Given) (count : ℕ) → IsNext inner (c ∷ cs) →
      assignment_of (c ∷ cs) ≡ None →
      reader_of (seen inner outside) (c ∷ cs) ≡ Some reader →
      Says (Reader reader) (reading_state inner (c ∷ cs) reader) given count → Reaches inner given count
  opened_says inner c cs reader given count n e f d =
      let at : Inner = reading_state inner (c ∷ cs) reader in
      let x = file_says inner c cs (Some reader) n e f in (
        x.0 ∙ (read_same (reach (others inner) outside) (next_operand outside) reader at (λ left. sym (there left).0) ∙ d.0),
        x.1 ∙ (count_same (carried_reach (others inner) outside) (carried_next outside) reader at (λ left. sym (there left).1) ∙ d.1),
      )
    where
      there : (left : Source) → Reaches (stops_reading (leaves reader left (reading_state inner (c ∷ cs) reader)))
          (reach (others inner) outside (stops_reading (leaves reader left (reading_state inner (c ∷ cs) reader))))
          (carried_reach (others inner) outside (stops_reading (leaves reader left (reading_state inner (c ∷ cs) reader))))
      there left = next_reaches inner (stops_reading (leaves reader left (reading_state inner (c ∷ cs) reader)))
          (some_file (leaves reader left (reading_state inner (c ∷ cs)
          reader)).main.operands (leaves_operands reader left (reading_state inner (c ∷ cs) reader)))
          (leaves_next reader left (reading_state inner (c ∷ cs) reader))

  some_of : (inner : Inner) (o : Operands) → o ≢ NoneLeft → inner.main.operands ≡ o → inner.main.operands ≢ NoneLeft
  some_of inner o some e h = some (sym e ∙ h)

  says : {stage : Stage} {inner : Inner} {given : Given} {count : ℕ} → Gives outside stage inner given count → Says stage inner given count
  says (walk.one_record {reader} {inner} text left e) = reader_says reader inner (Ok (Record text, left)) e
  says (walk.broken {reader} {inner} left e) = reader_says reader inner (Ok (Broken, left)) e
  says (walk.too_long {reader} {inner} {fault} e) = reader_says reader inner (Err fault) e
  says (walk.at_end {reader} {inner} left e d) =
      let x = reader_says reader inner (Ok (AtEnd, left)) e in
      let y = says d in
      (x.0 ∙ y.0, x.1 ∙ y.1)
  says (walk.followed {inner} e) = (ap (λ o. reach_by o outside inner) e, ap (λ o. carried_by o outside inner) e)
  says (walk.no_count {inner} {fault} some e) =
      let x = fault_reaches inner fault e (rest inner) in
      ((reaches inner some).0 ∙ x.0, (reaches inner some).1 ∙ x.1)
  says (walk.none_left {inner} e p) =
      let x = past_reaches inner p (some_of inner SomeFile (λ h. absurd cc) e) in
      (x.0 ∙ ap (λ o. follows o inner) e, x.1)
  says (walk.standard_input {inner} e p d) =
      let x = past_reaches inner p (some_of inner NoFile (λ h. absurd cc) e) in
      let y = says d in
      let from : Inner = begins_reading [] Standard (with_operands NoneLeft inner) in (
        x.0 ∙ (ap (λ o. follows o inner) e ∙ (read_same over (next_operand outside) Standard from (λ left. refl) ∙ y.0)),
        x.1 ∙ (sym (none_made Standard from) ∙ (count_same (λ i. 0) (carried_next outside) Standard from (λ left. refl) ∙ y.1)),
      )
  says (walk.skipped {inner} n d) =
      let x = text_reaches inner [] n in
      let y = says d in
      let z = next_reaches inner (passes_operand inner) n.looked refl in
      (x.0 ∙ (sym z.0 ∙ y.0), x.1 ∙ (sym z.1 ∙ y.1))
  says (walk.not_allowed {inner} {fault} c cs name text n e f) = assignment_says inner c cs name text (Err fault) n e f
  says (walk.left_to_script {inner} c cs name text after n e f) = assignment_says inner c cs name text (Ok (after, true)) n e f
  says (walk.carried_out {inner} c cs name text after n e f d) =
      let x = assignment_says inner c cs name text (Ok (after, false)) n e f in
      let y = says d in
      let same = assigned_keeps name text (passes_operand inner) after false f in
      let z = next_reaches inner after (λ h. n.looked (sym (ap (λ m. m.operands) same) ∙ h)) (ap (λ m. m.next) same) in
      (x.0 ∙ (sym z.0 ∙ y.0), x.1 ∙ ap suc (sym z.1 ∙ y.1))
  says (walk.not_opened {inner} c cs n e f) = file_says inner c cs None n e f
  says (walk.opened {inner} {given} {made} c cs reader n e f d) = opened_says inner c cs reader given made n e f (says d)

  pub main_says : {inner : Inner} {given : Given} {count : ℕ} → GivesNext outside inner given count →
      (main_input outside inner ≡ given) × (carried_main outside inner ≡ count)
  main_says (walk.ended {inner} e) =
      (ap (λ b. go_on b inner.main.reading (next_operand outside) inner) e, ap (λ b. carried_on b inner.main.reading outside inner) e)
  main_says (walk.from_reader {inner} reader e f d) =
      let y = says d in (
        ap (λ b. go_on b inner.main.reading (next_operand outside) inner) e ∙ (ap (λ o. go_on false o (next_operand outside) inner) f ∙ y.0),
        ap (λ b. carried_on b inner.main.reading outside inner) e ∙ (ap (λ o. carried_on false o outside inner) f ∙ y.1),
      )
  main_says (walk.from_operand {inner} e f d) =
      let y = says d in (
        ap (λ b. go_on b inner.main.reading (next_operand outside) inner) e ∙ (ap (λ o. go_on false o (next_operand outside) inner) f ∙ y.0),
        ap (λ b. carried_on b inner.main.reading outside inner) e ∙ (ap (λ o. carried_on false o outside inner) f ∙ y.1),
      )
