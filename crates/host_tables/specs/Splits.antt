-- What the words of a split say, over the host's tables, and the pieces of a text.
use Rattle.std.specs.Prelude.{◌≡◌, ℕ, ℤ, Bool, false, List, Vec, Option, Some, Result, Ok, Err}
use Rattle.std.specs.Borrow.{Bor}
use Rattle.std.specs.declared.alloc.Global.{Global}
use Rattle.std.specs.FinMap as map
use Rattle.awk_values.specs.declared.fault.Fault.{Fault}
use Rattle.awk_values.specs.declared.value.Value.{Value}
use Rattle.sem_primitives.specs.Fields.{Separator, pieces_of}
use Rattle.sem_primitives.specs.Numbers.{number_word}
use Rattle.sem_primitives.specs.Texts.{counted}
use Rattle.sem_primitives.specs.declared.sorts.Constant.TheVariants as constant
use Rattle.wasm_store.specs.declared.trap.TrapKind.{TrapKind}
use Rattle.wasm_store.specs.declared.word.Word.{Word}
use Rattle.wasm_store.specs.declared.word.Word.TheVariants.{I64}
use Rattle.host_format.specs.Separators.{IsSep}
use Rattle.host_format.specs.Spans.{AreSpans}
use Rattle.host_format.specs.declared.sep.Sep.{Sep}
use Rattle.host_format.specs.declared.span.Span.{Span}
use Rattle.host_step.specs.Arguments.{and_then, constant_front, no_more}
use Rattle.host_values.specs.Evaluations.{Values}
use Rattle.host_values.specs.Fronts.{handle_front}
use Rattle.host_step.specs.declared.refusal.Refusal.{Refusal}
use Rattle.host_step.specs.declared.refusal.Refusal.TheVariants as why
use Rattle.host_values.specs.Forms.{Arrays}
use Rattle.host_values.specs.Reads.{number_front}

-- the handle of the text and the text, the array, the handle of the separator and the separator, and whether this is an expression
abbrev pub Said : Type 0
Said = ℤ × Value × ℤ × ℤ × Value × Bool

abbrev pub split_front : Arrays → Values → List Word → Result Said TrapKind
split_front arrays values words =
    and_then (handle_front values words) (λ x.
    and_then (number_front arrays x.2) (λ a.
    and_then (handle_front (map.remove values x.0) a.1) (λ y.
    and_then (constant_front constant.Flag y.2) (λ b.
    and_then (no_more b.1) (λ end.
    Ok (x.0, x.1, a.0, y.0, y.1, b.0))))))

-- what the code reads, of what it borrows
abbrev pub lent_split : Result (ℤ × Bor Value × ℤ × ℤ × Bor Value × Bool) TrapKind → Result Said TrapKind
lent_split (Ok x) = Ok (x.0, x.1.now, x.2, x.3, x.4.now, x.5)
lent_split (Err k) = Err k

-- Pieces.

-- an outcome is this separator
abbrev pub Parts : Result Separator Fault → Sep → Type 0
Parts outcome sep = (s : Separator) × (outcome ≡ Ok s) × IsSep sep s

-- this is the text, and these parts of it are its pieces at the separator that an outcome is
abbrev pub ArePieces : (wanted : List ℕ) → Result Separator Fault → (text : List ℕ) → List Span → Type 0
ArePieces wanted outcome text spans = (text ≡ wanted) × ((s : Separator) × (outcome ≡ Ok s) × AreSpans text spans (pieces_of s false text))

-- what splitting comes to: pieces, or the fault
abbrev pub IsFound : (wanted : List ℕ) → Result Separator Fault → Result (List ℕ × Vec Span Global) Fault → Type 0
IsFound wanted outcome (Ok x) = ArePieces wanted outcome x.0 x.1.items
IsFound wanted outcome (Err fault) = outcome ≡ Err fault

-- the array was filled, and how many pieces there are is answered
abbrev pub IsFilled : Result (Option Word) Refusal → ℕ → (wanted after : Arrays) → Type 0
IsFilled (Ok w) n wanted after = (w ≡ Some (I64 (number_word (counted n)))) × (after ≡ wanted)
IsFilled (Err why.NoMemory) n wanted after = Unit {0}
IsFilled (Err (why.Trap k)) n wanted after = ⊥
IsFilled (Err (why.Fault f)) n wanted after = ⊥
