-- What a refused expression's text is.
use Rattle.std.proofs.Common.{◌≡◌, inl, inr, ℕ, ◌<◌, ◌≤◌, [], ◌∷◌, length, get_or, arith, eqb-true, Bool, true, false, List, Option, Some, None, Ok, Err, refl, ap, ◌∙◌, le-leb, leb-true}
use Rattle.std.specs.Prelude.{◌==◌, ◌&&◌, nat_le, if◌then◌else◌}
use Rattle.awk_values.specs.declared.fault.Fault.TheVariants as faults
use Rattle.ere_syntax.specs.Answers.{IsRefused, IsTreeOf}
use Rattle.ere_syntax.specs.Scan.{IsEreOf}
use Rattle.ere_syntax.specs.EreOf.{ere_of}
use Rattle.ere_syntax.specs.Tree.{IsWithinLimits, Tree, nesting, positions}
use Rattle.ere_syntax.specs.declared.fault.EreFault.{EreFault}
use Rattle.ere_syntax.specs.declared.fault.EreFault.TheVariants.{BadEre, EreTooLarge, NoMemory}
use Rattle.ere_syntax.proofs.Scans.{text_again, text_sound}
use Rattle.sem_primitives.specs.Eres.{expression_of, or_bad, within_limits}
use Rattle.sem_primitives.specs.Fields.{Blanks, Byte, Expression}
use Rattle.sem_primitives.specs.SharedState.{◌>>=◌}
use Rattle.ere_match.specs.declared.automaton.Auto.{Auto}
use Rattle.std.proofs.lemmas.Bool.{cases_Bool}
use Rattle.host_format.specs.Expressions.{IsExpression, is_stop_of_ere}
use Rattle.host_format.specs.Separators.{IsLong, Separates}
use Rattle.host_format.specs.declared.sep.Sep.TheVariants as seps
use Rattle.host_bytes.specs.Outcomes.{IsStopOf}

within_is : (t : Tree) → IsWithinLimits t → within_limits t ≡ Ok t
within_is t w =
    let a : nat_le (positions t) 10000 ≡ true = le-leb (positions t) 10000 w.0 in
    let b : nat_le (nesting t) 1000 ≡ true = le-leb (nesting t) 1000 w.1 in
    ap (λ x. if x && nat_le (nesting t) 1000 then Ok t else Err faults.EreTooLarge) a ∙ ap (λ x. if x then Ok t else Err faults.EreTooLarge) b

past_by : (t : Tree) (a b : Bool) → nat_le (positions t) 10000 ≡ a → nat_le (nesting t) 1000 ≡ b → (IsWithinLimits t → ⊥) → (if a && b then Ok t else Err faults.EreTooLarge) ≡ Err faults.EreTooLarge
past_by t true true e f = λ never. absurd (never (leb-true (positions t) 10000 e, leb-true (nesting t) 1000 f))
past_by t true false e f = λ never. refl
past_by t false b e f = λ never. refl

bad_by : (text : List ℕ) (o : Option Tree) → ere_of text ≡ o → ((t : Tree) → IsEreOf text t → ⊥) → or_bad o ≡ Err faults.BadEre
bad_by text None e = λ never. refl
bad_by text (Some t) e = λ never. absurd (never t (text_sound text t e))

pub refused_is : (text : List ℕ) (fault : EreFault) → IsRefused text fault → IsStopOf (expression_of text) (is_stop_of_ere fault)
refused_is text (BadEre place) r = bad_by text (ere_of text) refl r.1
refused_is text EreTooLarge r = ap or_bad (text_again text r.0 r.1) ∙ past_by r.0 (nat_le (positions r.0) 10000) (nat_le (nesting r.0) 1000) refl refl r.2
refused_is text NoMemory r = tt

pub tree_is : (text : List ℕ) (t : Tree) → IsTreeOf text t → expression_of text ≡ Ok t
tree_is text t r = ap or_bad (text_again text t r.tree) ∙ within_is t r.within

-- The separator of a text.

not_same : (c : ℕ) → (c ≡ 32 → ⊥) → (c == 32) ≡ false
not_same c other = elim (cases_Bool (c == 32)) [ inl held ↦ absurd (other (eqb-true c 32 held)) | inr e ↦ e ]

pub byte_separates : (text : List ℕ) → 1 ≤ length text → length text < 2 → (get_or text 0 0 ≡ 32 → ⊥) → Separates text (seps.Byte (get_or text 0 0))
byte_separates [] some one other = absurd (omega arith)
byte_separates (c ∷ []) some one other =
    (Byte c, ap (λ b. Ok (if b then Blanks else Byte c)) (not_same c other), refl)
byte_separates (c ∷ d ∷ rest) some one other = absurd (omega arith)

pub long_text : (text : List ℕ) → 2 ≤ length text → IsLong text
long_text [] more = absurd (omega arith)
long_text (c ∷ []) more = absurd (omega arith)
long_text (c ∷ d ∷ rest) more = refl

pub ere_separates : (text : List ℕ) (auto : Auto) → IsLong text → IsExpression text auto → Separates text (seps.Ere auto)
ere_separates text auto long x = (Expression x.0, long ∙ ap (λ r. r >>= λ t. Ok (Expression t)) x.1, x.2)
