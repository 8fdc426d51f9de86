-- What is kept, by how many others were kept after it.
use Rattle.std.proofs.Common.{◌≡◌, ℕ, zero, suc, ◌-◌, ◌<◌, ◌≤◌, List, [], ◌∷◌, get_or, length, reverse, refl, sym, ap, ◌∙◌, arith}
use Rattle.std.proofs.lemmas.List.{get_or-reverse, length-reverse}
use Rattle.sem_primitives.specs.declared.sorts.Answer.TheVariants.{Nothing}
use Rattle.mid_program.specs.Mid.{PrimitiveAnswer, form_at}
use Rattle.lower_pieces.specs.Forms.{view_form}
use Rattle.lower_expressions.specs.Keeping.{Keeping, keeping_of}
use Rattle.lower_expressions.specs.declared.entry.Entry.{Entry}

form_there : (es : List Entry) (i : ℕ) (d : Entry) → i < length es → form_at (keeping_of es).forms i ≡ view_form (get_or es i d).form
form_there [] i d lt = absurd (omega arith)
form_there (e ∷ es) zero d lt = refl
form_there (e ∷ es) (suc i) d lt = form_there es i d (omega arith)

temporary_there : (es : List Entry) (i : ℕ) (d : Entry) → i < length es → get_or (keeping_of es).temporaries i 0 ≡ (get_or es i d).temporary
temporary_there [] i d lt = absurd (omega arith)
temporary_there (e ∷ es) zero d lt = refl
temporary_there (e ∷ es) (suc i) d lt = temporary_there es i d (omega arith)

no_form : (es : List Entry) (i : ℕ) → length es ≤ i → PrimitiveAnswer Nothing ≡ form_at (keeping_of es).forms i
no_form [] i le = refl
no_form (e ∷ es) zero le = absurd (omega arith)
no_form (e ∷ es) (suc i) le = no_form es i (omega arith)

no_temporary : (es : List Entry) (i : ℕ) → length es ≤ i → 0 ≡ get_or (keeping_of es).temporaries i 0
no_temporary [] i le = refl
no_temporary (e ∷ es) zero le = absurd (omega arith)
no_temporary (e ∷ es) (suc i) le = no_temporary es i (omega arith)

entry_from_end : (es : List Entry) (i place : ℕ) (r : Entry) → i < length es → place ≡ length es - 1 - i → r ≡ get_or es place r → r ≡ get_or (reverse es) i r
entry_from_end es i place r lt e h = h ∙ ap (λ (p : ℕ). get_or es p r) e ∙ sym (get_or-reverse es i r lt)

within_reverse : (es : List Entry) (i : ℕ) → i < length es → i < length (reverse es)
within_reverse es i lt = let e = length-reverse es in omega (arith, e)

pub form_from_end : (es : List Entry) (i place : ℕ) (r : Entry) (k : Keeping) → keeping_of (reverse es) ≡ k → i < length es → place ≡ length es - 1 - i → r ≡ get_or es place r → view_form r.form ≡ form_at k.forms i
form_from_end es i place r k e lt at h =
    ap (λ (x : Entry). view_form x.form) (entry_from_end es i place r lt at h) ∙ sym (form_there (reverse es) i r (within_reverse es i lt)) ∙ ap (λ (x : Keeping). form_at x.forms i) e

pub temporary_from_end : (es : List Entry) (i place : ℕ) (r : Entry) (k : Keeping) → keeping_of (reverse es) ≡ k → i < length es → place ≡ length es - 1 - i → r ≡ get_or es place r → r.temporary ≡ get_or k.temporaries i 0
temporary_from_end es i place r k e lt at h =
    ap (λ (x : Entry). x.temporary) (entry_from_end es i place r lt at h) ∙ sym (temporary_there (reverse es) i r (within_reverse es i lt)) ∙ ap (λ (x : Keeping). get_or x.temporaries i 0) e

past_reverse : (es : List Entry) (i : ℕ) → length es ≤ i → length (reverse es) ≤ i
past_reverse es i le = let e = length-reverse es in omega (arith, e)

pub form_past_end : (es : List Entry) (i : ℕ) (k : Keeping) → keeping_of (reverse es) ≡ k → length es ≤ i → PrimitiveAnswer Nothing ≡ form_at k.forms i
form_past_end es i k e le = no_form (reverse es) i (past_reverse es i le) ∙ ap (λ (x : Keeping). form_at x.forms i) e

pub temporary_past_end : (es : List Entry) (i : ℕ) (k : Keeping) → keeping_of (reverse es) ≡ k → length es ≤ i → 0 ≡ get_or k.temporaries i 0
temporary_past_end es i k e le = no_temporary (reverse es) i (past_reverse es i le) ∙ ap (λ (x : Keeping). get_or x.temporaries i 0) e
