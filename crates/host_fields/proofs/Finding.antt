-- The field of a number, found from the fields that are left.
use Rattle.std.proofs.Common.{◌≡◌, ◌⊎◌, inl, inr, ℕ, zero, suc, ◌-◌, ◌<◌, ◌≤◌, Bool, true, false, List, [], ◌∷◌, length, slice_range, Some, None, refl, sym, ap, ◌∙◌, arith}
use Rattle.std.specs.Prelude.{◌==◌, Option, slice_get}
use Rattle.std.proofs.lemmas.Bool.{false≢true}
use Rattle.sem_primitives.specs.Fields.{parted, pieces_of}
use Rattle.host_format.specs.Marks.{kept}
use Rattle.host_format.specs.Separators.{separator_by}
use Rattle.host_format.specs.declared.sep.Plain.{Plain}
use Rattle.host_format.specs.declared.sep.Plain.TheVariants.{Blanks, Byte}
use Rattle.host_format.proofs.Pieces.{kept_empty, kept_full, length_of_range}
use Rattle.host_fields.specs.Ends.{is_end, skips_empty}

-- bytes that are a field are the first of those that are kept
pub kept_field : (skip : Bool) (text : List ℕ) (from to : ℕ) (ps : List (List ℕ)) → to ≤ length text → (from < to) ⊎ (skip ≡ false) → kept skip (slice_range text from to ∷ ps) ≡ slice_range text from to ∷ kept skip ps
kept_field skip text from to ps within some =
    kept_full skip (slice_range text from to) ps (elim some [ inl less ↦ inl (omega (arith, less, length_of_range text from to within)) | inr e ↦ inr e ])

pub kept_gap : (skip : Bool) (text : List ℕ) (from to : ℕ) (ps : List (List ℕ)) → to ≤ length text → (to ≤ from) × (skip ≡ true) → kept skip (slice_range text from to ∷ ps) ≡ kept skip ps
kept_gap skip text from to ps within none = kept_empty skip (slice_range text from to) ps (let past = none.0 in omega (arith, past, length_of_range text from to within)) none.1

pub piece_here : (pieces : List (List ℕ)) (left : ℕ) (p : List ℕ) (rest : List (List ℕ)) (there : Option (List ℕ)) → pieces ≡ p ∷ rest → left ≡ 0 → slice_get pieces left ≡ there → Some p ≡ there
piece_here pieces left p rest there is none same = sym (ap (λ ps. slice_get ps 0) is) ∙ ap (slice_get pieces) (sym none) ∙ same

pub piece_later : (pieces : List (List ℕ)) (left : ℕ) (p : List ℕ) (rest : List (List ℕ)) (there : Option (List ℕ)) → pieces ≡ p ∷ rest → (left ≡ 0 → ⊥) → slice_get pieces left ≡ there → slice_get rest (left - 1) ≡ there
piece_later pieces zero p rest there is some same = absurd (some refl)
piece_later pieces (suc k) p rest there is some same =
    let less : suc k - 1 ≡ k = omega arith in ap (slice_get rest) less ∙ sym (ap (λ ps. slice_get ps (suc k)) is) ∙ same

-- past the last piece there is none
pub none_later : (skip : Bool) (p : List ℕ) (left : ℕ) → (left ≡ 0 → ⊥) → slice_get (kept skip (p ∷ [])) left ≡ None
none_later false p zero some = absurd (some refl)
none_later false p (suc k) some = refl
none_later true [] left some = refl
none_later true (c ∷ cs) zero some = absurd (some refl)
none_later true (c ∷ cs) (suc k) some = refl

pub pieces_are : (by : Plain) (newlines : Bool) (text : List ℕ) (b : Bool) → b ≡ (length text == 0) → b ≡ false → kept (skips_empty by) (parted (is_end by newlines) text) ≡ pieces_of (separator_by by) newlines text
pieces_are by newlines [] b e f = absurd (false≢true (sym f ∙ e))
pieces_are Blanks newlines (c ∷ cs) b e f = refl
pieces_are (Byte d) newlines (c ∷ cs) b e f = refl
