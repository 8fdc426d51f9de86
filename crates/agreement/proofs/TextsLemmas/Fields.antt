-- The pieces of a text are its fields.
use Rattle.std.proofs.Common.{◌≡◌, ℕ, Bool, false, List, [], ◌∷◌, Result, Ok, Err, refl, sym, ap, subst, ◌∙◌}
use Rattle.std.specs.Prelude.{◌↔◌, ◌&&◌, not}
use Rattle.awk_values.specs.declared.fault.Fault.{Fault}
use Rattle.sem_primitives.specs.SharedState.{◌>>=◌}
use Rattle.sem_primitives.specs.Texts.{is_empty}
use Rattle.sem_primitives.specs.Fields.{Separator, Blanks, Nothing, Byte, Expression, separator_of, pieces, pieces_of, fields_of}
use Rattle.agreement.specs.Texts.Fields.{AreBytes, no_byte, one_byte, AreFields}
use Rattle.agreement.proofs.TextsLemmas.Words.{words_are, words_value}
use Rattle.agreement.proofs.TextsLemmas.Parted.{by_expression, by_byte, same_parts}

bytes_are : (text : List ℕ) → AreBytes text (pieces Nothing false text)
bytes_are [] = no_byte
bytes_are (c ∷ cs) = one_byte (bytes_are cs)

bytes_value : {text : List ℕ} {fields : List (List ℕ)} → AreBytes text fields → fields ≡ pieces Nothing false text
bytes_value no_byte = refl
bytes_value (one_byte {c} r) = ap ((c ∷ []) ∷◌) (bytes_value r)

fields_are : (separator : Separator) (newlines : Bool) (text : List ℕ) → AreFields separator newlines text (pieces_of separator newlines text)
fields_are separator newlines [] = refl
fields_are Blanks newlines (c ∷ cs) = words_are (c ∷ cs)
fields_are Nothing newlines (c ∷ cs) = bytes_are (c ∷ cs)
fields_are (Byte b) newlines (c ∷ cs) = by_byte b newlines (c ∷ cs)
fields_are (Expression t) newlines (c ∷ cs) = by_expression t newlines (c ∷ cs)

fields_value : (separator : Separator) (newlines : Bool) (text : List ℕ) (fields : List (List ℕ)) → AreFields separator newlines text fields → fields ≡ pieces_of separator newlines text
fields_value separator newlines [] fields d = d
fields_value Blanks newlines (c ∷ cs) fields d = words_value d
fields_value Nothing newlines (c ∷ cs) fields d = bytes_value d
fields_value (Byte b) newlines (c ∷ cs) fields d = same_parts d (by_byte b newlines (c ∷ cs)) refl refl
fields_value (Expression t) newlines (c ∷ cs) fields d = same_parts d (by_expression t newlines (c ∷ cs)) refl refl

pub fields : (separator : Separator) (newlines : Bool) (text : List ℕ) (fields : List (List ℕ)) → AreFields separator newlines text fields ↔ (fields ≡ pieces_of separator newlines text)
fields separator newlines text fs = (fields_value separator newlines text fs, λ e. subst (AreFields separator newlines text) (sym e) (fields_are separator newlines text))

parts_of : Result (List (List ℕ)) Fault → List (List ℕ)
parts_of (Ok x) = x
parts_of (Err f) = []

pub record_fields : (fs rs text : List ℕ) (separator : Separator) (fields : List (List ℕ)) → separator_of fs ≡ Ok separator
    → AreFields separator (is_empty rs && not (is_empty fs)) text fields ↔ (fields_of fs rs text ≡ Ok fields)
unfolding parts_of
record_fields fs rs text separator parts e =
    let newlines : Bool = is_empty rs && not (is_empty fs) in
    let value : fields_of fs rs text ≡ Ok (pieces_of separator newlines text) = ap (λ r. r >>= λ s. Ok (pieces_of s newlines text)) e in (
      λ d. value ∙ ap (λ x. Ok x) (sym (fields_value separator newlines text parts d)),
      λ h. subst (AreFields separator newlines text) (ap parts_of (sym value ∙ h)) (fields_are separator newlines text),
    )
