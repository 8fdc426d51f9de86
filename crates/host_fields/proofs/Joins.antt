-- The text of a record that is made of its fields, field by field.
use Rattle.std.proofs.Common.{◌≡◌, ℕ, ◌+◌, ◌<◌, ◌≤◌, List, [], ◌∷◌, ◌++◌, length, take, drop, get_or, ◌-◌, add-one, drop-cons, ap, sym, ◌∙◌, append-nil, drop_of_length-le, suc, arith}
use Rattle.std.proofs.lemmas.List.{append_assoc, take_rest}
use Rattle.awk_values.specs.Values.{text_of_value}
use Rattle.awk_values.specs.declared.value.Value.{Value}
use Rattle.sem_primitives.specs.FieldMeaning.{joined}

-- the texts of the fields behind the first, each with the text before it
abbrev pub followed : List ℕ → List Value → List ℕ
followed between [] = []
followed between (v ∷ vs) = between ++ (text_of_value v ++ followed between vs)

joined_first : (between : List ℕ) (v : Value) (vs : List Value) → text_of_value v ++ followed between vs ≡ joined between (v ∷ vs)
joined_first between v [] = append-nil (text_of_value v)
joined_first between v (w ∷ ws) = ap (λ text. text_of_value v ++ (between ++ text)) (joined_first between w ws)

-- the first field is there
pub started : (between : List ℕ) (values : List Value) (first : Value) → 1 ≤ length values → first ≡ get_or values 0 first → text_of_value first ++ followed between (take (length values - 1) (drop 1 values)) ≡ joined between values
started between [] first some is = absurd (omega arith)
started between (v ∷ vs) first some is =
    ap (λ w. text_of_value w ++ followed between (take (length (v ∷ vs) - 1) (drop 1 (v ∷ vs)))) is
    ∙ ap (λ rest. text_of_value v ++ followed between rest) (take_rest (v ∷ vs) 1)
    ∙ joined_first between v vs

module _ (between : List ℕ) (rest : List Value) (at : ℕ) (value : Value) (out total : List ℕ) (inside : at < length rest) (is : value ≡ get_or rest at value)
    (told : out ++ followed between (drop at rest) ≡ total) where
  begins : drop at rest ≡ value ∷ drop (at + 1) rest
  begins = rw (add-one, drop-cons rest at value) (ap (λ v. v ∷ drop (suc at) rest) (sym is))

  -- a field more is there, with the text before it
  pub one_more : (put new : List ℕ) → put ≡ out ++ between → new ≡ put ++ text_of_value value → new ++ followed between (drop (at + 1) rest) ≡ total
  one_more put new p q =
      let tail = followed between (drop (at + 1) rest) in
      ap (λ xs. xs ++ tail) (q ∙ ap (λ xs. xs ++ text_of_value value) p)
      ∙ append_assoc (out ++ between) (text_of_value value) tail ∙ append_assoc out between (text_of_value value ++ tail)
      ∙ ap (λ vs. out ++ followed between vs) (sym begins) ∙ told

-- no field is left
pub all_there : (between : List ℕ) (rest : List Value) (at : ℕ) (out total : List ℕ) → length rest ≤ at → out ++ followed between (drop at rest) ≡ total → out ≡ total
all_there between rest at out total past told =
    sym (append-nil out) ∙ ap (λ vs. out ++ followed between vs) (sym (drop_of_length-le rest past)) ∙ told
