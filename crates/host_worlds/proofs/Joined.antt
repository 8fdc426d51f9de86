-- Texts of values, joined from the first on.
use Rattle.std.proofs.Common.{◌≡◌, ◌<◌, ◌+◌, ℕ, suc, List, [], ◌∷◌, ◌++◌, length, take, get_or, sym, ap, ◌∙◌, arith, append_assoc}
use Rattle.std.proofs.Math.Seq.{take-suc}
use Rattle.std.proofs.lemmas.List.{append-nil}
use Rattle.awk_values.specs.Values.{text_of_value}
use Rattle.awk_values.specs.declared.value.Value.{Value}
use Rattle.sem_primitives.specs.FieldMeaning.{joined}
use Rattle.host_worlds.specs.Lines.{followed}

followed-push : (between : List ℕ) (xs : List Value) (y : Value) → followed between (xs ++ y ∷ []) ≡ followed between xs ++ (between ++ text_of_value y)
followed-push between [] y = append-nil (between ++ text_of_value y)
followed-push between (x ∷ xs) y =
    ap (λ (r : List ℕ). (between ++ text_of_value x) ++ r) (followed-push between xs y)
    ∙ sym (append_assoc (between ++ text_of_value x) (followed between xs) (between ++ text_of_value y))

-- one value more
pub followed_next : (between : List ℕ) (xs : List Value) (i : ℕ) (y : Value) → i < length xs → y ≡ get_or xs i y → followed between (take (i + 1) xs) ≡ followed between (take i xs) ++ (between ++ text_of_value y)
followed_next between xs i y below is =
    let more : i + 1 ≡ suc i = omega arith in
    ap (λ n. followed between (take n xs)) more ∙ ap (followed between) (take-suc xs i y below) ∙ followed-push between (take i xs) (get_or xs i y)
    ∙ ap (λ (v : Value). followed between (take i xs) ++ (between ++ text_of_value v)) (sym is)

pub joined_followed : (between : List ℕ) (x : Value) (xs : List Value) → joined between (x ∷ xs) ≡ text_of_value x ++ followed between xs
joined_followed between x [] = sym (append-nil (text_of_value x))
joined_followed between x (y ∷ xs) =
    ap (λ (r : List ℕ). text_of_value x ++ (between ++ r)) (joined_followed between y xs)
    ∙ ap (λ (r : List ℕ). text_of_value x ++ r) (sym (append_assoc between (text_of_value y) (followed between xs)))
