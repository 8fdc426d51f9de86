-- The words of a list of arguments.
use Rattle.std.proofs.Common.{◌≡◌, ℕ, suc, ◌<◌, List, [], ◌∷◌, ◌++◌, length, take, get_or, sym, ap, ◌∙◌, append_assoc}
use Rattle.std.proofs.Math.Seq.{take-suc}
use Rattle.std.proofs.lemmas.List.{append-nil}
use Rattle.sem_primitives.specs.declared.sorts.Argument.{Argument}
use Rattle.host_imports.specs.Imports.{params_of, words_of}

params_of-push : (xs : List Argument) (a : Argument) → params_of (xs ++ a ∷ []) ≡ params_of xs ++ words_of a
params_of-push [] a = append-nil (words_of a)
params_of-push (x ∷ xs) a = ap (λ r. words_of x ++ r) (params_of-push xs a) ∙ sym (append_assoc (words_of x) (params_of xs) (words_of a))

-- the words of one argument more
pub params_of_next : (xs : List Argument) (i : ℕ) (d : Argument) → i < length xs → params_of (take (suc i) xs) ≡ params_of (take i xs) ++ words_of (get_or xs i d)
params_of_next xs i d below = ap params_of (take-suc xs i d below) ∙ params_of-push (take i xs) (get_or xs i d)
