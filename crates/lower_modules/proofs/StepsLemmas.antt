-- Parts of a module, one element more.
use Rattle.std.proofs.Common.{◌≡◌, ℕ, ◌+◌, ◌<◌, Bool, true, false, List, ◌∷◌, length, drop, get_or, ap, ◌∙◌}
use Rattle.std.proofs.lemmas.List.{drop_more}
use Rattle.lower_model.specs.Modules.{chosen}
use Rattle.host_imports.specs.declared.import.Import.{Import}

chosen_at : (bs : List Bool) (xs : List Import) (i : ℕ) (c : Bool) (d : Import) → i < length bs → i < length xs → chosen (drop i bs) (drop i xs) ≡ chosen (get_or bs i c ∷ drop (i + 1) bs) (get_or xs i d ∷ drop (i + 1) xs)
chosen_at bs xs i c d p q = ap (λ (ys : List Import). chosen (drop i bs) ys) (drop_more xs i d q) ∙ ap (λ (cs : List Bool). chosen cs (get_or xs i d ∷ drop (i + 1) xs)) (drop_more bs i c p)

pub chosen_in : (bs : List Bool) (xs : List Import) (i : ℕ) (d : Import) → i < length bs → i < length xs → get_or bs i false ≡ true → chosen (drop i bs) (drop i xs) ≡ get_or xs i d ∷ chosen (drop (i + 1) bs) (drop (i + 1) xs)
chosen_in bs xs i d p q e = chosen_at bs xs i false d p q ∙ ap (λ (b : Bool). chosen (b ∷ drop (i + 1) bs) (get_or xs i d ∷ drop (i + 1) xs)) e

pub chosen_out : (bs : List Bool) (xs : List Import) (i : ℕ) (d : Import) → i < length bs → i < length xs → get_or bs i false ≡ false → chosen (drop i bs) (drop i xs) ≡ chosen (drop (i + 1) bs) (drop (i + 1) xs)
chosen_out bs xs i d p q e = chosen_at bs xs i false d p q ∙ ap (λ (b : Bool). chosen (b ∷ drop (i + 1) bs) (get_or xs i d ∷ drop (i + 1) xs)) e
