-- The texts of a script stand among the texts of its code.
use Rattle.std.proofs.Common.{◌≡◌, ℕ, suc, ◌<◌, Bool, true, false, List, [], ◌∷◌, ◌++◌, length, refl, sym, true≢false, lt-ltb, arith}
use Rattle.std.proofs.lemmas.Slice.Eq.{bytes_eq-Decides}
use Rattle.std.specs.Prelude.{if◌then◌else◌}
use Rattle.sem_scripts.specs.Names.{Resolved, same_name}
use Rattle.mid_program.specs.Texts.{has_text, once, text_place, texts_of_script, items_texts, functions_texts}
use Rattle.script_code.proofs.Sound.{AllWithin}

abbrev IsPlaced : List (List ℕ) → List ℕ → Type 0
IsPlaced texts t = text_place texts t < length texts

-- a text that is in the list is placed in it
in_list_by : (texts : List (List ℕ)) (t : List ℕ) (b : Bool) → (if b then true else has_text texts t) ≡ true → (has_text texts t ≡ true → IsPlaced texts t) → (if b then 0 else suc (text_place texts t)) < suc (length texts)
in_list_by texts t true e h = omega arith
in_list_by texts t false e h = let l = h e in omega (arith, l)

in_list : (texts : List (List ℕ)) (t : List ℕ) → has_text texts t ≡ true → IsPlaced texts t
in_list [] t e = absurd (true≢false (sym e))
in_list (s ∷ texts) t e = let l = in_list_by texts t (same_name s t) e (in_list texts t) in omega (arith, l)

-- and stays placed when another comes at the end
longer_by : (n m p q : ℕ) (b : Bool) → (if b then 0 else suc n) < suc m → (n < m → p < q) → (if b then 0 else suc p) < suc q
longer_by n m p q true l h = omega arith
longer_by n m p q false l h = let k = h (omega (arith, l)) in omega (arith, k)

longer : (texts : List (List ℕ)) (t u : List ℕ) → IsPlaced texts t → IsPlaced (texts ++ (u ∷ [])) t
longer [] t u l = absurd (omega (arith, l))
longer (s ∷ texts) t u l =
    let k = longer_by (text_place texts t) (length texts) (text_place (texts ++ (u ∷ [])) t) (length (texts ++ (u ∷ []))) (same_name s t) (omega (arith, l)) (longer texts t u) in
    omega (arith, k)

-- the one at the end is placed
last_by : (n m : ℕ) (b : Bool) → n < m → (if b then 0 else suc n) < suc m
last_by n m true l = omega arith
last_by n m false l = omega (arith, l)

alone_by : (b : Bool) → b ≡ true → (if b then 0 else 1) < 1
alone_by true e = omega arith
alone_by false e = absurd (true≢false (sym e))

last_placed : (texts : List (List ℕ)) (t : List ℕ) → IsPlaced (texts ++ (t ∷ [])) t
last_placed [] t = let l = alone_by (same_name t t) ((bytes_eq-Decides t t).1 refl) in omega (arith, l)
last_placed (s ∷ texts) t = let l = last_by (text_place (texts ++ (t ∷ [])) t) (length (texts ++ (t ∷ []))) (same_name s t) (last_placed texts t) in omega (arith, l)

-- each once

still_placed_by : (known ts : List (List ℕ)) (u t : List ℕ) (b : Bool) → ((some : List (List ℕ)) → IsPlaced some t → IsPlaced (once some ts) t) → IsPlaced known t → IsPlaced (if b then once known ts else once (known ++ (u ∷ [])) ts) t
still_placed_by known ts u t true h l = h known l
still_placed_by known ts u t false h l = h (known ++ (u ∷ [])) (longer known t u l)

still_placed : (known ts : List (List ℕ)) (t : List ℕ) → IsPlaced known t → IsPlaced (once known ts) t
still_placed known [] t l = l
still_placed known (u ∷ ts) t l = still_placed_by known ts u t (has_text known u) (λ some. still_placed some ts t) l

all_placed_by : (known ts : List (List ℕ)) (t : List ℕ) (b : Bool) → has_text known t ≡ b → ((some : List (List ℕ)) → AllWithin (once some ts) ts) → AllWithin (if b then once known ts else once (known ++ (t ∷ [])) ts) (t ∷ ts)
all_placed_by known ts t true e h =
    let texts = once known ts in
    rw (lt-ltb (text_place texts t) (length texts) (still_placed known ts t (in_list known t e)), h known) refl
all_placed_by known ts t false e h =
    let texts = once (known ++ (t ∷ [])) ts in
    rw (lt-ltb (text_place texts t) (length texts) (still_placed (known ++ (t ∷ [])) ts t (last_placed known t)), h (known ++ (t ∷ []))) refl

all_placed : (known ts : List (List ℕ)) → AllWithin (once known ts) ts
all_placed known [] = refl
all_placed known (t ∷ ts) = all_placed_by known ts t (has_text known t) refl (λ some. all_placed some ts)

pub script_within : (script : Resolved) → AllWithin (texts_of_script script) (items_texts script.items ++ functions_texts script.functions)
script_within script = all_placed [] (items_texts script.items ++ functions_texts script.functions)
