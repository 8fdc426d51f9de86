-- Operands and locals are taken, put and moved: words stand for cells as before, and what is owned has as many owners.
use Rattle.std.proofs.Common.{◌≡◌, ℕ, zero, suc, ◌+◌, Bool, true, false, ◌||◌, nat_eq, pos, List, [], ◌∷◌, ◌++◌, take, drop, reverse, Some, refl, sym, ap, ◌∙◌, subst, arith, true≢false}
use Rattle.std.proofs.lemmas.Grind.{reverse_onto}
use Rattle.std.proofs.lemmas.Bool.{eqb-true}
use Rattle.sem_primitives.specs.declared.sorts.Sort.{Sort}
use Rattle.wasm_store.specs.declared.word.Word.{Word}
use Rattle.wasm_store.specs.declared.word.Word.TheVariants.{I32, I64}
use Rattle.host_step.specs.HostState.{Names}
use Rattle.host_step.specs.Tables.{look}
use Rattle.lower_model.specs.Cells.{Cell, Bits, Held, IteratorOf, OwnedArray, LentArray, Gone, has_owner, owns}
use Rattle.agreement.specs.Refined.Owners.{owners}
use Rattle.agreement.specs.Refined.Words.{WordAs, WordsAs}

-- operands that are taken from the top, and those that stay
pub owners_split : (s : Sort) (q n : ℕ) (cs : List Cell) (ws : List Word) → owners s q (take n cs) (take n ws) + owners s q (drop n cs) (drop n ws) ≡ owners s q cs ws
owners_split s q zero cs ws = omega arith
owners_split s q (suc n) [] [] = refl
owners_split s q (suc n) [] (w ∷ ws) = refl
owners_split s q (suc n) (c ∷ cs) [] = by (drop n cs)
  where
    by : (ds : List Cell) → 0 + owners s q ds [] ≡ 0
    by [] = refl
    by (d ∷ ds) = refl
owners_split s q (suc n) (c ∷ cs) (w ∷ ws) = let h = owners_split s q n cs ws in omega arith

module _ (made : ℕ) (N : Names) where
  pub words_append : (vs us : List Cell) (ws ts : List Word) → WordsAs made N vs ws → WordsAs made N us ts → WordsAs made N (vs ++ us) (ws ++ ts)
  words_append [] us [] ts a b = b
  words_append [] us (w ∷ ws) ts a b = absurd a
  words_append (v ∷ vs) us [] ts a b = absurd a
  words_append (v ∷ vs) us (w ∷ ws) ts a b = (a.0, words_append vs us ws ts a.1 b)

  pub words_drop : (n : ℕ) (vs : List Cell) (ws : List Word) → WordsAs made N vs ws → WordsAs made N (drop n vs) (drop n ws)
  words_drop zero vs ws a = a
  words_drop (suc n) [] [] a = tt
  words_drop (suc n) (v ∷ vs) (w ∷ ws) a = words_drop n vs ws a.1
  words_drop (suc n) [] (w ∷ ws) a = absurd a
  words_drop (suc n) (v ∷ vs) [] a = absurd a

  pub words_take : (n : ℕ) (vs : List Cell) (ws : List Word) → WordsAs made N vs ws → WordsAs made N (take n vs) (take n ws)
  words_take zero vs ws a = tt
  words_take (suc n) [] [] a = tt
  words_take (suc n) (v ∷ vs) (w ∷ ws) a = (a.0, words_take n vs ws a.1)
  words_take (suc n) [] (w ∷ ws) a = absurd a
  words_take (suc n) (v ∷ vs) [] a = absurd a

  pub words_reverse : (vs : List Cell) (ws : List Word) → WordsAs made N vs ws → WordsAs made N (reverse vs) (reverse ws)
  words_reverse [] [] a = tt
  words_reverse (v ∷ vs) (w ∷ ws) a =
      subst (λ l. WordsAs made N l (reverse (w ∷ ws))) (sym (reverse_onto vs v []))
      (subst (λ l. WordsAs made N (reverse vs ++ v ∷ []) l) (sym (reverse_onto ws w [])) (words_append (reverse vs) (v ∷ []) (reverse ws) (w ∷ []) (words_reverse vs ws a.1) (a.0, tt)))
  words_reverse [] (w ∷ ws) a = absurd a
  words_reverse (v ∷ vs) [] a = absurd a

  pub owners_append : (s : Sort) (q : ℕ) (vs us : List Cell) (ws ts : List Word) → WordsAs made N vs ws → owners s q (vs ++ us) (ws ++ ts) ≡ owners s q vs ws + owners s q us ts
  owners_append s q [] us [] ts a = omega arith
  owners_append s q [] us (w ∷ ws) ts a = absurd a
  owners_append s q (v ∷ vs) us [] ts a = absurd a
  owners_append s q (v ∷ vs) us (w ∷ ws) ts a = let h = owners_append s q vs us ws ts a.1 in omega arith

  pub owners_reverse : (s : Sort) (q : ℕ) (vs : List Cell) (ws : List Word) → WordsAs made N vs ws → owners s q (reverse vs) (reverse ws) ≡ owners s q vs ws
  owners_reverse s q [] [] a = refl
  owners_reverse s q (v ∷ vs) (w ∷ ws) a =
      ap (λ l. owners s q l (reverse (w ∷ ws))) (reverse_onto vs v []) ∙ (ap (λ l. owners s q (reverse vs ++ v ∷ []) l) (reverse_onto ws w [])
      ∙ (let h = owners_append s q (reverse vs) (v ∷ []) (reverse ws) (w ∷ []) (words_reverse vs ws a.1) in let g = owners_reverse s q vs ws a.1 in omega arith))
  owners_reverse s q [] (w ∷ ws) a = absurd a
  owners_reverse s q (v ∷ vs) [] a = absurd a

  -- who owns an array has a number that stands for it
  pub owner_found : (a : ℕ) (cs : List Cell) (ws : List Word) → WordsAs made N cs ws → has_owner a cs ≡ true → (m : ℕ) × (look N.arrays (pos m) ≡ Some a)
  owner_found a [] ws w e = absurd (true≢false (sym e))
  owner_found a (c ∷ cs) [] w e = absurd w
  owner_found a (c ∷ cs) (x ∷ ws) w e = by c w.0 e (λ h. owner_found a cs ws w.1 h)
    where
      from : (b n : ℕ) → nat_eq a b ≡ true → look N.arrays (pos n) ≡ Some b → (m : ℕ) × (look N.arrays (pos m) ≡ Some a)
      from b n h g = (n, subst (λ i. look N.arrays (pos n) ≡ Some i) (sym (eqb-true a b h)) g)

      owned : (b : ℕ) (y : Word) → WordAs made N (OwnedArray b) y → (t : Bool) → nat_eq a b ≡ t → t || has_owner a cs ≡ true → (has_owner a cs ≡ true → (m : ℕ) × (look N.arrays (pos m) ≡ Some a)) → (m : ℕ) × (look N.arrays (pos m) ≡ Some a)
      owned b (I32 n) k true h g more = from b n h k.1.1
      owned b (I64 n) k t h g more = absurd k.1
      owned b (I32 n) k false h g more = more g

      by : (d : Cell) → WordAs made N d x → owns a d || has_owner a cs ≡ true → (has_owner a cs ≡ true → (m : ℕ) × (look N.arrays (pos m) ≡ Some a)) → (m : ℕ) × (look N.arrays (pos m) ≡ Some a)
      by (OwnedArray b) k g more = owned b x k (nat_eq a b) refl g more
      by (Bits v) k g more = more g
      by (Held v) k g more = more g
      by (IteratorOf v) k g more = more g
      by (LentArray v) k g more = more g
      by Gone k g more = more g
