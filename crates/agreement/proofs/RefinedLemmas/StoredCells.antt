-- A cell of locals or of globals: what stands there, and what is put in its place.
use Rattle.std.proofs.Common.{◌≡◌, ℕ, zero, suc, ◌+◌, ◌<◌, false, List, [], ◌∷◌, set, length, Some, refl, sym, ap, subst, arith, slice_get}
use Rattle.std.proofs.lemmas.Option.{none-some}
use Rattle.sem_primitives.specs.declared.sorts.Sort.{Sort}
use Rattle.wasm_store.specs.declared.word.Word.{Word}
use Rattle.wasm_store.specs.declared.word.Word.TheVariants.{I32, I64}
use Rattle.host_step.specs.HostState.{Names}
use Rattle.lower_model.specs.Cells.{Cell, Bits, Held, IteratorOf, OwnedArray, LentArray, Gone, cell_at, is_owned, left_by, left_in_global, read_global}
use Rattle.agreement.specs.Refined.Owners.{owner, owners}
use Rattle.agreement.specs.Refined.Words.{ArraysFit, WordAs, WordsAs}
use Rattle.agreement.proofs.RefinedLemmas.ImportAnswers.{some_of}
use Rattle.agreement.proofs.RefinedLemmas.Carrying.{unowned_one}

set_same : (ls : List Word) (x : ℕ) (w : Word) → slice_get ls x ≡ Some w → set ls x w ≡ ls
set_same [] x w e = refl
set_same (l ∷ ls) zero w e = ap (λ z. z ∷ ls) (sym (some_of l w e))
set_same (l ∷ ls) (suc x) w e = ap (λ z. l ∷ z) (set_same ls x w e)

pub set_there : (ls : List Word) (x : ℕ) (w : Word) → x < length ls → slice_get (set ls x w) x ≡ Some w
set_there [] x w h = absurd (omega arith)
set_there (l ∷ ls) zero w h = refl
set_there (l ∷ ls) (suc x) w h = set_there ls x w (omega arith)

pub left_unowned : (d : Cell) → is_owned (left_by d) ≡ false
left_unowned (Bits w) = refl
left_unowned (Held v) = refl
left_unowned (IteratorOf t) = refl
left_unowned (OwnedArray a) = refl
left_unowned (LentArray a) = refl
left_unowned Gone = refl

module _ (made : ℕ) (N : Names) where
  pub word_at : (L : List Cell) (ls : List Word) (x : ℕ) (w : Word) → WordsAs made N L ls → slice_get ls x ≡ Some w → WordAs made N (cell_at L x) w
  word_at [] [] x w a e = absurd (none-some w e)
  word_at (d ∷ L) (l ∷ ls) zero w a e = subst (λ z. WordAs made N d z) (some_of l w e) a.0
  word_at (d ∷ L) (l ∷ ls) (suc x) w a e = word_at L ls x w a.1 e
  word_at [] (l ∷ ls) x w a e = absurd a
  word_at (d ∷ L) [] x w a e = absurd a

  pub words_put : (L : List Cell) (ls : List Word) (x : ℕ) (d : Cell) (w : Word) → WordsAs made N L ls → WordAs made N d w → WordsAs made N (set L x d) (set ls x w)
  words_put [] [] x d w a b = tt
  words_put (e ∷ L) (l ∷ ls) zero d w a b = (b, a.1)
  words_put (e ∷ L) (l ∷ ls) (suc x) d w a b = (a.0, words_put L ls x d w a.1 b)
  words_put [] (l ∷ ls) x d w a b = absurd a
  words_put (e ∷ L) [] x d w a b = absurd a

  -- the new owner comes, and the old one goes
  pub owners_put : (t : Sort) (q : ℕ) (L : List Cell) (ls : List Word) (x : ℕ) (d : Cell) (v w : Word) → WordsAs made N L ls → slice_get ls x ≡ Some v →
      owners t q (set L x d) (set ls x w) + owner t q (cell_at L x) v ≡ owners t q L ls + owner t q d w
  owners_put t q [] [] x d v w a e = absurd (none-some v e)
  owners_put t q (b ∷ L) (l ∷ ls) zero d v w a e = let h = ap (λ z. owner t q b z) (some_of l v e) in omega arith
  owners_put t q (b ∷ L) (l ∷ ls) (suc x) d v w a e = let h = owners_put t q L ls x d v w a.1 e in omega arith
  owners_put t q [] (l ∷ ls) x d v w a e = absurd a
  owners_put t q (b ∷ L) [] x d v w a e = absurd a

  -- where nothing changes but the cell
  pub words_left : (L : List Cell) (ls : List Word) (x : ℕ) (d : Cell) (w : Word) → WordsAs made N L ls → slice_get ls x ≡ Some w → WordAs made N d w → WordsAs made N (set L x d) ls
  words_left L ls x d w a e b = subst (λ z. WordsAs made N (set L x d) z) (set_same ls x w e) (words_put L ls x d w a b)

  pub owners_left : (t : Sort) (q : ℕ) (L : List Cell) (ls : List Word) (x : ℕ) (d : Cell) (w : Word) → WordsAs made N L ls → slice_get ls x ≡ Some w →
      owners t q (set L x d) ls + owner t q (cell_at L x) w ≡ owners t q L ls + owner t q d w
  owners_left t q L ls x d w a e = subst (λ z. owners t q (set L x d) z + owner t q (cell_at L x) w ≡ owners t q L ls + owner t q d w) (set_same ls x w e) (owners_put t q L ls x d w w a e)

  pub words_length : (L : List Cell) (ls : List Word) → WordsAs made N L ls → length ls ≡ length L
  words_length [] [] a = refl
  words_length (d ∷ L) (l ∷ ls) a = ap suc (words_length L ls a.1)
  words_length [] (l ∷ ls) a = absurd a
  words_length (d ∷ L) [] a = absurd a

  -- what stays where a cell was read
  pub left_as : (d : Cell) (w : Word) → WordAs made N d w → WordAs made N (left_by d) w
  left_as (Bits v) w a = a
  left_as (Held v) w a = tt
  left_as (IteratorOf v) w a = tt
  left_as (OwnedArray v) w a = tt
  left_as (LentArray v) w a = a
  left_as Gone w a = tt

  module _ (fit : ArraysFit made N.arrays) where
    -- an array that is owned may be lent
    pub lent_as : (a : ℕ) (w : Word) → WordAs made N (OwnedArray a) w → WordAs made N (LentArray a) w
    lent_as a (I32 n) h = (h.1.0, fit.known n a h.1.1, λ m e. fit.apart m n a e h.1.1)
    lent_as a (I64 n) h = absurd h.1

    pub read_as : (d : Cell) (w : Word) → WordAs made N d w → WordAs made N (read_global d) w
    read_as (OwnedArray v) w a = lent_as v w a
    read_as (Bits v) w a = a
    read_as (Held v) w a = a
    read_as (IteratorOf v) w a = a
    read_as (LentArray v) w a = a
    read_as Gone w a = tt

  pub kept_as : (d : Cell) (w : Word) → WordAs made N d w → WordAs made N (left_in_global d) w
  kept_as (OwnedArray v) w a = a
  kept_as (Bits v) w a = a
  kept_as (Held v) w a = tt
  kept_as (IteratorOf v) w a = tt
  kept_as (LentArray v) w a = a
  kept_as Gone w a = tt

-- what is read from a global, and what stays there, own what was there
pub shared_once : (t : Sort) (q : ℕ) (d : Cell) (w : Word) → owner t q (read_global d) w + owner t q (left_in_global d) w ≡ owner t q d w
shared_once t q (OwnedArray a) w = let h = unowned_one t q (LentArray a) w refl in omega arith
shared_once t q (Bits v) w = let h = unowned_one t q (Bits v) w refl in omega arith
shared_once t q (Held v) w = let h = unowned_one t q Gone w refl in omega arith
shared_once t q (IteratorOf v) w = let h = unowned_one t q Gone w refl in omega arith
shared_once t q (LentArray v) w = let h = unowned_one t q (LentArray v) w refl in omega arith
shared_once t q Gone w = let h = unowned_one t q Gone w refl in omega arith
