-- What an import answers stands for the cell that the machine over values gets, whichever free number is given out.
use Rattle.std.proofs.Common.{◌≡◌, ℕ, zero, suc, ◌+◌, ◌<◌, ◌≤◌, Bool, true, false, cond, nat_eq, nat_lt, pos, Option, Some, None, Ok, refl, sym, ap, ◌∙◌, subst, arith, true≢false}
use Rattle.std.proofs.lemmas.Bool.{eq-eqb, eqb-true, ltb-true}
use Rattle.std.proofs.lemmas.Option.{none-some}
use Rattle.sem_primitives.specs.Sorts.{InAnswer}
use Rattle.sem_primitives.specs.declared.sorts.Sort.{Sort}
use Rattle.sem_primitives.specs.declared.sorts.Sort.TheVariants as sort
use Rattle.sem_primitives.specs.declared.sorts.Answer.{Answer}
use Rattle.sem_primitives.specs.declared.sorts.Answer.TheVariants as answer
use Rattle.wasm_store.specs.declared.word.Word.{Word}
use Rattle.wasm_store.specs.declared.word.Word.TheVariants.{I32}
use Rattle.host_step.specs.HostState.{Names}
use Rattle.host_step.specs.Tables.{Table, look, entered}
use Rattle.host_step.specs.Answers.{FreeFor, encode, refusal}
use Rattle.lower_model.specs.Cells.{Cell, Bits, Held, IteratorOf, OwnedArray}
use Rattle.lower_model.specs.ImportCalls.{cell_of, fault_cell}
use Rattle.agreement.specs.Refined.Growing.{NewIn}
use Rattle.agreement.specs.Refined.Words.{ArraysFit, WordAs}
use Rattle.agreement.specs.Refined.Owners.{owner, there, wanted}
use Rattle.agreement.proofs.RefinedLemmas.Carrying.{Carried, unowned_one}
use Rattle.agreement.proofs.RefinedLemmas.Tables.{entered_there, entered_other}

pub some_of : {A : Type 0} → (x y : A) → Some x ≡ Some y → x ≡ y
some_of x y e = cc

-- A number that stood for nothing is given out.
module _ {A : Type 0} (t : Table A) (q : ℕ) (v : A) (free : look t (pos q) ≡ None) where
  another : (k : ℕ) → nat_eq k q ≡ false → k ≡ q → ⊥
  another k h e = true≢false (sym (eq-eqb k q e) ∙ h)

  pub new_once : (k n : ℕ) → n ≡ there (look t (pos k)) → cond (nat_eq k q) 1 0 + n ≡ there (look (entered (pos q) v t) (pos k))
  new_once k n once = by (nat_eq k q) refl
    where
      by : (b : Bool) → nat_eq k q ≡ b → cond b 1 0 + n ≡ there (look (entered (pos q) v t) (pos k))
      by true h =
          let a = ap there (ap (λ i. look (entered (pos q) v t) (pos i)) (eqb-true k q h) ∙ entered_there t q v) in
          let b = once ∙ ap there (ap (λ i. look t (pos i)) (eqb-true k q h) ∙ free) in
          omega arith
      by false h =
          let a = ap there (entered_other t q v k (another k h)) in
          omega arith

  pub new_same : (k : ℕ) → 1 ≤ there (look t (pos k)) → look (entered (pos q) v t) (pos k) ≡ look t (pos k)
  new_same k l = by (nat_eq k q) refl
    where
      by : (b : Bool) → nat_eq k q ≡ b → look (entered (pos q) v t) (pos k) ≡ look t (pos k)
      by true h = absurd (let b = ap there (ap (λ i. look t (pos i)) (eqb-true k q h) ∙ free) in omega arith)
      by false h = entered_other t q v k (another k h)

  -- who is found afterwards is the new one, or was there
  pub new_found : {C : Type 0} → (k : ℕ) (x : A) → look (entered (pos q) v t) (pos k) ≡ Some x → (k ≡ q → x ≡ v → C) → ((k ≡ q → ⊥) → look t (pos k) ≡ Some x → C) → C
  new_found {C} k x e f g = by (nat_eq k q) refl
    where
      by : (b : Bool) → nat_eq k q ≡ b → C
      by true h = let same = eqb-true k q h in f same (some_of x v (sym e ∙ (ap (λ i. look (entered (pos q) v t) (pos i)) same ∙ entered_there t q v)))
      by false h = g (another k h) (sym (entered_other t q v k (another k h)) ∙ e)

-- arrays, once one was made and got a number
pub arrays_fit : (made made1 : ℕ) (t : Table ℕ) (q a : ℕ) → look t (pos q) ≡ None → made ≤ a → a < made1 → ArraysFit made t → ArraysFit made1 (entered (pos q) a t)
arrays_fit made made1 t q a free old new f = record {
  argv = new_same t q a free 0 (let h = ap there f.argv in omega arith) ∙ f.argv;
  environ = new_same t q a free 1 (let h = ap there f.environ in omega arith) ∙ f.environ;
  known = λ m x e. new_found t q a free m x e (λ h g. subst (λ z. z < made1) (sym g) new) (λ n h. let l = f.known m x h in omega arith);
  apart = λ m n x e g. new_found t q a free m x e
      (λ h i. new_found t q a free n x g (λ j k. h ∙ sym j) (λ j k. absurd (let l = f.known n x k in omega arith)))
      (λ h i. new_found t q a free n x g (λ j k. absurd (let l = f.known m x i in omega arith)) (λ j k. f.apart m n x i k));
}

pub arrays_longer : (made made1 : ℕ) (t : Table ℕ) → made ≤ made1 → ArraysFit made t → ArraysFit made1 t
arrays_longer made made1 t l f = record { argv = f.argv; environ = f.environ; known = λ m a e. (let h = f.known m a e in omega arith); apart = f.apart }

abbrev pub OntoAs : ℕ → Names → Option Cell → Option Word → Type 0
OntoAs made N None None = Unit {0}
OntoAs made N (Some c) (Some w) = WordAs made N c w
OntoAs made N _ _ = ⊥

abbrev pub owner_onto : Sort → ℕ → Option Cell → Option Word → ℕ
owner_onto s q (Some c) (Some w) = owner s q c w
owner_onto s q _ _ = 0

-- an answer, beside the owners that were there
pub record Told (made made1 : ℕ) (N N1 : Names) (others : Sort → ℕ → ℕ) (c : Option Cell) (w : Option Word) : Type 0 where
  pub carried : Carried made made1 N N1 others
  pub word : OntoAs made1 N1 c w
  pub once : (s : Sort) (q : ℕ) → owner_onto s q c w + others s q ≡ wanted N1 s q
  pub arrays : ArraysFit made1 N1.arrays

module _ (made made1 : ℕ) (others : Sort → ℕ → ℕ) (N : Names) (once : (s : Sort) (q : ℕ) → others s q ≡ wanted N s q) (fit : ArraysFit made N.arrays) (l : made ≤ made1) where
  longer_same : Carried made made1 N N others
  longer_same = record { values = λ q h. refl; arrays = λ q h. refl; iterators = λ q h. refl; older = λ m a h e. e; longer = l }

  bits_told : (w : Word) → Told made made1 N N others (Some (Bits w)) (Some w)
  bits_told w = record {
    carried = longer_same;
    word = refl;
    once = λ s q. (let a = unowned_one s q (Bits w) w refl in let b = once s q in omega arith);
    arrays = arrays_longer made made1 N.arrays l fit;
  }

  none_told : Told made made1 N N others None None
  none_told = record { carried = longer_same; word = tt; once = λ s q. (let b = once s q in omega arith); arrays = arrays_longer made made1 N.arrays l fit }

  value_told : (q : ℕ) (v : InAnswer (answer.Of sort.Value)) → FreeFor N (answer.Of sort.Value) v q → Told made made1 N (record N { values = entered (pos q) v N.values }) others (Some (Held v)) (Some (I32 q))
  value_told q v free = record {
    carried = record { values = λ k h. new_same N.values q v free.free k (let e = once sort.Value k in omega arith); arrays = λ k h. refl; iterators = λ k h. refl; older = λ m a h e. e; longer = l };
    word = (free.below, entered_there N.values q v);
    once = all;
    arrays = arrays_longer made made1 N.arrays l fit;
  }
    where
      all : (s : Sort) (k : ℕ) → owner s k (Held v) (I32 q) + others s k ≡ wanted (record N { values = entered (pos q) v N.values }) s k
      all sort.Value k = new_once N.values q v free.free k (others sort.Value k) (once sort.Value k)
      all sort.Number k = let h = once sort.Number k in omega arith
      all sort.Array k = let h = once sort.Array k in omega arith
      all sort.Iterator k = let h = once sort.Iterator k in omega arith

  iterator_told : (q t : ℕ) → FreeFor N (answer.Of sort.Iterator) t q → Told made made1 N (record N { iterators = entered (pos q) t N.iterators }) others (Some (IteratorOf t)) (Some (I32 q))
  iterator_told q t free = record {
    carried = record { iterators = λ k h. new_same N.iterators q t free.free k (let e = once sort.Iterator k in omega arith); arrays = λ k h. refl; values = λ k h. refl; older = λ m a h e. e; longer = l };
    word = (free.below, entered_there N.iterators q t);
    once = all;
    arrays = arrays_longer made made1 N.arrays l fit;
  }
    where
      all : (s : Sort) (k : ℕ) → owner s k (IteratorOf t) (I32 q) + others s k ≡ wanted (record N { iterators = entered (pos q) t N.iterators }) s k
      all sort.Value k = let h = once sort.Value k in omega arith
      all sort.Number k = let h = once sort.Number k in omega arith
      all sort.Array k = let h = once sort.Array k in omega arith
      all sort.Iterator k = new_once N.iterators q t free.free k (others sort.Iterator k) (once sort.Iterator k)

  array_told : (q a : ℕ) → FreeFor N (answer.Of sort.Array) a q → made ≤ a → a < made1 → Told made made1 N (record N { arrays = entered (pos q) a N.arrays }) others (Some (OwnedArray a)) (Some (I32 q))
  array_told q a free old new = record {
    carried = record {
      values = λ k h. refl;
      arrays = λ k h. new_same N.arrays q a free.free k (counted k (nat_lt k 2) refl h);
      iterators = λ k h. refl;
      older = λ m x h e. new_found N.arrays q a free.free m x e (λ i j. absurd (omega arith)) (λ i j. j);
      longer = l;
    };
    word = ((let e = fit.known 1 1 fit.environ in omega arith), (free.below, entered_there N.arrays q a));
    once = all;
    arrays = arrays_fit made made1 N.arrays q a free.free old new fit;
  }
    where
      counted : (k : ℕ) (b : Bool) → nat_lt k 2 ≡ b → 1 ≤ others sort.Array k → 1 ≤ there (look N.arrays (pos k))
      counted k true e h = absurd (let g = once sort.Array k ∙ ap (λ b. cond b 0 (there (look N.arrays (pos k)))) e in omega arith)
      counted k false e h = let g = once sort.Array k ∙ ap (λ b. cond b 0 (there (look N.arrays (pos k)))) e in omega arith

      -- ARGV and ENVIRON keep their numbers
      not_first : (k : ℕ) → nat_lt k 2 ≡ true → nat_eq k q ≡ false
      not_first zero h = by (nat_eq 0 q) refl
        where
          by : (b : Bool) → nat_eq 0 q ≡ b → b ≡ false
          by false e = refl
          by true e = absurd (none-some 0 (sym free.free ∙ (ap (λ i. look N.arrays (pos i)) (sym (eqb-true 0 q e)) ∙ fit.argv)))
      not_first (suc zero) h = by (nat_eq 1 q) refl
        where
          by : (b : Bool) → nat_eq 1 q ≡ b → b ≡ false
          by false e = refl
          by true e = absurd (none-some 1 (sym free.free ∙ (ap (λ i. look N.arrays (pos i)) (sym (eqb-true 1 q e)) ∙ fit.environ)))
      not_first (suc (suc k)) h = absurd (let l = ltb-true (suc (suc k)) 2 h in omega arith)

      arrays_all : (k : ℕ) (b : Bool) → nat_lt k 2 ≡ b → others sort.Array k ≡ cond b 0 (there (look N.arrays (pos k))) → cond (nat_eq k q) 1 0 + others sort.Array k ≡ cond b 0 (there (look (entered (pos q) a N.arrays) (pos k)))
      arrays_all k true e h = ap (λ b. cond b 1 0 + others sort.Array k) (not_first k e) ∙ (let g = h in omega arith)
      arrays_all k false e h = new_once N.arrays q a free.free k (others sort.Array k) h

      all : (s : Sort) (k : ℕ) → owner s k (OwnedArray a) (I32 q) + others s k ≡ wanted (record N { arrays = entered (pos q) a N.arrays }) s k
      all sort.Value k = let h = once sort.Value k in omega arith
      all sort.Number k = let h = once sort.Number k in omega arith
      all sort.Array k = arrays_all k (nat_lt k 2) refl (once sort.Array k)
      all sort.Iterator k = let h = once sort.Iterator k in omega arith

  pub encode_as : (q : ℕ) (a : Answer) (x : InAnswer a) → FreeFor N a x q → NewIn made made1 a (Ok x) → Told made made1 N (encode q N a x).1 others (cell_of a x) (encode q N a x).0
  encode_as q answer.Nothing x f n = none_told
  encode_as q (answer.Of sort.Value) x f n = value_told q x f
  encode_as q (answer.Of sort.Number) x f n = bits_told _
  encode_as q (answer.Of sort.Array) x f n = array_told q x f n.0 n.1
  encode_as q (answer.Of sort.Iterator) x f n = iterator_told q x f
  encode_as q answer.Truth x f n = bits_told _
  encode_as q answer.Done x f n = bits_told _
  encode_as q answer.Input x f n = bits_told _
  encode_as q answer.Assign x f n = bits_told _
  encode_as q answer.Stream x f n = bits_told _
  encode_as q answer.ValueOrEnd None f n = bits_told _
  encode_as q answer.ValueOrEnd (Some v) f n = value_told q v f
  encode_as q answer.Name x f n = bits_told _

  pub refusal_as : (a : Answer) → Told made made1 N N others (fault_cell a) (refusal a)
  refusal_as answer.Nothing = none_told
  refusal_as (answer.Of sort.Value) = bits_told _
  refusal_as (answer.Of sort.Number) = bits_told _
  refusal_as (answer.Of sort.Array) = bits_told _
  refusal_as (answer.Of sort.Iterator) = bits_told _
  refusal_as answer.Truth = bits_told _
  refusal_as answer.Done = bits_told _
  refusal_as answer.Input = bits_told _
  refusal_as answer.Assign = bits_told _
  refusal_as answer.Stream = bits_told _
  refusal_as answer.ValueOrEnd = bits_told _
  refusal_as answer.Name = bits_told _
