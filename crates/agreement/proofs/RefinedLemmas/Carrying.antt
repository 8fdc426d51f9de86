-- Words that stand for cells still do so once other numbers were spent or given out.
use Rattle.std.proofs.Common.{◌≡◌, ℕ, ◌+◌, ◌<◌, ◌≤◌, Bool, true, false, cond, not, ◌&&◌, nat_eq, pos, List, [], ◌∷◌, Some, refl, sym, ap, ◌∙◌, subst, arith, true≢false}
use Rattle.std.proofs.lemmas.Bool.{eq-eqb}
use Rattle.sem_primitives.specs.declared.sorts.Sort.{Sort}
use Rattle.sem_primitives.specs.declared.sorts.Sort.TheVariants as sort
use Rattle.wasm_store.specs.declared.word.Word.{Word}
use Rattle.wasm_store.specs.declared.word.Word.TheVariants.{I32, I64}
use Rattle.wasm_model.specs.Frames.{LabelForm}
use Rattle.wasm_model.specs.Machines.{CallerForm}
use Rattle.host_step.specs.HostState.{Names}
use Rattle.host_step.specs.Tables.{look}
use Rattle.lower_model.specs.Cells.{Cell, Bits, Held, IteratorOf, OwnedArray, LentArray, Gone, is_owned, none_owned}
use Rattle.lower_model.specs.Machine.{Frame, Label}
use Rattle.agreement.specs.Refined.Words.{WordAs, WordsAs}
use Rattle.agreement.specs.Refined.Owners.{owner, owners, owns_sort, waiting}
use Rattle.agreement.specs.Refined.Refined.{LabelsAs, FramesAs}

-- What has an owner among those that are counted stands for the same, and no older array has a new number.
pub record Carried (made made1 : ℕ) (N N1 : Names) (counted : Sort → ℕ → ℕ) : Type 0 where
  pub values : (q : ℕ) → 1 ≤ counted sort.Value q → look N1.values (pos q) ≡ look N.values (pos q)
  pub arrays : (q : ℕ) → 1 ≤ counted sort.Array q → look N1.arrays (pos q) ≡ look N.arrays (pos q)
  pub iterators : (q : ℕ) → 1 ≤ counted sort.Iterator q → look N1.iterators (pos q) ≡ look N.iterators (pos q)
  pub older : (m a : ℕ) → a < made → look N1.arrays (pos m) ≡ Some a → look N.arrays (pos m) ≡ Some a
  pub longer : made ≤ made1

abbrev pub Within : (Sort → ℕ → ℕ) → (Sort → ℕ → ℕ) → Type 0
Within f g = (s : Sort) (q : ℕ) → f s q ≤ g s q

pub carried_same : (made : ℕ) (N : Names) (counted : Sort → ℕ → ℕ) → Carried made made N N counted
carried_same made N counted = record { values = λ q h. refl; arrays = λ q h. refl; iterators = λ q h. refl; older = λ m a h e. e; longer = omega arith }

pub carried_then : (a b c : ℕ) (N N1 N2 : Names) (f g : Sort → ℕ → ℕ) → Within g f → Carried a b N N1 f → Carried b c N1 N2 g → Carried a c N N2 g
carried_then a b c N N1 N2 f g w x y = record {
  values = λ q h. y.values q h ∙ x.values q (reach sort.Value q h);
  arrays = λ q h. y.arrays q h ∙ x.arrays q (reach sort.Array q h);
  iterators = λ q h. y.iterators q h ∙ x.iterators q (reach sort.Iterator q h);
  older = λ m z h e. x.older m z h (y.older m z (let l = x.longer in omega arith) e);
  longer = let l = x.longer in let r = y.longer in omega arith;
} where
  reach : (s : Sort) (q : ℕ) → 1 ≤ g s q → 1 ≤ f s q
  reach s q h = let l = w s q in omega arith

owns_itself : (s : Sort) (n : ℕ) (c : Cell) → owns_sort s c ≡ true → 1 ≤ owner s n c (I32 n)
owns_itself s n c e = subst (λ b. 1 ≤ cond b 1 0) (sym (ap (λ b. b && nat_eq n n) e ∙ eq-eqb n n refl)) (omega arith)

unowned_sort : (s : Sort) (c : Cell) → is_owned c ≡ false → owns_sort s c ≡ false
unowned_sort s (Held v) e = absurd (true≢false e)
unowned_sort s (IteratorOf t) e = absurd (true≢false e)
unowned_sort s (OwnedArray a) e = absurd (true≢false e)
unowned_sort sort.Value (Bits w) e = refl
unowned_sort sort.Number (Bits w) e = refl
unowned_sort sort.Array (Bits w) e = refl
unowned_sort sort.Iterator (Bits w) e = refl
unowned_sort sort.Value (LentArray a) e = refl
unowned_sort sort.Number (LentArray a) e = refl
unowned_sort sort.Array (LentArray a) e = refl
unowned_sort sort.Iterator (LentArray a) e = refl
unowned_sort sort.Value Gone e = refl
unowned_sort sort.Number Gone e = refl
unowned_sort sort.Array Gone e = refl
unowned_sort sort.Iterator Gone e = refl

-- what is not owned counts nothing
pub unowned_one : (s : Sort) (q : ℕ) (c : Cell) (w : Word) → is_owned c ≡ false → owner s q c w ≡ 0
unowned_one s q c (I32 n) e = ap (λ b. cond (b && nat_eq q n) 1 0) (unowned_sort s c e)
unowned_one s q c (I64 n) e = refl

pub unowned_all : (s : Sort) (q : ℕ) (cs : List Cell) (ws : List Word) → none_owned cs ≡ true → owners s q cs ws ≡ 0
unowned_all s q [] ws e = refl
unowned_all s q (c ∷ cs) [] e = refl
unowned_all s q (c ∷ cs) (w ∷ ws) e = by (is_owned c) refl (λ h. unowned_all s q cs ws h)
  where
    by : (b : Bool) → is_owned c ≡ b → (none_owned cs ≡ true → owners s q cs ws ≡ 0) → owner s q c w + owners s q cs ws ≡ 0
    by true h r = absurd (true≢false (sym e ∙ ap (λ b. not b && none_owned cs) h))
    by false h r =
        let x = unowned_one s q c w h in
        let y = r (ap (λ b. not b && none_owned cs) (sym h) ∙ e) in
        omega arith

module _ (made made1 : ℕ) (N N1 : Names) (counted : Sort → ℕ → ℕ) (k : Carried made made1 N N1 counted) where
  pub word_carried : (c : Cell) (w : Word) → ((s : Sort) (q : ℕ) → owner s q c w ≤ counted s q) → WordAs made N c w → WordAs made1 N1 c w
  word_carried (Bits v) w l a = a
  word_carried (Held v) (I32 n) l a = (a.0, k.values n (let x = l sort.Value n in let y = owns_itself sort.Value n (Held v) refl in omega arith) ∙ a.1)
  word_carried (IteratorOf t) (I32 n) l a = (a.0, k.iterators n (let x = l sort.Iterator n in let y = owns_itself sort.Iterator n (IteratorOf t) refl in omega arith) ∙ a.1)
  word_carried (OwnedArray t) (I32 n) l a = (a.0, (a.1.0, k.arrays n (let x = l sort.Array n in let y = owns_itself sort.Array n (OwnedArray t) refl in omega arith) ∙ a.1.1))
  word_carried (LentArray t) (I32 n) l a = (a.0, let x = k.longer in let y = a.1 in omega arith, λ m e. a.2 m (k.older m t a.1 e))
  word_carried (Held v) (I64 n) l a = absurd a
  word_carried (IteratorOf t) (I64 n) l a = absurd a
  word_carried (OwnedArray t) (I64 n) l a = absurd a.1
  word_carried (LentArray t) (I64 n) l a = absurd a
  word_carried Gone w l a = tt

  pub words_carried : (cs : List Cell) (ws : List Word) → ((s : Sort) (q : ℕ) → owners s q cs ws ≤ counted s q) → WordsAs made N cs ws → WordsAs made1 N1 cs ws
  words_carried [] [] l a = tt
  words_carried (c ∷ cs) (w ∷ ws) l a = (
    word_carried c w (λ s q. let x = l s q in omega arith) a.0,
    words_carried cs ws (λ s q. let x = l s q in omega arith) a.1,
  )
  words_carried [] (w ∷ ws) l a = absurd a
  words_carried (c ∷ cs) [] l a = absurd a

  unowned_carried : (cs : List Cell) (ws : List Word) → none_owned cs ≡ true → WordsAs made N cs ws → WordsAs made1 N1 cs ws
  unowned_carried cs ws e a = words_carried cs ws (λ s q. let x = unowned_all s q cs ws e in omega arith) a

  module _ (used : ℕ → Bool) (bs : List Bool) where
    pub labels_carried : (K : List Label) (rs : List LabelForm) → LabelsAs used bs made N K rs → LabelsAs used bs made1 N1 K rs
    labels_carried [] [] a = tt
    labels_carried (l ∷ K) (r ∷ rs) a =
        let h = a.0 in
        (record { under = unowned_carried l.under r.under h.unowned h.under; unowned = h.unowned; again = h.again; gives = h.gives; rest = h.rest }, labels_carried K rs a.1)
    labels_carried [] (r ∷ rs) a = absurd a
    labels_carried (l ∷ K) [] a = absurd a

    pub frames_carried : (F : List Frame) (rs : List CallerForm) → ((s : Sort) (q : ℕ) → waiting s q F rs ≤ counted s q) → FramesAs used bs made N F rs → FramesAs used bs made1 N1 F rs
    frames_carried [] [] l a = absurd a
    frames_carried [] (r ∷ []) l a = a
    frames_carried [] (r ∷ (q ∷ rs)) l a = absurd a
    frames_carried (f ∷ F) [] l a = absurd a
    frames_carried (f ∷ F) (r ∷ rs) l a =
        let h = a.0 in (
          record {
            under = unowned_carried f.under r.frame.values h.unowned h.under;
            unowned = h.unowned;
            labels = labels_carried f.labels r.frame.labels h.labels;
            locals = words_carried f.locals r.frame.locals (λ s q. let x = l s q in omega arith) h.locals;
            rest = h.rest;
            result = h.result;
          },
          frames_carried F rs (λ s q. let x = l s q in omega arith) a.1,
        )
