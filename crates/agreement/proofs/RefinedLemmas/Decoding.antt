-- The words of a call stand for the arguments that the machine over values takes: they are decoded to the same row, and what is taken is spent.
use Rattle.std.proofs.Common.{◌≡◌, ℕ, zero, suc, ◌+◌, ◌<◌, ◌≤◌, ◌^◌, Bool, true, false, cond, nat_eq, nat_lt, nat_le, pos, w32, List, [], ◌∷◌, ◌++◌, length, take, drop, Option, Some, None, Result, Ok, Err, refl, sym, ap, ◌∙◌, subst, arith, length-append, true≢false, if◌then◌else◌}
use Rattle.std.specs.Int.{cast_signed}
use Rattle.std.proofs.lemmas.Bool.{eq-eqb, eqb-true, le-leb, leb-true, lt-ltb, ltb-true}
use Rattle.std.proofs.lemmas.List.{take-append-le}
use Rattle.sem_primitives.specs.Constants.{constant_at}
use Rattle.sem_primitives.specs.Numbers.{number_of_word}
use Rattle.sem_primitives.specs.Sorts.{InArgument, Row}
use Rattle.sem_primitives.specs.declared.sorts.Sort.{Sort}
use Rattle.sem_primitives.specs.declared.sorts.Sort.TheVariants as sort
use Rattle.sem_primitives.specs.declared.sorts.Argument.{Argument}
use Rattle.sem_primitives.specs.declared.sorts.Argument.TheVariants as argument
use Rattle.wasm_store.specs.declared.trap.TrapKind.{TrapKind}
use Rattle.wasm_store.specs.declared.trap.TrapKind.TheVariants.{BadHandle, BadPointer, BadArgument}
use Rattle.wasm_store.specs.declared.word.Word.{Word}
use Rattle.wasm_store.specs.declared.word.Word.TheVariants.{I32, I64}
use Rattle.host_step.specs.HostState.{Names}
use Rattle.host_step.specs.Tables.{Table, look, without}
use Rattle.host_step.specs.Arguments.{and_then, constant_front, decode, front, number_front, place_front, said, spent_if, taken_front, text_at}
use Rattle.lower_model.specs.Cells.{Cell, Bits, Held, IteratorOf, OwnedArray, LentArray, Gone}
use Rattle.lower_model.specs.ImportCalls.{and_rest, array_of_word, first_argument, row_in, with_some}
use Rattle.lower_model.specs.ImportCalls as value
use Rattle.agreement.specs.Refined.Words.{ArraysFit, WordsAs}
use Rattle.agreement.specs.Refined.Owners.{owner, owners, there, wanted}
use Rattle.agreement.proofs.RefinedLemmas.Carrying.{Carried, carried_same, carried_then, unowned_one, words_carried}
use Rattle.agreement.proofs.RefinedLemmas.Tables.{without_there, without_other}

-- nothing is added
nothing : (n : ℕ) → 0 + n ≡ n
nothing n = omega arith

pub small_signed : (n : ℕ) → n < 2 ^ 31 → cast_signed w32 n ≡ pos n
small_signed n h = rw (lt-ltb n (2 ^ 31) h) refl

-- A number with one owner is spent: no other owner has it.
module _ {A : Type 0} (t : Table A) (n : ℕ) (x : A) (f : ℕ → ℕ) (is : look t (pos n) ≡ Some x) (once : (q : ℕ) → cond (nat_eq q n) 1 0 + f q ≡ there (look t (pos q))) where
  none_else : f n ≡ 0
  none_else =
      let a = ap (λ b. cond b 1 0 + f n) (sym (eq-eqb n n refl)) ∙ once n in
      let b = ap there is in
      omega arith

  another : (q : ℕ) → nat_eq q n ≡ false → q ≡ n → ⊥
  another q h e = true≢false (sym (eq-eqb q n e) ∙ h)

  pub spent_once : (q : ℕ) → f q ≡ there (look (without (pos n) t) (pos q))
  spent_once q = by (nat_eq q n) refl
    where
      by : (b : Bool) → nat_eq q n ≡ b → f q ≡ there (look (without (pos n) t) (pos q))
      by true h = subst (λ k. f k ≡ there (look (without (pos n) t) (pos k))) (sym (eqb-true q n h)) (none_else ∙ ap there (sym (without_there t n)))
      by false h = sym (nothing (f q)) ∙ ap (λ b. cond b 1 0 + f q) (sym h) ∙ (once q ∙ ap there (sym (without_other t n q (another q h))))

  pub spent_same : (q : ℕ) → 1 ≤ f q → look (without (pos n) t) (pos q) ≡ look t (pos q)
  spent_same q l = by (nat_eq q n) refl
    where
      by : (b : Bool) → nat_eq q n ≡ b → look (without (pos n) t) (pos q) ≡ look t (pos q)
      by true h = absurd (let a = subst (λ k. 1 ≤ f k) (eqb-true q n h) l in let b = none_else in omega arith)
      by false h = without_other t n q (another q h)

text_same : (p n : ℕ) (xs ys : List ℕ) → p + n ≤ length xs → take n (drop p (xs ++ ys)) ≡ take n (drop p xs)
text_same zero n xs ys l = take-append-le n xs ys (omega arith)
text_same (suc p) n [] ys l = absurd (let h = l in omega arith)
text_same (suc p) n (x ∷ xs) ys l = text_same p n xs ys (omega arith)

-- how import's table and cells agree on what is spent: what is owned is, and nothing else
abbrev pub SpentRight : (Sort → Bool) → Argument → Type 0
SpentRight spent (argument.Of sort.Value) = spent sort.Value ≡ true
SpentRight spent (argument.Of sort.Number) = spent sort.Number ≡ false
SpentRight spent (argument.Of sort.Array) = spent sort.Array ≡ false
SpentRight spent (argument.Of sort.Iterator) = spent sort.Iterator ≡ true
SpentRight spent _ = Unit {0}

abbrev pub AllSpentRight : (Sort → Bool) → List Argument → Type 0
AllSpentRight spent [] = Unit {0}
AllSpentRight spent (a ∷ rest) = SpentRight spent a × AllSpentRight spent rest

-- tables after something was spent: what is counted now owns all that is left
pub record Left (made : ℕ) (N N1 : Names) (counted : Sort → ℕ → ℕ) : Type 0 where
  pub carried : Carried made made N N1 counted
  pub once : (s : Sort) (q : ℕ) → counted s q ≡ wanted N1 s q
  pub arrays : N1.arrays ≡ N.arrays

-- arrays that are lent are there
abbrev pub LiveIn : Table ℕ → Cell → Type 0
LiveIn arrays (LentArray a) = (m : ℕ) × (look arrays (pos m) ≡ Some a)
LiveIn arrays _ = Unit {0}

abbrev pub AllLive : Table ℕ → List Cell → Type 0
AllLive arrays [] = Unit {0}
AllLive arrays (c ∷ cs) = LiveIn arrays c × AllLive arrays cs

module _ (mem behind : List ℕ) (made : ℕ) (others : Sort → ℕ → ℕ) where
  abbrev pub bytes : List ℕ
  bytes = mem ++ behind

  abbrev beside : List Cell → List Word → Sort → ℕ → ℕ
  beside cs ws s q = owners s q cs ws + others s q

  abbrev Once : Names → List Cell → List Word → Type 0
  Once N cs ws = (s : Sort) (q : ℕ) → beside cs ws s q ≡ wanted N s q

  left_same : (N : Names) (cs : List Cell) (ws : List Word) → Once N cs ws → Left made N N (beside cs ws)
  left_same N cs ws o = record { carried = carried_same made N (beside cs ws); once = o; arrays = refl }

  -- a cell that owns nothing is passed over
  passed : (N : Names) (c : Cell) (w : Word) (cs : List Cell) (ws : List Word) → ((s : Sort) (q : ℕ) → owner s q c w ≡ 0) → Once N (c ∷ cs) (w ∷ ws) → Once N cs ws
  passed N c w cs ws z o s q = let a = z s q in let b = o s q in omega arith

  abbrev FrontAs : {A : Type 0} → Names → Names → Option (A × List Cell) → Result (A × List Word) TrapKind → Type 0
  FrontAs N N1 None r = Unit {0}
  FrontAs N N1 (Some x) (Ok y) = (y.0 ≡ x.0) × WordsAs made N x.1 y.1 × AllLive N.arrays x.1 × Left made N N1 (beside x.1 y.1)
  FrontAs N N1 (Some x) (Err k) = ⊥

  said_as : {A : Type 0} → (N N1 : Names) (k : TrapKind) (o : Option A) (cs : List Cell) (ws : List Word) → WordsAs made N cs ws → AllLive N.arrays cs → Left made N N1 (beside cs ws) → FrontAs N N1 (and_rest o cs) (said k o ws)
  said_as N N1 k None cs ws a v l = tt
  said_as N N1 k (Some x) cs ws a v l = (refl, a, v, l)

  named_as : {A : Type 0} → (N N1 : Names) (t : Table A) (n : ℕ) (x : A) (cs : List Cell) (ws : List Word) → n < 2 ^ 31 → look t (pos n) ≡ Some x → WordsAs made N cs ws → AllLive N.arrays cs → Left made N N1 (beside cs ws) →
      FrontAs N N1 (and_rest (Some x) cs) (said BadHandle (look t (cast_signed w32 n)) ws)
  named_as N N1 t n x cs ws b e a v l = subst (λ o. FrontAs N N1 (and_rest (Some x) cs) (said BadHandle o ws)) (sym (ap (look t) (small_signed n b) ∙ e)) (said_as N N1 BadHandle (Some x) cs ws a v l)

  -- a value's handle is spent
  value_left : (N : Names) (v : _) (n : ℕ) (cs : List Cell) (ws : List Word) → n < 2 ^ 31 → look N.values (pos n) ≡ Some v → Once N (Held v ∷ cs) (I32 n ∷ ws) → Left made N (record N { values = without (cast_signed w32 n) N.values }) (beside cs ws)
  value_left N v n cs ws b e o = subst (λ (k : _). Left made N (record N { values = without k N.values }) (beside cs ws)) (sym (small_signed n b)) (record {
    carried = record { values = spent_same N.values n v (beside cs ws sort.Value) e counts; arrays = λ q h. refl; iterators = λ q h. refl; older = λ m a h q. q; longer = omega arith };
    once = all;
    arrays = refl;
  })
    where
      counts : (q : ℕ) → cond (nat_eq q n) 1 0 + beside cs ws sort.Value q ≡ there (look N.values (pos q))
      counts q = let h = o sort.Value q in omega arith

      all : (s : Sort) (q : ℕ) → beside cs ws s q ≡ wanted (record N { values = without (pos n) N.values }) s q
      all sort.Value q = spent_once N.values n v (beside cs ws sort.Value) e counts q
      all sort.Number q = let h = o sort.Number q in omega arith
      all sort.Array q = let h = o sort.Array q in omega arith
      all sort.Iterator q = let h = o sort.Iterator q in omega arith

  iterator_left : (N : Names) (t : ℕ) (n : ℕ) (cs : List Cell) (ws : List Word) → n < 2 ^ 31 → look N.iterators (pos n) ≡ Some t → Once N (IteratorOf t ∷ cs) (I32 n ∷ ws) → Left made N (record N { iterators = without (cast_signed w32 n) N.iterators }) (beside cs ws)
  iterator_left N t n cs ws b e o = subst (λ (k : _). Left made N (record N { iterators = without k N.iterators }) (beside cs ws)) (sym (small_signed n b)) (record {
    carried = record { iterators = spent_same N.iterators n t (beside cs ws sort.Iterator) e counts; arrays = λ q h. refl; values = λ q h. refl; older = λ m a h q. q; longer = omega arith };
    once = all;
    arrays = refl;
  })
    where
      counts : (q : ℕ) → cond (nat_eq q n) 1 0 + beside cs ws sort.Iterator q ≡ there (look N.iterators (pos q))
      counts q = let h = o sort.Iterator q in omega arith

      all : (s : Sort) (q : ℕ) → beside cs ws s q ≡ wanted (record N { iterators = without (pos n) N.iterators }) s q
      all sort.Value q = let h = o sort.Value q in omega arith
      all sort.Number q = let h = o sort.Number q in omega arith
      all sort.Array q = let h = o sort.Array q in omega arith
      all sort.Iterator q = spent_once N.iterators n t (beside cs ws sort.Iterator) e counts q

  front_as : (spent : Sort → Bool) (N : Names) (a : Argument) (cs : List Cell) (ws : List Word) → SpentRight spent a → ArraysFit made N.arrays → WordsAs made N cs ws → AllLive N.arrays cs → Once N cs ws →
      FrontAs N (taken_front spent a ws N) (first_argument mem a cs) (front N bytes a ws)
  front_as spent N (argument.Of s) [] ws r f a l o = tt
  front_as spent N (argument.Of s) (c ∷ cs) [] r f a l o = absurd a
  front_as spent N (argument.Of sort.Value) (Held v ∷ cs) (I32 n ∷ ws) r f a l o =
      subst (λ b. FrontAs N (spent_if b sort.Value (I32 n ∷ ws) N) (and_rest (Some v) cs) (said BadHandle (look N.values (cast_signed w32 n)) ws)) (sym r)
      (named_as N (spent_if true sort.Value (I32 n ∷ ws) N) N.values n v cs ws a.0.0 a.0.1 a.1 l.1 (value_left N v n cs ws a.0.0 a.0.1 o))
  front_as spent N (argument.Of sort.Value) (Held v ∷ cs) (I64 n ∷ ws) r f a l o = absurd a.0
  front_as spent N (argument.Of sort.Value) (Bits v ∷ cs) (w ∷ ws) r f a l o = tt
  front_as spent N (argument.Of sort.Value) (IteratorOf v ∷ cs) (w ∷ ws) r f a l o = tt
  front_as spent N (argument.Of sort.Value) (OwnedArray v ∷ cs) (w ∷ ws) r f a l o = tt
  front_as spent N (argument.Of sort.Value) (LentArray v ∷ cs) (w ∷ ws) r f a l o = tt
  front_as spent N (argument.Of sort.Value) (Gone ∷ cs) (w ∷ ws) r f a l o = tt
  front_as spent N (argument.Of sort.Number) (Bits (I64 n) ∷ cs) (w ∷ ws) r f a l o =
      subst (λ b. FrontAs N (spent_if b sort.Number (w ∷ ws) N) (and_rest (number_of_word n) cs) (number_front (w ∷ ws))) (sym r)
      (subst (λ u. FrontAs N N (and_rest (number_of_word n) cs) (number_front (u ∷ ws))) (sym a.0)
      (said_as N N BadArgument (number_of_word n) cs ws a.1 l.1 (left_same N cs ws (passed N (Bits (I64 n)) w cs ws (λ s q. unowned_one s q (Bits (I64 n)) w refl) o))))
  front_as spent N (argument.Of sort.Number) (Bits (I32 n) ∷ cs) (w ∷ ws) r f a l o = tt
  front_as spent N (argument.Of sort.Number) (Held v ∷ cs) (w ∷ ws) r f a l o = tt
  front_as spent N (argument.Of sort.Number) (IteratorOf v ∷ cs) (w ∷ ws) r f a l o = tt
  front_as spent N (argument.Of sort.Number) (OwnedArray v ∷ cs) (w ∷ ws) r f a l o = tt
  front_as spent N (argument.Of sort.Number) (LentArray v ∷ cs) (w ∷ ws) r f a l o = tt
  front_as spent N (argument.Of sort.Number) (Gone ∷ cs) (w ∷ ws) r f a l o = tt
  front_as spent N (argument.Of sort.Iterator) (IteratorOf t ∷ cs) (I32 n ∷ ws) r f a l o =
      subst (λ b. FrontAs N (spent_if b sort.Iterator (I32 n ∷ ws) N) (and_rest (Some t) cs) (said BadHandle (look N.iterators (cast_signed w32 n)) ws)) (sym r)
      (named_as N (spent_if true sort.Iterator (I32 n ∷ ws) N) N.iterators n t cs ws a.0.0 a.0.1 a.1 l.1 (iterator_left N t n cs ws a.0.0 a.0.1 o))
  front_as spent N (argument.Of sort.Iterator) (IteratorOf t ∷ cs) (I64 n ∷ ws) r f a l o = absurd a.0
  front_as spent N (argument.Of sort.Iterator) (Bits v ∷ cs) (w ∷ ws) r f a l o = tt
  front_as spent N (argument.Of sort.Iterator) (Held v ∷ cs) (w ∷ ws) r f a l o = tt
  front_as spent N (argument.Of sort.Iterator) (OwnedArray v ∷ cs) (w ∷ ws) r f a l o = tt
  front_as spent N (argument.Of sort.Iterator) (LentArray v ∷ cs) (w ∷ ws) r f a l o = tt
  front_as spent N (argument.Of sort.Iterator) (Gone ∷ cs) (w ∷ ws) r f a l o = tt
  front_as spent N (argument.Constant c) [] ws r f a l o = tt
  front_as spent N (argument.Constant c) (v ∷ cs) [] r f a l o = absurd a
  front_as spent N (argument.Constant c) (Bits (I32 n) ∷ cs) (w ∷ ws) r f a l o =
      subst (λ u. FrontAs N N (and_rest (constant_at c n) cs) (constant_front c (u ∷ ws))) (sym a.0)
      (said_as N N BadArgument (constant_at c n) cs ws a.1 l.1 (left_same N cs ws (passed N (Bits (I32 n)) w cs ws (λ s q. unowned_one s q (Bits (I32 n)) w refl) o)))
  front_as spent N (argument.Constant c) (Bits (I64 n) ∷ cs) (w ∷ ws) r f a l o = tt
  front_as spent N (argument.Constant c) (Held v ∷ cs) (w ∷ ws) r f a l o = tt
  front_as spent N (argument.Constant c) (IteratorOf v ∷ cs) (w ∷ ws) r f a l o = tt
  front_as spent N (argument.Constant c) (OwnedArray v ∷ cs) (w ∷ ws) r f a l o = tt
  front_as spent N (argument.Constant c) (LentArray v ∷ cs) (w ∷ ws) r f a l o = tt
  front_as spent N (argument.Constant c) (Gone ∷ cs) (w ∷ ws) r f a l o = tt
  front_as spent N (argument.Of sort.Array) (LentArray t ∷ cs) (I32 n ∷ ws) r f a l o =
      subst (λ b. FrontAs N (spent_if b sort.Array (I32 n ∷ ws) N) (and_rest (Some t) cs) (said BadHandle (look N.arrays (cast_signed w32 n)) ws)) (sym r)
      (named_as N N N.arrays n t cs ws a.0.0 (subst (λ k. look N.arrays (pos k) ≡ Some t) (a.0.2 l.0.0 l.0.1) l.0.1) a.1 l.1
      (left_same N cs ws (passed N (LentArray t) (I32 n) cs ws (λ s q. unowned_one s q (LentArray t) (I32 n) refl) o)))
  front_as spent N (argument.Of sort.Array) (LentArray t ∷ cs) (I64 n ∷ ws) r f a l o = absurd a.0
  front_as spent N (argument.Of sort.Array) (Bits (I32 n) ∷ cs) (w ∷ ws) r f a l o =
      subst (λ b. FrontAs N (spent_if b sort.Array (w ∷ ws) N) (and_rest (array_of_word (I32 n)) cs) (front N bytes (argument.Of sort.Array) (w ∷ ws))) (sym r)
      (subst (λ u. FrontAs N N (and_rest (array_of_word (I32 n)) cs) (front N bytes (argument.Of sort.Array) (u ∷ ws))) (sym a.0)
      (by (nat_lt n 2) refl))
    where
      small : (k : ℕ) → k < 2 → look N.arrays (pos k) ≡ Some k
      small zero h = f.argv
      small (suc zero) h = f.environ
      small (suc (suc k)) h = absurd (omega arith)

      by : (b : Bool) → nat_lt n 2 ≡ b → FrontAs N N (and_rest (if b then Some n else None) cs) (said BadHandle (look N.arrays (cast_signed w32 n)) ws)
      by false e = tt
      by true e =
          let h = ltb-true n 2 e in
          named_as N N N.arrays n n cs ws (omega arith) (small n h) a.1 l.1
          (left_same N cs ws (passed N (Bits (I32 n)) w cs ws (λ s q. unowned_one s q (Bits (I32 n)) w refl) o))
  front_as spent N (argument.Of sort.Array) (Bits (I64 n) ∷ cs) (w ∷ ws) r f a l o = tt
  front_as spent N (argument.Of sort.Array) (Held v ∷ cs) (w ∷ ws) r f a l o = tt
  front_as spent N (argument.Of sort.Array) (IteratorOf v ∷ cs) (w ∷ ws) r f a l o = tt
  front_as spent N (argument.Of sort.Array) (OwnedArray v ∷ cs) (w ∷ ws) r f a l o = tt
  front_as spent N (argument.Of sort.Array) (Gone ∷ cs) (w ∷ ws) r f a l o = tt
  front_as spent N argument.Place [] ws r f a l o = tt
  front_as spent N argument.Place (Held x ∷ cs) ws r f a l o = tt
  front_as spent N argument.Place (OwnedArray x ∷ cs) ws r f a l o = tt
  front_as spent N argument.Place (LentArray x ∷ cs) ws r f a l o = tt
  front_as spent N argument.Place (IteratorOf x ∷ cs) ws r f a l o = tt
  front_as spent N argument.Place (Gone ∷ cs) ws r f a l o = tt
  front_as spent N argument.Place (Bits (I64 n) ∷ cs) ws r f a l o = tt
  front_as spent N argument.Place (Bits (I32 p) ∷ []) ws r f a l o = tt
  front_as spent N argument.Place (Bits (I32 p) ∷ (Held x ∷ cs)) ws r f a l o = tt
  front_as spent N argument.Place (Bits (I32 p) ∷ (OwnedArray x ∷ cs)) ws r f a l o = tt
  front_as spent N argument.Place (Bits (I32 p) ∷ (LentArray x ∷ cs)) ws r f a l o = tt
  front_as spent N argument.Place (Bits (I32 p) ∷ (IteratorOf x ∷ cs)) ws r f a l o = tt
  front_as spent N argument.Place (Bits (I32 p) ∷ (Gone ∷ cs)) ws r f a l o = tt
  front_as spent N argument.Place (Bits (I32 p) ∷ (Bits (I64 n) ∷ cs)) ws r f a l o = tt
  front_as spent N argument.Place (Bits (I32 p) ∷ (Bits (I32 n) ∷ cs)) [] r f a l o = absurd a
  front_as spent N argument.Place (Bits (I32 p) ∷ (Bits (I32 n) ∷ cs)) (w ∷ []) r f a l o = absurd a.1
  front_as spent N argument.Place (Bits (I32 p) ∷ (Bits (I32 n) ∷ cs)) (w ∷ (u ∷ ws)) r f a l o =
      subst (λ x. FrontAs N N (and_rest (value.text_at mem p n) cs) (place_front bytes (x ∷ (u ∷ ws)))) (sym a.0)
      (subst (λ x. FrontAs N N (and_rest (value.text_at mem p n) cs) (place_front bytes (I32 p ∷ (x ∷ ws)))) (sym a.1.0)
      (by (nat_le (p + n) (length mem)) refl))
    where
      rest : Left made N N (beside cs ws)
      rest = left_same N cs ws
          (passed N (Bits (I32 n)) u cs ws (λ s q. unowned_one s q (Bits (I32 n)) u refl)
          (passed N (Bits (I32 p)) w (Bits (I32 n) ∷ cs) (u ∷ ws) (λ s q. unowned_one s q (Bits (I32 p)) w refl) o))

      by : (b : Bool) → nat_le (p + n) (length mem) ≡ b → FrontAs N N (and_rest (if b then Some (take n (drop p mem)) else None) cs) (said BadPointer (text_at bytes p n) ws)
      by false e = tt
      by true e =
          let h = leb-true (p + n) (length mem) e in
          let g = length-append mem behind in
          let inside : nat_le (p + n) (length bytes) ≡ true = le-leb (p + n) (length bytes) (omega arith) in
          subst (λ z. FrontAs N N (and_rest (Some (take n (drop p mem))) cs) (said BadPointer z ws))
          (sym (ap (λ b. if b then Some (take n (drop p bytes)) else None) inside ∙ ap Some (text_same p n mem behind h)))
          (said_as N N BadPointer (Some (take n (drop p mem))) cs ws a.1.1 l.1.1 rest)

  -- what is decoded, and the tables after it
  abbrev pub RowAs : {A : Type 0} → Names → Option A → Result (A × Names) TrapKind → Type 0
  RowAs N None r = Unit {0}
  RowAs N (Some x) (Ok y) = (y.0 ≡ x) × Left made N y.1 others
  RowAs N (Some x) (Err k) = ⊥

  pub decode_as : (spent : Sort → Bool) (wanted : List Argument) (N : Names) (cs : List Cell) (ws : List Word) → AllSpentRight spent wanted → ArraysFit made N.arrays → WordsAs made N cs ws → AllLive N.arrays cs → Once N cs ws →
      RowAs N (row_in mem wanted cs) (decode spent bytes N wanted ws)
  decode_as spent [] N [] [] r f a l o = (
    refl,
    record {
      carried = carried_same made N others;
      once = λ s q. let h = o s q in omega arith;
      arrays = refl;
    },
  )
  decode_as spent [] N [] (w ∷ ws) r f a l o = absurd a
  decode_as spent [] N (c ∷ cs) ws r f a l o = tt
  decode_as spent (x ∷ wanted) N cs ws r f a l o =
      by (first_argument mem x cs) (front N bytes x ws) (front_as spent N x cs ws r.0 f a l o)
      (λ us vs b v p. decode_as spent wanted (taken_front spent x ws N) us vs r.1 b v p)
    where
      N1 : Names
      N1 = taken_front spent x ws N

      by : (p : Option (InArgument x × List Cell)) (q : Result (InArgument x × List Word) TrapKind) → FrontAs N N1 p q →
          ((us : List Cell) (vs : List Word) → ArraysFit made N1.arrays → WordsAs made N1 us vs → AllLive N1.arrays us → Once N1 us vs → RowAs N1 (row_in mem wanted us) (decode spent bytes N1 wanted vs)) →
          RowAs {A = Row (x ∷ wanted)} N (with_some p (λ y. with_some (row_in mem wanted y.1) (λ rest. Some (y.0, rest)))) (and_then q (λ y. and_then (decode spent bytes N1 wanted y.1) (λ rest. Ok ((y.0, rest.0), rest.1))))
      by None q h more = tt
      by (Some y) (Err k) h more = absurd h
      by (Some y) (Ok z) h more =
          then_row (row_in mem wanted y.1) (decode spent bytes N1 wanted z.1) h.0
          (more y.1 z.1 (subst (ArraysFit made) (sym h.3.arrays) f)
          (words_carried made made N N1 (beside y.1 z.1) h.3.carried y.1 z.1 (λ s q. omega arith) h.1)
          (subst (λ t. AllLive t y.1) (sym h.3.arrays) h.2) h.3.once)
        where
          then_row : (o1 : Option (Row wanted)) (r1 : Result (Row wanted × Names) TrapKind) → z.0 ≡ y.0 → RowAs N1 o1 r1 →
              RowAs {A = Row (x ∷ wanted)} N (with_some o1 (λ rest. Some (y.0, rest))) (and_then r1 (λ rest. Ok ((z.0, rest.0), rest.1)))
          then_row None r1 e g = tt
          then_row (Some row) (Err k) e g = absurd g
          then_row (Some row) (Ok row1) e g = (
            ap (λ i. (i, row1.0)) e ∙ ap (λ i. (y.0, i)) g.0,
            record {
              carried = carried_then made made made N N1 row1.1 (beside y.1 z.1) others (λ s q. omega arith) h.3.carried g.1.carried;
              once = g.1.once;
              arrays = g.1.arrays ∙ h.3.arrays;
            },
          )
