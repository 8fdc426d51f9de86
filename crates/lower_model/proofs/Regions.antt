-- Lists of cells as regions, each a function of the places in it.
use Rattle.std.proofs.Common.{◌≡◌, ◌≢◌, ℕ, zero, suc, ◌+◌, ◌<◌, List, [], ◌∷◌, ◌++◌, length, refl, sym, ap, ap₂, ◌∙◌, arith}
use Rattle.std.specs.Prelude.{get_or, set}
use Rattle.std.proofs.lemmas.List.{get_or-append-add}

-- a function that has another value at one number
abbrev pub upd : {A : Type 0} → (ℕ → A) → ℕ → A → ℕ → A
upd f zero a zero = a
upd f zero a (suc j) = f (suc j)
upd f (suc i) a zero = f zero
upd f (suc i) a (suc j) = upd (λ k. f (suc k)) i a j

pub upd_same : {A : Type 0} → (f : ℕ → A) (i : ℕ) (a : A) → upd f i a i ≡ a
upd_same f zero a = refl
upd_same f (suc i) a = upd_same (λ k. f (suc k)) i a

pub upd_other : {A : Type 0} → (f : ℕ → A) (i j : ℕ) (a : A) → j ≢ i → upd f i a j ≡ f j
upd_other f zero zero a h = absurd (h refl)
upd_other f zero (suc j) a h = refl
upd_other f (suc i) zero a h = refl
upd_other f (suc i) (suc j) a h = upd_other (λ k. f (suc k)) i j a (λ e. h (ap suc e))

-- what holds of the new value and of the others holds of all
pub upd_all : {A : Type 0} → (P : ℕ → A → Type 0) (f : ℕ → A) (i : ℕ) (a : A) → P i a → ((j : ℕ) → j ≢ i → P j (f j)) → (j : ℕ) → P j (upd f i a j)
upd_all P f zero a p q zero = p
upd_all P f zero a p q (suc j) = q (suc j) (λ e. omega (arith, e))
upd_all P f (suc i) a p q zero = q zero (λ e. omega (arith, e))
upd_all P f (suc i) a p q (suc j) = upd_all (λ k. P (suc k)) (λ k. f (suc k)) i a p (λ k ne. q (suc k) (λ e. ne (omega (arith, e)))) j

-- a region of n places
abbrev pub cells : {A : Type 0} → (ℕ → A) → ℕ → List A
cells f zero = []
cells f (suc n) = f zero ∷ cells (λ i. f (suc i)) n

-- one of n places with two cells each
abbrev pub pairs : {A : Type 0} → (ℕ → A) → (ℕ → A) → ℕ → List A
pairs f g zero = []
pairs f g (suc n) = f zero ∷ (g zero ∷ pairs (λ i. f (suc i)) (λ i. g (suc i)) n)

pub cells_length : {A : Type 0} → (f : ℕ → A) (n : ℕ) → length (cells f n) ≡ n
cells_length f zero = refl
cells_length f (suc n) = ap suc (cells_length (λ i. f (suc i)) n)

pub pairs_length : {A : Type 0} → (f g : ℕ → A) (n : ℕ) → length (pairs f g n) ≡ n + n
pairs_length f g zero = refl
pairs_length f g (suc n) = let h = pairs_length (λ i. f (suc i)) (λ i. g (suc i)) n in omega (arith, h)

pub cells_same : {A : Type 0} → (f g : ℕ → A) (n : ℕ) → ((i : ℕ) → i < n → f i ≡ g i) → cells f n ≡ cells g n
cells_same f g zero h = refl
cells_same f g (suc n) h = ap₂ (λ x y. x ∷ y) (h zero (omega arith)) (cells_same (λ i. f (suc i)) (λ i. g (suc i)) n (λ i l. h (suc i) (omega (arith, l))))

pub pairs_same : {A : Type 0} → (f g f1 g1 : ℕ → A) (n : ℕ) → ((i : ℕ) → i < n → f i ≡ f1 i) → ((i : ℕ) → i < n → g i ≡ g1 i) → pairs f g n ≡ pairs f1 g1 n
pairs_same f g f1 g1 zero h k = refl
pairs_same f g f1 g1 (suc n) h k =
    ap₂ (λ x y. x ∷ y) (h zero (omega arith))
    (ap₂ (λ x y. x ∷ y) (k zero (omega arith))
    (pairs_same (λ i. f (suc i)) (λ i. g (suc i)) (λ i. f1 (suc i)) (λ i. g1 (suc i)) n (λ i l. h (suc i) (omega (arith, l))) (λ i l. k (suc i) (omega (arith, l)))))

-- reading and writing in front of other places

pub cells_at : {A : Type 0} → (f : ℕ → A) (n i : ℕ) (rest : List A) (d : A) → i < n → get_or (cells f n ++ rest) i d ≡ f i
cells_at f zero i rest d l = absurd (omega (arith, l))
cells_at f (suc n) zero rest d l = refl
cells_at f (suc n) (suc i) rest d l = cells_at (λ k. f (suc k)) n i rest d (omega (arith, l))

pub cells_set : {A : Type 0} → (f : ℕ → A) (n i : ℕ) (rest : List A) (a : A) → i < n → set (cells f n ++ rest) i a ≡ cells (upd f i a) n ++ rest
cells_set f zero i rest a l = absurd (omega (arith, l))
cells_set f (suc n) zero rest a l = refl
cells_set f (suc n) (suc i) rest a l = ap (λ x. f zero ∷ x) (cells_set (λ k. f (suc k)) n i rest a (omega (arith, l)))

pub left_at : {A : Type 0} → (f g : ℕ → A) (n i : ℕ) (rest : List A) (d : A) → i < n → get_or (pairs f g n ++ rest) (i + i) d ≡ f i
left_at f g zero i rest d l = absurd (omega (arith, l))
left_at f g (suc n) zero rest d l = refl
left_at f g (suc n) (suc i) rest d l =
    let e : suc i + suc i ≡ suc (suc (i + i)) = omega arith in
    ap (λ x. get_or (pairs f g (suc n) ++ rest) x d) e ∙ left_at (λ k. f (suc k)) (λ k. g (suc k)) n i rest d (omega (arith, l))

pub right_at : {A : Type 0} → (f g : ℕ → A) (n i : ℕ) (rest : List A) (d : A) → i < n → get_or (pairs f g n ++ rest) (suc (i + i)) d ≡ g i
right_at f g zero i rest d l = absurd (omega (arith, l))
right_at f g (suc n) zero rest d l = refl
right_at f g (suc n) (suc i) rest d l =
    let e : suc (suc i + suc i) ≡ suc (suc (suc (i + i))) = omega arith in
    ap (λ x. get_or (pairs f g (suc n) ++ rest) x d) e ∙ right_at (λ k. f (suc k)) (λ k. g (suc k)) n i rest d (omega (arith, l))

pub left_set : {A : Type 0} → (f g : ℕ → A) (n i : ℕ) (rest : List A) (a : A) → i < n → set (pairs f g n ++ rest) (i + i) a ≡ pairs (upd f i a) g n ++ rest
left_set f g zero i rest a l = absurd (omega (arith, l))
left_set f g (suc n) zero rest a l = refl
left_set f g (suc n) (suc i) rest a l =
    let e : suc i + suc i ≡ suc (suc (i + i)) = omega arith in
    ap (λ x. set (pairs f g (suc n) ++ rest) x a) e ∙ ap (λ x. f zero ∷ (g zero ∷ x)) (left_set (λ k. f (suc k)) (λ k. g (suc k)) n i rest a (omega (arith, l)))

pub right_set : {A : Type 0} → (f g : ℕ → A) (n i : ℕ) (rest : List A) (a : A) → i < n → set (pairs f g n ++ rest) (suc (i + i)) a ≡ pairs f (upd g i a) n ++ rest
right_set f g zero i rest a l = absurd (omega (arith, l))
right_set f g (suc n) zero rest a l = refl
right_set f g (suc n) (suc i) rest a l =
    let e : suc (suc i + suc i) ≡ suc (suc (suc (i + i))) = omega arith in
    ap (λ x. set (pairs f g (suc n) ++ rest) x a) e ∙ ap (λ x. f zero ∷ (g zero ∷ x)) (right_set (λ k. f (suc k)) (λ k. g (suc k)) n i rest a (omega (arith, l)))

-- and behind a region of known length
pub behind_at : {A : Type 0} → (xs rest : List A) (n k : ℕ) (d : A) → length xs ≡ n → get_or (xs ++ rest) (n + k) d ≡ get_or rest k d
behind_at xs rest n k d e = ap (λ m. get_or (xs ++ rest) (m + k) d) (sym e) ∙ get_or-append-add xs rest k d

set_behind : {A : Type 0} → (xs rest : List A) (k : ℕ) (a : A) → set (xs ++ rest) (length xs + k) a ≡ xs ++ set rest k a
set_behind [] rest k a = let e : zero + k ≡ k = omega arith in ap (λ m. set rest m a) e
set_behind (x ∷ xs) rest k a =
    let e : suc (length xs) + k ≡ suc (length xs + k) = omega arith in
    ap (λ m. set (x ∷ (xs ++ rest)) m a) e ∙ ap (λ y. x ∷ y) (set_behind xs rest k a)

pub behind_set : {A : Type 0} → (xs rest : List A) (n k : ℕ) (a : A) → length xs ≡ n → set (xs ++ rest) (n + k) a ≡ xs ++ set rest k a
behind_set xs rest n k a e = ap (λ m. set (xs ++ rest) (m + k) a) (sym e) ∙ set_behind xs rest k a
