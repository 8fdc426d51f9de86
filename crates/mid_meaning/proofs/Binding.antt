-- Laws of doing one thing after another.
use Rattle.std.proofs.Common.{◌≡◌, refl, sym, ◌∙◌}
use Rattle.sem_scripts.specs.ScriptState.{Outcome, Gives, Stops, Execution, go_on, ◌>>=◌, ◌>>◌, give, nothing}

-- the same, followed by what is the same
pub under : {A B : Type 0} (m : Execution A) (f f' : A → Execution B) → ((a : A) → f a ≡ f' a) → (◌>>=◌ m f) ≡ (◌>>=◌ m f')
under m f f' h = λ i st. go_on (m st) (λ a. h a i)

pub over : {A B : Type 0} (m m' : Execution A) (f : A → Execution B) → m ≡ m' → (◌>>=◌ m f) ≡ (◌>>=◌ m' f)
over m m' f p = λ i st. go_on (p i st) f

assoc_by : {A B C : Type 0} (o : Outcome A) (f : A → Execution B) (g : B → Execution C) → go_on (go_on o f) g ≡ go_on o (λ a. f a >>= g)
assoc_by (Gives a state) f g = refl
assoc_by (Stops why state) f g = refl

pub assoc : {A B C : Type 0} (m : Execution A) (f : A → Execution B) (g : B → Execution C) → ((m >>= f) >>= g) ≡ (m >>= λ a. f a >>= g)
assoc m f g = λ i state. assoc_by (m state) f g i

given_by : {A : Type 0} (o : Outcome A) → go_on o (λ a. give a) ≡ o
given_by (Gives a state) = refl
given_by (Stops why state) = refl

pub given : {A : Type 0} (m : Execution A) → (m >>= λ a. give a) ≡ m
given m = λ i state. given_by (m state) i

-- doing the same, where an answer of the first stands for one of the second
abbrev pub As : {A B : Type 0} → (A → B) → Execution A → Execution B → Type 0
As f m m' = (m >>= λ a. give (f a)) ≡ m'

pub bind_as : {A B C : Type 0} (f : A → B) (m : Execution A) (m' : Execution B) (k : A → Execution C) (k' : B → Execution C) → As f m m' → ((a : A) → k a ≡ k' (f a)) → (m >>= k) ≡ (m' >>= k')
bind_as f m m' k k' p h = under m k (λ a. k' (f a)) h ∙ sym (assoc m (λ a. give (f a)) k') ∙ over (m >>= λ a. give (f a)) m' k' p

-- with nothing after it
pub silent : (m : Execution (Unit {0})) → (m >> nothing) ≡ m
silent m = given m

-- one after another, whose answer goes on
pub flat : {A B C D : Type 0} (m : Execution A) (l : A → Execution B) (r : A → B → Execution C) (g : C → Execution D) → ((m >>= λ x. l x >>= λ y. r x y) >>= g) ≡ (m >>= λ x. l x >>= λ y. r x y >>= g)
flat m l r g = assoc m (λ x. l x >>= λ y. r x y) g ∙ under m (λ x. (l x >>= λ y. r x y) >>= g) (λ x. l x >>= λ y. r x y >>= g) (λ x. assoc (l x) (r x) g)
