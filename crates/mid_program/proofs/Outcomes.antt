-- Laws of outcomes that are alike.
use Rattle.std.proofs.Common.{◌≡◌, refl, ap, subst, ◌∙◌}
use Rattle.sem_scripts.specs.ScriptState.{State, Outcome, Gives, Stops, Execution, go_on}
use Rattle.mid_program.specs.Alike.{LikeR}

-- what is done after them
pub like_bind : {A B C D : Type 0} (R : A → B → Type 0) (Q : C → D → Type 0) (m : Outcome A) (m' : Outcome B) (k : A → Execution C) (k' : B → Execution D) → LikeR R m m' →
    ((a : A) (b : B) (s : State) → R a b → LikeR Q (k a s) (k' b s)) → LikeR Q (go_on m k) (go_on m' k')
like_bind R Q (Gives a s) (Gives b t) k k' h go = subst (λ (u : State). LikeR Q (k a s) (k' b u)) h.1 (go a b s h.0)
like_bind R Q (Stops y s) (Stops z t) k k' h go = h
like_bind R Q (Gives a s) (Stops z t) k k' h go = absurd h
like_bind R Q (Stops y s) (Gives b t) k k' h go = absurd h

pub same_bind : {A B C : Type 0} (R : A → B → Type 0) (m : Outcome A) (m' : Outcome B) (k : A → Execution C) (k' : B → Execution C) → LikeR R m m' →
    ((a : A) (b : B) (s : State) → R a b → k a s ≡ k' b s) → go_on m k ≡ go_on m' k'
same_bind R (Gives a s) (Gives b t) k k' h go = go a b s h.0 ∙ ap (k' b) h.1
same_bind R (Stops y s) (Stops z t) k k' h go = λ i. Stops (h.0 i) (h.1 i)
same_bind R (Gives a s) (Stops z t) k k' h go = absurd h
same_bind R (Stops y s) (Gives b t) k k' h go = absurd h

pub like_self : {A : Type 0} (R : A → A → Type 0) → ((a : A) → R a a) → (m : Outcome A) → LikeR R m m
like_self R r (Gives a s) = (r a, refl)
like_self R r (Stops y s) = (refl, refl)

pub like_of : {A : Type 0} (R : A → A → Type 0) → ((a : A) → R a a) → (m m' : Outcome A) → m ≡ m' → LikeR R m m'
like_of R r m m' e = subst (λ (o : Outcome _). LikeR R m o) e (like_self R r m)

pub like_trans : {A B C : Type 0} (R : A → B → Type 0) (Q : B → C → Type 0) (W : A → C → Type 0) (m : Outcome A) (m' : Outcome B) (n : Outcome C) → LikeR R m m' → LikeR Q m' n →
    ((a : A) (b : B) (c : C) → R a b → Q b c → W a c) → LikeR W m n
like_trans R Q W (Gives a s) (Gives b t) (Gives c u) h k j = (j a b c h.0 k.0, h.1 ∙ k.1)
like_trans R Q W (Stops y s) (Stops z t) (Stops x u) h k j = (h.0 ∙ k.0, h.1 ∙ k.1)
like_trans R Q W (Gives a s) (Gives b t) (Stops x u) h k j = absurd k
like_trans R Q W (Stops y s) (Stops z t) (Gives c u) h k j = absurd k
like_trans R Q W (Gives a s) (Stops z t) n h k j = absurd h
like_trans R Q W (Stops y s) (Gives b t) n h k j = absurd h
