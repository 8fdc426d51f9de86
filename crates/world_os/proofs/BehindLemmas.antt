-- What calls do to a state, seen from behind a fence, is what they do to the state that is seen.
use Rattle.std.proofs.Common.{◌≡◌, ◌∙◌, ℕ, ◌==◌, List, [], ◌∷◌, take, Option, IfSome, Result, Ok, Err, Bool, true, false, ◌&&◌, cond, ◌≤◌, refl, sym, ap, subst}
use Rattle.std.specs.Cmp.Lexicographic.{pointwise}
use Rattle.std.proofs.Math.Path.{fun_ext}
use Rattle.world_core.specs.declared.world.WorldFault.{WorldFault}
use Rattle.world_core.specs.declared.world.WorldFault.TheVariants.{Failed, NoMemory}
use Rattle.world_core.specs.WorldState.{Action, Entry, Named, Open, Outside, Put, Standard, State, Target, acted, after, free, puts, step}
use Rattle.world_core.specs.Calls.{KeepsOthers, OpensToWrite, Writes}
use Rattle.world_core.proofs.NameLemmas.{same_name}
use Rattle.world_os.specs.Behind.{behind, outside_behind, seen}

seen-acted : (b : Bool) (a : Action) (e : Entry) → seen b (acted a e) ≡ acted a (seen b e)
seen-acted b (Open name true) e = refl
seen-acted b (Open name false) e = refl
seen-acted b (Put target byte) e = refl

-- one name holds something else
seen-named : (lets : List ℕ → Bool) (n m : List ℕ) (a : Action) (there here : Entry) (b : Bool) → pointwise ◌==◌ n m ≡ b →
    seen (lets m) (cond b (acted a there) here) ≡ cond b (acted a (seen (lets n) there)) (seen (lets m) here)
seen-named lets n m a there here true is = seen-acted (lets m) a there ∙ ap (λ (k : List ℕ). acted a (seen (lets k) there)) (sym (same_name n m is))
seen-named lets n m a there here false is = refl

step-behind : (lets : List ℕ → Bool) (a : Action) (outside : Outside) → outside_behind lets (step a outside) ≡ step a (outside_behind lets outside)
step-behind lets a outside = fun_ext (at a)
  where
    at : (a : Action) (t : Target) → outside_behind lets (step a outside) t ≡ step a (outside_behind lets outside) t
    at (Open name append) Standard = refl
    at (Put Standard byte) Standard = refl
    at (Put (Named name) byte) Standard = refl
    at (Open name append) (Named m) = seen-named lets name m (Open name append) (outside (Named name)) (outside (Named m)) (pointwise ◌==◌ name m) refl
    at (Put Standard byte) (Named m) = refl
    at (Put (Named name) byte) (Named m) = seen-named lets name m (Put (Named name) byte) (outside (Named name)) (outside (Named m)) (pointwise ◌==◌ name m) refl

pub after-behind : (lets : List ℕ → Bool) (actions : List Action) (outside : Outside) → outside_behind lets (after actions outside) ≡ after actions (outside_behind lets outside)
after-behind lets [] outside = refl
after-behind lets (a ∷ rest) outside = after-behind lets rest (step a outside) ∙ ap (after rest) (step-behind lets a outside)

free-behind : (lets : List ℕ → Bool) (outside : Outside) (t : Target) → free (outside_behind lets outside t) ≡ free (outside t)
free-behind lets outside Standard = refl
free-behind lets outside (Named name) = refl

others-behind : (lets : List ℕ → Bool) (id : ℕ) (s t : State) → KeepsOthers id s t → KeepsOthers id (behind lets s) (behind lets t)
others-behind lets id s t kept = record { readers = kept.readers; writers = kept.writers }

pub open-behind : (lets : List ℕ → Bool) (name : List ℕ) (append : Bool) (r : Result ℕ WorldFault) (s t : State) → lets name ≡ true →
    OpensToWrite name append s r t → OpensToWrite name append (behind lets s) r (behind lets t)
open-behind lets name append (Ok id) s t let_through o = record {
  opens = ap (λ (b : Bool). b && (s.outside (Named name)).opens) let_through ∙ o.opens;
  outside = ap (outside_behind lets) o.outside ∙ after-behind lets (Open name append ∷ []) s.outside;
  writer = o.writer;
  others = others-behind lets id s t o.others;
}
open-behind lets name append (Err Failed) s t let_through o = (ap (behind lets) o.0, ap (λ (b : Bool). b && (s.outside (Named name)).opens) let_through ∙ o.1)
open-behind lets name append (Err NoMemory) s t let_through o = ap (behind lets) o

pub writes-behind : (lets : List ℕ → Bool) (id : ℕ) (text : List ℕ) (r : Result ℕ WorldFault) (s t : State) → Writes id text s r t → Writes id text (behind lets s) r (behind lets t)
writes-behind lets id text (Ok n) s t w = record {
  fits = subst (λ (room : Option ℕ). IfSome room (λ k. n ≤ k)) (sym (free-behind lets s.outside (s.writers id))) w.fits;
  does = record {
    outside = ap (outside_behind lets) w.does.outside ∙ after-behind lets (puts (s.writers id) (take n text)) s.outside;
    readers = w.does.readers;
    writers = w.does.writers;
  };
}
writes-behind lets id text (Err Failed) s t w = record {
  asked = w.asked;
  full = free-behind lets s.outside (s.writers id) ∙ w.full;
  unchanged = ap (behind lets) w.unchanged;
}
writes-behind lets id text (Err NoMemory) s t w = ap (behind lets) w
