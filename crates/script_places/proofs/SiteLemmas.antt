-- Sites, one more at a time.
use Rattle.std.proofs.Common.{◌≡◌, ◌⊎◌, inl, inr, ℕ, zero, suc, List, [], ◌∷◌, ◌++◌, length, Some, None, refl, sym, ap, subst}
use Rattle.std.specs.Prelude.{slice_get}
use Rattle.awk_grammar.specs.Trees.{Item}
use Rattle.awk_tokens.specs.Cutting.{Spelled}
use Rattle.wasm_model.specs.Machines.{Conf, ProgramForm}
use Rattle.wasm_machine.specs.Places.{StandsAt, frame_at}
use Rattle.wasm_machine.specs.declared.places.Place.{Place}
use Rattle.run_report.specs.declared.whereabouts.CallSite.{CallSite}
use Rattle.script_places.specs.Sites.{AreSites, IsSite}

-- an element of a list with one more at its end
pub one_more : {A : Type 0} (xs : List A) (x y : A) (n : ℕ) → slice_get (xs ++ x ∷ []) n ≡ Some y → (slice_get xs n ≡ Some y) ⊎ ((n ≡ length xs) × (x ≡ y))
one_more [] x y zero e = inr (refl, (let z : Some x ≡ Some y = e in cc))
one_more [] x y (suc n) e = let z : None ≡ Some y = e in absurd cc
one_more (z ∷ xs) x y zero e = inl e
one_more (z ∷ xs) x y (suc n) e = by (one_more xs x y n e) where
  by : ((slice_get xs n ≡ Some y) ⊎ ((n ≡ length xs) × (x ≡ y))) → (slice_get (z ∷ xs) (suc n) ≡ Some y) ⊎ ((suc n ≡ length (z ∷ xs)) × (x ≡ y))
  by (inl p) = inl p
  by (inr p) = inr (ap suc p.0, p.1)

module _ (tokens : List Spelled) (script : List Item) (program : ProgramForm) (conf : Conf) where
  pub no_sites : AreSites tokens script program conf []
  no_sites n site e = let z : None ≡ Some site = e in absurd cc

  pub with_site : (sites : List CallSite) (x : CallSite) (place : Place) → AreSites tokens script program conf sites
      → StandsAt program.whole place (frame_at conf (length sites)) → IsSite tokens script program place x
      → AreSites tokens script program conf (sites ++ x ∷ [])
  with_site sites x place are stands is n site e = by (one_more sites x site n e) where
    by : ((slice_get sites n ≡ Some site) ⊎ ((n ≡ length sites) × (x ≡ site)))
        → (p : Place) × StandsAt program.whole p (frame_at conf n) × IsSite tokens script program p site
    by (inl p) = are n site p
    by (inr p) = (place, subst (λ (k : ℕ). StandsAt program.whole place (frame_at conf k)) (sym p.0) stands, subst (IsSite tokens script program place) p.1 is)
