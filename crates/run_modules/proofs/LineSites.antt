-- Sites of a module with lines, one more at a time.
use Rattle.std.proofs.Common.{◌≡◌, ◌⊎◌, inl, inr, ℕ, List, [], ◌∷◌, ◌++◌, length, Some, None, sym, subst}
use Rattle.std.specs.Prelude.{slice_get}
use Rattle.wasm_model.specs.Machines.{Conf, ProgramForm}
use Rattle.wasm_machine.specs.Places.{StandsAt, frame_at}
use Rattle.wasm_machine.specs.declared.places.Place.{Place}
use Rattle.script_places.specs.Lines.{FunctionForm}
use Rattle.run_report.specs.declared.whereabouts.CallSite.{CallSite}
use Rattle.run_modules.specs.ModuleSeen.{AreLineSites, IsLineSite}
use Rattle.script_places.proofs.SiteLemmas.{one_more}

module _ (table : List FunctionForm) (program : ProgramForm) (conf : Conf) where
  pub no_line_sites : AreLineSites table program conf []
  no_line_sites n site e = let z : None ≡ Some site = e in absurd cc

  pub with_line_site : (sites : List CallSite) (x : CallSite) (place : Place) → AreLineSites table program conf sites
      → StandsAt program.whole place (frame_at conf (length sites)) → IsLineSite table program place x → AreLineSites table program conf (sites ++ x ∷ [])
  with_line_site sites x place are stands is n site e = by (one_more sites x site n e) where
    by : ((slice_get sites n ≡ Some site) ⊎ ((n ≡ length sites) × (x ≡ site)))
        → (p : Place) × StandsAt program.whole p (frame_at conf n) × IsLineSite table program p site
    by (inl p) = are n site p
    by (inr p) = (place, subst (λ (k : ℕ). StandsAt program.whole place (frame_at conf k)) (sym p.0) stands, subst (IsLineSite table program place) p.1 is)
