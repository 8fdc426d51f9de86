-- Where a run of a small module has come to, each table of the host has a free number.
use Rattle.std.proofs.Common.{◌≡◌, ℕ, ◌+◌, ◌*◌, ◌^◌, ◌≤◌, Bool, List, [], ◌∷◌, length, refl, ap, arith}
use Rattle.std.proofs.Math.Nat.{mul-le-mul_right}
use Rattle.wasm_types.specs.Syntax.{Instructions}
use Rattle.wasm_store.specs.declared.word.Word.{Word}
use Rattle.wasm_model.specs.Frames.{settled_code, settled_values}
use Rattle.wasm_model.specs.Machines as real
use Rattle.wasm_model.specs.Machines.{CallerForm}
use Rattle.host_step.specs.HostState.{HostState, Names}
use Rattle.host_step.specs.Starts.{state_in}
use Rattle.mid_program.specs.Mid.{Kind, Program}
use Rattle.sem_scripts.specs.ScriptRun.{Setting}
use Rattle.lower_model.specs.Cells.{Cell}
use Rattle.lower_model.specs.Machine.{Code, Conf, Deep, Frame, Label, Look, Over, Run, Store, Stuck, go}
use Rattle.lower_model.specs.Modules.{called_imports, globals_of}
use Rattle.lower_model.specs.Runs.{begun, code_of}
use Rattle.agreement.specs.Refined.Refined.{As, FramesAs, RunAs}
use Rattle.agreement.specs.Refined.Words.{arrays_made}
use Rattle.agreement.proofs.RefinedLemmas.Beginning.{begun_as, in_main}
use Rattle.agreement.proofs.RefinedLemmas.Existing.{FreeFrom}
use Rattle.agreement.proofs.RefinedLemmas.Growing.{arrays_grow}
use Rattle.agreement.proofs.RefinedLemmas.Links.{linked, program, stays}
use Rattle.agreement.proofs.RefinedLemmas.StoredCells.{words_length}
use Rattle.agreement.specs.Refined.Owners.{places_in}
use Rattle.agreement.proofs.RefinedLemmas.Room.{HasFree, has_free}
use Rattle.agreement.proofs.RefinedLemmas.Running.{steps_as}
use Rattle.agreement.specs.Places.Places.{IsSmall}
use Rattle.agreement.proofs.PlacesLemmas.Begun.{OfFunction, fits_on}
use Rattle.agreement.proofs.PlacesLemmas.Fitting.{Fits, FramesFit}

module _ (used : ℕ → Bool) (bs : List Bool) (u : Code) (instructions places globals : ℕ) (Own : List Kind → Type 0) where
  -- the locals of callers
  waiting_few : (made : ℕ) (N : Names) (F : List Frame) (rs : List CallerForm) → FramesAs used bs made N F rs → FramesFit u instructions places globals Own F → places_in rs ≤ length F * places
  waiting_few made N [] [] a f = absurd a
  waiting_few made N [] (r ∷ []) a f = let e = ap (λ (z : CallerForm). places_in (z ∷ [])) a in omega (arith, e)
  waiting_few made N [] (r ∷ (q ∷ rs)) a f = absurd a
  waiting_few made N (w ∷ F) [] a f = absurd a
  waiting_few made N (w ∷ F) (r ∷ rs) a f =
      let e = words_length made N w.locals r.frame.locals a.0.locals in
      let l = f.0.locals in
      let h = waiting_few made N F rs a.1 f.1 in
      omega (arith, e, l, h)

  module _ (few : instructions + (places + (globals + u.deepest * places)) + 3 ≤ 2 ^ 31) where
    -- at work: with these words as operands
    free_at_work : (ks : List Kind) (vs : List Cell) (K : List Label) (L : List Cell) (F : List Frame) (code : Instructions) (G : Store) (ws : List Word) (rcode : Instructions) (c : real.Conf) (s : HostState) →
        RunAs used bs u vs K L F code G ws rcode c s → Fits u instructions places globals Own (Run ks vs K L F code G) → HasFree s.names
    free_at_work ks vs K L F code G ws rcode c s a f =
        let made = arrays_made G.host in
        let w = words_length made s.names vs ws a.operands in
        let l = words_length made s.names L c.frame.locals a.rest.locals in
        let g = words_length made s.names G.globals c.globals a.rest.globals in
        let q = waiting_few made s.names F c.callers a.rest.callers f.1.frames in
        let m = mul-le-mul_right places f.1.depth in
        let x = f.0 in
        let y = f.1.locals in
        let z = f.1.shared in
        has_free s.names vs L G.globals ws c.frame.locals c.globals F c.callers a.once (omega (arith, few, w, l, g, q, m, x, y, z))

    -- there are more numbers than places
    free_there : (P : Conf) (c : real.Conf) (s : HostState) → As used bs u P c s → Fits u instructions places globals Own P → (P ≡ Stuck → ⊥) → HasFree s.names
    free_there (Run ks vs K L F code G) c s a f alive =
        free_at_work ks vs K L F code G (settled_values c.frame.values c.frame.code) (settled_code c.frame.code) c s a f
    free_there (Look x ks vs K L F code G) c s a f alive = free_at_work ks vs K L F code G a.words c.frame.code c s a.run f
    free_there (Over v G) c s a f alive =
        let g = words_length (arrays_made G.host) s.names G.globals c.globals a.globals in
        let h = f.0 in has_free s.names [] [] G.globals [] [] c.globals [] [] a.once (omega (arith, few, g, h))
    free_there (Deep G) c s a f alive = absurd a
    free_there Stuck c s a f alive = absurd (alive refl)

-- A NUMBER IS FREE wherever a run may come to, once `main` has begun
pub free_from : (p : Program) → IsSmall p → (s : Setting) → ((n : ℕ) → go (code_of p 9999) n (begun p s) ≡ Stuck → ⊥) →
    FreeFrom (program p) (in_main p) (state_in s.job s.input s.outside)
free_from p small s alive k out c1 s1 steps =
    let g = small.globals in
    free_there (stays p) (called_imports p) (code_of p 9999) (2 ^ 29) 100000 (length (globals_of p)) (OfFunction p) (omega (arith, g)) (go (code_of p 9999) k (begun p s)) c1 s1
    (steps_as (linked p) arrays_grow k (begun p s) (in_main p) (state_in s.job s.input s.outside) out c1 s1 (begun_as p s 9999) steps)
    (fits_on p (2 ^ 29) 100000 small.functions s k) (alive k)
