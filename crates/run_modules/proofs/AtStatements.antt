-- The place of the statement at work, among the places of the module's code.
use Rattle.std.proofs.Common.{◌≡◌, ◌⊎◌, inl, inr, ℕ, zero, suc, ◌+◌, Bool, false, cond, List, [], ◌∷◌, ◌++◌, Some, None, take, refl, sym, ap, ◌∙◌, subst, arith}
use Rattle.std.specs.List.{count_by}
use Rattle.std.specs.Prelude.{slice_get}
use Rattle.std.proofs.lemmas.List.Sums.{sum_by-cons}
use Rattle.wasm_types.specs.declared.instr.Simple.TheVariants.{Nop}
use Rattle.wasm_types.specs.Syntax as tree
use Rattle.wasm_types.specs.Syntax.{FuncForm, Instructions, Then}
use Rattle.wasm_model.specs.Frames.{FrameForm}
use Rattle.wasm_model.specs.Machines.{ProgramForm}
use Rattle.wasm_loader.specs.Flat.{Form, Plain, code_from, flat}
use Rattle.wasm_loader.specs.Landings.{framed_at}
use Rattle.wasm_loader.proofs.Flattening.{code_flat}
use Rattle.wasm_machine.specs.Amid.{Amid}
use Rattle.wasm_machine.specs.Places.{HasStatement, StandsAt}
use Rattle.wasm_machine.specs.StatementAt.{IsStatementAt, code_in, is_nop}
use Rattle.wasm_machine.specs.declared.places.Place.{Place}
use Rattle.wasm_machine.proofs.WorkingCode.{AtWork, at_work}
use Rattle.agreement.specs.Places.Statements.{starts_in}
use Rattle.script_places.specs.Passes.{nop_at, nops_from, nops_of}
use Rattle.run_modules.proofs.StandingPlaces.{code_of_place}

kind_of : (f : Form) → (f ≡ Plain Nop) ⊎ ((is_nop f ≡ false) × ((p : ℕ) → nop_at p f ≡ []))
kind_of (Plain Nop) = inl refl
kind_of f = inr (refl, λ p. refl)

-- The `nop` before which there are so many has this number.
nop_number : (fs : List Form) (p at : ℕ) → slice_get fs at ≡ Some (Plain Nop) → slice_get (nops_from p fs) (count_by is_nop (take at fs)) ≡ Some (p + at)
nop_number [] p at e = let none : None ≡ Some (Plain Nop) = e in absurd cc
nop_number (f ∷ fs) p zero e =
    let same : f ≡ Plain Nop = cc in
    let here : p ≡ p + 0 = omega arith in
    subst (λ (g : Form). slice_get (nop_at p g ++ nops_from (p + 1) fs) 0 ≡ Some (p + 0)) (sym same) (ap (λ (n : ℕ). Some n) here)
nop_number (f ∷ fs) p (suc at) e = by (kind_of f) (nop_number fs (p + 1) at e) where
  counted : count_by is_nop (f ∷ take at fs) ≡ cond (is_nop f) 1 0 + count_by is_nop (take at fs)
  counted = sum_by-cons (λ x. cond (is_nop x) 1 0) f (take at fs)

  by : (f ≡ Plain Nop) ⊎ ((is_nop f ≡ false) × ((q : ℕ) → nop_at q f ≡ []))
      → slice_get (nops_from (p + 1) fs) (count_by is_nop (take at fs)) ≡ Some ((p + 1) + at)
      → slice_get (nop_at p f ++ nops_from (p + 1) fs) (count_by is_nop (f ∷ take at fs)) ≡ Some (p + suc at)
  by (inl is) rest =
      let one : cond {A = ℕ} (is_nop f) 1 0 ≡ 1 = ap (λ (g : Form). cond {A = ℕ} (is_nop g) 1 0) is in
      let more : count_by is_nop (f ∷ take at fs) ≡ suc (count_by is_nop (take at fs)) = omega (arith, counted, one) in
      let same : (p + 1) + at ≡ p + suc at = omega arith in
      ap (slice_get (nop_at p f ++ nops_from (p + 1) fs)) more
      ∙ (ap (λ (g : Form). slice_get (nop_at p g ++ nops_from (p + 1) fs) (suc (count_by is_nop (take at fs)))) is ∙ (rest ∙ ap (λ (n : ℕ). Some n) same))
  by (inr x) rest =
      let none : cond {A = ℕ} (is_nop f) 1 0 ≡ 0 = ap (λ (b : Bool). cond {A = ℕ} b 1 0) x.0 in
      let more : count_by is_nop (f ∷ take at fs) ≡ count_by is_nop (take at fs) = omega (arith, counted, none) in
      let same : (p + 1) + at ≡ p + suc at = omega arith in
      ap (slice_get (nop_at p f ++ nops_from (p + 1) fs)) more
      ∙ (ap (λ (ns : List ℕ). slice_get (ns ++ nops_from (p + 1) fs) (count_by is_nop (take at fs))) (x.1 p) ∙ (rest ∙ ap (λ (n : ℕ). Some n) same))

pub told_place : (program : ProgramForm) (import : ℕ) (place : Place) (frame : FrameForm) (func : FuncForm) (number : ℕ)
    → StandsAt program.whole place (Some frame) → slice_get program.whole.funcs place.function ≡ Some func → HasStatement program import place (Some number)
    → (own : Instructions) × (slice_get (starts_in func.body) number ≡ Some (Then (tree.Plain Nop) own)) × Amid own frame.code
told_place program import place frame func number stands there has =
    let fs : List Form = flat 0 func.body in
    let is : IsStatementAt fs program.numbers import place.at (Some number) =
    subst (λ o. IsStatementAt (code_in o) program.numbers import place.at (Some number)) there has in
    let work : AtWork fs number (code_from fs place.at) = at_work fs program.numbers import place.at number is in
    let first : 0 + work.at ≡ work.at = omega arith in
    let index : slice_get (nops_of func) number ≡ Some work.at =
    ap (slice_get (nops_of func)) work.counted ∙ (nop_number fs 0 work.at work.nop ∙ ap (λ (n : ℕ). Some n) first) in
    let starts = code_of_place func fs (code_flat fs func.body refl) number work.at index in
    let next : frame ≡ framed_at stands.code stands.words place.at = cc (stands.stands) in
    let code : code_from fs place.at ≡ frame.code =
    ap (λ (gs : List Form). code_from gs place.at) (sym (stands.body func there)) ∙ sym (ap (λ (f : FrameForm). f.code) next) in
    (work.own, starts ∙ ap (λ (x : Instructions). Some x) work.begins, subst (Amid work.own) code work.amid)
