-- What is looked for in code, from one instruction to the next.
use Rattle.std.proofs.Common.{◌≡◌, ℕ, suc, ◌+◌, ◌<◌, ◌≤◌, max, List, ◌∷◌, length, drop, get_or, Bool, true, false, ◌||◌, sym, ap, ◌∙◌, arith, drop-cons}
use Rattle.std.proofs.lemmas.List.{drop_all}
use Rattle.wasm_types.specs.declared.instr.Instr.{Instr}
use Rattle.wasm_types.specs.Syntax.{Instruction}
use Rattle.wasm_types.specs.Instructions.{depth, depths}
use Rattle.wasm_types.specs.View.{view, views}
use Rattle.module_validator.specs.Faults.{any_of, any_in}

module _ (P : ℕ → Instruction → Bool) (labels : ℕ) (code : List Instr) where
  -- the instructions so far are not at fault
  pub record Passed (n : ℕ) : Type 0 where
    pub same : any_in P labels (views code) ≡ any_in P labels (views (drop n code))
    pub deep : depths (views (drop n code)) ≤ depths (views code)

  module _ (n : ℕ) (i : Instr) (h : n < length code) (is : i ≡ get_or code n i) where
    here : drop n code ≡ i ∷ drop (n + 1) code
    here =
        let one_more : suc n ≡ n + 1 = omega arith in
        drop-cons code n i h ∙ (ap (λ (j : Instr). j ∷ drop (suc n) code) (sym is) ∙ ap (λ (m : ℕ). i ∷ drop m code) one_more)

    there : any_in P labels (views (drop n code)) ≡ (any_of P labels (view i) || any_in P labels (views (drop (n + 1) code)))
    there = ap (λ (is : List Instr). any_in P labels (views is)) here

    nested : depths (views (drop n code)) ≡ max (depth (view i)) (depths (views (drop (n + 1) code)))
    nested = ap (λ (is : List Instr). depths (views is)) here

    pub passed_deep : Passed n → depth (view i) ≤ depths (views code)
    passed_deep p = let q = nested in let r = p.deep in omega (arith, q, r)

    pub passed_fault : Passed n → any_of P labels (view i) ≡ true → any_in P labels (views code) ≡ true
    passed_fault p e = p.same ∙ (there ∙ ap (λ (b : Bool). b || any_in P labels (views (drop (n + 1) code))) e)

    pub passed_more : Passed n → any_of P labels (view i) ≡ false → Passed (n + 1)
    passed_more p e = record {
      same = p.same ∙ (there ∙ ap (λ (b : Bool). b || any_in P labels (views (drop (n + 1) code))) e);
      deep = (let q = nested in let r = p.deep in omega (arith, q, r));
    }

  pub passed_all : (n : ℕ) → length code ≤ n → Passed n → any_in P labels (views code) ≡ false
  passed_all n h p = p.same ∙ ap (λ (is : List Instr). any_in P labels (views is)) (drop_all n code h)
