use Rattle.std.proofs.Common.{◌≡◌, List, ◌∷◌, ◌++◌, [], reverse, ℕ, length, sym, subst, Option, Bool, true, false, refl, ap, arith, suc, rules}
use Rattle.std.specs.Prelude.{◌↔◌, IsTrue, ◌==◌}
use Rattle.std.proofs.lemmas.Bool.Decides.{nat_tests}
use Rattle.std.proofs.lemmas.List.{reverse-append}
use Rattle.wasm_types.specs.declared.types.ValType.{ValType}
use Rattle.module_validator.specs.Forms.{Form, FitsBoth, Fits}
use Rattle.module_validator.proofs.stack.Stack.is_done.Goals as goal

not_done : (ys : List (Option ValType)) (x : Option ValType) (o : Bool) → FitsBoth (ys ++ x ∷ []) o [] → ⊥
not_done [] x o h = h
not_done (y ∷ ys) x o h = h

full : (n k : ℕ) → n ≡ suc k → (n == 0) ≡ true → ⊥
full n k e h = absurd (grind (arith, nat_tests))

done_test : (xs : List (Option ValType)) (o : Bool) (n : ℕ) → n ≡ length xs → IsTrue (n == 0) ↔ FitsBoth (reverse xs) o []
done_test [] true n e = (λ h. tt, λ h. ap (λ m. m == 0) e)
done_test [] false n e = (λ h. refl, λ h. ap (λ m. m == 0) e)
done_test (x ∷ xs) o n e = (λ h. absurd (full n (length xs) (omega arith) h), λ h. absurd (not_done (reverse xs) x o (subst (λ (zs : List (Option ValType)). FitsBoth zs o []) (reverse-append (x ∷ []) xs) h)))

pub returns : goal.returns
returns c = subst (λ (b : Bool). IsTrue b ↔ Fits c.args.self.now []) (sym c.is_empty.ensures) (subst (λ (s : Form). IsTrue (c.self.inside.items.len == 0) ↔ Fits s []) c.self.view_is (done_test c.self.inside.items.items c.self.inside.unreached c.self.inside.items.len (search rules)))
