-- Code that is typed stays so once its calls are numbered anew.
use Rattle.std.proofs.Common.{◌≡◌, ℕ, Bool, true, false, List, [], ◌∷◌, ◌++◌, Option, None, refl, sym, ap, ◌∙◌}
use Rattle.std.specs.Prelude.{reverse}
use Rattle.std.proofs.lemmas.Bool.{eq-eqb, or_left, or_right}
use Rattle.wasm_types.specs.Syntax.{Instruction, Plain, BrTable, Block, Loop, If, Instructions, Done, Then, Signature}
use Rattle.wasm_types.specs.Typing.{one, Context, Fixed, over, effect_of, CodeOk, done, more, InstrOk, simple, table, block, loop, choice}
use Rattle.wasm_types.specs.declared.types.ValType.TheVariants.{I32}
use Rattle.wasm_types.specs.declared.instr.Simple.{Simple}
use Rattle.wasm_types.specs.declared.instr.Simple.TheVariants.{Call, CallIndirect}
use Rattle.lower_model.specs.Modules.{is_call, calls_in, calls_by, new_number, renumbered_simple, renumbered, renumbered_one}
use Rattle.agreement.proofs.TypedLemmas.Singles.{Stack, Labels}

-- with other functions and types
abbrev pub with_callees : (g y : ℕ → Option Signature) → Context → Context
with_callees g y C = record C { callee = g; typed = y }

module _ (bs : List Bool) (g y : ℕ → Option Signature) where
  effect_same : (C : Context) (L : Labels) (q : Simple) → C.table ≡ false → ((n : ℕ) → is_call n q ≡ true → g (new_number bs n) ≡ C.callee n) →
      effect_of (with_callees g y C) L (renumbered_simple bs q) ≡ effect_of C L q
  effect_same C L (Call n) o f = ap (λ c. over c (λ (t : Signature). Fixed (reverse t.params) t.result)) (f n (eq-eqb n n refl))
  effect_same C L (CallIndirect n) o f = unindexed y ∙ sym (unindexed C.typed)
    where
      unindexed : (z : ℕ → Option Signature) → effect_of (record C { typed = z }) L (CallIndirect n) ≡ None
      unindexed z = ap (λ (c : Bool). elim c [ false ↦ None | true ↦ over (z n) (λ (t : Signature). Fixed (I32 ∷ reverse t.params) t.result) ]) o
  effect_same C L q o f = refl

  mutual
    -- where each function that the code calls has its type under its new number
    pub renumbered_ok : (C : Context) (L : Labels) (a : Instructions) (ps rs : Stack) → C.table ≡ false →
        ((n : ℕ) → calls_in n a ≡ true → g (new_number bs n) ≡ C.callee n) →
        CodeOk C L a ps rs → CodeOk (with_callees g y C) L (renumbered bs a) ps rs
    renumbered_ok C L Done ps rs o f done = done
    renumbered_ok C L (Then i k) ps rs o f (more qs ss under t e r) =
        more qs ss under (one_renumbered_ok C L i qs ss o (λ n h. f n (or_left (calls_by n i) (calls_in n k) h)) t) e
        (renumbered_ok C L k (ss ++ under) rs o (λ n h. f n (or_right (calls_by n i) (calls_in n k) h)) r)

    one_renumbered_ok : (C : Context) (L : Labels) (i : Instruction) (ps rs : Stack) → C.table ≡ false →
        ((n : ℕ) → calls_by n i ≡ true → g (new_number bs n) ≡ C.callee n) →
        InstrOk C L i ps rs → InstrOk (with_callees g y C) L (renumbered_one bs i) ps rs
    one_renumbered_ok C L (Plain q) ps rs o f (simple e h t) = simple e (effect_same C L q o f ∙ h) t
    one_renumbered_ok C L (BrTable ds d) ps rs o f (table r h all t) = table r h all t
    one_renumbered_ok C L (Block r a) ps rs o f (block h t) = block (renumbered_ok C (r ∷ L) a [] (one r) o f h) t
    one_renumbered_ok C L (Loop r a) ps rs o f (loop h t) = loop (renumbered_ok C (None ∷ L) a [] (one r) o f h) t
    one_renumbered_ok C L (If r a c) ps rs o f (choice h u t) =
        choice (renumbered_ok C (r ∷ L) a [] (one r) o (λ n e. f n (or_left (calls_in n a) (calls_in n c) e)) h)
        (renumbered_ok C (r ∷ L) c [] (one r) o (λ n e. f n (or_right (calls_in n a) (calls_in n c) e)) u) t
