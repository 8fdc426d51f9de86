use Rattle.std.proofs.Common.{◌≡◌, ℕ, ◌+◌, ◌-◌, ◌<◌, true, false, List, [], ◌∷◌, ◌++◌, length, get_or, take, drop, refl, ap, sym, ◌∙◌, append_assoc, arith}
use Rattle.std.proofs.lemmas.List.{get_or_default}
use Rattle.wasm_types.specs.contracts.types.ValType.{the_type}
use Rattle.wasm_types.specs.declared.types.ValType.{ValType}
use Rattle.wasm_types.specs.declared.types.ValType.TheVariants.{I32, I64}
use denote.Enum.Bare.{sameb}
use Rattle.module_writer.specs.Writing.{is_same, runs_from}
use Rattle.module_writer.proofs.Loops.{next}
use Rattle.module_writer.proofs.entry_kinds.runs.Goals.{then-eq, else-eq+in_ok-push-in-len1-up}
use Rattle.module_writer.proofs.entry_kinds.runs.Goals as goal

same : (t u : ValType) → is_same u t ≡ sameb the_type t u
same I32 I32 = refl
same I32 I64 = refl
same I64 I32 = refl
same I64 I64 = refl

grown : (ts : List ValType) (i n : ℕ) (d u : ValType) → i < length ts → sameb the_type (get_or ts i d) u ≡ true → runs_from n u (drop i ts) ≡ runs_from (n + 1) u (drop (i + 1) ts)
grown ts i n d u lt e = ap (runs_from n u) (next ts i (get_or ts i d) lt (get_or_default ts i d (get_or ts i d) lt)) ∙ rw (same (get_or ts i d) u, e) refl

ended : (ts : List ValType) (i n : ℕ) (d u : ValType) → i < length ts → sameb the_type (get_or ts i d) u ≡ false → runs_from n u (drop i ts) ≡ (n, u) ∷ runs_from 1 (get_or ts i d) (drop (i + 1) ts)
ended ts i n d u lt e = ap (runs_from n u) (next ts i (get_or ts i d) lt (get_or_default ts i d (get_or ts i d) lt)) ∙ rw (same (get_or ts i d) u, e) refl

pub loop-t-preserved : goal.loop-t-preserved
loop-t-preserved c =
    let rest = take (length c.args.locals.now - 1) (drop 1 c.args.locals.now) in
    let so_far = c.loop-t.invariant.so_far in
    elim c.if-eq.branch [
      | then-eq w ↦ record {
        few = omega arith;
        so_far = rw (w.all-is, w.n-is, w.kind-is) (ap (λ (runs : List (ℕ × ValType)). c.loop-t.all.items ++ runs) (sym (grown rest c.loop-t.t-index c.loop-t.n I32 c.loop-t.kind c.loop-t-test.true (sym w.if-eq.ensures))) ∙ so_far);
      }
      | else-eq+in_ok-push-in-len1-up w ↦ record {
        few = omega arith;
        so_far = rw (w.all-is, w.n-is, w.kind-is, w.in_ok-push-in-len1-up.ensures.items) (append_assoc c.loop-t.all.items ((c.loop-t.n, c.loop-t.kind) ∷ []) (runs_from 1 (get_or rest c.loop-t.t-index I32) (drop (c.loop-t.t-index + 1) rest)) ∙ ap (λ (runs : List (ℕ × ValType)). c.loop-t.all.items ++ runs) (sym (ended rest c.loop-t.t-index c.loop-t.n I32 c.loop-t.kind c.loop-t-test.true (sym w.if-eq.ensures))) ∙ so_far);
      }
    ]
