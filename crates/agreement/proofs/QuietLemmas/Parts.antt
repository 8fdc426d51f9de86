-- The parts of a number statement's code: arithmetic with its check, conversions of a name's number, and places of names.
use Rattle.std.proofs.Common.{◌≡◌, ◌≢◌, ℕ, suc, Bool, true, false, List, [], ◌∷◌, nat_eq, Some, refl, sym, ap, ◌∙◌}
use Rattle.std.specs.Prelude.{slice_get, slice_set}
use Rattle.std.proofs.lemmas.Bool.{eqb-true}
use Rattle.awk_values.specs.Faults.{fault_number}
use Rattle.awk_values.specs.declared.fault.Fault.TheVariants.{Range}
use Rattle.sem_primitives.specs.declared.table.Primitive.TheVariants as row
use Rattle.wasm_types.specs.Syntax.{Done, Instructions}
use Rattle.wasm_types.specs.declared.types.ValType.TheVariants as ty
use Rattle.wasm_types.specs.declared.instr.IBinOp.{IBinOp}
use Rattle.wasm_types.specs.declared.instr.IBinOp.TheVariants.{Mul}
use Rattle.wasm_types.specs.declared.instr.IRelOp.TheVariants.{Eq}
use Rattle.wasm_types.specs.declared.instr.Simple.TheVariants.{Br, Compare, I32Const, I64Const}
use Rattle.wasm_store.specs.declared.word.Word.{Word}
use Rattle.wasm_store.specs.declared.word.Word.TheVariants.{I32, I64}
use Rattle.wasm_store.specs.Words.{compare_of, flag}
use Rattle.wasm_model.specs.Frames.{LabelForm}
use Rattle.wasm_model.specs.Machines.{Conf, ProgramForm}
use Rattle.lower_model.specs.Arithmetic.{any_product, factors_differ, far_off, out_of_range, ranged, times, two_numbers}
use Rattle.lower_model.specs.Small.{ask_row, emit, fail_if, number_is, text_beside, when}
use Rattle.agreement.proofs.QuietLemmas.Flowing.{Flows, arrived, at, binary, block, branch, compare, const64, convert, ended, entered, get, left_if, left_twice, set, test}

-- a number is what it is compared with, where the answer is not 0
pub equal_word : (w v : Word) (n j : ℕ) → compare_of ty.I64 Eq w (I64 n) ≡ Some v → v ≡ I32 j → nat_eq j 0 ≡ false → w ≡ I64 n
equal_word (I32 a) v n j e h z = cc
equal_word (I64 a) v n j e h z = by (nat_eq a n) refl
  where
    by : (b : Bool) → nat_eq a n ≡ b → I64 a ≡ I64 n
    by true q = ap I64 (eqb-true a n q)
    by false q =
        let x : Some (I32 0) ≡ Some v = ap (λ (b : Bool). Some (flag b)) (sym q) ∙ e in
        let y : j ≡ 0 = cc in
        let y2 : nat_eq j 0 ≡ true = ap (λ i. nat_eq i 0) y in cc

module _ (m : ProgramForm) (P : Conf → Type 0) (bs : List Bool) (base : Conf) where
  abbrev pub To : List LabelForm → List Word → List Word → List Word → Instructions → Type 0
  To K gs L vs code = Flows m P bs base K gs L vs code

  -- a fault ends it too
  abbrev pub Faults : Type 0
  Faults = (K : List LabelForm) (gs L : List Word) (k : Instructions) → P (at bs base K gs L [] (emit (I32Const (fault_number Range)) (ask_row row.Fail k)))

  module _ {K : List LabelForm} {gs : List Word} {k : Instructions} where
    pub failing : {L : List Word} {w : Word} (fault : Faults) (d : ℕ) → To K gs L [] k → To K gs L (w ∷ []) (fail_if Range d k)
    failing fault d h = branch (λ n e z. arrived (refl, fault _ _ _ (emit (Br (suc d)) Done))) (λ n e z. ended h)

    range_tested : {L vs : List Word} (x : ℕ) → ((w : Word) → To K gs L (w ∷ vs) k) → To K gs L vs (out_of_range x k)
    range_tested x h = get (λ w e. const64 (binary (λ v. const64 (compare (λ u q. h u)))))

    far_tested : {L vs : List Word} (x : ℕ) → ((w : Word) → To K gs L (w ∷ vs) k) → To K gs L vs (far_off x k)
    far_tested x h = get (λ w e. const64 (binary (λ v. const64 (compare (λ u q. h u)))))

    both : {L : List Word} (x y : ℕ) (op : IBinOp) → ((w : Word) → To K gs L (w ∷ []) k) → To K gs L [] (two_numbers x y op k)
    both x y op h = get (λ w e. get (λ v q. binary h))

    factors_tested : {L : List Word} (p x y : ℕ) → ((w : Word) → To K gs L (w ∷ []) k) → To K gs L [] (factors_differ p x y k)
    factors_tested p x y h =
        get (λ w e. get (λ v f. get (λ u g. test (λ a. convert (λ b. binary (λ c. binary (λ i.
        get (λ j q. compare (λ z r. get (λ w2 e2. const64 (compare (λ v2 f2. binary h))))))))))))

  module _ {K : List LabelForm} {gs : List Word} {k : Instructions} where
    pub ranged_flows : {L : List Word} (fault : Faults) (op : IBinOp) (x y d : ℕ) → ((w : Word) → To K gs (slice_set L x w) [] k) →
        To K gs L [] (ranged op x y d k)
    ranged_flows fault op x y d h = both x y op (λ w. set (λ e. range_tested x (λ v. failing fault d (h w))))

    any_product_flows : {L : List Word} (fault : Faults) (x y p d : ℕ) → ((w v : Word) → To K gs (slice_set (slice_set L p w) x v) [] k) →
        To K gs L [] (any_product x y p d k)
    any_product_flows fault x y p d h =
        both x y Mul (λ w. set (λ e. factors_tested p x y (λ v. range_tested p (λ u. binary (λ z. failing fault d (get (λ t q. set (λ f. h w t))))))))

    -- whether a local has this number
    pub number_is_flows : {L vs : List Word} (x n : ℕ) →
        ((w v : Word) → slice_get L x ≡ Some w → compare_of ty.I64 Eq w (I64 n) ≡ Some v → To K gs L (v ∷ vs) k) → To K gs L vs (number_is x n k)
    number_is_flows x n h = get (λ w e. const64 (compare (λ v q. h w v e q)))

    -- a word that is no mark is tested for it: what is done with a text beside it is not done
    pub no_mark_flows : {L : List Word} {w : Word} (a : Instructions) → w ≢ I64 text_beside → To K gs L [] k →
        To K gs L (w ∷ []) (emit (I64Const text_beside) (emit (Compare ty.I64 Eq) (when a k)))
    no_mark_flows {w = w} a none h = const64 (compare (λ v q. branch (λ n e z. absurd (none (equal_word w v text_beside n q e z))) (λ n e z. ended h)))

  module _ {K : List LabelForm} {gs : List Word} {k : Instructions} where
    -- two factors near 0, or any two
    pub times_flows : {L : List Word} (fault : Faults) (x y p d : ℕ) → ((w : Word) → To K gs (slice_set L x w) [] k) →
        ((w v : Word) → To K gs (slice_set (slice_set L p w) x v) [] k) →
        To K gs L [] (times x y p d k)
    times_flows {L = L} fault x y p d near any =
        let other : To (block bs [] k ∷ K) gs L [] (any_product x y p (suc d) Done) = any_product_flows fault x y p (suc d) (λ w v. ended (any w v)) in
        entered (entered (far_tested x (λ w. left_if other (far_tested y (λ v. left_if other (both x y Mul (λ u. set (λ e. left_twice (near u)))))))))
