-- Whether two types are one.
use Rattle.std.proofs.Common.{◌≡◌, List, [], ◌∷◌, Option, Some, None, Bool, true, false, ◌&&◌, refl, ap, sym, ◌∙◌, subst, ◌↔◌, IsTrue}
use Rattle.wasm_types.specs.declared.types.ValType.{ValType}
use Rattle.wasm_types.specs.declared.types.ValType.TheVariants.{I32, I64}
use Rattle.wasm_types.specs.Syntax.{Signature}
use Rattle.wasm_model.specs.Machines.{same_type, same_types, same_result, same_signature, agree}

type_same : (j k : ValType) → same_type j k ≡ true → j ≡ k
type_same I32 I32 e = refl
type_same I32 I64 e = cc
type_same I64 I32 e = cc
type_same I64 I64 e = refl

type_self : (k : ValType) → same_type k k ≡ true
type_self I32 = refl
type_self I64 = refl

both : (a b : Bool) → (a && b) ≡ true → (a ≡ true) × (b ≡ true)
both true b e = (refl, e)
both false b e = cc

types_same : (js ks : List ValType) → same_types js ks ≡ true → js ≡ ks
types_same [] [] e = refl
types_same [] (k ∷ ks) e = cc
types_same (j ∷ js) [] e = cc
types_same (j ∷ js) (k ∷ ks) e = let h = both (same_type j k) (same_types js ks) e in ap (λ (i : ValType). i ∷ js) (type_same j k h.0) ∙ ap (λ (is : List ValType). k ∷ is) (types_same js ks h.1)

types_self : (ks : List ValType) → same_types ks ks ≡ true
types_self [] = refl
types_self (k ∷ ks) = rw (type_self k) (types_self ks)

result_same : (r s : Option ValType) → same_result r s ≡ true → r ≡ s
result_same None None e = refl
result_same None (Some k) e = cc
result_same (Some j) None e = cc
result_same (Some j) (Some k) e = ap Some (type_same j k e)

result_self : (r : Option ValType) → same_result r r ≡ true
result_self None = refl
result_self (Some k) = type_self k

pub signature_same : (s t : Signature) → same_signature s t ≡ true → s ≡ t
signature_same s t e =
    let h = both (same_result s.result t.result) (same_types s.params t.params) e in
    ap (λ (r : Option ValType). record { params = s.params; result = r }) (result_same s.result t.result h.0)
    ∙ ap (λ (ks : List ValType). record { params = ks; result = t.result }) (types_same s.params t.params h.1)

signature_self : (s : Signature) → same_signature s s ≡ true
signature_self s = rw (result_self s.result) (types_self s.params)

told : (b x : Bool) → (IsTrue b → x ≡ true) → (x ≡ true → IsTrue b) → b ≡ x
told true x f g = sym (f refl)
told false true f g = let e : false ≡ true = g refl in cc
told false false f g = refl

pub decided : (b : Bool) (s t : Signature) → (IsTrue b ↔ s ≡ t) → b ≡ same_signature s t
decided b s t h = told b (same_signature s t) (λ i. subst (λ (u : Signature). same_signature s u ≡ true) (h.0 i) (signature_self s)) (λ e. h.1 (signature_same s t e))

-- both types are there
pub agree_is : (s t : Option Signature) (x y : Signature) (b : Bool) → s ≡ Some x → t ≡ Some y → (IsTrue b ↔ x ≡ y) → b ≡ agree s t
agree_is s t x y b e f h = decided b x y h ∙ (ap (λ (o : Option Signature). agree o (Some y)) (sym e) ∙ ap (agree s) (sym f))

pub agreed : (s t : Option Signature) (x : Signature) → s ≡ Some x → agree s t ≡ true → t ≡ Some x
agreed None t x e h = cc
agreed (Some y) None x e h = cc
agreed (Some y) (Some z) x e h = ap Some (sym (signature_same y z h)) ∙ e
