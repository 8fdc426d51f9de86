-- Steps of the loops that read the parts of a token.
use Rattle.std.proofs.Common.{◌≡◌, ◌≢◌, ℕ, ◌+◌, ◌<◌, ◌≤◌, ◌||◌, ◌⊎◌, inl, inr, Bool, true, false, List, length, length-set, drop, set, get_or, drop-cons, add-one, None, Some, refl, sym, ap, ◌∙◌, arith}
use Rattle.std.proofs.lemmas.Bool.{cases_eq}
use Rattle.std.proofs.lemmas.Grind.{get_or-set_at}
use Rattle.std.proofs.lemmas.List.{get_or-set_other}
use Rattle.ere_syntax.specs.Tree.{Bytes}
use Rattle.ere_syntax.specs.Bracket.{closed_name}
use Rattle.ere_syntax.specs.Readers.{strip}
use Rattle.ere_syntax.specs.Reads.{class_and, class_in, in_item}
use Rattle.ere_syntax.specs.declared.bracket.Item.{Item}
use Rattle.ere_syntax.specs.declared.class.Class.{Class}

pub class_next : (cs : List Class) (i : ℕ) (d : Class) (ts : List ℕ) → i < length cs → strip (closed_name (get_or cs i d)) ts ≡ None → class_in (drop (i + 1) cs) ts ≡ class_in (drop i cs) ts
class_next cs i d ts h e = rw (add-one, drop-cons cs i d h) (rw e refl)

pub class_some : (cs : List Class) (i : ℕ) (d : Class) (ts rest : List ℕ) → i < length cs → strip (closed_name (get_or cs i d)) ts ≡ Some rest → Some (class_and (get_or cs i d) rest) ≡ class_in (drop i cs) ts
class_some cs i d ts rest h e = rw (drop-cons cs i d h) (rw e refl)

-- ---- the bytes of an item

-- a set into which those of the first bytes were put that are of the item
pub record IsInserted (old : Bytes) (item : Item) (byte : ℕ) (now : Bytes) : Type 0 where
  pub len : length now ≡ 256
  pub done : (k : ℕ) → k < byte → get_or now k false ≡ (get_or old k false || in_item item k)
  pub rest : (k : ℕ) → byte ≤ k → get_or now k false ≡ get_or old k false

or_true : (a : Bool) → true ≡ (a || true)
or_true true = refl
or_true false = refl

or_false : (a : Bool) → a ≡ (a || false)
or_false true = refl
or_false false = refl

pub inserted : (old now next : Bytes) (item : Item) (byte : ℕ) → byte < 256 → in_item item byte ≡ true → next ≡ set now byte true → IsInserted old item byte now → IsInserted old item (byte + 1) next
inserted old now next item byte small is e a = record {
  len = omega (arith, ap length e, length-set {A = Bool}, a.len);
  done = λ k less. by k less (cases_eq k byte);
  rest = λ k above. at k ∙ get_or-set_other now byte k true false (λ q. omega (arith, above, q)) ∙ a.rest k (omega (arith, above));
}
  where
    at : (k : ℕ) → get_or next k false ≡ get_or (set now byte true) k false
    at k = ap (λ (xs : Bytes). get_or xs k false) e

    by : (k : ℕ) → k < byte + 1 → (k ≡ byte) ⊎ (k ≢ byte) → get_or next k false ≡ (get_or old k false || in_item item k)
    by k less (inl same) = at k ∙ get_or-set_at now byte k true false same (omega (arith, small, a.len)) ∙ or_true (get_or old k false) ∙ ap (λ (b : Bool). get_or old k false || b) (sym is ∙ ap (in_item item) (sym same))
    by k less (inr other) = at k ∙ get_or-set_other now byte k true false other ∙ a.done k (omega (arith, less, other))

pub left_out : (old now next : Bytes) (item : Item) (byte : ℕ) → in_item item byte ≡ false → next ≡ now → IsInserted old item byte now → IsInserted old item (byte + 1) next
left_out old now next item byte is e a = record {
  len = ap length e ∙ a.len;
  done = λ k less. at k ∙ by k less (cases_eq k byte);
  rest = λ k above. at k ∙ a.rest k (omega (arith, above));
}
  where
    at : (k : ℕ) → get_or next k false ≡ get_or now k false
    at k = ap (λ (xs : Bytes). get_or xs k false) e

    by : (k : ℕ) → k < byte + 1 → (k ≡ byte) ⊎ (k ≢ byte) → get_or now k false ≡ (get_or old k false || in_item item k)
    by k less (inl same) = a.rest k (omega (arith, same)) ∙ or_false (get_or old k false) ∙ ap (λ (b : Bool). get_or old k false || b) (sym is ∙ ap (in_item item) (sym same))
    by k less (inr other) = a.done k (omega (arith, less, other))
