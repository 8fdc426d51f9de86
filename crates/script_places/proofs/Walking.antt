-- Walks over flat code, one after another.
use Rattle.std.proofs.Common.{◌≡◌, ℕ, suc, ◌+◌, ◌<◌, ◌≤◌, List, [], ◌∷◌, ◌++◌, Option, add-one, drop, drop-cons, get_or, length, length-append, append_assoc, refl, sym, ap, ◌∙◌, subst, arith}
use Rattle.std.proofs.Math.ListN.{drop_of_length-le}
use Rattle.std.proofs.lemmas.List.{append-nil}
use Rattle.wasm_types.specs.declared.instr.Instr.{Instr}
use Rattle.wasm_types.specs.declared.instr.Simple.{Simple}
use Rattle.wasm_types.specs.declared.types.ValType.{ValType}
use Rattle.wasm_types.specs.Syntax.{Instructions}
use Rattle.wasm_types.specs.View.{view, views}
use Rattle.wasm_loader.specs.Flat.{Form, Plain, BrTable, Block, Loop, If, End, flat, flat_one, if_over}
use Rattle.script_places.specs.Passes.{nop_at, nops_from}
use Rattle.script_places.specs.Tallies.{IsWalked}

pub nops_append : (xs ys : List Form) (p : ℕ) → nops_from p (xs ++ ys) ≡ nops_from p xs ++ nops_from (p + length xs) ys
nops_append [] ys p =
    let same : p ≡ p + 0 = omega arith in
    ap (λ (n : ℕ). nops_from n ys) same
nops_append (f ∷ fs) ys p =
    let same : p + 1 + length fs ≡ p + length (f ∷ fs) = omega arith in
    ap (λ (zs : List ℕ). nop_at p f ++ zs) (nops_append fs ys (p + 1) ∙ ap (λ (n : ℕ). nops_from (p + 1) fs ++ nops_from n ys) same)
    ∙ sym (append_assoc (nop_at p f) (nops_from (p + 1) fs) (nops_from (p + length (f ∷ fs)) ys))

-- one walk, and another from where it came to
pub both : (a b c : List ℕ) (p q r : ℕ) (xs ys : List Form) → IsWalked a p xs b q → IsWalked b q ys c r → IsWalked a p (xs ++ ys) c r
both a b c p q r xs ys w v =
    let there : q ≡ p + length xs = w.past in
    let size : length (xs ++ ys) ≡ length xs + length ys = length-append xs ys in
    let last = v.past in
    record {
      places = v.places ∙ (ap (λ (zs : List ℕ). zs ++ nops_from q ys) w.places
          ∙ (append_assoc a (nops_from p xs) (nops_from q ys)
          ∙ ap (λ (zs : List ℕ). a ++ zs) (ap (λ (n : ℕ). nops_from p xs ++ nops_from n ys) there ∙ sym (nops_append xs ys p))));
      past = omega (arith, there, size, last);
    }

-- an instruction without a body
pub plain : (a b : List ℕ) (p q : ℕ) (s : Simple) → b ≡ a ++ nop_at p (Plain s) → q ≡ p + 1 → IsWalked a p (Plain s ∷ []) b q
plain a b p q s e f = record { places = e ∙ ap (λ (zs : List ℕ). a ++ zs) (sym (append-nil (nop_at p (Plain s)))); past = f }

-- what begins or ends a body, or a branch by a table
pub passed : (a b : List ℕ) (p q : ℕ) (f : Form) → ((n : ℕ) → nop_at n f ≡ []) → b ≡ a → q ≡ p + 1 → IsWalked a p (f ∷ []) b q
passed a b p q f none e past = record {
  places = e ∙ (sym (append-nil a) ∙ ap (λ (zs : List ℕ). a ++ zs) (sym (append-nil (nop_at p f) ∙ none p)));
  past = past;
}

pub table : (a b : List ℕ) (p q : ℕ) (ns : List ℕ) (n : ℕ) → b ≡ a → q ≡ p + 1 → IsWalked a p (BrTable ns n ∷ []) b q
table a b p q ns n e f = passed a b p q (BrTable ns n) (λ m. refl) e f

pub end : (a b : List ℕ) (p q : ℕ) → b ≡ a → q ≡ p + 1 → IsWalked a p (End ∷ []) b q
end a b p q e f = passed a b p q End (λ m. refl) e f

-- a body behind what begins it
inside : (a b c : List ℕ) (p q r : ℕ) (f : Form) (body : Instructions) → ((n : ℕ) → nop_at n f ≡ []) → b ≡ a → q ≡ p + 1 → IsWalked b q (flat q body) c r
    → IsWalked a p (f ∷ flat (p + 1) body) c r
inside a b c p q r f body none e past w =
    both a b c p q r (f ∷ []) (flat (p + 1) body) (passed a b p q f none e past) (subst (λ (n : ℕ). IsWalked b q (flat n body) c r) past w)

pub block : (a b c : List ℕ) (p q r to : ℕ) (k : Option ValType) (body : Instructions) → b ≡ a → q ≡ p + 1 → IsWalked b q (flat q body) c r
    → IsWalked a p (Block k to ∷ flat (p + 1) body) c r
block a b c p q r to k body e past w = inside a b c p q r (Block k to) body (λ m. refl) e past w

pub again : (a b c : List ℕ) (p q r to : ℕ) (k : Option ValType) (body : Instructions) → b ≡ a → q ≡ p + 1 → IsWalked b q (flat q body) c r
    → IsWalked a p (Loop k to ∷ flat (p + 1) body) c r
again a b c p q r to k body e past w = inside a b c p q r (Loop k to) body (λ m. refl) e past w

-- two bodies
pub choice : (a b c d : List ℕ) (p q r s : ℕ) (k : Option ValType) (so otherwise : Instructions) → b ≡ a → q ≡ p + 1 → IsWalked b q (flat q so) c r
    → IsWalked c r (flat r otherwise) d s → IsWalked a p (if_over k (p + 1) (flat (p + 1) so) (flat (p + 1 + length (flat (p + 1) so)) otherwise)) d s
choice a b c d p q r s k so otherwise e past w v =
    let first : IsWalked b q (flat (p + 1) so) c r = subst (λ (n : ℕ). IsWalked b q (flat n so) c r) past w in
    let at : q + length (flat (p + 1) so) ≡ p + 1 + length (flat (p + 1) so) = ap (λ (n : ℕ). n + length (flat (p + 1) so)) past in
    let to : r ≡ p + 1 + length (flat (p + 1) so) = first.past ∙ at in
    let second : IsWalked c r (flat (p + 1 + length (flat (p + 1) so)) otherwise) d s = subst (λ (n : ℕ). IsWalked c r (flat n otherwise) d s) to v in
    both a b d p q s (If k (p + 1 + length (flat (p + 1) so)) (p + 1 + length (flat (p + 1) so) + length (flat (p + 1 + length (flat (p + 1) so)) otherwise)) ∷ [])
    (flat (p + 1) so ++ flat (p + 1 + length (flat (p + 1) so)) otherwise)
    (passed a b p q _ (λ m. refl) e past) (both b c d q r s (flat (p + 1) so) (flat (p + 1 + length (flat (p + 1) so)) otherwise) first second)

-- One instruction of a body, and its end.

pub next : (code : List Instr) (k : ℕ) (i : Instr) (a b : List ℕ) (p q : ℕ) (all : List ℕ) (to : ℕ) → k < length code → i ≡ get_or code k i → IsWalked a p (flat_one p (view i)) b q
    → (a ++ nops_from p (flat p (views (drop k code))) ≡ all) × (p + length (flat p (views (drop k code))) ≡ to)
    → (b ++ nops_from q (flat q (views (drop (k + 1) code))) ≡ all) × (q + length (flat q (views (drop (k + 1) code))) ≡ to)
next code k i a b p q all to inside is w was =
    let here : drop k code ≡ i ∷ drop (k + 1) code = drop-cons code k i inside ∙ ap (λ (x : Instr). x ∷ drop (suc k) code) (sym is) ∙ ap (λ (n : ℕ). i ∷ drop n code) (sym (add-one k)) in
    let rest = views (drop (k + 1) code) in
    let after : q ≡ p + length (flat_one p (view i)) = w.past in
    let joined : flat p (views (drop k code)) ≡ flat_one p (view i) ++ flat q rest =
    ap (λ (is : List Instr). flat p (views is)) here ∙ ap (λ (n : ℕ). flat_one p (view i) ++ flat n rest) (sym after) in
    let size : length (flat_one p (view i) ++ flat q rest) ≡ length (flat_one p (view i)) + length (flat q rest) = length-append (flat_one p (view i)) (flat q rest) in
    let whole : length (flat p (views (drop k code))) ≡ length (flat_one p (view i) ++ flat q rest) = ap length joined in
    let to_is = was.1 in (
      ap (λ (zs : List ℕ). zs ++ nops_from q (flat q rest)) w.places
          ∙ (append_assoc a (nops_from p (flat_one p (view i))) (nops_from q (flat q rest))
          ∙ (ap (λ (zs : List ℕ). a ++ zs) (ap (λ (n : ℕ). nops_from p (flat_one p (view i)) ++ nops_from n (flat q rest)) after ∙ (sym (nops_append (flat_one p (view i)) (flat q rest) p)
          ∙ sym (ap (nops_from p) joined))) ∙ was.0)),
      omega (arith, after, size, whole, to_is),
    )

pub last : (code : List Instr) (k : ℕ) (start : ℕ) (before a b : List ℕ) (p q : ℕ) → length code ≤ k → b ≡ a → q ≡ p + 1
    → (a ++ nops_from p (flat p (views (drop k code))) ≡ before ++ nops_from start (flat start (views code))) × (p + length (flat p (views (drop k code))) ≡ start + length (flat start (views code)))
    → IsWalked before start (flat start (views code)) b q
last code k start before a b p q past same to was =
    let none : drop k code ≡ [] = drop_of_length-le code past in
    let size : length (flat p (views (drop k code))) ≡ 1 = ap (λ (is : List Instr). length (flat p (views is))) none in
    let to_is = was.1 in
    record {
      places = same ∙ (sym (append-nil a) ∙ (sym (ap (λ (is : List Instr). a ++ nops_from p (flat p (views is))) none) ∙ was.0));
      past = omega (arith, to, size, to_is);
    }
