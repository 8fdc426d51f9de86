-- How many locals a function has, and locals one more.
use Rattle.std.proofs.Common.{◌≡◌, ℕ, zero, suc, ◌+◌, ◌≤◌, Option, Some, None, subst, List, [], ◌∷◌, ◌++◌, length, refl, ap, ◌∙◌, arith, length-append}
use Rattle.wasm_types.specs.declared.types.ValType.{ValType}
use Rattle.wasm_types.specs.declared.types.ValType.TheVariants.{I32, I64}
use Rattle.lower_model.specs.Places.{Bases, handle_types, local_types, temporary_types}
use Rattle.lower_modules.specs.Counted.{counted}
use Rattle.wasm_types.specs.Profile.{most_locals}
use Rattle.lower_modules.specs.Fits.{most_parameters, view_needs, FewLocals, IsFew, IsNeeds}
use Rattle.lower_modules.specs.declared.needs.Needs.{Needs}

handle_count : (n : ℕ) → length (handle_types n) ≡ n
handle_count zero = refl
handle_count (suc n) = ap suc (handle_count n)

temporary_count : (n : ℕ) → length (temporary_types n) ≡ n + n
temporary_count zero = refl
temporary_count (suc n) = let h = temporary_count n in omega (arith, h)

pub local_count : (b : Bases) → length (local_types b) ≡ suc (b.temporaries + b.temporaries + (b.iterators + b.arrays))
local_count b =
    let t = temporary_count b.temporaries in
    let i = handle_count b.iterators in
    let a = handle_count b.arrays in
    let first = length-append (temporary_types b.temporaries) (handle_types b.iterators ++ handle_types b.arrays) in
    let second = length-append (handle_types b.iterators) (handle_types b.arrays) in
    omega (arith, t, i, a, first, second)

handles_push : (n : ℕ) → handle_types n ++ I32 ∷ [] ≡ handle_types (suc n)
handles_push zero = refl
handles_push (suc n) = ap (λ (ts : List ValType). I32 ∷ ts) (handles_push n)

pub handles_more : (n : ℕ) → handle_types n ++ I32 ∷ [] ≡ handle_types (n + 1)
handles_more n = let later : suc n ≡ n + 1 = omega arith in handles_push n ∙ ap handle_types later

temporaries_push : (n : ℕ) → (temporary_types n ++ I32 ∷ []) ++ I64 ∷ [] ≡ temporary_types (suc n)
temporaries_push zero = refl
temporaries_push (suc n) = ap (λ (ts : List ValType). I32 ∷ (I64 ∷ ts)) (temporaries_push n)

pub temporaries_more : (n : ℕ) → (temporary_types n ++ I32 ∷ []) ++ I64 ∷ [] ≡ temporary_types (n + 1)
temporaries_more n = let later : suc n ≡ n + 1 = omega arith in temporaries_push n ∙ ap temporary_types later

-- what was counted is what is needed, where there are few locals
same_needs : (n : Needs) (b : Bases) → n.parameters ≡ b.parameters → n.temporaries ≡ b.temporaries → n.iterators ≡ b.iterators → n.arrays ≡ b.arrays → view_needs n ≡ b
same_needs n b p t u w = λ i. record { parameters = p i; temporaries = t i; iterators = u i; arrays = w i }

pub needs_are : (r : Option Needs) (n : Needs) (b : Bases) → n.parameters ≡ b.parameters → n.parameters ≤ most_parameters → n.temporaries ≡ counted b.temporaries → n.iterators ≡ counted b.iterators
    → n.arrays ≡ counted b.arrays → IsFew r n → IsNeeds r b
needs_are None n b p few t u w past = λ (h : FewLocals b). let x = local_count b in let y = local_count (view_needs n) in let z = h.locals in absurd (omega (arith, t, u, w, past, x, y, z))
needs_are (Some m) n b p few t u w found =
    let y = local_count (view_needs n) in
    let z = found.1 in
    let same = same_needs n b p (omega (arith, t, y, z)) (omega (arith, u, y, z)) (omega (arith, w, y, z)) in
    (ap view_needs found.0 ∙ same, record { parameters = omega (arith, p, few); locals = subst (λ (c : Bases). length (local_types c) ≤ most_locals) same z })
