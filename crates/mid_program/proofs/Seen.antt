-- What is made of answers sees no lanes.
use Rattle.std.proofs.Common.{◌≡◌, ℕ, zero, suc, List, [], ◌∷◌, refl, ap, sym, ◌∙◌}
use Rattle.sem_primitives.specs.declared.sorts.Answer.TheVariants as answer
use Rattle.sem_primitives.specs.declared.sorts.Sort.{Sort}
use Rattle.sem_primitives.specs.declared.sorts.Sort.TheVariants as sort
use Rattle.sem_scripts.specs.ScriptState.{Scalar, Array as ArrayOf}
use Rattle.mid_program.specs.Mid.{Kind, Boxed, Unboxed, ArrayKind, Form, PrimitiveAnswer, NumberOrText, OptionalNumber, form_at}
use Rattle.mid_program.specs.MidMeaning.{Holds, boxed, numbered, array_in, converted, truth_in, Env, held, local_of, fresh_of}
use Rattle.mid_program.specs.Sorted.{is_many}
use Rattle.mid_program.specs.Alike.{erased, as_boxed, Seen, seen, Alike, AlikeKinds}

-- Conversions see no lanes.

boxed_by : (f : Form) (x : Holds f) → boxed f x ≡ boxed (erased f) (as_boxed f x)
boxed_by (PrimitiveAnswer a) x = refl
boxed_by NumberOrText x = refl
boxed_by OptionalNumber x = refl

pub boxed_like : (f g : Form) (x : Holds f) (y : Holds g) → Alike f g x y → boxed f x ≡ boxed g y
boxed_like f g x y h = boxed_by f x ∙ ap (λ (z : Seen). boxed z.0 z.1) h ∙ sym (boxed_by g y)

numbered_by : (f : Form) (x : Holds f) → numbered f x ≡ numbered (erased f) (as_boxed f x)
numbered_by (PrimitiveAnswer a) x = refl
numbered_by NumberOrText x = refl
numbered_by OptionalNumber x = refl

pub numbered_like : (f g : Form) (x : Holds f) (y : Holds g) → Alike f g x y → numbered f x ≡ numbered g y
numbered_like f g x y h = numbered_by f x ∙ ap (λ (z : Seen). numbered z.0 z.1) h ∙ sym (numbered_by g y)

array_by : (f : Form) (x : Holds f) → array_in f x ≡ array_in (erased f) (as_boxed f x)
array_by (PrimitiveAnswer a) x = refl
array_by NumberOrText x = refl
array_by OptionalNumber x = refl

pub array_like : (f g : Form) (x : Holds f) (y : Holds g) → Alike f g x y → array_in f x ≡ array_in g y
array_like f g x y h = array_by f x ∙ ap (λ (z : Seen). array_in z.0 z.1) h ∙ sym (array_by g y)

truth_by : (f : Form) (x : Holds f) → truth_in f x ≡ truth_in (erased f) (as_boxed f x)
truth_by (PrimitiveAnswer a) x = refl
truth_by NumberOrText x = refl
truth_by OptionalNumber x = refl

pub truth_like : (f g : Form) (x : Holds f) (y : Holds g) → Alike f g x y → truth_in f x ≡ truth_in g y
truth_like f g x y h = truth_by f x ∙ ap (λ (z : Seen). truth_in z.0 z.1) h ∙ sym (truth_by g y)

converted_by : (f : Form) (s : Sort) (x : Holds f) → converted f s x ≡ converted (erased f) s (as_boxed f x)
converted_by (PrimitiveAnswer a) s x = refl
converted_by OptionalNumber s x = refl
converted_by NumberOrText sort.Value x = refl
converted_by NumberOrText sort.Number x = refl
converted_by NumberOrText sort.Array x = refl
converted_by NumberOrText sort.Iterator x = refl

pub converted_like : (f g : Form) (s : Sort) (x : Holds f) (y : Holds g) → Alike f g x y → converted f s x ≡ converted g s y
converted_like f g s x y h = converted_by f s x ∙ ap (λ (z : Seen). converted z.0 s z.1) h ∙ sym (converted_by g s y)

-- What is kept.

abbrev pub seen_env : (fs : List Form) → Env fs → List Seen
seen_env [] env = []
seen_env (f ∷ fs) env = seen f env.0 ∷ seen_env fs env.1

abbrev seen_at : List Seen → ℕ → Seen
seen_at [] i = (PrimitiveAnswer answer.Nothing, tt)
seen_at (z ∷ zs) zero = z
seen_at (z ∷ zs) (suc i) = seen_at zs i

held_by : (fs : List Form) (env : Env fs) (i : ℕ) → seen (form_at fs i) (held fs env i) ≡ seen_at (seen_env fs env) i
held_by [] env i = refl
held_by (f ∷ fs) env zero = refl
held_by (f ∷ fs) env (suc i) = held_by fs env.1 i

pub held_like : (fs gs : List Form) (env : Env fs) (env' : Env gs) (i : ℕ) → seen_env fs env ≡ seen_env gs env' → Alike (form_at fs i) (form_at gs i) (held fs env i) (held gs env' i)
held_like fs gs env env' i h = held_by fs env i ∙ ap (λ (zs : List Seen). seen_at zs i) h ∙ sym (held_by gs env' i)

-- What calls are given.

pub alike_self : (ks : List Kind) → AlikeKinds ks ks
alike_self [] = tt
alike_self (k ∷ ks) = (refl, alike_self ks)

pub local_like : (k j : Kind) (f g : Form) (x : Holds f) (y : Holds g) → is_many k ≡ is_many j → Alike f g x y → local_of k f x ≡ local_of j g y
local_like Boxed Boxed f g x y e h = ap Scalar (boxed_like f g x y h)
local_like Boxed Unboxed f g x y e h = ap Scalar (boxed_like f g x y h)
local_like Unboxed Boxed f g x y e h = ap Scalar (boxed_like f g x y h)
local_like Unboxed Unboxed f g x y e h = ap Scalar (boxed_like f g x y h)
local_like ArrayKind ArrayKind f g x y e h = ap ArrayOf (array_like f g x y h)
local_like Boxed ArrayKind f g x y e h = absurd cc
local_like Unboxed ArrayKind f g x y e h = absurd cc
local_like ArrayKind Boxed f g x y e h = absurd cc
local_like ArrayKind Unboxed f g x y e h = absurd cc

pub fresh_like : (k j : Kind) (i : ℕ) → is_many k ≡ is_many j → fresh_of k i ≡ fresh_of j i
fresh_like Boxed Boxed i e = refl
fresh_like Boxed Unboxed i e = refl
fresh_like Unboxed Boxed i e = refl
fresh_like Unboxed Unboxed i e = refl
fresh_like ArrayKind ArrayKind i e = refl
fresh_like Boxed ArrayKind i e = absurd cc
fresh_like Unboxed ArrayKind i e = absurd cc
fresh_like ArrayKind Boxed i e = absurd cc
fresh_like ArrayKind Unboxed i e = absurd cc
