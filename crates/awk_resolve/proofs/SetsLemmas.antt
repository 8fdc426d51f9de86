-- Two least sets are one.
use Rattle.std.proofs.Common.{◌≡◌, Bool, true, false, List, refl, sym, ap, subst, ◌∙◌}
use Rattle.std.specs.Prelude.{IsTrue}
use Rattle.std.proofs.Math.Path.{fun_ext}
use Rattle.awk_grammar.specs.Trees.{Item}
use Rattle.awk_grammar.specs.Marks.{Array, Kind, Scalar, script_marks}
use Rattle.awk_grammar.specs.Least.{IsLeast}
use Rattle.awk_grammar.specs.Kinds.{Key, heads, is_used_as, members, pairs, refusal, resolved, same_key}
use Rattle.awk_resolve.proofs.Names.{key_refl, key_sound}
use Rattle.awk_resolve.proofs.Least.{least_is}
use Rattle.awk_resolve.specs.Sets.{AreUsedAs, names_by, refusal_by}

same_truth : (a b : Bool) → (IsTrue a → IsTrue b) → (IsTrue b → IsTrue a) → a ≡ b
same_truth true true f g = refl
same_truth false false f g = refl
same_truth true false f g = sym (f refl)
same_truth false true f g = g refl

one_least : {A : Type 0} (f g : A → Bool) (ms : List A) (ps : List (A × A)) → IsLeast f ms ps → IsLeast g ms ps → f ≡ g
one_least f g ms ps x y = fun_ext (λ k. same_truth (f k) (g k) (x.within g y.closed k) (y.within f x.closed k))

computed_is : (kind : Kind) (script : List Item) → AreUsedAs kind script (is_used_as kind (heads script) (script_marks script))
computed_is kind script = least_is same_key key_sound key_refl (members kind (heads script) (script_marks script)) (pairs (heads script) (script_marks script))

pub set_is : (kind : Kind) (script : List Item) (set : Key → Bool) → AreUsedAs kind script set → set ≡ is_used_as kind (heads script) (script_marks script)
set_is kind script set h =
    one_least set (is_used_as kind (heads script) (script_marks script)) (members kind (heads script) (script_marks script)) (pairs (heads script)
    (script_marks script)) h (computed_is kind script)

pub is_set : (kind : Kind) (script : List Item) (set : Key → Bool) → set ≡ is_used_as kind (heads script) (script_marks script) → AreUsedAs kind script set
is_set kind script set e = subst (AreUsedAs kind script) (sym e) (computed_is kind script)

pub refusal_is : (script : List Item) (arrays scalars : Key → Bool) → AreUsedAs Array script arrays → AreUsedAs Scalar script scalars →
    refusal script ≡ refusal_by arrays scalars script
refusal_is script arrays scalars a s =
    ap (λ (x : Key → Bool). refusal_by x (is_used_as Scalar (heads script) (script_marks script)) script) (sym (set_is Array script arrays a)) ∙
    ap (λ (x : Key → Bool). refusal_by arrays x script) (sym (set_is Scalar script scalars s))

pub names_are : (script : List Item) (arrays : Key → Bool) → AreUsedAs Array script arrays → resolved script ≡ names_by arrays script
names_are script arrays a = ap (λ (x : Key → Bool). names_by x script) (sym (set_is Array script arrays a))
