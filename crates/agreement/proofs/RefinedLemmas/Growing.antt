-- No call gives up an array's number in the shared state, and only `new_array` gives one out.
use Rattle.std.proofs.Common.{◌≡◌, ℕ, ◌+◌, ◌&&◌, ◌++◌, Bool, true, false, List, [], ◌∷◌, length, nat_le, Option, Some, None, Result, refl, sym, ap, ◌∙◌, subst, arith, true≢false}
use Rattle.std.proofs.lemmas.List.{length-append, length-set}
use Rattle.awk_values.specs.declared.fault.Fault.{Fault}
use Rattle.sem_primitives.specs.InTurn.{in_turn, listed_in_turn, values_taken}
use Rattle.sem_primitives.specs.SharedState.{HostResult, Inner, Pairs, Shared}
use Rattle.sem_primitives.specs.Sorts.{InAnswer, Row}
use Rattle.sem_primitives.specs.Table.{answer_of, arguments_of, can_fault, listed_answer, meaning}
use Rattle.sem_primitives.specs.declared.sorts.Answer.{Answer}
use Rattle.sem_primitives.specs.declared.sorts.Answer.TheVariants as answer
use Rattle.sem_primitives.specs.declared.sorts.Sort.TheVariants as sort
use Rattle.sem_primitives.specs.declared.table.Listed.{Listed}
use Rattle.sem_primitives.specs.declared.table.Listed.TheVariants as listed
use Rattle.sem_primitives.specs.declared.table.Primitive.{Primitive}
use Rattle.sem_primitives.specs.declared.table.Primitive.TheVariants as row
use Rattle.lower_model.specs.ImportCalls.{Acts, Host, last_of, listed_acts, primitive_acts, where_so}
use Rattle.host_imports.specs.declared.import.VariadicImport.TheVariants.{Sprintf, Print, Printf}
use Rattle.host_imports.specs.declared.import.Import.TheVariants.{OfPrimitive, Variadic, Arg, Drop, IterFree, FreeArray}
use Rattle.agreement.specs.Refined.Growing.{ArraysGrow, GrowsBy, NewIn}
use Rattle.agreement.specs.Refined.Words.{arrays_made}
use Rattle.agreement.proofs.RefinedLemmas.ArrayRows.{SparedIf, array_changed, listed_kept, row_kept}

abbrev makes_array : Answer → Bool
makes_array (answer.Of sort.Array) = true
makes_array _ = false

abbrev So : ℕ → List Pairs → Type 0
So n arrays = length arrays ≡ n

abbrev Has : ℕ → Inner → Type 0
Has n i = So n i.arrays

spared : (n : ℕ) (o : Option ℕ) (i : Inner) → Has n i → SparedIf (So n) o i
spared n None i e = tt
spared n (Some a) i e = λ ps. length-set i.arrays a ps ∙ e

-- all rows but `new_array` leave as many arrays as there were
row_keeps : (n : ℕ) (p : Primitive) (r : Row (arguments_of p)) (s : Shared) → makes_array (answer_of p) ≡ false → Has n s.inner → Has n (meaning p r s).inner
row_keeps n p r s a e =
    row_kept (So n) p r s (λ q. let h = sym a ∙ ap (λ (z : Primitive). makes_array (answer_of z)) q in absurd (true≢false (sym h))) (spared n (array_changed p r) s.inner e) e

none_new : (made made1 : ℕ) (a : Answer) (x : Result (InAnswer a) Fault) → makes_array a ≡ false → NewIn made made1 a x
none_new made made1 (answer.Of sort.Array) x e = cc
none_new made made1 _ x e = tt

-- there are as many, and none is new
as_many : (made : ℕ) (a : Answer) (d : HostResult (Result (InAnswer a) Fault)) → makes_array a ≡ false → Has made d.inner → GrowsBy made a d
as_many made a d e h = record { longer = omega (arith, h); fresh = none_new made (length d.inner.arrays) a d.answer e }

primitive_grows : (p : Primitive) (r : Row (arguments_of p)) (h : Host) (b : Bool) → makes_array (answer_of p) ≡ b →
    GrowsBy (arrays_made h) (answer_of p) (primitive_acts h.arguments (can_fault p) (meaning p r h.shared)).does
primitive_grows p r h false e = as_many (arrays_made h) (answer_of p) _ e (row_keeps (arrays_made h) p r h.shared e refl)
primitive_grows row.NewArray r h true e =
    let l : length (h.shared.inner.arrays ++ [] ∷ []) ≡ length h.shared.inner.arrays + 1 = length-append h.shared.inner.arrays ([] ∷ []) in
    record { longer = omega (arith, l); fresh = (omega (arith, l), omega (arith, l)) }
primitive_grows _ r h true e = cc

-- what is done where a call is in turn
in_turn_does : {A : Type 0} → (b : Bool) (x d : A) → where_so b (Some x) ≡ Some d → x ≡ d
in_turn_does true x d e = cc
in_turn_does false x d e = cc

listed_grows : (l : Listed) (n : ℕ) (h : Host) (d : Acts (InAnswer (listed_answer l))) → listed_acts l n h ≡ Some d → makes_array (listed_answer l) ≡ false →
    GrowsBy (arrays_made h) (listed_answer l) d.does
listed_grows l n h d e a =
    subst (λ (x : Acts (InAnswer (listed_answer l))). GrowsBy (arrays_made h) (listed_answer l) x.does)
    (in_turn_does (nat_le n (length h.arguments) && listed_in_turn l (last_of n h.arguments)) _ d e)
    (as_many (arrays_made h) (listed_answer l) _ a (listed_kept (So (arrays_made h)) l (last_of n h.arguments) h.shared refl))

only_answered : (h : Host) (x d : Acts (Unit {0})) → Some x ≡ Some d → Has (arrays_made h) x.does.inner → GrowsBy (arrays_made h) answer.Nothing d.does
only_answered h x d e k = subst (λ (y : Acts (Unit {0})). GrowsBy (arrays_made h) answer.Nothing y.does) (in_turn_does true x d e)
    (as_many (arrays_made h) answer.Nothing x.does refl k)

pub arrays_grow : ArraysGrow
arrays_grow (OfPrimitive p) r h d e =
    subst (λ (x : Acts (InAnswer (answer_of p))). GrowsBy (arrays_made h) (answer_of p) x.does) (in_turn_does (in_turn p r h.shared) _ d e)
    (primitive_grows p r h (makes_array (answer_of p)) refl)
arrays_grow (Variadic Sprintf) r h d e = listed_grows listed.Sprintf (values_taken listed.Sprintf r.0) h d e refl
arrays_grow (Variadic Print) r h d e = listed_grows (listed.Print r.1.0) (values_taken (listed.Print r.1.0) r.0) h d e refl
arrays_grow (Variadic Printf) r h d e = listed_grows (listed.Printf r.1.0) (values_taken (listed.Printf r.1.0) r.0) h d e refl
arrays_grow Arg r h d e = only_answered h _ d e refl
arrays_grow Drop r h d e = only_answered h _ d e refl
arrays_grow IterFree r h d e = only_answered h _ d e refl
arrays_grow FreeArray r h d e = only_answered h _ d e refl
