-- Operands whose forms are known: what is said of the forms is what the definitions say.
use Rattle.std.proofs.Common.{◌≡◌, ℕ, zero, suc, ◌+◌, List, [], ◌∷◌, length, refl, sym, ap, ◌∙◌}
use Rattle.sem_primitives.specs.declared.sorts.Argument.{Argument}
use Rattle.sem_primitives.specs.declared.sorts.Argument.TheVariants as argument
use Rattle.wasm_types.specs.Syntax.{Instructions}
use Rattle.wasm_types.specs.declared.instr.Simple.TheVariants.{LocalGet, LocalTee}
use Rattle.mid_program.specs.Mid as plain
use Rattle.mid_program.specs.Mid.{Kind, Boxed, Unboxed, ArrayKind, Codes, End, At, Fixed, Fresh, form_of}
use Rattle.mid_program.specs.Sorted.{count_of}
use Rattle.lower_model.specs.Emission.{Layout, all_appended, all_boxed, all_converted, all_freed, all_given, all_given_pushed, lent, one_given}
use Rattle.lower_model.specs.Places.{Bases, array_local, handle_local}
use Rattle.lower_model.specs.Small.{ask, converted, emit, moved_out, to_value}
use Rattle.host_imports.specs.declared.import.Import.TheVariants.{Arg, FreeArray}
use Rattle.lower_expressions.specs.Fits.{AllCode, IsGiven}
use Rattle.lower_expressions.specs.Parts.{appended_with, boxed_with, converted_with, forms_in, freed_with, given_with, pushed_with}
use Rattle.lower_expressions.proofs.WalkLemmas.{unwanted}

-- operands that are converted

fixed_converted : (b : Bases) (gs : List plain.Form) (a : Argument) (ws : List Argument) (m : ℕ) (es : Codes) (t d : ℕ) (k : Instructions) → converted_with b gs (a ∷ ws) (Fixed m es) t d k ≡ converted_with b gs ws es t d k
fixed_converted b [] a ws m es t d k = refl
fixed_converted b (g ∷ gs) (argument.Of s) ws m es t d k = refl
fixed_converted b (g ∷ gs) (argument.Constant c) ws m es t d k = refl
fixed_converted b (g ∷ gs) argument.Place ws m es t d k = refl

fresh_converted : (b : Bases) (gs : List plain.Form) (a : Argument) (ws : List Argument) (es : Codes) (t d : ℕ) (k : Instructions) → converted_with b gs (a ∷ ws) (Fresh es) t d k ≡ k
fresh_converted b [] a ws es t d k = refl
fresh_converted b (g ∷ gs) (argument.Of s) ws es t d k = refl
fresh_converted b (g ∷ gs) (argument.Constant c) ws es t d k = refl
fresh_converted b (g ∷ gs) argument.Place ws es t d k = refl

pub converted_are : (y : Layout) (fs : List plain.Form) (ws : List Argument) (es : Codes) (t d : ℕ) (k : Instructions) → converted_with y.bases (forms_in fs es) ws es t d k ≡ all_converted y fs ws es t d k
converted_are y fs [] es t d k = sym (unwanted y.bases (forms_in fs es) es t d k)
converted_are y fs (argument.Of s ∷ ws) End t d k = refl
converted_are y fs (argument.Constant c ∷ ws) End t d k = refl
converted_are y fs (argument.Place ∷ ws) End t d k = refl
converted_are y fs (argument.Of s ∷ ws) (At e es) t d k = ap (converted y.bases (form_of fs e) s t d) (converted_are y fs ws es (suc t) d k)
converted_are y fs (argument.Constant c ∷ ws) (At e es) t d k = refl
converted_are y fs (argument.Place ∷ ws) (At e es) t d k = refl
converted_are y fs (argument.Of s ∷ ws) (Fixed m es) t d k = fixed_converted y.bases (forms_in fs es) (argument.Of s) ws m es t d k ∙ converted_are y fs ws es t d k
converted_are y fs (argument.Constant c ∷ ws) (Fixed m es) t d k = fixed_converted y.bases (forms_in fs es) (argument.Constant c) ws m es t d k ∙ converted_are y fs ws es t d k
converted_are y fs (argument.Place ∷ ws) (Fixed m es) t d k = fixed_converted y.bases (forms_in fs es) argument.Place ws m es t d k ∙ converted_are y fs ws es t d k
converted_are y fs (argument.Of s ∷ ws) (Fresh es) t d k = fresh_converted y.bases (forms_in fs es) (argument.Of s) ws es t d k
converted_are y fs (argument.Constant c ∷ ws) (Fresh es) t d k = fresh_converted y.bases (forms_in fs es) (argument.Constant c) ws es t d k
converted_are y fs (argument.Place ∷ ws) (Fresh es) t d k = fresh_converted y.bases (forms_in fs es) argument.Place ws es t d k

-- values of a list

pub boxed_are : (y : Layout) (fs : List plain.Form) (es : Codes) (t : ℕ) (k : Instructions) → AllCode es → boxed_with y.bases (forms_in fs es) t k ≡ all_boxed y fs es t k
boxed_are y fs End t k q = refl
boxed_are y fs (At e es) t k q = ap (to_value y.bases (form_of fs e) t) (boxed_are y fs es (suc t) k q)
boxed_are y fs (Fixed m es) t k q = absurd q
boxed_are y fs (Fresh es) t k q = absurd q

pub appended_are : (y : Layout) (fs : List plain.Form) (es : Codes) (t : ℕ) (k : Instructions) → AllCode es → appended_with y.bases (forms_in fs es) t k ≡ all_appended y es t k
appended_are y fs End t k q = refl
appended_are y fs (At e es) t k q = ap (λ (x : Instructions). moved_out (handle_local y.bases t) (ask Arg x)) (appended_are y fs es (suc t) k q)
appended_are y fs (Fixed m es) t k q = absurd q
appended_are y fs (Fresh es) t k q = absurd q

pub forms_counted : (fs : List plain.Form) (es : Codes) → AllCode es → length (forms_in fs es) ≡ count_of es
forms_counted fs End q = refl
forms_counted fs (At e es) q = ap suc (forms_counted fs es q)
forms_counted fs (Fixed m es) q = absurd q
forms_counted fs (Fresh es) q = absurd q

-- what a call is given

fresh_given : (y : Layout) (gs : List plain.Form) (kind : Kind) (ks : List Kind) (es : Codes) (t : ℕ) (k : Instructions) → given_with y gs (kind ∷ ks) (Fresh es) t k ≡ given_with y gs ks es t k
fresh_given y [] kind ks es t k = refl
fresh_given y (g ∷ gs) kind ks es t k = refl

pub given_are : (y : Layout) (fs : List plain.Form) (ks : List Kind) (es : Codes) (t : ℕ) (k : Instructions) → IsGiven ks es → given_with y (forms_in fs es) ks es t k ≡ all_given y fs ks es t k
given_are y fs [] End t k q = refl
given_are y fs [] (At e es) t k q = absurd q
given_are y fs [] (Fixed m es) t k q = absurd q
given_are y fs [] (Fresh es) t k q = absurd q
given_are y fs (Boxed ∷ ks) End t k q = absurd q
given_are y fs (Unboxed ∷ ks) End t k q = absurd q
given_are y fs (ArrayKind ∷ ks) End t k q = absurd q
given_are y fs (Boxed ∷ ks) (At e es) t k q = ap (to_value y.bases (form_of fs e) t) (given_are y fs ks es (suc t) k q)
given_are y fs (Unboxed ∷ ks) (At e es) t k q = ap (lent y (form_of fs e) t) (given_are y fs ks es (suc t) k q)
given_are y fs (ArrayKind ∷ ks) (At e es) t k q = given_are y fs ks es (suc t) k q
given_are y fs (Boxed ∷ ks) (Fixed m es) t k q = absurd q
given_are y fs (Unboxed ∷ ks) (Fixed m es) t k q = absurd q
given_are y fs (ArrayKind ∷ ks) (Fixed m es) t k q = absurd q
given_are y fs (Boxed ∷ ks) (Fresh es) t k q = absurd q
given_are y fs (Unboxed ∷ ks) (Fresh es) t k q = absurd q
given_are y fs (ArrayKind ∷ ks) (Fresh es) t k q = fresh_given y (forms_in fs es) ArrayKind ks es t k ∙ given_are y fs ks es t k q

pub pushed_are : (y : Layout) (ks : List Kind) (es : Codes) (t w : ℕ) (k : Instructions) → IsGiven ks es → pushed_with y ks es t w k ≡ all_given_pushed y ks es t w k
pushed_are y [] End t w k q = refl
pushed_are y [] (At e es) t w k q = absurd q
pushed_are y [] (Fixed m es) t w k q = absurd q
pushed_are y [] (Fresh es) t w k q = absurd q
pushed_are y (Boxed ∷ ks) End t w k q = absurd q
pushed_are y (Unboxed ∷ ks) End t w k q = absurd q
pushed_are y (ArrayKind ∷ ks) End t w k q = absurd q
pushed_are y (Boxed ∷ ks) (At e es) t w k q = ap (one_given y Boxed e t) (pushed_are y ks es (suc t) w k q)
pushed_are y (Unboxed ∷ ks) (At e es) t w k q = ap (one_given y Unboxed e t) (pushed_are y ks es (suc t) w k q)
pushed_are y (ArrayKind ∷ ks) (At e es) t w k q = ap (one_given y ArrayKind e t) (pushed_are y ks es (suc t) w k q)
pushed_are y (Boxed ∷ ks) (Fixed m es) t w k q = absurd q
pushed_are y (Unboxed ∷ ks) (Fixed m es) t w k q = absurd q
pushed_are y (ArrayKind ∷ ks) (Fixed m es) t w k q = absurd q
pushed_are y (Boxed ∷ ks) (Fresh es) t w k q = absurd q
pushed_are y (Unboxed ∷ ks) (Fresh es) t w k q = absurd q
pushed_are y (ArrayKind ∷ ks) (Fresh es) t w k q =
    ap (λ (x : Instructions). emit (LocalGet (array_local y.bases w)) (emit (LocalTee (array_local y.bases w)) x)) (pushed_are y ks es t (suc w) k q)

pub freed_are : (y : Layout) (w m : ℕ) (k : Instructions) → freed_with y.bases w m k ≡ all_freed y w m k
freed_are y w zero k = refl
freed_are y w (suc i) k = ap (λ (x : Instructions). moved_out (array_local y.bases (w + i)) (ask FreeArray x)) (freed_are y w i k)
