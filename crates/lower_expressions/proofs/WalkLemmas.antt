-- Operands, one after the other: where they end, and how many are left.
use Rattle.std.proofs.Common.{◌≡◌, ℕ, zero, suc, ◌+◌, ◌-◌, ◌<◌, ◌≤◌, List, [], ◌∷◌, length, map, refl, ap, ◌∙◌, arith}
use Rattle.sem_primitives.specs.declared.sorts.Argument.{Argument}
use Rattle.sem_primitives.specs.declared.sorts.Argument.TheVariants as argument
use Rattle.wasm_types.specs.Syntax.{Instructions}
use Rattle.mid_program.specs.Mid as plain
use Rattle.mid_program.specs.Mid.{Kind, Codes, End, At, Fixed, Fresh}
use Rattle.mid_program.specs.Sorted.{count_of}
use Rattle.mid_program.specs.ViewCode.{before, views}
use Rattle.mid_program.specs.declared.code.Code.{Code}
use Rattle.mid_program.specs.declared.code.Operand.{Operand}
use Rattle.mid_program.specs.declared.code.Operand.TheVariants as operand
use Rattle.lower_model.specs.Emission.{Layout, all_pushed}
use Rattle.lower_model.specs.Places.{Bases, array_local}
use Rattle.lower_model.specs.Small.{ask, moved_out}
use Rattle.host_imports.specs.declared.import.Import.TheVariants.{FreeArray}
use Rattle.lower_pieces.specs.Forms.{view_form}
use Rattle.lower_pieces.specs.declared.form.Form.{Form}
use Rattle.lower_expressions.specs.Parts.{appended_with, boxed_with, converted_with, freed_with, given_with, pushed_with}

no_operands : (es : List Operand) → length es ≡ 0 → End ≡ views es
no_operands [] e = refl
no_operands (x ∷ es) e = absurd cc

-- no operand is left

converted_end : (b : Bases) (fs : List plain.Form) (ws : List Argument) (t d : ℕ) (k : Instructions) → k ≡ converted_with b fs ws End t d k
converted_end b [] [] t d k = refl
converted_end b [] (a ∷ ws) t d k = refl
converted_end b (f ∷ fs) [] t d k = refl
converted_end b (f ∷ fs) (argument.Of s ∷ ws) t d k = refl
converted_end b (f ∷ fs) (argument.Constant c ∷ ws) t d k = refl
converted_end b (f ∷ fs) (argument.Place ∷ ws) t d k = refl

pub none_converted : (b : Bases) (fs : List plain.Form) (ws : List Argument) (es : List Operand) (t d : ℕ) (k : Instructions) → length es ≡ 0 → k ≡ converted_with b fs ws (views es) t d k
none_converted b fs ws es t d k e = converted_end b fs ws t d k ∙ ap (λ (x : Codes). converted_with b fs ws x t d k) (no_operands es e)

given_end : (y : Layout) (fs : List plain.Form) (ks : List Kind) (t : ℕ) (k : Instructions) → k ≡ given_with y fs ks End t k
given_end y [] [] t k = refl
given_end y [] (x ∷ ks) t k = refl
given_end y (f ∷ fs) [] t k = refl
given_end y (f ∷ fs) (x ∷ ks) t k = refl

pub none_given : (y : Layout) (fs : List plain.Form) (ks : List Kind) (es : List Operand) (t : ℕ) (k : Instructions) → length es ≡ 0 → k ≡ given_with y fs ks (views es) t k
none_given y fs ks es t k e = given_end y fs ks t k ∙ ap (λ (x : Codes). given_with y fs ks x t k) (no_operands es e)

pushed_end : (y : Layout) (ks : List Kind) (t w : ℕ) (k : Instructions) → k ≡ pushed_with y ks End t w k
pushed_end y [] t w k = refl
pushed_end y (x ∷ ks) t w k = refl

pub none_pushed : (y : Layout) (ks : List Kind) (es : List Operand) (t w : ℕ) (k : Instructions) → length es ≡ 0 → k ≡ pushed_with y ks (views es) t w k
none_pushed y ks es t w k e = pushed_end y ks t w k ∙ ap (λ (x : Codes). pushed_with y ks x t w k) (no_operands es e)

all_pushed_end : (y : Layout) (ws : List Argument) (t : ℕ) (k : Instructions) → k ≡ all_pushed y ws End t k
all_pushed_end y [] t k = refl
all_pushed_end y (a ∷ ws) t k = refl

pub none_put : (y : Layout) (ws : List Argument) (es : List Operand) (t : ℕ) (k : Instructions) → length es ≡ 0 → k ≡ all_pushed y ws (views es) t k
none_put y ws es t k e = all_pushed_end y ws t k ∙ ap (λ (x : Codes). all_pushed y ws x t k) (no_operands es e)

-- nothing more is wanted

pub unwanted : (b : Bases) (fs : List plain.Form) (es : Codes) (t d : ℕ) (k : Instructions) → k ≡ converted_with b fs [] es t d k
unwanted b [] End t d k = refl
unwanted b [] (At e es) t d k = refl
unwanted b [] (Fixed m es) t d k = refl
unwanted b [] (Fresh es) t d k = refl
unwanted b (f ∷ fs) End t d k = refl
unwanted b (f ∷ fs) (At e es) t d k = refl
unwanted b (f ∷ fs) (Fixed m es) t d k = refl
unwanted b (f ∷ fs) (Fresh es) t d k = refl

pub no_items : {A : Type 0} (xs : List A) → length xs ≡ 0 → ◌≡◌ {A = List A} [] xs
no_items [] e = refl
no_items (x ∷ xs) e = absurd cc

pub none_wanted : (b : Bases) (fs : List plain.Form) (ws : List Argument) (es : Codes) (t d : ℕ) (k : Instructions) → length ws ≡ 0 → k ≡ converted_with b fs ws es t d k
none_wanted b fs ws es t d k e = unwanted b fs es t d k ∙ ap (λ (x : List Argument). converted_with b fs x es t d k) (no_items ws e)

no_kind : (y : Layout) (fs : List plain.Form) (es : Codes) (t : ℕ) (k : Instructions) → k ≡ given_with y fs [] es t k
no_kind y [] es t k = refl
no_kind y (f ∷ fs) es t k = refl

pub no_parameter : {A : Type 0} (view : A → Kind) (y : Layout) (fs : List plain.Form) (ks : List A) (es : Codes) (t : ℕ) (k : Instructions) → length ks ≡ 0 → k ≡ given_with y fs (map view ks) es t k
no_parameter view y fs ks es t k e = no_kind y fs es t k ∙ ap (λ (x : List _). given_with y fs (map view x) es t k) (no_items ks e)

-- how many are left

pub count_code : (es rest : List Operand) (o : Operand) (e : Code) → es ≡ o ∷ rest → o ≡ operand.Code e → count_of (views es) ≡ suc (count_of (views rest))
count_code es rest o e h k = ap (λ (x : List Operand). count_of (views x)) h ∙ ap (λ (x : Operand). count_of (before x (views rest))) k

count_least_one : (o : Operand) (es : Codes) → count_of es ≤ count_of (before o es)
count_least_one (operand.Code e) es = omega arith
count_least_one (operand.Constant n) es = omega arith
count_least_one operand.Fresh es = omega arith

pub count_least : (es rest : List Operand) (o : Operand) → es ≡ o ∷ rest → count_of (views rest) ≤ count_of (views es)
count_least es rest o h = let e = ap (λ (x : List Operand). count_of (views x)) h in let l = count_least_one o (views rest) in omega (arith, e, l)

-- arrays that are freed

pub freed_step : (b : Bases) (w left : ℕ) (k : Instructions) → 0 < left → freed_with b w left k ≡ moved_out (array_local b (w + (left - 1))) (ask FreeArray (freed_with b w (left - 1) k))
freed_step b w zero k lt = absurd (omega arith)
freed_step b w (suc i) k lt = let e : i ≡ suc i - 1 = omega arith in ap (λ (j : ℕ). moved_out (array_local b (w + j)) (ask FreeArray (freed_with b w j k))) e

-- forms, one after the other

pub boxed_end : (b : Bases) (fs : List Form) (t : ℕ) (k : Instructions) → length fs ≡ 0 → k ≡ boxed_with b (map view_form fs) t k
boxed_end b [] t k e = refl
boxed_end b (f ∷ fs) t k e = absurd cc

pub appended_end : (b : Bases) (fs : List Form) (t : ℕ) (k : Instructions) → length fs ≡ 0 → k ≡ appended_with b (map view_form fs) t k
appended_end b [] t k e = refl
appended_end b (f ∷ fs) t k e = absurd cc
