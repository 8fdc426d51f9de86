-- The walk over code, part after part.
use Rattle.std.proofs.Common.{◌≡◌, ℕ, suc, ◌+◌, ◌<◌, List, [], ◌∷◌, ◌++◌, append_assoc, get_or, drop, length, map, Option, add-one, append-nil, refl, sym, ap, ◌∙◌}
use Rattle.std.proofs.Math.Seq.{drop-cons}
use Rattle.mid_program.specs.Mid as plain
use Rattle.mid_program.specs.Mid.{Code, Codes, End, Form, a_value, form_of, source_of}
use Rattle.mid_program.specs.ViewCode.{before, joined, view, view_step, view_steps, views}
use Rattle.mid_program.specs.declared.code.Code.{Code as Owned}
use Rattle.mid_program.specs.declared.code.Operand.{Operand}
use Rattle.mid_program.specs.declared.code.Operand.TheVariants as operand
use Rattle.mid_program.specs.declared.step.Step.{Step}
use Rattle.value_kinds.specs.Lanes.{marked, seen}
use Rattle.mid_program.specs.Stores.{Asked, Given, Into, Store, step_stores, steps_stores, stores, stores_given, stores_in}
use Rattle.value_kinds.specs.Walks.{Walk, after, stores_each}
use Rattle.value_kinds.proofs.Visits.{visited_twice}

after_twice : (w : Walk) (xs ys : List Store) → after (after w xs) ys ≡ after w (xs ++ ys)
after_twice w xs ys = λ i. record w { lanes = visited_twice (marked w.numbers) w.function w.lanes xs ys i; scan = visited_twice seen w.function w.scan xs ys i }

-- two parts
pub two_walked : (w s t : Walk) (xs ys : List Store) → s ≡ after w xs → t ≡ after s ys → t ≡ after w (xs ++ ys)
two_walked w s t xs ys e f = f ∙ ap (λ (u : Walk). after u ys) e ∙ after_twice w xs ys

pub let_walked : (fs : List Form) (w s t : Walk) (f : Form) (a b : Code) → f ≡ form_of fs a → s ≡ after w (stores fs a) → t ≡ after s (stores (f ∷ fs) b) → t ≡ after w (stores fs (plain.Let a b))
let_walked fs w s t f a b h e g = two_walked w s t (stores fs a) (stores (form_of fs a ∷ fs) b) e (g ∙ ap (λ (x : Form). after s (stores (x ∷ fs) b)) h)

pub set_walked : (fs : List Form) (w s t : Walk) (f : Form) (x : plain.Slot) (a : Code) (o : Option plain.Slot) → o ≡ source_of a → f ≡ form_of fs a → s ≡ after w (stores fs a) → t ≡ after s (Into x o f ∷ []) → t ≡ after w (stores fs (plain.Set x a))
set_walked fs w s t f x a o d h e g = two_walked w s t (stores fs a) (Into x (source_of a) (form_of fs a) ∷ []) e (g ∙ (λ i. after s (Into x (d i) (h i) ∷ [])))

pub given_walked : (fs : List Form) (w s t : Walk) (f : Form) (g i : ℕ) (a : Code) (o : Option plain.Slot) → o ≡ source_of a → f ≡ form_of fs a → s ≡ after w (stores fs a) → t ≡ after s (Given g i o f ∷ []) →
    t ≡ after w (stores_given g i fs (plain.At a End))
given_walked fs w s t f g i a o d h e k = two_walked w s t (stores fs a) (Given g i (source_of a) (form_of fs a) ∷ []) e (k ∙ (λ j. after s (Given g i (d j) (h j) ∷ [])))

pub line_walked : (fs : List Form) (w s t : Walk) (a : Code) → s ≡ after w (Asked ∷ []) → t ≡ after s (stores (a_value ∷ fs) a) → t ≡ after w (stores fs (plain.AskLine a))
line_walked fs w s t a e h = two_walked w s t (Asked ∷ []) (stores (a_value ∷ fs) a) e h

-- an operand before others

in_first : (fs : List Form) (w s : Walk) (x : Operand) (xs : List Operand) → s ≡ after w (stores_in fs (before x End)) → after s (stores_in fs (views xs)) ≡ after w (stores_in fs (views (x ∷ xs)))
in_first fs w s (operand.Code a) xs e =
    ap (λ (u : Walk). after u (stores_in fs (views xs))) e ∙ after_twice w (stores fs (view a) ++ []) (stores_in fs (views xs))
    ∙ ap (after w) (append_assoc (stores fs (view a)) [] (stores_in fs (views xs)))
in_first fs w s (operand.Constant n) xs e = ap (λ (u : Walk). after u (stores_in fs (views xs))) e
in_first fs w s operand.Fresh xs e = ap (λ (u : Walk). after u (stores_in fs (views xs))) e

pub in_next : (fs : List Form) (w s : Walk) (x d : Operand) (xs : List Operand) (i : ℕ) → i < length xs → x ≡ get_or xs i d → s ≡ after w (stores_in fs (before x End)) →
    after s (stores_in fs (views (drop (i + 1) xs))) ≡ after w (stores_in fs (views (drop i xs)))
in_next fs w s x d xs i lt h e =
    ap (λ (n : ℕ). after s (stores_in fs (views (drop n xs)))) (add-one i) ∙ in_first fs w s x (drop (suc i) xs) e
    ∙ ap (λ (y : Operand). after w (stores_in fs (views (y ∷ drop (suc i) xs)))) h ∙ ap (λ (ys : List Operand). after w (stores_in fs (views ys))) (sym (drop-cons xs i d lt))

given_first : (f i : ℕ) (fs : List Form) (w s : Walk) (x : Operand) (xs : List Operand) → s ≡ after w (stores_given f i fs (before x End)) →
    after s (stores_given f (suc i) fs (views xs)) ≡ after w (stores_given f i fs (views (x ∷ xs)))
given_first f i fs w s (operand.Code a) xs e =
    ap (λ (u : Walk). after u (stores_given f (suc i) fs (views xs))) e
    ∙ after_twice w (stores fs (view a) ++ (Given f i (source_of (view a)) (form_of fs (view a)) ∷ [])) (stores_given f (suc i) fs (views xs))
    ∙ ap (after w) (append_assoc (stores fs (view a)) (Given f i (source_of (view a)) (form_of fs (view a)) ∷ []) (stores_given f (suc i) fs (views xs)))
given_first f i fs w s (operand.Constant n) xs e = ap (λ (u : Walk). after u (stores_given f (suc i) fs (views xs))) e
given_first f i fs w s operand.Fresh xs e = ap (λ (u : Walk). after u (stores_given f (suc i) fs (views xs))) e

pub given_next : (f i : ℕ) (fs : List Form) (w s : Walk) (x d : Operand) (xs : List Operand) → i < length xs → x ≡ get_or xs i d → s ≡ after w (stores_given f i fs (before x End)) →
    after s (stores_given f (i + 1) fs (views (drop (i + 1) xs))) ≡ after w (stores_given f i fs (views (drop i xs)))
given_next f i fs w s x d xs lt h e =
    ap (λ (n : ℕ). after s (stores_given f n fs (views (drop n xs)))) (add-one i) ∙ given_first f i fs w s x (drop (suc i) xs) e
    ∙ ap (λ (y : Operand). after w (stores_given f i fs (views (y ∷ drop (suc i) xs)))) h ∙ ap (λ (ys : List Operand). after w (stores_given f i fs (views ys))) (sym (drop-cons xs i d lt))

-- codes

each_first : (fs : List Form) (w s : Walk) (x : Owned) (xs : List Owned) → s ≡ after w (stores fs (view x)) → after s (stores_each fs (map view xs)) ≡ after w (stores_each fs (map view (x ∷ xs)))
each_first fs w s x xs e = ap (λ (u : Walk). after u (stores_each fs (map view xs))) e ∙ after_twice w (stores fs (view x)) (stores_each fs (map view xs))

pub each_next : (fs : List Form) (w s : Walk) (x d : Owned) (xs : List Owned) (i : ℕ) → i < length xs → x ≡ get_or xs i d → s ≡ after w (stores fs (view x)) →
    after s (stores_each fs (map view (drop (i + 1) xs))) ≡ after w (stores_each fs (map view (drop i xs)))
each_next fs w s x d xs i lt h e =
    ap (λ (n : ℕ). after s (stores_each fs (map view (drop n xs)))) (add-one i) ∙ each_first fs w s x (drop (suc i) xs) e
    ∙ ap (λ (y : Owned). after w (stores_each fs (map view (y ∷ drop (suc i) xs)))) h ∙ ap (λ (ys : List Owned). after w (stores_each fs (map view ys))) (sym (drop-cons xs i d lt))

joined_stores : (fs : List Form) (es : List Code) (last : Code) → stores_each fs es ++ stores fs last ≡ stores fs (joined es last)
joined_stores fs [] last = refl
joined_stores fs (e ∷ es) last =
    append_assoc (stores fs e) (stores_each fs es) (stores fs last)
    ∙ ap (λ (ss : List Store). stores fs e ++ ss) (joined_stores fs es last ∙ sym (append-nil (stores fs (joined es last))))

-- the key of subscripts: the first, others, and the last
pub key_walked : (fs : List Form) (w s t u : Walk) (e : Code) (es : List Code) (last : Code) → s ≡ after w (stores fs e) → t ≡ after s (stores_each fs es) → u ≡ after t (stores fs last) →
    u ≡ after w (stores fs (joined (e ∷ es) last))
key_walked fs w s t u e es last h k l =
    two_walked w s u (stores fs e) (stores_each fs es ++ stores fs last) h (two_walked s t u (stores_each fs es) (stores fs last) k l)
    ∙ ap (after w) (sym (append_assoc (stores fs e) (stores_each fs es) (stores fs last)) ∙ joined_stores fs (e ∷ es) last)

-- statements

pub step_next : (w s : Walk) (x d : Step) (xs : List Step) (i : ℕ) → i < length xs → x ≡ get_or xs i d → s ≡ after w (step_stores (view_step x)) →
    after s (steps_stores (view_steps (drop (i + 1) xs))) ≡ after w (steps_stores (view_steps (drop i xs)))
step_next w s x d xs i lt h e =
    (λ j. after (e j) (steps_stores (view_steps (drop (add-one i j) xs)))) ∙ after_twice w (step_stores (view_step x)) (steps_stores (view_steps (drop (suc i) xs)))
    ∙ ap (λ (y : Step). after w (steps_stores (view_steps (y ∷ drop (suc i) xs)))) h ∙ ap (λ (ys : List Step). after w (steps_stores (view_steps ys))) (sym (drop-cons xs i d lt))
