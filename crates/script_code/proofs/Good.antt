-- Well-sorted code that uses nothing of what was kept before it, and what is made of such code.
use Rattle.std.proofs.Common.{◌≡◌, ℕ, ◌^◌, Bool, true, false, List, [], ◌∷◌, length, ℤ, refl, sym, ap, ap₂, ◌∙◌, true≢false, lt-ltb, arith}
use Rattle.std.proofs.lemmas.Bool.{and_parts}
use Rattle.std.specs.Prelude.{nat_lt, nat_le, unsigned_abs}
use Rattle.std.specs.List.{list_all}
use Rattle.sem_primitives.specs.ConstantNumbers.{special_number, flag_number}
use Rattle.sem_primitives.specs.declared.constants.Special.{Special}
use Rattle.sem_primitives.specs.declared.constants.Special.TheVariants.{Argc}
use Rattle.sem_primitives.specs.declared.sorts.Sort.{Sort}
use Rattle.sem_primitives.specs.declared.sorts.Sort.TheVariants as sort
use Rattle.sem_primitives.specs.declared.sorts.Constant.TheVariants as constant
use Rattle.sem_primitives.specs.declared.sorts.Argument.TheVariants as argument
use Rattle.sem_primitives.specs.declared.sorts.Answer.TheVariants as answer
use Rattle.sem_primitives.specs.Table.{arguments_of, answer_of}
use Rattle.sem_primitives.specs.declared.table.Primitive.{Primitive}
use Rattle.sem_primitives.specs.declared.table.Primitive.TheVariants as row
use Rattle.awk_grammar.specs.Token.{Matching, Matches, Differs}
use Rattle.awk_values.specs.declared.comparison.CompareOp.{CompareOp}
use Rattle.mid_program.specs.declared.mid.Operation.{Operation}
use Rattle.mid_program.specs.declared.mid.Operation.TheVariants.{Host, AsNumber}
use Rattle.sem_scripts.specs.Names as names
use Rattle.sem_scripts.specs.Names.{ArrayName, Variable, Reserved}
use Rattle.mid_program.specs.Mid.{Code, Do, Compare, Ask, Number, Text, Array, Choose, At, End, Fixed, Boxed, Form, PrimitiveAnswer, NumberOrText, form_of, arguments, answer_by}
use Rattle.mid_program.specs.Sorted.{Context, Held, There, Moved, Misused, either_way, fits, is_tested, is_dropped, is_chosen, is_operation, is_done_here, is_constant, is_array_place, is_bound, has_kind, has_lender, held_after, sorted, all_sorted}
use Rattle.mid_program.specs.Translation.{host, one, two, zero_code, one_code, truth_code, untruth_code, record_code, special_code, variable_code, matching_code, ere_code}
use Rattle.mid_program.specs.Texts.{text_place}

-- Forms: what may be tested is a value, or what one is made of.

pub tested_value : (f : Form) → is_tested f ≡ true → fits f sort.Value ≡ true
tested_value (PrimitiveAnswer (answer.Of sort.Value)) e = refl
tested_value (PrimitiveAnswer (answer.Of sort.Number)) e = refl
tested_value (PrimitiveAnswer answer.Truth) e = refl
tested_value NumberOrText e = refl
tested_value f e = absurd (true≢false (sym e))

pub tested_number : (f : Form) → is_tested f ≡ true → fits f sort.Number ≡ true
tested_number (PrimitiveAnswer (answer.Of sort.Value)) e = refl
tested_number (PrimitiveAnswer (answer.Of sort.Number)) e = refl
tested_number (PrimitiveAnswer answer.Truth) e = refl
tested_number NumberOrText e = refl
tested_number f e = absurd (true≢false (sym e))

pub tested_dropped : (f : Form) → is_tested f ≡ true → is_dropped f ≡ true
tested_dropped (PrimitiveAnswer (answer.Of sort.Value)) e = refl
tested_dropped (PrimitiveAnswer (answer.Of sort.Number)) e = refl
tested_dropped (PrimitiveAnswer answer.Truth) e = refl
tested_dropped NumberOrText e = refl
tested_dropped f e = absurd (true≢false (sym e))

-- what is taken as one of these sorts may be whatever may be tested
abbrev pub TakesTested : Sort → Type 0
TakesTested s = (f : Form) → is_tested f ≡ true → fits f s ≡ true

-- Constants.

pub special_is : (s : Special) → is_constant constant.Special (special_number s) ≡ true
special_is Argc = refl
special_is s = refl

flag_is : (b : Bool) → is_constant constant.Flag (flag_number b) ≡ true
flag_is true = refl
flag_is false = refl

-- What is kept.

pub either_same : (h : Held) → either_way h h ≡ h
either_same There = refl
either_same Moved = refl
either_same Misused = refl

pub last_bound : (f : Form) (fs : List Form) → is_bound (f ∷ fs) 0 ≡ true
last_bound f fs = lt-ltb 0 (length (f ∷ fs)) (omega arith)

pub second_bound : (f g : Form) (fs : List Form) → is_bound (f ∷ g ∷ fs) 1 ≡ true
second_bound f g fs = lt-ltb 1 (length (f ∷ g ∷ fs)) (omega arith)

pub third_bound : (f g h : Form) (fs : List Form) → is_bound (f ∷ g ∷ h ∷ fs) 2 ≡ true
third_bound f g h fs = lt-ltb 2 (length (f ∷ g ∷ h ∷ fs)) (omega arith)

-- a text that stands among the texts
abbrev pub is_within : List (List ℕ) → List ℕ → Bool
is_within texts t = nat_lt (text_place texts t) (length texts)

-- what a variable needs
abbrev pub is_known : Context → Variable → Bool
is_known c (names.Global i) = has_kind c.globals i Boxed
is_known c (names.Parameter i) = has_kind c.parameters i Boxed
is_known c (Reserved s) = true

module _ (c : Context) where
  -- where things of these forms are kept
  pub record Good (fs : List Form) (e : Code) : Type 0 where
    pub tested : is_tested (form_of fs e) ≡ true
    pub fine : sorted c fs e ≡ true
    pub apart : (i : ℕ) (h : Held) → held_after i e h ≡ h

  module _ (fs : List Form) where
    pub as_value : (e : Code) → Good fs e → fits (form_of fs e) sort.Value ≡ true
    as_value e g = tested_value (form_of fs e) g.tested

    pub as_number : (e : Code) → Good fs e → fits (form_of fs e) sort.Number ≡ true
    as_number e g = tested_number (form_of fs e) g.tested

    -- operations on what may be tested

    pub one_operand : (o : Operation) (s : Sort) (a : Code) → is_done_here o ≡ true → arguments o ≡ argument.Of s ∷ [] → is_tested (PrimitiveAnswer (answer_by o)) ≡ true → TakesTested s →
        Good fs a → Good fs (Do o (one a))
    unfolding sorted all_sorted
    one_operand o s a d r t p g = record {
      tested = t;
      fine = rw (d, r, p (form_of fs a) g.tested, g.fine) refl;
      apart = g.apart;
    }

    pub two_operands : (o : Operation) (s u : Sort) (a b : Code) → is_done_here o ≡ true → arguments o ≡ argument.Of s ∷ argument.Of u ∷ [] → is_tested (PrimitiveAnswer (answer_by o)) ≡ true → TakesTested s → TakesTested u →
        Good fs a → Good fs b → Good fs (Do o (two a b))
    unfolding sorted all_sorted
    two_operands o s u a b d r t p q g h = record {
      tested = t;
      fine = rw (d, r, p (form_of fs a) g.tested, q (form_of fs b) h.tested, g.fine, h.fine) refl;
      apart = λ i held. ap (held_after i b) (g.apart i held) ∙ h.apart i held;
    }

    pub three_operands : (o : Operation) (s u v : Sort) (a b d : Code) → is_done_here o ≡ true → arguments o ≡ argument.Of s ∷ argument.Of u ∷ argument.Of v ∷ [] → is_tested (PrimitiveAnswer (answer_by o)) ≡ true →
        TakesTested s → TakesTested u → TakesTested v → Good fs a → Good fs b → Good fs d → Good fs (Do o (At a (two b d)))
    unfolding sorted all_sorted
    three_operands o s u v a b d here r t p q w g h k = record {
      tested = t;
      fine = rw (here, r, p (form_of fs a) g.tested, q (form_of fs b) h.tested, w (form_of fs d) k.tested, g.fine, h.fine, k.fine) refl;
      apart = λ i held. ap (λ x. held_after i d (held_after i b x)) (g.apart i held) ∙ (ap (held_after i d) (h.apart i held) ∙ k.apart i held);
    }

    -- how a read went, or whether a stream was closed, as a number
    pub answer_number_good : (p : Primitive) (a : Code) → is_operation p ≡ true → arguments_of p ≡ argument.Of sort.Value ∷ [] → fits (PrimitiveAnswer (answer_of p)) sort.Number ≡ true → Good fs a → Good fs (Do AsNumber (one (host p (one a))))
    unfolding sorted all_sorted
    answer_number_good p a d r t g = record { tested = refl; fine = rw (t, d, r, as_value a g, g.fine) refl; apart = g.apart }

    -- operations on an array and what may be tested
    pub array_operand : (o : Operation) (a : ArrayName) (k : Code) → is_done_here o ≡ true → arguments o ≡ argument.Of sort.Array ∷ argument.Of sort.Value ∷ [] → is_array_place c a ≡ true → Good fs k →
        sorted c fs (Do o (two (Array a) k)) ≡ true
    unfolding sorted all_sorted
    array_operand o a k d r p g = rw (d, r, p, as_value k g, g.fine) refl

    -- an operation on an array alone
    pub array_alone : (o : Operation) (a : ArrayName) → is_done_here o ≡ true → arguments o ≡ argument.Of sort.Array ∷ [] → is_array_place c a ≡ true → sorted c fs (Do o (one (Array a))) ≡ true
    unfolding sorted all_sorted
    array_alone o a d r p = rw (d, r, p) refl

    pub element_good : (a : ArrayName) (k : Code) → is_array_place c a ≡ true → Good fs k → Good fs (host row.Elem (two (Array a) k))
    element_good a k p g = record { tested = refl; fine = array_operand (Host row.Elem) a k refl refl p g; apart = g.apart }

    pub has_good : (a : ArrayName) (k : Code) → is_array_place c a ≡ true → Good fs k → Good fs (host row.Has (two (Array a) k))
    has_good a k p g = record { tested = refl; fine = array_operand (Host row.Has) a k refl refl p g; apart = g.apart }

    pub split_good : (s : Code) (a : ArrayName) (e : Code) (b : Bool) → is_array_place c a ≡ true → Good fs s → Good fs e → Good fs (host row.Split (At s (At (Array a) (At e (Fixed (flag_number b) End)))))
    unfolding sorted all_sorted
    split_good s a e b p g h = record {
      tested = refl;
      fine = rw (as_value s g, as_value e h, flag_is b, p, g.fine, h.fine) refl;
      apart = λ i held. ap (held_after i e) (g.apart i held) ∙ h.apart i held;
    }

    pub compare_good : (o : CompareOp) (a b : Code) → Good fs a → Good fs b → Good fs (Compare o a b)
    unfolding sorted
    compare_good o a b g h = record {
      tested = refl;
      fine = rw (as_value a g, as_value b h, g.fine, h.fine) refl;
      apart = λ i held. ap (held_after i b) (g.apart i held) ∙ h.apart i held;
    }

    -- leaves

    pub number_good : (z : ℤ) → nat_le (unsigned_abs z) (2 ^ 53) ≡ true → Good fs (Number z)
    unfolding sorted
    number_good z e = record { tested = refl; fine = e; apart = λ i held. refl }

    pub text_good : (i : ℕ) → nat_lt i c.texts ≡ true → Good fs (Text i)
    unfolding sorted
    text_good i e = record { tested = refl; fine = e; apart = λ j held. refl }

    pub ask_good : has_lender c.lenders ≡ false → Good fs Ask
    unfolding sorted
    ask_good n = record { tested = refl; fine = rw n refl; apart = λ i held. refl }

    pub special_good : (s : Special) → Good fs (special_code s)
    unfolding sorted all_sorted
    special_good s = record { tested = refl; fine = rw (special_is s) refl; apart = λ i held. refl }

    pub variable_good : (v : Variable) → is_known c v ≡ true → Good fs (variable_code v)
    unfolding sorted
    variable_good (names.Global i) e = record { tested = refl; fine = e; apart = λ j held. refl }
    variable_good (names.Parameter i) e = record { tested = refl; fine = e; apart = λ j held. refl }
    variable_good (Reserved s) e = special_good s

    pub zero_good : Good fs zero_code
    unfolding sorted
    zero_good = record { tested = refl; fine = refl; apart = λ i held. refl }

    pub one_good : Good fs one_code
    unfolding sorted
    one_good = record { tested = refl; fine = refl; apart = λ i held. refl }

    pub record_good : Good fs record_code
    record_good = one_operand (Host row.Field) sort.Number zero_code refl refl refl tested_number zero_good

    -- choices

    pub choose_good : (s : Sort) (e a b : Code) → is_chosen s ≡ true → is_tested (PrimitiveAnswer (answer.Of s)) ≡ true → TakesTested s → Good fs e → Good fs a → Good fs b → Good fs (Choose s e a b)
    unfolding sorted
    choose_good s e a b k t p g h l = record {
      tested = t;
      fine = rw (k, g.tested, p (form_of fs a) h.tested, p (form_of fs b) l.tested, g.fine, h.fine, l.fine) refl;
      apart = λ i held. ap (λ x. either_way (held_after i a x) (held_after i b x)) (g.apart i held) ∙ (ap₂ either_way (h.apart i held) (l.apart i held) ∙ either_same held);
    }

    pub truth_good : (e : Code) → Good fs e → Good fs (truth_code e)
    truth_good e g = choose_good sort.Number e one_code zero_code refl refl tested_number g one_good zero_good

    pub untruth_good : (e : Code) → Good fs e → Good fs (untruth_code e)
    untruth_good e g = choose_good sort.Number e zero_code one_code refl refl tested_number g zero_good one_good

    pub matching_good : (m : Matching) (e : Code) → Good fs e → Good fs (matching_code m e)
    matching_good Matches e g = g
    matching_good Differs e g = untruth_good e g

    -- an ERE token as an operand is its text
    pub ere_good : (texts found : List (List ℕ)) (e : Code) → c.texts ≡ length texts → list_all (is_within texts) found ≡ true → Good fs e → Good fs (ere_code texts found e)
    ere_good texts [] e n h g = g
    ere_good texts (t ∷ rest) e n h g = text_good (text_place texts t) (rw n (and_parts (is_within texts t) (list_all (is_within texts) rest) h).0)
