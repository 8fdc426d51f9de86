-- What the end of a tree takes, and what it ends in.
use Rattle.std.proofs.Common.{◌≡◌, ℕ, Bool, true, false, ◌||◌, ◌&&◌, List, [], ◌∷◌, ◌++◌, refl, sym, subst, append_assoc}
use Rattle.std.proofs.lemmas.List.{append-nil}
use Rattle.awk_grammar.specs.Token.{Not, Signed, Less, LessEqual, Equal, NotEqual, Greater, GreaterEqual, Comparison, Compare, Token, Lit, Name, FuncName, Word, GetlineWord, Dollar, Open, SignMark, NotMark, StepMark, Infix}
use Rattle.awk_grammar.specs.Tree.{print, op_tokens, Class, Opens, OpensIndex, StartsLValue, IsLess, Steps, Free, is_opens, is_index, is_start, is_less, is_steps, class_at, takes, StartsOperand, allowed}
use Rattle.awk_grammar.specs.Trees.{Tree, Leaf, Length, Var, Index, Field, Group, Call, Apply, Unary, Pre, Post, Bin, Has, HasList, Cond, Get, GetInto, GetFrom, GetIntoFrom}
use Rattle.awk_tree.specs.Ends.{EndsIn, whole, in_field, in_unary, in_step, in_right, in_choice, in_variable, in_source, in_last_source, IsBareLength, IsBareGetline, IsSourceless, IsVariable, BeginsWithSign, BeginsWithStep, BeginsWithOpen, BeginsVariable, MayJoin, MayCompare}

-- ---- what the end of a tree takes

-- the trees that take a token of this class
abbrev TakenBy : Class → Tree → Type 0
TakenBy Opens t = IsBareLength t
TakenBy OpensIndex (Var n) = Unit {0}
TakenBy OpensIndex t = ⊥
TakenBy StartsLValue t = IsBareGetline t
TakenBy IsLess t = IsSourceless t
TakenBy Steps t = IsVariable t
TakenBy Free t = ⊥

or_no : (a b : Bool) → a ≡ false → b ≡ false → (a || b) ≡ false
or_no a b e f = rw (e, f) refl

or_left : (a b : Bool) → a ≡ true → (a || b) ≡ true
or_left a b e = rw e refl

or_right : (a b : Bool) → b ≡ true → (a || b) ≡ true
or_right true b e = refl
or_right false b e = e

no_length : (c : Class) → (TakenBy c Length → ⊥) → is_opens c ≡ false
no_length Opens h = absurd (h tt)
no_length c h = refl

no_name : (n : Bool) (x : List ℕ) (c : Class) → (TakenBy c (Var x) → ⊥) → (is_index c || (is_steps c && n)) ≡ false
no_name n x OpensIndex h = absurd (h tt)
no_name n x Steps h = absurd (h tt)
no_name n x c h = refl

no_variable_step : (n : Bool) (t : Tree) (c : Class) → IsVariable t → (TakenBy c t → ⊥) → (is_steps c && n) ≡ false
no_variable_step n t Steps v h = absurd (h v)
no_variable_step n t c v h = refl

no_getline : (c : Class) → (TakenBy c Get → ⊥) → (is_start c || is_less c) ≡ false
no_getline StartsLValue h = absurd (h tt)
no_getline IsLess h = absurd (h tt)
no_getline c h = refl

no_source : (v : Tree) (c : Class) → (TakenBy c (GetInto v) → ⊥) → is_less c ≡ false
no_source v IsLess h = absurd (h tt)
no_source v c h = refl

untaken : (n : Bool) (c : Class) (t : Tree) → (EndsIn (TakenBy c) t → ⊥) → takes n t c ≡ false
untaken n c (Leaf x) h = refl
untaken n c Length h = no_length c λ k. h (whole k)
untaken n c (Var x) h = no_name n x c λ k. h (whole k)
untaken n c (Index x ts) h = no_variable_step n (Index x ts) c tt λ k. h (whole k)
untaken n c (Field t) h = or_no (takes false t c) (is_steps c && n) (untaken false c t λ e. h (in_field e)) (no_variable_step n (Field t) c tt λ k. h (whole k))
untaken n c (Group t) h = refl
untaken n c (Call f ts) h = refl
untaken n c (Apply f ts) h = refl
untaken n c (Unary p t) h = untaken n c t λ e. h (in_unary e)
untaken n c (Pre s t) h = untaken n c t λ e. h (in_step e)
untaken n c (Post s t) h = refl
untaken n c (Bin op a b) h = untaken n c b λ e. h (in_right e)
untaken n c (Has a x) h = refl
untaken n c (HasList t ts x) h = refl
untaken n c (Cond a b d) h = untaken n c d λ e. h (in_choice e)
untaken n c Get h = no_getline c λ k. h (whole k)
untaken n c (GetInto v) h = or_no (takes n v c) (is_less c) (untaken n c v λ e. h (in_variable e)) (no_source v c λ k. h (whole k))
untaken n c (GetFrom s) h = untaken n c s λ e. h (in_source e)
untaken n c (GetIntoFrom v s) h = untaken n c s λ e. h (in_last_source e)

-- nothing takes what is free
never_free : {t : Tree} → EndsIn (TakenBy Free) t → ⊥
never_free (whole k) = k
never_free (in_field e) = never_free e
never_free (in_unary e) = never_free e
never_free (in_step e) = never_free e
never_free (in_right e) = never_free e
never_free (in_choice e) = never_free e
never_free (in_variable e) = never_free e
never_free (in_source e) = never_free e
never_free (in_last_source e) = never_free e

pub takes_free : (n : Bool) (t : Tree) → takes n t Free ≡ false
takes_free n t = untaken n Free t never_free

-- whether steps, if it is one, are taken
abbrev Counts : Bool → Class → Type 0
Counts n Steps = n ≡ true
Counts n c = Unit {0}

own : (n : Bool) (c : Class) (t : Tree) → Counts n c → TakenBy c t → takes n t c ≡ true
own n Opens Length k h = refl
own n Opens t k h = absurd h
own n OpensIndex (Var x) k h = refl
own n OpensIndex t k h = absurd h
own n StartsLValue Get k h = refl
own n StartsLValue t k h = absurd h
own n IsLess Get k h = refl
own n IsLess (GetInto v) k h = or_right (takes n v IsLess) true refl
own n IsLess t k h = absurd h
own n Steps (Var x) k h = k
own n Steps (Index x ts) k h = k
own n Steps (Field t) k h = or_right (takes false t Steps) n k
own n Steps t k h = absurd h
own n Free t k h = absurd h

after_dollar : (n : Bool) (c : Class) (b : Bool) → Counts n c → (Counts false c → b ≡ true) → (b || (is_steps c && n)) ≡ true
after_dollar n Steps b k h = or_right b n k
after_dollar n Opens b k h = or_left b false (h tt)
after_dollar n OpensIndex b k h = or_left b false (h tt)
after_dollar n StartsLValue b k h = or_left b false (h tt)
after_dollar n IsLess b k h = or_left b false (h tt)
after_dollar n Free b k h = or_left b false (h tt)

taken : (c : Class) (n : Bool) {t : Tree} → Counts n c → EndsIn (TakenBy c) t → takes n t c ≡ true
taken c n k (whole {t} h) = own n c t k h
taken c n k (in_field {t} e) = after_dollar n c (takes false t c) k λ f. taken c false f e
taken c n k (in_unary e) = taken c n k e
taken c n k (in_step e) = taken c n k e
taken c n k (in_right e) = taken c n k e
taken c n k (in_choice e) = taken c n k e
taken c n k (in_variable {v} e) = or_left (takes n v c) (is_less c) (taken c n k e)
taken c n k (in_source e) = taken c n k e
taken c n k (in_last_source e) = taken c n k e

pub not_both : {b : Bool} → b ≡ true → b ≡ false → ⊥
not_both e f = absurd cc

-- ---- operands side by side

-- a tree begins with what may begin an operand, or with a sign
record IsBegun (ts : List Token) : Type 0 where
  starts : (BeginsWithSign ts → ⊥) → StartsOperand ts

begun_more : (a b rest : List Token) → IsBegun (a ++ (b ++ rest)) → IsBegun ((a ++ b) ++ rest)
begun_more a b rest k = subst IsBegun (sym (append_assoc a b rest)) k

begun : (t : Tree) (rest : List Token) → IsBegun (print t ++ rest)
begun (Leaf c) rest = record { starts = λ h. tt }
begun Length rest = record { starts = λ h. tt }
begun (Var n) rest = record { starts = λ h. tt }
begun (Index n ts) rest = record { starts = λ h. tt }
begun (Field t) rest = record { starts = λ h. tt }
begun (Group t) rest = record { starts = λ h. tt }
begun (Call f ts) rest = record { starts = λ h. tt }
begun (Apply f ts) rest = record { starts = λ h. tt }
begun (Unary Not t) rest = record { starts = λ h. tt }
begun (Unary (Signed s) t) rest = record { starts = λ h. h tt }
begun (Pre s t) rest = record { starts = λ h. tt }
begun (Post s t) rest = begun_more (print t) _ rest (begun t _)
begun (Bin op a b) rest = begun_more (print a) (op_tokens op ++ print b) rest (begun a ((op_tokens op ++ print b) ++ rest))
begun (Has a n) rest = begun_more (print a) _ rest (begun a _)
begun (HasList t ts n) rest = record { starts = λ h. tt }
begun (Cond a b c) rest = begun_more (print a) _ rest (begun a _)
begun Get rest = record { starts = λ h. tt }
begun (GetInto v) rest = record { starts = λ h. tt }
begun (GetFrom s) rest = record { starts = λ h. tt }
begun (GetIntoFrom v s) rest = record { starts = λ h. tt }

pub starts : (t : Tree) → (BeginsWithSign (print t) → ⊥) → StartsOperand (print t)
starts t h = (subst IsBegun (append-nil (print t)) (begun t [])).starts h

pub joined_takes : (a : Tree) (ts : List Token) → StartsOperand ts → MayJoin a ts → takes true a (class_at ts) ≡ false
joined_takes a (Lit c ∷ ts) h j = takes_free true a
joined_takes a (Name n ∷ ts) h j = untaken true StartsLValue a (j.no_variable tt)
joined_takes a (FuncName n ∷ ts) h j = takes_free true a
joined_takes a (Word f ∷ ts) h j = takes_free true a
joined_takes a (GetlineWord ∷ ts) h j = takes_free true a
joined_takes a (Dollar ∷ ts) h j = untaken true StartsLValue a (j.no_variable tt)
joined_takes a (Open ∷ ts) h j = untaken true Opens a (j.no_call tt)
joined_takes a (NotMark ∷ ts) h j = takes_free true a
joined_takes a (StepMark s ∷ ts) h j = untaken true Steps a (j.no_step tt)
joined_takes a ts h j = absurd h

no_sign : (ts : List Token) → StartsOperand ts → BeginsWithSign ts → ⊥
no_sign (SignMark s ∷ ts) h b = h
no_sign ts h b = absurd b

no_step : (a : Tree) (ts : List Token) → takes true a (class_at ts) ≡ false → BeginsWithStep ts → EndsIn IsVariable a → ⊥
no_step a (StepMark s ∷ ts) h b e = not_both (taken Steps true refl e) h
no_step a ts h b e = absurd b

no_call : (a : Tree) (ts : List Token) → takes true a (class_at ts) ≡ false → BeginsWithOpen ts → EndsIn IsBareLength a → ⊥
no_call a (Open ∷ ts) h b e = not_both (taken Opens true tt e) h
no_call a ts h b e = absurd b

no_variable : (a : Tree) (ts : List Token) → takes true a (class_at ts) ≡ false → BeginsVariable ts → EndsIn IsBareGetline a → ⊥
no_variable a (Name n ∷ ts) h b e = not_both (taken StartsLValue true tt e) h
no_variable a (Dollar ∷ ts) h b e = not_both (taken StartsLValue true tt e) h
no_variable a ts h b e = absurd b

pub may_join : (a : Tree) (ts : List Token) → StartsOperand ts → takes true a (class_at ts) ≡ false → MayJoin a ts
may_join a ts s h = record { no_sign = no_sign ts s; no_step = no_step a ts h; no_call = no_call a ts h; no_variable = no_variable a ts h }

-- ---- comparisons

pub compared_takes : (g : Bool) (c : Comparison) (a : Tree) (ts : List Token) → MayCompare g c a → takes true a (class_at (Infix (Compare c) ∷ ts)) ≡ false
compared_takes g Less a ts h = untaken true IsLess a h
compared_takes g LessEqual a ts h = takes_free true a
compared_takes g Equal a ts h = takes_free true a
compared_takes g NotEqual a ts h = takes_free true a
compared_takes g Greater a ts h = takes_free true a
compared_takes g GreaterEqual a ts h = takes_free true a

pub compared_allowed : (g : Bool) (c : Comparison) (a : Tree) → MayCompare g c a → allowed g (Compare c) ≡ true
compared_allowed g Less a h = refl
compared_allowed g LessEqual a h = refl
compared_allowed g Equal a h = refl
compared_allowed g NotEqual a h = refl
compared_allowed g Greater a h = h
compared_allowed g GreaterEqual a h = refl

pub may_compare : (g : Bool) (c : Comparison) (a : Tree) (ts : List Token) → takes true a (class_at (Infix (Compare c) ∷ ts)) ≡ false → allowed g (Compare c) ≡ true → MayCompare g c a
may_compare g Less a ts h k = λ e. not_both (taken IsLess true tt e) h
may_compare g LessEqual a ts h k = tt
may_compare g Equal a ts h k = tt
may_compare g NotEqual a ts h k = tt
may_compare g Greater a ts h k = k
may_compare g GreaterEqual a ts h k = tt
