-- With more depth allowed, only what was too deep is read otherwise.
use Rattle.std.proofs.Common.{◌≡◌, ℕ, zero, suc, ◌≤◌, Bool, true, false, ltb, List, ◌∷◌, length, Option, Some, None, Result, Ok, Err, ◌⊎◌, inl, inr, refl, arith}
use Rattle.std.proofs.lemmas.Bool.{ltb-false, le-ltb, cases_Bool}
use Rattle.awk_grammar.specs.Token.{Not, Signed, Token, Name, FuncName, Word, GetlineWord, Dollar, Open, Close, SignMark, NotMark, StepMark}
use Rattle.awk_grammar.specs.Reading.{Fault, TooDeep, ◌>>=◌, Read, Reader, close_at, bracket_at, colon_at, in_at, name_at, comma_at, open_at, index_at, less_at, Link, Joined, Within, Chosen, link_at, more_by, more_at, list_at, arguments_at, indexed_by, call_by, suited, applied_by, paren_by, getting, from_by, into_by, under, first_at, posted, checked, after, stops, goes_on, climb, fitting, expr_at}
use Rattle.awk_tokens.specs.declared.reserved_words.Builtin.{Builtin}
use Rattle.awk_grammar.specs.Tree.{op_right, Mode, Whole, Plain, LValue, InField, floor, class_at, is_start}
use Rattle.awk_grammar.specs.Trees.{Tree, Index, Field, Call, Unary, Pre, Bin, HasList, Cond, Then, depth}
use Rattle.awk_grammar.proofs.Sound.{closing}

abbrev pub Below : {A : Type 0} → Result A Fault → Result A Fault → Type 0
Below r s = (r ≡ Err TooDeep) ⊎ (r ≡ s)

abbrev pub AreBelow : Reader → Reader → Type 0
AreBelow e f = (g : Bool) (m : Mode) (ts : List Token) → Below (e g m ts) (f g m ts)

pub bind_below : {A B : Type 0} (r s : Result A Fault) (f g : A → Result B Fault) → Below r s → ((x : A) → Below (f x) (g x)) → Below (r >>= f) (s >>= g)
bind_below r s f g (inl e) h = rw e (inl refl)
bind_below (Ok x) s f g (inr e) h = rw (← e) (h x)
bind_below (Err d) s f g (inr e) h = rw (← e) (inr refl)

-- the same continuation
pub then_below : {A B : Type 0} (r s : Result A Fault) (f : A → Result B Fault) → Below r s → Below (r >>= f) (s >>= f)
then_below r s f h = bind_below r s f f h (λ x. inr refl)

more_below : (e f : Reader) → AreBelow e f → (g : Bool) (w : ℕ) (ts : List Token) → Below (more_at e g w ts) (more_at f g w ts)
more_below e f h g zero ts = inr refl
more_below e f h g (suc w) ts = by (comma_at ts) (more_below e f h g w)
  where
    by : (o : Option (List Token)) → ((us : List Token) → Below (more_at e g w us) (more_at f g w us)) → Below (more_by e g (more_at e g w) ts o) (more_by f g (more_at f g w) ts o)
    by None k = inr refl
    by (Some us) k = bind_below (e g Whole us) (f g Whole us) (λ x. more_at e g w x.1 >>= λ y. Ok (Then x.0 y.0, y.1)) (λ x. more_at f g w x.1 >>= λ y. Ok (Then x.0 y.0, y.1)) (h g Whole us) (λ x. then_below (more_at e g w x.1) (more_at f g w x.1) (λ y. Ok (Then x.0 y.0, y.1)) (k x.1))

pub list_below : (e f : Reader) → AreBelow e f → (g : Bool) (ts : List Token) → Below (list_at e g ts) (list_at f g ts)
list_below e f h g ts = bind_below (e g Whole ts) (f g Whole ts) (λ x. more_at e g (length x.1) x.1 >>= λ y. Ok (Then x.0 y.0, y.1)) (λ x. more_at f g (length x.1) x.1 >>= λ y. Ok (Then x.0 y.0, y.1)) (h g Whole ts) (λ x. then_below (more_at e g (length x.1) x.1) (more_at f g (length x.1) x.1) (λ y. Ok (Then x.0 y.0, y.1)) (more_below e f h g (length x.1) x.1))

closing_below : (e f : Reader) → AreBelow e f → (ts : List Token) → Below (closing e ts) (closing f ts)
closing_below e f h ts = then_below (list_at e true ts) (list_at f true ts) (λ x. close_at x.1 >>= λ us. Ok (x.0, us)) (list_below e f h true ts)

arguments_below : (e f : Reader) → AreBelow e f → (ts : List Token) → Below (arguments_at e ts) (arguments_at f ts)
arguments_below e f h (Close ∷ ts) = inr refl
arguments_below e f h ts = closing_below e f h ts

indexed_below : (e f : Reader) → AreBelow e f → (n : List ℕ) (ts : List Token) (o : Option (List Token)) → Below (indexed_by e n ts o) (indexed_by f n ts o)
indexed_below e f h n ts None = inr refl
indexed_below e f h n ts (Some us) = then_below (list_at e true us) (list_at f true us) (λ x. bracket_at x.1 >>= λ vs. Ok (Index n x.0, vs)) (list_below e f h true us)

call_below : (e f : Reader) → AreBelow e f → (n : List ℕ) (o : Option (List Token)) → Below (call_by e n o) (call_by f n o)
call_below e f h n None = inr refl
call_below e f h n (Some us) = then_below (arguments_at e us) (arguments_at f us) (λ x. Ok (Call n x.0, x.1)) (arguments_below e f h us)

applied_below : (e f : Reader) → AreBelow e f → (n : Builtin) (ts : List Token) (o : Option (List Token)) → Below (applied_by e n ts o) (applied_by f n ts o)
applied_below e f h n ts None = inr refl
applied_below e f h n ts (Some us) = then_below (arguments_at e us) (arguments_at f us) (suited n) (arguments_below e f h us)

paren_below : (e f : Reader) → AreBelow e f → (t : Tree) (ts : List Token) (o : Option (List Token)) → Below (paren_by e t ts o) (paren_by f t ts o)
paren_below e f h t ts None = inr refl
paren_below e f h t ts (Some us) = then_below (list_at e true us) (list_at f true us) (λ x. close_at x.1 >>= λ vs. in_at vs >>= λ ws. name_at ws >>= λ n. Ok (HasList t x.0 n.0, n.1)) (list_below e f h true us)

from_below : (e f : Reader) → AreBelow e f → (g : Bool) (v : Option Tree) (ts : List Token) (o : Option (List Token)) → Below (from_by e g v ts o) (from_by f g v ts o)
from_below e f h g v ts None = inr refl
from_below e f h g v ts (Some us) = then_below (e g Plain us) (f g Plain us) (λ x. Ok (getting v (Some x.0), x.1)) (h g Plain us)

into_below : (e f : Reader) → AreBelow e f → (g : Bool) (ts : List Token) (b : Bool) → Below (into_by e g ts b) (into_by f g ts b)
into_below e f h g ts true = bind_below (e g LValue ts) (f g LValue ts) (λ x. from_by e g (Some x.0) x.1 (less_at x.1)) (λ x. from_by f g (Some x.0) x.1 (less_at x.1)) (h g LValue ts) (λ x. from_below e f h g (Some x.0) x.1 (less_at x.1))
into_below e f h g ts false = from_below e f h g None ts (less_at ts)

first_below : (e f : Reader) → AreBelow e f → (g : Bool) (m : Mode) (ts : List Token) → Below (first_at e g m ts) (first_at f g m ts)
first_below e f h g m (Name n ∷ ts) = indexed_below e f h n ts (index_at ts)
first_below e f h g m (FuncName n ∷ ts) = call_below e f h n (open_at ts)
first_below e f h g m (Word n ∷ ts) = applied_below e f h n ts (open_at ts)
first_below e f h g m (GetlineWord ∷ ts) = into_below e f h g ts (is_start (class_at ts))
first_below e f h g m (Dollar ∷ ts) = then_below (e g InField ts) (f g InField ts) (λ x. Ok (Field x.0, x.1)) (h g InField ts)
first_below e f h g m (Open ∷ ts) = bind_below (e true Whole ts) (f true Whole ts) (λ x. paren_by e x.0 x.1 (comma_at x.1)) (λ x. paren_by f x.0 x.1 (comma_at x.1)) (h true Whole ts) (λ x. paren_below e f h x.0 x.1 (comma_at x.1))
first_below e f h g m (SignMark s ∷ ts) = then_below (e g (under m) ts) (f g (under m) ts) (λ x. Ok (Unary (Signed s) x.0, x.1)) (h g (under m) ts)
first_below e f h g m (NotMark ∷ ts) = then_below (e g (under m) ts) (f g (under m) ts) (λ x. Ok (Unary Not x.0, x.1)) (h g (under m) ts)
first_below e f h g m (StepMark s ∷ ts) = then_below (e g LValue ts) (f g LValue ts) (λ x. Ok (Pre s x.0, x.1)) (h g LValue ts)
first_below e f h g m _ = inr refl

checked_below : (m n : ℕ) (go ho : Tree → List Token → Read) → m ≤ n → ((t : Tree) (ts : List Token) → Below (go t ts) (ho t ts)) → (x : Tree × List Token) → Below (checked m go x) (checked n ho x)
checked_below m n go ho le h x = elim (cases_Bool (ltb m (depth x.0))) [
  | inl e ↦ rw e (inl refl)
  | inr e ↦ let q : ltb n (depth x.0) ≡ false = le-ltb n (depth x.0) (omega (arith, ltb-false m (depth x.0) e, le)) in rw (e, q) (h x.0 x.1)
]

after_below : (e f : Reader) → AreBelow e f → (g : Bool) (t : Tree) (o : Link) (ts : List Token) → Below (after e g t o ts) (after f g t o ts)
after_below e f h g t (Joined op) ts = then_below (e g (op_right op) ts) (f g (op_right op) ts) (λ x. Ok (Bin op t x.0, x.1)) (h g (op_right op) ts)
after_below e f h g t Within ts = inr refl
after_below e f h g t Chosen ts = bind_below (e g Whole ts) (f g Whole ts) (λ x. colon_at x.1 >>= λ us. e g Whole us >>= λ y. Ok (Cond t x.0 y.0, y.1)) (λ x. colon_at x.1 >>= λ us. f g Whole us >>= λ y. Ok (Cond t x.0 y.0, y.1)) (h g Whole ts) (λ x. bind_below (colon_at x.1) (colon_at x.1) (λ us. e g Whole us >>= λ y. Ok (Cond t x.0 y.0, y.1)) (λ us. f g Whole us >>= λ y. Ok (Cond t x.0 y.0, y.1)) (inr refl) (λ us. then_below (e g Whole us) (f g Whole us) (λ y. Ok (Cond t x.0 y.0, y.1)) (h g Whole us)))

climb_below : (e f : Reader) → AreBelow e f → (g : Bool) (m n w l : ℕ) → m ≤ n → (t : Tree) (ts : List Token) → Below (climb e g m w l t ts) (climb f g n w l t ts)
climb_below e f h g m n zero l le t ts = inr refl
climb_below e f h g m n (suc w) l le t ts = by (link_at g ts) (climb_below e f h g m n w l le)
  where
    by : (o : Option (Link × List Token)) → ((u : Tree) (us : List Token) → Below (climb e g m w l u us) (climb f g n w l u us)) → Below (goes_on e g m l t ts (climb e g m w l) o) (goes_on f g n l t ts (climb f g n w l) o)
    by None k = inr refl
    by (Some o) k = elim (cases_Bool (stops l t ts o.0)) [
      | inl q ↦ rw q (inr refl)
      | inr q ↦ rw q (bind_below (after e g t o.0 o.1) (after f g t o.0 o.1) (checked m (climb e g m w l)) (checked n (climb f g n w l)) (after_below e f h g t o.0 o.1) (checked_below m n (climb e g m w l) (climb f g n w l) le k))
    ]

pub expr_below : (c d : ℕ) → c ≤ d → AreBelow (expr_at c) (expr_at d)
unfolding expr_at
expr_below zero d le g m ts = inl refl
expr_below (suc c) zero le g m ts = absurd (omega arith)
expr_below (suc c) (suc d) le g m ts =
    let h = expr_below c d (omega arith) in
    bind_below (first_at (expr_at c) g m ts) (first_at (expr_at d) g m ts) (λ x. fitting m (posted m x) >>= checked (suc c) (λ t us. climb (expr_at c) g (suc c) (length us) (floor m) t us)) (λ x. fitting m (posted m x) >>= checked (suc d) (λ t us. climb (expr_at d) g (suc d) (length us) (floor m) t us)) (first_below (expr_at c) (expr_at d) h g m ts) (λ x. bind_below (fitting m (posted m x)) (fitting m (posted m x)) (checked (suc c) (λ t us. climb (expr_at c) g (suc c) (length us) (floor m) t us)) (checked (suc d) (λ t us. climb (expr_at d) g (suc d) (length us) (floor m) t us)) (inr refl) (checked_below (suc c) (suc d) (λ t us. climb (expr_at c) g (suc c) (length us) (floor m) t us) (λ t us. climb (expr_at d) g (suc d) (length us) (floor m) t us) le (λ t us. climb_below (expr_at c) (expr_at d) h g (suc c) (suc d) (length us) (floor m) le t us)))
