-- What is read is well formed, and printed so.
use Rattle.std.proofs.Common.{◌≡◌, ℕ, zero, suc, ◌<◌, ◌≤◌, Bool, true, false, cond, ltb, ◌&&◌, ◌||◌, List, [], ◌∷◌, ◌++◌, length, Option, Some, None, Result, Ok, Err, refl, sym, ap, subst, ◌∙◌, append_assoc, arith}
use Rattle.std.proofs.lemmas.Bool.{ltb-false, le-leb, or_parts}
use Rattle.awk_grammar.specs.Token.{Not, Signed, Step, Less, Symbol, Assign, Or, And, Match, Compare, Mul, Pow, Token, Lit, Name, FuncName, Word, GetlineWord, InWord, Dollar, Open, Close, OpenBracket, CloseBracket, Comma, Question, Colon, SignMark, NotMark, StepMark, Infix}
use Rattle.awk_grammar.specs.Reading.{Fault, Syntax, TooDeep, ◌>>=◌, Read, ReadMany, Reader, close_at, bracket_at, colon_at, in_at, name_at, comma_at, open_at, index_at, less_at, step_at, Link, Joined, Within, Chosen, link_level, link_left, link_at, more_by, more_at, list_at, arguments_at, indexed_by, call_by, bare, suited, applied_by, paren_by, getting, from_by, into_by, under, first_at, posted_by, posted, checked, after, stops, goes_on, climb, fitting, expr_at}
use Rattle.awk_tokens.specs.declared.reserved_words.Builtin.{Builtin}
use Rattle.awk_tokens.specs.declared.reserved_words.Builtin.TheVariants.{Length as LengthOf}
use Rattle.awk_grammar.specs.Tree.{op_tokens, print, print_list, print_more, op_level, op_right, symbol_level, Mode, Whole, AfterOr, AfterAnd, AfterMatch, AfterCompare, AfterJoin, AfterAdd, Factor, Plain, LValue, InField, floor, normal, level, is_field, fits, edge, class_at, is_start, takes, StartsOperand, MayJoin, allowed, op_allowed, suits, IsSome, IsWellFormed, AreWellFormed}
use Rattle.awk_grammar.specs.Trees.{Op, Join, Add, Other, Tree, Leaf, Length, Var, Index, Field, Group, Call, Apply, Unary, Pre, Post, Bin, Has, HasList, Cond, Get, GetInto, GetFrom, GetIntoFrom, Trees, NoTree, Then, prefix_token, depth, depths}

pub bind_ok : {A B : Type 0} (r : Result A Fault) (f : A → Result B Fault) (y : B) → (r >>= f) ≡ Ok y → (x : A) × (r ≡ Ok x) × (f x ≡ Ok y)
bind_ok (Ok x) f y e = (x, refl, e)
bind_ok (Err d) f y e = absurd cc

pub guard_ok : {A : Type 0} (b : Bool) (d : Fault) (r : Result A Fault) (y : A) → cond b (Err d) r ≡ Ok y → (b ≡ false) × (r ≡ Ok y)
guard_ok true d r y e = absurd cc
guard_ok false d r y e = (refl, e)

pub allow_ok : {A : Type 0} (b : Bool) (d : Fault) (r : Result A Fault) (y : A) → cond b r (Err d) ≡ Ok y → (b ≡ true) × (r ≡ Ok y)
allow_ok false d r y e = absurd cc
allow_ok true d r y e = (refl, e)

-- a well formed tree that fits, and that the tokens spell up to a rest
pub record Spells (d : ℕ) (g : Bool) (m : Mode) (ts : List Token) (x : Tree × List Token) : Type 0 where
  pub parts : ts ≡ print x.0 ++ x.1
  pub fine : IsWellFormed g x.0
  pub tight : fits m x.0 ≡ true
  pub small : depth x.0 ≤ d

-- the same, whatever its mode and depth
pub record Starts (g : Bool) (ts : List Token) (x : Tree × List Token) : Type 0 where
  pub parts : ts ≡ print x.0 ++ x.1
  pub fine : IsWellFormed g x.0

pub record SpellsMany (d : ℕ) (g : Bool) (printed : Trees → List Token) (ts : List Token) (x : Trees × List Token) : Type 0 where
  pub parts : ts ≡ printed x.0 ++ x.1
  pub fine : AreWellFormed g x.0
  pub small : depths x.0 ≤ d

abbrev pub IsSound : ℕ → Reader → Type 0
IsSound d expr = (g : Bool) (m : Mode) (ts : List Token) (x : Tree × List Token) → expr g m ts ≡ Ok x → Spells d g m ts x

abbrev pub IsOk : {A : Type 0} → A → Result A Fault
IsOk x = Ok x

pub ok_is : {A : Type 0} (x y : A) → IsOk x ≡ IsOk y → x ≡ y
ok_is x y e = cc

abbrev pub cons : Token → List Token → List Token
cons k ts = k ∷ ts

-- ---- single tokens

pub close_ok : (ts us : List Token) → close_at ts ≡ Ok us → ts ≡ Close ∷ us
close_ok (Close ∷ ts) us e = ap (cons Close) (ok_is ts us e)
close_ok _ us e = absurd cc

pub bracket_ok : (ts us : List Token) → bracket_at ts ≡ Ok us → ts ≡ CloseBracket ∷ us
bracket_ok (CloseBracket ∷ ts) us e = ap (cons CloseBracket) (ok_is ts us e)
bracket_ok _ us e = absurd cc

colon_ok : (ts us : List Token) → colon_at ts ≡ Ok us → ts ≡ Colon ∷ us
colon_ok (Colon ∷ ts) us e = ap (cons Colon) (ok_is ts us e)
colon_ok _ us e = absurd cc

in_ok : (ts us : List Token) → in_at ts ≡ Ok us → ts ≡ InWord ∷ us
in_ok (InWord ∷ ts) us e = ap (cons InWord) (ok_is ts us e)
in_ok _ us e = absurd cc

pub name_ok : (ts : List Token) (x : List ℕ × List Token) → name_at ts ≡ Ok x → ts ≡ Name x.0 ∷ x.1
name_ok (Name n ∷ ts) x e = ap (λ (y : List ℕ × List Token). Name y.0 ∷ y.1) (ok_is (n, ts) x e)
name_ok _ x e = absurd cc

abbrev pub IsThat : {A : Type 0} → A → Option A
IsThat x = Some x

pub that_is : {A : Type 0} (x y : A) → IsThat x ≡ IsThat y → x ≡ y
that_is x y e = cc

pub comma_ok : (ts us : List Token) → comma_at ts ≡ Some us → ts ≡ Comma ∷ us
comma_ok (Comma ∷ ts) us e = ap (cons Comma) (that_is ts us e)
comma_ok _ us e = absurd cc

open_ok : (ts us : List Token) → open_at ts ≡ Some us → ts ≡ Open ∷ us
open_ok (Open ∷ ts) us e = ap (cons Open) (that_is ts us e)
open_ok _ us e = absurd cc

index_ok : (ts us : List Token) → index_at ts ≡ Some us → ts ≡ OpenBracket ∷ us
index_ok (OpenBracket ∷ ts) us e = ap (cons OpenBracket) (that_is ts us e)
index_ok _ us e = absurd cc

less_ok : (ts us : List Token) → less_at ts ≡ Some us → ts ≡ Infix (Compare Less) ∷ us
less_ok (Infix (Compare Less) ∷ ts) us e = ap (cons (Infix (Compare Less))) (that_is ts us e)
less_ok _ us e = absurd cc

step_ok : (ts : List Token) (x : Step × List Token) → step_at ts ≡ Some x → ts ≡ StepMark x.0 ∷ x.1
step_ok (StepMark s ∷ ts) x e = ap (λ (y : Step × List Token). StepMark y.0 ∷ y.1) (that_is (s, ts) x e)
step_ok _ x e = absurd cc

-- ---- lists

more_sound : (d : ℕ) (expr : Reader) → IsSound d expr → (g : Bool) (w : ℕ) (ts : List Token) (x : Trees × List Token) → more_at expr g w ts ≡ Ok x → SpellsMany d g print_more ts x
more_sound d expr h g zero ts x e = subst (SpellsMany d g print_more ts) (ok_is (NoTree, ts) x e) (record { parts = refl; fine = tt; small = omega arith })
more_sound d expr h g (suc w) ts x e = by (more_sound d expr h g w) (comma_at ts) refl e
  where
    by : ((us : List Token) (y : Trees × List Token) → more_at expr g w us ≡ Ok y → SpellsMany d g print_more us y) → (o : Option (List Token)) → comma_at ts ≡ o → more_by expr g (more_at expr g w) ts o ≡ Ok x → SpellsMany d g print_more ts x
    by k None at e = subst (SpellsMany d g print_more ts) (ok_is (NoTree, ts) x e) (record { parts = refl; fine = tt; small = omega arith })
    by k (Some us) at e =
        let a = bind_ok (expr g Whole us) (λ a. more_at expr g w a.1 >>= λ y. Ok (Then a.0 y.0, y.1)) x e in
        let b = bind_ok (more_at expr g w a.0.1) (λ y. Ok (Then a.0.0 y.0, y.1)) x a.2 in
        let s = h g Whole us a.0 a.1 in
        let m = k a.0.1 b.0 b.1 in
        let p : ts ≡ (Comma ∷ (print a.0.0 ++ print_more b.0.0)) ++ b.0.1 = comma_ok ts us at ∙ ap (cons Comma) (s.parts ∙ ap (λ (u : List Token). print a.0.0 ++ u) m.parts ∙ sym (append_assoc (print a.0.0) (print_more b.0.0) b.0.1)) in
        subst (SpellsMany d g print_more ts) (ok_is (Then a.0.0 b.0.0, b.0.1) x b.2) (record { parts = p; fine = (s.fine, m.fine); small = omega arith })

-- a list of at least one
pub record SpellsSome (d : ℕ) (g : Bool) (ts : List Token) (x : Trees × List Token) : Type 0 where
  pub parts : ts ≡ print_list x.0 ++ x.1
  pub fine : AreWellFormed g x.0
  pub some : IsSome x.0
  pub small : depths x.0 ≤ d

pub list_sound : (d : ℕ) (expr : Reader) → IsSound d expr → (g : Bool) (ts : List Token) (x : Trees × List Token) → list_at expr g ts ≡ Ok x → SpellsSome d g ts x
list_sound d expr h g ts x e =
    let a = bind_ok (expr g Whole ts) (λ a. more_at expr g (length a.1) a.1 >>= λ y. Ok (Then a.0 y.0, y.1)) x e in
    let b = bind_ok (more_at expr g (length a.0.1) a.0.1) (λ y. Ok (Then a.0.0 y.0, y.1)) x a.2 in
    let s = h g Whole ts a.0 a.1 in
    let m = more_sound d expr h g (length a.0.1) a.0.1 b.0 b.1 in
    let p : ts ≡ (print a.0.0 ++ print_more b.0.0) ++ b.0.1 = s.parts ∙ ap (λ (u : List Token). print a.0.0 ++ u) m.parts ∙ sym (append_assoc (print a.0.0) (print_more b.0.0) b.0.1) in
    subst (SpellsSome d g ts) (ok_is (Then a.0.0 b.0.0, b.0.1) x b.2) (record { parts = p; fine = (s.fine, m.fine); some = tt; small = omega arith })

abbrev print_closed : Trees → List Token
print_closed ts = print_list ts ++ (Close ∷ [])

abbrev pub closing : Reader → List Token → ReadMany
closing expr ts = list_at expr true ts >>= λ x. close_at x.1 >>= λ us. Ok (x.0, us)

closing_sound : (d : ℕ) (expr : Reader) → IsSound d expr → (ts : List Token) (x : Trees × List Token) → closing expr ts ≡ Ok x → SpellsMany d true print_closed ts x
closing_sound d expr h ts x e =
    let a = bind_ok (list_at expr true ts) (λ a. close_at a.1 >>= λ us. Ok (a.0, us)) x e in
    let b = bind_ok (close_at a.0.1) (λ us. Ok (a.0.0, us)) x a.2 in
    let s = list_sound d expr h true ts a.0 a.1 in
    let p : ts ≡ (print_list a.0.0 ++ (Close ∷ [])) ++ b.0 = s.parts ∙ ap (λ (u : List Token). print_list a.0.0 ++ u) (close_ok a.0.1 b.0 b.1) ∙ sym (append_assoc (print_list a.0.0) (Close ∷ []) b.0) in
    subst (SpellsMany d true print_closed ts) (ok_is (a.0.0, b.0) x b.2) (record { parts = p; fine = s.fine; small = omega arith })

arguments_sound : (d : ℕ) (expr : Reader) → IsSound d expr → (ts : List Token) (x : Trees × List Token) → arguments_at expr ts ≡ Ok x → SpellsMany d true print_closed ts x
arguments_sound d expr h (Close ∷ ts) x e = subst (SpellsMany d true print_closed (Close ∷ ts)) (ok_is (NoTree, ts) x e) (record { parts = refl; fine = tt; small = omega arith })
arguments_sound d expr h ts x e = closing_sound d expr h ts x e

-- ---- operands

field_tight : (t : Tree) → is_field t ≡ true → fits Factor t ≡ true
field_tight (Unary p t) e = refl
field_tight (Pre s t) e = refl
field_tight (Post s t) e = refl
field_tight (Bin op a b) e = absurd (bad op e)
  where
    bad : (op : Op) → is_field (Bin op a b) ≡ true → ⊥
    bad Join e = cc
    bad (Add s) e = cc
    bad (Other (Assign s)) e = cc
    bad (Other Or) e = cc
    bad (Other And) e = cc
    bad (Other (Match s)) e = cc
    bad (Other (Compare s)) e = cc
    bad (Other (Mul s)) e = cc
    bad (Other Pow) e = cc
field_tight (Has a n) e = absurd cc
field_tight (HasList t ts n) e = absurd cc
field_tight (Cond a b c) e = absurd cc
field_tight _ e = refl

under_tight : (m : Mode) (t : Tree) → fits (under m) t ≡ true → fits Factor t ≡ true
under_tight InField t e = field_tight t e
under_tight _ t e = e

indexed_sound : (d : ℕ) (expr : Reader) → IsSound d expr → (g : Bool) (n : List ℕ) (ts : List Token) (x : Tree × List Token) (o : Option (List Token)) → index_at ts ≡ o → indexed_by expr n ts o ≡ Ok x → Starts g (Name n ∷ ts) x
indexed_sound d expr h g n ts x None at e = subst (Starts g (Name n ∷ ts)) (ok_is (Var n, ts) x e) (record { parts = refl; fine = tt })
indexed_sound d expr h g n ts x (Some us) at e =
    let a = bind_ok (list_at expr true us) (λ a. bracket_at a.1 >>= λ vs. Ok (Index n a.0, vs)) x e in
    let b = bind_ok (bracket_at a.0.1) (λ vs. Ok (Index n a.0.0, vs)) x a.2 in
    let s = list_sound d expr h true us a.0 a.1 in
    let p : us ≡ (print_list a.0.0 ++ (CloseBracket ∷ [])) ++ b.0 = s.parts ∙ ap (λ (u : List Token). print_list a.0.0 ++ u) (bracket_ok a.0.1 b.0 b.1) ∙ sym (append_assoc (print_list a.0.0) (CloseBracket ∷ []) b.0) in
    let q : Name n ∷ ts ≡ print (Index n a.0.0) ++ b.0 = ap (cons (Name n)) (index_ok ts us at ∙ ap (cons OpenBracket) p) in
    subst (Starts g (Name n ∷ ts)) (ok_is (Index n a.0.0, b.0) x b.2) (record { parts = q; fine = (s.fine, s.some) })

call_sound : (d : ℕ) (expr : Reader) → IsSound d expr → (g : Bool) (f : List ℕ) (ts : List Token) (x : Tree × List Token) (o : Option (List Token)) → open_at ts ≡ o → call_by expr f o ≡ Ok x → Starts g (FuncName f ∷ ts) x
call_sound d expr h g f ts x None at e = absurd cc
call_sound d expr h g f ts x (Some us) at e =
    let a = bind_ok (arguments_at expr us) (λ a. Ok (Call f a.0, a.1)) x e in
    let s = arguments_sound d expr h us a.0 a.1 in
    let q : FuncName f ∷ ts ≡ print (Call f a.0.0) ++ a.0.1 = ap (cons (FuncName f)) (open_ok ts us at ∙ ap (cons Open) s.parts) in
    subst (Starts g (FuncName f ∷ ts)) (ok_is (Call f a.0.0, a.0.1) x a.2) (record { parts = q; fine = s.fine })

bare_sound : (g : Bool) (f : Builtin) (ts : List Token) (x : Tree × List Token) → bare f ts ≡ Ok x → Starts g (Word f ∷ ts) x
bare_sound g LengthOf ts x e = subst (Starts g (Word LengthOf ∷ ts)) (ok_is (Length, ts) x e) (record { parts = refl; fine = tt })
bare_sound g _ ts x e = absurd cc

applied_sound : (d : ℕ) (expr : Reader) → IsSound d expr → (g : Bool) (f : Builtin) (ts : List Token) (x : Tree × List Token) (o : Option (List Token)) → open_at ts ≡ o → applied_by expr f ts o ≡ Ok x → Starts g (Word f ∷ ts) x
applied_sound d expr h g f ts x None at e = bare_sound g f ts x e
applied_sound d expr h g f ts x (Some us) at e =
    let a = bind_ok (arguments_at expr us) (suited f) x e in
    let s = arguments_sound d expr h us a.0 a.1 in
    let b = allow_ok (suits f a.0.0) Syntax (Ok (Apply f a.0.0, a.0.1)) x a.2 in
    let q : Word f ∷ ts ≡ print (Apply f a.0.0) ++ a.0.1 = ap (cons (Word f)) (open_ok ts us at ∙ ap (cons Open) s.parts) in
    subst (Starts g (Word f ∷ ts)) (ok_is (Apply f a.0.0, a.0.1) x b.1) (record { parts = q; fine = (s.fine, b.0) })

pub regroup2 : (a c r : List Token) → a ++ (c ++ r) ≡ (a ++ c) ++ r
regroup2 a c r = simp append_assoc

paren_sound : (d : ℕ) (expr : Reader) → IsSound d expr → (g : Bool) (t : Tree) (ts : List Token) (x : Tree × List Token) → IsWellFormed true t → (o : Option (List Token)) → comma_at ts ≡ o → paren_by expr t ts o ≡ Ok x → Starts g (Open ∷ (print t ++ ts)) x
paren_sound d expr h g t ts x f None at e =
    let a = bind_ok (close_at ts) (λ us. Ok (Group t, us)) x e in
    let q : Open ∷ (print t ++ ts) ≡ print (Group t) ++ a.0 = ap (cons Open) (ap (λ (u : List Token). print t ++ u) (close_ok ts a.0 a.1) ∙ regroup2 (print t) (Close ∷ []) a.0) in
    subst (Starts g (Open ∷ (print t ++ ts))) (ok_is (Group t, a.0) x a.2) (record { parts = q; fine = f })
paren_sound d expr h g t ts x f (Some us) at e =
    let a = bind_ok (list_at expr true us) (λ a. close_at a.1 >>= λ vs. in_at vs >>= λ ws. name_at ws >>= λ n. Ok (HasList t a.0 n.0, n.1)) x e in
    let b = bind_ok (close_at a.0.1) (λ vs. in_at vs >>= λ ws. name_at ws >>= λ n. Ok (HasList t a.0.0 n.0, n.1)) x a.2 in
    let c = bind_ok (in_at b.0) (λ ws. name_at ws >>= λ n. Ok (HasList t a.0.0 n.0, n.1)) x b.2 in
    let n = bind_ok (name_at c.0) (λ n. Ok (HasList t a.0.0 n.0, n.1)) x c.2 in
    let s = list_sound d expr h true us a.0 a.1 in
    let r : a.0.1 ≡ Close ∷ (InWord ∷ (Name n.0.0 ∷ n.0.1)) = close_ok a.0.1 b.0 b.1 ∙ ap (cons Close) (in_ok b.0 c.0 c.1 ∙ ap (cons InWord) (name_ok c.0 n.0 n.1)) in
    let p : ts ≡ (Comma ∷ (print_list a.0.0 ++ (Close ∷ (InWord ∷ (Name n.0.0 ∷ []))))) ++ n.0.1 = comma_ok ts us at ∙ ap (cons Comma) (s.parts ∙ ap (λ (u : List Token). print_list a.0.0 ++ u) r ∙ regroup2 (print_list a.0.0) (Close ∷ (InWord ∷ (Name n.0.0 ∷ []))) n.0.1) in
    let q : Open ∷ (print t ++ ts) ≡ print (HasList t a.0.0 n.0.0) ++ n.0.1 = ap (cons Open) (ap (λ (u : List Token). print t ++ u) p ∙ regroup2 (print t) (Comma ∷ (print_list a.0.0 ++ (Close ∷ (InWord ∷ (Name n.0.0 ∷ []))))) n.0.1) in
    subst (Starts g (Open ∷ (print t ++ ts))) (ok_is (HasList t a.0.0 n.0.0, n.0.1) x n.2) (record { parts = q; fine = (f, s.fine, s.some) })

-- what a getline reads into
abbrev print_into : Option Tree → List Token
print_into None = []
print_into (Some v) = print v

abbrev IsInto : Bool → Option Tree → Type 0
IsInto g None = Unit {0}
IsInto g (Some v) = IsWellFormed g v × (fits LValue v ≡ true)

getting_bare : (g : Bool) (v : Option Tree) (ts : List Token) → IsInto g v → Starts g (GetlineWord ∷ (print_into v ++ ts)) (getting v None, ts)
getting_bare g None ts f = record { parts = refl; fine = tt }
getting_bare g (Some v) ts f = record { parts = refl; fine = f }

getting_from : (g : Bool) (v : Option Tree) (s : Tree) (us : List Token) → IsInto g v → IsWellFormed g s → fits Plain s ≡ true → Starts g (GetlineWord ∷ (print_into v ++ (Infix (Compare Less) ∷ (print s ++ us)))) (getting v (Some s), us)
getting_from g None s us f w t = record { parts = refl; fine = (w, t) }
getting_from g (Some v) s us f w t = record { parts = ap (cons GetlineWord) (regroup2 (print v) (Infix (Compare Less) ∷ print s) us); fine = (f.0, f.1, w, t) }

from_sound : (d : ℕ) (expr : Reader) → IsSound d expr → (g : Bool) (v : Option Tree) (ts : List Token) (x : Tree × List Token) → IsInto g v → (o : Option (List Token)) → less_at ts ≡ o → from_by expr g v ts o ≡ Ok x → Starts g (GetlineWord ∷ (print_into v ++ ts)) x
from_sound d expr h g v ts x f None at e = subst (Starts g (GetlineWord ∷ (print_into v ++ ts))) (ok_is (getting v None, ts) x e) (getting_bare g v ts f)
from_sound d expr h g v ts x f (Some us) at e =
    let a = bind_ok (expr g Plain us) (λ a. Ok (getting v (Some a.0), a.1)) x e in
    let s = h g Plain us a.0 a.1 in
    let q : ts ≡ Infix (Compare Less) ∷ (print a.0.0 ++ a.0.1) = less_ok ts us at ∙ ap (cons (Infix (Compare Less))) s.parts in
    subst (Starts g (GetlineWord ∷ (print_into v ++ ts))) (ok_is (getting v (Some a.0.0), a.0.1) x a.2) (subst (λ (u : List Token). Starts g (GetlineWord ∷ (print_into v ++ u)) (getting v (Some a.0.0), a.0.1)) (sym q) (getting_from g v a.0.0 a.0.1 f s.fine s.tight))

into_sound : (d : ℕ) (expr : Reader) → IsSound d expr → (g : Bool) (ts : List Token) (x : Tree × List Token) (b : Bool) → into_by expr g ts b ≡ Ok x → Starts g (GetlineWord ∷ ts) x
into_sound d expr h g ts x true e =
    let a = bind_ok (expr g LValue ts) (λ a. from_by expr g (Some a.0) a.1 (less_at a.1)) x e in
    let s = h g LValue ts a.0 a.1 in
    subst (λ (u : List Token). Starts g (GetlineWord ∷ u) x) (sym s.parts) (from_sound d expr h g (Some a.0.0) a.0.1 x (s.fine, s.tight) (less_at a.0.1) refl a.2)
into_sound d expr h g ts x false e = from_sound d expr h g None ts x tt (less_at ts) refl e

first_sound : (d : ℕ) (expr : Reader) → IsSound d expr → (g : Bool) (m : Mode) (ts : List Token) (x : Tree × List Token) → first_at expr g m ts ≡ Ok x → Starts g ts x
first_sound d expr h g m (Lit c ∷ ts) x e = subst (Starts g (Lit c ∷ ts)) (ok_is (Leaf c, ts) x e) (record { parts = refl; fine = tt })
first_sound d expr h g m (Name n ∷ ts) x e = indexed_sound d expr h g n ts x (index_at ts) refl e
first_sound d expr h g m (FuncName f ∷ ts) x e = call_sound d expr h g f ts x (open_at ts) refl e
first_sound d expr h g m (Word f ∷ ts) x e = applied_sound d expr h g f ts x (open_at ts) refl e
first_sound d expr h g m (GetlineWord ∷ ts) x e = into_sound d expr h g ts x (is_start (class_at ts)) e
first_sound d expr h g m (Dollar ∷ ts) x e =
    let a = bind_ok (expr g InField ts) (λ a. Ok (Field a.0, a.1)) x e in
    let s = h g InField ts a.0 a.1 in
    subst (Starts g (Dollar ∷ ts)) (ok_is (Field a.0.0, a.0.1) x a.2) (record { parts = ap (cons Dollar) s.parts; fine = (s.fine, s.tight) })
first_sound d expr h g m (Open ∷ ts) x e =
    let a = bind_ok (expr true Whole ts) (λ a. paren_by expr a.0 a.1 (comma_at a.1)) x e in
    let s = h true Whole ts a.0 a.1 in
    subst (λ (u : List Token). Starts g (Open ∷ u) x) (sym s.parts) (paren_sound d expr h g a.0.0 a.0.1 x s.fine (comma_at a.0.1) refl a.2)
first_sound d expr h g m (SignMark p ∷ ts) x e =
    let a = bind_ok (expr g (under m) ts) (λ a. Ok (Unary (Signed p) a.0, a.1)) x e in
    let s = h g (under m) ts a.0 a.1 in
    subst (Starts g (SignMark p ∷ ts)) (ok_is (Unary (Signed p) a.0.0, a.0.1) x a.2) (record { parts = ap (cons (SignMark p)) s.parts; fine = (s.fine, under_tight m a.0.0 s.tight) })
first_sound d expr h g m (NotMark ∷ ts) x e =
    let a = bind_ok (expr g (under m) ts) (λ a. Ok (Unary Not a.0, a.1)) x e in
    let s = h g (under m) ts a.0 a.1 in
    subst (Starts g (NotMark ∷ ts)) (ok_is (Unary Not a.0.0, a.0.1) x a.2) (record { parts = ap (cons NotMark) s.parts; fine = (s.fine, under_tight m a.0.0 s.tight) })
first_sound d expr h g m (StepMark p ∷ ts) x e =
    let a = bind_ok (expr g LValue ts) (λ a. Ok (Pre p a.0, a.1)) x e in
    let s = h g LValue ts a.0 a.1 in
    subst (Starts g (StepMark p ∷ ts)) (ok_is (Pre p a.0.0, a.0.1) x a.2) (record { parts = ap (cons (StepMark p)) s.parts; fine = (s.fine, s.tight) })
first_sound d expr h g m _ x e = absurd cc

both_true : (a b : Bool) → (a && b) ≡ true → (a ≡ true) × (b ≡ true)
both_true true true e = (refl, refl)
both_true true false e = absurd cc
both_true false b e = absurd cc

-- a step keeps the tokens and adds a well formed tree
posted_sound : (g : Bool) (m : Mode) (ts : List Token) (x : Tree × List Token) → Starts g ts x → Starts g ts (posted m x)
posted_sound g m ts x s = by (normal m && fits LValue x.0) refl (step_at x.1) refl
  where
    by : (b : Bool) → (normal m && fits LValue x.0) ≡ b → (o : Option (Step × List Token)) → step_at x.1 ≡ o → Starts g ts (posted_by b x.0 x.1 o)
    by false is o at = record { parts = s.parts; fine = s.fine }
    by true is None at = record { parts = s.parts; fine = s.fine }
    by true is (Some y) at = record { parts = s.parts ∙ ap (λ (u : List Token). print x.0 ++ u) (step_ok x.1 y at) ∙ regroup2 (print x.0) (StepMark y.0 ∷ []) y.1; fine = (s.fine, (both_true (normal m) (fits LValue x.0) is).1) }

-- ---- chains of operators

abbrev link_tokens : Op → List Token → List Token
link_tokens op ts = op_tokens op ++ ts

if_that : {A : Type 0} (b : Bool) (x y : A) → cond b (Some x) None ≡ Some y → (b ≡ true) × (x ≡ y)
if_that true x y e = (refl, that_is x y e)
if_that false x y e = absurd cc

-- from a tree and what follows to a larger tree and what follows that
pub record Goes (d : ℕ) (g : Bool) (m : Mode) (t : Tree) (ts : List Token) (x : Tree × List Token) : Type 0 where
  pub parts : print t ++ ts ≡ print x.0 ++ x.1
  pub fine : IsWellFormed g x.0
  pub tight : fits m x.0 ≡ true
  pub small : depth x.0 ≤ d

abbrev IsSoundFrom : ℕ → Bool → Mode → (Tree → List Token → Read) → Type 0
IsSoundFrom d g m go = (t : Tree) (ts : List Token) (x : Tree × List Token) → IsWellFormed g t → fits m t ≡ true → depth t ≤ d → go t ts ≡ Ok x → Goes d g m t ts x

stays : (d : ℕ) (g : Bool) (m : Mode) (t : Tree) (ts : List Token) (x : Tree × List Token) → IsWellFormed g t → fits m t ≡ true → depth t ≤ d → IsOk (t, ts) ≡ Ok x → Goes d g m t ts x
stays d g m t ts x f h s e = subst (Goes d g m t ts) (ok_is (t, ts) x e) (record { parts = refl; fine = f; tight = h; small = s })

pub heads : (t : Tree) → (k : Token) × (u : List Token) × (print t ≡ k ∷ u)
heads (Leaf c) = (Lit c, [], refl)
heads Length = (Word LengthOf, [], refl)
heads (Var n) = (Name n, [], refl)
heads (Index n ts) = (Name n, OpenBracket ∷ (print_list ts ++ (CloseBracket ∷ [])), refl)
heads (Field t) = (Dollar, print t, refl)
heads (Group t) = (Open, print t ++ (Close ∷ []), refl)
heads (Call f ts) = (FuncName f, Open ∷ (print_list ts ++ (Close ∷ [])), refl)
heads (Apply f ts) = (Word f, Open ∷ (print_list ts ++ (Close ∷ [])), refl)
heads (Unary p t) = (prefix_token p, print t, refl)
heads (Pre s t) = (StepMark s, print t, refl)
heads (Post s t) = let h = heads t in (h.0, h.1 ++ (StepMark s ∷ []), ap (λ (u : List Token). u ++ (StepMark s ∷ [])) h.2)
heads (Bin op a b) = let h = heads a in (h.0, h.1 ++ (op_tokens op ++ print b), ap (λ (u : List Token). u ++ (op_tokens op ++ print b)) h.2)
heads (Has a n) = let h = heads a in (h.0, h.1 ++ (InWord ∷ (Name n ∷ [])), ap (λ (u : List Token). u ++ (InWord ∷ (Name n ∷ []))) h.2)
heads (HasList t ts n) = (Open, print t ++ (Comma ∷ (print_list ts ++ (Close ∷ (InWord ∷ (Name n ∷ []))))), refl)
heads (Cond a b c) = let h = heads a in (h.0, h.1 ++ (Question ∷ (print b ++ (Colon ∷ print c))), ap (λ (u : List Token). u ++ (Question ∷ (print b ++ (Colon ∷ print c)))) h.2)
heads Get = (GetlineWord, [], refl)
heads (GetInto v) = (GetlineWord, print v, refl)
heads (GetFrom s) = (GetlineWord, Infix (Compare Less) ∷ print s, refl)
heads (GetIntoFrom v s) = (GetlineWord, print v ++ (Infix (Compare Less) ∷ print s), refl)

pub class_head : (t : Tree) (r : List Token) → class_at (print t ++ r) ≡ class_at (print t)
class_head t r = let h = heads t in rw h.2 refl

pub class_op : (op : Op) (t : Tree) (r : List Token) → class_at (op_tokens op ++ (print t ++ r)) ≡ class_at (op_tokens op ++ print t)
class_op Join t r = class_head t r
class_op (Add s) t r = refl
class_op (Other s) t r = refl

-- what the front says of an operator between two trees
pub record Reached (g : Bool) (ts : List Token) (op : Op) (us : List Token) : Type 0 where
  pub parts : ts ≡ op_tokens op ++ us
  pub may : (op_allowed g op ≡ true)
  pub joins : (k : Token) (r u : List Token) → us ≡ k ∷ r → MayJoin op (k ∷ u)

abbrev LinkIs : Bool → List Token → Link × List Token → Type 0
LinkIs g ts (Joined op, us) = Reached g ts op us
LinkIs g ts (Within, us) = ts ≡ InWord ∷ us
LinkIs g ts (Chosen, us) = ts ≡ Question ∷ us

join_is : (g : Bool) (j : Token) (ts : List Token) → ((u : List Token) → StartsOperand (j ∷ u)) → Reached g (j ∷ ts) Join (j ∷ ts)
join_is g j ts h = record { parts = refl; may = refl; joins = λ k r u e. let m : j ≡ k = cc in subst (λ (i : Token). StartsOperand (i ∷ u)) m (h u) }

link_is : (g : Bool) (ts : List Token) (o : Link × List Token) → link_at g ts ≡ Some o → LinkIs g ts o
link_is g [] o e = absurd cc
link_is g (Lit c ∷ ts) o e = subst (LinkIs g (Lit c ∷ ts)) (that_is (Joined Join, Lit c ∷ ts) o e) (join_is g (Lit c) ts (λ u. tt))
link_is g (Name c ∷ ts) o e = subst (LinkIs g (Name c ∷ ts)) (that_is (Joined Join, Name c ∷ ts) o e) (join_is g (Name c) ts (λ u. tt))
link_is g (FuncName c ∷ ts) o e = subst (LinkIs g (FuncName c ∷ ts)) (that_is (Joined Join, FuncName c ∷ ts) o e) (join_is g (FuncName c) ts (λ u. tt))
link_is g (Word c ∷ ts) o e = subst (LinkIs g (Word c ∷ ts)) (that_is (Joined Join, Word c ∷ ts) o e) (join_is g (Word c) ts (λ u. tt))
link_is g (GetlineWord ∷ ts) o e = subst (LinkIs g (GetlineWord ∷ ts)) (that_is (Joined Join, GetlineWord ∷ ts) o e) (join_is g GetlineWord ts (λ u. tt))
link_is g (Dollar ∷ ts) o e = subst (LinkIs g (Dollar ∷ ts)) (that_is (Joined Join, Dollar ∷ ts) o e) (join_is g Dollar ts (λ u. tt))
link_is g (Open ∷ ts) o e = subst (LinkIs g (Open ∷ ts)) (that_is (Joined Join, Open ∷ ts) o e) (join_is g Open ts (λ u. tt))
link_is g (NotMark ∷ ts) o e = subst (LinkIs g (NotMark ∷ ts)) (that_is (Joined Join, NotMark ∷ ts) o e) (join_is g NotMark ts (λ u. tt))
link_is g (StepMark c ∷ ts) o e = subst (LinkIs g (StepMark c ∷ ts)) (that_is (Joined Join, StepMark c ∷ ts) o e) (join_is g (StepMark c) ts (λ u. tt))
link_is g (SignMark s ∷ ts) o e = subst (LinkIs g (SignMark s ∷ ts)) (that_is (Joined (Add s), ts) o e) (record { parts = refl; may = refl; joins = λ k r u e. tt })
link_is g (Infix s ∷ ts) o e =
    let p = if_that (allowed g s) (Joined (Other s), ts) o e in
    let r : Reached g (Infix s ∷ ts) (Other s) ts = record { parts = refl; may = p.0; joins = λ k r u e. tt } in
    subst (LinkIs g (Infix s ∷ ts)) p.1 r
link_is g (InWord ∷ ts) o e = subst (LinkIs g (InWord ∷ ts)) (that_is (Within, ts) o e) refl
link_is g (Question ∷ ts) o e = subst (LinkIs g (Question ∷ ts)) (that_is (Chosen, ts) o e) refl
link_is g _ o e = absurd cc

-- what fits by its level
fits_from : (m : Mode) (t u : Tree) → ltb (level u) (floor m) ≡ false → level u < 11 → fits m u ≡ true
fits_from Whole t u e h = le-leb 0 (level u) (omega arith)
fits_from AfterOr t u e h = le-leb 2 (level u) (ltb-false (level u) 2 e)
fits_from AfterAnd t u e h = le-leb 3 (level u) (ltb-false (level u) 3 e)
fits_from AfterMatch t u e h = le-leb 5 (level u) (ltb-false (level u) 5 e)
fits_from AfterCompare t u e h = le-leb 6 (level u) (ltb-false (level u) 6 e)
fits_from AfterJoin t u e h = le-leb 7 (level u) (ltb-false (level u) 7 e)
fits_from AfterAdd t u e h = le-leb 8 (level u) (ltb-false (level u) 8 e)
fits_from Factor t u e h = le-leb 9 (level u) (ltb-false (level u) 9 e)
fits_from Plain t u e h = le-leb 12 (level u) (ltb-false (level u) 12 e)
fits_from LValue t u e h = le-leb 13 (level u) (ltb-false (level u) 13 e)
fits_from InField t u e h = absurd (omega (arith, h, ltb-false (level u) 12 e))

pub symbol_loose : (s : Symbol) → symbol_level s < 11
symbol_loose (Assign a) = omega arith
symbol_loose Or = omega arith
symbol_loose And = omega arith
symbol_loose (Match a) = omega arith
symbol_loose (Compare a) = omega arith
symbol_loose (Mul a) = omega arith
symbol_loose Pow = omega arith

pub loose : (op : Op) → op_level op < 11
loose Join = omega arith
loose (Add s) = omega arith
loose (Other s) = symbol_loose s

-- a larger tree from an operator and what follows it
pub record Grows (g : Bool) (m : Mode) (t : Tree) (ts : List Token) (x : Tree × List Token) : Type 0 where
  pub parts : print t ++ ts ≡ print x.0 ++ x.1
  pub fine : IsWellFormed g x.0
  pub tight : fits m x.0 ≡ true

regroup : (a c b r : List Token) → a ++ (c ++ (b ++ r)) ≡ (a ++ (c ++ b)) ++ r
regroup a c b r = simp append_assoc

-- the tests before an operator is taken
pub record Passed (m : Mode) (t : Tree) (ts : List Token) (o : Link) : Type 0 where
  pub loose : ltb (link_level o) (floor m) ≡ false
  pub left : link_left o ≤ edge t
  pub free : takes true t (class_at ts) ≡ false

after_sound : (d : ℕ) (expr : Reader) → IsSound d expr → (g : Bool) (m : Mode) (t : Tree) (ts us : List Token) (x : Tree × List Token) → IsWellFormed g t → (o : Link) → LinkIs g ts (o, us) → Passed m t ts o → after expr g t o us ≡ Ok x → Grows g m t ts x
after_sound d expr h g m t ts us x f (Joined op) r p e =
    let a = bind_ok (expr g (op_right op) us) (λ a. Ok (Bin op t a.0, a.1)) x e in
    let s = h g (op_right op) us a.0 a.1 in
    let k = heads a.0.0 in
    let joined : MayJoin op (print a.0.0) = subst (λ (u : List Token). MayJoin op u) (sym k.2) (r.joins k.0 (k.1 ++ a.0.1) k.1 (s.parts ∙ ap (λ (u : List Token). u ++ a.0.1) k.2)) in
    let all : ts ≡ op_tokens op ++ (print a.0.0 ++ a.0.1) = r.parts ∙ ap (λ (u : List Token). op_tokens op ++ u) s.parts in
    let free : takes true t (class_at (op_tokens op ++ print a.0.0)) ≡ false = subst (λ c. takes true t c ≡ false) (ap class_at all ∙ class_op op a.0.0 a.0.1) p.free in
    let parts : print t ++ ts ≡ (print t ++ (op_tokens op ++ print a.0.0)) ++ a.0.1 = ap (λ (u : List Token). print t ++ u) all ∙ regroup (print t) (op_tokens op) (print a.0.0) a.0.1 in
    let tight : fits m (Bin op t a.0.0) ≡ true = fits_from m t (Bin op t a.0.0) p.loose (loose op) in
    subst (Grows g m t ts) (ok_is (Bin op t a.0.0, a.0.1) x a.2) (record { parts = parts; fine = (f, s.fine, p.left, s.tight, joined, free, r.may); tight = tight })
after_sound d expr h g m t ts us x f Within r p e =
    let n = bind_ok (name_at us) (λ n. Ok (Has t n.0, n.1)) x e in
    let q : print t ++ ts ≡ print (Has t n.0.0) ++ n.0.1 = ap (λ (u : List Token). print t ++ u) (r ∙ ap (cons InWord) (name_ok us n.0 n.1)) ∙ regroup2 (print t) (InWord ∷ (Name n.0.0 ∷ [])) n.0.1 in
    subst (Grows g m t ts) (ok_is (Has t n.0.0, n.0.1) x n.2) (record { parts = q; fine = (f, p.left); tight = fits_from m t (Has t n.0.0) p.loose (omega arith) })
after_sound d expr h g m t ts us x f Chosen r p e =
    let a = bind_ok (expr g Whole us) (λ a. colon_at a.1 >>= λ vs. expr g Whole vs >>= λ y. Ok (Cond t a.0 y.0, y.1)) x e in
    let b = bind_ok (colon_at a.0.1) (λ vs. expr g Whole vs >>= λ y. Ok (Cond t a.0.0 y.0, y.1)) x a.2 in
    let c = bind_ok (expr g Whole b.0) (λ y. Ok (Cond t a.0.0 y.0, y.1)) x b.2 in
    let s = h g Whole us a.0 a.1 in
    let v = h g Whole b.0 c.0 c.1 in
    let q : print t ++ ts ≡ print (Cond t a.0.0 c.0.0) ++ c.0.1 = ap (λ (u : List Token). print t ++ u) (r ∙ ap (cons Question) (s.parts ∙ ap (λ (u : List Token). print a.0.0 ++ u) (colon_ok a.0.1 b.0 b.1 ∙ ap (cons Colon) v.parts))) ∙ regroup4 (print t) (print a.0.0) (print c.0.0) c.0.1 in
    subst (Grows g m t ts) (ok_is (Cond t a.0.0 c.0.0, c.0.1) x c.2) (record { parts = q; fine = (f, s.fine, v.fine, p.left); tight = fits_from m t (Cond t a.0.0 c.0.0) p.loose (omega arith) })
  where
    regroup4 : (a b c r : List Token) → a ++ (Question ∷ (b ++ (Colon ∷ (c ++ r)))) ≡ (a ++ (Question ∷ (b ++ (Colon ∷ c)))) ++ r
    regroup4 a b c r = simp append_assoc

goes_sound : (d : ℕ) (expr : Reader) → IsSound d expr → (g : Bool) (m : Mode) (t : Tree) (ts : List Token) (x : Tree × List Token) (go : Tree → List Token → Read) → IsSoundFrom (suc d) g m go → IsWellFormed g t → fits m t ≡ true → depth t ≤ suc d → (o : Option (Link × List Token)) → link_at g ts ≡ o → goes_on expr g (suc d) (floor m) t ts go o ≡ Ok x → Goes (suc d) g m t ts x
goes_sound d expr h g m t ts x go k f w s None at e = stays (suc d) g m t ts x f w s e
goes_sound d expr h g m t ts x go k f w s (Some o) at e = by (stops (floor m) t ts o.0) refl e
  where
    by : (b : Bool) → stops (floor m) t ts o.0 ≡ b → cond b (Ok (t, ts)) (after expr g t o.0 o.1 >>= checked (suc d) go) ≡ Ok x → Goes (suc d) g m t ts x
    by true is e = stays (suc d) g m t ts x f w s e
    by false is e =
        let a = bind_ok (after expr g t o.0 o.1) (checked (suc d) go) x e in
        let y = guard_ok (ltb (suc d) (depth a.0.0)) TooDeep (go a.0.0 a.0.1) x a.2 in
        let p = or_parts (ltb (link_level o.0) (floor m)) (ltb (edge t) (link_left o.0) || takes true t (class_at ts)) is in
        let q = or_parts (ltb (edge t) (link_left o.0)) (takes true t (class_at ts)) p.1 in
        let r = after_sound d expr h g m t ts o.1 a.0 f o.0 (link_is g ts o at) (record { loose = p.0; left = ltb-false (edge t) (link_left o.0) q.0; free = q.1 }) a.1 in
        let next = k a.0.0 a.0.1 x r.fine r.tight (ltb-false (suc d) (depth a.0.0) y.0) y.1 in
        record { parts = r.parts ∙ next.parts; fine = next.fine; tight = next.tight; small = next.small }

climb_sound : (d : ℕ) (expr : Reader) → IsSound d expr → (g : Bool) (m : Mode) (w : ℕ) → IsSoundFrom (suc d) g m (climb expr g (suc d) w (floor m))
climb_sound d expr h g m zero t ts x f w s e = stays (suc d) g m t ts x f w s e
climb_sound d expr h g m (suc n) t ts x f w s e = goes_sound d expr h g m t ts x (climb expr g (suc d) n (floor m)) (climb_sound d expr h g m n) f w s (link_at g ts) refl e

pub expr_sound : (d : ℕ) → IsSound d (expr_at d)
unfolding expr_at
expr_sound zero g m ts x e = absurd cc
expr_sound (suc d) g m ts x e =
    let a = bind_ok (first_at (expr_at d) g m ts) (λ a. fitting m (posted m a) >>= checked (suc d) (λ t us. climb (expr_at d) g (suc d) (length us) (floor m) t us)) x e in
    let s = posted_sound g m ts a.0 (first_sound d (expr_at d) (expr_sound d) g m ts a.0 a.1) in
    let y = posted m a.0 in
    let b = bind_ok (fitting m y) (checked (suc d) (λ t us. climb (expr_at d) g (suc d) (length us) (floor m) t us)) x a.2 in
    let i = allow_ok (fits m y.0) Syntax (Ok y) b.0 b.1 in
    let z : y ≡ b.0 = ok_is y b.0 i.1 in
    let s2 : Starts g ts b.0 = subst (Starts g ts) z s in
    let w2 : fits m b.0.0 ≡ true = subst (λ (v : Tree × List Token). fits m v.0 ≡ true) z i.0 in
    let c = guard_ok (ltb (suc d) (depth b.0.0)) TooDeep (climb (expr_at d) g (suc d) (length b.0.1) (floor m) b.0.0 b.0.1) x b.2 in
    let n = climb_sound d (expr_at d) (expr_sound d) g m (length b.0.1) b.0.0 b.0.1 x s2.fine w2 (ltb-false (suc d) (depth b.0.0) c.0) c.1 in
    record { parts = s2.parts ∙ n.parts; fine = n.fine; tight = n.tight; small = n.small }
