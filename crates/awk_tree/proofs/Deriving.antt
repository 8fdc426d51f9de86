-- The productions derive every well-formed tree from its tokens.
use Rattle.std.proofs.Common.{◌≡◌, ℕ, ◌≤◌, Bool, true, List, refl, sym, subst, ◌∙◌, arith}
use Rattle.std.specs.Prelude.{nat_le}
use Rattle.std.proofs.lemmas.Bool.{leb-true}
use Rattle.std.proofs.lemmas.List.{append-nil}
use Rattle.awk_grammar.specs.Token.{Prefix, Assign, Or, And, Match, Compare, Mul, Pow, Token}
use Rattle.awk_grammar.specs.Tree.{op_level, print, print_list, level, edge, is_field, IsSome, IsWellFormed, AreWellFormed}
use Rattle.awk_grammar.specs.Trees.{Op, Join, Add, Other, Tree, Leaf, Length, Var, Index, Field, Group, Call, Apply, Unary, Pre, Post, Bin, Has, HasList, Cond, Get, GetInto, GetFrom, GetIntoFrom, Trees, NoTree, Then}
use Rattle.awk_tree.specs.Expressions.{Nonterminal, Expr, TailExpr, AssignExpr, OrExpr, AndExpr, InExpr, MatchExpr, CompareExpr, ConcatExpr, AddExpr, MulExpr, UnaryExpr, PowerExpr, Exponent, PostfixExpr, SimpleExpr, LValue, FieldOperand, Derives, expr_cond, expr_tail, or_tail, tail_assign, and_assign, assign, cond_or, choice, or_and, or, and_in, and, in_match, has, has_list, match_compare, matching, compare_concat, compare, concat_add, concat, add_mul, add, mul_unary, mul, unary, unary_power, power_postfix, power, signed_exponent, exponent, step_after, step_before, postfix_primary, primary_simple, getline, getline_variable, getline_source, getline_variable_source, literal, variable, group, call, apply, bare_length, name, element, field, field_simple, field_step, field_unary, ListOf, last, more, ArgumentsOf, none, some}
use Rattle.awk_tree.proofs.Ends.{may_join, may_compare}
use Rattle.awk_tree.proofs.Levels.{own_edge, Edged, Tight, Open, edged}
use Rattle.awk_tree.proofs.Derived.{Joins}
use Rattle.awk_tree.proofs.Arguments.{takes_suited}

-- ---- from tight nonterminals to looser ones

-- the tightest right edge that a nonterminal promises; those outside the chain from expressions to variables promise none
abbrev rank : Nonterminal → ℕ
rank OrExpr = 1
rank AndExpr = 2
rank InExpr = 3
rank MatchExpr = 4
rank CompareExpr = 5
rank ConcatExpr = 6
rank AddExpr = 7
rank MulExpr = 8
rank UnaryExpr = 9
rank PowerExpr = 10
rank PostfixExpr = 11
rank SimpleExpr = 12
rank LValue = 13
rank _ = 0

to_lvalue : {g : Bool} {t : Tree} {ts : List Token} (M : Nonterminal) → 13 ≤ rank M → Derives g M t ts → Derives g LValue t ts
to_lvalue LValue h d = d
to_lvalue M h d = absurd (omega arith)

to_simple : {g : Bool} {t : Tree} {ts : List Token} (M : Nonterminal) → 12 ≤ rank M → Derives g M t ts → Derives g SimpleExpr t ts
to_simple SimpleExpr h d = d
to_simple M h d = variable (to_lvalue M (omega arith) d)

to_postfix : {g : Bool} {t : Tree} {ts : List Token} (M : Nonterminal) → 11 ≤ rank M → Derives g M t ts → Derives g PostfixExpr t ts
to_postfix PostfixExpr h d = d
to_postfix M h d = postfix_primary (primary_simple (to_simple M (omega arith) d))

to_power : {g : Bool} {t : Tree} {ts : List Token} (M : Nonterminal) → 10 ≤ rank M → Derives g M t ts → Derives g PowerExpr t ts
to_power PowerExpr h d = d
to_power M h d = power_postfix (to_postfix M (omega arith) d)

to_unary : {g : Bool} {t : Tree} {ts : List Token} (M : Nonterminal) → 9 ≤ rank M → Derives g M t ts → Derives g UnaryExpr t ts
to_unary UnaryExpr h d = d
to_unary M h d = unary_power (to_power M (omega arith) d)

to_mul : {g : Bool} {t : Tree} {ts : List Token} (M : Nonterminal) → 8 ≤ rank M → Derives g M t ts → Derives g MulExpr t ts
to_mul MulExpr h d = d
to_mul M h d = mul_unary (to_unary M (omega arith) d)

to_add : {g : Bool} {t : Tree} {ts : List Token} (M : Nonterminal) → 7 ≤ rank M → Derives g M t ts → Derives g AddExpr t ts
to_add AddExpr h d = d
to_add M h d = add_mul (to_mul M (omega arith) d)

to_concat : {g : Bool} {t : Tree} {ts : List Token} (M : Nonterminal) → 6 ≤ rank M → Derives g M t ts → Derives g ConcatExpr t ts
to_concat ConcatExpr h d = d
to_concat M h d = concat_add (to_add M (omega arith) d)

to_compare : {g : Bool} {t : Tree} {ts : List Token} (M : Nonterminal) → 5 ≤ rank M → Derives g M t ts → Derives g CompareExpr t ts
to_compare CompareExpr h d = d
to_compare M h d = compare_concat (to_concat M (omega arith) d)

to_match : {g : Bool} {t : Tree} {ts : List Token} (M : Nonterminal) → 4 ≤ rank M → Derives g M t ts → Derives g MatchExpr t ts
to_match MatchExpr h d = d
to_match M h d = match_compare (to_compare M (omega arith) d)

to_in : {g : Bool} {t : Tree} {ts : List Token} (M : Nonterminal) → 3 ≤ rank M → Derives g M t ts → Derives g InExpr t ts
to_in InExpr h d = d
to_in M h d = in_match (to_match M (omega arith) d)

to_and : {g : Bool} {t : Tree} {ts : List Token} (M : Nonterminal) → 2 ≤ rank M → Derives g M t ts → Derives g AndExpr t ts
to_and AndExpr h d = d
to_and M h d = and_in (to_in M (omega arith) d)

to_or : {g : Bool} {t : Tree} {ts : List Token} (M : Nonterminal) → 1 ≤ rank M → Derives g M t ts → Derives g OrExpr t ts
to_or OrExpr h d = d
to_or M h d = or_and (to_and M (omega arith) d)

-- ---- what a well-formed tree has

record Found (g : Bool) (t : Tree) : Type 0 where
  -- a nonterminal of the chain as tight as the right edge
  kind : Nonterminal
  own : Derives g kind t (print t)
  high : edge t ≤ rank kind
  expr : Derives g Expr t (print t)
  -- what an assignment ends
  tail : edge t ≡ 0 → 2 ≤ level t → Derives g TailExpr t (print t)
  assign : edge t ≡ 0 → 3 ≤ level t → Derives g AssignExpr t (print t)
  -- below a power and below a dollar sign
  exponent : 9 ≤ level t → Derives g Exponent t (print t)
  field : is_field t ≡ true → Derives g FieldOperand t (print t)

-- a tree that no assignment ends
tight : {g : Bool} (t : Tree) (M : Nonterminal) → Derives g M t (print t) → edge t ≤ rank M → 1 ≤ edge t
    → (9 ≤ level t → Derives g Exponent t (print t)) → (is_field t ≡ true → Derives g FieldOperand t (print t)) → Found g t
tight t M d h k e f = record {
  kind = M;
  own = d;
  high = h;
  expr = expr_cond (cond_or (to_or M (omega (arith, h, k)) d));
  tail = λ z l. absurd (omega (arith, z, k));
  assign = λ z l. absurd (omega (arith, z, k));
  exponent = e;
  field = f;
}

-- one that binds no looser than a power
atom : {g : Bool} (t : Tree) (M : Nonterminal) → Derives g M t (print t) → edge t ≤ rank M → 11 ≤ edge t → (is_field t ≡ true → Derives g FieldOperand t (print t)) → Found g t
atom t M d h k f = tight t M d h (omega (arith, k)) (λ l. exponent (to_power M (omega (arith, h, k)) d)) f

-- one that may stand alone after a dollar sign
simple : {g : Bool} (t : Tree) (M : Nonterminal) → Derives g M t (print t) → edge t ≤ rank M → 12 ≤ edge t → Found g t
simple t M d h k = atom t M d h (omega (arith, k)) λ f. field_simple (to_simple M (omega (arith, h, k)) d)

not_field : {A : Type 0} (n : ℕ) → n ≤ 11 → nat_le 12 n ≡ true → A
not_field n h e = absurd (omega (arith, h, leb-true 12 n e))

-- one of an operator looser than a sign
operator : {g : Bool} (op : Op) (a b : Tree) (M : Nonterminal) → Derives g M (Bin op a b) (print (Bin op a b)) → edge (Bin op a b) ≤ rank M → 1 ≤ edge (Bin op a b) → op_level op ≤ 8 → Found g (Bin op a b)
operator op a b M d h k l = tight (Bin op a b) M d h k (λ e. absurd (omega (arith, l, e))) (not_field (op_level op) (omega (arith, l)))

-- one that an assignment ends, or a choice
open_ended : {g : Bool} (t : Tree) → Derives g Expr t (print t) → edge t ≡ 0 → level t ≤ 3
    → (2 ≤ level t → Derives g TailExpr t (print t)) → (3 ≤ level t → Derives g AssignExpr t (print t)) → is_field t ≡ nat_le 12 (level t) → Found g t
open_ended t d z l u v i = record {
  kind = Expr;
  own = d;
  high = omega (arith, z);
  expr = d;
  tail = λ e. u;
  assign = λ e. v;
  exponent = λ k. absurd (omega (arith, l, k));
  field = λ e. not_field (level t) (omega (arith, l)) (sym i ∙ e);
}

either : {g : Bool} (a b : Tree) → Found g a → Found g b → 1 ≤ edge a → 2 ≤ level b → Edged b → Found g (Bin (Other Or) a b)
either a b x y h f (Tight e) =
    operator (Other Or) a b OrExpr (or (to_or x.kind (omega (arith, x.high, h)) x.own) (to_and y.kind (omega (arith, y.high, e, f)) y.own)) (omega arith) (omega (arith, e, f)) (omega arith)
either a b x y h f (Open e l) =
    open_ended (Bin (Other Or) a b) (or_tail (to_or x.kind (omega (arith, x.high, h)) x.own) (y.tail e f)) (omega (arith, e)) (omega arith) (λ k. absurd (omega (arith, k))) (λ k. absurd (omega (arith, k))) refl

both : {g : Bool} (a b : Tree) → Found g a → Found g b → 2 ≤ edge a → 3 ≤ level b → Edged b → Found g (Bin (Other And) a b)
both a b x y h f (Tight e) =
    operator (Other And) a b AndExpr (and (to_and x.kind (omega (arith, x.high, h)) x.own) (to_in y.kind (omega (arith, y.high, e, f)) y.own)) (omega arith) (omega (arith, e, f)) (omega arith)
both a b x y h f (Open e l) =
    let d = and_assign (to_and x.kind (omega (arith, x.high, h)) x.own) (y.assign e f) in
    open_ended (Bin (Other And) a b) (expr_tail d) (omega (arith, e)) (omega arith) (λ k. d) (λ k. absurd (omega (arith, k))) refl

-- the right edge of a tree of at least this level
edge_from : (k : ℕ) (b : Tree) → 4 ≤ k → k ≤ 9 → nat_le k (level b) ≡ true → Edged b → k ≤ edge b
edge_from k b low most f (Tight e) = omega (arith, low, most, leb-true k (level b) f, e)
edge_from k b low most f (Open e l) = absurd (omega (arith, low, leb-true k (level b) f, l))

infixed : {g : Bool} (op : Op) (a b : Tree) → Found g a → Found g b → Joins g op a b → Edged b → Found g (Bin op a b)
infixed Join a b x y j e =
    let k = edge_from 7 b (omega arith) (omega arith) j.1 e in
    operator Join a b ConcatExpr (concat (to_concat x.kind (omega (arith, x.high, j.0)) x.own) (to_add y.kind (omega (arith, y.high, k)) y.own) (may_join a (print b) j.2 j.3)) (omega arith) (omega (arith, k)) (omega arith)
infixed (Add s) a b x y j e =
    let k = edge_from 8 b (omega arith) (omega arith) j.1 e in
    operator (Add s) a b AddExpr (add (to_add x.kind (omega (arith, x.high, j.0)) x.own) (to_mul y.kind (omega (arith, y.high, k)) y.own)) (omega arith) (omega (arith, k)) (omega arith)
infixed (Other (Assign how)) a b x y j e =
    let d = assign (to_lvalue x.kind (omega (arith, x.high, j.0)) x.own) y.expr in
    open_ended (Bin (Other (Assign how)) a b) (expr_tail (tail_assign d)) (omega arith) (omega arith) (λ k. tail_assign d) (λ k. d) refl
infixed (Other Or) a b x y j e = either a b x y j.0 (leb-true 2 (level b) j.1) e
infixed (Other And) a b x y j e = both a b x y j.0 (leb-true 3 (level b) j.1) e
infixed (Other (Match how)) a b x y j e =
    let k = edge_from 5 b (omega arith) (omega arith) j.1 e in
    operator (Other (Match how)) a b MatchExpr (matching (to_compare x.kind (omega (arith, x.high, j.0)) x.own) (to_compare y.kind (omega (arith, y.high, k)) y.own)) (omega arith) (omega (arith, k)) (omega arith)
infixed {g} (Other (Compare how)) a b x y j e =
    let k = edge_from 6 b (omega arith) (omega arith) j.1 e in
    operator (Other (Compare how)) a b CompareExpr (compare (to_concat x.kind (omega (arith, x.high, j.0)) x.own) (to_concat y.kind (omega (arith, y.high, k)) y.own) (may_compare g how a (print b) j.3 j.4)) (omega arith) (omega (arith, k)) (omega arith)
infixed (Other (Mul how)) a b x y j e =
    let k = edge_from 9 b (omega arith) (omega arith) j.1 e in
    operator (Other (Mul how)) a b MulExpr (mul (to_mul x.kind (omega (arith, x.high, j.0)) x.own) (to_unary y.kind (omega (arith, y.high, k)) y.own)) (omega arith) (omega (arith, k)) (omega arith)
infixed (Other Pow) a b x y j e =
    let k = edge_from 9 b (omega arith) (omega arith) j.1 e in
    let d = power (to_postfix x.kind (omega (arith, x.high, j.0)) x.own) (y.exponent (leb-true 9 (level b) j.1)) in
    tight (Bin (Other Pow) a b) PowerExpr d (omega arith) (omega (arith, k)) (λ l. exponent d) (not_field 10 (omega arith))

list_of : {g : Bool} (t : Tree) (xs : Trees) → Derives g Expr t (print t) → (IsSome xs → ListOf g xs (print_list xs)) → ListOf g (Then t xs) (print_list (Then t xs))
list_of {g} t NoTree d l = subst (ListOf g (Then t NoTree)) (sym (append-nil (print t))) (last d)
list_of t (Then u us) d l = more d (l tt)

arguments : (xs : Trees) → (IsSome xs → ListOf true xs (print_list xs)) → ArgumentsOf xs (print_list xs)
arguments NoTree l = none
arguments (Then t ts) l = some (l tt)

variable_of : {g : Bool} (t : Tree) → Found g t → nat_le 13 (level t) ≡ true → Derives g LValue t (print t)
variable_of t x f = to_lvalue x.kind (omega (arith, x.high, leb-true 13 (level t) f, own_edge t (omega (arith, leb-true 13 (level t) f)))) x.own

simple_of : {g : Bool} (t : Tree) → Found g t → nat_le 12 (level t) ≡ true → Derives g SimpleExpr t (print t)
simple_of t x f = to_simple x.kind (omega (arith, x.high, leb-true 12 (level t) f, own_edge t (omega (arith, leb-true 12 (level t) f)))) x.own

signed : {g : Bool} (p : Prefix) (t : Tree) → Found g t → nat_le 9 (level t) ≡ true → Edged t → Found g (Unary p t)
signed p t x f e =
    let k = edge_from 9 t (omega arith) (omega arith) f e in
    tight (Unary p t) UnaryExpr (unary (to_unary x.kind (omega (arith, x.high, k)) x.own)) (omega arith) (omega (arith, k)) (λ l. signed_exponent (x.exponent (leb-true 9 (level t) f))) (λ h. field_unary (x.field h))

mutual
  found : (g : Bool) (t : Tree) → IsWellFormed g t → Found g t
  found g (Leaf c) h = simple (Leaf c) SimpleExpr literal (omega arith) (omega arith)
  found g Length h = simple Length SimpleExpr bare_length (omega arith) (omega arith)
  found g (Var n) h = simple (Var n) LValue name (omega arith) (omega arith)
  found g (Index n xs) h = simple (Index n xs) LValue (element (found_list true xs h.0 h.1)) (omega arith) (omega arith)
  found g (Field t) h = simple (Field t) LValue (field ((found g t h.0).field h.1)) (omega arith) (omega arith)
  found g (Group t) h = simple (Group t) SimpleExpr (group (found true t h).expr) (omega arith) (omega arith)
  found g (Call f xs) h = simple (Call f xs) SimpleExpr (call (arguments xs (found_list true xs h))) (omega arith) (omega arith)
  found g (Apply f xs) h = simple (Apply f xs) SimpleExpr (apply (arguments xs (found_list true xs h.0)) (takes_suited f xs h.1)) (omega arith) (omega arith)
  found g (Unary p t) h = signed p t (found g t h.0) h.1 (edged g t h.0)
  found g (Pre s t) h =
      let d = variable_of t (found g t h.0) h.1 in
      atom (Pre s t) PostfixExpr (step_before d) (omega arith) (omega arith) λ e. field_step d
  found g (Post s t) h = atom (Post s t) PostfixExpr (step_after (variable_of t (found g t h.0) h.1)) (omega arith) (omega arith) (not_field 11 (omega arith))
  found g (Bin op a b) h = infixed op a b (found g a h.0) (found g b h.1) (h.2, h.3, h.4, h.5, h.6) (edged g b h.1)
  found g (Has a n) h =
      let x = found g a h.0 in
      tight (Has a n) InExpr (has (to_in x.kind (omega (arith, x.high, h.1)) x.own)) (omega arith) (omega arith) (λ e. absurd (omega (arith, e))) (not_field 3 (omega arith))
  found g (HasList t xs n) h = tight (HasList t xs n) InExpr (has_list (found true t h.0).expr (found_list true xs h.1 h.2)) (omega arith) (omega arith) (λ e. absurd (omega (arith, e))) (not_field 3 (omega arith))
  found g (Cond a b c) h =
      let x = found g a h.0 in
      let d = choice (to_or x.kind (omega (arith, x.high, h.3)) x.own) (found g b h.1).expr (found g c h.2).expr in
      open_ended (Cond a b c) (expr_cond d) (omega arith) (omega arith) (λ k. absurd (omega (arith, k))) (λ k. absurd (omega (arith, k))) refl
  found g Get h = atom Get PostfixExpr (postfix_primary getline) (omega arith) (omega arith) (not_field 11 (omega arith))
  found g (GetInto v) h = atom (GetInto v) PostfixExpr (postfix_primary (getline_variable (variable_of v (found g v h.0) h.1))) (omega arith) (omega arith) (not_field 11 (omega arith))
  found g (GetFrom s) h = atom (GetFrom s) PostfixExpr (postfix_primary (getline_source (simple_of s (found g s h.0) h.1))) (omega arith) (omega arith) (not_field 11 (omega arith))
  found g (GetIntoFrom v s) h = atom (GetIntoFrom v s) PostfixExpr (postfix_primary (getline_variable_source (variable_of v (found g v h.0) h.1) (simple_of s (found g s h.2) h.3))) (omega arith) (omega arith) (not_field 11 (omega arith))

  pub found_list : (g : Bool) (xs : Trees) → AreWellFormed g xs → IsSome xs → ListOf g xs (print_list xs)
  found_list g NoTree h s = absurd s
  found_list g (Then t xs) h s = list_of t xs (found g t h.0).expr (found_list g xs h.1)

pub deriving_of : (g : Bool) (t : Tree) → IsWellFormed g t → Derives g Expr t (print t)
deriving_of g t h = (found g t h).expr

-- after `>` and `>>`
pub concat_of : (t : Tree) → IsWellFormed true t → nat_le 6 (level t) ≡ true → Derives true ConcatExpr t (print t)
concat_of t h f =
    let x = found true t h in
    to_concat x.kind (omega (arith, x.high, edge_from 6 t (omega arith) (omega arith) f (edged true t h))) x.own
