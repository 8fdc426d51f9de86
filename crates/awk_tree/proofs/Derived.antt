-- What the productions derive is well formed, and the tokens are its own.
use Rattle.std.proofs.Common.{◌≡◌, ℕ, ◌≤◌, Bool, true, false, List, [], ◌∷◌, ◌++◌, refl, sym, ap, subst, ◌∙◌, arith}
use Rattle.std.specs.Prelude.{nat_le}
use Rattle.std.proofs.lemmas.Bool.{le-leb}
use Rattle.std.proofs.lemmas.List.{append-nil}
use Rattle.awk_grammar.specs.Token.{Assign, Or, And, Match, Compare, Mul, Pow, Token, Name, InWord, Comma, StepMark}
use Rattle.awk_grammar.specs.Tree.{op_tokens, op_left, op_right, op_allowed, print, print_list, print_more, level, edge, is_field, fits, class_at, takes, MayJoin as MayStandJoined, IsSome, IsWellFormed, AreWellFormed}
use Rattle.awk_grammar.specs.Trees.{Op, Join, Add, Other, Tree, Bin, Trees, NoTree, Then}
use Rattle.awk_tree.specs.Ends.{MayJoin}
use Rattle.awk_tree.specs.Expressions.{Nonterminal, Expr, CondExpr, TailExpr, AssignExpr, OrExpr, AndExpr, InExpr, MatchExpr, CompareExpr, ConcatExpr, AddExpr, MulExpr, UnaryExpr, PowerExpr, Exponent, PostfixExpr, PrimaryExpr, SimpleExpr, LValue, FieldOperand, Derives, expr_cond, expr_tail, or_tail, tail_assign, and_assign, assign, cond_or, choice, or_and, or, and_in, and, in_match, has, has_list, match_compare, matching, compare_concat, compare, concat_add, concat, add_mul, add, mul_unary, mul, unary, unary_power, power_postfix, power, signed_exponent, exponent, step_after, step_before, postfix_primary, primary_simple, getline, getline_variable, getline_source, getline_variable_source, literal, variable, group, call, apply, bare_length, name, element, field, field_simple, field_step, field_unary, ListOf, last, more, ArgumentsOf, none, some}
use Rattle.awk_tree.proofs.Ends.{takes_free, joined_takes, starts, compared_takes, compared_allowed}
use Rattle.awk_tree.proofs.Levels.{edge_below, simple_is_field, field_level}
use Rattle.awk_tree.proofs.Arguments.{suited}

-- the levels of what a nonterminal derives
abbrev Stands : Nonterminal → Tree → Type 0
Stands Expr t = Unit {0}
Stands CondExpr t = Unit {0}
Stands TailExpr t = 2 ≤ level t
Stands AssignExpr t = 3 ≤ level t
Stands OrExpr t = 1 ≤ edge t
Stands AndExpr t = 2 ≤ edge t
Stands InExpr t = 3 ≤ edge t
Stands MatchExpr t = 4 ≤ edge t
Stands CompareExpr t = 5 ≤ edge t
Stands ConcatExpr t = 6 ≤ edge t
Stands AddExpr t = 7 ≤ edge t
Stands MulExpr t = 8 ≤ edge t
Stands UnaryExpr t = 9 ≤ edge t
Stands PowerExpr t = 9 ≤ edge t
Stands Exponent t = 9 ≤ edge t
Stands PostfixExpr t = 11 ≤ edge t
Stands PrimaryExpr t = 11 ≤ edge t
Stands SimpleExpr t = 12 ≤ edge t
Stands LValue t = 13 ≤ edge t
Stands FieldOperand t = is_field t ≡ true

pub record IsDerived (g : Bool) (N : Nonterminal) (t : Tree) (ts : List Token) : Type 0 where
  pub parts : print t ≡ ts
  pub fine : IsWellFormed g t
  pub stands : Stands N t

pub record IsListed (g : Bool) (xs : Trees) (ts : List Token) : Type 0 where
  pub parts : print_list xs ≡ ts
  pub fine : AreWellFormed g xs
  pub some : IsSome xs

record AreGiven (xs : Trees) (ts : List Token) : Type 0 where
  parts : print_list xs ≡ ts
  fine : AreWellFormed true xs

pub high : (k : ℕ) (t : Tree) → k ≤ edge t → nat_le k (level t) ≡ true
high k t h = le-leb k (level t) (omega (arith, edge_below t))

-- what is asked of an operator's operands, themselves aside
abbrev pub Joins : Bool → Op → Tree → Tree → Type 0
Joins g op a b = (op_left op ≤ edge a) × (fits (op_right op) b ≡ true) × MayStandJoined op (print b) × (takes true a (class_at (op_tokens op ++ print b)) ≡ false) × (op_allowed g op ≡ true)

binary : {g : Bool} {M N : Nonterminal} {a b : Tree} {ts us : List Token} (K : Nonterminal) (op : Op) →
    IsDerived g M a ts → IsDerived g N b us → Joins g op a b → Stands K (Bin op a b) → IsDerived g K (Bin op a b) (ts ++ (op_tokens op ++ us))
binary {b} {ts} K op x y j s = record {
  parts = ap (◌++ (op_tokens op ++ print b)) x.parts ∙ ap (λ vs. ts ++ (op_tokens op ++ vs)) y.parts;
  fine = (x.fine, y.fine, j.0, j.1, j.2, j.3, j.4);
  stands = s;
}

passed : {g : Bool} {M : Nonterminal} {t : Tree} {ts : List Token} (N : Nonterminal) → IsDerived g M t ts → Stands N t → IsDerived g N t ts
passed N x s = record { parts = x.parts; fine = x.fine; stands = s }

more_is_list : (xs : Trees) → IsSome xs → print_more xs ≡ Comma ∷ print_list xs
more_is_list NoTree s = absurd s
more_is_list (Then t ts) s = refl

mutual
  pub derived : {g : Bool} {N : Nonterminal} {t : Tree} {ts : List Token} → Derives g N t ts → IsDerived g N t ts
  derived (expr_cond d) = passed Expr (derived d) tt
  derived (expr_tail d) = passed Expr (derived d) tt
  derived (or_tail {a} {b} d e) =
      let x = derived d in
      let y = derived e in
      binary Expr (Other Or) x y (x.stands, le-leb 2 (level b) y.stands, tt, takes_free true a, refl) tt
  derived (tail_assign d) = let x = derived d in passed TailExpr x (omega (arith, x.stands))
  derived (and_assign {a} {b} d e) =
      let x = derived d in
      let y = derived e in
      binary TailExpr (Other And) x y (x.stands, le-leb 3 (level b) y.stands, tt, takes_free true a, refl) (omega arith)
  derived (assign {how} {a} {b} d e) =
      let x = derived d in
      let y = derived e in
      binary AssignExpr (Other (Assign how)) x y (x.stands, le-leb 0 (level b) (omega arith), tt, takes_free true a, refl) (omega arith)
  derived (cond_or d) = passed CondExpr (derived d) tt
  derived (choice d e f) =
      let x = derived d in
      let y = derived e in
      let z = derived f in
      record { parts = rw (x.parts, y.parts, z.parts) refl; fine = (x.fine, y.fine, z.fine, x.stands); stands = tt }
  derived (or_and d) = let x = derived d in passed OrExpr x (omega (arith, x.stands))
  derived (or {a} {b} d e) =
      let x = derived d in
      let y = derived e in
      binary OrExpr (Other Or) x y (x.stands, high 2 b y.stands, tt, takes_free true a, refl) (omega (arith, y.stands))
  derived (and_in d) = let x = derived d in passed AndExpr x (omega (arith, x.stands))
  derived (and {a} {b} d e) =
      let x = derived d in
      let y = derived e in
      binary AndExpr (Other And) x y (x.stands, high 3 b y.stands, tt, takes_free true a, refl) (omega (arith, y.stands))
  derived (in_match d) = let x = derived d in passed InExpr x (omega (arith, x.stands))
  derived (has {n} d) = let x = derived d in record { parts = ap (◌++ (InWord ∷ (Name n ∷ []))) x.parts; fine = (x.fine, x.stands); stands = omega arith }
  derived (has_list d l) =
      let x = derived d in
      let y = listed l in
      record { parts = rw (x.parts, y.parts) refl; fine = (x.fine, y.fine, y.some); stands = omega arith }
  derived (match_compare d) = let x = derived d in passed MatchExpr x (omega (arith, x.stands))
  derived (matching {how} {a} {b} d e) =
      let x = derived d in
      let y = derived e in
      binary MatchExpr (Other (Match how)) x y (x.stands, high 5 b y.stands, tt, takes_free true a, refl) (omega (arith, y.stands))
  derived (compare_concat d) = let x = derived d in passed CompareExpr x (omega (arith, x.stands))
  derived (compare {g} {how} {a} {b} d e m) =
      let x = derived d in
      let y = derived e in
      binary CompareExpr (Other (Compare how)) x y (x.stands, high 6 b y.stands, tt, compared_takes g how a (print b) m, compared_allowed g how a m) (omega (arith, y.stands))
  derived (concat_add d) = let x = derived d in passed ConcatExpr x (omega (arith, x.stands))
  derived (concat {a} {b} d e j) =
      let x = derived d in
      let y = derived e in
      let k : MayJoin a (print b) = subst (MayJoin a) (sym y.parts) j in
      binary ConcatExpr Join x y (x.stands, high 7 b y.stands, starts b k.no_sign, joined_takes a (print b) (starts b k.no_sign) k, refl) (omega (arith, y.stands))
  derived (add_mul d) = let x = derived d in passed AddExpr x (omega (arith, x.stands))
  derived (add {sign} {a} {b} d e) =
      let x = derived d in
      let y = derived e in
      binary AddExpr (Add sign) x y (x.stands, high 8 b y.stands, tt, takes_free true a, refl) (omega (arith, y.stands))
  derived (mul_unary d) = let x = derived d in passed MulExpr x (omega (arith, x.stands))
  derived (mul {how} {a} {b} d e) =
      let x = derived d in
      let y = derived e in
      binary MulExpr (Other (Mul how)) x y (x.stands, high 9 b y.stands, tt, takes_free true a, refl) (omega (arith, y.stands))
  derived (unary {t} d) = let x = derived d in record { parts = rw x.parts refl; fine = (x.fine, high 9 t x.stands); stands = omega (arith, x.stands) }
  derived (unary_power d) = let x = derived d in passed UnaryExpr x x.stands
  derived (power_postfix d) = let x = derived d in passed PowerExpr x (omega (arith, x.stands))
  derived (power {a} {b} d e) =
      let x = derived d in
      let y = derived e in
      binary PowerExpr (Other Pow) x y (x.stands, high 9 b y.stands, tt, takes_free true a, refl) (omega (arith, y.stands))
  derived (signed_exponent {t} d) = let x = derived d in record { parts = rw x.parts refl; fine = (x.fine, high 9 t x.stands); stands = omega (arith, x.stands) }
  derived (exponent d) = let x = derived d in passed Exponent x x.stands
  derived (step_after {s} {t} d) = let x = derived d in record { parts = ap (◌++ (StepMark s ∷ [])) x.parts; fine = (x.fine, high 13 t x.stands); stands = omega arith }
  derived (step_before {t} d) = let x = derived d in record { parts = rw x.parts refl; fine = (x.fine, high 13 t x.stands); stands = omega arith }
  derived (postfix_primary d) = let x = derived d in passed PostfixExpr x x.stands
  derived (primary_simple d) = let x = derived d in passed PrimaryExpr x (omega (arith, x.stands))
  derived getline = record { parts = refl; fine = tt; stands = omega arith }
  derived (getline_variable {v} d) = let x = derived d in record { parts = rw x.parts refl; fine = (x.fine, high 13 v x.stands); stands = omega arith }
  derived (getline_source {s} d) = let x = derived d in record { parts = rw x.parts refl; fine = (x.fine, high 12 s x.stands); stands = omega arith }
  derived (getline_variable_source {v} {s} d e) =
      let x = derived d in
      let y = derived e in
      record { parts = rw (x.parts, y.parts) refl; fine = (x.fine, high 13 v x.stands, y.fine, high 12 s y.stands); stands = omega arith }
  derived literal = record { parts = refl; fine = tt; stands = omega arith }
  derived (variable d) = let x = derived d in passed SimpleExpr x (omega (arith, x.stands))
  derived (group d) = let x = derived d in record { parts = rw x.parts refl; fine = x.fine; stands = omega arith }
  derived (call a) = let x = given a in record { parts = rw x.parts refl; fine = x.fine; stands = omega arith }
  derived (apply a k) = let x = given a in record { parts = rw x.parts refl; fine = (x.fine, suited k); stands = omega arith }
  derived bare_length = record { parts = refl; fine = tt; stands = omega arith }
  derived name = record { parts = refl; fine = tt; stands = omega arith }
  derived (element l) = let x = listed l in record { parts = rw x.parts refl; fine = (x.fine, x.some); stands = omega arith }
  derived (field d) = let x = derived d in record { parts = rw x.parts refl; fine = (x.fine, x.stands); stands = omega arith }
  derived (field_simple {t} d) = let x = derived d in passed FieldOperand x (simple_is_field t (omega (arith, x.stands, edge_below t)))
  derived (field_step {t} d) = let x = derived d in record { parts = rw x.parts refl; fine = (x.fine, high 13 t x.stands); stands = refl }
  derived (field_unary {t} d) = let x = derived d in record { parts = rw x.parts refl; fine = (x.fine, le-leb 9 (level t) (field_level t x.stands)); stands = x.stands }

  pub listed : {g : Bool} {xs : Trees} {ts : List Token} → ListOf g xs ts → IsListed g xs ts
  listed (last {t} d) = let x = derived d in record { parts = append-nil (print t) ∙ x.parts; fine = (x.fine, tt); some = tt }
  listed (more {xs} d l) =
      let x = derived d in
      let y = listed l in
      record { parts = rw (x.parts, more_is_list xs y.some, y.parts) refl; fine = (x.fine, y.fine); some = tt }

  given : {xs : Trees} {ts : List Token} → ArgumentsOf xs ts → AreGiven xs ts
  given none = record { parts = refl; fine = tt }
  given (some l) = let x = listed l in record { parts = x.parts; fine = x.fine }
