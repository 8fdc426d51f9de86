-- Reading a list in a loop.
use Rattle.std.proofs.Common.{◌≡◌, ℕ, zero, suc, ◌+◌, ◌-◌, ◌<◌, max, Bool, true, Option, Some, None, List, [], ◌∷◌, ◌++◌, length, Result, Ok, Err, refl, sym, ap, subst, ◌∙◌, arith}
use Rattle.awk_grammar.specs.Token.{Token, Close}
use Rattle.awk_grammar.specs.Reading.{Fault, Syntax, ◌>>=◌, Read, ReadMany, Reader, close_at, comma_at, more_at, list_at, arguments_at}
use Rattle.awk_grammar.specs.Tree.{Whole}
use Rattle.awk_grammar.specs.Trees.{Tree, Trees, NoTree, Then, depth, depths}
use Rattle.awk_grammar.specs.View.{view, views}
use Rattle.awk_grammar.specs.declared.tree.Expr.{Expr}
use Rattle.awk_parse.specs.declared.refusal.Refusal.{Refusal}
use Rattle.awk_parse.specs.Depths.{capped}
use Rattle.awk_parse.specs.Operands.{followed_by}
use Rattle.awk_parse.specs.Parsed.{At, stands, Parsed, Passed, is_read}
use Rattle.awk_parse.proofs.ParsedLemmas.{then, past, stays, came, goes_on, goes_as}

views_push : (es : List Expr) (e : Expr) → views (es ++ (e ∷ [])) ≡ followed_by (views es) (Then (view e) NoTree)
views_push [] e = refl
views_push (x ∷ es) e = ap (Then (view x)) (views_push es e)

pub pushed : (new old : List Expr) (e : Expr) → new ≡ old ++ (e ∷ []) → views new ≡ followed_by (views old) (Then (view e) NoTree)
pushed new old e q = ap views q ∙ views_push old e

depths_push : (ts : Trees) (t : Tree) → depths (followed_by ts (Then t NoTree)) ≡ max (depths ts) (depth t)
depths_push NoTree t = omega arith
depths_push (Then u ts) t = omega (arith, depths_push ts t)

pub pushed_depth : (new old : List Expr) (e : Expr) (d : ℕ) → new ≡ old ++ (e ∷ []) → d ≡ capped (max (depths (views old)) (depth (view e))) → d ≡ capped (depths (views new))
pushed_depth new old e d q h = h ∙ ap capped (sym (ap depths (pushed new old e q) ∙ depths_push (views old) (view e)))

pub same_depth : (t u : Tree) (d : ℕ) → u ≡ t → d ≡ capped (depth t) → d ≡ capped (depth u)
same_depth t u d q h = h ∙ ap (λ (v : Tree). capped (depth v)) (sym q)

followed-assoc : (a b c : Trees) → followed_by (followed_by a b) c ≡ followed_by a (followed_by b c)
followed-assoc NoTree b c = refl
followed-assoc (Then t a) b c = ap (Then t) (followed-assoc a b c)

front_none : (ts : Trees) → followed_by ts NoTree ≡ ts
front_none NoTree = refl
front_none (Then t ts) = ap (Then t) (front_none ts)

-- what was read before, and what is still read
abbrev pub with_front : Trees → ReadMany → ReadMany
with_front front read = read >>= λ y. Ok (followed_by front y.0, y.1)

abbrev pub left_trees : Reader → Bool → Trees → ℕ → List Token → ReadMany
left_trees expr g front w ts = with_front front (more_at expr g w ts)

-- expressions and one more
abbrev one_tree : Reader → Bool → Trees → List Token → ReadMany
one_tree expr g front ts = expr g Whole ts >>= λ x. Ok (followed_by front (Then x.0 NoTree), x.1)

front_end : (front : Trees) (ts : List Token) → with_front front (Ok (NoTree, ts)) ≡ Ok (front, ts)
front_end front ts = ap (λ (u : Trees). Ok (u, ts)) (front_none front)

trees_none : (expr : Reader) (g : Bool) (front : Trees) (w : ℕ) (ts : List Token) → comma_at ts ≡ None → left_trees expr g front w ts ≡ Ok (front, ts)
trees_none expr g front zero ts e = front_end front ts
trees_none expr g front (suc w) ts e = rw e (front_end front ts)

trees_done : (expr : Reader) (g : Bool) (front : Trees) (w : ℕ) (ts : List Token) → w ≡ 0 → left_trees expr g front w ts ≡ Ok (front, ts)
trees_done expr g front w ts e = rw e (front_end front ts)

-- one expression more
trees_more : (expr : Reader) (g : Bool) (front : Trees) (i n : ℕ) (ts us : List Token) → i < n → comma_at ts ≡ Some us → left_trees expr g front (n - i) ts ≡ (one_tree expr g front us >>= λ y. left_trees expr g y.0 (n - (i + 1)) y.1)
trees_more expr g front i n ts us lt e =
    let m : n - i ≡ suc (n - (i + 1)) = omega arith in
    rw (m, e) (by (expr g Whole us))
  where
    ahead : Tree × List Token → ReadMany
    ahead x = Ok (followed_by front (Then x.0 NoTree), x.1)

    step : (t : Tree) (read : ReadMany) → with_front front (read >>= λ y. Ok (Then t y.0, y.1)) ≡ with_front (followed_by front (Then t NoTree)) read
    step t (Ok y) = ap (λ (u : Trees). Ok (u, y.1)) (sym (followed-assoc front (Then t NoTree) y.0))
    step t (Err f) = refl

    by : (r : Read) → with_front front (r >>= λ x. more_at expr g (n - (i + 1)) x.1 >>= λ y. Ok (Then x.0 y.0, y.1)) ≡ (r >>= ahead >>= λ y. with_front y.0 (more_at expr g (n - (i + 1)) y.1))
    by (Ok x) = step x.0 (more_at expr g (n - (i + 1)) x.1)
    by (Err f) = refl

pub trees_begin : (expr : Reader) (g : Bool) (items : List Expr) (front v : Trees) (x : Tree) (n : ℕ) (ts : List Token) (o : Option Refusal) (s0 s1 s : At) → items ≡ [] → n ≡ length ts → Parsed x s0 s1 (expr g Whole) → Parsed front s1 (stands ts o) (is_read (followed_by (views items) (Then x NoTree)))
    → Parsed v (stands ts o) s (left_trees expr g front n) → Parsed v s0 s (list_at expr g)
trees_begin expr g items front v x n ts o s0 s1 s e q first one w =
    let added : Parsed front s1 (stands ts o) (is_read (Then x NoTree)) = subst (λ (es : List Expr). Parsed front s1 (stands ts o) (is_read (followed_by (views es) (Then x NoTree)))) e one in
    let rest = goes_as ts o (λ us. left_trees expr g front (length us) us) (left_trees expr g front n) (rw q refl) w in
    then (λ y. more_at expr g (length y.1) y.1 >>= λ z. Ok (Then y.0 z.0, z.1)) first (then (λ y. left_trees expr g y.0 (length y.1) y.1) added rest)

pub trees_next : (expr : Reader) (g : Bool) (front next v : Trees) (x : Tree) (i n : ℕ) (ts us : List Token) (o : Option Refusal) (s0 s1 s2 s3 : At) → i < n → comma_at ts ≡ Some us → s0 ≡ stands us o → Parsed x s0 s1 (expr g Whole) → Parsed next s1 s2 (is_read (followed_by front (Then x NoTree)))
    → Parsed v s2 s3 (left_trees expr g next (n - (i + 1))) → Parsed v (stands ts o) s3 (left_trees expr g front (n - i))
trees_next expr g front next v x i n ts us o s0 s1 s2 s3 lt e q w p h =
    goes_on ts us o (left_trees expr g front (n - i)) (λ vs. one_tree expr g front vs >>= λ y. left_trees expr g y.0 (n - (i + 1)) y.1) q (trees_more expr g front i n ts us lt e)
    (then (λ y. left_trees expr g y.0 (n - (i + 1)) y.1) (then (λ y. is_read (followed_by front (Then y.0 NoTree)) y.1) w p) h)

pub trees_end : (expr : Reader) (g : Bool) (front : Trees) (w : ℕ) (ts : List Token) (o : Option Refusal) → comma_at ts ≡ None → Parsed front (stands ts o) (stands ts o) (left_trees expr g front w)
trees_end expr g front w ts o e = came front ts ts o (stands ts o) (left_trees expr g front w) refl (trees_none expr g front w ts e)

pub trees_over : (expr : Reader) (g : Bool) (front : Trees) (w : ℕ) (ts : List Token) (o : Option Refusal) → w ≡ 0 → Parsed front (stands ts o) (stands ts o) (left_trees expr g front w)
trees_over expr g front w ts o e = came front ts ts o (stands ts o) (left_trees expr g front w) refl (trees_done expr g front w ts e)

-- ---- arguments

arguments_none : (expr : Reader) (ts us : List Token) → close_at ts ≡ Ok us → arguments_at expr ts ≡ Ok (NoTree, us)
arguments_none expr (Close ∷ ts) us e = ap (λ (r : Result (List Token) Fault). r >>= λ vs. Ok (NoTree, vs)) e
arguments_none expr _ us e = absurd cc

arguments_some : (expr : Reader) (ts : List Token) → close_at ts ≡ Err Syntax → arguments_at expr ts ≡ (list_at expr true ts >>= λ x. close_at x.1 >>= λ us. Ok (x.0, us))
arguments_some expr (Close ∷ ts) e = absurd cc
arguments_some expr _ e = refl

pub no_arguments : (expr : Reader) (items : List Expr) (ts us : List Token) (o : Option Refusal) (s : At) → items ≡ [] → close_at ts ≡ Ok us → s ≡ stands us o → Parsed (views items) (stands ts o) s (arguments_at expr)
no_arguments expr items ts us o s z e q = rw z (came NoTree ts us o s (arguments_at expr) q (arguments_none expr ts us e))

pub some_arguments : (expr : Reader) (v : Trees) (ts : List Token) (o : Option Refusal) (s1 s2 : At) → close_at ts ≡ Err Syntax → Parsed v (stands ts o) s1 (list_at expr true) → Passed s1 s2 close_at → Parsed v (stands ts o) s2 (arguments_at expr)
some_arguments expr v ts o s1 s2 e w p = goes_as ts o (arguments_at expr) (λ us. list_at expr true us >>= λ x. close_at x.1 >>= λ vs. Ok (x.0, vs)) (arguments_some expr ts e) (then (λ x. close_at x.1 >>= λ vs. Ok (x.0, vs)) w (past (λ vs. Ok (v, vs)) p (stays v s2)))
