-- Expressions: an operand, the step after it, and the operators after that in a loop.
use Rattle.std.proofs.Common.{◌≡◌, ℕ, zero, suc, ◌+◌, ◌-◌, ◌<◌, Bool, true, false, cond, ltb, Option, Some, None, List, length, Ok, Err, refl, ap, subst, ◌∙◌, arith}
use Rattle.awk_grammar.specs.Token.{Token}
use Rattle.awk_grammar.specs.Reading.{TooDeep, ◌>>=◌, Read, Reader, Link, link_at, stops, after, checked, goes_on, climb, expr_at, first_at, fitting, posted}
use Rattle.awk_grammar.specs.Tree.{Mode, floor}
use Rattle.awk_grammar.specs.Trees.{Tree, depth}
use Rattle.awk_grammar.proofs.Sound.{that_is}
use Rattle.awk_parse.specs.declared.refusal.Refusal.{Refusal}
use Rattle.awk_parse.specs.Operands.{done, fitted_at, joining_by, joining_at}
use Rattle.awk_parse.specs.Parsed.{At, stands, Parsed}
use Rattle.awk_parse.proofs.ParsedLemmas.{then, came, goes_on as moved_on, goes_as, reads_as}

-- ---- one link

no_link : (expr : Reader) (g : Bool) (limit l : ℕ) (t : Tree) (ts : List Token) (go : Tree → List Token → Read) (o : Option (Link × List Token)) → joining_by l t ts o ≡ None → goes_on expr g limit l t ts go o ≡ Ok (t, ts)
no_link expr g limit l t ts go None e = refl
no_link expr g limit l t ts go (Some o) e = by (stops l t ts o.0) e
  where
    by : (b : Bool) → cond {A = Option (Link × List Token)} b None (Some o) ≡ None → cond {A = Read} b (Ok (t, ts)) (after expr g t o.0 o.1 >>= checked limit go) ≡ Ok (t, ts)
    by true e = refl
    by false e = absurd cc

a_link : (expr : Reader) (g : Bool) (limit l : ℕ) (t : Tree) (ts : List Token) (go : Tree → List Token → Read) (o : Option (Link × List Token)) (p : Link × List Token) → joining_by l t ts o ≡ Some p → goes_on expr g limit l t ts go o ≡ (after expr g t p.0 p.1 >>= checked limit go)
a_link expr g limit l t ts go None p e = absurd cc
a_link expr g limit l t ts go (Some o) p e = by (stops l t ts o.0) e
  where
    by : (b : Bool) → cond {A = Option (Link × List Token)} b None (Some o) ≡ Some p → cond {A = Read} b (Ok (t, ts)) (after expr g t o.0 o.1 >>= checked limit go) ≡ (after expr g t p.0 p.1 >>= checked limit go)
    by true e = absurd cc
    by false e = ap (λ (q : Link × List Token). after expr g t q.0 q.1 >>= checked limit go) (that_is o p e)

climb_none : (expr : Reader) (g : Bool) (limit w l : ℕ) (t : Tree) (ts : List Token) → joining_at g l t ts ≡ None → climb expr g limit w l t ts ≡ Ok (t, ts)
climb_none expr g limit zero l t ts e = refl
climb_none expr g limit (suc w) l t ts e = no_link expr g limit l t ts (climb expr g limit w l) (link_at g ts) e

climb_more : (expr : Reader) (g : Bool) (limit i n l : ℕ) (t : Tree) (ts : List Token) (p : Link × List Token) → i < n → joining_at g l t ts ≡ Some p → climb expr g limit (n - i) l t ts ≡ (after expr g t p.0 p.1 >>= checked limit (climb expr g limit (n - (i + 1)) l))
climb_more expr g limit i n l t ts p lt e =
    let m : n - i ≡ suc (n - (i + 1)) = omega arith in
    rw m (a_link expr g limit l t ts (climb expr g limit (n - (i + 1)) l) (link_at g ts) p e)

checked_then : (limit : ℕ) (go : Tree → List Token → Read) (x : Tree × List Token) → checked limit go x ≡ (checked limit done x >>= λ y. go y.0 y.1)
checked_then limit go x = by (ltb limit (depth x.0))
  where
    by : (b : Bool) → cond {A = Read} b (Err TooDeep) (go x.0 x.1) ≡ (cond {A = Read} b (Err TooDeep) (done x.0 x.1) >>= λ y. go y.0 y.1)
    by true = refl
    by false = refl

-- ---- in a loop

pub climb_begin : (expr : Reader) (g : Bool) (limit n l : ℕ) (t v : Tree) (ts : List Token) (o : Option Refusal) (s : At) → n ≡ length ts → Parsed v (stands ts o) s (climb expr g limit n l t) → Parsed v (stands ts o) s (λ us. climb expr g limit (length us) l t us)
climb_begin expr g limit n l t v ts o s q w = goes_as ts o (λ us. climb expr g limit (length us) l t us) (climb expr g limit n l t) (rw q refl) w

pub climb_next : (expr : Reader) (g : Bool) (limit i n l : ℕ) (t x v : Tree) (ts us : List Token) (k : Link) (o : Option Refusal) (s0 s1 s2 s3 : At) → i < n → joining_at g l t ts ≡ Some (k, us) → s0 ≡ stands us o → Parsed x s0 s1 (after expr g t k) → Parsed x s1 s2 (λ vs. checked limit done (x, vs))
    → Parsed v s2 s3 (climb expr g limit (n - (i + 1)) l x) → Parsed v (stands ts o) s3 (climb expr g limit (n - i) l t)
climb_next expr g limit i n l t x v ts us k o s0 s1 s2 s3 lt e q w c h =
    let go = climb expr g limit (n - (i + 1)) l in
    moved_on ts us o (climb expr g limit (n - i) l t) (λ vs. after expr g t k vs >>= checked limit go) q (climb_more expr g limit i n l t ts (k, us) lt e)
    (then (checked limit go) w (reads_as (λ vs. checked limit go (x, vs)) (λ vs. checked limit done (x, vs) >>= λ y. go y.0 y.1) (λ vs. checked_then limit go (x, vs)) (then (λ y. go y.0 y.1) c h)))

pub climb_end : (expr : Reader) (g : Bool) (limit w l : ℕ) (t : Tree) (ts : List Token) (o : Option Refusal) → joining_at g l t ts ≡ None → Parsed t (stands ts o) (stands ts o) (climb expr g limit w l t)
climb_end expr g limit w l t ts o e = came t ts ts o (stands ts o) (climb expr g limit w l t) refl (climb_none expr g limit w l t ts e)

pub climb_over : (expr : Reader) (g : Bool) (limit w l : ℕ) (t : Tree) (ts : List Token) (o : Option Refusal) → w ≡ 0 → Parsed t (stands ts o) (stands ts o) (climb expr g limit w l t)
climb_over expr g limit w l t ts o e = came t ts ts o (stands ts o) (climb expr g limit w l t) refl (rw e refl)

-- ---- the whole

pub expr_none : (limit : ℕ) (g : Bool) (m : Mode) (ts : List Token) → limit ≡ 0 → expr_at limit g m ts ≡ Err TooDeep
unfolding expr_at
expr_none limit g m ts e = rw e refl

abbrev rest_of : ℕ → Bool → Mode → Tree → List Token → Read
rest_of limit g m t ts = climb (expr_at (limit - 1)) g limit (length ts) (floor m) t ts

expr_some : (limit : ℕ) (g : Bool) (m : Mode) (ts : List Token) → 0 < limit → expr_at limit g m ts ≡ (first_at (expr_at (limit - 1)) g m ts >>= λ x. fitting m (posted m x) >>= checked limit (λ t us. climb (expr_at (limit - 1)) g limit (length us) (floor m) t us))
unfolding expr_at
expr_some zero g m ts h = absurd (omega arith)
expr_some (suc d) g m ts h = let e : suc d - 1 ≡ d = omega arith in rw e refl

expr_is : (limit : ℕ) (g : Bool) (m : Mode) (ts : List Token) → 0 < limit → expr_at limit g m ts ≡ (first_at (expr_at (limit - 1)) g m ts >>= λ x. fitted_at limit m x >>= λ z. rest_of limit g m z.0 z.1)
expr_is limit g m ts h = expr_some limit g m ts h ∙ by (first_at (expr_at (limit - 1)) g m ts)
  where
    within : (r : Read) → (r >>= checked limit (rest_of limit g m)) ≡ (r >>= checked limit done >>= λ z. rest_of limit g m z.0 z.1)
    within (Ok x) = checked_then limit (rest_of limit g m) x
    within (Err f) = refl

    by : (r : Read) → (r >>= λ x. fitting m (posted m x) >>= checked limit (rest_of limit g m)) ≡ (r >>= λ x. fitted_at limit m x >>= λ z. rest_of limit g m z.0 z.1)
    by (Ok x) = within (fitting m (posted m x))
    by (Err f) = refl

pub expr_went : (limit : ℕ) (g : Bool) (m : Mode) (l : ℕ) (b t v : Tree) (s0 s1 s2 s3 : At) → 0 < limit → l ≡ floor m → Parsed b s0 s1 (first_at (expr_at (limit - 1)) g m) → Parsed t s1 s2 (λ ts. fitted_at limit m (b, ts)) → Parsed v s2 s3 (λ ts. climb (expr_at (limit - 1)) g limit (length ts) l t ts) → Parsed v s0 s3 (expr_at limit g m)
expr_went limit g m l b t v s0 s1 s2 s3 h e first fit more =
    let rest = subst (λ (n : ℕ). Parsed v s2 s3 (λ ts. climb (expr_at (limit - 1)) g limit (length ts) n t ts)) e more in
    reads_as (expr_at limit g m) (λ ts. first_at (expr_at (limit - 1)) g m ts >>= λ x. fitted_at limit m x >>= λ z. rest_of limit g m z.0 z.1) (λ ts. expr_is limit g m ts h)
    (then (λ x. fitted_at limit m x >>= λ z. rest_of limit g m z.0 z.1) first (then (λ z. rest_of limit g m z.0 z.1) fit rest))
