-- What `print` has in parentheses, or without.
use Rattle.std.proofs.Common.{◌≡◌, Bool, true, false, Option, Some, None, List, Ok, Err, refl, sym, subst, ◌∙◌}
use Rattle.std.specs.Prelude.{if◌then◌else◌}
use Rattle.awk_grammar.specs.Token.{Token}
use Rattle.awk_grammar.specs.Reading.{Syntax, TooDeep, ◌>>=◌, Reader, close_at, list_at}
use Rattle.awk_grammar.specs.Tree.{Whole}
use Rattle.awk_grammar.specs.Trees.{Tree, Trees, Printing, Args, Enclosed}
use Rattle.awk_grammar.specs.ReadStmt.{Read, starts_expr, open_here, comma_here, is_in, enclosed_at, listed_at, args_by, args_at}
use Rattle.awk_parse.specs.declared.refusal.Refusal.{Refusal}
use Rattle.awk_parse.specs.declared.refusal.Refusal.TheVariants as refusals
use Rattle.awk_parse.specs.Bodies.{enclosed_args_at}
use Rattle.awk_parse.specs.Parsed.{At, stands, Parsed, IsSyntax, IsNoSyntax}
use Rattle.awk_parse.proofs.ParsedLemmas.{binds, goes_as, goes_nowhere}

abbrev enclosing : (Tree × Trees) × List Token → Read Args
enclosing x = Ok (Enclosed x.0.0 x.0.1, x.1)

not_in : (t : Tree) (us : Trees) (b : Bool) (ts : List Token) → ((if b then Err Syntax else Ok ts) >>= λ vs. Ok (Enclosed t us, vs)) ≡ ((if b then Err Syntax else Ok ((t, us), ts)) >>= enclosing)
not_in t us true ts = refl
not_in t us false ts = refl

enclosed_is : (expr : Reader) (ts : List Token) → enclosed_args_at expr ts ≡ (enclosed_at expr ts >>= enclosing)
enclosed_is expr ts =
    binds (open_here ts) _ _ enclosing (λ us.
    binds (expr true Whole us) _ _ enclosing (λ x.
    binds (comma_here x.1) _ _ enclosing (λ vs.
    binds (list_at expr true vs) _ _ enclosing (λ y.
    binds (close_at y.1) _ _ enclosing (λ ws. not_in x.0 y.0 (is_in ws) ws)))))

in_parentheses : (expr : Reader) (ts : List Token) (r : Read (Tree × Trees)) (x : Args × List Token) → (r >>= enclosing) ≡ Ok x → args_by expr ts r ≡ Ok x
in_parentheses expr ts (Ok y) x e = e
in_parentheses expr ts (Err f) x e = absurd cc

too_deep : (expr : Reader) (ts : List Token) (r : Read (Tree × Trees)) → (r >>= enclosing) ≡ Err TooDeep → args_by expr ts r ≡ Err TooDeep
too_deep expr ts (Ok y) e = absurd cc
too_deep expr ts (Err TooDeep) e = refl
too_deep expr ts (Err Syntax) e = absurd cc

without : (expr : Reader) (ts : List Token) (r : Read (Tree × Trees)) → (r >>= enclosing) ≡ Err Syntax → args_by expr ts r ≡ listed_at expr ts
without expr ts (Ok y) e = absurd cc
without expr ts (Err TooDeep) e = absurd cc
without expr ts (Err Syntax) e = refl

-- the form in parentheses
pub args_enclosed : (expr : Reader) (p : Printing) (a : Args) (ts us : List Token) (o k : Option Refusal) → starts_expr ts ≡ true → IsNoSyntax k → Parsed a (stands ts o) (stands us k) (enclosed_args_at expr) → Parsed a (stands ts o) (stands us k) (args_at expr p)
args_enclosed expr p a ts us (Some d) k b n h = goes_nowhere (args_at expr p) (enclosed_args_at expr) h
args_enclosed expr p a ts us None None b n h = record { went = rw b (in_parentheses expr ts (enclosed_at expr ts) (a, us) (sym (enclosed_is expr ts) ∙ h.went)) }
args_enclosed expr p a ts us None (Some (refusals.Syntax line)) b n h = absurd n
args_enclosed expr p a ts us None (Some (refusals.TooDeep line)) b n h = record { went = rw b (too_deep expr ts (enclosed_at expr ts) (sym (enclosed_is expr ts) ∙ h.went)) }
args_enclosed expr p a ts us None (Some refusals.NoMemory) b n h = record { went = tt }

-- the form without
pub args_listed : (expr : Reader) (p : Printing) (a b : Args) (ts us : List Token) (o k : Option Refusal) (s1 s2 : At) → starts_expr ts ≡ true → IsSyntax k → Parsed a (stands ts o) (stands us k) (enclosed_args_at expr) → s1 ≡ stands ts o → Parsed b s1 s2 (listed_at expr) → Parsed b (stands ts o) s2 (args_at expr p)
args_listed expr p a b ts us o k s1 s2 t i h e w = by o k i h (subst (λ (s : At). Parsed b s s2 (listed_at expr)) e w)
  where
    by : (o k : Option Refusal) → IsSyntax k → Parsed a (stands ts o) (stands us k) (enclosed_args_at expr) → Parsed b (stands ts o) s2 (listed_at expr) → Parsed b (stands ts o) s2 (args_at expr p)
    by (Some d) k i h w = goes_nowhere (args_at expr p) (listed_at expr) w
    by None None i h w = absurd i
    by None (Some (refusals.Syntax line)) i h w = goes_as ts None (args_at expr p) (listed_at expr) (rw t (without expr ts (enclosed_at expr ts) (sym (enclosed_is expr ts) ∙ h.went))) w
    by None (Some (refusals.TooDeep line)) i h w = absurd i
    by None (Some refusals.NoMemory) i h w = absurd i
