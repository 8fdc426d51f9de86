-- What an operand and its surroundings ask of one another.
use Rattle.std.proofs.Common.{◌≡◌, ℕ, Bool, Option, Some, None, List, ◌∷◌, refl, subst}
use Rattle.std.specs.Prelude.{MatchOption}
use Rattle.awk_grammar.specs.Token.{Token, Open}
use Rattle.awk_grammar.specs.Tree.{Mode}
use Rattle.awk_grammar.specs.Trees.{Tree}
use Rattle.awk_grammar.specs.Reading.{◌>>=◌, Reader, Link, after, open_at, call_by, from_by, less_at}
use Rattle.awk_grammar.specs.ReadStmt.{open_here}
use Rattle.awk_grammar.specs.View.{view}
use Rattle.awk_grammar.specs.declared.tree.Expr.{Expr}
use Rattle.awk_parse.specs.declared.deep.Part.{Part}
use Rattle.awk_parse.specs.declared.refusal.Refusal.TheVariants as refusals
use Rattle.awk_parse.specs.Operands.{view_variable}
use Rattle.awk_parse.specs.Parsed.{At, ended, Parsed}
use Rattle.awk_parse.proofs.ParsedLemmas.{no_memory_then, kept_then}

-- ---- a call

pub call_is : (expr : Reader) (f : List ℕ) (ts : List Token) → call_by expr f (open_at ts) ≡ (open_here ts >>= λ us. call_by expr f (Some us))
call_is expr f (Open ∷ ts) = refl
call_is expr f _ = refl

-- ---- the variable of `getline`

pub variable_went : (expr : Reader) (g : Bool) (o : Option Part) (e : Expr) (v : Tree) (s0 s1 s2 : At) → MatchOption o (s1 ≡ ended s0 refusals.NoMemory) (λ p. (p.tree.value ≡ e) × (s1 ≡ s0)) → Parsed v s1 s2 (λ ts. from_by expr g (view_variable o) ts (less_at ts))
    → Parsed v s0 s2 (λ ts. from_by expr g (Some (view e)) ts (less_at ts))
variable_went expr g (Some p) e v s0 s1 s2 h w = kept_then (λ x ts. from_by expr g (Some (view x)) ts (less_at ts)) p.tree.value e s0 s1 s2 h w
variable_went expr g None e v s0 s1 s2 h w = no_memory_then s0 s1 s2 (λ ts. from_by expr g (Some (view e)) ts (less_at ts)) (λ ts. from_by expr g None ts (less_at ts)) h w

-- ---- what is read after a left side

pub linked_went : (expr : Reader) (g : Bool) (k l : Link) (e f : Expr) (v : Tree) (s0 s1 s2 : At) → k ≡ l → (e ≡ f) × (s1 ≡ s0) → Parsed v s1 s2 (after expr g (view e) l) → Parsed v s0 s2 (after expr g (view f) k)
linked_went expr g k l e f v s0 s1 s2 q h w = rw q (kept_then (λ (x : Expr). after expr g (view x) l) e f s0 s1 s2 h w)

pub moded : (expr : Reader) (g : Bool) (m n : Mode) {v : Tree} {s0 s1 : At} → m ≡ n → Parsed v s0 s1 (expr g m) → Parsed v s0 s1 (expr g n)
moded expr g m n {v} {s0} {s1} e w = subst (λ (k : Mode). Parsed v s0 s1 (expr g k)) e w
