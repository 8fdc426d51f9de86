-- What is held, or not where reading stopped.
use Rattle.std.proofs.Common.{◌≡◌, Option, Some, None, List, Ok, Err, refl, subst}
use Rattle.std.specs.Prelude.{MatchOption}
use Rattle.std.specs.declared.boxed.Box.{Box}
use Rattle.std.specs.declared.alloc.Global.{Global}
use Rattle.awk_grammar.specs.Token.{Token}
use Rattle.awk_grammar.specs.Trees.{Empty}
use Rattle.awk_grammar.specs.ReadStmt.{Read}
use Rattle.awk_grammar.specs.ViewStmt.{view_stmt}
use Rattle.awk_grammar.specs.declared.tree.Stmt.{Stmt}
use Rattle.awk_parse.specs.declared.refusal.Refusal.{Refusal}
use Rattle.awk_parse.specs.declared.refusal.Refusal.TheVariants.{NoMemory}
use Rattle.awk_parse.specs.Parsed.{At, ended, Parsed, is_read}
use Rattle.awk_parse.proofs.ParsedLemmas.{stays, no_memory, kept_then}
use Rattle.awk_parse.specs.Bodies.{Held, view_boxed}

-- where nothing is held reading stopped before
pub none_went : {A X : Type 0} (a : A) (o : Option X) (s : At) (r : List Token → Read A) → o ≡ None → Held o s → Parsed a s s r
none_went {A} {X} a o (Ok us) r e h = absurd (subst (λ (x : Option X). Held x (Ok us)) e h)
none_went a o (Err d) r e h = record { went = refl }

ended_held : (X : Type 0) (s0 s1 : At) (e : Refusal) → s1 ≡ ended s0 e → Held {A = X} None s1
ended_held X (Ok ts) s1 e q = rw q tt
ended_held X (Err d) s1 e q = rw q tt

pub kept : {A X : Type 0} (f : X → A) (x y : X) (s0 s1 : At) → (x ≡ y) × (s1 ≡ s0) → Parsed (f x) s0 s1 (is_read (f y))
kept f x y s0 s1 h = kept_then (λ z. is_read (f z)) x y s0 s1 s1 h (stays (f x) s1)

pub boxed_went : (o : Option (Box Stmt Global)) (v : Stmt) (s0 s1 : At) → MatchOption o (s1 ≡ ended s0 NoMemory) (λ b. (b.value ≡ v) × (s1 ≡ s0)) → Parsed (view_boxed o) s0 s1 (is_read (view_stmt v))
boxed_went (Some b) v s0 s1 h = kept view_stmt b.value v s0 s1 h
boxed_went None v s0 s1 h = no_memory Empty s0 s1 (is_read (view_stmt v)) h

pub boxed_held : {X : Type 0} (o : Option (Box X Global)) (v : X) (s0 s1 : At) → MatchOption o (s1 ≡ ended s0 NoMemory) (λ b. (b.value ≡ v) × (s1 ≡ s0)) → Held o s1
boxed_held (Some b) v s0 s1 h = tt
boxed_held {X} None v s0 s1 h = ended_held X s0 s1 NoMemory h
