-- Reading one thing after another, where only who asks at the end learns that reading stopped.
use Rattle.std.proofs.Common.{◌≡◌, Bool, false, Option, Some, None, List, [], ◌∷◌, length, map, Result, Ok, Err, refl, sym, subst, ◌∙◌, arith}
use Rattle.std.proofs.lemmas.List.{length-map}
use Rattle.awk_tokens.specs.Cutting.{Spelled}
use Rattle.awk_tokens.specs.Views.{spelled}
use Rattle.awk_tokens.specs.declared.token.Token.{Token as ScriptToken}
use Rattle.awk_grammar.specs.Lexeme.{spoken_after, is_function}
use Rattle.awk_grammar.specs.Token.{Token}
use Rattle.awk_grammar.specs.Reading.{Fault, ◌>>=◌}
use Rattle.awk_grammar.specs.ReadStmt.{Read}
use Rattle.awk_parse.specs.declared.refusal.Refusal.{Refusal}
use Rattle.awk_parse.specs.declared.refusal.Refusal.TheVariants as refusals
use Rattle.awk_parse.specs.Seen.{Fails, seen}
use Rattle.awk_parse.specs.Parsed.{At, stands, ended, Reaches, Parsed, Passed, Ends, is_read}

-- ---- tokens as the grammar sees them

spoken_length : (b : Bool) (ts : List Spelled) → length (spoken_after b ts) ≡ length ts
spoken_length b [] = refl
spoken_length b (t ∷ ts) = omega (arith, spoken_length (is_function t.kind) ts)

pub seen_length : (ts : List ScriptToken) → length (seen ts) ≡ length ts
seen_length ts = spoken_length false (map spelled ts) ∙ length-map ts spelled

-- ---- one thing after another

fails_bind : {A B : Type 0} (e : Refusal) (r : Result A Fault) (f : A → Result B Fault) → Fails e r → Fails e (r >>= f)
fails_bind refusals.NoMemory r f h = tt
fails_bind (refusals.Syntax line) r f h = rw h refl
fails_bind (refusals.TooDeep line) r f h = rw h refl

fails_is : {A : Type 0} (e : Refusal) (r s : Result A Fault) → r ≡ s → Fails e s → Fails e r
fails_is e r s q h = subst (Fails e) (sym q) h

fails_then : {A B : Type 0} (e : Refusal) (r : Result A Fault) (x : A) (f : A → Result B Fault) → r ≡ Ok x → Fails e (f x) → Fails e (r >>= f)
fails_then e r x f q h = rw q h

bound : {A C : Type 0} (f : List Token → A) (g : List Token → C) (s0 s1 s2 : At) (r : List Token → Result A Fault) (q : A → Result C Fault) → Reaches f s0 s1 r → Reaches g s1 s2 (λ us. q (f us)) → Reaches g s0 s2 (λ ts. r ts >>= q)
bound f g s0 (Err e) (Ok vs) r q p h = absurd h
bound f g (Err d) (Ok us) (Ok vs) r q p h = absurd p
bound f g (Err d) (Ok us) (Err k) r q p h = absurd p
bound f g (Err d) (Err e) (Err k) r q p h = p ∙ h
bound f g (Ok ts) (Err e) (Err k) r q p h = fails_bind k (r ts) q (subst (λ (x : Refusal). Fails x (r ts)) h p)
bound f g (Ok ts) (Ok us) (Ok vs) r q p h = rw p h
bound f g (Ok ts) (Ok us) (Err k) r q p h = fails_then k (r ts) (f us) q p h

pub then : {A B : Type 0} {a : A} {b : B} {s0 s1 s2 : At} {r : List Token → Read A} (q : A × List Token → Read B) → Parsed a s0 s1 r → Parsed b s1 s2 (λ us. q (a, us)) → Parsed b s0 s2 (λ ts. r ts >>= q)
then {A} {B} {a} {b} {s0} {s1} {s2} {r} q p h = record { went = bound (λ us. (a, us)) (λ us. (b, us)) s0 s1 s2 r q p.went h.went }

pub past : {B : Type 0} {b : B} {s0 s1 s2 : At} {r : List Token → Result (List Token) Fault} (q : List Token → Read B) → Passed s0 s1 r → Parsed b s1 s2 q → Parsed b s0 s2 (λ ts. r ts >>= q)
past {B} {b} {s0} {s1} {s2} {r} q p h = record { went = bound (λ us. us) (λ us. (b, us)) s0 s1 s2 r q p.passed h.went }

pub then_ends : {A B : Type 0} {a : A} {b : B} {s0 s1 s2 : At} {r : List Token → Read A} (q : A × List Token → Result B Fault) → Parsed a s0 s1 r → Ends b s1 s2 (λ us. q (a, us)) → Ends b s0 s2 (λ ts. r ts >>= q)
then_ends {A} {B} {a} {b} {s0} {s1} {s2} {r} q p h = record { ends = bound (λ us. (a, us)) (λ us. b) s0 s1 s2 r q p.went h.ends }

-- nothing is read
pub stays : {A : Type 0} (a : A) (s : At) → Parsed a s s (is_read a)
stays a (Ok ts) = record { went = refl }
stays a (Err e) = record { went = refl }

pub binds : {A B C : Type 0} (r : Result A Fault) (f : A → Result B Fault) (h : A → Result C Fault) (k : B → Result C Fault) → ((x : A) → h x ≡ (f x >>= k)) → (r >>= h) ≡ (r >>= f >>= k)
binds (Ok x) f h k e = e x
binds (Err d) f h k e = refl

-- ---- steps

arrives : {A : Type 0} (f : List Token → A) (ts us : List Token) (o : Option Refusal) (s : At) (r : List Token → Result A Fault) → s ≡ stands us o → r ts ≡ Ok (f us) → Reaches f (stands ts o) s r
arrives f ts us None s r e q = rw e q
arrives f ts us (Some d) s r e q = rw e refl

halts : {A : Type 0} (f : List Token → A) (ts : List Token) (o : Option Refusal) (e : Refusal) (s : At) (r : List Token → Result A Fault) → s ≡ ended (stands ts o) e → Fails e (r ts) → Reaches f (stands ts o) s r
halts f ts None e s r q h = rw q h
halts f ts (Some d) e s r q h = rw q refl

moves : {A : Type 0} (f : List Token → A) (ts us : List Token) (o : Option Refusal) (s : At) (r r' : List Token → Result A Fault) → r ts ≡ r' us → Reaches f (stands us o) s r' → Reaches f (stands ts o) s r
moves f ts us None (Ok vs) r r' q h = q ∙ h
moves f ts us None (Err k) r r' q h = fails_is k (r ts) (r' us) q h
moves f ts us (Some d) (Ok vs) r r' q h = h
moves f ts us (Some d) (Err k) r r' q h = h

-- where reading stops does not matter for what is left
pub ended_same : (ts us : List Token) (o : Option Refusal) (e : Refusal) → ended (stands ts o) e ≡ ended (stands us o) e
ended_same ts us None e = refl
ended_same ts us (Some d) e = refl

-- what was read here
pub came : {A : Type 0} (a : A) (ts us : List Token) (o : Option Refusal) (s : At) (r : List Token → Read A) → s ≡ stands us o → r ts ≡ Ok (a, us) → Parsed a (stands ts o) s r
came a ts us o s r e q = record { went = arrives (λ vs. (a, vs)) ts us o s r e q }

pub passes : (ts us : List Token) (o : Option Refusal) (s : At) (r : List Token → Result (List Token) Fault) → s ≡ stands us o → r ts ≡ Ok us → Passed (stands ts o) s r
passes ts us o s r e q = record { passed = arrives (λ vs. vs) ts us o s r e q }

pub all_came : {A : Type 0} (a : A) (ts : List Token) (o : Option Refusal) (r : List Token → Result A Fault) → r ts ≡ Ok a → Ends a (stands ts o) (stands ts o) r
all_came a ts o r q = record { ends = arrives (λ vs. a) ts ts o (stands ts o) r refl q }

-- reading stops here
pub fails_here : {A : Type 0} (a : A) (ts : List Token) (o : Option Refusal) (e : Refusal) (s : At) (r : List Token → Read A) → s ≡ ended (stands ts o) e → Fails e (r ts) → Parsed a (stands ts o) s r
fails_here a ts o e s r q h = record { went = halts (λ vs. (a, vs)) ts o e s r q h }

pub fails_to_pass : (ts : List Token) (o : Option Refusal) (e : Refusal) (s : At) (r : List Token → Result (List Token) Fault) → s ≡ ended (stands ts o) e → Fails e (r ts) → Passed (stands ts o) s r
fails_to_pass ts o e s r q h = record { passed = halts (λ vs. vs) ts o e s r q h }

pub fails_all : {A : Type 0} (a : A) (ts : List Token) (o : Option Refusal) (e : Refusal) (s : At) (r : List Token → Result A Fault) → s ≡ ended (stands ts o) e → Fails e (r ts) → Ends a (stands ts o) s r
fails_all a ts o e s r q h = record { ends = halts (λ vs. a) ts o e s r q h }

-- reading goes on from other tokens, as one that begins there
pub goes_on : {A : Type 0} {a : A} (ts us : List Token) (o : Option Refusal) {s1 s2 : At} (r r' : List Token → Read A) → s1 ≡ stands us o → r ts ≡ r' us → Parsed a s1 s2 r' → Parsed a (stands ts o) s2 r
goes_on {A} {a} ts us o {s1} {s2} r r' e q h = record { went = moves (λ vs. (a, vs)) ts us o s2 r r' q (subst (λ (s : At). Reaches (λ vs. (a, vs)) s s2 r') e h.went) }

-- reading goes on as another reading does here
pub goes_as : {A : Type 0} {a : A} (ts : List Token) (o : Option Refusal) {s : At} (r r' : List Token → Read A) → r ts ≡ r' ts → Parsed a (stands ts o) s r' → Parsed a (stands ts o) s r
goes_as {A} {a} ts o {s} r r' q h = record { went = moves (λ vs. (a, vs)) ts ts o s r r' q h.went }

pub ends_as : {A : Type 0} {a : A} (ts : List Token) (o : Option Refusal) {s : At} (r r' : List Token → Result A Fault) → r ts ≡ r' ts → Ends a (stands ts o) s r' → Ends a (stands ts o) s r
ends_as {A} {a} ts o {s} r r' q h = record { ends = moves (λ vs. a) ts ts o s r r' q h.ends }

-- where reading stopped before it does not matter what is read
pub goes_nowhere : {A : Type 0} {a : A} {d : Refusal} {s : At} (r r' : List Token → Read A) → Parsed a (Err d) s r' → Parsed a (Err d) s r
goes_nowhere {A} {a} {d} {s = Ok us} r r' h = absurd h.went
goes_nowhere {A} {a} {d} {s = Err e} r r' h = record { went = h.went }

-- reading as another reading does
pub reads_as : {A : Type 0} {a : A} {s0 s1 : At} (r r' : List Token → Read A) → ((ts : List Token) → r ts ≡ r' ts) → Parsed a s0 s1 r' → Parsed a s0 s1 r
reads_as {A} {a} {s0 = Ok ts} {s1} r r' q h = goes_as ts None r r' (q ts) h
reads_as {A} {a} {s0 = Err d} {s1} r r' q h = goes_nowhere r r' h

-- ---- what finds no memory, and what does

pub is_here : {A : Type 0} (a x : A) (s : At) → a ≡ x → Parsed a s s (is_read x)
is_here a x s e = rw e (stays x s)

pub no_memory : {A : Type 0} (a : A) (s0 s1 : At) (r : List Token → Read A) → s1 ≡ ended s0 refusals.NoMemory → Parsed a s0 s1 r
no_memory a (Ok ts) s1 r h = rw h (record { went = tt })
no_memory a (Err d) s1 r h = rw h (record { went = refl })

-- what is read after it does not matter
pub no_memory_then : {A : Type 0} {a : A} (s0 s1 s2 : At) (r r' : List Token → Read A) → s1 ≡ ended s0 refusals.NoMemory → Parsed a s1 s2 r' → Parsed a s0 s2 r
no_memory_then {A} {a} (Ok ts) s1 s2 r r' e h = stopped s2 (subst (λ (s : At). Parsed a s s2 r') e h)
  where
    stopped : (s : At) → Parsed a (Err refusals.NoMemory) s r' → Parsed a (Ok ts) s r
    stopped (Ok us) w = absurd w.went
    stopped (Err k) w = rw (sym w.went) (record { went = tt })
no_memory_then {A} {a} (Err d) s1 s2 r r' e h = goes_nowhere r r' (subst (λ (s : At). Parsed a s s2 r') e h)

pub kept_then : {A X : Type 0} {a : A} (f : X → List Token → Read A) (x y : X) (s0 s1 s2 : At) → (x ≡ y) × (s1 ≡ s0) → Parsed a s1 s2 (f x) → Parsed a s0 s2 (f y)
kept_then {A} {X} {a} f x y s0 s1 s2 h w = subst (λ (z : X). Parsed a s0 s2 (f z)) h.0 (subst (λ (s : At). Parsed a s s2 (f x)) h.1 w)
