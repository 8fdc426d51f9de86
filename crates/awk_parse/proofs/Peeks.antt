-- The head of a loop over keys.
use Rattle.std.proofs.Common.{◌≡◌, ℕ, ◌∙◌, List, ◌∷◌, Some, None, Ok, Err, ap, refl}
use Rattle.awk_grammar.specs.Token.{Token as Lexeme, Name, InWord, Close}
use Rattle.awk_grammar.specs.Reading.{Syntax, name_at, in_at, close_at}
use Rattle.awk_grammar.specs.ReadStmt.{keys_at}
use Rattle.awk_grammar.proofs.Sound.{ok_is, cons, name_ok, close_ok}

in_ok : (ts us : List Lexeme) → in_at ts ≡ Ok us → ts ≡ InWord ∷ us
in_ok (InWord ∷ ts) us e = ap (cons InWord) (ok_is ts us e)
in_ok _ us e = absurd cc

pub keys_no_key : (ts : List Lexeme) → name_at ts ≡ Err Syntax → keys_at ts ≡ None
keys_no_key (Name k ∷ ts) e = absurd cc
keys_no_key _ e = refl

after_key : (k : List ℕ) (ts : List Lexeme) → in_at ts ≡ Err Syntax → keys_at (Name k ∷ ts) ≡ None
after_key k (InWord ∷ ts) e = absurd cc
after_key k _ e = refl

after_in : (k : List ℕ) (ts : List Lexeme) → name_at ts ≡ Err Syntax → keys_at (Name k ∷ (InWord ∷ ts)) ≡ None
after_in k (Name a ∷ ts) e = absurd cc
after_in k _ e = refl

after_array : (k a : List ℕ) (ts : List Lexeme) → close_at ts ≡ Err Syntax → keys_at (Name k ∷ (InWord ∷ (Name a ∷ ts))) ≡ None
after_array k a (Close ∷ ts) e = absurd cc
after_array k a _ e = refl

pub keys_no_in : (ts : List Lexeme) (x : List ℕ × List Lexeme) → name_at ts ≡ Ok x → in_at x.1 ≡ Err Syntax → keys_at ts ≡ None
keys_no_in ts x n e = ap keys_at (name_ok ts x n) ∙ after_key x.0 x.1 e

pub keys_no_array : (ts us : List Lexeme) (x : List ℕ × List Lexeme) → name_at ts ≡ Ok x → in_at x.1 ≡ Ok us → name_at us ≡ Err Syntax → keys_at ts ≡ None
keys_no_array ts us x n i e = ap keys_at (name_ok ts x n ∙ ap (cons (Name x.0)) (in_ok x.1 us i)) ∙ after_in x.0 us e

pub keys_no_close : (ts us : List Lexeme) (x y : List ℕ × List Lexeme) → name_at ts ≡ Ok x → in_at x.1 ≡ Ok us → name_at us ≡ Ok y → close_at y.1 ≡ Err Syntax → keys_at ts ≡ None
keys_no_close ts us x y n i m e = ap keys_at (name_ok ts x n ∙ ap (cons (Name x.0)) (in_ok x.1 us i ∙ ap (cons InWord) (name_ok us y m))) ∙ after_array x.0 y.0 y.1 e

pub keys_found : (ts us vs : List Lexeme) (x y : List ℕ × List Lexeme) → name_at ts ≡ Ok x → in_at x.1 ≡ Ok us → name_at us ≡ Ok y → close_at y.1 ≡ Ok vs → keys_at ts ≡ Some (x.0, y.0, vs)
keys_found ts us vs x y n i m e = ap keys_at (name_ok ts x n ∙ ap (cons (Name x.0)) (in_ok x.1 us i ∙ ap (cons InWord) (name_ok us y m ∙ ap (cons (Name y.0)) (close_ok y.1 vs e))))
