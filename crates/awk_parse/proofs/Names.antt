-- Reading the parameters of a function in a loop.
use Rattle.std.proofs.Common.{◌≡◌, ℕ, zero, suc, ◌+◌, ◌-◌, ◌<◌, Option, Some, None, List, [], ◌∷◌, ◌++◌, length, Result, Ok, Err, refl, sym, ap, subst, arith, append_assoc}
use Rattle.std.proofs.lemmas.List.{append-nil}
use Rattle.std.specs.declared.vec.Vec.{Vec}
use Rattle.std.specs.declared.alloc.Global.{Global}
use Rattle.awk_grammar.specs.Token.{Token, Name}
use Rattle.awk_grammar.specs.Reading.{Fault, Syntax, ◌>>=◌, comma_at, name_at}
use Rattle.awk_grammar.specs.ReadStmt.{Read}
use Rattle.awk_grammar.specs.ReadItem.{names_at, params_at}
use Rattle.awk_grammar.specs.ViewStmt.{view_names}
use Rattle.awk_grammar.proofs.Sound.{name_ok}
use Rattle.awk_parse.specs.declared.refusal.Refusal.{Refusal}
use Rattle.awk_parse.specs.Names.{with_names}
use Rattle.awk_parse.specs.Parsed.{At, stands, Parsed, is_read}
use Rattle.awk_parse.proofs.ParsedLemmas.{then, stays, came, goes_on, goes_as}

-- names and one more
abbrev one_name : List (List ℕ) → List Token → Read (List (List ℕ))
one_name front ts = name_at ts >>= λ x. Ok (front ++ (x.0 ∷ []), x.1)

front_end : (front : List (List ℕ)) (ts : List Token) → with_names front (Ok ([], ts)) ≡ Ok (front, ts)
front_end front ts = ap (λ (ns : List (List ℕ)). Ok (ns, ts)) (append-nil front)

pub names_none : (front : List (List ℕ)) (w : ℕ) (ts : List Token) → comma_at ts ≡ None → with_names front (names_at w ts) ≡ Ok (front, ts)
names_none front zero ts e = front_end front ts
names_none front (suc w) ts e = rw e (front_end front ts)

pub names_done : (front : List (List ℕ)) (w : ℕ) (ts : List Token) → w ≡ 0 → with_names front (names_at w ts) ≡ Ok (front, ts)
names_done front w ts e = rw e (front_end front ts)

-- one name more
pub names_more : (front : List (List ℕ)) (i n : ℕ) (ts us : List Token) → i < n → comma_at ts ≡ Some us → with_names front (names_at (n - i) ts) ≡ (one_name front us >>= λ y. with_names y.0 (names_at (n - (i + 1)) y.1))
names_more front i n ts us lt e =
    let m : n - i ≡ suc (n - (i + 1)) = omega arith in
    rw (m, e) (by (name_at us))
  where
    ahead : List ℕ × List Token → Read (List (List ℕ))
    ahead x = Ok (front ++ (x.0 ∷ []), x.1)

    step : (name : List ℕ) (read : Read (List (List ℕ))) → with_names front (read >>= λ y. Ok (name ∷ y.0, y.1)) ≡ with_names (front ++ (name ∷ [])) read
    step name (Ok y) = ap (λ (ns : List (List ℕ)). Ok (ns, y.1)) (sym (append_assoc front (name ∷ []) y.0))
    step name (Err f) = refl

    by : (r : Result (List ℕ × List Token) Fault) → with_names front (r >>= λ x. names_at (n - (i + 1)) x.1 >>= λ y. Ok (x.0 ∷ y.0, y.1)) ≡ (r >>= ahead >>= λ y. with_names y.0 (names_at (n - (i + 1)) y.1))
    by (Ok x) = step x.0 (names_at (n - (i + 1)) x.1)
    by (Err f) = refl

pub view_names_push : (ns : List (Vec ℕ Global)) (n : Vec ℕ Global) → view_names (ns ++ (n ∷ [])) ≡ view_names ns ++ (n.items ∷ [])
view_names_push [] n = refl
view_names_push (m ∷ ns) n = ap (λ (xs : List (List ℕ)). m.items ∷ xs) (view_names_push ns n)

pub params_named : (ts : List Token) (x : List ℕ × List Token) → name_at ts ≡ Ok x → params_at ts ≡ with_names (x.0 ∷ []) (names_at (length x.1) x.1)
params_named ts x e = ap params_at (name_ok ts x e)

pub params_none : (ts : List Token) → name_at ts ≡ Err Syntax → params_at ts ≡ Ok ([], ts)
params_none (Name n ∷ ts) e = absurd cc
params_none _ e = refl

-- ---- what is still read, from what was read before

abbrev pub left_names : List (List ℕ) → ℕ → List Token → Read (List (List ℕ))
left_names front w ts = with_names front (names_at w ts)

pub names_begin : (front v : List (List ℕ)) (n : ℕ) (ts : List Token) (o : Option Refusal) (s : At) → n ≡ length ts → Parsed v (stands ts o) s (left_names front n) → Parsed v (stands ts o) s (λ us. left_names front (length us) us)
names_begin front v n ts o s q w = goes_as ts o (λ us. left_names front (length us) us) (left_names front n) (rw q refl) w

pub names_next : (front next v : List (List ℕ)) (x : List ℕ) (i n : ℕ) (ts us : List Token) (o : Option Refusal) (s0 s1 s2 s3 : At) → i < n → comma_at ts ≡ Some us → s0 ≡ stands us o → Parsed x s0 s1 name_at → Parsed next s1 s2 (is_read (front ++ (x ∷ []))) → Parsed v s2 s3 (left_names next (n - (i + 1)))
    → Parsed v (stands ts o) s3 (left_names front (n - i))
names_next front next v x i n ts us o s0 s1 s2 s3 lt e q w p h =
    goes_on ts us o (left_names front (n - i)) (λ vs. one_name front vs >>= λ y. left_names y.0 (n - (i + 1)) y.1) q (names_more front i n ts us lt e)
    (then (λ y. left_names y.0 (n - (i + 1)) y.1) (then (λ y. is_read (front ++ (y.0 ∷ [])) y.1) w p) h)

pub names_added : (new old : List (Vec ℕ Global)) (x : Vec ℕ Global) (s0 s1 : At) → Parsed new s0 s1 (is_read (old ++ (x ∷ []))) → Parsed (view_names new) s0 s1 (is_read (view_names old ++ (x.items ∷ [])))
names_added new old x s0 s1 w = subst (λ (u : List (List ℕ)). Parsed (view_names new) s0 s1 (is_read u)) (view_names_push old x) (then (λ y. is_read (view_names y.0) y.1) w (stays (view_names new) s1))

pub first_added : (new old : List (Vec ℕ Global)) (x : Vec ℕ Global) (s0 s1 : At) → old ≡ [] → Parsed new s0 s1 (is_read (old ++ (x ∷ []))) → Parsed (view_names new) s0 s1 (is_read (x.items ∷ []))
first_added new old x s0 s1 e w = subst (λ (u : List (Vec ℕ Global)). Parsed (view_names new) s0 s1 (is_read (view_names u ++ (x.items ∷ [])))) e (names_added new old x s0 s1 w)

pub names_end : (front : List (List ℕ)) (w : ℕ) (ts : List Token) (o : Option Refusal) → comma_at ts ≡ None → Parsed front (stands ts o) (stands ts o) (left_names front w)
names_end front w ts o e = came front ts ts o (stands ts o) (left_names front w) refl (names_none front w ts e)

pub names_over : (front : List (List ℕ)) (w : ℕ) (ts : List Token) (o : Option Refusal) → w ≡ 0 → Parsed front (stands ts o) (stands ts o) (left_names front w)
names_over front w ts o e = came front ts ts o (stands ts o) (left_names front w) refl (names_done front w ts e)
