-- What is read is what the longest cutting gives.
use Rattle.std.proofs.Common.{◌≡◌, ℕ, zero, suc, ◌+◌, ◌<◌, ◌≤◌, Bool, false, Option, Some, None, Result, Ok, Err, List, [], ◌∷◌, ◌++◌, length, take, drop, refl, sym, ap, subst, ◌∙◌, ◌⊎◌, inl, inr, arith, length-drop, append_assoc}
use Rattle.std.specs.Prelude.{is_some}
use Rattle.std.proofs.lemmas.List.{take-append-drop, length-take-le}
use Rattle.awk_tokens.specs.declared.token.TokenKind.{TokenKind}
use Rattle.awk_tokens.specs.declared.token.Piece.{Piece}
use Rattle.awk_tokens.specs.declared.token.TokenFault.{TokenFault}
use Rattle.awk_tokens.specs.declared.token.TokenFault.TheVariants.{NoMemory}
use Rattle.awk_tokens.specs.Pieces.{piece_of}
use Rattle.awk_tokens.specs.Cutting.{Spelled, Context, start, divides, kept, after_kept, after_text, newlines, with_token, outcome, finished, IsLongest, joined, IsCutting, IsTokens}
use Rattle.awk_tokens.specs.Rules.{rule_two, rule_three}
use Rattle.awk_tokens.specs.Reading.{front_at, from_front, cut_at, raw_of}
use Rattle.awk_tokens.proofs.Longest.{Best, best}
use Rattle.awk_tokens.proofs.Unique.{one_cutting}
use Rattle.awk_tokens.proofs.Rules.{rules_are}

-- one outcome of a script
pub one_outcome : (script : List ℕ) (a b : Result (List Spelled) TokenFault) → IsTokens script a → IsTokens script b → a ≡ b
one_outcome script a b x y =
    let one = one_cutting start x.texts y.texts x.rest y.rest (x.whole ∙ sym y.whole) x.cutting y.cutting in
    x.gives ∙ ap (λ (p : List (List ℕ) × List ℕ). finished (outcome 1 start p.0 p.1)) (ap (λ (ts : List (List ℕ)). (ts, x.rest)) one.0 ∙ ap (λ (r : List ℕ). (y.texts, r)) one.1) ∙ sym y.gives

-- the longest cutting from here, and that what is read is what it gives
pub record Found (line : ℕ) (before : Context) (bytes : List ℕ) (found : Result (List Spelled) TokenFault) : Type 0 where
  pub texts : List (List ℕ)
  pub rest : List ℕ
  pub whole : joined texts ++ rest ≡ bytes
  pub cutting : IsCutting before texts rest
  pub gives : found ≡ outcome line before texts rest

none_of_nothing : (d : Bool) (n : ℕ) → piece_of d (take n []) ≡ None
unfolding piece_of
none_of_nothing d zero = refl
none_of_nothing d (suc n) = refl

none_at_zero : (d : Bool) → piece_of d [] ≡ None
unfolding piece_of
none_at_zero d = refl

longest_here : (d : Bool) (c : ℕ) (cs : List ℕ) (x : Piece × ℕ) → Best (λ t. piece_of d (c ∷ t)) cs (Some x) → IsLongest d (c ∷ take x.1 cs) (drop x.1 cs)
longest_here d c cs x h = record { piece = ap is_some h.1; longest = subst (λ (all : List ℕ). (n : ℕ) → length (c ∷ take x.1 cs) < n → n ≤ length (c ∷ all) → piece_of d (take n (c ∷ all)) ≡ None) (sym (take-append-drop x.1 cs)) past }
  where
    past : (n : ℕ) → length (c ∷ take x.1 cs) < n → n ≤ length (c ∷ cs) → piece_of d (take n (c ∷ cs)) ≡ None
    past zero lt le = absurd (omega arith)
    past (suc n) lt le = h.2 n (omega (arith, length-take-le x.1 cs h.0)) (omega arith)

pub found : (n line : ℕ) (before : Context) (bytes : List ℕ) → length bytes ≤ n → Found line before bytes (cut_at n line before bytes)
unfolding cut_at
found n line before [] le = record { texts = []; rest = []; whole = refl; cutting = λ m k. none_of_nothing (divides before) m; gives = refl }
found zero line before (c ∷ cs) le = absurd (omega arith)
found (suc n) line before (c ∷ cs) le = by (front_at (divides before) c cs) ((best (divides before) c cs).is) (λ line' before' bytes' le'. found n line' before' bytes' le')
  where
    by : (o : Option (Piece × ℕ)) → Best (λ t. piece_of (divides before) (c ∷ t)) cs o → ((line' : ℕ) (before' : Context) (bytes' : List ℕ) → length bytes' ≤ n → Found line' before' bytes' (cut_at n line' before' bytes')) → Found line before (c ∷ cs) (from_front (cut_at n) line before c cs o)
    by None h go = record { texts = []; rest = c ∷ cs; whole = refl; cutting = stop; gives = refl }
      where
        stop : (m : ℕ) → m ≤ length (c ∷ cs) → piece_of (divides before) (take m (c ∷ cs)) ≡ None
        stop zero k = none_at_zero (divides before)
        stop (suc m) k = h m (omega arith)
    by (Some x) h go =
        let t : List ℕ = c ∷ take x.1 cs in
        let after : Context = after_kept (kept before (drop x.1 cs) (Some x.0)) before in
        let f = go (line + newlines t) after (drop x.1 cs) (omega (arith, length-drop x.1 cs)) in
        let kind : kept before (joined f.texts ++ f.rest) (piece_of (divides before) t) ≡ kept before (drop x.1 cs) (Some x.0) = ap (λ (r : List ℕ). kept before r (piece_of (divides before) t)) f.whole ∙ ap (kept before (drop x.1 cs)) h.1 in
        let same : after_text before t (joined f.texts ++ f.rest) ≡ after = ap (λ (k : Option TokenKind). after_kept k before) kind in
        record {
          texts = t ∷ f.texts;
          rest = f.rest;
          whole = append_assoc t (joined f.texts) f.rest ∙ ap (λ (r : List ℕ). t ++ r) f.whole ∙ ap (λ (r : List ℕ). c ∷ r) (take-append-drop x.1 cs);
          cutting = (subst (IsLongest (divides before) t) (sym f.whole) (longest_here (divides before) c cs x h), subst (λ (x : Context). IsCutting x f.texts f.rest) (sym same) f.cutting);
          gives = ap (with_token (kept before (drop x.1 cs) (Some x.0)) line t) f.gives ∙ sym (ap (λ (k : Option TokenKind). with_token k line t (outcome (line + newlines t) (after_kept k before) f.texts f.rest)) kind);
        }

pub read_is_tokens : (script : List ℕ) → IsTokens script (finished (raw_of script))
unfolding raw_of
read_is_tokens script = let f = found (length script) 1 start script (omega arith) in
    record { texts = f.texts; rest = f.rest; whole = f.whole; cutting = f.cutting; gives = ap finished f.gives }

-- what is read, with `;` dropped and put
pub found_tokens : (script : List ℕ) (ts us vs : List Spelled) → Ok ts ≡ raw_of script → us ≡ rule_two false ts → vs ≡ rule_three None us → IsTokens script (Ok vs)
found_tokens script ts us vs e f g =
    let all : finished (raw_of script) ≡ Ok vs = ap finished (sym e) ∙ ap (λ (xs : List Spelled). Ok xs) (rules_are ts ∙ ap (rule_three None) (sym f) ∙ sym g) in
    subst (IsTokens script) all (read_is_tokens script)

refused_tokens : (script : List ℕ) (e : TokenFault) → Err e ≡ raw_of script → IsTokens script (Err e)
refused_tokens script e h =
    let all : finished (raw_of script) ≡ Err e = ap finished (sym h) in
    subst (IsTokens script) all (read_is_tokens script)

pub refused_or : (script : List ℕ) (e : TokenFault) → (e ≡ NoMemory) ⊎ (Err e ≡ raw_of script) → (e ≡ NoMemory) ⊎ IsTokens script (Err e)
refused_or script e (inl h) = inl h
refused_or script e (inr h) = inr (refused_tokens script e h)
