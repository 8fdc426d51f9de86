-- One piece of the loop that cuts.
use Rattle.std.proofs.Common.{get_or, length-drop, ◌≡◌, ℕ, zero, suc, ◌+◌, ◌≤◌, Bool, Option, Some, None, Result, Ok, Err, List, [], ◌∷◌, ◌++◌, length, take, drop, map, refl, sym, ap, subst, ◌∙◌, arith, add-one, append_assoc}
use Rattle.awk_tokens.specs.declared.token.TokenKind.{TokenKind}
use Rattle.awk_tokens.specs.declared.token.Piece.{Piece}
use Rattle.awk_tokens.specs.declared.token.TokenFault.{TokenFault}
use Rattle.awk_tokens.specs.Pieces.{piece_of}
use Rattle.awk_tokens.specs.Cutting.{Spelled, Context, start, divides, kept, after_kept, newlines, refusal, with_token}
use Rattle.awk_tokens.specs.Reading.{front_of, front_at, from_front, cut_at, raw_of}
use Rattle.awk_tokens.specs.declared.token.Token.{Token}
use Rattle.awk_tokens.specs.Views.{spelled}
use Rattle.awk_tokens.specs.State.{with_front, IsCutSoFar}
use Rattle.std.proofs.lemmas.List.{map-append, append-nil, length-take}
use Rattle.awk_tokens.proofs.Longest.{Best, best}

within : (c : ℕ) (cs : List ℕ) (f : List ℕ → Option Piece) (o : Option (Piece × ℕ)) (p : Piece) (m : ℕ) → o ≡ Some (p, m) → Best f cs o → m ≤ length cs
within c cs f o p m e h = (let all : Best f cs (Some (p, m)) = subst (Best f cs) e h in all.0)

abbrev is_none : Option (Piece × ℕ) → Type 0
is_none None = Unit {0}
is_none (Some _) = ⊥

-- what is read stands there
pub front_within : (d : Bool) (bytes : List ℕ) (p : Piece) (m : ℕ) → front_of d bytes ≡ Some (p, m) → m + 1 ≤ length bytes
front_within d [] p m e = absurd (subst is_none e tt)
front_within d (c ∷ cs) p m e = let h = within c cs (λ t. piece_of d (c ∷ t)) (front_at d c cs) p m e ((best d c cs).is) in omega arith

-- one piece
pub cut_step : (n line : ℕ) (before : Context) (bytes : List ℕ) (p : Piece) (m : ℕ) → 1 ≤ length bytes → front_of (divides before) bytes ≡ Some (p, m) →
    cut_at (suc n) line before bytes ≡ with_token (kept before (drop (m + 1) bytes) (Some p)) line (take (m + 1) bytes) (cut_at n (line + newlines (take (m + 1) bytes)) (after_kept (kept before (drop (m + 1) bytes) (Some p)) before) (drop (m + 1) bytes))
unfolding cut_at
cut_step n line before [] p m h e = absurd (omega arith)
cut_step n line before (c ∷ cs) p m h e = ap (from_front (cut_at n) line before c cs) e ∙ sym (ap (λ (x : ℕ). with_token (kept before (drop x (c ∷ cs)) (Some p)) line (take x (c ∷ cs)) (cut_at n (line + newlines (take x (c ∷ cs))) (after_kept (kept before (drop x (c ∷ cs)) (Some p)) before) (drop x (c ∷ cs)))) (add-one m))

pub cut_refused : (n line : ℕ) (before : Context) (c : ℕ) (cs : List ℕ) → front_of (divides before) (c ∷ cs) ≡ None → cut_at (suc n) line before (c ∷ cs) ≡ Err (refusal (divides before) line c)
unfolding cut_at
cut_refused n line before c cs e = ap (from_front (cut_at n) line before c cs) e

pub front_token : (ts : List Spelled) (k : TokenKind) (line : ℕ) (text : List ℕ) (r : Result (List Spelled) TokenFault) → with_front ts (with_token (Some k) line text r) ≡ with_front (ts ++ record { kind = k; line = line; text = text } ∷ []) r
front_token ts k line text (Ok us) = ap (λ (x : List Spelled). Ok x) (sym (append_assoc ts (record { kind = k; line = line; text = text } ∷ []) us))
front_token ts k line text (Err e) = refl

with_none : (r : Result (List Spelled) TokenFault) → with_front [] r ≡ r
with_none (Ok us) = refl
with_none (Err e) = refl

pub cut_start : (ts : List Token) (context : Context) (script : List ℕ) → ts ≡ [] → context ≡ start → IsCutSoFar ts context 1 script script
unfolding raw_of
cut_start ts context script e f =
    let told : with_front [] (cut_at (length script) 1 context script) ≡ cut_at (length script) 1 start script = with_none (cut_at (length script) 1 context script) ∙ ap (λ (x : Context). cut_at (length script) 1 x script) f in
    subst (λ (us : List Token). IsCutSoFar us context 1 script script) (sym e) (record { turns = length script; enough = omega arith; told = told; room = omega arith })

-- one piece on
pub cut_on : (ts us : List Token) (before context : Context) (line more : ℕ) (bytes script : List ℕ) (p : Piece) (m : ℕ) (k : Option TokenKind) (turns : ℕ) → 1 ≤ length bytes → length bytes ≤ turns → front_of (divides before) bytes ≡ Some (p, m) → k ≡ kept before (drop (m + 1) bytes) (Some p) →
    more ≡ newlines (take (m + 1) bytes) → more ≤ m + 1 → line + length bytes ≤ 1 + length script →
    with_front (map spelled ts) (cut_at turns line before bytes) ≡ raw_of script → context ≡ after_kept k before →
    ((r : Result (List Spelled) TokenFault) → with_front (map spelled ts) (with_token k line (take (m + 1) bytes) r) ≡ with_front (map spelled us) r) →
    IsCutSoFar us context (line + more) (drop (m + 1) bytes) script
cut_on ts us before context line more bytes script p m k zero some le e ek em few room told on front = absurd (omega arith)
cut_on ts us before context line more bytes script p m k (suc n) some le e ek em few room told on front =
    let fits : m + 1 ≤ length bytes = front_within (divides before) bytes p m e in
    let step = cut_step n line before bytes p m some e in
    let step' : cut_at (suc n) line before bytes ≡ with_token k line (take (m + 1) bytes) (cut_at n (line + newlines (take (m + 1) bytes)) (after_kept k before) (drop (m + 1) bytes)) =
    step ∙ ap (λ (o : Option TokenKind). with_token o line (take (m + 1) bytes) (cut_at n (line + newlines (take (m + 1) bytes)) (after_kept o before) (drop (m + 1) bytes))) (sym ek) in
    record {
      turns = n;
      enough = omega (arith, length-drop (m + 1) bytes);
      told = ap (λ (q : ℕ × Context). with_front (map spelled us) (cut_at n (line + q.0) q.1 (drop (m + 1) bytes))) (ap (λ (x : ℕ). (x, context)) em ∙ ap (λ (x : Context). (newlines (take (m + 1) bytes), x)) on)
          ∙ sym (front (cut_at n (line + newlines (take (m + 1) bytes)) (after_kept k before) (drop (m + 1) bytes))) ∙ sym (ap (with_front (map spelled ts)) step') ∙ told;
      room = omega (arith, length-drop (m + 1) bytes);
    }

pub cut_ended : (n line : ℕ) (before : Context) (bytes : List ℕ) (ts : List Spelled) (whole : Result (List Spelled) TokenFault) → length bytes ≡ 0 → with_front ts (cut_at n line before bytes) ≡ whole → Ok ts ≡ whole
unfolding cut_at
cut_ended n line before [] ts whole e h = ap (λ (x : List Spelled). Ok x) (sym (append-nil ts)) ∙ h
cut_ended n line before (c ∷ cs) ts whole e h = absurd (omega arith)

pub refused_here : (d : Bool) (n line : ℕ) (before : Context) (bytes : List ℕ) (ts : List Spelled) (whole : Result (List Spelled) TokenFault) (fault : TokenFault) → 1 ≤ length bytes → length bytes ≤ n → d ≡ divides before → front_of d bytes ≡ None → fault ≡ refusal d line (get_or bytes 0 0) → with_front ts (cut_at n line before bytes) ≡ whole → Err fault ≡ whole
refused_here d n line before [] ts whole fault some le e f g h = absurd (omega arith)
refused_here d zero line before (c ∷ cs) ts whole fault some le e f g h = absurd (omega arith)
refused_here d (suc n) line before (c ∷ cs) ts whole fault some le e f g h =
    ap (λ (x : TokenFault). Err x) (g ∙ ap (λ (b : Bool). refusal b line c) e) ∙ sym (ap (with_front ts) (cut_refused n line before c cs (sym (ap (λ (b : Bool). front_of b (c ∷ cs)) e) ∙ f))) ∙ h

pub pushed_front : (ts us : List Token) (t : Token) → us ≡ ts ++ t ∷ [] → (r : Result (List Spelled) TokenFault) → with_front (map spelled ts) (with_token (Some t.kind) t.line t.text.now r) ≡ with_front (map spelled us) r
pushed_front ts us t e r = front_token (map spelled ts) t.kind t.line t.text.now r ∙ sym (ap (λ (xs : List Spelled). with_front xs r) (ap (map spelled) e ∙ map-append spelled ts (t ∷ [])))

pub cut_next : (ts us : List Token) (before context : Context) (line more : ℕ) (bytes text after script : List ℕ) (p : Piece) (m : ℕ) (k : Option TokenKind) → 1 ≤ length bytes → IsCutSoFar ts before line bytes script → front_of (divides before) bytes ≡ Some (p, m) →
    text ≡ take (m + 1) bytes → after ≡ drop (m + 1) bytes → k ≡ kept before after (Some p) → more ≡ newlines text → more ≤ length text → context ≡ after_kept k before →
    ((r : Result (List Spelled) TokenFault) → with_front (map spelled ts) (with_token k line text r) ≡ with_front (map spelled us) r) →
    IsCutSoFar us context (line + more) after script
cut_next ts us before context line more bytes text after script p m k some s e et ea ek em few on front =
    let n : length text ≤ m + 1 = subst (λ (xs : List ℕ). length xs ≤ m + 1) (sym et) (omega (arith, length-take (m + 1) bytes)) in
    subst (λ (x : List ℕ). IsCutSoFar us context (line + more) x script) (sym ea)
    (cut_on ts us before context line more bytes script p m k s.turns some s.enough e (ek ∙ ap (λ (x : List ℕ). kept before x (Some p)) ea) (em ∙ ap newlines et) (omega arith) s.room s.told on
    (λ r. ap (λ (x : List ℕ). with_front (map spelled ts) (with_token k line x r)) (sym et) ∙ front r))
