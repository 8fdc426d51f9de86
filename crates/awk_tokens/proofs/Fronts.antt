-- What the reader of one piece needs.
use Rattle.std.proofs.Common.{◌≡◌, ℕ, suc, ◌+◌, ◌<◌, ◌≤◌, Bool, true, false, cond, Option, Some, None, List, [], ◌∷◌, length, take, drop, get_or, refl, sym, ap, ◌∙◌, arith, add-one, drop-cons}
use Rattle.std.proofs.Math.Seq.{take-length}
use Rattle.std.specs.Prelude.{◌-◌}
use Rattle.std.specs.Prelude.{option_map, ◌==◌, ◌&&◌, not}
use Rattle.std.proofs.lemmas.Bool.{eq-eqb, ne_eqb}
use Rattle.std.proofs.Common.{drop_of_length-le}
use Rattle.awk_tokens.specs.declared.token.TokenKind.{TokenKind}
use Rattle.awk_tokens.specs.declared.token.Piece.TheVariants.{Token}
use Rattle.awk_tokens.specs.Words.{reserved_word_of}
use Rattle.awk_tokens.specs.Pieces.{goes_on, word_kind}
use Rattle.awk_tokens.specs.Reading.{count_while, close_at, name_at, name_of}

pub name_from : (bytes : List ℕ) → 1 ≤ length bytes → name_of bytes ≡ Some (Token (word_kind (reserved_word_of (take (count_while goes_on (drop 1 bytes) + 1) bytes))), count_while goes_on (drop 1 bytes))
unfolding name_at
name_from [] h = absurd (omega arith)
name_from (c ∷ cs) h = ap (λ (n : ℕ). Some (Token (word_kind (reserved_word_of (take n (c ∷ cs)))), count_while goes_on cs)) (sym (add-one (count_while goes_on cs)))

pub close_end : (nl : Bool) (q : ℕ) (esc : Bool) → close_at nl q esc [] ≡ None
unfolding close_at
close_end nl q esc = refl

shifted : (i : ℕ) (o : Option ℕ) → option_map (λ n. i + n) (option_map suc o) ≡ option_map (λ n. (i + 1) + n) o
shifted i None = refl
shifted i (Some n) = ap (λ (k : ℕ). Some k) (omega arith)

-- one byte on, after a backslash
pub step_escaped : (nl : Bool) (q i : ℕ) (bytes : List ℕ) → i < length bytes → ((get_or bytes i 0 == 10) && not nl) ≡ false →
    option_map (λ n. i + n) (close_at nl q true (drop i bytes)) ≡ option_map (λ n. (i + 1) + n) (close_at nl q false (drop (i + 1) bytes))
unfolding close_at
step_escaped nl q i bytes lt e = rw (add-one, drop-cons bytes i 0) (ap (λ b. option_map (λ n. i + n) (cond b None (option_map suc (close_at nl q false (drop (suc i) bytes))))) e ∙ shifted i (close_at nl q false (drop (suc i) bytes)) ∙ ap (λ (k : ℕ). option_map (λ n. k + n) (close_at nl q false (drop (suc i) bytes))) (add-one i))

pub step_plain : (nl : Bool) (q i : ℕ) (bytes : List ℕ) → i < length bytes → (get_or bytes i 0 == q) ≡ false → (get_or bytes i 0 == 10) ≡ false →
    option_map (λ n. i + n) (close_at nl q false (drop i bytes)) ≡ option_map (λ n. (i + 1) + n) (close_at nl q (get_or bytes i 0 == 92) (drop (i + 1) bytes))
unfolding close_at
step_plain nl q i bytes lt e f = rw (add-one, drop-cons bytes i 0) (ap (λ b. option_map (λ n. i + n) (cond b (Some 1) (cond (get_or bytes i 0 == 10) None (option_map suc (close_at nl q (get_or bytes i 0 == 92) (drop (suc i) bytes)))))) e ∙ ap (λ b. option_map (λ n. i + n) (cond b None (option_map suc (close_at nl q (get_or bytes i 0 == 92) (drop (suc i) bytes))))) f ∙ shifted i (close_at nl q (get_or bytes i 0 == 92) (drop (suc i) bytes)) ∙ ap (λ (k : ℕ). option_map (λ n. k + n) (close_at nl q (get_or bytes i 0 == 92) (drop (suc i) bytes))) (add-one i))

pub stop_escaped : (nl : Bool) (q i : ℕ) (bytes : List ℕ) → i < length bytes → ((get_or bytes i 0 == 10) && not nl) ≡ true → option_map (λ n. i + n) (close_at nl q true (drop i bytes)) ≡ None
unfolding close_at
stop_escaped nl q i bytes lt e = rw (drop-cons bytes i 0) (ap (λ b. option_map (λ n. i + n) (cond b None (option_map suc (close_at nl q false (drop (suc i) bytes))))) e)

pub stop_quote : (nl : Bool) (q i : ℕ) (bytes : List ℕ) → i < length bytes → (get_or bytes i 0 == q) ≡ true → option_map (λ n. i + n) (close_at nl q false (drop i bytes)) ≡ Some (i + 1)
unfolding close_at
stop_quote nl q i bytes lt e = rw (drop-cons bytes i 0) (ap (λ b. option_map (λ n. i + n) (cond b (Some 1) (cond (get_or bytes i 0 == 10) None (option_map suc (close_at nl q (get_or bytes i 0 == 92) (drop (suc i) bytes)))))) e)

pub stop_line : (nl : Bool) (q i : ℕ) (bytes : List ℕ) → i < length bytes → (get_or bytes i 0 == q) ≡ false → (get_or bytes i 0 == 10) ≡ true → option_map (λ n. i + n) (close_at nl q false (drop i bytes)) ≡ None
unfolding close_at
stop_line nl q i bytes lt e f = rw (drop-cons bytes i 0) (ap (λ b. option_map (λ n. i + n) (cond b (Some 1) (cond (get_or bytes i 0 == 10) None (option_map suc (close_at nl q (get_or bytes i 0 == 92) (drop (suc i) bytes)))))) e ∙ ap (λ b. option_map (λ n. i + n) (cond b None (option_map suc (close_at nl q (get_or bytes i 0 == 92) (drop (suc i) bytes))))) f)

and_no : (x : Bool) → (x && false) ≡ false
and_no true = refl
and_no false = refl

-- what is read in all, by what was read so far and what is read from here
abbrev pub Reads : Bool → ℕ → Bool → ℕ → List ℕ → Option ℕ → Type 0
Reads nl q esc i bytes whole = option_map (λ n. i + n) (close_at nl q esc (drop i bytes)) ≡ whole

pub after_escaped : (nl : Bool) (q : ℕ) (esc esc' : Bool) (i : ℕ) (bytes : List ℕ) (whole : Option ℕ) → i < length bytes → esc ≡ true → esc' ≡ false → ((get_or bytes i 0 == 10) && not nl) ≡ false → Reads nl q esc i bytes whole → Reads nl q esc' (i + 1) bytes whole
after_escaped nl q esc esc' i bytes whole lt e f h r =
    ap (λ b. option_map (λ n. (i + 1) + n) (close_at nl q b (drop (i + 1) bytes))) f ∙ sym (step_escaped nl q i bytes lt h) ∙ sym (ap (λ b. option_map (λ n. i + n) (close_at nl q b (drop i bytes))) e) ∙ r

pub allowed : (nl : Bool) (b : ℕ) → nl ≡ true → ((b == 10) && not nl) ≡ false
allowed nl b e = ap (λ x. (b == 10) && not x) e ∙ and_no (b == 10)

pub other : (nl : Bool) (b : ℕ) → (b ≡ 10 → ⊥) → ((b == 10) && not nl) ≡ false
other nl b h = ap (λ x. x && not nl) (ne_eqb b 10 h)

pub after_plain : (nl : Bool) (q : ℕ) (esc esc' : Bool) (i : ℕ) (bytes : List ℕ) (whole : Option ℕ) → i < length bytes → esc ≡ false → esc' ≡ (get_or bytes i 0 == 92) → (get_or bytes i 0 ≡ q → ⊥) → (get_or bytes i 0 ≡ 10 → ⊥) → Reads nl q esc i bytes whole → Reads nl q esc' (i + 1) bytes whole
after_plain nl q esc esc' i bytes whole lt e f h k r =
    ap (λ b. option_map (λ n. (i + 1) + n) (close_at nl q b (drop (i + 1) bytes))) f ∙ sym (step_plain nl q i bytes lt (ne_eqb (get_or bytes i 0) q h) (ne_eqb (get_or bytes i 0) 10 k)) ∙ sym (ap (λ b. option_map (λ n. i + n) (close_at nl q b (drop i bytes))) e) ∙ r

pub open_line : (nl : Bool) (q : ℕ) (esc : Bool) (i : ℕ) (bytes : List ℕ) (whole : Option ℕ) → i < length bytes → esc ≡ true → get_or bytes i 0 ≡ 10 → nl ≡ false → Reads nl q esc i bytes whole → None ≡ whole
open_line nl q esc i bytes whole lt e h k r =
    sym (stop_escaped nl q i bytes lt (ap (λ x. x && not nl) (eq-eqb (get_or bytes i 0) 10 h) ∙ ap not k)) ∙ sym (ap (λ b. option_map (λ n. i + n) (close_at nl q b (drop i bytes))) e) ∙ r

pub at_quote : (nl : Bool) (q : ℕ) (esc : Bool) (i : ℕ) (bytes : List ℕ) (whole : Option ℕ) → i < length bytes → esc ≡ false → get_or bytes i 0 ≡ q → Reads nl q esc i bytes whole → Some (i + 1) ≡ whole
at_quote nl q esc i bytes whole lt e h r =
    sym (stop_quote nl q i bytes lt (eq-eqb (get_or bytes i 0) q h)) ∙ sym (ap (λ b. option_map (λ n. i + n) (close_at nl q b (drop i bytes))) e) ∙ r

pub at_line : (nl : Bool) (q : ℕ) (esc : Bool) (i : ℕ) (bytes : List ℕ) (whole : Option ℕ) → i < length bytes → esc ≡ false → (get_or bytes i 0 ≡ q → ⊥) → get_or bytes i 0 ≡ 10 → Reads nl q esc i bytes whole → None ≡ whole
at_line nl q esc i bytes whole lt e h k r =
    sym (stop_line nl q i bytes lt (ne_eqb (get_or bytes i 0) q h) (eq-eqb (get_or bytes i 0) 10 k)) ∙ sym (ap (λ b. option_map (λ n. i + n) (close_at nl q b (drop i bytes))) e) ∙ r

pub at_end : (nl : Bool) (q : ℕ) (esc : Bool) (i : ℕ) (bytes : List ℕ) (whole : Option ℕ) → length bytes ≤ i → Reads nl q esc i bytes whole → None ≡ whole
unfolding close_at
at_end nl q esc i bytes whole le r = sym (ap (λ (xs : List ℕ). option_map (λ n. i + n) (close_at nl q esc xs)) (drop_of_length-le bytes le)) ∙ r

pub rest_is : (bytes : List ℕ) → take (length bytes - 1) (drop 1 bytes) ≡ drop 1 bytes
rest_is [] = refl
rest_is (c ∷ cs) = ap (λ (n : ℕ). take n cs) (omega arith) ∙ take-length cs

pub name_done : (bytes : List ℕ) (k : TokenKind) (n : ℕ) → 1 ≤ length bytes → n ≡ count_while goes_on (take (length bytes - 1) (drop 1 bytes)) → k ≡ word_kind (reserved_word_of (take (n + 1) bytes)) → Some (Token k, n) ≡ name_of bytes
name_done bytes k n h e f =
    ap (λ (x : TokenKind). Some (Token x, n)) f ∙ ap (λ (m : ℕ). Some (Token (word_kind (reserved_word_of (take (m + 1) bytes))), m)) (e ∙ ap (count_while goes_on) (rest_is bytes)) ∙ sym (name_from bytes h)
