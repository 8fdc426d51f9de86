-- The first separator, by the first place of a byte.
use Rattle.std.proofs.Common.{◌≡◌, ℕ, suc, ◌+◌, ◌-◌, ◌<◌, ◌≤◌, ◌==◌, List, [], ◌∷◌, length, take, drop, get_or, Bool, true, false, ◌&&◌, refl, sym, ◌∙◌, ap, subst, arith, Option, Some, None, ◌++◌, length-drop, append-nil, cond}
use Rattle.std.proofs.Math.Seq.{drop-cons}
use Rattle.std.proofs.lemmas.List.{get_or-drop, take_all}
use Rattle.std.proofs.lemmas.Bool.{ne_eqb}
use Rattle.memchr.specs.Find.{IsFirstByte, is_byte}
use Rattle.sem_primitives.specs.Records.{is_newline, begins, cut, skipped}
use Rattle.host_streams.specs.declared.look.Known.{Known}
use Rattle.host_streams.specs.Looks.{before, HasNoneBefore, IsScanned, FindsCut}
use Rattle.host_streams.proofs.Cuts.{begins_byte, cut_here, none_at_all, none_between}

not_true : (b : Bool) → (b ≡ true → ⊥) → b ≡ false
not_true true h = absurd (h refl)
not_true false h = refl

-- `&text[at..]`
pub rest_is : (at : ℕ) (text : List ℕ) → take (length text - at) (drop at text) ≡ drop at text
rest_is at text = take_all (length text - at) (drop at text) (omega (arith, length-drop at text))

byte_at : (b at j : ℕ) (bytes : List ℕ) → at + j < length bytes → begins (Some b) (drop (at + j) bytes) ≡ is_byte b (get_or (drop at bytes) j 0)
byte_at b at j bytes h = begins_byte b bytes (at + j) h ∙ ap (is_byte b) (sym (get_or-drop at bytes j 0))

not_newline : (x : ℕ) (ys : List ℕ) → is_newline x ≡ false → begins None (x ∷ ys) ≡ false
not_newline x [] e = refl
not_newline x (y ∷ ys) e = ap (λ c. c && is_newline y) e

newline_at : (at j : ℕ) (bytes : List ℕ) → at + j < length bytes → is_byte 10 (get_or (drop at bytes) j 0) ≡ false → begins None (drop (at + j) bytes) ≡ false
newline_at at j bytes h e =
    ap (begins None) (drop-cons bytes (at + j) 0 h)
    ∙ not_newline (get_or bytes (at + j) 0) (drop (suc (at + j)) bytes) (ap (is_byte 10) (sym (get_or-drop at bytes j 0)) ∙ e)

-- none begins before the first byte that may begin one
up_to : (rs : Option ℕ) (b at n : ℕ) (bytes : List ℕ) → at + n ≤ length bytes → ((j : ℕ) → at + j < length bytes → is_byte b (get_or (drop at bytes) j 0) ≡ false → begins rs (drop (at + j) bytes) ≡ false) →
    HasNoneBefore rs at bytes → ((j : ℕ) → j < n → is_byte b (get_or (drop at bytes) j 0) ≡ true → ⊥) → HasNoneBefore rs (at + n) bytes
up_to rs b at n bytes fits begin h nowhere =
    none_between rs bytes at n h fits (λ k low high.
    subst (λ (m : ℕ). begins rs (drop m bytes) ≡ false) (let e : at + (k - at) ≡ k = omega arith in e)
    (begin (k - at) (omega arith) (not_true (is_byte b (get_or (drop at bytes) (k - at) 0)) (nowhere (k - at) (omega arith)))))

pub found_byte : (b at k : ℕ) (bytes : List ℕ) → at ≤ length bytes → HasNoneBefore (Some b) at bytes → IsFirstByte (is_byte b) (drop at bytes) (Some k) → FindsCut (Some b) bytes (Some (at + k))
found_byte b at k bytes within h f =
    let inside : at + k < length bytes = omega (arith, f.0.high, length-drop at bytes) in
    cut_here (Some b) bytes (at + k) inside (byte_at b at k bytes inside ∙ f.1)
    (up_to (Some b) b at k bytes (omega arith) (λ j low e. byte_at b at j bytes low ∙ e) h (λ j low. f.0.before j (omega arith) low))

pub no_byte : (b at : ℕ) (bytes : List ℕ) → at ≤ length bytes → HasNoneBefore (Some b) at bytes → IsFirstByte (is_byte b) (drop at bytes) None → FindsCut (Some b) bytes None
no_byte b at bytes within h f =
    none_at_all (Some b) bytes (subst (λ (m : ℕ). HasNoneBefore (Some b) m bytes) (let e : at + (length bytes - at) ≡ length bytes = omega arith in e)
    (up_to (Some b) b at (length bytes - at) bytes (omega arith) (λ j low e. byte_at b at j bytes low ∙ e) h (λ j low. f j (omega arith) (omega (arith, length-drop at bytes)))))

-- the next newline
pub next_line : (at k : ℕ) (bytes : List ℕ) → at ≤ length bytes → HasNoneBefore None at bytes → IsFirstByte (is_byte 10) (drop at bytes) (Some k) → (at + k < length bytes) × HasNoneBefore None (at + k) bytes
next_line at k bytes within h f =
    let inside : at + k < length bytes = omega (arith, f.0.high, length-drop at bytes) in (
      inside,
      up_to None 10 at k bytes (omega arith) (λ j low e. newline_at at j bytes low e) h (λ j low. f.0.before j (omega arith) low),
    )

pub no_line : (at : ℕ) (bytes : List ℕ) → at ≤ length bytes → HasNoneBefore None at bytes → IsFirstByte (is_byte 10) (drop at bytes) None → FindsCut None bytes None
no_line at bytes within h f =
    none_at_all None bytes (subst (λ (m : ℕ). HasNoneBefore None m bytes) (let e : at + (length bytes - at) ≡ length bytes = omega arith in e)
    (up_to None 10 at (length bytes - at) bytes (omega arith) (λ j low e. newline_at at j bytes low e) h (λ j low. f j (omega arith) (omega (arith, length-drop at bytes)))))

-- What is known is known of the bytes so far.

pub known_skips : (rs : Option ℕ) (bytes : List ℕ) (known : Known) → IsScanned rs bytes known → 0 < known.searched → known.skipped ≡ skipped rs bytes
known_skips rs bytes known s h =
    let e : (known.searched == 0) ≡ false = ne_eqb known.searched 0 (λ is. absurd (omega arith)) in
    let z : known.skipped + 0 ≡ known.skipped = omega arith in
    sym (ap (skipped rs) (sym (append-nil bytes)) ∙ s.skips [] ∙ ap (λ c. known.skipped + cond c (skipped rs (drop known.skipped bytes ++ [])) 0) e ∙ z)

pub known_skips_more : (rs : Option ℕ) (bytes : List ℕ) (known : Known) → IsScanned rs bytes known → known.searched ≤ 0 → known.skipped + skipped rs (drop known.skipped bytes) ≡ skipped rs bytes
known_skips_more rs bytes known s h =
    let z : known.searched ≡ 0 = omega arith in
    sym (ap (skipped rs) (sym (append-nil bytes)) ∙ s.skips [] ∙ ap (λ k. known.skipped + cond (k == 0) (skipped rs (drop known.skipped bytes ++ [])) 0) z ∙ ap (λ xs. known.skipped + skipped rs xs) (append-nil (drop known.skipped bytes)))

pub known_none : (rs : Option ℕ) (bytes : List ℕ) (known : Known) → IsScanned rs bytes known → HasNoneBefore rs known.searched (drop known.skipped bytes)
known_none rs bytes known s =
    ap (cut rs) (sym (append-nil (drop known.skipped bytes))) ∙ s.none []
    ∙ ap (λ xs. before (take known.searched (drop known.skipped bytes)) (cut rs xs)) (append-nil (drop known.searched (drop known.skipped bytes)))
