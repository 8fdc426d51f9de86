-- How many pieces there are, counted byte by byte.
use Rattle.std.proofs.Common.{◌≡◌, ◌≢◌, ℕ, suc, ◌+◌, ◌<◌, ◌≤◌, Bool, true, false, List, [], ◌∷◌, length, drop, get_or, drop-cons, drop_of_length-le, add-one, refl, ap, arith}
use Rattle.std.specs.Prelude.{◌&&◌, ◌==◌, ◌||◌, not, cond, if◌then◌else◌}
use Rattle.std.specs.List.{filter}
use Rattle.sem_primitives.specs.Texts.{is_empty}
use Rattle.sem_primitives.specs.Fields.{Blanks, Byte, behind, is_blank, parted, pieces_of}

-- how many words begin in a text that comes after a byte of a word, or not
abbrev pub words : Bool → List ℕ → ℕ
words inside [] = 0
words inside (c ∷ cs) = (if not (is_blank c) && not inside then 1 else 0) + words (not (is_blank c)) cs

-- the pieces that are not empty, and whether the first is one
abbrev full : List (List ℕ) → ℕ
full pieces = length (filter (λ piece. not (is_empty piece)) pieces)

abbrev opens : List (List ℕ) → ℕ
opens [] = 0
opens ([] ∷ pieces) = 0
opens ((c ∷ piece) ∷ pieces) = 1

-- a text of these pieces has so many words, where it comes after none and where it comes after a byte of one
abbrev AreWords : List (List ℕ) → (alone after : ℕ) → Type 0
AreWords pieces alone after = (alone ≡ full pieces) × (after + opens pieces ≡ full pieces)

words_more : (b : Bool) (c : ℕ) (pieces : List (List ℕ)) (w : Bool → ℕ) → AreWords pieces (w false) (w true) → AreWords (behind b c pieces) ((if not b && true then 1 else 0) + w (not b)) ((if not b && false then 1 else 0) + w (not b))
words_more true c pieces w h = (omega (arith, h.0), omega (arith, h.0))
words_more false c [] w h = (omega (arith, h.1), omega (arith, h.1))
words_more false c ([] ∷ pieces) w h = (omega (arith, h.1), omega (arith, h.1))
words_more false c ((d ∷ piece) ∷ pieces) w h = (omega (arith, h.1), omega (arith, h.1))

words_are : (text : List ℕ) → AreWords (parted is_blank text) (words false text) (words true text)
words_are [] = (refl, refl)
words_are (c ∷ cs) = words_more (is_blank c) c (parted is_blank cs) (λ inside. words inside cs) (words_are cs)

words_pieces : (newlines : Bool) (text : List ℕ) → words false text ≡ length (pieces_of Blanks newlines text)
words_pieces newlines [] = refl
words_pieces newlines (c ∷ cs) = (words_are (c ∷ cs)).0

-- the bytes of a text from a place on, of which the first is this
pub words_at : (text : List ℕ) (at : ℕ) (inside : Bool) → at < length text → words inside (drop at text) ≡ (if not (is_blank (get_or text at 0)) && not inside then 1 else 0) + words (not (is_blank (get_or text at 0))) (drop (at + 1) text)
words_at text at inside within = rw (add-one, drop-cons text at 0) refl

pub words_end : (count : ℕ) (text : List ℕ) (at : ℕ) (inside newlines : Bool) → length text ≤ at → count + words inside (drop at text) ≡ words false text → count ≡ length (pieces_of Blanks newlines text)
words_end count text at inside newlines past same =
    let left : drop at text ≡ [] = drop_of_length-le text past in
    let none : words inside (drop at text) ≡ 0 = ap (words inside) left in
    omega (arith, same, none, words_pieces newlines text)

behind_length : (b : Bool) (c : ℕ) (ends : List ℕ) (pieces : List (List ℕ)) → length pieces ≡ suc (length ends) → length (behind b c pieces) ≡ suc (length (cond b (c ∷ ends) ends))
behind_length true c ends pieces h = ap suc h
behind_length false c ends [] h = omega (arith, h)
behind_length false c ends (piece ∷ pieces) h = h

-- there is a piece more than bytes that end one
pub parted_length : (test : ℕ → Bool) (text : List ℕ) → length (parted test text) ≡ suc (length (filter test text))
parted_length test [] = refl
parted_length test (c ∷ cs) = behind_length (test c) c (filter test cs) (parted test cs) (parted_length test cs)

pub parts_pieces : (b : ℕ) (newlines : Bool) (text : List ℕ) → text ≢ [] → length (filter (λ c. (c == b) || (newlines && (c == 10))) text) + 1 ≡ length (pieces_of (Byte b) newlines text)
parts_pieces b newlines [] some = absurd (some refl)
parts_pieces b newlines (c ∷ cs) some = omega (arith, parted_length (λ d. (d == b) || (newlines && (d == 10))) (c ∷ cs))
