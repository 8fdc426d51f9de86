-- The fields between blanks.
use Rattle.std.proofs.Common.{◌≡◌, ℕ, Bool, true, false, List, [], ◌∷◌, ◌++◌, refl, sym, ap, subst, ◌∙◌}
use Rattle.std.specs.Prelude.{not, filter}
use Rattle.sem_primitives.specs.Texts.{is_empty}
use Rattle.sem_primitives.specs.Fields.{is_blank, behind, parted}
use Rattle.agreement.specs.Texts.Fields.{AllBlank, NoneBlank, EndsField, AreWords, no_word, word}

abbrev kept : List (List ℕ) → List (List ℕ)
kept pieces = filter (λ piece. not (is_empty piece)) pieces

abbrev words : List ℕ → List (List ℕ)
words text = kept (parted is_blank text)

-- ---- what is computed

blank_more : (c : ℕ) {cs : List ℕ} {fields : List (List ℕ)} → is_blank c ≡ true → AreWords cs fields → AreWords (c ∷ cs) fields
blank_more c h (no_word b) = no_word (h, b)
blank_more c h (word blanks b f e r) = word (c ∷ blanks) (h, b) f e r

-- the first piece runs up to a blank or the end; after it stand the words of the others
record IsFront (text piece : List ℕ) (pieces : List (List ℕ)) : Type 0 where
  rest : List ℕ
  parts : text ≡ piece ++ rest
  none : NoneBlank piece
  ends : EndsField rest
  others : AreWords rest (kept pieces)

-- the pieces have a first one
data AreFronted (text : List ℕ) : List (List ℕ) → Type 0 where
  fronted : {piece : List ℕ} {pieces : List (List ℕ)} → IsFront text piece pieces → AreFronted text (piece ∷ pieces)

are_words : {text : List ℕ} {pieces : List (List ℕ)} → AreFronted text pieces → AreWords text (kept pieces)
are_words {text} (fronted {piece} {pieces} f) = by piece f
  where
    by : (piece : List ℕ) → IsFront text piece pieces → AreWords text (kept (piece ∷ pieces))
    by [] f = subst (λ x. AreWords x (kept pieces)) (sym f.parts) f.others
    by (c ∷ cs) f = subst (λ x. AreWords x ((c ∷ cs) ∷ kept pieces)) (sym f.parts) (word [] tt f.none f.ends f.others)

front : (text : List ℕ) → AreFronted text (parted is_blank text)
front [] = fronted (record { rest = []; parts = refl; none = tt; ends = tt; others = no_word tt })
front (c ∷ cs) = by (is_blank c) refl (parted is_blank cs) (front cs)
  where
    by : (b : Bool) → is_blank c ≡ b → (pieces : List (List ℕ)) → AreFronted cs pieces → AreFronted (c ∷ cs) (behind b c pieces)
    by true e pieces f = fronted (record { rest = c ∷ cs; parts = refl; none = tt; ends = e; others = blank_more c e (are_words f) })
    by false e pieces (fronted f) = fronted (record { rest = f.rest; parts = ap (c ∷◌) f.parts; none = (e, f.none); ends = f.ends; others = f.others })

pub words_are : (text : List ℕ) → AreWords text (words text)
words_are text = are_words (front text)

-- ---- there are no others

blanks_aside : (blanks rest : List ℕ) → AllBlank blanks → words (blanks ++ rest) ≡ words rest
blanks_aside [] rest h = refl
blanks_aside (c ∷ cs) rest h = ap (λ b. kept (behind b c (parted is_blank (cs ++ rest)))) h.0 ∙ blanks_aside cs rest h.1

pieces_at_end : (rest : List ℕ) → EndsField rest → (pieces : List (List ℕ)) × (parted is_blank rest ≡ [] ∷ pieces) × (kept pieces ≡ words rest)
pieces_at_end [] h = ([], refl, refl)
pieces_at_end (c ∷ cs) h = (parted is_blank cs, ap (λ b. behind b c (parted is_blank cs)) h, sym (ap (λ b. kept (behind b c (parted is_blank cs))) h))

piece_front : (field rest : List ℕ) (pieces : List (List ℕ)) → NoneBlank field → parted is_blank rest ≡ [] ∷ pieces → parted is_blank (field ++ rest) ≡ field ∷ pieces
piece_front [] rest pieces h e = e
piece_front (c ∷ cs) rest pieces h e = ap (λ b. behind b c (parted is_blank (cs ++ rest))) h.0 ∙ ap (behind false c) (piece_front cs rest pieces h.1 e)

pub words_value : {text : List ℕ} {fields : List (List ℕ)} → AreWords text fields → fields ≡ words text
words_value (no_word {blanks} b) = by blanks b
  where
    by : (blanks : List ℕ) → AllBlank blanks → [] ≡ words blanks
    by [] h = refl
    by (c ∷ cs) h = by cs h.1 ∙ sym (ap (λ x. kept (behind x c (parted is_blank cs))) h.0)
words_value (word {c} {cs} {rest} blanks b f e r) =
    let end = pieces_at_end rest e in
    let first : parted is_blank ((c ∷ cs) ++ rest) ≡ (c ∷ cs) ∷ end.0 = piece_front (c ∷ cs) rest end.0 f end.1 in
    ap ((c ∷ cs) ∷◌) (words_value r ∙ sym end.2) ∙ sym (ap kept first) ∙ sym (blanks_aside blanks ((c ∷ cs) ++ rest) b)
