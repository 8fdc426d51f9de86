-- What sub and gsub replace, and by what, as relations.
use Rattle.std.specs.Prelude.{◌≡◌, ◌⊎◌, ℕ, ◌+◌, ◌<◌, List, [], ◌∷◌, ◌++◌, length, Option, Some, None}
use Rattle.ere_syntax.specs.Tree.{Tree}
use Rattle.ere_syntax.specs.Matches.{Matches}
use Rattle.agreement.specs.Texts.Leftmost.{IsLeftmost, IsNone}

-- where the former match ends, or the text begins
abbrev pub end_of : Option ℕ → ℕ
end_of None = 0
end_of (Some end) = end

-- a match that is taken: an empty one does not stand directly after the former match
abbrev pub IsTaken : Tree → List ℕ → Option ℕ → ℕ → ℕ → Type 0
IsTaken t text former i j = Matches t text i j × (former ≡ Some i → i < j)

-- the places of a gsub, after a former match that ends so: the leftmost match that is taken, of these the longest; then the others
pub data ArePlaces (t : Tree) (text : List ℕ) : Option ℕ → List (ℕ × ℕ) → Type 0 where
  no_more : {former : Option ℕ} → IsNone (IsTaken t text former) (end_of former) → ArePlaces t text former []
  next : {former : Option ℕ} {p : ℕ × ℕ} {ps : List (ℕ × ℕ)} → IsLeftmost (IsTaken t text former) (end_of former) p.0 p.1
      → ArePlaces t text (Some p.1) ps → ArePlaces t text former (p ∷ ps)

-- the place of a sub: the first match, if there is one
abbrev pub IsPlace : Tree → List ℕ → List (ℕ × ℕ) → Type 0
IsPlace t text [] = IsNone (Matches t text) 0
IsPlace t text (p ∷ []) = IsLeftmost (Matches t text) 0 p.0 p.1
IsPlace t text (p ∷ q ∷ ps) = ⊥

-- the bytes `&` and `\`
abbrev pub IsSpecial : ℕ → Type 0
IsSpecial c = (c ≡ 38) ⊎ (c ≡ 92)

abbrev pub BeginsPlain : List ℕ → Type 0
BeginsPlain [] = Unit {0}
BeginsPlain (c ∷ cs) = IsSpecial c → ⊥

-- what a replacement stands for, where this was matched
pub data StandsFor (matched : List ℕ) : List ℕ → List ℕ → Type 0 where
  ends : StandsFor matched [] []
  -- `&` is the match
  match : {c : ℕ} {cs new : List ℕ} → c ≡ 38 → StandsFor matched cs new → StandsFor matched (c ∷ cs) (matched ++ new)
  -- `\&` is an ampersand and `\\` a backslash
  escaped : {b c : ℕ} {cs new : List ℕ} → b ≡ 92 → IsSpecial c → StandsFor matched cs new → StandsFor matched (b ∷ c ∷ cs) (c ∷ new)
  -- any other backslash is itself
  backslash : {c : ℕ} {cs new : List ℕ} → c ≡ 92 → BeginsPlain cs → StandsFor matched cs new → StandsFor matched (c ∷ cs) (c ∷ new)
  -- and so is any other byte
  byte : {c : ℕ} {cs new : List ℕ} → (IsSpecial c → ⊥) → StandsFor matched cs new → StandsFor matched (c ∷ cs) (c ∷ new)

-- the rest of a text, from a place of the whole on, and what it becomes where the matches at such places are replaced
pub data Becomes (by : List ℕ) : ℕ → List (ℕ × ℕ) → List ℕ → List ℕ → Type 0 where
  -- after the last match the text is kept
  rest : {at : ℕ} {text : List ℕ} → Becomes by at [] text text
  -- before a match the text is kept, and the replacement stands for the match
  replace : {at : ℕ} {p : ℕ × ℕ} {ps : List (ℕ × ℕ)} {put old new : List ℕ} (kept matched : List ℕ) →
      p.0 ≡ at + length kept → p.1 ≡ p.0 + length matched → StandsFor matched by put → Becomes by p.1 ps old new →
      Becomes by at (p ∷ ps) (kept ++ (matched ++ old)) (kept ++ (put ++ new))
