-- What is found in a script that is not cut into tokens: where the cutting stops.
use Rattle.std.specs.Prelude.{◌≡◌, ◌⊎◌, ℕ, zero, suc, ◌+◌, ◌-◌, ◌<◌, ◌≤◌, ◌==◌, nat_le, Bool, true, false, not, ◌||◌, if◌then◌else◌, List, [], ◌∷◌, length, take, drop, Option, Some, None, Ok, Err, codes, slice_get, slice_index}
use Rattle.std.specs.Char.{is_ascii_alphanumeric}
use Rattle.std.specs.List.{starts_with}
use Rattle.awk_text.specs.Bytes.{carriage_return, quote, slash, space, tab, underscore}
use Rattle.awk_tokens.specs.Cutting.{IsTokens, Spelled}
use Rattle.awk_tokens.specs.declared.token.TokenFault.{TokenFault}
use Rattle.awk_tokens.specs.declared.token.TokenFault.TheVariants.{BadByte, OpenString, OpenEre, NoMemory}
use Rattle.script_check.specs.Page.{first_line, is_inner, is_newline}
use Rattle.script_check.specs.Remarks.{Found, bounded, error}

-- ---- the line

-- where a line begins; lines count from 1
abbrev pub line_start : (line : ℕ) → List ℕ → ℕ
line_start line [] = 0
line_start line (b ∷ bs) = if nat_le line 1 then 0 else suc (line_start (if is_newline b then line - 1 else line) bs)

-- where the line ends that begins at a place
abbrev pub line_end : List ℕ → ℕ → ℕ
line_end script start = start + length (first_line (drop start script))

-- ---- the place

-- what stops the cutting may begin with this byte
abbrev pub may_stop : TokenFault → ℕ → Bool
may_stop (OpenString n) b = b == quote
may_stop (OpenEre n) b = b == slash
may_stop _ b = not (is_ascii_alphanumeric b || (b == space || (b == tab || b == underscore)))

-- the bytes before a place are cut into tokens
abbrev pub IsCut : List ℕ → ℕ → Type 0
IsCut script place = (found : List Spelled) × IsTokens (take place script) (Ok found)

abbrev pub IsNotCut : List ℕ → ℕ → Type 0
IsNotCut script place = (fault : TokenFault) × IsTokens (take place script) (Err fault)

abbrev pub IsCutOrNot : List ℕ → ℕ → Bool → Type 0
IsCutOrNot script place true = IsCut script place
IsCutOrNot script place false = IsNotCut script place

-- the last place of a line before which the bytes are cut, of those at which the cutting may stop
pub record IsLastStop (script : List ℕ) (fault : TokenFault) (from to place : ℕ) : Type 0 where
  pub after : from ≤ place
  pub before : place < to
  pub may : may_stop fault (slice_index script place) ≡ true
  pub cut : IsCut script place
  pub last : (k : ℕ) → place < k → k < to → may_stop fault (slice_index script k) ≡ true → IsNotCut script k

-- how many of the last so many places before `to` may stop the cutting
abbrev pub stop_count : List ℕ → TokenFault → (to : ℕ) → ℕ → ℕ
stop_count script fault to zero = 0
stop_count script fault to (suc n) = if may_stop fault (slice_index script (to - suc n)) then suc (stop_count script fault to n) else stop_count script fault to n

-- the bytes are cut before none of these places, unless more than 1,000 of them had to be tried
abbrev pub IsUnfound : List ℕ → TokenFault → (from to : ℕ) → Type 0
IsUnfound script fault from to =
    (1000 ≤ stop_count script fault to (to - from)) ⊎ ((k : ℕ) → from ≤ k → k < to → may_stop fault (slice_index script k) ≡ true → IsNotCut script k)

abbrev pub StopsAt : List ℕ → TokenFault → (from to : ℕ) → Option ℕ → Type 0
StopsAt script fault from to None = IsUnfound script fault from to
StopsAt script fault from to (Some place) = IsLastStop script fault from to place

-- ---- what is said

abbrev pub fault_line : TokenFault → ℕ
fault_line (BadByte line) = line
fault_line (OpenString line) = line
fault_line (OpenEre line) = line
fault_line NoMemory = 0

abbrev pub fault_word : TokenFault → List ℕ
fault_word (BadByte line) = codes "BadByte"
fault_word (OpenString line) = codes "OpenString"
fault_word (OpenEre line) = codes "OpenEre"
fault_word NoMemory = []

abbrev pub begins : (front rest : List ℕ) → Bool
begins front rest = starts_with ◌==◌ rest front

-- in UTF-8
abbrev pub byte_order_mark : List ℕ
byte_order_mark = 239 ∷ 187 ∷ 191 ∷ []

abbrev pub curled_quote : (last : ℕ) → List ℕ
curled_quote last = 226 ∷ 128 ∷ last ∷ []

abbrev pub is_curled : List ℕ → Bool
is_curled rest = begins (curled_quote 152) rest || (begins (curled_quote 153) rest || (begins (curled_quote 156) rest || begins (curled_quote 157) rest))

-- of the bytes from which on nothing is cut
abbrev pub byte_text : List ℕ → List ℕ
byte_text rest =
    if begins (carriage_return ∷ []) rest then codes "a carriage return; lines end in a newline alone"
    else if begins byte_order_mark rest then codes "a byte-order mark"
    else if is_curled rest then codes "a curled quote; texts stand in straight ones" else codes "no token begins with this byte"

abbrev pub is_inner_byte : Option ℕ → Bool
is_inner_byte None = false
is_inner_byte (Some b) = is_inner b

-- how many bytes a character has, as UTF-8 has it
abbrev pub character_length : List ℕ → ℕ
character_length rest =
    if not (is_inner_byte (slice_get rest 1)) then 1
    else if not (is_inner_byte (slice_get rest 2)) then 2
    else if not (is_inner_byte (slice_get rest 3)) then 3 else 4

abbrev pub stop_text : TokenFault → (rest : List ℕ) → List ℕ
stop_text (OpenString line) rest = codes "the text is not closed on its line"
stop_text (OpenEre line) rest = codes "the regular expression is not closed on its line"
stop_text _ rest = byte_text rest

abbrev pub stop_length : TokenFault → (rest : List ℕ) → ℕ
stop_length (BadByte line) rest = character_length rest
stop_length _ rest = 1

module _ (script : List ℕ) (fault : TokenFault) where
  abbrev pub stop_found : (place : ℕ) → Found
  stop_found place = bounded (length script) place (stop_length fault (drop place script)) (error (fault_word fault) [] (stop_text fault (drop place script)))

  -- if the place is not found
  abbrev pub line_found : (start : ℕ) → Found
  line_found start = bounded (length script) start 0 (error (fault_word fault) [] (codes "on this line"))

-- where cutting stops, on the fault's line; or only the line
pub data IsUncut (script : List ℕ) (fault : TokenFault) : Found → Type 0 where
  at_place : (from place : ℕ) → from ≡ line_start (fault_line fault) script → IsLastStop script fault from (line_end script from) place → IsUncut script fault (stop_found script fault place)
  on_line : (from : ℕ) → from ≡ line_start (fault_line fault) script → IsUnfound script fault from (line_end script from) → IsUncut script fault (line_found script fault from)
