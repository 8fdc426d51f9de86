-- Where tokens begin in a script, and at which of them uses stand.
use Rattle.std.specs.Prelude.{ℕ, zero, suc, ◌+◌, ◌-◌, ◌==◌, nat_le, min, Bool, true, false, ◌&&◌, if◌then◌else◌, List, [], ◌∷◌, ◌++◌, drop, length, Option, Some, None, slice_get}
use Rattle.awk_text.specs.Bytes.{newline, hash, backslash}
use Rattle.awk_tokens.specs.declared.token.Punctuator.TheVariants.{Assign, Slash}
use Rattle.awk_tokens.specs.declared.token.TokenKind.{TokenKind}
use Rattle.awk_tokens.specs.declared.token.TokenKind.TheVariants.{Name, FuncName, Punctuator}
use Rattle.awk_tokens.specs.declared.token.Token.{Token}
use Rattle.script_check.specs.declared.places.Gap.{Gap}
use Rattle.script_check.specs.declared.places.Gap.TheVariants.{Blank, Comment, Escaped}

-- a token that begins with `first` begins at this byte
abbrev pub stops : Gap → (first byte : ℕ) → Bool
stops Blank first c = c == first
stops Comment first c = (c == newline) && (c == first)
stops Escaped first c = false

-- what stands behind a byte
abbrev pub next : Gap → ℕ → Gap
next Comment c = if c == newline then Blank else Comment
next Blank c = if c == hash then Comment else if c == backslash then Escaped else Blank
next Escaped c = Blank

-- how many bytes of blanks, comments, newlines and semicolons stand before a token that begins with `first`
abbrev pub gap_from : (first : ℕ) → Gap → List ℕ → ℕ
gap_from first gap [] = 0
gap_from first gap (c ∷ cs) = if stops gap first c then 0 else suc (gap_from first (next gap c) cs)

-- the same of a token's text; a `;` that the script does not have stands directly behind the token before it
abbrev pub between : (text rest : List ℕ) → ℕ
between [] rest = 0
between (first ∷ text) rest = gap_from first Blank rest

abbrev pub end_of : (script : List ℕ) → ℕ → (text : List ℕ) → ℕ
end_of script start text = if nat_le (length text) (length script - start) then start + length text else length script

abbrev pub text_of : Option Token → List ℕ
text_of None = []
text_of (Some t) = t.text.now

-- where a token begins that comes next behind a place
abbrev pub start_from : (script : List ℕ) → (end : ℕ) → Option Token → ℕ
start_from script end t = end + between (text_of t) (drop end script)

-- where so many tokens end
abbrev pub ends : (script : List ℕ) → List Token → ℕ → ℕ
ends script tokens zero = 0
ends script tokens (suc i) = end_of script (start_from script (ends script tokens i) (slice_get tokens i)) (text_of (slice_get tokens i))

-- where each of so many tokens begins
abbrev pub starts : (script : List ℕ) → List Token → ℕ → List ℕ
starts script tokens zero = []
starts script tokens (suc i) = starts script tokens i ++ start_from script (ends script tokens i) (slice_get tokens i) ∷ []

-- so many tokens, with their numbers in place of their lines
abbrev pub renumbered_one : Option Token → ℕ → List Token
renumbered_one None i = []
renumbered_one (Some t) i = record { kind = t.kind; line = i; text = t.text } ∷ []

abbrev pub renumbered : List Token → ℕ → List Token
renumbered tokens zero = []
renumbered tokens (suc i) = renumbered tokens i ++ renumbered_one (slice_get tokens i) i

-- a use stands at a token of this kind
abbrev pub is_told : TokenKind → Bool
is_told Name = true
is_told FuncName = true
is_told (Punctuator Assign) = true
is_told (Punctuator Slash) = true
is_told _ = false

abbrev pub told_one : Option Token → ℕ → List ℕ
told_one None i = []
told_one (Some t) i = if is_told t.kind then i ∷ [] else []

-- the numbers of the tokens at which uses stand, among so many
abbrev pub told : List Token → ℕ → List ℕ
told tokens zero = []
told tokens (suc i) = told tokens i ++ told_one (slice_get tokens i) i
