-- What is found in a script that is refused for a token, for its tokens, or for a regular expression.
use Rattle.std.specs.Prelude.{◌≡◌, ℕ, ◌-◌, ◌+◌, nat_le, if◌then◌else◌, List, [], ◌∷◌, ◌++◌, length, Option, Some, None, codes, option_map, option_to_list, slice_get, slice_range, ◌≢◌}
use Rattle.awk_tokens.specs.declared.token.TokenKind.{TokenKind}
use Rattle.awk_tokens.specs.declared.token.TokenKind.TheVariants.{Ere}
use Rattle.awk_tokens.specs.declared.token.Token.{Token}
use Rattle.awk_parse.specs.Scan.{kind_fault}
use Rattle.awk_parse.specs.declared.fault.Feature.TheVariants.{Pipe, Word}
use Rattle.awk_parse.specs.declared.fault.ParseFault.{ParseFault}
use Rattle.awk_parse.specs.declared.fault.ParseFault.TheVariants.{LeftOut, NotWhole, ConstantRange, Syntax, TooDeep, Misplaced, NoMemory}
use Rattle.ere_syntax.specs.Answers.{IsTreeOf, IsRefused as IsRefusedEre}
use Rattle.ere_syntax.specs.Tree.{Tree}
use Rattle.ere_syntax.specs.declared.fault.EreFault.{EreFault}
use Rattle.ere_syntax.specs.declared.fault.EreFault.TheVariants as eres
use Rattle.script_check.specs.Layout.{Layout, collected, found_at, kind_at, text_at}
use Rattle.script_check.specs.Remarks.{Remark, Found, error}
use Rattle.script_check.specs.Stopped.{syntax_at}

-- ---- tokens that are refused by themselves

-- for such a fault of a token with this text
abbrev pub alone_remark : ParseFault → (text : List ℕ) → Option Remark
alone_remark (LeftOut n Pipe) text = Some (error (codes "LeftOut") (codes "pipe") (codes "pipes are left out"))
alone_remark (LeftOut n (Word w)) text = Some (error (codes "LeftOut") text (codes "it is left out"))
alone_remark (NotWhole n) text = Some (error (codes "NotWhole") [] (codes "the number is not whole"))
alone_remark (ConstantRange n) text = Some (error (codes "ConstantRange") [] (codes "the number is above 9007199254740992"))
alone_remark _ text = None

abbrev pub fault_remark : Option ParseFault → (text : List ℕ) → Option Remark
fault_remark None text = None
fault_remark (Some fault) text = alone_remark fault text

-- a word or a sign that the language leaves out, or a number that it does not have
abbrev pub token_remark : Option Token → Option Remark
token_remark None = None
token_remark (Some t) = fault_remark (kind_fault t.kind 0 t.text.now) t.text.now

abbrev pub alone_found : Layout → ℕ → Option Found
alone_found lay i = option_map (found_at lay i) (token_remark (slice_get lay.tokens i))

-- ---- tokens that have no tree

-- where reading stopped
abbrev pub stopped_found : Layout → ParseFault → Option Found
stopped_found lay (Syntax n) = Some (found_at lay n (syntax_at lay.tokens n))
stopped_found lay (TooDeep n) = Some (found_at lay n (error (codes "TooDeep") [] (codes "nested more than 1,000 deep")))
stopped_found lay (Misplaced n) = Some (found_at lay n (error (codes "Misplaced") (text_at lay.tokens n) (codes "it means nothing here")))
stopped_found lay _ = None

-- What is found, by the fault of tokens that carry their numbers in place of lines. If one token is refused by itself, each that is so is found.
abbrev pub refused_found : Layout → ParseFault → List Found
refused_found lay (LeftOut n feature) = collected (alone_found lay) (length lay.tokens)
refused_found lay (NotWhole n) = collected (alone_found lay) (length lay.tokens)
refused_found lay (ConstantRange n) = collected (alone_found lay) (length lay.tokens)
refused_found lay fault = option_to_list (stopped_found lay fault)

-- ---- regular expressions

-- what is between the slashes
abbrev pub inner : List ℕ → List ℕ
inner text = if nat_le 2 (length text) then slice_range text 1 (length text - 1) else []

-- the expression has a tree, or is refused for this
abbrev pub IsEreFault : (text : List ℕ) → Option EreFault → Type 0
IsEreFault text None = (t : Tree) × IsTreeOf text t
IsEreFault text (Some fault) = (fault ≢ eres.NoMemory) × IsRefusedEre text fault

-- the same of a token; other tokens are fine
abbrev pub IsKindFault : TokenKind → (text : List ℕ) → Option EreFault → Type 0
IsKindFault Ere text fault = IsEreFault (inner text) fault
IsKindFault _ text fault = fault ≡ None

abbrev pub IsTokenFault : Option TokenKind → (text : List ℕ) → Option EreFault → Type 0
IsTokenFault None text fault = fault ≡ None
IsTokenFault (Some kind) text fault = IsKindFault kind text fault

abbrev pub ere_remark : EreFault → Option Remark
ere_remark (eres.BadEre place) = Some (error (codes "BadEre") [] (codes "it is no regular expression"))
ere_remark eres.EreTooLarge = Some (error (codes "EreTooLarge") [] (codes "it is past the limits"))
ere_remark eres.NoMemory = None

abbrev pub ere_found : Layout → ℕ → Option EreFault → Option Found
ere_found lay i None = None
ere_found lay i (Some fault) = option_map (found_at lay i) (ere_remark fault)

-- what is found at the regular expressions among so many tokens
pub data AreEres (lay : Layout) : ℕ → List Found → Type 0 where
  no_token : AreEres lay 0 []
  token : (i : ℕ) (found : List Found) (fault : Option EreFault) → AreEres lay i found → IsTokenFault (kind_at lay.tokens i) (text_at lay.tokens i) fault → AreEres lay (i + 1) (found ++ option_to_list (ere_found lay i fault))
