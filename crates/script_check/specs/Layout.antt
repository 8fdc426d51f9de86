-- A script that is cut into tokens, and what is found at a token or a use.
use Rattle.std.specs.Prelude.{ℕ, zero, suc, Bool, true, false, List, [], ◌∷◌, ◌++◌, length, map, Option, Some, None, option_map, option_to_list, slice_get}
use Rattle.awk_tokens.specs.declared.token.Punctuator.{Punctuator}
use Rattle.awk_tokens.specs.declared.token.TokenKind.{TokenKind}
use Rattle.awk_tokens.specs.declared.token.TokenKind.TheVariants.{Punctuator as Sign}
use Rattle.awk_tokens.specs.declared.token.Token.{Token}
use Rattle.awk_tokens.specs.Cutting.{Spelled}
use Rattle.awk_tokens.specs.Views.{spelled}
use Rattle.script_check.specs.declared.text.Text.{Text}
use Rattle.script_check.specs.declared.text.Spot.{Spot}
use Rattle.script_check.specs.Places as places
use Rattle.script_check.specs.Remarks.{Remark, Found, bounded}

-- how many bytes a script has, its tokens, where each begins, and at which of them uses stand
pub record Layout : Type 0 where
  pub size : ℕ
  pub tokens : List Token
  pub begins : List ℕ
  pub uses : List ℕ

abbrev pub layout : (script : List ℕ) → List Token → Layout
layout script tokens =
    record { size = length script; tokens = tokens; begins = places.starts script tokens (length tokens); uses = places.told tokens (length tokens) }

abbrev pub view_text : Text → Layout
view_text t = record { size = t.size; tokens = t.tokens.now; begins = t.starts.now; uses = t.told.now }

-- the tokens with their numbers, from 0, in place of their lines
abbrev pub numbered : List Token → List Spelled
numbered tokens = map spelled (places.renumbered tokens (length tokens))

-- ---- tokens

abbrev pub kind_of : Option Token → Option TokenKind
kind_of None = None
kind_of (Some t) = Some t.kind

abbrev pub kind_at : List Token → ℕ → Option TokenKind
kind_at tokens i = kind_of (slice_get tokens i)

abbrev pub text_at : List Token → ℕ → List ℕ
text_at tokens i = places.text_of (slice_get tokens i)

-- ---- findings

-- at a token, by its number
abbrev pub found_by : (size : ℕ) → (start : Option ℕ) → Option Token → Remark → Found
found_by size (Some start) (Some t) r = bounded size start (length t.text.now) r
found_by size _ _ r = bounded size 0 0 r

abbrev pub found_at : Layout → ℕ → Remark → Found
found_at lay i r = found_by lay.size (slice_get lay.begins i) (slice_get lay.tokens i) r

-- the number and the text of a token at which a use stands
pub record Place : Type 0 where
  pub number : ℕ
  pub name : List ℕ

abbrev pub view_spot : Spot → Place
view_spot s = record { number = s.number; name = s.name.now }

abbrev pub named_place : ℕ → Option Token → Option Place
named_place number None = None
named_place number (Some t) = Some (record { number = number; name = t.text.now })

abbrev pub place_by : List Token → Option ℕ → Option Place
place_by tokens None = None
place_by tokens (Some number) = named_place number (slice_get tokens number)

-- of a use, by its number
abbrev pub use_place : Layout → ℕ → Option Place
use_place lay i = place_by lay.tokens (slice_get lay.uses i)

-- at a use, by its number; what is said may have the name
abbrev pub use_found : Layout → ℕ → (List ℕ → Remark) → Option Found
use_found lay i remark = option_map (λ p. found_at lay p.number (remark p.name)) (use_place lay i)

-- those that there are at the first so many places
abbrev pub collected : (ℕ → Option Found) → ℕ → List Found
collected at zero = []
collected at (suc i) = collected at i ++ option_to_list (at i)
