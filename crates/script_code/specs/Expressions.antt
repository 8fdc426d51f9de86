-- The constant expressions of a script: its ERE tokens.
use Rattle.std.specs.Prelude.{◌≡◌, ◌≢◌, ℕ, Bool, true, false, List, ◌∷◌, ◌++◌}
use Rattle.std.specs.List.{AllByRecursion}
use Rattle.awk_text.specs.Escapes.{between}
use Rattle.awk_tokens.specs.Cutting.{Spelled}
use Rattle.awk_tokens.specs.declared.token.TokenKind.{TokenKind}
use Rattle.awk_tokens.specs.declared.token.TokenKind.TheVariants.{Ere as EreToken}
use Rattle.ere_syntax.specs.Answers.{IsRefused, IsTreeOf}
use Rattle.ere_syntax.specs.Tree.{Tree}
use Rattle.ere_syntax.specs.declared.fault.EreFault.{EreFault}
use Rattle.ere_syntax.specs.declared.fault.EreFault.TheVariants as expressions
use Rattle.run_report.specs.declared.compile_fault.CompileFault.{CompileFault}
use Rattle.run_report.specs.declared.compile_fault.CompileFault.TheVariants.{Ere, NoMemory}

abbrev pub is_ere : TokenKind → Bool
is_ere EreToken = true
is_ere _ = false

-- the text has a tree within the limits
abbrev pub IsExpression : List ℕ → Type 0
IsExpression text = (t : Tree) × IsTreeOf text t

-- a token that is no ERE, or one with an expression between its slashes
abbrev pub IsFine : Spelled → Type 0
IsFine t = is_ere t.kind ≡ true → IsExpression (between t.text)

abbrev pub AreFine : List Spelled → Type 0
AreFine tokens = AllByRecursion IsFine tokens

-- an ERE on this line, with no tree between its slashes (`BadEre`) or with one past the limits (`EreTooLarge`)
pub record IsBad (t : Spelled) (line : ℕ) (fault : EreFault) : Type 0 where
  pub ere : is_ere t.kind ≡ true
  pub line_is : line ≡ t.line
  pub named : fault ≢ expressions.NoMemory
  pub cause : IsRefused (between t.text) fault

-- the first such ERE of a script
pub record IsFirstBad (tokens : List Spelled) (line : ℕ) (fault : EreFault) : Type 0 where
  pub before : List Spelled
  pub token : Spelled
  pub after : List Spelled
  pub whole : tokens ≡ before ++ token ∷ after
  pub fine : AreFine before
  pub bad : IsBad token line fault

-- The rest serves contracts inside the crate.

-- a fault of the expression on this line, as one of its script
abbrev pub expression_fault : ℕ → EreFault → CompileFault
expression_fault line expressions.NoMemory = NoMemory
expression_fault line fault = Ere line fault

abbrev pub IsBadAs : Spelled → CompileFault → Type 0
IsBadAs t (Ere line fault) = IsBad t line fault
IsBadAs t NoMemory = Unit {0}
IsBadAs t _ = ⊥

abbrev pub HasBad : List Spelled → CompileFault → Type 0
HasBad tokens (Ere line fault) = IsFirstBad tokens line fault
HasBad tokens NoMemory = Unit {0}
HasBad tokens _ = ⊥
