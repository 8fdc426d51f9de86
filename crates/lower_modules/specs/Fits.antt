-- Which functions have few enough locals.
use Rattle.std.specs.Prelude.{◌≡◌, ℕ, ◌<◌, ◌≤◌, length, Option, MatchOption}
use Rattle.wasm_types.specs.Profile.{most_locals, most_module_bytes}
use Rattle.lower_model.specs.Places.{Bases, local_types}
use Rattle.lower_modules.specs.declared.needs.Needs.{Needs}

-- a function does not have more parameters: each takes a byte of the module
abbrev pub most_parameters : ℕ
most_parameters = most_module_bytes

pub record FewLocals (bases : Bases) : Type 0 where
  pub parameters : bases.parameters ≤ most_parameters
  pub locals : length (local_types bases) ≤ most_locals

abbrev pub view_needs : Needs → Bases
view_needs needs = record { parameters = needs.parameters; temporaries = needs.temporaries; iterators = needs.iterators; arrays = needs.arrays }

-- the needs are these, and there are few locals; without needs there are too many
abbrev pub IsNeeds : Option Needs → Bases → Type 0
IsNeeds found bases = MatchOption found (FewLocals bases → ⊥) (λ needs. (view_needs needs ≡ bases) × FewLocals bases)

-- these needs, or too many locals
abbrev pub IsFew : Option Needs → Needs → Type 0
IsFew found needs =
    MatchOption found (most_locals < length (local_types (view_needs needs))) (λ own. (own ≡ needs) × (length (local_types (view_needs needs)) ≤ most_locals))
