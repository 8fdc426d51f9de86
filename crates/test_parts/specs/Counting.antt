-- How many steps and imports a run takes, and whether imports are called between two boundaries.
use Rattle.std.specs.Prelude.{ℕ, zero, suc, ◌+◌, nat_lt, if◌then◌else◌, Bool, true, false}
use Rattle.wasm_types.specs.Syntax.{Plain, Instructions, Then}
use Rattle.wasm_types.specs.declared.instr.Simple.TheVariants.{Nop, Call}
use Rattle.host_imports.specs.Imports.{import_count}
use Rattle.lower_model.specs.Machine.{Code, Conf, Run, Look, Over, Deep, Stuck, step}

abbrev calls_import : Instructions → ℕ
calls_import (Then (Plain (Call n)) c) = if nat_lt n import_count then 1 else 0
calls_import _ = 0

-- the import that is called next, counted
abbrev import_next : Conf → ℕ
import_next (Run ks vs K L F c G) = calls_import c
import_next (Look x ks vs K L F c G) = calls_import c
import_next _ = 0

abbrev pub imports_within : Code → ℕ → Conf → ℕ
imports_within u zero c = 0
imports_within u (suc n) c = import_next c + imports_within u n (step u c)

abbrev is_over : Conf → Bool
is_over (Over v G) = true
is_over (Deep G) = true
is_over Stuck = true
is_over _ = false

-- steps until it is over
abbrev pub steps_within : Code → ℕ → Conf → ℕ
steps_within u zero c = 0
steps_within u (suc n) c = if is_over c then 0 else suc (steps_within u n (step u c))

abbrev begins_nop : Instructions → Bool
begins_nop (Then (Plain Nop) c) = true
begins_nop _ = false

abbrev is_boundary : Conf → Bool
is_boundary (Run ks vs K L F c G) = begins_nop c
is_boundary _ = false

-- the boundary that comes next
abbrev pub next_boundary : Code → (most : ℕ) → Conf → Conf
next_boundary u zero c = Stuck
next_boundary u (suc n) c = if is_boundary c then c else next_boundary u n (step u c)

-- imports from a boundary to the next one
abbrev imports_until : Code → (most : ℕ) → Conf → ℕ
imports_until u zero c = 1
imports_until u (suc n) c = if is_boundary c then 0 else import_next c + imports_until u n (step u c)

abbrev pub imports_at : Code → (most : ℕ) → Conf → ℕ
imports_at u most c = imports_until u most (step u c)
