use Rattle.std.proofs.Common.{◌≡◌, ℕ, refl, Bool, true, false, None, get_or}
use Rattle.std.specs.Prelude.{replicate}
use Rattle.ere_match.specs.Rows.{columns}
use Rattle.ere_match.proofs.Apart.{nowhere}
use Rattle.ere_match.proofs.row.Moves.none.Goals as goal

nowhere_yet : (found : Bool) (k : ℕ) → get_or (columns found (record { seeking = replicate 256 None; found = replicate 256 None })) k None ≡ None
nowhere_yet true k = nowhere 256 k None refl
nowhere_yet false k = nowhere 256 k None refl

pub returns : goal.returns
returns c = nowhere_yet
