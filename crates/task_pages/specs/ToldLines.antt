-- What is told of a run after the line of its end: where it was, or what was counted of it.
use Rattle.std.specs.Prelude.{◌≡◌, ℕ, Bool, true, false, List, [], IfOk, Option, None, Some, Result, Ok, Err}
use Rattle.std.specs.declared.vec.Vec.{Vec}
use Rattle.std.specs.declared.alloc.Global.{Global}
use Rattle.run_report.specs.declared.end.RunEnd.{RunEnd}
use Rattle.run_report.specs.declared.end.RunEnd.TheVariants.{Refused}

-- nothing is counted of a script that is refused
abbrev pub is_uncounted : RunEnd → Bool
is_uncounted (Refused cause) = true
is_uncounted e = false

-- the lines for which there was memory
abbrev pub lines_in : {E : Type 0} → Result (Vec ℕ Global) E → List ℕ
lines_in (Ok lines) = lines.items
lines_in (Err error) = []

-- The lines of what is seen or counted of a run, unless memory ran out. Where that is nothing there are none, and the run is one of which nothing is told.
abbrev pub AreLines : {A E : Type 0} → (is_untold : Bool) → (A → List ℕ) → Option A → Result (Vec ℕ Global) E → Type 0
AreLines is_untold text (Some found) lines = IfOk lines (λ made. made.items ≡ text found)
AreLines is_untold text None lines = IfOk lines (λ made. (made.items ≡ []) × (is_untold ≡ true))

-- something is seen or counted of a run, or nothing, and the lines tell it
abbrev pub Tells : {A E : Type 0} → (is_untold : Bool) → (Option A → Type 0) → (A → List ℕ) → Result (Vec ℕ Global) E → Type 0
Tells {A} is_untold seen text lines = (found : Option A) × seen found × AreLines is_untold text found lines
