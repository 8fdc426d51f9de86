-- The text of a value that is lent, or the digits of a number.
use Rattle.std.specs.Prelude.{ℕ, List, []}
use Rattle.host_worlds.specs.declared.shown.Shown.{Shown}
use Rattle.host_worlds.specs.declared.shown.Shown.TheVariants.{Own, Digits, Empty}

abbrev pub shown : Shown → List ℕ
shown (Own text) = text.now
shown (Digits digits) = digits
shown Empty = []
