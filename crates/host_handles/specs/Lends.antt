-- What a table ends as, where a `&mut` to a thing of it is returned.
use Rattle.std.specs.Prelude.{ℤ}
use Rattle.std.specs.Borrow.{Lends, Fml, RattleType, MutBor}
use Rattle.std.specs.Ordering.{int_cmp}
use Rattle.std.specs.FinMap as map
use Rattle.host_handles.specs.contracts.numbered.Numbered.{the_row}

module _ (T : RattleType) (t : MutBor (map.FinMap int_cmp T.Denot)) (number : ℤ) where
  -- once the borrow r ends, the number has the last value written through r
  abbrev pub lends_number : MutBor T.Denot → Fml
  lends_number r = Lends (the_row T) T t r (map.insert t.now number)
