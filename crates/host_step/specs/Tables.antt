-- Finite maps from numbers, as lists of entries in the order of their numbers.
use Rattle.std.specs.Prelude.{ℤ, not, List, Option}
use Rattle.std.specs.Ordering.{eq_by_cmp, int_cmp}
use Rattle.std.specs.FinMap.Entries.{find, put, where_key}

abbrev pub Table : Type 0 → Type 0
Table A = List (ℤ × A)

-- what a number stands for
abbrev pub look : {A : Type 0} → Table A → ℤ → Option A
look table q = find int_cmp q table

abbrev pub entered : {A : Type 0} → ℤ → A → Table A → Table A
entered q x table = put int_cmp q x table

abbrev pub without : {A : Type 0} → ℤ → Table A → Table A
without q table = where_key int_cmp (λ n. not (eq_by_cmp int_cmp q n)) table
