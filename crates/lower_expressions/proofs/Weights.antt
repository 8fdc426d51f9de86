-- How much code there is.
use Rattle.std.proofs.Common.{ℕ, suc, ◌+◌}
use Rattle.mid_program.specs.Mid.{Code, Do, Over, Compare, Call, Ask, AskLine, FileLine, Replace, Number, Text, Unset, Get, Set, Array, IsOpen, Choose, Seq, Let, Bound, Codes, End, At, Fixed, Fresh}

abbrev mutual
  pub weight : Code → ℕ
  weight (Do o es) = suc (weights es)
  weight (Over l es) = suc (weights es)
  weight (Compare c a b) = suc (weight a + weight b)
  weight (Call f es) = suc (weights es)
  weight Ask = 1
  weight (AskLine s) = suc (weight s)
  weight (FileLine e s) = suc (weight e + weight s)
  weight (Replace all es s) = suc (weights es + weight s)
  weight (Number z) = 1
  weight (Text i) = 1
  weight Unset = 1
  weight (Get x) = 1
  weight (Set x e) = suc (weight e)
  weight (Array a) = 1
  weight (IsOpen i) = 1
  weight (Choose s c a b) = suc (weight c + (weight a + weight b))
  weight (Seq a b) = suc (weight a + weight b)
  weight (Let a b) = suc (weight a + weight b)
  weight (Bound m i) = 1

  pub weights : Codes → ℕ
  weights End = 0
  weights (At e es) = suc (weight e + weights es)
  weights (Fixed m es) = suc (weights es)
  weights (Fresh es) = suc (weights es)
