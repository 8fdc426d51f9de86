-- Mid code whose constants are small: those of its rows, the numbers of its lists, and its numbers.
use Rattle.std.proofs.Common.{◌^◌, ◌<◌, ◌≤◌}
use Rattle.std.specs.Prelude.{unsigned_abs}
use Rattle.mid_program.specs.Mid.{Code, Do, Over, Compare, Call, Ask, AskLine, FileLine, Replace, Number, Text, Unset, Get, Set, Array, IsOpen, Choose, Seq, Let, Bound, Codes, End, At, Fixed, Fresh, Step, Eval, Block, If, Loop, Each, Break, Continue, Next, Exit, ExitWith, Return, Mark, Steps, NoStep, Then}
use Rattle.mid_program.specs.Sorted.{count_of}

abbrev mutual
  pub Small : Code → Type 0
  Small (Do o es) = AllSmall es
  Small (Over l es) = (count_of es < 2 ^ 32) × AllSmall es
  Small (Compare c a b) = Small a × Small b
  Small (Call f es) = AllSmall es
  Small (AskLine s) = Small s
  Small (FileLine e s) = Small e × Small s
  Small (Replace all es s) = AllSmall es × Small s
  Small (Number z) = unsigned_abs z ≤ 2 ^ 53
  Small (Set x e) = Small e
  Small (Choose s c a b) = Small c × (Small a × Small b)
  Small (Seq a b) = Small a × Small b
  Small (Let a b) = Small a × Small b
  Small Ask = Unit {0}
  Small (Text i) = Unit {0}
  Small Unset = Unit {0}
  Small (Get x) = Unit {0}
  Small (Array a) = Unit {0}
  Small (IsOpen i) = Unit {0}
  Small (Bound m i) = Unit {0}

  pub AllSmall : Codes → Type 0
  AllSmall End = Unit {0}
  AllSmall (At e es) = Small e × AllSmall es
  AllSmall (Fixed n es) = (n < 2 ^ 32) × AllSmall es
  AllSmall (Fresh es) = AllSmall es

abbrev mutual
  pub SmallStep : Step → Type 0
  SmallStep (Eval e) = Small e
  SmallStep (Block ss) = SmallSteps ss
  SmallStep (If e a b) = Small e × (SmallStep a × SmallStep b)
  SmallStep (Loop first e a b) = Small e × (SmallStep a × SmallStep b)
  SmallStep (Each a e s) = Small e × SmallStep s
  SmallStep (ExitWith e) = Small e
  SmallStep (Return e) = Small e
  SmallStep Break = Unit {0}
  SmallStep Continue = Unit {0}
  SmallStep Next = Unit {0}
  SmallStep Exit = Unit {0}
  SmallStep (Mark i b) = Unit {0}

  pub SmallSteps : Steps → Type 0
  SmallSteps NoStep = Unit {0}
  SmallSteps (Then s ss) = SmallStep s × SmallSteps ss
