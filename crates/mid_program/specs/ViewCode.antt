-- The plain code that the types of code stand for.
use Rattle.std.specs.Prelude.{List, [], ◌∷◌, Option, Some, None}
use Rattle.sem_primitives.specs.declared.table.Primitive.TheVariants as row
use Rattle.sem_scripts.specs.Names as names
use Rattle.mid_program.specs.Mid as plain
use Rattle.mid_program.specs.declared.mid.Operation.TheVariants as operation
use Rattle.mid_program.specs.declared.code.Slot.{Slot}
use Rattle.mid_program.specs.declared.code.Slot.TheVariants as slot
use Rattle.mid_program.specs.declared.code.ArrayName.{ArrayName}
use Rattle.mid_program.specs.declared.code.ArrayName.TheVariants as array
use Rattle.mid_program.specs.declared.code.Operand.{Operand}
use Rattle.mid_program.specs.declared.code.Operand.TheVariants as operand
use Rattle.mid_program.specs.declared.code.Code.{Code, Row_of-Code, end_of-Code, more_of-Code, Row_of-Operand, end_of-Operand, more_of-Operand}
use Rattle.mid_program.specs.declared.code.Code.TheVariants.{Do', Joined', Over', Compare', Call', Ask, AskLine', FileLine', Replace', Number, Text, Unset, Get, Set', Array, IsOpen, Choose', Seq', Let', Bound}
use Rattle.mid_program.specs.declared.step.Step.{Step, Row_of-Step, end_of-Step, more_of-Step}
use Rattle.mid_program.specs.declared.step.Step.TheVariants as step

abbrev pub view_slot : Slot → plain.Slot
view_slot (slot.Global u i) = plain.Global u i
view_slot (slot.Parameter u i) = plain.Parameter u i

abbrev pub view_array : ArrayName → names.ArrayName
view_array (array.Numbered i) = names.Numbered i
view_array (array.Given i) = names.Given i

-- the key of subscripts, the last one apart: each is joined to the key of those after it
abbrev pub joined : List plain.Code → plain.Code → plain.Code
joined [] last = last
joined (e ∷ es) last = plain.Do (operation.Host row.Join) (plain.At e (plain.At (joined es last) plain.End))

abbrev mutual
  pub view : Code → plain.Code
  view (Do' o shape all) = plain.Do o (view_row all)
  view (Joined' p e shape all q last) = joined (view e ∷ view_code_row all) (view last)
  view (Over' l shape all) = plain.Over l (view_row all)
  view (Compare' op p a q b) = plain.Compare op (view a) (view b)
  view (Call' f shape all) = plain.Call f (view_row all)
  view Ask = plain.Ask
  view (AskLine' p s) = plain.AskLine (view s)
  view (FileLine' p e q s) = plain.FileLine (view e) (view s)
  view (Replace' every shape all p s) = plain.Replace every (view_row all) (view s)
  view (Number z) = plain.Number z
  view (Text i) = plain.Text i
  view Unset = plain.Unset
  view (Get x) = plain.Get (view_slot x)
  view (Set' x p e) = plain.Set (view_slot x) (view e)
  view (Array a) = plain.Array (view_array a)
  view (IsOpen i) = plain.IsOpen i
  view (Choose' s p c q a r b) = plain.Choose s (view c) (view a) (view b)
  view (Seq' p a q b) = plain.Seq (view a) (view b)
  view (Let' p a q b) = plain.Let (view a) (view b)
  view (Bound m i) = plain.Bound m i

  -- an operand before others
  pub before : Operand → plain.Codes → plain.Codes
  before (operand.Code e) rest = plain.At (view e) rest
  before (operand.Constant n) rest = plain.Fixed n rest
  before operand.Fresh rest = plain.Fresh rest

  pub view_row : {m : _} → Row_of-Operand m → plain.Codes
  view_row end_of-Operand = plain.End
  view_row (more_of-Operand e rest) = before e (view_row rest)

  pub view_code_row : {m : _} → Row_of-Code m → List plain.Code
  view_code_row end_of-Code = []
  view_code_row (more_of-Code e rest) = view e ∷ view_code_row rest

abbrev pub views : List Operand → plain.Codes
views [] = plain.End
views (e ∷ es) = before e (views es)

-- codes after others
abbrev pub followed : plain.Codes → plain.Codes → plain.Codes
followed plain.End rest = rest
followed (plain.At e es) rest = plain.At e (followed es rest)
followed (plain.Fixed n es) rest = plain.Fixed n (followed es rest)
followed (plain.Fresh es) rest = plain.Fresh (followed es rest)

abbrev pub view_maybe : Option Code → Option plain.Code
view_maybe None = None
view_maybe (Some e) = Some (view e)

abbrev mutual
  pub view_step : Step → plain.Step
  view_step (step.Eval e) = plain.Eval (view e)
  view_step (step.Block' shape all) = plain.Block (view_step_row all)
  view_step (step.If' e p s q t) = plain.If (view e) (view_step s) (view_step t)
  view_step (step.Loop' first e p s q t) = plain.Loop first (view e) (view_step s) (view_step t)
  view_step (step.Each' a e p s) = plain.Each (view_array a) (view e) (view_step s)
  view_step step.Break = plain.Break
  view_step step.Continue = plain.Continue
  view_step step.Next = plain.Next
  view_step step.Exit = plain.Exit
  view_step (step.ExitWith e) = plain.ExitWith (view e)
  view_step (step.Return e) = plain.Return (view e)
  view_step (step.Mark i b) = plain.Mark i b

  pub view_step_row : {m : _} → Row_of-Step m → plain.Steps
  view_step_row end_of-Step = plain.NoStep
  view_step_row (more_of-Step s rest) = plain.Then (view_step s) (view_step_row rest)

abbrev pub view_steps : List Step → plain.Steps
view_steps [] = plain.NoStep
view_steps (s ∷ ss) = plain.Then (view_step s) (view_steps ss)

-- a step, if there is one, before others
abbrev pub maybe_then : Option Step → plain.Steps → plain.Steps
maybe_then None rest = rest
maybe_then (Some s) rest = plain.Then (view_step s) rest
