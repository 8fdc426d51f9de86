-- The table of imports with a line each: name, arguments, answer, whether it may trap, and whether it may keep a fault. Its number is its place. That
-- this is the table by which host and modules go is computed at the end.
use Rattle.std.specs.Prelude.{◌≡◌, ℕ, Bool, true, false, cond, List, [], ◌∷◌, codes, Option, Some, None, map, refl}
use Rattle.sem_primitives.specs.declared.sorts.Argument.{Argument}
use Rattle.sem_primitives.specs.declared.sorts.Argument.TheVariants as argument
use Rattle.sem_primitives.specs.declared.sorts.Answer.{Answer}
use Rattle.sem_primitives.specs.declared.sorts.Answer.TheVariants as answer
use Rattle.sem_primitives.specs.declared.sorts.Sort.TheVariants as sort
use Rattle.host_imports.specs.Imports.{import_answer, import_arguments, imports, spends}
use Rattle.host_imports.specs.FaultColumns.{can_fault, can_trap}
use Rattle.host_imports.specs.Names.{import_name, import_number}
use Rattle.host_imports.specs.declared.import.Import.{Import}

-- H a value by its handle, which is spent, and Seen one that is only looked at; N a number, the one word of 64 bits; A an array and T an iterator,
-- FreedA and FreedT such as are let go; P a text in memory, by its place and its length; I a constant or a number of a name; C a code, as 0 where
-- there is nothing else to say
pub data Letter : Type 0 where
  H : Letter
  Seen : Letter
  N : Letter
  A : Letter
  FreedA : Letter
  T : Letter
  FreedT : Letter
  P : Letter
  I : Letter
  C : Letter

pub record Line : Type 0 where
  pub name : List ℕ
  pub takes : List Letter
  pub gives : Option Letter
  pub traps : Bool
  pub faults : Bool

abbrev pub line : List ℕ → List Letter → Option Letter → Bool → Bool → Line
line name takes gives traps faults = record { name = name; takes = takes; gives = gives; traps = traps; faults = faults }

abbrev pub may : Bool
may = true

abbrev pub never : Bool
never = false

abbrev pub lines : List Line
lines =
    line (codes "num") (N ∷ []) (Some H) may never
    ∷ line (codes "lit") (P ∷ []) (Some H) may never
    ∷ line (codes "uninit") [] (Some H) never never
    ∷ line (codes "dup") (Seen ∷ []) (Some H) may never
    ∷ line (codes "to_num") (H ∷ []) (Some N) may may
    ∷ line (codes "int_of") (H ∷ []) (Some N) may may
    ∷ line (codes "truth") (H ∷ []) (Some C) may never
    ∷ line (codes "compare") (I ∷ H ∷ H ∷ []) (Some C) may may
    ∷ line (codes "concat") (H ∷ H ∷ []) (Some H) may may
    ∷ line (codes "pow") (N ∷ N ∷ []) (Some N) may may
    ∷ line (codes "fail") (I ∷ []) None may may
    ∷ line (codes "get_special") (I ∷ []) (Some H) may never
    ∷ line (codes "set_special") (I ∷ H ∷ []) (Some C) may may
    ∷ line (codes "field") (N ∷ []) (Some H) may may
    ∷ line (codes "set_field") (N ∷ H ∷ []) (Some C) may may
    ∷ line (codes "new_array") [] (Some A) never never
    ∷ line (codes "elem") (A ∷ H ∷ []) (Some H) may never
    ∷ line (codes "set_elem") (A ∷ H ∷ H ∷ []) (Some C) may never
    ∷ line (codes "has") (A ∷ H ∷ []) (Some C) may never
    ∷ line (codes "delete") (A ∷ H ∷ []) (Some C) may never
    ∷ line (codes "join") (H ∷ H ∷ []) (Some H) may may
    ∷ line (codes "iter") (A ∷ []) (Some T) may never
    ∷ line (codes "iter_next") (T ∷ []) (Some H) may never
    ∷ line (codes "length") (H ∷ []) (Some N) may never
    ∷ line (codes "matches") (H ∷ H ∷ []) (Some C) may may
    ∷ line (codes "match") (H ∷ H ∷ []) (Some N) may may
    ∷ line (codes "sub") (H ∷ H ∷ H ∷ I ∷ []) (Some N) may may
    ∷ line (codes "sub_result") [] (Some H) may never
    ∷ line (codes "split") (H ∷ A ∷ H ∷ I ∷ []) (Some N) may may
    ∷ line (codes "substr") (H ∷ N ∷ N ∷ []) (Some H) may never
    ∷ line (codes "substr_from") (H ∷ N ∷ []) (Some H) may never
    ∷ line (codes "index") (H ∷ H ∷ []) (Some N) may never
    ∷ line (codes "lower") (H ∷ []) (Some H) may never
    ∷ line (codes "upper") (H ∷ []) (Some H) may never
    ∷ line (codes "next_main") [] (Some C) may may
    ∷ line (codes "getline") [] (Some C) may may
    ∷ line (codes "getline_var") [] (Some C) may may
    ∷ line (codes "getline_file") (H ∷ []) (Some C) may may
    ∷ line (codes "getline_var_file") (H ∷ []) (Some C) may may
    ∷ line (codes "line") [] (Some H) may never
    ∷ line (codes "declare") (P ∷ I ∷ []) None may never
    ∷ line (codes "start_assign") [] (Some C) may may
    ∷ line (codes "pending_name") [] (Some I) may never
    ∷ line (codes "pending_value") [] (Some H) may never
    ∷ line (codes "begin_end") [] None never never
    ∷ line (codes "close") (H ∷ []) (Some C) may never
    ∷ line (codes "arg") (H ∷ []) None may never
    ∷ line (codes "sprintf") (I ∷ []) (Some H) may may
    ∷ line (codes "print") (I ∷ I ∷ []) (Some C) may may
    ∷ line (codes "printf") (I ∷ I ∷ []) (Some C) may may
    ∷ line (codes "drop") (H ∷ []) None may never
    ∷ line (codes "iter_free") (FreedT ∷ []) None may never
    ∷ line (codes "free_array") (FreedA ∷ []) None may never
    ∷ line (codes "next_file") [] (Some C) never never
    ∷ line (codes "clear") (A ∷ []) (Some C) may never
    ∷ line (codes "flush") (H ∷ []) (Some C) may never
    ∷ []

-- The line of an import, by the definitions.

abbrev pub argument_letter : Import → Argument → Letter
argument_letter i (argument.Of sort.Value) = cond (spends i sort.Value) H Seen
argument_letter i (argument.Of sort.Number) = N
argument_letter i (argument.Of sort.Array) = cond (spends i sort.Array) FreedA A
argument_letter i (argument.Of sort.Iterator) = cond (spends i sort.Iterator) FreedT T
argument_letter i (argument.Constant c) = I
argument_letter i argument.Place = P

abbrev pub answer_letter : Answer → Option Letter
answer_letter answer.Nothing = None
answer_letter (answer.Of sort.Value) = Some H
answer_letter (answer.Of sort.Number) = Some N
answer_letter (answer.Of sort.Array) = Some A
answer_letter (answer.Of sort.Iterator) = Some T
answer_letter answer.ValueOrEnd = Some H
answer_letter answer.Name = Some I
answer_letter _ = Some C

abbrev pub line_of : Import → Line
line_of i = line (import_name i) (map (argument_letter i) (import_arguments i)) (answer_letter (import_answer i)) (can_trap i) (can_fault i)

-- the lines are those of the imports, in the order of their numbers
pub lines_are : map line_of imports ≡ lines
lines_are = refl

pub numbers_are_places : map import_number imports ≡ 0 ∷ 1 ∷ 2 ∷ 3 ∷ 4 ∷ 5 ∷ 6 ∷ 7 ∷ 8 ∷ 9 ∷ 10 ∷ 11 ∷ 12 ∷ 13 ∷ 14 ∷ 15 ∷ 16 ∷ 17 ∷ 18 ∷ 19 ∷ 20 ∷ 21
    ∷ 22 ∷ 23 ∷ 24 ∷ 25 ∷ 26 ∷ 27 ∷ 28 ∷ 29 ∷ 30 ∷ 31 ∷ 32 ∷ 33 ∷ 34 ∷ 35 ∷ 36 ∷ 37 ∷ 38 ∷ 39 ∷ 40 ∷ 41 ∷ 42 ∷ 43 ∷ 44 ∷ 45 ∷ 46 ∷ 47 ∷ 48 ∷ 49 ∷ 50
    ∷ 51 ∷ 52 ∷ 53 ∷ 54 ∷ 55 ∷ []
numbers_are_places = refl
