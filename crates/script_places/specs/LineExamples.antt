-- The section of a module with a function `f` of two places and `main` of one, computed; and what is told of these.
use Rattle.std.specs.Prelude.{◌≡◌, List, [], ◌∷◌, Some, None, codes, refl}
use Rattle.script_places.specs.Lines.{FunctionForm, line_in, name_in}

abbrev small : List FunctionForm
small = record { name = codes "f"; lines = 2 ∷ 3 ∷ [] } ∷ (record { name = codes "main"; lines = 0 ∷ 7 ∷ [] } ∷ [])

pub second_line : line_in small 0 1 ≡ Some 3
second_line = refl

pub no_line : line_in small 1 0 ≡ None
no_line = refl

pub line_of_main : line_in small 1 1 ≡ Some 7
line_of_main = refl

pub no_place : line_in small 0 2 ≡ None
no_place = refl

pub named : name_in small 0 ≡ Some (codes "f")
named = refl

pub main_is_not_named : name_in small 1 ≡ None
main_is_not_named = refl

pub no_function : name_in small 2 ≡ None
no_function = refl
