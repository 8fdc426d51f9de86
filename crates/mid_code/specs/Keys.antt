-- The key of subscripts, from the code of each.
use Rattle.std.specs.Prelude.{ℕ, List, [], ◌∷◌}
use Rattle.sem_primitives.specs.declared.table.Primitive.TheVariants as row
use Rattle.awk_grammar.specs.Trees.{Trees, NoTree, Then}
use Rattle.mid_program.specs.Mid.{Code, Unset}
use Rattle.sem_scripts.specs.Names.{Scope}
use Rattle.mid_program.specs.Translation.{code_of, host, two}

abbrev pub each_code : List (List ℕ) → Scope → Trees → List Code
each_code texts scope NoTree = []
each_code texts scope (Then t ts) = code_of texts scope t ∷ each_code texts scope ts

abbrev pub key_of : List Code → Code
key_of [] = Unset
key_of (e ∷ []) = e
key_of (e ∷ f ∷ es) = host row.Join (two e (key_of (f ∷ es)))
