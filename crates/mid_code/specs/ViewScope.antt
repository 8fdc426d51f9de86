-- Where an expression stands, as the code has it.
use Rattle.std.specs.Prelude.{ℕ, List}
use Rattle.awk_resolve.specs.ViewKinds.{view_name_kinds}
use Rattle.sem_scripts.specs.Names as names
use Rattle.mid_program.specs.View.{view_texts}
use Rattle.mid_code.specs.ViewNames.{script_of}
use Rattle.mid_code.specs.declared.scope.Scope.{Scope}

unfoldable pub texts_of : Scope → List (List ℕ)
texts_of s = view_texts s.texts.now.keys

unfoldable pub scope_of : Scope → names.Scope
scope_of s = record { script = script_of s.names.now.resolved.now; parameters = view_name_kinds s.parameters.now }
