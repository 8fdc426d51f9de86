-- Steps before others.
use Rattle.std.specs.Prelude.{List, [], ◌∷◌}
use Rattle.mid_program.specs.Mid as plain
use Rattle.mid_program.specs.ViewCode.{view_step}
use Rattle.mid_program.specs.declared.step.Step.{Step}

abbrev pub chain : List Step → plain.Steps → plain.Steps
chain [] rest = rest
chain (s ∷ ss) rest = plain.Then (view_step s) (chain ss rest)
