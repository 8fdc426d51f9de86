-- Causes for which lines are refused, computed from clap's rules.
use Rattle.std.specs.Prelude.{◌≡◌, [], ◌∷◌, codes, refl}
use Rattle.clap.specs.Words.{fault_of}
use Rattle.clap.specs.declared.error.kind.ErrorKind.TheVariants.{ArgumentConflict, DisplayHelp, DisplayVersion, MissingRequiredArgument, MissingSubcommand, UnknownArgument}
use Rattle.clap.proofs.OnLiterals.{clap_on_literals}
use Rattle.command_line.specs.Line.{line_app}

pub accepted : fault_of line_app (codes "awkwasm" ∷ codes "run" ∷ codes "-F" ∷ codes ":" ∷ codes "{ print $1 }" ∷ codes "table" ∷ []) ≡ []
unfolding clap_on_literals
accepted = refl

pub version : fault_of line_app (codes "awkwasm" ∷ codes "--version" ∷ []) ≡ DisplayVersion ∷ []
unfolding clap_on_literals
version = refl

pub help_of_a_command : fault_of line_app (codes "awkwasm" ∷ codes "run" ∷ codes "--help" ∷ []) ≡ DisplayHelp ∷ []
unfolding clap_on_literals
help_of_a_command = refl

pub no_command : fault_of line_app (codes "awkwasm" ∷ []) ≡ MissingSubcommand ∷ []
unfolding clap_on_literals
no_command = refl

pub no_script : fault_of line_app (codes "awkwasm" ∷ codes "run" ∷ []) ≡ MissingRequiredArgument ∷ []
unfolding clap_on_literals
no_script = refl

pub option_of_other_awks : fault_of line_app (codes "awkwasm" ∷ codes "run" ∷ codes "-f" ∷ codes "prog.awk" ∷ []) ≡ UnknownArgument ∷ []
unfolding clap_on_literals
option_of_other_awks = refl

pub steps_twice : fault_of line_app (codes "awkwasm" ∷ codes "run" ∷ codes "--steps" ∷ codes "1" ∷ codes "--steps" ∷ codes "2" ∷ codes "BEGIN" ∷ []) ≡ ArgumentConflict ∷ []
unfolding clap_on_literals
steps_twice = refl
