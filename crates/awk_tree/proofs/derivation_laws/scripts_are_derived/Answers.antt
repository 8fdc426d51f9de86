use Rattle.std.proofs.Common.{subst}
use Rattle.awk_tree.specs.Scripts.{ScriptOf}
use Rattle.awk_tree.proofs.Scripts.{script_fine, script_of}
use Rattle.awk_tree.proofs.derivation_laws.scripts_are_derived.Goals as goal

pub returns-clause-printed : goal.returns-clause-printed
returns-clause-printed c = λ script ts. (λ d. ((script_fine d).fine, (script_fine d).parts), λ h. subst (ScriptOf script) h.1 (script_of script h.0))

pub returns-clause-tokens : goal.returns-clause-tokens
returns-clause-tokens c = λ script tokens. (λ d. record { fine = (script_fine d).fine; parts = (script_fine d).parts }, λ h. subst (ScriptOf script) h.parts (script_of script h.fine))
