-- What is said of a script, and the bytes that it is said of.
use Rattle.std.specs.Prelude.{◌≡◌, ℕ, ◌-◌, nat_le, if◌then◌else◌, List, [], ◌++◌, map, Option, None, codes}
use Rattle.script_check.specs.declared.finding.Finding.{Finding}
use Rattle.script_check.specs.declared.finding.Said.{Said}
use Rattle.script_check.specs.declared.finding.Severity.{Severity}
use Rattle.script_check.specs.declared.finding.Severity.TheVariants.{Error, Warning, Note}
use Rattle.script_check.specs.declared.matter.Matter.{Matter}
use Rattle.script_check.specs.declared.matter.Matter.TheVariants.{UnknownFunction, ArgCount, NeverCalled, NeverAssigned, NeverRead, OnlyJoins, AssignedCondition, UnevenQuotient}
use Rattle.script_check.specs.declared.matter.Trouble.{Trouble}
use Rattle.script_check.specs.declared.matter.Trouble.TheVariants.{TooMany, DuplicateName, KindClash, AsArray, AsScalar}

-- the name of a refusal, what of the script it is about, an explanation, and the line that the explanation ends in
pub record Remark : Type 0 where
  pub severity : Severity
  pub word : List ℕ
  pub name : List ℕ
  pub text : List ℕ
  pub line : Option ℕ

-- what is said of so many bytes from a place on
pub record Found : Type 0 where
  pub start : ℕ
  pub size : ℕ
  pub said : Remark

-- ---- what those of the code stand for

abbrev pub view_said : Said → Remark
view_said s = record { severity = s.severity; word = s.word.now; name = s.name.now; text = s.text.now; line = s.line }

abbrev pub view_finding : Finding → Found
view_finding f = record { start = f.start; size = f.length; said = view_said f.said }

abbrev pub view_findings : List Finding → List Found
view_findings fs = map view_finding fs

-- these more are found
abbrev pub Gains : (old new : List Finding) → List Found → Type 0
Gains old new more = view_findings new ≡ view_findings old ++ more

-- ---- remarks

abbrev pub error : (word name text : List ℕ) → Remark
error word name text = record { severity = Error; word = word; name = name; text = text; line = None }

abbrev pub warning : (name text : List ℕ) → Remark
warning name text = record { severity = Warning; word = []; name = name; text = text; line = None }

abbrev pub note : (text : List ℕ) → Remark
note text = record { severity = Note; word = []; name = []; text = text; line = None }

-- the bytes that a script of this size has of so many
abbrev pub bounded_from : (size start length : ℕ) → Remark → Found
bounded_from size start length r = record { start = start; size = if nat_le length (size - start) then length else size - start; said = r }

abbrev pub bounded : (size start length : ℕ) → Remark → Found
bounded size start length r = bounded_from size (if nat_le start size then start else size) length r

-- what is said of a name, `=` or `/`
abbrev pub matter_remark : Matter → (name : List ℕ) → Remark
matter_remark UnknownFunction name = error (codes "UnknownFunction") name (codes "the script has no function of this name")
matter_remark ArgCount name = error (codes "ArgCount") name (codes "more arguments than the function has parameters")
matter_remark NeverCalled name = warning name (codes "is never called")
matter_remark NeverAssigned name = warning name (codes "is never assigned")
matter_remark NeverRead name = warning name (codes "is never read")
matter_remark OnlyJoins name = warning name (codes "begins a statement that only joins texts")
matter_remark AssignedCondition name = warning [] (codes "= assigns, and is the whole condition; == compares")
matter_remark UnevenQuotient name = warning [] (codes "the quotient of these numbers is not whole")

-- what is said where a script is refused for its names
abbrev pub trouble_remark : Trouble → (name : List ℕ) → Remark
trouble_remark TooMany name = error (codes "TooMany") name (codes "more than 1,000 functions, or more than 100 parameters")
trouble_remark DuplicateName name = error (codes "DuplicateName") name (codes "the name stands for two things")
trouble_remark KindClash name = error (codes "KindClash") name (codes "it is an array and a variable")
trouble_remark AsArray name = note (codes "an array here")
trouble_remark AsScalar name = note (codes "a variable here")
