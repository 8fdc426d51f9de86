-- A line that names a command with many arguments is read so by the line that was built for it as by the whole line.
use Rattle.std.proofs.Common.{◌≡◌, ◌∙◌, Bool, List, [], ◌∷◌, Option, Some, ap, bytes_eq, codes, false, fold, map, is_some, refl, subst, sym, true, if◌then◌else◌}
use Rattle.std.proofs.lemmas.Slice.Eq.{bytes_eq-Decides}
use Rattle.std.specs.Borrow.{Bor}
use Rattle.clap.specs.Words.{App, Text, built, fault_of, matches_of, subcommand_of}
use Rattle.clap.specs.Simple.{entered, names_of}
use Rattle.clap.specs.Faults.{entered_fault, level_fault}
use Rattle.clap.specs.Walk.{Walk, nothing_held, stop_after, walk_from, walked}
use Rattle.clap.specs.Kinds.{Kinds}
use Rattle.clap.proofs.OnLiterals.{clap_on_literals}
use Rattle.clap.proofs.WalkLemmas.{walk_stopped}
use Rattle.command_line.specs.Line.{line_app, line_for, named_in}
use Rattle.command_line.specs.declared.Named.{Named}
use Rattle.command_line.specs.declared.Named.TheVariants.{Run, Count, Exec, Other}

pub record SameParse (a : App) (words : List Text) : Type 0 where
  pub matches : matches_of a words ≡ matches_of line_app words
  pub subcommand : subcommand_of a words ≡ subcommand_of line_app words
  pub fault : fault_of a words ≡ fault_of line_app words

-- A line that names this command first leaves all other words to it.

abbrev First : Text → Type 0
First name = walked (built line_app).top.rules (names_of (built line_app)) (walk_from nothing_held) name ≡ record (walk_from nothing_held) { stopped = Some (name, []) }

abbrev stop_over : List Text → Option (Text × List Text)
stop_over words = stop_after (built line_app).top.rules (names_of (built line_app)) words

leads : (name : Text) → First name → (rest : List Text) → stop_over (name ∷ rest) ≡ Some (name, rest)
leads name first rest =
    let rules = (built line_app).top.rules in
    let names = names_of (built line_app) in
    ap (λ (w : Walk). (fold (walked rules names) w rest).stopped) first
    ∙ sym (ap (λ (w : Walk). w.stopped) (walk_stopped rules names (walk_from nothing_held) name [] rest))

-- what is wrong, by where the walk over the words stopped
abbrev fault_at : App → List Text → Option (Text × List Text) → Kinds
fault_at a words stop = level_fault (built a).top (names_of (built a)) nothing_held words (is_some (entered (built a) stop)) (entered_fault (built a) stop)

run_same : (p : Text) (rest : List Text) → SameParse (line_for Run) (p ∷ (codes "run" ∷ rest))
unfolding clap_on_literals
run_same p rest = let stop = leads (codes "run") refl rest in record {
  matches = refl;
  subcommand = ap (entered (built (line_for Run))) stop ∙ sym (ap (entered (built line_app)) stop);
  fault = ap (fault_at (line_for Run) (codes "run" ∷ rest)) stop ∙ sym (ap (fault_at line_app (codes "run" ∷ rest)) stop);
}

count_same : (p : Text) (rest : List Text) → SameParse (line_for Count) (p ∷ (codes "count" ∷ rest))
unfolding clap_on_literals
count_same p rest = let stop = leads (codes "count") refl rest in record {
  matches = refl;
  subcommand = ap (entered (built (line_for Count))) stop ∙ sym (ap (entered (built line_app)) stop);
  fault = ap (fault_at (line_for Count) (codes "count" ∷ rest)) stop ∙ sym (ap (fault_at line_app (codes "count" ∷ rest)) stop);
}

exec_same : (p : Text) (rest : List Text) → SameParse (line_for Exec) (p ∷ (codes "exec" ∷ rest))
unfolding clap_on_literals
exec_same p rest = let stop = leads (codes "exec") refl rest in record {
  matches = refl;
  subcommand = ap (entered (built (line_for Exec))) stop ∙ sym (ap (entered (built line_app)) stop);
  fault = ap (fault_at (line_for Exec) (codes "exec" ∷ rest)) stop ∙ sym (ap (fault_at line_app (codes "exec" ∷ rest)) stop);
}

pub other_same : (words : List Text) → SameParse (line_for Other) words
other_same words = record { matches = refl; subcommand = refl; fault = refl }

module _ (p w : Text) (rest : List Text) where
  -- the word is the name of a command
  is_word : (n : Named) (name : Text) → bytes_eq w name ≡ true → SameParse (line_for n) (p ∷ (name ∷ rest)) → SameParse (line_for n) (p ∷ (w ∷ rest))
  is_word n name e same = subst (λ (v : Text). SameParse (line_for n) (p ∷ (v ∷ rest))) (sym ((bytes_eq-Decides w name).0 e)) same

  by_exec : (b : Bool) → bytes_eq w (codes "exec") ≡ b → SameParse (line_for (if b then Exec else Other)) (p ∷ (w ∷ rest))
  by_exec true e = is_word Exec (codes "exec") e (exec_same p rest)
  by_exec false e = other_same (p ∷ (w ∷ rest))

  by_count : (b : Bool) → bytes_eq w (codes "count") ≡ b → SameParse (line_for (if b then Count else if bytes_eq w (codes "exec") then Exec else Other)) (p ∷ (w ∷ rest))
  by_count true e = is_word Count (codes "count") e (count_same p rest)
  by_count false e = by_exec (bytes_eq w (codes "exec")) refl

  by_run : (b : Bool) → bytes_eq w (codes "run") ≡ b
      → SameParse (line_for (if b then Run else if bytes_eq w (codes "count") then Count else if bytes_eq w (codes "exec") then Exec else Other)) (p ∷ (w ∷ rest))
  by_run true e = is_word Run (codes "run") e (run_same p rest)
  by_run false e = by_count (bytes_eq w (codes "count")) refl

-- the line that is built for the command that the words name
pub same : (words : List (Bor Text)) → SameParse (line_for (named_in words)) (map (λ s. s.now) words)
same [] = other_same []
same (p ∷ []) = other_same (p.now ∷ [])
same (p ∷ (w ∷ rest)) = by_run p.now w.now (map (λ s. s.now) rest) (bytes_eq w.now (codes "run")) refl
