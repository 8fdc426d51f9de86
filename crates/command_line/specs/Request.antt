-- What a command line asks for: each word where it belongs, as clap finds them.
use Rattle.std.specs.Prelude.{◌≡◌, ℕ, ◌^◌, ◌-◌, ◌<◌, List, [], Option, None, Some, map, unwrap_or, codes, true, false, Bool, option_map}
use Rattle.std.specs.Borrow.{Bor}
use Rattle.std.specs.Str.Parse.{IsNumeral, digits_value, without_leading_plus}
use Rattle.clap.specs.Words.{Row, Text, all_of, first_of, one_of}
use Rattle.command_line.specs.declared.Request.{Request}
use Rattle.command_line.specs.declared.Request.TheVariants.{Check, Compile, Run, Count, Exec, Imports, Explain}
use Rattle.command_line.specs.declared.Task.{Task}
use Rattle.command_line.specs.declared.FenceOptions.{FenceOptions}
use Rattle.command_line.specs.declared.Limits.{Limits}

-- the words of an argument that may be given often
abbrev pub words_at : Text → List Row → List Text
words_at id rows = unwrap_or (all_of id rows) []

-- the word of an argument that must be there
abbrev pub word_at : Text → List Row → Text
word_at id rows = unwrap_or (first_of id rows) []

-- without the option it is the greatest number of 64 bits
abbrev pub IsNumber : Option Text → ℕ → Type 0
IsNumber None n = n ≡ 2 ^ 64 - 1
IsNumber (Some t) n = IsNumeral 10 (without_leading_plus t) → digits_value 10 (without_leading_plus t) < 2 ^ 64 → n ≡ digits_value 10 (without_leading_plus t)

-- an option without a value is given or not; clap has it as `true` or `false`
abbrev pub IsFlag : Option Text → Bool → Type 0
IsFlag None b = b ≡ false
IsFlag (Some t) b = (t ≡ codes "true" → b ≡ true) × (t ≡ codes "false" → b ≡ false)

pub record IsFences (rows : List Row) (f : FenceOptions) : Type 0 where
  pub no_files : IsFlag (one_of (codes "no-files") rows) f.no_files
  pub read_only : IsFlag (one_of (codes "read-only") rows) f.read_only
  pub only_operands : IsFlag (one_of (codes "only-operands") rows) f.only_operands

pub record IsLimits (rows : List Row) (l : Limits) : Type 0 where
  pub most_input : IsNumber (one_of (codes "most-input") rows) l.most_input
  pub most_output : IsNumber (one_of (codes "most-output") rows) l.most_output

abbrev pub texts : List (Bor Text) → List Text
texts = map (λ s. s.now)

pub record IsTask (of : Text) (rows : List Row) (t : Task) : Type 0 where
  pub separators : texts t.separators.items ≡ words_at (codes "separator") rows
  pub assigns : texts t.assigns.items ≡ words_at (codes "assign") rows
  pub steps : IsNumber (one_of (codes "steps") rows) t.steps
  pub tells_where : IsFlag (one_of (codes "where") rows) t.tells_where
  pub tells_stats : IsFlag (one_of (codes "stats") rows) t.tells_stats
  pub fences : IsFences rows t.fences
  pub may_read : texts t.may_read.items ≡ words_at (codes "may-read") rows
  pub may_write : texts t.may_write.items ≡ words_at (codes "may-write") rows
  pub limits : IsLimits rows t.limits
  pub streams : IsFlag (one_of (codes "streams") rows) t.streams
  pub subject : t.subject.now ≡ word_at of rows
  pub words : texts t.words.items ≡ words_at (codes "words") rows

-- What is asked for, by the subcommand's name and what is found for it. The line has seven subcommands.
abbrev pub Asks : Text → List Row → Request → Type 0
Asks name rows (Compile script_file out has_lines) = (name ≡ codes "compile") × (script_file.now ≡ word_at (codes "scriptfile") rows)
    × (out.now ≡ word_at (codes "out") rows) × IsFlag (one_of (codes "lines") rows) has_lines
Asks name rows (Check script_file) = (name ≡ codes "check") × (script_file.now ≡ word_at (codes "scriptfile") rows)
Asks name rows (Run task) = (name ≡ codes "run") × IsTask (codes "script") rows task
Asks name rows (Count task) = (name ≡ codes "count") × IsTask (codes "scriptfile") rows task
Asks name rows (Exec task) = (name ≡ codes "compile" → ⊥) × (name ≡ codes "check" → ⊥) × (name ≡ codes "run" → ⊥) × (name ≡ codes "count" → ⊥) × (name ≡ codes "imports" → ⊥) × (name ≡ codes "explain" → ⊥)
    × IsTask (codes "module") rows task
Asks name rows (Imports file) = (name ≡ codes "imports") × (file.now ≡ word_at (codes "module") rows)
Asks name rows (Explain topic) = (name ≡ codes "explain") × (option_map (λ t. t.now) topic ≡ first_of (codes "name") rows)
