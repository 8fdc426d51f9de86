-- Bytes that stand between fields.
use Rattle.std.specs.Prelude.{ℕ, Bool, true, false, ◌&&◌, ◌==◌, ◌||◌}
use Rattle.sem_primitives.specs.Fields.{is_blank}
use Rattle.host_format.specs.declared.sep.Plain.{Plain}
use Rattle.host_format.specs.declared.sep.Plain.TheVariants.{Blanks, Byte}

abbrev pub is_end : Plain → Bool → ℕ → Bool
is_end Blanks newlines c = is_blank c
is_end (Byte b) newlines c = (c == b) || (newlines && (c == 10))

-- between blanks there is no empty field
abbrev pub skips_empty : Plain → Bool
skips_empty Blanks = true
skips_empty (Byte b) = false
