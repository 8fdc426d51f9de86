-- The limits of the profile: how much a module has at most that is written or read.
use Rattle.std.specs.Prelude.{ℕ, ◌^◌}

-- bytes of a module: 16 MiB
abbrev pub most_module_bytes : ℕ
most_module_bytes = 2 ^ 24

-- blocks in one another, in one body
abbrev pub most_nesting : ℕ
most_nesting = 4000

-- locals of a function, its parameters aside
abbrev pub most_locals : ℕ
most_locals = 50000

-- elements of a table at first
abbrev pub most_elements : ℕ
most_elements = 65536

-- pages of a memory
abbrev pub most_pages : ℕ
most_pages = 256
