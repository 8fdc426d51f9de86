-- How many places and labels emitted code has at most.
use Rattle.std.specs.Prelude.{ℕ, ◌^◌}
use Rattle.wasm_types.specs.Profile.{most_module_bytes}

-- no function has more locals of one kind: each takes a byte of the module, so past it the code is too large before it is emitted
abbrev pub most_places : ℕ
most_places = most_module_bytes

-- nor more labels around one another
abbrev pub most_labels : ℕ
most_labels = 2 ^ 31
