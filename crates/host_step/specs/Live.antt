-- How many values, arrays and iterators are alive.
use Rattle.std.specs.Prelude.{length, ℕ}
use Rattle.host_step.specs.Tables.{Table}
use Rattle.host_step.specs.HostState.{HostState}

-- how many numbers stand for something
abbrev pub size : {A : Type 0} → Table A → ℕ
size table = length table

-- how many values, arrays and iterators are alive
abbrev pub live_values : HostState → ℕ
live_values s = size s.names.values

abbrev pub live_arrays : HostState → ℕ
live_arrays s = size s.names.arrays

abbrev pub live_iterators : HostState → ℕ
live_iterators s = size s.names.iterators
