-- Runs that call no import.
use Rattle.std.specs.Prelude.{ℕ, zero, suc, ◌≡◌, Option, Some, None}
use Rattle.wasm_model.specs.Machines.{Asks, Conf, Ends, Goes, ProgramForm, Turn, turn}

-- on, where a step neither asks the host nor ends the run
abbrev pub where_it_goes : Turn → (Conf → Option Conf) → Option Conf
where_it_goes (Goes c) f = f c
where_it_goes (Ends e) f = None
where_it_goes (Asks import args after) f = None

-- where n steps lead; none, if one of them calls an import or ends the run
abbrev pub host_call_free : ProgramForm → ℕ → Conf → Option Conf
host_call_free m zero c = Some c
host_call_free m (suc n) c = where_it_goes (turn m c) (host_call_free m n)

-- a run comes to such a place, and calls no import on the way
pub record HostCallFree (m : ProgramForm) (c : Conf) (P : Conf → Type 0) : Type 0 where
  pub steps : ℕ
  pub place : Conf
  pub goes : host_call_free m steps c ≡ Some place
  pub holds : P place
