-- The step of a run in which an error is kept.
use Rattle.std.specs.Prelude.{◌≡◌, ℕ, suc, List, None}
use Rattle.world_core.specs.WorldState.{Action}
use Rattle.wasm_model.specs.Machines.{Conf, ProgramForm, turn}
use Rattle.wasm_model.specs.Runs.{Steps, TakenAs}
use Rattle.host_values.specs.Forms.{HostForm}
use Rattle.host_values.specs.FormMeaning.{Told, form_meaning}

-- The last of so many steps of a run, before which no error is kept: the run reached this configuration over this host, and took one step more.
pub record FaultStep (tells : Type 0) (program : ProgramForm) (steps : ℕ) (start : Conf) (first : HostForm) (conf : Conf) (left : HostForm) : Type 0 where
  pub before : ℕ
  pub one_more : suc before ≡ steps
  pub reached : Conf
  pub host : HostForm
  pub output : List Action
  pub ran : Steps (form_meaning tells) program before start (Told first) output reached (Told host)
  pub none : host.fault ≡ None
  pub added : List Action
  pub taken : TakenAs (form_meaning tells) (turn program reached) (Told host) reached.memory added conf (Told left)
