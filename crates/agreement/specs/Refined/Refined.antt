-- When the real machine, with its host, is where the machine over values is, and what a step is to keep of that.
use Rattle.std.specs.Prelude.{ℕ, ◌≡◌, ◌⊎◌, ◌<◌, ◌+◌, Bool, true, false, List, [], ◌∷◌, ◌++◌, length, Option, Some, None, is_some, slice_get}
use Rattle.world_core.specs.WorldState.{Action}
use Rattle.wasm_types.specs.Syntax.{Instructions, Done, FuncForm}
use Rattle.wasm_types.specs.declared.types.ValType.TheVariants as ty
use Rattle.wasm_store.specs.declared.word.Word.{Word}
use Rattle.wasm_model.specs.Frames.{LabelForm, settled_values, settled_code}
use Rattle.wasm_model.specs.Machines.{CallerForm, ProgramForm, Turn, called, asked, entered_func}
use Rattle.wasm_model.specs.Machines as real
use Rattle.wasm_model.specs.Runs.{TakenAs, OverBy, told_end}
use Rattle.wasm_model.specs.declared.ends.End.{End}
use Rattle.wasm_model.specs.declared.ends.End.TheVariants as ends
use Rattle.host_step.specs.HostState.{HostState, Names}
use Rattle.sem_scripts.specs.ScriptRun.{most_calls}
use Rattle.lower_model.specs.Cells.{Cell, none_owned, is_owned}
use Rattle.host_imports.specs.Imports.{import_at, import_count, import_type}
use Rattle.lower_model.specs.Machine.{Callee, Code, Conf, Deep, Frame, Label, Look, Over, Run, Store, Stuck}
use Rattle.lower_model.specs.Modules.{calls_in, callee_type, new_number, renumbered}
use Rattle.host_imports.specs.declared.import.Import.{Import}
use Rattle.agreement.specs.Modules.TableMeaning.{table_meaning}
use Rattle.agreement.specs.Refined.Owners.{OwnedOnce}
use Rattle.agreement.specs.Refined.Words.{ArraysFit, WordAs, WordsAs, arrays_made, state_with}

-- `used`: which imports stay in the module; `bs`: the same as a list, by which calls are numbered anew
module _ (used : ℕ → Bool) (bs : List Bool) where
  -- code with its calls numbered anew: no call is of an import that was left out
  pub record CodeAs (code : Instructions) (real : Instructions) : Type 0 where
    pub same : real ≡ renumbered bs code
    pub used_only : (n : ℕ) → calls_in n code ≡ true → used n ≡ true

  abbrev pub AgainAs : Option Instructions → Option Instructions → Type 0
  AgainAs None None = Unit {0}
  AgainAs (Some code) (Some real) = CodeAs code real
  AgainAs _ _ = ⊥

  -- nothing that is owned lies under a label
  pub record LabelAs (made : ℕ) (N : Names) (l : Label) (r : LabelForm) : Type 0 where
    pub under : WordsAs made N l.under r.under
    pub unowned : none_owned l.under ≡ true
    pub again : AgainAs l.again r.again
    pub gives : r.gives ≡ None
    pub rest : CodeAs l.rest r.rest

  abbrev pub LabelsAs : ℕ → Names → List Label → List LabelForm → Type 0
  LabelsAs made N [] [] = Unit {0}
  LabelsAs made N (l ∷ K) (r ∷ rs) = LabelAs made N l r × LabelsAs made N K rs
  LabelsAs made N _ _ = ⊥

  pub record FrameAs (made : ℕ) (N : Names) (f : Frame) (r : CallerForm) : Type 0 where
    pub under : WordsAs made N f.under r.frame.values
    pub unowned : none_owned f.under ≡ true
    pub labels : LabelsAs made N f.labels r.frame.labels
    pub locals : WordsAs made N f.locals r.frame.locals
    pub rest : CodeAs f.rest r.frame.code
    pub result : is_some r.result ≡ true

  -- the frame in which the machine calls `main`, while that call is open
  abbrev pub entry : CallerForm
  entry = record { frame = record { values = []; labels = []; locals = []; code = Done }; result = Some ty.I32 }

  -- outside of all callers stands the frame of the entry
  abbrev pub FramesAs : ℕ → Names → List Frame → List CallerForm → Type 0
  FramesAs made N [] (r ∷ []) = r ≡ entry
  FramesAs made N (f ∷ F) (r ∷ rs) = FrameAs made N f r × FramesAs made N F rs
  FramesAs made N _ _ = ⊥

  module _ (u : Code) where
    -- labels, locals, callers, globals, the host and the memory; behind the texts of the script the memory has more bytes
    pub record RestAs (K : List Label) (L : List Cell) (F : List Frame) (G : Store) (c : real.Conf) (s : HostState) : Type 0 where
      pub labels : LabelsAs (arrays_made G.host) s.names K c.frame.labels
      pub locals : WordsAs (arrays_made G.host) s.names L c.frame.locals
      pub globals : WordsAs (arrays_made G.host) s.names G.globals c.globals
      pub callers : FramesAs (arrays_made G.host) s.names F c.callers
      pub result : is_some c.result ≡ true
      pub host : s ≡ state_with s.names G.host
      pub arrays : ArraysFit (arrays_made G.host) s.names.arrays
      pub behind : List ℕ
      pub memory : c.memory.bytes ≡ u.memory ++ behind

    -- at work with these operands and this code
    pub record RunAs (vs : List Cell) (K : List Label) (L : List Cell) (F : List Frame) (code : Instructions) (G : Store) (ws : List Word)
        (rcode : Instructions) (c : real.Conf) (s : HostState) : Type 0 where
      pub operands : WordsAs (arrays_made G.host) s.names vs ws
      pub code-is : CodeAs code rcode
      pub rest : RestAs K L F G c s
      pub once : OwnedOnce s.names vs ws L c.frame.locals G.globals c.globals F c.callers

    -- the word of local x lies on the operands too, and owns nothing there
    pub record LookAs (x : ℕ) (vs : List Cell) (K : List Label) (L : List Cell) (F : List Frame) (code : Instructions) (G : Store) (c : real.Conf)
        (s : HostState) : Type 0 where
      pub word : Word
      pub words : List Word
      pub there : x < length L
      pub seen : slice_get c.frame.locals x ≡ Some word
      pub values : c.frame.values ≡ word ∷ words
      pub run : RunAs vs K L F code G words c.frame.code c s

    -- `main` is left: its answer lies in the frame of the entry
    pub record LeftAs (v : Cell) (G : Store) (c : real.Conf) (s : HostState) : Type 0 where
      pub word : Word
      pub same : WordAs (arrays_made G.host) s.names v word
      pub unowned : is_owned v ≡ false
      pub frame : c.frame ≡ record { values = word ∷ []; labels = []; locals = []; code = Done }
      pub callers : c.callers ≡ []
      pub result : c.result ≡ Some ty.I32
      pub globals : WordsAs (arrays_made G.host) s.names G.globals c.globals
      pub host : s ≡ state_with s.names G.host
      pub arrays : ArraysFit (arrays_made G.host) s.names.arrays
      -- what is still owned is owned by globals
      pub once : OwnedOnce s.names [] [] [] [] G.globals c.globals [] []

    -- where the machine over values is stuck nothing is promised; a call too deep ends the real machine at once
    abbrev pub As : Conf → real.Conf → HostState → Type 0
    As (Run ks vs K L F code G) c s = RunAs vs K L F code G (settled_values c.frame.values c.frame.code) (settled_code c.frame.code) c s
    As (Look x ks vs K L F code G) c s = LookAs x vs K L F code G c s
    As (Over v G) c s = LeftAs v G c s
    As (Deep G) c s = ⊥
    As Stuck c s = Unit {0}

    -- How the real machine may end in one step by which the machine over values comes to p: so that nothing is told, as no typed module does; anyhow,
    -- where p is stuck; or because a call is too deep.
    abbrev pub EndAs : Conf → End → HostState → HostState → List Action → Type 0
    EndAs p e before after output = (told_end e ≡ None)
        ⊎ ((p ≡ Stuck) ⊎ ((G : Store) × (p ≡ Deep G) × (e ≡ ends.Exhausted) × (before ≡ state_with before.names G.host) × (after ≡ before)
        × (output ≡ [])))

    -- What a step leads to, where the machine over values comes to p by its own.
    pub record NextAs (p : Conf) (c : real.Conf) (s : HostState) (t : Turn) : Type 0 where
      pub taken : (c1 : real.Conf) (s1 : HostState) (output : List Action) → TakenAs table_meaning t s c.memory output c1 s1 → As p c1 s1
      pub over : (e : End) (s1 : HostState) (output : List Action) → OverBy table_meaning t s c.memory output e s1 → EndAs p e s s1 output

    -- the module has the functions and the imports of the code, under their new numbers; as many callers wait as a script may nest calls, beside the entry; nothing is noted
    pub record Linked (m : ProgramForm) : Type 0 where
      pub imported : (n : ℕ) (i : Import) (c : real.Conf) → import_at n ≡ Some i → used n ≡ true → called m (new_number bs n) c ≡ asked n (import_type i) c
      pub entered : (k : ℕ) (f : Callee) (c : real.Conf) → slice_get u.callees k ≡ Some f →
          (g : FuncForm) × (g.locals ≡ f.locals) × CodeAs f.body g.body × (called m (new_number bs (import_count + k)) c ≡ entered_func (callee_type f) g c)
      pub deepest : u.deepest ≡ most_calls
      pub silent : (code : Instructions) (output : List Action) → u.notes code output ≡ output
