-- A step that goes on by itself, from its parts.
use Rattle.std.proofs.Common.{inl, inr, ℕ, Bool, List, Option, refl, sym, ap, subst}
use Rattle.wasm_types.specs.Syntax.{Instructions}
use Rattle.wasm_store.specs.declared.word.Word.{Word}
use Rattle.wasm_model.specs.Frames.{FrameForm}
use Rattle.wasm_model.specs.Machines.{Ends, Goes, Turn, with_frame}
use Rattle.wasm_model.specs.Machines as real
use Rattle.wasm_model.specs.Runs.{told_end}
use Rattle.wasm_model.specs.declared.ends.End.TheVariants as ends
use Rattle.mid_program.specs.Mid.{Kind}
use Rattle.host_step.specs.HostState.{HostState}
use Rattle.lower_model.specs.Cells.{Cell}
use Rattle.lower_model.specs.Machine.{Code, Conf, Frame, Label, Store, Stuck, at}
use Rattle.agreement.specs.Refined.Owners.{OwnedOnce}
use Rattle.agreement.specs.Refined.Refined.{As, CodeAs, LabelsAs, NextAs, RestAs}
use Rattle.agreement.specs.Refined.Words.{WordsAs, arrays_made}
use Rattle.agreement.proofs.RefinedLemmas.Settling.{at_as}

module _ {used : ℕ → Bool} {bs : List Bool} {u : Code} (c : real.Conf) (s : HostState) where
  pub goes_as : (p : Conf) (c2 : real.Conf) → As used bs u p c2 s → NextAs used bs u p c s (Goes c2)
  goes_as p c2 a = record {
    taken = λ c1 s1 out e. subst (λ z. As used bs u p z s1) (sym e.0) (subst (λ z. As used bs u p c2 z) (sym e.1) a);
    over = λ e s1 out r. absurd r;
  }

  -- where the machine over values is stuck nothing is promised
  pub stuck_as : (t : Turn) → NextAs used bs u Stuck c s t
  stuck_as t = record { taken = λ c1 s1 out e. tt; over = λ e s1 out r. inr (inl refl) }

  -- a typed module never gets there
  pub untyped_as : (p : Conf) → NextAs used bs u p c s (Ends ends.Stuck)
  untyped_as p = record { taken = λ c1 s1 out r. absurd r; over = λ e s1 out r. inl (ap told_end r.0) }

module _ {used : ℕ → Bool} {bs : List Bool} {u : Code} {K : List Label} {L : List Cell} {F : List Frame} {G : Store} {c : real.Conf} {s : HostState} (rest : RestAs used bs u K L F G c s) where
  -- another frame at work
  pub framed : (K1 : List Label) (L1 : List Cell) (f : FrameForm) → LabelsAs used bs (arrays_made G.host) s.names K1 f.labels → WordsAs (arrays_made G.host) s.names L1 f.locals → RestAs used bs u K1 L1 F G (with_frame c f) s
  framed K1 L1 f labels locals =
      record { labels = labels; locals = locals; globals = rest.globals; callers = rest.callers; result = rest.result; host = rest.host; arrays = rest.arrays; behind = rest.behind; memory = rest.memory }

  -- it does not matter here to which name an assignment is just made
  pub assigning_as : (name : Option ℕ) → RestAs used bs u K L F (record G { assigning = name }) c s
  assigning_as name = record {
    labels = rest.labels;
    locals = rest.locals;
    globals = rest.globals;
    callers = rest.callers;
    result = rest.result;
    host = rest.host;
    arrays = rest.arrays;
    behind = rest.behind;
    memory = rest.memory;
  }

  abbrev pub Once : List Cell → List Word → List Cell → List Word → Type 0
  Once vs ws L1 ls = OwnedOnce s.names vs ws L1 ls G.globals c.globals F c.callers

  pub frame_as : (ks : List Kind) (vs : List Cell) (K1 : List Label) (L1 : List Cell) (code : Instructions) (f : FrameForm) → LabelsAs used bs (arrays_made G.host) s.names K1 f.labels → WordsAs (arrays_made G.host) s.names L1 f.locals →
      WordsAs (arrays_made G.host) s.names vs f.values → CodeAs used bs code f.code → Once vs f.values L1 f.locals → NextAs used bs u (at ks vs K1 L1 F code G) c s (Goes (with_frame c f))
  frame_as ks vs K1 L1 code f labels locals operands k once =
      goes_as c s (at ks vs K1 L1 F code G) (with_frame c f) (at_as used bs u ks K1 L1 F G (with_frame c f) s (framed K1 L1 f labels locals) code vs operands k once)
