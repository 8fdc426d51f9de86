-- Constants take no step in either machine: a configuration from its parts.
use Rattle.std.proofs.Common.{◌≡◌, ℕ, Bool, true, List, ◌∷◌, Option, Some, None, refl, sym, subst, arith}
use Rattle.std.proofs.lemmas.Bool.{or_right}
use Rattle.wasm_types.specs.Syntax.{Instruction, Plain, BrTable, Block, Loop, If, Instructions, Done, Then}
use Rattle.wasm_types.specs.declared.instr.Simple.{Simple}
use Rattle.wasm_types.specs.declared.instr.Simple.TheVariants.{Call}
use Rattle.wasm_store.specs.declared.word.Word.{Word}
use Rattle.wasm_model.specs.Frames.{constant_of, settled_code, settled_values}
use Rattle.wasm_model.specs.Machines as real
use Rattle.mid_program.specs.Mid.{Kind}
use Rattle.host_step.specs.HostState.{HostState}
use Rattle.lower_model.specs.Cells.{Cell, Bits}
use Rattle.lower_model.specs.Machine.{Code, Conf, Deep, Frame, Label, Look, Over, Run, Store, Stuck, at}
use Rattle.lower_model.specs.Modules.{calls_by, calls_in, renumbered, renumbered_one, renumbered_simple}
use Rattle.agreement.specs.Refined.Owners.{OwnedOnce}
use Rattle.agreement.specs.Refined.Refined.{As, CodeAs, RestAs, RunAs}
use Rattle.agreement.specs.Refined.Words.{WordsAs, arrays_made}
use Rattle.agreement.proofs.RefinedLemmas.Carrying.{unowned_one}

simple_same : (bs : List Bool) (p : Simple) → constant_of (Plain (renumbered_simple bs p)) ≡ constant_of (Plain p)
simple_same bs (Call n) = refl
simple_same bs p = refl

constant_same : (bs : List Bool) (i : Instruction) → constant_of (renumbered_one bs i) ≡ constant_of i
constant_same bs (Plain p) = simple_same bs p
constant_same bs (BrTable ns n) = refl
constant_same bs (Block r a) = refl
constant_same bs (Loop r a) = refl
constant_same bs (If r a b) = refl

module _ (used : ℕ → Bool) (bs : List Bool) (u : Code) (ks : List Kind) (K : List Label) (L : List Cell) (F : List Frame) (G : Store) (c : real.Conf) (s : HostState) (rest : RestAs used bs u K L F G c s) where
  abbrev Once : List Cell → List Word → Type 0
  Once vs ws = OwnedOnce s.names vs ws L c.frame.locals G.globals c.globals F c.callers

  abbrev UsedOnly : Instructions → Type 0
  UsedOnly code = (n : ℕ) → calls_in n code ≡ true → used n ≡ true

  abbrev SettledAs : Conf → List Word → Instructions → Type 0
  SettledAs (Run ks1 vs K1 L1 F1 code G1) ws rcode = RunAs used bs u vs K1 L1 F1 code G1 ws rcode c s
  SettledAs _ ws rcode = ⊥

  stands : (code : Instructions) (vs : List Cell) (ws : List Word) → WordsAs (arrays_made G.host) s.names vs ws → UsedOnly code → Once vs ws → SettledAs (Run ks vs K L F code G) ws (renumbered bs code)
  stands code vs ws a o once = record { operands = a; code-is = record { same = refl; used_only = o }; rest = rest; once = once }

  settle : (code : Instructions) (vs : List Cell) (ws : List Word) → WordsAs (arrays_made G.host) s.names vs ws → UsedOnly code → Once vs ws →
      SettledAs (at ks vs K L F code G) (settled_values ws (renumbered bs code)) (settled_code (renumbered bs code))
  settle Done vs ws a o once = stands Done vs ws a o once
  settle (Then i k) vs ws a o once =
      subst (λ z. SettledAs (at ks vs K L F (Then i k) G) (elim z [ Some w ↦ settled_values (w ∷ ws) (renumbered bs k) | None ↦ ws ]) (elim z [ Some w ↦ settled_code (renumbered bs k) | None ↦ renumbered bs (Then i k) ])) (sym (constant_same bs i))
      (by (constant_of i) (λ w. settle k (Bits w ∷ vs) (w ∷ ws) (refl, a) (λ n e. o n (or_right (calls_by n i) (calls_in n k) e)) (λ t q. (let x = unowned_one t q (Bits w) w refl in let y = once t q in omega arith))))
    where
      by : (z : Option Word) → ((w : Word) → SettledAs (at ks (Bits w ∷ vs) K L F k G) (settled_values (w ∷ ws) (renumbered bs k)) (settled_code (renumbered bs k))) →
          SettledAs (elim z [ Some w ↦ at ks (Bits w ∷ vs) K L F k G | None ↦ Run ks vs K L F (Then i k) G ]) (elim z [ Some w ↦ settled_values (w ∷ ws) (renumbered bs k) | None ↦ ws ]) (elim z [ Some w ↦ settled_code (renumbered bs k) | None ↦ renumbered bs (Then i k) ])
      by (Some w) f = f w
      by None f = stands (Then i k) vs ws a o once

  is_as : (p : Conf) → SettledAs p (settled_values c.frame.values c.frame.code) (settled_code c.frame.code) → As used bs u p c s
  is_as (Run ks1 vs K1 L1 F1 code G1) a = a
  is_as (Look x ks1 vs K1 L1 F1 code G1) a = absurd a
  is_as (Over v G1) a = absurd a
  is_as (Deep G1) a = absurd a
  is_as Stuck a = absurd a

  -- the two machines are at the same place, once constants are pushed
  pub at_as : (code : Instructions) (vs : List Cell) → WordsAs (arrays_made G.host) s.names vs c.frame.values → CodeAs used bs code c.frame.code → Once vs c.frame.values → As used bs u (at ks vs K L F code G) c s
  at_as code vs a k once =
      is_as (at ks vs K L F code G)
      (subst (λ z. SettledAs (at ks vs K L F code G) (settled_values c.frame.values z) (settled_code z)) (sym k.same) (settle code vs c.frame.values a k.used_only once))
