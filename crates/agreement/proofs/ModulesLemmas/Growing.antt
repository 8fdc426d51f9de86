-- What the machine over values has put out only grows.
use Rattle.std.proofs.Common.{◌≡◌, ℕ, zero, suc, Bool, true, false, cond, nat_lt, ◌^◌, ◌%◌, List, [], ◌++◌, Option, Some, None, Result, Ok, Err, sym, ap, subst, ◌∙◌, append-nil, append_assoc}
use Rattle.awk_values.specs.declared.fault.Fault.{Fault}
use Rattle.world_core.specs.WorldState.{Action}
use Rattle.wasm_types.specs.Syntax.{Instructions}
use Rattle.wasm_store.specs.declared.word.Word.TheVariants.{I32, I64}
use Rattle.sem_primitives.specs.Sorts.{InAnswer, Row}
use Rattle.sem_primitives.specs.declared.sorts.Answer.{Answer}
use Rattle.sem_scripts.specs.MoreTurns.{Grows, output_of}
use Rattle.sem_scripts.specs.ScriptRun.{Ending, Ended, FaultedBy}
use Rattle.lower_model.specs.Cells.{Cell, Bits, Held, LentArray, OwnedArray, IteratorOf, Gone, none_owned}
use Rattle.lower_model.specs.ImportCalls.{Acts, Host, acted, acts, after_fault, call, fault_cell, look, looked_at, replied, taken, where_so, with_some}
use Rattle.host_imports.specs.Imports.{import_answer, import_arguments, lets_go}
use Rattle.lower_model.specs.Machine.{Code, Conf, Run, Look, Over, Deep, Stuck, Store, go, step, ending_at, status_of}
use Rattle.host_imports.specs.declared.import.Import.{Import}
use Rattle.agreement.proofs.ModulesLemmas.Stores.{InStore, Leads, step_in}

pub grows_self : (xs : List Action) → Grows xs xs
grows_self xs = ([], sym (append-nil xs))

pub grows_more : (xs ys zs : List Action) → Grows xs ys → Grows xs (ys ++ zs)
grows_more xs ys zs h = (h.0 ++ zs, ap (λ l. l ++ zs) h.1 ∙ append_assoc xs h.0 zs)

pub grows_then : (xs ys zs : List Action) → Grows xs ys → Grows ys zs → Grows xs zs
grows_then xs ys zs h i = (h.0 ++ i.0, i.1 ∙ ap (λ l. l ++ i.0) h.1 ∙ append_assoc xs h.0 i.0)

-- what is noted is only added
abbrev pub Adds : Code → Type 0
Adds u = (code : Instructions) (output : List Action) → Grows output (u.notes code output)

module _ (o : List Action) where
  abbrev Has : Host → Type 0
  Has h = Grows o h.shared.output

  -- a place of the machine where so much was put out
  abbrev pub HasPut : Conf → Type 0
  HasPut c = InStore (λ G. Has G.host) c

  abbrev HasIf : Option (Option Cell × Host) → Type 0
  HasIf None = Unit {0}
  HasIf (Some x) = Has x.1

  -- Calls.

  replied_put : (a : Answer) (h : Host) (d : Acts (InAnswer a)) (r : Result (InAnswer a) Fault) → Has h → Has (replied a h d r).1
  replied_put a h d (Ok x) p = grows_more o h.shared.output d.does.added p
  replied_put a h d (Err f) p = grows_more o h.shared.output d.does.added p

  acted_put : (i : Import) (h : Host) (given : Option (Row (import_arguments i))) → Has h → HasIf (acted i h given)
  acted_put i h None p = tt
  acted_put i h (Some r) p = by (acts i r h)
    where
      by : (m : Option (Acts (InAnswer (import_answer i)))) → HasIf (with_some m (λ d. Some (replied (import_answer i) h d d.does.answer)))
      by None = tt
      by (Some d) = replied_put (import_answer i) h d d.does.answer p

  after_fault_put : (memory : List ℕ) (i : Import) (cs : List Cell) (h : Host) → Has h → HasIf (after_fault memory i cs h)
  after_fault_put memory i cs h p = by (lets_go i) (none_owned cs)
    where
      by : (b c : Bool) → HasIf (cond b (acted i h (taken memory i cs)) (where_so c (Some (fault_cell (import_answer i), h))))
      by true c = acted_put i h (taken memory i cs) p
      by false true = p
      by false false = tt

  call_put : (memory : List ℕ) (i : Import) (cs : List Cell) (h : Host) → Has h → HasIf (call memory i cs h)
  call_put memory i cs h p = by h.fault
    where
      by : (f : Option Fault) → HasIf (elim f [ None ↦ acted i h (taken memory i cs) | Some x ↦ after_fault memory i cs h ])
      by None = acted_put i h (taken memory i cs) p
      by (Some x) = after_fault_put memory i cs h p

  look_put : (i : Import) (c : Cell) (h : Host) → Has h → HasIf (look i c h)
  look_put i c h p = by h.fault
    where
      by : (f : Option Fault) → HasIf (elim f [ None ↦ acted i h (looked_at i c) | Some x ↦ None ])
      by None = acted_put i h (looked_at i c) p
      by (Some x) = tt

  put_if : (a : Option (Option Cell × Host)) (z : Option Cell × Host) → a ≡ Some z → HasIf a → Has z.1
  put_if a z e p = subst HasIf e p

  leads : (u : Code) → Adds u → Leads u (λ G. Has G.host) (λ G. Has G.host)
  leads u adds = record {
    same = λ G p. p;
    noted = λ code G p. grows_then o G.host.shared.output (u.notes code G.host.shared.output) p (adds code G.host.shared.output);
    called = λ i cs a G e p. put_if (call u.memory i cs G.host) a e (call_put u.memory i cs G.host p);
    looked = λ i c a G e p. put_if (look i c G.host) a e (look_put i c G.host p);
    read = λ x G p. p;
    written = λ x v G e p. p;
  }

  -- a run has put out at least what it began with
  pub go_put : (u : Code) → Adds u → (n : ℕ) (c : Conf) → HasPut c → HasPut (go u n c)
  go_put u adds zero c p = p
  go_put u adds (suc n) c p = go_put u adds n (step u c) (step_in u (λ G. Has G.host) (λ G. Has G.host) (leads u adds) c p)

-- What a place shows, and what was put out there.

abbrev pub put_at : Conf → List Action
put_at (Run ks vs K L F c G) = G.host.shared.output
put_at (Look x ks vs K L F c G) = G.host.shared.output
put_at (Over v G) = G.host.shared.output
put_at (Deep G) = G.host.shared.output
put_at Stuck = []

abbrev output_if : Option Ending → List Action
output_if None = []
output_if (Some e) = output_of e

status_shows : (v : Cell) (G : Store) (e : Ending) → status_of v G ≡ Some e → output_of e ≡ G.host.shared.output
status_shows (Bits (I32 n)) G e eq = by (nat_lt n (2 ^ 32)) eq
  where
    by : (b : Bool) → cond b (Some (Ended (n % 256) G.host.shared.output)) None ≡ Some e → output_of e ≡ G.host.shared.output
    by true eq = sym (ap output_if eq)
    by false eq = cc
status_shows (Bits (I64 n)) G e eq = cc
status_shows (Held v) G e eq = cc
status_shows (LentArray a) G e eq = cc
status_shows (OwnedArray a) G e eq = cc
status_shows (IteratorOf t) G e eq = cc
status_shows Gone G e eq = cc

over_shows : (f : Option Fault) (v : Cell) (G : Store) (e : Ending) → elim f [ Some fault ↦ Some (FaultedBy fault G.host.shared.output) | None ↦ status_of v G ] ≡ Some e → output_of e ≡ G.host.shared.output
over_shows None v G e eq = status_shows v G e eq
over_shows (Some fault) v G e eq = sym (ap output_if eq)

pub shows_put : (c : Conf) (e : Ending) → ending_at c ≡ Some e → output_of e ≡ put_at c
shows_put (Run ks vs K L F c G) e eq = sym (ap output_if eq)
shows_put (Look x ks vs K L F c G) e eq = sym (ap output_if eq)
shows_put (Over v G) e eq = over_shows G.host.fault v G e eq
shows_put (Deep G) e eq = sym (ap output_if eq)
shows_put Stuck e eq = cc

puts_its_own : (c : Conf) → HasPut (put_at c) c
puts_its_own (Run ks vs K L F c G) = grows_self G.host.shared.output
puts_its_own (Look x ks vs K L F c G) = grows_self G.host.shared.output
puts_its_own (Over v G) = grows_self G.host.shared.output
puts_its_own (Deep G) = grows_self G.host.shared.output
puts_its_own Stuck = tt

put_shown : (o : List Action) (c : Conf) (e : Ending) → ending_at c ≡ Some e → HasPut o c → Grows o (put_at c)
put_shown o (Run ks vs K L F c G) e eq h = h
put_shown o (Look x ks vs K L F c G) e eq h = h
put_shown o (Over v G) e eq h = h
put_shown o (Deep G) e eq h = h
put_shown o Stuck e eq h = cc

-- from one place to a later one
pub shown_later : (u : Code) → Adds u → (n : ℕ) (c : Conf) (e g : Ending) → ending_at c ≡ Some e → ending_at (go u n c) ≡ Some g → Grows (output_of e) (output_of g)
shown_later u adds n c e g was is =
    let o = output_of e in
    let h = go_put o u adds n c (subst (λ (x : List Action). HasPut x c) (sym (shows_put c e was)) (puts_its_own c)) in
    subst (Grows o) (sym (shows_put (go u n c) g is)) (put_shown o (go u n c) g is h)
