-- From what is shown of a program, for every number of turns, to agreement both ways.
use Rattle.std.specs.Prelude.{List}
use Rattle.std.proofs.Common.{◌≡◌, ℕ, zero, suc, ◌+◌, ◌-◌, ◌*◌, ◌<◌, ◌≤◌, ◌⊎◌, inl, inr, Option, Some, None, refl, sym, ap, subst, ◌∙◌, arith}
use Rattle.std.proofs.lemmas.Bool.{cases_lt}
use Rattle.world_core.specs.WorldState.{Action}
use Rattle.wasm_types.specs.Syntax.{Instructions}
use Rattle.sem_scripts.specs.MoreTurns.{Grows, output_of}
use Rattle.mid_program.specs.Mid.{Program}
use Rattle.mid_program.specs.MidMeaning.{mid_run_in}
use Rattle.sem_scripts.specs.ScriptRun.{Setting, Ending, Ended, FaultedBy, GoesOn, Exhausted}
use Rattle.lower_model.specs.Follows.{Follows, ShownWith}
use Rattle.lower_model.specs.Machine.{Notes, no_notes, Code, Conf, Run, Look, Over, Deep, Stuck, ending_at, go, turns_within}
use Rattle.lower_model.specs.Runs.{begun, noting_code, noting_run}
use Rattle.lower_model.proofs.Runs.{go_add, turns_add}
use Rattle.agreement.specs.Modules.ValueAgreement.{Shows, AgreesWith, ValueAgreement}
use Rattle.agreement.specs.Modules.Over.{IsOver}
use Rattle.agreement.proofs.ModulesLemmas.Growing.{grows_self, shown_later}

-- a place that is left no more
abbrev IsLast : Conf → Type 0
IsLast (Run ks vs K L F c G) = ⊥
IsLast (Look x ks vs K L F c G) = ⊥
IsLast _ = Unit {0}

stays_last : (u : Code) (n : ℕ) (c : Conf) → IsLast c → go u n c ≡ c
stays_last u zero c h = refl
stays_last u (suc n) (Run ks vs K L F c G) h = absurd h
stays_last u (suc n) (Look x ks vs K L F c G) h = absurd h
stays_last u (suc n) (Over v G) h = stays_last u n (Over v G) h
stays_last u (suc n) (Deep G) h = stays_last u n (Deep G) h
stays_last u (suc n) Stuck h = stays_last u n Stuck h

abbrev IsOverIf : Option Ending → Type 0
IsOverIf None = Unit {0}
IsOverIf (Some e) = IsOver e

over_last : (c : Conf) (e : Ending) → IsOver e → ending_at c ≡ Some e → IsLast c
over_last (Run ks vs K L F c G) e over eq = subst IsOverIf (sym eq) over
over_last (Look x ks vs K L F c G) e over eq = subst IsOverIf (sym eq) over
over_last (Over v G) e over eq = tt
over_last (Deep G) e over eq = tt
over_last Stuck e over eq = tt

none_last : (c : Conf) → ending_at c ≡ None → IsLast c
none_last (Run ks vs K L F c G) eq = cc
none_last (Look x ks vs K L F c G) eq = cc
none_last (Over v G) eq = tt
none_last (Deep G) eq = tt
none_last Stuck eq = tt

some_not_none : {e : Ending} {o : Option Ending} → o ≡ Some e → o ≡ None → ⊥
some_not_none e n = let q = sym e ∙ n in cc

same_ending : {d e : Ending} {o : Option Ending} → o ≡ Some d → o ≡ Some e → d ≡ e
same_ending {d} a b = ap (λ o. elim o [ Some x ↦ x | None ↦ d ]) (sym a ∙ b)

-- what is shown of an ending
over_shown : (notes : Notes) (p : Program) (s : Setting) (turns most : ℕ) (e : Ending) → IsOver e → ShownWith notes p s turns most e → (j : ℕ) × (j ≤ most) × (noting_run notes p s j ≡ Some e)
over_shown notes p s turns most (Ended n o) over h = h
over_shown notes p s turns most (FaultedBy f o) over h = h
over_shown notes p s turns most (GoesOn o) over h = absurd over
over_shown notes p s turns most (Exhausted o) over h = h

module _ (notes : Notes) (adds : (code : Instructions) (output : List Action) → Grows output (notes code output)) (p : Program) (done : Setting → ℕ → Ending) (s : Setting) where
  abbrev u : Code
  u = noting_code notes p s.deepest

  abbrev place : ℕ → Conf
  place n = go u n (begun p s)

  later : (j n : ℕ) → j ≤ n → place n ≡ go u (n - j) (place j)
  later j n le = let e : j + (n - j) ≡ n = omega arith in ap place (sym e) ∙ go_add u j (n - j) (begun p s)

  last_stays : (j n : ℕ) → j ≤ n → IsLast (place j) → place n ≡ place j
  last_stays j n le h = later j n le ∙ stays_last u (n - j) (place j) h

  pub over_stays : (j n : ℕ) (e : Ending) → j ≤ n → IsOver e → noting_run notes p s j ≡ Some e → noting_run notes p s n ≡ Some e
  over_stays j n e le over eq = ap ending_at (last_stays j n le (over_last (place j) e over eq)) ∙ eq

  grows_later : (j n : ℕ) (e g : Ending) → j ≤ n → noting_run notes p s j ≡ Some e → noting_run notes p s n ≡ Some g → Grows (output_of e) (output_of g)
  grows_later j n e g le was is = shown_later u adds (n - j) (place j) e g was (ap ending_at (sym (later j n le)) ∙ is)

  more_turns : (n j : ℕ) → suc (turns_within u n (begun p s)) ≤ turns_within u j (begun p s) → n ≤ j
  more_turns n j h = by (cases_lt j n)
    where
      by : ((j < n) ⊎ (n ≤ j)) → n ≤ j
      by (inr le) = le
      by (inl less) =
          let e : j + (n - j) ≡ n = omega arith in
          let a = turns_add u j (n - j) (begun p s) in
          let b : turns_within u (j + (n - j)) (begun p s) ≡ turns_within u n (begun p s) = ap (λ k. turns_within u k (begun p s)) e in
          absurd (omega (arith, a, b, h))

  -- With enough turns the program is met at the machine's place or later, or it has ended.
  pub record MetLater (n turns : ℕ) : Type 0 where
    pub steps : ℕ
    pub later-on : n ≤ steps
    pub output : Ending
    pub shows : noting_run notes p s steps ≡ Some output
    pub does : done s turns ≡ output
    pub goes_on : IsOver output → ⊥

  pub record MetOver (turns : ℕ) : Type 0 where
    pub steps : ℕ
    pub output : Ending
    pub over : IsOver output
    pub shows : noting_run notes p s steps ≡ Some output
    pub does : done s turns ≡ output

  module _ (f : Shows notes p done) where
    abbrev turns_for : ℕ → ℕ
    turns_for n = suc (turns_within u n (begun p s))

    met : (n : ℕ) → MetLater n (turns_for n) ⊎ MetOver (turns_for n)
    met n = by (done s (turns_for n)) refl (f.shown s (turns_for n))
      where
        by : (e : Ending) → done s (turns_for n) ≡ e → ShownWith notes p s (turns_for n) (f.bound * (turns_for n + 1)) e → MetLater n (turns_for n) ⊎ MetOver (turns_for n)
        by (GoesOn o) eq h = inl (record { steps = h.0; later-on = more_turns n h.0 h.2; output = GoesOn o; shows = h.3; does = eq; goes_on = λ over. over })
        by (Ended k o) eq h = inr (record { steps = h.0; output = Ended k o; over = tt; shows = h.2; does = eq })
        by (FaultedBy k o) eq h = inr (record { steps = h.0; output = FaultedBy k o; over = tt; shows = h.2; does = eq })
        by (Exhausted o) eq h = inr (record { steps = h.0; output = Exhausted o; over = tt; shows = h.2; does = eq })

    not_none : (n : ℕ) → noting_run notes p s n ≡ None → ⊥
    not_none n eq = by (met n)
      where
        last : IsLast (place n)
        last = none_last (place n) eq

        by : MetLater n (turns_for n) ⊎ MetOver (turns_for n) → ⊥
        by (inl m) = some_not_none m.shows (ap ending_at (last_stays n m.steps m.later-on last) ∙ eq)
        by (inr m) = which (cases_lt m.steps n)
          where
            which : ((m.steps < n) ⊎ (n ≤ m.steps)) → ⊥
            which (inl less) = some_not_none (over_stays m.steps n m.output (omega arith) m.over m.shows) eq
            which (inr le) = some_not_none m.shows (ap ending_at (last_stays n m.steps le last) ∙ eq)

    never_stuck : (n : ℕ) → (e : Ending) × (noting_run notes p s n ≡ Some e)
    never_stuck n = by (noting_run notes p s n) refl
      where
        by : (o : Option Ending) → noting_run notes p s n ≡ o → (e : Ending) × (noting_run notes p s n ≡ Some e)
        by (Some e) eq = (e, eq)
        by None eq = absurd (not_none n eq)

    forward : (turns : ℕ) (e : Ending) → IsOver e → done s turns ≡ e →
        (enough : ℕ) × (enough ≤ f.bound * (turns + 1)) × ((steps : ℕ) → enough ≤ steps → noting_run notes p s steps ≡ Some e)
    forward turns e over eq =
        let h = over_shown notes p s turns (f.bound * (turns + 1)) e over (subst (λ (x : Ending). ShownWith notes p s turns (f.bound * (turns + 1)) x) eq (f.shown s turns)) in
        (h.0, h.1, λ steps le. over_stays h.0 steps e le over h.2)

    -- the same end, whichever is met first
    ends_alike : (j n : ℕ) (d e : Ending) → IsOver d → IsOver e → noting_run notes p s j ≡ Some d → noting_run notes p s n ≡ Some e → d ≡ e
    ends_alike j n d e od oe hd he = by (cases_lt j n)
      where
        by : ((j < n) ⊎ (n ≤ j)) → d ≡ e
        by (inl less) = same_ending (over_stays j n d (omega arith) od hd) he
        by (inr le) = same_ending hd (over_stays n j e le oe he)

    backward : (n : ℕ) (e : Ending) → IsOver e → noting_run notes p s n ≡ Some e → (turns : ℕ) × (done s turns ≡ e)
    backward n e over eq = by (met n)
      where
        by : MetLater n (turns_for n) ⊎ MetOver (turns_for n) → (turns : ℕ) × (done s turns ≡ e)
        by (inl m) = absurd (m.goes_on (subst IsOver (same_ending (over_stays n m.steps e m.later-on over eq) m.shows) over))
        by (inr m) = (turns_for n, m.does ∙ ends_alike m.steps n m.output e m.over over m.shows eq)

    output_machine : (n : ℕ) (e : Ending) → noting_run notes p s n ≡ Some e → (turns : ℕ) × Grows (output_of e) (output_of (done s turns))
    output_machine n e eq = (turns_for n, by (met n))
      where
        by : MetLater n (turns_for n) ⊎ MetOver (turns_for n) → Grows (output_of e) (output_of (done s (turns_for n)))
        by (inl m) = subst (λ (x : Ending). Grows (output_of e) (output_of x)) (sym m.does) (grows_later n m.steps e m.output m.later-on eq m.shows)
        by (inr m) = subst (λ (x : Ending). Grows (output_of e) (output_of x)) (sym m.does) (which (cases_lt m.steps n))
          where
            which : ((m.steps < n) ⊎ (n ≤ m.steps)) → Grows (output_of e) (output_of m.output)
            which (inl less) = subst (λ (x : Ending). Grows (output_of x) (output_of m.output)) (same_ending (over_stays m.steps n m.output (omega arith) m.over m.shows) eq) (grows_self (output_of m.output))
            which (inr le) = grows_later n m.steps e m.output le eq m.shows

    abbrev Enough : ℕ → Ending → Type 0
    Enough turns x = (enough : ℕ) × (enough ≤ f.bound * (turns + 1)) × ((steps : ℕ) (e : Ending) → enough ≤ steps → noting_run notes p s steps ≡ Some e → Grows (output_of x) (output_of e))

    output_program : (turns : ℕ) → Enough turns (done s turns)
    output_program turns = by (done s turns) (f.shown s turns)
      where
        ends : (x : Ending) → IsOver x → ((j : ℕ) × (j ≤ f.bound * (turns + 1)) × (noting_run notes p s j ≡ Some x)) → Enough turns x
        ends x over h = (h.0, h.1, λ steps e le eq. grows_later h.0 steps x e le h.2 eq)

        by : (x : Ending) → ShownWith notes p s turns (f.bound * (turns + 1)) x → Enough turns x
        by (GoesOn o) h = (h.0, h.1, λ steps e le eq. grows_later h.0 steps (GoesOn o) e le h.3 eq)
        by (Ended k o) h = ends (Ended k o) tt h
        by (FaultedBy k o) h = ends (FaultedBy k o) tt h
        by (Exhausted o) h = ends (Exhausted o) tt h

pub agreement_with : (notes : Notes) → ((code : Instructions) (output : List Action) → Grows output (notes code output)) → (p : Program) (done : Setting → ℕ → Ending) → Shows notes p done → AgreesWith notes p done
agreement_with notes adds p done f = record {
  bound = f.bound;
  never_stuck = λ s. never_stuck notes adds p done s f;
  forward = λ s. forward notes adds p done s f;
  backward = λ s. backward notes adds p done s f;
  output_machine = λ s. output_machine notes adds p done s f;
  output_program = λ s. output_program notes adds p done s f;
}

pub agreement : (p : Program) → Follows p → ValueAgreement p
agreement p f = agreement_with no_notes (λ code output. grows_self output) p (mid_run_in p) (record { bound = f.bound; shown = f.shown })
