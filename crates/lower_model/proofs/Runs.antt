-- Runs of the machine: some steps, and then some more; what they stand for in turns; and what it is to arrive where a script's doing leads.
use Rattle.std.proofs.Common.{◌≡◌, ℕ, zero, suc, ◌+◌, ◌*◌, ◌≤◌, Some, Result, Ok, Err, refl, ap, ◌∙◌, arith}
use Rattle.world_core.specs.WorldState.{Action}
use Rattle.std.specs.Prelude.{List}
use Rattle.awk_values.specs.declared.fault.Fault.{Fault}
use Rattle.mid_program.specs.MidMeaning.{then_row}
use Rattle.sem_scripts.specs.ScriptRun.{GoesOn}
use Rattle.sem_scripts.specs.ScriptState.{State, Stop, Faulted, OutOfTurns, TooDeep, Nexted, Exited, Returned, Outcome, Gives, Stops, Execution, go_on, settled, spent}
use Rattle.lower_model.specs.Machine.{Code, Conf, step, go, turns_within, ending_at}

pub go_add : (u : Code) (i j : ℕ) (c : Conf) → go u (i + j) c ≡ go u j (go u i c)
go_add u zero j c = let e : zero + j ≡ j = omega arith in ap (λ n. go u n c) e
go_add u (suc i) j c = let e : suc i + j ≡ suc (i + j) = omega arith in ap (λ n. go u n c) e ∙ go_add u i j (step u c)

pub turns_add : (u : Code) (i j : ℕ) (c : Conf) → turns_within u (i + j) c ≡ turns_within u i c + turns_within u j (go u i c)
turns_add u zero j c = let e : zero + j ≡ j = omega arith in ap (λ n. turns_within u n c) e ∙ omega arith
turns_add u (suc i) j c =
    let e : suc i + j ≡ suc (i + j) = omega arith in
    let h = turns_add u i j (step u c) in
    ap (λ n. turns_within u n c) e ∙ omega (arith, h)

-- a step stands for a turn at least
pub steps_turn : (u : Code) (j : ℕ) (c : Conf) → j ≤ turns_within u j c
steps_turn u zero c = omega arith
steps_turn u (suc j) c = let h = steps_turn u j (step u c) in omega (arith, h)

-- so many steps lead from one place to another
pub record Goes (u : Code) (j : ℕ) (a b : Conf) : Type 0 where
  pub it : go u j a ≡ b

pub stays : {u : Code} {a : Conf} → Goes u 0 a a
stays = record { it = refl }

-- by computing
pub by_steps : {u : Code} {a b : Conf} → (j : ℕ) → go u j a ≡ b → Goes u j a b
by_steps j e = record { it = e }

pub same_goes : {u : Code} {a b : Conf} → a ≡ b → Goes u 0 a b
same_goes e = record { it = e }

pub then_goes : {u : Code} {i j : ℕ} {a b c : Conf} → Goes u i a b → Goes u j b c → Goes u (i + j) a c
then_goes {u = u} {i = i} {j = j} {a = a} g h = record { it = go_add u i j a ∙ (ap (go u j) g.it ∙ h.it) }

pub goes_to : {u : Code} {i : ℕ} {a b c : Conf} → Goes u i a b → b ≡ c → Goes u i a c
goes_to g e = record { it = g.it ∙ e }

pub goes_from : {u : Code} {i : ℕ} {a b c : Conf} → a ≡ b → Goes u i b c → Goes u i a c
goes_from {u = u} {i = i} e g = record { it = ap (go u i) e ∙ g.it }

-- from l turns to l' in j steps that stand for m turns: w steps may come beside those that turns pay, M each
pub record Cost (M w l l' j m : ℕ) : Type 0 where
  pub down : l' ≤ l
  pub paid : l ≤ l' + m
  pub few : j + M * l' ≤ w + M * l

-- something is known of what an outcome gives
abbrev pub Known : {A : Type 0} → (A → State → Type 0) → Outcome A → Type 0
Known K (Gives a σ) = K a σ
Known K (Stops why σ) = Unit {0}

module _ (u : Code) (M : ℕ) where
  pub record Reaches (w l : ℕ) (c : Conf) (l' : ℕ) (P : Conf → Type 0) : Type 0 where
    pub conf : Conf
    pub steps : ℕ
    pub goes : go u steps c ≡ conf
    pub cost : Cost M w l l' steps (turns_within u steps c)
    pub holds : P conf

  -- at work, with the output so far, once all turns are spent
  pub record Works (w l : ℕ) (c : Conf) (output : List Action) : Type 0 where
    pub steps : ℕ
    pub few : steps ≤ w + M * l
    pub enough : l ≤ turns_within u steps c
    pub shows : ending_at (go u steps c) ≡ Some (GoesOn output)

  abbrev pub Halts : ℕ → ℕ → Conf → (Stop → State → Conf → Type 0) → Stop → State → Type 0
  Halts w l c Q OutOfTurns σ = Works w l c σ.shared.output
  Halts w l c Q (Faulted f) σ = Reaches w l c σ.turns (Q (Faulted f) σ)
  Halts w l c Q TooDeep σ = Reaches w l c σ.turns (Q TooDeep σ)
  Halts w l c Q Nexted σ = Reaches w l c σ.turns (Q Nexted σ)
  Halts w l c Q Exited σ = Reaches w l c σ.turns (Q Exited σ)
  Halts w l c Q (Returned v) σ = Reaches w l c σ.turns (Q (Returned v) σ)

  -- from c the machine comes to what P or Q say of the outcome
  abbrev pub Arrives : {A : Type 0} → ℕ → ℕ → Conf → (A → State → Conf → Type 0) → (Stop → State → Conf → Type 0) → Outcome A → Type 0
  Arrives w l c P Q (Gives a σ) = Reaches w l c σ.turns (P a σ)
  Arrives w l c P Q (Stops why σ) = Halts w l c Q why σ

  -- steps before: from l turns to l' in i steps that stand for m turns, where w steps are still to come and w' are allowed
  pub record Joint (w w' l l' i m : ℕ) : Type 0 where
    pub down : l' ≤ l
    pub paid : l ≤ l' + m
    pub few : i + w + M * l' ≤ w' + M * l

  reaches_after : (i w w' l l1 l2 : ℕ) (c c1 : Conf) (P : Conf → Type 0) → go u i c ≡ c1 → Joint w w' l l1 i (turns_within u i c) → Reaches w l1 c1 l2 P → Reaches w' l c l2 P
  reaches_after i w w' l l1 l2 c c1 P e k r =
      let t = turns_add u i r.steps c in
      let s = ap (turns_within u r.steps) e in
      record {
        conf = r.conf;
        steps = i + r.steps;
        goes = go_add u i r.steps c ∙ (ap (go u r.steps) e ∙ r.goes);
        cost = record { down = omega (arith, k.down, r.cost.down); paid = omega (arith, k.paid, r.cost.paid, t, s); few = omega (arith, k.few, r.cost.few) };
        holds = r.holds;
      }

  works_after : (i w w' l l1 : ℕ) (c c1 : Conf) (o : List Action) → go u i c ≡ c1 → Joint w w' l l1 i (turns_within u i c) → Works w l1 c1 o → Works w' l c o
  works_after i w w' l l1 c c1 o e k r =
      let t = turns_add u i r.steps c in
      let s = ap (turns_within u r.steps) e in
      record {
        steps = i + r.steps;
        few = omega (arith, k.few, r.few);
        enough = omega (arith, k.paid, r.enough, t, s);
        shows = ap ending_at (go_add u i r.steps c ∙ ap (go u r.steps) e) ∙ r.shows;
      }

  halts_after : (i w w' l l1 : ℕ) (c c1 : Conf) (Q : Stop → State → Conf → Type 0) (why : Stop) (σ : State) → go u i c ≡ c1 → Joint w w' l l1 i (turns_within u i c) → Halts w l1 c1 Q why σ → Halts w' l c Q why σ
  halts_after i w w' l l1 c c1 Q OutOfTurns σ e k r = works_after i w w' l l1 c c1 σ.shared.output e k r
  halts_after i w w' l l1 c c1 Q (Faulted f) σ e k r = reaches_after i w w' l l1 σ.turns c c1 (Q (Faulted f) σ) e k r
  halts_after i w w' l l1 c c1 Q TooDeep σ e k r = reaches_after i w w' l l1 σ.turns c c1 (Q TooDeep σ) e k r
  halts_after i w w' l l1 c c1 Q Nexted σ e k r = reaches_after i w w' l l1 σ.turns c c1 (Q Nexted σ) e k r
  halts_after i w w' l l1 c c1 Q Exited σ e k r = reaches_after i w w' l l1 σ.turns c c1 (Q Exited σ) e k r
  halts_after i w w' l l1 c c1 Q (Returned v) σ e k r = reaches_after i w w' l l1 σ.turns c c1 (Q (Returned v) σ) e k r

  pub arrives_after : {A : Type 0} → (i w w' l l1 : ℕ) (c c1 : Conf) (P : A → State → Conf → Type 0) (Q : Stop → State → Conf → Type 0) (r : Outcome A) → go u i c ≡ c1 → Joint w w' l l1 i (turns_within u i c) → Arrives w l1 c1 P Q r → Arrives w' l c P Q r
  arrives_after i w w' l l1 c c1 P Q (Gives a σ) e k r = reaches_after i w w' l l1 σ.turns c c1 (P a σ) e k r
  arrives_after i w w' l l1 c c1 P Q (Stops why σ) e k r = halts_after i w w' l l1 c c1 Q why σ e k r

  -- some steps first
  pub first : {A : Type 0} → (i w w' l : ℕ) (c c1 : Conf) (P : A → State → Conf → Type 0) (Q : Stop → State → Conf → Type 0) (r : Outcome A) → Goes u i c c1 → i + w ≤ w' → Arrives w l c1 P Q r → Arrives w' l c P Q r
  first i w w' l c c1 P Q r g h a = arrives_after i w w' l l c c1 P Q r g.it (record { down = omega arith; paid = omega arith; few = omega (arith, h) }) a

  -- more work is allowed
  pub within : {A : Type 0} → (w w' l : ℕ) (c : Conf) (P : A → State → Conf → Type 0) (Q : Stop → State → Conf → Type 0) (r : Outcome A) → w ≤ w' → Arrives w l c P Q r → Arrives w' l c P Q r
  within w w' l c P Q r h a = first 0 w w' l c c P Q r stays (omega (arith, h)) a

  -- one part after another
  pub then_on : {A B : Type 0} → (w w1 w' l : ℕ) (c : Conf) (P : A → State → Conf → Type 0) (P1 : B → State → Conf → Type 0) (Q : Stop → State → Conf → Type 0) (r : Outcome A) (f : A → Execution B) → w + w1 ≤ w' → Arrives w l c P Q r → ((a : A) (σ : State) (c1 : Conf) → σ.turns ≤ l → P a σ c1 → Arrives w1 σ.turns c1 P1 Q (f a σ)) → Arrives w' l c P1 Q (go_on r f)
  then_on w w1 w' l c P P1 Q (Gives a σ) f h r next = arrives_after r.steps w1 w' l σ.turns c r.conf P1 Q (f a σ) r.goes (record { down = r.cost.down; paid = r.cost.paid; few = omega (arith, r.cost.few, h) }) (next a σ r.conf r.cost.down r.holds)
  then_on w w1 w' l c P P1 Q (Stops why σ) f h r next = halts_after 0 w w' l l c c Q why σ refl (record { down = omega arith; paid = omega arith; few = omega (arith, h) }) r

  -- the same for what only settles something, and leaves the state alone
  pub then_settled : {A B : Type 0} → (w w1 w' : ℕ) (c : Conf) (σ : State) (P : A → State → Conf → Type 0) (P1 : B → State → Conf → Type 0) (Q : Stop → State → Conf → Type 0) (r : Result A Fault) (f : A → Execution B) → w + w1 ≤ w' → Arrives w σ.turns c P Q (settled r σ) → ((a : A) (c1 : Conf) → r ≡ Ok a → P a σ c1 → Arrives w1 σ.turns c1 P1 Q (f a σ)) → Arrives w' σ.turns c P1 Q (go_on (settled r σ) f)
  then_settled w w1 w' c σ P P1 Q (Ok a) f h r next = arrives_after r.steps w1 w' σ.turns σ.turns c r.conf P1 Q (f a σ) r.goes (record { down = omega arith; paid = omega arith; few = omega (arith, r.cost.few, h) }) (next a r.conf refl r.holds)
  then_settled w w1 w' c σ P P1 Q (Err x) f h r next = halts_after 0 w w' σ.turns σ.turns c c Q (Faulted x) σ refl (record { down = omega arith; paid = omega arith; few = omega (arith, h) }) r

  pub then_both : {A B : Type 0} → (w w1 w' : ℕ) (c : Conf) (σ : State) (P : A → State → Conf → Type 0) (P1 : B → State → Conf → Type 0) (Q : Stop → State → Conf → Type 0) (r : Result A Fault) (f : A → Result B Fault) → w + w1 ≤ w' → Arrives w σ.turns c P Q (settled r σ) → ((a : A) (c1 : Conf) → r ≡ Ok a → P a σ c1 → Arrives w1 σ.turns c1 P1 Q (settled (f a) σ)) → Arrives w' σ.turns c P1 Q (settled (then_row r f) σ)
  then_both w w1 w' c σ P P1 Q (Ok a) f h r next = arrives_after r.steps w1 w' σ.turns σ.turns c r.conf P1 Q (settled (f a) σ) r.goes (record { down = omega arith; paid = omega arith; few = omega (arith, r.cost.few, h) }) (next a r.conf refl r.holds)
  then_both w w1 w' c σ P P1 Q (Err x) f h r next = halts_after 0 w w' σ.turns σ.turns c c Q (Faulted x) σ refl (record { down = omega arith; paid = omega arith; few = omega (arith, h) }) r

  reaches_weaker : (w l l2 : ℕ) (c : Conf) (P P1 : Conf → Type 0) → ((c1 : Conf) → P c1 → P1 c1) → Reaches w l c l2 P → Reaches w l c l2 P1
  reaches_weaker w l l2 c P P1 f r = record { conf = r.conf; steps = r.steps; goes = r.goes; cost = r.cost; holds = f r.conf r.holds }

  halts_weaker : (w l : ℕ) (c : Conf) (Q Q1 : Stop → State → Conf → Type 0) (why : Stop) (σ : State) → ((y : Stop) (τ : State) (c1 : Conf) → Q y τ c1 → Q1 y τ c1) → Halts w l c Q why σ → Halts w l c Q1 why σ
  halts_weaker w l c Q Q1 OutOfTurns σ f r = r
  halts_weaker w l c Q Q1 (Faulted x) σ f r = reaches_weaker w l σ.turns c (Q (Faulted x) σ) (Q1 (Faulted x) σ) (f (Faulted x) σ) r
  halts_weaker w l c Q Q1 TooDeep σ f r = reaches_weaker w l σ.turns c (Q TooDeep σ) (Q1 TooDeep σ) (f TooDeep σ) r
  halts_weaker w l c Q Q1 Nexted σ f r = reaches_weaker w l σ.turns c (Q Nexted σ) (Q1 Nexted σ) (f Nexted σ) r
  halts_weaker w l c Q Q1 Exited σ f r = reaches_weaker w l σ.turns c (Q Exited σ) (Q1 Exited σ) (f Exited σ) r
  halts_weaker w l c Q Q1 (Returned v) σ f r = reaches_weaker w l σ.turns c (Q (Returned v) σ) (Q1 (Returned v) σ) (f (Returned v) σ) r

  -- less is promised
  pub weaker : {A : Type 0} → (w l : ℕ) (c : Conf) (P P1 : A → State → Conf → Type 0) (Q Q1 : Stop → State → Conf → Type 0) (r : Outcome A) → ((a : A) (σ : State) (c1 : Conf) → P a σ c1 → P1 a σ c1) → ((y : Stop) (σ : State) (c1 : Conf) → Q y σ c1 → Q1 y σ c1) → Arrives w l c P Q r → Arrives w l c P1 Q1 r
  weaker w l c P P1 Q Q1 (Gives a σ) f g r = reaches_weaker w l σ.turns c (P a σ) (P1 a σ) (f a σ) r
  weaker w l c P P1 Q Q1 (Stops why σ) f g r = halts_weaker w l c Q Q1 why σ g r

  -- what is known of the outcome is known where it is come to
  pub knowing : {A : Type 0} → (w l : ℕ) (c : Conf) (P X : A → State → Conf → Type 0) (Q : Stop → State → Conf → Type 0) (K : A → State → Type 0) (r : Outcome A) → Known K r → ((a : A) (σ : State) (c1 : Conf) → P a σ c1 → K a σ → X a σ c1) →
      Arrives w l c P Q r → Arrives w l c X Q r
  knowing w l c P X Q K (Gives a σ) k f r = reaches_weaker w l σ.turns c (P a σ) (X a σ) (λ c1 h. f a σ c1 h k) r
  knowing w l c P X Q K (Stops why σ) k f r = r

  -- at most j steps after
  pub record Onward (j : ℕ) (P : Conf → Type 0) (c : Conf) : Type 0 where
    pub conf : Conf
    pub steps : ℕ
    pub few : steps ≤ j
    pub goes : Goes u steps c conf
    pub holds : P conf

  pub reaches_on : (j w w' l l2 : ℕ) (c : Conf) (P P1 : Conf → Type 0) → w + j ≤ w' → ((c1 : Conf) → P c1 → Onward j P1 c1) → Reaches w l c l2 P → Reaches w' l c l2 P1
  reaches_on j w w' l l2 c P P1 h f r =
      let o = f r.conf r.holds in
      let t = turns_add u r.steps o.steps c in
      record {
        conf = o.conf;
        steps = r.steps + o.steps;
        goes = go_add u r.steps o.steps c ∙ (ap (go u o.steps) r.goes ∙ o.goes.it);
        cost = record { down = r.cost.down; paid = omega (arith, r.cost.paid, t); few = omega (arith, r.cost.few, h, o.few) };
        holds = o.holds;
      }

  pub then_step : {A : Type 0} → (j w w' l : ℕ) (c : Conf) (P P1 : A → State → Conf → Type 0) (Q : Stop → State → Conf → Type 0) (r : Outcome A) → w + j ≤ w' → ((a : A) (σ : State) (c1 : Conf) → P a σ c1 → Onward j (P1 a σ) c1) → Arrives w l c P Q r → Arrives w' l c P1 Q r
  then_step j w w' l c P P1 Q (Gives a σ) h f r = reaches_on j w w' l σ.turns c (P a σ) (P1 a σ) h (f a σ) r
  then_step j w w' l c P P1 Q (Stops why σ) h f r = halts_after 0 w w' l l c c Q why σ refl (record { down = omega arith; paid = omega arith; few = omega (arith, h) }) r

  -- the same where only something is settled
  pub weaker_settled : {A : Type 0} → (w : ℕ) (c : Conf) (σ : State) (P P1 : A → State → Conf → Type 0) (Q : Stop → State → Conf → Type 0) (r : Result A Fault) → ((a : A) (c1 : Conf) → P a σ c1 → P1 a σ c1) → Arrives w σ.turns c P Q (settled r σ) → Arrives w σ.turns c P1 Q (settled r σ)
  weaker_settled w c σ P P1 Q (Ok a) f r = reaches_weaker w σ.turns σ.turns c (P a σ) (P1 a σ) (f a) r
  weaker_settled w c σ P P1 Q (Err x) f r = r

  pub step_settled : {A : Type 0} → (j w w' : ℕ) (c : Conf) (σ : State) (P P1 : A → State → Conf → Type 0) (Q : Stop → State → Conf → Type 0) (r : Result A Fault) → w + j ≤ w' → ((a : A) (c1 : Conf) → P a σ c1 → Onward j (P1 a σ) c1) → Arrives w σ.turns c P Q (settled r σ) → Arrives w' σ.turns c P1 Q (settled r σ)
  step_settled j w w' c σ P P1 Q (Ok a) h f r = reaches_on j w w' σ.turns σ.turns c (P a σ) (P1 a σ) h (f a) r
  step_settled j w w' c σ P P1 Q (Err x) h f r = halts_after 0 w w' σ.turns σ.turns c c Q (Faulted x) σ refl (record { down = omega arith; paid = omega arith; few = omega (arith, h) }) r

  -- some steps, and there
  pub there : {A : Type 0} → (w j : ℕ) (c c1 : Conf) (a : A) (σ : State) (P : A → State → Conf → Type 0) (Q : Stop → State → Conf → Type 0) → Goes u j c c1 → j ≤ w → P a σ c1 → Arrives w σ.turns c P Q (Gives a σ)
  there w j c c1 a σ P Q g h p = record { conf = c1; steps = j; goes = g.it; cost = record { down = omega arith; paid = omega arith; few = omega (arith, h) }; holds = p }

  pub faulted : {A : Type 0} → (w j : ℕ) (c c1 : Conf) (f : _) (σ : State) (P : A → State → Conf → Type 0) (Q : Stop → State → Conf → Type 0) → Goes u j c c1 → j ≤ w → Q (Faulted f) σ c1 → Arrives w σ.turns c P Q (Stops (Faulted f) σ)
  faulted w j c c1 f σ P Q g h p = record { conf = c1; steps = j; goes = g.it; cost = record { down = omega arith; paid = omega arith; few = omega (arith, h) }; holds = p }

  -- a turn pays for M steps, and a step is taken for it at least
  pub turned : {A : Type 0} → (l j w w' : ℕ) (σ : State) (c c1 : Conf) (P : A → State → Conf → Type 0) (Q : Stop → State → Conf → Type 0) (f : Execution A) → σ.turns ≡ l → Goes u (suc j) c c1 → ending_at c ≡ Some (GoesOn σ.shared.output) → suc j + w ≤ w' + M → ((m : ℕ) → l ≡ suc m → Arrives w m c1 P Q (f (record σ { turns = m }))) → Arrives w' l c P Q (go_on (spent l σ) (λ a. f))
  turned zero j w w' σ c c1 P Q f e g o h next = record { steps = 0; few = omega arith; enough = omega arith; shows = o }
  turned (suc m) j w w' σ c c1 P Q f e g o h next =
      let s = steps_turn u (suc j) c in
      arrives_after (suc j) w w' (suc m) m c c1 P Q (f (record σ { turns = m })) g.it (record { down = omega arith; paid = omega (arith, s); few = omega (arith, h) }) (next m refl)
