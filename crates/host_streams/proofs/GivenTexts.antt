-- What was given where a text was put to a stream that is open, or to a name that was opened.
use Rattle.std.proofs.Common.{◌≡◌, ◌≢◌, ◌∙◌, inl, inr, ℕ, suc, ◌==◌, List, [], ◌∷◌, ◌++◌, map, take, Bool, true, false, cond, Result, Ok, Err, refl, sym, ap, subst, arith}
use Rattle.std.proofs.lemmas.Bool.{eq-eqb, ne_eqb}
use Rattle.std.proofs.lemmas.List.{take_all}
use Rattle.awk_values.specs.declared.fault.Fault.{Fault}
use Rattle.awk_values.specs.declared.fault.Fault.TheVariants.{WriteFailed}
use Rattle.awk_values.specs.declared.fault.Stop.{Stop}
use Rattle.awk_values.specs.declared.fault.Stop.TheVariants.{Fault as IsFault, NoMemory as OutOfMemory}
use Rattle.world_core.specs.WorldState.{Action, Named, Open, Outside, State, Target, after, puts}
use Rattle.world_core.specs.Calls.{Closed, Kind, OpensWriter, Writing}
use Rattle.world_core.specs.Traces.{Call, Opened, Other, Targets, next_targets}
use Rattle.world_core.specs.TraceParts.{targets_after}
use Rattle.sem_primitives.specs.Finds.{seen}
use Rattle.sem_primitives.specs.OutputMeaning.{opened_if, then_written, written}
use Rattle.sem_primitives.specs.SharedState.{HostResult, Shared}
use Rattle.host_streams.specs.declared.streams.NamedWriter.{NamedWriter}
use Rattle.host_streams.specs.Given.{AreNamed, AreTargets, Gives, GivesNone, GivesText, IsOutput, PutsGiven, PutsNew, PutsSize, SizeIs}
use Rattle.host_streams.specs.OpenFiles.{AreOpen, WritersGo, writer_handle}
use Rattle.host_streams.specs.Puts.{EndsPut, IsOver, OpensOr, PutFault}
use Rattle.host_streams.specs.Readers.{coming}
use Rattle.host_streams.proofs.Given.{makes_last, none_one, none_still}
use Rattle.host_streams.proofs.Outputs.{opened_in, other_number, over_opened}
use Rattle.host_streams.proofs.Writing.{seen_over}

-- the same output

pub out_as : {A : Type 0} (r : Result A Stop) (xs ys : List Action) (d e : HostResult (Result (Unit {0}) Fault)) → xs ≡ ys → d.added ≡ e.added
    → IsOutput xs d r → IsOutput ys e r
out_as (Ok x) xs ys d e same added h = sym same ∙ h ∙ added
out_as (Err (IsFault fault)) xs ys d e same added h = sym same ∙ h ∙ added
out_as (Err OutOfMemory) xs ys d e same added h = (h.0, sym same ∙ h.1 ∙ ap (take h.0) added)

out_stop : (A B : Type 0) (stop : Stop) (xs : List Action) (d : HostResult (Result (Unit {0}) Fault)) → IsOutput {A = A} xs d (Err stop)
    → IsOutput {A = B} xs d (Err stop)
out_stop A B (IsFault fault) xs d h = h
out_stop A B OutOfMemory xs d h = h

-- an opening before it
out_after : {A : Type 0} (r : Result A Stop) (a : Action) (name : List ℕ) (xs : List Action) (d : HostResult (Result (Unit {0}) Fault)) → IsOutput xs d r
    → IsOutput (a ∷ xs) (then_written a name d) r
out_after (Ok x) a name xs d h = ap (λ ys. a ∷ ys) h
out_after (Err (IsFault fault)) a name xs d h = ap (λ ys. a ∷ ys) h
out_after (Err OutOfMemory) a name xs d h = (suc h.0, ap (λ ys. a ∷ ys) h.1)

-- what was given of a text

gives_text : {A : Type 0} (opening : List Action) (target : Target) (text : List ℕ) (size : ℕ) (r : Result A Stop) → SizeIs text size r
    → EndsPut true true text r → GivesText opening target text r (opening ++ puts target (take size text))
gives_text opening target text size (Ok x) is ends = ap (λ xs. opening ++ puts target xs) (take_all size text (omega (arith, is)))
gives_text {A = A} opening target text size (Err (IsFault fault)) is ends = by fault ends
  where
    by : (f : Fault) → PutFault true true text f → GivesText {A = A} opening target text (Err (IsFault f)) (opening ++ puts target (take size text))
    by WriteFailed h = (size, is, refl)
    by f h = absurd h
gives_text opening target text size (Err OutOfMemory) is ends = inr (size, omega (arith, is), refl)

text_stop : (A B : Type 0) (opening : List Action) (target : Target) (text : List ℕ) (stop : Stop) (xs : List Action)
    → GivesText {A = A} opening target text (Err stop) xs → GivesText {A = B} opening target text (Err stop) xs
text_stop A B opening target text (IsFault fault) xs h = by fault h
  where
    by : (f : Fault) → GivesText {A = A} opening target text (Err (IsFault f)) xs → GivesText {A = B} opening target text (Err (IsFault f)) xs
    by WriteFailed h = h
    by f h = h
text_stop A B opening target text OutOfMemory xs h = h

-- Where the streams go.

pub named_stay : (kinds : ℕ → Kind) (ws : List NamedWriter) (t u : Targets) → AreOpen Writing (map writer_handle ws) kinds → ((k : ℕ) → kinds k ≢ Closed
    → u k ≡ t k) → AreNamed ws t → AreNamed ws u
named_stay kinds [] t u h stay are = tt
named_stay kinds (w ∷ ws) t u h stay are = (stay w.id (λ closed. cc (sym h.1 ∙ closed)) ∙ are.0, named_stay kinds ws t u h.3 stay are.1)

pub targets_stay : (kinds : ℕ → Kind) (ws : List NamedWriter) (t u : Targets) → kinds 1 ≡ Writing → AreOpen Writing (map writer_handle ws) kinds
    → ((k : ℕ) → kinds k ≢ Closed → u k ≡ t k) → AreTargets ws t → AreTargets ws u
targets_stay kinds ws t u output h stay are = record {
  standard = stay 1 (λ closed. cc (sym output ∙ closed)) ∙ are.standard;
  named = named_stay kinds ws t u h stay are.named;
}

named_last : (w : NamedWriter) (ws : List NamedWriter) (t : Targets) → AreNamed ws t → t w.id ≡ Named w.name → AreNamed (ws ++ w ∷ []) t
named_last w [] t are is = (is, tt)
named_last w (x ∷ xs) t are is = (are.0, named_last w xs t are.1 is)

pub targets_last : (w : NamedWriter) (ws : List NamedWriter) (t : Targets) → AreTargets ws t → t w.id ≡ Named w.name → AreTargets (ws ++ w ∷ []) t
targets_last w ws t are is = record { standard = are.standard; named = named_last w ws t are.named is }

-- as a state has it
pub named_go : (ws : List NamedWriter) (t : Targets) → AreNamed ws t → WritersGo ws (record coming { writers = t })
named_go [] t are = tt
named_go (w ∷ ws) t are = (are.0, named_go ws t are.1)

-- nothing that was given moves the streams
pub gives_still : {W : Type 0} (did : W → Call → W → Type 0) (old new : W) (ws : List NamedWriter) → GivesNone did old new → Gives did old new ws ws []
gives_still did old new ws none = record {
  calls = none.calls;
  made = none.made;
  gives = λ targets are. none.gives targets;
  left = λ targets are. subst (AreTargets ws) (sym (none.same targets)) are;
}

-- A text is put to a stream that is open.
pub open_given : {W : Type 0} (tells : Type 0) (did : W → Call → W
    → Type 0) (old new : W) (ws : List NamedWriter) (id : ℕ) (target : Target) (text : List ℕ) (before now : State) (r : Result (Unit {0}) Stop)
    (over : Shared → Type 0)
    (does : Shared → HostResult (Result (Unit {0}) Fault)) → PutsSize tells did old new id text before now r → EndsPut true true text r
    → ((targets : Targets) → AreTargets ws targets → targets id ≡ target) → (tells → before.writers id ≡ target)
    → (tells → (shared : Shared) → over shared → IsOver before shared × ((written target text shared).added ≡ (does shared).added))
    → PutsGiven tells did old new ws ws (GivesText [] target text r) before now r over does
open_given tells did old new ws id target text before now r over does p ends goes told_goes same = record {
  actions = puts target (take p.size text);
  given = record {
    calls = p.made.calls;
    made = p.made.made;
    gives = λ targets are. p.made.gives targets ∙ ap (λ (t : Target). puts t (take p.size text)) (goes targets are);
    left = λ targets are. subst (AreTargets ws) (sym (p.made.same targets)) are;
  };
  is = gives_text [] target text p.size r p.is ends;
  told = λ tells shared is.
      let s = same tells shared is in
      out_as r (puts (before.writers id) (take p.size text)) (puts target (take p.size text)) (written (before.writers id) text shared) (does shared)
      (ap (λ (t : Target). puts t (take p.size text)) (told_goes tells)) (ap (λ (t : Target). (written t text shared).added) (told_goes tells)
      ∙ s.1) (p.told tells shared s.0);
  outside = λ tells. p.outside tells ∙ ap (λ (t : Target). after (puts t (take p.size text)) before.outside) (told_goes tells);
}

-- A name was opened, as a stream that was closed.
module _ {W : Type 0} (tells : Type 0) (did : W → Call → W → Type 0) (old opened : W) (kinds : ℕ
    → Kind) (name : List ℕ) (append : Bool) (id : ℕ) (text : List ℕ) (before middle : State)
    (made : did old (Opened name append id) opened) (was : kinds id ≡ Closed) (told : tells → OpensWriter name append id before middle) where
  next : Targets → Targets
  next targets = λ k. cond (k == id) (Named name) (targets k)

  next_goes : (targets : Targets) → next targets id ≡ Named name
  unfolding next
  next_goes targets = ap (λ (b : Bool). cond b (Named name) (targets id)) (eq-eqb id id refl)

  next_stays : (targets : Targets) (k : ℕ) → kinds k ≢ Closed → next targets k ≡ targets k
  unfolding next
  next_stays targets k is = ap (λ (b : Bool). cond b (Named name) (targets k)) (ne_eqb k id (other_number kinds k id was is))

  next_is : (targets : Targets) → next_targets (Opened name append id) targets ≡ next targets
  unfolding next
  next_is targets = refl

  -- its output, and the outside after it
  new_told : {A : Type 0} (r : Result A Stop) (size : ℕ) (shared : Shared) → tells → IsOver before shared →
      IsOutput (puts (middle.writers id) (take size text)) (written (middle.writers id) text (opened_in name append shared)) r →
      IsOutput (Open name append ∷ puts (Named name) (take size text)) (opened_if true (seen shared.inner shared.outside
      (Named name)).opens name append text shared) r
  new_told r size shared is over h =
      let o = told is in
      subst (λ (b : Bool). IsOutput (Open name append ∷ puts (Named name) (take size text)) (opened_if true b name append text shared) r) (sym (ap (λ
      (f : Outside). (f (Named name)).opens) (seen_over before shared over) ∙ o.opens))
      (out_after r (Open name append) name (puts (Named name) (take size text)) (written (Named name) text (opened_in name append shared))
      (subst (λ (t : Target). IsOutput (puts t (take size text)) (written t text (opened_in name append shared)) r) o.writer h))

  new_outside : (size : ℕ) (now : State) → tells → now.outside ≡ after (puts (middle.writers id) (take size text)) middle.outside
      → now.outside ≡ after (Open name append ∷ puts (Named name) (take size text)) before.outside
  new_outside size now is h =
      h ∙ ap (λ (t : Target). after (puts t (take size text)) middle.outside) (told is).writer
      ∙ ap (after (puts (Named name) (take size text))) (told is).outside

  pub new_given : (new : W) (now later : State) → PutsSize tells did opened new id text middle now (Ok tt)
      → EndsPut {A = Unit {0}} true true text (Ok tt) → (tells → later.outside ≡ now.outside) →
      PutsNew tells did old new kinds name (GivesText (Open name append ∷ []) (Named name) text (Ok id)) before later (Ok id) (λ shared. opened_if true
      (seen shared.inner shared.outside (Named name)).opens name append text shared)
  new_given new now later p ends same = record {
    calls = Opened name append id ∷ p.made.calls;
    made = (opened, made, p.made.made);
    actions = Open name append ∷ puts (Named name) (take p.size text);
    gives = λ targets. ap (λ (xs : List Action). Open name append ∷ xs) (p.made.gives (next_targets (Opened name append id) targets)
        ∙ ap (λ (t : Target). puts t (take p.size text)) (ap (λ (f : Targets). f id) (next_is targets) ∙ next_goes targets));
    stay = λ targets k is. ap (λ (f : Targets). f k) (p.made.same (next_targets (Opened name append id) targets) ∙ next_is targets) ∙ next_stays targets k is;
    goes = λ targets. ap (λ (f : Targets). f id) (p.made.same (next_targets (Opened name append id) targets) ∙ next_is targets) ∙ next_goes targets;
    text = gives_text {A = Unit {0}} (Open name append ∷ []) (Named name) text p.size (Ok tt) p.is ends;
    told = λ is shared over. new_told (Ok id) p.size shared is over (p.told is (opened_in name append shared)
        (over_opened name append id shared before middle over (told is)));
    outside = λ is. new_outside p.size later is (same is ∙ p.outside is);
  }

  -- not all of it went out, and the stream was closed
  pub new_failed : (new closed : W) (now later : State) (stop : Stop) → PutsSize tells did opened new id text middle now (Err stop)
      → EndsPut {A = Unit {0}} true true text (Err stop) → did new Other closed → (tells → later.outside ≡ now.outside) →
      PutsNew tells did old closed kinds name (GivesText {A = ℕ} (Open name append ∷ []) (Named name) text (Err stop)) before later (Err stop)
      (λ shared. opened_if true (seen shared.inner shared.outside (Named name)).opens name append text shared)
  new_failed new closed now later stop p ends shut same =
      let both = makes_last did opened new closed (λ targets. puts (targets id) (take p.size text)) p.made (none_one did new closed shut) in record {
        calls = Opened name append id ∷ both.calls;
        made = (opened, made, both.made);
        actions = Open name append ∷ puts (Named name) (take p.size text);
        gives = λ targets. ap (λ (xs : List Action). Open name append ∷ xs) (both.gives (next_targets (Opened name append id) targets)
            ∙ ap (λ (t : Target). puts t (take p.size text)) (ap (λ (f : Targets). f id) (next_is targets) ∙ next_goes targets));
        stay = λ targets k is. ap (λ (f : Targets). f k) (both.same (next_targets (Opened name append id) targets) ∙ next_is targets) ∙ next_stays targets k is;
        goes = λ targets. tt;
        text = text_stop (Unit {0}) ℕ (Open name append ∷ []) (Named name) text stop _ (gives_text {A = Unit {0}} (Open name append ∷ [])
            (Named name) text p.size (Err stop) p.is ends);
        told = λ is shared over. out_stop (Unit {0}) ℕ stop (Open name append ∷ puts (Named name) (take p.size text))
            (opened_if true (seen shared.inner shared.outside (Named name)).opens name append text shared) (new_told {A = Unit {0}} (Err stop) p.size shared is over (p.told is
            (opened_in name append shared) (over_opened name append id shared before middle over (told is))));
        outside = λ is. new_outside p.size later is (same is ∙ p.outside is);
      }

-- A name did not open.

shut_text : (opening : List Action) (target : Target) (text : List ℕ) (stop : Stop) → EndsPut {A = ℕ} false true [] (Err stop)
    → GivesText {A = ℕ} opening target text (Err stop) []
shut_text opening target text (IsFault fault) ends = by fault ends
  where
    by : (f : Fault) → PutFault false true [] f → GivesText {A = ℕ} opening target text (Err (IsFault f)) []
    by WriteFailed h = absurd (omega (arith, h))
    by f h = refl
shut_text opening target text OutOfMemory ends = inl refl

shut_told : (name : List ℕ) (append : Bool) (text : List ℕ) (stop : Stop) (before now : State) (shared : Shared) → IsOver before shared
    → OpensOr name append before (Err stop) now →
    IsOutput {A = ℕ} [] (opened_if true (seen shared.inner shared.outside (Named name)).opens name append text shared) (Err stop)
shut_told name append text (IsFault fault) before now shared over o =
    ap (λ (b : Bool). (opened_if true b name append text shared).added) (sym (ap (λ (f : Outside). (f (Named name)).opens) (seen_over before shared over)
    ∙ o.2))
shut_told name append text OutOfMemory before now shared over o = (0, refl)

shut_outside : (name : List ℕ) (append : Bool) (stop : Stop) (before now : State) → OpensOr name append before (Err stop) now → now.outside ≡ before.outside
shut_outside name append (IsFault fault) before now o = ap (λ (s : State). s.outside) o.0
shut_outside name append OutOfMemory before now o = ap (λ (s : State). s.outside) o

pub shut_given : {W : Type 0} (tells : Type 0) (did : W → Call → W → Type 0) (old new : W) (kinds : ℕ
    → Kind) (name : List ℕ) (append : Bool) (text : List ℕ) (before now : State) (stop : Stop) → did old Other new → EndsPut {A = ℕ} false true [] (Err stop)
    → (tells → OpensOr name append before (Err stop) now)
    → PutsNew tells did old new kinds name (GivesText {A = ℕ} (Open name append ∷ []) (Named name) text (Err stop)) before now (Err stop)
    (λ shared. opened_if true (seen shared.inner shared.outside (Named name)).opens name append text shared)
shut_given tells did old new kinds name append text before now stop made ends told = record {
  calls = Other ∷ [];
  made = (new, made, refl);
  actions = [];
  gives = λ targets. refl;
  stay = λ targets k is. refl;
  goes = λ targets. tt;
  text = shut_text (Open name append ∷ []) (Named name) text stop ends;
  told = λ is shared over. shut_told name append text stop before now shared over (told is);
  outside = λ is. shut_outside name append stop before now (told is);
}

-- Nothing was opened.

pub none_given : {W : Type 0} (tells : Type 0) (did : W → Call → W → Type 0) (w : W) (ws : List NamedWriter) (text : List Action
    → Type 0) (before : State) (r : Result (Unit {0}) Stop) (over : Shared → Type 0) (does : Shared → HostResult (Result (Unit {0}) Fault))
    → text [] → (tells → (shared : Shared) → over shared → IsOutput [] (does shared) r) → PutsGiven tells did w w ws ws text before before r over does
none_given tells did w ws text before r over does is told = record {
  actions = [];
  given = gives_still did w w ws (none_still did w);
  is = is;
  told = told;
  outside = λ tells. refl;
}

-- A name that was not open was put to.

pub first_given : {W : Type 0} (tells : Type 0) (did : W → Call → W → Type 0) (old new : W) (kinds : ℕ
    → Kind) (ws : List NamedWriter) (w : NamedWriter) (name : List ℕ) (opening : List Action) (text : List ℕ) (id : ℕ) (before now : State)
    (over : Shared → Type 0) (does does' : Shared → HostResult (Result (Unit {0}) Fault)) → kinds 1 ≡ Writing
    → AreOpen Writing (map writer_handle ws) kinds → w.name ≡ name → w.id ≡ id
    → (tells → (shared : Shared) → over shared → IsOver before shared × ((does shared).added ≡ (does' shared).added))
    → PutsNew tells did old new kinds name (GivesText opening (Named name) text (Ok id)) before now (Ok id) does
    → PutsGiven tells did old new ws (ws ++ w ∷ []) (GivesText {A = Unit {0}} opening (Named name) text (Ok tt)) before now (Ok tt) over does'
first_given tells did old new kinds ws w name opening text id before now over does does' output held named number same p = record {
  actions = p.actions;
  given = record {
    calls = p.calls;
    made = p.made;
    gives = λ targets are. p.gives targets;
    left = λ targets are.
        let after = targets_after p.calls targets in
        targets_last w ws after (targets_stay kinds ws targets after output held (p.stay targets) are) (ap after number ∙ p.goes targets
        ∙ ap Named (sym named));
  };
  is = p.text;
  told = λ tells shared is. let s = same tells shared is in p.told tells shared s.0 ∙ s.1;
  outside = p.outside;
}

pub first_failed : {W : Type 0} (tells : Type 0) (did : W → Call → W → Type 0) (old new : W) (kinds : ℕ
    → Kind) (ws : List NamedWriter) (name : List ℕ) (opening : List Action) (text : List ℕ) (stop : Stop) (before now : State)
    (over : Shared → Type 0) (does does' : Shared → HostResult (Result (Unit {0}) Fault)) → kinds 1 ≡ Writing → AreOpen Writing (map writer_handle ws) kinds
    → (tells → (shared : Shared) → over shared → IsOver before shared × ((does shared).added ≡ (does' shared).added))
    → PutsNew tells did old new kinds name (GivesText {A = ℕ} opening (Named name) text (Err stop)) before now (Err stop) does
    → PutsGiven tells did old new ws ws (GivesText {A = Unit {0}} opening (Named name) text (Err stop)) before now (Err stop) over does'
first_failed tells did old new kinds ws name opening text stop before now over does does' output held same p = record {
  actions = p.actions;
  given = record {
    calls = p.calls;
    made = p.made;
    gives = λ targets are. p.gives targets;
    left = λ targets are. targets_stay kinds ws targets (targets_after p.calls targets) output held (p.stay targets) are;
  };
  is = text_stop ℕ (Unit {0}) opening (Named name) text stop p.actions p.text;
  told = λ tells shared is.
      let s = same tells shared is in
      out_as {A = Unit {0}} (Err stop) p.actions p.actions (does shared) (does' shared) refl s.1 (out_stop ℕ (Unit {0}) stop p.actions (does shared)
      (p.told tells shared s.0));
  outside = p.outside;
}

-- the same of what is to be done, where it is told otherwise
pub given_as : {W : Type 0} (tells : Type 0) (did : W → Call → W
    → Type 0) (old new : W) (ws vs : List NamedWriter) (opening opening' : List Action) (target : Target) (text : List ℕ) (before now : State) (r : Result
    (Unit {0}) Stop) (over : Shared → Type 0)
    (does does' : Shared → HostResult (Result (Unit {0}) Fault)) → opening ≡ opening' → (tells → (shared : Shared) → over shared
    → (does shared).added ≡ (does' shared).added)
    → PutsGiven tells did old new ws vs (GivesText opening target text r) before now r over does
    → PutsGiven tells did old new ws vs (GivesText opening' target text r) before now r over does'
given_as tells did old new ws vs opening opening' target text before now r over does does' same alike p = record {
  actions = p.actions;
  given = p.given;
  is = subst (λ (front : List Action). GivesText front target text r p.actions) same p.is;
  told = λ tells shared is. out_as r p.actions p.actions (does shared) (does' shared) refl (alike tells shared is) (p.told tells shared is);
  outside = p.outside;
}
