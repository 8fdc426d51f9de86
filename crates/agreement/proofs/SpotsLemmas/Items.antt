-- The code of an action notes the places of the spots that its pattern and its statements pass.
use Rattle.std.proofs.Common.{◌≡◌, ℕ, Bool, true, false, List, [], Option, Some, refl, sym, ap, ◌∙◌}
use Rattle.std.specs.Prelude.{if◌then◌else◌}
use Rattle.world_core.specs.WorldState.{Action}
use Rattle.wasm_types.specs.Syntax.{Instructions}
use Rattle.awk_grammar.specs.Trees as item
use Rattle.awk_grammar.specs.Trees.{Pattern, Stmt, Stmts, Block as Actions, Tree}
use Rattle.sem_scripts.specs.Items.{range_open, tested}
use Rattle.sem_scripts.specs.Meaning.{Calls}
use Rattle.mid_program.specs.Mid.{Kind, Slot, Code, Mark, Step, Block, NoStep, Then}
use Rattle.mid_program.specs.MidMeaning.{evaluated, stepped}
use Rattle.sem_scripts.specs.Names.{Scope}
use Rattle.sem_scripts.specs.ScriptState.{Execution, ◌>>=◌, ◌>>◌, give, look, change, with_range}
use Rattle.sem_scripts.specs.Statements.{Flow, Normal, after}
use Rattle.mid_program.specs.Texts.{texts_in, pattern_texts, stmt_texts, stmts_texts}
use Rattle.mid_program.specs.Translation.{steps_code, step_code, where_code}
use Rattle.mid_meaning.proofs.Binding.{assoc, under}
use Rattle.mid_meaning.proofs.Stands.{AllStand, first_part, second_part}
use Rattle.mid_meaning.proofs.Statements.{alone, plainly}
use Rattle.lower_model.specs.Emission.{Layout}
use Rattle.lower_model.specs.Machine.{Notes}
use Rattle.lower_model.specs.Noted.{noted, step_noted, steps_noted}
use Rattle.lower_model.specs.Statements.{steps_emitted}
use Rattle.agreement.specs.Spots.Marked.{Marks, mark, action_marked, opens_marked, closes_marked, where_marked}
use Rattle.agreement.specs.Spots.Places.{Position, aside, met, final, test_in, step_at, position, part_place, if_so, opening_step, closing_step, inside_step, after_pattern, pattern_place}
use Rattle.agreement.specs.Spots.Spots.{Frame, Home, Part, PatternPart, Asked, Unmet, Opening, Already, FirstTest, Opens, StaysClosed, Inside, Entered, LastTest, Closes, StaysOpen, Of, OfPattern}
use Rattle.agreement.proofs.SpotsLemmas.Final.{DoesSo}
use Rattle.agreement.proofs.SpotsLemmas.Statements.{noted_at, met_so, step_so}

either_goes_on : (b : Bool) (m k : Execution (Unit {0})) → ((if b then m else k) >> give Normal) ≡ (if b then (m >> give Normal) else (k >> give Normal))
either_goes_on true m k = refl
either_goes_on false m k = refl

-- what a test decides to do, as a statement
decided : (c : Execution Bool) (m k : Execution (Unit {0})) → (c >>= λ b. if b then (m >> give Normal) else (k >> give Normal)) ≡ ((c >>= λ b. if b then m else k) >> give Normal)
decided c m k =
    sym (assoc c (λ b. if b then m else k) (λ u. give Normal)
    ∙ under c (λ b. (if b then m else k) >> give Normal) (λ b. if b then (m >> give Normal) else (k >> give Normal)) (λ b. either_goes_on b m k))

module _ (notes : Notes) (y : Layout) (slots : Slot → Slot) (texts : List (List ℕ)) (parameters : List (List Kind)) (n : ℕ) (calls : Calls) (scope : Scope) (so : DoesSo slots texts parameters n calls scope) where
  abbrev noting : Step → Position → Execution Flow
  noting s r = noted_at notes y texts parameters n calls s r

  abbrev at : Step → Position → Instructions
  at s r = step_at y slots texts scope s r

  abbrev e : Tree → Code
  e t = test_in y slots texts scope t

  -- a range opens or closes where a test holds
  set_so : (i : ℕ) (t : Tree) (b : Bool) (r : Position) (asks holds fails : List Action → List Action) → AllStand texts (texts_in t) →
      noted notes (at (if_so y slots texts scope (e t) (Mark i b)) r) ≡ mark asks → noted notes (at (Mark i b) (met (e t) r)) ≡ mark holds → noted notes (at (Block NoStep) (aside r)) ≡ mark fails →
      noting (if_so y slots texts scope (e t) (Mark i b)) r ≡ ((mark asks >> tested scope n calls t >>= λ c. if c then (mark holds >> change (with_range i b)) else mark fails) >> give Normal)
  unfolding step_noted steps_noted stepped
  set_so i t b r asks holds fails f asked held failed =
      let on = met_so notes y texts parameters n calls (Mark i b) (e t) r ∙ (λ j. held j >> (change (with_range i b) >> give Normal)) in
      (λ j. asked j >> so.tests t f j >>= λ c. if c then on j else (failed j >> give Normal))
      ∙ (λ j. mark asks >> decided (tested scope n calls t) (mark holds >> change (with_range i b)) (mark fails) j)

  module _ (marks : Marks) (home : Home) (i : ℕ) (ss : Stmts) (stand : AllStand texts (stmts_texts ss)) (q : Position) where
    abbrev pub Placed : Option Pattern → Type 0
    Placed p = (s : Stmt) (part : Part) (w : List Frame) → marks home (Of s part w) ≡ notes (part_place y slots texts scope s part (position y slots texts scope (after_pattern y slots texts scope p q) w))

    abbrev action : Step
    action = final slots (Block (steps_code texts scope ss))

    abbrev pub AskedAt : Option Pattern → Type 0
    AskedAt p = (part : PatternPart) → marks home (OfPattern part) ≡ notes (pattern_place y slots texts scope i p action part q)

    abbrev done : Execution Flow
    done = action_marked marks scope n calls home ss

    -- an action that stands there
    pub action_so : (p : Option Pattern) → Placed p → noting action (after_pattern y slots texts scope p q) ≡ done
    unfolding step_code stmt_texts
    action_so p placed = step_so notes y slots texts parameters n calls scope so (after_pattern y slots texts scope p q) (marks home) placed (Actions ss) stand []

    module _ (t u : Tree) (asked_at : AskedAt (Some (item.Between t u))) where
      asked : (part : PatternPart) → noted notes (pattern_place y slots texts scope i (Some (item.Between t u)) action part q) ≡ mark (marks home (OfPattern part))
      asked part = ap mark (sym (asked_at part))

      abbrev after_opening : Position
      after_opening = record q { after = at (inside_step y slots texts scope i u action) q }

      abbrev closing : Position
      closing = record (aside q) { after = at action (aside q) }

      abbrev asks : PatternPart → List Action → List Action
      asks part = marks home (OfPattern part)

      abbrev first_test : Execution (Unit {0})
      first_test = mark (asks FirstTest) >> tested scope n calls t >>= λ c. if c then (mark (asks Opens) >> change (with_range i true)) else mark (asks StaysClosed)

      opens_so : AllStand texts (texts_in t) → noting (opening_step y slots texts scope i t) after_opening ≡ (opens_marked marks scope n calls home i t >> give Normal)
      unfolding step_noted steps_noted evaluated
      opens_so f =
          (λ j. asked Opening j >> look (range_open i) >>= λ b. if b then (asked Already j >> give Normal) else set_so i t true (aside q) (asks FirstTest) (asks Opens) (asks StaysClosed) f (asked FirstTest) (asked Opens) (asked StaysClosed) j)
          ∙ (λ j. mark (asks Opening) >> decided (look (range_open i)) (mark (asks Already)) first_test j)

      closes_so : AllStand texts (texts_in u) → noting (closing_step y slots texts scope i u) closing ≡ (closes_marked marks scope n calls home i u >> give Normal)
      closes_so f = set_so i u false closing (asks LastTest) (asks Closes) (asks StaysOpen) f (asked LastTest) (asked Closes) (asked StaysOpen)

      inside_so : AllStand texts (texts_in u) → noting action (aside q) ≡ done → noting (inside_step y slots texts scope i u action) q
          ≡ (mark (asks Inside) >> look (range_open i) >>= λ now. if now then (mark (asks Entered) >> closes_marked marks scope n calls home i u >> done) else (mark (asks Unmet) >> give Normal))
      unfolding step_noted steps_noted steps_emitted evaluated
      inside_so f acts =
          (λ j. asked Inside j >> look (range_open i) >>= λ now. if now then (asked Entered j >> (closes_so f j >>= λ flow. after flow (acts j >>= λ flow1. after flow1 (give Normal)))) else (asked Unmet j >> give Normal))
          ∙ (λ j. mark (asks Inside) >> look (range_open i) >>= λ now. if now then (mark (asks Entered) >> ((closes_marked marks scope n calls home i u >> give Normal) >>= λ flow. after flow (alone done j))) else (mark (asks Unmet) >> give Normal))
          ∙ (λ j. mark (asks Inside) >> look (range_open i) >>= λ now. if now then (mark (asks Entered) >> plainly (closes_marked marks scope n calls home i u) done j) else (mark (asks Unmet) >> give Normal))

      abbrev inside : Execution Flow
      inside = mark (asks Inside) >> look (range_open i) >>= λ now. if now then (mark (asks Entered) >> closes_marked marks scope n calls home i u >> done) else (mark (asks Unmet) >> give Normal)

      range_so : AllStand texts (texts_in t) → AllStand texts (texts_in u) → noting action (aside q) ≡ done →
          noting (Block (Then (opening_step y slots texts scope i t) (Then (inside_step y slots texts scope i u action) NoStep))) q ≡ where_marked marks scope n calls home i (item.Between t u) done
      unfolding step_noted steps_noted steps_emitted
      range_so f g acts =
          (λ j. asked Asked j >> (opens_so f j >>= λ flow. after flow (inside_so g acts j >>= λ flow1. after flow1 (give Normal))))
          ∙ (λ j. mark (asks Asked) >> ((opens_marked marks scope n calls home i t >> give Normal) >>= λ flow. after flow (alone inside j)))
          ∙ (λ j. mark (asks Asked) >> plainly (opens_marked marks scope n calls home i t) inside j)

    -- an action where its pattern is met
    pub where_so : (p : Pattern) → Placed (Some p) → AskedAt (Some p) → AllStand texts (pattern_texts p) → noting (final slots (where_code texts scope i p (Block (steps_code texts scope ss)))) q ≡ where_marked marks scope n calls home i p done
    unfolding step_noted steps_noted
    where_so (item.One t) placed asked_at f =
        let there = met_so notes y texts parameters n calls action (e t) q ∙ action_so (Some (item.One t)) placed in
        λ j. ap mark (sym (asked_at Asked)) j >> so.tests t f j >>= λ b. if b then there j else (ap mark (sym (asked_at Unmet)) j >> give Normal)
    where_so (item.Between t u) placed asked_at f =
        range_so t u asked_at (first_part texts (texts_in t) (texts_in u) f) (second_part texts (texts_in t) (texts_in u) f) (action_so (Some (item.Between t u)) placed)
