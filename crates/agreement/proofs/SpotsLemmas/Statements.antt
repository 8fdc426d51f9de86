-- The code of a statement notes the places of the spots that the statement passes.
use Rattle.std.proofs.Common.{◌≡◌, ℕ, suc, Bool, true, false, List, ◌∷◌, ◌++◌, Option, Some, None, refl, sym, ap, ◌∙◌}
use Rattle.std.specs.Prelude.{if◌then◌else◌, is_some}
use Rattle.world_core.specs.WorldState.{Action}
use Rattle.sem_primitives.specs.declared.table.Primitive.TheVariants as row
use Rattle.awk_grammar.specs.Trees as stmt
use Rattle.awk_grammar.specs.Trees.{Stmt, Stmts, NoStmt, And, Tree}
use Rattle.wasm_types.specs.Syntax.{Instructions, Done}
use Rattle.wasm_types.specs.declared.instr.Simple.TheVariants.{Br}
use Rattle.sem_scripts.specs.Meaning.{Calls}
use Rattle.mid_program.specs.Mid.{Kind, Slot, Code, End, Step, Eval, Block, Steps, NoStep}
use Rattle.mid_program.specs.MidMeaning.{all_evaluated, evaluated, stepped}
use Rattle.sem_scripts.specs.Names.{Scope, array_of, variable_of}
use Rattle.sem_scripts.specs.ScriptState.{Execution, ◌>>=◌, ◌>>◌, give, nothing, stop, Nexted, call}
use Rattle.sem_scripts.specs.Statements.{Flow, Normal, after, after_round, loop, over_keys, maybe_test, plain_done, maybe_done, done_by}
use Rattle.sem_scripts.specs.Steps.{array_number}
use Rattle.mid_program.specs.Texts.{texts_in, maybe_texts, maybe_plain_texts, plain_texts, stmt_texts, stmts_texts}
use Rattle.mid_program.specs.Translation.{host, plain_step, maybe_step, step_code, steps_code}
use Rattle.mid_meaning.proofs.Stands.{AllStand, first_part, second_part}
use Rattle.mid_meaning.proofs.Statements.{alone, plainly, quietly}
use Rattle.lower_model.specs.Emission.{Layout}
use Rattle.lower_model.specs.Machine.{Notes}
use Rattle.lower_model.specs.Noted.{noted, step_noted, steps_noted}
use Rattle.lower_model.specs.Quick.{is_nothing, pair_in, step_jumps}
use Rattle.lower_model.specs.Small.{emit as instruction}
use Rattle.lower_model.specs.Statements.{steps_emitted}
use Rattle.agreement.specs.Spots.Marked.{mark, between_marked, done_marked, all_marked}
use Rattle.agreement.specs.Spots.Places.{Position, aside, met, at_end, in_block, final, final_steps, test_in, step_of, step_at, back, round, loop_of, position, part_place}
use Rattle.agreement.specs.Spots.Spots.{Frame, Before, Within, AfterElse, Part, Whole, First, Looping, Between, Testing, Unless, GivesUp, Leaves, StatementPath, Of}
use Rattle.agreement.proofs.SpotsLemmas.Final.{DoesSo, maybe_tests}

-- at one of two positions
pub chosen_at : {A : Type 0} (F : Position → A) (b : Bool) (p q : Position) → (if b then F p else F q) ≡ F (if b then p else q)
chosen_at F true p q = refl
chosen_at F false p q = refl

module _ (y : Layout) (slots : Slot → Slot) (texts : List (List ℕ)) (scope : Scope) where
  pub something : (p : stmt.Plain) → is_nothing (final slots (plain_step texts scope p)) ≡ false
  something (stmt.Eval t) = refl
  something (stmt.Put p args t) = refl
  something (stmt.Delete a ts) = refl
  something (stmt.Clear a) = refl

-- what gives up the rest of the main input
given_up : (slots : Slot → Slot) (texts : List (List ℕ)) (parameters : List (List Kind)) (n : ℕ) (calls : Calls) →
    stepped texts parameters n calls (final slots (Eval (host row.NextFile End))) ≡ (call row.NextFile tt >> give Normal)
unfolding evaluated all_evaluated stepped
given_up slots texts parameters n calls = refl

module _ (notes : Notes) (y : Layout) (texts : List (List ℕ)) (parameters : List (List Kind)) (n : ℕ) (calls : Calls) where
  -- a step with notes, at a position
  abbrev pub noted_at : Step → Position → Execution Flow
  noted_at s p = step_noted notes y texts parameters n calls s p.iterators p.out p.breaking p.continuing p.after

  -- where a test holds
  abbrev pub noted_if : Step → Code → Position → Execution Flow
  noted_if s e p =
      if is_some (pair_in e)
      then step_noted notes y texts parameters n calls s p.iterators (suc (suc p.out)) (suc (suc p.breaking)) (suc (suc p.continuing)) (instruction (Br 1) Done)
      else noted_at s (aside p)

  pub met_so : (s : Step) (e : Code) (p : Position) → noted_if s e p ≡ noted_at s (met e p)
  met_so s e p =
      chosen_at (noted_at s) (is_some (pair_in e)) (record { iterators = p.iterators; out = suc (suc p.out); breaking = suc (suc p.breaking); continuing = suc (suc p.continuing); after = instruction (Br 1) Done }) (aside p)

module _ (notes : Notes) (y : Layout) (slots : Slot → Slot) (texts : List (List ℕ)) (parameters : List (List Kind)) (n : ℕ) (calls : Calls) (scope : Scope) (so : DoesSo slots texts parameters n calls scope)
    (start : Position) (marks : StatementPath → List Action → List Action) (placed : (s : Stmt) (part : Part) (w : List Frame) → marks (Of s part w) ≡ notes (part_place y slots texts scope s part (position y slots texts scope start w))) where
  abbrev at : List Frame → Position
  at w = position y slots texts scope start w

  abbrev noting : Step → Position → Execution Flow
  noting s p = noted_at notes y texts parameters n calls s p

  abbrev all_noted_at : Steps → Position → Execution Flow
  all_noted_at ss p = steps_noted notes y texts parameters n calls ss p.iterators p.out p.breaking p.continuing p.after

  -- A spot is passed where its place is noted.
  pub passes : (s : Stmt) (part : Part) (w : List Frame) → noted notes (part_place y slots texts scope s part (at w)) ≡ mark (marks (Of s part w))
  passes s part w = ap mark (sym (placed s part w))

  abbrev rest : Step → Position → Instructions
  rest b p = if is_nothing b then back y slots texts scope else step_at y slots texts scope b (at_end (back y slots texts scope) p)

  round_so : (a b : Step) (p : Position) → (if step_jumps a then noting a (in_block p) else noting a (at_end (rest b p) p)) ≡ noting a (round y slots texts scope a b p)
  round_so a b p = chosen_at (noting a) (step_jumps a) (in_block p) (at_end (rest b p) p)

  -- Plain statements.

  plain_so : (p : stmt.Plain) → AllStand texts (plain_texts p) → (q : Position) →
      noting (final slots (plain_step texts scope p)) q ≡ (noted notes (step_at y slots texts scope (final slots (plain_step texts scope p)) q) >> (plain_done scope n calls p >> give Normal))
  unfolding step_noted done_by step_code stmt_texts
  plain_so (stmt.Eval t) f q = λ i. noted notes (step_at y slots texts scope (final slots (plain_step texts scope (stmt.Eval t))) q) >> so.statements (stmt.Simple (stmt.Eval t)) f i
  plain_so (stmt.Put p args t) f q = λ i. noted notes (step_at y slots texts scope (final slots (plain_step texts scope (stmt.Put p args t))) q) >> so.statements (stmt.Simple (stmt.Put p args t)) f i
  plain_so (stmt.Delete a ts) f q = λ i. noted notes (step_at y slots texts scope (final slots (plain_step texts scope (stmt.Delete a ts))) q) >> so.statements (stmt.Simple (stmt.Delete a ts)) f i
  plain_so (stmt.Clear a) f q = λ i. noted notes (step_at y slots texts scope (final slots (plain_step texts scope (stmt.Clear a))) q) >> so.statements (stmt.Simple (stmt.Clear a)) f i

  maybe_so : (p : Option stmt.Plain) → AllStand texts (maybe_plain_texts p) → (q : Position) →
      noting (final slots (maybe_step texts scope p)) q ≡ (noted notes (step_at y slots texts scope (final slots (maybe_step texts scope p)) q) >> (maybe_done scope n calls p >> give Normal))
  unfolding step_noted steps_noted
  maybe_so None f q = refl
  maybe_so (Some p) f q = plain_so p f q

  -- what a `for` does between its rounds
  between_so : (i : Option stmt.Plain) (c : Option Tree) (p : Option stmt.Plain) (s : Stmt) → AllStand texts (maybe_plain_texts p) → (w : List Frame) →
      (if is_nothing (final slots (maybe_step texts scope p)) then nothing else (noting (final slots (maybe_step texts scope p)) (at_end (back y slots texts scope) (at w)) >> nothing)) ≡ between_marked marks scope n calls (stmt.For i c p s) p w
  between_so i c None s f w = refl
  between_so i c (Some p) s f w =
      ap (λ (b : Bool). if b then nothing else (noting (final slots (plain_step texts scope p)) (at_end (back y slots texts scope) (at w)) >> nothing)) (something y slots texts scope p)
      ∙ (λ j. plain_so p f (at_end (back y slots texts scope) (at w)) j >> nothing)
      ∙ quietly (noted notes (step_at y slots texts scope (final slots (plain_step texts scope p)) (at_end (back y slots texts scope) (at w))) >> plain_done scope n calls p)
      ∙ (λ j. passes (stmt.For i c (Some p) s) Between w j >> plain_done scope n calls p)

  mutual
    unfolding step_noted steps_noted steps_emitted done_marked all_marked done_by step_code steps_code stmt_texts stmts_texts

    -- a statement that stands there
    pub step_so : (s : Stmt) → AllStand texts (stmt_texts s) → (w : List Frame) → noting (step_of y slots texts scope s) (at w) ≡ done_marked marks scope n calls s w
    step_so (stmt.Block ss) f w = λ j. passes (stmt.Block ss) Whole w j >> steps_so ss f w j
    step_so stmt.Empty f w = λ j. passes stmt.Empty Whole w j >> give Normal
    step_so (stmt.Simple p) f w = plain_so p f (at w) ∙ (λ j. passes (stmt.Simple p) Whole w j >> (plain_done scope n calls p >> give Normal))
    step_so (stmt.If c s) f w =
        let g = second_part texts (texts_in c) (stmt_texts s) f in
        let yes = met_so notes y texts parameters n calls (step_of y slots texts scope s) (test_in y slots texts scope c) (at w) ∙ step_so s g (Within (stmt.If c s) ∷ w) in
        λ j. passes (stmt.If c s) Whole w j >> so.tests c (first_part texts (texts_in c) (stmt_texts s) f) j >>= λ b. if b then yes j else (passes (stmt.If c s) Unless w j >> give Normal)
    step_so (stmt.IfElse c s t) f w =
        let g = second_part texts (texts_in c) (stmt_texts s ++ stmt_texts t) f in
        let yes = met_so notes y texts parameters n calls (step_of y slots texts scope s) (test_in y slots texts scope c) (at w) ∙ step_so s (first_part texts (stmt_texts s) (stmt_texts t) g) (Within (stmt.IfElse c s t) ∷ w) in
        let no = step_so t (second_part texts (stmt_texts s) (stmt_texts t) g) (AfterElse (stmt.IfElse c s t) ∷ w) in
        λ j. passes (stmt.IfElse c s t) Whole w j >> so.tests c (first_part texts (texts_in c) (stmt_texts s ++ stmt_texts t) f) j >>= λ b. if b then yes j else no j
    step_so (stmt.While c s) f w =
        let body = round_so (step_of y slots texts scope s) (Block NoStep) (at w) ∙ step_so s (second_part texts (texts_in c) (stmt_texts s) f) (Within (stmt.While c s) ∷ w) in
        λ j. passes (stmt.While c s) Whole w j >> loop n (so.tests c (first_part texts (texts_in c) (stmt_texts s) f) j) (body j) nothing
    step_so (stmt.Do s c) f w =
        let body = step_so s (first_part texts (stmt_texts s) (texts_in c) f) (Within (stmt.Do s c) ∷ w) in
        let test = so.tests c (second_part texts (stmt_texts s) (texts_in c) f) in
        let at_test = passes (stmt.Do s c) Testing w in
        let between = passes (stmt.Do s c) Between w in
        λ j. passes (stmt.Do s c) Whole w j >> body j >>= λ flow. after_round flow (between j >> loop n (at_test j >> test j) (body j) (between j))
    step_so (stmt.For i c p s) f w =
        let g = second_part texts (maybe_plain_texts i) (maybe_texts c ++ (maybe_plain_texts p ++ stmt_texts s)) f in
        let h = second_part texts (maybe_texts c) (maybe_plain_texts p ++ stmt_texts s) g in
        let whole = stmt.For i c p s in
        let body = round_so (step_of y slots texts scope s) (final slots (maybe_step texts scope p)) (at w) ∙ step_so s (second_part texts (maybe_plain_texts p) (stmt_texts s) h) (Within whole ∷ w) in
        let rounds = loop n (maybe_test scope n calls c) (done_marked marks scope n calls s (Within whole ∷ w)) (between_marked marks scope n calls whole p w) in
        let before = mark (marks (Of whole First w)) >> maybe_done scope n calls i in
        (λ j. passes whole Whole w j >> (maybe_so i (first_part texts (maybe_plain_texts i) (maybe_texts c ++ (maybe_plain_texts p ++ stmt_texts s)) f) (record (at w) { after = step_at y slots texts scope (loop_of y slots texts scope c p s) (at w) }) j
        >>= λ flow. after flow ((passes whole Looping w j >> loop n (maybe_tests slots texts parameters n calls scope so c (first_part texts (maybe_texts c) (maybe_plain_texts p ++ stmt_texts s) g) j) (body j) (between_so i c p s (first_part texts (maybe_plain_texts p) (stmt_texts s) h) w j)) >>= λ flow1. after flow1 (give Normal))))
        ∙ (λ j. mark (marks (Of whole Whole w)) >> ((passes whole First w j >> (maybe_done scope n calls i >> give Normal)) >>= λ flow. after flow (alone (mark (marks (Of whole Looping w)) >> rounds) j)))
        ∙ (λ j. mark (marks (Of whole Whole w)) >> plainly before (mark (marks (Of whole Looping w)) >> rounds) j)
    step_so (stmt.ForIn k a s) f w =
        λ j. passes (stmt.ForIn k a s) Whole w j >> array_number (array_of scope a) >>= λ x. call row.Iter (x, tt) >>= λ keys. over_keys n keys (so.keys (variable_of scope k) j) (step_so s f (Within (stmt.ForIn k a s) ∷ w) j)
    step_so (stmt.Jumping stmt.Break) f w = λ j. passes (stmt.Jumping stmt.Break) Whole w j >> so.statements (stmt.Jumping stmt.Break) f j
    step_so (stmt.Jumping stmt.Continue) f w = λ j. passes (stmt.Jumping stmt.Continue) Whole w j >> so.statements (stmt.Jumping stmt.Continue) f j
    step_so (stmt.Jumping stmt.Next) f w = λ j. passes (stmt.Jumping stmt.Next) Whole w j >> so.statements (stmt.Jumping stmt.Next) f j
    step_so (stmt.Jumping stmt.NextFile) f w =
        let s = stmt.Jumping stmt.NextFile in
        let gives = mark (marks (Of s GivesUp w)) >> call row.NextFile tt in
        let leaves = mark (marks (Of s Leaves w)) >> stop Nexted in
        (λ j. passes s Whole w j >> ((passes s GivesUp w j >> given_up slots texts parameters n calls j) >>= λ flow. after flow ((passes s Leaves w j >> so.statements (stmt.Jumping stmt.Next) f j) >>= λ flow1. after flow1 (give Normal))))
        ∙ (λ j. mark (marks (Of s Whole w)) >> ((mark (marks (Of s GivesUp w)) >> (call row.NextFile tt >> give Normal)) >>= λ flow. after flow (alone leaves j)))
        ∙ (λ j. mark (marks (Of s Whole w)) >> plainly gives leaves j)
    step_so (stmt.Leave stmt.Exit None) f w = λ j. passes (stmt.Leave stmt.Exit None) Whole w j >> so.statements (stmt.Leave stmt.Exit None) f j
    step_so (stmt.Leave stmt.Exit (Some t)) f w = λ j. passes (stmt.Leave stmt.Exit (Some t)) Whole w j >> so.statements (stmt.Leave stmt.Exit (Some t)) f j
    step_so (stmt.Leave stmt.Return None) f w = λ j. passes (stmt.Leave stmt.Return None) Whole w j >> so.statements (stmt.Leave stmt.Return None) f j
    step_so (stmt.Leave stmt.Return (Some t)) f w = λ j. passes (stmt.Leave stmt.Return (Some t)) Whole w j >> so.statements (stmt.Leave stmt.Return (Some t)) f j

    pub steps_so : (ss : Stmts) → AllStand texts (stmts_texts ss) → (w : List Frame) → all_noted_at (final_steps slots (steps_code texts scope ss)) (at w) ≡ all_marked marks scope n calls ss w
    steps_so NoStmt f w = refl
    steps_so (And s ss) f w = λ j. step_so s (first_part texts (stmt_texts s) (stmts_texts ss) f) (Before ss ∷ w) j >>= λ flow. after flow (steps_so ss (second_part texts (stmt_texts s) (stmts_texts ss) f) w j)
