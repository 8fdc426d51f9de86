-- The places of a statement's code, and of an action's, are those of its spots, in the same order.
use Rattle.std.proofs.Common.{◌≡◌, ℕ, suc, Bool, true, false, List, [], ◌∷◌, ◌++◌, Option, Some, None, map, refl, sym, ap, ◌∙◌}
use Rattle.std.specs.Prelude.{if◌then◌else◌, is_some}
use Rattle.std.proofs.lemmas.List.{append-nil, map-append}
use Rattle.awk_grammar.specs.Trees as item
use Rattle.awk_grammar.specs.Trees.{Pattern, Stmt, Stmts, NoStmt, And, Tree}
use Rattle.wasm_types.specs.Syntax.{Instructions, Done}
use Rattle.wasm_types.specs.declared.instr.Simple.TheVariants.{Br}
use Rattle.mid_program.specs.Mid.{Code, Slot, Mark, Step, Block, Steps}
use Rattle.mid_program.specs.Translation.{plain_step, maybe_step, step_code, steps_code, where_code}
use Rattle.sem_scripts.specs.Names.{Scope}
use Rattle.lower_model.specs.Emission.{Layout}
use Rattle.lower_model.specs.Quick.{is_nothing, pair_in, step_jumps}
use Rattle.lower_model.specs.Small.{emit as instruction}
use Rattle.lower_model.specs.Statements.{steps_emitted}
use Rattle.agreement.specs.Places.Statements.{step_starts, steps_starts}
use Rattle.agreement.specs.Spots.InOrder.{last_spots, pattern_spots, stmt_spots, stmts_spots}
use Rattle.agreement.specs.Spots.Places.{Position, aside, met, at_end, in_block, final, final_steps, test_in, step_of, step_at, back, loop_of, position, part_place, after_pattern, pattern_place}
use Rattle.agreement.specs.Spots.Spots.{Frame, Before, Within, AfterElse, Part, Whole, First, Looping, Between, Testing, Unless, GivesUp, Leaves, PatternPart, Asked, Unmet, Opening, Already, FirstTest, Opens, StaysClosed, Inside, Entered, LastTest, Closes, StaysOpen, StatementPath, Of, OfPattern}
use Rattle.agreement.proofs.SpotsLemmas.Statements.{chosen_at, something}

module _ (y : Layout) (slots : Slot → Slot) (texts : List (List ℕ)) (scope : Scope) where
  -- the places of the code of a step, or of steps, that stand there

  abbrev pub starts_at : Step → Position → List Instructions
  starts_at s p = step_starts y s p.iterators p.out p.breaking p.continuing p.after

  abbrev pub all_starts_at : Steps → Position → List Instructions
  all_starts_at ss p = steps_starts y ss p.iterators p.out p.breaking p.continuing p.after

  abbrev at : Step → Position → Instructions
  at s p = step_at y slots texts scope s p

  -- where a test holds
  abbrev starts_if : Step → Code → Position → List Instructions
  starts_if s e p =
      if is_some (pair_in e)
      then step_starts y s p.iterators (suc (suc p.out)) (suc (suc p.breaking)) (suc (suc p.continuing)) (instruction (Br 1) Done)
      else starts_at s (aside p)

  met_starts : (s : Step) (e : Code) (p : Position) → starts_at s (met e p) ≡ starts_if s e p
  met_starts s e p =
      sym (chosen_at (starts_at s) (is_some (pair_in e)) (record {
        iterators = p.iterators;
        out = suc (suc p.out);
        breaking = suc (suc p.breaking);
        continuing =
            suc (suc p.continuing);
        after = instruction (Br 1) Done;
      }) (aside p))

  plain_starts : (p : item.Plain) (q : Position) → starts_at (final slots (plain_step texts scope p)) q ≡ at (final slots (plain_step texts scope p)) q ∷ []
  plain_starts (item.Eval t) q = refl
  plain_starts (item.Put w args _) q = refl
  plain_starts (item.Delete a ts) q = refl
  plain_starts (item.Clear a) q = refl

  maybe_starts : (p : Option item.Plain) (q : Position) → starts_at (final slots (maybe_step texts scope p)) q
      ≡ at (final slots (maybe_step texts scope p)) q ∷ []
  maybe_starts None q = refl
  maybe_starts (Some p) q = plain_starts p q

  module _ (start : Position) (place : StatementPath → Instructions) (placed : (s : Stmt) (part : Part) (w : List Frame)
      → place (Of s part w) ≡ part_place y slots texts scope s part (position y slots texts scope start w)) where
    abbrev there : List Frame → Position
    there w = position y slots texts scope start w

    -- a round of a loop, in a block of its own where the body jumps
    abbrev round_starts : Step → Instructions → Position → List Instructions
    round_starts s rest p = if step_jumps s then starts_at s (in_block p) else starts_at s (at_end rest p)

    round_so : (s : Step) (rest : Instructions) (p : Position) → starts_at s (if step_jumps s then in_block p else at_end rest p) ≡ round_starts s rest p
    round_so s rest p = sym (chosen_at (starts_at s) (step_jumps s) (in_block p) (at_end rest p))

    -- the third part of a `for`
    last_so : (i : Option item.Plain) (c : Option Tree) (p : Option item.Plain) (s : Stmt) (w : List Frame) → map place (last_spots (item.For i c p s) p w)
        ≡ (if is_nothing (final slots (maybe_step texts scope p)) then [] else starts_at (final slots (maybe_step texts scope p))
        (at_end (back y slots texts scope) (there w)))
    last_so i c None s w = refl
    last_so i c (Some p) s w =
        let between = starts_at (final slots (plain_step texts scope p)) (at_end (back y slots texts scope) (there w)) in
        (λ j. placed (item.For i c (Some p) s) Between w j ∷ []) ∙ sym (plain_starts p (at_end (back y slots texts scope) (there w)))
        ∙ ap (λ (b : Bool). if b then [] else between) (sym (something y slots texts scope p))

    mutual
      unfolding steps_emitted step_code steps_code

      pub stmt_so : (s : Stmt) (w : List Frame) → map place (stmt_spots s w) ≡ starts_at (step_of y slots texts scope s) (there w)
      stmt_so (item.Block ss) w = λ j. placed (item.Block ss) Whole w j ∷ stmts_so ss w j
      stmt_so item.Empty w = λ j. placed item.Empty Whole w j ∷ []
      stmt_so (item.Simple p) w = (λ j. placed (item.Simple p) Whole w j ∷ []) ∙ sym (plain_starts p (there w))
      stmt_so (item.If c s) w =
          let yes = stmt_so s (Within (item.If c s) ∷ w) ∙ met_starts (step_of y slots texts scope s) (test_in y slots texts scope c) (there w) in
          ap (λ (xs : List Instructions). place (Of (item.If c s) Whole w) ∷ xs)
          (map-append place (stmt_spots s (Within (item.If c s) ∷ w)) (Of (item.If c s) Unless w ∷ []))
          ∙ (λ j. placed (item.If c s) Whole w j ∷ (yes j ++ placed (item.If c s) Unless w j ∷ []))
      stmt_so (item.IfElse c s t) w =
          let whole = item.IfElse c s t in
          let yes = stmt_so s (Within whole ∷ w) ∙ met_starts (step_of y slots texts scope s) (test_in y slots texts scope c) (there w) in
          let no = stmt_so t (AfterElse whole ∷ w) in
          ap (λ (xs : List Instructions). place (Of whole Whole w) ∷ xs)
          (map-append place (stmt_spots s (Within whole ∷ w)) (stmt_spots t (AfterElse whole ∷ w)))
          ∙ (λ j. placed whole Whole w j ∷ (yes j ++ no j))
      stmt_so (item.While c s) w =
          let body = stmt_so s (Within (item.While c s) ∷ w) ∙ round_so (step_of y slots texts scope s) (back y slots texts scope) (there w) in
          let all = body ∙ sym (append-nil (round_starts (step_of y slots texts scope s) (back y slots texts scope) (there w))) in
          λ j. placed (item.While c s) Whole w j ∷ all j
      stmt_so (item.Do s c) w =
          let whole = item.Do s c in
          let body = stmt_so s (Within whole ∷ w) in
          ap (λ (xs : List Instructions). place (Of whole Whole w) ∷ xs)
          (map-append place (stmt_spots s (Within whole ∷ w)) (Of whole Between w ∷ (Of whole Testing w ∷ [])))
          ∙ (λ j. placed whole Whole w j ∷ (body j ++ (placed whole Between w j ∷ (placed whole Testing w j ∷ []))))
      stmt_so (item.For i c p s) w =
          let whole = item.For i c p s in
          let between = final slots (maybe_step texts scope p) in
          let rest = if is_nothing between then back y slots texts scope else at between (at_end (back y slots texts scope) (there w)) in
          let body = stmt_so s (Within whole ∷ w) ∙ round_so (step_of y slots texts scope s) rest (there w) in
          let rounds = round_starts (step_of y slots texts scope s) rest (there w) ++
          (if is_nothing between then [] else starts_at between (at_end (back y slots texts scope) (there w))) in
          let loop = at (loop_of y slots texts scope c p s) (there w) in
          let before = record (there w) { after = loop } in
          let plainly : starts_at (final slots (maybe_step texts scope i)) before ++ (loop ∷ (rounds ++ []))
          ≡ at (final slots (maybe_step texts scope i)) before ∷ (loop ∷ rounds) =
          (λ j. maybe_starts i before j ++ (loop ∷ append-nil rounds j)) in
          ap (λ (xs : List Instructions). place (Of whole Whole w) ∷ (place (Of whole First w) ∷ (place (Of whole Looping w) ∷ xs)))
          (map-append place (stmt_spots s (Within whole ∷ w)) (last_spots whole p w))
          ∙ (λ j. placed whole Whole w j ∷ (placed whole First w j ∷ (placed whole Looping w j ∷ (body j ++ last_so i c p s w j))))
          ∙ ap (λ (xs : List Instructions). at (step_of y slots texts scope whole) (there w) ∷ xs) (sym plainly)
      stmt_so (item.ForIn k a s) w = λ j. placed (item.ForIn k a s) Whole w j ∷ stmt_so s (Within (item.ForIn k a s) ∷ w) j
      stmt_so (item.Jumping item.Break) w = λ j. placed (item.Jumping item.Break) Whole w j ∷ []
      stmt_so (item.Jumping item.Continue) w = λ j. placed (item.Jumping item.Continue) Whole w j ∷ []
      stmt_so (item.Jumping item.Next) w = λ j. placed (item.Jumping item.Next) Whole w j ∷ []
      stmt_so (item.Jumping item.NextFile) w =
          let s = item.Jumping item.NextFile in
          λ j. placed s Whole w j ∷ (placed s GivesUp w j ∷ (placed s Leaves w j ∷ []))
      stmt_so (item.Leave item.Exit None) w = λ j. placed (item.Leave item.Exit None) Whole w j ∷ []
      stmt_so (item.Leave item.Exit (Some t)) w = λ j. placed (item.Leave item.Exit (Some t)) Whole w j ∷ []
      stmt_so (item.Leave item.Return None) w = λ j. placed (item.Leave item.Return None) Whole w j ∷ []
      stmt_so (item.Leave item.Return (Some t)) w = λ j. placed (item.Leave item.Return (Some t)) Whole w j ∷ []

      pub stmts_so : (ss : Stmts) (w : List Frame) → map place (stmts_spots ss w) ≡ all_starts_at (final_steps slots (steps_code texts scope ss)) (there w)
      stmts_so NoStmt w = refl
      stmts_so (And s ss) w = map-append place (stmt_spots s (Before ss ∷ w)) (stmts_spots ss w) ∙ (λ j. stmt_so s (Before ss ∷ w) j ++ stmts_so ss w j)

  -- Actions.

  module _ (i : ℕ) (p : Pattern) (ss : Stmts) (q : Position) where
    abbrev action : Step
    action = final slots (Block (steps_code texts scope ss))

    abbrev acts : List Instructions
    acts = starts_at action (after_pattern y slots texts scope (Some p) q)

    abbrev whole : Step
    whole = final slots (where_code texts scope i p (Block (steps_code texts scope ss)))

  set_starts : (i : ℕ) (b : Bool) (e : Code) (p : Position) (place : Instructions) → place ≡ at (Mark i b) (met e p) → place ∷ [] ≡ starts_if (Mark i b) e p
  set_starts i b e p place h = (λ j. h j ∷ []) ∙ met_starts (Mark i b) e p

  -- an action where its pattern is met
  pub where_so : (i : ℕ) (p : Pattern) (ss : Stmts) (q : Position) (place : StatementPath → Instructions)
      → ((part : PatternPart) → place (OfPattern part) ≡ pattern_place y slots texts scope i (Some p) (action i p ss q) part q)
      → (met_spots : List StatementPath) → map place met_spots ≡ acts i p ss q
      → map place (pattern_spots (Some p) met_spots) ≡ starts_at (whole i p ss q) q
  unfolding steps_emitted
  where_so i (item.One t) ss q place asked met_spots acted =
      let yes = acted ∙ met_starts (action i (item.One t) ss q) (test_in y slots texts scope t) q in
      ap (λ (xs : List Instructions). place (OfPattern Asked) ∷ xs) (map-append place met_spots (OfPattern Unmet ∷ []))
      ∙ (λ j. asked Asked j ∷ (yes j ++ asked Unmet j ∷ []))
  where_so i (item.Between t u) ss q place asked met_spots acted =
      let e = test_in y slots texts scope t in
      let f = test_in y slots texts scope u in
      let opens = set_starts i true e (aside q) (place (OfPattern Opens)) (asked Opens) in
      let closing = record (aside q) { after = at (action i (item.Between t u) ss q) (aside q) } in
      let closes = set_starts i false f closing (place (OfPattern Closes)) (asked Closes) in
      let xs = map place met_spots in
      let tail : map place (met_spots ++ OfPattern Unmet ∷ []) ≡ ((xs ++ []) ++ place (OfPattern Unmet) ∷ []) ++ [] =
      map-append place met_spots (OfPattern Unmet ∷ []) ∙ ap (λ ys. ys ++ place (OfPattern Unmet) ∷ []) (sym (append-nil xs))
      ∙ sym (append-nil ((xs ++ []) ++ place (OfPattern Unmet) ∷ [])) in
      ap (λ (ys : List Instructions). place (OfPattern Asked) ∷
      (place (OfPattern Opening) ∷ (place (OfPattern Already) ∷ (place (OfPattern FirstTest) ∷ (place (OfPattern Opens) ∷ (place (OfPattern StaysClosed)
      ∷ (place (OfPattern Inside) ∷ (place (OfPattern Entered) ∷
      (place (OfPattern LastTest) ∷ (place (OfPattern Closes) ∷ (place (OfPattern StaysOpen) ∷ ys))))))))))) tail
      ∙ (λ j. asked Asked j
      ∷ ((asked Opening j ∷ (asked Already j ∷ (asked FirstTest j ∷ (opens j ++ asked StaysClosed j ∷ []))))
      ++ ((asked Inside j ∷ ((asked Entered j ∷ ((asked LastTest j ∷ (closes j ++ asked StaysOpen j ∷ [])) ++ (acted j ++ []))) ++ asked Unmet j ∷ [])) ++ [])))
