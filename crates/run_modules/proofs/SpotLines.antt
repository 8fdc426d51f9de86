-- Each place of a script is that of its spot, and its line is the spot's.
use Rattle.std.proofs.Common.{◌≡◌, ℕ, zero, suc, ◌+◌, ◌-◌, ◌<◌, Bool, true, false, List, [], ◌∷◌, ◌++◌, Option, Some, None, length, length-append, append_assoc, refl, sym, ap, ◌∙◌, subst, arith}
use Rattle.std.specs.Prelude.{if◌then◌else◌, option_map, slice_get, unwrap_or}
use Rattle.awk_tokens.specs.Cutting.{Spelled}
use Rattle.awk_grammar.specs.Lexeme.{is_function, spoken, spoken_after}
use Rattle.awk_grammar.specs.Token.{BeginWord, EndWord, Token, Comma, Semicolon, Key}
use Rattle.awk_grammar.specs.Tree.{print}
use Rattle.awk_grammar.specs.Trees.{Stmt, Stmts, Block, Simple, Put, Print, NoArgs, NoTarget, NoStmt, One, Between as Range, Pattern, Item, Function, Begin, End, Always, When, Lone, Nothing}
use Rattle.awk_grammar.specs.Item.{print_item, print_pattern, print_script}
use Rattle.awk_grammar.specs.TreeOf.{IsTreeOf}
use Rattle.sem_scripts.specs.Items.{print_record, pattern_ranges}
use Rattle.agreement.specs.Spots.InOrder.{Spot, at_home, begin_spots, end_spots, function_spots, functions_spots, main_spots, pattern_spots, record_spots, spots_in, stmt_spots, stmts_spots}
use Rattle.agreement.specs.Spots.Spots.{Frame, Before, Home, OfBegin, OfEnd, OfRecord, OfFunction, Part, Whole, PatternPart, Asked, Unmet, Opening, Already, FirstTest, Opens, StaysClosed, Inside, Entered, LastTest, Closes, StaysOpen, StatementPath, Of, OfPattern}
use Rattle.agreement.specs.Spots.SpotTexts.{action_text, after_functions, frames_rest, is_lone, item_before, part_text, pattern_text, spot_text, stands_alone}
use Rattle.awk_tree.specs.Lines.{function_head, functions_places, is_begin, is_end, is_for_records, item_places, line_at, line_of, main_places, pattern_places, places_in, places_where, printed_places, stmt_places, stmts_places}
use Rattle.run_modules.specs.SpotPlaces.{HasSpotsLine}
use Rattle.run_modules.proofs.SpotTokens.{AllBegin, Begins, both, stmt_begins, stmts_begin}

-- the item that others come after
next_item : (pre : List Item) (item : Item) (items : List Item)
    → slice_get (pre ++ item ∷ items) (length (pre ++ item ∷ items) - suc (length items)) ≡ Some item
next_item pre item items = subst (λ (n : ℕ). slice_get (pre ++ item ∷ items) n ≡ Some item) (omega (arith, length-append pre (item ∷ items))) (there pre)
  where
    there : (pre : List Item) → slice_get (pre ++ item ∷ items) (length pre) ≡ Some item
    there [] = refl
    there (other ∷ pre) = there pre

module _ (script : List Item) where
  abbrev whole : List Token
  whole = print_script script

  abbrev text_at : Home → StatementPath → List Token
  text_at home path = spot_text script home path

  abbrev text_of : Spot → List Token
  text_of spot = spot_text script spot.0 spot.1

  -- with the action or the function that they are in
  homely : (home : Home) (ns : List ℕ) (paths : List StatementPath) → AllBegin whole (text_at home) ns paths → AllBegin whole text_of ns (at_home home paths)
  homely home [] [] h = tt
  homely home (n ∷ ns) (path ∷ paths) h = (h.0, homely home ns paths h.1)
  homely home [] (path ∷ paths) h = absurd h
  homely home (n ∷ ns) [] h = absurd h

  -- Actions without a pattern.

  begin_begins : (before : List Token) (items : List Item) → whole ≡ before ++ print_script items
      → AllBegin whole text_of (places_where is_begin before items) (begin_spots items)
  begin_begins before [] e = tt
  begin_begins before (Begin ss ∷ items) e =
      let home = OfBegin items in
      let at = before ++ Key BeginWord ∷ [] in
      both whole text_of (stmt_places at (Block ss)) (places_where is_begin (before ++ print_item (Begin ss)) items) (at_home home (stmt_spots (Block ss) []))
      (begin_spots items)
      (homely home (stmt_places at (Block ss)) (stmt_spots (Block ss) [])
      (stmt_begins whole (text_at home) (print_script items) (λ s part w. refl) at (Block ss) [] (e ∙ simp append_assoc)))
      (begin_begins (before ++ print_item (Begin ss)) items (e ∙ simp append_assoc))
  begin_begins before (Function n ps ss ∷ items) e = begin_begins (before ++ print_item (Function n ps ss)) items (e ∙ simp append_assoc)
  begin_begins before (End ss ∷ items) e = begin_begins (before ++ print_item (End ss)) items (e ∙ simp append_assoc)
  begin_begins before (Always ss ∷ items) e = begin_begins (before ++ print_item (Always ss)) items (e ∙ simp append_assoc)
  begin_begins before (When p ss ∷ items) e = begin_begins (before ++ print_item (When p ss)) items (e ∙ simp append_assoc)
  begin_begins before (Lone p ∷ items) e = begin_begins (before ++ print_item (Lone p)) items (e ∙ simp append_assoc)
  begin_begins before (Nothing ∷ items) e = begin_begins (before ++ print_item Nothing) items (e ∙ simp append_assoc)

  end_begins : (before : List Token) (items : List Item) → whole ≡ before ++ print_script items
      → AllBegin whole text_of (places_where is_end before items) (end_spots items)
  end_begins before [] e = tt
  end_begins before (End ss ∷ items) e =
      let home = OfEnd items in
      let at = before ++ Key EndWord ∷ [] in
      both whole text_of (stmt_places at (Block ss)) (places_where is_end (before ++ print_item (End ss)) items) (at_home home (stmt_spots (Block ss) []))
      (end_spots items)
      (homely home (stmt_places at (Block ss)) (stmt_spots (Block ss) [])
      (stmt_begins whole (text_at home) (print_script items) (λ s part w. refl) at (Block ss) [] (e ∙ simp append_assoc)))
      (end_begins (before ++ print_item (End ss)) items (e ∙ simp append_assoc))
  end_begins before (Function n ps ss ∷ items) e = end_begins (before ++ print_item (Function n ps ss)) items (e ∙ simp append_assoc)
  end_begins before (Begin ss ∷ items) e = end_begins (before ++ print_item (Begin ss)) items (e ∙ simp append_assoc)
  end_begins before (Always ss ∷ items) e = end_begins (before ++ print_item (Always ss)) items (e ∙ simp append_assoc)
  end_begins before (When p ss ∷ items) e = end_begins (before ++ print_item (When p ss)) items (e ∙ simp append_assoc)
  end_begins before (Lone p ∷ items) e = end_begins (before ++ print_item (Lone p)) items (e ∙ simp append_assoc)
  end_begins before (Nothing ∷ items) e = end_begins (before ++ print_item Nothing) items (e ∙ simp append_assoc)

  -- Actions with a pattern.

  module _ (i : ℕ) (p : Pattern) (ss : Stmts) (items : List Item) (alone : Bool) (stands : stands_alone script items ≡ alone) where
    abbrev home : Home
    home = OfRecord i (Some p) ss items

    abbrev rest : List Token
    rest = print_script items

    has_action : (b : Bool) → 0 < length (action_text b ss)
    has_action true = omega arith
    has_action false = omega arith

    part_begins : (part : PatternPart) (before : List Token) → whole ≡ before ++ ((pattern_text p part ++ action_text alone ss) ++ rest)
        → Begins whole (text_at home (OfPattern part)) (length before)
    part_begins part before e =
        let same : (pattern_text p part ++ action_text (stands_alone script items) ss) ++ rest ≡ (pattern_text p part ++ action_text alone ss) ++ rest =
        ap (λ b. (pattern_text p part ++ action_text b ss) ++ rest) stands in
        let some : 0 < length ((pattern_text p part ++ action_text alone ss) ++ rest) =
        omega (
          arith,
          has_action alone,
          length-append (pattern_text p part) (action_text alone ss),
          length-append
              (pattern_text p part ++ action_text alone ss) rest,
        ) in
        (before, e ∙ ap (λ ts. before ++ ts) (sym same), refl, subst (λ (ts : List Token). 0 < length ts) (sym same) some)

  pattern_begins : (i : ℕ) (p : Pattern) (ss : Stmts) (items : List Item) (alone : Bool) → stands_alone script items ≡ alone
      → (before : List Token) (ns : List ℕ) (met : List StatementPath)
      → AllBegin whole (text_at (OfRecord i (Some p) ss items)) ns met → whole ≡ before ++ ((print_pattern p ++ action_text alone ss) ++ print_script items)
      → AllBegin whole (text_at (OfRecord i (Some p) ss items)) (pattern_places before p ns) (pattern_spots (Some p) met)
  pattern_begins i (One t) ss items alone stands before ns met h e =
      let home = OfRecord i (Some (One t)) ss items in
      let here : (part : PatternPart) → Begins whole (text_at home (OfPattern part)) (length before) =
      λ part. part_begins i (One t) ss items alone stands part before e in
      (here Asked, both whole (text_at home) ns (length before ∷ []) met (OfPattern Unmet ∷ []) h (here Unmet, tt))
  pattern_begins i (Range t u) ss items alone stands before ns met h e =
      let home = OfRecord i (Some (Range t u)) ss items in
      let second = (before ++ print t) ++ Comma ∷ [] in
      let here = λ (part : PatternPart) (whole_text : pattern_text (Range t u) part ≡ print_pattern (Range t u)).
      part_begins i (Range t u) ss items alone stands part before (e
      ∙ ap (λ ts. before ++ ((ts ++ action_text alone ss) ++ print_script items)) (sym whole_text)) in
      let last : whole ≡ second ++ ((print u ++ action_text alone ss) ++ print_script items) = e ∙ simp append_assoc in
      let there = λ (part : PatternPart) (last_text : pattern_text (Range t u) part ≡ print u).
      part_begins i (Range t u) ss items alone stands part second (last
      ∙ ap (λ ts. second ++ ((ts ++ action_text alone ss) ++ print_script items)) (sym last_text)) in (
        here Asked refl,
        (
          here Opening refl,
          (
            here Already refl,
            (
              here FirstTest refl,
              (
                here Opens refl,
                (
                  here StaysClosed refl,
                  (
                    there Inside refl,
                    (
                      there Entered refl,
                      (
                        there LastTest refl,
                        (
                          there Closes refl,
                          (
                            there StaysOpen refl,
                            both whole (text_at home) ns (length before ∷ []) met (OfPattern Unmet ∷ []) h (here Unmet refl, tt),
                          ),
                        ),
                      ),
                    ),
                  ),
                ),
              ),
            ),
          ),
        ),
      )

  -- the record is printed where a pattern stands alone
  printed_begins : (i : ℕ) (p : Pattern) (items : List Item) → stands_alone script items ≡ true → (before : List Token)
      → whole ≡ before ++ ((print_pattern p ++ Semicolon ∷ []) ++ print_script items)
      → AllBegin whole (text_at (OfRecord i (Some p) print_record items)) (printed_places before) (stmt_spots (Block print_record) [])
  printed_begins i p items stands before e =
      (at_pattern (Block print_record) [], (at_pattern (Simple (Put Print NoArgs NoTarget)) (Before NoStmt ∷ []), tt))
    where
      at_pattern : (s : Stmt) (w : List Frame) → Begins whole (text_at (OfRecord i (Some p) print_record items) (Of s Whole w)) (length before)
      at_pattern s w =
          let text = (print_pattern p ++ Semicolon ∷ []) ++ print_script items in
          let same : text_at (OfRecord i (Some p) print_record items) (Of s Whole w) ≡ text =
          ap (λ (b : Bool). (if b then print_pattern p ++ Semicolon ∷ [] else part_text s Whole ++ frames_rest w) ++ print_script items) stands in
          let some : 0 < length text = omega (
            arith,
            length-append (print_pattern p) (Semicolon ∷ []),
            length-append (print_pattern p ++ Semicolon ∷ [])
                (print_script items),
          ) in
          (before, e ∙ ap (λ ts. before ++ ts) (sym same), refl, subst (λ (ts : List Token). 0 < length ts) (sym same) some)

  record_begins : (i : ℕ) (pre : List Item) (before : List Token) (items : List Item) → script ≡ pre ++ items → whole ≡ before ++ print_script items
      → AllBegin whole text_of (places_where is_for_records before items) (record_spots i items)
  record_begins i pre before [] is e = tt
  record_begins i pre before (Always ss ∷ items) is e =
      let home = OfRecord i None ss items in
      both whole text_of (stmt_places before (Block ss)) (places_where is_for_records (before ++ print_item (Always ss)) items)
      (at_home home (stmt_spots (Block ss) [])) (record_spots i items)
      (homely home (stmt_places before (Block ss)) (stmt_spots (Block ss) [])
      (stmt_begins whole (text_at home) (print_script items) (λ s part w. refl) before (Block ss) [] (e ∙ simp append_assoc)))
      (record_begins i (pre ++ Always ss ∷ []) (before ++ print_item (Always ss)) items (is ∙ simp append_assoc) (e ∙ simp append_assoc))
  record_begins i pre before (When p ss ∷ items) is e =
      let home = OfRecord i (Some p) ss items in
      let at = before ++ print_pattern p in
      let stands : stands_alone script items ≡ false = ap is_lone (ap (λ (s : List Item). item_before s items) is ∙ next_item pre (When p ss) items) in
      let texts = λ (s : Stmt) (part : Part) (w : List Frame).
      ap (λ (b : Bool). (if b then print_pattern p ++ Semicolon ∷ [] else part_text s part ++ frames_rest w) ++ print_script items) stands in
      let met = stmt_begins whole (text_at home) (print_script items) texts at (Block ss) [] (e ∙ simp append_assoc) in
      both whole text_of (pattern_places before p (stmt_places at (Block ss))) (places_where is_for_records (before ++ print_item (When p ss)) items)
      (at_home home (pattern_spots (Some p) (stmt_spots (Block ss) []))) (record_spots (pattern_ranges p + i) items)
      (homely home (pattern_places before p (stmt_places at (Block ss))) (pattern_spots (Some p) (stmt_spots (Block ss) []))
      (pattern_begins i p ss items false stands before (stmt_places at (Block ss)) (stmt_spots (Block ss) []) met e))
      (record_begins (pattern_ranges p + i) (pre ++ When p ss ∷ []) (before ++ print_item (When p ss)) items (is ∙ simp append_assoc) (e ∙ simp append_assoc))
  record_begins i pre before (Lone p ∷ items) is e =
      let home = OfRecord i (Some p) print_record items in
      let stands : stands_alone script items ≡ true = ap is_lone (ap (λ (s : List Item). item_before s items) is ∙ next_item pre (Lone p) items) in
      both whole text_of (pattern_places before p (printed_places before)) (places_where is_for_records (before ++ print_item (Lone p)) items)
      (at_home home (pattern_spots (Some p) (stmt_spots (Block print_record) []))) (record_spots (pattern_ranges p + i) items)
      (homely home (pattern_places before p (printed_places before)) (pattern_spots (Some p) (stmt_spots (Block print_record) []))
      (pattern_begins i p print_record items true stands before (printed_places before) (stmt_spots (Block print_record) [])
      (printed_begins i p items stands before e) e))
      (record_begins (pattern_ranges p + i) (pre ++ Lone p ∷ []) (before ++ print_item (Lone p)) items (is ∙ simp append_assoc) (e ∙ simp append_assoc))
  record_begins i pre before (Function n ps ss ∷ items) is e =
      record_begins i (pre ++ Function n ps ss ∷ []) (before ++ print_item (Function n ps ss)) items (is ∙ simp append_assoc) (e ∙ simp append_assoc)
  record_begins i pre before (Begin ss ∷ items) is e = record_begins i (pre ++ Begin ss ∷ []) (before ++ print_item (Begin ss)) items (is
      ∙ simp append_assoc) (e ∙ simp append_assoc)
  record_begins i pre before (End ss ∷ items) is e = record_begins i (pre ++ End ss ∷ []) (before ++ print_item (End ss)) items (is ∙ simp append_assoc) (e
      ∙ simp append_assoc)
  record_begins i pre before (Nothing ∷ items) is e = record_begins i (pre ++ Nothing ∷ []) (before ++ print_item Nothing) items (is ∙ simp append_assoc) (e
      ∙ simp append_assoc)

  main_begins : AllBegin whole text_of (main_places script) (main_spots script)
  main_begins =
      both whole text_of (places_where is_begin [] script) (places_where is_for_records [] script ++ places_where is_end [] script) (begin_spots script)
      (record_spots zero script ++ end_spots script)
      (begin_begins [] script refl)
      (both whole text_of (places_where is_for_records [] script) (places_where is_end [] script) (record_spots zero script) (end_spots script)
      (record_begins zero [] [] script refl refl) (end_begins [] script refl))

  -- Functions.

  abbrev AllBeginIn : Option (List ℕ) → Option (List Spot) → Type 0
  AllBeginIn None None = Unit {0}
  AllBeginIn (Some ns) (Some spots) = AllBegin whole text_of ns spots
  AllBeginIn None (Some spots) = ⊥
  AllBeginIn (Some ns) None = ⊥

  -- what comes after the f-th function and those after it
  Remain : ℕ → List Item → Type 0
  Remain f items = (g k : ℕ) → k ≡ g + f → slice_get (after_functions script) k ≡ slice_get (after_functions items) g

  function_begins : (f : ℕ) (before : List Token) (n : List ℕ) (ps : List (List ℕ)) (ss : Stmts) (items : List Item)
      → slice_get (after_functions script) f ≡ Some items → whole ≡ before ++ (print_item (Function n ps ss) ++ print_script items)
      → AllBegin whole text_of (item_places before (Function n ps ss)) (function_spots f ss)
  function_begins f before n ps ss items left e =
      let home = OfFunction f in
      let at = before ++ function_head n ps in
      let texts = λ (s : Stmt) (part : Part) (w : List Frame).
      ap (λ (is : Option (List Item)). (part_text s part ++ frames_rest w) ++ print_script (unwrap_or is [])) left in
      homely home (stmts_places at ss) (stmts_spots ss [])
      (stmts_begin whole (text_at home) (print_script items) texts at ss [] (e ∙ simp append_assoc))

  functions_begin : (f : ℕ) (before : List Token) (items : List Item) → Remain f items → whole ≡ before ++ print_script items
      → (k : ℕ) → AllBeginIn (slice_get (functions_places before items) k) (slice_get (functions_spots f items) k)
  unfolding Remain
  functions_begin f before [] left e k = tt
  functions_begin f before (Function n ps ss ∷ items) left e zero = function_begins f before n ps ss items (left zero f (omega arith)) e
  functions_begin f before (Function n ps ss ∷ items) left e (suc k) =
      functions_begin (suc f) (before ++ print_item (Function n ps ss)) items (λ g j q. left (suc g) j (omega (arith, q))) (e ∙ simp append_assoc) k
  functions_begin f before (Begin ss ∷ items) left e k = functions_begin f (before ++ print_item (Begin ss)) items left (e ∙ simp append_assoc) k
  functions_begin f before (End ss ∷ items) left e k = functions_begin f (before ++ print_item (End ss)) items left (e ∙ simp append_assoc) k
  functions_begin f before (Always ss ∷ items) left e k = functions_begin f (before ++ print_item (Always ss)) items left (e ∙ simp append_assoc) k
  functions_begin f before (When p ss ∷ items) left e k = functions_begin f (before ++ print_item (When p ss)) items left (e ∙ simp append_assoc) k
  functions_begin f before (Lone p ∷ items) left e k = functions_begin f (before ++ print_item (Lone p)) items left (e ∙ simp append_assoc) k
  functions_begin f before (Nothing ∷ items) left e k = functions_begin f (before ++ print_item Nothing) items left (e ∙ simp append_assoc) k

  one_of : (ns : Option (List ℕ)) (spots : Option (List Spot)) → AllBeginIn ns spots
      → AllBegin whole text_of (unwrap_or ns (main_places script)) (unwrap_or spots (main_spots script))
  one_of None None h = main_begins
  one_of (Some ns) (Some spots) h = h
  one_of None (Some spots) h = absurd h
  one_of (Some ns) None h = absurd h

  all_begin : (function : ℕ) → AllBegin whole text_of (places_in script function) (spots_in script function)
  unfolding Remain
  all_begin function =
      one_of (slice_get (functions_places [] script) function) (slice_get (functions_spots zero script) function)
      (functions_begin zero [] script (λ g k q. ap (λ (n : ℕ). slice_get (after_functions script) n) (omega (arith, q))) refl function)

-- Lines.

spot_found : (all : List Token) (text : Spot → List Token) (ns : List ℕ) (spots : List Spot) → AllBegin all text ns spots → (k : ℕ) (spot : Spot)
    → slice_get spots k ≡ Some spot
    → (n : ℕ) × (slice_get ns k ≡ Some n) × Begins all (text spot) n
spot_found all text [] [] h k spot e = let no : None ≡ Some spot = e in absurd cc
spot_found all text (n ∷ ns) (s ∷ spots) h zero spot e = let same : s ≡ spot = cc in (n, refl, subst (λ (it : Spot). Begins all (text it) n) same h.0)
spot_found all text (n ∷ ns) (s ∷ spots) h (suc k) spot e = spot_found all text ns spots h.1 k spot e
spot_found all text [] (s ∷ spots) h k spot e = absurd h
spot_found all text (n ∷ ns) [] h k spot e = absurd h

place_found : (all : List Token) (text : Spot → List Token) (ns : List ℕ) (spots : List Spot) → AllBegin all text ns spots → (k n : ℕ)
    → slice_get ns k ≡ Some n → (spot : Spot) × (slice_get spots k ≡ Some spot)
place_found all text [] [] h k n e = let no : None ≡ Some n = e in absurd cc
place_found all text (m ∷ ns) (s ∷ spots) h zero n e = (s, refl)
place_found all text (m ∷ ns) (s ∷ spots) h (suc k) n e = place_found all text ns spots h.1 k n e
place_found all text [] (s ∷ spots) h k n e = absurd h
place_found all text (m ∷ ns) [] h k n e = absurd h

none_found : (all : List Token) (text : Spot → List Token) (ns : List ℕ) (spots : List Spot) → AllBegin all text ns spots → (k : ℕ) → slice_get spots k ≡ None
    → slice_get ns k ≡ None
none_found all text [] [] h k e = refl
none_found all text (n ∷ ns) (s ∷ spots) h zero e = absurd cc
none_found all text (n ∷ ns) (s ∷ spots) h (suc k) e = none_found all text ns spots h.1 k e
none_found all text [] (s ∷ spots) h k e = absurd h
none_found all text (n ∷ ns) [] h k e = absurd h

token_at : (after : Bool) (ts : List Spelled) (n : ℕ) → n < length (spoken_after after ts) → (t : Spelled) × (slice_get ts n ≡ Some t)
token_at after [] n h = absurd (omega (arith, h))
token_at after (t ∷ ts) zero h = (t, refl)
token_at after (t ∷ ts) (suc n) h = token_at (is_function t.kind) ts n (omega (arith, h))

-- the line of a place is that of its spot
pub line_is_spots : (tokens : List Spelled) (script : List Item) → IsTreeOf tokens script → (function place : ℕ) (home : Home) (spot : StatementPath)
    → slice_get (spots_in script function) place ≡ Some (home, spot) → HasSpotsLine tokens script function place home spot
line_is_spots tokens script tree function place home spot e =
    let at = spot_found (print_script script) (text_of script) (places_in script function) (spots_in script function) (all_begin script function) place
    (home, spot) e in
    let begins = at.2 in
    let within : length begins.0 < length (spoken tokens) =
    omega (arith, begins.3, ap (λ (ts : List Token). length ts) (sym tree.parts ∙ begins.1), length-append begins.0 (spot_text script home spot)) in
    let token = token_at false tokens (length begins.0) within in
    record {
      line = token.0.line;
      found = ap (line_at tokens) (at.1 ∙ ap (λ (n : ℕ). Some n) begins.2) ∙ ap (option_map (λ (t : Spelled). t.line)) token.1;
      of_spot = record { before = begins.0; text = begins.1; token = token.0; begins = token.1; is_line = refl };
    }

-- and a place without a spot has none
pub no_line : (tokens : List Spelled) (script : List Item) (function place : ℕ) → slice_get (spots_in script function) place ≡ None
    → line_of tokens script function place ≡ None
no_line tokens script function place e =
    ap (line_at tokens) (none_found (print_script script) (text_of script) (places_in script function) (spots_in script function)
    (all_begin script function) place e)

-- a place has a spot
pub has_spot : (script : List Item) (function place n : ℕ) → slice_get (places_in script function) place ≡ Some n
    → (spot : Spot) × (slice_get (spots_in script function) place ≡ Some spot)
has_spot script function place n e =
    place_found (print_script script) (text_of script) (places_in script function) (spots_in script function) (all_begin script function) place n e
