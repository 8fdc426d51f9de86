-- What is counted of a line is how often a place was passed whose spot is on the line.
use Rattle.std.proofs.Common.{◌≡◌, ℕ, zero, suc, ◌+◌, List, [], ◌∷◌, ◌++◌, Option, Some, length, length-append, refl, sym, ap, ◌∙◌, subst, arith}
use Rattle.std.specs.Prelude.{slice_get}
use Rattle.std.specs.List.{All}
use Rattle.std.proofs.Math.Seq.{get_or-append_seam}
use Rattle.std.proofs.lemmas.List.Elements.{All-append, All-cons, All-nil}
use Rattle.awk_grammar.specs.Trees.{Item}
use Rattle.awk_grammar.specs.TreeOf.{IsTreeOf}
use Rattle.awk_tokens.specs.Cutting.{Spelled}
use Rattle.awk_tree.specs.Lines.{line_at, places_in}
use Rattle.agreement.specs.Spots.SpotTexts.{IsLineOfSpot}
use Rattle.run_report.specs.CountTexts.{at_line}
use Rattle.run_report.specs.declared.counts.PlaceCount.{PlaceCount}
use Rattle.script_places.specs.Passes.{AreFirsts, IsFirst, IsFirstOf, Moment, counted_from, counted_in, passes, places_counted}
use Rattle.run_modules.specs.SpotPlaces.{IsCountOfSpot}
use Rattle.run_modules.proofs.SpotLines.{has_spot, line_is_spots}

module _ (script : List Item) (nops : List (List ℕ)) (moments : List Moment) where
  -- a place of a function, with how often it was passed
  abbrev IsPlace : PlaceCount → Type 0
  IsPlace p = (function : ℕ) × (place : ℕ) × (slice_get (places_in script function) place ≡ Some p.before) × (p.count ≡ passes nops moments function place)

  from_places : (f k : ℕ) (ns : List ℕ) → ((j : ℕ) → slice_get ns j ≡ slice_get (places_in script f) (j + k)) → All IsPlace (counted_from nops moments f k ns)
  from_places f k [] h = All-nil IsPlace
  from_places f k (n ∷ ns) h =
      let at : (j i : ℕ) → j ≡ i → slice_get (places_in script f) j ≡ slice_get (places_in script f) i = λ j i e. ap (slice_get (places_in script f)) e in
      All-cons IsPlace (record { before = n; count = passes nops moments f k }) (counted_from nops moments f (k + 1) ns)
      (f, k, at k (zero + k) (omega arith) ∙ sym (h zero), refl)
      (from_places f (k + 1) ns (λ j. h (suc j) ∙ at (suc j + k) (j + (k + 1)) (omega arith)))

  all_places : (functions : ℕ) → All IsPlace (counted_in script nops moments functions)
  all_places zero = All-nil IsPlace
  all_places (suc f) =
      All-append IsPlace (counted_in script nops moments f) (counted_from nops moments f 0 (places_in script f)) (all_places f)
      (from_places f 0 (places_in script f) (λ j. ap (slice_get (places_in script f)) (omega arith)))

in_middle : (P : PlaceCount → Type 0) (earlier later : List PlaceCount) (p : PlaceCount) → All P (earlier ++ p ∷ later) → P p
in_middle P earlier later p h =
    subst P (get_or-append_seam earlier p later p) (h (length earlier) p (omega (arith, length-append earlier (p ∷ later))))

pub count_is_spots : (tokens : List Spelled) (script : List Item) → IsTreeOf tokens script → (nops : List (List ℕ)) (moments : List Moment)
    (lines : List (Option PlaceCount)) → AreFirsts tokens (places_counted script nops moments) lines → (n : ℕ) (first : PlaceCount)
    → at_line lines n ≡ Some first → IsCountOfSpot tokens script nops moments n first.count
count_is_spots tokens script tree nops moments lines are n first e =
    let is : IsFirst tokens (places_counted script nops moments) n first = subst (IsFirstOf tokens (places_counted script nops moments) n) e (are n) in
    let place : IsPlace script nops moments first =
    in_middle (IsPlace script nops moments) is.earlier is.later first
    (subst (All (IsPlace script nops moments)) is.among (all_places script nops moments (length nops))) in
    let spot = has_spot script place.0 place.1 first.before place.2 in
    let line = line_is_spots tokens script tree place.0 place.1 spot.0.0 spot.0.1 spot.1 in
    let same : Some line.line ≡ Some n = sym line.found ∙ (ap (line_at tokens) place.2 ∙ is.begins) in
    let on : line.line ≡ n = cc in
    record {
      function = place.0;
      place = place.1;
      home = spot.0.0;
      spot = spot.0.1;
      among = spot.1;
      on_line = subst (IsLineOfSpot tokens script spot.0.0 spot.0.1) on line.of_spot;
      counted = place.3;
    }
