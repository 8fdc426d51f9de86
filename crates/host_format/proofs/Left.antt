-- What is left to be substituted.
use Rattle.std.proofs.Common.{◌≡◌, ℕ, ◌+◌, ◌^◌, ◌<◌, ◌≤◌, Bool, true, false, List, [], ◌∷◌, ◌++◌, drop, length, slice_range, take, Option, Some, None, Result, Ok, Err, refl, sym, ap, subst, ◌∙◌, append_assoc, arith, le-leb}
use Rattle.std.specs.Prelude.{if◌then◌else◌}
use Rattle.awk_values.specs.declared.fault.Fault.{Fault}
use Rattle.awk_values.specs.declared.fault.Fault.TheVariants.{TextLimit}
use Rattle.awk_values.specs.declared.fault.Stop.{Stop}
use Rattle.awk_values.specs.declared.fault.Stop.TheVariants as stops
use Rattle.ere_syntax.specs.Tree.{Tree}
use Rattle.sem_primitives.specs.FirstMatch.{first_match}
use Rattle.sem_primitives.specs.SharedState.{◌>>=◌}
use Rattle.sem_primitives.specs.Texts.{limited}
use Rattle.sem_primitives.specs.TextMeaning.{behind, places, places_of, replaced, replacement}
use Rattle.host_bytes.specs.Growing.{Grows, StandsAfter}
use Rattle.host_bytes.specs.Outcomes.{Adds, IsPast, IsStopOf}
use Rattle.host_bytes.specs.declared.growing.Growing.{Growing}
use Rattle.host_format.specs.Substitutions.{IsNextPlace, IsReplaced, substitution}
use Rattle.host_bytes.proofs.Rests.{rest_of}
use Rattle.host_bytes.proofs.Grown.{grows_both, grows_same}
use Rattle.host_bytes.proofs.Replaced.{past_is}

-- so many tries are enough for what is left; with it, the text that grows and the count are the substitution's
pub record IsLeft (t : Tree) (by text : List ℕ) (start out : Growing) (from at : ℕ) (last : Option ℕ) (count : ℕ) : Type 0 where
  pub tries : ℕ
  pub enough : length text + 1 ≤ tries + at
  pub grows : (end : Growing) → Grows out end (Ok (replaced text by from (places (first_match t text) tries at last))) → Grows start end (Ok (replaced text by 0 (places_of t text true)))
  pub counted : count + length (places (first_match t text) tries at last) ≡ length (places_of t text true)

pub left_start : (t : Tree) (by text : List ℕ) (start : Growing) → IsLeft t by text start start 0 0 None 0
left_start t by text start = record {
  tries = length text + 1;
  enough = omega arith;
  grows = λ end g. g;
  counted = omega arith;
}

abbrev pub put_text : List ℕ → List ℕ → ℕ → ℕ × ℕ → List ℕ
put_text by text from p = slice_range text from p.0 ++ replacement (slice_range text p.0 p.1) by

pub left_step : (t : Tree) (by text : List ℕ) (start out new : Growing) (from at : ℕ) (last : Option ℕ) (count : ℕ) (p : ℕ × ℕ) → IsLeft t by text start out from at last count → IsNextPlace t text at last (Some p) → Grows out new (Ok (put_text by text from p)) → IsLeft t by text start new p.1 (behind p) (Some p.1) (count + 1)
left_step t by text start out new from at last count p left next put =
    let n = next left.tries left.enough in
    let rest = replaced text by p.1 (places (first_match t text) n.0 (behind p) (Some p.1)) in
    record {
      tries = n.0;
      enough = n.1;
      grows = λ end g. left.grows end (grows_same out end (put_text by text from p ++ rest) (replaced text by from (places (first_match t text) left.tries at last))
          (append_assoc (slice_range text from p.0) (replacement (slice_range text p.0 p.1) by) rest ∙ ap (λ ps. replaced text by from ps) (sym n.2))
          (grows_both out new end (put_text by text from p) rest put g));
      counted = (let size = ap length n.2 in let sum = left.counted in omega (arith, size, sum));
    }

-- at the end
pub left_end : (t : Tree) (by text : List ℕ) (start out new : Growing) (from at : ℕ) (last : Option ℕ) (count : ℕ) → IsLeft t by text start out from at last count → IsNextPlace t text at last None → Grows out new (Ok (slice_range text from (length text))) → IsReplaced t by text true count start new
left_end t by text start out new from at last count left next put = record {
  counted = (let size = ap length (next left.tries left.enough) in let sum = left.counted in omega (arith, size, sum));
  grows = left.grows new (grows_same out new (slice_range text from (length text)) (replaced text by from (places (first_match t text) left.tries at last))
      (rest_of text from ∙ ap (λ ps. replaced text by from ps) (sym (next left.tries left.enough))) put);
}

-- The first match alone.

first_some : (t : Tree) (text : List ℕ) (p : ℕ × ℕ) → IsNextPlace t text 0 None (Some p) → places_of t text false ≡ p ∷ []
first_some t text p next = ap (λ ps. take 1 ps) (next (length text + 1) (omega arith)).2

one_text : (t : Tree) (by text : List ℕ) (p : ℕ × ℕ) → IsNextPlace t text 0 None (Some p) → replaced text by 0 (places_of t text false) ≡ put_text by text 0 p ++ slice_range text p.1 (length text)
one_text t by text p next =
    ap (λ ps. replaced text by 0 ps) (first_some t text p next)
    ∙ (sym (append_assoc (slice_range text 0 p.0) (replacement (slice_range text p.0 p.1) by) (drop p.1 text))
    ∙ ap (λ xs. put_text by text 0 p ++ xs) (sym (rest_of text p.1)))

pub one_replaced : (t : Tree) (by text : List ℕ) (start out new : Growing) (p : ℕ × ℕ) → IsNextPlace t text 0 None (Some p) → Grows start out (Ok (put_text by text 0 p)) → Grows out new (Ok (slice_range text p.1 (length text))) → IsReplaced t by text false 1 start new
one_replaced t by text start out new p next put rest = record {
  counted = ap length (first_some t text p next);
  grows = grows_same start new _ _ (sym (one_text t by text p next)) (grows_both start out new (put_text by text 0 p) (slice_range text p.1 (length text)) put rest);
}

-- The outcome.

outcome_is : (t : Tree) (by text : List ℕ) (all : Bool) (count : ℕ) (new : List ℕ) → length (places_of t text all) ≡ count → replaced text by 0 (places_of t text all) ≡ new → length new ≤ 2 ^ 26 → substitution t by text all ≡ Ok (count, new)
outcome_is t by text all count new counted is within =
    let go : List ℕ → Result (ℕ × List ℕ) Fault = λ x. Ok (length (places_of t text all), x) in
    ap (λ x. limited x >>= go) is
    ∙ (ap (λ b. (if b then Ok new else Err TextLimit) >>= go) (le-leb (length new) (2 ^ 26) within)
    ∙ ap (λ n. Ok (n, new)) counted)

outcome_past : (t : Tree) (by text : List ℕ) (all : Bool) (s : Stop) → IsPast (replaced text by 0 (places_of t text all)) s → IsStopOf (substitution t by text all) s
outcome_past t by text all s past = past_is (replaced text by 0 (places_of t text all)) (λ new. Ok (length (places_of t text all), new)) s past

-- an empty text that grew
made : (p q : Option Stop) (old new text : List ℕ) → p ≡ None → old ≡ [] → q ≡ None → StandsAfter p q old new (Ok text) → Adds [] new text
made p q old new text e f g h = rw (e, f, g) at h

stopped : (p q : Option Stop) (old new text : List ℕ) (s : Stop) → p ≡ None → old ≡ [] → q ≡ Some s → StandsAfter p q old new (Ok text) → IsPast text s
stopped p q old new text s e f g h = rw (e, f, g) at h

pub outcome_made : (t : Tree) (by text : List ℕ) (all : Bool) (count : ℕ) (start new : Growing) → IsReplaced t by text all count start new → start.stop ≡ None → start.bytes.items ≡ [] → new.stop ≡ None → substitution t by text all ≡ Ok (count, new.bytes.items)
outcome_made t by text all count start new r none empty stands =
    let adds = made start.stop new.stop start.bytes.items new.bytes.items (replaced text by 0 (places_of t text all)) none empty stands r.grows.stands in
    outcome_is t by text all count new.bytes.items r.counted (sym adds.added) adds.within

pub outcome_stopped : (t : Tree) (by text : List ℕ) (all : Bool) (count : ℕ) (start new : Growing) (s : Stop) → IsReplaced t by text all count start new → start.stop ≡ None → start.bytes.items ≡ [] → new.stop ≡ Some s → IsStopOf (substitution t by text all) s
outcome_stopped t by text all count start new s r none empty stop =
    outcome_past t by text all s (stopped start.stop new.stop start.bytes.items new.bytes.items (replaced text by 0 (places_of t text all)) s none empty stop r.grows.stands)

-- Where there is no match.

no_places : (t : Tree) (text : List ℕ) (all : Bool) → IsNextPlace t text 0 None None → places_of t text all ≡ []
no_places t text true next = next (length text + 1) (omega arith)
no_places t text false next = ap (λ ps. take 1 ps) (next (length text + 1) (omega arith))

nothing_replaced : (t : Tree) (by text : List ℕ) (all : Bool) → IsNextPlace t text 0 None None → replaced text by 0 (places_of t text all) ≡ text
nothing_replaced t by text all next = ap (λ ps. replaced text by 0 ps) (no_places t text all next)

pub unchanged_is : (t : Tree) (by text : List ℕ) (all : Bool) → IsNextPlace t text 0 None None → length text ≤ 2 ^ 26 → substitution t by text all ≡ Ok (0, text)
unchanged_is t by text all next low = outcome_is t by text all 0 text (ap length (no_places t text all next)) (nothing_replaced t by text all next) low

pub unchanged_past : (t : Tree) (by text : List ℕ) (all : Bool) → IsNextPlace t text 0 None None → 2 ^ 26 < length text → substitution t by text all ≡ Err TextLimit
unchanged_past t by text all next long = outcome_past t by text all (stops.Fault TextLimit) (subst (λ xs. IsPast xs (stops.Fault TextLimit)) (sym (nothing_replaced t by text all next)) (refl, long))
