-- The refusal for a name of both kinds.
use Rattle.std.proofs.Common.{◌≡◌, List, Bool, Option, None, ap, sym, ◌∙◌}
use Rattle.std.specs.Option.{option_map}
use Rattle.awk_grammar.specs.Marks.{Mark, Array, Scalar}
use Rattle.awk_grammar.specs.Kinds.{Key, Head, Refusal, KindClash, or_else, first, clash, is_used_as, name_refusal, refusal_by}

abbrev pub clash_of : (Key → Bool) → (Key → Bool) → List Head → List Mark → Option Refusal
clash_of arrays scalars hs ms = option_map KindClash (first (clash arrays scalars hs) ms)

-- the clash by the sets that the code has is that of the definition
pub by_sets : (a s : Key → Bool) (hs : List Head) (ms : List Mark) → a ≡ is_used_as Array hs ms → s ≡ is_used_as Scalar hs ms → name_refusal hs ms ≡ None → clash_of a s hs ms ≡ refusal_by hs ms
by_sets a s hs ms e f none = (λ i. clash_of (e i) (f i) hs ms) ∙ sym (ap (λ (u : Option Refusal). or_else u (clash_of (is_used_as Array hs ms) (is_used_as Scalar hs ms) hs ms)) none)
