use Rattle.std.proofs.Common.{◌≡◌, ℕ, ◌<◌, [], List, All, length, map, Bool, ap, sym, subst, ◌∙◌}
use Rattle.awk_grammar.specs.Marks.{Kind, Array, Scalar, Mark}
use Rattle.awk_grammar.specs.Kinds.{Key, Whole, Head, parameter_keys, specials, with_keys, variables, members, pairs, is_used_as}
use Rattle.awk_grammar.specs.Least.{IsLeast}
use Rattle.awk_resolve.specs.Marked.{is_marked, is_marked_in}
use Rattle.awk_resolve.specs.Numbered.{AreNumbers, ArePairs}
use Rattle.awk_resolve.specs.View.{view_marks}
use Rattle.awk_resolve.specs.ViewNames.{view_heads, view_variables}
use Rattle.awk_resolve.proofs.Places.{views_length}
use Rattle.awk_resolve.proofs.Transfer.{AreApart, none_apart, apart_with_keys, apart_with_marks, marked_is, numbers_small, pairs_small}
use Rattle.awk_resolve.proofs.kinds.kinds_of.Goals as goal

apart : (hs : List Head) (ms : List Mark) → AreApart (variables hs ms)
apart hs ms = apart_with_marks hs (with_keys (with_keys [] (parameter_keys hs)) (map Whole specials)) ms (apart_with_keys (with_keys [] (parameter_keys hs)) (map Whole specials) (apart_with_keys [] (parameter_keys hs) none_apart))

-- the set of the variables whose numbers are marked is the one of the definition
kind_is : (hs : List Head) (ms : List Mark) (keys : List Key) (kind : Kind) (ns : List ℕ) (ps : List (ℕ × ℕ)) (marked : List Bool)
    → keys ≡ variables hs ms → AreNumbers (variables hs ms) ns (members kind hs ms) → ArePairs (variables hs ms) ps (pairs hs ms) → length marked ≡ length keys → IsLeast (is_marked marked) ns ps
    → is_marked_in keys marked ≡ is_used_as kind hs ms
kind_is hs ms keys kind ns ps marked e numbers are len least =
    ap (λ (ks : List Key). is_marked_in ks marked) e ∙ (λ i k. marked_is (variables hs ms) (apart hs ms) ns (members kind hs ms) ps (pairs hs ms) numbers are marked (len ∙ ap length e) least k i)

pub marked-requires : goal.marked-requires
marked-requires c =
    let u = c.in_ok-uses.uses in
    let e = c.in_ok-uses.ensures in
    let hs = view_heads c.args.scopes.now.heads.items in
    let ms = view_marks c.args.marks.now in
    let keys = variables hs ms in
    let len : length keys ≡ length u.variables.found.keys = ap length (sym e.variables) ∙ views_length u.variables.found.keys in
    record {
      arrays = subst (λ (n : ℕ). All (λ m. m < n) u.arrays.items.items) len (numbers_small keys u.arrays.items.items (members Array hs ms) e.arrays);
      scalars = subst (λ (n : ℕ). All (λ m. m < n) u.scalars.items.items) len (numbers_small keys u.scalars.items.items (members Scalar hs ms) e.scalars);
      pairs = subst (λ (n : ℕ). All (λ p. (p.0 < n) × (p.1 < n)) u.pairs.items.items) len (pairs_small keys u.pairs.items.items (pairs hs ms) e.pairs);
    }

pub returns-clause-arrays : goal.returns-clause-arrays
returns-clause-arrays c =
    let u = c.in_ok-uses.uses in
    let e = c.in_ok-uses.ensures in
    let m = c.in_ok-found.ensures in
    kind_is (view_heads c.args.scopes.now.heads.items) (view_marks c.args.marks.now) (view_variables u.variables.found.keys) Array u.arrays.items.items u.pairs.items.items c.in_ok-found.found.0.items
    e.variables e.arrays e.pairs (m.lengths.0 ∙ sym (views_length u.variables.found.keys)) m.arrays

pub returns-clause-scalars : goal.returns-clause-scalars
returns-clause-scalars c =
    let u = c.in_ok-uses.uses in
    let e = c.in_ok-uses.ensures in
    let m = c.in_ok-found.ensures in
    kind_is (view_heads c.args.scopes.now.heads.items) (view_marks c.args.marks.now) (view_variables u.variables.found.keys) Scalar u.scalars.items.items u.pairs.items.items c.in_ok-found.found.1.items
    e.variables e.scalars e.pairs (m.lengths.1 ∙ sym (views_length u.variables.found.keys)) m.scalars
