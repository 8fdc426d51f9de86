use Rattle.std.proofs.Common.{◌≡◌, ◌+◌, List, [], ◌∷◌, Bool, true, false, Ok, filter, map, drop, get_or, refl, ap, sym, subst, ◌∙◌}
use Rattle.std.proofs.lemmas.List.{drop_all}
use Rattle.awk_grammar.specs.Kinds.{Key, Name, globals_by, is_global, named}
use Rattle.latched.specs.Latched.{Leads}
use Rattle.latched.proofs.LatchedLemmas.{adds_one, leads_all, leads_first, leads_next}
use Rattle.awk_resolve.specs.Marked.{is_marked_in}
use Rattle.awk_resolve.specs.ViewKinds.{view_name}
use Rattle.awk_resolve.specs.ViewNames.{view_variable, view_variables}
use Rattle.awk_resolve.specs.declared.function_names.NameKind.{NameKind}
use Rattle.awk_resolve.specs.declared.scopes.Variable.{Variable}
use Rattle.awk_resolve.specs.declared.scopes.Variable.TheVariants.{Whole}
use Rattle.awk_resolve.proofs.Names.{drop_any}
use Rattle.awk_resolve.proofs.listing.listed_globals.Goals as goal
use Rattle.awk_resolve.proofs.listing.listed_globals.Goals.{in-None, in-Some}

with_one : (f : Key → Bool) (k : Key) (ks : List Key) → f k ≡ true → filter f (k ∷ ks) ≡ k ∷ filter f ks
with_one f k ks e = rw e refl

without : (f : Key → Bool) (k : Key) (ks : List Key) → f k ≡ false → filter f (k ∷ ks) ≡ filter f ks
without f k ks e = rw e refl

pub loop-variable-init : goal.loop-variable-init
loop-variable-init c = leads_first view_name c.new-all.result _ (ap (map view_name) c.new-all.ensures.items)

pub loop-variable-preserved : goal.loop-variable-preserved
loop-variable-preserved c =
    let kinds = c.args.kinds.now in
    let keys = kinds.variables.keys in
    let arrays = is_marked_in (view_variables keys) kinds.arrays.items in
    let xs = c.as_slice-variable-items.result.now in
    let same : xs ≡ keys = c.as_slice-variable-items.ensures.keys in
    let i = c.loop-variable.variable-index in
    let d : Variable = Whole (record { ref_ptr = (0, 0); now = [] }) in
    let v = view_variable (get_or xs i d) in
    let rest = view_variables (drop (i + 1) keys) in
    let whole = globals_by arrays (view_variables keys) in
    let at : view_variables (drop i keys) ≡ v ∷ rest =
    ap (λ (us : List Variable). view_variables (drop i us)) (sym same) ∙ ap view_variables (drop_any xs i d c.loop-variable-test.true) ∙ ap (λ (us : List Variable). v ∷ view_variables (drop (i + 1) us)) same in
    elim c.match-global_name.branch [
      | in-Some w ↦
          let is = w.in-Some.ensures in
          let item : NameKind = record { name = w.in-Some.name; is_array = w.is_array-is_array.result } in
          rw w.all-is (leads_next view_name {xs = named arrays v ∷ []} {ys = globals_by arrays rest} _ (ap (globals_by arrays) at ∙ ap (map (named arrays)) (with_one is_global v rest (is.0))) c.loop-variable.invariant
          (adds_one view_name (Ok item) (named arrays v) w.push.ensures.added (λ j. record { name = is.1 j; is_array = w.is_array-is_array.ensures j })))
      | in-None w ↦ rw w.all-is (subst (λ (ns : List Name). Leads view_name c.loop-variable.all ns whole) (ap (globals_by arrays) at ∙ ap (map (named arrays)) (without is_global v rest w.in-None.ensures)) c.loop-variable.invariant)
    ]

pub returns : goal.returns
returns c =
    let kinds = c.args.kinds.now in
    let keys = kinds.variables.keys in
    let globals = globals_by (is_marked_in (view_variables keys) kinds.arrays.items) in
    leads_all view_name {b = c.loop-variable.all} _ c.into_vec.result (ap (λ (us : List Variable). globals (view_variables us)) (drop_all c.loop-variable.variable-index keys (rw c.as_slice-variable-items.ensures.keys at c.loop-variable-test.false))) c.loop-variable.invariant c.into_vec.ensures.all
