-- The tables at the start of a job show its state.
use Rattle.std.proofs.Common.{◌≡◌, ℕ, ℤ, pos, Bool, true, false, cond, [], ◌∷◌, length, Option, Some, None, refl, sym, ap, subst, ◌∙◌, codes, is_some}
use Rattle.std.specs.Ordering.{int_cmp, int_eq}
use Rattle.std.specs.Cmp.{int_cmp_total}
use Rattle.std.specs.FinMap as map
use Rattle.std.specs.FinMap.{FinMap, int_cmp-IsAntisymmetric}
use Rattle.std.proofs.lemmas.List.{nil_from_length}
use Rattle.sem_primitives.specs.Jobs.{JobForm, arguments_from, environment_in, fault_of_job}
use Rattle.sem_primitives.specs.ClosedJobs.{shared_at_start}
use Rattle.sem_primitives.specs.SharedState.{Pairs, specials_at_start}
use Rattle.sem_primitives.specs.declared.constants.Special.{Special}
use Rattle.host_step.specs.Starts.{first_arrays, state_at_start}
use Rattle.host_step.specs.Tables.{entered}
use Rattle.host_values.specs.Calls.{reserved_handle}
use Rattle.host_values.proofs.Entries.{entries_insert}
use Rattle.host_arrays.specs.Pairs.{first_arrays as no_pairs}
use Rattle.host_texts.specs.States.{no_record, specials_of}
use Rattle.host_values.specs.Forms.{Arrays, Coming, IsHeld, Past, Shows, Stands, state_of}
use Rattle.host_values.proofs.Places.{added, inserted}
use Rattle.host_texts.specs.NameForms.{announced, left_of}
use Rattle.host_tables.specs.Starts.{argv_and_environ, form_of}
use Rattle.host_tables.specs.declared.start.FirstTables.{FirstTables}
use Rattle.world_core.specs.WorldState.{Outside, Source}

-- Places.

-- a map that holds nothing
abbrev pub nothing : {A : Type 0} → FinMap int_cmp A
nothing = map.empty

abbrev pub first_places : FinMap int_cmp ℕ
first_places = map.insert (map.insert nothing (pos 0) 0) (pos 1) 1

pub none_there : {A : Type 0} (q : ℤ) → map.get (nothing {A = A}) q ≡ None
none_there q = map.get-empty int_cmp q

nothing_held : {A : Type 0} → IsHeld (nothing {A = A}) nothing []
nothing_held {A} = record {
  shows = λ q. subst (λ (o : Option ℕ). Shows {A = A} [] o (map.get nothing q)) (sym (none_there q)) (subst (λ (w : Option A). Shows {A = A} [] None w) (sym (none_there q)) tt);
  apart = λ q r n e g. absurd (differ n (sym (none_there q) ∙ e));
}
  where
    differ : (n : ℕ) → ◌≡◌ {A = Option ℕ} None (Some n) → ⊥
    differ n e = cc

both_held : (argv environ : Pairs) → IsHeld (map.insert (map.insert nothing (pos 0) argv) (pos 1) environ) first_places (argv ∷ environ ∷ [])
both_held argv environ =
    added (map.insert nothing (pos 0) argv) (map.insert nothing (pos 0) 0) (argv ∷ []) (added nothing nothing [] nothing_held (pos 0) argv) (pos 1) environ

entries_empty : {A : Type 0} → map.entries (nothing {A = A}) ≡ []
entries_empty {A} = nil_from_length (map.entries (nothing {A = A})) (sym (map.len-entries (nothing {A = A})) ∙ map.len-empty int_cmp A)

entries_first : map.entries first_places ≡ first_arrays
entries_first =
    sym (entries_insert (map.insert nothing (pos 0) 0) (pos 1) 1)
    ∙ ap (entered (pos 1) 1) (sym (entries_insert nothing (pos 0) 0) ∙ ap (entered (pos 0) 0) entries_empty)

-- ARGV and ENVIRON are filled.

pub filled_both : (argv environ : Pairs) → map.insert (map.insert no_pairs (pos 0) argv) (pos 1) environ ≡ map.insert (map.insert nothing (pos 0) argv) (pos 1) environ
filled_both argv environ =
    map.same_map int_cmp_total int_cmp-IsAntisymmetric _ _ (λ r.
    inserted (map.insert no_pairs (pos 0) argv) (pos 1) environ r
    ∙ ap (cond (int_eq r (pos 1)) (Some environ)) (inserted no_pairs (pos 0) argv r ∙ ap (cond (int_eq r (pos 0)) (Some argv)) (inserted (map.insert nothing (pos 0) []) (pos 1) [] r ∙ ap (cond (int_eq r (pos 1)) (Some [])) (inserted nothing (pos 0) [] r)))
    ∙ by (int_eq r (pos 0)) (int_eq r (pos 1)) r
    ∙ sym (inserted (map.insert nothing (pos 0) argv) (pos 1) environ r ∙ ap (cond (int_eq r (pos 1)) (Some environ)) (inserted nothing (pos 0) argv r)))
  where
    by : (b c : Bool) (r : ℤ) → cond c (Some environ) (cond b (Some argv) (cond c (Some []) (cond b (Some []) (map.get (nothing {A = Pairs}) r)))) ≡ cond c (Some environ) (cond b (Some argv) (map.get (nothing {A = Pairs}) r))
    by true true r = refl
    by true false r = refl
    by false true r = refl
    by false false r = refl

pub reserved_first : (argv environ : Pairs) → map.get (map.insert (map.insert nothing (pos 0) argv) (pos 1) environ) reserved_handle ≡ None
reserved_first argv environ =
    inserted (map.insert nothing (pos 0) argv) (pos 1) environ reserved_handle ∙ inserted nothing (pos 0) argv reserved_handle ∙ none_there reserved_handle

pub there_first : map.contains_key no_pairs (pos 0) ≡ true
there_first = ap is_some (inserted (map.insert nothing (pos 0) []) (pos 1) [] (pos 0) ∙ inserted nothing (pos 0) [] (pos 0))

pub there_second : (argv : Pairs) → map.contains_key (map.insert no_pairs (pos 0) argv) (pos 1) ≡ true
there_second argv = ap is_some (inserted no_pairs (pos 0) argv (pos 1) ∙ inserted (map.insert nothing (pos 0) []) (pos 1) [] (pos 1))

-- The state.

pub record Begins (t : FirstTables) (job : JobForm) : Type 0 where
  pub handles : t.handles ≡ nothing
  pub arrays : t.arrays ≡ argv_and_environ job
  pub iterators : t.iterators ≡ nothing
  pub specials : (s : Special) → specials_of t.texts.specials.values s ≡ specials_at_start (length job.operands) s
  pub held : t.texts.current_record ≡ no_record
  pub substituted : t.texts.substituted ≡ None
  pub names : announced t.names ≡ []
  pub assigns : left_of t.names ≡ job.assigns
  pub pending : t.names.pending ≡ None
  pub arguments : t.arguments.items ≡ []
  pub fault : t.fault ≡ fault_of_job job

module _ (t : FirstTables) (job : JobForm) (b : Begins t job) (input : Source) (outside : Outside) (coming : Coming) where
  abbrev argv : Pairs
  argv = arguments_from 0 (codes "awk" ∷ job.operands)

  abbrev environ : Pairs
  environ = environment_in [] job.environment

  abbrev past : Past
  past = record { array_places = first_places; arrays = argv ∷ environ ∷ []; iterator_places = nothing; iterators = [] }

  state_is : state_of (form_of t (shared_at_start job input outside) coming) past ≡ state_at_start job input outside
  state_is i = record {
    names = record { values = (ap map.entries b.handles ∙ entries_empty) i; arrays = entries_first i; iterators = entries_empty {A = ℕ} i };
    shared = record (shared_at_start job input outside) {
      inner = record (shared_at_start job input outside).inner {
        specials = λ s. b.specials s i;
        whole = (b.held i).whole;
        fields = (b.held i).fields;
        names = b.names i;
        assigns = b.assigns i;
        pending = b.pending i;
        substituted = b.substituted i;
      };
    };
    arguments = b.arguments i;
    fault = b.fault i;
  }

  pub stands : Stands (form_of t (shared_at_start job input outside) coming) (state_at_start job input outside)
  stands = record {
    past = past;
    state = sym state_is;
    arrays = subst (λ (m : Arrays). IsHeld m first_places (argv ∷ environ ∷ [])) (sym b.arrays) (both_held argv environ);
    iterators = subst (λ m. IsHeld m nothing []) (sym b.iterators) nothing_held;
    first = record {
      argv = inserted (map.insert nothing (pos 0) 0) (pos 1) 1 (pos 0) ∙ inserted nothing (pos 0) 0 (pos 0);
      environ = inserted (map.insert nothing (pos 0) 0) (pos 1) 1 (pos 1);
    };
  }
