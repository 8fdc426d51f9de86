-- Rows: what a caller that waits holds, marks, and assignments of the command line.
use Rattle.std.proofs.Common.{◌≡◌, inl, inr, ℕ, zero, false, List, [], ◌∷◌, Option, Some, None, pos, refl, ap, arith}
use Rattle.std.specs.Fmt.{digits}
use Rattle.std.specs.Prelude.{codes}
use Rattle.awk_values.specs.declared.value.Value.{Value}
use Rattle.awk_values.specs.declared.value.Value.TheVariants.{StrNum}
use Rattle.sem_primitives.specs.Jobs.{JobForm, Environment}
use Rattle.sem_primitives.specs.declared.constants.NameKind.TheVariants.{Scalar}
use Rattle.sem_primitives.specs.declared.sorts.Sort.{Sort}
use Rattle.sem_primitives.specs.declared.sorts.Sort.TheVariants as sort
use Rattle.wasm_store.specs.declared.word.Word.TheVariants.{I32, I64}
use Rattle.wasm_types.specs.Syntax.{Done, Instructions, Plain, Then}
use Rattle.wasm_types.specs.declared.instr.Simple.TheVariants.{Nop}
use Rattle.wasm_model.specs.Machines.{Conf, ProgramForm}
use Rattle.wasm_model.specs.Runs.{Steps}
use Rattle.host_step.specs.HostState.{HostState}
use Rattle.host_step.specs.Starts.{state_in}
use Rattle.world_core.specs.WorldState.{Source}
use Rattle.sem_primitives.specs.declared.table.Primitive.TheVariants as row
use Rattle.mid_program.specs.declared.mid.Operation.TheVariants.{Host}
use Rattle.mid_program.specs.Mid.{Boxed, Unboxed, Code as MidCode, Do, Call, Get, Parameter, At, End}
use Rattle.lower_model.specs.Small.{minus_one, text_beside}
use Rattle.agreement.specs.Modules.TableMeaning.{table_meaning}
use Rattle.agreement.specs.Places.Assigned.{IsPending, IsWord, Somewhere}
use Rattle.agreement.specs.Places.NoLeaks.{BareParameters, EachPlace, IsMarked, LocalsWait, StandOnce, count}
use Rattle.agreement.proofs.PlacesLemmas.Pending.{Few}

-- a boxed and an unboxed parameter, the answer's local, one operand that is pending, and an iterator
abbrev caller : List (Option Sort)
caller = Some sort.Value ∷ (None ∷ (None ∷ (Some sort.Value ∷ (None ∷ (Some sort.Iterator ∷ [])))))

pub caller_waits : LocalsWait 1 (Boxed ∷ (Unboxed ∷ [])) caller
caller_waits = (refl, (refl, (refl, (inr refl, refl, (inr (inl refl), tt)))))

pub held_by_caller : count sort.Value caller ∷ (count sort.Iterator caller ∷ []) ≡ 2 ∷ (1 ∷ [])
held_by_caller = refl

-- where no operand is pending this is one value too many
pub too_much : LocalsWait 0 (Boxed ∷ (Unboxed ∷ [])) caller → ⊥
too_much h = elim h.1.1.1.0 [ inl e ↦ cc | inr q ↦ elim q [ inl e ↦ cc | inr e ↦ cc ] ]

-- a number stands for one thing, and an i64 is not a handle
pub stands_once : StandOnce {A = ℕ} 8 ((pos 0, 0) ∷ ((pos 1, 1) ∷ []))
stands_once = (0, refl, omega arith, refl, (1, refl, omega arith, refl, tt))

pub stands_twice : StandOnce {A = ℕ} 8 ((pos 1, 0) ∷ ((pos 1, 1) ∷ [])) → ⊥
stands_twice h = let e = h.3 in cc

pub not_a_handle : EachPlace (Some sort.Value ∷ []) (I64 7 ∷ []) → ⊥
not_a_handle h = let e = h.0 in cc

-- a name without a handle has a number that is not the mark; one with a handle has the mark
pub unmarked : IsMarked Unboxed (I32 minus_one) (I64 7)
unmarked = inl (refl, λ e. cc)

pub marked : IsMarked Unboxed (I32 5) (I64 text_beside)
marked = inr ((λ e. cc), refl)

pub no_text_beside_a_parameter : BareParameters (Unboxed ∷ []) (I64 text_beside ∷ []) → ⊥
no_text_beside_a_parameter h = h.0 refl

-- The command line assigns "A" to the fourth name: it has done so once this was pending, and to no other name. At the start of a run nothing is pending.

abbrev number_in : Option (ℕ × Value) → ℕ
number_in None = zero
number_in (Some x) = x.0

abbrev here : Instructions → Conf
here code = record { frame = record { values = []; labels = []; locals = []; code = code }; result = None; callers = []; memory = record { bytes = []; most = 0 }; table = []; globals = [] }

module _ (job : JobForm) (input : Source) (outside : Environment) (m : ProgramForm) where
  abbrev start : HostState
  start = state_in job input outside

  abbrev told : HostState
  told = record start { shared = record start.shared { inner = record start.shared.inner { pending = Some (3, StrNum (65 ∷ [])) } } }

  pub fourth_pending : IsPending 3 told
  fourth_pending = (StrNum (65 ∷ []), refl)

  pub third_not : IsPending 2 told → ⊥
  third_not h = let e : 3 ≡ 2 = ap number_in h.1 in absurd (omega (arith, e))

  pub none_at_start : (i : ℕ) → IsPending i start → ⊥
  none_at_start i h = let e = h.1 in cc

  abbrev way : Steps table_meaning m 1 (here (Then (Plain Nop) Done)) told [] (here Done) told
  way = (here Done, told, [], [], (refl, refl, refl), (refl, refl, refl), refl)

  pub fourth_assigned : Somewhere (IsPending 3) m 1 (here (Then (Plain Nop) Done)) told [] (here Done) told way
  fourth_assigned = inl fourth_pending

  pub third_not_assigned : Somewhere (IsPending 2) m 1 (here (Then (Plain Nop) Done)) told [] (here Done) told way → ⊥
  third_not_assigned h = elim h [ inl q ↦ third_not q | inr q ↦ third_not q ]

-- The job `-v B=2` with the operand "A=1", once A, B and C are announced: words assign to the first two. Without `-v`, and where ARGV has no element, no word assigns.

abbrev words : JobForm
words = record { operands = codes "A=1" ∷ []; assigns = (codes "B", codes "2") ∷ []; environment = [] }

abbrev no_words : JobForm
no_words = record { operands = []; assigns = []; environment = [] }

module _ (input : Source) (outside : Environment) where
  abbrev announced : JobForm → HostState
  announced job =
      let start = state_in job input outside in
      record start { shared = record start.shared { inner = record start.shared.inner { names = (codes "A", Scalar) ∷ ((codes "B", Scalar) ∷ ((codes "C", Scalar) ∷ [])) } } }

  abbrev emptied : HostState
  emptied = let start = announced no_words in record start { shared = record start.shared { inner = record start.shared.inner { arrays = [] ∷ ([] ∷ []) } } }

  pub operand_assigns : IsWord words 0 (announced words)
  unfolding digits
  operand_assigns = (codes "A", refl, inr (1, codes "1", refl))

  pub option_assigns : IsWord words 1 (announced words)
  option_assigns = (codes "B", refl, inl (0, codes "2", refl))

  pub none_assigns : (i : ℕ) → IsWord no_words i emptied → ⊥
  none_assigns i h = elim h.2 [ inl q ↦ (let e = q.2 in cc) | inr q ↦ (let e = q.2 in cc) ]

-- In the code of `a b f(c)` one operand is pending under the call.

abbrev parameter : ℕ → MidCode
parameter i = Get (Parameter false i)

abbrev joined : MidCode → MidCode → MidCode
joined a b = Do (Host row.Concat) (At a (At b End))

abbrev calls : MidCode
calls = joined (joined (parameter 0) (parameter 1)) (Call 0 (At (parameter 2) End))

pub one_pending : Few 1 zero calls
one_pending = ((tt, (tt, tt)), ((omega arith, (tt, tt)), tt))

pub not_without : Few 0 zero calls → ⊥
not_without h = omega (arith, h.1.0.0)
