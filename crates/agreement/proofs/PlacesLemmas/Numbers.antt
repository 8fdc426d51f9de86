-- The host's tables through a run: their numbers differ and are below 2^31, so a table is as long as there are numbers that stand for something.
use Rattle.std.proofs.Common.{◌≡◌, ℕ, zero, suc, ◌+◌, ◌^◌, ◌<◌, ◌≤◌, Bool, true, false, not, cond, nat_eq, ℤ, pos, List, [], ◌∷◌, length, Option, Some, None, Result, Ok, Err, refl, sym, ap, ◌∙◌, subst, arith}
use Rattle.std.proofs.lemmas.Bool.{eqb-false, eqb-true}
use Rattle.std.proofs.lemmas.Option.{none-some}
use Rattle.std.specs.Cmp.{int_cmp_total, signed_Decides}
use Rattle.std.specs.FinMap.Entries.{by_order, find-put, find-where_key}
use Rattle.std.specs.Int.{w32, cast_signed}
use Rattle.std.specs.Ordering.{eq_by_cmp, int_cmp, int_eq, is_eq}
use Rattle.std.specs.declared.cmp.Ordering.{Ordering}
use Rattle.std.specs.declared.cmp.Ordering.TheVariants.{Less, Equal, Greater}
use Rattle.awk_values.specs.declared.fault.Fault.{Fault}
use Rattle.sem_primitives.specs.Sorts.{InAnswer}
use Rattle.sem_primitives.specs.declared.sorts.Answer.{Answer}
use Rattle.sem_primitives.specs.declared.sorts.Answer.TheVariants as answer
use Rattle.sem_primitives.specs.declared.sorts.Sort.{Sort}
use Rattle.sem_primitives.specs.declared.sorts.Sort.TheVariants as sort
use Rattle.world_core.specs.WorldState.{Action}
use Rattle.wasm_store.specs.Memories.{MemoryForm}
use Rattle.wasm_store.specs.declared.word.Word.{Word}
use Rattle.wasm_store.specs.declared.word.Word.TheVariants.{I32, I64}
use Rattle.wasm_model.specs.Machines.{Asks, Conf, Ends, Goes as Goes_on, ProgramForm, Turn, turn}
use Rattle.wasm_model.specs.Runs.{Steps, TakenAs}
use Rattle.wasm_model.specs.declared.host.HostAnswer.{HostAnswer}
use Rattle.host_step.specs.Answers.{FreeFor, encode}
use Rattle.host_step.specs.Arguments.{removed_front, without_front}
use Rattle.host_step.specs.HostState.{HostState, Names}
use Rattle.host_step.specs.HostStep.{Acts, Comes, Goes, Refuses, Settles, StepBy, StepIf, Traps, comes}
use Rattle.host_imports.specs.Imports.{import_answer, import_at}
use Rattle.host_step.specs.Starts.{first_names}
use Rattle.host_step.specs.Tables.{Table, entered, look, without}
use Rattle.host_imports.specs.declared.import.Import.{Import}
use Rattle.agreement.specs.Refined.Owners.{there}
use Rattle.agreement.specs.Modules.TableMeaning.{table_meaning}
use Rattle.agreement.specs.Places.NoLeaks.{StandOnce}
use Rattle.agreement.proofs.RefinedLemmas.Replying.{KeptBy, comes_keeps}
use Rattle.agreement.proofs.RefinedLemmas.Room.{owns_one, total, total_none, total_sum}
use Rattle.agreement.proofs.PlacesLemmas.Totals.{one_exactly, total_same}

-- What is taken away.

either_none : {A : Type 0} → (b : Bool) → cond {A = Option A} b None None ≡ None
either_none true = refl
either_none false = refl

abbrev passes : ℤ → ℤ → Bool
passes k n = not (eq_by_cmp int_cmp k n)

still_none : {A : Type 0} → (k q : ℤ) (t : Table A) → look t q ≡ None → look (without k t) q ≡ None
still_none k q t e =
    find-where_key int_cmp (passes k) q (λ x h. ap (passes k) (sym ((signed_Decides q x).0 (ap is_eq h)))) t
    ∙ (ap (λ o. cond (passes k q) o None) e ∙ either_none (passes k q))

without_table : {A : Type 0} → (n : ℕ) (k : ℤ) (t : Table A) → StandOnce n t → StandOnce n (without k t)
without_table n k [] h = tt
without_table n k (e ∷ t) h = by (passes k e.0) (without_table n k t h.4)
  where
    by : (b : Bool) → StandOnce n (without k t) → StandOnce n (cond b (e ∷ without k t) (without k t))
    by true later = (h.0, h.1, h.2, still_none k e.0 t h.3, later)
    by false later = later

removed_table : {A : Type 0} → (n : ℕ) (t : Table A) (ws : List Word) → StandOnce n t → StandOnce n (removed_front t ws)
removed_table n t [] h = h
removed_table n t (I64 m ∷ rest) h = h
removed_table n t (I32 m ∷ rest) h = without_table n (cast_signed w32 m) t h

-- What is entered.

entered_table : {A : Type 0} → (n q : ℕ) (x : A) (t : Table A) → q < n → look t (pos q) ≡ None → StandOnce n t → StandOnce n (entered (pos q) x t)
entered_table n q x [] l free h = (q, refl, l, refl, tt)
entered_table n q x (e ∷ t) l free h = by (int_cmp (pos q) e.0) refl free (λ f. entered_table n q x t l f h.4)
  where
    -- the new number is not that of the entry
    apart : (b : Bool) → int_eq e.0 (pos q) ≡ b → int_cmp (pos q) e.0 ≡ Greater → cond b (Some x) (look t e.0) ≡ None
    apart false d r = h.3
    apart true d r = let s = (signed_Decides (pos q) e.0).1 (sym ((signed_Decides e.0 (pos q)).0 d)) in let f = sym (ap is_eq r) ∙ s in cc

    by : (o : Ordering) → int_cmp (pos q) e.0 ≡ o → cond (is_eq o) (Some e.1) (look t (pos q)) ≡ None → (look t (pos q) ≡ None → StandOnce n (entered (pos q) x t)) →
        StandOnce n (by_order o ((pos q, x) ∷ (e ∷ t)) ((e.0, x) ∷ t) (e ∷ entered (pos q) x t))
    by Less r f later = (q, refl, l, free, h)
    by Equal r f later = absurd (none-some e.1 (sym f))
    by Greater r f later = (h.0, h.1, h.2, find-put int_cmp int_cmp_total e.0 (pos q) x t ∙ apart (int_eq e.0 (pos q)) refl r, later f)

-- All tables.

pub record AreTables (N : Names) : Type 0 where
  pub values : StandOnce (2 ^ 31) N.values
  pub arrays : StandOnce (2 ^ 31) N.arrays
  pub iterators : StandOnce (2 ^ 31) N.iterators

front_tables : (s : Sort) (ws : List Word) (N : Names) → AreTables N → AreTables (without_front s ws N)
front_tables sort.Value ws N h = record { values = removed_table (2 ^ 31) N.values ws h.values; arrays = h.arrays; iterators = h.iterators }
front_tables sort.Number ws N h = h
front_tables sort.Array ws N h = record { values = h.values; arrays = removed_table (2 ^ 31) N.arrays ws h.arrays; iterators = h.iterators }
front_tables sort.Iterator ws N h = record { values = h.values; arrays = h.arrays; iterators = removed_table (2 ^ 31) N.iterators ws h.iterators }

sort_tables : (q : ℕ) (N : Names) (s : Sort) (x : InAnswer (answer.Of s)) → FreeFor N (answer.Of s) x q → AreTables N → AreTables (encode q N (answer.Of s) x).1
sort_tables q N sort.Value x f h = record { values = entered_table (2 ^ 31) q x N.values f.below f.free h.values; arrays = h.arrays; iterators = h.iterators }
sort_tables q N sort.Number x f h = h
sort_tables q N sort.Array x f h = record { values = h.values; arrays = entered_table (2 ^ 31) q x N.arrays f.below f.free h.arrays; iterators = h.iterators }
sort_tables q N sort.Iterator x f h = record { values = h.values; arrays = h.arrays; iterators = entered_table (2 ^ 31) q x N.iterators f.below f.free h.iterators }

option_tables : (q : ℕ) (N : Names) (x : InAnswer answer.ValueOrEnd) → FreeFor N answer.ValueOrEnd x q → AreTables N → AreTables (encode q N answer.ValueOrEnd x).1
option_tables q N None f h = h
option_tables q N (Some v) f h = record { values = entered_table (2 ^ 31) q v N.values f.below f.free h.values; arrays = h.arrays; iterators = h.iterators }

encoded_tables : (q : ℕ) (N : Names) (a : Answer) (x : InAnswer a) → FreeFor N a x q → AreTables N → AreTables (encode q N a x).1
encoded_tables q N (answer.Of s) x f h = sort_tables q N s x f h
encoded_tables q N answer.ValueOrEnd x f h = option_tables q N x f h
encoded_tables q N answer.Nothing x f h = h
encoded_tables q N answer.Truth x f h = h
encoded_tables q N answer.Done x f h = h
encoded_tables q N answer.Input x f h = h
encoded_tables q N answer.Assign x f h = h
encoded_tables q N answer.Stream x f h = h
encoded_tables q N answer.Name x f h = h

-- A step of the host keeps them.

abbrev HasTables : HostState → Type 0
HasTables s = AreTables s.names

settled_tables : (a : Answer) (s : HostState) (left : Names) (d : Acts (InAnswer a)) (r : Result (InAnswer a) Fault) (v : HostAnswer) (s1 : HostState) (out : List Action) → AreTables left → Settles a s left d r v s1 out → HasTables s1
settled_tables a s left d (Ok x) v s1 out h g = subst HasTables (sym g.2.state) (encoded_tables g.0 left a x g.1 h)
settled_tables a s left d (Err k) v s1 out h g = subst HasTables (sym g.state) h

by_tables : (a : Answer) (s : HostState) (x : Comes (InAnswer a)) (v : HostAnswer) (s1 : HostState) (out : List Action) → HasTables s → KeptBy AreTables x → StepBy a s x v s1 out → HasTables s1
by_tables a s (Traps k) v s1 out h l g = subst HasTables (sym g.state) h
by_tables a s Refuses v s1 out h l g = subst HasTables (sym g.state) h
by_tables a s (Goes left d) v s1 out h l g = settled_tables a s left d d.does.answer v s1 out l g

step_tables : (o : Option Import) (s : HostState) (ws : List Word) (mem : List ℕ) (v : HostAnswer) (s1 : HostState) (out : List Action) → HasTables s → StepIf o s ws mem v s1 out → HasTables s1
step_tables None s ws mem v s1 out h g = subst HasTables (sym g.state) h
step_tables (Some i) s ws mem v s1 out h g = by_tables (import_answer i) s (comes i ws mem s) v s1 out h (comes_keeps AreTables front_tables i s ws mem h) g

taken_tables : (t : Turn) (s : HostState) (mem : MemoryForm) (out : List Action) (c1 : Conf) (s1 : HostState) → HasTables s → TakenAs table_meaning t s mem out c1 s1 → HasTables s1
taken_tables (Goes_on c) s mem out c1 s1 h t = subst HasTables (sym t.1) h
taken_tables (Ends e) s mem out c1 s1 h t = absurd t
taken_tables (Asks n ws c) s mem out c1 s1 h t = step_tables (import_at n) s ws mem.bytes _ s1 out h t.1.1

-- SO DOES A RUN
pub steps_tables : (m : ProgramForm) (n : ℕ) (c : Conf) (s : HostState) (out : List Action) (c1 : Conf) (s1 : HostState) → AreTables s.names → Steps table_meaning m n c s out c1 s1 → AreTables s1.names
steps_tables m zero c s out c1 s1 h t = subst HasTables (sym t.1) h
steps_tables m (suc n) c s out c1 s1 h t = steps_tables m n t.0 t.1 t.3 c1 s1 (taken_tables (turn m c) s c.memory t.2 t.0 t.1 h t.4) t.5

pub first_tables : AreTables first_names
first_tables = record {
  values = tt;
  arrays = (0, refl, omega arith, refl, (1, refl, omega arith, refl, tt));
  iterators = tt;
}

-- How many numbers stand for something.

-- the number of the first entry is that of no other
one_more : {A : Type 0} (e : ℤ × A) (t : Table A) (m : ℕ) → e.0 ≡ pos m → look t e.0 ≡ None → (q : ℕ) →
    there (look (e ∷ t) (pos q)) ≡ owns_one true m q + there (look t (pos q))
one_more e t m number none q = by (nat_eq q m) refl
  where
    by : (b : Bool) → nat_eq q m ≡ b → there (look (e ∷ t) (pos q)) ≡ cond {A = ℕ} b 1 0 + there (look t (pos q))
    by true d =
        let same : pos q ≡ e.0 = ap pos (eqb-true q m d) ∙ sym number in
        let found = ap (λ z. there (cond z (Some e.1) (look t (pos q)))) ((signed_Decides (pos q) e.0).1 same) in
        let free = ap there (ap (look t) same ∙ none) in
        omega (arith, found, free)
    by false d = let x = ap (λ z. there (cond z (Some e.1) (look t (pos q)))) (other (int_eq (pos q) e.0) refl) in omega (arith, x)
      where
        number_in : ℤ → ℕ
        number_in (pos n) = n
        number_in _ = zero

        other : (b : Bool) → int_eq (pos q) e.0 ≡ b → int_eq (pos q) e.0 ≡ false
        other false f = f
        other true f = absurd (eqb-false q m d (ap number_in ((signed_Decides (pos q) e.0).0 f ∙ number)))

-- A TABLE IS as long as so many numbers stand for something
pub length_counted : {A : Type 0} (n : ℕ) (t : Table A) → StandOnce n t → length t ≡ total (λ q. there (look t (pos q))) 0 n
length_counted n [] h = sym (total_none (λ q. 0) 0 n (λ q l. refl))
length_counted n (e ∷ t) h =
    let l = length_counted n t h.4 in
    let s = total_sum (owns_one true h.0) (λ q. there (look t (pos q))) 0 n in
    let w = total_same (λ q. there (look (e ∷ t) (pos q))) (λ q. owns_one true h.0 q + there (look t (pos q))) 0 n (one_more e t h.0 h.1 h.3) in
    let c = one_exactly h.0 n h.2 in
    omega (arith, l, s, w, c)

-- what stands for something is below the limit
pub found_below : {A : Type 0} (n : ℕ) (t : Table A) (q : ℕ) → StandOnce n t → 1 ≤ there (look t (pos q)) → q < n
found_below n [] q h l = absurd (omega (arith, l))
found_below n (e ∷ t) q h l = by (nat_eq q h.0) refl (found_below n t q h.4)
  where
    by : (b : Bool) → nat_eq q h.0 ≡ b → (1 ≤ there (look t (pos q)) → q < n) → q < n
    by true d later = let x = eqb-true q h.0 d in let y = h.2 in omega (arith, x, y)
    by false d later = let x = one_more e t h.0 h.1 h.3 q in let y = ap (λ z. cond {A = ℕ} z 1 0) d in later (omega (arith, l, x, y))
