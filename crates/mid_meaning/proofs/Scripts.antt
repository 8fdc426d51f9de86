-- The code of a script ends as the script does.
use Rattle.std.proofs.Common.{◌≡◌, ℕ, zero, suc, ◌+◌, Bool, true, false, List, [], ◌∷◌, refl, sym, ◌∙◌}
use Rattle.std.specs.Prelude.{if◌then◌else◌}
use Rattle.awk_grammar.specs.Trees.{Tree, Item, Pattern}
use Rattle.sem_scripts.specs.Names.{Scope}
use Rattle.sem_scripts.specs.ScriptState.{Execution, ◌>>=◌, ◌>>◌, give, look}
use Rattle.sem_scripts.specs.Meaning.{Calls}
use Rattle.mid_program.specs.MidMeaning.{evaluated}
use Rattle.mid_program.specs.Translation.{code_of}
use Rattle.mid_meaning.proofs.Binding.{assoc, under}
use Rattle.sem_scripts.specs.ScriptState.{nothing, change}
use Rattle.sem_scripts.specs.Statements.{Flow, Normal, after, test_of, all_done}
use Rattle.mid_program.specs.Mid.{Step, Block, If, NoStep, Then}
use Rattle.mid_program.specs.MidMeaning.{stepped, all_stepped}
use Rattle.mid_program.specs.Translation.{steps_code}
use Rattle.mid_program.specs.Texts.{texts_in, stmts_texts, pattern_texts, item_texts, items_texts, functions_texts}
use Rattle.mid_meaning.proofs.Stands.{AllStand, all_stand, first_part, second_part}
use Rattle.std.specs.Prelude.{map}
use Rattle.awk_grammar.specs.Trees as item
use Rattle.sem_scripts.specs.Names.{Function, Resolved, function_at}
use Rattle.sem_scripts.specs.ScriptState.{with_range}
use Rattle.sem_scripts.specs.Statements.{called, entered, scope_in}
use Rattle.sem_scripts.specs.Items.{top, print_record, pattern_ranges, range_open, range_opens, range_closes, where_met, items_done, begun, ended}
use Rattle.sem_scripts.specs.Items.{reads_records}
use Rattle.sem_scripts.specs.ScriptRun.{as_name, run_with, parts_of}
use Rattle.mid_program.specs.Mid.{IsOpen, Mark, Routine}
use Rattle.mid_program.specs.MidMeaning.{EndsAs, global_name, routine_name, mid_called, mid_parts, routine_at}
use Rattle.mid_program.specs.Texts.{texts_of_script}
use Rattle.mid_program.specs.Translation.{where_code, items_code, begin_code, end_code, routine_code, program_with, program_of}
use Rattle.mid_meaning.proofs.Expressions.{chosen}
use Rattle.mid_program.specs.Mid.{Kind, Boxed, ArrayKind, parameters_at}
use Rattle.mid_program.specs.Sorted.{calls_of, is_many}
use Rattle.mid_program.specs.Texts.{stmt_texts, all_texts}
use Rattle.sem_scripts.specs.Names.{Name}
use Rattle.mid_program.specs.Translation.{kind_of, declared_code}
use Rattle.mid_meaning.proofs.Trees.{Heads}
use Rattle.mid_meaning.proofs.Statements.{alone, plainly, holds_same, steps_same}

-- what a test decides to do, as a statement
decided : (c : Execution Bool) (m : Execution (Unit {0})) → (c >>= λ b. if b then (m >> give Normal) else give Normal) ≡ ((c >>= λ b. if b then m else nothing) >> give Normal)
decided c m = sym (assoc c (λ b. if b then m else nothing) (λ u. give Normal) ∙ under c (λ b. (if b then m else nothing) >> give Normal) (λ b. if b then (m >> give Normal) else give Normal) (λ b. chosen b m nothing (λ u. give Normal) (m >> give Normal) (give Normal) refl refl))

-- the other way round
unless_so : (c : Execution Bool) (m : Execution (Unit {0})) → (c >>= λ b. if b then give Normal else (m >> give Normal)) ≡ ((c >>= λ b. if b then nothing else m) >> give Normal)
unless_so c m = sym (assoc c (λ b. if b then nothing else m) (λ u. give Normal) ∙ under c (λ b. (if b then nothing else m) >> give Normal) (λ b. if b then give Normal else (m >> give Normal)) (λ b. chosen b nothing m (λ u. give Normal) (give Normal) (m >> give Normal) refl refl))

print_stands : (texts : List (List ℕ)) → AllStand texts (stmts_texts print_record)
unfolding stmt_texts stmts_texts texts_in all_texts
print_stands texts = tt

module _ (texts : List (List ℕ)) (parameters : List (List Kind)) (n : ℕ) (calls : Calls) (scope : Scope) (heads : Heads parameters scope) where
  abbrev run : Step → Execution Flow
  run s = stepped texts parameters n calls s

  abbrev marking : ℕ → Bool → Tree → Step
  marking i b t = If (code_of texts scope t) (Mark i b) (Block NoStep)

  marked : (i : ℕ) (b : Bool) (t : Tree) → AllStand texts (texts_in t) → run (marking i b t) ≡ ((test_of scope n calls t >>= λ c. if c then change (with_range i b) else nothing) >> give Normal)
  unfolding stepped all_stepped
  marked i b t f =
      (λ j. holds_same texts parameters n calls scope heads t f j >>= λ c. if c then (change (with_range i b) >> give Normal) else give Normal)
      ∙ decided (test_of scope n calls t) (change (with_range i b))

  opens : (i : ℕ) (t : Tree) → AllStand texts (texts_in t) → run (If (IsOpen i) (Block NoStep) (marking i true t)) ≡ (range_opens scope n calls i t >> give Normal)
  unfolding stepped all_stepped evaluated
  opens i t f =
      (λ j. look (range_open i) >>= λ c. if c then give Normal else marked i true t f j)
      ∙ unless_so (look (range_open i)) (test_of scope n calls t >>= λ c. if c then change (with_range i true) else nothing)

  closes : (i : ℕ) (u : Tree) (s : Step) (action : Execution Flow) → AllStand texts (texts_in u) → run s ≡ action →
      run (If (IsOpen i) (Block (Then (marking i false u) (Then s NoStep))) (Block NoStep)) ≡ (look (range_open i) >>= λ now. if now then (range_closes scope n calls i u >> action) else give Normal)
  unfolding stepped all_stepped evaluated
  closes i u s action f p =
      (λ j. look (range_open i) >>= λ now. if now then (marked i false u f j >>= λ flow. after flow (alone (run s) j)) else give Normal)
      ∙ (λ j. look (range_open i) >>= λ now. if now then (plainly (range_closes scope n calls i u) (p j) j) else give Normal)

  met_same : (i : ℕ) (p : Pattern) (s : Step) (action : Execution Flow) → AllStand texts (pattern_texts p) → run s ≡ action → run (where_code texts scope i p s) ≡ where_met scope n calls i p action
  unfolding stepped all_stepped
  met_same i (item.One t) s action f p = λ j. holds_same texts parameters n calls scope heads t f j >>= λ b. if b then p j else give Normal
  met_same i (item.Between t u) s action f p =
      (λ j. opens i t (first_part texts (texts_in t) (texts_in u) f) j >>= λ flow. after flow (alone (run (If (IsOpen i) (Block (Then (marking i false u) (Then s NoStep))) (Block NoStep))) j))
      ∙ (λ j. (range_opens scope n calls i t >> give Normal) >>= λ flow. after flow (closes i u s action (second_part texts (texts_in t) (texts_in u) f) p j))
      ∙ plainly (range_opens scope n calls i t) (look (range_open i) >>= λ now. if now then (range_closes scope n calls i u >> action) else give Normal)

  items_same : (i : ℕ) (is : List Item) → AllStand texts (items_texts is) → all_stepped texts parameters n calls (items_code texts scope i is) ≡ items_done scope n calls i is
  unfolding stepped all_stepped items_done
  items_same i [] f = refl
  items_same i (item.Function g ps ss ∷ is) f = items_same i is (second_part texts (item_texts (item.Function g ps ss)) (items_texts is) f)
  items_same i (item.Begin ss ∷ is) f = items_same i is (second_part texts (item_texts (item.Begin ss)) (items_texts is) f)
  items_same i (item.End ss ∷ is) f = items_same i is (second_part texts (item_texts (item.End ss)) (items_texts is) f)
  items_same i (item.Nothing ∷ is) f = items_same i is (second_part texts (item_texts item.Nothing) (items_texts is) f)
  items_same i (item.Always ss ∷ is) f = λ j. steps_same texts parameters n calls scope heads ss (first_part texts (item_texts (item.Always ss)) (items_texts is) f) j >>= λ flow. after flow (items_same i is (second_part texts (item_texts (item.Always ss)) (items_texts is) f) j)
  items_same i (item.When p ss ∷ is) f = λ j. met_same i p (Block (steps_code texts scope ss)) (all_done scope n calls ss) (first_part texts (pattern_texts p) (stmts_texts ss) (first_part texts (item_texts (item.When p ss)) (items_texts is) f)) (steps_same texts parameters n calls scope heads ss (second_part texts (pattern_texts p) (stmts_texts ss) (first_part texts (item_texts (item.When p ss)) (items_texts is) f))) j >>= λ flow. after flow (items_same (pattern_ranges p + i) is (second_part texts (item_texts (item.When p ss)) (items_texts is) f) j)
  items_same i (item.Lone p ∷ is) f = λ j. met_same i p (Block (steps_code texts scope print_record)) (all_done scope n calls print_record) (first_part texts (item_texts (item.Lone p)) (items_texts is) f) (steps_same texts parameters n calls scope heads print_record (print_stands texts)) j >>= λ flow. after flow (items_same (pattern_ranges p + i) is (second_part texts (item_texts (item.Lone p)) (items_texts is) f) j)

  begin_same : (is : List Item) → AllStand texts (items_texts is) → all_stepped texts parameters n calls (begin_code texts scope is) ≡ begun scope n calls is
  unfolding stepped all_stepped begun
  begin_same [] f = refl
  begin_same (item.Begin ss ∷ is) f = λ j. steps_same texts parameters n calls scope heads ss (first_part texts (item_texts (item.Begin ss)) (items_texts is) f) j >>= λ flow. after flow (begin_same is (second_part texts (item_texts (item.Begin ss)) (items_texts is) f) j)
  begin_same (item.Function g ps ss ∷ is) f = begin_same is (second_part texts (item_texts (item.Function g ps ss)) (items_texts is) f)
  begin_same (item.End ss ∷ is) f = begin_same is (second_part texts (item_texts (item.End ss)) (items_texts is) f)
  begin_same (item.Nothing ∷ is) f = begin_same is (second_part texts (item_texts item.Nothing) (items_texts is) f)
  begin_same (item.Always ss ∷ is) f = begin_same is (second_part texts (item_texts (item.Always ss)) (items_texts is) f)
  begin_same (item.When p ss ∷ is) f = begin_same is (second_part texts (item_texts (item.When p ss)) (items_texts is) f)
  begin_same (item.Lone p ∷ is) f = begin_same is (second_part texts (item_texts (item.Lone p)) (items_texts is) f)

  end_same : (is : List Item) → AllStand texts (items_texts is) → all_stepped texts parameters n calls (end_code texts scope is) ≡ ended scope n calls is
  unfolding stepped all_stepped ended
  end_same [] f = refl
  end_same (item.End ss ∷ is) f = λ j. steps_same texts parameters n calls scope heads ss (first_part texts (item_texts (item.End ss)) (items_texts is) f) j >>= λ flow. after flow (end_same is (second_part texts (item_texts (item.End ss)) (items_texts is) f) j)
  end_same (item.Function g ps ss ∷ is) f = end_same is (second_part texts (item_texts (item.Function g ps ss)) (items_texts is) f)
  end_same (item.Begin ss ∷ is) f = end_same is (second_part texts (item_texts (item.Begin ss)) (items_texts is) f)
  end_same (item.Nothing ∷ is) f = end_same is (second_part texts (item_texts item.Nothing) (items_texts is) f)
  end_same (item.Always ss ∷ is) f = end_same is (second_part texts (item_texts (item.Always ss)) (items_texts is) f)
  end_same (item.When p ss ∷ is) f = end_same is (second_part texts (item_texts (item.When p ss)) (items_texts is) f)
  end_same (item.Lone p ∷ is) f = end_same is (second_part texts (item_texts (item.Lone p)) (items_texts is) f)

-- Functions, and whole scripts.

body_same : (texts : List (List ℕ)) (parameters : List (List Kind)) (n : ℕ) (calls : Calls) (script : Resolved) (fs : List Function) → Heads parameters (top script) → AllStand texts (functions_texts fs) → (f : ℕ) →
    all_stepped texts parameters n calls (routine_at (map (routine_code texts script) fs) f).body ≡ all_done (scope_in script (function_at fs f)) n calls (function_at fs f).body
unfolding all_stepped all_done
body_same texts parameters n calls script [] heads fine f = refl
body_same texts parameters n calls script (g ∷ fs) heads fine zero = steps_same texts parameters n calls (scope_in script g) heads g.body (first_part texts (stmts_texts g.body) (functions_texts fs) fine)
body_same texts parameters n calls script (g ∷ fs) heads fine (suc f) = body_same texts parameters n calls script fs heads (second_part texts (stmts_texts g.body) (functions_texts fs) fine) f

heads_by : (texts : List (List ℕ)) (script : Resolved) (fs : List Function) (f : ℕ) → parameters_at (map (λ (r : Routine). r.parameters) (map (routine_code texts script) fs)) f ≡ map kind_of (function_at fs f).parameters
heads_by texts script [] f = refl
heads_by texts script (g ∷ fs) zero = refl
heads_by texts script (g ∷ fs) (suc f) = heads_by texts script fs f

pub heads_of_program : (texts : List (List ℕ)) (script : Resolved) → Heads (calls_of (program_with texts script)) (top script)
heads_of_program texts script = heads_by texts script script.functions

called_same : (texts : List (List ℕ)) (script : Resolved) → AllStand texts (functions_texts script.functions) → (n : ℕ) → mid_called (program_with texts script) n ≡ called script n
unfolding mid_called called
called_same texts script fine zero = refl
called_same texts script fine (suc n) =
    (λ i f locals. entered locals (all_stepped texts (calls_of (program_with texts script)) n (called_same texts script fine n i) (routine_at (map (routine_code texts script) script.functions) f).body))
    ∙ (λ i f locals. entered locals (body_same texts (calls_of (program_with texts script)) n (called script n) script script.functions (heads_of_program texts script) fine f i))

-- the names are the same

is_array_again : (b : Bool) → is_many (if b then ArrayKind else Boxed) ≡ b
is_array_again true = refl
is_array_again false = refl

pub globals_again : (ns : List Name) → map global_name (map declared_code ns) ≡ ns
globals_again [] = refl
globals_again (x ∷ ns) = λ i. record { name = x.name; is_array = is_array_again x.is_array i } ∷ globals_again ns i

pub functions_again : (texts : List (List ℕ)) (script : Resolved) (fs : List Function) → map routine_name (map (routine_code texts script) fs) ≡ map as_name fs
functions_again texts script [] = refl
functions_again texts script (f ∷ fs) = λ i. as_name f ∷ functions_again texts script fs i

-- the parts of a run do the same
parts_same : (texts : List (List ℕ)) (script : Resolved) → AllStand texts (items_texts script.items) → AllStand texts (functions_texts script.functions) → (n : ℕ) → mid_parts n (program_with texts script) ≡ parts_of n script
parts_same texts script fine functions n =
    (λ i. record {
      globals = globals_again script.globals i;
      functions = functions_again texts script script.functions i;
      begin = all_stepped texts (calls_of (program_with texts script)) n (called_same texts script functions n i) (begin_code texts (top script) script.items) >> nothing;
      reads = reads_records script.items;
      items = all_stepped texts (calls_of (program_with texts script)) n (called_same texts script functions n i) (items_code texts (top script) 0 script.items) >> nothing;
      end = all_stepped texts (calls_of (program_with texts script)) n (called_same texts script functions n i) (end_code texts (top script) script.items) >> nothing;
    })
    ∙ (λ i. record {
      globals = script.globals;
      functions = map as_name script.functions;
      begin = begin_same texts (calls_of (program_with texts script)) n (called script n) (top script) (heads_of_program texts script) script.items fine i >> nothing;
      reads = reads_records script.items;
      items = items_same texts (calls_of (program_with texts script)) n (called script n) (top script) (heads_of_program texts script) 0 script.items fine i >> nothing;
      end = end_same texts (calls_of (program_with texts script)) n (called script n) (top script) (heads_of_program texts script) script.items fine i >> nothing;
    })

-- every resolved script
pub code_ends_as : (script : Resolved) → EndsAs (program_of script) script
code_ends_as script setting turns = λ i. run_with setting turns (parts_same (texts_of_script script) script
    (first_part (texts_of_script script) (items_texts script.items) (functions_texts script.functions) (all_stand script)) (second_part (texts_of_script script) (items_texts script.items) (functions_texts script.functions) (all_stand script)) turns i)
