-- The code of an expression, from that of its parts.
use Rattle.std.proofs.Common.{◌≡◌, inl, inr, ℕ, suc, Bool, true, false, List, [], ◌∷◌, ◌++◌, length, map, Option, Some, None, ℤ, sym, ap, ◌∙◌}
use Rattle.std.proofs.lemmas.List.{append_assoc, append-nil, map-append}
use Rattle.sem_primitives.specs.declared.table.Listed.{Listed}
use Rattle.sem_primitives.specs.declared.sorts.Sort.{Sort}
use Rattle.sem_primitives.specs.declared.table.Primitive.{Primitive}
use Rattle.sem_primitives.specs.declared.table.Primitive.TheVariants as row
use Rattle.awk_values.specs.declared.comparison.CompareOp.{CompareOp}
use Rattle.wasm_types.specs.Syntax.{Instructions, Done}
use Rattle.wasm_types.specs.declared.instr.Simple.TheVariants.{Call as CallOf, LocalSet}
use Rattle.mid_program.specs.Mid as plain
use Rattle.mid_program.specs.Mid.{Kind, Code, Codes, At, Fixed, Fresh, form_of, parameters_at}
use Rattle.mid_program.specs.Sorted.{count_of}
use Rattle.mid_program.specs.ViewCode.{before, views}
use Rattle.mid_program.specs.declared.code.Operand.{Operand}
use Rattle.mid_program.specs.declared.mid.Operation.{Operation}
use Rattle.lower_model.specs.Arithmetic.{compared, is_value}
use Rattle.lower_model.specs.Emission.{Layout, Immediate, added_or, immediate_in, immediate_or, immediately_compared, all_appended, all_boxed, all_emitted, all_freed, all_given, all_given_pushed, asked, emitted, field_in, field_or, field_read, function_number, keeping_closed, left_over, listed_asked, performed, sequence_closed, slot_set}
use Rattle.lower_model.specs.Quick.{Addition, addition_in}
use Rattle.lower_model.specs.Places.{made_in, array_local, handle_local}
use Rattle.lower_model.specs.Small.{answer_kept, ask_row, code_number, converted, emit, emit_if, let_go, truth}
use Rattle.host_imports.specs.declared.import.Import.TheVariants.{Drop}
use Rattle.lower_pieces.specs.Emits.{Emits}
use Rattle.lower_pieces.specs.Forms.{view_form}
use Rattle.lower_pieces.specs.declared.emitted.Emitted.{Emitted}
use Rattle.lower_pieces.specs.declared.form.Form.{Form}
use Rattle.lower_pieces.proofs.Appended.{◌⨟◌, same}
use Rattle.lower_expressions.specs.CodeAt.{Unrefused}
use Rattle.lower_expressions.specs.Fits.{AllCode, IsGiven}
use Rattle.lower_expressions.specs.Parts.{anyway_with, appended_with, branch_with, called_with, entered, file_asked, forms_in, freed_with, listed_with, operated, replaced_with, stored_when, stored_with, sum_with}
use Rattle.lower_expressions.proofs.FormLemmas.{appended_are, boxed_are, converted_are, forms_counted, freed_are, given_are, pushed_are}
use Rattle.lower_expressions.proofs.Refusals.{still_refused, told}
use Rattle.lower_expressions.proofs.WalkLemmas.{no_items}

-- Operands.

pub next_operand : (es rest : List Operand) (o p : Operand) → es ≡ o ∷ rest → o ≡ p → before p (views rest) ≡ views es
next_operand es rest o p e is = sym (ap views e ∙ ap (λ (x : Operand). before x (views rest)) is)

pub code_emitted : (y : Layout) (fs : List plain.Form) (ts : List ℕ) (c : Code) (es all : Codes) (t w d : ℕ) (a b i z : Emitted) → At c es ≡ all
    → Emits a b (emitted y false fs ts c t w d) → Emits b i (λ k. k) → Emits i z (all_emitted y fs ts es (suc t) w d) → Emits a z (all_emitted y fs ts all t w d)
unfolding emitted all_emitted
code_emitted y fs ts c es all t w d a b i z e p n q k = q k ⨟ n _ ⨟ p (all_emitted y fs ts es (suc t) w d k) ⨟ same (ap (λ (x : Codes). all_emitted y fs ts x t w d k) e)

pub fixed_emitted : (y : Layout) (fs : List plain.Form) (ts : List ℕ) (m : ℕ) (es all : Codes) (t w d : ℕ) (a z : Emitted) → Fixed m es ≡ all
    → Emits a z (all_emitted y fs ts es t w d) → Emits a z (all_emitted y fs ts all t w d)
unfolding emitted all_emitted
fixed_emitted y fs ts m es all t w d a z e q k = q k ⨟ same (ap (λ (x : Codes). all_emitted y fs ts x t w d k) e)

pub fresh_emitted : (y : Layout) (fs : List plain.Form) (ts : List ℕ) (es all : Codes) (t w d : ℕ) (a b z : Emitted) → Fresh es ≡ all
    → Emits a b (λ k. ask_row row.NewArray (emit (LocalSet (array_local y.bases w)) k)) → Emits b z (all_emitted y fs ts es t (suc w) d) → Emits a z (all_emitted y fs ts all t w d)
unfolding emitted all_emitted
fresh_emitted y fs ts es all t w d a b z e p q k = q k ⨟ p (all_emitted y fs ts es t (suc w) d k) ⨟ same (ap (λ (x : Codes). all_emitted y fs ts x t w d k) e)

pub none_emitted : (y : Layout) (fs : List plain.Form) (ts : List ℕ) (es : List Operand) (t w d : ℕ) (a : Emitted) → length es ≡ 0 → Emits a a (all_emitted y fs ts (views es) t w d)
unfolding emitted all_emitted
none_emitted y fs ts es t w d a e k = same (ap (λ (x : List Operand). all_emitted y fs ts (views x) t w d k) (no_items es e))

pub no_form : (fs gs : List plain.Form) (es : List Operand) → length es ≡ 0 → gs ≡ gs ++ forms_in fs (views es)
no_form fs gs es e = sym (append-nil gs) ∙ ap (λ (x : List Operand). gs ++ forms_in fs (views x)) (no_items es e)

pub form_added : (fs : List plain.Form) (c : Code) (es all : Codes) (f : Form) (old mid new : List Form) (b z : Emitted) (code : Instructions → Instructions) → At c es ≡ all → view_form f ≡ form_of fs c
    → Unrefused b (mid ≡ old ++ f ∷ []) → Emits b z code → Unrefused z (map view_form new ≡ map view_form mid ++ forms_in fs es) → Unrefused z (map view_form new ≡ map view_form old ++ forms_in fs all)
form_added fs c es all f old mid new b z code e is (inl refused) p q = inl (still_refused p refused)
form_added fs c es all f old mid new b z code e is (inr added) p (inl refused) = inl refused
form_added fs c es all f old mid new b z code e is (inr added) p (inr q) =
    inr (q ∙ ap (λ (x : List Form). map view_form x ++ forms_in fs es) added
    ∙ ap (λ (x : List plain.Form). x ++ forms_in fs es) (map-append view_form old (f ∷ []))
    ∙ append_assoc (map view_form old) (view_form f ∷ []) (forms_in fs es)
    ∙ ap (λ (x : plain.Form). map view_form old ++ x ∷ forms_in fs es) is
    ∙ ap (λ (x : Codes). map view_form old ++ forms_in fs x) e)

-- Expressions with operands, of forms gs.

pub field_emitted : (y : Layout) (v : Bool) (fs : List plain.Form) (ts : List ℕ) (o : Operation) (es : Codes) (m n : ℤ) (t w d : ℕ) (a z : Emitted) → field_in o es ≡ Some n → m ≡ n
    → Emits a z (field_read y m t) → Emits a z (emitted y v fs ts (plain.Do o es) t w d)
unfolding emitted all_emitted
field_emitted y v fs ts o es m n t w d a z e h p k =
    let rest = added_or y (addition_in o es) t (anyway_with y fs ts o es t w (suc d) Done) k (anyway_with y fs ts o es t w d k) in
    p k ⨟ same (ap (λ (i : ℤ). field_read y i t k) h) ⨟ same (ap (λ (x : Option ℤ). field_or y x t k rest) (sym e))

-- an operation as it is in all cases
pub anyway_emitted : (y : Layout) (fs gs : List plain.Form) (ts : List ℕ) (o : Operation) (es : Codes) (t w d : ℕ) (a b z : Emitted) → Unrefused b (gs ≡ forms_in fs es)
    → Emits a b (all_emitted y fs ts es t w d) → Emits b z (operated y gs o es t d) → Emits a z (anyway_with y fs ts o es t w d)
anyway_emitted y fs gs ts o es t w d a b z e p q k =
    q k ⨟ told (λ (x : List plain.Form). operated y x o es t d k) e
    ⨟ same (converted_are y fs (plain.arguments o) es t d (performed y o es t d k)) ⨟ p _

pub operation_emitted : (y : Layout) (v : Bool) (fs : List plain.Form) (ts : List ℕ) (o : Operation) (es : Codes) (t w d : ℕ) (a z : Emitted) → field_in o es ≡ None → addition_in o es ≡ None
    → Emits a z (anyway_with y fs ts o es t w d) → Emits a z (emitted y v fs ts (plain.Do o es) t w d)
unfolding emitted all_emitted
operation_emitted y v fs ts o es t w d a z none alone p k =
    let rest : Option Addition → Instructions = λ s. added_or y s t (anyway_with y fs ts o es t w (suc d) Done) k (anyway_with y fs ts o es t w d k) in
    p k ⨟ same (ap (λ (s : Option Addition). rest s) (sym alone)) ⨟ same (ap (λ (x : Option ℤ). field_or y x t k (rest (addition_in o es))) (sym none))

pub sum_emitted : (y : Layout) (v : Bool) (fs : List plain.Form) (ts : List ℕ) (o : Operation) (es : Codes) (s : Addition) (t w d : ℕ) (a z : Emitted) → field_in o es ≡ None → addition_in o es ≡ Some s
    → Emits a z (sum_with y fs ts s o es t w d) → Emits a z (emitted y v fs ts (plain.Do o es) t w d)
unfolding emitted all_emitted
sum_emitted y v fs ts o es s t w d a z none some p k =
    let rest : Option Addition → Instructions = λ r. added_or y r t (anyway_with y fs ts o es t w (suc d) Done) k (anyway_with y fs ts o es t w d k) in
    p k ⨟ same (ap (λ (r : Option Addition). rest r) (sym some)) ⨟ same (ap (λ (x : Option ℤ). field_or y x t k (rest (addition_in o es))) (sym none))

listed_are : (y : Layout) (fs : List plain.Form) (l : Listed) (es : Codes) (t d : ℕ) (k : Instructions) → AllCode es
    → listed_with y (forms_in fs es) l t d k ≡ all_boxed y fs es t (all_appended y es t (listed_asked y l (count_of es) t d k))
listed_are y fs l es t d k q =
    boxed_are y fs es t (appended_with y.bases (forms_in fs es) t (listed_asked y l (length (forms_in fs es)) t d k)) q
    ∙ ap (all_boxed y fs es t) (appended_are y fs es t (listed_asked y l (length (forms_in fs es)) t d k) q
    ∙ ap (λ (n : ℕ). all_appended y es t (listed_asked y l n t d k)) (forms_counted fs es q))

pub listing_emitted : (y : Layout) (v : Bool) (fs gs : List plain.Form) (ts : List ℕ) (l : Listed) (es : Codes) (t w d : ℕ) (a b z : Emitted) → AllCode es → Unrefused b (gs ≡ forms_in fs es)
    → Emits a b (all_emitted y fs ts es t w d) → Emits b z (listed_with y gs l t d) → Emits a z (emitted y v fs ts (plain.Over l es) t w d)
unfolding emitted all_emitted
listing_emitted y v fs gs ts l es t w d a b z all e p q k =
    q k ⨟ told (λ (x : List plain.Form). listed_with y x l t d k) e ⨟ same (listed_are y fs l es t d k all) ⨟ p _

called_are : (y : Layout) (fs : List plain.Form) (f : ℕ) (es : Codes) (t w d : ℕ) (k : Instructions) → IsGiven (parameters_at y.calls f) es
    → called_with y (forms_in fs es) f es t w d k
    ≡ all_given y fs (parameters_at y.calls f) es t (all_given_pushed y (parameters_at y.calls f) es t w (emit (CallOf (function_number f)) (answer_kept y.bases t d (all_freed y w (made_in es) k))))
called_are y fs f es t w d k q =
    let ks = parameters_at y.calls f in
    given_are y fs ks es t _ q
    ∙ ap (all_given y fs ks es t) (pushed_are y ks es t w (entered y.bases f t d (freed_with y.bases w (made_in es) k)) q
    ∙ ap (λ (x : Instructions). all_given_pushed y ks es t w (entered y.bases f t d x)) (freed_are y w (made_in es) k))

pub call_emitted : (y : Layout) (v : Bool) (fs gs : List plain.Form) (ts : List ℕ) (f : ℕ) (es : Codes) (t w d : ℕ) (a b z : Emitted) → IsGiven (parameters_at y.calls f) es → Unrefused b (gs ≡ forms_in fs es)
    → Emits a b (all_emitted y fs ts es t w d) → Emits b z (called_with y gs f es t w d) → Emits a z (emitted y v fs ts (plain.Call f es) t w d)
unfolding emitted all_emitted
call_emitted y v fs gs ts f es t w d a b z given e p q k =
    q k ⨟ told (λ (x : List plain.Form). called_with y x f es t w d k) e ⨟ same (called_are y fs f es t w d k given) ⨟ p _

pub replace_emitted : (y : Layout) (v : Bool) (fs gs : List plain.Form) (ts : List ℕ) (every : Bool) (es : Codes) (s : Code) (t w d : ℕ) (a b c z : Emitted) → Unrefused b (gs ≡ forms_in fs es)
    → Emits a b (all_emitted y fs ts es t w d) → Emits b c (replaced_with y gs every es t d)
    → Emits c z (emit_if Done (stored_with y fs ts row.SubResult s t w d Done)) → Emits a z (emitted y v fs ts (plain.Replace every es s) t w d)
unfolding emitted all_emitted
replace_emitted y v fs gs ts every es s t w d a b c z e p q r k =
    r k ⨟ q _ ⨟ told (λ (x : List plain.Form). replaced_with y x every es t d (emit_if Done (stored_with y fs ts row.SubResult s t w d Done) k)) e
    ⨟ same (converted_are y fs _ es t d _) ⨟ p _

-- Expressions of other ones.

pub comparison_emitted : (y : Layout) (v : Bool) (fs : List plain.Form) (ts : List ℕ) (op : CompareOp) (l r : Code) (f g : plain.Form) (t w d : ℕ) (a b c z : Emitted) → f ≡ form_of fs l → g ≡ form_of fs r → immediate_in (is_value f) r ≡ None
    → Emits a b (emitted y false fs ts l t w d) → Emits b c (emitted y false fs ts r (suc t) w d) → Emits c z (compared y.bases op f g t d) → Emits a z (emitted y v fs ts (plain.Compare op l r) t w d)
unfolding emitted all_emitted
comparison_emitted y v fs ts op l r f g t w d a b c z e h none p q s k =
    let k1 = emitted y false fs ts r (suc t) w d (compared y.bases op (form_of fs l) (form_of fs r) t d k) in
    s k ⨟ same (ap (λ (x : plain.Form). compared y.bases op x g t d k) e) ⨟ same (ap (λ (x : plain.Form). compared y.bases op (form_of fs l) x t d k) h) ⨟ q _
    ⨟ same (ap (λ (x : Option Immediate). immediate_or y op (form_of fs l) x t d k k1) (sym (ap (λ (x : plain.Form). immediate_in (is_value x) r) (sym e) ∙ none))) ⨟ p _

pub immediate_emitted : (y : Layout) (v : Bool) (fs : List plain.Form) (ts : List ℕ) (op : CompareOp) (l r : Code) (f : plain.Form) (i : Immediate) (t w d : ℕ) (a b z : Emitted) → f ≡ form_of fs l → immediate_in (is_value f) r ≡ Some i
    → Emits a b (emitted y false fs ts l t w d) → Emits b z (immediately_compared y op f i t d) → Emits a z (emitted y v fs ts (plain.Compare op l r) t w d)
unfolding emitted all_emitted
immediate_emitted y v fs ts op l r f i t w d a b z e some p q k =
    let k1 = emitted y false fs ts r (suc t) w d (compared y.bases op (form_of fs l) (form_of fs r) t d k) in
    q k ⨟ same (ap (λ (x : plain.Form). immediately_compared y op x i t d k) e)
    ⨟ same (ap (λ (x : Option Immediate). immediate_or y op (form_of fs l) x t d k k1) (sym (ap (λ (x : plain.Form). immediate_in (is_value x) r) (sym e) ∙ some))) ⨟ p _

pub line_emitted : (y : Layout) (v : Bool) (fs : List plain.Form) (ts : List ℕ) (s : Code) (t w d : ℕ) (a b z : Emitted)
    → Emits a b (asked y row.GetlineVar t d) → Emits b z (λ k. stored_when y.bases (stored_with y fs ts row.Line s t w d Done) t (code_number y.bases t k)) → Emits a z (emitted y v fs ts (plain.AskLine s) t w d)
unfolding emitted all_emitted
line_emitted y v fs ts s t w d a b z p q k = q k ⨟ p _

pub file_line_emitted : (y : Layout) (v : Bool) (fs : List plain.Form) (ts : List ℕ) (e s : Code) (f : plain.Form) (t w d : ℕ) (a b c z : Emitted) → f ≡ form_of fs e
    → Emits a b (emitted y false fs ts e t w d) → Emits b c (file_asked y.bases f t d)
    → Emits c z (λ k. stored_when y.bases (stored_with y fs ts row.Line s t w d Done) t (code_number y.bases t k)) → Emits a z (emitted y v fs ts (plain.FileLine e s) t w d)
unfolding emitted all_emitted
file_line_emitted y v fs ts e s f t w d a b c z h p q r k =
    r k ⨟ q _ ⨟ same (ap (λ (x : plain.Form). file_asked y.bases x t d (stored_when y.bases (stored_with y fs ts row.Line s t w d Done) t (code_number y.bases t k))) h) ⨟ p _

pub assignment_emitted : (y : Layout) (v : Bool) (fs : List plain.Form) (ts : List ℕ) (x : plain.Slot) (e : Code) (f : plain.Form) (t w d : ℕ) (a b z : Emitted) → f ≡ form_of fs e
    → Emits a b (emitted y false fs ts e t w d) → Emits b z (slot_set y v x f t) → Emits a z (emitted y v fs ts (plain.Set x e) t w d)
unfolding emitted all_emitted
assignment_emitted y v fs ts x e f t w d a b z h p q k = q k ⨟ same (ap (λ (g : plain.Form). slot_set y v x g t k) h) ⨟ p _

pub choice_emitted : (y : Layout) (v : Bool) (fs : List plain.Form) (ts : List ℕ) (s : Sort) (e l r : Code) (f : plain.Form) (t w d : ℕ) (a b c z : Emitted) → f ≡ form_of fs e
    → Emits a b (emitted y false fs ts e t w d) → Emits b c (truth y.bases f t)
    → Emits c z (emit_if (branch_with y fs ts s l t w d Done) (branch_with y fs ts s r t w d Done)) → Emits a z (emitted y v fs ts (plain.Choose s e l r) t w d)
unfolding emitted all_emitted
choice_emitted y v fs ts s e l r f t w d a b c z h p q u k =
    u k ⨟ q _ ⨟ same (ap (λ (g : plain.Form). truth y.bases g t (emit_if (branch_with y fs ts s l t w d Done) (branch_with y fs ts s r t w d Done) k)) h) ⨟ p _

pub sequence_emitted : (y : Layout) (v : Bool) (fs : List plain.Form) (ts : List ℕ) (l r : Code) (f g : plain.Form) (t w d : ℕ) (a b c i z : Emitted) → f ≡ form_of fs l → g ≡ form_of fs r
    → Emits a b (emitted y true fs ts l t w d) → Emits b c (left_over y l f t) → Emits c i (emitted y v fs ts r t w d) → Emits i z (sequence_closed y v r g t) → Emits a z (emitted y v fs ts (plain.Seq l r) t w d)
unfolding emitted all_emitted
sequence_emitted y v fs ts l r f g t w d a b c i z h j p q u x k =
    let whole : plain.Form → plain.Form → Instructions = λ f1 g1. left_over y l f1 t (emitted y v fs ts r t w d (sequence_closed y v r g1 t k)) in
    x k ⨟ u _ ⨟ q _ ⨟ same (ap (λ (g1 : plain.Form). whole f g1) j) ⨟ same (ap (λ (f1 : plain.Form). whole f1 (form_of fs r)) h) ⨟ p _

pub kept_form : (fs : List plain.Form) (l r : Code) (f g : plain.Form) → f ≡ form_of fs l → g ≡ form_of (f ∷ fs) r → g ≡ form_of fs (plain.Let l r)
kept_form fs l r f g h q = q ∙ ap (λ (x : plain.Form). form_of (x ∷ fs) r) h

pub keeping_emitted : (y : Layout) (v : Bool) (fs : List plain.Form) (ts : List ℕ) (l r : Code) (f g : plain.Form) (t w d : ℕ) (a b c z : Emitted) → f ≡ form_of fs l → g ≡ form_of (f ∷ fs) r
    → Emits a b (emitted y false fs ts l t w d) → Emits b c (emitted y v (f ∷ fs) (t ∷ ts) r (suc t) w d)
    → Emits c z (keeping_closed y v r f g t) → Emits a z (emitted y v fs ts (plain.Let l r) t w d)
unfolding emitted all_emitted
keeping_emitted y v fs ts l r f g t w d a b c z h j p q u k =
    let whole : plain.Form → plain.Form → Instructions = λ x1 x2. emitted y v (x1 ∷ fs) (t ∷ ts) r (suc t) w d (keeping_closed y v r x1 x2 t k) in
    u k ⨟ q _
    ⨟ same (ap (λ (x2 : plain.Form). whole f x2) j)
    ⨟ same (ap (λ (x1 : plain.Form). whole x1 (form_of (x1 ∷ fs) r)) h) ⨟ p _

-- Lists of their own.

pub stored_emitted : (y : Layout) (fs : List plain.Form) (ts : List ℕ) (p : Primitive) (s : Code) (f : plain.Form) (t n w d : ℕ) (a b c z : Emitted) → n ≡ suc t → f ≡ form_of (plain.a_value ∷ fs) s
    → Emits a b (λ k. ask_row p (emit (LocalSet (handle_local y.bases (suc t))) k)) → Emits b c (emitted y true (plain.a_value ∷ fs) (n ∷ ts) s (suc (suc t)) w (suc d))
    → Emits c z (λ k. left_over y s f (suc (suc t)) (let_go Drop (handle_local y.bases (suc t)) k)) → Emits a z (stored_with y fs ts p s t w d)
stored_emitted y fs ts p s f t n w d a b c z e j q u x k =
    let rest : plain.Form → Instructions = λ g. left_over y s g (suc (suc t)) (let_go Drop (handle_local y.bases (suc t)) k) in
    x k ⨟ u _
    ⨟ same (ap (λ (m : ℕ). emitted y true (plain.a_value ∷ fs) (m ∷ ts) s (suc (suc t)) w (suc d) (rest f)) e)
    ⨟ same (ap (λ (g : plain.Form). emitted y true (plain.a_value ∷ fs) (suc t ∷ ts) s (suc (suc t)) w (suc d) (rest g)) j)
    ⨟ q _

pub branch_emitted : (y : Layout) (fs : List plain.Form) (ts : List ℕ) (s : Sort) (e : Code) (f : plain.Form) (t w d : ℕ) (a b z : Emitted) → f ≡ form_of fs e
    → Emits a b (emitted y false fs ts e t w (suc d)) → Emits b z (converted y.bases f s t (suc d)) → Emits a z (branch_with y fs ts s e t w d)
branch_emitted y fs ts s e f t w d a b z h p q k = q k ⨟ same (ap (λ (g : plain.Form). converted y.bases g s t (suc d) k) h) ⨟ p _
