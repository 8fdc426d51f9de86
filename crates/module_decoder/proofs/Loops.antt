-- Reading one after the other, as loops do.
use Rattle.std.proofs.Common.{◌≡◌, ℕ, zero, suc, ◌+◌, ◌-◌, ◌<◌, ◌≤◌, List, [], ◌∷◌, ◌++◌, length, Option, Some, Result, Ok, Err, refl, sym, ap, subst, ◌∙◌, append_assoc, arith}
use Rattle.std.proofs.lemmas.List.{append-nil}
use Rattle.std.specs.declared.vec.Vec.{Vec}
use Rattle.std.specs.declared.rc.Rc.{Rc}
use Rattle.std.specs.declared.alloc.Global.{Global}
use Rattle.wasm_types.specs.declared.types.ValType.{ValType}
use Rattle.wasm_types.specs.declared.instr.Instr.{Instr, Block, Loop, If}
use Rattle.wasm_types.specs.Syntax as tree
use Rattle.wasm_types.specs.Syntax.{Instruction, Instructions, Done, Then}
use Rattle.std.proofs.Common.{map}
use Rattle.wasm_types.specs.Syntax.{FuncForm}
use Rattle.wasm_types.specs.ModuleGrammar.{joined}
use Rattle.module_decoder.specs.declared.entry_kinds.Code.{Code}
use Rattle.module_decoder.specs.View.{view_code}
use Rattle.wasm_types.specs.View.{view, views}
use Rattle.wasm_types.proofs.Views.{followed_by, view_block, view_loop, view_if}
use Rattle.module_decoder.specs.declared.fault.DecodeFault.{DecodeFault}
use Rattle.module_decoder.specs.declared.fault.DecodeFault.TheVariants.{BadHeader, Truncated, BadSection, BadInteger, BadOpcode, Float, TooLarge, NoMemory}
use Rattle.module_decoder.specs.declared.basics.Span.{Span}
use Rattle.module_decoder.specs.declared.body.Ending.{Ending}
use Rattle.module_decoder.specs.declared.body.Step.TheVariants.{Ends}
use Rattle.module_decoder.specs.Readers.{◌>>=◌, Fails, Read}
use Rattle.module_decoder.specs.Reading.{Progress, section_at, sections_at, ReadBody, made_body, with_first, step_at, body_by, body_at}

-- a fault that is not want of memory is the reader's
pub fails_bind : {A B : Type 0} (e : DecodeFault) (r : Result A DecodeFault) (f : A → Result B DecodeFault) → Fails e r → Fails e (r >>= f)
fails_bind NoMemory r f h = tt
fails_bind BadHeader r f h = rw h refl
fails_bind (Truncated n) r f h = rw h refl
fails_bind (BadSection n) r f h = rw h refl
fails_bind (BadInteger n) r f h = rw h refl
fails_bind (BadOpcode n) r f h = rw h refl
fails_bind (Float n) r f h = rw h refl
fails_bind TooLarge r f h = rw h refl

pub fails_is : {A : Type 0} (e : DecodeFault) (r s : Result A DecodeFault) → r ≡ s → Fails e s → Fails e r
fails_is e r s q h = subst (Fails e) (sym q) h

-- ---- elements

abbrev pub with_items : {A : Type 0} → List A → Read (List A) → Read (List A)
with_items front read = read >>= λ x. Ok (front ++ x.0, x.1)

pub items_step : {A : Type 0} (front : List A) (x : A) (read : Read (List A)) → with_items front (read >>= λ y. Ok (x ∷ y.0, y.1)) ≡ with_items (front ++ x ∷ []) read
items_step front x (Ok y) = ap (λ xs. Ok (xs, y.1)) (sym (append_assoc front (x ∷ []) y.0))
items_step front x (Err e) = refl

-- ---- instructions

followed-assoc : (a b c : Instructions) → followed_by (followed_by a b) c ≡ followed_by a (followed_by b c)
followed-assoc Done b c = refl
followed-assoc (Then t a) b c = ap (Then t) (followed-assoc a b c)

front_none : (ts : Instructions) → followed_by ts Done ≡ ts
front_none Done = refl
front_none (Then t ts) = ap (Then t) (front_none ts)

abbrev pub with_front : Instructions → ReadBody → ReadBody
with_front front read = read >>= λ b. Ok (made_body (followed_by front b.instrs) b.ending b.rest)

pub front_step : (front : Instructions) (t : Instruction) (read : ReadBody) → with_front front (read >>= λ b. Ok (with_first t b)) ≡ with_front (followed_by front (Then t Done)) read
front_step front t (Ok b) = ap (λ (u : Instructions). Ok (made_body u b.ending b.rest)) (sym (followed-assoc front (Then t Done) b.instrs))
front_step front t (Err f) = refl

pub body_end : (c : Span) (body : List ℕ → ReadBody) (front : Instructions) (n i : ℕ) (bytes : List ℕ) (e : Ending) (after : List ℕ) (total : ReadBody) → i < n → step_at bytes ≡ Some (Ends e, after)
    → with_front front (body_by c body (n - i) bytes) ≡ total → total ≡ Ok (made_body front e after)
body_end c body front n i bytes e after total lt at so_far =
    let k : n - i ≡ suc (n - (i + 1)) = omega arith in
    let one : with_front front (body_by c body (n - i) bytes) ≡ Ok (made_body (followed_by front Done) e after) = rw (k, at) refl in
    sym so_far ∙ one ∙ ap (λ (u : Instructions). Ok (made_body u e after)) (front_none front)

pub body_some : (c : Span) (limit : ℕ) (bytes : List ℕ) → 0 < limit → body_at c limit bytes ≡ body_by c (body_at c (limit - 1)) (length bytes) bytes
unfolding body_at
body_some c zero bytes h = absurd (omega arith)
body_some c (suc d) bytes h = let e : suc d - 1 ≡ d = omega arith in rw e refl

pub body_zero : (c : Span) (limit : ℕ) (bytes : List ℕ) → limit ≡ 0 → body_at c limit bytes ≡ Err TooLarge
unfolding body_at
body_zero c limit bytes e = rw e refl

-- nothing in front
pub front_nil : (read : ReadBody) → with_front Done read ≡ read
front_nil (Ok b) = refl
front_nil (Err f) = refl

-- ---- bodies that are shared

abbrev Shared : Type 0
Shared = Rc (Vec Instr Global) Global

pub block_is : (k : Option ValType) (is : List Instr) (v : Shared) → v.value.items ≡ is → tree.Block k (views is) ≡ view (Block k v)
block_is k is v s = ap (λ (us : List Instr). tree.Block k (views us)) (sym s) ∙ sym (view_block k v)

pub loop_is : (k : Option ValType) (is : List Instr) (v : Shared) → v.value.items ≡ is → tree.Loop k (views is) ≡ view (Loop k v)
loop_is k is v s = ap (λ (us : List Instr). tree.Loop k (views us)) (sym s) ∙ sym (view_loop k v)

pub if_is : (k : Option ValType) (is js : List Instr) (v w : Shared) → v.value.items ≡ is → w.value.items ≡ js → tree.If k (views is) (views js) ≡ view (If k v w)
if_is k is js v w s z =
    let b : tree.If k (views is) (views js) ≡ tree.If k (views v.value.items) (views w.value.items) = rw (s, z) refl in
    b ∙ sym (view_if k v w)

-- ---- runs of locals

pub run_front : (front run : List ValType) (read : Read (List ValType)) → with_items front (read >>= λ y. Ok (run ++ y.0, y.1)) ≡ with_items (front ++ run) read
run_front front run (Ok y) = ap (λ ts. Ok (ts, y.1)) (sym (append_assoc front run y.0))
run_front front run (Err e) = refl

-- ---- sections

sections_step : (total n i : ℕ) (s : Progress) (bytes : List ℕ) (b : ℕ) (after : List ℕ) → i < n → bytes ≡ b ∷ after → sections_at total (n - i) s bytes ≡ (section_at total s b after >>= λ x. sections_at total (n - (i + 1)) x.0 x.1)
sections_step total n i s bytes b after lt q = let k : n - i ≡ suc (n - (i + 1)) = omega arith in rw (q, k) refl

pub sections_next : (total n i : ℕ) (s t : Progress) (bytes : List ℕ) (b : ℕ) (after rest : List ℕ) (all : Result Progress DecodeFault) → i < n → bytes ≡ b ∷ after → section_at total s b after ≡ Ok (t, rest)
    → sections_at total (n - i) s bytes ≡ all → sections_at total (n - (i + 1)) t rest ≡ all
sections_next total n i s t bytes b after rest all lt q h so_far =
    let one : sections_at total (n - i) s bytes ≡ sections_at total (n - (i + 1)) t rest = sections_step total n i s bytes b after lt q ∙ ap (λ (r : Result (Progress × List ℕ) DecodeFault). r >>= λ x. sections_at total (n - (i + 1)) x.0 x.1) h in
    sym one ∙ so_far

pub sections_fail : (e : DecodeFault) (total n i : ℕ) (s : Progress) (bytes : List ℕ) (b : ℕ) (after : List ℕ) (all : Result Progress DecodeFault) → i < n → bytes ≡ b ∷ after → Fails e (section_at total s b after)
    → sections_at total (n - i) s bytes ≡ all → Fails e all
sections_fail e total n i s bytes b after all lt q h so_far =
    fails_is e all _ (sym so_far ∙ sections_step total n i s bytes b after lt q) (fails_bind e (section_at total s b after) (λ x. sections_at total (n - (i + 1)) x.0 x.1) h)

pub sections_past : (total n i : ℕ) (s : Progress) (bytes : List ℕ) (b : ℕ) (after : List ℕ) (all : Result Progress DecodeFault) → n ≤ i → bytes ≡ b ∷ after → sections_at total (n - i) s bytes ≡ all → all ≡ Err TooLarge
sections_past total n i s bytes b after all le q so_far = let k : n - i ≡ 0 = omega arith in sym so_far ∙ rw (q, k) refl

-- ---- functions

joined_nil : (ts : List ℕ) → joined ts [] ≡ []
joined_nil [] = refl
joined_nil (t ∷ ts) = refl

pub joined_done : (front all : List FuncForm) (ts : List ℕ) (codes : List Code) (n : ℕ) → n ≡ 0 → n ≡ length codes → front ++ joined ts (map view_code codes) ≡ all → front ≡ all
joined_done front all ts [] n e q h = sym (append-nil front) ∙ ap (λ (fs : List FuncForm). front ++ fs) (sym (joined_nil ts)) ∙ h
joined_done front all ts (x ∷ codes) n e q h = absurd (omega (arith, e, q))
