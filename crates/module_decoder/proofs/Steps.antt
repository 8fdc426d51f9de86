-- What a reader that remembers its first fault has read, one part after the other.
use Rattle.std.proofs.Common.{◌≡◌, ℕ, suc, ◌+◌, ◌-◌, ◌<◌, ◌≤◌, List, [], ◌∷◌, ◌++◌, Option, Some, None, Result, Ok, Err, Bool, true, false, refl, sym, ap, subst, ◌∙◌, arith}
use Rattle.std.proofs.Common.{cond, length, nat_eq, map, replicate}
use Rattle.std.proofs.lemmas.Bool.{le-leb, lt-leb}
use Rattle.std.specs.Prelude.{IfOk, OnOk, MatchOption}
use Rattle.std.specs.Str.{IsUtf8, is_utf8}
use Rattle.std.specs.declared.alloc.AllocError.{AllocError}
use Rattle.std.proofs.lemmas.Str.{is_utf8-from_IsUtf8, IsUtf8-from_is_utf8}
use Rattle.std.proofs.lemmas.List.{append-nil, map-append}
use Rattle.std.specs.Borrow.{Bor}
use Rattle.module_decoder.specs.declared.fault.DecodeFault.{DecodeFault}
use Rattle.module_decoder.specs.declared.basics.Span.{Span}
use Rattle.module_decoder.specs.declared.reader.Reader.{Reader}
use Rattle.module_decoder.specs.declared.fault.DecodeFault.TheVariants.{BadSection, TooLarge}
use Rattle.module_decoder.specs.Readers.{◌>>=◌, Fails, Gives, Read, both_at, mapped, malformed, index_at, bytes_at, each_at, ended, ended_by, tagged_at, vec_at, whole}
use Rattle.module_decoder.specs.Reading.{ReadBody, before, block_type_at, body_at, body_by, by_end, code_at, code_in, code_parts_at, expr_at, if_at, instr_by, locals_at, made_body, name_at, nested_at, run_by, runs_at, same as itself, second_side, step_at, utf8, val_type_at, with_first}
use Rattle.wasm_types.specs.ModuleGrammar.{CodeForm, Parts}
use Rattle.wasm_types.specs.declared.types.ValType.{ValType}
use Rattle.wasm_types.specs.declared.instr.Instr.{Instr}
use Rattle.wasm_types.specs.declared.opcodes.Lead.{Lead}
use Rattle.wasm_types.specs.declared.opcodes.Lead.TheVariants as lead
use Rattle.wasm_types.specs.Syntax.{Instruction, Instructions, If, Done, Then}
use Rattle.wasm_types.specs.View.{view, views}
use Rattle.wasm_types.proofs.Views.{followed_by, views_push}
use Rattle.module_decoder.specs.declared.body.Step.TheVariants.{Ends, Opens}
use Rattle.module_decoder.specs.declared.body.Opener.{Opener}
use Rattle.module_decoder.specs.declared.body.Opener.TheVariants as opener
use Rattle.module_decoder.specs.declared.body.Ending.{Ending}
use Rattle.module_decoder.specs.declared.body.Ending.TheVariants as ending
use Rattle.module_decoder.specs.Readings.{Checked, RecordsFault, Made, Reads, Stands, StandsAfter, Took, opener_by, tag_at}
use Rattle.module_decoder.proofs.Loops.{fails_bind, with_items, items_step, run_front, with_front, front_step, body_some, body_end, front_nil}

-- nothing is read
unchanged : {Z : Type 0} (was : Option DecodeFault) (all : Result Z DecodeFault) → StandsAfter was was all all
unchanged None all = refl
unchanged (Some e) all = refl

pub still : {Z : Type 0} (a : Reader) (all : Result Z DecodeFault) → Reads a a all all
still a all = record { span = refl; stands = unchanged a.fault all }

-- one part, and then others
pub next_part : {A Z : Type 0} {a b c : Reader} {x : A} {left : Result Z DecodeFault} (r : Result A DecodeFault) (s : Span → A → Result Z DecodeFault) → Reads a b (Ok x) r → Reads b c left (s b.span x) → Reads a c left (r >>= s a.span)
next_part {A} {Z} {a} {b} {c} {x} {left} r s h k = record { span = k.span ∙ h.span; stands = by a.fault b.fault h.stands (subst (λ (p : Span). StandsAfter b.fault c.fault left (s p x)) h.span k.stands) }
  where
    by : (was between : Option DecodeFault) → StandsAfter was between (Ok x) r → StandsAfter between c.fault left (s a.span x) → StandsAfter was c.fault left (r >>= s a.span)
    by (Some e) between f g = subst (λ (was : Option DecodeFault). StandsAfter was c.fault left (s a.span x)) f g
    by None None f g = rw f g
    by None (Some e) f g = subst (λ (now : Option DecodeFault). Stands now left (r >>= s a.span)) (sym g) (fails_bind e r (s a.span) f)

-- what is left is read
pub after : {Z : Type 0} {a b c : Reader} {left between all : Result Z DecodeFault} → Reads a b between all → Reads b c left between → Reads a c left all
after {Z} {a} {b} {c} {left} {between} {all} h k = record { span = k.span ∙ h.span; stands = by a.fault b.fault h.stands k.stands }
  where
    by : (was now : Option DecodeFault) → StandsAfter was now between all → StandsAfter now c.fault left between → StandsAfter was c.fault left all
    by (Some e) now f g = subst (λ (was : Option DecodeFault). StandsAfter was c.fault left between) f g
    by None None f g = rw f g
    by None (Some e) f g = subst (λ (now : Option DecodeFault). Stands now left all) (sym g) f

-- a fault
pub fails : {Z : Type 0} {a b : Reader} {left : Result Z DecodeFault} (fault : DecodeFault) (all : Result Z DecodeFault) → b.span ≡ a.span → RecordsFault fault a.fault b.fault → Fails fault all → Reads a b left all
fails {Z} {a} {b} {left} fault all same f h = record { span = same; stands = by a.fault f }
  where
    by : (was : Option DecodeFault) → RecordsFault fault was b.fault → StandsAfter was b.fault left all
    by None g = rw g h
    by (Some e) g = g

-- what was read from here
pub took : {T Y : Type 0} {a b : Reader} {value : T} (view : T → Y) (read : Result (T × Bor (List ℕ)) DecodeFault) (r : Read Y) → b.span ≡ a.span → Took a.fault b.fault read value b.rest.now → Gives (λ x. (view x.0, x.1.now)) read r
    → Reads a b (Ok (view value, b.rest.now)) r
took {T} {Y} {a} {b} {value} view read r same t g = record { span = same; stands = by a.fault read t g }
  where
    by : (was : Option DecodeFault) (read : Result (T × Bor (List ℕ)) DecodeFault) → Took was b.fault read value b.rest.now → Gives (λ x. (view x.0, x.1.now)) read r → StandsAfter was b.fault (Ok (view value, b.rest.now)) r
    by None (Ok x) h k = rw (h.0, h.1, h.2) k
    by None (Err e) h k = rw h k
    by (Some e) read h k = h

-- the same with other names for what is left, and for all
pub left_is : {Z : Type 0} {a b : Reader} {left other all : Result Z DecodeFault} → left ≡ other → Reads a b left all → Reads a b other all
left_is {Z} {a} {b} {left} {other} {all} q h = subst (λ (r : Result Z DecodeFault). Reads a b r all) q h

-- a value that was made
pub made_is : {T Y : Type 0} {a b : Reader} {value : T} {y : Y} (view : T → Y) (made : Result T AllocError) → b.span ≡ a.span → b.rest.now ≡ a.rest.now → Made a.fault b.fault made value → IfOk made (λ x. view x ≡ y)
    → Reads {Z = Y × List ℕ} a b (Ok (view value, b.rest.now)) (Ok (y, a.rest.now))
made_is {T} {Y} {a} {b} {value} {y} view made same stays h g = record { span = same; stands = by a.fault made h g }
  where
    by : (was : Option DecodeFault) (made : Result T AllocError) → Made was b.fault made value → IfOk made (λ x. view x ≡ y) → StandsAfter {Z = Y × List ℕ} was b.fault (Ok (view value, b.rest.now)) (Ok (y, a.rest.now))
    by None (Ok x) h g = rw (h.0, h.1, g, stays) refl
    by None (Err e) h g = rw h tt
    by (Some e) made h g = h

-- ---- parts

pub mapped_is : {A B : Type 0} {a b : Reader} {x : A} (f : A → B) (r : List ℕ → Read A) → Reads a b (Ok (x, b.rest.now)) (r a.rest.now) → Reads a b (Ok (f x, b.rest.now)) (mapped f r a.rest.now)
mapped_is {A} {B} {a} {b} {x} f r h = next_part (r a.rest.now) (λ c y. Ok (f y.0, y.1)) h (still b (Ok (f x, b.rest.now)))

pub both_is : {A B : Type 0} {a b c : Reader} {x : A} {y : B} (r : Span → List ℕ → Read A) (s : Span → List ℕ → Read B) → Reads a b (Ok (x, b.rest.now)) (r a.span a.rest.now) → Reads b c (Ok (y, c.rest.now)) (s b.span b.rest.now)
    → Reads a c (Ok ((x, y), c.rest.now)) (both_at (r a.span) (s a.span) a.rest.now)
both_is {A} {B} {a} {b} {c} {x} {y} r s h k =
    next_part (r a.span a.rest.now) (λ p v. s p v.1 >>= λ w. Ok ((v.0, w.0), w.1)) h (next_part (s b.span b.rest.now) (λ p w. Ok ((x, w.0), w.1)) k (still c (Ok ((x, y), c.rest.now))))

tagged_by : {A : Type 0} (c : Span) (k : ℕ) (r : List ℕ → Read A) (bytes : List ℕ) → tagged_at c k r bytes ≡ (tag_at k c bytes >>= λ x. r x.1)
tagged_by c k r [] = refl
tagged_by c k r (b ∷ bytes) = by (nat_eq b k)
  where
    by : (is : Bool) → cond is (r bytes) (malformed c) ≡ ((let y : Read Unit = cond is (Ok (tt, bytes)) (malformed c) in y) >>= λ x. r x.1)
    by true = refl
    by false = refl

pub tagged_is : {A : Type 0} {a b c : Reader} {x : A} (k : ℕ) (r : Span → List ℕ → Read A) → Reads a b (Ok (tt, b.rest.now)) (tag_at k a.span a.rest.now) → Reads b c (Ok (x, c.rest.now)) (r b.span b.rest.now)
    → Reads a c (Ok (x, c.rest.now)) (tagged_at a.span k (r a.span) a.rest.now)
tagged_is {A} {a} {b} {c} {x} k r h g = rw (tagged_by a.span k (r a.span) a.rest.now) (next_part (tag_at k a.span a.rest.now) (λ p v. r p v.1) h g)

-- ---- names

utf8_ok : (c : Span) (text rest : List ℕ) → IsUtf8 text → utf8 c (text, rest) ≡ Ok (text, rest)
utf8_ok c text rest u = rw (is_utf8-from_IsUtf8 text u) refl

utf8_bad : (c : Span) (text rest : List ℕ) → (IsUtf8 text → ⊥) → utf8 c (text, rest) ≡ malformed c
utf8_bad c text rest u = by (is_utf8 text) refl
  where
    by : (b : Bool) → is_utf8 text ≡ b → (let r : Read (List ℕ) = cond b (Ok (text, rest)) (malformed c) in r) ≡ malformed c
    by true e = absurd (u (IsUtf8-from_is_utf8 text e))
    by false e = refl

pub name_is : {a b c : Reader} {text : List ℕ} (name : List ℕ) → IsUtf8 text → Reads a b (Ok (text, b.rest.now)) (bytes_at a.span a.rest.now) → Reads {Z = List ℕ × List ℕ} b c (Ok (name, c.rest.now)) (Ok (text, b.rest.now)) → Reads a c (Ok (name, c.rest.now)) (name_at a.span a.rest.now)
name_is {a} {b} {c} {text} name u h k = next_part (bytes_at a.span a.rest.now) utf8 h (rw (utf8_ok b.span text b.rest.now u) k)

pub name_bad : {a b c : Reader} {text : List ℕ} {left : Read (List ℕ)} → (IsUtf8 text → ⊥) → Reads a b (Ok (text, b.rest.now)) (bytes_at a.span a.rest.now) → c.span ≡ b.span → RecordsFault (BadSection b.span.section) b.fault c.fault → Reads a c left (name_at a.span a.rest.now)
name_bad {a} {b} {c} {text} {left} u h same f = next_part (bytes_at a.span a.rest.now) utf8 h (fails (BadSection b.span.section) (utf8 b.span (text, b.rest.now)) same f (utf8_bad b.span text b.rest.now u))

-- ---- elements

-- one after the other, when some are read
more_items : {A : Type 0} (front : List A) (go : List ℕ → Read (List A)) (r : Read A) → with_items front (r >>= λ x. go x.1 >>= λ y. Ok (x.0 ∷ y.0, y.1)) ≡ (r >>= λ x. with_items (front ++ x.0 ∷ []) (go x.1))
more_items front go (Ok x) = items_step front x.0 (go x.1)
more_items front go (Err e) = refl

pub one_more : {A T : Type 0} {a b c d : Reader} {x : T} {new : List T} (r : Span → List ℕ → Read A) (form : T → A) (front : List T) (count i : ℕ) {all : Read (List A)} → i < count
    → Reads a b (with_items (map form front) (each_at (r a.span) (count - i) b.rest.now)) all → Reads b c (Ok (form x, c.rest.now)) (r b.span b.rest.now)
    → Reads {Z = List T × List ℕ} c d (Ok (new, d.rest.now)) (Ok (front ++ x ∷ [], c.rest.now))
    → Reads a d (with_items (map form new) (each_at (r a.span) (count - (i + 1)) d.rest.now)) all
one_more {A} {T} {a} {b} {c} {d} {x} {new} r form front count i {all} lt so_far h k =
    let rest : ℕ = count - (i + 1) in
    let n : count - i ≡ suc rest = omega arith in
    let go : List A → List ℕ → Read (List A) = λ xs bytes. with_items xs (each_at (r a.span) rest bytes) in
    let step : with_items (map form front) (each_at (r a.span) (count - i) b.rest.now) ≡ (r b.span b.rest.now >>= λ y. go (map form front ++ y.0 ∷ []) y.1) =
    rw (n, so_far.span) (more_items (map form front) (each_at (r a.span) rest) (r a.span b.rest.now)) in
    let items : map form (front ++ x ∷ []) ≡ map form front ++ form x ∷ [] = rw map-append refl in
    let pushed : Reads c d (go (map form new) d.rest.now) (go (map form front ++ form x ∷ []) c.rest.now) =
    rw (← items) (next_part (Ok (front ++ x ∷ [], c.rest.now)) (λ s y. go (map form y.0) y.1) k (still d (go (map form new) d.rest.now))) in
    after so_far (rw step (next_part (r b.span b.rest.now) (λ s y. go (map form front ++ y.0 ∷ []) y.1) h pushed))

pub all_items : {A : Type 0} {a b : Reader} {all : Read (List A)} (r : List ℕ → Read A) (front : List A) (count i : ℕ) → count ≤ i → Reads a b (with_items front (each_at r (count - i) b.rest.now)) all → Reads a b (Ok (front, b.rest.now)) all
all_items {A} {a} {b} r front count i le h =
    let none : count - i ≡ 0 = omega arith in
    left_is (rw none (ap (λ (xs : List A). Ok (xs, b.rest.now)) (append-nil front))) h

-- ---- locals

-- what follows what was read
items_bind : {A B : Type 0} (front : List A) (r : Result B DecodeFault) (f : B → Read (List A)) → with_items front (r >>= f) ≡ (r >>= λ x. with_items front (f x))
items_bind front (Ok x) f = refl
items_bind front (Err e) f = refl

more_types : (front : List ValType) (n : ℕ) (go : List ℕ → Read (List ValType)) (r : Read ValType) → with_items front (r >>= λ t. go t.1 >>= λ y. Ok (replicate n t.0 ++ y.0, y.1)) ≡ (r >>= λ t. with_items (front ++ replicate n t.0) (go t.1))
more_types front n go (Ok t) = run_front front (replicate n t.0) (go t.1)
more_types front n go (Err e) = refl

runs_step : (c s : Span) (front : List ValType) (count i left : ℕ) (bytes : List ℕ) → i < count → s ≡ c
    → with_items front (runs_at c (count - i) left bytes) ≡ (index_at s bytes >>= λ n. with_items front (run_by c (runs_at c (count - (i + 1))) left n))
runs_step c s front count i left bytes lt q =
    let n : count - i ≡ suc (count - (i + 1)) = omega arith in
    rw (n, q) (items_bind front (index_at c bytes) (run_by c (runs_at c (count - (i + 1))) left))

pub one_run : {a b c d e : Reader} {n : ℕ} {t : ValType} {new : List ValType} (front : List ValType) (count i left : ℕ) {all : Read (List ValType)} → i < count → n ≤ left
    → Reads a b (with_items front (runs_at a.span (count - i) left b.rest.now)) all → Reads b c (Ok (n, c.rest.now)) (index_at b.span b.rest.now) → Reads c d (Ok (t, d.rest.now)) (val_type_at c.span c.rest.now)
    → Reads {Z = List ValType × List ℕ} d e (Ok (new, e.rest.now)) (Ok (front ++ replicate n t, d.rest.now)) → Reads a e (with_items new (runs_at a.span (count - (i + 1)) (left - n) e.rest.now)) all
one_run {a} {b} {c} {d} {e} {n} {t} {new} front count i left lt small so_far h g k =
    let rest : ℕ = count - (i + 1) in
    let go : List ValType → List ℕ → Read (List ValType) = λ ts bytes. with_items ts (runs_at a.span rest (left - n) bytes) in
    let step : with_items front (run_by a.span (runs_at a.span rest) left (n, c.rest.now)) ≡ (val_type_at c.span c.rest.now >>= λ y. go (front ++ replicate n y.0) y.1) =
    rw (le-leb n left small, h.span, so_far.span) (more_types front n (runs_at a.span rest (left - n)) (val_type_at a.span c.rest.now)) in
    let filled : Reads d e (go new e.rest.now) (go (front ++ replicate n t) d.rest.now) =
    next_part (Ok (front ++ replicate n t, d.rest.now)) (λ s y. go y.0 y.1) k (still e (go new e.rest.now)) in
    after so_far (rw (runs_step a.span b.span front count i left b.rest.now lt so_far.span)
    (next_part (index_at b.span b.rest.now) (λ s y. with_items front (run_by a.span (runs_at a.span rest) left y)) h
    (rw step (next_part (val_type_at c.span c.rest.now) (λ s y. go (front ++ replicate n y.0) y.1) g filled))))

pub too_many : {a b c d : Reader} {n : ℕ} {other all : Read (List ValType)} (front : List ValType) (count i left : ℕ) → i < count → left < n
    → Reads a b (with_items front (runs_at a.span (count - i) left b.rest.now)) all → Reads b c (Ok (n, c.rest.now)) (index_at b.span b.rest.now) → d.span ≡ c.span → RecordsFault TooLarge c.fault d.fault → Reads a d other all
too_many {a} {b} {c} {d} {n} front count i left lt large so_far h kept f =
    let past : run_by a.span (runs_at a.span (count - (i + 1))) left (n, c.rest.now) ≡ Err TooLarge = rw (lt-leb n left large) refl in
    after so_far (rw (runs_step a.span b.span front count i left b.rest.now lt so_far.span)
    (next_part (index_at b.span b.rest.now) (λ s y. with_items front (run_by a.span (runs_at a.span (count - (i + 1))) left y)) h
    (fails TooLarge _ kept f (ap (with_items front) past))))

pub all_runs : {a b : Reader} {all : Read (List ValType)} (front : List ValType) (count i left : ℕ) → count ≤ i → Reads a b (with_items front (runs_at a.span (count - i) left b.rest.now)) all → Reads a b (Ok (front, b.rest.now)) all
all_runs {a} {b} front count i left le h =
    let none : count - i ≡ 0 = omega arith in
    left_is (rw none (ap (λ (ts : List ValType). Ok (ts, b.rest.now)) (append-nil front))) h

-- ---- instructions

more_instrs : (front : Instructions) (go : List ℕ → ReadBody) (r : Read Instruction) → with_front front (r >>= λ i. go i.1 >>= λ b. Ok (with_first i.0 b)) ≡ (r >>= λ i. with_front (followed_by front (Then i.0 Done)) (go i.1))
more_instrs front go (Ok i) = front_step front i.0 (go i.1)
more_instrs front go (Err e) = refl

-- the reader goes on after some bytes
moved : {Z : Type 0} {a b c : Reader} {left all : Result Z DecodeFault} → b.span ≡ a.span → b.fault ≡ a.fault → Reads b c left all → Reads a c left all
moved {Z} {a} {b} {c} {left} {all} same sound h = record { span = h.span ∙ same; stands = subst (λ (was : Option DecodeFault). StandsAfter was c.fault left all) sound h.stands }

pub one_instr : {a b c d e : Reader} (limit : ℕ) (front new : List Instr) (t : Instr) (n i : ℕ) (l : Lead) {all : ReadBody}
    → Reads a b (with_front (views front) (body_by a.span (body_at a.span limit) (n - i) b.rest.now)) all → Reads c d (Ok (view t, d.rest.now)) (instr_by c.span (body_at c.span limit) l c.rest.now)
    → Reads {Z = List Instr × List ℕ} d e (Ok (new, e.rest.now)) (Ok (front ++ t ∷ [], d.rest.now)) → i < n → step_at b.rest.now ≡ Some (Opens l, c.rest.now) → c.span ≡ b.span → c.fault ≡ b.fault
    → Reads a e (with_front (views new) (body_by a.span (body_at a.span limit) (n - (i + 1)) e.rest.now)) all
one_instr {a} {b} {c} {d} {e} limit front new t n i l so_far h k lt at same sound =
    let rest : ℕ = n - (i + 1) in
    let w : n - i ≡ suc rest = omega arith in
    let go : Instructions → List ℕ → ReadBody = λ is bytes. with_front is (body_by a.span (body_at a.span limit) rest bytes) in
    let step : with_front (views front) (body_by a.span (body_at a.span limit) (n - i) b.rest.now) ≡ (instr_by c.span (body_at c.span limit) l c.rest.now >>= λ y. go (followed_by (views front) (Then y.0 Done)) y.1) =
    rw (w, at, same, so_far.span) (more_instrs (views front) (body_by a.span (body_at a.span limit) rest) (instr_by a.span (body_at a.span limit) l c.rest.now)) in
    let pushed : Reads d e (go (views new) e.rest.now) (go (followed_by (views front) (Then (view t) Done)) d.rest.now) =
    rw (← views_push front t) (next_part (Ok (front ++ t ∷ [], d.rest.now)) (λ s y. go (views y.0) y.1) k (still e (go (views new) e.rest.now))) in
    after so_far (rw step (moved same sound (next_part (instr_by c.span (body_at c.span limit) l c.rest.now) (λ s y. go (followed_by (views front) (Then y.0 Done)) y.1) h pushed)))

pub instrs_begun : (a : Reader) (limit n : ℕ) → 0 < limit → n ≡ length a.rest.now → Reads a a (with_front Done (body_by a.span (body_at a.span (limit - 1)) n a.rest.now)) (body_at a.span limit a.rest.now)
instrs_begun a limit n some q =
    rw (q, body_some a.span limit a.rest.now some) (left_is (sym (front_nil (body_by a.span (body_at a.span (limit - 1)) (length a.rest.now) a.rest.now))) (still a (body_by a.span (body_at a.span (limit - 1)) (length a.rest.now) a.rest.now)))

pub instrs_end : {a b c : Reader} (limit : ℕ) (front : Instructions) (n i : ℕ) (e : Ending) {all : ReadBody} → Reads a b (with_front front (body_by a.span (body_at a.span limit) (n - i) b.rest.now)) all
    → i < n → step_at b.rest.now ≡ Some (Ends e, c.rest.now) → c.span ≡ b.span → c.fault ≡ b.fault → Reads a c (Ok (made_body front e c.rest.now)) all
instrs_end {a} {b} {c} limit front n i e so_far lt at same sound =
    after so_far (rw (body_end a.span (body_at a.span limit) front n i b.rest.now e c.rest.now _ lt at refl) (moved same sound (still c (Ok (made_body front e c.rest.now)))))

-- an instruction that holds others
pub opened : (c : Span) (body : List ℕ → ReadBody) (l : Lead) (o : Opener) (bytes : List ℕ) → opener_by l ≡ Some o → instr_by c body l bytes ≡ nested_at c body o bytes
opened c body lead.Block o bytes e = let q : opener.Block ≡ o = cc in rw (← q) refl
opened c body lead.Loop o bytes e = let q : opener.Loop ≡ o = cc in rw (← q) refl
opened c body lead.If o bytes e = let q : opener.If ≡ o = cc in rw (← q) refl
opened c body l o bytes e = cc

-- ---- instructions that hold others

by_end_by : {A : Type 0} (c : Span) (f : Instructions → A) (is : Instructions) (e : Ending) (rest : List ℕ) → by_end c f (made_body is e rest) ≡ (by_end c itself (made_body is e rest) >>= λ x. Ok (f x.0, x.1))
by_end_by c f is ending.End rest = refl
by_end_by c f is ending.Else rest = refl

-- what an end allows
abbrev pub Ended : Reader → Reader → Ending → Type 0
Ended a b e = (is : Instructions) → Reads {Z = Instructions × List ℕ} a b (Ok (is, b.rest.now)) (by_end a.span itself (made_body is e a.rest.now))

pub by_end_is : {a b c : Reader} {t : Instruction} (f : Instructions → Instruction) (is : Instructions) (e : Ending) → Ended a b e → Reads {Z = Instruction × List ℕ} b c (Ok (t, c.rest.now)) (Ok (f is, b.rest.now)) → Reads a c (Ok (t, c.rest.now)) (by_end a.span f (made_body is e a.rest.now))
by_end_is {a} {b} {c} {t} f is e h k =
    rw (by_end_by a.span f is e a.rest.now) (next_part (by_end a.span itself (made_body is e a.rest.now)) (λ p x. Ok (f x.0, x.1)) (h is) k)

-- a block or a loop
pub one_body : {a b c d e : Reader} {t : Instruction} {k : Option ValType} (f : Option ValType → Instructions → Instruction) (limit : ℕ) (is : Instructions) (end : Ending) → Reads a b (Ok (k, b.rest.now)) (block_type_at a.span a.rest.now)
    → Reads b c (Ok (made_body is end c.rest.now)) (body_at b.span limit b.rest.now) → Ended c d end → Reads {Z = Instruction × List ℕ} d e (Ok (t, e.rest.now)) (Ok (f k is, d.rest.now))
    → Reads a e (Ok (t, e.rest.now)) (block_type_at a.span a.rest.now >>= λ x. body_at a.span limit x.1 >>= by_end a.span (f x.0))
one_body {a} {b} {c} {d} {e} {t} {k} f limit is end h g ends made =
    next_part (block_type_at a.span a.rest.now) (λ p x. body_at p limit x.1 >>= by_end p (f x.0)) h (next_part (body_at b.span limit b.rest.now) (λ p. by_end p (f k)) g (by_end_is (f k) is end ends made))

pub one_side : {a b c d : Reader} {t : Instruction} {k : Option ValType} (limit : ℕ) (is : Instructions) (end : Ending) → Reads a b (Ok (k, b.rest.now)) (block_type_at a.span a.rest.now)
    → Reads b c (Ok (made_body is end c.rest.now)) (body_at b.span limit b.rest.now) → end ≡ ending.End → Reads {Z = Instruction × List ℕ} c d (Ok (t, d.rest.now)) (Ok (If k is Done, c.rest.now))
    → Reads a d (Ok (t, d.rest.now)) (if_at a.span (body_at a.span limit) a.rest.now)
one_side {a} {b} {c} {d} {t} {k} limit is end h g q made =
    next_part (block_type_at a.span a.rest.now) (λ p x. body_at p limit x.1 >>= second_side p (body_at p limit) x.0) h (next_part (body_at b.span limit b.rest.now) (λ p. second_side p (body_at p limit) k) g (rw q made))

pub two_sides : {a b c d e f : Reader} {t : Instruction} {k : Option ValType} (limit : ℕ) (is : Instructions) (end : Ending) (js : Instructions) (last : Ending) → Reads a b (Ok (k, b.rest.now)) (block_type_at a.span a.rest.now)
    → Reads b c (Ok (made_body is end c.rest.now)) (body_at b.span limit b.rest.now) → end ≡ ending.Else → Reads c d (Ok (made_body js last d.rest.now)) (body_at c.span limit c.rest.now) → Ended d e last
    → Reads {Z = Instruction × List ℕ} e f (Ok (t, f.rest.now)) (Ok (If k is js, e.rest.now)) → Reads a f (Ok (t, f.rest.now)) (if_at a.span (body_at a.span limit) a.rest.now)
two_sides {a} {b} {c} {d} {e} {f} {t} {k} limit is end js last h g q more ends made =
    next_part (block_type_at a.span a.rest.now) (λ p x. body_at p limit x.1 >>= second_side p (body_at p limit) x.0) h
    (next_part (body_at b.span limit b.rest.now) (λ p. second_side p (body_at p limit) k) g
    (rw q (next_part (body_at c.span limit c.rest.now) (λ p. by_end p (If k is)) more (by_end_is (If k is) js last ends made))))

-- ---- locals and bodies

pub filled : {a b : Reader} {new : List ValType} {value : Unit} (r : Result Unit AllocError) (front : List ValType) (n : ℕ) (t : ValType) → OnOk r (new ≡ front ++ replicate n t)
    → b.span ≡ a.span → b.rest.now ≡ a.rest.now → Made a.fault b.fault r value → Reads {Z = List ValType × List ℕ} a b (Ok (new, b.rest.now)) (Ok (front ++ replicate n t, a.rest.now))
filled {a} {b} {new} {value} r front n t q same stays h = record { span = same; stands = by a.fault r q h }
  where
    by : (was : Option DecodeFault) (r : Result Unit AllocError) → OnOk r (new ≡ front ++ replicate n t) → Made was b.fault r value → StandsAfter {Z = List ValType × List ℕ} was b.fault (Ok (new, b.rest.now)) (Ok (front ++ replicate n t, a.rest.now))
    by None (Ok x) q h = rw (h.0, q, stays) refl
    by None (Err e) q h = rw h tt
    by (Some e) r q h = h

pub whole_is : {A : Type 0} {a b c : Reader} {x : A} (r : Span → List ℕ → Read A) → Reads a b (Ok (x, b.rest.now)) (r a.span a.rest.now) → Reads b c (Ok tt) (ended_by b.span b.rest.now) → Reads a c (Ok x) (whole a.span (r a.span) a.rest.now)
whole_is {A} {a} {b} {c} {x} r h k = next_part (r a.span a.rest.now) ended h (next_part (ended_by b.span b.rest.now) (λ p u. Ok x) k (still c (Ok x)))

-- the entries of a section, and the parts with them
pub part_is : {A : Type 0} {a b : Reader} {xs : List A} (r : Span → List ℕ → Read A) (with : List A → Parts) → Reads a b (Ok xs) (whole a.span (vec_at a.span (r a.span)) a.rest.now)
    → Reads a b (Ok (with xs)) (whole a.span (vec_at a.span (r a.span)) a.rest.now >>= λ ys. Ok (with ys))
part_is {A} {a} {b} {xs} r with h = next_part (whole a.span (vec_at a.span (r a.span)) a.rest.now) (λ c ys. Ok (with ys)) h (still b (Ok (with xs)))

-- what a reader of a part has read
ends : {A : Type 0} {a b : Reader} {x : A} (r : Result A DecodeFault) (part : Result Unit DecodeFault) → a.fault ≡ None → Reads a b (Ok x) r → MatchOption b.fault (part ≡ Ok tt) (λ fault. part ≡ Err fault) → Gives (λ u. x) part r
ends {A} {a} {b} {x} r part sound h m = by b.fault (subst (λ (was : Option DecodeFault). StandsAfter was b.fault (Ok x) r) sound h.stands) m
  where
    by : (now : Option DecodeFault) → Stands now (Ok x) r → MatchOption now (part ≡ Ok tt) (λ fault. part ≡ Err fault) → Gives (λ u. x) part r
    by None f g = rw g f
    by (Some e) f g = rw g f

checked : {A : Type 0} {a b : Reader} {x : A} (r : Result A DecodeFault) (part : Result Unit DecodeFault) → Gives (λ u. x) part r → b.span ≡ a.span → b.rest.now ≡ a.rest.now → Checked a.fault b.fault part
    → Reads {Z = A × List ℕ} a b (Ok (x, b.rest.now)) (r >>= λ y. Ok (y, a.rest.now))
checked {A} {a} {b} {x} r part g same stays h = record { span = same; stands = by a.fault part g h }
  where
    by : (was : Option DecodeFault) (part : Result Unit DecodeFault) → Gives (λ u. x) part r → Checked was b.fault part → StandsAfter {Z = A × List ℕ} was b.fault (Ok (x, b.rest.now)) (r >>= λ y. Ok (y, a.rest.now))
    by None (Ok u) g h = rw (h, g, stays) refl
    by None (Err e) g h = rw h (fails_bind e r (λ y. Ok (y, a.rest.now)) g)
    by (Some e) part g h = h

pub code_is : {a b i j k l d : Reader} {content : List ℕ} (types : List ValType) (body : Instructions) (part : Result Unit DecodeFault) → Reads a b (Ok (content, b.rest.now)) (bytes_at a.span a.rest.now)
    → i.span ≡ before b.span b.rest.now → i.rest.now ≡ content → i.fault ≡ None → Reads i j (Ok (types, j.rest.now)) (locals_at i.span i.rest.now) → Reads j k (Ok (body, k.rest.now)) (expr_at j.span j.rest.now)
    → Reads k l (Ok tt) (ended_by k.span k.rest.now) → MatchOption l.fault (part ≡ Ok tt) (λ fault. part ≡ Err fault) → d.span ≡ b.span → d.rest.now ≡ b.rest.now → Checked b.fault d.fault part
    → Reads a d (Ok (record { locals = types; body = body }, d.rest.now)) (code_at a.span a.rest.now)
code_is {a} {b} {i} {j} {k} {l} {d} {content} types body part h within from sound e f g m same stays q =
    let code : CodeForm = record { locals = types; body = body } in
    let parts : Reads i k (Ok (code, k.rest.now)) (code_parts_at i.span i.rest.now) = mapped_is (λ x. record { locals = x.0; body = x.1 }) (both_at (locals_at i.span) (expr_at i.span)) (both_is locals_at expr_at e f) in
    let all : Gives (λ u. code) part (whole i.span (code_parts_at i.span) i.rest.now) = ends (whole i.span (code_parts_at i.span) i.rest.now) part sound (whole_is code_parts_at parts g) m in
    next_part (bytes_at a.span a.rest.now) code_in h (checked (whole (before b.span b.rest.now) (code_parts_at (before b.span b.rest.now)) content) part (rw (within, from) at all) same stays q)
