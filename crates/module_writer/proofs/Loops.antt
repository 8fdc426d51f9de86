-- Writing one after the other.
use Rattle.std.proofs.Common.{◌≡◌, ℕ, zero, suc, ◌+◌, ◌-◌, ◌<◌, ◌≤◌, List, [], ◌∷◌, length, map, drop, get_or, Option, Some, None, refl, sym, ap, subst, ◌∙◌, arith, drop-cons, ◌==◌, if◌then◌else◌}
use Rattle.std.proofs.Math.Dec.{eqb-suc-zero}
use Rattle.std.proofs.lemmas.List.{drop_all, length-map}
use Rattle.wasm_types.specs.declared.instr.Instr.{Instr}
use Rattle.wasm_types.specs.Leb128Texts.{and_then}
use Rattle.wasm_types.specs.declared.types.ValType.{ValType}
use Rattle.wasm_types.specs.declared.module.SectionId.{SectionId}
use Rattle.wasm_types.specs.Instructions.{block_code}
use Rattle.wasm_types.specs.Syntax.{Instructions, Done}
use Rattle.wasm_types.specs.View.{view, views}
use Rattle.module_writer.specs.declared.fault.WriteFault.{WriteFault}
use Rattle.module_writer.specs.declared.fault.WriteFault.TheVariants.{TooLarge, NoMemory}
use Rattle.module_writer.specs.declared.output.Output.{Output}
use Rattle.module_writer.specs.Outputs.{Stands, StandsAfter, Adds}
use Rattle.module_writer.specs.Writers.{Written, Fails, byte_to, each_to, index_to, vec_to}
use Rattle.module_writer.specs.Writing.{opened_to, within_to, else_to, instr_to, instrs_to, section_to, vec_section_to}

pub fails_then : (e : WriteFault) (r : Written) (f : List ℕ → Written) → Fails e r → Fails e (and_then r f)
fails_then TooLarge r f h = rw h refl
fails_then NoMemory r f h = tt

stands_then : (was between now : Option WriteFault) (mid new : List ℕ) (r : Written) (f : List ℕ → Written) → StandsAfter was between mid r → StandsAfter between now new (f mid) → StandsAfter was now new (and_then r f)
stands_then (Some e) between now mid new r f h k = subst (λ (x : Option WriteFault). StandsAfter x now new (f mid)) h k
stands_then None None now mid new r f h k = rw h k
stands_then None (Some e) now mid new r f h k = subst (λ (x : Option WriteFault). Stands x new (and_then r f)) (sym k) (fails_then e r f h)

-- what one writer adds, and then another
pub both : {a b c : Output} (r : Written) (f : List ℕ → Written) → Adds a b r → Adds b c (f b.bytes.items) → Adds a c (and_then r f)
both {a} {b} {c} r f h k = record { stands = stands_then a.refused b.refused c.refused b.bytes.items c.bytes.items r f h.stands k.stands }

unchanged : (was : Option WriteFault) (bytes : List ℕ) → StandsAfter was was bytes (Some bytes)
unchanged None bytes = refl
unchanged (Some e) bytes = refl

pub nothing : (a : Output) → Adds a a (Some a.bytes.items)
nothing a = record { stands = unchanged a.refused a.bytes.items }

-- ---- elements

pub next : {A : Type 0} (all : List A) (i : ℕ) (x : A) → i < length all → x ≡ get_or all i x → drop i all ≡ x ∷ drop (i + 1) all
next all i x h is =
    let one_more : suc i ≡ i + 1 = omega arith in
    drop-cons all i x h ∙ (ap (λ (y : _). y ∷ drop (suc i) all) (sym is) ∙ ap (λ (m : ℕ). x ∷ drop m all) one_more)

-- a loop over elements that are written by their plain data
module _ {A B : Type 0} (p : A → List ℕ → Written) (f : B → A) (all : List B) where
  pub begun : {a b c : Output} → Adds a b (index_to (length all) a.bytes.items) → Adds b c (each_to p (map f all) b.bytes.items) → Adds a c (vec_to p (map f all) a.bytes.items)
  begun {a} {b} {c} h k = both (index_to (length (map f all)) a.bytes.items) (each_to p (map f all)) (rw (length-map all f) h) k

  pub one_more : {a b c : Output} (i : ℕ) (x : B) → i < length all → x ≡ get_or all i x → Adds a b (p (f x) a.bytes.items) → Adds b c (each_to p (map f (drop (i + 1) all)) b.bytes.items)
      → Adds a c (each_to p (map f (drop i all)) a.bytes.items)
  one_more {a} {b} {c} i x lt is h k =
      subst (λ (ys : List B). Adds a c (each_to p (map f ys) a.bytes.items)) (sym (next all i x lt is)) (both (p (f x) a.bytes.items) (each_to p (map f (drop (i + 1) all))) h k)

  pub all_done : (a : Output) (i : ℕ) → length all ≤ i → Adds a a (each_to p (map f (drop i all)) a.bytes.items)
  all_done a i le = subst (λ (ys : List B). Adds a a (each_to p (map f ys) a.bytes.items)) (sym (drop_all i all le)) (nothing a)

-- what an entry section is where there are some
pub not_empty : {A B : Type 0} (k : SectionId) (p : A → List ℕ → Written) (f : B → A) (all : List B) (out : List ℕ) → 1 ≤ length all → vec_section_to k p (map f all) out ≡ section_to k (vec_to p (map f all) []) out
not_empty k p f [] out some = absurd (omega (arith, some))
not_empty k p f (x ∷ xs) out some = refl

-- a loop over instructions
module _ (limit : ℕ) (all : List Instr) where
  pub one_more_instr : {a b c : Output} (i : ℕ) (x : Instr) → i < length all → x ≡ get_or all i x → Adds a b (instr_to limit (view x) a.bytes.items) → Adds b c (instrs_to limit (views (drop (i + 1) all)) b.bytes.items)
      → Adds a c (instrs_to limit (views (drop i all)) a.bytes.items)
  one_more_instr {a} {b} {c} i x lt is h k =
      subst (λ (ys : List Instr). Adds a c (instrs_to limit (views ys) a.bytes.items)) (sym (next all i x lt is)) (both (instr_to limit (view x) a.bytes.items) (instrs_to limit (views (drop (i + 1) all))) h k)

  pub all_instrs : (a : Output) (i : ℕ) → length all ≤ i → Adds a a (instrs_to limit (views (drop i all)) a.bytes.items)
  all_instrs a i le = subst (λ (ys : List Instr). Adds a a (instrs_to limit (views ys) a.bytes.items)) (sym (drop_all i all le)) (nothing a)

-- ---- blocks

pub inside : {a b : Output} (d : ℕ) (body : ℕ → List ℕ → Written) → 1 ≤ d → Adds a b (body (d - 1) a.bytes.items) → Adds a b (within_to d body a.bytes.items)
inside zero body some h = absurd (omega (arith, some))
inside (suc d) body some h = rw (eqb-suc-zero d) h

pub opened : {a b c d e : Output} (op : ℕ) (k : Option ValType) (inner : List ℕ → Written) → Adds a b (byte_to op a.bytes.items) → Adds b c (byte_to (block_code k) b.bytes.items) → Adds c d (inner c.bytes.items) → Adds d e (byte_to 0x0b d.bytes.items)
    → Adds a e (opened_to op k inner a.bytes.items)
opened {a} {b} {c} {d} {e} op k inner f g h i =
    both (byte_to op a.bytes.items) (λ o. and_then (byte_to (block_code k) o) (λ p. and_then (inner p) (byte_to 0x0b))) f
    (both (byte_to (block_code k) b.bytes.items) (λ p. and_then (inner p) (byte_to 0x0b)) g (both (inner c.bytes.items) (byte_to 0x0b) h i))

pub else_none : (is : List Instr) (body : List ℕ → Written) (out : Output) → length is ≡ 0 → Adds out out (else_to (views is) body out.bytes.items)
else_none [] body out h = nothing out
else_none (i ∷ is) body out h = absurd (omega (arith, h))

pub else_some : (is : List Instr) (body : List ℕ → Written) (out : List ℕ) → 1 ≤ length is → else_to (views is) body out ≡ and_then (byte_to 0x05 out) body
else_some [] body out h = absurd (omega (arith, h))
else_some (i ∷ is) body out h = refl

then_ends : (r : Written) → and_then r (λ out. Some out) ≡ r
then_ends None = refl
then_ends (Some out) = refl

same_then : (r : Written) (f g : List ℕ → Written) → ((out : List ℕ) → f out ≡ g out) → and_then r f ≡ and_then r g
same_then None f g e = refl
same_then (Some out) f g e = e out

opened_same : (op : ℕ) (k : Option ValType) (f g : List ℕ → Written) (out : List ℕ) → ((o : List ℕ) → f o ≡ g o) → opened_to op k f out ≡ opened_to op k g out
opened_same op k f g out e = same_then (byte_to op out) (λ o. and_then (byte_to (block_code k) o) (λ p. and_then (f p) (byte_to 0x0b))) (λ o. and_then (byte_to (block_code k) o) (λ p. and_then (g p) (byte_to 0x0b)))
    (λ o. same_then (byte_to (block_code k) o) (λ p. and_then (f p) (byte_to 0x0b)) (λ p. and_then (g p) (byte_to 0x0b)) (λ p. ap (λ (r : Written). and_then r (byte_to 0x0b)) (e p)))

-- a block with no others is one that cannot have any
pub without_others : (d op : ℕ) (k : Option ValType) (is : Instructions) (out : List ℕ)
    → within_to d (λ e. opened_to op k (λ o. and_then (instrs_to e is o) (else_to Done (instrs_to e Done)))) out ≡ within_to d (λ e. opened_to op k (instrs_to e is)) out
without_others d op k is out =
    ap (λ (r : Written). if d == 0 then None else r)
    (opened_same op k (λ o. and_then (instrs_to (d - 1) is o) (else_to Done (instrs_to (d - 1) Done))) (instrs_to (d - 1) is) out (λ o. then_ends (instrs_to (d - 1) is o)))
