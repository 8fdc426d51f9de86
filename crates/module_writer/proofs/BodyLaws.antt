-- Instructions are written as they are spelled, in the fewest bytes.
use Rattle.std.proofs.Common.{◌≡◌, ℕ, zero, suc, ◌+◌, ◌-◌, ◌≤◌, List, [], ◌∷◌, ◌++◌, Option, Some, ◌⊎◌, inl, inr, refl, sym, ap, subst, ◌∙◌, arith}
use Rattle.std.proofs.lemmas.List.{append-nil}
use Rattle.std.proofs.Math.Dec.{eqb-suc-zero}
use Rattle.wasm_types.specs.declared.types.ValType.{ValType}
use Rattle.wasm_types.specs.Syntax.{Instruction, Plain, BrTable, Block, Loop, If, Instructions, Done, Then}
use Rattle.wasm_types.specs.Opcodes.{opcode}
use Rattle.wasm_types.specs.Immediates.{Immediates, Nothing, Index, Memory, Bits32, Bits64, IndexReserved, Reserved, immediates}
use Rattle.wasm_types.specs.Leb128Texts.{and_then}
use Rattle.wasm_types.specs.Instructions.{IsVec, IsIndex, block_code, SpellsImmediates, Spells, SpellAll, depth, depths, IsExpr}
use Rattle.module_writer.specs.Writers.{Written, byte_to, index_to, vec_to}
use Rattle.module_writer.specs.Writing.{immediates_to, simple_to, table_to, opened_to, within_to, else_to, instr_to, instrs_to, expr_to}
use Rattle.module_writer.proofs.Meets.{Meets, Follow, then_meets, as_form, nothing_meets, byte_meets, index_meets, bits32_meets, bits64_meets, vec_meets}

immediates_meets : (i : Immediates) (old : List ℕ) → Meets (SpellsImmediates i) old (immediates_to i old)
immediates_meets Nothing old = nothing_meets old
immediates_meets (Index n) old = index_meets n old
immediates_meets (Memory m) old = then_meets (IsIndex m.align) (IsIndex m.offset) old (index_to m.align old) (index_to m.offset) (index_meets m.align old) (index_meets m.offset)
immediates_meets (Bits32 n) old = bits32_meets n old
immediates_meets (Bits64 n) old = bits64_meets n old
immediates_meets (IndexReserved n) old = as_form (Follow (IsIndex n) (λ t. t ≡ 0 ∷ [])) (SpellsImmediates (IndexReserved n)) old (immediates_to (IndexReserved n) old)
    (λ t h. (h.0, h.2, h.4 ∙ ap (λ (u : List ℕ). h.0 ++ u) h.3))
    (λ t h. (h.0, 0 ∷ [], h.1, refl, h.2))
    (then_meets (IsIndex n) (λ t. t ≡ 0 ∷ []) old (index_to n old) (byte_to 0) (index_meets n old) (byte_meets 0))
immediates_meets Reserved old = byte_meets 0 old

-- a byte and a form behind it
pub behind_byte : (k : ℕ) (P : List ℕ → Type 0) (p : List ℕ → Written) → ((o : List ℕ) → Meets P o (p o)) → (old : List ℕ) → Meets (λ t. (a : List ℕ) × P a × (t ≡ k ∷ a)) old (and_then (byte_to k old) p)
behind_byte k P p f old = as_form (Follow (λ t. t ≡ k ∷ []) P) (λ t. (a : List ℕ) × P a × (t ≡ k ∷ a)) old (and_then (byte_to k old) p)
    (λ t h. (h.1, h.3, h.4 ∙ ap (λ (u : List ℕ). u ++ h.1) h.2))
    (λ t h. (k ∷ [], h.0, refl, h.1, h.2))
    (then_meets (λ t. t ≡ k ∷ []) P old (byte_to k old) p (byte_meets k old) f)

table_meets : (ns : List ℕ) (n : ℕ) (old : List ℕ) → Meets (λ t. Spells (BrTable ns n) t) old (table_to ns n old)
table_meets ns n old = as_form (λ t. (a : List ℕ) × Follow (IsVec IsIndex ns) (IsIndex n) a × (t ≡ 0x0e ∷ a)) (λ t. Spells (BrTable ns n) t) old (table_to ns n old)
    (λ t h. (h.1.0, h.1.1, h.1.2, h.1.3, h.2 ∙ ap (λ (u : List ℕ). 0x0e ∷ u) h.1.4))
    (λ t h. (h.0 ++ h.1, (h.0, h.1, h.2, h.3, refl), h.4))
    (behind_byte 0x0e (Follow (IsVec IsIndex ns) (IsIndex n)) (λ o. and_then (vec_to index_to ns o) (index_to n))
    (λ o. then_meets (IsVec IsIndex ns) (IsIndex n) o (vec_to index_to ns o) (index_to n) (vec_meets IsIndex index_to index_meets ns o) (index_meets n)) old)

-- two bytes, a form, and the end
opened_meets : (b : ℕ) (k : Option ValType) (P : List ℕ → Type 0) (p : List ℕ → Written) → ((o : List ℕ) → Meets P o (p o)) → (old : List ℕ)
    → Meets (λ t. (body : List ℕ) × P body × (t ≡ b ∷ block_code k ∷ body ++ 0x0b ∷ [])) old (opened_to b k p old)
opened_meets b k P p f old = as_form (λ t. (c : List ℕ) × ((d : List ℕ) × Follow P (λ e. e ≡ 0x0b ∷ []) d × (c ≡ block_code k ∷ d)) × (t ≡ b ∷ c)) (λ t. (body : List ℕ) × P body × (t ≡ b ∷ block_code k ∷ body ++ 0x0b ∷ [])) old (opened_to b k p old)
    (λ t h. (h.1.1.0, h.1.1.2, h.2 ∙ ap (λ (u : List ℕ). b ∷ u) (h.1.2 ∙ ap (λ (u : List ℕ). block_code k ∷ u) (h.1.1.4 ∙ ap (λ (u : List ℕ). h.1.1.0 ++ u) h.1.1.3))))
    (λ t h. (block_code k ∷ h.0 ++ 0x0b ∷ [], (h.0 ++ 0x0b ∷ [], (h.0, 0x0b ∷ [], h.1, refl, refl), refl), h.2))
    (behind_byte b (λ t. (d : List ℕ) × Follow P (λ e. e ≡ 0x0b ∷ []) d × (t ≡ block_code k ∷ d)) (λ o. and_then (byte_to (block_code k) o) (λ q. and_then (p q) (byte_to 0x0b)))
    (behind_byte (block_code k) (Follow P (λ e. e ≡ 0x0b ∷ [])) (λ q. and_then (p q) (byte_to 0x0b))
    (λ q. then_meets P (λ e. e ≡ 0x0b ∷ []) q (p q) (byte_to 0x0b) (f q) (byte_meets 0x0b))) old)

-- ---- nesting

abbrev AllIn : ℕ → Instructions → List ℕ → Type 0
AllIn d is t = SpellAll is t × (depths is ≤ d)

abbrev OneIn : ℕ → Instruction → List ℕ → Type 0
OneIn d i t = Spells i t × (depth i ≤ d)

-- the second side of a choice, where it is not left out
abbrev ElseIn : ℕ → Instructions → List ℕ → Type 0
ElseIn d js t = (((js ≡ Done) × (t ≡ [])) ⊎ ((b : List ℕ) × SpellAll js b × (t ≡ 0x05 ∷ b))) × (depths js ≤ d)

some_instructions : (i : Instruction) (is : Instructions) → Then i is ≡ Done → ⊥
some_instructions i is e = absurd cc

else_meets : (d : ℕ) (js : Instructions) (p : List ℕ → Written) → ((o : List ℕ) → Meets (AllIn d js) o (p o)) → (old : List ℕ) → Meets (ElseIn d js) old (else_to js p old)
else_meets d Done p f old = record { text = []; is = (inl (refl, refl), omega arith); least = λ other h. omega arith; behind = sym (append-nil old) }
else_meets d (Then i is) p f old = as_form (λ t. (a : List ℕ) × AllIn d (Then i is) a × (t ≡ 0x05 ∷ a)) (ElseIn d (Then i is)) old (else_to (Then i is) p old)
    (λ t h. (inr (h.0, h.1.0, h.2), h.1.1))
    (λ t h. elim h.0 [ inl k ↦ absurd (some_instructions i is k.0) | inr k ↦ (k.0, (k.1, h.1), k.2) ])
    (behind_byte 0x05 (AllIn d (Then i is)) p f old)

block_meets : (d b : ℕ) (k : Option ValType) (is : Instructions) → ((e : ℕ) (o : List ℕ) → Meets (AllIn e is) o (instrs_to e is o)) → (old : List ℕ)
    → Meets (λ t. ((body : List ℕ) × SpellAll is body × (t ≡ b ∷ block_code k ∷ body ++ 0x0b ∷ [])) × (depths is + 1 ≤ d)) old (within_to d (λ e. opened_to b k (instrs_to e is)) old)
block_meets zero b k is f old = λ other h. let deep = h.1 in absurd (omega (arith, deep))
block_meets (suc d) b k is f old =
    let same : suc d - 1 ≡ d = omega arith in
    rw (eqb-suc-zero d, same) (as_form (λ t. (body : List ℕ) × AllIn d is body × (t ≡ b ∷ block_code k ∷ body ++ 0x0b ∷ [])) (λ t. ((body : List ℕ) × SpellAll is body × (t ≡ b ∷ block_code k ∷ body ++ 0x0b ∷ [])) × (depths is + 1 ≤ suc d)) old (opened_to b k (instrs_to d is) old)
    (λ t h. ((h.0, h.1.0, h.2), (let deep = h.1.1 in omega (arith, deep))))
    (λ t h. (h.0.0, (h.0.1, (let deep = h.1 in omega (arith, deep))), h.0.2))
    (opened_meets b k (AllIn d is) (instrs_to d is) (f d) old))

choice_is : (d : ℕ) (k : Option ValType) (is js : Instructions) (t : List ℕ) → (body : List ℕ) × Follow (AllIn d is) (ElseIn d js) body × (t ≡ 0x04 ∷ block_code k ∷ body ++ 0x0b ∷ []) → OneIn (suc d) (If k is js) t
choice_is d k is js t h =
    let a = h.1.0 in
    let b = h.1.1 in
    let deep = h.1.2.1 in
    let deeper = h.1.3.1 in (
      elim h.1.3.0 [
        | inl e ↦ (
          a,
          [],
          h.1.2.0,
          subst (λ (us : Instructions). SpellAll us []) (sym e.0) refl,
          inr (e.0, h.2 ∙ ap (λ (u : List ℕ). 0x04 ∷ block_code k ∷ u ++ 0x0b ∷ []) (h.1.4 ∙ ap (λ (u : List ℕ). a ++ u) e.1 ∙ append-nil a)),
        )
        | inr e ↦ (
          a,
          e.0,
          h.1.2.0,
          e.1,
          inl (h.2 ∙ ap (λ (u : List ℕ). 0x04 ∷ block_code k ∷ u ++ 0x0b ∷ []) (h.1.4 ∙ ap (λ (u : List ℕ). a ++ u) e.2)),
        )
      ],
      omega (arith, deep, deeper),
    )

choice_was : (d : ℕ) (k : Option ValType) (is js : Instructions) (t : List ℕ) → OneIn (suc d) (If k is js) t → (body : List ℕ) × Follow (AllIn d is) (ElseIn d js) body × (t ≡ 0x04 ∷ block_code k ∷ body ++ 0x0b ∷ [])
choice_was d k is js t h =
    let a = h.0.0 in
    let b = h.0.1 in
    let deep = h.1 in
    let first : depths is ≤ d = omega (arith, deep) in
    let second : depths js ≤ d = omega (arith, deep) in
    elim h.0.4 [
      | inl e ↦ (a ++ 0x05 ∷ b, (a, 0x05 ∷ b, (h.0.2, first), (inr (b, h.0.3, refl), second), refl), e)
      | inr e ↦ (a ++ [], (a, [], (h.0.2, first), (inl (e.0, refl), second), refl), e.1 ∙ ap (λ (u : List ℕ). 0x04 ∷ block_code k ∷ u ++ 0x0b ∷ []) (sym (append-nil a)))
    ]

choice_meets : (d : ℕ) (k : Option ValType) (is js : Instructions) → ((e : ℕ) (o : List ℕ) → Meets (AllIn e is) o (instrs_to e is o)) → ((e : ℕ) (o : List ℕ) → Meets (AllIn e js) o (instrs_to e js o)) → (old : List ℕ)
    → Meets (OneIn d (If k is js)) old (within_to d (λ e. opened_to 0x04 k (λ o. and_then (instrs_to e is o) (else_to js (instrs_to e js)))) old)
choice_meets zero k is js f g old = λ other h. let deep = h.1 in absurd (omega (arith, deep))
choice_meets (suc d) k is js f g old =
    let same : suc d - 1 ≡ d = omega arith in
    rw (eqb-suc-zero d, same) (as_form (λ t. (body : List ℕ) × Follow (AllIn d is) (ElseIn d js) body × (t ≡ 0x04 ∷ block_code k ∷ body ++ 0x0b ∷ [])) (OneIn (suc d) (If k is js)) old (opened_to 0x04 k (λ o. and_then (instrs_to d is o) (else_to js (instrs_to d js))) old)
    (choice_is d k is js) (choice_was d k is js)
    (opened_meets 0x04 k (Follow (AllIn d is) (ElseIn d js)) (λ o. and_then (instrs_to d is o) (else_to js (instrs_to d js)))
    (λ o. then_meets (AllIn d is) (ElseIn d js) o (instrs_to d is o) (else_to js (instrs_to d js)) (f d o) (else_meets d js (instrs_to d js) (g d))) old))

mutual
  instr_meets : (d : ℕ) (i : Instruction) (old : List ℕ) → Meets (OneIn d i) old (instr_to d i old)
  instr_meets d (Plain p) old = as_form (λ t. Spells (Plain p) t) (OneIn d (Plain p)) old (simple_to p old) (λ t h. (h, omega arith)) (λ t h. h.0) (behind_byte (opcode p) (SpellsImmediates (immediates p)) (immediates_to (immediates p)) (immediates_meets (immediates p)) old)
  instr_meets d (BrTable ns n) old = as_form (λ t. Spells (BrTable ns n) t) (OneIn d (BrTable ns n)) old (table_to ns n old) (λ t h. (h, omega arith)) (λ t h. h.0) (table_meets ns n old)
  instr_meets d (Block k is) old = block_meets d 0x02 k is (λ e o. instrs_meets e is o) old
  instr_meets d (Loop k is) old = block_meets d 0x03 k is (λ e o. instrs_meets e is o) old
  instr_meets d (If k is js) old = choice_meets d k is js (λ e o. instrs_meets e is o) (λ e o. instrs_meets e js o) old

  pub instrs_meets : (d : ℕ) (is : Instructions) (old : List ℕ) → Meets (AllIn d is) old (instrs_to d is old)
  instrs_meets d Done old = as_form (λ t. t ≡ []) (AllIn d Done) old (Some old) (λ t h. (h, omega arith)) (λ t h. h.0) (nothing_meets old)
  instrs_meets d (Then i is) old = as_form (Follow (OneIn d i) (AllIn d is)) (AllIn d (Then i is)) old (instrs_to d (Then i is) old)
      (λ t h. ((h.0, h.1, h.2.0, h.3.0, h.4), (let a = h.2.1 in let b = h.3.1 in omega (arith, a, b))))
      (λ t h. (let deep = h.1 in (h.0.0, h.0.1, (h.0.2, omega (arith, deep)), (h.0.3, omega (arith, deep)), h.0.4)))
      (then_meets (OneIn d i) (AllIn d is) old (instr_to d i old) (instrs_to d is) (instr_meets d i old) (λ o. instrs_meets d is o))

pub expr_meets : (is : Instructions) (old : List ℕ) → Meets (IsExpr is) old (expr_to is old)
expr_meets is old = as_form (Follow (AllIn 4000 is) (λ t. t ≡ 0x0b ∷ [])) (IsExpr is) old (expr_to is old)
    (λ t h. (h.0, h.2.0, h.2.1, h.4 ∙ ap (λ (u : List ℕ). h.0 ++ u) h.3))
    (λ t h. (h.0, 0x0b ∷ [], (h.1, h.2), refl, h.3))
    (then_meets (AllIn 4000 is) (λ t. t ≡ 0x0b ∷ []) old (instrs_to 4000 is old) (byte_to 0x0b) (instrs_meets 4000 is old) (byte_meets 0x0b))
