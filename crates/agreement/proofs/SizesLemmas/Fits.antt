-- Code whose constants have their widths, and which reads no memory.
use Rattle.std.proofs.Common.{◌≡◌, ℕ, zero, suc, ◌^◌, ◌<◌, ◌≤◌, Bool, true, false, cond, ltb, List, [], ◌∷◌, length, refl, sym, ap, ◌∙◌, subst, arith, length-append}
use Rattle.std.specs.Prelude.{get_or}
use Rattle.std.proofs.lemmas.Bool.{lt-ltb, ltb-true}
use Rattle.wasm_types.specs.Syntax.{Instruction, Plain, BrTable, Block, Loop, If, Instructions, Done, Then}
use Rattle.wasm_types.specs.Immediates.{immediates}
use Rattle.wasm_types.specs.declared.instr.Simple.{Simple}
use Rattle.wasm_types.specs.declared.instr.Simple.TheVariants.{Call, Load, Store, I32Const, I64Const}
use Rattle.lower_model.specs.Modules.{renumbered, renumbered_one}
use Rattle.lower_model.specs.Places.{memory_of, place_of}
use Rattle.lower_model.specs.Small.{emit, emit_if}
use Rattle.lower_model.specs.Statements.{again, block}
use Rattle.module_writer.specs.Limits.{HasWords, HaveWords, WordFits}

abbrev pub fits_simple : Simple → Bool
fits_simple (I32Const n) = ltb n (2 ^ 32)
fits_simple (I64Const n) = ltb n (2 ^ 64)
fits_simple (Load op m) = false
fits_simple (Store op m) = false
fits_simple p = true

abbrev mutual
  pub fits_one : Instruction → Bool
  fits_one (Plain p) = fits_simple p
  fits_one (BrTable ns n) = true
  fits_one (Block r a) = fits_all a
  fits_one (Loop r a) = fits_all a
  fits_one (If r a c) = cond (fits_all a) (fits_all c) false

  pub fits_all : Instructions → Bool
  fits_all Done = true
  fits_all (Then i k) = cond (fits_one i) (fits_all k) false

pub record Fits (k : Instructions) : Type 0 where
  pub has : fits_all k ≡ true

pub none : Fits Done
none = record { has = refl }

pub plain : {k : Instructions} (i : Simple) → fits_simple i ≡ true → Fits k → Fits (emit i k)
plain {k = k} i e r = record { has = subst (λ (b : Bool). cond b (fits_all k) false ≡ true) (sym e) r.has }

pub choice : {a c k : Instructions} → Fits a → Fits c → Fits k → Fits (emit_if a c k)
choice {a = a} {c = c} {k = k} f g r = record {
  has = subst (λ (b : Bool). cond (cond b (fits_all c) false) (fits_all k) false ≡ true) (sym f.has)
      (subst (λ (b : Bool). cond b (fits_all k) false ≡ true) (sym g.has) r.has);
}

pub in_block : {a k : Instructions} → Fits a → Fits k → Fits (block a k)
in_block {a = a} {k = k} f r = record { has = subst (λ (b : Bool). cond b (fits_all k) false ≡ true) (sym f.has) r.has }

pub in_loop : {a k : Instructions} → Fits a → Fits k → Fits (again a k)
in_loop {a = a} {k = k} f r = record { has = subst (λ (b : Bool). cond b (fits_all k) false ≡ true) (sym f.has) r.has }

pub word_fits : (n : ℕ) → n < 2 ^ 32 → fits_simple (I32Const n) ≡ true
word_fits n h = lt-ltb n (2 ^ 32) h

pub long_fits : (n : ℕ) → n < 2 ^ 64 → fits_simple (I64Const n) ≡ true
long_fits n h = lt-ltb n (2 ^ 64) h

-- ---- what fits holds words

pub both_true : (a b : Bool) → cond a b false ≡ true → (a ≡ true) × (b ≡ true)
both_true true b e = (refl, e)
both_true false b e = absurd cc

simple_words : (p : Simple) → fits_simple p ≡ true → WordFits (immediates p)
simple_words (I32Const n) e = ltb-true n (2 ^ 32) e
simple_words (I64Const n) e = ltb-true n (2 ^ 64) e
simple_words (Load op m) e = absurd cc
simple_words (Store op m) e = absurd cc
simple_words p e = tt

mutual
  one_words : (i : Instruction) → fits_one i ≡ true → HasWords i
  one_words (Plain p) e = simple_words p e
  one_words (BrTable ns n) e = tt
  one_words (Block r a) e = words a e
  one_words (Loop r a) e = words a e
  one_words (If r a c) e = let b = both_true (fits_all a) (fits_all c) e in (words a b.0, words c b.1)

  pub words : (is : Instructions) → fits_all is ≡ true → HaveWords is
  words Done e = tt
  words (Then i k) e = let b = both_true (fits_one i) (fits_all k) e in (one_words i b.0, words k b.1)

-- calls that are numbered anew are no constants
same_simple : (bs : List Bool) (p : Simple) → fits_one (renumbered_one bs (Plain p)) ≡ fits_simple p
same_simple bs (Call n) = refl
same_simple bs p = refl

mutual
  same_one : (bs : List Bool) (i : Instruction) → fits_one (renumbered_one bs i) ≡ fits_one i
  same_one bs (Plain p) = same_simple bs p
  same_one bs (BrTable ns n) = refl
  same_one bs (Block r a) = same_fits bs a
  same_one bs (Loop r a) = same_fits bs a
  same_one bs (If r a c) =
      ap (λ (b : Bool). cond b (fits_all (renumbered bs c)) false) (same_fits bs a) ∙ ap (λ (b : Bool). cond (fits_all a) b false) (same_fits bs c)

  pub same_fits : (bs : List Bool) (is : Instructions) → fits_all (renumbered bs is) ≡ fits_all is
  same_fits bs Done = refl
  same_fits bs (Then i k) =
      ap (λ (b : Bool). cond b (fits_all (renumbered bs k)) false) (same_one bs i) ∙ ap (λ (b : Bool). cond (fits_one i) b false) (same_fits bs k)

-- ---- texts

pub place_within : (ss : List (List ℕ)) (i : ℕ) → place_of ss i ≤ length (memory_of ss)
place_within [] i = omega arith
place_within (s ∷ ss) zero = omega arith
place_within (s ∷ ss) (suc i) = let h = place_within ss i in let l = length-append s (memory_of ss) in omega (arith, h, l)

pub text_within : (ss : List (List ℕ)) (i : ℕ) → length (get_or ss i []) ≤ length (memory_of ss)
text_within [] i = omega arith
text_within (s ∷ ss) zero = let l = length-append s (memory_of ss) in omega (arith, l)
text_within (s ∷ ss) (suc i) = let h = text_within ss i in let l = length-append s (memory_of ss) in omega (arith, h, l)
