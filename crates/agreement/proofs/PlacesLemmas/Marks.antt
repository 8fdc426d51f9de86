-- Texts beside numbers: what the machine over values knows where a statement begins is so of the words.
use Rattle.std.proofs.Common.{◌≡◌, ◌≢◌, inl, inr, ℕ, zero, suc, Bool, true, false, not, nat_eq, List, [], ◌∷◌, drop, slice_get, ◌+◌, Some, refl, sym, ap, ◌∙◌, arith}
use Rattle.std.proofs.lemmas.Bool.{and_parts, eqb-false, eqb-true}
use Rattle.wasm_store.specs.declared.word.Word.{Word}
use Rattle.wasm_store.specs.declared.word.Word.TheVariants.{I32, I64}
use Rattle.host_step.specs.HostState.{Names}
use Rattle.mid_program.specs.Mid.{Kind, Boxed, Unboxed, ArrayKind}
use Rattle.mid_program.specs.Sorted.{has_kind}
use Rattle.agreement.proofs.RefinedLemmas.ImportAnswers.{some_of}
use Rattle.awk_values.specs.declared.value.Value.{Value}
use Rattle.lower_model.specs.Cells.{Cell, Bits, Held, IteratorOf, OwnedArray, LentArray, Gone, is_bare, is_held, is_marked, is_owned, mark_fits, marks_fit, tidy_locals}
use Rattle.lower_model.specs.Small.{minus_one, text_beside}
use Rattle.agreement.specs.Refined.Words.{WordAs, WordsAs}
use Rattle.agreement.specs.Places.NoLeaks.{BareParameters, IsMarked, NamesMarked}

abbrev number_in : Word → ℕ
number_in (I32 n) = n
number_in (I64 n) = n

not-true : (b : Bool) → not b ≡ true → b ≡ false
not-true true e = sym e
not-true false e = refl

module _ (made : ℕ) (N : Names) where
  bare_word : (c : Cell) (w : Word) → WordAs made N c w → is_bare c ≡ true → w ≢ I64 text_beside
  bare_word (Bits (I64 n)) w a e q = eqb-false n text_beside (not-true (nat_eq n text_beside) e) (ap number_in (sym a ∙ q))
  bare_word (Bits (I32 n)) w a e q = cc
  bare_word (Held v) w a e q = cc
  bare_word (IteratorOf t) w a e q = cc
  bare_word (OwnedArray b) w a e q = cc
  bare_word (LentArray b) w a e q = cc
  bare_word Gone w a e q = cc

  marked_word : (c : Cell) (w : Word) → WordAs made N c w → is_marked c ≡ true → w ≡ I64 text_beside
  marked_word (Bits (I64 n)) w a e = a ∙ ap I64 (eqb-true n text_beside e)
  marked_word (Bits (I32 n)) w a e = cc
  marked_word (Held v) w a e = cc
  marked_word (IteratorOf t) w a e = cc
  marked_word (OwnedArray b) w a e = cc
  marked_word (LentArray b) w a e = cc
  marked_word Gone w a e = cc

  -- a handle is below 2^31
  handle_there : (v : Value) (w : Word) → WordAs made N (Held v) w → w ≢ I32 minus_one
  handle_there v (I32 n) a q = let lt = a.0 in let e : n ≡ minus_one = ap number_in q in absurd (omega (arith, lt, e))
  handle_there v (I64 n) a q = absurd a

  is_marked_as : (k : Kind) (c n : Cell) (w z : Word) → WordAs made N c w → WordAs made N n z → mark_fits k c n ≡ true → IsMarked k w z
  is_marked_as Boxed c n w z a b e = tt
  is_marked_as ArrayKind c n w z a b e = tt
  is_marked_as Unboxed (Held v) n w z a b e = inr (handle_there v w a, marked_word n z b e)
  is_marked_as Unboxed (Bits (I32 m)) n w z a b e = let s = and_parts (nat_eq m minus_one) (is_bare n) e in inl (a ∙ ap I32 (eqb-true m minus_one s.0), bare_word n z b s.1)
  is_marked_as Unboxed (Bits (I64 m)) n w z a b e = cc
  is_marked_as Unboxed (IteratorOf t) n w z a b e = cc
  is_marked_as Unboxed (OwnedArray x) n w z a b e = cc
  is_marked_as Unboxed (LentArray x) n w z a b e = cc
  is_marked_as Unboxed Gone n w z a b e = cc

  pub names_marked : (ks : List Kind) (cs : List Cell) (ws : List Word) → WordsAs made N cs ws → marks_fit ks cs ≡ true → NamesMarked ks ws
  names_marked [] cs ws a e = tt
  names_marked (k ∷ ks) [] ws a e = cc
  names_marked (k ∷ ks) (c ∷ []) ws a e = cc
  names_marked (k ∷ ks) (c ∷ (n ∷ cs)) [] a e = absurd a
  names_marked (k ∷ ks) (c ∷ (n ∷ cs)) (w ∷ []) a e = absurd a.1
  names_marked (k ∷ ks) (c ∷ (n ∷ cs)) (w ∷ (z ∷ ws)) a e =
      let s = and_parts (mark_fits k c n) (marks_fit ks cs) e in (is_marked_as k c n w z a.0 a.1.0 s.0, names_marked ks cs ws a.1.1 s.1)

  pub parameters_bare : (ks : List Kind) (cs : List Cell) (ws : List Word) → WordsAs made N cs ws → tidy_locals ks cs ≡ true → BareParameters ks ws
  parameters_bare [] cs ws a e = tt
  parameters_bare (Boxed ∷ ks) [] ws a e = cc
  parameters_bare (Unboxed ∷ ks) [] ws a e = cc
  parameters_bare (ArrayKind ∷ ks) [] ws a e = cc
  parameters_bare (k ∷ ks) (c ∷ cs) [] a e = absurd a
  parameters_bare (Boxed ∷ ks) (c ∷ cs) (w ∷ ws) a e = let s = and_parts (is_held c) (tidy_locals ks cs) e in parameters_bare ks cs ws a.1 s.1
  parameters_bare (Unboxed ∷ ks) (c ∷ cs) (w ∷ ws) a e = let s = and_parts (is_bare c) (tidy_locals ks cs) e in (bare_word c w a.0 s.0, parameters_bare ks cs ws a.1 s.1)
  parameters_bare (ArrayKind ∷ ks) (c ∷ cs) (w ∷ ws) a e = let s = and_parts (not (is_owned c)) (tidy_locals ks cs) e in parameters_bare ks cs ws a.1 s.1

  pub words_behind : (n : ℕ) (cs : List Cell) (ws : List Word) → WordsAs made N cs ws → WordsAs made N (drop n cs) (drop n ws)
  words_behind zero cs ws a = a
  words_behind (suc n) [] [] a = a
  words_behind (suc n) [] (w ∷ ws) a = absurd a
  words_behind (suc n) (c ∷ cs) [] a = absurd a
  words_behind (suc n) (c ∷ cs) (w ∷ ws) a = words_behind n cs ws a.1

-- At a place of a list.

pub bare_at : (ks : List Kind) (ws : List Word) → BareParameters ks ws → (i : ℕ) → has_kind ks i Unboxed ≡ true → slice_get ws i ≢ Some (I64 text_beside)
bare_at [] ws h i e q = cc
bare_at (k ∷ ks) [] h i e q = absurd h
bare_at (Boxed ∷ ks) (w ∷ ws) h zero e q = cc
bare_at (Unboxed ∷ ks) (w ∷ ws) h zero e q = h.0 (some_of w (I64 text_beside) q)
bare_at (ArrayKind ∷ ks) (w ∷ ws) h zero e q = cc
bare_at (Boxed ∷ ks) (w ∷ ws) h (suc i) e q = bare_at ks ws h i e q
bare_at (Unboxed ∷ ks) (w ∷ ws) h (suc i) e q = bare_at ks ws h.1 i e q
bare_at (ArrayKind ∷ ks) (w ∷ ws) h (suc i) e q = bare_at ks ws h i e q

-- of a name without a handle
pub unmarked_at : (ks : List Kind) (ws : List Word) → NamesMarked ks ws → (i j : ℕ) → j ≡ i + i → has_kind ks i Unboxed ≡ true → slice_get ws j ≡ Some (I32 minus_one) → slice_get ws (suc j) ≢ Some (I64 text_beside)
unmarked_at [] ws h i j f e a q = cc
unmarked_at (k ∷ ks) [] h i j f e a q = absurd h
unmarked_at (k ∷ ks) (w ∷ []) h i j f e a q = absurd h
unmarked_at (k ∷ ks) (w ∷ (z ∷ ws)) h zero (suc j) f e a q = absurd (omega (arith, f))
unmarked_at (k ∷ ks) (w ∷ (z ∷ ws)) h (suc i) zero f e a q = absurd (omega (arith, f))
unmarked_at (k ∷ ks) (w ∷ (z ∷ ws)) h (suc i) (suc zero) f e a q = absurd (omega (arith, f))
unmarked_at (k ∷ ks) (w ∷ (z ∷ ws)) h (suc i) (suc (suc j)) f e a q = unmarked_at ks ws h.1 i j (omega (arith, f)) e a q
unmarked_at (Boxed ∷ ks) (w ∷ (z ∷ ws)) h zero zero f e a q = cc
unmarked_at (ArrayKind ∷ ks) (w ∷ (z ∷ ws)) h zero zero f e a q = cc
unmarked_at (Unboxed ∷ ks) (w ∷ (z ∷ ws)) h zero zero f e a q =
    elim h.0 [ inl x ↦ x.1 (some_of z (I64 text_beside) q) | inr x ↦ x.0 (some_of w (I32 minus_one) a) ]
