-- Uses of variables, as they are noted.
use Rattle.std.proofs.Common.{◌≡◌, ℕ, Bool, true, false, List, [], ◌∷◌, ◌++◌, map, Option, Some, None, refl, ap, sym, subst, ◌∙◌, append_assoc, append-nil}
use Rattle.std.specs.List.{slice_get}
use Rattle.std.proofs.lemmas.List.{map-append}
use Rattle.awk_grammar.specs.Marks.{Kind, Array, Scalar, Mark, Defined, Parameter, Used, Called, Computed, Given}
use Rattle.awk_grammar.specs.Kinds.{Key, Head, Whole, specials, special_arrays, special_scalars, same_kind, with_key, with_keys, with_mark, with_marks, key_in, parameter_at, pair_of, used, members, pairs, variables}
use Rattle.awk_resolve.specs.ViewVariables.{distinct_parameters, AddsKeys, HasNumber, AreKeys}
use Rattle.latched.specs.declared.latched_vec.LatchedVec.{LatchedVec}
use Rattle.awk_resolve.specs.Numbered.{ArePairs, all_if}
use Rattle.awk_resolve.specs.ViewUses.{numbered, AreUses, Notes, NotesGiven, NotesMark, NotesUses}
use Rattle.awk_resolve.specs.declared.scopes.Variables.{Variables}
use Rattle.awk_resolve.specs.declared.uses.Uses.{Uses}
use Rattle.awk_resolve.proofs.Names.{with_keys_append}
use Rattle.awk_resolve.proofs.Numbered.{get_with_key, members_append, numbers_more, numbers_same, one_more_pair, pairs_append, pairs_same, pairs_stay}

-- what `put` says
abbrev Put : {T : Type 0} → LatchedVec T → LatchedVec T → T → Type 0
Put old new x = new.out_of_memory ≡ false → (old.out_of_memory ≡ false) × (new.items.items ≡ old.items.items ++ x ∷ [])

stands_as : {u : Uses} {keys xs ys : List Key} {gs : List (Key × Key)} (xs' ys' : List Key) (gs' : List (Key × Key)) → xs ≡ xs' → ys ≡ ys' → gs ≡ gs' → Notes u keys xs ys gs → Notes u keys xs' ys' gs'
stands_as {u} {keys} {xs} {ys} {gs} xs' ys' gs' e f g h = rw (sym e, sym f, sym g) h

-- One use.

pub used_array : {old new : Uses} (k : Key) (n : ℕ) → AddsKeys old.variables new.variables (k ∷ []) → HasNumber new.variables n k → Put old.arrays new.arrays n → new.scalars ≡ old.scalars → new.pairs ≡ old.pairs → NotesUses old new Array (k ∷ [])
used_array {old} {new} k n adds number put e f = record {
  uses = λ keys arrays scalars given before. stands_as (arrays ++ k ∷ []) (scalars ++ []) given refl (sym (append-nil scalars)) refl (record {
    notes = λ w.
        let a = adds.adds w.variables in
        let p = put w.arrays in
        let s = before.notes (record { variables = a.0; arrays = p.0; scalars = ap (λ (g : LatchedVec ℕ). g.out_of_memory) (sym e) ∙ w.scalars; pairs = ap (λ (g : LatchedVec (ℕ × ℕ)). g.out_of_memory) (sym f) ∙ w.pairs }) in
        let same : numbered new ≡ with_key keys k = a.1 ∙ ap (λ (ks : List Key). with_key ks k) s.variables in
        let at = subst (λ (ks : List Key). slice_get ks n ≡ Some k) same (number.number w.variables) in
        record {
          variables = same;
          arrays = numbers_more keys k n old.arrays.items.items new.arrays.items.items arrays at p.1 s.arrays;
          scalars = numbers_same keys k old.scalars.items.items new.scalars.items.items scalars (ap (λ (g : LatchedVec ℕ). g.items.items) e) s.scalars;
          pairs = pairs_same keys k old.pairs.items.items new.pairs.items.items given (ap (λ (g : LatchedVec (ℕ × ℕ)). g.items.items) f) s.pairs;
        };
  });
}

pub used_scalar : {old new : Uses} (k : Key) (n : ℕ) → AddsKeys old.variables new.variables (k ∷ []) → HasNumber new.variables n k → new.arrays ≡ old.arrays → Put old.scalars new.scalars n → new.pairs ≡ old.pairs → NotesUses old new Scalar (k ∷ [])
used_scalar {old} {new} k n adds number e put f = record {
  uses = λ keys arrays scalars given before. stands_as (arrays ++ []) (scalars ++ k ∷ []) given (sym (append-nil arrays)) refl refl (record {
    notes = λ w.
        let a = adds.adds w.variables in
        let p = put w.scalars in
        let s = before.notes (record { variables = a.0; arrays = ap (λ (g : LatchedVec ℕ). g.out_of_memory) (sym e) ∙ w.arrays; scalars = p.0; pairs = ap (λ (g : LatchedVec (ℕ × ℕ)). g.out_of_memory) (sym f) ∙ w.pairs }) in
        let same : numbered new ≡ with_key keys k = a.1 ∙ ap (λ (ks : List Key). with_key ks k) s.variables in
        let at = subst (λ (ks : List Key). slice_get ks n ≡ Some k) same (number.number w.variables) in
        record {
          variables = same;
          arrays = numbers_same keys k old.arrays.items.items new.arrays.items.items arrays (ap (λ (g : LatchedVec ℕ). g.items.items) e) s.arrays;
          scalars = numbers_more keys k n old.scalars.items.items new.scalars.items.items scalars at p.1 s.scalars;
          pairs = pairs_same keys k old.pairs.items.items new.pairs.items.items given (ap (λ (g : LatchedVec (ℕ × ℕ)). g.items.items) f) s.pairs;
        };
  });
}

-- One that is given.

pub given_none : {old new : Uses} (k : Key) → AddsKeys old.variables new.variables (k ∷ []) → new.arrays ≡ old.arrays → new.scalars ≡ old.scalars → new.pairs ≡ old.pairs → NotesGiven old new k None
given_none {old} {new} k adds e f g = record {
  given = λ keys arrays scalars given before. stands_as arrays scalars (given ++ []) refl refl (sym (append-nil given)) (record {
    notes = λ w.
        let a = adds.adds w.variables in
        let s = before.notes (record { variables = a.0; arrays = ap (λ (u : LatchedVec ℕ). u.out_of_memory) (sym e) ∙ w.arrays; scalars = ap (λ (u : LatchedVec ℕ). u.out_of_memory) (sym f) ∙ w.scalars; pairs = ap (λ (u : LatchedVec (ℕ × ℕ)). u.out_of_memory) (sym g) ∙ w.pairs }) in
        record {
          variables = a.1 ∙ ap (λ (ks : List Key). with_key ks k) s.variables;
          arrays = numbers_same keys k old.arrays.items.items new.arrays.items.items arrays (ap (λ (u : LatchedVec ℕ). u.items.items) e) s.arrays;
          scalars = numbers_same keys k old.scalars.items.items new.scalars.items.items scalars (ap (λ (u : LatchedVec ℕ). u.items.items) f) s.scalars;
          pairs = pairs_same keys k old.pairs.items.items new.pairs.items.items given (ap (λ (u : LatchedVec (ℕ × ℕ)). u.items.items) g) s.pairs;
        };
  });
}

pub given_some : {old new : Uses} {mid : Variables} (k l : Key) (n m : ℕ) → AddsKeys old.variables mid (k ∷ []) → HasNumber mid n k → AddsKeys mid new.variables (l ∷ []) → HasNumber new.variables m l → new.arrays ≡ old.arrays → new.scalars ≡ old.scalars → Put old.pairs new.pairs (n, m) → NotesGiven old new k (Some l)
given_some {old} {new} {mid} k l n m first has_first second has_second e f put = record {
  given = λ keys arrays scalars given before. record {
    notes = λ w.
        let b = second.adds w.variables in
        let a = first.adds b.0 in
        let p = put w.pairs in
        let s = before.notes (record { variables = a.0; arrays = ap (λ (u : LatchedVec ℕ). u.out_of_memory) (sym e) ∙ w.arrays; scalars = ap (λ (u : LatchedVec ℕ). u.out_of_memory) (sym f) ∙ w.scalars; pairs = p.0 }) in
        let keys' = with_key keys k in
        let same' = a.1 ∙ ap (λ (ks : List Key). with_key ks k) s.variables in
        let same : numbered new ≡ with_key keys' l = b.1 ∙ ap (λ (ks : List Key). with_key ks l) same' in
        let at = get_with_key keys' l n k (subst (λ (ks : List Key). slice_get ks n ≡ Some k) same' (has_first.number b.0)) in
        let there = subst (λ (ks : List Key). slice_get ks m ≡ Some l) same (has_second.number w.variables) in
        record {
          variables = same;
          arrays = numbers_same keys' l old.arrays.items.items new.arrays.items.items arrays (ap (λ (u : LatchedVec ℕ). u.items.items) e) (numbers_same keys k old.arrays.items.items old.arrays.items.items arrays refl s.arrays);
          scalars = numbers_same keys' l old.scalars.items.items new.scalars.items.items scalars (ap (λ (u : LatchedVec ℕ). u.items.items) f) (numbers_same keys k old.scalars.items.items old.scalars.items.items scalars refl s.scalars);
          pairs = subst (λ (ps : List (ℕ × ℕ)). ArePairs (with_key keys' l) ps (given ++ (k, l) ∷ [])) (sym p.1) (one_more_pair (with_key keys' l) old.pairs.items.items n m given k l at there (pairs_stay keys' l old.pairs.items.items given (pairs_stay keys k old.pairs.items.items given s.pairs)));
        };
  };
}

-- Uses one after the other.

all_none : (b : Bool) → all_if b [] ≡ []
all_none true = refl
all_none false = refl

all_both : (b : Bool) (xs ys : List Key) → all_if b (xs ++ ys) ≡ all_if b xs ++ all_if b ys
all_both true xs ys = refl
all_both false xs ys = refl

pub uses_none : (u : Uses) (kind : Kind) → NotesUses u u kind []
uses_none u kind = record {
  uses = λ keys arrays scalars given before.
      stands_as (arrays ++ all_if (same_kind Array kind) []) (scalars ++ all_if (same_kind Scalar kind) []) given
      (sym (ap (λ (ks : List Key). arrays ++ ks) (all_none (same_kind Array kind)) ∙ append-nil arrays)) (sym (ap (λ (ks : List Key). scalars ++ ks) (all_none (same_kind Scalar kind)) ∙ append-nil scalars)) refl before;
}

both_ways : (b : Bool) (zs xs ys : List Key) → (zs ++ all_if b xs) ++ all_if b ys ≡ zs ++ all_if b (xs ++ ys)
both_ways b zs xs ys = append_assoc zs (all_if b xs) (all_if b ys) ∙ ap (λ (ks : List Key). zs ++ ks) (sym (all_both b xs ys))

pub uses_both : {a b c : Uses} {kind : Kind} (xs ys : List Key) → NotesUses a b kind xs → NotesUses b c kind ys → NotesUses a c kind (xs ++ ys)
uses_both {a} {b} {c} {kind} xs ys f g = record {
  uses = λ keys arrays scalars given before.
      subst (λ (ks : List Key). Notes c ks (arrays ++ all_if (same_kind Array kind) (xs ++ ys)) (scalars ++ all_if (same_kind Scalar kind) (xs ++ ys)) given) (sym (with_keys_append keys xs ys))
      (stands_as (arrays ++ all_if (same_kind Array kind) (xs ++ ys)) (scalars ++ all_if (same_kind Scalar kind) (xs ++ ys)) given (both_ways (same_kind Array kind) arrays xs ys) (both_ways (same_kind Scalar kind) scalars xs ys) refl
      (g.uses (with_keys keys xs) (arrays ++ all_if (same_kind Array kind) xs) (scalars ++ all_if (same_kind Scalar kind) xs) given (f.uses keys arrays scalars given before)));
}

-- Marks.

with_marks_append : (hs : List Head) (ks : List Key) (ms ns : List Mark) → with_marks hs ks (ms ++ ns) ≡ with_marks hs (with_marks hs ks ms) ns
with_marks_append hs ks [] ns = refl
with_marks_append hs ks (m ∷ ms) ns = with_marks_append hs (with_mark hs ks m) ms ns

next : {hs : List Head} {u : Uses} (ms : List Mark) (m : Mark) → Notes u (with_mark hs (variables hs ms) m) (members Array hs ms ++ used Array hs (m ∷ [])) (members Scalar hs ms ++ used Scalar hs (m ∷ [])) (pairs hs ms ++ pairs hs (m ∷ [])) → AreUses hs u (ms ++ m ∷ [])
next {hs} {u} ms m h = record {
  all = subst (λ (ks : List Key). Notes u ks (members Array hs (ms ++ m ∷ [])) (members Scalar hs (ms ++ m ∷ [])) (pairs hs (ms ++ m ∷ []))) (sym (with_marks_append hs (with_keys (distinct_parameters hs) (map Whole specials)) ms (m ∷ [])))
      (stands_as (members Array hs (ms ++ m ∷ [])) (members Scalar hs (ms ++ m ∷ [])) (pairs hs (ms ++ m ∷ [])) (sym (members_append Array hs ms (m ∷ []))) (sym (members_append Scalar hs ms (m ∷ []))) (sym (pairs_append hs ms (m ∷ []))) h);
}

pub mark_used : {hs : List Head} {old new : Uses} (kind : Kind) (place : Option (List ℕ)) (x : List ℕ) → NotesUses old new kind (key_in hs place x ∷ []) → NotesMark hs old new (Used kind place x)
mark_used {hs} {old} {new} kind place x h = record {
  next = λ ms before. next ms (Used kind place x) (stands_as _ _ (pairs hs ms ++ []) refl refl (sym (append-nil (pairs hs ms))) (h.uses (variables hs ms) (members Array hs ms) (members Scalar hs ms) (pairs hs ms) before.all));
}

pub mark_given : {hs : List Head} {old new : Uses} (f : List ℕ) (i : ℕ) (place : Option (List ℕ)) (x : List ℕ) → NotesGiven old new (key_in hs place x) (parameter_at hs f i) → NotesMark hs old new (Given f i place x)
mark_given {hs} {old} {new} f i place x h = record {
  next = λ ms before.
      let q = pair_of (key_in hs place x) (parameter_at hs f i) in
      next ms (Given f i place x) (stands_as (members Array hs ms ++ []) (members Scalar hs ms ++ []) (pairs hs ms ++ (q ++ [])) (sym (append-nil (members Array hs ms))) (sym (append-nil (members Scalar hs ms))) (ap (λ (qs : List (Key × Key)). pairs hs ms ++ qs) (sym (append-nil q)))
      (h.given (variables hs ms) (members Array hs ms) (members Scalar hs ms) (pairs hs ms) before.all));
}

none : {hs : List Head} {u : Uses} (ms : List Mark) → AreUses hs u ms → Notes u (variables hs ms) (members Array hs ms ++ []) (members Scalar hs ms ++ []) (pairs hs ms ++ [])
none {hs} {u} ms h = stands_as (members Array hs ms ++ []) (members Scalar hs ms ++ []) (pairs hs ms ++ []) (sym (append-nil (members Array hs ms))) (sym (append-nil (members Scalar hs ms))) (sym (append-nil (pairs hs ms))) h.all

pub mark_defined : {hs : List Head} (u : Uses) (f : List ℕ) → NotesMark hs u u (Defined f)
mark_defined u f = record { next = λ ms before. next ms (Defined f) (none ms before) }

pub mark_parameter : {hs : List Head} (u : Uses) (f x : List ℕ) → NotesMark hs u u (Parameter f x)
mark_parameter u f x = record { next = λ ms before. next ms (Parameter f x) (none ms before) }

pub mark_called : {hs : List Head} (u : Uses) (f : List ℕ) (n : ℕ) → NotesMark hs u u (Called f n)
mark_called u f n = record { next = λ ms before. next ms (Called f n) (none ms before) }

pub mark_computed : {hs : List Head} (u : Uses) (f : List ℕ) (i : ℕ) → NotesMark hs u u (Computed f i)
mark_computed u f i = record { next = λ ms before. next ms (Computed f i) (none ms before) }

-- The parameters of all functions and the special variables.

pub begun : (hs : List Head) (u : Uses) → AreKeys u.variables (distinct_parameters hs) → u.arrays.items.items ≡ [] → u.scalars.items.items ≡ [] → u.pairs.items.items ≡ [] → Notes u (distinct_parameters hs) [] [] []
begun hs u is e f g = record {
  notes = λ w. record { variables = is.keys w.variables; arrays = rw e refl; scalars = rw f refl; pairs = rw g refl };
}

pub first_marks : {u v w : Uses} (hs : List Head) (rs ss : List (List ℕ)) → rs ≡ special_arrays → ss ≡ special_scalars → Notes u (distinct_parameters hs) [] [] [] → NotesUses u v Array (map Whole rs) → NotesUses v w Scalar (map Whole ss) → AreUses hs w []
first_marks {u} {v} {w} hs rs ss e f h arrays scalars =
    let all = scalars.uses (with_keys (distinct_parameters hs) (map Whole rs)) (map Whole rs) [] [] (arrays.uses (distinct_parameters hs) [] [] [] h) in
    record {
      all = subst (λ (ks : List Key). Notes w ks (map Whole special_arrays ++ []) (map Whole special_scalars ++ []) []) (whole hs)
          (rw (sym e, sym f) (stands_as (map Whole rs ++ []) (map Whole ss ++ []) [] refl (sym (append-nil (map Whole ss))) refl all));
    }
  where
    whole : (hs : List Head) → with_keys (with_keys (distinct_parameters hs) (map Whole special_arrays)) (map Whole special_scalars) ≡ with_keys (distinct_parameters hs) (map Whole specials)
    whole hs = sym (with_keys_append (distinct_parameters hs) (map Whole special_arrays) (map Whole special_scalars)) ∙ ap (with_keys (distinct_parameters hs)) (sym (map-append Whole special_arrays special_scalars))
