-- What is spelled is read: how readers are put together.
use Rattle.std.proofs.Common.{◌≡◌, ℕ, ◌≤◌, ◌^◌, List, [], ◌∷◌, ◌++◌, length, Option, Some, None, Ok, refl, sym, ap, ◌∙◌, append_assoc, arith, length-append, eq-eqb}
use Rattle.std.specs.Prelude.{option_to_list}
use Rattle.std.proofs.lemmas.Bool.{le-leb}
use Rattle.std.proofs.lemmas.List.{append-nil, take_at, drop_at}
use Rattle.std.proofs.lemmas.Str.{is_utf8-from_IsUtf8}
use Rattle.wasm_types.specs.Leb128.{IsS32, IsS64}
use Rattle.wasm_types.proofs.Groups.{unsigned_again, signed_again, u32_is, s32_is, s64_is}
use Rattle.wasm_types.specs.Instructions.{Both, Each, IsVec, Tagged, IsIndex}
use Rattle.wasm_types.specs.ModuleGrammar.{IsBytes, IsName, IsOption}
use Rattle.module_decoder.specs.declared.basics.Span.{Span}
use Rattle.module_decoder.specs.Readers.{Read, both_at, each_at, mapped, index_at, bits32_at, bits64_at, vec_at, option_by, option_at, tagged_at, whole, cut_at, bytes_at}
use Rattle.module_decoder.specs.Reading.{name_at}

abbrev pub IsAgain : {A : Type 0} → (A → List ℕ → Type 0) → (List ℕ → Read A) → Type 0
IsAgain {A} P r = (x : A) (text rest : List ℕ) → P x text → r (text ++ rest) ≡ Ok (x, rest)

pub both_again : {A B : Type 0} (P : A → List ℕ → Type 0) (Q : B → List ℕ → Type 0) (r : List ℕ → Read A) (s : List ℕ → Read B) → IsAgain P r → IsAgain Q s → IsAgain (Both P Q) (both_at r s)
both_again P Q r s hr hs x text rest h =
    let q : text ++ rest ≡ h.0 ++ (h.1 ++ rest) = rw h.4 (append_assoc h.0 h.1 rest) in
    rw (q, hr x.0 h.0 (h.1 ++ rest) h.2, hs x.1 h.1 rest h.3) refl

pub each_again : {A : Type 0} (P : A → List ℕ → Type 0) (r : List ℕ → Read A) → IsAgain P r → (xs : List A) (text rest : List ℕ) → Each P xs text → each_at r (length xs) (text ++ rest) ≡ Ok (xs, rest)
each_again P r k [] text rest h = rw h refl
each_again P r k (x ∷ xs) text rest h =
    let q : text ++ rest ≡ h.0 ++ (h.1 ++ rest) = rw h.4 (append_assoc h.0 h.1 rest) in
    rw (q, k x h.0 (h.1 ++ rest) h.2, each_again P r k xs h.1 rest h.3) refl

pub mapped_again : {A B : Type 0} (P : A → List ℕ → Type 0) (Q : B → List ℕ → Type 0) (f : A → B) (g : B → A) (r : List ℕ → Read A) → IsAgain P r → ((y : B) (text : List ℕ) → Q y text → P (g y) text) → ((y : B) → f (g y) ≡ y) → IsAgain Q (mapped f r)
mapped_again P Q f g r k into back y text rest h = rw (k (g y) text rest (into y text h), back y) refl

-- ---- integers

pub index_again : (c : Span) → IsAgain IsIndex (index_at c)
unfolding index_at
index_again c n text rest h = rw (u32_is (text ++ rest), unsigned_again 5 (2 ^ 32) text n rest h) refl

pub bits32_again : (c : Span) → IsAgain (λ n t. IsS32 t n) (bits32_at c)
unfolding bits32_at
bits32_again c n text rest h = rw (s32_is (text ++ rest), signed_again 5 (2 ^ 31) text n rest h) refl

pub bits64_again : (c : Span) → IsAgain (λ n t. IsS64 t n) (bits64_at c)
unfolding bits64_at
bits64_again c n text rest h = rw (s64_is (text ++ rest), signed_again 10 (2 ^ 63) text n rest h) refl

-- ---- vectors, bytes, names

pub vec_again : {A : Type 0} (c : Span) (P : A → List ℕ → Type 0) (r : List ℕ → Read A) → IsAgain P r → IsAgain (IsVec P) (vec_at c r)
vec_again c P r k xs text rest h =
    let q : text ++ rest ≡ h.0 ++ (h.1 ++ rest) = rw h.4 (append_assoc h.0 h.1 rest) in
    rw (q, index_again c (length xs) h.0 (h.1 ++ rest) h.2) (each_again P r k xs h.1 rest h.3)

option_again_by : {A : Type 0} (c : Span) (P : A → List ℕ → Type 0) (r : List ℕ → Read A) → IsAgain P r → (o : Option A) (text rest : List ℕ) → Each P (option_to_list o) text → option_by c r (length (option_to_list o)) (text ++ rest) ≡ Ok (o, rest)
option_again_by c P r k None text rest h = rw h refl
option_again_by c P r k (Some x) text rest h =
    let q : text ++ rest ≡ h.0 ++ rest = rw (h.4, h.3) (append_assoc h.0 [] rest) in
    rw (q, k x h.0 rest h.2) refl

pub option_again : {A : Type 0} (c : Span) (P : A → List ℕ → Type 0) (r : List ℕ → Read A) → IsAgain P r → IsAgain (IsOption P) (option_at c r)
option_again c P r k o text rest h =
    let q : text ++ rest ≡ h.0 ++ (h.1 ++ rest) = rw h.4 (append_assoc h.0 h.1 rest) in
    rw (q, index_again c (length (option_to_list o)) h.0 (h.1 ++ rest) h.2) (option_again_by c P r k o h.1 rest h.3)

pub tagged_again : {A : Type 0} (c : Span) (k : ℕ) (P : A → List ℕ → Type 0) (r : List ℕ → Read A) → IsAgain P r → IsAgain (Tagged k P) (tagged_at c k r)
tagged_again c k P r again x text rest h = rw (h.2, eq-eqb k k refl) (again x h.0 rest h.1)

pub whole_again : {A : Type 0} (c : Span) (P : A → List ℕ → Type 0) (r : List ℕ → Read A) → IsAgain P r → (x : A) (text : List ℕ) → P x text → whole c r text ≡ Ok x
whole_again c P r k x text h =
    let e : r text ≡ Ok (x, []) = ap r (sym (append-nil text)) ∙ k x text [] h in
    rw e refl

pub cut_again : (c : Span) (xs rest : List ℕ) → cut_at c (length xs) (xs ++ rest) ≡ Ok (xs, rest)
cut_again c xs rest =
    let room : length xs ≤ length (xs ++ rest) = omega (arith, length-append xs rest) in
    rw (le-leb (length xs) (length (xs ++ rest)) room, take_at xs rest (length xs) refl, drop_at xs rest (length xs) refl) refl

pub bytes_again : (c : Span) → IsAgain IsBytes (bytes_at c)
bytes_again c xs text rest h =
    let q : text ++ rest ≡ h.0 ++ (xs ++ rest) = rw h.2 (append_assoc h.0 xs rest) in
    rw (q, index_again c (length xs) h.0 (xs ++ rest) h.1) (cut_again c xs rest)

pub name_again : (c : Span) → IsAgain IsName (name_at c)
name_again c xs text rest h = rw (bytes_again c xs text rest h.1, is_utf8-from_IsUtf8 xs h.0) refl
