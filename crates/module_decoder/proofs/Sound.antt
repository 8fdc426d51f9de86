-- What is read is spelled so: how readers are put together.
use Rattle.std.proofs.Common.{◌≡◌, ℕ, zero, suc, ◌^◌, Bool, true, false, cond, leb, List, [], ◌∷◌, ◌++◌, length, take, drop, Option, Some, None, Result, Ok, Err, refl, sym, ap, subst, ◌∙◌, append_assoc, nat_eq}
use Rattle.std.specs.Prelude.{option_to_list}
use Rattle.std.specs.Str.{is_utf8}
use Rattle.std.proofs.lemmas.Bool.{eqb-true, leb-true}
use Rattle.std.proofs.lemmas.List.{append-nil, take-append-drop, length-take-le}
use Rattle.std.proofs.lemmas.Str.{IsUtf8-from_is_utf8}
use Rattle.wasm_types.specs.Leb128.{IsU32, IsS32, IsS64}
use Rattle.wasm_types.specs.Leb128Texts.{u32_at, s32_at, s64_at}
use Rattle.wasm_types.proofs.Groups.{unsigned_sound, signed_sound, u32_is, s32_is, s64_is}
use Rattle.wasm_types.specs.Instructions.{Both, Each, IsVec, Tagged, IsIndex}
use Rattle.wasm_types.specs.ModuleGrammar.{IsBytes, IsName, IsOption}
use Rattle.module_decoder.specs.declared.fault.DecodeFault.{DecodeFault}
use Rattle.module_decoder.specs.declared.fault.DecodeFault.TheVariants.{BadSection, BadInteger}
use Rattle.module_decoder.specs.declared.basics.Span.{Span}
use Rattle.module_decoder.specs.Readers.{◌>>=◌, Read, both_at, each_at, mapped, unfinished, malformed, place, no_integer, integer, index_at, bits32_at, bits64_at, vec_at, some_at, option_by, option_at, tagged_at, ended, whole, cut_at, bytes_at}
use Rattle.module_decoder.specs.Reading.{utf8, name_at}

pub bind_ok : {A B : Type 0} (r : Result A DecodeFault) (f : A → Result B DecodeFault) (y : B) → (r >>= f) ≡ Ok y → (x : A) × (r ≡ Ok x) × (f x ≡ Ok y)
bind_ok (Ok x) f y e = (x, refl, e)
bind_ok (Err d) f y e = absurd cc

abbrev pub IsOk : {A : Type 0} → A → Result A DecodeFault
IsOk x = Ok x

pub ok_is : {A : Type 0} (x y : A) → IsOk x ≡ IsOk y → x ≡ y
ok_is x y e = cc

abbrev pub IsErr : (A : Type 0) → DecodeFault → Result A DecodeFault
IsErr A e = Err e

pub err_ok : {A : Type 0} (e : DecodeFault) (x : A) → IsErr A e ≡ IsOk x → ⊥
err_ok e x q = absurd cc

-- a test that fails with this fault has held
pub passed : {A : Type 0} (b : Bool) (r : Result A DecodeFault) (e : DecodeFault) (x : A) → cond b r (IsErr A e) ≡ Ok x → (b ≡ true) × (r ≡ Ok x)
passed true r e x q = (refl, q)
passed false r e x q = absurd (err_ok e x q)

abbrev pub Takes : {A : Type 0} → (A → List ℕ → Type 0) → List ℕ → A × List ℕ → Type 0
Takes P bytes x = (text : List ℕ) × P x.0 text × (bytes ≡ text ++ x.1)

abbrev pub IsSound : {A : Type 0} → (A → List ℕ → Type 0) → (List ℕ → Read A) → Type 0
IsSound {A} P r = (bytes : List ℕ) (x : A × List ℕ) → r bytes ≡ Ok x → Takes P bytes x

pub both_sound : {A B : Type 0} (P : A → List ℕ → Type 0) (Q : B → List ℕ → Type 0) (r : List ℕ → Read A) (s : List ℕ → Read B) → IsSound P r → IsSound Q s → IsSound (Both P Q) (both_at r s)
both_sound P Q r s hr hs bytes x e =
    let a = bind_ok (r bytes) (λ x. s x.1 >>= λ y. Ok ((x.0, y.0), y.1)) x e in
    let b = bind_ok (s a.0.1) (λ y. Ok ((a.0.0, y.0), y.1)) x a.2 in
    let t = hr bytes a.0 a.1 in
    let u = hs a.0.1 b.0 b.1 in
    subst (Takes (Both P Q) bytes) (ok_is ((a.0.0, b.0.0), b.0.1) x b.2)
    (t.0 ++ u.0, (t.0, u.0, t.1, u.1, refl), t.2 ∙ ap (λ (v : List ℕ). t.0 ++ v) u.2 ∙ sym (append_assoc t.0 u.0 b.0.1))

pub each_sound : {A : Type 0} (P : A → List ℕ → Type 0) (r : List ℕ → Read A) → IsSound P r → (n : ℕ) (bytes : List ℕ) (x : List A × List ℕ) → each_at r n bytes ≡ Ok x → (length x.0 ≡ n) × Takes (Each P) bytes x
each_sound P r h zero bytes x e = subst (λ y. (length y.0 ≡ 0) × Takes (Each P) bytes y) (ok_is ([], bytes) x e) (refl, ([], refl, refl))
each_sound P r h (suc n) bytes x e =
    let a = bind_ok (r bytes) (λ a. each_at r n a.1 >>= λ y. Ok (a.0 ∷ y.0, y.1)) x e in
    let b = bind_ok (each_at r n a.0.1) (λ y. Ok (a.0.0 ∷ y.0, y.1)) x a.2 in
    let s = h bytes a.0 a.1 in
    let t = each_sound P r h n a.0.1 b.0 b.1 in
    subst (λ y. (length y.0 ≡ suc n) × Takes (Each P) bytes y) (ok_is (a.0.0 ∷ b.0.0, b.0.1) x b.2)
    (ap suc t.0, (s.0 ++ t.1.0, (s.0, t.1.0, s.1, t.1.1, refl), s.2 ∙ ap (λ (u : List ℕ). s.0 ++ u) t.1.2 ∙ sym (append_assoc s.0 t.1.0 b.0.1)))

pub mapped_sound : {A B : Type 0} (P : A → List ℕ → Type 0) (Q : B → List ℕ → Type 0) (f : A → B) (r : List ℕ → Read A) → IsSound P r → ((x : A) (text : List ℕ) → P x text → Q (f x) text) → IsSound Q (mapped f r)
mapped_sound P Q f r h k bytes x e =
    let a = bind_ok (r bytes) (λ x. Ok (f x.0, x.1)) x e in
    let t = h bytes a.0 a.1 in
    subst (Takes Q bytes) (ok_is (f a.0.0, a.0.1) x a.2) (t.0, k a.0.0 t.0 t.1, t.2)

-- ---- integers

no_integer_ok : (c : Span) (most : ℕ) (bytes : List ℕ) (x : ℕ × List ℕ) → no_integer c most bytes ≡ IsOk x → ⊥
no_integer_ok c most bytes x e = by (unfinished most bytes) e
  where
    by : (b : Bool) → cond b (malformed c) (IsErr (ℕ × List ℕ) (BadInteger (place c bytes))) ≡ IsOk x → ⊥
    by true q = err_ok (BadSection c.section) x q
    by false q = err_ok (BadInteger (place c bytes)) x q

integer_ok : (c : Span) (most : ℕ) (bytes : List ℕ) (o : Option (ℕ × List ℕ)) (x : ℕ × List ℕ) → integer c most bytes o ≡ Ok x → o ≡ Some x
integer_ok c most bytes None x e = absurd (no_integer_ok c most bytes x e)
integer_ok c most bytes (Some y) x e = ap (λ (u : ℕ × List ℕ). Some u) (ok_is y x e)

pub index_sound : (c : Span) → IsSound IsIndex (index_at c)
unfolding index_at
index_sound c bytes x e = let t = unsigned_sound 5 (2 ^ 32) bytes x (sym (u32_is bytes) ∙ integer_ok c 5 bytes (u32_at bytes) x e) in (t.text, t.number, t.parts)

pub bits32_sound : (c : Span) → IsSound (λ n t. IsS32 t n) (bits32_at c)
unfolding bits32_at
bits32_sound c bytes x e = let t = signed_sound 5 (2 ^ 31) bytes x (sym (s32_is bytes) ∙ integer_ok c 5 bytes (s32_at bytes) x e) in (t.text, t.number, t.parts)

pub bits64_sound : (c : Span) → IsSound (λ n t. IsS64 t n) (bits64_at c)
unfolding bits64_at
bits64_sound c bytes x e = let t = signed_sound 10 (2 ^ 63) bytes x (sym (s64_is bytes) ∙ integer_ok c 10 bytes (s64_at bytes) x e) in (t.text, t.number, t.parts)

-- ---- vectors, bytes, names

pub vec_sound : {A : Type 0} (c : Span) (P : A → List ℕ → Type 0) (r : List ℕ → Read A) → IsSound P r → IsSound (IsVec P) (vec_at c r)
vec_sound c P r h bytes x e =
    let a = bind_ok (index_at c bytes) (λ n. each_at r n.0 n.1) x e in
    let t = index_sound c bytes a.0 a.1 in
    let u = each_sound P r h a.0.0 a.0.1 x a.2 in
    (t.0 ++ u.1.0, (t.0, u.1.0, subst (IsU32 t.0) (sym u.0) t.1, u.1.1, refl), t.2 ∙ ap (λ (v : List ℕ). t.0 ++ v) u.1.2 ∙ sym (append_assoc t.0 u.1.0 x.1))

abbrev FitsOption : {A : Type 0} → (A → List ℕ → Type 0) → ℕ → List ℕ → Option A × List ℕ → Type 0
FitsOption P n bytes y = (length (option_to_list y.0) ≡ n) × Takes (λ o. Each P (option_to_list o)) bytes y

option_sound_by : {A : Type 0} (c : Span) (P : A → List ℕ → Type 0) (r : List ℕ → Read A) → IsSound P r → (n : ℕ) (bytes : List ℕ) (x : Option A × List ℕ) → option_by c r n bytes ≡ Ok x → (length (option_to_list x.0) ≡ n) × Takes (λ o. Each P (option_to_list o)) bytes x
option_sound_by {A} c P r h n bytes x e = by (nat_eq n 0) refl e
  where
    one : (b : Bool) → nat_eq n 1 ≡ b → cond b (some_at r bytes) (malformed c) ≡ Ok x → FitsOption P n bytes x
    one true q f =
        let a = bind_ok (r bytes) (λ y. Ok (Some y.0, y.1)) x f in
        let t = h bytes a.0 a.1 in
        subst (FitsOption P n bytes) (ok_is (Some a.0.0, a.0.1) x a.2) (sym (eqb-true n 1 q), (t.0, (t.0, [], t.1, refl, sym (append-nil t.0)), t.2))
    one false q f = absurd (err_ok (BadSection c.section) x f)

    by : (b : Bool) → nat_eq n 0 ≡ b → cond b (Ok (None, bytes)) (cond (nat_eq n 1) (some_at r bytes) (malformed c)) ≡ Ok x → FitsOption P n bytes x
    by true q f = subst (FitsOption P n bytes) (ok_is (None, bytes) x f) (sym (eqb-true n 0 q), ([], refl, refl))
    by false q f = one (nat_eq n 1) refl f

pub option_sound : {A : Type 0} (c : Span) (P : A → List ℕ → Type 0) (r : List ℕ → Read A) → IsSound P r → IsSound (IsOption P) (option_at c r)
option_sound c P r h bytes x e =
    let a = bind_ok (index_at c bytes) (λ n. option_by c r n.0 n.1) x e in
    let t = index_sound c bytes a.0 a.1 in
    let u = option_sound_by c P r h a.0.0 a.0.1 x a.2 in
    (t.0 ++ u.1.0, (t.0, u.1.0, subst (IsU32 t.0) (sym u.0) t.1, u.1.1, refl), t.2 ∙ ap (λ (v : List ℕ). t.0 ++ v) u.1.2 ∙ sym (append_assoc t.0 u.1.0 x.1))

pub tagged_sound : {A : Type 0} (c : Span) (k : ℕ) (P : A → List ℕ → Type 0) (r : List ℕ → Read A) → IsSound P r → IsSound (Tagged k P) (tagged_at c k r)
tagged_sound c k P r h [] x e = absurd (err_ok (BadSection c.section) x e)
tagged_sound c k P r h (b ∷ bytes) x e =
    let p = passed (nat_eq b k) (r bytes) (BadSection c.section) x e in
    let t = h bytes x p.1 in
    (k ∷ t.0, (t.0, t.1, refl), ap (λ (n : ℕ). n ∷ bytes) (eqb-true b k p.0) ∙ ap (λ (u : List ℕ). k ∷ u) t.2)

pub whole_sound : {A : Type 0} (c : Span) (P : A → List ℕ → Type 0) (r : List ℕ → Read A) → IsSound P r → (bytes : List ℕ) (x : A) → whole c r bytes ≡ Ok x → P x bytes
whole_sound {A} c P r h bytes x e =
    let a = bind_ok (r bytes) (ended c) x e in
    let t = h bytes a.0 a.1 in
    by a.0.0 a.0.1 t a.2
  where
    by : (y : A) (rest : List ℕ) → Takes P bytes (y, rest) → ended c (y, rest) ≡ Ok x → P x bytes
    by y [] t f = subst (λ (z : A). P z bytes) (ok_is y x f) (subst (P y) (sym (t.2 ∙ append-nil t.0)) t.1)
    by y (b ∷ rest) t f = absurd (err_ok (BadSection c.section) x f)

pub cut_sound : (c : Span) (n : ℕ) (bytes : List ℕ) (x : List ℕ × List ℕ) → cut_at c n bytes ≡ Ok x → (length x.0 ≡ n) × (bytes ≡ x.0 ++ x.1)
cut_sound c n bytes x e =
    let p = passed (leb n (length bytes)) (Ok (take n bytes, drop n bytes)) (BadSection c.section) x e in
    let small = leb-true n (length bytes) p.0 in
    subst (λ (y : List ℕ × List ℕ). (length y.0 ≡ n) × (bytes ≡ y.0 ++ y.1)) (ok_is (take n bytes, drop n bytes) x p.1) (length-take-le n bytes small, sym (take-append-drop n bytes))

pub bytes_sound : (c : Span) → IsSound IsBytes (bytes_at c)
bytes_sound c bytes x e =
    let a = bind_ok (index_at c bytes) (λ n. cut_at c n.0 n.1) x e in
    let t = index_sound c bytes a.0 a.1 in
    let u = cut_sound c a.0.0 a.0.1 x a.2 in
    (t.0 ++ x.0, (t.0, subst (IsU32 t.0) (sym u.0) t.1, refl), t.2 ∙ ap (λ (v : List ℕ). t.0 ++ v) u.1 ∙ sym (append_assoc t.0 x.0 x.1))

pub name_sound : (c : Span) → IsSound IsName (name_at c)
name_sound c bytes x e =
    let a = bind_ok (bytes_at c bytes) (utf8 c) x e in
    let t = bytes_sound c bytes a.0 a.1 in
    let p = passed (is_utf8 a.0.0) (Ok a.0) (BadSection c.section) x a.2 in
    subst (Takes IsName bytes) (ok_is a.0 x p.1) (t.0, (IsUtf8-from_is_utf8 a.0.0 p.0, t.1), t.2)
