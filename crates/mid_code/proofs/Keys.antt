-- The key of codes, of which the last one was taken out.
use Rattle.std.proofs.Common.{◌≡◌, ℕ, ◌+◌, ◌<◌, ◌≤◌, length, drop, take, get_or, List, [], ◌∷◌, ◌++◌, Option, None, Some, MatchOption, map, refl, ap, sym, ◌∙◌, arith}
use Rattle.std.specs.Prelude.{option_to_list, unwrap_or}
use Rattle.std.proofs.lemmas.List.{map-append}
use Rattle.sem_primitives.specs.declared.table.Primitive.TheVariants as row
use Rattle.mid_program.specs.Mid.{Code}
use Rattle.mid_program.specs.Translation.{host, two}
use Rattle.mid_program.specs.ViewCode.{joined, view}
use Rattle.mid_program.specs.declared.code.Code.{Code as Owned, Unset}
use Rattle.mid_code.specs.Keys.{key_of}

key_last : (es : List Code) (last : Code) → joined es last ≡ key_of (es ++ last ∷ [])
key_last [] last = refl
key_last (e ∷ []) last = refl
key_last (e ∷ f ∷ es) last = ap (λ (k : Code). host row.Join (two e k)) (key_last (f ∷ es) last)

popped : (rest : List Owned) (o : Option Owned) → MatchOption o (length rest ≡ 0) (λ _. Unit {0}) →
    joined (map view rest) (view (unwrap_or o Unset)) ≡ key_of (map view (rest ++ option_to_list o))
popped [] None none = refl
popped (e ∷ es) None none = absurd (omega arith)
popped rest (Some last) some = key_last (map view rest) (view last) ∙ sym (ap key_of (map-append view rest (last ∷ [])))

was_empty : (o : Option Owned) (m n : ℕ) → MatchOption o ((m ≡ 0) × (n ≡ 0)) (λ _. n + 1 ≡ m) → MatchOption o (n ≡ 0) (λ _. Unit {0})
was_empty None m n h = h.1
was_empty (Some last) m n h = tt

pub last_joined : (all rest : List Owned) (o : Option Owned) (last : Owned) → all ≡ rest ++ option_to_list o →
    MatchOption o ((length all ≡ 0) × (length rest ≡ 0)) (λ _. length rest + 1 ≡ length all) → last ≡ unwrap_or o Unset →
    joined (map view rest) (view last) ≡ key_of (map view all)
last_joined all rest o last is cases found =
    ap (λ (c : Owned). joined (map view rest) (view c)) found
    ∙ popped rest o (was_empty o (length all) (length rest) cases)
    ∙ sym (ap (λ (cs : List Owned). key_of (map view cs)) is)

no_rest : (all rest : List Owned) (o : Option Owned) → length all < 2 → MatchOption o ((length all ≡ 0) × (length rest ≡ 0)) (λ _. length rest + 1 ≡ length all) → length rest ≡ 0
no_rest all rest None few cases = cases.1
no_rest all rest (Some last) few cases = omega arith

nothing : (rest : List Owned) (last : Code) → length rest ≡ 0 → joined (map view rest) last ≡ last
nothing [] last none = refl
nothing (e ∷ es) last none = absurd (omega arith)

-- at most one
pub only_key : (all rest : List Owned) (o : Option Owned) (last : Owned) → length all < 2 → all ≡ rest ++ option_to_list o →
    MatchOption o ((length all ≡ 0) × (length rest ≡ 0)) (λ _. length rest + 1 ≡ length all) → last ≡ unwrap_or o Unset → view last ≡ key_of (map view all)
only_key all rest o last few is cases found =
    sym (nothing rest (view last) (no_rest all rest o few cases)) ∙ last_joined all rest o last is cases found

joined_key : (first : Code) (es : List Owned) → 0 < length es → host row.Join (two first (key_of (map view es))) ≡ key_of (first ∷ map view es)
joined_key first [] some = absurd (omega arith)
joined_key first (e ∷ es) some = refl

-- two or more, of which the first was taken out
pub key_after : (all rest : List Owned) (first : Owned) → 2 ≤ length all → first ≡ get_or all 0 first → rest ≡ take 0 all ++ drop (0 + 1) all →
    host row.Join (two (view first) (key_of (map view rest))) ≡ key_of (map view all)
key_after [] rest first few read is = absurd (omega arith)
key_after (a ∷ []) rest first few read is = absurd (omega arith)
key_after (a ∷ b ∷ es) rest first few read is =
    ap (λ (cs : List Owned). host row.Join (two (view first) (key_of (map view cs)))) is ∙ ap (λ (c : Owned). host row.Join (two (view c) (key_of (view b ∷ map view es)))) read
