-- Texts that stand one after the other.
use Rattle.std.proofs.Common.{◌≡◌, ℕ, zero, suc, ◌+◌, ◌<◌, List, [], ◌∷◌, ◌++◌, get_or, length, refl, sym, ap, ◌∙◌, arith}
use Rattle.std.proofs.lemmas.List.{append_assoc, length-append}
use Rattle.lower_model.specs.Places.{memory_of, place_of}
use Rattle.lower_layout.specs.Spans.{spans_from}
use Rattle.lower_layout.specs.declared.spans.Span.{Span}

pub length_spans : (at : ℕ) (ss : List (List ℕ)) → length (spans_from at ss) ≡ length ss
length_spans at [] = refl
length_spans at (s ∷ ss) = ap suc (length_spans (at + length s) ss)

span_from : (at : ℕ) (ss : List (List ℕ)) (i : ℕ) (d : Span) → i < length ss → (get_or (spans_from at ss) i d).place ≡ at + place_of ss i
span_from at [] i d lt = absurd (omega arith)
span_from at (s ∷ ss) zero d lt = omega arith
span_from at (s ∷ ss) (suc i) d lt = let e = span_from (at + length s) ss i d (omega arith) in omega (arith, e)

pub span_place : (ss : List (List ℕ)) (i : ℕ) (d : Span) → i < length ss → (get_or (spans_from 0 ss) i d).place ≡ place_of ss i
span_place ss i d lt = let e = span_from 0 ss i d lt in omega (arith, e)

pub span_size : (at : ℕ) (ss : List (List ℕ)) (i : ℕ) (d : Span) → i < length ss → (get_or (spans_from at ss) i d).size ≡ length (get_or ss i [])
span_size at [] i d lt = absurd (omega arith)
span_size at (s ∷ ss) zero d lt = refl
span_size at (s ∷ ss) (suc i) d lt = span_size (at + length s) ss i d (omega arith)

-- Texts that are placed after others.

pub memory_more : (a b : List (List ℕ)) → length (memory_of (a ++ b)) ≡ length (memory_of a) + length (memory_of b)
memory_more [] b = omega arith
memory_more (s ∷ a) b =
    let whole = length-append s (memory_of (a ++ b)) in
    let first = length-append s (memory_of a) in
    let rest = memory_more a b in
    omega (arith, whole, first, rest)

pub spans_more : (at : ℕ) (a b : List (List ℕ)) → spans_from at (a ++ b) ≡ spans_from at a ++ spans_from (at + length (memory_of a)) b
spans_more at [] b = let e : at ≡ at + 0 = omega arith in ap (λ (x : ℕ). spans_from x b) e
spans_more at (s ∷ a) b =
    let l = length-append s (memory_of a) in
    let e : at + length s + length (memory_of a) ≡ at + length (s ++ memory_of a) = omega (arith, l) in
    ap (λ (x : List Span). (record { place = at; size = length s }) ∷ x) (spans_more (at + length s) a b ∙ ap (λ (x : ℕ). spans_from (at + length s) a ++ spans_from x b) e)

pub spans_whole : (a b c : List (List ℕ)) (s0 s1 s2 s3 : List Span) (n m : ℕ) → s0 ≡ [] → n ≡ 0 + length (memory_of a) → s1 ≡ s0 ++ spans_from 0 a → m ≡ n + length (memory_of b) → s2 ≡ s1 ++ spans_from n b
    → s3 ≡ s2 ++ spans_from m c → s3 ≡ spans_from 0 (a ++ (b ++ c))
spans_whole a b c s0 s1 s2 s3 n m e0 en e1 em e2 e3 =
    e3 ∙ ap (λ (x : List Span). x ++ spans_from m c) (e2 ∙ ap (λ (x : List Span). x ++ spans_from n b) (e1 ∙ ap (λ (x : List Span). x ++ spans_from 0 a) e0))
    ∙ append_assoc (spans_from 0 a) (spans_from n b) (spans_from m c)
    ∙ ap (λ (x : ℕ). spans_from 0 a ++ (spans_from n b ++ spans_from x c)) em
    ∙ ap (λ (x : List Span). spans_from 0 a ++ x) (sym (spans_more n b c))
    ∙ ap (λ (x : ℕ). spans_from 0 a ++ spans_from x (b ++ c)) en
    ∙ sym (spans_more 0 a (b ++ c))

pub memory_whole : (a b c : List (List ℕ)) → length (memory_of (a ++ (b ++ c))) ≡ length (memory_of a) + (length (memory_of b) + length (memory_of c))
memory_whole a b c = memory_more a (b ++ c) ∙ ap (λ (x : ℕ). length (memory_of a) + x) (memory_more b c)
