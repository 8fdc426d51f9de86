-- ARGV and ENVIRON are filled, one element after another.
use Rattle.std.proofs.Common.{◌≡◌, ℕ, ◌+◌, ◌<◌, ◌^◌, pos, List, [], ◌∷◌, ◌++◌, length, map as map_list, take, get_or, refl, sym, ap, ◌∙◌, arith, decimal}
use Rattle.std.specs.FinMap as map
use Rattle.std.proofs.lemmas.List.{length-take-le, map_more, take_more}
use Rattle.awk_values.specs.declared.value.Value.TheVariants.{StrNum}
use Rattle.sem_primitives.specs.ArrayMeaning.{numbered, stored}
use Rattle.sem_primitives.specs.Jobs.{arguments_from, environment_in}
use Rattle.sem_primitives.specs.SharedState.{Pairs}
use Rattle.host_arrays.specs.Pairs.{pairs_at, set_pair}
use Rattle.host_values.specs.Forms.{Arrays}
use Rattle.host_values.proofs.Elements.{stored-set_pair}
use Rattle.host_texts.specs.NameForms.{pair_of}
use Rattle.host_texts.specs.declared.names.NamedText.{NamedText}
use Rattle.host_tables.proofs.Numbered.{pairs_put, put_next, put_twice}

pub arguments_are : (n : ℕ) (texts : List (List ℕ)) → numbered n texts ≡ arguments_from n texts
arguments_are n [] = refl
arguments_are n (text ∷ texts) = ap (λ (ps : Pairs). (decimal n, StrNum text) ∷ ps) (arguments_are (n + 1) texts)

-- the next operand
pub operand_more : (base arrays now : Arrays) (first : List ℕ) (xs : List (List ℕ)) (i : ℕ) (d text : List ℕ) → arrays ≡ map.insert base (pos 0) (numbered 0 (first ∷ take i xs)) → i < length xs → i + 1 < 2 ^ 64
    → text ≡ get_or xs i d → now ≡ map.insert arrays (pos 0) (set_pair (decimal (i + 1)) (StrNum text) (pairs_at arrays (pos 0))) → now ≡ map.insert base (pos 0) (numbered 0 (first ∷ take (i + 1) xs))
operand_more base arrays now first xs i d text held within small is put =
    let count : i + 1 ≡ 0 + length (first ∷ take i xs) = omega (arith, length-take-le i xs (omega arith)) in
    put_next base arrays now (pos 0) 0 (first ∷ take i xs) text (i + 1) held count small put
    ∙ ap (λ (t : List ℕ). map.insert base (pos 0) (numbered 0 (first ∷ (take i xs ++ t ∷ [])))) is
    ∙ ap (λ (ts : List (List ℕ)). map.insert base (pos 0) (numbered 0 (first ∷ ts))) (sym (take_more xs i d within))

environ_last : (ps : Pairs) (pairs : List (List ℕ × List ℕ)) (p : List ℕ × List ℕ) → environment_in ps (pairs ++ p ∷ []) ≡ stored p.0 (StrNum p.1) (environment_in ps pairs)
environ_last ps [] p = refl
environ_last ps (q ∷ qs) p = environ_last (stored q.0 (StrNum q.1) ps) qs p

-- the next pair of the environment
pub pair_more : (base arrays now : Arrays) (xs : List NamedText) (i : ℕ) (d item : NamedText) (text : List ℕ) → arrays ≡ map.insert base (pos 1) (environment_in [] (map_list pair_of (take i xs))) → i < length xs
    → item ≡ get_or xs i d → text ≡ item.text → now ≡ map.insert arrays (pos 1) (set_pair item.name (StrNum text) (pairs_at arrays (pos 1)))
    → now ≡ map.insert base (pos 1) (environment_in [] (map_list pair_of (take (i + 1) xs)))
pair_more base arrays now xs i d item text held within same is put =
    let so_far = environment_in [] (map_list pair_of (take i xs)) in
    let name = item.name in
    put
    ∙ ap (λ (m : Arrays). map.insert m (pos 1) (set_pair name (StrNum text) (pairs_at m (pos 1)))) held
    ∙ ap (λ (ps : Pairs). map.insert (map.insert base (pos 1) so_far) (pos 1) (set_pair name (StrNum text) ps)) (pairs_put base (pos 1) so_far)
    ∙ put_twice base (pos 1) so_far (set_pair name (StrNum text) so_far)
    ∙ ap (λ (t : List ℕ). map.insert base (pos 1) (set_pair name (StrNum t) so_far)) is
    ∙ ap (λ (p : NamedText). map.insert base (pos 1) (set_pair p.name (StrNum p.text) so_far)) same
    ∙ ap (map.insert base (pos 1)) (sym (stored-set_pair (get_or xs i d).name (StrNum (get_or xs i d).text) so_far) ∙ sym (environ_last [] (map_list pair_of (take i xs)) (pair_of (get_or xs i d))))
    ∙ ap (λ (ps : List (List ℕ × List ℕ)). map.insert base (pos 1) (environment_in [] ps)) (sym (map_more pair_of xs i d within))

-- the next pair that is copied
pub copied_more : (copy now xs : List NamedText) (i : ℕ) (d item : NamedText) (name text : List ℕ) → copy ≡ take i xs → i < length xs → item ≡ get_or xs i d → name ≡ item.name → text ≡ item.text
    → now ≡ copy ++ record { name = name; text = text } ∷ [] → now ≡ take (i + 1) xs
copied_more copy now xs i d item name text held within same name_is text_is pushed =
    pushed
    ∙ ap (λ (n : List ℕ). copy ++ record { name = n; text = text } ∷ []) name_is
    ∙ ap (λ (t : List ℕ). copy ++ record { name = item.name; text = t } ∷ []) text_is
    ∙ ap (λ (p : NamedText). copy ++ p ∷ []) same
    ∙ ap (λ (ps : List NamedText). ps ++ get_or xs i d ∷ []) held
    ∙ sym (take_more xs i d within)
