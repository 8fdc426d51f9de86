-- A map whose entries are the names finds the number and the kind of a name.
use Rattle.std.proofs.Common.{◌≡◌, ◌+◌, ℕ, Bool, true, false, cond, List, [], ◌∷◌, Option, Some, None, is_some, position, refl, sym, ap, ◌∙◌, true≢false, unwrap_or}
use Rattle.std.specs.List.{position_from}
use Rattle.std.specs.Map.{keys_of, lookup}
use Rattle.std.specs.Option.{option_map}
use Rattle.std.proofs.lemmas.Iterator.Adapters.{position_from-zero}
use Rattle.sem_primitives.specs.Assignments.{declared}
use Rattle.sem_primitives.specs.Texts.{same_text}
use Rattle.sem_primitives.specs.declared.constants.NameKind.{NameKind}

abbrev Found : Type 0
Found = Option (ℕ × NameKind)

module _ (text : List ℕ) where
  number_by : (n : ℕ) (b : Bool) (kind : NameKind) (rest : Found) (later : Option ℕ) → option_map (λ x. x.0) rest ≡ later
      → option_map (λ x. x.0) (cond b (Some (n, kind)) rest) ≡ cond b (Some n) later
  number_by n true kind rest later is = refl
  number_by n false kind rest later is = is

  number_is : (n : ℕ) (names : List (List ℕ × NameKind)) → option_map (λ x. x.0) (declared n text names) ≡ position_from (same_text text) n (keys_of names)
  number_is n [] = refl
  number_is n (d ∷ rest) = number_by n (same_text text d.0) d.1 (declared (n + 1) text rest) _ (number_is (n + 1) rest)

  kind_by : (n : ℕ) (b : Bool) (kind : NameKind) (rest : Found) (later : Option NameKind) → option_map (λ x. x.1) rest ≡ later
      → option_map (λ x. x.1) (cond b (Some (n, kind)) rest) ≡ cond b (Some kind) later
  kind_by n true kind rest later is = refl
  kind_by n false kind rest later is = is

  pub kind_is : (n : ℕ) (names : List (List ℕ × NameKind)) → option_map (λ x. x.1) (declared n text names) ≡ lookup (same_text text) names
  kind_is n [] = refl
  kind_is n (d ∷ rest) = kind_by n (same_text text d.0) d.1 (declared (n + 1) text rest) _ (kind_is (n + 1) rest)

  both_found : (found : Found) (number : ℕ) (kind : NameKind) → option_map (λ x. x.0) found ≡ Some number → option_map (λ x. x.1) found ≡ Some kind → Some (number, kind) ≡ found
  both_found None number kind at is = absurd (true≢false (ap is_some (sym at)))
  both_found (Some x) number kind at is =
      let there = ap (λ (o : Option ℕ). unwrap_or o number) at in
      let kinds = ap (λ (o : Option NameKind). unwrap_or o kind) is in
      λ i. Some (sym there i, sym kinds i)

  pub declared_found : (names : List (List ℕ × NameKind)) (number : ℕ) (kind : NameKind) → Some number ≡ position (same_text text) (keys_of names) → Some kind ≡ lookup (same_text text) names
      → Some (number, kind) ≡ declared 0 text names
  declared_found names number kind at is = both_found (declared 0 text names) number kind (number_is 0 names ∙ sym (position_from-zero (same_text text) (keys_of names)) ∙ sym at) (kind_is 0 names ∙ sym is)

  none_found : (found : Found) → option_map (λ x. x.1) found ≡ None → None ≡ found
  none_found None is = refl
  none_found (Some x) is = absurd (true≢false (ap is_some is))

  pub declared_missing : (names : List (List ℕ × NameKind)) → None ≡ lookup (same_text text) names → None ≡ declared 0 text names
  declared_missing names is = none_found (declared 0 text names) (kind_is 0 names ∙ sym is)

  -- a name that was not announced is in no entry
  pub none_there : (names : List (List ℕ × NameKind)) → is_some (declared 0 text names) ≡ false → lookup (same_text text) names ≡ None
  none_there names absent = by (declared 0 text names) absent (kind_is 0 names)
    where
      by : (found : Found) → is_some found ≡ false → option_map (λ x. x.1) found ≡ lookup (same_text text) names → lookup (same_text text) names ≡ None
      by None absent is = sym is
      by (Some x) absent is = absurd (true≢false absent)
