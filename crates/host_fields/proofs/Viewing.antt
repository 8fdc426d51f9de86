-- What is lent of a field is the field.
use Rattle.std.proofs.Common.{◌≡◌, inl, inr, ℕ, zero, suc, ◌-◌, ℤ, get_or, None, Some, Result, Ok, refl, sym, ap, ◌∙◌, arith}
use Rattle.std.specs.Prelude.{◌↔◌, Option, slice_get, unwrap_or}
use Rattle.std.proofs.lemmas.Option.{slice_get_cases, slice_get_past, unwrap_or-slice_get}
use Rattle.awk_values.specs.declared.fault.Fault.{Fault}
use Rattle.awk_values.specs.declared.value.Value.{Value}
use Rattle.awk_values.specs.declared.value.Value.TheVariants.{Uninit}
use Rattle.sem_primitives.specs.FieldMeaning.{field_number, field_of}
use Rattle.sem_primitives.specs.SharedState.{Inner, ◌>>=◌}
use Rattle.host_fields.specs.Calls.{IsBeyond, Reads}
use Rattle.host_fields.specs.Held.{Held, with_held}
use Rattle.host_fields.specs.Views.{IsMissing, lent, viewed}
use Rattle.host_fields.specs.declared.view.FieldView.{FieldView}

field_is : (number : ℕ) (inner : Inner) → (number ≡ 0 → ⊥) → field_of number inner ≡ get_or inner.fields (number - 1) Uninit
field_is zero inner some = absurd (some refl)
field_is (suc k) inner some = let less : suc k - 1 ≡ k = omega arith in ap (λ j. get_or inner.fields j Uninit) (sym less)

module _ (held : Held) (n : ℤ) (number : ℕ) (view : FieldView) (is : Ok number ≡ field_number n) where
  reads : (inner : Inner) → field_of number (with_held held inner) ≡ viewed view → (field_number n >>= λ k. Ok (field_of k (with_held held inner))) ≡ Ok (viewed view)
  reads inner same = ap (λ (r : Result ℕ Fault). r >>= λ k. Ok (field_of k (with_held held inner))) (sym is) ∙ ap Ok same

  same_number : (m : ℕ) → field_number n ≡ Ok m → m ≡ number
  same_number m e = let both : ◌≡◌ {A = Result ℕ Fault} (Ok number) (Ok m) = is ∙ e in cc

  pub field_read_of : (number ≡ 0 → ⊥) → lent view ≡ slice_get held.fields (number - 1) → Reads n held (viewed view)
  field_read_of some is_lent inner =
      reads inner (field_is number (with_held held inner) some ∙ sym (ap (λ (o : Option Value). unwrap_or o Uninit) is_lent ∙ unwrap_or-slice_get held.fields (number - 1) Uninit))

  pub field_there : (number ≡ 0 → ⊥) → lent view ≡ slice_get held.fields (number - 1) → IsMissing view ↔ IsBeyond n held
  field_there some is_lent = (
    (λ missing. (
      number,
      sym is,
      elim (slice_get_cases held.fields (number - 1)).1 [
        | inl there ↦ absurd (let both : ◌≡◌ {A = Option Value} (Some there.0) None = sym there.2 ∙ sym is_lent ∙ missing in cc)
        | inr past ↦ (let low = past.0 in omega (arith, low, some))
      ],
    )),
    (λ beyond. let same = same_number beyond.0 beyond.1 in let past = beyond.2 in is_lent ∙ slice_get_past held.fields (number - 1) (omega (arith, same, past))),
  )
