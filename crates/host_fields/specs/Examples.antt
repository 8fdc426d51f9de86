-- Worked rows of what is lent of a record.
use Rattle.std.specs.Prelude.{◌≡◌, [], ◌∷◌, codes, pos, refl}
use Rattle.std.proofs.Common.{lit<}
use Rattle.awk_values.specs.declared.value.Value.TheVariants.{StrNum, Uninit}
use Rattle.host_fields.specs.Calls.{IsBeyond, Reads}
use Rattle.host_fields.specs.Held.{Held}
use Rattle.host_fields.specs.Views.{viewed}
use Rattle.host_fields.specs.declared.view.FieldView.TheVariants.{Missing, Part, Whole}

-- the record `a b`
abbrev two_words : Held
two_words = record { whole = StrNum (codes "a b"); fields = StrNum (codes "a") ∷ StrNum (codes "b") ∷ [] }

zero_is_the_record : Reads (pos 0) two_words (viewed (Whole (StrNum (codes "a b"))))
zero_is_the_record = λ inner. refl

second_is_a_part : Reads (pos 2) two_words (viewed (Part (codes "b")))
second_is_a_part = λ inner. refl

third_is_missing : Reads (pos 3) two_words (viewed Missing)
third_is_missing = λ inner. refl

missing_has_no_value : viewed Missing ≡ Uninit
missing_has_no_value = refl

third_is_beyond : IsBeyond (pos 3) two_words
third_is_beyond = (3, refl, lit< tt)
