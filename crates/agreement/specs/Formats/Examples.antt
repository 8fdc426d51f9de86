-- Rows of the relations.
use Rattle.std.proofs.Common.{◌≤◌, inl, inr, [], ◌∷◌, false, refl, arith}
use Rattle.std.specs.Prelude.{codes, None, Some, pos}
use Rattle.std.specs.Fmt.{digits}
use Rattle.awk_values.specs.declared.value.Value.TheVariants.{Num}
use Rattle.sem_primitives.specs.Formats.{Conversion, Signed, Fixed}
use Rattle.agreement.specs.Formats.Read.{IsConversion, IsFormatted, ends, byte, percent_sign, conversion, no_precision, precision}
use Rattle.agreement.specs.Formats.Written.{AreDigits, IsInWidth, IsNumber}

seven : AreDigits 10 false 1 7 (codes "7")
seven = record { digits = (omega arith, tt); case = (inl (omega arith), tt); value = refl; many = omega arith; no_more = λ b. absurd (cc) }

padded_seven : AreDigits 10 false 3 7 (codes "007")
padded_seven = record {
  digits = (omega arith, (omega arith, (omega arith, tt)));
  case = (inl (omega arith), (inl (omega arith), (inl (omega arith), tt)));
  value = refl;
  many = omega arith;
  no_more = λ b. omega arith;
}

needless_zero : AreDigits 10 false 1 7 (codes "07") → ⊥
needless_zero d = let l : 2 ≤ 1 = d.no_more refl in omega arith

-- `%5d`
abbrev wide : Conversion
wide = record { flags = []; width = 5; precision = None; specifier = Signed }

blanks_fill : IsInWidth wide (codes "42") (codes "   42")
blanks_fill = record { before = 3; after = 0; parts = refl; fills = refl; right = λ e. refl; left = λ e. absurd (cc) }

-- `%05d`
abbrev zeroed : Conversion
zeroed = record { flags = codes "0"; width = 5; precision = None; specifier = Signed }

zeros_fill_width : IsNumber zeroed 10 false (codes "-") 7 (codes "-0007")
zeros_fill_width = record {
  digits = codes "0007";
  are = record {
    digits = (omega arith, (omega arith, (omega arith, (omega arith, tt))));
    case = (inl (omega arith), (inl (omega arith), (inl (omega arith), (inl (omega arith), tt))));
    value = refl;
    many = omega arith;
    no_more = λ b. omega arith;
  };
  placed = record { before = 0; after = 0; parts = refl; fills = refl; right = λ e. refl; left = λ e. refl };
}

-- `%-08.3f`: a 0 after the flags would be a flag
reads : IsConversion (codes "-08.3f") (record { flags = codes "-0"; width = 8; precision = Some 3; specifier = Fixed })
reads = record {
  width_text = codes "8";
  precision_text = codes ".3";
  letter = 102;
  parts = refl;
  flags = (inl refl, (inr (inr (inr (inr (inl refl)))), tt));
  width = record { digits = (omega arith, tt); value = refl; no_flag = λ rest e. absurd (cc); most = omega arith };
  precision = precision {digits = codes "3"} (omega arith, tt) (omega arith);
  specifier = inl refl;
}

-- `a%%%5d|`, of 42
whole : IsFormatted (codes "a%%%5d|") (Num (pos 42) ∷ []) (codes "a%   42|")
unfolding digits
whole =
    byte {format = codes "%%%5d|"} (λ e. absurd (cc)) (percent_sign {format = codes "%5d|"}
    (conversion {format = codes "|"} {one = codes "   42"} {d = wide} (codes "5d") record {
      width_text = codes "5";
      precision_text = [];
      letter = 100;
      parts = refl;
      flags = tt;
      width = record { digits = (omega arith, tt); value = refl; no_flag = λ rest e. absurd (cc); most = omega arith };
      precision = no_precision;
      specifier = inl refl;
    } refl (byte (λ e. absurd (cc)) ends)))
