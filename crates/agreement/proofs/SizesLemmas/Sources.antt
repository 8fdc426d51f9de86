-- What is read without a handle: names, parameters and small numbers. Sums of such, wherever they stand.
use Rattle.std.proofs.Common.{◌≡◌, ◌≤◌, ◌<◌, ◌^◌, ℕ, Bool, true, false, List, [], ◌∷◌, Option, Some, None, refl, subst, arith}
use Rattle.std.specs.Int.{w64, cast_unsigned}
use Rattle.std.specs.Prelude.{◌&&◌, if◌then◌else◌, ℤ, pos, negsuc, unsigned_abs}
use Rattle.wasm_types.specs.Syntax.{Instructions}
use Rattle.wasm_types.specs.declared.instr.Simple.TheVariants.{I64Const}
use Rattle.mid_program.specs.declared.mid.Arithmetic.{Arithmetic}
use Rattle.mid_program.specs.declared.mid.Operation.{Operation}
use Rattle.mid_program.specs.declared.mid.Operation.TheVariants.{Inline}
use Rattle.mid_program.specs.Mid.{Code, Codes, End, At}
use Rattle.lower_model.specs.Emission.{Layout, name_read, source_pushed, added, added_or}
use Rattle.lower_model.specs.Quick.{Holder, OfName, OfParameter, Source, Held, Constant, source_in, is_near, is_sum, joined, all_unsure, Addition, addition_names, addition_of, addition_in}
use Rattle.lower_model.specs.Small.{emit}
use Rattle.lower_model.proofs.QuickNames.{source_code, source_is}
use Rattle.agreement.proofs.SizesLemmas.Fits.{Fits, choice, long_fits, none, plain}
use Rattle.agreement.proofs.SizesLemmas.Small.{AllSmall, Small}

-- the word of a number
pub number_small : (z : ℤ) → unsigned_abs z ≤ 2 ^ 53 → cast_unsigned w64 z < 2 ^ 64
number_small (pos n) h = omega (arith, h)
number_small (negsuc n) h = omega arith

abbrev pub SourceSmall : Source → Type 0
SourceSmall (Held i) = Unit {0}
SourceSmall (Constant z) = unsigned_abs z ≤ 2 ^ 53

abbrev pub MaybeSmall : Option Source → Type 0
MaybeSmall None = Unit {0}
MaybeSmall (Some s) = SourceSmall s

abbrev pub AdditionSmall : Option Addition → Type 0
AdditionSmall None = Unit {0}
AdditionSmall (Some q) = SourceSmall q.left × SourceSmall q.right

source_small : (e : Code) (s : Source) → source_in e ≡ Some s → Small e → SourceSmall s
source_small e s q f = by s (subst Small (source_is e s q) f)
  where
    by : (r : Source) → Small (source_code r) → SourceSmall r
    by (Held i) g = tt
    by (Constant z) g = g

pub maybe_small : (e : Code) → Small e → MaybeSmall (source_in e)
maybe_small e f = by (source_in e) refl
  where
    by : (o : Option Source) → source_in e ≡ o → MaybeSmall o
    by None q = tt
    by (Some s) q = source_small e s q f

of_sources : (o : Arithmetic) (a e : Option Source) → MaybeSmall a → MaybeSmall e → AdditionSmall (addition_of o a e)
of_sources o (Some a) (Some e) f g = by (is_sum o && (is_near a && is_near e))
  where
    by : (t : Bool) → AdditionSmall (if t then Some (record { op = o; left = a; right = e }) else None)
    by true = (f, g)
    by false = tt
of_sources o (Some a) None f g = tt
of_sources o None e f g = tt

pub addition_small : (o : Operation) (es : Codes) → AllSmall es → AdditionSmall (addition_in o es)
addition_small (Inline o) (At a (At e End)) s = of_sources o (source_in a) (source_in e) (maybe_small a s.0) (maybe_small e s.1.0)
addition_small o es s = tt

module _ (y : Layout) where
  -- a holder's number is read
  pub read_fits : {k : Instructions} (h : Holder) → Fits k → Fits (emit (name_read y h) k)
  read_fits (OfName i) r = plain _ refl r
  read_fits (OfParameter i) r = plain _ refl r

  pub source_fits : {k : Instructions} (s : Source) → SourceSmall s → Fits k → Fits (source_pushed y s k)
  source_fits (Held i) s r = read_fits i r
  source_fits (Constant z) s r = plain (I64Const (cast_unsigned w64 z)) (long_fits (cast_unsigned w64 z) (number_small z s)) r

  joined_fits : {k : Instructions} (is : List Holder) (z : ℤ) → cast_unsigned w64 z < 2 ^ 64 → Fits k → Fits (joined (name_read y) is z k)
  joined_fits [] z h r = r
  joined_fits (i ∷ is) z h r =
      read_fits i (plain (I64Const (cast_unsigned w64 z)) (long_fits (cast_unsigned w64 z) h) (plain _ refl (plain _ refl (joined_fits is z h r))))

  pub unsure_fits : {k : Instructions} (is : List Holder) (z : ℤ) (width : ℕ) → cast_unsigned w64 z < 2 ^ 64 → width < 2 ^ 64 → Fits k →
      Fits (all_unsure (name_read y) is z width k)
  unsure_fits [] z width h w r = plain _ refl r
  unsure_fits (i ∷ is) z width h w r =
      read_fits i (plain (I64Const (cast_unsigned w64 z)) (long_fits (cast_unsigned w64 z) h) (plain _ refl
      (joined_fits is z h (plain (I64Const width) (long_fits width w) (plain _ refl r)))))

  added_fits : {k : Instructions} (q : Addition) (t : ℕ) → AdditionSmall (Some q) → Fits k → Fits (added y q t k)
  added_fits q t s r = source_fits q.left s.0 (source_fits q.right s.1 (plain _ refl (plain _ refl r)))

  pub added_or_fits : {anyway k other : Instructions} (o : Option Addition) (t : ℕ) → AdditionSmall o → Fits anyway → Fits k → Fits other → Fits (added_or y o t anyway k other)
  added_or_fits (Some q) t s a r x = unsure_fits (addition_names q) (pos (2 ^ 52)) (2 ^ 53) (omega arith) (omega arith) (choice a (added_fits q t s none) r)
  added_or_fits None t s a r x = x
