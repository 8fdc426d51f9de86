-- Names and sources: what is emitted of them, and that those of code that fits do.
use Rattle.std.proofs.Common.{◌≡◌, ℕ, suc, ◌+◌, ◌-◌, ◌<◌, ◌≤◌, Bool, true, false, List, [], ◌∷◌, length, get_or, take, drop, drop-cons, Option, Some, None, ℤ, map, refl, sym, ap, ◌∙◌, subst, arith, if◌then◌else◌, ◌&&◌}
use Rattle.std.proofs.lemmas.List.{take_all}
use Rattle.wasm_types.specs.Syntax.{Instructions}
use Rattle.wasm_types.specs.declared.types.ValType.TheVariants.{I64}
use Rattle.wasm_types.specs.declared.instr.IBinOp.TheVariants.{Or}
use Rattle.wasm_types.specs.declared.instr.Simple.{Simple}
use Rattle.wasm_types.specs.declared.instr.Simple.TheVariants.{Binary}
use Rattle.mid_program.specs.declared.mid.Arithmetic.{Arithmetic}
use Rattle.mid_program.specs.declared.mid.Operation.{Operation}
use Rattle.mid_program.specs.declared.mid.Operation.TheVariants.{Inline}
use Rattle.mid_program.specs.Mid.{Code, Codes, Get, Number, End, At, Global, Parameter}
use Rattle.lower_model.specs.Emission.{Layout, source_pushed}
use Rattle.lower_model.specs.Quick.{Addition, addition_in, addition_of, all_unsure, and_name, and_source, Constant, Held, Holder, is_among, is_near, is_sum, joined, shifted, Source, source_in}
use Rattle.lower_model.specs.Small.{emit}
use Rattle.lower_quick.specs.View.{view_holder}
use Rattle.lower_quick.specs.declared.source.Holder as quick
use Rattle.lower_expressions.specs.Fits.{AllFit, Fits}
use Rattle.lower_expressions.specs.Sources.{AdditionFits, HolderFits, NamesFit, past, SourceFits, source_read}

-- lists of names

pub name_list : (i : Holder) (is : List Holder) → HolderFits i → NamesFit is → NamesFit (and_name i is)
name_list i is le f = by (is_among i is)
  where
    by : (t : Bool) → NamesFit (if t then is else i ∷ is)
    by true = f
    by false = (le, f)

pub source_list : (s : Source) (is : List Holder) → SourceFits s → NamesFit is → NamesFit (and_source s is)
source_list (Held i) is le f = name_list i is le f
source_list (Constant z) is le f = f

-- the first of the names that are left

left_at : (is : List quick.Holder) (i : ℕ) (d : quick.Holder) → i < length is → drop i is ≡ get_or is i d ∷ drop (i + 1) is
left_at is i d lt =
    let next : suc i ≡ i + 1 = omega arith in
    drop-cons is i d lt ∙ ap (λ (n : ℕ). get_or is i d ∷ drop n is) next

pub names_left : (is : List quick.Holder) (i : ℕ) (d : quick.Holder) → i < length is → NamesFit (map view_holder (drop i is)) → HolderFits (view_holder (get_or is i d)) × NamesFit (map view_holder (drop (i + 1) is))
names_left is i d lt f = subst (λ (js : List quick.Holder). NamesFit (map view_holder js)) (left_at is i d lt) f

pub joined_step : (read : Holder → Simple) (is : List quick.Holder) (i : ℕ) (d : quick.Holder) (q : ℤ) (k : Instructions) → i < length is →
    shifted (read (view_holder (get_or is i d))) q (emit (Binary I64 Or) (joined read (map view_holder (drop (i + 1) is)) q k)) ≡ joined read (map view_holder (drop i is)) q k
joined_step read is i d q k lt = sym (ap (λ (js : List quick.Holder). joined read (map view_holder js) q k) (left_at is i d lt))

-- the test of names, from that of the first and the others
pub all_of : (read : Holder → Simple) (is : List quick.Holder) (d : quick.Holder) (q : ℤ) (w : ℕ) (k : Instructions) → 1 ≤ length is →
    shifted (read (view_holder (get_or is 0 d))) q (joined read (map view_holder (take (length is - 1) (drop 1 is))) q (past w k)) ≡ all_unsure read (map view_holder is) q w k
all_of read [] d q w k h = absurd (omega arith)
all_of read (i ∷ is) d q w k h = ap (λ (js : List quick.Holder). shifted (read (view_holder i)) q (joined read (map view_holder js) q (past w k))) (take_all (suc (length is) - 1) is (omega arith))

-- two sources on the stack
pub two_read : (y : Layout) (a b : Source) (k : Instructions) → emit (source_read y a) (emit (source_read y b) k) ≡ source_pushed y a (source_pushed y b k)
two_read y (Held i) (Held j) k = refl
two_read y (Held i) (Constant z) k = refl
two_read y (Constant z) (Held j) k = refl
two_read y (Constant z) (Constant x) k = refl

-- sources in code

abbrev pub MaybeFits : Option Source → Type 0
MaybeFits None = Unit {0}
MaybeFits (Some s) = SourceFits s

pub maybe_fits : (y : Layout) (e : Code) (t w d : ℕ) → Fits y e t w d → MaybeFits (source_in e)
maybe_fits y (Get (Global true i)) t w d f = f.1
maybe_fits y (Get (Global false i)) t w d f = tt
maybe_fits y (Get (Parameter true i)) t w d f = f.1
maybe_fits y (Get (Parameter false i)) t w d f = tt
maybe_fits y (Number z) t w d f = tt
maybe_fits y e t w d f = tt

-- a sum of sources

abbrev MaybeAdded : Option Addition → Type 0
MaybeAdded None = Unit {0}
MaybeAdded (Some s) = AdditionFits s

of_sources : (o : Arithmetic) (a e : Option Source) → MaybeFits a → MaybeFits e → MaybeAdded (addition_of o a e)
of_sources o (Some a) (Some e) f g = by (is_sum o && (is_near a && is_near e))
  where
    by : (t : Bool) → MaybeAdded (if t then Some (record { op = o; left = a; right = e }) else None)
    by true = (f, g)
    by false = tt
of_sources o (Some a) None f g = tt
of_sources o None e f g = tt

maybe_added : (y : Layout) (o : Operation) (es : Codes) (t w d : ℕ) → AllFit y es t w d → MaybeAdded (addition_in o es)
maybe_added y (Inline o) (At a (At e End)) t w d f = of_sources o (source_in a) (source_in e) (maybe_fits y a t w d f.1.0) (maybe_fits y e (suc t) w d f.1.1.1.0)
maybe_added y o es t w d f = tt

pub addition_fits : (y : Layout) (o : Operation) (es : Codes) (s : Addition) (t w d : ℕ) → addition_in o es ≡ Some s → AllFit y es t w d → AdditionFits s
addition_fits y o es s t w d h f = subst MaybeAdded h (maybe_added y o es t w d f)
