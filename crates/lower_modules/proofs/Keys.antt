-- What the key of subscripts needs, from what each of them needs, and operands one more.
use Rattle.std.proofs.Common.{◌≡◌, ℕ, suc, ◌≤◌, List, ◌∷◌, max, map, drop, get_or, length, sym, ap, ◌∙◌, arith}
use Rattle.std.proofs.Math.Seq.{drop-cons}
use Rattle.mid_program.specs.declared.mid.Arithmetic.{Arithmetic}
use Rattle.mid_program.specs.declared.mid.Arithmetic.TheVariants.{Times}
use Rattle.mid_program.specs.declared.mid.Operation.TheVariants.{Host, Inline, AsNumber, FieldNumber}
use Rattle.mid_program.specs.Mid.{Code, Do, Over, Compare, Call, Ask, AskLine, FileLine, Replace, Number, Text, Unset, Get, Set, Array, IsOpen, Choose, Seq, Let, Bound}
use Rattle.mid_program.specs.ViewCode.{before, joined, view, views}
use Rattle.mid_program.specs.declared.code.Code.{Code as Owned}
use Rattle.mid_program.specs.declared.code.Operand.{Operand}
use Rattle.lower_model.specs.Places.{arrays_in, calculated_room, room}
use Rattle.lower_modules.specs.Counted.{counted}
use Rattle.lower_modules.specs.Labels.{labels_in}

calculated_some : (a : Arithmetic) → 1 ≤ calculated_room a
calculated_some Times = omega arith
calculated_some a = omega arith

-- the value of code goes somewhere
some_room : (e : Code) → 1 ≤ room e
some_room (Do (Host p) es) = omega arith
some_room (Do (Inline a) es) = let h = calculated_some a in omega (arith, h)
some_room (Do AsNumber es) = omega arith
some_room (Do FieldNumber es) = omega arith
some_room (Over l es) = omega arith
some_room (Compare c a b) = omega arith
some_room (Call f es) = omega arith
some_room Ask = omega arith
some_room (AskLine s) = omega arith
some_room (FileLine e s) = omega arith
some_room (Replace all es s) = omega arith
some_room (Number z) = omega arith
some_room (Text i) = omega arith
some_room Unset = omega arith
some_room (Get x) = omega arith
some_room (Set x e) = some_room e
some_room (Array a) = omega arith
some_room (IsOpen i) = omega arith
some_room (Choose s c a b) = let h = some_room c in omega arith
some_room (Seq a b) = let h = some_room a in omega arith
some_room (Let a b) = omega arith
some_room (Bound m i) = omega arith

pub room_joined : (e : Code) (es : List Code) (last : Code) → max (counted (room e)) (counted (suc (counted (room (joined es last))))) ≡ counted (room (joined (e ∷ es) last))
room_joined e es last = let h = some_room (joined es last) in omega arith

pub arrays_joined : (e : Code) (es : List Code) (last : Code) → max (counted (arrays_in e)) (counted (arrays_in (joined es last))) ≡ counted (arrays_in (joined (e ∷ es) last))
arrays_joined e es last = omega arith

pub labels_joined : (e : Code) (es : List Code) (last : Code) → max (counted (labels_in e)) (counted (labels_in (joined es last))) ≡ counted (labels_in (joined (e ∷ es) last))
labels_joined e es last = omega arith

-- the subscripts from j on, i being the place after j
pub one_more : (xs : List Owned) (i j : ℕ) (x : Owned) (last : Code) → i ≡ suc j → i ≤ length xs → x ≡ get_or xs j x →
    joined (view x ∷ map view (drop i xs)) last ≡ joined (map view (drop j xs)) last
one_more xs i j x last next few is =
    ap (λ (n : ℕ). joined (view x ∷ map view (drop n xs)) last) next
    ∙ ap (λ (e : Owned). joined (view e ∷ map view (drop (suc j) xs)) last) is
    ∙ sym (ap (λ (es : List Owned). joined (map view es) last) (drop-cons xs j x (omega arith)))

-- the operands from j on, i being the place after j
pub one_before : (xs : List Operand) (i j : ℕ) (x : Operand) → i ≡ suc j → i ≤ length xs → x ≡ get_or xs j x → before x (views (drop i xs)) ≡ views (drop j xs)
one_before xs i j x next few is =
    ap (λ (n : ℕ). before x (views (drop n xs))) next
    ∙ ap (λ (o : Operand). before o (views (drop (suc j) xs))) is
    ∙ sym (ap views (drop-cons xs j x (omega arith)))
