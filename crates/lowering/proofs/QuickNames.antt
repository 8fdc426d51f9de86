-- The names of quick ways are numbers of globals, and their parameters places of locals, where the code can be emitted.
use Rattle.std.proofs.Common.{◌≡◌, ℕ, zero, suc, ◌^◌, ◌<◌, ◌≤◌, Bool, true, false, nat_eq, [], ◌∷◌, Option, Some, None, ℤ, pos, ◌+ℤ◌, unsigned_abs, refl, sym, ap, subst, arith}
use Rattle.std.specs.Prelude.{◌&&◌, if◌then◌else◌, is_some}
use Rattle.awk_values.specs.declared.comparison.CompareOp.{CompareOp}
use Rattle.awk_values.specs.declared.comparison.CompareOp.TheVariants as compare
use Rattle.mid_program.specs.declared.mid.Arithmetic.{Arithmetic}
use Rattle.mid_program.specs.declared.mid.Arithmetic.TheVariants as inline
use Rattle.mid_program.specs.declared.mid.Operation.TheVariants.{Inline, AsNumber}
use Rattle.mid_program.specs.Mid.{Slot, Code, Do, Compare, Number, Get, Set, Let, Bound, Codes, End, At}
use Rattle.lower_model.specs.Emission.{Layout}
use Rattle.lower_model.specs.Quick.{Addition, Holder, OfName, OfParameter, addition_in, addition_of, holder_of, is_near, is_sum, Source, Constant, Sum, Update, update_in, Tally, tally_in, Remainder, remainder_in, remainder_names, Counted, counted_of, counted_in, field_count, Pair, Within, and_source, both_within, compared_within, constant_in, first_ones, kept_sum, let_sum, name_in, new_sum, old_source, pair_in, pair_names, pair_of, set_after, set_alone, set_sum, source_in, stored_name, sum_in, sum_names, sum_of, test_within, two_sum, update_sum}
use Rattle.lower_model.proofs.Quick.{holder_is, name_is}
use Rattle.lower_model.proofs.State.{holder_slot}
use Rattle.lower_model.proofs.Tallies.{Shape, Updating, Following, Leading, tally_code, IsAdded, tally_is}
use Rattle.lower_model.proofs.Remainders.{IsRemainder, factored_code, remainder_code, remainder_is}
use Rattle.lower_model.proofs.Updating.{added_is}
use Rattle.lower_model.proofs.QuickNames.{near_sum, none_is, some_is, stored_is}
use Rattle.lower_pieces.specs.Bounds.{most_labels}
use Rattle.lower_expressions.specs.Fits.{AllFit, Fits, SlotFits}
use Rattle.lower_expressions.specs.Sources.{HolderFits, NamesFit}
use Rattle.lower_expressions.proofs.SourceLemmas.{MaybeFits, maybe_fits, name_list, source_list}
use Rattle.lowering.specs.QuickFits.{FactorFits, PairFits, RemainderFits, SumFits, TallyFits}

-- lists of names

pub sum_list : (s : Sum) → SumFits s → NamesFit (sum_names s)
sum_list s f = name_list s.target (and_source s.left (and_source s.right [])) f.0 (source_list s.left (and_source s.right []) f.1.0 (source_list s.right [] f.1.1 tt))

pub remainder_list : (q : Remainder) → RemainderFits q → NamesFit (remainder_names q)
remainder_list q f = name_list q.target (q.multiple.name ∷ []) f.0 (f.1.0, tt)

pub pair_list : (q : Pair) → PairFits q → NamesFit (pair_names q)
pair_list q f = source_list q.left (and_source q.right []) f.0 (source_list q.right [] f.1 tt)

-- names in code

sum_of_fits : (i : Holder) (o : Arithmetic) (a e : Option Source) (s : Sum) → sum_of i o a e ≡ Some s → HolderFits i → MaybeFits a → MaybeFits e → SumFits s
sum_of_fits i o (Some a) (Some e) s q le f g = subst SumFits (near_sum i o a e s q).1 (le, (f, g))
sum_of_fits i o (Some a) None s q le f g = cc
sum_of_fits i o None e s q le f g = cc

of_pair : (c : CompareOp) (a e : Option Source) (q : Pair) → pair_of c a e ≡ Some q → MaybeFits a → MaybeFits e → PairFits q
of_pair c (Some a) (Some e) q h f g = subst PairFits (some_is (record { op = c; left = a; right = e }) q h) (f, g)
of_pair c (Some a) None q h f g = cc
of_pair c None e q h f g = cc

ones_of : (i : Holder) (n : ℕ) (q : Within) → first_ones i n ≡ Some q → i ≡ q.name
ones_of i zero q h = cc
ones_of i (suc k) q h = ap (λ (r : Within). r.name) (some_is (record { name = i; shift = pos (2 ^ 53); width = k }) q h)

name_of : (c : CompareOp) (i : Holder) (z : ℤ) (q : Within) → compared_within c i z ≡ Some q → i ≡ q.name
name_of compare.Less i z q h = ones_of i (unsigned_abs (z +ℤ pos (2 ^ 53))) q h
name_of compare.LessOrEqual i z q h = ones_of i (suc (unsigned_abs (z +ℤ pos (2 ^ 53)))) q h
name_of c i z q h = cc

-- a slot that holds a number

held_fits : (i : Holder) → SlotFits (holder_slot i) → HolderFits i
held_fits (OfName i) f = f
held_fits (OfParameter i) f = f

slot_fits : (x : Slot) (i : Holder) → holder_of x ≡ Some i → SlotFits x → HolderFits i
slot_fits x i h f = held_fits i (subst SlotFits (holder_is x i h) f)

module _ (y : Layout) where
  two_fits : (i : Holder) (o : Arithmetic) (es : Codes) (s : Sum) (t w d : ℕ) → two_sum i o es ≡ Some s → HolderFits i → AllFit y es t w d → SumFits s
  two_fits i o (At a (At e End)) s t w d q le f = sum_of_fits i o (source_in a) (source_in e) s q le (maybe_fits y a t w d f.1.0) (maybe_fits y e (suc t) w d f.1.1.1.0)
  two_fits i o es s t w d q le f = cc

  set_fits : (i : Holder) (e : Code) (s : Sum) (t w d : ℕ) → set_sum i e ≡ Some s → HolderFits i → Fits y e t w d → SumFits s
  set_fits i (Do (Inline o) es) s t w d q le f = two_fits i o es s t w (if is_some (addition_in (Inline o) es) then suc d else d) q le f
  set_fits i e s t w d q le f = cc

  kept_fits : (i : Holder) (o : Arithmetic) (a : Code) (es : Codes) (s : Sum) (t w d : ℕ) → kept_sum i o a es ≡ Some s → HolderFits i → MaybeFits (source_in a) → AllFit y es t w d → SumFits s
  kept_fits i o a (At x (At (Bound true zero) End)) s t w d q le g f = sum_of_fits i o (source_in x) (source_in a) s q le (maybe_fits y x t w d f.1.0) g
  kept_fits i o a es s t w d q le g f = cc

  update_fits : (i : Holder) (a e : Code) (s : Sum) (t w d : ℕ) → update_sum i a e ≡ Some s → HolderFits i → MaybeFits (source_in a) → Fits y e t w d → SumFits s
  update_fits i a (Do (Inline o) es) s t w d q le g f = kept_fits i o a es s t w (if is_some (addition_in (Inline o) es) then suc d else d) q le g f
  update_fits i a e s t w d q le g f = cc

  old_fits : (e : Code) (t w d : ℕ) → Fits y e t w d → MaybeFits (old_source e)
  old_fits (Do AsNumber (At a End)) t w d f = maybe_fits y a t w d f.1.0
  old_fits e t w d f = tt

  stored_fits : (e : Code) (i : Holder) (t w d : ℕ) → stored_name e ≡ Some i → Fits y e t w d → HolderFits i
  stored_fits e i t w d q f = held_fits i (subst (λ (x : Code). Fits y x t w d) (stored_is e i q) f).1.0.1.0

  new_fits : (a : Option Source) (i : Option Holder) (e : Code) (s : Sum) → new_sum a i e ≡ Some s → MaybeFits a → ((j : Holder) → i ≡ Some j → HolderFits j) → SumFits s
  new_fits a (Some i) (Do (Inline o) (At (Bound false zero) (At (Number z) End))) s q f g = sum_of_fits i o a (Some (Constant z)) s q (g i refl) f tt
  new_fits a i e s q f g = cc

  after_fits : (x : Slot) (o : Option Holder) (a e : Code) (s : Sum) (t w d : ℕ) → holder_of x ≡ o → set_after o a e ≡ Some s → SlotFits x → MaybeFits (source_in a) → Fits y e t w d → SumFits s
  after_fits x (Some i) a e s t w d h q f g n = update_fits i a e s t w d q (slot_fits x i h f) g n
  after_fits x None a e s t w d h q f g n = none_is q

  alone_fits : (x : Slot) (o : Option Holder) (e : Code) (s : Sum) (t w d : ℕ) → holder_of x ≡ o → set_alone o e ≡ Some s → SlotFits x → Fits y e t w d → SumFits s
  alone_fits x (Some i) e s t w d h q f n = set_fits i e s t w d q (slot_fits x i h f) n
  alone_fits x None e s t w d h q f n = none_is q

  let_fits : (a e : Code) (s : Sum) (t w d : ℕ) → let_sum a e ≡ Some s → Fits y a t w d → Fits y e (suc t) w d → SumFits s
  let_fits a (Set x e) s t w d q f g = after_fits x (holder_of x) a e s (suc t) w d refl q g.1.0 (maybe_fits y a t w d f) g.1.1
  let_fits a (Let x z) s t w d q f g = new_fits (old_source a) (stored_name z) x s q (old_fits a t w d f) (λ j k. stored_fits z j (suc (suc t)) w d k g.1.1)
  let_fits a e s t w d q f g = cc

  pub sum_fits : (e : Code) (s : Sum) (t w d : ℕ) → sum_in e ≡ Some s → Fits y e t w d → SumFits s
  sum_fits (Set x e) s t w d q f = alone_fits x (holder_of x) e s t w d refl q f.1.0 f.1.1
  sum_fits (Let a e) s t w d q f = let_fits a e s t w d q f.1.0 f.1.1
  sum_fits e s t w d q f = cc

  pub pair_fits : (e : Code) (q : Pair) (t w d : ℕ) → pair_in e ≡ Some q → Fits y e t w d → PairFits q
  pair_fits (Compare c a b) q t w d h f = of_pair c (source_in a) (source_in b) q h (maybe_fits y a t w d f.1.0) (maybe_fits y b (suc t) w d f.1.1)
  pair_fits e q t w d h f = cc

  both_fits : (c : CompareOp) (a : Code) (i : Option Holder) (r : Option ℤ) (q : Within) (t w d : ℕ) → name_in a ≡ i → both_within c i r ≡ Some q → Fits y a t w d → HolderFits q.name
  both_fits c a (Some i) (Some z) q t w d e h f = subst HolderFits (name_of c i z q h) (held_fits i (subst (λ (x : Code). Fits y x t w d) (name_is a i e) f).1)
  both_fits c a (Some i) None q t w d e h f = cc
  both_fits c a None r q t w d e h f = cc

  pub within_fits : (e : Code) (q : Within) (t w d : ℕ) → test_within e ≡ Some q → Fits y e t w d → HolderFits q.name
  within_fits (Compare c a b) q t w d h f = both_fits c a (name_in a) (constant_in b) q t w d refl h f.1.0
  within_fits e q t w d h f = cc

  -- a sum with what is evaluated first
  pub update_fits_all : (e : Code) (q : Update) (t w d : ℕ) → update_in e ≡ Some q → Fits y e t w d → HolderFits q.target × HolderFits q.name × Fits y q.added t w d
  update_fits_all e q t w d h f =
      let g = subst (λ (x : Code). Fits y x t w d) (added_is e q h).0 f in
      (held_fits q.target g.1.1.1.0, held_fits q.name g.1.1.1.1.1.0.1, g.1.0)

  -- a counter in an array
  counter_fits : (i : Shape) (q : Tally) (d : ℕ) → IsAdded i q.added → Fits y (tally_code i q) 0 0 d → TallyFits y q d
  counter_fits Updating q d a f = (f.1.0, (f.1.1.1.0, (f.1.1.1.1.1.0.1.0.1.0, f.1.1.1.1.1.1.1.0.1.0)))
  counter_fits Following q d a f = (f.1.0, (subst (λ (e : Code). Fits y e 1 0 d) (sym a.1) f.1.1.0, (f.1.1.1.0.1.0.1.0, f.1.1.1.1.1.1.1.0.1.0)))
  counter_fits Leading q d a f = (f.1.0, (subst (λ (e : Code). Fits y e 1 0 d) (sym a.1) f.1.1.0, (f.1.1.1.0.1.0.1.0, f.1.1.1.1.1.0.1.0)))

  pub tally_fits : (e : Code) (q : Tally) (d : ℕ) → tally_in e ≡ Some q → Fits y e 0 0 d → TallyFits y q d
  tally_fits e q d h f = let t = tally_is e q h in counter_fits t.shape q d t.added (subst (λ (x : Code). Fits y x 0 0 d) t.code f)

  -- a remainder

  factor_fits : (e : Code) (i j : Holder) (f : Option ℤ) (z : ℤ) → IsRemainder e (record { target = i; multiple = record { name = j; factor = f }; divisor = z }) → FactorFits f
  factor_fits e i j None z s = tt
  factor_fits e i j (Some c) z s = by (unsigned_abs c) s.factor
    where
      by : (k : ℕ) → nat_eq k 0 ≡ false → 0 < k
      by zero h = cc
      by (suc k) h = omega arith

  factored_fits : (i : Holder) (f : Option ℤ) (t w d : ℕ) → Fits y (factored_code i f) t w d → HolderFits i
  factored_fits i None t w d f = held_fits i f.1
  factored_fits i (Some c) t w d f = held_fits i f.1.0.1

  pub remainder_fits : (e : Code) (q : Remainder) (t w d : ℕ) → remainder_in e ≡ Some q → Fits y e t w d → RemainderFits q
  remainder_fits e q t w d h f =
      let s = remainder_is e q h in
      let g = subst (λ (x : Code). Fits y x t w d) s.code f in
      (held_fits q.target g.1.0, (factored_fits q.multiple.name q.multiple.factor t w _ g.1.1.1.0, factor_fits e q.target q.multiple.name q.multiple.factor q.divisor s))

  -- what is no sum has its operands where it stands itself

  no_addition : (o : Arithmetic) (es : Codes) → is_sum o ≡ false → is_some (addition_in (Inline o) es) ≡ false
  no_addition o (At a (At e End)) h = by (source_in a) (source_in e)
    where
      by : (x z : Option Source) → is_some (addition_of o x z) ≡ false
      by (Some x) (Some z) = ap (λ (j : Bool). is_some {T = Addition} (if j && (is_near x && is_near z) then Some (record { op = o; left = x; right = z }) else None)) h
      by (Some x) None = refl
      by None z = refl
  no_addition o es h = refl

  stands : (o : Arithmetic) (es : Codes) (d : ℕ) → is_sum o ≡ false → (if is_some (addition_in (Inline o) es) then suc d else d) ≡ d
  stands o es d h = ap (λ (j : Bool). if j then suc d else d) (no_addition o es h)

  operands_fit : (o : Arithmetic) (es : Codes) (t w d : ℕ) → is_sum o ≡ false → Fits y (Do (Inline o) es) t w d → AllFit y es t w d
  operands_fit o es t w d h f = subst (λ (n : ℕ). AllFit y es t w n) (stands o es d h) f

  done_fits : (o : Arithmetic) (es : Codes) (t w d : ℕ) → is_sum o ≡ false → AllFit y es t w d → Fits y (Do (Inline o) es) t w d
  done_fits o es t w d h f = subst (λ (n : ℕ). AllFit y es t w n) (sym (stands o es d h)) f

  factored_deeper : (i : Holder) (f : Option ℤ) (t w d : ℕ) → suc (suc (suc d)) ≤ most_labels → Fits y (factored_code i f) t w d → Fits y (factored_code i f) t w (suc d)
  factored_deeper i None t w d l f = ((f.0.0, (f.0.1.0, l)), f.1)
  factored_deeper i (Some c) t w d l f =
      let es = At (Get (holder_slot i)) (At (Number c) End) in
      let v = operands_fit inline.Times es t w d refl f in
      let a = v.0 in
      let g = v.1.0 in
      let n = v.1.1 in
      done_fits inline.Times es t w (suc d) refl
      ((a.0, (a.1.0, l)), (((g.0.0, (g.0.1.0, l)), g.1), ((n.0.0, (n.0.1.0, l)), ((n.1.0.0, (n.1.0.1.0, l)), (n.1.1.0, (n.1.1.1.0, l))))))

  -- one label deeper
  pub remainder_deeper : (e : Code) (q : Remainder) (d : ℕ) → remainder_in e ≡ Some q → suc (suc (suc d)) ≤ most_labels → Fits y e 0 0 d → Fits y e 0 0 (suc d)
  remainder_deeper e q d h l f =
      let s = remainder_is e q h in
      subst (λ (x : Code). Fits y x 0 0 (suc d)) (sym s.code) (by (subst (λ (x : Code). Fits y x 0 0 d) s.code f))
    where
      by : Fits y (remainder_code q) 0 0 d → Fits y (remainder_code q) 0 0 (suc d)
      by g =
          let es = At (factored_code q.multiple.name q.multiple.factor) (At (Number q.divisor) End) in
          let a = g.0 in
          let x = operands_fit inline.Modulo es 0 0 d refl g.1.1 in
          let n = x.1.1 in (
            (a.0, (a.1.0, l)),
            (
              g.1.0,
              done_fits inline.Modulo es 0 0 (suc d) refl
                  ((x.0.0, (x.0.1.0, l)), (factored_deeper q.multiple.name q.multiple.factor 0 0 d l x.1.0, ((n.0.0, (n.0.1.0, l)), ((n.1.0.0, (n.1.0.1.0, l)), (n.1.1.0, (n.1.1.1.0, l)))))),
            ),
          )

  -- a comparison with how many fields there are
  counted_of_fits : (c : CompareOp) (a : Code) (i : Option Holder) (j : Bool) (q : Counted) (t w d : ℕ) → name_in a ≡ i → counted_of c i j ≡ Some q → Fits y a t w d → HolderFits q.name
  counted_of_fits c a (Some i) true q t w d e h f = subst HolderFits (ap (λ (r : Counted). r.name) (some_is (record { op = c; name = i }) q h)) (held_fits i (subst (λ (x : Code). Fits y x t w d) (name_is a i e) f).1)
  counted_of_fits c a (Some i) false q t w d e h f = cc
  counted_of_fits c a None j q t w d e h f = cc

  pub counted_fits : (e : Code) (q : Counted) (t w d : ℕ) → counted_in e ≡ Some q → Fits y e t w d → HolderFits q.name
  counted_fits (Compare c a b) q t w d h f = counted_of_fits c a (name_in a) (field_count b) q t w d refl h f.1.0
  counted_fits e q t w d h f = cc
