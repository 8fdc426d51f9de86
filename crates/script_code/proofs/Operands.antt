-- Operands of a list, and arguments of a call.
use Rattle.std.proofs.Common.{◌≡◌, ℕ, suc, ◌+◌, Bool, true, false, not, ◌&&◌, ◌||◌, List, [], ◌∷◌, length, refl, sym, true≢false, arith}
use Rattle.std.specs.Prelude.{if◌then◌else◌, nat_lt, nat_le, map, Option}
use Rattle.sem_primitives.specs.InTurn.{values_wanted}
use Rattle.sem_primitives.specs.declared.table.Listed.{Listed}
use Rattle.sem_scripts.specs.Names.{Name, ArrayName, Variable}
use Rattle.mid_program.specs.Mid.{Kind, Boxed, ArrayKind, Code, Over, Call, Unset, Array, Codes, End, At, Fresh, Form, parameters_at}
use Rattle.mid_program.specs.Sorted.{Context, Held, is_array_place, lender_at, fit_call, all_values, count_of, held_after_all, are_missing, sorted, all_sorted}
use Rattle.mid_program.specs.Translation.{variable_code, fresh_codes, kind_of}
use Rattle.script_code.proofs.Good.{Good, is_known, as_value, variable_good}

module _ (c : Context) (fs : List Form) where
  pub record Values (es : Codes) (n : ℕ) : Type 0 where
    pub values : all_values fs es ≡ true
    pub fine : all_sorted c fs es ≡ true
    pub apart : (i : ℕ) (h : Held) → held_after_all i es h ≡ h
    pub number : count_of es ≡ n

  pub no_values : Values End 0
  unfolding all_sorted
  no_values = record { values = refl; fine = refl; apart = λ i h. refl; number = refl }

  pub more_values : (e : Code) (es : Codes) (n : ℕ) → Good c fs e → Values es n → Values (At e es) (n + 1)
  unfolding all_sorted
  more_values e es n g v = record {
    values = rw (as_value c fs e g, v.values) refl;
    fine = rw (g.fine, v.fine) refl;
    apart = λ i h. rw (g.apart i h) (v.apart i h);
    number = let k = v.number in omega (arith, k);
  }

  pub record Handed (ks : List Kind) (es : Codes) : Type 0 where
    pub fit : (lender : ℕ → Option ℕ) → fit_call lender fs ks es ≡ true
    pub fine : all_sorted c fs es ≡ true
    pub apart : (i : ℕ) (h : Held) → held_after_all i es h ≡ h

  pub none_handed : Handed [] End
  unfolding all_sorted
  none_handed = record { fit = λ lender. refl; fine = refl; apart = λ i h. refl }

  -- where no argument is given
  fresh_missing : (ps : List Name) → are_missing (fresh_codes ps) ≡ true
  fresh_missing [] = refl
  fresh_missing (p ∷ ps) = by p.is_array (fresh_missing ps)
    where
      by : (b : Bool) → are_missing (fresh_codes ps) ≡ true → are_missing (if b then Fresh (fresh_codes ps) else At Unset (fresh_codes ps)) ≡ true
      by true h = h
      by false h = h

  fresh_handed : (b : Bool) (ks : List Kind) (es : Codes) → are_missing es ≡ true → Handed ks es → Handed ((if b then ArrayKind else Boxed) ∷ ks) (if b then Fresh es else At Unset es)
  unfolding sorted all_sorted
  fresh_handed true ks es m h = record { fit = λ lender. h.fit (λ i. lender (suc i)); fine = rw m h.fine; apart = h.apart }
  fresh_handed false ks es m h = record { fit = λ lender. h.fit (λ i. lender (suc i)); fine = h.fine; apart = h.apart }

  pub all_fresh : (ps : List Name) → Handed (map kind_of ps) (fresh_codes ps)
  all_fresh [] = none_handed
  all_fresh (p ∷ ps) = fresh_handed p.is_array (map kind_of ps) (fresh_codes ps) (fresh_missing ps) (all_fresh ps)

  -- a name for a parameter: b for an array, d an array's name, s a scalar's
  pub name_handed : (b d s : Bool) (a : ArrayName) (v : Variable) (ks : List Kind) (es : Codes) → (d || (not b && s)) ≡ true → (d ≡ true → is_array_place c a ≡ true) → (s ≡ true → is_known c v ≡ true) → Handed ks es →
      Handed ((if b then ArrayKind else Boxed) ∷ ks) (At (if b then Array a else (if d then Unset else variable_code v)) es)
  unfolding sorted all_sorted
  name_handed true true s a v ks es e p q h = record { fit = λ lender. h.fit (λ i. lender (suc i)); fine = rw (p refl) h.fine; apart = h.apart }
  name_handed false true s a v ks es e p q h = record { fit = λ lender. h.fit (λ i. lender (suc i)); fine = h.fine; apart = h.apart }
  name_handed false false true a v ks es e p q h =
      let g = variable_good c fs v (q refl) in
      record { fit = λ lender. rw (as_value c fs (variable_code v) g) (h.fit (λ i. lender (suc i))); fine = rw (g.fine) h.fine; apart = λ i s. rw (g.apart i s) (h.apart i s) }
  name_handed false false false a v ks es e p q h = absurd (true≢false (sym e))
  name_handed true false s a v ks es e p q h = absurd (true≢false (sym e))

  pub value_handed : (b : Bool) (e : Code) (ks : List Kind) (es : Codes) → b ≡ false → Good c fs e → Handed ks es → Handed ((if b then ArrayKind else Boxed) ∷ ks) (At e es)
  unfolding all_sorted
  value_handed true e ks es n g h = absurd (true≢false n)
  value_handed false e ks es n g h = record { fit = λ lender. rw (as_value c fs e g) (h.fit (λ i. lender (suc i))); fine = rw (g.fine) h.fine; apart = λ i s. rw (g.apart i s) (h.apart i s) }

  pub call_good : (f : ℕ) (ks : List Kind) (es : Codes) → nat_lt f (length c.calls) ≡ true → parameters_at c.calls f ≡ ks → Handed ks es → Good c fs (Call f es)
  unfolding sorted
  call_good f ks es n e h = record { tested = refl; fine = rw (n, e, h.fit (lender_at c.lenders), h.fine) refl; apart = h.apart }

  pub over_good : (l : Listed) (es : Codes) (n : ℕ) → Values es n → nat_le (values_wanted l) n ≡ true → sorted c fs (Over l es) ≡ true
  unfolding sorted
  over_good l es n v e = rw (v.number, e, v.values, v.fine) refl
