-- The whole statement, with its place before it and the next statement after it. Where it has a quick way, this calls nothing either: whatever the words of its names are, they are joined and compared, and one of two ways is
-- taken.
use Rattle.std.proofs.Common.{◌≡◌, ℕ, zero, suc, Bool, true, false, List, [], ◌∷◌, Option, Some, None, refl, sym, ap, ◌∙◌, subst}
use Rattle.wasm_types.specs.Syntax.{Instructions}
use Rattle.wasm_types.specs.declared.instr.IBinOp.{IBinOp}
use Rattle.wasm_store.specs.declared.word.Word.{Word}
use Rattle.wasm_model.specs.Frames.{LabelForm}
use Rattle.wasm_model.specs.Machines.{Conf, ProgramForm}
use Rattle.mid_program.specs.declared.mid.Arithmetic.TheVariants as inline
use Rattle.mid_program.specs.Mid.{Code, Eval, Global, Parameter, Set, Slot, Step, Steps, Then, form_of}
use Rattle.mid_program.specs.Sorted.{lender_at}
use Rattle.lower_model.specs.Appends.{Append, append_in}
use Rattle.lower_model.specs.Emission.{Layout, dropped, emitted, all_emitted}
use Rattle.lower_model.specs.Places.{number_local}
use Rattle.lower_model.specs.Quick.{Constant, Holder, OfName, OfParameter, Held, Remainder, Source, Sum, remainder_in, set_sum, source_in, sum_in, sum_names, sum_of, sum_op}
use Rattle.lower_model.specs.Small.{text_beside, emit}
use Rattle.lower_model.proofs.State.{holder_slot}
use Rattle.lower_model.specs.Statements.{appended_dropped, parameter_found, name_numbered, quickly_dropped, remainder_dropped, source_numbered, source_taken, step_emitted, steps_emitted, sum_taken, summed, summed_anyway, name_put}
use Rattle.lower_model.proofs.QuickNames.{near_sum, some_is}
use Rattle.agreement.specs.Quiet.Sums.{HasNoText, IsSum, constant, itself, joined as sum_of_two, name}
use Rattle.agreement.proofs.QuietLemmas.Flowing.{Flows, arrived, at, binary, branch, compare, const64, ended, get, get_global, nop, set, set_global, tee}
use Rattle.agreement.proofs.QuietLemmas.Parts.{Faults, equal_word, failing, no_mark_flows, number_is_flows}
use Rattle.agreement.proofs.QuietLemmas.Sources.{all_flows, source_flows}
use Rattle.agreement.proofs.QuietLemmas.Sums.{below_same, put_ready, set_flows, sum_flows}

module _ (m : ProgramForm) (P : Conf → Type 0) (bs : List Bool) (base : Conf) (fault : Faults m P bs base) (y : Layout) where
  -- Quick ways.

  -- a holder's number is written
  put_flows : {K : List LabelForm} {gs L : List Word} {v : Word} {k : Instructions} (x : Holder) → ((hs M : List Word) → Flows m P bs base K hs M [] k) → Flows m P bs base K gs L (v ∷ []) (emit (name_put y x) k)
  put_flows (OfName i) h = set_global (h _ _)
  put_flows (OfParameter i) h = set (λ f. h _ _)

  summed_flows : {K : List LabelForm} {gs L : List Word} {k : Instructions} (s : Sum) → ((hs M : List Word) → Flows m P bs base K hs M [] k) → Flows m P bs base K gs L [] (summed y s k)
  summed_flows s h = source_flows y s.left (λ v. source_flows y s.right (λ u. binary (λ w. put_flows s.target h)))

  -- Sums in all cases: no text stands beside a name, so none is asked for its number.

  abbrev NoText : Slot → Type 0
  NoText x = HasNoText y.ranges y.lenders y.bases base x

  abbrev SourceClear : Source → Type 0
  SourceClear (Held i) = NoText (holder_slot i)
  SourceClear (Constant z) = Unit {0}

  source_clear : (a : Code) → IsSum NoText a → (s : Source) → source_in a ≡ Some s → SourceClear s
  source_clear _ (constant z) s e = subst SourceClear (some_is (Constant z) s e) tt
  source_clear _ (name (Global true i) h) s e = subst SourceClear (some_is (Held (OfName i)) s e) h
  source_clear _ (name (Global false i) h) s e = absurd h
  source_clear _ (name (Parameter true i) h) s e = subst SourceClear (some_is (Held (OfParameter i)) s e) h
  source_clear _ (name (Parameter false i) h) s e = absurd h
  source_clear _ (sum_of_two o a f p q r) s e = cc
  source_clear _ (itself a p) s e = cc

  abbrev SumClear : Sum → Type 0
  SumClear s = NoText (holder_slot s.target) × (SourceClear s.left × SourceClear s.right)

  set_clear : (i : Holder) (e : Code) (s : Sum) → set_sum i e ≡ Some s → NoText (holder_slot i) → IsSum NoText e → SumClear s
  set_clear i _ s h t (sum_of_two o a f p q r) = by (source_in a) refl (source_in f) refl h
    where
      by : (l : Option Source) → source_in a ≡ l → (z : Option Source) → source_in f ≡ z → sum_of i o l z ≡ Some s → SumClear s
      by (Some l) el (Some z) ez h1 = subst SumClear (near_sum i o l z s h1).1 (t, (source_clear a q l el, source_clear f r z ez))
      by (Some l) el None ez h1 = cc
      by None el z ez h1 = cc
  set_clear i _ s h t (constant z) = cc
  set_clear i _ s h t (name x p) = cc
  set_clear i _ s h t (itself a p) = cc

  sum_clear : (x : Slot) (e : Code) (s : Sum) → sum_in (Set x e) ≡ Some s → NoText x → IsSum NoText e → SumClear s
  sum_clear (Global true i) e s h t p = set_clear (OfName i) e s h t p
  sum_clear (Global false i) e s h t p = cc
  sum_clear (Parameter true i) e s h t p = set_clear (OfParameter i) e s h t p
  sum_clear (Parameter false i) e s h t p = cc

  -- a sum is no remainder
  no_remainder : (x : Slot) (e : Code) → IsSum NoText e → remainder_in (Set x e) ≡ None
  no_remainder (Global true i) _ (constant z) = refl
  no_remainder (Global true i) _ (name x h) = refl
  no_remainder (Global true i) _ (sum_of_two inline.Plus a f p q r) = refl
  no_remainder (Global true i) _ (sum_of_two inline.Minus a f p q r) = refl
  no_remainder (Global true i) _ (sum_of_two inline.Times a f p q r) = refl
  no_remainder (Global true i) _ (sum_of_two inline.Over a f p q r) = absurd p
  no_remainder (Global true i) _ (sum_of_two inline.Modulo a f p q r) = absurd p
  no_remainder (Global true i) _ (sum_of_two inline.Truncated a f p q r) = absurd p
  no_remainder (Global true i) _ (itself a p) = refl
  no_remainder (Parameter true i) _ (constant z) = refl
  no_remainder (Parameter true i) _ (name x h) = refl
  no_remainder (Parameter true i) _ (sum_of_two inline.Plus a f p q r) = refl
  no_remainder (Parameter true i) _ (sum_of_two inline.Minus a f p q r) = refl
  no_remainder (Parameter true i) _ (sum_of_two inline.Times a f p q r) = refl
  no_remainder (Parameter true i) _ (sum_of_two inline.Over a f p q r) = absurd p
  no_remainder (Parameter true i) _ (sum_of_two inline.Modulo a f p q r) = absurd p
  no_remainder (Parameter true i) _ (sum_of_two inline.Truncated a f p q r) = absurd p
  no_remainder (Parameter true i) _ (itself a p) = refl
  no_remainder (Global false i) e p = refl
  no_remainder (Parameter false i) e p = refl

  -- nor are texts put behind one
  no_append : (x : Slot) (e : Code) → NoText x → append_in (Set x e) ≡ None
  no_append (Global true i) e h = refl
  no_append (Parameter true i) e h = refl
  no_append (Global false i) e h = absurd h
  no_append (Parameter false i) e h = refl

  -- nothing lends at the place of a parameter
  found_flows : {K : List LabelForm} {k : Instructions} (o : Option ℕ) (t d : ℕ) (L : List Word) → o ≡ None →
      ((M : List Word) → Flows m P bs base K base.globals M [] k) → Flows m P bs base K base.globals L [] (parameter_found y o t d k)
  found_flows None t d L e next = const64 (set (λ f. next _))
  found_flows (Some g) t d L e next = cc

  numbered_flows : {K : List LabelForm} {k : Instructions} (x : Holder) (t d : ℕ) (L : List Word) → NoText (holder_slot x) → ((M : List Word) → Flows m P bs base K base.globals M [] k) →
      Flows m P bs base K base.globals L [] (name_numbered y x t d k)
  numbered_flows (OfName i) t d L h next =
      get_global (λ w e. tee (λ f. const64 (compare (λ w1 v1. branch
      (λ j1 i1 z1. number_is_flows m P bs base (number_local y.bases t) text_beside (λ w2 v2 e2 q2. branch
      (λ j2 i2 z2. absurd (put_ready m P bs base fault y L (number_local y.bases t) w f (λ z. h.1 (e ∙ z)) (e2 ∙ ap Some (equal_word w2 v2 text_beside j2 q2 i2 z2))))
      (λ j2 i2 z2. const64 (set (λ g. ended (ended (next _)))))))
      (λ j1 i1 z1. ended (next _))))))
  numbered_flows (OfParameter i) t d L h next =
      get (λ w e. tee (λ f. const64 (compare (λ w1 v1. branch
      (λ j1 i1 z1. found_flows (lender_at y.lenders i) t d _ h.2 (λ M. ended (next M))) (λ j1 i1 z1. ended (next _))))))

  source_numbered_flows : {K : List LabelForm} {k : Instructions} (x : Source) (t d : ℕ) (L : List Word) → SourceClear x → ((M : List Word) → Flows m P bs base K base.globals M [] k) →
      Flows m P bs base K base.globals L [] (source_numbered y x t d k)
  source_numbered_flows (Held i) t d L h next = numbered_flows i t d L h next
  source_numbered_flows (Constant z) t d L h next = next L

  taken_flows : {K : List LabelForm} {gs L vs : List Word} {k : Instructions} (x : Source) (t : ℕ) → ((v : Word) → Flows m P bs base K gs L (v ∷ vs) k) → Flows m P bs base K gs L vs (source_taken y x t k)
  taken_flows (Held i) t h = get (λ w e. h w)
  taken_flows (Constant z) t h = const64 (h _)

  sum_taken_flows : {K : List LabelForm} {L : List Word} {v w : Word} {k : Instructions} (op : IBinOp) (x : Holder) (t d : ℕ) → NoText (holder_slot x) → ((gs M : List Word) → Flows m P bs base K gs M [] k) →
      Flows m P bs base K base.globals L (w ∷ (v ∷ [])) (sum_taken y op x t d k)
  sum_taken_flows op (OfName i) t d h next =
      binary (λ u. tee (λ f. const64 (binary (λ u1. const64 (compare (λ u2 r. failing m P bs base fault d
      (get_global (λ w e. no_mark_flows m P bs base _ (λ z. h.1 (e ∙ ap Some z)) (get (λ v1 e1. set_global (next _ _)))))))))))
  sum_taken_flows op (OfParameter i) t d h next =
      binary (λ u. tee (λ f. const64 (binary (λ u1. const64 (compare (λ u2 r. failing m P bs base fault d
      (get (λ v1 e1. set (λ g. next _ _)))))))))

  anyway_flows : {K : List LabelForm} {L : List Word} {k : Instructions} (s : Sum) (d : ℕ) → SumClear s → ((gs M : List Word) → Flows m P bs base K gs M [] k) →
      Flows m P bs base K base.globals L [] (summed_anyway y s d k)
  anyway_flows {L = L} s d h next =
      source_numbered_flows s.left zero d L h.1.0 (λ M. source_numbered_flows s.right 1 d M h.1.1 (λ N.
      taken_flows s.left zero (λ v. taken_flows s.right 1 (λ w. sum_taken_flows (sum_op s.op) s.target zero d h.0 next))))

  module _ (x : Slot) (e : Code) (target : NoText x) (sum : IsSum NoText e) where
    dropped_flows : {K : List LabelForm} (d : ℕ) (k : Instructions) → ((gs L : List Word) → Flows m P bs base K gs L [] k) →
        Flows m P bs base K base.globals base.frame.locals [] (dropped y [] [] (Set x e) zero zero d k)
    unfolding emitted all_emitted
    dropped_flows d k next =
        sum_flows m P bs base fault y e zero d base.frame.locals sum (below_same y.bases zero base.frame.locals) (λ M b r.
        set_flows m P bs base fault y x (form_of [] e) target refl r next)

    quick_flows : {K : List LabelForm} (o : Option Sum) (d : ℕ) (k : Instructions) → sum_in (Set x e) ≡ o → ((gs L : List Word) → Flows m P bs base K gs L [] k) →
        Flows m P bs base K base.globals base.frame.locals [] (quickly_dropped y o (Set x e) d k)
    quick_flows {K = K0} None d k h next =
        subst (λ (r : Option Remainder). Flows m P bs base K0 base.globals base.frame.locals [] (remainder_dropped y r (Set x e) d k)) (sym (no_remainder x e sum))
        (subst (λ (q : Option Append). Flows m P bs base K0 base.globals base.frame.locals [] (appended_dropped y q (Set x e) d k)) (sym (no_append x e target))
        (dropped_flows d k next))
    quick_flows (Some s) d k h next =
        all_flows y (sum_names s) _ _ (λ v. branch (λ n q z. anyway_flows s (suc d) (sum_clear x e s h target sum) (λ gs L. ended (next gs L))) (λ n q z. summed_flows s (λ gs M. ended (next gs M))))

  pub statement_flows : {K : List LabelForm} (x : Slot) (e : Code) (s : Step) (ss : Steps) (u d bk ct : ℕ) (k : Instructions) →
      NoText x → IsSum NoText e →
      ((gs L : List Word) → P (at bs base K gs L [] (steps_emitted y (Then s ss) u d bk ct k))) →
      Flows m P bs base K base.globals base.frame.locals [] (steps_emitted y (Then (Eval (Set x e)) (Then s ss)) u d bk ct k)
  unfolding step_emitted steps_emitted
  statement_flows x e s ss u d bk ct k h p next = nop (quick_flows x e h p (sum_in (Set x e)) d _ refl (λ gs L. arrived (refl, next gs L)))
