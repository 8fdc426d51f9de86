-- Variables as places.
use Rattle.std.proofs.Common.{◌≡◌, ℕ, suc, Bool, true, false, List, ◌∷◌, refl}
use Rattle.mid_program.specs.declared.mid.Operation.{Operation}
use Rattle.mid_program.specs.declared.mid.Operation.TheVariants.{AsNumber}
use Rattle.sem_scripts.specs.Names as names
use Rattle.sem_scripts.specs.Names.{Variable, Reserved}
use Rattle.mid_program.specs.Mid.{Code, Do, AskLine, FileLine, Replace, Seq, Let, At, End, Form, PrimitiveAnswer, a_value, a_number, form_of, answer_by}
use Rattle.mid_program.specs.Sorted.{Context, Held, There, Moved, is_tested, is_dropped, has_lender, held_after, stores_well, sorted, all_sorted}
use Rattle.mid_program.specs.Translation.{one, two, one_code, copied, moved, variable_code, store_variable_code, set_variable_code}
use Rattle.script_code.proofs.Good.{Good, is_known, as_value, as_number, tested_value, tested_number, tested_dropped, either_same, last_bound, second_bound, special_is, variable_good}
use Rattle.script_code.proofs.Ways.{OnNumbers}

store_dropped : (fs : List Form) (v : Variable) (e : Code) → is_tested (form_of fs e) ≡ true → is_dropped (form_of fs (store_variable_code v e)) ≡ true
store_dropped fs (names.Global i) e t = tested_dropped (form_of fs e) t
store_dropped fs (names.Parameter i) e t = tested_dropped (form_of fs e) t
store_dropped fs (Reserved s) e t = refl

store_held : (j : ℕ) (v : Variable) (e : Code) (h : Held) → held_after j (store_variable_code v e) h ≡ held_after j e h
store_held j (names.Global i) e h = refl
store_held j (names.Parameter i) e h = refl
store_held j (Reserved s) e h = refl

set_tested : (fs : List Form) (v : Variable) (e : Code) → is_tested (form_of fs e) ≡ true → is_tested (form_of fs (set_variable_code v e)) ≡ true
set_tested fs (names.Global i) e t = t
set_tested fs (names.Parameter i) e t = t
set_tested fs (Reserved s) e t = t

set_held : (j : ℕ) (v : Variable) (e : Code) (h : Held) → held_after j (set_variable_code v e) h ≡ held_after j e h
set_held j (names.Global i) e h = refl
set_held j (names.Parameter i) e h = refl
set_held j (Reserved s) e h = refl

module _ (c : Context) where
  store_fine : (fs : List Form) (v : Variable) (e : Code) → is_known c v ≡ true → is_tested (form_of fs e) ≡ true → sorted c fs e ≡ true → sorted c fs (store_variable_code v e) ≡ true
  unfolding sorted all_sorted
  store_fine fs (names.Global i) e k t s = rw (k, tested_value (form_of fs e) t, s) refl
  store_fine fs (names.Parameter i) e k t s = rw (k, tested_value (form_of fs e) t, s) refl
  store_fine fs (Reserved special) e k t s = rw (special_is special, tested_value (form_of fs e) t, s) refl

  set_fine : (fs : List Form) (v : Variable) (e : Code) → is_known c v ≡ true → is_tested (form_of fs e) ≡ true → sorted c fs e ≡ true → sorted c fs (set_variable_code v e) ≡ true
  unfolding sorted all_sorted
  set_fine fs (names.Global i) e k t s = rw (k, tested_value (form_of fs e) t, s) refl
  set_fine fs (names.Parameter i) e k t s = rw (k, tested_value (form_of fs e) t, s) refl
  set_fine fs (Reserved special) e k t s = rw (t, special_is special, tested_value (form_of fs e) t, s, last_bound (form_of fs e) fs) refl

  -- what was kept last goes into the variable
  pub stores_into : (fs : List Form) (v : Variable) → stores_well fs (store_variable_code v (moved 0)) ≡ true
  stores_into fs v = rw (store_held 0 v (moved 0) There, store_dropped (a_value ∷ fs) v (moved 0) refl) refl

  pub moved_into : (fs : List Form) (v : Variable) → is_known c v ≡ true → sorted c (a_value ∷ fs) (store_variable_code v (moved 0)) ≡ true
  unfolding sorted
  moved_into fs v k = store_fine (a_value ∷ fs) v (moved 0) k refl (last_bound a_value fs)

  module _ (fs : List Form) (v : Variable) (k : is_known c v ≡ true) where
    pub stored_good : (e : Code) → Good c fs e → Good c fs (set_variable_code v e)
    stored_good e g = record { tested = set_tested fs v e g.tested; fine = set_fine fs v e k g.tested g.fine; apart = λ i h. rw (set_held i v e h) (g.apart i h) }

    -- the number before the step is the answer
    pub step_after_good : (o : Operation) → OnNumbers o → Good c fs (Let (Do AsNumber (one (variable_code v))) (Let (Do o (two (copied 0) one_code)) (Seq (store_variable_code v (moved 0)) (moved 1))))
    unfolding sorted all_sorted
    step_after_good o n =
        let F = PrimitiveAnswer (answer_by o) in
        let g = variable_good c fs v k in
        record {
          tested = refl;
          fine = rw (
            store_held 1 v (moved 0) There,
            as_number c fs (variable_code v) g,
            g.fine,
            n.gives,
            store_held 0 v (moved 0) There,
            n.here,
            n.takes,
            last_bound a_number fs,
            store_dropped (F ∷ a_number ∷ fs) v (moved 0) n.gives,
            store_fine (F ∷ a_number ∷ fs) v (moved 0) k n.gives (last_bound F (a_number ∷ fs)),
            second_bound F a_number fs,
          ) refl;
          apart = λ i h. rw (g.apart i h, store_held (suc (suc i)) v (moved 0) h) refl;
        }

    -- right side, old value, result
    pub updated_good : (o : Operation) (right : Code) → OnNumbers o → Good c fs right → Good c fs (Let right (set_variable_code v (Do o (two (variable_code v) (moved 0)))))
    unfolding sorted all_sorted
    updated_good o right n g =
        let R = form_of fs right in
        let e = Do o (two (variable_code v) (moved 0)) in
        let read = variable_good c (R ∷ fs) v k in
        let fine : sorted c (R ∷ fs) e ≡ true = rw (n.here, n.takes, as_number c (R ∷ fs) (variable_code v) read, tested_number R g.tested, read.fine, last_bound R fs) refl in
        record {
          tested = set_tested (R ∷ fs) v e n.gives;
          fine = rw (g.tested, set_held 0 v e There, read.apart 0 There, g.fine, set_fine (R ∷ fs) v e k n.gives fine) refl;
          apart = λ i h. rw (set_held (suc i) v e (held_after i right h), read.apart (suc i) (held_after i right h)) (g.apart i h);
        }

    pub line_good : has_lender c.lenders ≡ false → Good c fs (AskLine (store_variable_code v (moved 0)))
    unfolding sorted
    line_good n = record {
      tested = refl;
      fine = rw (n, stores_into fs v, moved_into fs v k) refl;
      apart = λ i h. rw (store_held (suc i) v (moved 0) h) (either_same h);
    }

    pub file_line_good : (e : Code) → Good c fs e → Good c fs (FileLine e (store_variable_code v (moved 0)))
    unfolding sorted
    file_line_good e g = record {
      tested = refl;
      fine = rw (as_value c fs e g, g.fine, stores_into fs v, moved_into fs v k) refl;
      apart = λ i h. rw (g.apart i h, store_held (suc i) v (moved 0) h) (either_same h);
    }

    -- expression and replacement are kept
    pub replacing_variable : (all : Bool) (e r : Code) → Good c fs e → Good c (form_of fs e ∷ fs) r → Good c fs (Let e (Let r (Replace all (At (moved 1) (At (moved 0) (At (variable_code v) End))) (store_variable_code v (moved 0)))))
    unfolding sorted all_sorted
    replacing_variable all e r g h =
        let E = form_of fs e in
        let R = form_of (E ∷ fs) r in
        let gs = R ∷ E ∷ fs in
        let read = variable_good c gs v k in
        record {
          tested = refl;
          fine = rw (
            g.tested,
            h.apart 0 There,
            read.apart 1 Moved,
            store_held 2 v (moved 0) Moved,
            g.fine,
            h.tested,
            read.apart 0 Moved,
            store_held 1 v (moved 0) Moved,
            h.fine,
            tested_value E g.tested,
            tested_value R h.tested,
            as_value c gs (variable_code v) read,
            second_bound R E fs,
            last_bound R (E ∷ fs),
            read.fine,
            stores_into gs v,
            moved_into gs v k,
          ) refl;
          apart = λ i s. rw (g.apart i s, h.apart (suc i) s, read.apart (suc (suc i)) s, store_held (suc (suc (suc i))) v (moved 0) s) (either_same s);
        }
