-- Elements and fields: what is done at a place once its key or its field's number is kept.
use Rattle.std.proofs.Common.{◌≡◌, ℕ, suc, Bool, true, false, List, [], ◌∷◌, refl, ap, ◌∙◌}
use Rattle.sem_primitives.specs.declared.sorts.Sort.TheVariants as sort
use Rattle.sem_primitives.specs.declared.sorts.Argument.TheVariants as argument
use Rattle.sem_primitives.specs.declared.table.Primitive.TheVariants as row
use Rattle.mid_program.specs.declared.mid.Operation.{Operation}
use Rattle.mid_program.specs.declared.mid.Operation.TheVariants.{AsNumber}
use Rattle.sem_scripts.specs.Names.{ArrayName}
use Rattle.mid_program.specs.Mid.{Code, Do, AskLine, FileLine, Replace, Array, Seq, Let, At, End, Form, PrimitiveAnswer, a_value, a_number, form_of, form_at, arguments, answer_by}
use Rattle.mid_program.specs.Sorted.{Context, Held, There, Moved, is_tested, is_dropped, is_done_here, is_array_place, is_bound, has_lender, held_after, keeps_well, sorted, all_sorted}
use Rattle.mid_program.specs.Translation.{host, one, two, one_code, copied, moved}
use Rattle.script_code.proofs.Good.{Good, as_value, tested_value, tested_number, either_same, last_bound, second_bound, third_bound}

-- operators on two numbers whose answer is a number
pub record OnNumbers (o : Operation) : Type 0 where
  pub here : is_done_here o ≡ true
  pub takes : arguments o ≡ argument.Of sort.Number ∷ argument.Of sort.Number ∷ []
  pub gives : is_tested (PrimitiveAnswer (answer_by o)) ≡ true

module _ (c : Context) where
  -- code that uses what was kept last, and uses it well
  pub record Inner (fs : List Form) (e : Code) : Type 0 where
    pub tested : is_tested (form_of fs e) ≡ true
    pub fine : sorted c fs e ≡ true
    pub keeps : keeps_well e ≡ true
    pub apart : (i : ℕ) (h : Held) → held_after (suc i) e h ≡ h

  -- code that only copies it
  pub record Copies (fs : List Form) (e : Code) : Type 0 where
    pub tested : is_tested (form_of fs e) ≡ true
    pub fine : sorted c fs e ≡ true
    pub leaves : held_after 0 e There ≡ There
    pub apart : (i : ℕ) (h : Held) → held_after (suc i) e h ≡ h

  pub let_good : (fs : List Form) (a b : Code) → Good c fs a → Inner (form_of fs a ∷ fs) b → Good c fs (Let a b)
  unfolding sorted
  let_good fs a b g h = record {
    tested = h.tested;
    fine = rw (g.tested, h.keeps, g.fine, h.fine) refl;
    apart = λ i held. ap (held_after (suc i) b) (g.apart i held) ∙ h.apart i held;
  }

  pub good_copies : (fs : List Form) (e : Code) → Good c fs e → Copies fs e
  good_copies fs e g = record { tested = g.tested; fine = g.fine; leaves = g.apart 0 There; apart = λ i h. g.apart (suc i) h }

  -- how a place is read, and stored into for the last time, where its key or number was kept with so many others after it
  pub record Way : Type 0 where
    pub read : ℕ → Code
    pub store : ℕ → Code → Code
    pub read_tested : (fs : List Form) (i : ℕ) → is_tested (form_of fs (read i)) ≡ true
    pub read_fine : (fs : List Form) (i : ℕ) → is_bound fs i ≡ true → is_tested (form_at fs i) ≡ true → sorted c fs (read i) ≡ true
    pub read_held : (j i : ℕ) (h : Held) → held_after j (read i) h ≡ held_after j (copied i) h
    pub store_dropped : (fs : List Form) (i : ℕ) (e : Code) → is_dropped (form_of fs (store i e)) ≡ true
    pub store_fine : (fs : List Form) (i : ℕ) (e : Code) → is_bound fs i ≡ true → is_tested (form_at fs i) ≡ true → is_tested (form_of fs e) ≡ true → sorted c fs e ≡ true → sorted c fs (store i e) ≡ true
    pub store_held : (j i : ℕ) (e : Code) (h : Held) → held_after j (store i e) h ≡ held_after j e (held_after j (moved i) h)

  unfoldable pub element_way : (a : ArrayName) → is_array_place c a ≡ true → Way
  unfolding sorted all_sorted
  element_way a p = record {
    read = λ i. host row.Elem (two (Array a) (copied i));
    store = λ i e. host row.SetElem (At (Array a) (two (moved i) e));
    read_tested = λ fs i. refl;
    read_fine = λ fs i b t. rw (tested_value (form_at fs i) t, p, b) refl;
    read_held = λ j i h. refl;
    store_dropped = λ fs i e. refl;
    store_fine = λ fs i e b t u s. rw (tested_value (form_at fs i) t, tested_value (form_of fs e) u, p, b, s) refl;
    store_held = λ j i e h. refl;
  }

  unfoldable pub field_way : Way
  unfolding sorted all_sorted
  field_way = record {
    read = λ i. host row.Field (one (copied i));
    store = λ i e. host row.SetField (two (moved i) e);
    read_tested = λ fs i. refl;
    read_fine = λ fs i b t. rw (tested_number (form_at fs i) t, b) refl;
    read_held = λ j i h. refl;
    store_dropped = λ fs i e. refl;
    store_fine = λ fs i e b t u s. rw (tested_number (form_at fs i) t, tested_value (form_of fs e) u, b, s) refl;
    store_held = λ j i e h. refl;
  }

  module _ (w : Way) (f : Form) (fs : List Form) (t : is_tested f ≡ true) where
    -- the place takes the answer, which stays the answer
    pub stored_inner : (e : Code) → Copies (f ∷ fs) e → Inner (f ∷ fs) (Let e (Seq (w.store 1 (copied 0)) (moved 0)))
    unfolding sorted
    stored_inner e g =
        let F = form_of (f ∷ fs) e in
        record {
          tested = g.tested;
          fine = rw (g.tested, w.store_held 0 1 (copied 0) There, g.fine, w.store_dropped (F ∷ f ∷ fs) 1 (copied 0), w.store_fine (F ∷ f ∷ fs) 1 (copied 0) (second_bound F f fs) t g.tested (last_bound F (f ∷ fs)), last_bound F (f ∷ fs)) refl;
          keeps = rw (g.leaves, w.store_held 1 1 (copied 0) There) refl;
          apart = λ i h. rw (g.apart i h, w.store_held (suc (suc i)) 1 (copied 0) h) refl;
        }

    pub stepped_copies : (o : Operation) → OnNumbers o → Copies (f ∷ fs) (Do o (two (w.read 0) one_code))
    unfolding sorted all_sorted
    stepped_copies o n = record {
      tested = n.gives;
      fine = rw (n.here, n.takes, tested_number (form_of (f ∷ fs) (w.read 0)) (w.read_tested (f ∷ fs) 0), w.read_fine (f ∷ fs) 0 (last_bound f fs) t) refl;
      leaves = rw (w.read_held 0 0 There) refl;
      apart = λ i h. rw (w.read_held (suc i) 0 h) refl;
    }

    -- the number before the step is the answer
    pub step_after_inner : (o : Operation) → OnNumbers o → Inner (f ∷ fs) (Let (Do AsNumber (one (w.read 0))) (Let (Do o (two (copied 0) one_code)) (Seq (w.store 2 (moved 0)) (moved 1))))
    unfolding sorted all_sorted
    step_after_inner o n =
        let F = PrimitiveAnswer (answer_by o) in
        let gs = F ∷ a_number ∷ f ∷ fs in
        record {
          tested = refl;
          fine = rw (
            w.store_held 1 2 (moved 0) There,
            tested_number (form_of (f ∷ fs) (w.read 0)) (w.read_tested (f ∷ fs) 0),
            w.read_fine (f ∷ fs) 0 (last_bound f fs) t,
            n.gives,
            w.store_held 0 2 (moved 0) There,
            n.here,
            n.takes,
            last_bound a_number (f ∷ fs),
            w.store_dropped gs 2 (moved 0),
            w.store_fine gs 2 (moved 0) (third_bound F a_number f fs) t n.gives (last_bound F (a_number ∷ f ∷ fs)),
            second_bound F a_number (f ∷ fs),
          ) refl;
          keeps = rw (w.read_held 0 0 There, w.store_held 2 2 (moved 0) There) refl;
          apart = λ i h. rw (w.read_held (suc i) 0 h, w.store_held (suc (suc (suc i))) 2 (moved 0) h) refl;
        }

    -- right side, old value, result
    pub updated_inner : (o : Operation) (right : Code) → OnNumbers o → Good c (f ∷ fs) right → Inner (f ∷ fs) (Let right (Let (Do o (two (w.read 1) (moved 0))) (Seq (w.store 2 (copied 0)) (moved 0))))
    unfolding sorted all_sorted
    updated_inner o right n g =
        let R = form_of (f ∷ fs) right in
        let F = PrimitiveAnswer (answer_by o) in
        let gs = F ∷ R ∷ f ∷ fs in
        record {
          tested = n.gives;
          fine = rw (
            g.tested,
            w.read_held 0 1 There,
            w.store_held 1 2 (copied 0) Moved,
            g.fine,
            n.gives,
            w.store_held 0 2 (copied 0) There,
            n.here,
            n.takes,
            tested_number (form_of (R ∷ f ∷ fs) (w.read 1)) (w.read_tested (R ∷ f ∷ fs) 1),
            tested_number R g.tested,
            w.read_fine (R ∷ f ∷ fs) 1 (second_bound R f fs) t,
            last_bound R (f ∷ fs),
            w.store_dropped gs 2 (copied 0),
            w.store_fine gs 2 (copied 0) (third_bound F R f fs) t n.gives (last_bound F (R ∷ f ∷ fs)),
            last_bound F (R ∷ f ∷ fs),
          ) refl;
          keeps = rw (g.apart 0 There, w.read_held 1 1 There, w.store_held 2 2 (copied 0) There) refl;
          apart = λ i h. rw (g.apart (suc i) h, w.read_held (suc (suc i)) 1 h, w.store_held (suc (suc (suc i))) 2 (copied 0) h) refl;
        }

    -- a line that is read goes into the place
    pub line_inner : has_lender c.lenders ≡ false → Inner (f ∷ fs) (AskLine (w.store 1 (moved 0)))
    unfolding sorted
    line_inner n = record {
      tested = refl;
      fine = rw (n, w.store_held 0 1 (moved 0) There, w.store_dropped (a_value ∷ f ∷ fs) 1 (moved 0), w.store_fine (a_value ∷ f ∷ fs) 1 (moved 0) (second_bound a_value f fs) t refl (last_bound a_value (f ∷ fs))) refl;
      keeps = rw (w.store_held 1 1 (moved 0) There) refl;
      apart = λ i h. rw (w.store_held (suc (suc i)) 1 (moved 0) h) (either_same h);
    }

    pub file_line_inner : (e : Code) → Good c (f ∷ fs) e → Inner (f ∷ fs) (FileLine e (w.store 1 (moved 0)))
    unfolding sorted
    file_line_inner e g = record {
      tested = refl;
      fine = rw (as_value c (f ∷ fs) e g, g.fine, w.store_held 0 1 (moved 0) There, w.store_dropped (a_value ∷ f ∷ fs) 1 (moved 0), w.store_fine (a_value ∷ f ∷ fs) 1 (moved 0) (second_bound a_value f fs) t refl (last_bound a_value (f ∷ fs))) refl;
      keeps = rw (g.apart 0 There, w.store_held 1 1 (moved 0) There) refl;
      apart = λ i h. rw (g.apart (suc i) h, w.store_held (suc (suc i)) 1 (moved 0) h) (either_same h);
    }

  -- expression, replacement and place are kept, and nothing else of them is
  pub replacing_good : (w : Way) (all : Bool) (fs : List Form) (e r k : Code) → Good c fs e → Good c (form_of fs e ∷ fs) r → Good c (form_of (form_of fs e ∷ fs) r ∷ form_of fs e ∷ fs) k →
      Good c fs (Let e (Let r (Let k (Replace all (At (moved 2) (At (moved 1) (At (w.read 0) End))) (w.store 1 (moved 0))))))
  unfolding sorted all_sorted
  replacing_good w all fs e r k g h l =
      let E = form_of fs e in
      let R = form_of (E ∷ fs) r in
      let K = form_of (R ∷ E ∷ fs) k in
      let gs = K ∷ R ∷ E ∷ fs in
      record {
        tested = refl;
        fine = rw (
          g.tested,
          h.apart 0 There,
          l.apart 1 There,
          w.read_held 2 0 Moved,
          w.store_held 3 1 (moved 0) Moved,
          g.fine,
          h.tested,
          l.apart 0 There,
          w.read_held 1 0 Moved,
          w.store_held 2 1 (moved 0) Moved,
          h.fine,
          l.tested,
          w.read_held 0 0 There,
          w.store_held 1 1 (moved 0) There,
          l.fine,
          tested_value E g.tested,
          tested_value R h.tested,
          tested_value (form_of gs (w.read 0)) (w.read_tested gs 0),
          third_bound K R E fs,
          second_bound K R (E ∷ fs),
          w.read_fine gs 0 (last_bound K (R ∷ E ∷ fs)) l.tested,
          w.store_held 0 1 (moved 0) There,
          w.store_dropped (a_value ∷ gs) 1 (moved 0),
          w.store_fine (a_value ∷ gs) 1 (moved 0) (second_bound a_value K (R ∷ E ∷ fs)) l.tested refl (last_bound a_value gs),
        ) refl;
        apart = λ i s. rw (g.apart i s, h.apart (suc i) s, l.apart (suc (suc i)) s, w.read_held (suc (suc (suc i))) 0 s, w.store_held (suc (suc (suc (suc i)))) 1 (moved 0) s) (either_same s);
      }
