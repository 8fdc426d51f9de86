-- Code that is rewritten does the same, where the names stand for the same places, and the operations do the same.
use Rattle.std.proofs.Common.{◌≡◌, ℕ, Bool, true, false, List, [], ◌∷◌, Result, refl, ap, ◌∙◌}
use Rattle.std.specs.Prelude.{if◌then◌else◌}
use Rattle.awk_values.specs.declared.value.Value.{Value}
use Rattle.sem_primitives.specs.Constants.{constant_at}
use Rattle.sem_primitives.specs.declared.sorts.Sort.{Sort}
use Rattle.sem_primitives.specs.declared.sorts.Argument.{Argument}
use Rattle.sem_primitives.specs.declared.sorts.Argument.TheVariants as argument
use Rattle.sem_primitives.specs.declared.sorts.Answer.TheVariants as answer
use Rattle.sem_primitives.specs.declared.table.Primitive.TheVariants as row
use Rattle.mid_program.specs.declared.mid.Operation.{Operation}
use Rattle.sem_scripts.specs.Meaning.{Calls, asked}
use Rattle.sem_scripts.specs.ScriptState.{State, Returned, Exited, Gives, Stops, Execution, ◌>>=◌, ◌>>◌, give, nothing, stop, change, settled, call, call_listed, asks, spend}
use Rattle.sem_scripts.specs.Statements.{Normal, after, after_round, loop, over_keys, with_status}
use Rattle.sem_scripts.specs.Steps.{array_number, compared}
use Rattle.mid_program.specs.Mid.{Kind, Slot, Code, Do, Over, Compare, Call, Ask, AskLine, FileLine, Replace, Number, Text, Unset, Get, Set, Array, IsOpen, Choose, Seq, Let, Bound, Codes, End, At, Fixed, Fresh, Step, Eval, Block, If, Loop, Each, Break, Continue, Next, Exit, ExitWith, Return, Mark, Steps, NoStep, Then, Form, PrimitiveAnswer, a_value, answer_by, form_of, arguments, parameters_at}
use Rattle.mid_program.specs.MidMeaning.{Holds, Env, Values, boxed, numbered, converted, truth_in, then_row, or_constant, row_of, listing, locals_of, fresh_of, store_slot, operated, when_read, when_replaced, three_values, replacing, evaluated, all_evaluated, holds, keyed, stepped, all_stepped}
use Rattle.mid_program.specs.Rewriting.{code_in, codes_in, step_in, steps_in}
use Rattle.mid_program.specs.Alike.{seen, Alike, LikeR, AlikeKinds}
use Rattle.mid_program.specs.Rewritten.{SameSlots, SameOperations}
use Rattle.mid_program.proofs.Outcomes.{like_bind, same_bind, like_of, like_trans}
use Rattle.mid_program.proofs.Seen.{boxed_like, numbered_like, truth_like, converted_like, seen_env, held_like, local_like, fresh_like}

module _ (slots : Slot → Slot) (operation : Operation → Codes → Code) (fs gs : List Form) where
  abbrev re : Code → Code
  re e = code_in slots operation e

  abbrev res : Codes → Codes
  res es = codes_in slots operation es

  -- operands that are alike, each by its form
  abbrev pub LikeVals : (es : Codes) → Values fs es → Values gs (res es) → Type 0
  LikeVals End vs ws = Unit {0}
  LikeVals (At e es) vs ws = Alike (form_of fs e) (form_of gs (re e)) vs.0 ws.0 × LikeVals es vs.1 ws.1
  LikeVals (Fixed m es) vs ws = LikeVals es vs ws
  LikeVals (Fresh es) vs ws = (vs.0 ≡ ws.0) × LikeVals es vs.1 ws.1

  pub row_like : (wanted : List Argument) (es : Codes) (vs : Values fs es) (ws : Values gs (res es)) → LikeVals es vs ws → row_of fs wanted es vs ≡ row_of gs wanted (res es) ws
  row_like [] es vs ws h = refl
  row_like (argument.Of s ∷ rest) End vs ws h = refl
  row_like (argument.Of s ∷ rest) (At e es) vs ws h = λ i. then_row (converted_like (form_of fs e) (form_of gs (re e)) s vs.0 ws.0 h.0 i) (λ x. then_row (row_like rest es vs.1 ws.1 h.1 i) (λ xs. Result.Ok (x, xs)))
  row_like (argument.Of s ∷ rest) (Fixed m es) vs ws h = refl
  row_like (argument.Of s ∷ rest) (Fresh es) vs ws h = refl
  row_like (argument.Constant c ∷ rest) End vs ws h = refl
  row_like (argument.Constant c ∷ rest) (At e es) vs ws h = refl
  row_like (argument.Constant c ∷ rest) (Fixed m es) vs ws h = λ i. then_row (row_like rest es vs ws h i) (λ xs. Result.Ok (or_constant c (constant_at c m), xs))
  row_like (argument.Constant c ∷ rest) (Fresh es) vs ws h = refl
  row_like (argument.Place ∷ rest) End vs ws h = refl
  row_like (argument.Place ∷ rest) (At e es) vs ws h = refl
  row_like (argument.Place ∷ rest) (Fixed m es) vs ws h = refl
  row_like (argument.Place ∷ rest) (Fresh es) vs ws h = refl

  pub listing_like : (es : Codes) (vs : Values fs es) (ws : Values gs (res es)) → LikeVals es vs ws → listing fs es vs ≡ listing gs (res es) ws
  listing_like End vs ws h = refl
  listing_like (At e es) vs ws h = λ i. boxed_like (form_of fs e) (form_of gs (re e)) vs.0 ws.0 h.0 i ∷ listing_like es vs.1 ws.1 h.1 i
  listing_like (Fixed m es) vs ws h = listing_like es vs ws h
  listing_like (Fresh es) vs ws h = listing_like es vs.1 ws.1 h.1

  pub locals_like : (ks js : List Kind) → AlikeKinds ks js → (es : Codes) (vs : Values fs es) (ws : Values gs (res es)) → LikeVals es vs ws → locals_of fs ks es vs ≡ locals_of gs js (res es) ws
  locals_like [] [] a es vs ws h = refl
  locals_like [] (j ∷ js) a es vs ws h = absurd a
  locals_like (k ∷ ks) [] a es vs ws h = absurd a
  locals_like (k ∷ ks) (j ∷ js) a End vs ws h = refl
  locals_like (k ∷ ks) (j ∷ js) a (At e es) vs ws h = λ i. local_like k j (form_of fs e) (form_of gs (re e)) vs.0 ws.0 a.0 h.0 i ∷ locals_like ks js a.1 es vs.1 ws.1 h.1 i
  locals_like (k ∷ ks) (j ∷ js) a (Fixed m es) vs ws h = locals_like (k ∷ ks) (j ∷ js) a es vs ws h
  locals_like (k ∷ ks) (j ∷ js) a (Fresh es) vs ws h = λ i. (fresh_like k j vs.0 a.0 ∙ ap (fresh_of j) h.0) i ∷ locals_like ks js a.1 es vs.1 ws.1 h.1 i

module _ (texts : List (List ℕ)) (ps qs : List (List Kind)) (heads : (f : ℕ) → AlikeKinds (parameters_at ps f) (parameters_at qs f)) (n : ℕ) (calls : Calls)
    (slots : Slot → Slot) (operation : Operation → Codes → Code) (same_slots : SameSlots slots) (same_operations : SameOperations texts qs n calls operation) where
  abbrev ex : Code → Code
  ex e = code_in slots operation e

  abbrev exs : Codes → Codes
  exs es = codes_in slots operation es

  abbrev E : (fs : List Form) → Env fs → (e : Code) → Execution (Holds (form_of fs e))
  E fs env e = evaluated texts ps n calls fs env e

  abbrev E' : (fs : List Form) → Env fs → (e : Code) → Execution (Holds (form_of fs e))
  E' fs env e = evaluated texts qs n calls fs env e

  abbrev Likes : (fs gs : List Form) → (e : Code) → Holds (form_of fs e) → Holds (form_of gs (ex e)) → Type 0
  Likes fs gs e v w = Alike (form_of fs e) (form_of gs (ex e)) v w

  -- one of two, by truths that are the same
  branch_like : {A B : Type 0} (R : A → B → Type 0) (b d : Bool) (m l : Execution A) (m' l' : Execution B) (s : State) → b ≡ d → LikeR R (m s) (m' s) → LikeR R (l s) (l' s) → LikeR R ((if b then m else l) s) ((if d then m' else l') s)
  branch_like R true true m l m' l' s e h k = h
  branch_like R false false m l m' l' s e h k = k
  branch_like R true false m l m' l' s e h k = absurd cc
  branch_like R false true m l m' l' s e h k = absurd cc

  -- one of the two ways of a choice
  way_by : (fs gs : List Form) (env : Env fs) (env' : Env gs) (r : Sort) (e : Code) (s : State) → LikeR (Likes fs gs e) (E fs env e s) (E' gs env' (ex e) s) →
      LikeR (Alike (PrimitiveAnswer (answer.Of r)) (PrimitiveAnswer (answer.Of r))) ((E fs env e >>= λ x. settled (converted (form_of fs e) r x)) s) ((E' gs env' (ex e) >>= λ x. settled (converted (form_of gs (ex e)) r x)) s)
  way_by fs gs env env' r e s h =
      like_bind (Likes fs gs e) (Alike (PrimitiveAnswer (answer.Of r)) (PrimitiveAnswer (answer.Of r))) _ _ (λ x. settled (converted (form_of fs e) r x)) (λ x. settled (converted (form_of gs (ex e)) r x)) h
      (λ x y t k. like_of (Alike (PrimitiveAnswer (answer.Of r)) (PrimitiveAnswer (answer.Of r))) (λ a. refl) _ _ (λ i. settled (converted_like (form_of fs e) (form_of gs (ex e)) r x y k i) t))

  -- code that stores what is kept
  store_by : (fs gs : List Form) (env : Env fs) (env' : Env gs) (e : Code) →
      ((text : Value) (s : State) → LikeR (Likes (a_value ∷ fs) (a_value ∷ gs) e) (E (a_value ∷ fs) (text, env) e s) (E' (a_value ∷ gs) (text, env') (ex e) s)) →
      ◌≡◌ {A = Value → Execution (Unit {0})} (λ text. E (a_value ∷ fs) (text, env) e >> nothing) (λ text. E' (a_value ∷ gs) (text, env') (ex e) >> nothing)
  store_by fs gs env env' e h = λ i text s. same_bind (Likes (a_value ∷ fs) (a_value ∷ gs) e) _ _ (λ v. nothing) (λ v. nothing) (h text s) (λ v w t k. refl) i

  mutual
    unfolding evaluated all_evaluated

    pub code_like : (fs gs : List Form) (env : Env fs) (env' : Env gs) → seen_env fs env ≡ seen_env gs env' → (e : Code) (s : State) → LikeR (Likes fs gs e) (E fs env e s) (E' gs env' (ex e) s)
    code_like fs gs env env' h (Do o es) s =
        let A = Alike (PrimitiveAnswer (answer_by o)) (PrimitiveAnswer (answer_by o)) in
        like_trans A (Alike (PrimitiveAnswer (answer_by o)) (form_of gs (operation o (exs es)))) (Likes fs gs (Do o es)) (E fs env (Do o es) s) (E' gs env' (Do o (exs es)) s) (E' gs env' (operation o (exs es)) s)
        (like_bind (LikeVals slots operation fs gs es) A _ _ (λ vs. settled (row_of fs (arguments o) es vs) >>= λ given. operated o given) (λ ws. settled (row_of gs (arguments o) (exs es) ws) >>= λ given. operated o given)
        (codes_like fs gs env env' h es s)
        (λ vs ws t k. like_of A (λ a. refl) _ _ (λ i. (settled (row_like slots operation fs gs (arguments o) es vs ws k i) >>= λ given. operated o given) t)))
        (same_operations gs env' o (exs es) s) (λ a b c p q. p ∙ q)
    code_like fs gs env env' h (Over l es) s =
        like_bind (LikeVals slots operation fs gs es) (Likes fs gs (Over l es)) _ _ (λ vs. call_listed l (listing fs es vs)) (λ ws. call_listed l (listing gs (exs es) ws)) (codes_like fs gs env env' h es s)
        (λ vs ws t k. like_of (Likes fs gs (Over l es)) (λ a. refl) _ _ (λ i. call_listed l (listing_like slots operation fs gs es vs ws k i) t))
    code_like fs gs env env' h (Compare c a b) s =
        like_bind (Likes fs gs a) (Likes fs gs (Compare c a b)) _ _ (λ x. E fs env b >>= λ y. compared c (boxed (form_of fs a) x) (boxed (form_of fs b) y)) (λ x. E' gs env' (ex b) >>= λ y. compared c (boxed (form_of gs (ex a)) x) (boxed (form_of gs (ex b)) y))
        (code_like fs gs env env' h a s)
        (λ x x' t k. like_bind (Likes fs gs b) (Likes fs gs (Compare c a b)) _ _ (λ y. compared c (boxed (form_of fs a) x) (boxed (form_of fs b) y)) (λ y. compared c (boxed (form_of gs (ex a)) x') (boxed (form_of gs (ex b)) y))
        (code_like fs gs env env' h b t)
        (λ y y' u j. like_of (Likes fs gs (Compare c a b)) (λ z. refl) _ _ (λ i. compared c (boxed_like (form_of fs a) (form_of gs (ex a)) x x' k i) (boxed_like (form_of fs b) (form_of gs (ex b)) y y' j i) u)))
    code_like fs gs env env' h (Call f es) s =
        like_bind (LikeVals slots operation fs gs es) (Likes fs gs (Call f es)) _ _ (λ vs. spend >> calls f (locals_of fs (parameters_at ps f) es vs)) (λ ws. spend >> calls f (locals_of gs (parameters_at qs f) (exs es) ws))
        (codes_like fs gs env env' h es s)
        (λ vs ws t k. like_of (Likes fs gs (Call f es)) (λ a. refl) _ _ (λ i. (spend >> calls f (locals_like slots operation fs gs (parameters_at ps f) (parameters_at qs f) (heads f) es vs ws k i)) t))
    code_like fs gs env env' h Ask s = like_of (Likes fs gs Ask) (λ a. refl) _ _ refl
    code_like fs gs env env' h (AskLine e) s = like_of (Likes fs gs (AskLine e)) (λ a. refl) _ _ (λ i. (asked n (asks row.GetlineVar tt) >>= when_read (store_by fs gs env env' e (λ text u. code_like (a_value ∷ fs) (a_value ∷ gs) (text, env) (text, env') (λ j. seen a_value text ∷ h j) e u) i)) s)
    code_like fs gs env env' h (FileLine e d) s =
        like_bind (Likes fs gs e) (Likes fs gs (FileLine e d)) _ _ (λ file. call row.GetlineVarFile (boxed (form_of fs e) file, tt) >>= when_read (λ text. E (a_value ∷ fs) (text, env) d >> nothing))
        (λ file. call row.GetlineVarFile (boxed (form_of gs (ex e)) file, tt) >>= when_read (λ text. E' (a_value ∷ gs) (text, env') (ex d) >> nothing)) (code_like fs gs env env' h e s)
        (λ x x' t k. like_of (Likes fs gs (FileLine e d)) (λ a. refl) _ _ (λ i. (call row.GetlineVarFile (boxed_like (form_of fs e) (form_of gs (ex e)) x x' k i, tt) >>= when_read (store_by fs gs env env' d (λ text u. code_like (a_value ∷ fs) (a_value ∷ gs) (text, env) (text, env') (λ j. seen a_value text ∷ h j) d u) i)) t))
    code_like fs gs env env' h (Replace all es d) s =
        like_bind (LikeVals slots operation fs gs es) (Likes fs gs (Replace all es d)) _ _ (λ vs. settled (row_of fs three_values es vs) >>= λ given. replacing all given >>= when_replaced (λ text. E (a_value ∷ fs) (text, env) d >> nothing))
        (λ ws. settled (row_of gs three_values (exs es) ws) >>= λ given. replacing all given >>= when_replaced (λ text. E' (a_value ∷ gs) (text, env') (ex d) >> nothing)) (codes_like fs gs env env' h es s)
        (λ vs ws t k. like_of (Likes fs gs (Replace all es d)) (λ a. refl) _ _ (λ i. (settled (row_like slots operation fs gs three_values es vs ws k i) >>= λ given. replacing all given >>= when_replaced (store_by fs gs env env' d (λ text u. code_like (a_value ∷ fs) (a_value ∷ gs) (text, env) (text, env') (λ j. seen a_value text ∷ h j) d u) i)) t))
    code_like fs gs env env' h (Number z) s = (refl, refl)
    code_like fs gs env env' h (Text i) s = (refl, refl)
    code_like fs gs env env' h Unset s = (refl, refl)
    code_like fs gs env env' h (Get x) s = same_slots.reads x s
    code_like fs gs env env' h (Set x e) s =
        like_bind (Likes fs gs e) (Likes fs gs (Set x e)) _ _ (λ v. store_slot x (boxed (form_of fs e) v) >> give v) (λ w. store_slot (slots x) (boxed (form_of gs (ex e)) w) >> give w) (code_like fs gs env env' h e s)
        (λ v w t k. like_bind (λ (a b : Unit {0}). a ≡ b) (Likes fs gs (Set x e)) _ _ (λ u. give v) (λ u. give w)
        (like_of (λ (a b : Unit {0}). a ≡ b) (λ a. refl) (store_slot x (boxed (form_of fs e) v) t) (store_slot (slots x) (boxed (form_of gs (ex e)) w) t)
        (λ i. (ap (store_slot x) (boxed_like (form_of fs e) (form_of gs (ex e)) v w k) ∙ same_slots.stores x (boxed (form_of gs (ex e)) w)) i t))
        (λ a b u j. (k, refl)))
    code_like fs gs env env' h (Array a) s = like_of (Likes fs gs (Array a)) (λ a. refl) _ _ refl
    code_like fs gs env env' h (IsOpen i) s = (refl, refl)
    code_like fs gs env env' h (Choose r c a b) s =
        like_bind (Likes fs gs c) (Likes fs gs (Choose r c a b)) _ _
        (λ v. if truth_in (form_of fs c) v then (E fs env a >>= λ x. settled (converted (form_of fs a) r x)) else (E fs env b >>= λ x. settled (converted (form_of fs b) r x)))
        (λ v. if truth_in (form_of gs (ex c)) v then (E' gs env' (ex a) >>= λ x. settled (converted (form_of gs (ex a)) r x)) else (E' gs env' (ex b) >>= λ x. settled (converted (form_of gs (ex b)) r x)))
        (code_like fs gs env env' h c s)
        (λ v w t k. branch_like (Likes fs gs (Choose r c a b)) (truth_in (form_of fs c) v) (truth_in (form_of gs (ex c)) w) _ _ _ _ t (truth_like (form_of fs c) (form_of gs (ex c)) v w k)
        (way_by fs gs env env' r a t (code_like fs gs env env' h a t)) (way_by fs gs env env' r b t (code_like fs gs env env' h b t)))
    code_like fs gs env env' h (Seq a b) s = like_bind (Likes fs gs a) (Likes fs gs (Seq a b)) _ _ (λ v. E fs env b) (λ v. E' gs env' (ex b)) (code_like fs gs env env' h a s) (λ v w t k. code_like fs gs env env' h b t)
    code_like fs gs env env' h (Let a b) s =
        like_bind (Likes fs gs a) (Likes fs gs (Let a b)) _ _ (λ x. E (form_of fs a ∷ fs) (x, env) b) (λ x. E' (form_of gs (ex a) ∷ gs) (x, env') (ex b)) (code_like fs gs env env' h a s)
        (λ v w t k. code_like (form_of fs a ∷ fs) (form_of gs (ex a) ∷ gs) (v, env) (w, env') (λ i. k i ∷ h i) b t)
    code_like fs gs env env' h (Bound m i) s = (held_like fs gs env env' i h, refl)

    pub codes_like : (fs gs : List Form) (env : Env fs) (env' : Env gs) → seen_env fs env ≡ seen_env gs env' → (es : Codes) (s : State) →
        LikeR (LikeVals slots operation fs gs es) (all_evaluated texts ps n calls fs env es s) (all_evaluated texts qs n calls gs env' (exs es) s)
    codes_like fs gs env env' h End s = (tt, refl)
    codes_like fs gs env env' h (At e es) s =
        like_bind (Likes fs gs e) (LikeVals slots operation fs gs (At e es)) _ _ (λ v. all_evaluated texts ps n calls fs env es >>= λ vs. give (v, vs)) (λ w. all_evaluated texts qs n calls gs env' (exs es) >>= λ ws. give (w, ws))
        (code_like fs gs env env' h e s)
        (λ v w t k. like_bind (LikeVals slots operation fs gs es) (LikeVals slots operation fs gs (At e es)) _ _ (λ vs. give (v, vs)) (λ ws. give (w, ws)) (codes_like fs gs env env' h es t) (λ vs ws u j. ((k, j), refl)))
    codes_like fs gs env env' h (Fixed m es) s = codes_like fs gs env env' h es s
    codes_like fs gs env env' h (Fresh es) s =
        like_bind (λ (i j : ℕ). i ≡ j) (LikeVals slots operation fs gs (Fresh es)) (call row.NewArray tt s) (call row.NewArray tt s) (λ i. all_evaluated texts ps n calls fs env es >>= λ vs. give (i, vs)) (λ i. all_evaluated texts qs n calls gs env' (exs es) >>= λ ws. give (i, ws))
        (like_of (λ (i j : ℕ). i ≡ j) (λ i. refl) (call row.NewArray tt s) (call row.NewArray tt s) refl)
        (λ i j t k. like_bind (LikeVals slots operation fs gs es) (LikeVals slots operation fs gs (Fresh es)) _ _ (λ vs. give (i, vs)) (λ ws. give (j, ws)) (codes_like fs gs env env' h es t) (λ vs ws u l. ((k, l), refl)))

  -- Steps.

  pub holds_same : (e : Code) → holds texts ps n calls e ≡ holds texts qs n calls (ex e)
  holds_same e = λ i s. same_bind (Likes [] [] e) _ _ (λ v. give (truth_in (form_of [] e) v)) (λ v. give (truth_in (form_of [] (ex e)) v)) (code_like [] [] tt tt refl e s)
      (λ v w t k. λ j. Gives (truth_like (form_of [] e) (form_of [] (ex e)) v w k j) t) i

  pub keyed_same : (e : Code) → keyed texts ps n calls e ≡ keyed texts qs n calls (ex e)
  keyed_same e = λ i key. store_by [] [] tt tt e (λ text t. code_like (a_value ∷ []) (a_value ∷ []) (text, tt) (text, tt) refl e t) i key

  mutual
    unfolding stepped all_stepped

    pub step_same : (s : Step) → stepped texts ps n calls s ≡ stepped texts qs n calls (step_in slots operation s)
    step_same (Eval e) = λ i s. same_bind (Likes [] [] e) _ _ (λ v. give Normal) (λ v. give Normal) (code_like [] [] tt tt refl e s) (λ v w t k. refl) i
    step_same (Block ss) = steps_same ss
    step_same (If e a b) = λ i. holds_same e i >>= λ truth. if truth then step_same a i else step_same b i
    step_same (Loop true e a b) = λ i. loop n (holds_same e i) (step_same a i) (step_same b i >> nothing)
    step_same (Loop false e a b) = λ i. step_same a i >>= λ flow. after_round flow ((step_same b i >> nothing) >> loop n (holds_same e i) (step_same a i) (step_same b i >> nothing))
    step_same (Each a e s) = λ i. array_number a >>= λ x. call row.Iter (x, tt) >>= λ keys. over_keys n keys (keyed_same e i) (step_same s i)
    step_same Break = refl
    step_same Continue = refl
    step_same Next = refl
    step_same Exit = refl
    step_same (ExitWith e) = λ i s. same_bind (Likes [] [] e) _ _ (λ v. settled (numbered (form_of [] e) v) >>= λ m. change (with_status m) >>= λ u. stop Exited)
        (λ v. settled (numbered (form_of [] (ex e)) v) >>= λ m. change (with_status m) >>= λ u. stop Exited) (code_like [] [] tt tt refl e s)
        (λ v w t k. λ j. (settled (numbered_like (form_of [] e) (form_of [] (ex e)) v w k j) >>= λ m. change (with_status m) >>= λ u. stop Exited) t) i
    step_same (Return e) = λ i s. same_bind (Likes [] [] e) _ _ (λ v. stop (Returned (boxed (form_of [] e) v))) (λ v. stop (Returned (boxed (form_of [] (ex e)) v))) (code_like [] [] tt tt refl e s)
        (λ v w t k. λ j. Stops (Returned (boxed_like (form_of [] e) (form_of [] (ex e)) v w k j)) t) i
    step_same (Mark r b) = refl

    pub steps_same : (ss : Steps) → all_stepped texts ps n calls ss ≡ all_stepped texts qs n calls (steps_in slots operation ss)
    steps_same NoStep = refl
    steps_same (Then s ss) = λ i. step_same s i >>= λ flow. after flow (steps_same ss i)
