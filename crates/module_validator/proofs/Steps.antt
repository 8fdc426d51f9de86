-- The checker's steps are exactly what the typing allows.
use Rattle.std.proofs.Common.{◌≡◌, ℕ, List, [], ◌∷◌, ◌++◌, Option, Some, None, true, false, refl, sym, ap, ◌∙◌, subst, drop, length, get_or, ◌+◌, ◌<◌, ◌≤◌, suc, arith, drop-cons}
use Rattle.std.proofs.lemmas.List.{drop_all}
use Rattle.std.specs.Prelude.{◌↔◌, IsSomeAnd, slice_get, Result, ⊤, Ok, Err, IsErr, IsErrAnd}
use Rattle.std.specs.List.{All}
use Rattle.wasm_types.specs.declared.types.ValType.{ValType}
use Rattle.wasm_types.specs.declared.types.ValType.TheVariants.{I32}
use Rattle.wasm_types.specs.declared.instr.Simple.{Simple}
use Rattle.wasm_types.specs.declared.instr.Instr.{Instr}
use Rattle.wasm_types.specs.Syntax.{Instruction, Instructions, Plain, BrTable, Block, Loop, If, Done, Then}
use Rattle.wasm_types.specs.View.{view, views}
use Rattle.module_validator.specs.declared.stack.Refusal.{Refusal}
use Rattle.module_validator.specs.declared.stack.Refusal.TheVariants.{Untyped, NoMemory}
use Rattle.wasm_types.specs.Typing.{one, Context, Effect, Fixed, Leaves, Types, effect_of, InstrOk, CodeOk, done, more, simple, table, block, loop, choice}
use Rattle.module_validator.specs.Forms.{Form, Fits, next, given, pop, pops, push_one, after, Refutes, Sees, IsNone, Judges}
use Rattle.module_validator.specs.Checks.{behind, Steps, RunsFrom, IsExact, CanStep, Follows}
use Rattle.module_validator.proofs.Exact.{exact_there, exact_back}

module _ (C : Context) (L : List (Option ValType)) where
  -- an instruction whose types are those of an effect
  abbrev pub Has : Instruction → Effect → Type 0
  Has x e = (ps rs : List ValType) → InstrOk C L x ps rs ↔ Types e ps rs

  pub by_effect : (x : Instruction) (e : Effect) (s t : Form) → Has x e → after e s ≡ Some t → IsExact C L x s t
  by_effect x e s t h q ms = (
    λ u. subst (λ (r : Option Form). IsSomeAnd r (λ t. Fits t ms)) q (exact_there e s ms u.0 u.1 (u.2.0, u.2.1, u.2.2, (h u.2.0 u.2.1).0 u.2.3, u.2.4, u.2.5)),
    λ f. let u = exact_back e s ms (subst (λ (r : Option Form). IsSomeAnd r (λ t. Fits t ms)) (sym q) f) in
        (u.0, u.1, (u.2.0, u.2.1, u.2.2, (h u.2.0 u.2.1).1 u.2.3, u.2.4, u.2.5)),
  )

  pub by_none : (x : Instruction) (e : Effect) (s : Form) → Has x e → after e s ≡ None → CanStep C L x s → ⊥
  by_none x e s h q v =
      let u = v.1 in
      subst (λ (r : Option Form). IsSomeAnd r (λ t. Fits t v.0)) q (exact_there e s v.0 u.0 u.1 (u.2.0, u.2.1, u.2.2, (h u.2.0 u.2.1).0 u.2.3, u.2.4, u.2.5))

  -- an instruction without a body
  simple_types : (p : Simple) (e : Effect) (ps rs : List ValType) → effect_of C L p ≡ Some e → InstrOk C L (Plain p) ps rs → Types e ps rs
  simple_types p e ps rs q (simple d w h) = let k : d ≡ e = cc in subst (λ (y : Effect). Types y ps rs) k h

  simple_has : (p : Simple) (e : Effect) → effect_of C L p ≡ Some e → Has (Plain p) e
  simple_has p e q ps rs = (simple_types p e ps rs q, λ h. simple e q h)

  simple_not : (p : Simple) (ps rs : List ValType) → effect_of C L p ≡ None → InstrOk C L (Plain p) ps rs → ⊥
  simple_not p ps rs q (simple d w h) = cc

  simple_exact : (p : Simple) (s t : Form) (r : Option Effect) → effect_of C L p ≡ r → next r (λ e. after e s) ≡ Some t → IsExact C L (Plain p) s t
  simple_exact p s t None q h = cc
  simple_exact p s t (Some e) q h = by_effect (Plain p) e s t (simple_has p e q) h

  simple_none : (p : Simple) (s : Form) (r : Option Effect) → effect_of C L p ≡ r → next r (λ e. after e s) ≡ None → CanStep C L (Plain p) s → ⊥
  simple_none p s None q h = λ v. simple_not p v.1.2.0 v.1.2.1 q v.1.2.3
  simple_none p s (Some e) q h = by_none (Plain p) e s (simple_has p e q) h

  pub simple_follows : (r : Result ⊤ Refusal) (p : Simple) (s t : Form) → Sees r t (behind C L p s) → Follows r C L (Plain p) s t
  simple_follows (Ok _) p s t h = simple_exact p s t (effect_of C L p) refl h
  simple_follows (Err Untyped) p s t h = simple_none p s (effect_of C L p) refl h
  simple_follows (Err NoMemory) p s t h = tt

  -- a last step that puts a result
  pub put_follows : (x : Instruction) (s t w : Form) (r : Result ⊤ Refusal) → (t ≡ w → IsExact C L x s t) → Sees r t (Some w) → Follows r C L x s t
  put_follows x s t w (Ok _) f h = f (let e : Some w ≡ Some t = h in cc)
  put_follows x s t w (Err Untyped) f h = let e : Some w ≡ None = h in cc
  put_follows x s t w (Err NoMemory) f h = tt

  -- blocks
  block_types : (r : Option ValType) (b : Instructions) (ps rs : List ValType) → InstrOk C L (Block r b) ps rs → CodeOk C (r ∷ L) b [] (one r) × Types (Fixed [] r) ps rs
  block_types r b ps rs (block o h) = (o, h)

  pub block_exact : (r : Option ValType) (b : Instructions) (s t : Form) → CodeOk C (r ∷ L) b [] (one r) → t ≡ push_one r s → IsExact C L (Block r b) s t
  block_exact r b s t o e = by_effect (Block r b) (Fixed [] r) s t (λ ps rs. (λ h. (block_types r b ps rs h).1, λ h. block o h)) (ap (λ (x : Form). Some x) (sym e))

  pub block_not : (r : Option ValType) (b : Instructions) (s : Form) (e : Refusal) → Refutes e (CodeOk C (r ∷ L) b [] (one r)) → Refutes e (CanStep C L (Block r b) s)
  block_not r b s Untyped h = λ v. h (block_types r b v.1.2.0 v.1.2.1 v.1.2.3).0
  block_not r b s NoMemory h = tt

  loop_types : (r : Option ValType) (b : Instructions) (ps rs : List ValType) → InstrOk C L (Loop r b) ps rs → CodeOk C (None ∷ L) b [] (one r) × Types (Fixed [] r) ps rs
  loop_types r b ps rs (loop o h) = (o, h)

  pub loop_exact : (r : Option ValType) (b : Instructions) (s t : Form) → CodeOk C (None ∷ L) b [] (one r) → t ≡ push_one r s → IsExact C L (Loop r b) s t
  loop_exact r b s t o e = by_effect (Loop r b) (Fixed [] r) s t (λ ps rs. (λ h. (loop_types r b ps rs h).1, λ h. loop o h)) (ap (λ (x : Form). Some x) (sym e))

  pub loop_not : (r : Option ValType) (b : Instructions) (s : Form) (e : Refusal) → Refutes e (CodeOk C (None ∷ L) b [] (one r)) → Refutes e (CanStep C L (Loop r b) s)
  loop_not r b s Untyped h = λ v. h (loop_types r b v.1.2.0 v.1.2.1 v.1.2.3).0
  loop_not r b s NoMemory h = tt

  -- choices
  choice_types : (r : Option ValType) (b c : Instructions) (ps rs : List ValType) → InstrOk C L (If r b c) ps rs → CodeOk C (r ∷ L) b [] (one r) × CodeOk C (r ∷ L) c [] (one r) × Types (Fixed (I32 ∷ []) r) ps rs
  choice_types r b c ps rs (choice o p h) = (o, p, h)

  pub choice_exact : (r : Option ValType) (b c : Instructions) (s u t : Form) → pop I32 s ≡ Some u → CodeOk C (r ∷ L) b [] (one r) → CodeOk C (r ∷ L) c [] (one r) → t ≡ push_one r u → IsExact C L (If r b c) s t
  choice_exact r b c s u t q o p e =
      by_effect (If r b c) (Fixed (I32 ∷ []) r) s t (λ ps rs. (λ h. (choice_types r b c ps rs h).2, λ h. choice o p h))
      (ap (λ (x : Option Form). given (next x (λ y. Some y)) (push_one r)) q ∙ ap (λ (x : Form). Some x) (sym e))

  pub choice_first : (r : Option ValType) (b c : Instructions) (s : Form) (e : Refusal) → Refutes e (CodeOk C (r ∷ L) b [] (one r)) → Refutes e (CanStep C L (If r b c) s)
  choice_first r b c s Untyped h = λ v. h (choice_types r b c v.1.2.0 v.1.2.1 v.1.2.3).0
  choice_first r b c s NoMemory h = tt

  pub choice_second : (r : Option ValType) (b c : Instructions) (s : Form) (e : Refusal) → Refutes e (CodeOk C (r ∷ L) c [] (one r)) → Refutes e (CanStep C L (If r b c) s)
  choice_second r b c s Untyped h = λ v. h (choice_types r b c v.1.2.0 v.1.2.1 v.1.2.3).1
  choice_second r b c s NoMemory h = tt

  -- what takes an operand first, and there is none
  none_by : (x : Instruction) (e : Effect) (s : Form) → ((ps rs : List ValType) → InstrOk C L x ps rs → Types e ps rs) → after e s ≡ None → CanStep C L x s → ⊥
  none_by x e s h q v =
      let u = v.1 in
      subst (λ (r : Option Form). IsSomeAnd r (λ t. Fits t v.0)) q (exact_there e s v.0 u.0 u.1 (u.2.0, u.2.1, u.2.2, h u.2.0 u.2.1 u.2.3, u.2.4, u.2.5))

  choice_none : (r : Option ValType) (b c : Instructions) (s : Form) → pop I32 s ≡ None → CanStep C L (If r b c) s → ⊥
  choice_none r b c s h = none_by (If r b c) (Fixed (I32 ∷ []) r) s (λ ps rs i. (choice_types r b c ps rs i).2) (ap (λ (x : Option Form). given (next x (λ y. Some y)) (push_one r)) h)

  pub choice_not : (r : Option ValType) (b c : Instructions) (s : Form) (e : Refusal) → IsNone e (pop I32 s) → Refutes e (CanStep C L (If r b c) s)
  choice_not r b c s Untyped h = choice_none r b c s h
  choice_not r b c s NoMemory h = tt

  -- tables
  table_types : (ns : List ℕ) (n : ℕ) (ps rs : List ValType) → InstrOk C L (BrTable ns n) ps rs → (r : Option ValType) × (slice_get L n ≡ Some r) × All (λ k. slice_get L k ≡ Some r) ns × Types (Leaves (I32 ∷ one r)) ps rs
  table_types ns n ps rs (table r g a h) = (r, g, a, h)

  table_same : (ns : List ℕ) (n : ℕ) (r : Option ValType) (ps rs : List ValType) → slice_get L n ≡ Some r → InstrOk C L (BrTable ns n) ps rs → All (λ k. slice_get L k ≡ Some r) ns × Types (Leaves (I32 ∷ one r)) ps rs
  table_same ns n r ps rs g i =
      let t = table_types ns n ps rs i in
      let k : t.0 ≡ r = let a : slice_get L n ≡ Some t.0 = t.1 in cc in
      (subst (λ (y : Option ValType). All (λ k. slice_get L k ≡ Some y) ns) k t.2, subst (λ (y : Option ValType). Types (Leaves (I32 ∷ one y)) ps rs) k t.3)

  pub table_exact : (ns : List ℕ) (n : ℕ) (r : Option ValType) (s u v t : Form) → slice_get L n ≡ Some r → All (λ k. slice_get L k ≡ Some r) ns → pop I32 s ≡ Some u → pops (one r) u ≡ Some v → t ≡ ([], true) → IsExact C L (BrTable ns n) s t
  table_exact ns n r s u v t g a q w e =
      by_effect (BrTable ns n) (Leaves (I32 ∷ one r)) s t (λ ps rs. (λ i. (table_same ns n r ps rs g i).1, λ h. table r g a h))
      (ap (λ (x : Option Form). given (next x (λ y. pops (one r) y)) (λ y. ([], true))) q ∙ (ap (λ (x : Option Form). given x (λ y. ([], true))) w ∙ ap (λ (x : Form). Some x) (sym e)))

  pub table_first : (ns : List ℕ) (n : ℕ) (r : Option ValType) (s : Form) (e : Refusal) → slice_get L n ≡ Some r → IsNone e (pop I32 s) → Refutes e (CanStep C L (BrTable ns n) s)
  table_first ns n r s Untyped g h = none_by (BrTable ns n) (Leaves (I32 ∷ one r)) s (λ ps rs i. (table_same ns n r ps rs g i).1) (ap (λ (x : Option Form). given (next x (λ y. pops (one r) y)) (λ y. ([], true))) h)
  table_first ns n r s NoMemory g h = tt

  table_second_no : (ns : List ℕ) (n : ℕ) (r : Option ValType) (s u : Form) → slice_get L n ≡ Some r → pop I32 s ≡ Some u → pops (one r) u ≡ None → CanStep C L (BrTable ns n) s → ⊥
  table_second_no ns n r s u g q h = none_by (BrTable ns n) (Leaves (I32 ∷ one r)) s (λ ps rs i. (table_same ns n r ps rs g i).1) (ap (λ (x : Option Form). given (next x (λ y. pops (one r) y)) (λ y. ([], true))) q ∙ ap (λ (x : Option Form). given x (λ y. ([], true))) h)

  pub table_second : (ns : List ℕ) (n : ℕ) (r : Option ValType) (s u : Form) (e : Refusal) → slice_get L n ≡ Some r → pop I32 s ≡ Some u → IsNone e (pops (one r) u) → Refutes e (CanStep C L (BrTable ns n) s)
  table_second ns n r s u Untyped g q h = table_second_no ns n r s u g q h
  table_second ns n r s u NoMemory g q h = tt

  pub table_unknown : (ns : List ℕ) (n : ℕ) (s : Form) → slice_get L n ≡ None → CanStep C L (BrTable ns n) s → ⊥
  table_unknown ns n s g v = let t = table_types ns n v.1.2.0 v.1.2.1 v.1.2.3 in let a : slice_get L n ≡ Some t.0 = t.1 in cc

  pub table_other : (ns : List ℕ) (n : ℕ) (r : Option ValType) (s : Form) → slice_get L n ≡ Some r → (All (λ k. slice_get L k ≡ Some r) ns → ⊥) → CanStep C L (BrTable ns n) s → ⊥
  table_other ns n r s g f v = f (table_same ns n r v.1.2.0 v.1.2.1 g v.1.2.3).0

  -- code
  first_of : (i : Instruction) (is : Instructions) (ks ns : List ValType) → CodeOk C L (Then i is) ks ns → (ms : List ValType) × Steps C L i ks ms × CodeOk C L is ms ns
  first_of i is ks ns (more ps rs under o q h) = (rs ++ under, (ps, rs, under, o, q, refl), h)

  pub run_step : (i : Instruction) (is : Instructions) (s t : Form) → IsExact C L i s t → (ns : List ValType) → RunsFrom C L (Then i is) s ns ↔ RunsFrom C L is t ns
  run_step i is s t h ns = (
    λ u. let f = first_of i is u.0 ns u.2 in (f.0, (h f.0).0 (u.0, u.1, f.1), f.2),
    λ u. let b = (h u.0).1 u.1 in
        (b.0, b.1, more b.2.0 b.2.1 b.2.2 b.2.3 b.2.4 (subst (λ (ms : List ValType). CodeOk C L is ms ns) b.2.5 u.2)),
  )

  pub run_can : (i : Instruction) (is : Instructions) (s : Form) (ns : List ValType) → RunsFrom C L (Then i is) s ns → CanStep C L i s
  run_can i is s ns u = let f = first_of i is u.0 ns u.2 in (f.0, (u.0, u.1, f.1))

  nothing_of : (ks ns : List ValType) → CodeOk C L Done ks ns → ks ≡ ns
  nothing_of ks _ done = refl

  pub run_done : (s : Form) (ns : List ValType) → RunsFrom C L Done s ns ↔ Fits s ns
  run_done s ns = (λ u. subst (λ (ks : List ValType). Fits s ks) (nothing_of u.0 ns u.2) u.1, λ f. (ns, f, done))

  pub run_new : (code : Instructions) (ns : List ValType) → RunsFrom C L code ([], false) ns ↔ CodeOk C L code [] ns
  run_new code ns = (λ u. subst (λ (ks : List ValType). CodeOk C L code ks ns) u.1 u.2, λ o. ([], refl, o))

-- an error that `?` hands on
pub follows_err : (C : Context) (L : List (Option ValType)) (x : Instruction) (s t : Form) (r : Result ⊤ Refusal) (e : Refusal) → IsErr r × IsErrAnd r (λ d. d ≡ e) → Refutes e (CanStep C L x s) → Follows r C L x s t
follows_err C L x s t (Ok _) e h f = cc
follows_err C L x s t (Err d) e h f = subst (λ (y : Refusal). Refutes y (CanStep C L x s)) (sym h.1) f

pub judges_err : (P : Type 0) (r : Result ⊤ Refusal) (e : Refusal) → IsErr r × IsErrAnd r (λ d. d ≡ e) → Refutes e P → Judges r P
judges_err P (Ok _) e h f = cc
judges_err P (Err d) e h f = subst (λ (y : Refusal). Refutes y P) (sym h.1) f

pub refutes_by : (P Q : Type 0) (e : Refusal) → (Q → P) → Refutes e P → Refutes e Q
refutes_by P Q Untyped f h = λ q. h (f q)
refutes_by P Q NoMemory f h = tt

pub judges_by : (P Q : Type 0) (r : Result ⊤ Refusal) → P ↔ Q → Judges r P → Judges r Q
judges_by P Q (Ok _) f h = f.0 h
judges_by P Q (Err e) f h = refutes_by P Q e f.1 h

module _ (C : Context) (L : List (Option ValType)) (code : List Instr) where
  -- the code so far leads from an empty stack to this knowledge
  abbrev pub SoFar : ℕ → Form → Type 0
  SoFar n s = (ns : List ValType) → RunsFrom C L (views code) ([], false) ns ↔ RunsFrom C L (views (drop n code)) s ns

  here_is : (n : ℕ) (i : Instr) → n < length code → i ≡ get_or code n i → drop n code ≡ i ∷ drop (n + 1) code
  here_is n i h e =
      let one_more : suc n ≡ n + 1 = omega arith in
      drop-cons code n i h ∙ (ap (λ (j : Instr). j ∷ drop (suc n) code) (sym e) ∙ ap (λ (m : ℕ). i ∷ drop m code) one_more)

  pub so_far_step : (n : ℕ) (i : Instr) (s t : Form) → n < length code → i ≡ get_or code n i → IsExact C L (view i) s t → SoFar n s → SoFar (n + 1) t
  so_far_step n i s t h e x f ns =
      let r = run_step C L (view i) (views (drop (n + 1) code)) s t x ns in
      let q : drop n code ≡ i ∷ drop (n + 1) code = here_is n i h e in (
        λ u. r.0 (subst (λ (is : List Instr). RunsFrom C L (views is) s ns) q ((f ns).0 u)),
        λ u. (f ns).1 (subst (λ (is : List Instr). RunsFrom C L (views is) s ns) (sym q) (r.1 u)),
      )

  pub so_far_stuck : (n : ℕ) (i : Instr) (s : Form) (gives : Option ValType) (e : Refusal) → n < length code → i ≡ get_or code n i → SoFar n s → Refutes e (CanStep C L (view i) s) → Refutes e (CodeOk C L (views code) [] (one gives))
  so_far_stuck n i s g e h q f r =
      refutes_by (CanStep C L (view i) s) (CodeOk C L (views code) [] (one g)) e
      (λ o. run_can C L (view i) (views (drop (n + 1) code)) s (one g) (subst (λ (is : List Instr). RunsFrom C L (views is) s (one g)) (here_is n i h q) ((f (one g)).0 ((run_new C L (views code) (one g)).1 o)))) r

  pub so_far_end : (n : ℕ) (s : Form) (gives : Option ValType) (r : Result ⊤ Refusal) → length code ≤ n → SoFar n s → Judges r (Fits s (one gives)) → Judges r (CodeOk C L (views code) [] (one gives))
  so_far_end n s g r h f j =
      let q : drop n code ≡ [] = drop_all n code h in
      judges_by (Fits s (one g)) (CodeOk C L (views code) [] (one g)) r (
        λ w. (run_new C L (views code) (one g)).0 ((f (one g)).1 (subst (λ (is : List Instr). RunsFrom C L (views is) s (one g)) (sym q) ((run_done C L s (one g)).1 w))),
        λ o. (run_done C L s (one g)).0 (subst (λ (is : List Instr). RunsFrom C L (views is) s (one g)) q ((f (one g)).0 ((run_new C L (views code) (one g)).1 o))),
      ) j
