-- A call of a function of the module.
use Rattle.std.proofs.Common.{◌≡◌, inr, ℕ, suc, Bool, true, false, ◌&&◌, cond, nat_lt, nat_le, List, [], ◌∷◌, ◌++◌, drop, length, map, reverse, take, Some, refl, sym, ap, subst, arith, if◌then◌else◌}
use Rattle.std.proofs.lemmas.List.{length-map}
use Rattle.std.proofs.lemmas.Bool.{lt-ltb, le-ltb, ltb-true, ltb-false}
use Rattle.sem_primitives.specs.declared.sorts.Sort.{Sort}
use Rattle.wasm_types.specs.Syntax.{FuncForm, Instructions}
use Rattle.wasm_types.specs.declared.types.ValType.{ValType}
use Rattle.wasm_store.specs.Words.{zero_of}
use Rattle.wasm_model.specs.Frames.{with_values}
use Rattle.wasm_model.specs.Machines.{CallerForm, Ends, Goes, Turn, entered_func}
use Rattle.wasm_model.specs.Machines as real
use Rattle.wasm_model.specs.declared.ends.End.TheVariants as ends
use Rattle.mid_program.specs.Mid.{Kind}
use Rattle.host_step.specs.HostState.{HostState, Names}
use Rattle.lower_model.specs.Cells.{Cell, Bits, none_owned}
use Rattle.lower_model.specs.Machine.{Callee, Code, Conf, Deep, Frame, Label, Store, at, enter, guarded, makes_few, waits, zeros}
use Rattle.lower_model.specs.Modules.{callee_type}
use Rattle.lower_model.specs.Places.{kind_type}
use Rattle.agreement.specs.Refined.Owners.{owners}
use Rattle.agreement.specs.Refined.Refined.{CodeAs, FramesAs, NextAs, RestAs}
use Rattle.agreement.specs.Refined.Words.{WordsAs, arrays_made}
use Rattle.agreement.proofs.RefinedLemmas.LentArrays.{both}
use Rattle.agreement.proofs.RefinedLemmas.Carrying.{unowned_all, unowned_one}
use Rattle.agreement.proofs.RefinedLemmas.FrameSteps.{Once, goes_as, stuck_as, untyped_as}
use Rattle.agreement.proofs.RefinedLemmas.MovedOperands.{owners_append, owners_reverse, owners_split, words_append, words_drop, words_reverse, words_take}
use Rattle.agreement.proofs.RefinedLemmas.Settling.{at_as}

zeros_as : (made : ℕ) (N : Names) (types : List ValType) → WordsAs made N (zeros types) (map zero_of types)
zeros_as made N [] = tt
zeros_as made N (t ∷ types) = (refl, zeros_as made N types)

zeros_once : (t : Sort) (q : ℕ) (types : List ValType) → owners t q (zeros types) (map zero_of types) ≡ 0
zeros_once t q [] = refl
zeros_once t q (k ∷ types) = let h = zeros_once t q types in let g = unowned_one t q (Bits (zero_of k)) (zero_of k) refl in omega arith

module _ (used : ℕ → Bool) (bs : List Bool) where
  -- the entry waits too
  frames_length : (made : ℕ) (N : Names) (F : List Frame) (rs : List CallerForm) → FramesAs used bs made N F rs → length rs ≡ suc (length F)
  frames_length made N [] [] a = absurd a
  frames_length made N [] (r ∷ []) a = refl
  frames_length made N [] (r ∷ (q ∷ rs)) a = absurd a
  frames_length made N (f ∷ F) [] a = absurd a
  frames_length made N (f ∷ F) (r ∷ rs) a = ap suc (frames_length made N F rs a.1)

module _ {used : ℕ → Bool} {bs : List Bool} {u : Code} {K : List Label} {L : List Cell} {F : List Frame} {k : Instructions} {G : Store} {c : real.Conf} {s : HostState} (ks : List Kind) (rest : RestAs used bs u K L F G c s) (code-is : CodeAs used bs k c.frame.code)
    (f : Callee) (g : FuncForm) (locals-is : g.locals ≡ f.locals) (body-is : CodeAs used bs f.body g.body) (vs : List Cell) (a : WordsAs (arrays_made G.host) s.names vs c.frame.values) (once : Once rest vs c.frame.values L c.frame.locals) where
  abbrev Next : Conf → Turn → Type 0
  Next p t = NextAs used bs u p c s t

  abbrev made : ℕ
  made = arrays_made G.host

  -- how many arguments, as both machines count them
  abbrev n : ℕ
  n = length f.kinds

  count_same : length (callee_type f).params ≡ n
  count_same = length-map f.kinds kind_type

  abbrev under : List Cell
  under = drop n vs

  abbrev begun : Conf
  begun = at f.kinds [] [] (reverse (take n vs) ++ zeros f.locals) (record { kinds = ks; under = under; labels = K; locals = L; rest = k } ∷ F) f.body G

  -- the real machine after it, with so many arguments and these further locals
  abbrev after : ℕ → List ValType → real.Conf
  after j types = record c {
    frame = record { values = []; labels = []; locals = reverse (take j c.frame.values) ++ map zero_of types; code = g.body };
    result = (callee_type f).result;
    callers = (record { frame = with_values c.frame (drop j c.frame.values); result = c.result }) ∷ c.callers;
  }

  begun_as : none_owned under ≡ true → Next begun (Goes (after (length (callee_type f).params) g.locals))
  begun_as free =
      subst (λ j. Next begun (Goes (after j g.locals))) (sym count_same)
      (subst (λ types. Next begun (Goes (after n types))) (sym locals-is)
      (goes_as c s begun (after n f.locals)
      (at_as used bs u f.kinds [] (reverse (take n vs) ++ zeros f.locals) (record { kinds = ks; under = under; labels = K; locals = L; rest = k } ∷ F) G (after n f.locals) s
      (record {
        labels = tt;
        locals = words_append made s.names (reverse (take n vs)) (zeros f.locals) (reverse (take n c.frame.values)) (map zero_of f.locals) arguments (zeros_as made s.names f.locals);
        globals = rest.globals;
        callers = (record { under = words_drop made s.names n vs c.frame.values a; unowned = free; labels = rest.labels; locals = rest.locals; rest = code-is; result = rest.result }, rest.callers);
        result = refl;
        host = rest.host;
        arrays = rest.arrays;
        behind = rest.behind;
        memory = rest.memory;
      }) f.body [] tt body-is
      (λ t q. (let o = once t q in
      let p = owners_split t q n vs c.frame.values in
      let r = owners_reverse made s.names t q (take n vs) (take n c.frame.values) (words_take made s.names n vs c.frame.values a) in
      let j = owners_append made s.names t q (reverse (take n vs)) (zeros f.locals) (reverse (take n c.frame.values)) (map zero_of f.locals) arguments in
      let z = zeros_once t q f.locals in
      let e = unowned_all t q under (drop n c.frame.values) free in
      omega arith)))))
    where
      arguments : WordsAs made s.names (reverse (take n vs)) (reverse (take n c.frame.values))
      arguments = words_reverse made s.names (take n vs) (take n c.frame.values) (words_take made s.names n vs c.frame.values a)

  -- a call too deep ends both
  deep_as : Next (Deep G) (Ends ends.Exhausted)
  deep_as = record { taken = λ c1 s1 out t. absurd t; over = λ e s1 out t. inr (inr (G, refl, t.0, rest.host, t.1, t.2)) }

  -- how many callers wait, as both machines count them
  depth_same : u.deepest ≡ 9999 → nat_lt (length c.callers) 10000 ≡ nat_lt (length F) u.deepest
  depth_same e = by (nat_lt (length F) u.deepest) refl
    where
      by : (b : Bool) → nat_lt (length F) u.deepest ≡ b → nat_lt (length c.callers) 10000 ≡ b
      by true h = lt-ltb (length c.callers) 10000 (let x = ltb-true (length F) u.deepest h in let y = frames_length used bs made s.names F c.callers rest.callers in omega arith)
      by false h = le-ltb (length c.callers) 10000 (let x = ltb-false (length F) u.deepest h in let y = frames_length used bs made s.names F c.callers rest.callers in omega arith)

  pub entered_as : u.deepest ≡ 9999 → Next (enter u.deepest (Some f) ks vs K L F k G) (entered_func (callee_type f) g c)
  entered_as e = subst (λ b. Next (enter u.deepest (Some f) ks vs K L F k G) (if b then fits else Ends ends.Exhausted)) (sym (depth_same e)) (by (((nat_le n (length vs) && none_owned under) && waits ks K L k) && makes_few f.kinds L) refl (nat_lt (length F) u.deepest))
    where
      fits : Turn
      fits = if nat_lt (length c.frame.values) (length (callee_type f).params) then Ends ends.Stuck else Goes (after (length (callee_type f).params) g.locals)

      enough : none_owned under ≡ true → (b : Bool) → Next begun (if b then Ends ends.Stuck else Goes (after (length (callee_type f).params) g.locals))
      enough free true = untyped_as c s begun
      enough free false = begun_as free

      by : (b : Bool) → ((nat_le n (length vs) && none_owned under) && waits ks K L k) && makes_few f.kinds L ≡ b → (d : Bool) → Next (guarded b (cond d begun (Deep G))) (if d then fits else Ends ends.Exhausted)
      by false h d = stuck_as c s (if d then fits else Ends ends.Exhausted)
      by true h true = enough (both (nat_le n (length vs)) (none_owned under) (both (nat_le n (length vs) && none_owned under) (waits ks K L k)
          (both ((nat_le n (length vs) && none_owned under) && waits ks K L k) (makes_few f.kinds L) h).0).0).1 (nat_lt (length c.frame.values) (length (callee_type f).params))
      by true h false = deep_as
