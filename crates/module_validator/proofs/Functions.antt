-- Functions one by one, and all of a module's.
use Rattle.std.proofs.Common.{◌≡◌, ◌<◌, ◌≤◌, ◌+◌, ◌-◌, ℕ, [], ◌∷◌, length, get_or, Option, Some, Bool, true, false, Result, Ok, Err, refl, sym, ap, ap₂, subst, ◌∙◌, arith, inl, inr, ◌⊎◌}
use Rattle.std.specs.Prelude.{slice_get, option_map, ⊤, MatchResult, IsErr, IsErrAnd}
use Rattle.std.specs.List.{All}
use Rattle.std.proofs.lemmas.List.{get_or_default, get_or-map, length-map}
use Rattle.std.proofs.lemmas.List.Elements.{All-map}
use Rattle.std.proofs.lemmas.Option.{slice_get-get_or, slice_get-map, slice_get_within, get_or_from_slice_get}
use Rattle.wasm_types.specs.declared.module.Func.{Func}
use Rattle.wasm_types.specs.declared.module.Module.{Module}
use Rattle.wasm_types.specs.Instructions.{depths}
use Rattle.wasm_types.specs.Syntax.{FuncForm, Instructions, ModuleForm, Signature}
use Rattle.wasm_types.specs.Typing.{CodeOk, Context, FuncOk, ModuleOk, context_in, one, typed_in}
use Rattle.wasm_types.specs.View.{view_func, view_module}
use Rattle.module_validator.specs.declared.causes.Cause.TheVariants.{Index, Align}
use Rattle.module_validator.specs.declared.valid.InvalidFault.{InvalidFault}
use Rattle.module_validator.specs.declared.valid.InvalidFault.TheVariants.{BadIndex, BadType, BadAlign, BadModule, NoMemory}
use Rattle.module_validator.specs.Faults.{IsUntyped, Refuses, Untypes, any_in, faulty, name_of, name_by, named}

-- what is told of a function is a fault of its own
pub untypes : (m : ModuleForm) (f : FuncForm) (n : ℕ) (index align : Bool) → (FuncOk m f → ⊥) → name_of m f n ≡ named index align n → Untypes m f n (named index align n)
untypes m f n true align u e = (u, sym e)
untypes m f n false true u e = (u, sym e)
untypes m f n false false u e = (u, sym e)

pub not_ok : (m : ModuleForm) (f : FuncForm) (t : Signature) (C : Context) (code : Instructions) → typed_in m f.ty ≡ Some t → C ≡ context_in m t f.locals → code ≡ f.body →
    (CodeOk C (t.result ∷ []) code [] (one t.result) → ⊥) → FuncOk m f → ⊥
not_ok m f t C code typed context body u ok =
    let same : ok.0 ≡ t = (let e : Some ok.0 ≡ Some t = sym ok.1 ∙ typed in cc) in
    let own = subst (λ (s : Signature). CodeOk (context_in m s f.locals) (s.result ∷ []) f.body [] (one s.result)) same ok.2 in
    u (subst (λ (D : Context). CodeOk D (t.result ∷ []) code [] (one t.result)) (sym context) (subst (λ (is : Instructions). CodeOk (context_in m t f.locals) (t.result ∷ []) is [] (one t.result)) (sym body) own))

pub told_of : (m : ModuleForm) (f : FuncForm) (n : ℕ) (t : Signature) (C : Context) (code : Instructions) → typed_in m f.ty ≡ Some t → C ≡ context_in m t f.locals → code ≡ f.body →
    (FuncOk m f → ⊥) → (e : InvalidFault) → e ≡ named (any_in (faulty C Index) 1 code) (any_in (faulty C Align) 1 code) n → Untypes m f n e
told_of m f n t C code typed context body u e q =
    let same : name_of m f n ≡ named (any_in (faulty C Index) 1 code) (any_in (faulty C Align) 1 code) n =
    ap (name_by m f n) typed ∙ ap₂ (λ (D : Context) (is : Instructions). named (any_in (faulty D Index) 1 is) (any_in (faulty D Align) 1 is) n) (sym context) (sym body) in
    subst (Untypes m f n) (sym q) (untypes m f n (any_in (faulty C Index) 1 code) (any_in (faulty C Align) 1 code) u same)

-- an error that `?` hands on
pub handed_on : (P : Type 0) (m : ModuleForm) (r : Result ⊤ InvalidFault) (e : InvalidFault) → IsErr r × IsErrAnd r (λ d. d ≡ e) → Refuses m e → MatchResult r (λ _. P) (Refuses m)
handed_on P m (Ok _) e h f = cc
handed_on P m (Err d) e h f = subst (Refuses m) (sym h.1) f

module _ (m : Module) (k : ℕ) where
  -- the functions before this one are typed
  abbrev pub AreTyped : Type 0
  AreTyped = (j : ℕ) (d : Func) → j < k → FuncOk (view_module m) (view_func (get_or m.funcs.items j d))

  func_at : (j : ℕ) (f : FuncForm) → slice_get (view_module m).funcs j ≡ Some f → (d : Func) → f ≡ view_func (get_or m.funcs.items j d)
  func_at j f e d =
      let within : j < length m.funcs.items = (let h = slice_get_within (view_module m).funcs j f e in omega (arith, h, length-map m.funcs.items view_func)) in
      let there : slice_get (view_module m).funcs j ≡ Some (view_func (get_or m.funcs.items j d)) =
      slice_get-map view_func m.funcs.items j ∙ ap (λ (o : Option Func). option_map view_func o) (slice_get-get_or m.funcs.items j d within) in
      let same : Some f ≡ Some (view_func (get_or m.funcs.items j d)) = sym e ∙ there in
      cc

  module _ (f : Func) (imports : ℕ) (same : imports ≡ length (view_module m).imports) (h : k < length m.funcs.items) (is : f ≡ get_or m.funcs.items k f) (typed : AreTyped) where
    untyped_at : (e : InvalidFault) → (FuncOk (view_module m) (view_func f) → ⊥) × (e ≡ name_of (view_module m) (view_func f) (imports + k)) → IsUntyped (view_module m) (imports + k) e
    untyped_at e u =
        let place : (imports + k) - length (view_module m).imports ≡ k = omega arith in
        let there : slice_get (view_module m).funcs k ≡ Some (view_func f) =
        slice_get-map view_func m.funcs.items k ∙ ap (λ (o : Option Func). option_map view_func o) (slice_get-get_or m.funcs.items k f h) ∙ ap (λ (g : Func). Some (view_func g)) (sym is) in
        record {
          func = view_func f;
          own = omega arith;
          there = ap (slice_get (view_module m).funcs) place ∙ there;
          untyped = u.0;
          told = u.1;
          first = λ j g l e. subst (FuncOk (view_module m)) (sym (func_at j g e f)) (typed j f (omega (arith, l, place)));
        }

    pub func_refused : (e : InvalidFault) → Untypes (view_module m) (view_func f) (imports + k) e → Refuses (view_module m) e
    func_refused (BadIndex n) u = (imports + k, untyped_at (BadIndex n) u)
    func_refused (BadType n) u = (imports + k, untyped_at (BadType n) u)
    func_refused (BadAlign n) u = (imports + k, untyped_at (BadAlign n) u)
    func_refused BadModule u = absurd u
    func_refused NoMemory u = tt

  pub func_nested : (f : Func) → k < length m.funcs.items → f ≡ get_or m.funcs.items k f → All (λ g. depths g.body ≤ 4000) (view_module m).funcs → depths (view_func f).body ≤ 4000
  func_nested f h is all =
      subst (λ (g : FuncForm). depths g.body ≤ 4000) (get_or-map view_func m.funcs.items k f (view_func f) h ∙ ap view_func (sym is))
      (all k (view_func f) (omega (arith, h, length-map m.funcs.items view_func)))

  pub func_more : (f : Func) → k < length m.funcs.items → f ≡ get_or m.funcs.items k f → FuncOk (view_module m) (view_func f) → (d : Func) → FuncOk (view_module m) (view_func (get_or m.funcs.items k d))
  func_more f h is ok d = subst (λ (g : Func). FuncOk (view_module m) (view_func g)) (is ∙ get_or_default m.funcs.items k f d h) ok

pub funcs_done : (m : Module) → All (λ f. FuncOk (view_module m) (view_func f)) m.funcs.items → All (FuncOk (view_module m)) (view_module m).funcs
funcs_done m all = All-map (FuncOk (view_module m)) view_func m.funcs.items all

not_all : (m : ModuleForm) (n : ℕ) (e : InvalidFault) → IsUntyped m n e → ModuleOk m → ⊥
not_all m n e u ok =
    u.untyped (subst (FuncOk m) (get_or_from_slice_get m.funcs (n - length m.imports) u.func u.func u.there)
    (ok.funcs_ok (n - length m.imports) u.func (slice_get_within m.funcs (n - length m.imports) u.func u.there)))

pub refused_untyped : (m : ModuleForm) (e : InvalidFault) → Refuses m e → (e ≡ NoMemory) ⊎ (ModuleOk m → ⊥)
refused_untyped m (BadIndex n) u = inr (not_all m u.0 (BadIndex n) u.1)
refused_untyped m (BadType n) u = inr (not_all m u.0 (BadType n) u.1)
refused_untyped m (BadAlign n) u = inr (not_all m u.0 (BadAlign n) u.1)
refused_untyped m BadModule u = inr (λ ok. u ok.level)
refused_untyped m NoMemory u = inl refl
