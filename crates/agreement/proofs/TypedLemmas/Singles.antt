-- Single instructions before other code: the types of the whole. The outermost label stands last, and no label but that one wants anything.
use Rattle.std.proofs.Common.{◌≡◌, ℕ, suc, List, [], ◌∷◌, ◌++◌, true, Option, Some, None, refl, sym, ap, append-nil}
use Rattle.std.specs.Prelude.{slice_get, reverse}
use Rattle.wasm_types.specs.Syntax.{Plain, Block, Loop, If, Instructions, Then, Signature}
use Rattle.wasm_types.specs.Typing.{one, Context, Fixed, Leaves, Drops, over, set_effect, converted, effect_of, CodeOk, more, simple, block, loop, choice}
use Rattle.wasm_types.specs.declared.types.ValType.{ValType}
use Rattle.wasm_types.specs.declared.types.ValType.TheVariants.{I32, I64}
use Rattle.wasm_types.specs.declared.types.GlobalType.{GlobalType}
use Rattle.wasm_types.specs.declared.instr.Simple.{Simple}
use Rattle.wasm_types.specs.declared.instr.IRelOp.{IRelOp}
use Rattle.wasm_types.specs.declared.instr.IBinOp.{IBinOp}
use Rattle.wasm_types.specs.declared.instr.ITestOp.{ITestOp}
use Rattle.wasm_types.specs.declared.instr.CvtOp.{CvtOp}
use Rattle.wasm_types.specs.declared.instr.Simple.TheVariants.{Nop, Br, BrIf, Call, Drop, LocalGet, LocalSet, LocalTee, GlobalGet, GlobalSet, I32Const, I64Const, Test, Compare, Binary, Convert}

abbrev pub Stack : Type 0
Stack = List ValType

abbrev pub Labels : Type 0
Labels = List (Option ValType)

-- a label that wants nothing
pub record Exit (L : Labels) (d : ℕ) : Type 0 where
  pub free : slice_get L d ≡ Some None

-- inside one more label
pub inner : {L : Labels} {d : ℕ} {r : Option ValType} → Exit L d → Exit (r ∷ L) (suc d)
inner e = record { free = e.free }

pub nearest : {L : Labels} → Exit (None ∷ L) 0
nearest = record { free = refl }

-- an instruction that reads a place of this type, or writes one, inside whatever labels
pub record Reads (C : Context) (i : Simple) (w : ValType) : Type 0 where
  pub effect : (L : Labels) → effect_of C L i ≡ Some (Fixed [] (Some w))

pub record Writes (C : Context) (i : Simple) (w : ValType) : Type 0 where
  pub effect : (L : Labels) → effect_of C L i ≡ Some (Fixed (w ∷ []) None)

-- a global that can be written
abbrev pub variable : ValType → GlobalType
variable w = record { value = w; mutable = true }

module _ {C : Context} where
  pub reads_local : {x : ℕ} {w : ValType} → slice_get C.locals x ≡ Some w → Reads C (LocalGet x) w
  reads_local e = record { effect = λ L. ap (λ o. over o (λ v. Fixed [] (Some v))) e }

  pub writes_local : {x : ℕ} {w : ValType} → slice_get C.locals x ≡ Some w → Writes C (LocalSet x) w
  writes_local e = record { effect = λ L. ap (λ o. over o (λ v. Fixed (v ∷ []) None)) e }

  pub reads_global : {x : ℕ} {w : ValType} → slice_get C.globals x ≡ Some (variable w) → Reads C (GlobalGet x) w
  reads_global e = record { effect = λ L. ap (λ o. over o (λ (g : GlobalType). Fixed [] (Some g.value))) e }

  pub writes_global : {x : ℕ} {w : ValType} → slice_get C.globals x ≡ Some (variable w) → Writes C (GlobalSet x) w
  writes_global e = record { effect = λ L. ap (λ (o : Option GlobalType). elim o [ None ↦ None | Some g ↦ set_effect g.mutable g.value ]) e }

  module _ {L : Labels} {k : Instructions} {rs : Stack} where
    fixed : {i : Simple} → (ts : Stack) (g : Option ValType) (ps : Stack) → effect_of C L i ≡ Some (Fixed ts g) → CodeOk C L k (one g ++ ps) rs →
        CodeOk C L (Then (Plain i) k) (ts ++ ps) rs
    fixed ts g ps e r = more ts (one g) ps (simple (Fixed ts g) e (refl, refl)) refl r

    pub called : {n : ℕ} {t : Signature} → (ps : Stack) → C.callee n ≡ Some t → CodeOk C L k (one t.result ++ ps) rs →
        CodeOk C L (Then (Plain (Call n)) k) (reverse t.params ++ ps) rs
    called {t = t} ps e r = fixed (reverse t.params) t.result ps (ap (λ o. over o (λ (s : Signature). Fixed (reverse s.params) s.result)) e) r

    module _ {ps : Stack} where
      pub nothing : CodeOk C L k ps rs → CodeOk C L (Then (Plain Nop) k) ps rs
      nothing r = fixed [] None ps refl r

      pub gives : {i : Simple} {w : ValType} → Reads C i w → CodeOk C L k (w ∷ ps) rs → CodeOk C L (Then (Plain i) k) ps rs
      gives {w = w} e r = fixed [] (Some w) ps (e.effect L) r

      pub takes : {i : Simple} {w : ValType} → Writes C i w → CodeOk C L k ps rs → CodeOk C L (Then (Plain i) k) (w ∷ ps) rs
      takes {w = w} e r = fixed (w ∷ []) None ps (e.effect L) r

      pub get : {x : ℕ} {w : ValType} → slice_get C.locals x ≡ Some w → CodeOk C L k (w ∷ ps) rs → CodeOk C L (Then (Plain (LocalGet x)) k) ps rs
      get e r = gives (reads_local e) r

      pub put : {x : ℕ} {w : ValType} → slice_get C.locals x ≡ Some w → CodeOk C L k ps rs → CodeOk C L (Then (Plain (LocalSet x)) k) (w ∷ ps) rs
      put e r = takes (writes_local e) r

      pub tee : {x : ℕ} {w : ValType} → slice_get C.locals x ≡ Some w → CodeOk C L k (w ∷ ps) rs →
          CodeOk C L (Then (Plain (LocalTee x)) k) (w ∷ ps) rs
      tee {w = w} e r = fixed (w ∷ []) (Some w) ps (ap (λ o. over o (λ v. Fixed (v ∷ []) (Some v))) e) r

      pub read : {x : ℕ} {w : ValType} → slice_get C.globals x ≡ Some (variable w) → CodeOk C L k (w ∷ ps) rs →
          CodeOk C L (Then (Plain (GlobalGet x)) k) ps rs
      read e r = gives (reads_global e) r

      pub write : {x : ℕ} {w : ValType} → slice_get C.globals x ≡ Some (variable w) → CodeOk C L k ps rs →
          CodeOk C L (Then (Plain (GlobalSet x)) k) (w ∷ ps) rs
      write e r = takes (writes_global e) r

      pub word : {m : ℕ} → CodeOk C L k (I32 ∷ ps) rs → CodeOk C L (Then (Plain (I32Const m)) k) ps rs
      word r = fixed [] (Some I32) ps refl r

      pub long : {m : ℕ} → CodeOk C L k (I64 ∷ ps) rs → CodeOk C L (Then (Plain (I64Const m)) k) ps rs
      long r = fixed [] (Some I64) ps refl r

      pub test : {w : ValType} {op : ITestOp} → CodeOk C L k (I32 ∷ ps) rs → CodeOk C L (Then (Plain (Test w op)) k) (w ∷ ps) rs
      test {w = w} r = fixed (w ∷ []) (Some I32) ps refl r

      pub compare : {w : ValType} {op : IRelOp} → CodeOk C L k (I32 ∷ ps) rs → CodeOk C L (Then (Plain (Compare w op)) k) (w ∷ (w ∷ ps)) rs
      compare {w = w} r = fixed (w ∷ (w ∷ [])) (Some I32) ps refl r

      pub binary : {w : ValType} {op : IBinOp} → CodeOk C L k (w ∷ ps) rs → CodeOk C L (Then (Plain (Binary w op)) k) (w ∷ (w ∷ ps)) rs
      binary {w = w} r = fixed (w ∷ (w ∷ [])) (Some w) ps refl r

      pub convert : {op : CvtOp} → CodeOk C L k ((converted op).1 ∷ ps) rs → CodeOk C L (Then (Plain (Convert op)) k) ((converted op).0 ∷ ps) rs
      convert {op = op} r = fixed ((converted op).0 ∷ []) (Some (converted op).1) ps refl r

      pub discard : {w : ValType} → CodeOk C L k ps rs → CodeOk C L (Then (Plain Drop) k) (w ∷ ps) rs
      discard {w = w} r = more (w ∷ []) [] ps (simple Drops refl (w, refl, refl)) refl r

      pub leave : {d : ℕ} → Exit L d → CodeOk C L k [] rs → CodeOk C L (Then (Plain (Br d)) k) ps rs
      leave e r = more ps [] [] (simple (Leaves []) (ap (λ o. over o (λ x. Leaves (one x))) e.free) (ps, refl)) whole r
        where
          whole : ps ≡ ps ++ []
          whole = sym (append-nil ps)

      pub leave_if : {d : ℕ} → Exit L d → CodeOk C L k ps rs → CodeOk C L (Then (Plain (BrIf d)) k) (I32 ∷ ps) rs
      leave_if e r = fixed (I32 ∷ []) None ps (ap (λ o. over o (λ x. Fixed (I32 ∷ one x) x)) e.free) r

      pub blocked : {a : Instructions} → CodeOk C (None ∷ L) a [] [] → CodeOk C L k ps rs → CodeOk C L (Then (Block None a) k) ps rs
      blocked a r = more [] [] ps (block a (refl, refl)) refl r

      pub looped : {a : Instructions} → CodeOk C (None ∷ L) a [] [] → CodeOk C L k ps rs → CodeOk C L (Then (Loop None a) k) ps rs
      looped a r = more [] [] ps (loop a (refl, refl)) refl r

      pub branched : {a b : Instructions} → CodeOk C (None ∷ L) a [] [] → CodeOk C (None ∷ L) b [] [] → CodeOk C L k ps rs →
          CodeOk C L (Then (If None a b) k) (I32 ∷ ps) rs
      branched a b r = more (I32 ∷ []) [] ps (choice a b (refl, refl)) refl r
