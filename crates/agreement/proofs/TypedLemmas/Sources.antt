-- What is read without a handle: the names and the parameters are there. Sums of such, wherever they stand.
use Rattle.std.proofs.Common.{◌≡◌, ℕ, ◌<◌, ◌^◌, true, List, [], ◌∷◌, Some, None, Option, ℤ, pos, refl}
use Rattle.wasm_types.specs.Syntax.{Instructions}
use Rattle.wasm_types.specs.Typing.{Context, CodeOk, done}
use Rattle.wasm_types.specs.declared.types.ValType.TheVariants.{I32, I64}
use Rattle.mid_program.specs.declared.mid.Arithmetic.{Arithmetic}
use Rattle.mid_program.specs.declared.mid.Operation.{Operation}
use Rattle.mid_program.specs.declared.mid.Operation.TheVariants.{Inline}
use Rattle.mid_program.specs.Mid.{Kind, Unboxed, Program, Do, Codes, Form}
use Rattle.mid_program.specs.Sorted.{context_of, kinds_of, sorted}
use Rattle.lower_model.specs.Emission.{name_read, source_pushed, added, added_or}
use Rattle.lower_model.specs.Functions.{layout_of}
use Rattle.lower_model.specs.Machine.{no_notes}
use Rattle.lower_model.specs.Places.{Bases}
use Rattle.lower_model.specs.Quick.{Holder, OfName, OfParameter, Source, Held, Constant, joined, all_unsure, Addition, addition_names, addition_in}
use Rattle.lower_model.specs.Small.{emit}
use Rattle.lower_model.proofs.Adding.{AdditionIs, addition_is, addition_unboxed}
use Rattle.lower_model.proofs.QuickParts.{HolderFits, AllUnboxed}
use Rattle.lower_model.proofs.QuickSteps.{SourceFits}
use Rattle.lower_model.proofs.Observer.{Observer}
use Rattle.agreement.proofs.TypedLemmas.Singles.{Stack, Labels, get, put, read, word, long, binary, compare, branched}
use Rattle.agreement.proofs.TypedLemmas.Standing.{Stands, kind_below}

-- it does not matter here how the machine is watched
abbrev pub unwatched : Observer
unwatched = record { callers = 0; notes = no_notes }

module _ {p : Program} {ks : List Kind} {b : Bases} {C : Context} (at : Stands p ks b C) where
  module _ {L : Labels} {k : Instructions} {rs : Stack} where
    pub holder_read : {ps : Stack} (h : Holder) → HolderFits p unwatched ks [] b 0 0 h → CodeOk C L k (I64 ∷ ps) rs → CodeOk C L (emit (name_read (layout_of p b) h) k) ps rs
    holder_read (OfName i) hf r = read (at.name_number i (kind_below (kinds_of p.globals) i Unboxed hf)) r
    holder_read (OfParameter i) hf r = get (at.parameter i Unboxed hf) r

    pub source_ok : {ps : Stack} (m : ℕ) (q : Source) → SourceFits p unwatched ks [] b 0 0 m q → CodeOk C L k (I64 ∷ ps) rs → CodeOk C L (source_pushed (layout_of p b) q k) ps rs
    source_ok m (Held i) h r = holder_read i h r
    source_ok m (Constant z) h r = long r

  module _ {L : Labels} {rs : Stack} where
    joined_ok : {k : Instructions} {ps : Stack} (is : List Holder) (q : ℤ) → AllUnboxed p unwatched ks [] b 0 0 is → CodeOk C L k (I64 ∷ ps) rs → CodeOk C L (joined (name_read (layout_of p b)) is q k) (I64 ∷ ps) rs
    joined_ok [] q h r = r
    joined_ok (i ∷ is) q h r = holder_read i h.0 (long (binary (binary (joined_ok is q h.1 r))))

    pub all_unsure_ok : {k : Instructions} {ps : Stack} (is : List Holder) (q : ℤ) (w : ℕ) → AllUnboxed p unwatched ks [] b 0 0 is → CodeOk C L k (I32 ∷ ps) rs → CodeOk C L (all_unsure (name_read (layout_of p b)) is q w k) ps rs
    all_unsure_ok [] q w h r = word r
    all_unsure_ok (i ∷ is) q w h r = holder_read i h.0 (long (binary (joined_ok is q h.1 (long (compare r)))))

  module _ {L : Labels} {k : Instructions} {ps rs : Stack} where
    added_ok : {fs : List Form} {o : Arithmetic} {es : Codes} (q : Addition) {t : ℕ} → AdditionIs p unwatched ks [] b 0 0 fs o es q → t < b.temporaries → CodeOk C L k ps rs → CodeOk C L (added (layout_of p b) q t k) ps rs
    added_ok q {t = t} h lt r = source_ok (2 ^ 52) q.left h.left (source_ok (2 ^ 52) q.right h.right (binary (put (at.number t lt) r)))

  module _ {L : Labels} {k : Instructions} {ps rs : Stack} where
    pub added_or_ok : {anyway other : Instructions} {t : ℕ} (fs : List Form) (o : Operation) (es : Codes) → sorted (context_of p ks) fs (Do o es) ≡ true → t < b.temporaries →
        CodeOk C (None ∷ L) anyway [] [] → CodeOk C L k ps rs → CodeOk C L other ps rs → CodeOk C L (added_or (layout_of p b) (addition_in o es) t anyway k other) ps rs
    added_or_ok {anyway = anyway} {other = other} {t = t} fs (Inline o) es s lt a r x = by (addition_in (Inline o) es) refl
      where
        by : (m : Option Addition) → addition_in (Inline o) es ≡ m → CodeOk C L (added_or (layout_of p b) m t anyway k other) ps rs
        by None eq = x
        by (Some q) eq =
            let h = addition_is p unwatched ks [] b 0 0 fs o es q eq s in
            all_unsure_ok (addition_names q) (pos (2 ^ 52)) (2 ^ 53) (addition_unboxed p unwatched ks [] b 0 0 fs o es q h) (branched a (added_ok q h lt done) r)
    added_or_ok fs o es s lt a r x = x
