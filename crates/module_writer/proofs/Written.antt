-- What is written is the module's, in the fewest bytes, and what is refused has none.
use Rattle.std.proofs.Common.{◌≡◌, ℕ, ◌+◌, ◌^◌, ◌≤◌, Bool, true, false, cond, leb, List, [], ◌∷◌, ◌++◌, length, map, Some, None, Result, Ok, Err, refl, sym, ap, subst, ◌∙◌, arith, length-append}
use Rattle.std.specs.Prelude.{IfOk, IfErr}
use Rattle.std.specs.declared.vec.Vec.{Vec}
use Rattle.std.specs.declared.alloc.Global.{Global}
use Rattle.std.proofs.lemmas.Bool.{leb-true, leb-false}
use Rattle.std.proofs.lemmas.List.{length-map}
use Rattle.wasm_types.specs.Syntax.{FuncForm, ModuleForm}
use Rattle.wasm_types.specs.Leb128Texts.{and_then}
use Rattle.wasm_types.specs.ModuleGrammar.{CodeForm, Parts, joined, module_of, header, IsModule}
use Rattle.module_writer.specs.declared.fault.WriteFault.{WriteFault}
use Rattle.module_writer.specs.declared.fault.WriteFault.TheVariants.{TooLarge, NoMemory}
use Rattle.module_writer.specs.Writers.{Written, Gives}
use Rattle.module_writer.specs.Writing.{from_types_to, fit, module_to}
use Rattle.module_writer.proofs.Meets.{Meets}
use Rattle.module_writer.proofs.PartLaws.{code_form}
use Rattle.module_writer.proofs.SectionLaws.{FromTypes, parts_of, from_types_meets}
use Rattle.module_writer.proofs.ModuleLaws.{lead_types}
use Rattle.module_writer.proofs.Shortest.{shortest}

-- ---- modules and parts

joined_again : (fs : List FuncForm) → joined (map (λ f. f.ty) fs) (map code_form fs) ≡ fs
joined_again [] = refl
joined_again (f ∷ fs) = ap (λ (gs : List FuncForm). f ∷ gs) (joined_again fs)

indices_again : (ts : List ℕ) (cs : List CodeForm) → length ts ≡ length cs → map (λ f. f.ty) (joined ts cs) ≡ ts
indices_again [] cs e = refl
indices_again (t ∷ ts) [] e = absurd (omega (arith, e))
indices_again (t ∷ ts) (c ∷ cs) e = ap (λ (us : List ℕ). t ∷ us) (indices_again ts cs (omega (arith, e)))

codes_again : (ts : List ℕ) (cs : List CodeForm) → length ts ≡ length cs → map code_form (joined ts cs) ≡ cs
codes_again [] [] e = refl
codes_again [] (c ∷ cs) e = absurd (omega (arith, e))
codes_again (t ∷ ts) [] e = absurd (omega (arith, e))
codes_again (t ∷ ts) (c ∷ cs) e = ap (λ (ds : List CodeForm). c ∷ ds) (codes_again ts cs (omega (arith, e)))

module_again : (m : ModuleForm) → module_of (parts_of m) ≡ m
module_again m = ap (λ (fs : List FuncForm). record m { funcs = fs }) (joined_again m.funcs)

parts_again : (p : Parts) → length p.type_indices ≡ length p.codes → parts_of (module_of p) ≡ p
parts_again p e =
    ap (λ (ts : List ℕ). record p { type_indices = ts; codes = map code_form (joined p.type_indices p.codes) }) (indices_again p.type_indices p.codes e)
    ∙ ap (λ (cs : List CodeForm). record p { codes = cs }) (codes_again p.type_indices p.codes e)

-- ---- the bytes of a module

made : (m : ModuleForm) (text : List ℕ) → FromTypes (parts_of m) text → length (header ++ text) ≤ 2 ^ 24 → IsModule (header ++ text) m
made m text h le =
    let types = length-map m.funcs (λ f. f.ty) in
    let codes = length-map m.funcs code_form in
    let counts : length (map code_form m.funcs) ≡ length (map (λ f. f.ty) m.funcs) = omega (arith, types, codes) in
    let leads = lead_types (parts_of m) counts text h in
    record { sections = leads.0; rest = text; parts = parts_of m; begins = refl; size = le; spelled = leads.2; gives = leads.1; counts = sym counts; result = sym (module_again m) }

-- what a module's bytes are no fewer than
record Fewest (m : ModuleForm) (bytes : List ℕ) : Type 0 where
  text : List ℕ
  is : FromTypes (parts_of m) text
  fewer : 8 + length text ≤ length bytes
  size : length bytes ≤ 2 ^ 24

fewest : (m : ModuleForm) (bytes : List ℕ) → IsModule bytes m → Fewest m bytes
fewest m bytes h =
    let s = shortest h.sections h.rest h.parts h.spelled h.gives in
    let same : h.parts ≡ parts_of m = sym (parts_again h.parts h.counts) ∙ ap parts_of (sym h.result) in
    let all = ap length h.begins in
    let both = length-append header h.rest in
    let less = s.2 in
    record { text = s.0; is = subst (λ (p : Parts). FromTypes p s.0) same s.1; fewer = omega (arith, all, both, less); size = h.size }

abbrev pub Settles : ModuleForm → Written → Type 0
Settles m None = (other : List ℕ) → IsModule other m → ⊥
Settles m (Some bytes) = IsModule bytes m × ((other : List ℕ) → IsModule other m → length bytes ≤ length other)

pub settled : (m : ModuleForm) → Settles m (module_to m)
settled m = by (from_types_to m header) (from_types_meets m header)
  where
    by : (r : Written) → Meets (FromTypes (parts_of m)) header r → Settles m (and_then r fit)
    by None h = λ other k.
        let f = fewest m other k in
        let past = h f.text f.is in
        let less = f.fewer in
        let size = f.size in
        omega (arith, past, less, size)
    by (Some new) h = end (leb (length new) (2 ^ 24)) refl
      where
        least : (other : List ℕ) → IsModule other m → (length new ≤ length other) × (length other ≤ 2 ^ 24)
        least other k =
            let f = fewest m other k in
            let less = f.fewer in
            let no_more = h.least f.text f.is in
            let all = ap length h.behind in
            let both = length-append header h.text in
            (omega (arith, less, no_more, all, both), f.size)

        end : (b : Bool) → leb (length new) (2 ^ 24) ≡ b → Settles m (cond b (Some new) None)
        end true e = (subst (λ (bytes : List ℕ). IsModule bytes m) (sym h.behind) (made m h.text h.is (subst (λ (bytes : List ℕ). length bytes ≤ 2 ^ 24) h.behind (leb-true (length new) (2 ^ 24) e))), λ other k. (least other k).0)
        end false e = λ other k. let past = leb-false (length new) (2 ^ 24) e in let l = least other k in let a = l.0 in let b = l.1 in omega (arith, past, a, b)

-- ---- the three clauses

pub spelled : (m : ModuleForm) (r : Result (Vec ℕ Global) WriteFault) → Gives r (module_to m) → IfOk r (λ v. IsModule v.items m)
spelled m (Ok v) e = (subst (Settles m) e (settled m)).0
spelled m (Err f) e = tt

pub least : (m : ModuleForm) (r : Result (Vec ℕ Global) WriteFault) → Gives r (module_to m) → IfOk r (λ v. (other : List ℕ) → IsModule other m → length v.items ≤ length other)
least m (Ok v) e = (subst (Settles m) e (settled m)).1
least m (Err f) e = tt

fault_is : NoMemory ≡ TooLarge → ⊥
fault_is e = absurd cc

pub refused : (m : ModuleForm) (r : Result (Vec ℕ Global) WriteFault) → Gives r (module_to m) → IfErr r (λ f. f ≡ TooLarge → (bytes : List ℕ) → IsModule bytes m → ⊥)
refused m (Ok v) e = tt
refused m (Err TooLarge) e = λ same. subst (Settles m) e (settled m)
refused m (Err NoMemory) e = λ same. absurd (fault_is same)
