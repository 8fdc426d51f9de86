-- The bodies of a module that bytes have are nested at most 4,000 deep.
use Rattle.std.proofs.Common.{◌≤◌, ℕ, zero, suc, List, [], ◌∷◌, sym, subst, arith, Result, Ok, Err}
use Rattle.std.specs.Prelude.{IfOk}
use Rattle.std.specs.List.{All}
use Rattle.wasm_types.specs.declared.module.Module.{Module}
use Rattle.wasm_types.specs.declared.module.SectionId.{SectionId}
use Rattle.wasm_types.specs.declared.module.SectionId.TheVariants as section
use Rattle.wasm_types.specs.Syntax.{ModuleForm}
use Rattle.wasm_types.specs.View.{view_module}
use Rattle.wasm_types.specs.Instructions.{Each, depths}
use Rattle.wasm_types.specs.ModuleGrammar.{CodeForm, Parts, IsCode, GivesPart, Section, Custom, Known, Give, joined, number, no_parts, IsModule}
use Rattle.module_decoder.specs.declared.fault.DecodeFault.{DecodeFault}

abbrev AreNested : List CodeForm → Type 0
AreNested cs = All (λ c. depths c.body ≤ 4000) cs

codes_nested : (cs : List CodeForm) (text : List ℕ) → Each IsCode cs text → AreNested cs
codes_nested [] text h k d l = absurd (omega arith)
codes_nested (c ∷ cs) text h zero d l = h.2.3.3.2
codes_nested (c ∷ cs) text h (suc k) d l = codes_nested cs h.1 h.3 k d (omega arith)

part_nested : (k : SectionId) (text : List ℕ) (p q : Parts) → AreNested p.codes → GivesPart k text p q → AreNested q.codes
part_nested section.Type text p q h g = subst (λ (x : Parts). AreNested x.codes) (sym g.2) h
part_nested section.Import text p q h g = subst (λ (x : Parts). AreNested x.codes) (sym g.2) h
part_nested section.Function text p q h g = subst (λ (x : Parts). AreNested x.codes) (sym g.2) h
part_nested section.Table text p q h g = subst (λ (x : Parts). AreNested x.codes) (sym g.2) h
part_nested section.Memory text p q h g = subst (λ (x : Parts). AreNested x.codes) (sym g.2) h
part_nested section.Global text p q h g = subst (λ (x : Parts). AreNested x.codes) (sym g.2) h
part_nested section.Export text p q h g = subst (λ (x : Parts). AreNested x.codes) (sym g.2) h
part_nested section.Start text p q h g = subst (λ (x : Parts). AreNested x.codes) (sym g.2) h
part_nested section.Element text p q h g = subst (λ (x : Parts). AreNested x.codes) (sym g.2) h
part_nested section.Code text p q h g = subst (λ (x : Parts). AreNested x.codes) (sym g.3) (codes_nested g.0 g.1.1 g.1.3)
part_nested section.Data text p q h g = subst (λ (x : Parts). AreNested x.codes) (sym g.2) h

sections_nested : (ss : List Section) (last : ℕ) (p q : Parts) → AreNested p.codes → Give ss last p q → AreNested q.codes
sections_nested [] last p q h g = subst (λ (x : Parts). AreNested x.codes) (sym g) h
sections_nested (Custom c ∷ ss) last p q h g = sections_nested ss last p q h g.1
sections_nested (Known k c ∷ ss) last p q h g = sections_nested ss (number k) g.1 q (part_nested k c p g.1 h g.2) g.3

joined_nested : (ts : List ℕ) (cs : List CodeForm) → AreNested cs → All (λ f. depths f.body ≤ 4000) (joined ts cs)
joined_nested [] cs h k d l = absurd (omega arith)
joined_nested (t ∷ ts) [] h k d l = absurd (omega arith)
joined_nested (t ∷ ts) (c ∷ cs) h zero d l = h zero c (omega arith)
joined_nested (t ∷ ts) (c ∷ cs) h (suc k) d l = joined_nested ts cs (λ j e less. h (suc j) e (omega arith)) k d (omega arith)

module_nested : (bytes : List ℕ) (m : ModuleForm) → IsModule bytes m → All (λ f. depths f.body ≤ 4000) m.funcs
module_nested bytes m h =
    subst (λ (x : ModuleForm). All (λ f. depths f.body ≤ 4000) x.funcs) (sym h.result)
    (joined_nested h.parts.type_indices h.parts.codes (sections_nested h.sections 0 no_parts h.parts (λ k d l. absurd (omega arith)) h.gives))

pub nested : (bytes : List ℕ) (r : Result Module DecodeFault) → IfOk r (λ m. IsModule bytes (view_module m)) → IfOk r (λ m. All (λ f. depths f.body ≤ 4000) (view_module m).funcs)
nested bytes (Ok m) h = module_nested bytes (view_module m) h
nested bytes (Err e) h = tt
