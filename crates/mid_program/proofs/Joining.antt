-- The key of subscripts, written anew.
use Rattle.std.proofs.Common.{◌≡◌, List, [], ◌∷◌, map, refl, ap, ◌∙◌}
use Rattle.sem_primitives.specs.declared.table.Primitive.TheVariants.{Join}
use Rattle.mid_program.specs.declared.mid.Operation.{Operation}
use Rattle.mid_program.specs.declared.mid.Operation.TheVariants.{Host}
use Rattle.mid_program.specs.Mid.{Slot, Code, Do, Codes, End, At}
use Rattle.mid_program.specs.ViewCode.{joined}
use Rattle.mid_program.specs.Rewriting.{code_in}

module _ (slots : Slot → Slot) (operation : Operation → Codes → Code) (stays : (a b : Code) → Do (Host Join) (At a (At b End)) ≡ operation (Host Join) (At a (At b End))) where
  pub joined_in : (es : List Code) (last : Code) → joined (map (code_in slots operation) es) (code_in slots operation last) ≡ code_in slots operation (joined es last)
  joined_in [] last = refl
  joined_in (e ∷ es) last =
      ap (λ (k : Code). Do (Host Join) (At (code_in slots operation e) (At k End))) (joined_in es last)
      ∙ stays (code_in slots operation e) (code_in slots operation (joined es last))
