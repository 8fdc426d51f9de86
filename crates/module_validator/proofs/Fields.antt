-- What is read in the code's lists is what the plain data has.
use Rattle.std.proofs.Common.{◌≡◌, ℕ, List, ◌++◌, map, ap₂, sym}
use Rattle.std.proofs.lemmas.Simd.{map-map}
use Rattle.wasm_types.specs.declared.module.Module.{Module}
use Rattle.wasm_types.specs.View.{view_import, view_func, view_global, view_module}
use Rattle.wasm_types.specs.Typing.{function_types}

pub function_types_are : (m : Module) → map (λ i. i.ty) m.imports.items ++ map (λ f. f.ty) m.funcs.items ≡ function_types (view_module m)
function_types_are m = sym (ap₂ (λ (a b : List ℕ). a ++ b) (map-map (λ i. i.ty) view_import m.imports.items) (map-map (λ f. f.ty) view_func m.funcs.items))

pub global_types_are : (m : Module) → map (λ g. g.ty) m.globals.items ≡ map (λ g. g.ty) (view_module m).globals
global_types_are m = sym (map-map (λ g. g.ty) view_global m.globals.items)
