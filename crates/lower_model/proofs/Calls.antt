-- Calls of imports: one scheme for all rows of the table.
use Rattle.std.proofs.Common.{◌≡◌, true, List, ◌++◌, length, Some, Option, refl, ap, ap₂, ◌∙◌}
use Rattle.std.specs.Prelude.{reverse, take, drop, nat_lt, cond, slice_get, ◌-◌}
use Rattle.std.proofs.lemmas.List.{take_at, drop_at, reverse-reverse, length-reverse}
use Rattle.sem_primitives.specs.declared.table.Primitive.{Primitive}
use Rattle.sem_primitives.specs.declared.table.Primitive.TheVariants as row
use Rattle.wasm_types.specs.Syntax.{Instructions}
use Rattle.mid_program.specs.Mid.{Kind}
use Rattle.lower_model.specs.Cells.{Cell}
use Rattle.host_imports.specs.Imports.{import_at, import_count}
use Rattle.host_imports.specs.Names.{import_number}
use Rattle.lower_model.specs.ImportCalls.{Host, call}
use Rattle.lower_model.specs.Machine.{Code, Label, Frame, Store, at, guarded, all_live, with_answer, assigning_after, onto, width, ask as asked, enter}
use Rattle.lower_model.specs.Small.{ask}
use Rattle.host_imports.specs.declared.import.Import.{Import}
use Rattle.host_imports.specs.declared.import.Import.TheVariants.{OfPrimitive, Variadic, Arg, Drop, IterFree, FreeArray}
use Rattle.host_imports.specs.declared.import.VariadicImport.TheVariants.{Sprintf, Print, Printf}
use Rattle.lower_model.proofs.Runs.{Goes}

-- each import is found by its number

row_found : (p : Primitive) → import_at (import_number (OfPrimitive p)) ≡ Some (OfPrimitive p)
row_found row.Num = refl
row_found _ = refl

pub import_found : (i : Import) → import_at (import_number i) ≡ Some i
import_found (OfPrimitive p) = row_found p
import_found (Variadic Sprintf) = refl
import_found (Variadic Print) = refl
import_found (Variadic Printf) = refl
import_found Arg = refl
import_found Drop = refl
import_found IterFree = refl
import_found FreeArray = refl

row_low : (p : Primitive) → nat_lt (import_number (OfPrimitive p)) import_count ≡ true
row_low row.Num = refl
row_low _ = refl

import_low : (i : Import) → nat_lt (import_number i) import_count ≡ true
import_low (OfPrimitive p) = row_low p
import_low (Variadic Sprintf) = refl
import_low (Variadic Print) = refl
import_low (Variadic Printf) = refl
import_low Arg = refl
import_low Drop = refl
import_low IterFree = refl
import_low FreeArray = refl

-- a call of any import, whose words lie on the stack, the last one on top
pub called : {u : Code} {ks : List Kind} {K : List Label} {L : List Cell} {F : List Frame} {c : Instructions} → (i : Import) (words vs : List Cell) (G : Store) (a : Option Cell) (h : Host) →
    length words ≡ width i → all_live L F G.globals words ≡ true → call u.memory i words G.host ≡ Some (a, h) →
    Goes u 1 (at ks (reverse words ++ vs) K L F (ask i c) G) (at ks (onto a vs) K L F c (record G { host = h; assigning = assigning_after i G }))
called {u = u} {ks = ks} {K = K} {L = L} {F = F} {c = c} i words vs G a h n live e =
    let s = reverse words ++ vs in
    let m : length (reverse words) ≡ width i = length-reverse words ∙ n in
    let front : reverse (take (width i) s) ≡ words = ap reverse (take_at (reverse words) vs (width i) m) ∙ reverse-reverse words in
    let rest : drop (width i) s ≡ vs = drop_at (reverse words) vs (width i) m in
    let Ga = record G { assigning = assigning_after i G } in
    record {
      it =
          ap (λ t. cond t (asked u.memory (import_at (import_number i)) ks s K L F c G) (enter u.deepest (slice_get u.callees (import_number i - import_count)) ks s K L F c G)) (import_low i)
          ∙ (ap (λ o. asked u.memory o ks s K L F c G) (import_found i)
          ∙ (ap₂ (λ given under. guarded (all_live L F G.globals given) (with_answer (call u.memory i given G.host) ks under K L F c Ga)) front rest
          ∙ (ap (λ t. guarded t (with_answer (call u.memory i words G.host) ks vs K L F c Ga)) live
          ∙ ap (λ o. with_answer o ks vs K L F c Ga) e)));
    }
