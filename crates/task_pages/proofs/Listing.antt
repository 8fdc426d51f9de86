-- The list of imports: one more, the first that is missing, and what it says of a machine's numbers.
use Rattle.std.proofs.Common.{◌≡◌, ◌∙◌, ◌+◌, ◌<◌, ◌≤◌, ℕ, zero, suc, List, [], ◌∷◌, ◌++◌, length, take, get_or, map, Option, Some, None, Bool, true, false, refl, sym, ap, subst}
use Rattle.std.specs.Prelude.{slice_get, ◌↔◌, IsTrue}
use Rattle.std.proofs.lemmas.List.{map-append, take_all, take_more}
use Rattle.wasm_types.specs.Syntax.{ImportForm, ModuleForm, Signature}
use Rattle.wasm_types.specs.Typing.{typed_in}
use Rattle.wasm_model.specs.Links.{first_none, number_for}
use Rattle.wasm_model.specs.Machines.{Asks, Ends, Goes, Turn, agree}
use Rattle.wasm_model.proofs.Linking.{missing_at, number_is}
use Rattle.wasm_model.proofs.Types.{agree_is}
use Rattle.host_step.specs.HostLaws.{host_found}
use Rattle.host_imports.specs.Imports.{host_finds, import_at, type_if_there}
use Rattle.host_imports.specs.declared.import.Import.{Import}
use Rattle.task_pages.specs.Calls.{AreImportsOf, AsksAmong, IsAmong, IsImportOf}
use Rattle.task_pages.proofs.Turns.{AsksOneOf}

-- one more
pub one_more : (found : List Import) (numbers : List (Option ℕ)) (i : Import) (number : Option ℕ) → AreImportsOf found numbers → IsImportOf (Some i) number
    → AreImportsOf (found ++ i ∷ []) (numbers ++ number ∷ [])
one_more [] [] i number h one = (one, tt)
one_more [] (n ∷ numbers) i number h one = absurd h
one_more (j ∷ found) [] i number h one = absurd h
one_more (j ∷ found) (n ∷ numbers) i number h one = (h.0, one_more found numbers i number h.1 one)

-- all numbers are there
pub numbers_there : (found : List Import) (numbers : List (Option ℕ)) → AreImportsOf found numbers → (ns : List ℕ) × (numbers ≡ map Some ns)
numbers_there [] [] h = ([], refl)
numbers_there [] (n ∷ numbers) h = absurd h
numbers_there (i ∷ found) [] h = absurd h
numbers_there (i ∷ found) (n ∷ numbers) h =
    let rest = numbers_there found numbers h.1 in
    (h.0.0 ∷ rest.0, ap (λ (o : Option ℕ). o ∷ numbers) h.0.1 ∙ ap (λ (os : List (Option ℕ)). Some h.0.0 ∷ os) rest.1)

pub first_missing : {A : Type 0} (g : A → Option ℕ) (xs : List A) (i : ℕ) (found : List Import) (x : A) → i < length xs → x ≡ get_or xs i x
    → AreImportsOf found (map g (take i xs)) → g x ≡ None → first_none (map g xs) ≡ Some i
first_missing g xs i found x below is h none = let ns = numbers_there found (map g (take i xs)) h in missing_at g xs i ns.0 x below is ns.1 none

-- a number that is found has an import
there : (o : Option Import) (s : Signature) → type_if_there o ≡ Some s → (i : Import) × (o ≡ Some i)
there None s e = cc
there (Some i) s e = (i, refl)

-- the import of a number that is found, where its type is the one that is wanted
pub found_import : (m : ModuleForm) (x : ImportForm) (r : ℕ × Signature) (o : Option Import) → Some r ≡ host_finds x.from x.name
    → true ≡ agree (Some r.1) (typed_in m x.ty) → o ≡ import_at r.0 → IsImportOf o (number_for host_finds m x)
found_import m x r o found same is =
    let i = there (import_at r.0) r.1 (host_found x.from x.name r (sym found)) in
    subst (λ (p : Option Import). IsImportOf p (number_for host_finds m x)) (sym (is ∙ i.1)) (r.0, number_is host_finds m x r true found same, i.1)

-- A number of a machine's program is that of an import of the list.
pub among : (found : List Import) (ns : List ℕ) (n at : ℕ) → AreImportsOf found (map Some ns) → slice_get ns at ≡ Some n → IsAmong found n
among [] [] n at h e = cc
among [] (k ∷ ns) n at h e = absurd h
among (i ∷ found) [] n at h e = cc
among (i ∷ found) (k ∷ ns) n zero h e = (zero, i, refl, number_of h.0.0 h.0.1 h.0.2)
  where
    number_of : (j : ℕ) → Some k ≡ Some j → import_at j ≡ Some i → import_at n ≡ Some i
    number_of j s t = let same : n ≡ j = cc in subst (λ (z : ℕ). import_at z ≡ Some i) (sym same) t
among (i ∷ found) (k ∷ ns) n (suc at) h e = let rest = among found ns n at h.1 e in (suc rest.0, rest.1, rest.2, rest.3)

pub turn_among : (found : List Import) (ns : List ℕ) (t : Turn) → AreImportsOf found (map Some ns) → AsksOneOf ns t → AsksAmong found t
turn_among found ns (Goes c) h a = tt
turn_among found ns (Ends e) h a = tt
turn_among found ns (Asks n words c) h a = among found ns n a.0 h a.1

-- The loop that makes the list.

pub one_more_at : {A : Type 0} (g : A → Option ℕ) (xs : List A) (i : ℕ) (found more : List Import) (x : A) (it : Import) → i < length xs → x ≡ get_or xs i x
    → AreImportsOf found (map g (take i xs)) → IsImportOf (Some it) (g x) → more ≡ found ++ it ∷ [] → AreImportsOf more (map g (take (i + 1) xs))
one_more_at {A} g xs i found more x it below is h one pushed =
    subst (λ (l : List Import). AreImportsOf l (map g (take (i + 1) xs))) (sym pushed)
    (subst (λ (os : List (Option ℕ)). AreImportsOf (found ++ it ∷ []) os)
    (sym (ap (map g) (take_more xs i x below ∙ ap (λ (y : A). take i xs ++ y ∷ []) (sym is)) ∙ map-append g (take i xs) (x ∷ [])))
    (one_more found (map g (take i xs)) it (g x) h one))

pub all_taken : {A : Type 0} (g : A → Option ℕ) (xs : List A) (i : ℕ) (found : List Import) → AreImportsOf found (map g (take i xs)) → length xs ≤ i
    → AreImportsOf found (map g xs)
all_taken {A} g xs i found h past = subst (λ (l : List A). AreImportsOf found (map g l)) (take_all i xs past) h

-- Types.

agrees : (o : Option Signature) (s t : Signature) (b : Bool) → o ≡ Some t → (IsTrue b ↔ s ≡ t) → b ≡ agree (Some s) o
agrees o s t b e h = agree_is (Some s) o s t b refl e h

pub same_type : (m : ModuleForm) (n : ℕ) (s t : Signature) (b : Bool) → typed_in m n ≡ Some t → (IsTrue b ↔ s ≡ t) → b ≡ true → true ≡ agree (Some s) (typed_in m n)
same_type m n s t b e h is = sym is ∙ agrees (typed_in m n) s t b e h

pub other_type : (m : ModuleForm) (x : ImportForm) (r : ℕ × Signature) (t : Signature) (b : Bool) → Some r ≡ host_finds x.from x.name → typed_in m x.ty ≡ Some t
    → (IsTrue b ↔ r.1 ≡ t) → b ≡ false → number_for host_finds m x ≡ None
other_type m x r t b found e h is = number_is host_finds m x r false found (sym is ∙ agrees (typed_in m x.ty) r.1 t b e h)
