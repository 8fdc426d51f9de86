-- Code that grows by an instruction, and the bytes of a script's texts.
use Rattle.std.proofs.Common.{◌≡◌, ℕ, List, [], ◌∷◌, ◌++◌, map, refl, sym, ap, ◌∙◌, append_assoc}
use Rattle.std.specs.Global.{Vec}
use Rattle.wasm_types.specs.declared.instr.Instr.{Instr}
use Rattle.wasm_types.specs.Syntax.{Instructions, Done, Then}
use Rattle.wasm_types.specs.View.{view, views}
use Rattle.wasm_types.proofs.Views.{followed_by}
use Rattle.mid_program.specs.View.{view_declared, view_routine, view_texts}
use Rattle.mid_program.specs.Mid as plain
use Rattle.mid_program.specs.declared.program.Declared.{Declared}
use Rattle.mid_program.specs.declared.program.Routine.{Routine}
use Rattle.lower_model.specs.Places.{memory_of}

pub followed_more : (is : List Instr) (i : Instr) (k : Instructions) → followed_by (views (is ++ i ∷ [])) k ≡ followed_by (views is) (Then (view i) k)
followed_more [] i k = refl
followed_more (j ∷ js) i k = ap (Then (view j)) (followed_more js i k)

pub followed_end : (is : List Instr) → followed_by (views is) Done ≡ views is
followed_end [] = refl
followed_end (i ∷ is) = ap (Then (view i)) (followed_end is)

memory_append : (ss ts : List (List ℕ)) → memory_of (ss ++ ts) ≡ memory_of ss ++ memory_of ts
memory_append [] ts = refl
memory_append (s ∷ ss) ts = ap (λ (r : List ℕ). s ++ r) (memory_append ss ts) ∙ sym (append_assoc s (memory_of ss) (memory_of ts))

abbrev pub declared_names : List Declared → List (List ℕ)
declared_names ds = map (λ (d : Declared). d.name.items) ds

abbrev pub routine_names : List Routine → List (List ℕ)
routine_names rs = map (λ (r : Routine). r.name.items) rs

declared_seen : (ds : List Declared) → map (λ (d : plain.Declared). d.name) (map view_declared ds) ≡ declared_names ds
declared_seen [] = refl
declared_seen (d ∷ ds) = ap (λ (ns : List (List ℕ)). d.name.items ∷ ns) (declared_seen ds)

routines_seen : (rs : List Routine) → map (λ (r : plain.Routine). r.name) (map view_routine rs) ≡ routine_names rs
routines_seen [] = refl
routines_seen (r ∷ rs) = ap (λ (ns : List (List ℕ)). r.name.items ∷ ns) (routines_seen rs)

-- texts, then the names of globals, then those of functions
pub memory_whole : (texts : List (Vec ℕ)) (ds : List Declared) (rs : List Routine)
    → (memory_of (view_texts texts) ++ memory_of (declared_names ds)) ++ memory_of (routine_names rs)
    ≡ memory_of (view_texts texts ++ (map (λ (d : plain.Declared). d.name) (map view_declared ds) ++ map (λ (r : plain.Routine). r.name) (map view_routine rs)))
memory_whole texts ds rs =
    let a = view_texts texts in
    append_assoc (memory_of a) (memory_of (declared_names ds)) (memory_of (routine_names rs))
    ∙ ap (λ (r : List ℕ). memory_of a ++ r) (sym (memory_append (declared_names ds) (routine_names rs)))
    ∙ sym (memory_append a (declared_names ds ++ routine_names rs))
    ∙ ap (λ (ns : List (List ℕ)). memory_of (a ++ (ns ++ routine_names rs))) (sym (declared_seen ds))
    ∙ ap (λ (ns : List (List ℕ)). memory_of (a ++ (map (λ (d : plain.Declared). d.name) (map view_declared ds) ++ ns))) (sym (routines_seen rs))
