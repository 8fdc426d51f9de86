-- What the list of named files answers, and what a write of one of them does to it.
use Rattle.std.proofs.Common.{◌≡◌, ℕ, zero, suc, ◌+◌, ◌==◌, List, [], ◌∷◌, ◌++◌, length, set, get_or, Option, Some, None, cond, Bool, true, false, refl, sym, ap, ◌∙◌, arith, true≢false}
use Rattle.std.specs.List.{position_from}
use Rattle.std.proofs.lemmas.Iterator.Adapters.{position_from-zero}
use Rattle.std.specs.Option.{option_map, unwrap_or}
use Rattle.std.specs.Cmp.Lexicographic.{pointwise}
use Rattle.std.proofs.lemmas.Cmp.{nat_list_eq_equiv}
use Rattle.std.proofs.lemmas.Option.{none-some}
use Rattle.std.proofs.lemmas.Slice.Eq.{bytes_eq-Decides}
use Rattle.world_core.specs.WorldState.{absent}
use Rattle.world_core.specs.Memory.{entry_of, is_named, entry_at, place, KeepsNames}
use Rattle.world_core.specs.declared.file.MemFile.{MemFile}
use Rattle.world_core.specs.declared.names.NamedFile.{NamedFile}

pub same_name : (a b : List ℕ) → pointwise ◌==◌ a b ≡ true → a ≡ b
same_name a b e = (bytes_eq-Decides a b).0 e

pub name_itself : (a : List ℕ) → pointwise ◌==◌ a a ≡ true
name_itself a = nat_list_eq_equiv.refl a

-- a place, file by file
abbrev found : List NamedFile → List ℕ → Option ℕ
found [] name = None
found (f ∷ fs) name = cond (is_named name f) (Some 0) (option_map suc (found fs name))

found_from : (files : List NamedFile) (name : List ℕ) (n : ℕ) → position_from (is_named name) n files ≡ option_map (λ k. n + k) (found files name)
found_from [] name n = refl
found_from (f ∷ fs) name n = by (found_from fs name (n + 1)) (is_named name f)
  where
    shifted : (o : Option ℕ) → option_map (λ k. n + 1 + k) o ≡ option_map (λ k. n + k) (option_map suc o)
    shifted None = refl
    shifted (Some k) = ap (λ m. Some m) (let same : n + 1 + k ≡ n + suc k = omega arith in same)

    here : Some n ≡ option_map (λ k. n + k) (Some 0)
    here = ap (λ m. Some m) (let same : n ≡ n + 0 = omega arith in same)

    by : position_from (is_named name) (n + 1) fs ≡ option_map (λ k. n + 1 + k) (found fs name) → (b : Bool) → cond b (Some n) (position_from (is_named name) (n + 1) fs) ≡ option_map (λ k. n + k) (cond b (Some 0) (option_map suc (found fs name)))
    by rest true = here
    by rest false = rest ∙ shifted (found fs name)

found_is : (files : List NamedFile) (name : List ℕ) → place files name ≡ found files name
found_is files name = position_from-zero (is_named name) files ∙ found_from files name 0 ∙ plain (found files name)
  where
    plain : (o : Option ℕ) → option_map (λ k. 0 + k) o ≡ o
    plain None = refl
    plain (Some k) = ap (λ m. Some m) (let same : 0 + k ≡ k = omega arith in same)

before : (o : Option ℕ) (at : ℕ) → option_map suc o ≡ Some (suc at) → o ≡ Some at
before None at e = absurd (none-some (suc at) e)
before (Some k) at e = ap (λ n. Some n) (let same : suc k ≡ suc at = ap (λ (p : Option ℕ). unwrap_or p 0) e in omega (arith, same))

not_first : (o : Option ℕ) → option_map suc o ≡ Some zero → ⊥
not_first None e = none-some zero e
not_first (Some k) e = let same : suc k ≡ zero = ap (λ (p : Option ℕ). unwrap_or p 0) e in omega (arith, same)

zero-suc : (at : ℕ) → Some zero ≡ Some (suc at) → ⊥
zero-suc at e = let same : zero ≡ suc at = ap (λ (p : Option ℕ). unwrap_or p 0) e in omega (arith, same)

-- the first file of a name
record First (name : List ℕ) (at : ℕ) (files : List NamedFile) : Type 0 where
  named : (d : NamedFile) → (get_or files at d).name ≡ name
  entry : (d : NamedFile) → entry_at files name ≡ entry_of (get_or files at d).file

first : (files : List NamedFile) (name : List ℕ) (at : ℕ) → found files name ≡ Some at → First name at files
first [] name at e = absurd (none-some at e)
first (f ∷ fs) name at e = by (first fs name) (is_named name f) refl at e
  where
    by : ((k : ℕ) → found fs name ≡ Some k → First name k fs) → (b : Bool) → is_named name f ≡ b → (at : ℕ) → found (f ∷ fs) name ≡ Some at → First name at (f ∷ fs)
    by later true is zero e = record { named = λ d. same_name f.name name is; entry = λ d. ap (λ b. cond b (entry_of f.file) (entry_at fs name)) is }
    by later true is (suc at) e = absurd (zero-suc at (sym (ap (λ b. cond b (Some 0) (option_map suc (found fs name))) is) ∙ e))
    by later false is zero e = absurd (not_first (found fs name) (sym (ap (λ b. cond b (Some 0) (option_map suc (found fs name))) is) ∙ e))
    by later false is (suc at) e =
        let rest : First name at fs = later at (before (found fs name) at (sym (ap (λ b. cond b (Some 0) (option_map suc (found fs name))) is) ∙ e)) in
        record { named = rest.named; entry = λ d. ap (λ b. cond b (entry_of f.file) (entry_at fs name)) is ∙ rest.entry d }

pub entry_at-place : (files : List NamedFile) (name : List ℕ) (at : ℕ) (d : NamedFile) → place files name ≡ Some at → entry_at files name ≡ entry_of (get_or files at d).file
entry_at-place files name at d e = (first files name at (sym (found_is files name) ∙ e)).entry d

missing : (files : List NamedFile) (name : List ℕ) → found files name ≡ None → entry_at files name ≡ absent
missing [] name e = refl
missing (f ∷ fs) name e = by (missing fs name) (is_named name f) refl
  where
    none : (o : Option ℕ) → option_map suc o ≡ None → o ≡ None
    none None e = refl
    none (Some k) e = absurd (none-some (suc k) (sym e))

    by : (found fs name ≡ None → entry_at fs name ≡ absent) → (b : Bool) → is_named name f ≡ b → entry_at (f ∷ fs) name ≡ absent
    by later true is = absurd (none-some 0 (sym e ∙ ap (λ b. cond b (Some 0) (option_map suc (found fs name))) is))
    by later false is =
        ap (λ b. cond b (entry_of f.file) (entry_at fs name)) is
        ∙ later (none (found fs name) (sym (ap (λ b. cond b (Some 0) (option_map suc (found fs name))) is) ∙ e))

-- a name that is not there is absent
pub entry_at-none : (files : List NamedFile) (name : List ℕ) → place files name ≡ None → entry_at files name ≡ absent
entry_at-none files name e = missing files name (sym (found_is files name) ∙ e)

-- an absent file put behind the others
pub entry_at-push : (files : List NamedFile) (f : NamedFile) → entry_of f.file ≡ absent → KeepsNames files (files ++ f ∷ [])
entry_at-push [] f e name = by (is_named name f)
  where
    by : (b : Bool) → cond b (entry_of f.file) absent ≡ absent
    by true = e
    by false = refl
entry_at-push (g ∷ fs) f e name = ap (cond (is_named name g) (entry_of g.file)) (entry_at-push fs f e name)

found-push : (files : List NamedFile) (f : NamedFile) → found files f.name ≡ None → found (files ++ f ∷ []) f.name ≡ Some (length files)
found-push [] f e = ap (λ b. cond b (Some 0) None) (name_itself f.name)
found-push (g ∷ fs) f e = by (found-push fs f) (is_named f.name g) refl
  where
    none : (o : Option ℕ) → option_map suc o ≡ None → o ≡ None
    none None e = refl
    none (Some k) e = absurd (none-some (suc k) (sym e))

    by : (found fs f.name ≡ None → found (fs ++ f ∷ []) f.name ≡ Some (length fs)) → (b : Bool) → is_named f.name g ≡ b → found (g ∷ fs ++ f ∷ []) f.name ≡ Some (length (g ∷ fs))
    by later true is = absurd (none-some 0 (sym e ∙ ap (λ b. cond b (Some 0) (option_map suc (found fs f.name))) is))
    by later false is =
        ap (λ b. cond b (Some 0) (option_map suc (found (fs ++ f ∷ []) f.name))) is
        ∙ ap (option_map suc) (later (none (found fs f.name) (sym (ap (λ b. cond b (Some 0) (option_map suc (found fs f.name))) is) ∙ e)))

pub place-push : (files : List NamedFile) (f : NamedFile) → place files f.name ≡ None → place (files ++ f ∷ []) f.name ≡ Some (length files)
place-push files f e = found_is (files ++ f ∷ []) f.name ∙ found-push files f (sym (found_is files f.name) ∙ e)

-- the first file of a name is replaced
write_at : (files : List NamedFile) (name : List ℕ) (at : ℕ) (g : NamedFile) (file : MemFile) (other : List ℕ) → found files name ≡ Some at → g.name ≡ name →
    entry_at (set files at (record { name = g.name; file = file })) other ≡ cond (pointwise ◌==◌ name other) (entry_of file) (entry_at files other)
write_at [] name at g file other e n = absurd (none-some at e)
write_at (f ∷ fs) name at g file other e n = by (λ k there. write_at fs name k g file other there n) (is_named name f) refl at e (pointwise ◌==◌ name other) refl
  where
    by : ((k : ℕ) → found fs name ≡ Some k → entry_at (set fs k (record { name = g.name; file = file })) other ≡ cond (pointwise ◌==◌ name other) (entry_of file) (entry_at fs other)) →
        (b : Bool) → is_named name f ≡ b → (at : ℕ) → found (f ∷ fs) name ≡ Some at → (c : Bool) → pointwise ◌==◌ name other ≡ c →
        entry_at (set (f ∷ fs) at (record { name = g.name; file = file })) other ≡ cond (pointwise ◌==◌ name other) (entry_of file) (entry_at (f ∷ fs) other)
    by later true is zero e true c = ap (λ (m : List ℕ). cond (pointwise ◌==◌ m other) (entry_of file) (entry_at fs other)) n ∙ rw c refl
    by later true is zero e false c =
        let differs : pointwise ◌==◌ f.name other ≡ false = ap (λ (m : List ℕ). pointwise ◌==◌ m other) (same_name f.name name is) ∙ c in
        ap (λ (m : List ℕ). cond (pointwise ◌==◌ m other) (entry_of file) (entry_at fs other)) n ∙ rw (c, differs) refl
    by later true is (suc at) e c d = absurd (zero-suc at (sym (ap (λ b. cond b (Some 0) (option_map suc (found fs name))) is) ∙ e))
    by later false is zero e c d = absurd (not_first (found fs name) (sym (ap (λ b. cond b (Some 0) (option_map suc (found fs name))) is) ∙ e))
    by later false is (suc at) e c d =
        ap (cond (is_named other f) (entry_of f.file)) (later at (before (found fs name) at (sym (ap (λ b. cond b (Some 0) (option_map suc (found fs name))) is) ∙ e)))
        ∙ swapped c d (is_named other f) refl
      where
        swapped : (c : Bool) → pointwise ◌==◌ name other ≡ c → (h : Bool) → is_named other f ≡ h →
            cond (is_named other f) (entry_of f.file) (cond (pointwise ◌==◌ name other) (entry_of file) (entry_at fs other)) ≡ cond (pointwise ◌==◌ name other) (entry_of file) (cond (is_named other f) (entry_of f.file) (entry_at fs other))
        swapped true d true h = absurd (true≢false (sym (ap (λ (m : List ℕ). pointwise ◌==◌ m name) (same_name f.name other h ∙ sym (same_name name other d)) ∙ name_itself name) ∙ is))
        swapped true d false h = rw (d, h) refl
        swapped false d h is = rw d refl

-- the goals show an element as one that equals the list's own
pub entry_at-write : (files : List NamedFile) (name : List ℕ) (at : ℕ) (g : NamedFile) (file : MemFile) → place files name ≡ Some at → g ≡ get_or files at g → (other : List ℕ) →
    entry_at (set files at (record { name = g.name; file = file })) other ≡ cond (pointwise ◌==◌ name other) (entry_of file) (entry_at files other)
entry_at-write files name at g file e is other =
    let there : found files name ≡ Some at = sym (found_is files name) ∙ e in
    write_at files name at g file other there (ap (λ (f : NamedFile). f.name) is ∙ (first files name at there).named g)
