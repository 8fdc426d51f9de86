-- What becomes of the state of a world in memory when a part of it changes.
use Rattle.std.proofs.Common.{◌≡◌, ℕ, ◌==◌, List, [], ◌∷◌, ◌++◌, ◌||◌, take, Some, Result, Ok, Err, cond, Bool, true, false, refl, sym, ap, true≢false, ◌∙◌}
use Rattle.std.proofs.lemmas.List.{append_assoc}
use Rattle.std.specs.Cmp.Lexicographic.{pointwise}
use Rattle.std.proofs.Math.Path.{fun_ext}
use Rattle.world_core.specs.declared.world.WorldFault.{WorldFault}
use Rattle.world_core.specs.declared.world.WorldFault.TheVariants.{Failed, NoMemory}
use Rattle.world_core.specs.WorldState.{Target, Standard, Named, same_target, Entry, bytes_of, Outside, replaced, Source, Action, Put, acted, target_of, step, after, puts}
use Rattle.world_core.specs.About.{is_about}
use Rattle.world_core.specs.Calls.{Writes}
use Rattle.world_core.specs.Memory.{entry_of, entry_at, outside_of, memory_state, writers_of, put_entry, Takes, KeepsOtherNames, KeepsNames}
use Rattle.world_core.specs.declared.file.MemFile.{MemFile}
use Rattle.world_core.specs.declared.names.NamedFile.{NamedFile}
use Rattle.world_core.specs.declared.streams.MemStream.{MemStream}
use Rattle.world_core.proofs.NameLemmas.{same_name, name_itself}

pub target_itself : (t : Target) → same_target t t ≡ true
target_itself Standard = refl
target_itself (Named name) = name_itself name

same_is : (t u : Target) → same_target t u ≡ true → t ≡ u
same_is Standard Standard e = refl
same_is (Named a) (Named b) e = ap (λ (name : List ℕ). Named name) (same_name a b e)
same_is Standard (Named b) e = cc
same_is (Named a) Standard e = cc

-- to put back what is there changes nothing
replaced-itself : (t : Target) (outside : Outside) → replaced t (outside t) outside ≡ outside
replaced-itself t outside = fun_ext (λ u. by u (same_target t u) refl)
  where
    by : (u : Target) (b : Bool) → same_target t u ≡ b → cond (same_target t u) (outside t) (outside u) ≡ outside u
    by u true e = rw e (ap outside (same_is t u e))
    by u false e = rw e refl

-- the later of two changes stays
replaced-twice : (t : Target) (e f : Entry) (outside : Outside) → replaced t f (replaced t e outside) ≡ replaced t f outside
replaced-twice t e f outside = fun_ext (λ u. by u (same_target t u))
  where
    by : (u : Target) (b : Bool) → cond b f (cond b e (outside u)) ≡ cond b f (outside u)
    by u true = refl
    by u false = refl

replaced-there : (t : Target) (e : Entry) (outside : Outside) → replaced t e outside t ≡ e
replaced-there t e outside = ap (λ b. cond b e (outside t)) (target_itself t)

-- one byte and then more
put_entry-more : (t : Target) (x : ℕ) (xs : List ℕ) (e : Entry) → put_entry xs (acted (Put t x) e) ≡ put_entry (x ∷ xs) e
put_entry-more t x [] e = refl
put_entry-more t x (y ∷ ys) e = λ i. record { bytes = Some (append_assoc (bytes_of e.bytes) (x ∷ []) (y ∷ ys) i); ending = e.ending; room = e.room; opens = e.opens }

pub after-puts : (t : Target) (xs : List ℕ) (outside : Outside) → after (puts t xs) outside ≡ replaced t (put_entry xs (outside t)) outside
after-puts t [] outside = sym (replaced-itself t outside)
after-puts t (x ∷ xs) outside =
    after-puts t xs (step (Put t x) outside)
    ∙ ap (λ (e : Entry). replaced t (put_entry xs e) (step (Put t x) outside)) (replaced-there t (acted (Put t x) (outside t)) outside)
    ∙ replaced-twice t (acted (Put t x) (outside t)) (put_entry xs (acted (Put t x) (outside t))) outside
    ∙ ap (λ (e : Entry). replaced t e outside) (put_entry-more t x xs (outside t))

pub outside-named : (output : MemFile) (old new : List NamedFile) (name : List ℕ) (e : Entry) → ((other : List ℕ) → entry_at new other ≡ cond (pointwise ◌==◌ name other) e (entry_at old other)) →
    outside_of output new ≡ replaced (Named name) e (outside_of output old)
outside-named output old new name e each = fun_ext at
  where
    at : (t : Target) → outside_of output new t ≡ replaced (Named name) e (outside_of output old) t
    at Standard = refl
    at (Named other) = each other

pub outside-same : (output : MemFile) (old new : List NamedFile) → KeepsNames old new → outside_of output new ≡ outside_of output old
outside-same output old new kept = fun_ext at
  where
    at : (t : Target) → outside_of output new t ≡ outside_of output old t
    at Standard = refl
    at (Named name) = kept name

-- one name holds something else, and the others what they held
pub outside-one : (output : MemFile) (old new : List NamedFile) (name : List ℕ) → KeepsOtherNames name old new → outside_of output new ≡ replaced (Named name) (entry_at new name) (outside_of output old)
outside-one output old new name kept = outside-named output old new name (entry_at new name) (λ other. by other (pointwise ◌==◌ name other) refl)
  where
    by : (other : List ℕ) (b : Bool) → pointwise ◌==◌ name other ≡ b → entry_at new other ≡ cond (pointwise ◌==◌ name other) (entry_at new name) (entry_at old other)
    by other true e = rw e (ap (entry_at new) (sym (same_name name other e)))
    by other false e = rw e (kept other e)

pub outside-output : (old new : MemFile) (files : List NamedFile) → outside_of new files ≡ replaced Standard (entry_of new) (outside_of old files)
outside-output old new files = fun_ext at
  where
    at : (t : Target) → outside_of new files t ≡ replaced Standard (entry_of new) (outside_of old files) t
    at Standard = refl
    at (Named name) = refl

-- the target of a writer takes a part of a text
pub writes : (id : ℕ) (text : List ℕ) (result : Result ℕ WorldFault) (input : Source) (old new : Outside) (streams : List MemStream) (e : Entry) →
    Takes result text (old (writers_of streams id)) e → new ≡ replaced (writers_of streams id) e old →
    Writes id text (memory_state input old streams) result (memory_state input new streams)
writes id text (Ok n) input old new streams e takes is = record {
  fits = takes.fits;
  does = record {
    outside = is ∙ ap (λ (f : Entry). replaced (writers_of streams id) f old) takes.entry ∙ sym (after-puts (writers_of streams id) (take n text) old);
    readers = refl;
    writers = refl;
  };
}
writes id text (Err Failed) input old new streams e takes is = record {
  asked = takes.asked;
  full = takes.full;
  unchanged = ap (λ (o : Outside). memory_state input o streams) (is ∙ ap (λ (f : Entry). replaced (writers_of streams id) f old) takes.unchanged ∙ replaced-itself (writers_of streams id) old);
}
writes id text (Err NoMemory) input old new streams e takes is =
    ap (λ (o : Outside). memory_state input o streams) (is ∙ ap (λ (f : Entry). replaced (writers_of streams id) f old) takes ∙ replaced-itself (writers_of streams id) old)

pub after-append : (first second : List Action) (outside : Outside) → after (first ++ second) outside ≡ after second (after first outside)
after-append [] second outside = refl
after-append (a ∷ rest) second outside = after-append rest second (step a outside)

pub after-others : (output : List Action) (outside : Outside) (target : Target) → is_about target output ≡ false → after output outside target ≡ outside target
after-others [] outside target e = refl
after-others (a ∷ rest) outside target e = by (same_target (target_of a) target) refl (after-others rest (step a outside) target)
  where
    by : (b : Bool) → same_target (target_of a) target ≡ b → (is_about target rest ≡ false → after rest (step a outside) target ≡ step a outside target) → after rest (step a outside) target ≡ outside target
    by true is later = absurd (true≢false (sym (ap (λ c. c || is_about target rest) is) ∙ e))
    by false is later = later (sym (ap (λ c. c || is_about target rest) is) ∙ e) ∙ ap (λ c. cond c (acted a (outside (target_of a))) (outside target)) is
