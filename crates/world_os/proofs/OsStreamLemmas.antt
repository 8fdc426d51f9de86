-- One stream of a world over real files changes, or is added.
use Rattle.std.proofs.Common.{◌≡◌, ◌≢◌, ℕ, zero, suc, ◌+◌, ◌-◌, ◌<◌, List, [], ◌∷◌, ◌++◌, length, set, get_or, refl, sym, ◌∙◌, ap, subst, arith, inl, inr, cond, get_or-set_other, get_or-set_same, length-append, eq-eqb}
use Rattle.std.proofs.lemmas.List.{get_or_append_left, get_or_past, get_or_push}
use Rattle.std.proofs.lemmas.Bool.{cases_eq, cases_lt, ne_eqb}
use Rattle.std.proofs.Math.Path.{fun_ext}
use Rattle.world_core.specs.Calls.{Kind, Closed as NotOpen, Reading, Writing, Opens, set_kind}
use Rattle.world_os.specs.OsStreams.{os_kind, os_kinds}
use Rattle.world_os.specs.declared.world.OsStream.{OsStream}
use Rattle.world_os.specs.declared.world.OsStream.TheVariants.{Closed}

-- a stream that is open stands in the list
pub below : {F : Type 0} (streams : List (OsStream F)) (i : ℕ) (kind : Kind) → (NotOpen ≡ kind → ⊥) → os_kind (get_or streams i Closed) ≡ kind → i < length streams
below [] i kind apart e = absurd (apart e)
below (s ∷ rest) zero kind apart e = omega arith
below (s ∷ rest) (suc i) kind apart e = omega (arith, below rest i kind apart e)

kept_at : {F : Type 0} (streams : List (OsStream F)) (i : ℕ) (s : OsStream F) (kind : Kind) → (NotOpen ≡ kind → ⊥) → os_kind (get_or streams i Closed) ≡ kind → os_kind s ≡ kind → (k : ℕ) →
    os_kinds (set streams i s) k ≡ os_kinds streams k
kept_at streams i s kind apart e same zero = refl
kept_at streams i s kind apart e same (suc zero) = refl
kept_at streams i s kind apart e same (suc (suc j)) = elim (cases_eq j i) [
  | inl here ↦ ap (λ n. os_kind (get_or (set streams i s) n Closed)) here ∙ ap os_kind (get_or-set_same streams i s Closed (below streams i kind apart e)) ∙ same ∙ sym e ∙ ap (λ n. os_kind (get_or streams n Closed)) (sym here)
  | inr other ↦ ap os_kind (get_or-set_other streams i j s Closed other)
]

-- a stream moves on in its place
pub kept : {F : Type 0} (streams : List (OsStream F)) (id : ℕ) (s : OsStream F) (kind : Kind) → (NotOpen ≡ kind → ⊥) → 1 < id → os_kinds streams id ≡ kind → os_kind s ≡ kind →
    os_kinds (set streams (id - 2) s) ≡ os_kinds streams
kept streams zero s kind apart h e same = absurd (omega arith)
kept streams (suc zero) s kind apart h e same = absurd (omega arith)
kept streams (suc (suc i)) s kind apart h e same =
    let j : i ≡ suc (suc i) - 2 = omega arith in
    subst (λ (n : ℕ). os_kinds (set streams n s) ≡ os_kinds streams) j (fun_ext (kept_at streams i s kind apart e same))

pub reader_above : {F : Type 0} (streams : List (OsStream F)) (id : ℕ) → id ≢ 0 → os_kinds streams id ≡ Reading → 1 < id
reader_above streams zero other e = absurd (other refl)
reader_above streams (suc zero) other e = cc
reader_above streams (suc (suc i)) other e = omega arith

pub writer_above : {F : Type 0} (streams : List (OsStream F)) (id : ℕ) → id ≢ 1 → os_kinds streams id ≡ Writing → 1 < id
writer_above streams zero other e = cc
writer_above streams (suc zero) other e = absurd (other refl)
writer_above streams (suc (suc i)) other e = omega arith

pub not_reading : NotOpen ≡ Reading → ⊥
not_reading e = cc

pub not_writing : NotOpen ≡ Writing → ⊥
not_writing e = cc

slot_other : {F : Type 0} (streams : List (OsStream F)) (s : OsStream F) (k : ℕ) → k ≢ length streams → get_or (streams ++ s ∷ []) k Closed ≡ get_or streams k Closed
slot_other streams s k other = elim (cases_lt k (length streams)) [
  | inl low ↦ get_or_append_left streams (s ∷ []) Closed k low
  | inr high ↦ get_or_past (streams ++ s ∷ []) k Closed (omega (arith, length-append streams (s ∷ []), high, λ (same : k ≡ length streams). other same)) ∙ sym (get_or_past streams k Closed high)
]

added_at : {F : Type 0} (streams : List (OsStream F)) (s : OsStream F) (k : ℕ) → os_kinds (streams ++ s ∷ []) k ≡ set_kind (suc (suc (length streams))) (os_kind s) (os_kinds streams) k
added_at streams s zero = sym (ap (λ b. cond b (os_kind s) Reading) (ne_eqb 0 (suc (suc (length streams))) (λ e. absurd (omega arith))))
added_at streams s (suc zero) = sym (ap (λ b. cond b (os_kind s) Writing) (ne_eqb 1 (suc (suc (length streams))) (λ e. absurd (omega arith))))
added_at streams s (suc (suc j)) = elim (cases_eq j (length streams)) [
  | inl here ↦ ap (λ n. os_kind (get_or (streams ++ s ∷ []) n Closed)) here ∙ ap os_kind (get_or_push streams s Closed (length streams) refl)
      ∙ sym (ap (λ b. cond b (os_kind s) (os_kind (get_or streams j Closed))) (eq-eqb (suc (suc j)) (suc (suc (length streams))) (ap (λ n. suc (suc n)) here)))
  | inr other ↦ ap os_kind (slot_other streams s j other)
      ∙ sym (ap (λ b. cond b (os_kind s) (os_kind (get_or streams j Closed))) (ne_eqb (suc (suc j)) (suc (suc (length streams))) (λ e. other (omega arith))))
]

-- a stream is added behind the others
pub added : {F : Type 0} (streams : List (OsStream F)) (s : OsStream F) (id : ℕ) → id ≡ length streams + 2 → Opens (os_kind s) id (os_kinds streams) (os_kinds (streams ++ s ∷ []))
added streams s id e =
    let n : suc (suc (length streams)) ≡ id = omega arith in
    subst (λ (k : ℕ). Opens (os_kind s) k (os_kinds streams) (os_kinds (streams ++ s ∷ []))) n
    record { was_closed = ap os_kind (get_or_past streams (length streams) Closed (omega arith)); opened = fun_ext (added_at streams s) }
