-- A file takes bytes: it has got them, and no other stream has.
use Rattle.std.proofs.Common.{◌≡◌, ◌≢◌, ◌∙◌, ℕ, zero, suc, ◌-◌, ◌<◌, ◌==◌, List, [], ◌∷◌, set, get_or, Bool, true, false, cond, Option, Some, None, Result, Ok, Err, IfOk, OnErr, length, inl, inr, refl, sym, ap, subst, arith, append-nil, take, get_or-set_other, get_or-set_same, eq-eqb}
use Rattle.std.proofs.lemmas.Bool.{cases_eq, ne_eqb}
use Rattle.std.proofs.lemmas.List.{get_or_default}
use Rattle.std.specs.Io.KnownBytes.{Appends, Keeps, WriteAppends}
use Rattle.world_core.specs.Calls.{Closed as NotOpen, Reading, Writing}
use Rattle.world_core.specs.Traces.{Other, writing}
use Rattle.world_os.specs.OsStreams.{Gives, Nowhere, OthersStay, Sink, ToErrors, ToFile, ToOutput, held_by, os_kind, os_kinds, same_sink, sink_at, sink_of, stream_at}
use Rattle.world_os.specs.declared.world.OsStream.{OsStream}
use Rattle.world_os.specs.declared.world.OsStream.TheVariants.{Closed, Errors, Input, Output, Reader, Writer}
use Rattle.world_os.proofs.OsStreamLemmas.{below, not_writing}

appends_none : (old new : Option (List ℕ)) → Keeps old new → Appends old new []
appends_none None new h = tt
appends_none (Some xs) None h = h
appends_none (Some xs) (Some ys) h = h ∙ sym (append-nil xs)

pub same_appends : (held : Option (List ℕ)) → Appends held held []
same_appends None = tt
same_appends (Some xs) = sym (append-nil xs)

module _ {F : Type 0} (contents : F → Option (List ℕ)) (named : Bool) (streams : List (OsStream F)) (i : ℕ) (file file' : F)
    (is : get_or streams i Closed ≡ Writer file) where
  abbrev new : List (OsStream F)
  new = set streams i (Writer file')

  here : get_or new i Closed ≡ Writer file'
  here = get_or-set_same streams i (Writer file') Closed (below streams i Writing not_writing (ap os_kind is))

  other : (j : ℕ) → j ≢ i → get_or new j Closed ≡ get_or streams j Closed
  other j apart = get_or-set_other streams i j (Writer file') Closed apart

  sinks_same : (k : ℕ) → sink_at new k ≡ sink_at streams k
  sinks_same zero = refl
  sinks_same (suc zero) = refl
  sinks_same (suc (suc j)) = elim (cases_eq j i) [
    | inl e ↦ ap (λ n. sink_of (suc (suc n)) (get_or new n Closed)) e ∙ ap (sink_of (suc (suc i))) here ∙ sym (ap (sink_of (suc (suc i))) is)
        ∙ ap (λ n. sink_of (suc (suc n)) (get_or streams n Closed)) (sym e)
    | inr apart ↦ ap (sink_of (suc (suc j))) (other j apart)
  ]

  its_sink : sink_at streams (suc (suc i)) ≡ ToFile (suc (suc i))
  its_sink = ap (sink_of (suc (suc i))) is

  -- what the file holds then, and what another holds
  file_at : (bytes : List ℕ) → Appends (contents file) (contents file') bytes → (k : ℕ)
      → Appends (held_by contents (stream_at streams k)) (held_by contents (stream_at new k)) (cond (same_sink (ToFile k) (ToFile (suc (suc i)))) bytes [])
  file_at bytes grows zero = tt
  file_at bytes grows (suc zero) = tt
  file_at bytes grows (suc (suc j)) =
      let At : ℕ → Type 0 = λ n. Appends (held_by contents (get_or streams n Closed)) (held_by contents (get_or new n Closed)) (cond (suc (suc n) == suc
      (suc i)) bytes []) in
      elim (cases_eq j i) [
        | inl e ↦ subst At (sym e)
            (subst (λ (b : Bool). Appends (held_by contents (get_or streams i Closed)) (held_by contents (get_or new i Closed)) (cond b bytes [])) (sym
            (eq-eqb (suc (suc i)) (suc (suc i)) refl))
            (subst (λ (s : OsStream F). Appends (held_by contents s) (held_by contents (get_or new i Closed)) bytes) (sym is)
            (subst (λ (s : OsStream F). Appends (contents file) (held_by contents s) bytes) (sym here) grows)))
        | inr apart ↦ subst (λ (b : Bool). Appends (held_by contents (get_or streams j Closed)) (held_by contents (get_or new j Closed)) (cond b bytes []))
            (sym (ne_eqb (suc (suc j)) (suc (suc i)) (λ e. apart (omega arith))))
            (subst (λ (s : OsStream F). Appends (held_by contents (get_or streams j Closed)) (held_by contents s) []) (sym (other j apart)) (same_appends
            (held_by contents (get_or streams j Closed))))
      ]

  none_at : Appends (contents file) (contents file') [] → (k : ℕ) → Appends (held_by contents (stream_at streams k)) (held_by contents (stream_at new k)) []
  none_at grows k = subst (λ (bytes : List ℕ). Appends (held_by contents (stream_at streams k)) (held_by contents (stream_at new k)) bytes) (no_bytes
      (same_sink (ToFile k) (ToFile (suc (suc i))))) (file_at [] grows k)
    where
      no_bytes : (b : Bool) → cond {A = List ℕ} b [] [] ≡ []
      no_bytes true = refl
      no_bytes false = refl

  gives_at : {E : Type 0} (text : List ℕ) (r : Result ℕ E) (output errors : Option (List ℕ)) → WriteAppends (contents file) (contents file') r text
      → Gives contents named (writing (suc (suc i)) text r) streams new output output errors errors
  gives_at text (Ok n) output errors h =
      record {
        to_output = subst (λ (s : Sink). Appends output output (cond (same_sink ToOutput s) (take n text) [])) (sym its_sink) (same_appends output);
        to_errors = subst (λ (s : Sink). Appends errors errors (cond (same_sink ToErrors s) (take n text) [])) (sym its_sink) (same_appends errors);
        to_files = λ k was now. subst (λ (s : Sink). Appends (held_by contents (stream_at streams k)) (held_by contents (stream_at new k)) (cond
            (same_sink (ToFile k) s) (take n text) [])) (sym its_sink) (file_at (take n text) h k);
        sinks = sinks_same;
      }
  gives_at text (Err e) output errors h = record {
    to_output = same_appends output;
    to_errors = same_appends errors;
    to_files = λ k was now. none_at (appends_none (contents file) (contents file') h) k;
    sinks = λ k. inl (sinks_same k);
  }

-- a file is written to
pub file_gives : {F E : Type 0} (contents : F
    → Option (List ℕ)) (named : Bool) (streams : List (OsStream F)) (id : ℕ) (d : OsStream F) (file file' : F) (text : List ℕ) (r : Result ℕ E)
    (output errors : Option (List ℕ)) → 1 < id
    → os_kinds streams id ≡ Writing → d ≡ get_or streams (id - 2) d → d ≡ Writer file → WriteAppends (contents file) (contents file') r text
    → Gives contents named (writing id text r) streams (set streams (id - 2) (Writer file')) output output errors errors
file_gives contents named streams zero d file file' text r output errors own kind there is h = absurd (omega (arith, own))
file_gives contents named streams (suc zero) d file file' text r output errors own kind there is h = absurd (omega (arith, own))
file_gives contents named streams (suc (suc i)) d file file' text r output errors own kind there is h =
    let j : suc (suc i) - 2 ≡ i = omega arith in
    let at : get_or streams i Closed ≡ Writer file =
    get_or_default streams i Closed d (below streams i Writing not_writing kind) ∙ sym (there ∙ ap (λ (n : ℕ). get_or streams n d) j) ∙ is in
    subst (λ (n : ℕ). Gives contents named (writing (suc (suc i)) text r) streams (set streams n (Writer file')) output output errors errors) (sym j)
    (gives_at contents named streams i file file' at text r output errors h)

-- Nothing is given where one number comes to mean no writer.

sink_as : {F : Type 0} (old new : List (OsStream F)) (k : ℕ) → stream_at new k ≡ stream_at old k → sink_at new k ≡ sink_at old k
sink_as old new zero e = refl
sink_as old new (suc zero) e = refl
sink_as old new (suc (suc j)) e = ap (sink_of (suc (suc j))) e

no_writer : {F : Type 0} (contents : F → Option (List ℕ)) (named : Bool) (old new : List (OsStream F)) (id : ℕ) (output errors : Option (List ℕ))
    → OthersStay id old new → sink_at new id ≡ Nowhere
    → Gives contents named Other old new output output errors errors
no_writer contents named old new id output errors stay none = record {
  to_output = same_appends output;
  to_errors = same_appends errors;
  to_files = λ k was now. elim (cases_eq k id) [
    | inl e ↦ cc (sym now ∙ ap (sink_at new) e ∙ none)
    | inr apart ↦ subst (λ (s : OsStream _). Appends (held_by contents (stream_at old k)) (held_by contents s) []) (sym (stay k apart)) (same_appends
        (held_by contents (stream_at old k)))
  ];
  sinks = λ k. elim (cases_eq k id) [
    | inl e ↦ inr (ap (sink_at new) e ∙ none)
    | inr apart ↦ inl (sink_as old new k (stay k apart))
  ];
}

nothing_moved : {F : Type 0} (contents : F → Option (List ℕ)) (named : Bool) (streams : List (OsStream F)) (output errors : Option (List ℕ))
    → Gives contents named Other streams streams output output errors errors
nothing_moved contents named streams output errors = record {
  to_output = same_appends output;
  to_errors = same_appends errors;
  to_files = λ k was now. same_appends (held_by contents (stream_at streams k));
  sinks = λ k. inl refl;
}

reads_nowhere : {F : Type 0} (id : ℕ) (s : OsStream F) → os_kind s ≡ Reading → sink_of id s ≡ Nowhere
reads_nowhere id Closed e = refl
reads_nowhere id (Reader file) e = refl
reads_nowhere id (Writer file) e = cc
reads_nowhere id Input e = refl
reads_nowhere id Output e = cc
reads_nowhere id Errors e = cc

reader_nowhere : {F : Type 0} (streams : List (OsStream F)) (id : ℕ) (s : OsStream F) → stream_at streams id ≡ s → os_kind s ≡ Reading
    → sink_at streams id ≡ Nowhere
reader_nowhere streams zero s is e = refl
reader_nowhere streams (suc zero) s is e = cc (ap os_kind is ∙ e)
reader_nowhere streams (suc (suc i)) s is e = ap (sink_of (suc (suc i))) is ∙ reads_nowhere (suc (suc i)) s e

-- a stream is opened for reading, or none is
pub reader_gives : {F E : Type 0} (contents : F
    → Option (List ℕ)) (named : Bool) (old new : List (OsStream F)) (s : OsStream F) (r : Result ℕ E) (output errors : Option (List ℕ)) → os_kind s ≡ Reading
    → IfOk r (λ id. stream_at new id ≡ s) → IfOk r (λ id. OthersStay id old new) → OnErr r (new ≡ old)
    → Gives contents named Other old new output output errors errors
reader_gives contents named old new s (Ok id) output errors kind is stay err = no_writer contents named old new id output errors stay
    (reader_nowhere new id s is kind)
reader_gives contents named old new s (Err e) output errors kind is stay err =
    subst (λ (xs : List (OsStream _)). Gives contents named Other old xs output output errors errors) (sym err) (nothing_moved contents named old output errors)

-- a stream that is open is closed
pub close_gives : {F : Type 0} (contents : F → Option (List ℕ)) (named : Bool) (streams : List (OsStream F)) (id : ℕ) (output errors : Option (List ℕ))
    → 1 < id → os_kinds streams id ≢ NotOpen
    → Gives contents named Other streams (set streams (id - 2) Closed) output output errors errors
close_gives contents named streams zero output errors own is_open = absurd (omega (arith, own))
close_gives contents named streams (suc zero) output errors own is_open = absurd (omega (arith, own))
close_gives {F = F} contents named streams (suc (suc i)) output errors own is_open =
    let j : i ≡ suc (suc i) - 2 = omega arith in
    subst (λ (n : ℕ). Gives contents named Other streams (set streams n Closed) output output errors errors) j
    (no_writer contents named streams (set streams i Closed) (suc (suc i)) output errors stays
    (ap (sink_of (suc (suc i))) (get_or-set_same streams i Closed Closed (stands streams i is_open))))
  where
    stays : OthersStay (suc (suc i)) streams (set streams i Closed)
    stays zero apart = refl
    stays (suc zero) apart = refl
    stays (suc (suc k)) apart = get_or-set_other streams i k Closed Closed (λ e. apart (ap (λ n. suc (suc n)) e))

    stands : (xs : List (OsStream F)) (n : ℕ) → (os_kind (get_or xs n Closed) ≡ NotOpen → ⊥) → n < length xs
    stands [] n is_open = absurd (is_open refl)
    stands (x ∷ xs) zero is_open = omega arith
    stands (x ∷ xs) (suc n) is_open = omega (arith, stands xs n is_open)
