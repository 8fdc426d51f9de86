-- What a turn of a reader answers, told of all that it has left.
use Rattle.std.proofs.Common.{◌≡◌, ◌≢◌, ◌<◌, ◌≤◌, ◌+◌, ℕ, List, [], ◌∷◌, ◌++◌, take, drop, length, Bool, true, false, Option, Result, Ok, Err, arith, subst, append_assoc, refl, sym, ◌∙◌, ap, append-nil, slice_range}
use Rattle.std.proofs.lemmas.List.{take-append-drop}
use Rattle.awk_values.specs.declared.fault.Fault.TheVariants.{TextLimit}
use Rattle.world_core.specs.declared.world.Ending.TheVariants.{End as IsEnd, Fails as IsFailure}
use Rattle.world_core.specs.WorldState.{Source, State}
use Rattle.sem_primitives.specs.Limits.{most_text}
use Rattle.sem_primitives.specs.Records.{first_record, of_rest}
use Rattle.sem_primitives.specs.Records.{Record as GotRecord, AtEnd as GotEnd, Broken as GotFailure}
use Rattle.host_streams.specs.declared.reader.Phase.{Phase}
use Rattle.host_streams.specs.declared.reader.Phase.TheVariants.{Open, Ended, Broken}
use Rattle.host_streams.specs.Looks.{IsThere, IsLong}
use Rattle.host_streams.specs.Readers.{left, left_in, handed, unread, work, work_in, Answers, EndStays, GoesOn, IsLast, MoreIs, OnlyLimit, OnlyReads, HandsMore, HandsOver, HandsTurn, ScannedAgain, TurnCounts, TurnPhase, Turns}
use Rattle.host_streams.specs.declared.reader.Reader.{Reader}
use Rattle.awk_values.specs.declared.fault.Stop.TheVariants.{Fault as IsFault, NoMemory as OutOfMemory}
use Rattle.host_streams.specs.declared.look.Known.{Known}
use Rattle.awk_values.specs.declared.fault.Stop.{Stop}
use Rattle.host_streams.specs.declared.reader.FileNext.{FileNext}
use Rattle.host_streams.specs.declared.reader.FileNext.TheVariants.{End, Failed, Record}
use Rattle.host_streams.specs.declared.reader.Turn.{Turn}
use Rattle.host_streams.specs.declared.reader.Turn.TheVariants.{Answer, Again}

-- a record among what is kept
left_record : (p : Phase) (rs : Option ℕ) (kept text rest : List ℕ) (source : Source) (from to next : ℕ) → (p ≡ Broken → ⊥) → IsThere rs kept from to next →
    text ≡ slice_range kept from to → rest ≡ drop next kept → first_record rs (left_in p kept source) ≡ Ok (GotRecord text, left_in p rest source)
left_record Broken rs kept text rest source from to next live h e f = absurd (live refl)
left_record Open rs kept text rest source from to next live h e f =
    h.found source.rest source.ending ∙ ap (λ t. Ok (GotRecord t, record { rest = drop next kept ++ source.rest; ending = source.ending })) (sym e) ∙ ap (λ r. Ok (GotRecord text, record { rest = r ++ source.rest; ending = source.ending })) (sym f)
left_record Ended rs kept text rest source from to next live h e f =
    ap (λ b. first_record rs (record { rest = b; ending = IsEnd })) (sym (append-nil kept)) ∙ h.found [] IsEnd
    ∙ ap (λ t. Ok (GotRecord t, record { rest = drop next kept ++ []; ending = IsEnd })) (sym e) ∙ ap (λ r. Ok (GotRecord text, record { rest = r; ending = IsEnd })) (append-nil (drop next kept) ∙ sym f)

-- the same where what is seen of it is known by other names
pub first_left : (p : Phase) (rs : Option ℕ) (kept seen cut text rest : List ℕ) (from to next : ℕ) → (p ≡ Broken → ⊥) → seen ≡ kept → IsThere rs seen from to next → text ≡ slice_range cut from to → cut ≡ kept → rest ≡ drop next kept → (source : Source) →
    first_record rs (left_in p kept source) ≡ Ok (GotRecord text, left_in p rest source)
first_left p rs kept seen cut text rest from to next live same there e f at source =
    left_record p rs kept text rest source from to next live (subst (λ (xs : List ℕ). IsThere rs xs from to next) same there) (e ∙ ap (λ xs. slice_range xs from to) f) at

pub left_long : (p : Phase) (rs : Option ℕ) (kept : List ℕ) (source : Source) → (p ≡ Broken → ⊥) → IsLong rs kept → first_record rs (left_in p kept source) ≡ Err TextLimit
left_long Broken rs kept source live h = absurd (live refl)
left_long Open rs kept source live h = h source.rest source.ending
left_long Ended rs kept source live h = ap (λ b. first_record rs (record { rest = b; ending = IsEnd })) (sym (append-nil kept)) ∙ h [] IsEnd

-- nothing was handed over
pub none_handed : (p : Phase) (kept : List ℕ) (later : Source) → left_in p kept (handed [] p later) ≡ left_in p kept later
none_handed Open kept later = refl
none_handed Ended kept later = refl
none_handed Broken kept later = refl

pub none_since : (p q : Phase) (kept now : List ℕ) (later : Source) → q ≡ p → now ≡ kept → left_in q now later ≡ left_in p kept (handed [] q later)
none_since p q kept now later same whole =
    ap (λ xs. left_in q xs later) whole ∙ subst (λ (x : Phase). left_in x kept later ≡ left_in p kept (handed [] x later)) (sym same) (sym (none_handed p kept later))

-- a piece more is kept
pub some_handed : (kept now bytes : List ℕ) (later : Source) → now ≡ kept ++ bytes → left_in Open now later ≡ left_in Open kept (handed bytes Open later)
some_handed kept now bytes later e = ap (λ b. record { rest = b; ending = later.ending }) (ap (λ b. b ++ later.rest) e ∙ append_assoc kept bytes later.rest)

-- the end was met
pub end_handed : (kept now : List ℕ) (later : Source) → now ≡ kept → left_in Ended now later ≡ left_in Open kept (handed [] Ended later)
end_handed kept now later e = ap (λ b. record { rest = b; ending = IsEnd }) (e ∙ sym (append-nil kept))

pub more_handed : (p q : Phase) (kept before now : List ℕ) (start : ℕ) → p ≡ Open → q ≡ p → before ≡ kept → start ≡ 0 → take (length before) now ≡ before →
    HandsMore p kept (Ok true) q (drop start now)
more_handed p q kept before now start live same whole zero front =
    let rest : List ℕ = drop (length kept) now in
    let split : now ≡ kept ++ rest = sym (take-append-drop (length kept) now) ∙ ap (λ b. b ++ rest) (subst (λ (x : List ℕ). take (length x) now ≡ x) whole front) in
    subst (λ (x : Phase). HandsMore p kept (Ok true) x (drop start now)) (sym same) (subst (λ (x : Phase). HandsMore x kept (Ok true) x (drop start now)) (sym live) (record {
      bytes = rest;
      is = λ later. some_handed kept (drop start now) rest later (ap (λ n. drop n now) zero ∙ split);
    }))

-- the same of what is left
pub left_more : (p q : Phase) (kept before now rest : List ℕ) (source later : Source) → p ≡ Open → q ≡ p → rest ≡ now → before ≡ kept → now ++ later.rest ≡ before ++ source.rest → later.ending ≡ source.ending →
    left_in q rest later ≡ left_in p kept source
left_more p q kept before now rest source later live same all whole bytes ending =
    ap (λ x. left_in x rest later) (same ∙ live) ∙ ap (λ xs. left_in Open xs later) all ∙ ap (λ xs. record { rest = xs; ending = later.ending }) (bytes ∙ ap (λ xs. xs ++ source.rest) whole)
    ∙ ap (λ x. record { rest = kept ++ source.rest; ending = x }) ending ∙ sym (ap (λ x. left_in x kept source) live)

pub left_end : (p : Phase) (kept rest : List ℕ) (source : Source) → p ≡ Open → rest ≡ kept → source.rest ≡ [] → source.ending ≡ IsEnd → record { rest = rest; ending = IsEnd } ≡ left_in p kept source
left_end p kept rest source live all none ends =
    ap (λ xs. record { rest = xs; ending = IsEnd }) (all ∙ sym (append-nil kept)) ∙ ap (λ xs. record { rest = kept ++ xs; ending = IsEnd }) (sym none)
    ∙ ap (λ x. record { rest = kept ++ source.rest; ending = x }) (sym ends) ∙ sym (ap (λ x. left_in x kept source) live)

pub left_lost : (p : Phase) (kept : List ℕ) (source : Source) → p ≡ Open → source.rest ≡ [] → source.ending ≡ IsFailure → left_in p kept source ≡ record { rest = kept; ending = IsFailure }
left_lost p kept source live none fails =
    ap (λ x. left_in x kept source) live ∙ ap (λ xs. record { rest = kept ++ xs; ending = source.ending }) none ∙ ap (λ x. record { rest = kept ++ []; ending = x }) fails
    ∙ ap (λ xs. record { rest = xs; ending = IsFailure }) (append-nil kept)

pub less_work : (p q : Phase) (n m : ℕ) → p ≡ Open → q ≡ p → n < m → n ≤ most_text + 1 → work_in q m < work_in p n
less_work p q n m live same grows short = subst (λ (x : Phase). work_in x m < work_in p n) (sym (same ∙ live)) (subst (λ (x : Phase). work_in Open m < work_in x n) (sym live) (omega arith))

pub some_work : (p : Phase) (n : ℕ) → p ≡ Open → n ≤ most_text + 1 → 0 < work_in p n
some_work p n live short = subst (λ (x : Phase). 0 < work_in x n) (sym live) (omega arith)

-- turns: a piece more is read; a record among what is kept; one that is too long
pub again_handed : (rs : Option ℕ) (p q : Phase) (kept now : List ℕ) (known : Known) {b : Bool} → b ≡ true → HandsMore p kept (Ok b) q now → HandsTurn rs p kept (Ok (Again known)) q now
again_handed rs p q kept now known {b} e h =
    let m : HandsMore p kept (Ok true) q now = subst (λ (c : Bool). HandsMore p kept (Ok c) q now) e h in record { bytes = m.bytes; answers = m.is }

pub record_handed : (p : Phase) (rs : Option ℕ) (kept rest : List ℕ) (text : List ℕ) → ((source : Source) → first_record rs (left_in p kept source) ≡ Ok (GotRecord text, left_in p rest source)) →
    HandsTurn rs p kept (Ok (Answer (Record text))) p rest
record_handed p rs kept rest text h = record {
  bytes = [];
  answers = λ later. ap (first_record rs) (none_handed p kept later) ∙ h later;
}

pub long_handed : (p : Phase) (rs : Option ℕ) (kept : List ℕ) → (p ≡ Broken → ⊥) → IsLong rs kept → HandsTurn rs p kept (Err (IsFault TextLimit)) p kept
long_handed p rs kept live h = record {
  bytes = [];
  answers = λ later. (left_long p rs kept (handed [] p later) live h, sym (none_handed p kept later));
}

-- reading failed, or memory ran out
pub lost : (rs : Option ℕ) (kept text : List ℕ) (source later : Source) → first_record rs (record { rest = kept; ending = IsFailure }) ≡ Ok (of_rest IsFailure text) → MoreIs kept source (Ok false) later →
    first_record rs source ≡ Ok (GotFailure, later)
lost rs kept text source later none h = ap (first_record rs) h.0 ∙ none ∙ ap (λ s. Ok (GotFailure, s)) (sym h.1)

pub lost_handed : (rs : Option ℕ) (p q : Phase) (kept now text : List ℕ) {b : Bool} → b ≡ false → first_record rs (record { rest = kept; ending = IsFailure }) ≡ Ok (of_rest IsFailure text) → HandsMore p kept (Ok b) q now →
    HandsTurn rs p kept (Ok (Answer Failed)) q now
lost_handed rs p q kept now text {b} e none h =
    let m : HandsMore p kept (Ok false) q now = subst (λ (c : Bool). HandsMore p kept (Ok c) q now) e h in record { bytes = m.bytes; answers = λ later. lost rs kept text _ _ none (m.is later) }

pub refused_handed : (rs : Option ℕ) (p q : Phase) (kept now : List ℕ) (stop : Stop) → stop ≡ OutOfMemory → HandsMore p kept (Err stop) q now → HandsTurn rs p kept (Err stop) q now
refused_handed rs p q kept now stop e h = subst (λ (x : Stop). HandsTurn rs p kept (Err x) q now) (sym e) (record { bytes = h.bytes; answers = h.is })

-- At the end of the stream what is left is given.

rest_record : (text : List ℕ) → 0 < length text → of_rest IsEnd text ≡ (GotRecord text, record { rest = []; ending = IsEnd })
rest_record [] some = absurd (omega arith)
rest_record (c ∷ cs) some = refl

module _ (rs : Option ℕ) (text : List ℕ) (old : Reader) where
  none_left : (new : Reader) → old.phase ≡ Ended → new.phase ≡ old.phase → unread new ≡ [] → (later : Source) → left new later ≡ record { rest = []; ending = IsEnd }
  none_left new ended same none later = ap (λ p. left_in p (unread new) later) (same ∙ ended) ∙ ap (λ xs. record { rest = xs; ending = IsEnd }) none

  at_end : old.phase ≡ Ended → first_record rs (record { rest = unread old; ending = IsEnd }) ≡ Ok (of_rest IsEnd text) → (source : Source) → first_record rs (left old source) ≡ Ok (of_rest IsEnd text)
  at_end ended last source = ap (λ p. first_record rs (left_in p (unread old) source)) ended ∙ last

  pub last_answers : (r : Result Turn Stop) (new : Reader) → old.phase ≡ Ended → first_record rs (record { rest = unread old; ending = IsEnd }) ≡ Ok (of_rest IsEnd text) → new.phase ≡ old.phase → IsLast text r old new →
      (source later : Source) → Turns rs (left old source) r (left new later)
  last_answers (Ok (Answer (Record t))) new ended last same h source later =
      at_end ended last source ∙ ap (λ x. Ok x) (rest_record text h.1) ∙ ap (λ t. Ok (GotRecord t, record { rest = []; ending = IsEnd })) (sym h.0) ∙ ap (λ s. Ok (GotRecord t, s)) (sym (none_left new ended same h.2 later))
  last_answers (Ok (Answer End)) new ended last same h source later =
      at_end ended last source ∙ ap (λ t. Ok (of_rest IsEnd t)) h.0 ∙ ap (λ s. Ok (GotEnd, s)) (sym (none_left new ended same h.1 later))
  last_answers (Ok (Answer Failed)) new ended last same h source later = absurd h
  last_answers (Ok (Again known)) new ended last same h source later = absurd h
  last_answers (Err (IsFault fault)) new ended last same h source later = absurd (cc h.0)
  last_answers (Err OutOfMemory) new ended last same h source later =
      ap (λ (x : Reader). left x later) h.1 ∙ ap (λ p. left_in p (unread old) later) ended ∙ sym (ap (λ p. left_in p (unread old) source) ended)

  pub last_counts : (r : Result Turn Stop) (new : Reader) (n : ℕ) → IsLast text r old new → TurnCounts r n n
  last_counts (Ok (Answer (Record t))) new n h = refl
  last_counts (Ok (Answer End)) new n h = refl
  last_counts (Ok (Answer Failed)) new n h = absurd h
  last_counts (Ok (Again known)) new n h = refl
  last_counts (Err stop) new n h = refl

  pub last_phase : (r : Result Turn Stop) (new : Reader) → new.phase ≢ Broken → IsLast text r old new → TurnPhase r new.phase
  last_phase (Ok (Answer (Record t))) new live h = live
  last_phase (Ok (Answer End)) new live h = live
  last_phase (Ok (Answer Failed)) new live h = absurd h
  last_phase (Ok (Again known)) new live h = live
  last_phase (Err stop) new live h = live

  pub last_rest : (r : Result Turn Stop) (new : Reader) → IsLast text r old new → OnlyLimit r × ScannedAgain rs r new × GoesOn r (work old) (work new)
  last_rest (Ok (Answer (Record t))) new h = (tt, tt, tt)
  last_rest (Ok (Answer End)) new h = (tt, tt, tt)
  last_rest (Ok (Answer Failed)) new h = absurd h
  last_rest (Ok (Again known)) new h = absurd h
  last_rest (Err (IsFault fault)) new h = absurd (cc h.0)
  last_rest (Err OutOfMemory) new h = (tt, tt, tt)

-- the bytes of two calls, one after the other
abbrev pub joined : Phase → List ℕ → List ℕ → List ℕ
joined Open first second = first ++ second
joined Ended first second = first
joined Broken first second = first

ended_since : (q : Phase) (first second : List ℕ) (later : Source) → q ≡ Ended → handed first Ended (handed second q later) ≡ handed first q later
ended_since q first second later e = subst (λ (x : Phase). handed first Ended (handed second x later) ≡ handed first x later) (sym e) refl

open_since : (q : Phase) (first second : List ℕ) (later : Source) → handed first Open (handed second q later) ≡ handed (first ++ second) q later
open_since Open first second later = ap (λ b. record { rest = b; ending = later.ending }) (sym (append_assoc first second later.rest))
open_since Ended first second later = refl
open_since Broken first second later = refl

pub handed_since : (p q : Phase) (first second : List ℕ) (later : Source) → (p ≡ Broken → ⊥) → EndStays p q → handed first p (handed second q later) ≡ handed (joined p first second) q later
handed_since Open q first second later live stays = open_since q first second later
handed_since Ended q first second later live stays = ended_since q first second later (stays refl)
handed_since Broken q first second later live stays = absurd (live refl)

-- what was handed over since the start of a call
abbrev pub SoFar : Phase → List ℕ → Phase → List ℕ → Type 0
SoFar p kept q now = (bytes : List ℕ) × ((later : Source) → left_in q now later ≡ left_in p kept (handed bytes q later))

pub none_so_far : (p : Phase) (kept : List ℕ) → SoFar p kept p kept
none_so_far p kept = ([], λ later. sym (none_handed p kept later))

so_far_then : (p q r : Phase) (kept now : List ℕ) (so : SoFar p kept q now) (second : List ℕ) (later : Source) → (q ≡ Broken → ⊥) → EndStays q r →
    left_in q now (handed second r later) ≡ left_in p kept (handed (joined q so.0 second) r later)
so_far_then p q r kept now so second later live stays = so.1 (handed second r later) ∙ ap (left_in p kept) (handed_since q r so.0 second later live stays)

-- a turn more, with or without an answer
pub so_far_again : (rs : Option ℕ) (p q r : Phase) (kept now then : List ℕ) (known : Known) {t : Turn} → t ≡ Again known → (q ≡ Broken → ⊥) → EndStays q r → SoFar p kept q now → HandsTurn rs q now (Ok t) r then →
    SoFar p kept r then
so_far_again rs p q r kept now then known e live stays so h =
    let turn : HandsTurn rs q now (Ok (Again known)) r then = subst (λ (t : Turn). HandsTurn rs q now (Ok t) r then) e h in
    (joined q so.0 turn.bytes, λ later. turn.answers later ∙ so_far_then p q r kept now so turn.bytes later live stays)

pub so_far_answered : (rs : Option ℕ) (p q r : Phase) (kept now then : List ℕ) (answer : FileNext) {t : Turn} → t ≡ Answer answer → (q ≡ Broken → ⊥) → EndStays q r → SoFar p kept q now → HandsTurn rs q now (Ok t) r then →
    HandsOver rs p kept (Ok answer) r then
so_far_answered rs p q r kept now then answer e live stays so h =
    let turn : HandsTurn rs q now (Ok (Answer answer)) r then = subst (λ (t : Turn). HandsTurn rs q now (Ok t) r then) e h in record {
      bytes = joined q so.0 turn.bytes;
      answers = λ later. subst (λ (source : Source). Answers rs source (Ok answer) (left_in r then later)) (so_far_then p q r kept now so turn.bytes later live stays) (turn.answers later);
    }

pub so_far_refused : (rs : Option ℕ) (p q r : Phase) (kept now then : List ℕ) (stop : Stop) → (q ≡ Broken → ⊥) → EndStays q r → SoFar p kept q now → HandsTurn rs q now (Err stop) r then → HandsOver rs p kept (Err stop) r then
so_far_refused rs p q r kept now then stop live stays so turn = record {
  bytes = joined q so.0 turn.bytes;
  answers = λ later. subst (λ (source : Source). Answers rs source (Err stop) (left_in r then later)) (so_far_then p q r kept now so turn.bytes later live stays) (turn.answers later);
}

-- reading goes on
pub only_again : (id k : ℕ) (first second third : State) → k ≡ id → OnlyReads id first second → OnlyReads k second third → OnlyReads id first third
only_again id k first second third e h was = let now : OnlyReads id second third = subst (λ (n : ℕ). OnlyReads n second third) e was in record {
  outside = now.outside ∙ h.outside;
  writers = now.writers ∙ h.writers;
  others = λ n apart. now.others n apart ∙ h.others n apart;
}
