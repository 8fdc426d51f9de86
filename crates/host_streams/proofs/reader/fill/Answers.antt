use Rattle.std.proofs.Common.{append-nil, sym, ◌≡◌, ◌<◌, ◌≤◌, ◌++◌, ◌∙◌, ℕ, List, Bool, true, false, ltb, Ok, Err, ap, append_assoc, arith, length, refl, take}
use Rattle.std.proofs.Math.Seq.{take-append_seam, take-length}
use Rattle.std.proofs.lemmas.Bool.Decides.{nat_tests}
use Rattle.std.proofs.lemmas.List.{take-append-drop, take-append-le}
use Rattle.std.proofs.Math.Seq.{take-take}
use Rattle.host_streams.proofs.Refused.{is_fault}
use Rattle.world_core.specs.WorldState.{State}
use Rattle.world_core.specs.Calls.{Reads, ReadsSome, next_count}
use Rattle.world_core.specs.declared.world.WorldFault.{WorldFault}
use Rattle.world_core.specs.declared.world.WorldFault.TheVariants.{Failed, NoMemory}
use Rattle.host_streams.specs.Readers.{Fills}
use Rattle.host_streams.proofs.Given.{none_one, none_still}
use Rattle.host_streams.proofs.reader.fill.Goals as goal

no_bytes : (n : ℕ) → false ≡ ltb 0 n → n ≡ 0
no_bytes n e = grind (arith, nat_tests)

front_of : (n len : ℕ) (xs ys : List ℕ) → n ≤ len → n ≤ length xs → take n (take len (xs ++ ys)) ≡ take n xs
front_of n len xs ys short within = take-take n len (xs ++ ys) short ∙ take-append-le n xs ys within

-- what a read did is done to what is kept
reads : (b : Bool) (id n : ℕ) (old new : State) (before now kept grown : List ℕ) → b ≡ ltb 0 n → 0 < length before → ReadsSome id n old before now new → grown ≡ kept ++ take n now → Fills id old kept (Ok b) grown new
reads true id n old new before now kept grown some low h e =
    let rest = (old.readers id).rest in (
      ap (λ xs. xs ++ (new.readers id).rest) (e ∙ ap (λ xs. kept ++ xs) h.bytes) ∙ append_assoc kept (take n rest) (new.readers id).rest ∙ ap (λ xs. kept ++ (take n rest ++ xs)) h.moves.rest ∙ ap (λ xs. kept ++ xs) (take-append-drop n rest),
      h.moves.ending,
      record { outside = h.moves.outside; writers = h.moves.writers; others = h.moves.others },
    )
reads false id n old new before now kept grown none low h e =
    let ends = h.ends low (no_bytes n none) in (ends.0, ends.1, record { outside = h.moves.outside; writers = h.moves.writers; others = h.moves.others })

fails : (fault : WorldFault) (id : ℕ) (old new : State) (before kept grown now : List ℕ) → grown ≡ kept → Reads id old before (Err fault) now new → Fills id old kept (Err fault) grown new
fails Failed id old new before kept grown now e h = (h.unchanged, h.rest, h.ending)
fails NoMemory id old new before kept grown now e h = h

pub returns-in_err-provide : goal.returns-in_err-provide
returns-in_err-provide g c = rw (is_fault c.from_residual.result c.from_residual.ensures.1) (record {
  gives = none_still g.W.World.did c.args.world.now;
  kinds = refl;
  count = refl;
  front = take-length c.args.kept.now.items;
  grows = tt;
  ended = tt;
  failed = refl;
  told = λ tells. refl;
})

pub returns-in_err-reserve : goal.returns-in_err-reserve
returns-in_err-reserve g c = rw (is_fault c.from_residual-in_err-reserve.result c.from_residual-in_err-reserve.ensures.1) (record {
  gives = none_still g.W.World.did c.args.world.now;
  kinds = refl;
  count = refl;
  front = ap (take (length c.args.kept.now.items)) c.reserve.ensures.items ∙ take-length c.args.kept.now.items;
  grows = tt;
  ended = tt;
  failed = c.reserve.ensures.items;
  told = λ tells. refl;
})

same_count : (fault : WorldFault) (n : ℕ) → next_count {T = ℕ} (Err fault) n ≡ next_count {T = Bool} (Err fault) n
same_count Failed n = refl
same_count NoMemory n = refl

pub returns-in-Err : goal.returns-in-Err
returns-in-Err g c = record {
  gives = none_one g.W.World.did _ _ c.in-Err.ensures.did;
  kinds = c.in-Err.ensures.kinds;
  count = c.in-Err.ensures.count ∙ same_count c.in-Err.e (g.W.World.count c.args.world.now);
  front = ap (take (length c.args.kept.now.items)) c.reserve.ensures.items ∙ take-length c.args.kept.now.items;
  grows = tt;
  ended = tt;
  failed = c.reserve.ensures.items;
  told = λ tells.
      fails c.in-Err.e c.args.id _ _ c.as_mut_slice.result.now c.args.kept.now.items c.reserve.new.self.items c.read.new.buffer c.reserve.ensures.items (c.in-Err.ensures.told tells);
}

pub returns-in-Ok-clause-front : goal.returns-in-Ok-clause-front
returns-in-Ok-clause-front g c =
    let kept = c.args.kept.now.items in
    ap (take (length kept)) (c.append.ensures.items ∙ ap (λ xs. xs ++ take c.in-Ok.n c.as_slice-in-Ok.result.now) c.reserve.ensures.items) ∙ take-append_seam kept (take c.in-Ok.n c.as_slice-in-Ok.result.now)

pub returns-in-Ok-clause-ended : goal.returns-in-Ok-clause-ended
returns-in-Ok-clause-ended g c = λ none.
    let xs = c.as_slice-in-Ok.result.now in
    c.append.ensures.items ∙ ap (λ n. c.reserve.new.self.items ++ take n xs) (no_bytes c.in-Ok.n (sym none)) ∙ append-nil c.reserve.new.self.items ∙ c.reserve.ensures.items

pub returns-in-Ok-clause-told : goal.returns-in-Ok-clause-told
returns-in-Ok-clause-told g c = λ tells.
    let low : 0 < length c.as_mut_slice.result.now = omega (arith, c.as_mut_slice.ensures.len, c.in_ok-provide.ensures) in
    reads (ltb 0 c.in-Ok.n) c.args.id c.in-Ok.n _ _ c.as_mut_slice.result.now c.read.new.buffer c.args.kept.now.items c.append.new.kept.items refl low (c.in-Ok.ensures.told tells)
    (c.append.ensures.items ∙ ap (λ xs. xs ++ take c.in-Ok.n c.as_slice-in-Ok.result.now) c.reserve.ensures.items
    ∙ ap (λ xs. c.args.kept.now.items ++ xs) (ap (take c.in-Ok.n) c.as_slice-in-Ok.ensures.value ∙ front_of c.in-Ok.n c.provide.new.piece.len c.read.new.buffer _ (omega (arith, c.in-Ok.ensures.within, c.as_mut_slice.ensures.len, c.read.auto.buffer)) (omega (arith, c.in-Ok.ensures.within, c.as_mut_slice.ensures.len, c.read.auto.buffer))))

pub returns-in-Ok-clause-gives : goal.returns-in-Ok-clause-gives
returns-in-Ok-clause-gives g c = none_one g.W.World.did _ _ c.in-Ok.ensures.did
