use Rattle.std.proofs.Common.{ap, sym, ◌∙◌, true≢false, Some, List, ℕ}
use Rattle.world_core.specs.WorldState.{Entry}
use Rattle.world_core.proofs.NameLemmas.{entry_at-place, entry_at-none}
use Rattle.world_core.proofs.names.source_of_name.Goals as goal

pub returns-in_default : goal.returns-in_default
returns-in_default c = λ opens. ap (λ (e : Entry). e.bytes) (entry_at-none c.args.files.now c.args.name.now (sym c.in_default.ensures))

pub returns-then-not-file : goal.returns-then-not-file
returns-then-not-file c = λ opens.
    let here = entry_at-place c.args.files.now c.args.name.now c.in-Some.at c.index-files-at.result (sym c.in-Some.ensures) in
    absurd (true≢false (sym opens ∙ ap (λ (e : Entry). e.opens) here ∙ c.if-not-file.true))

pub returns-in_default-bytes : goal.returns-in_default-bytes
returns-in_default-bytes c = λ opens.
    let here = entry_at-place c.args.files.now c.args.name.now c.in-Some.at c.index-files-at.result (sym c.in-Some.ensures) in
    ap (λ (e : Entry). e.bytes) here ∙ c.in_default-bytes.is

pub returns : goal.returns
returns c =
    let here = entry_at-place c.args.files.now c.args.name.now c.in-Some.at c.index-files-at.result (sym c.in-Some.ensures) in
    record {
      opens = ap (λ (e : Entry). e.opens) here ∙ c.if-not-file.false;
      bytes = ap (λ (e : Entry). e.bytes) here ∙ c.in-Some-bytes.is ∙ ap (λ (bytes : List ℕ). Some bytes) (sym (c.in_ok-from_slice.ensures ∙ c.as_slice.ensures));
      ending = sym (ap (λ (e : Entry). e.ending) here);
    }
