use Rattle.std.proofs.Common.{ℕ, ◌+◌, ◌++◌, List, drop, sym, ap, ◌∙◌, append_assoc}
use Rattle.std.proofs.lemmas.List.{append-nil, at_drop_all}
use Rattle.std.specs.Global.{Vec}
use Rattle.awk_resolve.proofs.Names.{drop_at}
use Rattle.mid_program.specs.View.{view_texts}
use Rattle.lower_model.specs.Places.{memory_of}
use Rattle.lower_modules.proofs.sections.text_bytes.Goals as goal

pub loop-text-preserved : goal.loop-text-preserved
loop-text-preserved c =
    let texts = c.args.texts.now in
    let i = c.loop-text.text-index in
    let old = c.loop-text.bytes.items in
    let rest = memory_of (view_texts (drop (i + 1) texts)) in
    ap (λ (bytes : List ℕ). bytes ++ rest) (c.in_ok-extend_from_slice.ensures.items ∙ ap (λ (more : List ℕ). old ++ more) c.deref.ensures.value)
    ∙ append_assoc old c.text-item.result.items rest
    ∙ sym (ap (λ (ts : List (Vec ℕ)). old ++ memory_of (view_texts ts)) (drop_at texts i c.text-item.result c.loop-text-test.true c.text-item.is))
    ∙ c.loop-text.invariant

pub returns : goal.returns
returns c =
    let bytes = c.loop-text.bytes.items in
    sym (append-nil bytes)
    ∙ sym (at_drop_all (λ (ts : List (Vec ℕ)). bytes ++ memory_of (view_texts ts)) c.args.texts.now c.loop-text.text-index c.loop-text-test.false)
    ∙ c.loop-text.invariant
