use Rattle.std.proofs.Common.{ap, ◌∙◌, get_or, length, List, arith}
use Rattle.mid_program.specs.View.{view_mid}
use Rattle.lower_model.specs.Functions.{texts_of}
use Rattle.lower_layout.specs.declared.spans.Span.{Span}
use Rattle.lower_layout.proofs.SpanLemmas.{length_spans, span_place, span_size}
use Rattle.lower_layout.proofs.places.Layout.span.Goals as goal

pub index-requires : goal.index-requires
index-requires c = let e = ap (λ (xs : List Span). length xs) c.args.self.now.placed ∙ length_spans 0 (texts_of (view_mid c.args.self.now.program.now)) in omega (arith, e)

pub returns-clause-place : goal.returns-clause-place
returns-clause-place c =
    ap (λ (s : Span). s.place) (c.index.ensures ∙ ap (λ (xs : List Span). get_or xs c.args.text c.index.result.now) c.args.self.now.placed)
    ∙ span_place (texts_of (view_mid c.args.self.now.program.now)) c.args.text c.index.result.now c.requires

pub returns-clause-size : goal.returns-clause-size
returns-clause-size c =
    ap (λ (s : Span). s.size) (c.index.ensures ∙ ap (λ (xs : List Span). get_or xs c.args.text c.index.result.now) c.args.self.now.placed)
    ∙ span_size 0 (texts_of (view_mid c.args.self.now.program.now)) c.args.text c.index.result.now c.requires
