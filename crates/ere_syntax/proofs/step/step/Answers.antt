use Rattle.std.proofs.Common.{refl, sym, ap, ◌∙◌}
use Rattle.ere_syntax.specs.Tree.{Set, Start, End}
use Rattle.ere_syntax.specs.Reading.{repeated}
use Rattle.ere_syntax.specs.Lexing.{atom_set, token_view}
use Rattle.ere_syntax.specs.Frames.{frame_view}
use Rattle.ere_syntax.specs.Steps.{stepped, stack_view}
use Rattle.ere_syntax.specs.declared.token.Token.{Token}
use Rattle.ere_syntax.proofs.Stepping.{put_step, repeat_step, one_set, one_start, one_end}
use Rattle.ere_syntax.proofs.step.step.Goals as goal

pub returns-in_ok-atom-in-Atom : goal.returns-in_ok-atom-in-Atom
returns-in_ok-atom-in-Atom c = λ x ready e.
    (let is = ap (λ (t : Token). stepped (token_view t) (stack_view c.args.stack.now.items) (frame_view c.args.frame)) c.in-Atom.is in
    let t = Set (atom_set c.in-Atom.kind) in
    put_step x c.args.stack.now.items c.args.frame (Set (atom_set c.in-Atom.kind)) c.put_one.result (sym is ∙ e) ready (λ n s. c.put_one.ensures (Set (atom_set c.in-Atom.kind)) c.in_ok-atom-in-Atom.ensures (one_set (atom_set c.in-Atom.kind)) n s))

pub returns-in-Begin : goal.returns-in-Begin
returns-in-Begin c = λ x ready e.
    (let is = ap (λ (t : Token). stepped (token_view t) (stack_view c.args.stack.now.items) (frame_view c.args.frame)) c.in-Begin.is in
    put_step x c.args.stack.now.items c.args.frame Start c.put_one-in-Begin.result (sym is ∙ e) ready (λ n s. c.put_one-in-Begin.ensures Start refl one_start n s))

pub returns-in-Stop : goal.returns-in-Stop
returns-in-Stop c = λ x ready e.
    (let is = ap (λ (t : Token). stepped (token_view t) (stack_view c.args.stack.now.items) (frame_view c.args.frame)) c.in-Stop.is in
    put_step x c.args.stack.now.items c.args.frame End c.put_one-in-Stop.result (sym is ∙ e) ready (λ n s. c.put_one-in-Stop.ensures End refl one_end n s))

pub returns-in-Times : goal.returns-in-Times
returns-in-Times c = λ x ready e.
    (let is = ap (λ (t : Token). stepped (token_view t) (stack_view c.args.stack.now.items) (frame_view c.args.frame)) c.in-Times.is in
    repeat_step x c.args.stack.now.items c.args.frame (repeated (frame_view c.args.frame) c.in-Times.times.low c.in-Times.times.high) c.repeat_last.result (sym is ∙ e) ready c.repeat_last.ensures)
