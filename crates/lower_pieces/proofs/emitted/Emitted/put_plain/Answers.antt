use Rattle.std.proofs.Common.{List, [], ◌∷◌, ◌++◌, ap, ◌∙◌}
use Rattle.wasm_types.specs.declared.instr.Instr.{Instr, Plain}
use Rattle.lower_pieces.specs.Emits.{followed}
use Rattle.lower_pieces.proofs.Appended.{followed_push}
use Rattle.lower_pieces.proofs.emitted.Emitted.put_plain.Goals as goal

pub returns-then-has_room : goal.returns-then-has_room
returns-then-has_room c =
    let one = Plain c.args.simple in
    λ k w h. record {
      reads = λ e.
          ap (λ (is : List Instr). followed is k) c.push_reserved.ensures.items
          ∙ ap (λ (is : List Instr). followed (is ++ one ∷ []) k) c.has_room.ensures.code
          ∙ followed_push c.args.self.now.code.items one k
          ∙ h.reads (c.has_room.ensures.open c.if-has_room.true);
    }
