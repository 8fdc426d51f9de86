-- Instructions that are emitted, whatever comes after them.
use Rattle.std.proofs.Common.{◌≡◌, None, List, [], ◌∷◌, ◌++◌, refl, ap, ◌∙◌}
use Rattle.std.specs.declared.vec.Vec.{Vec}
use Rattle.std.specs.declared.rc.Rc.{Rc}
use Rattle.std.specs.declared.alloc.Global.{Global}
use Rattle.wasm_types.specs.Syntax.{If, Instructions, Done, Then}
use Rattle.wasm_types.proofs.Views.{view_if}
use Rattle.wasm_types.specs.View.{view, views}
use Rattle.wasm_types.specs.declared.instr.Instr.{Instr, If as IfInstr}
use Rattle.lower_model.specs.Small.{emit_if}
use Rattle.lower_pieces.specs.Emits.{followed, Reads}
use Rattle.lower_pieces.specs.declared.emitted.Emitted.{Emitted}

pub followed_push : (is : List Instr) (i : Instr) (k : Instructions) → followed (is ++ i ∷ []) k ≡ followed is (Then (view i) k)
followed_push [] i k = refl
followed_push (j ∷ js) i k = ap (Then (view j)) (followed_push js i k)

pub followed_end : (is : List Instr) → followed is Done ≡ views is
followed_end [] = refl
followed_end (i ∷ is) = ap (Then (view i)) (followed_end is)

-- the same code, written otherwise
pub reads_by : {out : Emitted} {rest same whole : Instructions} → rest ≡ same → Reads out same whole → Reads out rest whole
reads_by {out} e reads = record { reads = λ is. ap (followed out.code.items) e ∙ reads.reads is }

-- with these instructions after it the one reads what the other reads with those after it
abbrev pub Follows : (new : Emitted) (rest : Instructions) (old : Emitted) (before : Instructions) → Type 0
Follows new rest old before = (whole : Instructions) → Reads old before whole → Reads new rest whole

infixr 30 ◌⨟◌
pub ◌⨟◌ : {new mid old : Emitted} {rest between before : Instructions} → Follows new rest mid between → Follows mid between old before → Follows new rest old before
◌⨟◌ q p = λ whole h. q whole (p whole h)

pub same : {out : Emitted} {rest before : Instructions} → rest ≡ before → Follows out rest out before
same e = λ whole h. reads_by e h

-- the code of a choice
pub chosen : (a b : Rc (Vec Instr Global) Global) (one other : Instructions) → views a.value.items ≡ one → views b.value.items ≡ other → (k : Instructions) → Then (view (IfInstr None a b)) k ≡ emit_if one other k
chosen a b one other first second k =
    ap (λ i. Then i k) (view_if None a b ∙ ap (λ (is : Instructions). If None is (views b.value.items)) first ∙ ap (If None one) second)
