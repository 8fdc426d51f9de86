-- The code's steps are the definition's.
use Rattle.std.proofs.Common.{◌≡◌, ◌+◌, ◌<◌, ◌≤◌, List, [], ◌∷◌, ◌++◌, length, Option, Some, None, Result, Ok, Err, refl, sym, ap, subst, ◌∙◌, arith}
use Rattle.ere_syntax.specs.Tree.{Bytes, Tree, Set, Start, End, Group, nesting}
use Rattle.ere_syntax.specs.Reading.{◌>>=◌, Frame, Frames, fresh, put, finish, IsNeat, AreNeat}
use Rattle.ere_syntax.specs.Sizes.{IsSize, IsOne, frame_deep, reached}
use Rattle.ere_syntax.specs.View.{view}
use Rattle.ere_syntax.specs.Frames.{frame_view, IsSized}
use Rattle.ere_syntax.specs.Steps.{onto, stack_view, AreSized, AreReady, FrameAnswer, IsStepOf, StepAnswer, closing_step, opening_step}
use Rattle.ere_syntax.specs.declared.frame.Part.{Part}
use Rattle.ere_syntax.specs.declared.frame.Frame.{Frame as CodeFrame}
use Rattle.ere_syntax.specs.declared.fault.EreFault.{EreFault}
use Rattle.ere_syntax.specs.declared.fault.EreFault.TheVariants.{BadEre, EreTooLarge, NoMemory}
use Rattle.ere_syntax.proofs.Sound.{that_is}
use Rattle.ere_syntax.proofs.Limits.{base_reached}
use Rattle.ere_syntax.proofs.Texts.{pair_first}

-- ---- the stack

onto_push : (st : List Frame) (fs : List CodeFrame) (f : CodeFrame) → onto st (fs ++ (f ∷ [])) ≡ frame_view f ∷ onto st fs
onto_push st [] f = refl
onto_push st (g ∷ fs) f = onto_push (frame_view g ∷ st) fs f

onto_length : (st : List Frame) (fs : List CodeFrame) → length (onto st fs) ≡ length st + length fs
onto_length st [] = omega arith
onto_length st (f ∷ fs) = let k = onto_length (frame_view f ∷ st) fs in omega (arith, k)

pub stack_length : (fs : List CodeFrame) → length (stack_view fs) ≡ length fs
stack_length fs = let k = onto_length [] fs in omega (arith, k)

sized_push : (fs : List CodeFrame) (f : CodeFrame) → AreSized fs → IsSized f → AreSized (fs ++ (f ∷ []))
sized_push [] f h k = (k, tt)
sized_push (g ∷ fs) f h k = (h.0, sized_push fs f h.1 k)

sized_pop : (fs : List CodeFrame) (f : CodeFrame) → AreSized (fs ++ (f ∷ [])) → AreSized fs × IsSized f
sized_pop [] f h = (tt, h.0)
sized_pop (g ∷ fs) f h = let k = sized_pop fs f h.1 in ((h.0, k.0), k.1)

abbrev stack_and : List Frame → Frame → List Frame × Frame
stack_and st f = (st, f)

-- ---- beginning a group

pub open_deep : (x : List Frame × Frame) (st : List CodeFrame) (f : CodeFrame) → opening_step (stack_view st) (frame_view f) ≡ Some x → 1000 ≤ length st → 1000 < reached x.0 x.1
open_deep x st f e h =
    let l = stack_length st in
    let k : 1000 < reached (frame_view f ∷ stack_view st) fresh = omega (arith, l, h) in
    subst (λ (x : List Frame × Frame). 1000 < reached x.0 x.1) (that_is (stack_and (frame_view f ∷ stack_view st) fresh) x e) k

pub open_done : (x : List Frame × Frame) (st news : List CodeFrame) (f new : CodeFrame) → AreReady st f → opening_step (stack_view st) (frame_view f) ≡ Some x → news ≡ st ++ (f ∷ []) → frame_view new ≡ fresh → IsSized new → IsStepOf x news new
open_done x st news f new r e p v s =
    subst (λ (x : List Frame × Frame). IsStepOf x news new) (that_is (stack_and (frame_view f ∷ stack_view st) fresh) x e)
    (record { below = ap stack_view p ∙ onto_push [] st f; view = v; sized = subst AreSized (sym p) (sized_push st f r.sized r.frame_sized); frame_sized = s })

-- ---- ending a group

-- what is known once the part is finished and the outer frame popped
pub record IsClosing (st rest : List CodeFrame) (f outer : CodeFrame) (part : Part) : Type 0 where
  pub ready : AreReady st f
  pub finished : Some (view part.ere) ≡ finish (frame_view f)
  pub popped : st ≡ rest ++ (outer ∷ [])

closed_is : (x : List Frame × Frame) (st rest : List CodeFrame) (f outer : CodeFrame) (part : Part) → IsClosing st rest f outer part → closing_step (stack_view st) (frame_view f) ≡ Some x → stack_and (stack_view rest) (put (frame_view outer) (Group (view part.ere))) ≡ x
closed_is x st rest f outer part c e =
    let v : stack_view st ≡ frame_view outer ∷ stack_view rest = ap stack_view c.popped ∙ onto_push [] rest outer in
    let g : Option Tree → Option (List Frame × Frame) = λ o. o >>= λ t. Some (stack_view rest, put (frame_view outer) (Group t)) in
    that_is (stack_and (stack_view rest) (put (frame_view outer) (Group (view part.ere)))) x (ap g c.finished ∙ sym (ap (λ (u : List Frame). closing_step u (frame_view f)) v) ∙ e)

put_least : (f : Frame) (t : Tree) → nesting t ≤ frame_deep (put f t)
put_least (Frames a p l) t = omega arith

pub close_deep : (x : List Frame × Frame) (st rest : List CodeFrame) (f outer : CodeFrame) (part : Part) → IsClosing st rest f outer part → IsSize part.size (view part.ere) → closing_step (stack_view st) (frame_view f) ≡ Some x → 1000 < part.size.nesting + 1 → 1000 < reached x.0 x.1
close_deep x st rest f outer part c s e h =
    let g = put (frame_view outer) (Group (view part.ere)) in
    let a = put_least (frame_view outer) (Group (view part.ere)) in
    let b = base_reached (stack_view rest) (put (frame_view outer) (Group (view part.ere))) in
    let k : 1000 < reached (stack_view rest) (put (frame_view outer) (Group (view part.ere))) = omega (arith, a, b, h, s.nesting) in
    subst (λ (x : List Frame × Frame). 1000 < reached x.0 x.1) (closed_is x st rest f outer part c e) k

outer_neat : (st rest : List CodeFrame) (outer : CodeFrame) → st ≡ rest ++ (outer ∷ []) → AreNeat (stack_view st) → IsNeat (frame_view outer)
outer_neat st rest outer p h = (subst AreNeat (ap stack_view p ∙ onto_push [] rest outer) h).0

pub close_done : (x : List Frame × Frame) (st rest : List CodeFrame) (f outer new : CodeFrame) (part group : Part) → IsClosing st rest f outer part → view group.ere ≡ Group (view part.ere) → IsSize group.size (view group.ere) → closing_step (stack_view st) (frame_view f) ≡ Some x
    → (IsNeat (frame_view outer) → frame_view new ≡ put (frame_view outer) (view group.ere)) → (IsSized outer → IsSize group.size (view group.ere) → IsSized new) → IsStepOf x rest new
close_done x st rest f outer new part group c g s e v z =
    let both = sized_pop rest outer (subst AreSized c.popped c.ready.sized) in
    subst (λ (x : List Frame × Frame). IsStepOf x rest new) (closed_is x st rest f outer part c e)
    (record {
      below = refl;
      view = v (outer_neat st rest outer c.popped c.ready.neat) ∙ ap (put (frame_view outer)) g;
      sized = both.0;
      frame_sized = z both.1 s;
    })

-- ---- steps that leave the stack

pub from_frame : (x : List Frame × Frame) (st : List CodeFrame) (g : Frame) (r : Result (Option CodeFrame) EreFault) → stack_view st ≡ x.0 → g ≡ x.1 → AreSized st → FrameAnswer g r → StepAnswer x st r
from_frame x st g (Ok (Some f)) p q s h = record { below = p; view = h.view ∙ q; sized = s; frame_sized = h.sized }
from_frame x st g (Ok None) p q s h = absurd h
from_frame x st g (Err EreTooLarge) p q s h =
    let b = base_reached x.0 x.1 in omega (arith, b, h, ap frame_deep q)
from_frame x st g (Err NoMemory) p q s h = tt
from_frame x st g (Err (BadEre place)) p q s h = absurd h

pub put_step : (x : List Frame × Frame) (st : List CodeFrame) (f : CodeFrame) (t : Tree) (r : Result (Option CodeFrame) EreFault) → Some (stack_and (stack_view st) (put (frame_view f) t)) ≡ Some x → AreReady st f → (IsNeat (frame_view f) → IsSized f → FrameAnswer (put (frame_view f) t) r) → StepAnswer x st r
put_step x st f t r e ready h =
    let q = that_is (stack_and (stack_view st) (put (frame_view f) t)) x e in
    from_frame x st (put (frame_view f) t) r (ap (λ (y : List Frame × Frame). y.0) q) (ap (λ (y : List Frame × Frame). y.1) q) ready.sized (h ready.frame_neat ready.frame_sized)

pub repeat_step : (x : List Frame × Frame) (st : List CodeFrame) (f : CodeFrame) (o : Option Frame) (r : Result (Option CodeFrame) EreFault) → (o >>= λ g. Some (stack_and (stack_view st) g)) ≡ Some x → AreReady st f → ((g : Frame) → IsSized f → o ≡ Some g → FrameAnswer g r) → StepAnswer x st r
repeat_step x st f o r e ready h =
    let p = pair_first (stack_view st) o x e in
    from_frame x st x.1 r p.0 refl ready.sized (h x.1 ready.frame_sized p.1)

pub one_set : (s : Bytes) → IsOne (Set s)
one_set s = record { positions = refl; nesting = refl }

pub one_start : IsOne Start
one_start = record { positions = refl; nesting = refl }

pub one_end : IsOne End
one_end = record { positions = refl; nesting = refl }
