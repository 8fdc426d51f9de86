-- The step that a token takes.
use Rattle.std.specs.Prelude.{◌≡◌, ℕ, ◌+◌, ◌-◌, ◌<◌, ◌||◌, ◌==◌, if◌then◌else◌, Option, Some, None, Result, Ok, Err, List, [], ◌∷◌}
use Rattle.ere_syntax.specs.Tree.{Token, Atom, Begin, Stop, Open, Close, Bar, Times, Set, Start, End, Group, most_ere_nesting}
use Rattle.ere_syntax.specs.Reading.{◌>>=◌, Frame, fresh, put, bar, finish, repeated, has_some, takes_times, IsNeat, AreNeat}
use Rattle.ere_syntax.specs.Bracket.{not}
use Rattle.ere_syntax.specs.Sizes.{frame_deep, reached}
use Rattle.ere_syntax.specs.Frames.{frame_view, IsSized}
use Rattle.ere_syntax.specs.declared.check.Last.{Last}
use Rattle.ere_syntax.specs.declared.check.Last.TheVariants.{Nothing, Anchor, Piece}
use Rattle.ere_syntax.specs.declared.frame.Frame.{Frame as CodeFrame}
use Rattle.ere_syntax.specs.declared.fault.EreFault.{EreFault}
use Rattle.ere_syntax.specs.declared.fault.EreFault.TheVariants.{BadEre, EreTooLarge, NoMemory}

-- the open groups behind a token
abbrev pub opened_by : Token → ℕ → ℕ
opened_by Open n = n + 1
opened_by Close n = n - 1
opened_by _ n = n

-- the open groups and the last piece's kind behind a token, where it may stand here
abbrev pub follow_by : Token → ℕ → Last → Option (ℕ × Last)
follow_by (Atom s) n l = Some (n, Piece)
follow_by Begin n l = Some (n, Anchor)
follow_by Stop n l = Some (n, Piece)
follow_by Open n l = Some (n + 1, Nothing)
follow_by Close n l = if (n == 0) || not (has_some l) then None else Some (n - 1, Piece)
follow_by Bar n l = if has_some l then Some (n, Nothing) else None
follow_by (Times low high) n l = if takes_times l then Some (n, Piece) else None

abbrev pub SpecFrame : Type 0
SpecFrame = Frame

-- the open groups' frames and the frame at hand behind a token, where it may stand here
abbrev pub closing_step : List Frame → Frame → Option (List Frame × Frame)
closing_step [] f = None
closing_step (g ∷ stack) f = finish f >>= λ t. Some (stack, put g (Group t))

abbrev pub opening_step : List Frame → Frame → Option (List Frame × Frame)
opening_step stack f = Some (f ∷ stack, fresh)

abbrev pub stepped : Token → List Frame → Frame → Option (List Frame × Frame)
stepped (Atom s) stack f = Some (stack, put f (Set s))
stepped Begin stack f = Some (stack, put f Start)
stepped Stop stack f = Some (stack, put f End)
stepped Open stack f = opening_step stack f
stepped Close stack f = closing_step stack f
stepped Bar stack f = bar f >>= λ g. Some (stack, g)
stepped (Times low high) stack f = repeated f low high >>= λ g. Some (stack, g)

-- the code's stack has its top at the end
abbrev pub onto : List Frame → List CodeFrame → List Frame
onto stack [] = stack
onto stack (f ∷ fs) = onto (frame_view f ∷ stack) fs

abbrev pub stack_view : List CodeFrame → List Frame
stack_view fs = onto [] fs

abbrev pub AreSized : List CodeFrame → Type 0
AreSized [] = Unit {0}
AreSized (f ∷ fs) = IsSized f × AreSized fs

-- what holds before a step
pub record AreReady (stack : List CodeFrame) (frame : CodeFrame) : Type 0 where
  pub neat : AreNeat (stack_view stack)
  pub frame_neat : IsNeat (frame_view frame)
  pub sized : AreSized stack
  pub frame_sized : IsSized frame

-- the frame after a step that leaves the stack
pub record IsFrameOf (g : Frame) (frame : CodeFrame) : Type 0 where
  pub view : frame_view frame ≡ g
  pub sized : IsSized frame

abbrev pub FrameAnswer : Frame → Result (Option CodeFrame) EreFault → Type 0
FrameAnswer g (Ok (Some frame)) = IsFrameOf g frame
FrameAnswer g (Ok None) = ⊥
FrameAnswer g (Err EreTooLarge) = most_ere_nesting < frame_deep g
FrameAnswer g (Err NoMemory) = Unit {0}
FrameAnswer g (Err (BadEre place)) = ⊥

-- the stack and the frame after a step
pub record IsStepOf (x : List Frame × Frame) (stack : List CodeFrame) (frame : CodeFrame) : Type 0 where
  pub below : stack_view stack ≡ x.0
  pub view : frame_view frame ≡ x.1
  pub sized : AreSized stack
  pub frame_sized : IsSized frame

abbrev pub StepAnswer : List Frame × Frame → List CodeFrame → Result (Option CodeFrame) EreFault → Type 0
StepAnswer x stack (Ok (Some frame)) = IsStepOf x stack frame
StepAnswer x stack (Ok None) = ⊥
StepAnswer x stack (Err EreTooLarge) = most_ere_nesting < reached x.0 x.1
StepAnswer x stack (Err NoMemory) = Unit {0}
StepAnswer x stack (Err (BadEre place)) = ⊥
