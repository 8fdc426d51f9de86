-- Answers that are the same but for lanes: what an unboxed name has is a value.
use Rattle.std.specs.Prelude.{◌≡◌, List, [], ◌∷◌}
use Rattle.sem_scripts.specs.ScriptState.{Outcome, Gives, Stops}
use Rattle.mid_program.specs.Mid.{Kind, Form, PrimitiveAnswer, NumberOrText, OptionalNumber, a_value}
use Rattle.mid_program.specs.MidMeaning.{Holds}
use Rattle.mid_program.specs.Sorted.{is_many}

abbrev pub erased : Form → Form
erased (PrimitiveAnswer a) = PrimitiveAnswer a
erased NumberOrText = a_value
erased OptionalNumber = OptionalNumber

abbrev pub as_boxed : (f : Form) → Holds f → Holds (erased f)
as_boxed (PrimitiveAnswer a) x = x
as_boxed NumberOrText x = x
as_boxed OptionalNumber x = x

abbrev pub Seen : Type 0
Seen = (f : Form) × Holds f

abbrev pub seen : (f : Form) → Holds f → Seen
seen f x = (erased f, as_boxed f x)

abbrev pub Alike : (f g : Form) → Holds f → Holds g → Type 0
Alike f g x y = seen f x ≡ seen g y

-- outcomes that are alike: the same state, and answers that are; or the same stop
abbrev pub LikeR : {A B : Type 0} → (A → B → Type 0) → Outcome A → Outcome B → Type 0
LikeR R (Gives a s) (Gives b t) = R a b × (s ≡ t)
LikeR R (Stops y s) (Stops z t) = (y ≡ z) × (s ≡ t)
LikeR R _ _ = ⊥

-- lists of kinds that say the same of arrays
abbrev pub AlikeKinds : List Kind → List Kind → Type 0
AlikeKinds [] [] = Unit {0}
AlikeKinds (k ∷ ks) (j ∷ js) = (is_many k ≡ is_many j) × AlikeKinds ks js
AlikeKinds _ _ = ⊥
