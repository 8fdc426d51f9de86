-- What is known to be written, of two writes in turn and of none.
use Rattle.std.proofs.Common.{◌≡◌, ◌∙◌, ℕ, List, [], ◌++◌, Option, None, Some, ap, append_assoc, append-nil, sym}
use Rattle.std.specs.Io.KnownBytes.{Appends}

pub both : (old mid new : Option (List ℕ)) (first second : List ℕ) → Appends old mid first → Appends mid new second → Appends old new (first ++ second)
both None mid new first second one two = tt
both (Some xs) None new first second one two = absurd one
both (Some xs) (Some ys) None first second one two = absurd two
both (Some xs) (Some ys) (Some zs) first second one two = two ∙ ap (λ (l : List ℕ). l ++ second) one ∙ append_assoc xs first second

pub none : (old : Option (List ℕ)) → Appends old old []
none None = tt
none (Some xs) = sym (append-nil xs)
