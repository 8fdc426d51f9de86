-- What holds of a job, a fence or a script holds of those that they are.
use Rattle.std.proofs.Common.{◌≡◌, subst}

pub moved : {J F : Type 0} (P : J → F → Type 0) {i j : J} {f g : F} → i ≡ j → f ≡ g → P i f → P j g
moved P {i} {j} {f} {g} same alike holds = subst (λ n. P j n) alike (subst (λ n. P n f) same holds)

pub at : {X : Type 0} (P : X → Type 0) {x y : X} → x ≡ y → P x → P y
at P same holds = subst P same holds
