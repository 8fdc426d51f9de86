-- The globals that lend their values: code stores nothing into them, and reads no main input.
use Rattle.std.proofs.Common.{◌≡◌, ℕ, zero, suc, Bool, true, false, not, ◌&&◌, ◌||◌, List, [], ◌∷◌, length, get_or, Option, Some, None, nat_eq, refl, sym, ap, ◌∙◌}
use Rattle.std.proofs.lemmas.Bool.{eqb-true}
use Rattle.std.proofs.lemmas.Option.{none-some}
use Rattle.mid_program.specs.Mid.{Kind, Unboxed, Global, Parameter, Program, parameters_at}
use Rattle.mid_program.specs.Sorted.{are_lenders, has_kind, has_lender, lender_at, lends}
use Rattle.mid_program.specs.Stores.{Store, Into, Given, Asked}
use Rattle.value_kinds.specs.Applied.{is_unboxed, lenders_with}
use Rattle.value_kinds.specs.Found.{Throughout}
use Rattle.value_kinds.specs.Lanes.{Scan, any_unboxed, by_place, granted, lenders_of, none_wished, numbers_alone, only_if, scanned, seen, unseen, wish_at}
use Rattle.value_kinds.proofs.Boxed.{at_closed, close_below}
use Rattle.value_kinds.proofs.Forms.{clash}
use Rattle.value_kinds.proofs.Visits.{visits_below, visits_kept}

-- lists by places

by_place_at : (w : ℕ → Option ℕ → Option ℕ) → ((i : ℕ) → w i None ≡ None) → (os : List (Option ℕ)) (i : ℕ) → lender_at (by_place w os) i ≡ w i (lender_at os i)
by_place_at w n [] i = sym (n i)
by_place_at w n (o ∷ os) zero = refl
by_place_at w n (o ∷ os) (suc i) = by_place_at (λ j. w (suc j)) (λ j. n (suc j)) os i

by_place_length : (w : ℕ → Option ℕ → Option ℕ) (os : List (Option ℕ)) → length (by_place w os) ≡ length os
by_place_length w [] = refl
by_place_length w (o ∷ os) = ap suc (by_place_length (λ j. w (suc j)) os)

-- a list that is as long takes all lenders
lenders_again : (ls os : List (Option ℕ)) → length ls ≡ length os → lenders_with (lender_at ls) os ≡ ls
lenders_again [] [] h = refl
lenders_again [] (o ∷ os) h = absurd cc
lenders_again (l ∷ ls) [] h = absurd cc
lenders_again (l ∷ ls) (o ∷ os) h = ap (λ (ms : List (Option ℕ)). l ∷ ms) (lenders_again ls os (ap rest h))
  where
    rest : ℕ → ℕ
    rest zero = zero
    rest (suc n) = n

pub lender_with : (lender : ℕ → Option ℕ) (os : List (Option ℕ)) (i : ℕ) → lender i ≡ None → lender_at (lenders_with lender os) i ≡ None
lender_with lender [] i h = refl
lender_with lender (o ∷ os) zero h = h
lender_with lender (o ∷ os) (suc i) h = lender_with (λ j. lender (suc j)) os i h

-- what is said of each lender

pub not_lent : (ls : List (Option ℕ)) (g : ℕ) → ((i : ℕ) → lender_at ls i ≡ Some g → ⊥) → lends ls g ≡ false
not_lent [] g h = refl
not_lent (None ∷ ls) g h = not_lent ls g (λ i. h (suc i))
not_lent (Some k ∷ ls) g h = by (nat_eq g k) refl (not_lent ls g (λ i. h (suc i)))
  where
    by : (b : Bool) → nat_eq g k ≡ b → lends ls g ≡ false → (nat_eq g k || lends ls g) ≡ false
    by true e rest = absurd (h zero (ap Some (sym (eqb-true g k e))))
    by false e rest = ap (λ (b : Bool). b || lends ls g) e ∙ rest

pub none_lends : (ls : List (Option ℕ)) → ((i g : ℕ) → lender_at ls i ≡ Some g → ⊥) → has_lender ls ≡ false
none_lends [] h = refl
none_lends (None ∷ ls) h = none_lends ls (λ i. h (suc i))
none_lends (Some g ∷ ls) h = absurd (h zero g refl)

pub all_lend : (ks : List Kind) (ls : List (Option ℕ)) → ((i g : ℕ) → lender_at ls i ≡ Some g → has_kind ks g Unboxed ≡ true) → are_lenders ks ls ≡ true
all_lend ks [] h = refl
all_lend ks (None ∷ ls) h = all_lend ks ls (λ i. h (suc i))
all_lend ks (Some g ∷ ls) h = (λ i. h zero g refl i && are_lenders ks ls) ∙ all_lend ks ls (λ i. h (suc i))

-- what is granted

any_there : (kss : List (List Kind)) (f i : ℕ) → is_unboxed (parameters_at kss f) i ≡ true → any_unboxed kss i ≡ true
any_there [] f i h = clash h
any_there (ks ∷ kss) zero i h = ap (λ (b : Bool). b || any_unboxed kss i) h
any_there (ks ∷ kss) (suc f) i h = either (is_unboxed ks i) (any_there kss f i h)
  where
    either : (b : Bool) → any_unboxed kss i ≡ true → (b || any_unboxed kss i) ≡ true
    either true e = refl
    either false e = e

refused : (asked : Bool) (ks : List Kind) (bs : List Bool) (kss : List (List Kind)) (i : ℕ) (o : Option ℕ) → any_unboxed kss i ≡ true → granted asked ks bs kss i o ≡ None
refused asked ks bs kss i None h = refl
refused asked ks bs kss i (Some g) h = ap (λ (b : Bool). only_if (not asked && (get_or bs i false && (has_kind ks g Unboxed && not b))) g) h ∙ never asked (get_or bs i false) (has_kind ks g Unboxed)
  where
    never : (a n b : Bool) → only_if (not a && (n && (b && not true))) g ≡ None
    never true n b = refl
    never false false b = refl
    never false true true = refl
    never false true false = refl

granted_says : (asked : Bool) (ks : List Kind) (bs : List Bool) (kss : List (List Kind)) (i g : ℕ) (o : Option ℕ) → granted asked ks bs kss i o ≡ Some g → (asked ≡ false) × (is_unboxed ks g ≡ true)
granted_says asked ks bs kss i g None h = absurd (none-some g h)
granted_says asked ks bs kss i g (Some k) h = by asked (get_or bs i false) (has_kind ks k Unboxed) (any_unboxed kss i) refl h
  where
    or_that : Option ℕ → ℕ
    or_that None = k
    or_that (Some j) = j

    by : (a n b c : Bool) → has_kind ks k Unboxed ≡ b → only_if (not a && (n && (b && not c))) k ≡ Some g → (a ≡ false) × (is_unboxed ks g ≡ true)
    by true n b c q e = absurd (none-some g e)
    by false false b c q e = absurd (none-some g e)
    by false true false c q e = absurd (none-some g e)
    by false true true true q e = absurd (none-some g e)
    by false true true false q e = (refl, ap (is_unboxed ks) (sym (ap or_that e)) ∙ q)

-- the scan goes on: a global that is free in the second is so in the first

record Onward (s t : Scan) : Type 0 where
  free : (i : ℕ) → is_unboxed t.free i ≡ true → is_unboxed s.free i ≡ true
  asked : s.asked ≡ true → t.asked ≡ true
  places : length t.wishes ≡ length s.wishes

onward_self : (s : Scan) → Onward s s
onward_self s = record { free = λ i h. h; asked = λ h. h; places = refl }

onward_then : (s t u : Scan) → Onward s t → Onward t u → Onward s u
onward_then s t u a b = record { free = λ i h. a.free i (b.free i h); asked = λ h. b.asked (a.asked h); places = b.places ∙ a.places }

wish_length : (os : List (Option ℕ)) (i g : ℕ) → length (wish_at os i g) ≡ length os
wish_length [] i g = refl
wish_length (o ∷ os) zero g = refl
wish_length (o ∷ os) (suc i) g = ap suc (wish_length os i g)

seen_onward : (g : ℕ) (s : Scan) (x : Store) → Onward s (seen g s x)
seen_onward g s (Into (Global u i) o f) = record { free = λ j h. close_below s.free i j h; asked = λ h. h; places = refl }
seen_onward g s (Into (Parameter u i) o f) = onward_self s
seen_onward g s (Given h i None f) = record { free = λ k e. e; asked = λ e. e; places = refl }
seen_onward g s (Given h i (Some (Global u j)) f) = record { free = λ k e. e; asked = λ e. e; places = wish_length s.wishes i j }
seen_onward g s (Given h i (Some (Parameter u j)) f) = record { free = λ k e. e; asked = λ e. e; places = refl }
seen_onward g s Asked = record { free = λ i h. h; asked = λ h. refl; places = refl }

-- what is stored into is not free, and what is read was asked
abbrev pub Noticed : Scan → ℕ → Store → Type 0
Noticed s g (Into (Global u i) o f) = is_unboxed s.free i ≡ true → ⊥
Noticed s g (Into (Parameter u i) o f) = Unit {0}
Noticed s g (Given h i o f) = Unit {0}
Noticed s g Asked = s.asked ≡ true

noticed_onward : (s t : Scan) (g : ℕ) (x : Store) → Onward s t → Noticed s g x → Noticed t g x
noticed_onward s t g (Into (Global u i) o f) a n = λ h. n (a.free i h)
noticed_onward s t g (Into (Parameter u i) o f) a n = tt
noticed_onward s t g (Given h i o f) a n = tt
noticed_onward s t g Asked a n = a.asked n

noticed : (g : ℕ) (s : Scan) (x : Store) → Noticed (seen g s x) g x
noticed g s (Into (Global u i) o f) = at_closed s.free i
noticed g s (Into (Parameter u i) o f) = tt
noticed g s (Given h i o f) = tt
noticed g s Asked = refl

none_length : (os : List (Option ℕ)) → length (none_wished os) ≡ length os
none_length [] = refl
none_length (o ∷ os) = ap suc (none_length os)

module _ (p : Program) where
  scan_onward : Onward (unseen p) (scanned p)
  scan_onward = visits_below seen Onward onward_self onward_then seen_onward (unseen p) p

  pub scan_noticed : Throughout (Noticed (scanned p)) p
  scan_noticed = visits_kept seen Onward onward_self onward_then seen_onward Noticed noticed_onward noticed (unseen p) p

  -- a free global was there
  pub free_opened : (i : ℕ) → is_unboxed (scanned p).free i ≡ true → is_unboxed (unseen p).free i ≡ true
  free_opened i h = scan_onward.free i h

  abbrev grants : ℕ → Option ℕ → Option ℕ
  grants = granted (scanned p).asked (scanned p).free (scanned p).numbered (numbers_alone p).parameters

  lender_is : (i : ℕ) → lender_at (lenders_of p) i ≡ grants i (lender_at (scanned p).wishes i)
  lender_is i = by_place_at grants (λ j. refl) (scanned p).wishes i

  pub lender_says : (i g : ℕ) → lender_at (lenders_of p) i ≡ Some g → ((scanned p).asked ≡ false) × (is_unboxed (scanned p).free g ≡ true)
  lender_says i g h = granted_says (scanned p).asked (scanned p).free (scanned p).numbered (numbers_alone p).parameters i g (lender_at (scanned p).wishes i) (sym (lender_is i) ∙ h)

  -- nothing lends where a parameter of numbers is
  pub no_lender : (f i : ℕ) → is_unboxed (parameters_at (numbers_alone p).parameters f) i ≡ true → lender_at (lenders_of p) i ≡ None
  no_lender f i h =
      lender_is i ∙ refused (scanned p).asked (scanned p).free (scanned p).numbered (numbers_alone p).parameters i (lender_at (scanned p).wishes i) (any_there (numbers_alone p).parameters f i h)

  pub lenders_stay : lenders_with (lender_at (lenders_of p)) p.lenders ≡ lenders_of p
  lenders_stay = lenders_again (lenders_of p) p.lenders (by_place_length grants (scanned p).wishes ∙ scan_onward.places ∙ none_length p.lenders)
