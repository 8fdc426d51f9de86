-- The texts of a script's constants stand among the texts of its code.
use Rattle.std.proofs.Common.{◌≡◌, ℕ, suc, Bool, true, false, List, [], ◌∷◌, ◌++◌, get_or, refl, sym, ◌∙◌, true≢false}
use Rattle.std.specs.Prelude.{if◌then◌else◌}
use Rattle.std.proofs.lemmas.Slice.Eq.{bytes_eq-Decides}
use Rattle.awk_grammar.specs.Token.{Number, Quoted, Ere}
use Rattle.awk_grammar.specs.Trees.{Tree, Leaf, Group}
use Rattle.sem_scripts.specs.Names.{Resolved, same_name}
use Rattle.sem_scripts.specs.Steps.{ere_in}
use Rattle.mid_program.specs.Texts.{texts_in, has_text, once, text_place, texts_of_script, items_texts, functions_texts}

-- the text stands among the texts
abbrev pub Stands : List (List ℕ) → List ℕ → Type 0
Stands texts t = get_or texts (text_place texts t) [] ≡ t

abbrev pub AllStand : List (List ℕ) → List (List ℕ) → Type 0
AllStand texts [] = Unit {0}
AllStand texts (t ∷ ts) = Stands texts t × AllStand texts ts

pub first_part : (texts a b : List (List ℕ)) → AllStand texts (a ++ b) → AllStand texts a
first_part texts [] b h = tt
first_part texts (t ∷ a) b h = (h.0, first_part texts a b h.1)

pub second_part : (texts a b : List (List ℕ)) → AllStand texts (a ++ b) → AllStand texts b
second_part texts [] b h = h
second_part texts (t ∷ a) b h = second_part texts a b h.1

pub both_parts : (texts a b : List (List ℕ)) → AllStand texts a → AllStand texts b → AllStand texts (a ++ b)
both_parts texts [] b h k = k
both_parts texts (t ∷ a) b h k = (h.0, both_parts texts a b h.1 k)

-- an ERE token as an operand is a text of the operand
abbrev pub EreStands : List (List ℕ) → List (List ℕ) → Type 0
EreStands texts [] = Unit {0}
EreStands texts (t ∷ ts) = Stands texts t

pub ere_stands : (texts : List (List ℕ)) (t : Tree) → AllStand texts (texts_in t) → EreStands texts (ere_in t)
unfolding texts_in
ere_stands texts (Leaf (Ere x)) h = h.0
ere_stands texts (Leaf (Number x)) h = tt
ere_stands texts (Leaf (Quoted x)) h = tt
ere_stands texts (Group t) h = ere_stands texts t h
ere_stands texts t h = tt

-- what is there stands

stands_by : (texts : List (List ℕ)) (s t : List ℕ) (b : Bool) → same_name s t ≡ b → (has_text texts t ≡ true → Stands texts t) → (if b then true else has_text texts t) ≡ true →
    get_or (s ∷ texts) (if b then 0 else suc (text_place texts t)) [] ≡ t
stands_by texts s t true e h f = (bytes_eq-Decides s t).0 e
stands_by texts s t false e h f = h f

there_stands : (texts : List (List ℕ)) (t : List ℕ) → has_text texts t ≡ true → Stands texts t
there_stands [] t e = absurd (true≢false (sym e))
there_stands (s ∷ texts) t e = stands_by texts s t (same_name s t) refl (there_stands texts t) e

-- what is known stays known, and each text becomes known

kept_known_by : (known : List (List ℕ)) (s t u : List ℕ) (b : Bool) → (has_text known t ≡ true → has_text (known ++ (u ∷ [])) t ≡ true) → (if b then true else has_text known t) ≡ true → (if b then true else has_text (known ++ (u ∷ [])) t) ≡ true
kept_known_by known s t u true h e = refl
kept_known_by known s t u false h e = h e

kept_known : (known : List (List ℕ)) (t u : List ℕ) → has_text known t ≡ true → has_text (known ++ (u ∷ [])) t ≡ true
kept_known [] t u e = absurd (true≢false (sym e))
kept_known (s ∷ known) t u e = kept_known_by known s t u (same_name s t) (kept_known known t u) e

new_known_by : (b c : Bool) → c ≡ true → (if b then true else c) ≡ true
new_known_by true c e = refl
new_known_by false c e = e

one_known_by : (t : List ℕ) (b : Bool) → same_name t t ≡ b → (if b then true else false) ≡ true
one_known_by t true e = refl
one_known_by t false e = absurd (true≢false (sym ((bytes_eq-Decides t t).1 refl) ∙ e))

new_known : (known : List (List ℕ)) (t : List ℕ) → has_text (known ++ (t ∷ [])) t ≡ true
new_known [] t = one_known_by t (same_name t t) refl
new_known (s ∷ known) t = new_known_by (same_name s t) (has_text (known ++ (t ∷ [])) t) (new_known known t)

once_keeps_by : (known ts : List (List ℕ)) (u t : List ℕ) (b : Bool) → ((known1 : List (List ℕ)) → has_text known1 t ≡ true → has_text (once known1 ts) t ≡ true) → has_text known t ≡ true → has_text (if b then once known ts else once (known ++ (u ∷ [])) ts) t ≡ true
once_keeps_by known ts u t true h e = h known e
once_keeps_by known ts u t false h e = h (known ++ (u ∷ [])) (kept_known known t u e)

once_keeps : (known ts : List (List ℕ)) (t : List ℕ) → has_text known t ≡ true → has_text (once known ts) t ≡ true
once_keeps known [] t e = e
once_keeps known (u ∷ ts) t e = once_keeps_by known ts u t (has_text known u) (λ known1. once_keeps known1 ts t) e

first_once : (known ts : List (List ℕ)) (t : List ℕ) (b : Bool) → has_text known t ≡ b → has_text (if b then once known ts else once (known ++ (t ∷ [])) ts) t ≡ true
first_once known ts t true e = once_keeps known ts t e
first_once known ts t false e = once_keeps (known ++ (t ∷ [])) ts t (new_known known t)

-- all texts of a list stand among those that are kept once
all_once_by : (known ts : List (List ℕ)) (t : List ℕ) (b : Bool) → ((known1 : List (List ℕ)) → AllStand (once known1 ts) ts) → AllStand (if b then once known ts else once (known ++ (t ∷ [])) ts) ts
all_once_by known ts t true h = h known
all_once_by known ts t false h = h (known ++ (t ∷ []))

all_once : (known ts : List (List ℕ)) → AllStand (once known ts) ts
all_once known [] = tt
all_once known (t ∷ ts) = (there_stands (once known (t ∷ ts)) t (first_once known ts t (has_text known t) refl), all_once_by known ts t (has_text known t) (λ known1. all_once known1 ts))

pub all_stand : (script : Resolved) → AllStand (texts_of_script script) (items_texts script.items ++ functions_texts script.functions)
all_stand script = all_once [] (items_texts script.items ++ functions_texts script.functions)
