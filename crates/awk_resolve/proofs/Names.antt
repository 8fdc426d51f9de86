-- Names and variables of the code, as the definitions see them.
use Rattle.std.proofs.Common.{◌≡◌, ℕ, ◌+◌, ◌<◌, length, drop, get_or, drop-cons, add-one, Bool, true, false, ◌||◌, ◌&&◌, List, [], ◌∷◌, ◌++◌, Option, Some, None, refl, ap, sym, ◌∙◌, subst, not, if◌then◌else◌, is_some, true≢false}
use Rattle.std.specs.Borrow.{Bor}
use Rattle.std.specs.Cmp.Lexicographic.{bytes_decides}
use Rattle.std.specs.List.{list_any}
use Rattle.std.proofs.Math.Bool.{or-true, or-false, or_assoc}
use Rattle.std.proofs.lemmas.List.Folds.{list_any-append}
use Rattle.indexmap.specs.IndexSet.{insert_key}
use Rattle.awk_grammar.specs.Kinds.{special_arrays, special_scalars, specials, has_name, Key, Whole as WholeKey, Inside as InsideKey, same_name, same_key, with_key, with_keys}
use Rattle.awk_resolve.specs.ViewNames.{names, view_variable, view_variables}
use Rattle.awk_resolve.specs.declared.scopes.Variable.{Variable}
use Rattle.awk_resolve.specs.declared.scopes.Variable.TheVariants.{Whole, Inside}
use Rattle.awk_resolve.specs.contracts.scopes.VariablePartialEq.TheImpl.{eq-value}

pub same_sound : (a b : List ℕ) → same_name a b ≡ true → a ≡ b
same_sound a b h = (bytes_decides a b).0 h

pub same_refl : (a : List ℕ) → same_name a a ≡ true
same_refl a = (bytes_decides a a).1 refl

and_true : (a b : Bool) → (a && b) ≡ true → (a ≡ true) × (b ≡ true)
and_true true b h = (refl, h)
and_true false b h = absurd (true≢false (sym h))

-- The code's equality of variables.

pub same_is : (v w : Variable) → eq-value.it v w ≡ same_key (view_variable v) (view_variable w)
same_is (Whole x) (Whole y) = refl
same_is (Whole x) (Inside g y) = refl
same_is (Inside f x) (Whole y) = refl
same_is (Inside f x) (Inside g y) = refl

pub any_is : (v : Variable) (vs : List Variable) → list_any (eq-value.it v) vs ≡ list_any (same_key (view_variable v)) (view_variables vs)
any_is v [] = refl
any_is v (w ∷ vs) = ap (λ (b : Bool). b || list_any (eq-value.it v) vs) (same_is v w) ∙ ap (λ (b : Bool). same_key (view_variable v) (view_variable w) || b) (any_is v vs)

views_append : (vs ws : List Variable) → view_variables (vs ++ ws) ≡ view_variables vs ++ view_variables ws
views_append [] ws = refl
views_append (v ∷ vs) ws = ap (λ (u : List Key). view_variable v ∷ u) (views_append vs ws)

insert_by : (b : Bool) (vs : List Variable) (v : Variable) → view_variables (if b then vs else vs ++ v ∷ []) ≡ (if b then view_variables vs else view_variables vs ++ view_variable v ∷ [])
insert_by true vs v = refl
insert_by false vs v = views_append vs (v ∷ [])

pub insert_is : (vs : List Variable) (v : Variable) → view_variables (insert_key eq-value.it vs v) ≡ with_key (view_variables vs) (view_variable v)
insert_is vs v = insert_by (list_any (eq-value.it v) vs) vs v ∙ ap (λ (b : Bool). if b then view_variables vs else view_variables vs ++ view_variable v ∷ []) (any_is v vs)

-- Lists of variables without repetition.

pub key_sound : (k l : Key) → same_key k l ≡ true → k ≡ l
key_sound (WholeKey x) (WholeKey y) h = ap WholeKey (same_sound x y h)
key_sound (WholeKey x) (InsideKey g y) h = absurd (true≢false (sym h))
key_sound (InsideKey f x) (WholeKey y) h = absurd (true≢false (sym h))
key_sound (InsideKey f x) (InsideKey g y) h = let b = and_true (same_name f g) (same_name x y) h in ap (λ (u : List ℕ). InsideKey u x) (same_sound f g b.0) ∙ ap (InsideKey g) (same_sound x y b.1)

pub key_refl : (k : Key) → same_key k k ≡ true
key_refl (WholeKey x) = same_refl x
key_refl (InsideKey f x) = ap (λ (b : Bool). b && same_name x x) (same_refl f) ∙ same_refl x

-- an element that is there already adds nothing
there : (k : Key) (ks : List Key) (l : Key) (b : Bool) → same_key k l ≡ b → list_any (same_key l) ks ≡ true → list_any (same_key k) ks ≡ (list_any (same_key k) ks || b)
there k ks l true same any = let h : list_any (same_key k) ks ≡ true = subst (λ (u : Key). list_any (same_key u) ks ≡ true) (sym (key_sound k l same)) any in h ∙ sym (or-true (list_any (same_key k) ks))
there k ks l false same any = sym (or-false (list_any (same_key k) ks))

any_with_by : (k : Key) (ks : List Key) (l : Key) (b : Bool) → list_any (same_key l) ks ≡ b → list_any (same_key k) (if b then ks else ks ++ l ∷ []) ≡ (list_any (same_key k) ks || same_key k l)
any_with_by k ks l true any = there k ks l (same_key k l) refl any
any_with_by k ks l false any = list_any-append (same_key k) ks (l ∷ []) ∙ ap (λ (b : Bool). list_any (same_key k) ks || b) (or-false (same_key k l))

pub any_with_key : (k : Key) (ks : List Key) (l : Key) → list_any (same_key k) (with_key ks l) ≡ (list_any (same_key k) ks || same_key k l)
any_with_key k ks l = any_with_by k ks l (list_any (same_key l) ks) refl

pub any_with_keys : (k : Key) (ks ls : List Key) → list_any (same_key k) (with_keys ks ls) ≡ (list_any (same_key k) ks || list_any (same_key k) ls)
any_with_keys k ks [] = sym (or-false (list_any (same_key k) ks))
any_with_keys k ks (l ∷ ls) = any_with_keys k (with_key ks l) ls ∙ ap (λ (b : Bool). b || list_any (same_key k) ls) (any_with_key k ks l) ∙ or_assoc (list_any (same_key k) ks) (same_key k l) (list_any (same_key k) ls)

pub with_keys_append : (ks ls ms : List Key) → with_keys ks (ls ++ ms) ≡ with_keys (with_keys ks ls) ms
with_keys_append ks [] ms = refl
with_keys_append ks (l ∷ ls) ms = with_keys_append (with_key ks l) ls ms

abbrev pub is_for : List ℕ → Bor (List ℕ) → Bool
is_for f k = same_name f k.now

pub absent : {A : Type 0} (o : Option A) → is_some o ≡ false → o ≡ None
absent None h = refl
absent (Some x) h = absurd (true≢false h)

-- the element at a place, and the rest
pub drop_any : {A : Type 0} (xs : List A) (i : ℕ) (d : A) → i < length xs → drop i xs ≡ get_or xs i d ∷ drop (i + 1) xs
drop_any xs i d le = drop-cons xs i d le ∙ ap (λ (u : ℕ). get_or xs i d ∷ drop u xs) (sym (add-one i))

pub drop_at : {A : Type 0} (xs : List A) (i : ℕ) (x : A) → i < length xs → x ≡ get_or xs i x → drop i xs ≡ x ∷ drop (i + 1) xs
drop_at xs i x le is = drop_any xs i x le ∙ ap (λ y. y ∷ drop (i + 1) xs) (sym is)

pub special_is : (x : List ℕ) → has_name specials x ≡ (has_name special_arrays x || has_name special_scalars x)
special_is x = list_any-append (same_name x) special_arrays special_scalars

-- an element that was added is one that was not there
pub not_added : (added s t : Bool) → added ≡ not t → s ≡ false → not added ≡ (s || t)
not_added added s true e f = ap not e ∙ sym (ap (λ (b : Bool). b || true) f)
not_added added s false e f = ap not e ∙ sym (ap (λ (b : Bool). b || false) f)

pub names_any : (x : Bor (List ℕ)) (ks : List (Bor (List ℕ))) → list_any (is_for x.now) ks ≡ has_name (names ks) x.now
names_any x [] = refl
names_any x (k ∷ ks) = ap (λ (b : Bool). same_name x.now k.now || b) (names_any x ks)
