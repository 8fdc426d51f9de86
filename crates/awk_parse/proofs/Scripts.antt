-- Reading the items of a script in a loop.
use Rattle.std.proofs.Common.{◌≡◌, ℕ, suc, ◌+◌, ◌-◌, ◌<◌, Option, Some, None, List, [], ◌∷◌, ◌++◌, length, Result, Ok, Err, refl, sym, ap, subst, ◌∙◌, arith, append_assoc}
use Rattle.std.proofs.lemmas.List.{append-nil}
use Rattle.awk_grammar.specs.Token.{Token, Name, OpenBrace, Semicolon}
use Rattle.awk_grammar.specs.Reading.{Fault, Syntax, ◌>>=◌, name_at}
use Rattle.awk_grammar.specs.Trees.{Item, Pattern, When, Lone}
use Rattle.awk_grammar.specs.ReadStmt.{Read, stmt_at, stmts_at, semicolon_at}
use Rattle.awk_grammar.specs.ReadItem.{function_by, function_at, body_at, action_at, item_at, items_at, script_at}
use Rattle.awk_grammar.specs.ViewStmt.{view_item, view_items}
use Rattle.awk_grammar.specs.declared.tree.Item.{Item as ScriptItem}
use Rattle.awk_grammar.proofs.Sound.{ok_is, name_ok}
use Rattle.awk_parse.specs.declared.refusal.Refusal.{Refusal}
use Rattle.awk_parse.specs.declared.refusal.Refusal.TheVariants.{Syntax as SyntaxRefusal}
use Rattle.awk_parse.specs.Seen.{Fails}
use Rattle.awk_parse.specs.Marks.{open_brace_at}
use Rattle.awk_parse.specs.Parsed.{At, stands, ended, Parsed, Ends, is_read}
use Rattle.awk_parse.proofs.ParsedLemmas.{then, then_ends, stays, all_came, fails_all, ends_as}

pub body_some : (d : ℕ) (ts us : List Token) → open_brace_at ts ≡ Some us → body_at d ts ≡ stmts_at (stmt_at d) (length us) us
body_some d (OpenBrace ∷ ts) us e = let q : ts ≡ us = cc in rw q refl
body_some d _ us e = absurd cc

pub body_none : (d : ℕ) (ts : List Token) → open_brace_at ts ≡ None → body_at d ts ≡ Err Syntax
body_none d (OpenBrace ∷ ts) e = absurd cc
body_none d _ e = refl

pub action_lone : (d : ℕ) (p : Pattern) (ts us : List Token) → semicolon_at ts ≡ Ok us → action_at d p ts ≡ Ok (Lone p, us)
action_lone d p (Semicolon ∷ ts) us e = ap (λ (vs : List Token). Ok (Lone p, vs)) (ok_is ts us e)
action_lone d p _ us e = absurd cc

pub action_when : (d : ℕ) (p : Pattern) (ts : List Token) → semicolon_at ts ≡ Err Syntax → action_at d p ts ≡ (body_at d ts >>= λ x. Ok (When p x.0, x.1))
action_when d p (Semicolon ∷ ts) e = absurd cc
action_when d p _ e = refl

pub function_named : (d : ℕ) (ts : List Token) (x : List ℕ × List Token) → name_at ts ≡ Ok x → function_at d ts ≡ function_by d x.0 x.1
function_named d ts x e = ap (function_at d) (name_ok ts x e)

pub function_none : (d : ℕ) (ts : List Token) → name_at ts ≡ Err Syntax → function_at d ts ≡ Err Syntax
function_none d (Name n ∷ ts) e = absurd cc
function_none d _ e = refl

-- ---- items

-- items and one more
abbrev one_item : List Item → List Token → Read (List Item)
one_item front ts = item_at 1000 ts >>= λ x. Ok (front ++ (x.0 ∷ []), x.1)

abbrev pub Items : Type 0
Items = Result (List Item) Fault

abbrev pub with_items : List Item → Items → Items
with_items front read = read >>= λ y. Ok (front ++ y)

pub items_end : (d : ℕ) (front : List Item) (i n : ℕ) (ts : List Token) → i < n → length ts ≡ 0 → with_items front (items_at d (n - i) ts) ≡ Ok front
items_end d front i n (t ∷ ts) lt e = absurd (omega arith)
items_end d front i n [] lt e =
    let m : n - i ≡ suc (n - (i + 1)) = omega arith in
    rw m (ap (λ (is : List Item). Ok is) (append-nil front))

-- one item more
pub items_more : (front : List Item) (i n : ℕ) (ts : List Token) → i < n → 0 < length ts → with_items front (items_at 1000 (n - i) ts) ≡ (one_item front ts >>= λ y. with_items y.0 (items_at 1000 (n - (i + 1)) y.1))
items_more front i n [] lt h = absurd (omega arith)
items_more front i n (t ∷ ts) lt h =
    let m : n - i ≡ suc (n - (i + 1)) = omega arith in
    rw m (by (item_at 1000 (t ∷ ts)))
  where
    ahead : Item × List Token → Read (List Item)
    ahead x = Ok (front ++ (x.0 ∷ []), x.1)

    step : (item : Item) (read : Items) → with_items front (read >>= λ is. Ok (item ∷ is)) ≡ with_items (front ++ (item ∷ [])) read
    step item (Ok is) = ap (λ (js : List Item). Ok js) (sym (append_assoc front (item ∷ []) is))
    step item (Err f) = refl

    by : (r : Read Item) → with_items front (r >>= λ x. items_at 1000 (n - (i + 1)) x.1 >>= λ is. Ok (x.0 ∷ is)) ≡ (r >>= ahead >>= λ y. with_items y.0 (items_at 1000 (n - (i + 1)) y.1))
    by (Ok x) = step x.0 (items_at 1000 (n - (i + 1)) x.1)
    by (Err f) = refl

pub view_items_push : (is : List ScriptItem) (i : ScriptItem) → view_items (is ++ (i ∷ [])) ≡ view_items is ++ (view_item i ∷ [])
view_items_push [] i = refl
view_items_push (j ∷ is) i = ap (λ (xs : List Item). view_item j ∷ xs) (view_items_push is i)

pub items_start : (read : Items) → with_items [] read ≡ read
items_start (Ok is) = refl
items_start (Err f) = refl

pub script_is : (ts : List Token) → script_at 1000 ts ≡ items_at 1000 (length ts + 1) ts
unfolding script_at
script_is ts = refl

-- ---- what is still read, from what was read before

abbrev pub left_items : List Item → ℕ → List Token → Items
left_items front w ts = with_items front (items_at 1000 w ts)

pub items_begin : (front v : List Item) (n : ℕ) (ts : List Token) (o : Option Refusal) (s : At) → front ≡ [] → n ≡ length ts + 1 → Ends v (stands ts o) s (left_items front n) → Ends v (stands ts o) s (script_at 1000)
items_begin front v n ts o s e q w = ends_as ts o (script_at 1000) (left_items front n) (rw (e, q) (script_is ts ∙ sym (items_start (items_at 1000 (length ts + 1) ts)))) w

pub items_next : (front next v : List Item) (x : Item) (i n : ℕ) (ts : List Token) (o : Option Refusal) (s1 s2 s3 : At) → i < n → 0 < length ts → Parsed x (stands ts o) s1 (item_at 1000) → Parsed next s1 s2 (is_read (front ++ (x ∷ []))) → Ends v s2 s3 (left_items next (n - (i + 1)))
    → Ends v (stands ts o) s3 (left_items front (n - i))
items_next front next v x i n ts o s1 s2 s3 lt l w p h =
    ends_as ts o (left_items front (n - i)) (λ us. one_item front us >>= λ y. left_items y.0 (n - (i + 1)) y.1) (items_more front i n ts lt l)
    (then_ends (λ y. left_items y.0 (n - (i + 1)) y.1) (then (λ y. is_read (front ++ (y.0 ∷ [])) y.1) w p) h)

pub items_added : (new old : List ScriptItem) (x : ScriptItem) (s0 s1 : At) → Parsed new s0 s1 (is_read (old ++ (x ∷ []))) → Parsed (view_items new) s0 s1 (is_read (view_items old ++ (view_item x ∷ [])))
items_added new old x s0 s1 w = subst (λ (u : List Item). Parsed (view_items new) s0 s1 (is_read u)) (view_items_push old x) (then (λ y. is_read (view_items y.0) y.1) w (stays (view_items new) s1))

pub items_over : (front : List Item) (w : ℕ) (ts : List Token) (o : Option Refusal) (line : Option ℕ) (e : Refusal) (s : At) → w ≡ 0 → e ≡ SyntaxRefusal line → s ≡ ended (stands ts o) e → Ends front (stands ts o) s (left_items front w)
items_over front w ts o line e s z r q = fails_all front ts o e s (left_items front w) q (rw (r, z) refl)

pub items_done : (front : List Item) (i n : ℕ) (ts : List Token) (o : Option Refusal) → i < n → length ts ≡ 0 → Ends front (stands ts o) (stands ts o) (left_items front (n - i))
items_done front i n ts o lt e = all_came front ts o (left_items front (n - i)) (items_end 1000 front i n ts lt e)

-- ---- who asks at the end

pub why : (is : List Item) (ts us : List Token) (o : Option Refusal) (e : Refusal) (read : List Token → Items) → o ≡ Some e → Ends is (Ok ts) (stands us o) read → Fails e (read ts)
why is ts us o e read q h = (subst (λ (k : Option Refusal). Ends is (Ok ts) (stands us k) read) q h).ends

pub what : (is : List Item) (ts us : List Token) (o : Option Refusal) (read : List Token → Items) → o ≡ None → Ends is (Ok ts) (stands us o) read → read ts ≡ Ok is
what is ts us o read q h = (subst (λ (k : Option Refusal). Ends is (Ok ts) (stands us k) read) q h).ends
