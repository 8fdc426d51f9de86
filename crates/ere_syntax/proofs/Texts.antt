-- Texts, token by token.
use Rattle.std.proofs.Common.{◌≡◌, ℕ, zero, suc, ◌+◌, ◌-◌, ◌<◌, ◌≤◌, Bool, true, false, cond, ◌||◌, List, [], ◌∷◌, length, length-append, Option, Some, None, refl, sym, ap, subst, ◌∙◌, arith, nat_eq}
use Rattle.std.proofs.lemmas.Bool.{ne_eqb}
use Rattle.ere_syntax.specs.Tree.{Token, Atom, Begin, Stop, Open, Close, Bar, Times, Tree, Set, Start, End, Group}
use Rattle.ere_syntax.specs.Reading.{◌>>=◌, Frame, fresh, put, bar, finish, repeated, read, tree_of, check, has_some, takes_times, is_some, IsNeat, AreNeat}
use Rattle.ere_syntax.specs.Bracket.{not}
use Rattle.ere_syntax.specs.Scan.{Spelling, Ordinary, Signed, Escapes, Bracketed, Counted, opened, spell, token_of, tokens_of}
use Rattle.ere_syntax.specs.EreOf.{spelling_by, spellings_at, ere_of}
use Rattle.ere_syntax.specs.Readers.{sign_of}
use Rattle.ere_syntax.specs.Lexing.{token_and, read_token, lexed}
use Rattle.ere_syntax.specs.Steps.{opened_by, follow_by, stepped}
use Rattle.ere_syntax.specs.declared.sign.Sign.{Sign}
use Rattle.ere_syntax.specs.declared.sign.Sign.TheVariants.{Dot, Hat, Dollar, OpenMark, CloseMark, BarMark, Star, Plus, Query, Brace, BracketMark, Backslash}
use Rattle.ere_syntax.specs.declared.check.Last.{Last}
use Rattle.ere_syntax.specs.declared.check.Last.TheVariants.{Nothing, Anchor, Piece}
use Rattle.ere_syntax.proofs.Sound.{bind_some, that_is}
use Rattle.ere_syntax.proofs.Scans.{spelling_sound, spell_some}
use Rattle.ere_syntax.proofs.Lexed.{lexed_is}
use Rattle.ere_syntax.proofs.Checks.{decides, put_neat}
use Rattle.ere_syntax.proofs.Limits.{repeated_deep, bar_neat}

abbrev pub text_tokens : ℕ → ℕ → List ℕ → Option (List Token)
text_tokens w groups [] = Some []
text_tokens zero groups (c ∷ cs) = None
text_tokens (suc w) groups (c ∷ cs) = read_token groups (c ∷ cs) >>= λ x. (text_tokens w (opened_by x.0 groups) x.1 >>= λ ts. Some (x.0 ∷ ts))

abbrev pub all_tokens : ℕ → List ℕ → Option (List Token)
all_tokens groups ts = text_tokens (length ts) groups ts

-- ---- the tokens are those of the spellings

plus_one : (n : ℕ) → n + 1 ≡ suc n
plus_one n = omega arith

sign_opens : (s : Sign) (n : ℕ) → opened_by (token_of (Signed s)) n ≡ opened n (Signed s)
sign_opens Dot n = refl
sign_opens Hat n = refl
sign_opens Dollar n = refl
sign_opens OpenMark n = plus_one n
sign_opens CloseMark n = refl
sign_opens BarMark n = refl
sign_opens Star n = refl
sign_opens Plus n = refl
sign_opens Query n = refl
sign_opens Brace n = refl
sign_opens BracketMark n = refl
sign_opens Backslash n = refl

opens_same : (s : Spelling) (n : ℕ) → opened_by (token_of s) n ≡ opened n s
opens_same (Ordinary c) n = refl
opens_same (Signed s) n = sign_opens s n
opens_same (Escapes e) n = refl
opens_same (Bracketed b) n = refl
opens_same (Counted i) n = refl

tokens_same : (w groups : ℕ) (ts : List ℕ) → text_tokens w groups ts ≡ (spellings_at w groups ts >>= λ ss. Some (tokens_of ss))
tokens_same w groups [] = refl
tokens_same zero groups (c ∷ cs) = refl
tokens_same (suc w) groups (c ∷ cs) = by (λ n ts. tokens_same w n ts) (spelling_by groups c cs (sign_of c))
  where
    inner : (x : Spelling) (o : Option (List Spelling)) → ((o >>= λ (ss : List Spelling). Some (tokens_of ss)) >>= λ (ts : List Token). Some (token_of x ∷ ts)) ≡ ((o >>= λ (ss : List Spelling). Some (x ∷ ss)) >>= λ (ss : List Spelling). Some (tokens_of ss))
    inner x None = refl
    inner x (Some ss) = refl

    by : ((n : ℕ) (ts : List ℕ) → text_tokens w n ts ≡ (spellings_at w n ts >>= λ (ss : List Spelling). Some (tokens_of ss))) → (o : Option (Spelling × List ℕ)) → ((o >>= λ (x : Spelling × List ℕ). Some (token_and (token_of x.0) x.1)) >>= λ (x : Token × List ℕ). (text_tokens w (opened_by x.0 groups) x.1 >>= λ (ts : List Token). Some (x.0 ∷ ts))) ≡ ((o >>= λ (x : Spelling × List ℕ). spellings_at w (opened groups x.0) x.1 >>= λ (ss : List Spelling). Some (x.0 ∷ ss)) >>= λ (ss : List Spelling). Some (tokens_of ss))
    by again None = refl
    by again (Some x) =
        ap (λ (n : ℕ). text_tokens w n x.1 >>= λ (ts : List Token). Some (token_of x.0 ∷ ts)) (opens_same x.0 groups)
        ∙ ap (λ (o : Option (List Token)). o >>= λ (ts : List Token). Some (token_of x.0 ∷ ts)) (again (opened groups x.0) x.1)
        ∙ inner x.0 (spellings_at w (opened groups x.0) x.1)

ere_tokens : (text : List ℕ) → ere_of text ≡ (all_tokens 0 text >>= tree_of)
ere_tokens text = sym (ap (λ (o : Option (List Token)). o >>= tree_of) (tokens_same (length text) 0 text) ∙ by (spellings_at (length text) 0 text))
  where
    by : (o : Option (List Spelling)) → ((o >>= λ (ss : List Spelling). Some (tokens_of ss)) >>= tree_of) ≡ (o >>= λ (ss : List Spelling). tree_of (tokens_of ss))
    by None = refl
    by (Some ss) = refl

-- ---- one token takes at least one byte

pub read_less : (groups : ℕ) (ts : List ℕ) (x : Token × List ℕ) → read_token groups ts ≡ Some x → length x.1 < length ts
read_less groups [] x e = absurd cc
read_less groups (c ∷ cs) x e =
    let a = bind_some (spelling_by groups c cs (sign_of c)) (λ (x : Spelling × List ℕ). Some (token_and (token_of x.0) x.1)) x e in
    let s = spelling_sound groups c cs (sign_of c) refl a.0 a.1 in
    let p = spell_some a.0.0 in
    let q : a.0.1 ≡ x.1 = ap (λ (y : Token × List ℕ). y.1) (that_is (token_and (token_of a.0.0) a.0.1) x a.2) in
    omega (arith, ap length s.parts, length-append (spell a.0.0) a.0.1, p, ap length q)

abbrev then_token : (Token × List ℕ → Option (List Token)) → Option (Token × List ℕ) → Option (List Token)
then_token go o = o >>= λ x. (go x >>= λ ts. Some (x.0 ∷ ts))

same_token : (go on : Token × List ℕ → Option (List Token)) (o : Option (Token × List ℕ)) → ((x : Token × List ℕ) → o ≡ Some x → go x ≡ on x) → then_token go o ≡ then_token on o
same_token go on None h = refl
same_token go on (Some x) h = ap (λ (o : Option (List Token)). o >>= λ (ts : List Token). Some (x.0 ∷ ts)) (h x refl)

text_fuel : (w v groups : ℕ) (ts : List ℕ) → length ts ≤ w → length ts ≤ v → text_tokens w groups ts ≡ text_tokens v groups ts
text_fuel w v groups [] h k = refl
text_fuel zero v groups (c ∷ cs) h k = absurd (omega (arith, h))
text_fuel (suc w) zero groups (c ∷ cs) h k = absurd (omega (arith, k))
text_fuel (suc w) (suc v) groups (c ∷ cs) h k = same_token (λ x. text_tokens w (opened_by x.0 groups) x.1) (λ x. text_tokens v (opened_by x.0 groups) x.1) (read_token groups (c ∷ cs)) (λ x e. (let l = read_less groups (c ∷ cs) x e in text_fuel w v (opened_by x.0 groups) x.1 (omega (arith, l, h)) (omega (arith, l, k))))

tokens_next : (groups : ℕ) (ts : List ℕ) (x : Token × List ℕ) → read_token groups ts ≡ Some x → all_tokens groups ts ≡ (all_tokens (opened_by x.0 groups) x.1 >>= λ us. Some (x.0 ∷ us))
tokens_next groups [] x e = absurd cc
tokens_next groups (c ∷ cs) x e =
    let l = read_less groups (c ∷ cs) x e in
    ap (then_token (λ x. text_tokens (length cs) (opened_by x.0 groups) x.1)) e
    ∙ ap (λ (o : Option (List Token)). o >>= λ (us : List Token). Some (x.0 ∷ us)) (text_fuel (length cs) (length x.1) (opened_by x.0 groups) x.1 (omega (arith, l)) (omega arith))

tokens_none : (groups : ℕ) (ts : List ℕ) → 0 < length ts → read_token groups ts ≡ None → all_tokens groups ts ≡ None
tokens_none groups [] h e = absurd (omega (arith, h))
tokens_none groups (c ∷ cs) h e = ap (then_token (λ x. text_tokens (length cs) (opened_by x.0 groups) x.1)) e

-- ---- checking

abbrev pub holds_of : Option (List Token) → (List Token → Bool) → Bool
holds_of None f = false
holds_of (Some us) f = f us

-- whether the rest has a tree with what stands before it
abbrev pub checked : ℕ → Last → List ℕ → Bool
checked groups last ts = holds_of (all_tokens groups ts) (λ us. check us groups last)

abbrev pub goes : Option (ℕ × Last) → (ℕ → Last → Bool) → Bool
goes None go = false
goes (Some x) go = go x.0 x.1

holds_cons : (k : Token) (o : Option (List Token)) (f : List Token → Bool) → holds_of (o >>= λ us. Some (k ∷ us)) f ≡ holds_of o (λ us. f (k ∷ us))
holds_cons k None f = refl
holds_cons k (Some us) f = refl

never : (o : Option (List Token)) → holds_of o (λ us. false) ≡ false
never None = refl
never (Some us) = refl

suc_eq : (n : ℕ) → nat_eq (suc n) 0 ≡ false
suc_eq n = ne_eqb (suc n) 0 (λ e. omega (arith, e))

suc_less : (n : ℕ) → suc n - 1 ≡ n
suc_less n = omega arith

after_token : (k : Token) (groups : ℕ) (last : Last) (rest : List ℕ) → holds_of (all_tokens (opened_by k groups) rest) (λ us. check (k ∷ us) groups last) ≡ goes (follow_by k groups last) (λ g l. checked g l rest)
after_token (Atom s) n l rest = refl
after_token Begin n l rest = refl
after_token Stop n l rest = refl
after_token Open n l rest = ap (λ (m : ℕ). holds_of (all_tokens (n + 1) rest) (λ us. check us m Nothing)) (sym (plus_one n))
after_token Close zero l rest = never (all_tokens (0 - 1) rest)
after_token Close (suc n) Nothing rest = rw suc_eq (never (all_tokens (suc n - 1) rest))
after_token Close (suc n) Anchor rest = rw (suc_eq n, suc_less n) refl
after_token Close (suc n) Piece rest = rw (suc_eq n, suc_less n) refl
after_token Bar n Nothing rest = never (all_tokens n rest)
after_token Bar n Anchor rest = refl
after_token Bar n Piece rest = refl
after_token (Times low high) n Nothing rest = never (all_tokens n rest)
after_token (Times low high) n Anchor rest = never (all_tokens n rest)
after_token (Times low high) n Piece rest = refl

pub checked_next : (groups : ℕ) (last : Last) (ts : List ℕ) (x : Token × List ℕ) → read_token groups ts ≡ Some x → checked groups last ts ≡ goes (follow_by x.0 groups last) (λ g l. checked g l x.1)
checked_next groups last ts x e =
    ap (λ (o : Option (List Token)). holds_of o (λ us. check us groups last)) (tokens_next groups ts x e)
    ∙ holds_cons x.0 (all_tokens (opened_by x.0 groups) x.1) (λ us. check us groups last)
    ∙ after_token x.0 groups last x.1

pub checked_none : (groups : ℕ) (last : Last) (ts : List ℕ) → 0 < length ts → read_token groups ts ≡ None → checked groups last ts ≡ false
checked_none groups last ts h e = ap (λ (o : Option (List Token)). holds_of o (λ us. check us groups last)) (tokens_none groups ts h e)

pub checked_whole : (text : List ℕ) → 0 < length text → checked 0 Nothing text ≡ is_some (ere_of text)
checked_whole [] h = absurd (omega (arith, h))
checked_whole (c ∷ cs) h = by (read_token 0 (c ∷ cs)) ∙ ap is_some (sym (ere_tokens (c ∷ cs)))
  where
    inner : (x : Token × List ℕ) (o : Option (List Token)) → holds_of (o >>= λ (ts : List Token). Some (x.0 ∷ ts)) (λ us. check us 0 Nothing) ≡ is_some ((o >>= λ (ts : List Token). Some (x.0 ∷ ts)) >>= tree_of)
    inner x None = refl
    inner x (Some us) = sym (decides (x.0 ∷ us) [] fresh tt tt)

    by : (o : Option (Token × List ℕ)) → holds_of (then_token (λ x. text_tokens (length cs) (opened_by x.0 0) x.1) o) (λ us. check us 0 Nothing) ≡ is_some (then_token (λ x. text_tokens (length cs) (opened_by x.0 0) x.1) o >>= tree_of)
    by None = refl
    by (Some x) = inner x (text_tokens (length cs) (opened_by x.0 0) x.1)

pub none_of_false : (text : List ℕ) → is_some (ere_of text) ≡ false → ere_of text ≡ None
none_of_false text e = by (ere_of text) e
  where
    by : (o : Option Tree) → is_some o ≡ false → o ≡ None
    by None e = refl
    by (Some t) e = absurd cc

-- ---- building

-- the tree of the rest with what stands before it
abbrev pub rest_tree : List Frame → Frame → List ℕ → Option Tree
rest_tree stack f ts = all_tokens (length stack) ts >>= λ us. read us stack f

read_stepped : (k : Token) (us : List Token) (stack : List Frame) (f : Frame) → read (k ∷ us) stack f ≡ (stepped k stack f >>= λ y. read us y.0 y.1)
read_stepped (Atom s) us stack f = refl
read_stepped Begin us stack f = refl
read_stepped Stop us stack f = refl
read_stepped Open us stack f = refl
read_stepped Close us [] f = refl
read_stepped Close us (g ∷ stack) f = by (finish f)
  where
    by : (o : Option Tree) → (o >>= λ t. read us stack (put g (Group t))) ≡ ((o >>= λ (t : Tree). Some (stack, put g (Group t))) >>= λ (y : List Frame × Frame). read us y.0 y.1)
    by None = refl
    by (Some t) = refl
read_stepped Bar us stack f = by (bar f)
  where
    by : (o : Option Frame) → (o >>= λ g. read us stack g) ≡ ((o >>= λ (g : Frame). Some (stack, g)) >>= λ (y : List Frame × Frame). read us y.0 y.1)
    by None = refl
    by (Some g) = refl
read_stepped (Times low high) us stack f = by (repeated f low high)
  where
    by : (o : Option Frame) → (o >>= λ g. read us stack g) ≡ ((o >>= λ (g : Frame). Some (stack, g)) >>= λ (y : List Frame × Frame). read us y.0 y.1)
    by None = refl
    by (Some g) = refl

pub pair_first : (stack : List Frame) (o : Option Frame) (y : List Frame × Frame) → (o >>= λ (g : Frame). Some (stack, g)) ≡ Some y → (stack ≡ y.0) × (o ≡ Some y.1)
pair_first stack None y e = absurd cc
pair_first stack (Some g) y e = (cc, cc)

stepped_groups : (k : Token) (stack : List Frame) (f : Frame) (y : List Frame × Frame) → stepped k stack f ≡ Some y → length y.0 ≡ opened_by k (length stack)
stepped_groups (Atom s) stack f y e = (let q : stack ≡ y.0 = cc in sym (ap length q))
stepped_groups Begin stack f y e = (let q : stack ≡ y.0 = cc in sym (ap length q))
stepped_groups Stop stack f y e = (let q : stack ≡ y.0 = cc in sym (ap length q))
stepped_groups Open stack f y e = (let q : f ∷ stack ≡ y.0 = cc in sym (ap length q) ∙ sym (plus_one (length stack)))
stepped_groups Close [] f y e = absurd cc
stepped_groups Close (g ∷ stack) f y e =
    let a = bind_some (finish f) (λ (t : Tree). Some (stack, put g (Group t))) y e in
    let q : stack ≡ y.0 = cc in
    sym (ap length q) ∙ sym (suc_less (length stack))
stepped_groups Bar stack f y e = sym (ap length (pair_first stack (bar f) y e).0)
stepped_groups (Times low high) stack f y e = sym (ap length (pair_first stack (repeated f low high) y e).0)

pub stepped_neat : (k : Token) (stack : List Frame) (f : Frame) (y : List Frame × Frame) → AreNeat stack → IsNeat f → stepped k stack f ≡ Some y → AreNeat y.0 × IsNeat y.1
stepped_neat (Atom s) stack f y hs hf e = subst (λ (y : List Frame × Frame). AreNeat y.0 × IsNeat y.1) (that_is (stack, put f (Set s)) y e) (hs, put_neat f (Set s) hf)
stepped_neat Begin stack f y hs hf e = subst (λ (y : List Frame × Frame). AreNeat y.0 × IsNeat y.1) (that_is (stack, put f Start) y e) (hs, put_neat f Start hf)
stepped_neat Stop stack f y hs hf e = subst (λ (y : List Frame × Frame). AreNeat y.0 × IsNeat y.1) (that_is (stack, put f End) y e) (hs, put_neat f End hf)
stepped_neat Open stack f y hs hf e = subst (λ (y : List Frame × Frame). AreNeat y.0 × IsNeat y.1) (that_is (f ∷ stack, fresh) y e) ((hf, hs), tt)
stepped_neat Close [] f y hs hf e = absurd cc
stepped_neat Close (g ∷ stack) f y hs hf e =
    let a = bind_some (finish f) (λ (t : Tree). Some (stack, put g (Group t))) y e in
    subst (λ (y : List Frame × Frame). AreNeat y.0 × IsNeat y.1) (that_is (stack, put g (Group a.0)) y a.2) (hs.1, put_neat g (Group a.0) hs.0)
stepped_neat Bar stack f y hs hf e =
    let p = pair_first stack (bar f) y e in
    (subst AreNeat p.0 hs, bar_neat f y.1 p.1)
stepped_neat (Times low high) stack f y hs hf e =
    let p = pair_first stack (repeated f low high) y e in
    (subst AreNeat p.0 hs, (repeated_deep f y.1 low high p.1).1 hf)

pub rest_next : (stack : List Frame) (f : Frame) (ts : List ℕ) (x : Token × List ℕ) (y : List Frame × Frame) → read_token (length stack) ts ≡ Some x → stepped x.0 stack f ≡ Some y → rest_tree y.0 y.1 x.1 ≡ rest_tree stack f ts
rest_next stack f ts x y e s = sym (
    ap (λ (o : Option (List Token)). o >>= λ (us : List Token). read us stack f) (tokens_next (length stack) ts x e)
    ∙ by (all_tokens (opened_by x.0 (length stack)) x.1)
    ∙ ap (λ (n : ℕ). all_tokens n x.1 >>= λ (us : List Token). read us y.0 y.1) (sym (stepped_groups x.0 stack f y s)))
  where
    by : (o : Option (List Token)) → ((o >>= λ (us : List Token). Some (x.0 ∷ us)) >>= λ (us : List Token). read us stack f) ≡ (o >>= λ (us : List Token). read us y.0 y.1)
    by None = refl
    by (Some us) = read_stepped x.0 us stack f ∙ ap (λ (o : Option (List Frame × Frame)). o >>= λ (y : List Frame × Frame). read us y.0 y.1) s

-- a rest that has a tree has a step
pub rest_steps : (stack : List Frame) (f : Frame) (ts : List ℕ) (x : Token × List ℕ) → read_token (length stack) ts ≡ Some x → is_some (rest_tree stack f ts) ≡ true → (y : List Frame × Frame) × (stepped x.0 stack f ≡ Some y)
rest_steps stack f ts x e h = by (stepped x.0 stack f) refl
  where
    gone : (o : Option (List Token)) → stepped x.0 stack f ≡ None → is_some ((o >>= λ (us : List Token). Some (x.0 ∷ us)) >>= λ (us : List Token). read us stack f) ≡ true → ⊥
    gone None s q = cc
    gone (Some us) s q = (let z : read (x.0 ∷ us) stack f ≡ None = read_stepped x.0 us stack f ∙ ap (λ (o : Option (List Frame × Frame)). o >>= λ (y : List Frame × Frame). read us y.0 y.1) s in false_true (sym (ap is_some z) ∙ q))
      where
        false_true : false ≡ true → ⊥
        false_true e = cc

    by : (o : Option (List Frame × Frame)) → stepped x.0 stack f ≡ o → (y : List Frame × Frame) × (stepped x.0 stack f ≡ Some y)
    by (Some y) s = (y, s)
    by None s = absurd (gone (all_tokens (opened_by x.0 (length stack)) x.1) s (ap is_some (sym (ap (λ (o : Option (List Token)). o >>= λ (us : List Token). read us stack f) (tokens_next (length stack) ts x e))) ∙ h))

pub rest_none : (stack : List Frame) (f : Frame) (ts : List ℕ) → 0 < length ts → read_token (length stack) ts ≡ None → rest_tree stack f ts ≡ None
rest_none stack f ts h e = ap (λ (o : Option (List Token)). o >>= λ (us : List Token). read us stack f) (tokens_none (length stack) ts h e)

pub rest_whole : (text : List ℕ) → 0 < length text → rest_tree [] fresh text ≡ ere_of text
rest_whole [] h = absurd (omega (arith, h))
rest_whole (c ∷ cs) h = by (read_token 0 (c ∷ cs)) ∙ sym (ere_tokens (c ∷ cs))
  where
    inner : (x : Token × List ℕ) (o : Option (List Token)) → ((o >>= λ (ts : List Token). Some (x.0 ∷ ts)) >>= λ (us : List Token). read us [] fresh) ≡ ((o >>= λ (ts : List Token). Some (x.0 ∷ ts)) >>= tree_of)
    inner x None = refl
    inner x (Some us) = refl

    by : (o : Option (Token × List ℕ)) → (then_token (λ x. text_tokens (length cs) (opened_by x.0 0) x.1) o >>= λ (us : List Token). read us [] fresh) ≡ (then_token (λ x. text_tokens (length cs) (opened_by x.0 0) x.1) o >>= tree_of)
    by None = refl
    by (Some x) = inner x (text_tokens (length cs) (opened_by x.0 0) x.1)

-- ---- the same, with what the code reads

pub code_some : (groups : ℕ) (ts rest : List ℕ) (k : Token) → Some (token_and k rest) ≡ lexed groups ts → read_token groups ts ≡ Some (token_and k rest)
code_some groups ts rest k e = lexed_is groups ts ∙ sym e

pub code_less : (groups : ℕ) (ts rest : List ℕ) (k : Token) → Some (token_and k rest) ≡ lexed groups ts → length rest < length ts
code_less groups ts rest k e = read_less groups ts (token_and k rest) (code_some groups ts rest k e)

abbrev pub open_and : ℕ → Last → ℕ × Last
open_and n l = (n, l)

pub code_checked : (groups : ℕ) (last : Last) (ts rest : List ℕ) (k : Token) (open' : ℕ) (kind : Last) → Some (token_and k rest) ≡ lexed groups ts → Some (open_and open' kind) ≡ follow_by k groups last → checked open' kind rest ≡ checked groups last ts
code_checked groups last ts rest k open' kind e h =
    sym (checked_next groups last ts (token_and k rest) (code_some groups ts rest k e) ∙ ap (λ (o : Option (ℕ × Last)). goes o (λ g l. checked g l rest)) (sym h))

abbrev none_last : Option (ℕ × Last)
none_last = None

pub code_unchecked : (groups : ℕ) (last : Last) (ts rest : List ℕ) (k : Token) → Some (token_and k rest) ≡ lexed groups ts → none_last ≡ follow_by k groups last → checked groups last ts ≡ false
code_unchecked groups last ts rest k e h =
    checked_next groups last ts (token_and k rest) (code_some groups ts rest k e) ∙ ap (λ (o : Option (ℕ × Last)). goes o (λ g l. checked g l rest)) (sym h)

abbrev none_token : Option (Token × List ℕ)
none_token = None

pub code_none : (groups : ℕ) (ts : List ℕ) → none_token ≡ lexed groups ts → read_token groups ts ≡ None
code_none groups ts e = lexed_is groups ts ∙ sym e

first_open : (m open' : ℕ) (l kind : Last) → Some (open_and open' kind) ≡ Some (open_and m l) → open' ≡ m
first_open m open' l kind e = ap (λ (x : ℕ × Last). x.0) (that_is (open_and open' kind) (open_and m l) e)

chosen_open : (b : Bool) (m open' : ℕ) (l kind : Last) → Some (open_and open' kind) ≡ cond b None (Some (open_and m l)) → open' ≡ m
chosen_open true m open' l kind e = absurd cc
chosen_open false m open' l kind e = first_open m open' l kind e

taken_open : (b : Bool) (m open' : ℕ) (l kind : Last) → Some (open_and open' kind) ≡ cond b (Some (open_and m l)) None → open' ≡ m
taken_open false m open' l kind e = absurd cc
taken_open true m open' l kind e = first_open m open' l kind e

pub opens_one : (k : Token) (n : ℕ) (l : Last) (open' : ℕ) (kind : Last) → Some (open_and open' kind) ≡ follow_by k n l → open' ≤ n + 1
opens_one (Atom s) n l open' kind e = (let q = first_open n open' Piece kind e in omega (arith, q))
opens_one Begin n l open' kind e = (let q = first_open n open' Anchor kind e in omega (arith, q))
opens_one Stop n l open' kind e = (let q = first_open n open' Piece kind e in omega (arith, q))
opens_one Open n l open' kind e = (let q = first_open (n + 1) open' Nothing kind e in omega (arith, q))
opens_one Close n l open' kind e = (let q = chosen_open (nat_eq n 0 || not (has_some l)) (n - 1) open' Piece kind e in omega (arith, q))
opens_one Bar n l open' kind e = (let q = taken_open (has_some l) n open' Nothing kind e in omega (arith, q))
opens_one (Times low high) n l open' kind e = (let q = taken_open (takes_times l) n open' Piece kind e in omega (arith, q))
