-- Reading the members of a bracket, one after another.
use Rattle.std.proofs.Common.{◌≡◌, ℕ, zero, suc, ◌+◌, ◌<◌, ◌≤◌, Bool, true, false, cond, ◌||◌, ◌==◌, List, [], ◌∷◌, length, length-append, get_or, Option, Some, None, refl, sym, ap, ◌∙◌, arith, nat_le, option_map}
use Rattle.ere_syntax.specs.Tree.{Bytes}
use Rattle.ere_syntax.specs.Bytes.{colon}
use Rattle.ere_syntax.specs.Reading.{◌>>=◌}
use Rattle.ere_syntax.specs.Bracket.{not, names_front, One, value, dash_at, Member, Single, Range, Named, spell_member, front, starts, Bracket}
use Rattle.ere_syntax.specs.Readers.{one_at, byte_and, range_to, single_or, member_at, behind, members_by, members_at, class_at, bracket_by}
use Rattle.ere_syntax.specs.Scan.{table, table_by, in_member, in_members, in_bracket}
use Rattle.ere_syntax.specs.Reads.{item_of, in_item, item_and, set_and, at_least, upper_by, item_or, named_item, read_named, class_read, begun, closed_by, read_members, read_bracket}
use Rattle.ere_syntax.specs.declared.class.Class.{Class}
use Rattle.ere_syntax.specs.declared.bracket.Item.{Item}
use Rattle.ere_syntax.specs.declared.bracket.Item.TheVariants as items
use Rattle.ere_syntax.specs.declared.bracket.Front.{Front}
use Rattle.ere_syntax.specs.declared.bracket.Front.TheVariants.{Closes, Names, Begins, Wrong}
use Rattle.ere_syntax.proofs.BracketSound.{member_sound}
use Rattle.ere_syntax.proofs.BracketAgain.{member_some}

-- ---- a byte or a range

abbrev pub items_and : Option (Member × List ℕ) → Option (Item × List ℕ)
items_and o = option_map (λ x. item_and (item_of x.0) x.1) o

range_is : (l : One) (us : List ℕ) → items_and (range_to l us) ≡ option_map (λ y. item_and (items.Range (value l) y.0) y.1) (upper_by (value l) us)
range_is l us = by (names_front us) (one_at us)
  where
    last : (h : One × List ℕ) (b : Bool) → items_and (cond b (Some (Range l h.0, h.1)) None) ≡ option_map (λ y. item_and (items.Range (value l) y.0) y.1) (cond b (Some (byte_and (value h.0) h.1)) None)
    last h true = refl
    last h false = refl

    by : (b : Bool) (o : Option (One × List ℕ)) → items_and (cond b None (o >>= λ h. cond (nat_le (value l) (value h.0)) (Some (Range l h.0, h.1)) None)) ≡ option_map (λ y. item_and (items.Range (value l) y.0) y.1) (cond b None (at_least (value l) (option_map (λ x. byte_and (value x.0) x.1) o)))
    by true o = refl
    by false None = refl
    by false (Some h) = last h (nat_le (value l) (value h.0))

single_is : (l : One) (ts : List ℕ) (o : Option (List ℕ)) → items_and (single_or l ts o) ≡ item_or (value l) ts o
single_is l ts None = refl
single_is l ts (Some us) = range_is l us

pub begun_is : (ts : List ℕ) → option_map (λ x. item_and (item_of x.0) x.1) (member_at ts Begins) ≡ begun ts
begun_is ts = by (one_at ts)
  where
    by : (o : Option (One × List ℕ)) → items_and (o >>= λ x. single_or x.0 x.1 (dash_at x.1)) ≡ (option_map (λ x. byte_and (value x.0) x.1) o >>= λ x. item_or x.0 x.1 (dash_at x.1))
    by None = refl
    by (Some x) = single_is x.0 x.1 (dash_at x.1)

pub named_is : (ts : List ℕ) → option_map (λ x. item_and (item_of x.0) x.1) (member_at ts Names) ≡ read_named ts
unfolding class_read
named_is [] = refl
named_is (c ∷ []) = refl
named_is (c ∷ d ∷ cs) = by (d == colon) (class_at cs)
  where
    by : (b : Bool) (o : Option (Class × List ℕ)) → items_and (cond b (o >>= λ x. Some (Named x.0, x.1)) None) ≡ cond b (named_item o) None
    by true None = refl
    by true (Some x) = refl
    by false o = refl

pub in_item_is : (m : Member) (c : ℕ) → in_item (item_of m) c ≡ in_member m c
in_item_is (Single o) c = refl
in_item_is (Range l h) c = refl
in_item_is (Named k) c = refl

-- ---- tables

table_by_ext : (p q : ℕ → Bool) (n c : ℕ) → ((k : ℕ) → c ≤ k → k < c + n → p k ≡ q k) → table_by p n c ≡ table_by q n c
table_by_ext p q zero c h = refl
table_by_ext p q (suc n) c h =
    ap (λ (u : Bytes). p c ∷ u) (table_by_ext p q n (c + 1) (λ k above below. h k (omega arith) (omega arith)))
    ∙ ap (λ (b : Bool). b ∷ table_by q n (c + 1)) (h c (omega arith) (omega arith))

pub table_ext : (p q : ℕ → Bool) → ((c : ℕ) → c < 256 → p c ≡ q c) → table p ≡ table q
unfolding table
table_ext p q h = table_by_ext p q 256 0 (λ k above below. h k (omega arith))

table_by_is : (p : ℕ → Bool) (n c : ℕ) (xs : Bytes) → length xs ≡ n → ((k : ℕ) → k < n → get_or xs k false ≡ p (c + k)) → xs ≡ table_by p n c
table_by_is p zero c [] e h = refl
table_by_is p zero c (x ∷ xs) e h = absurd (omega (arith, e))
table_by_is p (suc n) c [] e h = absurd (omega (arith, e))
table_by_is p (suc n) c (x ∷ xs) e h =
    let here : c + 0 ≡ c = omega arith in
    let rest : xs ≡ table_by p n (c + 1) = table_by_is p n (c + 1) xs (omega (arith, e)) (λ k below. (let next : c + suc k ≡ c + 1 + k = omega arith in h (suc k) (omega arith) ∙ ap p next)) in
    ap (λ (b : Bool). b ∷ xs) (h 0 (omega arith) ∙ ap p here) ∙ ap (λ (u : Bytes). p c ∷ u) rest

pub table_is : (p : ℕ → Bool) (xs : Bytes) → length xs ≡ 256 → ((c : ℕ) → c < 256 → get_or xs c false ≡ p c) → xs ≡ table p
unfolding table
table_is p xs e h = table_by_is p 256 0 xs e (λ k below. (let same : k ≡ 0 + k = omega arith in h k below ∙ ap p same))

-- ---- all members

member_less : (first : Bool) (ts : List ℕ) (x : Member × List ℕ) → member_at ts (front first ts) ≡ Some x → length x.1 < length ts
member_less first ts x e =
    let s = member_sound first ts (front first ts) refl x e in
    let p = member_some x.0 in
    omega (arith, ap length s.parts, length-append (spell_member x.0) x.1, p)

mapped : {A B : Type 0} (f : A → B) (o : Option A) (y : B) → Some y ≡ option_map f o → (x : A) × (o ≡ Some x) × (y ≡ f x)
mapped f None y e = absurd cc
mapped f (Some x) y e = (x, refl, cc)

abbrev none_of : (B : Type 0) → Option B
none_of B = None

mapped_none : {A B : Type 0} (f : A → B) (o : Option A) → none_of B ≡ option_map f o → o ≡ None
mapped_none f None e = refl
mapped_none f (Some x) e = absurd cc

pub item_less : (first : Bool) (ts us : List ℕ) (i : Item) → Some (item_and i us) ≡ items_and (member_at ts (front first ts)) → length us < length ts
item_less first ts us i e =
    let m = mapped (λ (x : Member × List ℕ). item_and (item_of x.0) x.1) (member_at ts (front first ts)) (item_and i us) e in
    let h = member_less first ts m.0 m.1 in
    let q : us ≡ m.0.1 = ap (λ (y : Item × List ℕ). y.1) m.2 in
    omega (arith, h, ap length q)

abbrev Fuelled : ℕ → ℕ → Type 0
Fuelled w v = (first : Bool) (ts : List ℕ) → length ts ≤ w → length ts ≤ v → members_at w first ts ≡ members_at v first ts

abbrev then_all : (List ℕ → Option (List Member × List ℕ)) → Option (Member × List ℕ) → Option (List Member × List ℕ)
then_all go o = o >>= λ x. go x.1 >>= λ y. Some (x.0 ∷ y.0, y.1)

same_then : (go on : List ℕ → Option (List Member × List ℕ)) (o : Option (Member × List ℕ)) → ((x : Member × List ℕ) → o ≡ Some x → go x.1 ≡ on x.1) → then_all go o ≡ then_all on o
same_then go on None h = refl
same_then go on (Some x) h = ap (λ (o : Option (List Member × List ℕ)). o >>= λ (y : List Member × List ℕ). Some (x.0 ∷ y.0, y.1)) (h x refl)

by_fuel : (w v : ℕ) → Fuelled w v → (ts : List ℕ) (f : Front) → ((x : Member × List ℕ) → member_at ts f ≡ Some x → (length x.1 ≤ w) × (length x.1 ≤ v)) → members_by (members_at w false) ts f ≡ members_by (members_at v false) ts f
by_fuel w v go ts Closes room = refl
by_fuel w v go ts Wrong room = refl
by_fuel w v go ts Names room = same_then (members_at w false) (members_at v false) (member_at ts Names) (λ x e. (let r = room x e in go false x.1 r.0 r.1))
by_fuel w v go ts Begins room = same_then (members_at w false) (members_at v false) (member_at ts Begins) (λ x e. (let r = room x e in go false x.1 r.0 r.1))

pub members_fuel : (w v : ℕ) → Fuelled w v
members_fuel zero zero first ts h k = refl
members_fuel zero (suc v) first [] h k = refl
members_fuel zero (suc v) first (c ∷ cs) h k = absurd (omega (arith, h))
members_fuel (suc w) zero first [] h k = refl
members_fuel (suc w) zero first (c ∷ cs) h k = absurd (omega (arith, k))
members_fuel (suc w) (suc v) first ts h k = by_fuel w v (members_fuel w v) ts (front first ts) (λ x e. (let l = member_less first ts x e in (omega (arith, l, h), omega (arith, l, k))))

-- what is still to be read, beside what the set has
abbrev pub rest_read : Bool → Bytes → List ℕ → Option (Bytes × List ℕ)
rest_read first set ts = option_map (λ (x : List Member × List ℕ). set_and (table (λ c. get_or set c false || in_members x.0 c)) x.1) (members_at (length ts) first ts)

pub read_start : (set : Bytes) (ts : List ℕ) → ((c : ℕ) → c < 256 → get_or set c false ≡ false) → rest_read true set ts ≡ read_members ts
read_start set ts h = by (members_at (length ts) true ts)
  where
    by : (o : Option (List Member × List ℕ)) → option_map (λ (x : List Member × List ℕ). set_and (table (λ c. get_or set c false || in_members x.0 c)) x.1) o ≡ option_map (λ (x : List Member × List ℕ). set_and (table (in_members x.0)) x.1) o
    by None = refl
    by (Some x) = ap (λ (s : Bytes). Some (set_and s x.1)) (table_ext (λ c. get_or set c false || in_members x.0 c) (in_members x.0) (λ c below. ap (λ (b : Bool). b || in_members x.0 c) (h c below)))

-- one member further
or_three : (a b d : Bool) → ((a || b) || d) ≡ (a || (b || d))
or_three true b d = refl
or_three false b d = refl

next_is : (set new : Bytes) (m : Member) (o : Option (List Member × List ℕ)) → ((c : ℕ) → c < 256 → get_or new c false ≡ (get_or set c false || in_member m c))
    → option_map (λ (x : List Member × List ℕ). set_and (table (λ c. get_or new c false || in_members x.0 c)) x.1) o ≡ option_map (λ (x : List Member × List ℕ). set_and (table (λ c. get_or set c false || in_members x.0 c)) x.1) (o >>= λ (y : List Member × List ℕ). Some (m ∷ y.0, y.1))
next_is set new m None h = refl
next_is set new m (Some x) h = ap (λ (s : Bytes). Some (set_and s x.1)) (table_ext (λ c. get_or new c false || in_members x.0 c) (λ c. get_or set c false || (in_member m c || in_members x.0 c)) (λ c below. ap (λ (b : Bool). b || in_members x.0 c) (h c below) ∙ or_three (get_or set c false) (in_member m c) (in_members x.0 c)))

-- where the members do not end, the next one is read
goes_by : (go : List ℕ → Option (List Member × List ℕ)) (ts : List ℕ) (f : Front) (x : Member × List ℕ) → member_at ts f ≡ Some x → members_by go ts f ≡ (go x.1 >>= λ (y : List Member × List ℕ). Some (x.0 ∷ y.0, y.1))
goes_by go ts Closes x e = absurd cc
goes_by go ts Wrong x e = absurd cc
goes_by go ts Names x e = ap (then_all go) e
goes_by go ts Begins x e = ap (then_all go) e

some_length : (first : Bool) (ts : List ℕ) (go : List ℕ → Option (List Member × List ℕ)) (x : Member × List ℕ) → member_at ts (front first ts) ≡ Some x → members_at (length ts) first ts ≡ (members_at (length x.1) false x.1 >>= λ (y : List Member × List ℕ). Some (x.0 ∷ y.0, y.1))
some_length first [] go x e = absurd cc
some_length first (c ∷ cs) go x e =
    let l = member_less first (c ∷ cs) x e in
    goes_by (members_at (length cs) false) (c ∷ cs) (front first (c ∷ cs)) x e
    ∙ ap (λ (o : Option (List Member × List ℕ)). o >>= λ (y : List Member × List ℕ). Some (x.0 ∷ y.0, y.1)) (members_fuel (length cs) (length x.1) false x.1 (omega (arith, l)) (omega arith))

pub read_next : (first : Bool) (set new : Bytes) (ts us : List ℕ) (i : Item) → Some (item_and i us) ≡ items_and (member_at ts (front first ts)) → ((c : ℕ) → c < 256 → get_or new c false ≡ (get_or set c false || in_item i c)) → rest_read false new us ≡ rest_read first set ts
read_next first set new ts us i e h =
    let m = mapped (λ (x : Member × List ℕ). item_and (item_of x.0) x.1) (member_at ts (front first ts)) (item_and i us) e in
    let q : us ≡ m.0.1 = ap (λ (y : Item × List ℕ). y.1) m.2 in
    let j : i ≡ item_of m.0.0 = ap (λ (y : Item × List ℕ). y.0) m.2 in
    let r = next_is set new m.0.0 (members_at (length m.0.1) false m.0.1) (λ c below. h c below ∙ ap (λ (b : Bool). get_or set c false || b) (ap (λ (i : Item). in_item i c) j ∙ in_item_is m.0.0 c)) in
    ap (rest_read false new) q ∙ r ∙ ap (option_map (λ (x : List Member × List ℕ). set_and (table (λ c. get_or set c false || in_members x.0 c)) x.1)) (sym (some_length first ts (λ us. None) m.0 m.1))

-- where none is read, nothing is
stops_by : (go : List ℕ → Option (List Member × List ℕ)) (first : Bool) (ts : List ℕ) (f : Front) → front first ts ≡ f → closed_by f ts ≡ None → member_at ts f ≡ None → members_by go ts f ≡ None
stops_by go first [] Closes at h e = absurd cc
stops_by go first (c ∷ cs) Closes at h e = absurd cc
stops_by go first ts Wrong at h e = refl
stops_by go first ts Names at h e = ap (then_all go) e
stops_by go first ts Begins at h e = ap (then_all go) e

pub read_none : (first : Bool) (set : Bytes) (ts : List ℕ) → None ≡ closed_by (front first ts) ts → None ≡ items_and (member_at ts (front first ts)) → rest_read first set ts ≡ None
read_none first set [] h e = refl
read_none first set (c ∷ cs) h e =
    let k = stops_by (members_at (length cs) false) first (c ∷ cs) (front first (c ∷ cs)) refl (sym h) (mapped_none (λ (x : Member × List ℕ). item_and (item_of x.0) x.1) (member_at (c ∷ cs) (front first (c ∷ cs))) e) in
    ap (option_map (λ (x : List Member × List ℕ). set_and (table (λ c. get_or set c false || in_members x.0 c)) x.1)) k

-- the end
closes_by : (go : List ℕ → Option (List Member × List ℕ)) (ts us : List ℕ) (f : Front) → Some us ≡ closed_by f ts → members_by go ts f ≡ Some ([], us)
closes_by go [] us Closes e = absurd cc
closes_by go (c ∷ cs) us Closes e = (let q : us ≡ cs = cc in ap (λ (v : List ℕ). Some ([], v)) (sym q))
closes_by go ts us Wrong e = absurd cc
closes_by go ts us Names e = absurd cc
closes_by go ts us Begins e = absurd cc

or_right : (b : Bool) → b ≡ (b || false)
or_right true = refl
or_right false = refl

pub read_end : (first : Bool) (set : Bytes) (ts us : List ℕ) → length set ≡ 256 → Some us ≡ closed_by (front first ts) ts → rest_read first set ts ≡ Some (set_and set us)
read_end first set [] us len e = absurd cc
read_end first set (c ∷ cs) us len e =
    ap (option_map (λ (x : List Member × List ℕ). set_and (table (λ c. get_or set c false || in_members x.0 c)) x.1)) (closes_by (members_at (length cs) false) (c ∷ cs) us (front first (c ∷ cs)) e)
    ∙ ap (λ (s : Bytes). Some (set_and s us)) (sym (table_is (λ c. get_or set c false || false) set len (λ c below. or_right (get_or set c false))))

-- ---- the whole bracket

pub bracket_plain : (ts : List ℕ) → starts 94 ts ≡ false → read_members ts ≡ read_bracket ts
bracket_plain ts e = by (members_at (length ts) true ts) ∙ ap (λ (b : Bool). option_map (λ (x : Bracket × List ℕ). set_and (table (in_bracket x.0)) x.1) (bracket_by ts b)) (sym e)
  where
    by : (o : Option (List Member × List ℕ)) → option_map (λ (x : List Member × List ℕ). set_and (table (in_members x.0)) x.1) o ≡ option_map (λ (x : Bracket × List ℕ). set_and (table (in_bracket x.0)) x.1) (o >>= λ (x : List Member × List ℕ). Some (record { negated = false; members = x.0 }, x.1))
    by None = refl
    by (Some x) = refl

abbrev negated : Option (List Member × List ℕ) → Option (Bytes × List ℕ)
negated o = option_map (λ (x : List Member × List ℕ). set_and (table (λ c. not (in_members x.0 c))) x.1) o

bracket_negated : (ts : List ℕ) → starts 94 ts ≡ true → negated (members_at (length (behind ts)) true (behind ts)) ≡ read_bracket ts
bracket_negated [] e = absurd cc
bracket_negated (c ∷ cs) e = ap negated (members_fuel (length cs) (length (c ∷ cs)) true cs (omega arith) (omega arith)) ∙ by (members_at (length (c ∷ cs)) true cs) ∙ ap (λ (b : Bool). option_map (λ (x : Bracket × List ℕ). set_and (table (in_bracket x.0)) x.1) (bracket_by (c ∷ cs) b)) (sym e)
  where
    by : (o : Option (List Member × List ℕ)) → negated o ≡ option_map (λ (x : Bracket × List ℕ). set_and (table (in_bracket x.0)) x.1) (o >>= λ (x : List Member × List ℕ). Some (record { negated = true; members = x.0 }, x.1))
    by None = refl
    by (Some x) = refl

pub negated_none : (ts : List ℕ) → starts 94 ts ≡ true → none_of (Bytes × List ℕ) ≡ read_members (behind ts) → none_of (Bytes × List ℕ) ≡ read_bracket ts
negated_none ts e h = sym (ap negated (mapped_none (λ (x : List Member × List ℕ). set_and (table (in_members x.0)) x.1) (members_at (length (behind ts)) true (behind ts)) h)) ∙ bracket_negated ts e

table_get_by : (p : ℕ → Bool) (n c k : ℕ) → k < n → get_or (table_by p n c) k false ≡ p (c + k)
table_get_by p zero c k h = absurd (omega arith)
table_get_by p (suc n) c zero h = (let e : c ≡ c + 0 = omega arith in ap p e)
table_get_by p (suc n) c (suc k) h = (let e : c + 1 + k ≡ c + suc k = omega arith in table_get_by p n (c + 1) k (omega arith) ∙ ap p e)

pub table_get : (p : ℕ → Bool) (k : ℕ) → k < 256 → get_or (table p) k false ≡ p k
unfolding table
table_get p k h = (let e : 0 + k ≡ k = omega arith in table_get_by p 256 0 k h ∙ ap p e)

pub negated_some : (ts us : List ℕ) (set new : Bytes) → starts 94 ts ≡ true → length new ≡ 256 → ((c : ℕ) → c < 256 → get_or new c false ≡ not (get_or set c false)) → Some (set_and set us) ≡ read_members (behind ts) → Some (set_and new us) ≡ read_bracket ts
negated_some ts us set new e len comp h =
    let m = mapped (λ (x : List Member × List ℕ). set_and (table (in_members x.0)) x.1) (members_at (length (behind ts)) true (behind ts)) (set_and set us) h in
    let q : us ≡ m.0.1 = ap (λ (y : Bytes × List ℕ). y.1) m.2 in
    let s : set ≡ table (in_members m.0.0) = ap (λ (y : Bytes × List ℕ). y.0) m.2 in
    let t : new ≡ table (λ c. not (in_members m.0.0 c)) = table_is (λ c. not (in_members m.0.0 c)) new len (λ c below. comp c below ∙ ap (λ (u : Bytes). not (get_or u c false)) s ∙ ap not (table_get (in_members m.0.0) c below)) in
    ap (λ (u : Bytes). Some (set_and u us)) t ∙ ap (λ (v : List ℕ). Some (set_and (table (λ c. not (in_members m.0.0 c))) v)) q ∙ sym (ap negated m.1) ∙ bracket_negated ts e
