-- How the nodes of parts make those of the whole.
use Rattle.std.proofs.Common.{◌≡◌, ◌≢◌, ℕ, zero, suc, ◌+◌, ◌-◌, ◌<◌, ◌≤◌, inl, inr, List, [], ◌∷◌, ◌++◌, length, Some, None, refl, sym, ap, ◌∙◌, subst, arith, set, length-append, length-set, get_or-set_same, get_or-set_other}
use Rattle.std.specs.Prelude.{slice_get, slice_set}
use Rattle.std.proofs.lemmas.Option.{slice_get-get_or, slice_get_past}
use Rattle.std.proofs.lemmas.Bool.{cases_lt}
use Rattle.std.proofs.lemmas.List.{get_or_append_left}
use Rattle.ere_syntax.specs.Tree.{Tree, Concat, Or, Repeat}
use Rattle.ere_syntax.specs.Matches.{Iterated, Matches}
use Rattle.ere_syntax.specs.View.{concat_from, concat_all, or_from, or_all}
use Rattle.ere_syntax.proofs.Meaning.{matches_inside}
use Rattle.ere_match.specs.declared.node.Node.{Node}
use Rattle.ere_match.specs.declared.node.Node.TheVariants as nodes
use Rattle.ere_match.specs.Means.{Means, AgreeFrom, IsLonger, AreBuilt, IsBuilt, Turns, Power, InTurn}
use Rattle.ere_match.proofs.Paths.{Same, Then, Either, Often, means_as, means_same, means_then, means_never, means_either, means_both, means_star, means_turns}

abbrev Relation : Type 1
Relation = List ℕ → ℕ → ℕ → Type 0

-- ---- longer lists of nodes

pub longer_self : (a : List Node) → IsLonger a a
longer_self a = record { len = omega arith; same = λ k l. refl }

pub longer_on : (a b c : List Node) → IsLonger a b → IsLonger b c → IsLonger a c
longer_on a b c h k = record { len = omega (arith, h.len, k.len); same = λ i l. k.same i (omega (arith, h.len)) ∙ h.same i l }

agree_front : (a b c final : List Node) → IsLonger b c → AgreeFrom a c final → AgreeFrom a b final
agree_front a b c final h g = λ k above below. g k above (omega (arith, h.len)) ∙ h.same k below

agree_back : (a b c final : List Node) → IsLonger a b → AgreeFrom a c final → AgreeFrom b c final
agree_back a b c final h g = λ k above below. g k (omega (arith, h.len)) below

-- ---- relations

pub built_as : (old new : List Node) (R S : Relation) (entry next : ℕ) → ((text : List ℕ) (i j : ℕ) → R text i j → S text i j) → ((text : List ℕ) (i j : ℕ) → S text i j → R text i j) → AreBuilt old new R entry next → AreBuilt old new S entry next
built_as old new R S entry next to from b = record {
  made = λ final text g. means_as final text (R text) (S text) entry next (to text) (from text) (b.made final text g);
  none = λ e. ((b.none e).0, λ final text n. means_as final text (R text) (S text) n n (to text) (from text) ((b.none e).1 final text n));
  longer = b.longer;
}

pub built_same : (old : List Node) (next : ℕ) → AreBuilt old old Same next next
built_same old next = record {
  made = λ final text g. means_same final text next;
  none = λ e. (refl, λ final text n. means_same final text n);
  longer = longer_self old;
}

-- one node
pub built_one : (old new : List Node) (R : Relation) (entry next : ℕ) (node : Node) → entry ≡ length old → slice_get new entry ≡ Some node → IsLonger old new → length new ≡ length old + 1
    → ((final : List Node) (text : List ℕ) → slice_get final entry ≡ Some node → Means final text (R text) entry next) → AreBuilt old new R entry next
built_one old new R entry next node place is longer len means = record {
  made = λ final text g. means final text (g entry (omega arith) (omega arith) ∙ is);
  none = λ e. absurd (omega (arith, e, len));
  longer = longer;
}

-- one after another; the later part is built first
pub built_then : (old mid new : List Node) (R S : Relation) (entry m next : ℕ) → AreBuilt old mid S m next → AreBuilt mid new R entry m → AreBuilt old new (λ text. Then (R text) (S text)) entry next
built_then old mid new R S entry m next back front = record {
  made = λ final text g. means_then final text (R text) (S text) entry m next (front.made final text (agree_back old mid new final back.longer g)) (back.made final text (agree_front old mid new final front.longer g));
  none = λ e.
      (let x = back.none (omega (arith, e, back.longer.len, front.longer.len)) in
      let y = front.none (omega (arith, e, back.longer.len, front.longer.len)) in
      (y.0 ∙ x.0, λ final text n. means_then final text (R text) (S text) n n n (y.1 final text n) (x.1 final text n)));
  longer = longer_on old mid new back.longer front.longer;
}

-- either of two, with a node that leads to both
pub built_either : (old one two new : List Node) (R S : Relation) (entry x y next : ℕ) → AreBuilt old one R x next → AreBuilt one two S y next → entry ≡ length two → slice_get new entry ≡ Some (nodes.Split x y) → IsLonger two new → length new ≡ length two + 1 → AreBuilt old new (λ text. Either (R text) (S text)) entry next
built_either old one two new R S entry x y next first second place is longer len = record {
  made = λ final text g.
      (let front = agree_front old two new final longer g in
      means_either final text (R text) (S text) entry x y next (g entry (omega (arith, first.longer.len, second.longer.len)) (omega arith) ∙ is)
      (first.made final text (agree_front old one two final second.longer front))
      (second.made final text (agree_back old one two final first.longer front)));
  none = λ e. absurd (omega (arith, e, len, first.longer.len, second.longer.len));
  longer = longer_on old two new (longer_on old one two first.longer second.longer) longer;
}

-- either of two that have no nodes
pub built_both : (old one two : List Node) (R S : Relation) (x y next : ℕ) → AreBuilt old one R x next → AreBuilt one two S y next → length two ≡ length old → AreBuilt old two (λ text. Either (R text) (S text)) next next
built_both old one two R S x y next first second e =
    let a = first.none (omega (arith, e, first.longer.len, second.longer.len)) in
    let b = second.none (omega (arith, e, first.longer.len, second.longer.len)) in
    record {
      made = λ final text g. means_both final text (R text) (S text) next next (a.1 final text next) (b.1 final text next);
      none = λ e. (refl, λ final text n. means_both final text (R text) (S text) n n (a.1 final text n) (b.1 final text n));
      longer = longer_on old one two first.longer second.longer;
    }

-- ---- repetitions

get_set_same : (xs : List Node) (i : ℕ) (v : Node) → i < length xs → slice_get (slice_set xs i v) i ≡ Some v
get_set_same xs i v h = slice_get-get_or (set xs i v) i v (omega (arith, length-set xs i v)) ∙ ap Some (get_or-set_same xs i v v h)

get_set_other : (xs : List Node) (i k : ℕ) (v : Node) → k ≢ i → slice_get (slice_set xs i v) k ≡ slice_get xs k
get_set_other xs i k v h = elim (cases_lt k (length xs)) [
  | inl within ↦ slice_get-get_or (set xs i v) k v (omega (arith, length-set xs i v)) ∙ ap Some (get_or-set_other xs i k v v h) ∙ sym (slice_get-get_or xs k v within)
  | inr past ↦ slice_get_past (set xs i v) k (omega (arith, length-set xs i v)) ∙ sym (slice_get_past xs k past)
]

drop_last : (old two new rest : List Node) → IsLonger old two → two ≡ new ++ rest → length old ≤ length new → IsLonger old new
drop_last old two new rest h e le = record {
  len = le;
  same = λ k below. (
      let front : slice_get two k ≡ slice_get new k = ap (λ (u : List Node). slice_get u k) e ∙ slice_get-get_or (new ++ rest) k nodes.Never (omega (arith, length-append new rest)) ∙ ap Some (get_or_append_left new rest nodes.Never k (omega arith)) ∙ sym (slice_get-get_or new k nodes.Never (omega arith)) in
      sym front ∙ h.same k below);
}

-- a body without nodes, any number of times
pub endless_none : (old mid two new rest : List Node) (t : Tree) (body place next low : ℕ) → (low ≤ 1) → IsLonger old mid → length mid ≡ length old + 1 → IsBuilt mid two t body place → length two ≡ length old + 1 → two ≡ new ++ rest → length new ≡ length old → AreBuilt old new (Turns (Matches t) low None) next next
endless_none old mid two new rest t body place next low small longer one inner e pop len =
    let every = (inner.none (omega (arith, e, one))).1 in
    record {
      made = λ final text g. means_turns final text (Matches t text) next low None (omega arith) (every final text next);
      none = λ e. (refl, λ final text n. means_turns final text (Matches t text) n low None (omega arith) (every final text n));
      longer = drop_last old two new rest (longer_on old mid two longer inner.longer) pop (omega (arith, len));
    }

-- the node of an endless repetition is put at the place that was kept for it
patched : (old mid two : List Node) (t : Tree) (body place next : ℕ) → place ≡ length old → IsLonger old mid → length mid ≡ length old + 1 → IsBuilt mid two t body place → (final : List Node) → AgreeFrom old (slice_set two place (nodes.Split body next)) final → (slice_get final place ≡ Some (nodes.Split body next)) × AgreeFrom mid two final
patched old mid two t body place next at longer one inner final g =
    let room : place < length two = omega (arith, inner.longer.len) in
    let same_len : length (slice_set two place (nodes.Split body next)) ≡ length two = length-set two place (nodes.Split body next) in
    (g place (omega arith) (omega arith) ∙ get_set_same two place (nodes.Split body next) room, λ k above below. g k (omega arith) (omega arith) ∙ get_set_other two place k (nodes.Split body next) (omega arith))

patched_longer : (old mid two : List Node) (t : Tree) (body place next : ℕ) → place ≡ length old → IsLonger old mid → length mid ≡ length old + 1 → IsBuilt mid two t body place → IsLonger old (slice_set two place (nodes.Split body next))
patched_longer old mid two t body place next at longer one inner =
    let same_len : length (slice_set two place (nodes.Split body next)) ≡ length two = length-set two place (nodes.Split body next) in
    record {
      len = omega (arith, inner.longer.len);
      same = λ k below. get_set_other two place k (nodes.Split body next) (omega arith) ∙ inner.longer.same k (omega arith) ∙ longer.same k below;
    }

pub endless_any : (old mid two : List Node) (t : Tree) (body place next : ℕ) → place ≡ length old → IsLonger old mid → length mid ≡ length old + 1 → IsBuilt mid two t body place → AreBuilt old (slice_set two place (nodes.Split body next)) (Turns (Matches t) 0 None) place next
endless_any old mid two t body place next at longer one inner =
    let same_len : length (slice_set two place (nodes.Split body next)) ≡ length two = length-set two place (nodes.Split body next) in
    record {
      made = λ final text g. (let p = patched old mid two t body place next at longer one inner final g in means_star final text (Matches t text) place next body p.0 (inner.made final text p.1));
      none = λ e. absurd (omega (arith, e, one, inner.longer.len));
      longer = patched_longer old mid two t body place next at longer one inner;
    }

one_more : (t : Tree) (text : List ℕ) (i j : ℕ) → Then (Matches t text) (Often (Matches t text) 0 None text) i j → Turns (Matches t) 1 None text i j
one_more t text i j h = let m = matches_inside t text i h.0 h.1 in (suc h.2.0, omega arith, (h.0, h.1, h.2.2), omega (arith, m.0, m.1))

one_less : (t : Tree) (text : List ℕ) (i j : ℕ) → Turns (Matches t) 1 None text i j → Then (Matches t text) (Often (Matches t text) 0 None text) i j
one_less t text i j (zero, allowed, it, le) = absurd (omega (arith, allowed))
one_less t text i j (suc n, allowed, it, le) = (it.0, it.1, (n, omega arith, it.2, (matches_inside t text i it.0 it.1).1))

pub endless_some : (old mid two : List Node) (t : Tree) (body place next : ℕ) → place ≡ length old → IsLonger old mid → length mid ≡ length old + 1 → IsBuilt mid two t body place → AreBuilt old (slice_set two place (nodes.Split body next)) (Turns (Matches t) 1 None) body next
endless_some old mid two t body place next at longer one inner =
    let same_len : length (slice_set two place (nodes.Split body next)) ≡ length two = length-set two place (nodes.Split body next) in
    record {
      made = λ final text g.
          (let p = patched old mid two t body place next at longer one inner final g in
          let star = means_star final text (Matches t text) place next body p.0 (inner.made final text p.1) in
          means_as final text (Then (Matches t text) (Often (Matches t text) 0 None text)) (Turns (Matches t) 1 None text) body next (one_more t text) (one_less t text)
          (means_then final text (Matches t text) (Often (Matches t text) 0 None text) body place next (inner.made final text p.1) star));
      none = λ e. absurd (omega (arith, e, one, inner.longer.len));
      longer = patched_longer old mid two t body place next at longer one inner;
    }

-- ---- so many turns

add_turns : (R : ℕ → ℕ → Type 0) (a b i k j : ℕ) → Iterated R a i k → Iterated R b k j → Iterated R (a + b) i j
add_turns R zero b i k j p q = let e : b ≡ 0 + b = omega arith in let P : ℕ → ℕ → Type 0 = λ c i. Iterated R c i j in subst (λ c. Iterated R c i j) e (subst (λ k. Iterated R b k j) (sym p) q)
add_turns R (suc a) b i k j p q = let e : suc (a + b) ≡ suc a + b = omega arith in subst (λ c. Iterated R c i j) e (p.0, p.1, add_turns R a b p.0 k j p.2 q)

cut_turns : (R : ℕ → ℕ → Type 0) (a b c i j : ℕ) → c ≡ a + b → Iterated R c i j → (k : ℕ) × Iterated R a i k × Iterated R b k j
cut_turns R zero b c i j e p = (i, refl, (let q : c ≡ b = omega (arith, e) in subst (λ c. Iterated R c i j) q p))
cut_turns R (suc a) b zero i j e p = absurd (omega (arith, e))
cut_turns R (suc a) b (suc c) i j e p = let r = cut_turns R a b c p.0 j (omega (arith, e)) p.2 in (r.0, (p.0, p.1, r.1), r.2)

power_inside : (t : Tree) (text : List ℕ) (c i j : ℕ) → i ≤ length text → Iterated (Matches t text) c i j → j ≤ length text
power_inside t text zero i j le e = omega (arith, e)
power_inside t text (suc c) i j le h = power_inside t text c h.0 j (matches_inside t text i h.0 h.1).1 h.2

pub power_start : (old : List Node) (t : Tree) (next : ℕ) → AreBuilt old old (Power (Matches t) 0) next next
power_start old t next = built_as old old Same (Power (Matches t) 0) next next (λ text i j h. h) (λ text i j h. h) (built_same old next)

power_to : (t : Tree) (k : ℕ) (text : List ℕ) (i j : ℕ) → Then (Matches t text) (Power (Matches t) k text) i j → Power (Matches t) (k + 1) text i j
power_to t k text i j h =
    let e : suc k ≡ k + 1 = omega arith in
    let m = matches_inside t text i h.0 h.1 in
    (subst (λ c. Iterated (Matches t text) c i j) e (h.0, h.1, h.2.0), omega (arith, m.0, m.1))

power_from : (t : Tree) (k : ℕ) (text : List ℕ) (i j : ℕ) → Power (Matches t) (k + 1) text i j → Then (Matches t text) (Power (Matches t) k text) i j
power_from t k text i j h =
    let e : k + 1 ≡ suc k = omega arith in
    let s = subst (λ c. Iterated (Matches t text) c i j) e h.0 in
    (s.0, s.1, (s.2, (matches_inside t text i s.0 s.1).1))

pub power_next : (old mid new : List Node) (t : Tree) (k body entry next : ℕ) → AreBuilt old mid (Power (Matches t) k) entry next → IsBuilt mid new t body entry → AreBuilt old new (Power (Matches t) (k + 1)) body next
power_next old mid new t k body entry next b inner =
    built_as old new (λ text. Then (Matches t text) (Power (Matches t) k text)) (Power (Matches t) (k + 1)) body next (power_to t k) (power_from t k) (built_then old mid new (Matches t) (Power (Matches t) k) body entry next b inner)

-- a body without nodes stands for all turns that are left
exact : (t : Tree) (c : ℕ) (text : List ℕ) (i j : ℕ) → Often (Matches t text) c (Some c) text i j → Power (Matches t) c text i j
exact t c text i j h = (let e : h.0 ≡ c = omega (arith, h.1) in subst (λ c. Iterated (Matches t text) c i j) e h.2, h.3)

exact_back : (t : Tree) (c : ℕ) (text : List ℕ) (i j : ℕ) → Power (Matches t) c text i j → Often (Matches t text) c (Some c) text i j
exact_back t c text i j h = (c, (omega arith, omega arith), h.0, h.1)

every_power : (old : List Node) (t : Tree) (c entry : ℕ) → ((final : List Node) (text : List ℕ) (n : ℕ) → Means final text (Matches t text) n n) → AreBuilt old old (Power (Matches t) c) entry entry
every_power old t c entry every = built_as old old (λ text. Often (Matches t text) c (Some c) text) (Power (Matches t) c) entry entry (exact t c) (exact_back t c) (record {
  made = λ final text g. means_turns final text (Matches t text) entry c (Some c) (omega arith, omega arith) (every final text entry);
  none = λ e. (refl, λ final text n. means_turns final text (Matches t text) n c (Some c) (omega arith, omega arith) (every final text n));
  longer = longer_self old;
})

powers_to : (t : Tree) (a b c : ℕ) → c ≡ a + b → (text : List ℕ) (i j : ℕ) → Then (Power (Matches t) a text) (Power (Matches t) b text) i j → Power (Matches t) c text i j
powers_to t a b c e text i j h = (subst (λ c. Iterated (Matches t text) c i j) (sym e) (add_turns (Matches t text) a b i h.0 j h.1.0 h.2.0), h.1.1)

powers_from : (t : Tree) (a b c : ℕ) → c ≡ a + b → (text : List ℕ) (i j : ℕ) → Power (Matches t) c text i j → Then (Power (Matches t) a text) (Power (Matches t) b text) i j
powers_from t a b c e text i j h =
    let r = cut_turns (Matches t text) a b c i j e h.0 in
    (r.0, (r.1, h.1), (r.2, power_inside t text a i r.0 h.1 r.1))

pub power_stop : (old mid new : List Node) (t : Tree) (k count body entry next : ℕ) → k < count → AreBuilt old mid (Power (Matches t) k) entry next → IsBuilt mid new t body entry → length new ≡ length mid → AreBuilt old new (Power (Matches t) count) body next
power_stop old mid new t k count body entry next less b inner same =
    let n = inner.none same in
    let e : count ≡ (count - k) + k = omega arith in
    let all = every_power new t (count - k) entry n.1 in
    let grown : AreBuilt mid new (Power (Matches t) (count - k)) entry entry = record { made = λ final text g. all.made final text (λ x above below. absurd (omega arith)); none = λ e. all.none refl; longer = inner.longer } in
    subst (λ x. AreBuilt old new (Power (Matches t) count) x next) (sym n.0)
    (built_as old new (λ text. Then (Power (Matches t) (count - k) text) (Power (Matches t) k text)) (Power (Matches t) count) entry next (powers_to t (count - k) k count e) (powers_from t (count - k) k count e)
    (built_then old mid new (Power (Matches t) (count - k)) (Power (Matches t) k) entry entry next b grown))

-- ---- at most so many turns

upto_zero : (t : Tree) (text : List ℕ) (i j : ℕ) → Turns (Matches t) 0 (Some 0) text i j → Same text i j
upto_zero t text i j (zero, allowed, it, le) = (it, le)
upto_zero t text i j (suc n, allowed, it, le) = absurd (omega (arith, allowed.1))

pub upto_start : (old : List Node) (t : Tree) (next : ℕ) → AreBuilt old old (Turns (Matches t) 0 (Some 0)) next next
upto_start old t next = built_as old old Same (Turns (Matches t) 0 (Some 0)) next next (λ text i j h. (0, (omega arith, omega arith), h.0, h.1)) (upto_zero t) (built_same old next)

upto_to : (t : Tree) (k : ℕ) (text : List ℕ) (i j : ℕ) → Either (Then (Matches t text) (Turns (Matches t) 0 (Some k) text)) (Same text) i j → Turns (Matches t) 0 (Some (k + 1)) text i j
upto_to t k text i j h = elim h [
  | inl more ↦ (let m = matches_inside t text i more.0 more.1 in (suc more.2.0, (omega arith, omega (arith, more.2.1.1)), (more.0, more.1, more.2.2), omega (arith, m.0, m.1)))
  | inr none ↦ (0, (omega arith, omega arith), none.0, none.1)
]

upto_from : (t : Tree) (k : ℕ) (text : List ℕ) (i j : ℕ) → Turns (Matches t) 0 (Some (k + 1)) text i j → Either (Then (Matches t text) (Turns (Matches t) 0 (Some k) text)) (Same text) i j
upto_from t k text i j (zero, allowed, it, le) = inr (it, le)
upto_from t k text i j (suc n, allowed, it, le) = inl (it.0, it.1, (n, (omega arith, omega (arith, allowed.1)), it.2, (matches_inside t text i it.0 it.1).1))

pub upto_next : (old mid two new : List Node) (t : Tree) (k body split entry next : ℕ) → AreBuilt old mid (Turns (Matches t) 0 (Some k)) entry next → IsBuilt mid two t body entry → split ≡ length two → slice_get new split ≡ Some (nodes.Split body next) → IsLonger two new → length new ≡ length two + 1 → AreBuilt old new (Turns (Matches t) 0 (Some (k + 1))) split next
upto_next old mid two new t k body split entry next b inner place is longer len =
    let both = built_then old mid two (Matches t) (Turns (Matches t) 0 (Some k)) body entry next b inner in
    built_as old new (λ text. Either (Then (Matches t text) (Turns (Matches t) 0 (Some k) text)) (Same text)) (Turns (Matches t) 0 (Some (k + 1))) split next (upto_to t k) (upto_from t k)
    (built_either old two two new (λ text. Then (Matches t text) (Turns (Matches t) 0 (Some k) text)) Same split body next next both (built_same two next) place is longer len)

-- more turns of a body without nodes
uptos_to : (t : Tree) (a k c : ℕ) → c ≡ a + k → (text : List ℕ) (i j : ℕ) → Then (Turns (Matches t) 0 (Some a) text) (Turns (Matches t) 0 (Some k) text) i j → Turns (Matches t) 0 (Some c) text i j
uptos_to t a k c e text i j h = (h.1.0 + h.2.0, (omega arith, omega (arith, e, h.1.1.1, h.2.1.1)), add_turns (Matches t text) h.1.0 h.2.0 i h.0 j h.1.2 h.2.2, h.1.3)

uptos_from : (t : Tree) (a k c : ℕ) → c ≡ a + k → (text : List ℕ) (i j : ℕ) → Turns (Matches t) 0 (Some c) text i j → Then (Turns (Matches t) 0 (Some a) text) (Turns (Matches t) 0 (Some k) text) i j
uptos_from t a k c e text i j h = elim (cases_lt h.0 a) [
  | inl few ↦ (j, (h.0, (omega arith, omega arith), h.2, h.3), (0, (omega arith, omega arith), refl, power_inside t text h.0 i j h.3 h.2))
  | inr many ↦ (
      let s : h.0 ≡ a + (h.0 - a) = omega arith in
      let r = cut_turns (Matches t text) a (h.0 - a) h.0 i j s h.2 in
      (r.0, (a, (omega arith, omega arith), r.1, h.3), (h.0 - a, (omega arith, omega (arith, e, h.1.1)), r.2, power_inside t text a i r.0 h.3 r.1)))
]

pub upto_stop : (old mid new : List Node) (t : Tree) (k count body entry next : ℕ) → k < count → AreBuilt old mid (Turns (Matches t) 0 (Some k)) entry next → IsBuilt mid new t body entry → length new ≡ length mid → AreBuilt old new (Turns (Matches t) 0 (Some count)) entry next
upto_stop old mid new t k count body entry next less b inner same =
    let n = inner.none same in
    let e : count ≡ (count - k) + k = omega arith in
    let grown : AreBuilt mid new (Turns (Matches t) 0 (Some (count - k))) entry entry = record {
      made = λ final text g. means_turns final text (Matches t text) entry 0 (Some (count - k)) (omega arith, omega arith) (n.1 final text entry);
      none = λ e. (refl, λ final text x. means_turns final text (Matches t text) x 0 (Some (count - k)) (omega arith, omega arith) (n.1 final text x));
      longer = inner.longer;
    } in
    built_as old new (λ text. Then (Turns (Matches t) 0 (Some (count - k)) text) (Turns (Matches t) 0 (Some k) text)) (Turns (Matches t) 0 (Some count)) entry next (uptos_to t (count - k) k count e) (uptos_from t (count - k) k count e)
    (built_then old mid new (Turns (Matches t) 0 (Some (count - k))) (Turns (Matches t) 0 (Some k)) entry entry next b grown)

-- ---- whole repetitions

pub repeat_any : (old new : List Node) (t : Tree) (low entry next : ℕ) → low ≡ 0 → AreBuilt old new (Turns (Matches t) 0 None) entry next → IsBuilt old new (Repeat t low None) entry next
repeat_any old new t low entry next e b = subst (λ low. IsBuilt old new (Repeat t low None) entry next) (sym e) (built_as old new (Turns (Matches t) 0 None) (Matches (Repeat t 0 None)) entry next (λ text i j h. h) (λ text i j h. h) b)

least_to : (t : Tree) (low : ℕ) → 1 ≤ low → (text : List ℕ) (i j : ℕ) → Then (Power (Matches t) (low - 1) text) (Turns (Matches t) 1 None text) i j → Matches (Repeat t low None) text i j
least_to t low le text i j h = ((low - 1) + h.2.0, omega (arith, h.2.1), add_turns (Matches t text) (low - 1) h.2.0 i h.0 j h.1.0 h.2.2, h.1.1)

least_from : (t : Tree) (low : ℕ) → 1 ≤ low → (text : List ℕ) (i j : ℕ) → Matches (Repeat t low None) text i j → Then (Power (Matches t) (low - 1) text) (Turns (Matches t) 1 None text) i j
least_from t low le text i j h =
    let s : h.0 ≡ (low - 1) + (h.0 - (low - 1)) = omega (arith, h.1) in
    let r = cut_turns (Matches t text) (low - 1) (h.0 - (low - 1)) h.0 i j s h.2 in
    (r.0, (r.1, h.3), (h.0 - (low - 1), omega (arith, h.1), r.2, power_inside t text (low - 1) i r.0 h.3 r.1))

pub repeat_least : (old mid new : List Node) (t : Tree) (low entry one next : ℕ) → 1 ≤ low → AreBuilt old mid (Turns (Matches t) 1 None) one next → AreBuilt mid new (Power (Matches t) (low - 1)) entry one → IsBuilt old new (Repeat t low None) entry next
repeat_least old mid new t low entry one next le b c =
    built_as old new (λ text. Then (Power (Matches t) (low - 1) text) (Turns (Matches t) 1 None text)) (Matches (Repeat t low None)) entry next (least_to t low le) (least_from t low le) (built_then old mid new (Power (Matches t) (low - 1)) (Turns (Matches t) 1 None) entry one next b c)

most_to : (t : Tree) (low high : ℕ) → low ≤ high → (text : List ℕ) (i j : ℕ) → Then (Power (Matches t) low text) (Turns (Matches t) 0 (Some (high - low)) text) i j → Matches (Repeat t low (Some high)) text i j
most_to t low high le text i j h = (low + h.2.0, (omega arith, omega (arith, h.2.1.1)), add_turns (Matches t text) low h.2.0 i h.0 j h.1.0 h.2.2, h.1.1)

most_from : (t : Tree) (low high : ℕ) → low ≤ high → (text : List ℕ) (i j : ℕ) → Matches (Repeat t low (Some high)) text i j → Then (Power (Matches t) low text) (Turns (Matches t) 0 (Some (high - low)) text) i j
most_from t low high le text i j h =
    let s : h.0 ≡ low + (h.0 - low) = omega (arith, h.1.0) in
    let r = cut_turns (Matches t text) low (h.0 - low) h.0 i j s h.2 in
    (r.0, (r.1, h.3), (h.0 - low, (omega arith, omega (arith, h.1.1)), r.2, power_inside t text low i r.0 h.3 r.1))

pub repeat_most : (old mid new : List Node) (t : Tree) (low high entry rest next : ℕ) → low ≤ high → AreBuilt old mid (Turns (Matches t) 0 (Some (high - low))) rest next → AreBuilt mid new (Power (Matches t) low) entry rest → IsBuilt old new (Repeat t low (Some high)) entry next
repeat_most old mid new t low high entry rest next le b c =
    built_as old new (λ text. Then (Power (Matches t) low text) (Turns (Matches t) 0 (Some (high - low)) text)) (Matches (Repeat t low (Some high))) entry next (most_to t low high le) (most_from t low high le) (built_then old mid new (Power (Matches t) low) (Turns (Matches t) 0 (Some (high - low))) entry rest next b c)

pub repeat_never : (old new : List Node) (t : Tree) (low high entry next : ℕ) → high < low → entry ≡ length old → slice_get new entry ≡ Some nodes.Never → IsLonger old new → length new ≡ length old + 1 → IsBuilt old new (Repeat t low (Some high)) entry next
repeat_never old new t low high entry next less place is longer len =
    built_one old new (Matches (Repeat t low (Some high))) entry next nodes.Never place is longer len (λ final text at. means_never final text (Matches (Repeat t low (Some high)) text) entry next at (λ i j h. omega (arith, h.1.0, h.1.1)))

-- ---- parts in turn

turn_to : (ts : List Tree) (t : Tree) (text : List ℕ) (i j : ℕ) → InTurn (t ∷ ts) text i j → Matches (concat_from t ts) text i j
turn_to [] t text i j h = subst (λ j. Matches t text i j) h.2.0 h.1
turn_to (u ∷ us) t text i j h = turn_to us (Concat t u) text i j (h.2.0, (h.0, h.1, h.2.1), h.2.2)

turn_from : (ts : List Tree) (t : Tree) (text : List ℕ) (i j : ℕ) → Matches (concat_from t ts) text i j → InTurn (t ∷ ts) text i j
turn_from [] t text i j h = (j, h, (refl, (matches_inside t text i j h).1))
turn_from (u ∷ us) t text i j h = (let r = turn_from us (Concat t u) text i j h in (r.1.0, r.1.1, (r.0, r.1.2, r.2)))

all_to : (ts : List Tree) (text : List ℕ) (i j : ℕ) → InTurn ts text i j → Matches (concat_all ts) text i j
all_to [] text i j h = h
all_to (t ∷ ts) text i j h = turn_to ts t text i j h

all_from : (ts : List Tree) (text : List ℕ) (i j : ℕ) → Matches (concat_all ts) text i j → InTurn ts text i j
all_from [] text i j h = h
all_from (t ∷ ts) text i j h = turn_from ts t text i j h

pub parts_built : (old new : List Node) (ts : List Tree) (entry next : ℕ) → AreBuilt old new (InTurn ts) entry next → IsBuilt old new (concat_all ts) entry next
parts_built old new ts entry next b = built_as old new (InTurn ts) (Matches (concat_all ts)) entry next (all_to ts) (all_from ts) b

pub parts_start : (old : List Node) (ts : List Tree) (next : ℕ) → ts ≡ [] → AreBuilt old old (InTurn ts) next next
parts_start old ts next e = subst (λ ts. AreBuilt old old (InTurn ts) next next) (sym e) (built_as old old Same (InTurn []) next next (λ text i j h. h) (λ text i j h. h) (built_same old next))

pub parts_next : (old mid new : List Node) (ts us : List Tree) (t : Tree) (body entry next : ℕ) → us ≡ t ∷ ts → AreBuilt old mid (InTurn ts) entry next → IsBuilt mid new t body entry → AreBuilt old new (InTurn us) body next
parts_next old mid new ts us t body entry next e b inner =
    subst (λ us. AreBuilt old new (InTurn us) body next) (sym e) (built_as old new (λ text. Then (Matches t text) (InTurn ts text)) (InTurn (t ∷ ts)) body next (λ text i j h. h) (λ text i j h. h) (built_then old mid new (Matches t) (InTurn ts) body entry next b inner))

-- ---- alternatives

or_from_push : (a : Tree) (ts : List Tree) (t : Tree) → or_from a (ts ++ (t ∷ [])) ≡ Or (or_from a ts) t
or_from_push a [] t = refl
or_from_push a (u ∷ ts) t = or_from_push (Or a u) ts t

or_push : (ts : List Tree) (t : Tree) → 0 < length ts → or_all (ts ++ (t ∷ [])) ≡ Or (or_all ts) t
or_push [] t h = absurd (omega (arith, h))
or_push (a ∷ ts) t h = or_from_push a ts t

pub branch_first : (old new : List Node) (ts us : List Tree) (t : Tree) (branch next : ℕ) → length ts ≡ 0 → us ≡ ts ++ (t ∷ []) → IsBuilt old new t branch next → IsBuilt old new (or_all us) branch next
branch_first old new [] us t branch next h e b = subst (λ us. IsBuilt old new (or_all us) branch next) (sym e) b
branch_first old new (a ∷ ts) us t branch next h e b = absurd (omega (arith, h))

pub branch_both : (old mid new : List Node) (ts us : List Tree) (t : Tree) (entry branch next : ℕ) → 0 < length ts → us ≡ ts ++ (t ∷ []) → IsBuilt old mid (or_all ts) entry next → IsBuilt mid new t branch next → length new ≡ length old → IsBuilt old new (or_all us) next next
branch_both old mid new ts us t entry branch next h e b inner same =
    subst (λ x. IsBuilt old new x next next) (sym (ap or_all e ∙ or_push ts t h))
    (built_as old new (λ text. Either (Matches (or_all ts) text) (Matches t text)) (Matches (Or (or_all ts) t)) next next (λ text i j h. h) (λ text i j h. h) (built_both old mid new (Matches (or_all ts)) (Matches t) entry branch next b inner same))

pub branch_split : (old mid two new : List Node) (ts us : List Tree) (t : Tree) (split entry branch next : ℕ) → 0 < length ts → us ≡ ts ++ (t ∷ []) → IsBuilt old mid (or_all ts) entry next → IsBuilt mid two t branch next → split ≡ length two → slice_get new split ≡ Some (nodes.Split entry branch) → IsLonger two new → length new ≡ length two + 1 → IsBuilt old new (or_all us) split next
branch_split old mid two new ts us t split entry branch next h e b inner place is longer len =
    subst (λ x. IsBuilt old new x split next) (sym (ap or_all e ∙ or_push ts t h))
    (built_as old new (λ text. Either (Matches (or_all ts) text) (Matches t text)) (Matches (Or (or_all ts) t)) split next (λ text i j h. h) (λ text i j h. h) (built_either old mid two new (Matches (or_all ts)) (Matches t) split entry branch next b inner place is longer len))
