-- Classes of bytes.
use Rattle.std.proofs.Common.{◌≡◌, ℕ, zero, suc, ◌+◌, ◌<◌, ◌≤◌, inl, inr, Bool, true, false, List, length, Option, Some, None, refl, sym, ap, ◌∙◌, subst, arith, set, get_or, get_or-set_same, get_or-set_other}
use Rattle.std.specs.Prelude.{replicate, slice_get}
use Rattle.std.proofs.lemmas.Bool.{cases_lt, cases_eq}
use Rattle.std.proofs.lemmas.Option.{get_or_from_slice_get}
use Rattle.ere_match.specs.declared.node.Filter.{Filter}
use Rattle.ere_match.specs.declared.node.Node.{Node}
use Rattle.ere_match.specs.declared.node.Node.TheVariants as nodes
use Rattle.ere_match.specs.Runs.{filter_set}
use Rattle.ere_match.specs.Rows.{ClassesTo, IsRefined, IsRefinedTo, key_of}
use Rattle.ere_match.proofs.Steps.{true_within}

pub nowhere : {X : Type 0} (n k : ℕ) (x : Option X) → x ≡ None → get_or (replicate n x) k None ≡ None
nowhere zero k x e = refl
nowhere (suc n) zero x e = e
nowhere (suc n) (suc k) x e = nowhere n k x e

some_is : (a b : ℕ) → Some a ≡ Some b → a ≡ b
some_is a b e = cc

pub refined_none : (has : List Bool) (old new : List ℕ) (seen : List (Option ℕ)) → ((k : ℕ) → get_or seen k None ≡ None) → IsRefinedTo 0 has old new seen 0
refined_none has old new seen free = record {
  few = omega arith;
  small = λ k c e. (let is : None ≡ Some c = sym (free k) ∙ e in cc);
  single = λ j k c e h. (let is : None ≡ Some c = sym (free j) ∙ e in cc);
  known = λ b less. absurd (omega arith);
}

pub refined_same : (n class key count : ℕ) (has : List Bool) (old new : List ℕ) (seen : List (Option ℕ)) → n < length new → key ≡ key_of (get_or old n 0) (get_or has n false) → get_or seen key None ≡ Some class → IsRefinedTo n has old new seen count → IsRefinedTo (n + 1) has old (set new n class) seen count
refined_same n class key count has old new seen inside is at r = record {
  few = omega (arith, r.few);
  small = r.small;
  single = r.single;
  known = λ b less. elim (cases_lt b n) [
    | inl low ↦ r.known b low ∙ ap Some (sym (get_or-set_other new n b class 0 (λ e. omega arith)))
    | inr here ↦ (let e : b ≡ n = omega arith in subst (λ m. get_or seen (key_of (get_or old m 0) (get_or has m false)) None ≡ Some (get_or (set new n class) m 0)) (sym e)
        (subst (λ m. get_or seen m None ≡ Some (get_or (set new n class) n 0)) is (at ∙ ap Some (sym (get_or-set_same new n class 0 inside)))))
  ];
}

pub refined_more : (n key count : ℕ) (has : List Bool) (old new : List ℕ) (seen : List (Option ℕ)) → n < length new → key < length seen → key ≡ key_of (get_or old n 0) (get_or has n false) → get_or seen key None ≡ None → IsRefinedTo n has old new seen count → IsRefinedTo (n + 1) has old (set new n count) (set seen key (Some count)) (count + 1)
refined_more n key count has old new seen inside room is free r =
    let here : get_or (set seen key (Some count)) key None ≡ Some count = get_or-set_same seen key (Some count) None room in
    let other : (k : ℕ) → (k ≡ key → ⊥) → get_or (set seen key (Some count)) k None ≡ get_or seen k None = λ k e. get_or-set_other seen key k (Some count) None e in record {
      few = omega (arith, r.few);
      small = λ k c e. elim (cases_eq k key) [
        | inl same ↦ (let x : count ≡ c = some_is count c (sym here ∙ subst (λ m. get_or (set seen key (Some count)) m None ≡ Some c) same e) in omega (arith, x))
        | inr apart ↦ (let x = r.small k c (sym (other k apart) ∙ e) in omega (arith, x))
      ];
      single = λ j k c e h. elim (cases_eq j key) [
        | inl one ↦ elim (cases_eq k key) [
          | inl two ↦ one ∙ sym two
          | inr apart ↦ absurd (
              let x : count ≡ c = some_is count c (sym here ∙ subst (λ m. get_or (set seen key (Some count)) m None ≡ Some c) one e) in
              let y = r.small k c (sym (other k apart) ∙ h) in omega (arith, x, y))
        ]
        | inr apart ↦ elim (cases_eq k key) [
          | inl two ↦ absurd (
              let x : count ≡ c = some_is count c (sym here ∙ subst (λ m. get_or (set seen key (Some count)) m None ≡ Some c) two h) in
              let y = r.small j c (sym (other j apart) ∙ e) in omega (arith, x, y))
          | inr apart' ↦ r.single j k c (sym (other j apart) ∙ e) (sym (other k apart') ∙ h)
        ]
      ];
      known = λ b less. elim (cases_lt b n) [
        | inl low ↦ (
            let k = r.known b low in
            other (key_of (get_or old b 0) (get_or has b false)) (λ e. (let bad : None ≡ Some (get_or new b 0) = sym free ∙ sym (ap (λ m. get_or seen m None) e) ∙ k in cc)) ∙ k ∙ ap Some (sym (get_or-set_other new n b count 0 (λ e. omega arith))))
        | inr at ↦ (let e : b ≡ n = omega arith in subst (λ m. get_or (set seen key (Some count)) (key_of (get_or old m 0) (get_or has m false)) None ≡ Some (get_or (set new n count) m 0)) (sym e)
            (subst (λ m. get_or (set seen key (Some count)) m None ≡ Some (get_or (set new n count) n 0)) is (here ∙ ap Some (sym (get_or-set_same new n count 0 inside)))))
      ];
    }

pub key_small : (a : ℕ) (x : Bool) → a < 256 → key_of a x < 512
key_small a true h = omega (arith, h)
key_small a false h = omega (arith, h)

key_apart : (a b : ℕ) (x y : Bool) → key_of a x ≡ key_of b y → (a ≡ b) × (x ≡ y)
key_apart a b true true e = (omega (arith, e), refl)
key_apart a b false false e = (omega (arith, e), refl)
key_apart a b true false e = absurd (omega (arith, e))
key_apart a b false true e = absurd (omega (arith, e))

pub refined_all : (n count : ℕ) (has : List Bool) (old new : List ℕ) (seen : List (Option ℕ)) → 256 ≤ n → IsRefinedTo n has old new seen count → IsRefined has old new
refined_all n count has old new seen le r = record {
  finer = λ b c lb lc e. (both b c lb lc e).0;
  apart = λ b c lb lc e. (both b c lb lc e).1;
}
  where
    both : (b c : ℕ) → b < 256 → c < 256 → get_or new b 0 ≡ get_or new c 0 → (get_or old b 0 ≡ get_or old c 0) × (get_or has b false ≡ get_or has c false)
    both b c lb lc e =
        let x = r.known b (omega arith) in
        let y = r.known c (omega arith) in
        key_apart (get_or old b 0) (get_or old c 0) (get_or has b false) (get_or has c false) (r.single _ _ (get_or new c 0) (x ∙ ap Some e) y)

pub classes_take : (n to : ℕ) (all : List Node) (old new : List ℕ) (f : Filter) → slice_get all n ≡ Some (nodes.Take f to) → IsRefined (filter_set f) old new → ClassesTo n all old → ClassesTo (n + 1) all new
classes_take n to all old new f is r h b c lb lc e id to' g below at has = elim (cases_lt id n) [
  | inl low ↦ h b c lb lc (r.finer b c lb lc e) id to' g low at has
  | inr here ↦ (
      let same : id ≡ n = omega arith in
      let eq : Some (nodes.Take f to) ≡ Some (nodes.Take g to') = sym is ∙ subst (λ m. slice_get all m ≡ Some (nodes.Take g to')) same at in
      let fg : f ≡ g = filters f g to to' eq in
      subst (λ k. slice_get (filter_set k) c ≡ Some true) fg
      (true_within (filter_set f) c (sym (r.apart b c lb lc e) ∙ get_or_from_slice_get (filter_set f) b true false (subst (λ k. slice_get (filter_set k) b ≡ Some true) (sym fg) has))))
]
  where
    filters : (f g : Filter) (to to' : ℕ) → Some (nodes.Take f to) ≡ Some (nodes.Take g to') → f ≡ g
    filters f g to to' e = cc

pub classes_other : (n : ℕ) (all : List Node) (classes : List ℕ) (node : Node) → slice_get all n ≡ Some node → ((f : Filter) (to : ℕ) → node ≡ nodes.Take f to → ⊥) → ClassesTo n all classes → ClassesTo (n + 1) all classes
classes_other n all classes node is out h b c lb lc e id to f below at has = elim (cases_lt id n) [
  | inl low ↦ h b c lb lc e id to f low at has
  | inr here ↦ (let same : id ≡ n = omega arith in absurd (out f to (inner node (nodes.Take f to) (sym is ∙ subst (λ m. slice_get all m ≡ Some (nodes.Take f to)) same at))))
]
  where
    inner : (a b : Node) → Some a ≡ Some b → a ≡ b
    inner a b e = cc
