-- A bracket that is read is spelled so.
use Rattle.std.proofs.Common.{◌≡◌, ℕ, zero, suc, Bool, true, false, cond, ◌&&◌, List, [], ◌∷◌, ◌++◌, length, Option, Some, None, ◌⊎◌, inl, inr, refl, sym, ap, subst, ◌∙◌, append_assoc, nat_eq, nat_le}
use Rattle.std.proofs.lemmas.Bool.{eqb-true}
use Rattle.ere_syntax.specs.Reading.{◌>>=◌}
use Rattle.ere_syntax.specs.Bracket.{not, starts, is_octal, Escape, Octal, Letter, spell_escape, AreOctals, IsEscape, One, Raw, Escaped, spell_one, IsOne, value, closed_name, Member, Single, Range, Named, spell_member, names, front, dash_at, names_front, IsMember, spell_members, AreMembers, Bracket, spell_bracket, IsBracket}
use Rattle.ere_syntax.specs.Readers.{octals_at, escape_at, one_at, strip, class_or, or_class, class_at, single_or, named_at, member_at, behind, members_by, members_at, bracket_by, bracket_at}
use Rattle.ere_syntax.proofs.Sound.{bind_some, IsThat, that_is, allow_some}
use Rattle.ere_syntax.specs.declared.bracket.Front.{Front}
use Rattle.ere_syntax.specs.declared.bracket.Front.TheVariants.{Closes, Names, Begins, Wrong}
use Rattle.ere_syntax.specs.declared.class.Class.{Class}
use Rattle.ere_syntax.specs.declared.class.Class.TheVariants.{Alnum, Alpha, Blank, Cntrl, Digit, Graph, Lower, Print, Punct, Space, Upper, Xdigit}

-- what is taken from the front
pub record Takes {A : Type 0} (spell : A → List ℕ) (P : A → List ℕ → Type 0) (ts : List ℕ) (x : A × List ℕ) : Type 0 where
  pub parts : ts ≡ spell x.0 ++ x.1
  pub fine : P x.0 x.1

pub chosen : {A : Type 0} (b : Bool) (x y z : A) → cond b x y ≡ z → ((b ≡ true) × (x ≡ z)) ⊎ ((b ≡ false) × (y ≡ z))
chosen true x y z e = inl (refl, e)
chosen false x y z e = inr (refl, e)

pub refuse_some : {A : Type 0} (b : Bool) (r : Option A) (y : A) → cond b None r ≡ Some y → (b ≡ false) × (r ≡ Some y)
refuse_some true r y e = absurd cc
refuse_some false r y e = (refl, e)

none_some : {A : Type 0} (y : A) → None ≡ IsThat y → ⊥
none_some y e = cc

-- ---- escapes

abbrev AreTaken : ℕ → List ℕ → List ℕ × List ℕ → Type 0
AreTaken n ts x = (ts ≡ x.0 ++ x.1) × AreOctals n x.0 x.1

octals_sound : (n : ℕ) (ts : List ℕ) → AreTaken n ts (octals_at n ts)
octals_sound zero ts = (refl, tt)
octals_sound (suc n) [] = (refl, tt)
octals_sound (suc n) (c ∷ cs) = by (octals_sound n cs) (is_octal c) refl
  where
    by : AreTaken n cs (octals_at n cs) → (b : Bool) → is_octal c ≡ b → AreTaken (suc n) (c ∷ cs) (cond b (c ∷ (octals_at n cs).0, (octals_at n cs).1) ([], c ∷ cs))
    by k true e = (ap (λ (u : List ℕ). c ∷ u) k.0, (e, k.1))
    by k false e = (refl, e)

pub escape_sound : (ts : List ℕ) (x : Escape × List ℕ) → escape_at ts ≡ Some x → Takes spell_escape IsEscape ts x
escape_sound [] x e = absurd cc
escape_sound (c ∷ cs) x e = elim (chosen (is_octal c) _ _ (Some x) e) [
  | inl h ↦ let k = octals_sound 2 cs in subst (Takes spell_escape IsEscape (c ∷ cs)) (that_is (Octal c (octals_at 2 cs).0, (octals_at 2 cs).1) x h.1) (record { parts = ap (λ (u : List ℕ). c ∷ u) k.0; fine = (h.0, k.1) })
  | inr h ↦ subst (Takes spell_escape IsEscape (c ∷ cs)) (that_is (Letter c, cs) x h.1) (record { parts = refl; fine = h.0 })
]

pub one_sound : (ts : List ℕ) (x : One × List ℕ) → one_at ts ≡ Some x → Takes spell_one IsOne ts x
one_sound [] x e = absurd cc
one_sound (c ∷ cs) x e = elim (chosen (nat_eq c 92) _ _ (Some x) e) [
  | inl h ↦
      let a = bind_some (escape_at cs) (λ a. Some (Escaped a.0, a.1)) x h.1 in
      let s = escape_sound cs a.0 a.1 in
      let q = eqb-true c 92 h.0 in
      subst (Takes spell_one IsOne (c ∷ cs)) (that_is (Escaped a.0.0, a.0.1) x a.2) (record { parts = rw q (ap (λ (u : List ℕ). 92 ∷ u) s.parts); fine = s.fine })
  | inr h ↦ subst (Takes spell_one IsOne (c ∷ cs)) (that_is (Raw c, cs) x h.1) (record { parts = refl; fine = h.0 })
]

-- ---- classes

strip_sound : (cs ts rest : List ℕ) → strip cs ts ≡ Some rest → ts ≡ cs ++ rest
strip_sound [] ts rest e = that_is ts rest e
strip_sound (c ∷ cs) [] rest e = absurd cc
strip_sound (c ∷ cs) (d ∷ ds) rest e =
    let h = allow_some (nat_eq d c) (strip cs ds) rest e in
    let q = eqb-true d c h.0 in
    rw q (ap (λ (u : List ℕ). c ∷ u) (strip_sound cs ds rest h.1))

abbrev IsNamed : List ℕ → Class × List ℕ → Type 0
IsNamed ts x = ts ≡ closed_name x.0 ++ x.1

or_class_sound : (c : Class) (ts : List ℕ) (other : Option (Class × List ℕ)) → ((x : Class × List ℕ) → other ≡ Some x → IsNamed ts x) → (x : Class × List ℕ) → or_class c ts other ≡ Some x → IsNamed ts x
or_class_sound c ts other h x e = by (strip (closed_name c) ts) refl e
  where
    by : (o : Option (List ℕ)) → strip (closed_name c) ts ≡ o → class_or c o other ≡ Some x → IsNamed ts x
    by (Some rest) at e = subst (IsNamed ts) (that_is (c, rest) x e) (strip_sound (closed_name c) ts rest at)
    by None at e = h x e

pub class_sound : (ts : List ℕ) (x : Class × List ℕ) → class_at ts ≡ Some x → IsNamed ts x
class_sound ts = or_class_sound Alnum ts _ (or_class_sound Alpha ts _ (or_class_sound Blank ts _ (or_class_sound Cntrl ts _ (or_class_sound Digit ts _ (or_class_sound Graph ts _ (or_class_sound Lower ts _ (or_class_sound Print ts _ (or_class_sound Punct ts _ (or_class_sound Space ts _ (or_class_sound Upper ts _ (or_class_sound Xdigit ts None (λ x e. absurd (none_some x e)))))))))))))

-- ---- members

and_parts : (a b : Bool) → (a && b) ≡ true → (a ≡ true) × (b ≡ true)
and_parts true b e = (refl, e)
and_parts false b e = absurd cc

pub not_true : (b : Bool) → not b ≡ true → b ≡ false
not_true true e = absurd cc
not_true false e = refl

pub not_false : (b : Bool) → not b ≡ false → b ≡ true
not_false true e = refl
not_false false e = absurd cc

dash_sound : (ts us : List ℕ) → dash_at ts ≡ Some us → (ts ≡ 45 ∷ us) × (starts 93 us ≡ false)
dash_sound [] us e = absurd cc
dash_sound (c ∷ []) us e = absurd cc
dash_sound (c ∷ d ∷ cs) us e =
    let h = allow_some (nat_eq c 45 && not (nat_eq d 93)) (Some (d ∷ cs)) us e in
    let p = and_parts (nat_eq c 45) (not (nat_eq d 93)) h.0 in
    let q = eqb-true c 45 p.0 in
    subst (λ (u : List ℕ). (c ∷ (d ∷ cs) ≡ 45 ∷ u) × (starts 93 u ≡ false)) (that_is (d ∷ cs) us h.1) (rw q refl, not_true (nat_eq d 93) p.1)

abbrev pub TakesMember : Bool → List ℕ → Member × List ℕ → Type 0
TakesMember first ts x = Takes spell_member (IsMember first) ts x

single_sound : (first : Bool) (ts : List ℕ) (l : One) (us : List ℕ) → ts ≡ spell_one l ++ us → IsOne l us → front first ts ≡ Begins → (o : Option (List ℕ)) → dash_at us ≡ o → (x : Member × List ℕ) → single_or l us o ≡ Some x → TakesMember first ts x
single_sound first ts l us p q f None at x e = subst (TakesMember first ts) (that_is (Single l, us) x e) (record { parts = p; fine = (q, ap (front first) (sym p) ∙ f, at) })
single_sound first ts l us p q f (Some vs) at x e =
    let d = dash_sound us vs at in
    let n = refuse_some (names_front vs) _ x e in
    let h = bind_some (one_at vs) (λ h. cond (nat_le (value l) (value h.0)) (Some (Range l h.0, h.1)) None) x n.1 in
    let k = allow_some (nat_le (value l) (value h.0.0)) (Some (Range l h.0.0, h.0.1)) x h.2 in
    let s = one_sound vs h.0 h.1 in
    let r : us ≡ 45 ∷ (spell_one h.0.0 ++ h.0.1) = d.0 ∙ ap (λ (u : List ℕ). 45 ∷ u) s.parts in
    let t : ts ≡ spell_one l ++ (45 ∷ (spell_one h.0.0 ++ h.0.1)) = p ∙ ap (λ (u : List ℕ). spell_one l ++ u) r in
    subst (TakesMember first ts) (that_is (Range l h.0.0, h.0.1) x k.1)
    (record { parts = t ∙ sym (append_assoc (spell_one l) (45 ∷ spell_one h.0.0) h.0.1); fine = (subst (IsOne l) r q, ap (front first) (sym t) ∙ f, s.fine, ap (starts 93) (sym s.parts) ∙ d.1, ap names_front (sym s.parts) ∙ n.0, k.0) })

named_sound : (first : Bool) (c : ℕ) (cs : List ℕ) (x : Member × List ℕ) → c ≡ 91 → named_at (c ∷ cs) ≡ Some x → TakesMember first (c ∷ cs) x
named_sound first c [] x q e = absurd cc
named_sound first c (d ∷ cs) x q e =
    let h = allow_some (nat_eq d 58) (class_at cs >>= λ a. Some (Named a.0, a.1)) x e in
    let a = bind_some (class_at cs) (λ a. Some (Named a.0, a.1)) x h.1 in
    let s = class_sound cs a.0 a.1 in
    let r = eqb-true d 58 h.0 in
    subst (TakesMember first (c ∷ d ∷ cs)) (that_is (Named a.0.0, a.0.1) x a.2) (record { parts = ap (λ (u : ℕ). u ∷ (d ∷ cs)) q ∙ ap (λ (u : ℕ). 91 ∷ (u ∷ cs)) r ∙ ap (λ (u : List ℕ). 91 ∷ (58 ∷ u)) s; fine = tt })

names_is : (first : Bool) (c : ℕ) (cs : List ℕ) → front first (c ∷ cs) ≡ Names → c ≡ 91
names_is first c cs e = by (nat_eq c 93 && not first) (nat_eq c 91) refl (names cs) (nat_eq c 45 && (not first && not (starts 93 cs))) e
  where
    by : (a b : Bool) → nat_eq c 91 ≡ b → (d f : Bool) → cond a Closes (cond (b && d) Names (cond f Wrong Begins)) ≡ Names → c ≡ 91
    by true b q d f e = absurd cc
    by false true q d f e = eqb-true c 91 q
    by false false q d true e = absurd cc
    by false false q d false e = absurd cc

pub member_sound : (first : Bool) (ts : List ℕ) (f : Front) → front first ts ≡ f → (x : Member × List ℕ) → member_at ts f ≡ Some x → TakesMember first ts x
member_sound first ts Closes at x e = absurd cc
member_sound first ts Wrong at x e = absurd cc
member_sound first [] Names at x e = absurd cc
member_sound first (c ∷ cs) Names at x e = named_sound first c cs x (names_is first c cs at) e
member_sound first ts Begins at x e =
    let a = bind_some (one_at ts) (λ a. single_or a.0 a.1 (dash_at a.1)) x e in
    let s = one_sound ts a.0 a.1 in
    single_sound first ts a.0.0 a.0.1 s.parts s.fine at (dash_at a.0.1) refl x a.2

closes_is : (first : Bool) (ts : List ℕ) → front first ts ≡ Closes → (ts ≡ 93 ∷ behind ts) × (first ≡ false)
closes_is first [] e = absurd cc
closes_is first (c ∷ cs) e = by (nat_eq c 93) refl first refl (nat_eq c 91 && names cs) (nat_eq c 45 && (not first && not (starts 93 cs))) e
  where
    by : (a : Bool) → nat_eq c 93 ≡ a → (b : Bool) → first ≡ b → (d f : Bool) → cond (a && not b) Closes (cond d Names (cond f Wrong Begins)) ≡ Closes → (c ∷ cs ≡ 93 ∷ cs) × (first ≡ false)
    by true q false p d f e = (ap (λ (u : ℕ). u ∷ cs) (eqb-true c 93 q), p)
    by true q true p true f e = absurd cc
    by true q true p false true e = absurd cc
    by true q true p false false e = absurd cc
    by false q b p true f e = absurd cc
    by false q b p false true e = absurd cc
    by false q b p false false e = absurd cc

abbrev pub TakesMembers : Bool → List ℕ → List Member × List ℕ → Type 0
TakesMembers first ts x = Takes spell_members (AreMembers first) ts x

abbrev AreSound : Bool → (List ℕ → Option (List Member × List ℕ)) → Type 0
AreSound first go = (ts : List ℕ) (x : List Member × List ℕ) → go ts ≡ Some x → TakesMembers first ts x

more_sound : (first : Bool) (go : List ℕ → Option (List Member × List ℕ)) → AreSound false go → (ts : List ℕ) (f : Front) → front first ts ≡ f → (x : List Member × List ℕ) → (member_at ts f >>= λ a. go a.1 >>= λ y. Some (a.0 ∷ y.0, y.1)) ≡ Some x → TakesMembers first ts x
more_sound first go k ts f at x e =
    let a = bind_some (member_at ts f) (λ a. go a.1 >>= λ y. Some (a.0 ∷ y.0, y.1)) x e in
    let b = bind_some (go a.0.1) (λ y. Some (a.0.0 ∷ y.0, y.1)) x a.2 in
    let s = member_sound first ts f at a.0 a.1 in
    let t = k a.0.1 b.0 b.1 in
    let p : ts ≡ (spell_member a.0.0 ++ spell_members b.0.0) ++ b.0.1 = s.parts ∙ ap (λ (u : List ℕ). spell_member a.0.0 ++ u) t.parts ∙ sym (append_assoc (spell_member a.0.0) (spell_members b.0.0) b.0.1) in
    subst (TakesMembers first ts) (that_is (a.0.0 ∷ b.0.0, b.0.1) x b.2) (record { parts = p; fine = (subst (IsMember first a.0.0) t.parts s.fine, t.fine) })

pub members_sound : (w : ℕ) (first : Bool) → AreSound first (members_at w first)
members_sound zero first ts x e = absurd cc
members_sound (suc w) first ts x e = by (members_sound w false) (front first ts) refl e
  where
    by : AreSound false (members_at w false) → (f : Front) → front first ts ≡ f → members_by (members_at w false) ts f ≡ Some x → TakesMembers first ts x
    by k Closes at e = let c = closes_is first ts at in subst (TakesMembers first ts) (that_is ([], behind ts) x e) (record { parts = c.0; fine = c.1 })
    by k Names at e = more_sound first (members_at w false) k ts Names at x e
    by k Begins at e = more_sound first (members_at w false) k ts Begins at x e
    by k Wrong at e = absurd cc

starts_is : (ts : List ℕ) → starts 94 ts ≡ true → ts ≡ 94 ∷ behind ts
starts_is [] e = absurd cc
starts_is (c ∷ cs) e = ap (λ (u : ℕ). u ∷ cs) (eqb-true c 94 e)

pub bracket_sound : (ts : List ℕ) (x : Bracket × List ℕ) → bracket_at ts ≡ Some x → Takes spell_bracket IsBracket ts x
bracket_sound ts x e = by (starts 94 ts) refl e
  where
    by : (b : Bool) → starts 94 ts ≡ b → bracket_by ts b ≡ Some x → Takes spell_bracket IsBracket ts x
    by true at e =
        let a = bind_some (members_at (length ts) true (behind ts)) (λ a. Some (record { negated = true; members = a.0 }, a.1)) x e in
        let s = members_sound (length ts) true (behind ts) a.0 a.1 in
        let y : Bracket = record { negated = true; members = a.0.0 } in
        subst (Takes spell_bracket IsBracket ts) (that_is (y, a.0.1) x a.2) (record { parts = starts_is ts at ∙ ap (λ (u : List ℕ). 94 ∷ u) s.parts; fine = (s.fine, refl) })
    by false at e =
        let a = bind_some (members_at (length ts) true ts) (λ a. Some (record { negated = false; members = a.0 }, a.1)) x e in
        let s = members_sound (length ts) true ts a.0 a.1 in
        let y : Bracket = record { negated = false; members = a.0.0 } in
        subst (Takes spell_bracket IsBracket ts) (that_is (y, a.0.1) x a.2) (record { parts = s.parts; fine = (s.fine, ap (starts 94) (sym s.parts) ∙ at) })
