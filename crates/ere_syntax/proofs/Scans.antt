-- A text has a tree exactly where one is read, and at most one.
use Rattle.std.proofs.Common.{◌≡◌, ℕ, zero, suc, ◌<◌, ◌≤◌, Bool, true, false, cond, List, [], ◌∷◌, ◌++◌, length, Option, Some, None, inl, inr, refl, sym, ap, subst, ◌∙◌, append_assoc, arith, nat_eq, length-append}
use Rattle.std.proofs.lemmas.Bool.{eqb-true}
use Rattle.ere_syntax.specs.Tree.{Tree}
use Rattle.ere_syntax.specs.Reading.{◌>>=◌, tree_of}
use Rattle.ere_syntax.specs.Bracket.{starts, spell_escape, spell_bracket}
use Rattle.ere_syntax.specs.Readers.{behind, escape_at, bracket_at, digits_at, upto_by, interval_at, or_sign, sign_of}
use Rattle.ere_syntax.specs.Scan.{Spelling, Ordinary, Signed, Escapes, Bracketed, Counted, spell, IsOrdinary, IsSign, IsSpelling, opened, spell_all, AreSpellings, tokens_of, IsEreOf}
use Rattle.ere_syntax.specs.EreOf.{counted_or, spelling_by, spellings_at, spellings_of, ere_of}
use Rattle.ere_syntax.specs.Signs.{is_digit, Interval, Exact, Upto, spell_interval, AreDigits, is_empty, IsInterval, fits, code}
use Rattle.ere_syntax.proofs.Sound.{bind_some, IsThat, that_is, allow_some, tree_sound}
use Rattle.ere_syntax.proofs.Complete.{ere_again}
use Rattle.ere_syntax.proofs.BracketSound.{Takes, chosen, refuse_some, escape_sound, bracket_sound}
use Rattle.ere_syntax.proofs.BracketAgain.{escape_again, bracket_again}
use Rattle.ere_syntax.specs.declared.sign.Sign.{Sign}
use Rattle.ere_syntax.specs.declared.sign.Sign.TheVariants.{Dot, Hat, Dollar, OpenMark, CloseMark, BarMark, Star, Plus, Query, Brace, BracketMark, Backslash}

-- ---- intervals

abbrev AreTaken : List ℕ → List ℕ × List ℕ → Type 0
AreTaken ts x = (ts ≡ x.0 ++ x.1) × AreDigits x.0

digits_sound : (ts : List ℕ) → AreTaken ts (digits_at ts)
digits_sound [] = (refl, tt)
digits_sound (c ∷ cs) = by (digits_sound cs) (is_digit c) refl
  where
    by : AreTaken cs (digits_at cs) → (b : Bool) → is_digit c ≡ b → AreTaken (c ∷ cs) (cond b (c ∷ (digits_at cs).0, (digits_at cs).1) ([], c ∷ cs))
    by k true e = (ap (λ (u : List ℕ). c ∷ u) k.0, (e, k.1))
    by k false e = (refl, tt)

digits_again : (ds : List ℕ) (c : ℕ) (rest : List ℕ) → AreDigits ds → is_digit c ≡ false → digits_at (ds ++ (c ∷ rest)) ≡ (ds, c ∷ rest)
digits_again [] c rest h e = rw e refl
digits_again (d ∷ ds) c rest h e = rw (h.0, digits_again ds c rest h.1 e) refl

abbrev FitsInterval : Interval → List ℕ → Type 0
FitsInterval i rest = IsInterval i

starts_is : (b : ℕ) (ts : List ℕ) → starts b ts ≡ true → ts ≡ b ∷ behind ts
starts_is b [] e = absurd cc
starts_is b (c ∷ cs) e = ap (λ (u : ℕ). u ∷ cs) (eqb-true c b e)

upto_sound : (ts ds us : List ℕ) → ts ≡ ds ++ (44 ∷ us) → AreDigits ds → is_empty ds ≡ false → (x : Interval × List ℕ) → upto_by ds (digits_at us) ≡ Some x → Takes spell_interval FitsInterval ts x
upto_sound ts ds us p h k x e =
    let y = digits_at us in
    let d = digits_sound us in
    let a = allow_some (starts 125 (digits_at us).1) (Some (Upto ds (digits_at us).0, behind (digits_at us).1)) x e in
    let q = starts_is 125 (digits_at us).1 a.0 in
    let r : us ≡ (digits_at us).0 ++ (125 ∷ behind (digits_at us).1) = d.0 ∙ ap (λ (u : List ℕ). (digits_at us).0 ++ u) q in
    let s : ds ++ (44 ∷ ((digits_at us).0 ++ (125 ∷ behind (digits_at us).1))) ≡ (ds ++ (44 ∷ ((digits_at us).0 ++ (125 ∷ [])))) ++ behind (digits_at us).1 = simp append_assoc in
    subst (Takes spell_interval FitsInterval ts) (that_is (Upto ds (digits_at us).0, behind (digits_at us).1) x a.1) (record { parts = p ∙ ap (λ (u : List ℕ). ds ++ (44 ∷ u)) r ∙ s; fine = (h, d.1, k) })

pub interval_sound : (ts : List ℕ) (x : Interval × List ℕ) → interval_at ts ≡ Some x → Takes spell_interval FitsInterval ts x
interval_sound ts x e =
    let d = digits_sound ts in
    let a = refuse_some (is_empty (digits_at ts).0) _ x e in
    elim (chosen (starts 125 (digits_at ts).1) _ _ (Some x) a.1) [
      | inl h ↦
          let q = starts_is 125 (digits_at ts).1 h.0 in
          let r : ts ≡ (digits_at ts).0 ++ (125 ∷ behind (digits_at ts).1) = d.0 ∙ ap (λ (u : List ℕ). (digits_at ts).0 ++ u) q in
          subst (Takes spell_interval FitsInterval ts) (that_is (Exact (digits_at ts).0, behind (digits_at ts).1) x h.1) (record { parts = r ∙ sym (append_assoc (digits_at ts).0 (125 ∷ []) (behind (digits_at ts).1)); fine = (d.1, a.0) })
      | inr h ↦
          let b = allow_some (starts 44 (digits_at ts).1) (upto_by (digits_at ts).0 (digits_at (behind (digits_at ts).1))) x h.1 in
          let q = starts_is 44 (digits_at ts).1 b.0 in
          upto_sound ts (digits_at ts).0 (behind (digits_at ts).1) (d.0 ∙ ap (λ (u : List ℕ). (digits_at ts).0 ++ u) q) d.1 a.0 x b.1
    ]

interval_again : (i : Interval) (rest : List ℕ) → IsInterval i → interval_at (spell_interval i ++ rest) ≡ Some (i, rest)
interval_again (Exact ds) rest h =
    let p : interval_at ((ds ++ (125 ∷ [])) ++ rest) ≡ interval_at (ds ++ (125 ∷ rest)) = ap interval_at (append_assoc ds (125 ∷ []) rest) in
    let k = digits_again ds 125 rest h.0 refl in
    p ∙ rw (k, h.1) refl
interval_again (Upto ds es) rest h =
    let q : (ds ++ (44 ∷ (es ++ (125 ∷ [])))) ++ rest ≡ ds ++ (44 ∷ (es ++ (125 ∷ rest))) = simp append_assoc in
    let p : interval_at ((ds ++ (44 ∷ (es ++ (125 ∷ [])))) ++ rest) ≡ interval_at (ds ++ (44 ∷ (es ++ (125 ∷ rest)))) = ap interval_at q in
    let k = digits_again ds 44 (es ++ (125 ∷ rest)) h.0 refl in
    let l = digits_again es 125 rest h.1 refl in
    p ∙ rw (k, h.2, l) refl

-- ---- signs

or_sign_sound : (k : Sign) (c : ℕ) (other : Option Sign) → ((s : Sign) → other ≡ Some s → c ≡ code s) → (s : Sign) → or_sign k c other ≡ Some s → c ≡ code s
or_sign_sound k c other h s e = elim (chosen (nat_eq c (code k)) (Some k) other (Some s) e) [
  | inl a ↦ eqb-true c (code k) a.0 ∙ ap code (that_is k s a.1)
  | inr a ↦ h s a.1
]

none_sign : (c : ℕ) (s : Sign) → None ≡ IsThat s → c ≡ code s
none_sign c s e = absurd cc

sign_sound : (c : ℕ) (s : Sign) → sign_of c ≡ Some s → c ≡ code s
unfolding sign_of
sign_sound c = or_sign_sound Dot c _ (or_sign_sound Hat c _ (or_sign_sound Dollar c _ (or_sign_sound OpenMark c _ (or_sign_sound CloseMark c _ (or_sign_sound BarMark c _ (or_sign_sound Star c _ (or_sign_sound Plus c _ (or_sign_sound Query c _ (or_sign_sound Brace c _ (or_sign_sound BracketMark c _ (or_sign_sound Backslash c None (none_sign c))))))))))))

sign_again : (s : Sign) → sign_of (code s) ≡ Some s
unfolding sign_of
sign_again Dot = refl
sign_again Hat = refl
sign_again Dollar = refl
sign_again OpenMark = refl
sign_again CloseMark = refl
sign_again BarMark = refl
sign_again Star = refl
sign_again Plus = refl
sign_again Query = refl
sign_again Brace = refl
sign_again BracketMark = refl
sign_again Backslash = refl

-- ---- one token

abbrev pub TakesSpelling : ℕ → List ℕ → Spelling × List ℕ → Type 0
TakesSpelling groups ts x = Takes spell (IsSpelling groups) ts x

plain_sound : (groups c : ℕ) (cs : List ℕ) (s : Sign) → c ≡ code s → IsSign groups s → (x : Spelling × List ℕ) → IsThat (Signed s, cs) ≡ Some x → TakesSpelling groups (c ∷ cs) x
plain_sound groups c cs s q h x e = subst (TakesSpelling groups (c ∷ cs)) (that_is (Signed s, cs) x e) (record { parts = ap (λ (u : ℕ). u ∷ cs) q; fine = h })

ordinary_sound : (groups c : ℕ) (cs : List ℕ) (o : Option Sign) → sign_of c ≡ o → IsOrdinary groups o cs → (x : Spelling × List ℕ) → IsThat (Ordinary c, cs) ≡ Some x → TakesSpelling groups (c ∷ cs) x
ordinary_sound groups c cs o at h x e = subst (TakesSpelling groups (c ∷ cs)) (that_is (Ordinary c, cs) x e) (record { parts = refl; fine = subst (λ (o : Option Sign). IsOrdinary groups o cs) (sym at) h })

counted_sound : (groups c : ℕ) (cs : List ℕ) → c ≡ 123 → (o : Option (Interval × List ℕ)) → interval_at cs ≡ o → (x : Spelling × List ℕ) → counted_or cs o ≡ Some x → TakesSpelling groups (c ∷ cs) x
counted_sound groups c cs q None at x e = subst (TakesSpelling groups (c ∷ cs)) (that_is (Ordinary 123, cs) x e) (record { parts = ap (λ (u : ℕ). u ∷ cs) q; fine = subst (λ (o : Option Sign). IsOrdinary groups o cs) (sym (sign_again Brace)) at })
counted_sound groups c cs q (Some y) at x e =
    let a = allow_some (fits y.0) (Some (Counted y.0, y.1)) x e in
    let s = interval_sound cs y at in
    subst (TakesSpelling groups (c ∷ cs)) (that_is (Counted y.0, y.1) x a.1) (record { parts = ap (λ (u : ℕ). u ∷ cs) q ∙ ap (λ (u : List ℕ). 123 ∷ u) s.parts; fine = (s.fine, a.0) })

pub spelling_sound : (groups c : ℕ) (cs : List ℕ) (o : Option Sign) → sign_of c ≡ o → (x : Spelling × List ℕ) → spelling_by groups c cs o ≡ Some x → TakesSpelling groups (c ∷ cs) x
spelling_sound groups c cs None at x e = ordinary_sound groups c cs None at tt x e
spelling_sound groups c cs (Some Backslash) at x e =
    let a = bind_some (escape_at cs) (λ a. Some (Escapes a.0, a.1)) x e in
    let s = escape_sound cs a.0 a.1 in
    subst (TakesSpelling groups (c ∷ cs)) (that_is (Escapes a.0.0, a.0.1) x a.2) (record { parts = ap (λ (u : ℕ). u ∷ cs) (sign_sound c Backslash at) ∙ ap (λ (u : List ℕ). 92 ∷ u) s.parts; fine = s.fine })
spelling_sound groups c cs (Some BracketMark) at x e =
    let a = bind_some (bracket_at cs) (λ a. Some (Bracketed a.0, a.1)) x e in
    let s = bracket_sound cs a.0 a.1 in
    subst (TakesSpelling groups (c ∷ cs)) (that_is (Bracketed a.0.0, a.0.1) x a.2) (record { parts = ap (λ (u : ℕ). u ∷ cs) (sign_sound c BracketMark at) ∙ ap (λ (u : List ℕ). 91 ∷ u) s.parts; fine = s.fine })
spelling_sound groups c cs (Some Brace) at x e = counted_sound groups c cs (sign_sound c Brace at) (interval_at cs) refl x e
spelling_sound zero c cs (Some CloseMark) at x e =
    subst (TakesSpelling 0 (c ∷ cs)) (that_is (Ordinary 41, cs) x e) (record { parts = ap (λ (u : ℕ). u ∷ cs) (sign_sound c CloseMark at); fine = subst (λ (o : Option Sign). IsOrdinary 0 o cs) (sym (sign_again CloseMark)) refl })
spelling_sound (suc n) c cs (Some CloseMark) at x e = plain_sound (suc n) c cs CloseMark (sign_sound c CloseMark at) (omega arith) x e
spelling_sound groups c cs (Some Dot) at x e = plain_sound groups c cs Dot (sign_sound c Dot at) tt x e
spelling_sound groups c cs (Some Hat) at x e = plain_sound groups c cs Hat (sign_sound c Hat at) tt x e
spelling_sound groups c cs (Some Dollar) at x e = plain_sound groups c cs Dollar (sign_sound c Dollar at) tt x e
spelling_sound groups c cs (Some OpenMark) at x e = plain_sound groups c cs OpenMark (sign_sound c OpenMark at) tt x e
spelling_sound groups c cs (Some BarMark) at x e = plain_sound groups c cs BarMark (sign_sound c BarMark at) tt x e
spelling_sound groups c cs (Some Star) at x e = plain_sound groups c cs Star (sign_sound c Star at) tt x e
spelling_sound groups c cs (Some Plus) at x e = plain_sound groups c cs Plus (sign_sound c Plus at) tt x e
spelling_sound groups c cs (Some Query) at x e = plain_sound groups c cs Query (sign_sound c Query at) tt x e

-- ---- a spelled token is read

abbrev Reads : ℕ → List ℕ → Spelling → List ℕ → Type 0
Reads groups ts s rest = (c : ℕ) × (cs : List ℕ) × (ts ≡ c ∷ cs) × (spelling_by groups c cs (sign_of c) ≡ Some (s, rest))

ordinary_again : (groups c : ℕ) (rest : List ℕ) (o : Option Sign) → sign_of c ≡ o → IsOrdinary groups o rest → spelling_by groups c rest o ≡ Some (Ordinary c, rest)
ordinary_again groups c rest None at h = refl
ordinary_again groups c rest (Some Brace) at h = rw h (ap (λ (u : ℕ). Some (Ordinary u, rest)) (sym (sign_sound c Brace at)))
ordinary_again zero c rest (Some CloseMark) at h = ap (λ (u : ℕ). Some (Ordinary u, rest)) (sym (sign_sound c CloseMark at))
ordinary_again (suc n) c rest (Some CloseMark) at h = absurd (omega (arith, h))
ordinary_again groups c rest (Some Dot) at h = absurd h
ordinary_again groups c rest (Some Hat) at h = absurd h
ordinary_again groups c rest (Some Dollar) at h = absurd h
ordinary_again groups c rest (Some OpenMark) at h = absurd h
ordinary_again groups c rest (Some BarMark) at h = absurd h
ordinary_again groups c rest (Some Star) at h = absurd h
ordinary_again groups c rest (Some Plus) at h = absurd h
ordinary_again groups c rest (Some Query) at h = absurd h
ordinary_again groups c rest (Some BracketMark) at h = absurd h
ordinary_again groups c rest (Some Backslash) at h = absurd h

signed_again : (groups : ℕ) (s : Sign) (rest : List ℕ) → IsSign groups s → spelling_by groups (code s) rest (Some s) ≡ Some (Signed s, rest)
signed_again zero CloseMark rest h = absurd (omega (arith, h))
signed_again (suc n) CloseMark rest h = refl
signed_again groups Brace rest h = absurd h
signed_again groups BracketMark rest h = absurd h
signed_again groups Backslash rest h = absurd h
signed_again groups Dot rest h = refl
signed_again groups Hat rest h = refl
signed_again groups Dollar rest h = refl
signed_again groups OpenMark rest h = refl
signed_again groups BarMark rest h = refl
signed_again groups Star rest h = refl
signed_again groups Plus rest h = refl
signed_again groups Query rest h = refl

spelling_again : (groups : ℕ) (s : Spelling) (rest : List ℕ) → IsSpelling groups s rest → Reads groups (spell s ++ rest) s rest
spelling_again groups (Ordinary c) rest h = (c, rest, refl, ordinary_again groups c rest (sign_of c) refl h)
spelling_again groups (Signed s) rest h = (code s, rest, refl, ap (spelling_by groups (code s) rest) (sign_again s) ∙ signed_again groups s rest h)
spelling_again groups (Escapes e) rest h =
    let k = escape_again e rest h in
    (92, spell_escape e ++ rest, refl, ap (spelling_by groups 92 (spell_escape e ++ rest)) (sign_again Backslash) ∙ rw k refl)
spelling_again groups (Bracketed b) rest h =
    let k = bracket_again b rest h in
    (91, spell_bracket b ++ rest, refl, ap (spelling_by groups 91 (spell_bracket b ++ rest)) (sign_again BracketMark) ∙ rw k refl)
spelling_again groups (Counted i) rest h =
    let k = interval_again i rest h.0 in
    (123, spell_interval i ++ rest, refl, ap (spelling_by groups 123 (spell_interval i ++ rest)) (sign_again Brace) ∙ rw (k, h.1) refl)

-- ---- all tokens

record AreRead (groups : ℕ) (ts : List ℕ) (ss : List Spelling) : Type 0 where
  parts : spell_all ss ≡ ts
  fine : AreSpellings groups ss

spellings_sound : (w groups : ℕ) (ts : List ℕ) (ss : List Spelling) → spellings_at w groups ts ≡ Some ss → AreRead groups ts ss
spellings_sound w groups [] ss e = subst (AreRead groups []) (that_is [] ss e) (record { parts = refl; fine = tt })
spellings_sound zero groups (c ∷ cs) ss e = absurd cc
spellings_sound (suc w) groups (c ∷ cs) ss e =
    let a = bind_some (spelling_by groups c cs (sign_of c)) (λ a. spellings_at w (opened groups a.0) a.1 >>= λ ss. Some (a.0 ∷ ss)) ss e in
    let b = bind_some (spellings_at w (opened groups a.0.0) a.0.1) (λ ss. Some (a.0.0 ∷ ss)) ss a.2 in
    let s = spelling_sound groups c cs (sign_of c) refl a.0 a.1 in
    let k = spellings_sound w (opened groups a.0.0) a.0.1 b.0 b.1 in
    subst (AreRead groups (c ∷ cs)) (that_is (a.0.0 ∷ b.0) ss b.2)
    (record { parts = ap (λ (u : List ℕ). spell a.0.0 ++ u) k.parts ∙ sym s.parts; fine = (subst (IsSpelling groups a.0.0) (sym k.parts) s.fine, k.fine) })

step_again : (w groups : ℕ) (ts : List ℕ) (s : Spelling) (rest : List ℕ) → Reads groups ts s rest → length ts ≤ w → (ss : List Spelling) → ((v : ℕ) → length rest ≤ v → spellings_at v (opened groups s) rest ≡ Some ss) → length rest < length ts → spellings_at w groups ts ≡ Some (s ∷ ss)
step_again zero groups ts s rest r room ss go less = absurd (omega (arith, room, less))
step_again (suc w) groups ts s rest r room ss go less =
    let k = go w (omega (arith, room, less)) in
    ap (spellings_at (suc w) groups) r.2 ∙ ap (λ (o : Option (Spelling × List ℕ)). o >>= λ x. spellings_at w (opened groups x.0) x.1 >>= λ ss. Some (x.0 ∷ ss)) r.3 ∙ ap (λ (o : Option (List Spelling)). o >>= λ ss. Some (s ∷ ss)) k

pub spell_some : (s : Spelling) → 1 ≤ length (spell s)
spell_some (Ordinary c) = omega arith
spell_some (Signed s) = omega arith
spell_some (Escapes e) = omega arith
spell_some (Bracketed b) = omega arith
spell_some (Counted i) = omega arith

spellings_again : (ss : List Spelling) (w groups : ℕ) → AreSpellings groups ss → length (spell_all ss) ≤ w → spellings_at w groups (spell_all ss) ≡ Some ss
spellings_again [] w groups h room = refl
spellings_again (s ∷ ss) w groups h room =
    let p = spell_some s in
    step_again w groups (spell s ++ spell_all ss) s (spell_all ss) (spelling_again groups s (spell_all ss) h.0) room ss (λ v l. spellings_again ss v (opened groups s) h.1 l) (omega (arith, length-append (spell s) (spell_all ss), p))

-- ---- texts

pub text_again : (text : List ℕ) (t : Tree) → IsEreOf text t → ere_of text ≡ Some t
text_again text t h =
    let k = spellings_again h.spellings (length (spell_all h.spellings)) 0 h.fine (omega arith) in
    let p : ere_of (spell_all h.spellings) ≡ Some t = ap (λ (o : Option (List Spelling)). o >>= λ ss. tree_of (tokens_of ss)) k ∙ ap tree_of (sym h.tokens) ∙ ere_again t h.ere in
    ap ere_of (sym h.spelled) ∙ p

pub text_sound : (text : List ℕ) (t : Tree) → ere_of text ≡ Some t → IsEreOf text t
text_sound text t e =
    let a = bind_some (spellings_of text) (λ ss. tree_of (tokens_of ss)) t e in
    let s = spellings_sound (length text) 0 text a.0 a.1 in
    let k = tree_sound (tokens_of a.0) t a.2 in
    record { spellings = a.0; spelled = s.parts; fine = s.fine; tokens = k.0; ere = k.1 }

-- at most one tree for a text
pub one_ere : (text : List ℕ) (t u : Tree) → IsEreOf text t → IsEreOf text u → t ≡ u
one_ere text t u h k = that_is t u (sym (text_again text t h) ∙ text_again text u k)

-- no tree exactly where none is read
pub no_ere : (text : List ℕ) → ere_of text ≡ None → (t : Tree) → IsEreOf text t → ⊥
no_ere text e t h = none (sym (text_again text t h) ∙ e)
  where
    none : IsThat t ≡ None → ⊥
    none e = cc
