-- The code of the key of subscripts, from that of each.
use Rattle.std.proofs.Common.{◌≡◌, inl, inr, ℕ, suc, ◌+◌, ◌<◌, Bool, false, List, [], ◌∷◌, ◌++◌, length, map, refl, sym, ap, subst, ◌∙◌, arith, length-append}
use Rattle.std.proofs.lemmas.List.{length-map, map-append}
use Rattle.wasm_types.specs.Syntax.{Instructions}
use Rattle.mid_program.specs.Mid as plain
use Rattle.mid_program.specs.Mid.{Code, At, End, form_of}
use Rattle.mid_program.specs.ViewCode.{joined, view}
use Rattle.mid_program.specs.declared.code.Code.{Code as Owned}
use Rattle.lower_model.specs.Emission.{Layout, emitted, all_emitted}
use Rattle.lower_pieces.specs.Emits.{Emits}
use Rattle.lower_pieces.specs.Forms.{view_form}
use Rattle.lower_pieces.specs.declared.emitted.Emitted.{Emitted}
use Rattle.lower_pieces.specs.declared.form.Form.{Form}
use Rattle.lower_pieces.proofs.Appended.{◌⨟◌, same, Follows}
use Rattle.lower_expressions.specs.CodeAt.{Unrefused}
use Rattle.lower_expressions.specs.Fits.{AllFit, Fits, Within}
use Rattle.lower_expressions.specs.Parts.{all_joined, joined_form, joined_with, key_form}
use Rattle.lower_expressions.proofs.Refusals.{still_refused, told, weaker}
use Rattle.lower_expressions.proofs.Weights.{weight}

form_more : (fs : List plain.Form) (f last : plain.Form) → key_form (fs ++ f ∷ []) last ≡ joined_form
form_more [] f last = refl
form_more (g ∷ fs) f last = refl

form_joined : (fs : List plain.Form) → key_form fs joined_form ≡ joined_form
form_joined [] = refl
form_joined (f ∷ fs) = refl

-- the last two are joined first
pub joined_last : (y : Layout) (fs : List plain.Form) (f last : plain.Form) (s t d : ℕ) (k : Instructions) → s ≡ t + length fs
    → all_joined y (fs ++ f ∷ []) last t d k ≡ joined_with y f last s d (all_joined y fs joined_form t d k)
joined_last y [] f last s t d k e = let place : t ≡ s = omega arith in ap (λ (n : ℕ). joined_with y f last n d k) place
joined_last y (g ∷ fs) f last s t d k e =
    ap (λ (x : plain.Form). all_joined y (fs ++ f ∷ []) last (suc t) d (joined_with y g x t d k)) (form_more fs f last)
    ∙ joined_last y fs f last s (suc t) d (joined_with y g joined_form t d k) (omega arith)
    ∙ ap (λ (x : plain.Form). joined_with y f last s d (all_joined y fs joined_form (suc t) d (joined_with y g x t d k))) (sym (form_joined fs))

-- one subscript more is evaluated, at s, where those of forms gs wait from t on
subscript_emitted : (y : Layout) (v : Bool) (fs gs : List plain.Form) (ts : List ℕ) (x : Code) (es : List Code) (last : Code) (g : plain.Form) (s t w d : ℕ) (a b : Emitted) (k : Instructions)
    → g ≡ form_of fs x → s ≡ t + length gs → Emits a b (emitted y false fs ts x s w d)
    → Follows b (emitted y false fs ts (joined es last) (suc s) w d (all_joined y (gs ++ g ∷ []) (form_of fs (joined es last)) t d k))
    a (emitted y v fs ts (joined (x ∷ es) last) s w d (all_joined y gs joined_form t d k))
unfolding emitted all_emitted
subscript_emitted y v fs gs ts x es last g s t w d a b k h e p =
    same (ap (λ (c : Instructions). emitted y false fs ts (joined es last) (suc s) w d c) (joined_last y gs g (form_of fs (joined es last)) s t d k e))
    ⨟ same (ap (λ (f : plain.Form). emitted y false fs ts (joined es last) (suc s) w d (joined_with y f (form_of fs (joined es last)) s d (all_joined y gs joined_form t d k))) h)
    ⨟ p _

-- the same where its form is noted, and all of them are there unless memory ran out
pub subscript_noted : (y : Layout) (v : Bool) (fs : List plain.Form) (ts : List ℕ) (x : Code) (es : List Code) (last : Code) (g : Form) (old new : List Form) (s t w d : ℕ) (a b c : Emitted) (k : Instructions)
    → view_form g ≡ form_of fs x → Unrefused a (s ≡ t + length old) → Emits a b (emitted y false fs ts x s w d) → Emits b c (λ i. i) → Unrefused c (new ≡ old ++ g ∷ [])
    → Follows c (emitted y false fs ts (joined es last) (suc s) w d (all_joined y (map view_form new) (form_of fs (joined es last)) t d k))
    a (emitted y v fs ts (joined (x ∷ es) last) s w d (all_joined y (map view_form old) joined_form t d k))
subscript_noted y v fs ts x es last g old new s t w d a b c k h (inl refused) p n added = λ whole is. still_refused n (still_refused p refused) _ whole
subscript_noted y v fs ts x es last g old new s t w d a b c k h (inr e) p n added =
    let there : s ≡ t + length (map view_form old) = let l = length-map old view_form in omega (arith, e, l) in
    let code : List plain.Form → Instructions = λ gs. emitted y false fs ts (joined es last) (suc s) w d (all_joined y gs (form_of fs (joined es last)) t d k) in
    told (λ (xs : List Form). code (map view_form xs)) added ⨟ same (ap code (map-append view_form old (g ∷ []))) ⨟ n _
    ⨟ subscript_emitted y v fs (map view_form old) ts x es last (view_form g) s t w d a b k h there p

pub counted_on : {a b c : Emitted} {code : Instructions → Instructions} (old new : List Form) (g : Form) (s t : ℕ) → Unrefused a (s ≡ t + length old) → Emits a b code → Emits b c (λ i. i) → Unrefused c (new ≡ old ++ g ∷ [])
    → Unrefused c (suc s ≡ t + length new)
counted_on old new g s t (inl refused) p n added = inl (still_refused n (still_refused p refused))
counted_on old new g s t (inr e) p n added =
    weaker (λ more. let m = ap length more ∙ length-append old (g ∷ []) in omega (arith, e, m)) added

-- what is left of a key can be emitted after its first subscript
pub key_fits : (y : Layout) (xs rest : List Owned) (x : Owned) (last : Code) (t w d : ℕ) → xs ≡ x ∷ rest → AllFit y (At (joined (map view xs) last) End) t w d
    → (Within t w d × Fits y (view x) t w d) × AllFit y (At (joined (map view rest) last) End) (suc t) w d
key_fits y xs rest x last t w d e q =
    let h = subst (λ (ys : List Owned). AllFit y (At (joined (map view ys) last) End) t w d) e q in ((h.0, h.1.0.1.0), h.1.0.1.1)

pub key_weighs : (xs rest : List Owned) (x : Owned) (last : Code) → xs ≡ x ∷ rest → (weight (view x) < weight (joined (map view xs) last)) × (weight (joined (map view rest) last) < weight (joined (map view xs) last))
key_weighs xs rest x last e =
    let w = ap (λ (ys : List Owned). weight (joined (map view ys) last)) e in (omega (arith, w), omega (arith, w))
