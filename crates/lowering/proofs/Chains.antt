-- Texts that are put behind a name's own: each of them can be emitted in the first temporary, where the whole chain can.
use Rattle.std.proofs.Common.{◌≡◌, ℕ, suc, ◌≤◌, true, false, Some, None, refl, sym, ap, ◌∙◌, subst, arith}
use Rattle.std.specs.Prelude.{if◌then◌else◌, is_some}
use Rattle.sem_primitives.specs.declared.table.Primitive.TheVariants as row
use Rattle.wasm_types.specs.Syntax.{Instructions}
use Rattle.mid_program.specs.declared.mid.Operation.TheVariants.{Host}
use Rattle.mid_program.specs.Mid.{Slot, Code, Do, Over, Compare, Call, Ask, AskLine, FileLine, Replace, Number, Text, Unset, Get, Set, Array, IsOpen, Choose, Seq, Let, Bound, Codes, End, At, Fixed, Fresh}
use Rattle.lower_model.specs.Appends.{Append, append_in}
use Rattle.lower_model.specs.Emission.{Layout}
use Rattle.lower_model.specs.Quick.{addition_in}
use Rattle.lower_model.specs.Statements.{chain_appended, text_appended}
use Rattle.lower_model.proofs.Chains.{IsChain, one_text, more_texts, append_is}
use Rattle.lower_pieces.specs.Bounds.{most_places}
use Rattle.lower_expressions.specs.Fits.{AllFit, Fits, Within}
use Rattle.lower_quick.specs.Operands.{concat_in}
use Rattle.lower_quick.proofs.Shapes.{concat_are}
use Rattle.lowering.specs.Parts.{is_read}
use Rattle.lowering.specs.QuickFits.{ChainFits}

module _ (y : Layout) where
  -- what fits from one temporary on fits from the one before it on

  within_before : (t w d : ℕ) → Within (suc t) w d → Within t w d
  within_before t w d f = let h = f.0 in (omega (arith, h), f.1)

  mutual
    fits_before : (e : Code) (t w d : ℕ) → Fits y e (suc t) w d → Fits y e t w d
    fits_before (Do o es) t w d f = all_before es t w (if is_some (addition_in o es) then suc d else d) f
    fits_before (Over l es) t w d f = (f.0, all_before es t w d f.1)
    fits_before (Compare c a b) t w d f = (within_before t w d f.0, (fits_before a t w d f.1.0, fits_before b (suc t) w d f.1.1))
    fits_before (Call g es) t w d f = (f.0, (f.1.0, (f.1.1.0, all_before es t w d f.1.1.1)))
    fits_before Ask t w d f = within_before t w d f
    fits_before (AskLine s) t w d f = (within_before t w d f.0, fits_before s (suc (suc t)) w (suc d) f.1)
    fits_before (FileLine a s) t w d f = (within_before t w d f.0, (fits_before a t w d f.1.0, fits_before s (suc (suc t)) w (suc d) f.1.1))
    fits_before (Replace all es s) t w d f = (within_before t w d f.0, (all_before es t w d f.1.0, fits_before s (suc (suc t)) w (suc d) f.1.1))
    fits_before (Number z) t w d f = within_before t w d f
    fits_before (Text i) t w d f = (within_before t w d f.0, f.1)
    fits_before Unset t w d f = within_before t w d f
    fits_before (Get x) t w d f = (within_before t w d f.0, f.1)
    fits_before (Set x e) t w d f = (within_before t w d f.0, (f.1.0, fits_before e t w d f.1.1))
    fits_before (Array a) t w d f = f
    fits_before (IsOpen i) t w d f = (within_before t w d f.0, f.1)
    fits_before (Choose s c a b) t w d f = (within_before t w d f.0, (fits_before c t w d f.1.0, (fits_before a t w (suc d) f.1.1.0, fits_before b t w (suc d) f.1.1.1)))
    fits_before (Seq a b) t w d f = (within_before t w d f.0, (fits_before a t w d f.1.0, fits_before b t w d f.1.1))
    fits_before (Let a b) t w d f = (within_before t w d f.0, (fits_before a t w d f.1.0, fits_before b (suc t) w d f.1.1))
    fits_before (Bound m i) t w d f = within_before t w d f

    all_before : (es : Codes) (t w d : ℕ) → AllFit y es (suc t) w d → AllFit y es t w d
    all_before End t w d f = within_before t w d f
    all_before (At e es) t w d f = (within_before t w d f.0, (fits_before e t w d f.1.0, all_before es (suc t) w d f.1.1))
    all_before (Fixed n es) t w d f = all_before es t w d f
    all_before (Fresh es) t w d f = (within_before t w d f.0, all_before es t (suc w) d f.1)

  -- the texts of a chain

  more_fit : {x : Slot} {c : Code} (e : Code) (d : ℕ) → IsChain x c → ChainFits y c d → Fits y e 0 0 d → ChainFits y (Do (Host row.Concat) (At c (At e End))) d
  more_fit e d (one_text z a n s) f g = (f, g)
  more_fit e d (more_texts c a r s) f g = (f, g)

  chain_fits : {x : Slot} {e : Code} (d : ℕ) → IsChain x e → Fits y e 0 0 d → ChainFits y e d
  chain_fits d (one_text z a n s) f = fits_before a 0 0 d f.1.1.1.0
  chain_fits d (more_texts c a r s) f = more_fit a d r (chain_fits d r f.1.0) (fits_before a 0 0 d f.1.1.1.0)

  pub append_fits : (e : Code) (q : Append) (d : ℕ) → append_in e ≡ Some q → Fits y e 0 0 d → (q.target ≤ most_places) × ChainFits y q.chain d
  append_fits e q d h f =
      let t = append_is e q h in
      let g = subst (λ (x : Code). Fits y x 0 0 d) t.code f in
      (g.1.0, chain_fits d t.chain g.1.1)

  -- the first text stands right behind the name's

  first_fits : (b a : Code) (d : ℕ) → is_read b ≡ true → ChainFits y (Do (Host row.Concat) (At b (At a End))) d → Fits y a 0 0 d
  first_fits (Get z) a d h f = f
  first_fits b a d h f = cc

  pub read_fits : (e b a : Code) (d : ℕ) → Some (b, a) ≡ concat_in e → is_read b ≡ true → ChainFits y e d → Fits y a 0 0 d
  read_fits e b a d h r f = first_fits b a d r (subst (λ (x : Code). ChainFits y x d) (sym (concat_are e b a h)) f)

  first_here : (i : ℕ) (b a : Code) (d : ℕ) (k : Instructions) → is_read b ≡ true → text_appended y i a d k ≡ chain_appended y i (Do (Host row.Concat) (At b (At a End))) d k
  first_here i (Get z) a d k h = refl
  first_here i b a d k h = cc

  pub first_appended : (i : ℕ) (e b a : Code) (d : ℕ) (k : Instructions) → Some (b, a) ≡ concat_in e → is_read b ≡ true → text_appended y i a d k ≡ chain_appended y i e d k
  first_appended i e b a d k h r = first_here i b a d k r ∙ ap (λ (x : Code). chain_appended y i x d k) (concat_are e b a h)

  -- others stand behind a chain

  later_fits : (b a : Code) (d : ℕ) → is_read b ≡ false → ChainFits y (Do (Host row.Concat) (At b (At a End))) d → ChainFits y b d × Fits y a 0 0 d
  later_fits (Get z) a d h f = cc
  later_fits b a d h f = f

  pub chained_fits : (e b a : Code) (d : ℕ) → Some (b, a) ≡ concat_in e → is_read b ≡ false → ChainFits y e d → ChainFits y b d × Fits y a 0 0 d
  chained_fits e b a d h r f = later_fits b a d r (subst (λ (x : Code). ChainFits y x d) (sym (concat_are e b a h)) f)

  later_here : (i : ℕ) (b a : Code) (d : ℕ) (k : Instructions) → is_read b ≡ false →
      chain_appended y i b d (text_appended y i a d k) ≡ chain_appended y i (Do (Host row.Concat) (At b (At a End))) d k
  later_here i (Get z) a d k h = cc
  later_here i b a d k h = refl

  pub later_appended : (i : ℕ) (e b a : Code) (d : ℕ) (k : Instructions) → Some (b, a) ≡ concat_in e → is_read b ≡ false →
      chain_appended y i b d (text_appended y i a d k) ≡ chain_appended y i e d k
  later_appended i e b a d k h r = later_here i b a d k r ∙ ap (λ (x : Code). chain_appended y i x d k) (concat_are e b a h)

  -- nothing else is a chain
  pub no_chain_fits : (e : Code) (d : ℕ) → None ≡ concat_in e → ChainFits y e d → ⊥
  no_chain_fits (Do (Host row.Concat) (At b (At a End))) d h f = cc
  no_chain_fits (Do (Host row.Concat) (At (Get z) es)) d h f = f
  no_chain_fits (Do (Host row.Concat) (At b es)) d h f = f
  no_chain_fits e d h f = f
