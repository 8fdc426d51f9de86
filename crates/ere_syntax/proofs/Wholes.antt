-- The whole text: what the steps of the code come to.
use Rattle.std.proofs.Common.{◌≡◌, ℕ, ◌<◌, ◌≤◌, true, false, List, [], ◌∷◌, length, Option, Some, None, Result, Ok, Err, IfOk, IfErr, refl, sym, ap, subst, ◌∙◌, arith}
use Rattle.ere_syntax.specs.Tree.{Token, Tree, Empty, positions, nesting, IsWithinLimits}
use Rattle.ere_syntax.specs.Reading.{Frame, fresh, finish, ended, read, is_some, IsNeat, AreNeat}
use Rattle.ere_syntax.specs.EreOf.{ere_of}
use Rattle.ere_syntax.specs.Lexing.{token_and, read_token, lexed}
use Rattle.ere_syntax.specs.View.{view}
use Rattle.ere_syntax.specs.Sizes.{IsSize, reached}
use Rattle.ere_syntax.specs.Frames.{frame_view, IsSized}
use Rattle.ere_syntax.specs.Steps.{stack_view, AreReady, IsStepOf, StepAnswer, stepped}
use Rattle.ere_syntax.specs.Answers.{IsTreeOf, IsRefused, IsBuilt, BuildAnswer}
use Rattle.ere_syntax.specs.declared.tree.Ere.{Ere}
use Rattle.ere_syntax.specs.declared.frame.Part.{Part}
use Rattle.ere_syntax.specs.declared.frame.Frame.{Frame as CodeFrame}
use Rattle.ere_syntax.specs.declared.fault.EreFault.{EreFault}
use Rattle.ere_syntax.specs.declared.fault.EreFault.TheVariants.{BadEre, EreTooLarge, NoMemory}
use Rattle.ere_syntax.proofs.Sound.{bind_some, that_is}
use Rattle.ere_syntax.proofs.Limits.{is_reached}
use Rattle.ere_syntax.proofs.Scans.{text_sound, no_ere}
use Rattle.ere_syntax.proofs.Texts.{all_tokens, rest_tree, rest_next, rest_steps, rest_none, rest_whole, stepped_neat, code_some, code_none}
use Rattle.ere_syntax.proofs.Stepping.{stack_length}

-- what holds between two tokens
pub record IsReading (text : List ℕ) (stack : List CodeFrame) (frame : CodeFrame) (rest : List ℕ) : Type 0 where
  pub same : rest_tree (stack_view stack) (frame_view frame) rest ≡ ere_of text
  pub ready : AreReady stack frame

false_true : false ≡ true → ⊥
false_true e = cc

no_tree_here : (text : List ℕ) → is_some (ere_of text) ≡ true → ere_of text ≡ None → ⊥
no_tree_here text s e = false_true (sym (ap is_some e) ∙ s)

pub reading_start : (text : List ℕ) (stack : List CodeFrame) (frame : CodeFrame) → 0 < length text → stack ≡ [] → frame_view frame ≡ fresh → IsSized frame → IsReading text stack frame text
reading_start text stack frame h e v s = subst (λ (st : List CodeFrame). IsReading text st frame text) (sym e) (record {
  same = ap (λ (f : Frame). rest_tree [] f text) v ∙ rest_whole text h;
  ready = record { neat = tt; frame_neat = (let P : Frame → Type 0 = IsNeat in subst P (sym v) tt); sized = tt; frame_sized = s };
})

-- the token that the code read, where so many frames are on the stack
token_is : (stack : List CodeFrame) (rest after : List ℕ) (k : Token) (n : ℕ) → n ≡ length stack → Some (token_and k after) ≡ lexed n rest → read_token (length (stack_view stack)) rest ≡ Some (token_and k after)
token_is stack rest after k n q e = ap (λ (m : ℕ). read_token m rest) (stack_length stack ∙ sym q) ∙ code_some n rest after k e

abbrev no_token : Option (Token × List ℕ)
no_token = None

pub reading_no_token : (text rest : List ℕ) (stack : List CodeFrame) (frame : CodeFrame) (n : ℕ) → n ≡ length stack → 0 < length rest → IsReading text stack frame rest → is_some (ere_of text) ≡ true → no_token ≡ lexed n rest → ⊥
reading_no_token text rest stack frame n q h r s e =
    no_tree_here text s (sym r.same ∙ rest_none (stack_view stack) (frame_view frame) rest h (ap (λ (m : ℕ). read_token m rest) (stack_length stack ∙ sym q) ∙ code_none n rest e))

-- the step of the definition at this token
pub reading_step : (text rest after : List ℕ) (stack : List CodeFrame) (frame : CodeFrame) (k : Token) (n : ℕ) → n ≡ length stack → IsReading text stack frame rest → is_some (ere_of text) ≡ true → Some (token_and k after) ≡ lexed n rest
    → (y : List Frame × Frame) × (stepped k (stack_view stack) (frame_view frame) ≡ Some y) × (rest_tree y.0 y.1 after ≡ ere_of text) × (AreNeat y.0 × IsNeat y.1)
reading_step text rest after stack frame k n q r s e =
    let t = token_is stack rest after k n q e in
    let y = rest_steps (stack_view stack) (frame_view frame) rest (token_and k after) t (ap is_some r.same ∙ s) in
    (y.0, y.1, rest_next (stack_view stack) (frame_view frame) rest (token_and k after) y.0 t y.1 ∙ r.same, stepped_neat k (stack_view stack) (frame_view frame) y.0 r.ready.neat r.ready.frame_neat y.1)

pub reading_next : (text after : List ℕ) (news : List CodeFrame) (new : CodeFrame) (y : List Frame × Frame) → rest_tree y.0 y.1 after ≡ ere_of text → AreNeat y.0 × IsNeat y.1 → IsStepOf y news new → IsReading text news new after
reading_next text after news new y e n d = record {
  same = ap (λ (st : List Frame). rest_tree st (frame_view new) after) d.below ∙ ap (λ (f : Frame). rest_tree y.0 f after) d.view ∙ e;
  ready = record { neat = subst AreNeat (sym d.below) n.0; frame_neat = subst IsNeat (sym d.view) n.1; sized = d.sized; frame_sized = d.frame_sized };
}

rest_reached : (stack : List Frame) (f : Frame) (ts : List ℕ) (t : Tree) → AreNeat stack × IsNeat f → rest_tree stack f ts ≡ Some t → reached stack f ≤ nesting t
rest_reached stack f ts t n e =
    let a = bind_some (all_tokens (length stack) ts) (λ us. read us stack f) t e in
    is_reached a.0 stack f t n.0 n.1 a.2

pub reading_fault : (text after : List ℕ) (news : List CodeFrame) (y : List Frame × Frame) (fault : EreFault) → rest_tree y.0 y.1 after ≡ ere_of text → AreNeat y.0 × IsNeat y.1 → StepAnswer y news (Err fault) → BuildAnswer text (Err fault)
reading_fault text after news y EreTooLarge e n h = λ t q within. (let r = rest_reached y.0 y.1 after t n (e ∙ q) in absurd (omega (arith, r, h, within.1)))
reading_fault text after news y NoMemory e n h = tt
reading_fault text after news y (BadEre place) e n h = absurd h

rest_end : (stack : List Frame) (f : Frame) (ts : List ℕ) → length ts ≡ 0 → rest_tree stack f ts ≡ ended stack f
rest_end stack f [] h = refl
rest_end stack f (c ∷ cs) h = absurd (omega (arith, h))

pub reading_open : (text rest : List ℕ) (stack : List CodeFrame) (frame : CodeFrame) → IsReading text stack frame rest → is_some (ere_of text) ≡ true → length rest ≡ 0 → 0 < length stack → ⊥
reading_open text rest stack frame r s h o =
    let l = stack_length stack in
    no_tree_here text s (sym r.same ∙ rest_end (stack_view stack) (frame_view frame) rest h ∙ none (stack_view stack) (frame_view frame) (omega (arith, l, o)))
  where
    none : (st : List Frame) (f : Frame) → 0 < length st → ended st f ≡ None
    none [] f h = absurd (omega arith)
    none (g ∷ st) f h = refl

pub reading_end : (text rest : List ℕ) (stack : List CodeFrame) (frame : CodeFrame) → IsReading text stack frame rest → length rest ≡ 0 → length stack ≡ 0 → finish (frame_view frame) ≡ ere_of text
reading_end text rest stack frame r h o = by stack o (sym (rest_end (stack_view stack) (frame_view frame) rest h) ∙ r.same)
  where
    by : (st : List CodeFrame) → length st ≡ 0 → ended (stack_view st) (frame_view frame) ≡ ere_of text → finish (frame_view frame) ≡ ere_of text
    by [] h e = e
    by (f ∷ fs) h e = absurd (omega (arith, h))

pub reading_none : (text : List ℕ) (frame : CodeFrame) → is_some (ere_of text) ≡ true → finish (frame_view frame) ≡ ere_of text → None ≡ finish (frame_view frame) → ⊥
reading_none text frame s e n = no_tree_here text s (sym e ∙ sym n)

pub reading_small : (text : List ℕ) (frame : CodeFrame) (part : Part) → finish (frame_view frame) ≡ ere_of text → Some (view part.ere) ≡ finish (frame_view frame) → IsSize part.size (view part.ere) → part.size.positions ≤ 10000 → part.size.nesting ≤ 1000 → IsBuilt text part.ere
reading_small text frame part e f s p n = record { tree = sym (f ∙ e); within = (omega (arith, s.positions, p), omega (arith, s.nesting, n)) }

pub reading_large : (text : List ℕ) (frame : CodeFrame) (part : Part) → finish (frame_view frame) ≡ ere_of text → Some (view part.ere) ≡ finish (frame_view frame) → IsSize part.size (view part.ere) → 10000 < part.size.positions → (t : Tree) → ere_of text ≡ Some t → IsWithinLimits t → ⊥
reading_large text frame part e f s p t q within =
    let same = ap positions (that_is (view part.ere) t (f ∙ e ∙ q)) in
    absurd (omega (arith, s.positions, p, same, within.0))

-- ---- the answers

pub empty_is : (text : List ℕ) → length text ≡ 0 → IsTreeOf text Empty
empty_is [] h = record { tree = text_sound [] Empty refl; within = (omega arith, omega arith) }
empty_is (c ∷ cs) h = absurd (omega (arith, h))

pub built_is : (text : List ℕ) (e : Ere) → IsBuilt text e → IsTreeOf text (view e)
built_is text e h = record { tree = text_sound text (view e) h.tree; within = h.within }

some_is : (text : List ℕ) → is_some (ere_of text) ≡ true → (t : Tree) × (ere_of text ≡ Some t)
some_is text s = by (ere_of text) refl s
  where
    by : (o : Option Tree) → ere_of text ≡ o → is_some o ≡ true → (t : Tree) × (ere_of text ≡ Some t)
    by None e s = absurd (false_true s)
    by (Some t) e s = (t, e)

pub refused_is : (text : List ℕ) (fault : EreFault) → is_some (ere_of text) ≡ true → BuildAnswer text (Err fault) → IsRefused text fault
refused_is text EreTooLarge s h = (let t = some_is text s in (t.0, text_sound text t.0 t.1, h t.0 t.1))
refused_is text NoMemory s h = tt
refused_is text (BadEre place) s h = absurd h

pub bad_is : (text : List ℕ) (place : ℕ) → place ≤ length text → ere_of text ≡ None → IsRefused text (BadEre place)
bad_is text place h e = (h, no_ere text e)

pub tree_answer : (text : List ℕ) (r : Result Ere EreFault) → BuildAnswer text r → IfOk r (λ e. IsTreeOf text (view e))
tree_answer text (Ok e) h = built_is text e h
tree_answer text (Err fault) h = tt

pub refused_answer : (text : List ℕ) (r : Result Ere EreFault) → is_some (ere_of text) ≡ true → BuildAnswer text r → IfErr r (λ fault. IsRefused text fault)
refused_answer text (Ok e) s h = tt
refused_answer text (Err fault) s h = refused_is text fault s h
