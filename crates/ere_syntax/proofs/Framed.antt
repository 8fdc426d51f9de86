-- The code's steps on a frame, and their sizes.
use Rattle.std.proofs.Common.{◌≡◌, ℕ, ◌+◌, ◌*◌, max, min, List, [], ◌∷◌, ◌++◌, Option, Some, None, refl, sym, ap, subst, ◌∙◌, arith}
use Rattle.ere_syntax.specs.Tree.{Tree, Group, Repeat, positions, nesting, times}
use Rattle.ere_syntax.specs.Reading.{◌>>=◌, Frames, joined, either, put, bar, IsNeat}
use Rattle.ere_syntax.specs.View.{view, views}
use Rattle.ere_syntax.specs.Sizes.{count, deep, IsSize, AreSize}
use Rattle.ere_syntax.specs.Frames.{some_concat, some_or, last_view, frame_view, LastSize, IsSized}
use Rattle.ere_syntax.specs.declared.tree.Ere.{Ere}
use Rattle.ere_syntax.specs.declared.size.Size.{Size}
use Rattle.ere_syntax.specs.declared.frame.Part.{Part}
use Rattle.ere_syntax.specs.declared.frame.Frame.{Frame as CodeFrame}
use Rattle.ere_syntax.proofs.Caps.{cap_times}
use Rattle.ere_syntax.proofs.Viewed.{pushed_concat, pushed_or}

-- ---- the frames

pub put_first : (f : CodeFrame) (t : Tree) → f.last ≡ None → IsNeat (frame_view f) → Frames (some_or (views f.branches.items)) (some_concat (views f.pieces.items)) (Some t) ≡ put (frame_view f) t
put_first f t e h =
    none_joined (some_concat (views f.pieces.items)) (let P : Option Part → Type 0 = λ l. IsNeat (Frames (some_or (views f.branches.items)) (some_concat (views f.pieces.items)) (last_view l)) in subst P e h)
    ∙ sym (ap (λ (l : Option Part). put (Frames (some_or (views f.branches.items)) (some_concat (views f.pieces.items)) (last_view l)) t) e)
  where
    none_joined : (p : Option Tree) → IsNeat (Frames (some_or (views f.branches.items)) p None) → Frames (some_or (views f.branches.items)) p (Some t) ≡ put (Frames (some_or (views f.branches.items)) p None) t
    none_joined None n = refl
    none_joined (Some p) n = absurd n

pub put_more : (f : CodeFrame) (before : Part) (news : List Ere) (t : Tree) → f.last ≡ Some before → news ≡ f.pieces.items ++ (before.ere ∷ []) → Frames (some_or (views f.branches.items)) (some_concat (views news)) (Some t) ≡ put (frame_view f) t
put_more f before news t e h =
    ap (λ (o : Option Tree). Frames (some_or (views f.branches.items)) o (Some t)) (pushed_concat f.pieces.items news before.ere h)
    ∙ sym (ap (λ (l : Option Part). put (Frames (some_or (views f.branches.items)) (some_concat (views f.pieces.items)) (last_view l)) t) e)

pub bar_is : (f : CodeFrame) (last : Part) (branch : Ere) (news empty : List Ere) → f.last ≡ Some last → Some (view branch) ≡ joined (some_concat (views f.pieces.items)) (Some (view last.ere)) → news ≡ f.branches.items ++ (branch ∷ []) → empty ≡ []
    → Some (Frames (some_or (views news)) (some_concat (views empty)) None) ≡ bar (frame_view f)
bar_is f last branch news empty e j h n =
    ap (λ (u : List Ere). Some (Frames (some_or (views news)) (some_concat (views u)) None)) n
    ∙ ap (λ (o : Option Tree). Some (Frames o None None)) (pushed_or f.branches.items news branch h)
    ∙ ap (λ (o : Option Tree). o >>= λ b. Some (Frames (Some (either (some_or (views f.branches.items)) b)) None None)) (j ∙ sym (ap (λ (l : Option Part). joined (some_concat (views f.pieces.items)) (last_view l)) e))

-- ---- their sizes

joined_count : (p : Option Tree) (l : Tree) → (count (joined p (Some l)) ≡ count p + positions l) × (deep (joined p (Some l)) ≡ max (deep p) (nesting l))
joined_count None l = (omega arith, omega arith)
joined_count (Some p) l = (refl, refl)

either_count : (a : Option Tree) (b : Tree) → (positions (either a b) ≡ count a + positions b) × (nesting (either a b) ≡ max (deep a) (nesting b))
either_count None b = (omega arith, omega arith)
either_count (Some a) b = (refl, refl)

beside_joined : (s z r : Size) (a p : Option Tree) (l : Tree) → AreSize s a p → IsSize z l → r.positions ≡ min (s.positions + z.positions) 10001 → r.nesting ≡ max s.nesting z.nesting → AreSize r a (joined p (Some l))
beside_joined s z r a p l h k x y =
    let j = joined_count p l in
    record { positions = omega (arith, h.positions, k.positions, x, j.0); nesting = omega (arith, h.nesting, k.nesting, y, j.1) }

last_size : (o : Option Part) (p : Part) → o ≡ Some p → LastSize o → IsSize p.size (view p.ere)
last_size o p e h = let P : Option Part → Type 0 = LastSize in subst P e h

pub put_sized : (f new : CodeFrame) (before part : Part) → f.last ≡ Some before → new.branches.items ≡ f.branches.items → new.pieces.items ≡ f.pieces.items ++ (before.ere ∷ []) → new.last ≡ Some part
    → new.size.positions ≡ min (f.size.positions + before.size.positions) 10001 → new.size.nesting ≡ max f.size.nesting before.size.nesting
    → IsSized f → IsSize part.size (view part.ere) → IsSized new
put_sized f new before part e b h n x y hf hp =
    let joined_size = beside_joined f.size before.size new.size (some_or (views f.branches.items)) (some_concat (views f.pieces.items)) (view before.ere) hf.before (last_size f.last before e hf.last) x y in
    let with_branches = subst (λ (o : List Ere). AreSize new.size (some_or (views o)) (joined (some_concat (views f.pieces.items)) (Some (view before.ere)))) (sym b) joined_size in
    record {
      before = subst (λ (o : Option Tree). AreSize new.size (some_or (views new.branches.items)) o) (sym (pushed_concat f.pieces.items new.pieces.items before.ere h)) with_branches;
      last = (let P : Option Part → Type 0 = LastSize in subst P (sym n) hp);
    }

either_size : (r : Size) (a : Option Tree) (b : Tree) → AreSize r a (Some b) → IsSize r (either a b)
either_size r a b h = let e = either_count a b in record { positions = omega (arith, h.positions, e.0); nesting = omega (arith, h.nesting, e.1) }

pub finish_sized : (f : CodeFrame) (last : Part) (r : Size) (b : Tree) (whole : Tree) → f.last ≡ Some last → Some b ≡ joined (some_concat (views f.pieces.items)) (Some (view last.ere)) → whole ≡ either (some_or (views f.branches.items)) b
    → r.positions ≡ min (f.size.positions + last.size.positions) 10001 → r.nesting ≡ max f.size.nesting last.size.nesting → IsSized f → IsSize r whole
finish_sized f last r b whole e j w x y hf =
    let h = beside_joined f.size last.size r (some_or (views f.branches.items)) (some_concat (views f.pieces.items)) (view last.ere) hf.before (last_size f.last last e hf.last) x y in
    subst (IsSize r) (sym w) (either_size r (some_or (views f.branches.items)) b (subst (λ (o : Option Tree). AreSize r (some_or (views f.branches.items)) o) (sym j) h))

pub bar_sized : (f new : CodeFrame) (last : Part) (branch : Ere) → f.last ≡ Some last → Some (view branch) ≡ joined (some_concat (views f.pieces.items)) (Some (view last.ere)) → new.branches.items ≡ f.branches.items ++ (branch ∷ []) → new.pieces.items ≡ [] → new.last ≡ None
    → new.size.positions ≡ min (f.size.positions + last.size.positions) 10001 → new.size.nesting ≡ max f.size.nesting last.size.nesting → IsSized f → IsSized new
bar_sized f new last branch e j h n l x y hf =
    let s = finish_sized f last new.size (view branch) (either (some_or (views f.branches.items)) (view branch)) e j refl x y hf in
    let a : AreSize new.size (Some (either (some_or (views f.branches.items)) (view branch))) None = record { positions = omega (arith, s.positions); nesting = omega (arith, s.nesting) } in
    let b = subst (λ (o : Option Tree). AreSize new.size o None) (sym (pushed_or f.branches.items new.branches.items branch h)) a in
    record {
      before = subst (λ (o : List Ere). AreSize new.size (some_or (views new.branches.items)) (some_concat (views o))) (sym n) b;
      last = (let P : Option Part → Type 0 = LastSize in subst P (sym l) tt);
    }

pub grouped_size : (s r : Size) (t : Tree) → IsSize s t → r.positions ≡ s.positions → r.nesting ≡ s.nesting + 1 → IsSize r (Group t)
grouped_size s r t h x y = record { positions = x ∙ h.positions; nesting = omega (arith, h.nesting, y) }

pub repeated_size : (s m r : Size) (t : Tree) (low : ℕ) (high : Option ℕ) → IsSize s t → m.positions ≡ min (s.positions * times low high) 10001 → m.nesting ≡ s.nesting → r.positions ≡ m.positions → r.nesting ≡ m.nesting + 1 → IsSize r (Repeat t low high)
repeated_size s m r t low high h x y z w = record {
  positions = z ∙ x ∙ ap (λ (k : ℕ). min (k * times low high) 10001) h.positions ∙ cap_times 10001 (positions t) (times low high);
  nesting = omega (arith, h.nesting, y, w);
}
