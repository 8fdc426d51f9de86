-- What the functions of the code that build nodes come to.
use Rattle.std.proofs.Common.{◌≡◌, ℕ, suc, ◌+◌, ◌-◌, ◌<◌, ◌≤◌, List, [], ◌∷◌, ◌++◌, length, drop, take, get_or, drop-cons, add-one, Option, Some, Result, Ok, Err, IfOk, OnOk, refl, sym, ap, ◌∙◌, subst, arith}
use Rattle.std.specs.Prelude.{slice_get}
use Rattle.std.proofs.Math.Seq.{take-suc}
use Rattle.std.proofs.lemmas.List.{length-take-le}
use Rattle.ere_syntax.specs.Tree.{Tree, Set, Start, End, Repeat}
use Rattle.ere_syntax.specs.Matches.{Matches}
use Rattle.ere_syntax.specs.View.{view, views}
use Rattle.ere_syntax.proofs.Viewed.{views_push}
use Rattle.ere_syntax.specs.declared.tree.Ere.{Ere}
use Rattle.ere_match.specs.declared.node.Filter.{Filter}
use Rattle.ere_match.specs.declared.node.Node.{Node}
use Rattle.ere_match.specs.declared.node.Node.TheVariants as nodes
use Rattle.ere_match.specs.Runs.{filter_set}
use Rattle.ere_match.specs.Means.{IsLonger, IsBuilt}
use Rattle.ere_match.proofs.Paths.{means_take, means_start, means_end}
use Rattle.ere_match.proofs.Builds.{built_as, built_one, repeat_never}

abbrev pub IsPlaced : List Node → List Node → Node → ℕ → Type 0
IsPlaced old new node place = (place ≡ length old) × (slice_get new place ≡ Some node)

pub ok_take : {E : Type 0} (old new : List Node) (t : Tree) (f : Filter) (next : ℕ) (r : Result ℕ E) → t ≡ Set (filter_set f) → IfOk r (IsPlaced old new (nodes.Take f next)) → OnOk r (IsLonger old new) → OnOk r (length new ≡ length old + 1) → IfOk r (λ entry. IsBuilt old new t entry next)
ok_take old new t f next (Err e) is h l o = tt
ok_take old new t f next (Ok p) is h l o = subst (λ t. IsBuilt old new t p next) (sym is) (built_one old new (Matches (Set (filter_set f))) p next (nodes.Take f next) h.0 h.1 l o (λ final text at. means_take final text f p next at))

pub ok_start : {E : Type 0} (old new : List Node) (t : Tree) (next : ℕ) (r : Result ℕ E) → t ≡ Start → IfOk r (IsPlaced old new (nodes.Start next)) → OnOk r (IsLonger old new) → OnOk r (length new ≡ length old + 1) → IfOk r (λ entry. IsBuilt old new t entry next)
ok_start old new t next (Err e) is h l o = tt
ok_start old new t next (Ok p) is h l o = subst (λ t. IsBuilt old new t p next) (sym is) (built_one old new (Matches Start) p next (nodes.Start next) h.0 h.1 l o (λ final text at. means_start final text p next at))

pub ok_end : {E : Type 0} (old new : List Node) (t : Tree) (next : ℕ) (r : Result ℕ E) → t ≡ End → IfOk r (IsPlaced old new (nodes.End next)) → OnOk r (IsLonger old new) → OnOk r (length new ≡ length old + 1) → IfOk r (λ entry. IsBuilt old new t entry next)
ok_end old new t next (Err e) is h l o = tt
ok_end old new t next (Ok p) is h l o = subst (λ t. IsBuilt old new t p next) (sym is) (built_one old new (Matches End) p next (nodes.End next) h.0 h.1 l o (λ final text at. means_end final text p next at))

pub ok_never : {E : Type 0} (old new : List Node) (t : Tree) (low high next : ℕ) (r : Result ℕ E) → high < low → IfOk r (IsPlaced old new nodes.Never) → OnOk r (IsLonger old new) → OnOk r (length new ≡ length old + 1) → IfOk r (λ entry. IsBuilt old new (Repeat t low (Some high)) entry next)
ok_never old new t low high next (Err e) less h l o = tt
ok_never old new t low high next (Ok p) less h l o = repeat_never old new t low high p next less h.0 h.1 l o

-- the same tree under another name
pub ok_same : {E : Type 0} (old new : List Node) (t u : Tree) (next : ℕ) (r : Result ℕ E) → t ≡ u → IfOk r (λ entry. IsBuilt old new u entry next) → IfOk r (λ entry. IsBuilt old new t entry next)
ok_same old new t u next r is h = let P : Tree → Type 0 = λ t. IfOk r (λ entry. IsBuilt old new t entry next) in subst P (sym is) h

-- an expression that matches what another one does
pub ok_like : {E : Type 0} (old new : List Node) (t u : Tree) (next : ℕ) (r : Result ℕ E) → ((text : List ℕ) (i j : ℕ) → Matches u text i j → Matches t text i j) → ((text : List ℕ) (i j : ℕ) → Matches t text i j → Matches u text i j) → IfOk r (λ entry. IsBuilt old new u entry next) → IfOk r (λ entry. IsBuilt old new t entry next)
ok_like old new t u next (Err e) to from h = tt
ok_like old new t u next (Ok p) to from h = built_as old new (Matches u) (Matches t) p next to from h

-- ---- lists of expressions from the end and from the front

pub views_drop : (es : List Ere) (done : ℕ) (d e : Ere) → done < length es → e ≡ get_or es (length es - 1 - done) d → views (drop (length es - (done + 1)) es) ≡ view e ∷ views (drop (length es - done) es)
views_drop es done d e h is =
    let p : length es - (done + 1) ≡ length es - 1 - done = omega arith in
    let q : suc (length es - 1 - done) ≡ length es - done = omega arith in
    ap (λ (n : ℕ). views (drop n es)) p
    ∙ ap views (drop-cons es (length es - 1 - done) d (omega arith))
    ∙ ap (λ (x : Ere). view x ∷ views (drop (suc (length es - 1 - done)) es)) (sym is)
    ∙ ap (λ (n : ℕ). view e ∷ views (drop n es)) q

pub views_take : (es : List Ere) (k : ℕ) (d e : Ere) → k < length es → e ≡ get_or es k d → views (take (k + 1) es) ≡ views (take k es) ++ (view e ∷ [])
views_take es k d e h is =
    ap (λ (n : ℕ). views (take n es)) (add-one k)
    ∙ ap views (take-suc es k d h)
    ∙ ap (λ (x : Ere). views (take k es ++ (x ∷ []))) (sym is)
    ∙ views_push (take k es) e

pub views_length : (es : List Ere) → length (views es) ≡ length es
views_length [] = refl
views_length (e ∷ es) = ap suc (views_length es)

pub views_take_length : (es : List Ere) (k : ℕ) → k ≤ length es → length (views (take k es)) ≡ k
views_take_length es k h = views_length (take k es) ∙ length-take-le k es h

pub built_at : (old new there : List Node) (t : Tree) (entry here next : ℕ) → there ≡ new → here ≡ entry → IsBuilt old new t entry next → IsBuilt old there t here next
built_at old new there t entry here next p q b = subst (λ x. IsBuilt old there t x next) (sym q) (subst (λ x. IsBuilt old x t entry next) (sym p) b)

pub built_from : (old there new : List Node) (t : Tree) (entry next : ℕ) → there ≡ old → IsBuilt there new t entry next → IsBuilt old new t entry next
built_from old there new t entry next p b = subst (λ x. IsBuilt x new t entry next) p b

pub repeat_high : (old new : List Node) (t : Tree) (low : ℕ) (high other : Option ℕ) (entry next : ℕ) → high ≡ other → IsBuilt old new (Repeat t low other) entry next → IsBuilt old new (Repeat t low high) entry next
repeat_high old new t low high other entry next e b = subst (λ x. IsBuilt old new (Repeat t low x) entry next) (sym e) b
