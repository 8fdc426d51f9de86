-- A frame that stands at the place of a `nop` in flat code is about to pass the place of that number: whatever the flat code is that reads back as the function's body.
use Rattle.std.proofs.Common.{◌≡◌, ℕ, zero, suc, ◌+◌, Bool, true, false, cond, List, [], ◌∷◌, ◌++◌, Option, Some, None, drop, length, length-append, refl, sym, ap, ◌∙◌, subst, arith}
use Rattle.std.specs.Prelude.{nat_eq, slice_get}
use Rattle.std.proofs.lemmas.List.{drop-drop}
use Rattle.wasm_types.specs.Syntax as tree
use Rattle.wasm_types.specs.Syntax.{FuncForm, Instruction, Instructions, Done, ModuleForm, Then}
use Rattle.wasm_types.specs.declared.types.ValType.{ValType}
use Rattle.wasm_model.specs.Frames.{FrameForm}
use Rattle.wasm_model.specs.Stacks.{rest_of}
use Rattle.wasm_loader.specs.Flat.{Form, Plain, BrTable, Block, Loop, If, End, decode, first, second, third, flat, flat_one}
use Rattle.wasm_loader.specs.Landings.{framed_at}
use Rattle.wasm_loader.proofs.Flattening.{code_flat}
use Rattle.wasm_machine.specs.Places.{StandsAt}
use Rattle.wasm_machine.specs.declared.places.Place.{Place}
use Rattle.lower_model.specs.Boundaries.{is_nop}
use Rattle.lower_model.specs.Small.{emit}
use Rattle.agreement.specs.Places.Statements.{starts_in, starts_of}
use Rattle.script_places.specs.Passes.{nops_from, nops_of}
use Rattle.script_places.proofs.Walking.{nops_append}

-- Past a body, and past an instruction.

mutual
  skip : (is : Instructions) (p : ℕ) (fs : List Form) → first (decode fs) ≡ is → decode (drop (length (flat p is)) fs) ≡ rest_of (decode fs)
  skip Done p [] e = refl
  skip Done p (End ∷ fs) e = refl
  skip Done p (Plain s ∷ fs) e = cc
  skip Done p (BrTable ns n ∷ fs) e = cc
  skip Done p (Block r q ∷ fs) e = cc
  skip Done p (Loop r q ∷ fs) e = cc
  skip Done p (If r x q ∷ fs) e = cc
  skip (Then i rest) p fs e =
      let n = length (flat_one p i) in
      let one = skip_one i p fs rest e in
      let size : length (flat p (Then i rest)) ≡ n + length (flat (p + n) rest) = length-append (flat_one p i) (flat (p + n) rest) in
      ap (λ (m : ℕ). decode (drop m fs)) size ∙ sym (ap decode (drop-drop (length (flat (p + n) rest)) n fs)) ∙ skip rest (p + n) (drop n fs) one.0 ∙ one.1

  skip_one : (i : Instruction) (p : ℕ) (fs : List Form) (rest : Instructions) → first (decode fs) ≡ Then i rest
      → (first (decode (drop (length (flat_one p i)) fs)) ≡ rest) × (rest_of (decode (drop (length (flat_one p i)) fs)) ≡ rest_of (decode fs))
  skip_one (tree.Plain s) p [] rest e = absurd cc
  skip_one (tree.Plain s) p (Plain t ∷ fs) rest e = ((cc), refl)
  skip_one (tree.Plain s) p (BrTable ns n ∷ fs) rest e = absurd cc
  skip_one (tree.Plain s) p (Block r q ∷ fs) rest e = absurd cc
  skip_one (tree.Plain s) p (Loop r q ∷ fs) rest e = absurd cc
  skip_one (tree.Plain s) p (If r x q ∷ fs) rest e = absurd cc
  skip_one (tree.Plain s) p (End ∷ fs) rest e = absurd cc
  skip_one (tree.BrTable ms m) p [] rest e = absurd cc
  skip_one (tree.BrTable ms m) p (Plain t ∷ fs) rest e = absurd cc
  skip_one (tree.BrTable ms m) p (BrTable ns n ∷ fs) rest e = ((cc), refl)
  skip_one (tree.BrTable ms m) p (Block r q ∷ fs) rest e = absurd cc
  skip_one (tree.BrTable ms m) p (Loop r q ∷ fs) rest e = absurd cc
  skip_one (tree.BrTable ms m) p (If r x q ∷ fs) rest e = absurd cc
  skip_one (tree.BrTable ms m) p (End ∷ fs) rest e = absurd cc
  skip_one (tree.Block k b) p [] rest e = absurd cc
  skip_one (tree.Block k b) p (Plain t ∷ fs) rest e = absurd cc
  skip_one (tree.Block k b) p (BrTable ns n ∷ fs) rest e = absurd cc
  skip_one (tree.Block k b) p (Block r q ∷ fs) rest e =
      let inner = skip b (p + 1) fs cc in
      let then : second (decode fs) ≡ rest = cc in
      (ap first inner ∙ then, ap rest_of inner)
  skip_one (tree.Block k b) p (Loop r q ∷ fs) rest e = absurd cc
  skip_one (tree.Block k b) p (If r x q ∷ fs) rest e = absurd cc
  skip_one (tree.Block k b) p (End ∷ fs) rest e = absurd cc
  skip_one (tree.Loop k b) p [] rest e = absurd cc
  skip_one (tree.Loop k b) p (Plain t ∷ fs) rest e = absurd cc
  skip_one (tree.Loop k b) p (BrTable ns n ∷ fs) rest e = absurd cc
  skip_one (tree.Loop k b) p (Block r q ∷ fs) rest e = absurd cc
  skip_one (tree.Loop k b) p (Loop r q ∷ fs) rest e =
      let inner = skip b (p + 1) fs cc in
      let then : second (decode fs) ≡ rest = cc in
      (ap first inner ∙ then, ap rest_of inner)
  skip_one (tree.Loop k b) p (If r x q ∷ fs) rest e = absurd cc
  skip_one (tree.Loop k b) p (End ∷ fs) rest e = absurd cc
  skip_one (tree.If k b c) p [] rest e = absurd cc
  skip_one (tree.If k b c) p (Plain t ∷ fs) rest e = absurd cc
  skip_one (tree.If k b c) p (BrTable ns n ∷ fs) rest e = absurd cc
  skip_one (tree.If k b c) p (Block r q ∷ fs) rest e = absurd cc
  skip_one (tree.If k b c) p (Loop r q ∷ fs) rest e = absurd cc
  skip_one (tree.If k b c) p (If r x q ∷ fs) rest e =
      let yes = flat (p + 1) b in
      let at = p + 1 + length yes in
      let no = flat at c in
      let inner : decode (drop (length yes) fs) ≡ rest_of (decode fs) = skip b (p + 1) fs cc in
      let other : second (decode fs) ≡ c = cc in
      let outer : decode (drop (length no) (drop (length yes) fs)) ≡ rest_of (rest_of (decode fs)) = skip c at (drop (length yes) fs) (ap first inner ∙ other) ∙ ap rest_of inner in
      let then : third (decode fs) ≡ rest = cc in
      let size : length (yes ++ no) ≡ length yes + length no = length-append yes no in
      let all : decode (drop (length (yes ++ no)) fs) ≡ rest_of (rest_of (decode fs)) = ap (λ (m : ℕ). decode (drop m fs)) size ∙ sym (ap decode (drop-drop (length no) (length yes) fs)) ∙ outer in
      (ap first all ∙ then, ap rest_of all)
  skip_one (tree.If k b c) p (End ∷ fs) rest e = absurd cc

-- What is in a block.

block_opened : (fs : List Form) (k : Option ValType) (b rest : Instructions) → first (decode fs) ≡ Then (tree.Block k b) rest → first (decode (drop 1 fs)) ≡ b
block_opened [] k b rest e = cc
block_opened (Plain t ∷ fs) k b rest e = cc
block_opened (BrTable ns n ∷ fs) k b rest e = cc
block_opened (Block r q ∷ fs) k b rest e = cc
block_opened (Loop r q ∷ fs) k b rest e = cc
block_opened (If r x q ∷ fs) k b rest e = cc
block_opened (End ∷ fs) k b rest e = cc

loop_opened : (fs : List Form) (k : Option ValType) (b rest : Instructions) → first (decode fs) ≡ Then (tree.Loop k b) rest → first (decode (drop 1 fs)) ≡ b
loop_opened [] k b rest e = cc
loop_opened (Plain t ∷ fs) k b rest e = cc
loop_opened (BrTable ns n ∷ fs) k b rest e = cc
loop_opened (Block r q ∷ fs) k b rest e = cc
loop_opened (Loop r q ∷ fs) k b rest e = cc
loop_opened (If r x q ∷ fs) k b rest e = cc
loop_opened (End ∷ fs) k b rest e = cc

choice_opened : (fs : List Form) (k : Option ValType) (b c rest : Instructions) → first (decode fs) ≡ Then (tree.If k b c) rest
    → (first (decode (drop 1 fs)) ≡ b) × (second (decode (drop 1 fs)) ≡ c)
choice_opened [] k b c rest e = absurd cc
choice_opened (Plain t ∷ fs) k b c rest e = absurd cc
choice_opened (BrTable ns n ∷ fs) k b c rest e = absurd cc
choice_opened (Block r q ∷ fs) k b c rest e = absurd cc
choice_opened (Loop r q ∷ fs) k b c rest e = absurd cc
choice_opened (If r x q ∷ fs) k b c rest e = ((cc), (cc))
choice_opened (End ∷ fs) k b c rest e = absurd cc

-- Places of flat code from one on, beside the code that begins at each.

abbrev pub Match : ℕ → List Form → ℕ → Instructions → Type 0
Match p fs n code = (j : ℕ) × (n ≡ p + j) × (code ≡ first (decode (drop j fs)))

abbrev pub Matches : ℕ → List Form → List ℕ → List Instructions → Type 0
Matches p fs [] [] = Unit {0}
Matches p fs (n ∷ ns) (code ∷ codes) = Match p fs n code × Matches p fs ns codes
Matches p fs [] (code ∷ codes) = ⊥
Matches p fs (n ∷ ns) [] = ⊥

both : (p : ℕ) (fs : List Form) (ns ms : List ℕ) (cs ds : List Instructions) → Matches p fs ns cs → Matches p fs ms ds → Matches p fs (ns ++ ms) (cs ++ ds)
both p fs [] ms [] ds h k = k
both p fs (n ∷ ns) ms (c ∷ cs) ds h k = (h.0, both p fs ns ms cs ds h.1 k)
both p fs [] ms (c ∷ cs) ds h k = absurd h
both p fs (n ∷ ns) ms [] ds h k = absurd h

further : (p d : ℕ) (fs : List Form) (ns : List ℕ) (cs : List Instructions) → Matches (p + d) (drop d fs) ns cs → Matches p fs ns cs
further p d fs [] [] h = tt
further p d fs (n ∷ ns) (c ∷ cs) h =
    let at = h.0.1 in
    ((d + h.0.0, omega (arith, at), h.0.2 ∙ ap (λ (gs : List Form). first (decode gs)) (drop-drop h.0.0 d fs)), further p d fs ns cs h.1)
further p d fs [] (c ∷ cs) h = absurd h
further p d fs (n ∷ ns) [] h = absurd h

mutual
  pub matched : (is : Instructions) (p : ℕ) (fs : List Form) → first (decode fs) ≡ is → Matches p fs (nops_from p (flat p is)) (starts_in is)
  matched Done p fs e = tt
  matched (Then i rest) p fs e =
      let n = length (flat_one p i) in
      subst (λ (ns : List ℕ). Matches p fs ns (starts_of i rest ++ starts_in rest)) (sym (nops_append (flat_one p i) (flat (p + n) rest) p))
      (both p fs (nops_from p (flat_one p i)) (nops_from (p + n) (flat (p + n) rest)) (starts_of i rest) (starts_in rest) (matched_one i p fs rest e)
      (further p n fs (nops_from (p + n) (flat (p + n) rest)) (starts_in rest) (matched rest (p + n) (drop n fs) (skip_one i p fs rest e).0)))

  matched_one : (i : Instruction) (p : ℕ) (fs : List Form) (rest : Instructions) → first (decode fs) ≡ Then i rest → Matches p fs (nops_from p (flat_one p i)) (starts_of i rest)
  matched_one (tree.Plain s) p fs rest e = by (nat_eq (is_nop s) 0) refl
    where
      by : (b : Bool) → nat_eq (is_nop s) 0 ≡ b → Matches p fs (cond b [] (p ∷ []) ++ []) (cond b [] (emit s rest ∷ []))
      by true q = tt
      by false q = ((0, omega arith, sym e), tt)
  matched_one (tree.BrTable ms m) p fs rest e = tt
  matched_one (tree.Block k b) p fs rest e = further p 1 fs (nops_from (p + 1) (flat (p + 1) b)) (starts_in b) (matched b (p + 1) (drop 1 fs) (block_opened fs k b rest e))
  matched_one (tree.Loop k b) p fs rest e = further p 1 fs (nops_from (p + 1) (flat (p + 1) b)) (starts_in b) (matched b (p + 1) (drop 1 fs) (loop_opened fs k b rest e))
  matched_one (tree.If k b c) p fs rest e =
      let yes = flat (p + 1) b in
      let at = p + 1 + length yes in
      let opened = choice_opened fs k b c rest e in
      let inner : decode (drop (length yes) (drop 1 fs)) ≡ rest_of (decode (drop 1 fs)) = skip b (p + 1) (drop 1 fs) opened.0 in
      further p 1 fs (nops_from (p + 1) (yes ++ flat at c)) (starts_in b ++ starts_in c)
      (subst (λ (ns : List ℕ). Matches (p + 1) (drop 1 fs) ns (starts_in b ++ starts_in c)) (sym (nops_append yes (flat at c) (p + 1)))
      (both (p + 1) (drop 1 fs) (nops_from (p + 1) yes) (nops_from at (flat at c)) (starts_in b) (starts_in c) (matched b (p + 1) (drop 1 fs) opened.0)
      (further (p + 1) (length yes) (drop 1 fs) (nops_from at (flat at c)) (starts_in c) (matched c at (drop (length yes) (drop 1 fs)) (ap first inner ∙ opened.1)))))

found : (p : ℕ) (fs : List Form) (ns : List ℕ) (cs : List Instructions) (k n : ℕ) → Matches p fs ns cs → slice_get ns k ≡ Some n → (j : ℕ) × (n ≡ p + j) × (slice_get cs k ≡ Some (first (decode (drop j fs))))
found p fs [] [] zero n h e = let no : None ≡ Some n = e in absurd cc
found p fs [] [] (suc k) n h e = let no : None ≡ Some n = e in absurd cc
found p fs (m ∷ ns) (c ∷ cs) zero n h e = let same : m ≡ n = cc in (h.0.0, sym same ∙ h.0.1, ap (λ (x : Instructions). Some x) h.0.2)
found p fs (m ∷ ns) (c ∷ cs) (suc k) n h e = found p fs ns cs k n h.1 e
found p fs [] (c ∷ cs) k n h e = absurd h
found p fs (m ∷ ns) [] k n h e = absurd h

-- the code at the `nop` of a number is that of the place of this number
pub code_of_place : (func : FuncForm) (fs : List Form) → first (decode fs) ≡ func.body → (k at : ℕ) → slice_get (nops_of func) k ≡ Some at
    → slice_get (starts_in func.body) k ≡ Some (first (decode (drop at fs)))
code_of_place func fs body k at is =
    let place_found = found 0 fs (nops_of func) (starts_in func.body) k at (matched func.body 0 fs body) is in
    let same : at ≡ place_found.0 = omega (arith, place_found.1) in
    place_found.2 ∙ ap (λ (j : ℕ). Some (first (decode (drop j fs)))) (sym same)

-- where a frame stands at the `nop` of a number, the code that comes next is that of the place of this number
pub stands_at_place : (whole : ModuleForm) (place : Place) (frame : FrameForm) (func : FuncForm) (k : ℕ) → StandsAt whole place (Some frame) → slice_get whole.funcs place.function ≡ Some func
    → slice_get (nops_of func) k ≡ Some place.at → slice_get (starts_in func.body) k ≡ Some frame.code
stands_at_place whole place frame func k stands there at =
    let fs = stands.code.forms in
    let body = code_flat fs func.body (stands.body func there) in
    let next : frame ≡ framed_at stands.code stands.words place.at = cc (stands.stands) in
    code_of_place func fs body k place.at at ∙ ap (λ (f : FrameForm). Some f.code) (sym next)
