-- Chains: a name's text with others behind it, one text after the other.
use Rattle.std.proofs.Common.{◌≡◌, ℕ, Bool, true, false, [], Some, refl, subst}
use Rattle.std.specs.Prelude.{◌&&◌, ◌||◌}
use Rattle.std.proofs.lemmas.Bool.{and_parts}
use Rattle.sem_primitives.specs.declared.table.Primitive.TheVariants as row
use Rattle.wasm_types.specs.Syntax.{Instructions}
use Rattle.mid_program.specs.declared.mid.Operation.TheVariants.{Host}
use Rattle.mid_program.specs.Mid.{Slot, Global, Code, Do, Get, Set, End, At, arguments, form_of, source_of}
use Rattle.mid_program.specs.Sorted.{Context, all_sorted, fit_row, is_done_here, is_slot, sorted, takes}
use Rattle.lower_model.specs.Appends.{Append, append_in, append_of, is_chain, is_name, is_still, same_slot}
use Rattle.lower_model.specs.Emission.{Layout}
use Rattle.lower_model.specs.Statements.{chain_appended, text_appended}
use Rattle.lower_model.proofs.QuickNames.{some_is}

-- behind the name's text, or behind more
pub data IsChain (x : Slot) : Code → Type 0 where
  one_text : (y : Slot) (e : Code) → same_slot x y ≡ true → is_still x e ≡ true → IsChain x (Do (Host row.Concat) (At (Get y) (At e End)))
  more_texts : (c e : Code) → IsChain x c → is_still x e ≡ true → IsChain x (Do (Host row.Concat) (At c (At e End)))

-- what stands before the last text
before_last : (x : Slot) (c e : Code) (n b : Bool) → is_name x c ≡ n → is_chain x c ≡ b → (n || b) ≡ true → is_still x e ≡ true → (is_chain x c ≡ true → IsChain x c) → IsChain x (Do (Host row.Concat) (At c (At e End)))
before_last x (Get y) e true b n h k s r = one_text y e n s
before_last x c e true b n h k s r = cc
before_last x c e false true n h k s r = more_texts c e (r h) s
before_last x c e false false n h k s r = cc

pub chain_is : (x : Slot) (e : Code) → is_chain x e ≡ true → IsChain x e
chain_is x (Do (Host row.Concat) (At c (At e End))) h =
    let b = and_parts (is_still x e) (is_name x c || is_chain x c) h in
    before_last x c e (is_name x c) (is_chain x c) refl refl b.1 b.0 (chain_is x c)
chain_is x e h = cc

-- a name that takes a chain
pub record Takes (e : Code) (q : Append) : Type 0 where
  pub code : e ≡ Set (Global false q.target) q.chain
  pub so : is_chain (Global false q.target) q.chain ≡ true
  pub chain : IsChain (Global false q.target) q.chain

pub append_is : (e : Code) (q : Append) → append_in e ≡ Some q → Takes e q
append_is (Set (Global false i) c) q h = by (is_chain (Global false i) c) refl h
  where
    by : (z : Bool) → is_chain (Global false i) c ≡ z → append_of i c z ≡ Some q → Takes (Set (Global false i) c) q
    by true k g = subst (Takes (Set (Global false i) c)) (some_is (record { target = i; chain = c }) q g) (record { code = refl; so = k; chain = chain_is (Global false i) c k })
    by false k g = cc
append_is e q h = cc

-- the last text comes after those before it
pub last_appended : (y : Layout) {x : Slot} {c : Code} (i : ℕ) (e : Code) (d : ℕ) (k : Instructions) → IsChain x c →
    chain_appended y i (Do (Host row.Concat) (At c (At e End))) d k ≡ chain_appended y i c d (text_appended y i e d k)
last_appended y i e d k (one_text z a s h) = refl
last_appended y i e d k (more_texts c a r h) = refl

-- the last text is sorted, and so is what stands before it
pub last_sorted : (c : Context) (a e : Code) → sorted c [] (Do (Host row.Concat) (At a (At e End))) ≡ true → (sorted c [] a ≡ true) × (sorted c [] e ≡ true)
unfolding sorted all_sorted
last_sorted c a e s =
    let es = At a (At e End) in
    let o = Host row.Concat in
    let s1 = and_parts (is_done_here o) (fit_row [] (arguments o) es && all_sorted c [] es) s in
    let s2 = and_parts (fit_row [] (arguments o) es) (all_sorted c [] es) s1.1 in
    let s3 = and_parts (sorted c [] a) (sorted c [] e && true) s2.1 in
    (s3.0, (and_parts (sorted c [] e) true s3.1).0)

-- a boxed name, and what it takes
pub chain_sorted : (c : Context) (i : ℕ) (e : Code) → sorted c [] (Set (Global false i) e) ≡ true → (is_slot c (Global false i) ≡ true) × (sorted c [] e ≡ true)
unfolding sorted
chain_sorted c i e s =
    let x = Global false i in
    let s1 = and_parts (is_slot c x) (takes c x (source_of e) (form_of [] e) && sorted c [] e) s in
    (s1.0, (and_parts (takes c x (source_of e) (form_of [] e)) (sorted c [] e) s1.1).1)
