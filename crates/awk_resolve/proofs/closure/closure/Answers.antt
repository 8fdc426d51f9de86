use Rattle.std.proofs.Common.{◌≡◌, ◌<◌, arith, ℕ, ◌∷◌, ◌++◌, Bool, false, IsTrue, All, List, [], Some, length, refl, sym, subst, ap, ◌∙◌}
use Rattle.std.proofs.lemmas.List.{length-replicate, nil_from_length}
use Rattle.std.proofs.lemmas.List.Elements.{All-nil, All-pop, All-weaker}
use Rattle.std.specs.Global.{Vec}
use Rattle.awk_resolve.specs.Marked.{is_marked}
use Rattle.awk_resolve.specs.ViewFound.{Adds, IsIn}
use Rattle.awk_resolve.specs.Waiting.{given_for}
use Rattle.awk_resolve.specs.declared.closure.Found.{Found}
use Rattle.awk_resolve.proofs.Marked.{marked_small, none_marked}
use Rattle.awk_resolve.proofs.Waiting.{at_get, followed_first, followed_more, followed_all, given_small, given_within}
use Rattle.awk_resolve.proofs.closure.closure.Goals as goal

-- a marked number has a list
known : (ms : List Bool) (n : ℕ) (gs : List (Vec ℕ)) (count : ℕ) → IsTrue (is_marked ms n) → length ms ≡ count → length gs ≡ count → n < length gs
known ms n gs count h e f = let s = marked_small ms n h in omega (arith, s, e, f)

pub loop-n-init : goal.loop-n-init
loop-n-init c =
    let made = c.in_ok-vec.ensures.items_if_clones_equal (λ y e. e) in
    let adds = c.mark_all.ensures in
    let old = c.in_ok-vec.field-0.items in
    record {
      length = adds.size ∙ ap length made ∙ length-replicate c.args.count false;
      members = adds.has;
      within = λ other closed. adds.within other closed.has (λ n h. absurd (none_marked c.args.count n (subst (λ (ms : List Bool). IsTrue (is_marked ms n)) made h)));
      waiting = adds.marked (subst (λ (ws : List ℕ). All (λ (n : ℕ). IsTrue (is_marked old n)) ws) (sym c.new.ensures.items) (All-nil (λ (n : ℕ). IsTrue (is_marked old n))));
      followed = followed_first c.args.pairs.now c.args.count made adds;
    }

pub loop-n-preserved : goal.loop-n-preserved
loop-n-preserved c =
    let n = c.in-Some.n in
    let ps = c.args.pairs.now in
    let ms = c.loop-n.found.marked.items in
    let gs = c.in_ok-givers.givers.items in
    let new = c.mark_all-in-Some.new.self in
    let before = c.loop-n.invariant in
    let popped : c.loop-n.found.waiting.items ≡ c.pop.new.self.items ++ n ∷ [] = c.in-Some.ensures.items in
    let apart = All-pop (IsIn c.loop-n.found) c.loop-n.found.waiting.items c.pop.new.self.items (Some n) popped before.waiting in
    let given : c.deref.result.now ≡ given_for ps n = c.deref.ensures.value ∙ ap (λ (v : Vec ℕ). v.items) c.index.ensures ∙ at_get gs n c.index.result.now (known ms n gs c.args.count (apart.1) before.length c.in_ok-givers.ensures.length) ∙ c.in_ok-givers.ensures.givers n in
    let taken : Found = record { marked = c.loop-n.found.marked; waiting = c.pop.new.self; is_refused = c.loop-n.found.is_refused } in
    let adds = subst (λ (gs : List ℕ). Adds gs taken new) given c.mark_all-in-Some.ensures in
    record {
      length = adds.size ∙ before.length;
      members = All-weaker (IsIn c.loop-n.found) (IsIn new) adds.grows c.args.members.now before.members;
      within = λ other closed. adds.within other (given_within other ps n closed.follows (before.within other closed n apart.1)) (before.within other closed);
      waiting = adds.marked apart.0;
      followed = followed_more ps {before = c.loop-n.found} {taken = taken} n refl refl popped before.followed adds;
    }

pub index-requires : goal.index-requires
index-requires c =
    let n = c.in-Some.n in
    let before = c.loop-n.invariant in
    let apart = All-pop (IsIn c.loop-n.found) c.loop-n.found.waiting.items c.pop.new.self.items (Some n) c.in-Some.ensures.items before.waiting in
    subst (λ (k : ℕ). n < k) (sym c.in_ok-givers.givers.ok.0) (known c.loop-n.found.marked.items n c.in_ok-givers.givers.items c.args.count apart.1 before.length c.in_ok-givers.ensures.length)

pub mark_all-requires-in-Some : goal.mark_all-requires-in-Some
mark_all-requires-in-Some c =
    let n = c.in-Some.n in
    let ps = c.args.pairs.now in
    let ms = c.loop-n.found.marked.items in
    let gs = c.in_ok-givers.givers.items in
    let before = c.loop-n.invariant in
    let apart = All-pop (IsIn c.loop-n.found) c.loop-n.found.waiting.items c.pop.new.self.items (Some n) c.in-Some.ensures.items before.waiting in
    let small = known ms n gs c.args.count apart.1 before.length c.in_ok-givers.ensures.length in
    let given : c.deref.result.now ≡ given_for ps n = c.deref.ensures.value ∙ ap (λ (v : Vec ℕ). v.items) c.index.ensures ∙ at_get gs n c.index.result.now small ∙ c.in_ok-givers.ensures.givers n in
    subst (λ (k : ℕ). All (λ (g : ℕ). g < k) c.deref.result.now) (sym before.length) (subst (λ (xs : List ℕ). All (λ (g : ℕ). g < c.args.count) xs) (sym given) (given_small c.args.count ps n c.requires.pairs))

pub returns-clause-least : goal.returns-clause-least
returns-clause-least c =
    let found = c.loop-n.found in
    let before = c.loop-n.invariant in
    let empty : found.waiting.items ≡ [] = nil_from_length found.waiting.items (sym found.waiting.ok.0 ∙ c.in_default.ensures.cases.0) in
    record {
      closed = record { has = before.members; follows = followed_all c.args.pairs.now found empty c.if-found.false before.followed };
      within = λ other closed n h. before.within other closed n h;
    }
