use Rattle.std.proofs.Common.{rules, arith, sym, ap, ◌∙◌, ◌≡◌, ◌+◌, ◌-◌, subst, ℕ, length, drop, take, Some, None, Vec, Global}
use Rattle.std.proofs.lemmas.Result.{IfOk-weaker}
use Rattle.ere_syntax.specs.Tree.{Set, Group, Repeat}
use Rattle.ere_syntax.specs.View.{view, views, concat_all, or_all}
use Rattle.ere_syntax.proofs.Viewed.{view_concat, view_or}
use Rattle.ere_match.specs.declared.node.Filter.TheVariants as filters
use Rattle.ere_syntax.specs.Matches.{Matches}
use Rattle.ere_match.specs.declared.node.Node.{Node}
use Rattle.ere_match.specs.Means.{AreBuilt, InTurn, Power, Turns}
use Rattle.ere_match.proofs.Builds.{endless_none, endless_any, endless_some, power_next, power_stop, upto_next, upto_stop, repeat_any, repeat_least, repeat_most, parts_built, parts_next, branch_first, branch_both, branch_split}
use Rattle.ere_match.proofs.Parts.{ok_take, ok_start, ok_end, ok_same, ok_never, ok_like, views_drop, views_take, views_take_length, built_at, built_from, repeat_high}
use Rattle.ere_match.proofs.assemble.+build.Goals as goal
use Rattle.ere_match.proofs.assemble.+build.Goals.{any_of-then-place-eq0, any_of-else-place-eq0+then-len-before, any_of-else-place-eq0+else-len-before+in_ok-entry}

pub build-returns-in-Byte : goal.build-returns-in-Byte
build-returns-in-Byte t c = ok_take c.args.nodes.now.items c.add.new.nodes.items (view c.args.ere.now) (filters.Byte c.in-Byte.byte) c.args.next c.add.result (ap view c.in-Byte.is) c.add.ensures.place c.add.ensures.longer c.add.ensures.one

pub build-returns-in-Any : goal.build-returns-in-Any
build-returns-in-Any t c = ok_take c.args.nodes.now.items c.add-in-Any.new.nodes.items (view c.args.ere.now) filters.Any c.args.next c.add-in-Any.result (ap view c.in-Any.is) c.add-in-Any.ensures.place c.add-in-Any.ensures.longer c.add-in-Any.ensures.one

pub build-returns-in_ok-set-in-Bracket : goal.build-returns-in_ok-set-in-Bracket
build-returns-in_ok-set-in-Bracket t c =
    let is : view c.args.ere.now ≡ Set c.in_ok-set-in-Bracket.set.value.has = ap view c.in-Bracket.is ∙ sym (ap (λ s. Set s.has) (c.in_ok-set-in-Bracket.ensures.ok ∙ c.deref.ensures)) in
    ok_take c.args.nodes.now.items c.add-in-Bracket.new.nodes.items (view c.args.ere.now) (filters.Bracket c.in_ok-set-in-Bracket.set) c.args.next c.add-in-Bracket.result is c.add-in-Bracket.ensures.place c.add-in-Bracket.ensures.longer c.add-in-Bracket.ensures.one

pub build-returns-in-Start : goal.build-returns-in-Start
build-returns-in-Start t c = ok_start c.args.nodes.now.items c.add-in-Start.new.nodes.items (view c.args.ere.now) c.args.next c.add-in-Start.result (ap view c.in-Start.is) c.add-in-Start.ensures.place c.add-in-Start.ensures.longer c.add-in-Start.ensures.one

pub build-returns-in-End : goal.build-returns-in-End
build-returns-in-End t c = ok_end c.args.nodes.now.items c.add-in-End.new.nodes.items (view c.args.ere.now) c.args.next c.add-in-End.result (ap view c.in-End.is) c.add-in-End.ensures.place c.add-in-End.ensures.longer c.add-in-End.ensures.one

pub build-returns-in-Group : goal.build-returns-in-Group
build-returns-in-Group t c =
    let is : view c.args.ere.now ≡ Group (view c.deref-in-Group.result.now) = ap view c.in-Group.is ∙ sym (ap (λ e. Group (view e)) c.deref-in-Group.ensures) in
    ok_same c.args.nodes.now.items c.build.new.nodes.items (view c.args.ere.now) (Group (view c.deref-in-Group.result.now)) c.args.next c.build.result is
    (ok_like c.args.nodes.now.items c.build.new.nodes.items (Group (view c.deref-in-Group.result.now)) (view c.deref-in-Group.result.now) c.args.next c.build.result (λ text i j h. h) (λ text i j h. h) c.build.ensures)

pub build-returns-in-Repeat : goal.build-returns-in-Repeat
build-returns-in-Repeat t c =
    let low = c.in-Repeat.times.low in
    let is : view c.args.ere.now ≡ Repeat (view c.deref-in-Repeat.result.now) c.in-Repeat.times.low c.in-Repeat.times.high = ap view c.in-Repeat.is ∙ sym (ap (λ e. Repeat (view e) c.in-Repeat.times.low c.in-Repeat.times.high) c.deref-in-Repeat.ensures) in
    ok_same c.args.nodes.now.items c.repeat.new.nodes.items (view c.args.ere.now) (Repeat (view c.deref-in-Repeat.result.now) c.in-Repeat.times.low c.in-Repeat.times.high) c.args.next c.repeat.result is c.repeat.ensures

pub build-returns-in-Concat : goal.build-returns-in-Concat
build-returns-in-Concat t c =
    let is : view c.args.ere.now ≡ concat_all (views c.deref-in-Concat.result.now) = ap view c.in-Concat.is ∙ view_concat c.in-Concat.parts ∙ sym (ap (λ es. concat_all (views es)) c.deref-in-Concat.ensures.value) in
    ok_same c.args.nodes.now.items c.all_of.new.nodes.items (view c.args.ere.now) (concat_all (views c.deref-in-Concat.result.now)) c.args.next c.all_of.result is c.all_of.ensures

pub build-returns-in-Or : goal.build-returns-in-Or
build-returns-in-Or t c =
    let is : view c.args.ere.now ≡ or_all (views c.deref-in-Or.result.now) = ap view c.in-Or.is ∙ view_or c.in-Or.parts ∙ sym (ap (λ es. or_all (views es)) c.deref-in-Or.ensures.value) in
    ok_same c.args.nodes.now.items c.any_of.new.nodes.items (view c.args.ere.now) (or_all (views c.deref-in-Or.result.now)) c.args.next c.any_of.result is c.any_of.ensures

pub all_of-overflow_sub-parts : goal.all_of-overflow_sub-parts
all_of-overflow_sub-parts t c = omega arith

pub all_of-overflow_sub-parts-in-loop-done : goal.all_of-overflow_sub-parts-in-loop-done
all_of-overflow_sub-parts-in-loop-done t c = omega arith

pub all_of-bounds-parts-parts : goal.all_of-bounds-parts-parts
all_of-bounds-parts-parts t c = omega arith

pub all_of-loop-done-preserved : goal.all_of-loop-done-preserved
all_of-loop-done-preserved t c =
    let es = c.args.parts.now in
    let s = c.loop-done in
    parts_next c.args.nodes.now.items s.nodes.items c.build.new.nodes.items (views (drop (length c.args.parts.now - s.done) c.args.parts.now)) (views (drop (length c.args.parts.now - (s.done + 1)) c.args.parts.now)) (view c.index-parts-parts.result) c.in_ok-entry.entry s.entry c.args.next
    (views_drop c.args.parts.now s.done c.index-parts-parts.result c.index-parts-parts.result (omega arith) c.index-parts-parts.is) s.invariant c.in_ok-entry.ensures

pub all_of-returns : goal.all_of-returns
all_of-returns t c =
    let s = c.loop-done in
    let e : length c.args.parts.now - s.done ≡ 0 = omega (arith, c.loop-done-test.false) in
    parts_built c.args.nodes.now.items s.nodes.items (views c.args.parts.now) s.entry c.args.next (subst (λ (n : ℕ). AreBuilt c.args.nodes.now.items s.nodes.items (InTurn (views (drop n c.args.parts.now))) s.entry c.args.next) e s.invariant)

pub any_of-loop-place-preserved : goal.any_of-loop-place-preserved
any_of-loop-place-preserved t c =
    let s = c.loop-place in
    let es = c.args.parts.now in
    let us = views_take c.args.parts.now s.place c.index-parts-place.result c.index-parts-place.result (omega arith) c.index-parts-place.is in
    let many = views_take_length c.args.parts.now s.place (omega arith) in
    record {
      built = elim c.if-place-eq0.branch [
        | any_of-then-place-eq0 w ↦ built_at c.args.nodes.now.items c.build.new.nodes.items _ (or_all (views (take (s.place + 1) c.args.parts.now))) c.in_ok-branch.branch _ c.args.next (ap (λ (v : Vec Node Global). v.items) w.nodes-is) w.entry-is
            (branch_first c.args.nodes.now.items c.build.new.nodes.items (views (take s.place c.args.parts.now)) (views (take (s.place + 1) c.args.parts.now)) (view c.index-parts-place.result) c.in_ok-branch.branch c.args.next (many ∙ w.if-place-eq0.true) us
            (built_from c.args.nodes.now.items s.nodes.items c.build.new.nodes.items (view c.index-parts-place.result) c.in_ok-branch.branch c.args.next (s.invariant.first w.if-place-eq0.true) c.in_ok-branch.ensures))
        | any_of-else-place-eq0+then-len-before w ↦ built_at c.args.nodes.now.items c.build.new.nodes.items _ (or_all (views (take (s.place + 1) c.args.parts.now))) c.args.next _ c.args.next (ap (λ (v : Vec Node Global). v.items) w.nodes-is) w.entry-is
            (branch_both c.args.nodes.now.items s.nodes.items c.build.new.nodes.items (views (take s.place c.args.parts.now)) (views (take (s.place + 1) c.args.parts.now)) (view c.index-parts-place.result) s.entry c.in_ok-branch.branch c.args.next (omega (arith, many, w.if-place-eq0.false)) us s.invariant.built c.in_ok-branch.ensures (search rules))
        | any_of-else-place-eq0+else-len-before+in_ok-entry w ↦ built_at c.args.nodes.now.items w.add.new.nodes.items _ (or_all (views (take (s.place + 1) c.args.parts.now))) w.in_ok-entry.entry _ c.args.next (ap (λ (v : Vec Node Global). v.items) w.nodes-is) w.entry-is
            (branch_split c.args.nodes.now.items s.nodes.items c.build.new.nodes.items w.add.new.nodes.items (views (take s.place c.args.parts.now)) (views (take (s.place + 1) c.args.parts.now)) (view c.index-parts-place.result) w.in_ok-entry.entry s.entry c.in_ok-branch.branch c.args.next (omega (arith, many, w.if-place-eq0.false)) us s.invariant.built c.in_ok-branch.ensures w.in_ok-entry.ensures.place.0 w.in_ok-entry.ensures.place.1 w.in_ok-entry.ensures.longer w.in_ok-entry.ensures.one)
      ];
      first = λ e. absurd (omega (arith, e));
    }

pub copies-returns-then-len-before : goal.copies-returns-then-len-before
copies-returns-then-len-before t c =
    let s = c.loop-turn in
    power_stop c.args.nodes.now.items s.nodes.items c.build.new.nodes.items (view c.args.inner.now) s._turn c.args.count c.in_ok-entry.entry s.entry c.args.next (omega arith) s.invariant c.in_ok-entry.ensures (search rules)

pub copies-loop-turn-preserved : goal.copies-loop-turn-preserved
copies-loop-turn-preserved t c =
    let s = c.loop-turn in
    power_next c.args.nodes.now.items s.nodes.items c.build.new.nodes.items (view c.args.inner.now) s._turn c.in_ok-entry.entry s.entry c.args.next s.invariant c.in_ok-entry.ensures

pub copies-returns : goal.copies-returns
copies-returns t c =
    let s = c.loop-turn in
    let e : s._turn ≡ c.args.count = omega (arith, c.loop-turn-test.false) in
    subst (λ (n : ℕ). AreBuilt c.args.nodes.now.items s.nodes.items (Power (Matches (view c.args.inner.now)) n) s.entry c.args.next) e s.invariant

pub endless-returns-then-len-place-clause-any : goal.endless-returns-then-len-place-clause-any
endless-returns-then-len-place-clause-any t c =
    endless_none c.args.nodes.now.items c.add.new.nodes.items c.build.new.nodes.items c.pop.new.self.items _ (view c.args.inner.now) c.in_ok-body.body c.in_ok-place.place c.args.next 0 (omega arith) c.in_ok-place.ensures.longer c.in_ok-place.ensures.one c.in_ok-body.ensures (omega (arith, c.len.ensures, c.if-len-place.true, c.in_ok-place.ensures.place.0)) c.pop.ensures.items (search rules)

pub endless-returns-then-len-place-clause-some : goal.endless-returns-then-len-place-clause-some
endless-returns-then-len-place-clause-some t c =
    endless_none c.args.nodes.now.items c.add.new.nodes.items c.build.new.nodes.items c.pop.new.self.items _ (view c.args.inner.now) c.in_ok-body.body c.in_ok-place.place c.args.next 1 (omega arith) c.in_ok-place.ensures.longer c.in_ok-place.ensures.one c.in_ok-body.ensures (omega (arith, c.len.ensures, c.if-len-place.true, c.in_ok-place.ensures.place.0)) c.pop.ensures.items (search rules)

pub endless-returns-clause-any : goal.endless-returns-clause-any
endless-returns-clause-any t c = endless_any c.args.nodes.now.items c.add.new.nodes.items c.build.new.nodes.items (view c.args.inner.now) c.in_ok-body.body c.in_ok-place.place c.args.next c.in_ok-place.ensures.place.0 c.in_ok-place.ensures.longer c.in_ok-place.ensures.one c.in_ok-body.ensures

pub endless-returns-clause-some : goal.endless-returns-clause-some
endless-returns-clause-some t c = endless_some c.args.nodes.now.items c.add.new.nodes.items c.build.new.nodes.items (view c.args.inner.now) c.in_ok-body.body c.in_ok-place.place c.args.next c.in_ok-place.ensures.place.0 c.in_ok-place.ensures.longer c.in_ok-place.ensures.one c.in_ok-body.ensures

pub repeat-returns-then-times-eq0 : goal.repeat-returns-then-times-eq0
repeat-returns-then-times-eq0 t c =
    repeat_high c.args.nodes.now.items c.endless.new.nodes.items (view c.args.inner.now) c.args.times.low c.args.times.high None c.in_ok-none-in-None.none c.args.next c.in-None.is
    (repeat_any c.args.nodes.now.items c.endless.new.nodes.items (view c.args.inner.now) c.args.times.low c.in_ok-none-in-None.none c.args.next c.if-times-eq0.true c.in_ok-none-in-None.ensures.any)

pub repeat-returns-else-times-eq0 : goal.repeat-returns-else-times-eq0
repeat-returns-else-times-eq0 t c =
    IfOk-weaker c.copies.result _ _ (λ entry built.
    repeat_high c.args.nodes.now.items c.copies.new.nodes.items (view c.args.inner.now) c.args.times.low c.args.times.high None entry c.args.next c.in-None.is
    (repeat_least c.args.nodes.now.items c.endless.new.nodes.items c.copies.new.nodes.items (view c.args.inner.now) c.args.times.low entry c.in_ok-none-in-None.one c.args.next (omega (arith, c.if-times-eq0.false)) c.in_ok-none-in-None.ensures.some built)) c.copies.ensures

pub repeat-returns-then-high-times : goal.repeat-returns-then-high-times
repeat-returns-then-high-times t c =
    rw c.in-Some.is (ok_never c.args.nodes.now.items c.add.new.nodes.items (view c.args.inner.now) c.args.times.low c.in-Some.high c.args.next c.add.result c.if-high-times.true c.add.ensures.place c.add.ensures.longer c.add.ensures.one)

pub repeat-returns-in_ok-rest-in-Some : goal.repeat-returns-in_ok-rest-in-Some
repeat-returns-in_ok-rest-in-Some t c =
    IfOk-weaker c.copies-else-high-times.result _ _ (λ entry built.
    repeat_high c.args.nodes.now.items c.copies-else-high-times.new.nodes.items (view c.args.inner.now) c.args.times.low c.args.times.high (Some c.in-Some.high) entry c.args.next c.in-Some.is
    (repeat_most c.args.nodes.now.items c.up_to.new.nodes.items c.copies-else-high-times.new.nodes.items (view c.args.inner.now) c.args.times.low c.in-Some.high entry c.in_ok-rest-in-Some.rest c.args.next (omega (arith, c.if-high-times.false)) c.in_ok-rest-in-Some.ensures built)) c.copies-else-high-times.ensures

pub up_to-returns-then-len-before : goal.up_to-returns-then-len-before
up_to-returns-then-len-before t c =
    let s = c.loop-turn in
    upto_stop c.args.nodes.now.items s.nodes.items c.build.new.nodes.items (view c.args.inner.now) s._turn c.args.count c.in_ok-body.body s.entry c.args.next (omega arith) s.invariant c.in_ok-body.ensures (search rules)

pub up_to-loop-turn-preserved : goal.up_to-loop-turn-preserved
up_to-loop-turn-preserved t c =
    let s = c.loop-turn in
    upto_next c.args.nodes.now.items s.nodes.items c.build.new.nodes.items c.add.new.nodes.items (view c.args.inner.now) s._turn c.in_ok-body.body c.in_ok-entry.entry s.entry c.args.next s.invariant c.in_ok-body.ensures c.in_ok-entry.ensures.place.0 c.in_ok-entry.ensures.place.1 c.in_ok-entry.ensures.longer c.in_ok-entry.ensures.one

pub up_to-returns : goal.up_to-returns
up_to-returns t c =
    let s = c.loop-turn in
    let e : s._turn ≡ c.args.count = omega (arith, c.loop-turn-test.false) in
    subst (λ (n : ℕ). AreBuilt c.args.nodes.now.items s.nodes.items (Turns (Matches (view c.args.inner.now)) 0 (Some n)) s.entry c.args.next) e s.invariant
