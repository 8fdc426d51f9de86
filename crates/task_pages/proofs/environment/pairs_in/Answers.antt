use Rattle.std.proofs.Common.{◌≡◌, ◌∙◌, ◌++◌, ◌+◌, ℕ, List, [], ◌∷◌, Option, map, option_map, option_to_list, take, vec_items, ap, sym, append-nil}
use Rattle.std.proofs.lemmas.List.{map_more, map_push}
use Rattle.host_texts.specs.NameForms.{pair_of}
use Rattle.host_texts.specs.declared.names.NamedText.{NamedText}
use Rattle.task_pages.proofs.Pairs.{pairs_next}
use Rattle.task_pages.proofs.environment.pairs_in.Goals as goal
use Rattle.task_pages.proofs.environment.pairs_in.Goals.{in-Some+in_ok-push, in_default}

pub loop-entry-preserved : goal.loop-entry-preserved
loop-entry-preserved c =
    let entries = c.args.entries.now in
    let i = c.loop-entry.entry-index in
    let before = c.loop-entry.pairs.items in
    let found = c.in_ok-pair.field-0 in
    let entry = c.deref.result.now in
    let next : map vec_items (take (i + 1) entries) ≡ map vec_items (take i entries) ++ entry ∷ [] =
    map_more vec_items entries i c.entry-item.result c.loop-entry-test.true
    ∙ ap (λ (bytes : List ℕ). map vec_items (take i entries) ++ bytes ∷ []) (ap vec_items (sym c.entry-item.is) ∙ sym c.deref.ensures.value) in
    let after : map pair_of c.match-branch-2.pairs.items ≡ map pair_of before ++ option_to_list (option_map pair_of found) =
    elim c.match-branch-2.branch [
      | in-Some+in_ok-push w ↦ ap (λ v. map pair_of v.items) w.pairs-is ∙ ap (map pair_of) w.in_ok-push.ensures.items ∙ map_push pair_of before w.in-Some.pair
          ∙ ap (λ (o : Option NamedText). map pair_of before ++ option_to_list (option_map pair_of o)) (sym w.in-Some.is)
      | in_default w ↦ ap (λ v. map pair_of v.items) w.pairs-is ∙ sym (append-nil (map pair_of before))
          ∙ ap (λ (o : Option NamedText). map pair_of before ++ option_to_list (option_map pair_of o)) (sym w.in_default.is)
    ] in
    pairs_next (map vec_items (take i entries)) _ entry (map pair_of before) _ (option_map pair_of found) next after c.loop-entry.invariant c.in_ok-pair.ensures
