use Rattle.std.proofs.Common.{◌≡◌, ℕ, List, [], ◌∷◌, ◌++◌, Result, Ok, Err, true, sym, subst, ◌∙◌, true≢false}
use Rattle.std.specs.Borrow.{Bor}
use Rattle.std.specs.Result.{OnOk, is_ok}
use Rattle.indexmap.proofs.CallerLemmas.{insert_entry-new}
use Rattle.awk_grammar.specs.Kinds.{same_name}
use Rattle.awk_resolve.specs.Places.{place_of, ArePlaces}
use Rattle.awk_resolve.proofs.Names.{absent}
use Rattle.awk_resolve.proofs.Tables.{Entry, known_place, new_place}
use Rattle.awk_resolve.proofs.placed.add_place.Goals as goal

on_ok : {A E P : Type 0} (r : Result A E) → is_ok r ≡ true → OnOk r P → P
on_ok (Ok x) h p = p
on_ok (Err e) h p = absurd (true≢false (sym h))

pub returns-then-contains_key : goal.returns-then-contains_key
returns-then-contains_key c = λ put ns len h. known_place c.args.places.now.entries ns c.args.name.now (sym c.contains_key.ensures ∙ c.if-contains_key.true) h

pub returns-else-contains_key : goal.returns-else-contains_key
returns-else-contains_key c = λ put ns len h.
    let n = c.args.name in
    let old = c.args.places.now in
    let none = absent _ (sym c.contains_key.ensures ∙ c.if-contains_key.false) in
    let entries = on_ok c.insert.result (sym c.is_ok.ensures.value ∙ put) c.insert.ensures.entries ∙ insert_entry-new (λ (a b : Bor (List ℕ)). same_name a.now b.now) old n c.args.place none in
    subst (λ (es : List Entry). ArePlaces es (place_of (ns ++ n.now ∷ []))) (sym entries) (new_place old.entries ns n c.args.place len h)
