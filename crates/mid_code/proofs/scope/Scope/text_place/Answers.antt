use Rattle.std.proofs.Common.{◌≡◌, ◌≤◌, false, length, nat_lt, sym, ◌∙◌, arith}
use Rattle.std.specs.List.{position_or_len}
use Rattle.std.proofs.lemmas.Bool.{ltb-false}
use Rattle.sem_scripts.specs.Names.{same_name}
use Rattle.mid_code.specs.ViewScope.{texts_of}
use Rattle.mid_code.proofs.NameTables.{none_place, position_within, some_place, text_place_is}
use Rattle.mid_code.proofs.scope.Scope.text_place.Goals as goal

pub returns-in-Some : goal.returns-in-Some
unfolding texts_of
returns-in-Some c =
    let ks = c.args.self.now.texts.now.keys in
    let p = position_or_len (λ k. same_name c.args.text.now k.items) ks in
    sym (some_place (nat_lt p (length ks)) p c.in-Some.place (sym c.in-Some.ensures.index)) ∙ text_place_is ks c.args.text.now

pub returns-in-None : goal.returns-in-None
unfolding texts_of
returns-in-None c =
    let ks = c.args.self.now.texts.now.keys in
    let p = position_or_len (λ k. same_name c.args.text.now k.items) ks in
    let none : nat_lt p (length ks) ≡ false = none_place (nat_lt p (length ks)) p (sym c.in-None.ensures.index) in
    let past : length ks ≤ p = ltb-false p (length ks) none in
    let within = position_within (λ k. same_name c.args.text.now k.items) ks in
    let all : c.len.result ≡ length ks = c.len.ensures.len in
    let here : c.len.result ≡ p = omega arith in
    here ∙ text_place_is ks c.args.text.now
