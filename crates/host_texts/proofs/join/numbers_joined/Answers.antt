use Rattle.std.proofs.Common.{◌≡◌, ◌≤◌, ◌-◌, ◌^◌, ◌++◌, ◌∷◌, ℕ, List, length, drop, Result, Ok, Err, IfOk, sym, ap, ◌∙◌, arith, rules, if◌then◌else◌}
use Rattle.std.proofs.lemmas.Bool.{le-leb}
use Rattle.std.proofs.lemmas.List.{length-drop, take_all}
use Rattle.std.specs.Fmt.{signed_decimal}
use Rattle.awk_values.specs.declared.fault.Fault.TheVariants.{TextLimit}
use Rattle.awk_values.specs.declared.value.Value.TheVariants as value
use Rattle.sem_primitives.specs.ValueMeaning.{within_limit}
use Rattle.host_texts.proofs.join.numbers_joined.Goals as goal

short_fits : (text : List ℕ) → length text ≤ 41 → within_limit text ≡ Ok (value.Text text)
short_fits text short = ap (λ b. if b then Ok (value.Text text) else Err TextLimit) (le-leb (length text) (2 ^ 26) (omega (arith, short)))

made : {E : Type 0} (r : Result (List ℕ) E) (bytes text : List ℕ) → IfOk r (λ t. t ≡ bytes) → bytes ≡ text → length text ≤ 41
    → IfOk r (λ t. within_limit text ≡ Ok (value.Text t))
made (Ok t) bytes text is same short = short_fits text short ∙ ap (λ z. Ok (value.Text z)) (sym (is ∙ same))
made (Err e) bytes text is same short = tt

pub returns : goal.returns
returns c =
    let written : drop c.write_key-start.result c.write_key-start.new.room ≡ signed_decimal c.args.left ++ c.args.between ∷ signed_decimal c.args.right = search rules in
    let short : length (signed_decimal c.args.left ++ c.args.between ∷ signed_decimal c.args.right) ≤ 41 = search rules in
    let start = c.write_key-start.result in
    let room = c.write_key-start.new.room in
    let all : length (drop start room) ≤ 41 - start = omega (arith, length-drop start room) in
    made c.put_into.result _ _ c.put_into.ensures (take_all (41 - start) (drop start room) all ∙ written) short
