use Rattle.std.proofs.Common.{ℕ, ◌-◌, length, take, sym, ◌∙◌, subst, w64}
use Rattle.wasm_types.specs.Leb128.{IsSigned}
use Rattle.wasm_types.proofs.Groups.{signed_found, signed_met, signed_missed, signed_small, bits_back, s64_is}
use Rattle.wasm_types.proofs.leb128.read_s64.Goals as goal

pub returns-in_err-n-clause-again : goal.returns-in_err-n-clause-again
returns-in_err-n-clause-again c = λ n text rest h e. absurd (signed_missed 10 9223372036854775808 c.args.bytes.now (sym (s64_is c.args.bytes.now) ∙ c.in_err-n.ensures.found) n text rest h e)

pub returns-clause-found : goal.returns-clause-found
returns-clause-found c =
    let text = take (length c.args.bytes.now - length c.in_ok-n.rest.now) c.args.bytes.now in
    let read = signed_found 10 9223372036854775808 c.args.bytes.now c.in_ok-n.n c.in_ok-n.rest.now (sym (s64_is c.args.bytes.now) ∙ c.in_ok-n.ensures.found) in
    let back = bits_back w64 c.cast_signed.result c.in_ok-n.n (signed_small 10 9223372036854775808 text c.in_ok-n.n read) c.cast_signed.ensures in
    subst (λ (v : ℕ). IsSigned 10 9223372036854775808 text v) (sym back) read

pub returns-clause-again : goal.returns-clause-again
returns-clause-again c = λ n text rest h e.
    let at = sym (s64_is c.args.bytes.now) ∙ c.in_ok-n.ensures.found in
    let read = signed_found 10 9223372036854775808 c.args.bytes.now c.in_ok-n.n c.in_ok-n.rest.now at in
    let back = bits_back w64 c.cast_signed.result c.in_ok-n.n (signed_small 10 9223372036854775808 _ c.in_ok-n.n read) c.cast_signed.ensures in
    let met = signed_met 10 9223372036854775808 c.args.bytes.now c.in_ok-n.n c.in_ok-n.rest.now at n text rest h e in
    (back ∙ met.0, met.1)
