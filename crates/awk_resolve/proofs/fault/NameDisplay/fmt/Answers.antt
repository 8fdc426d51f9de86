use Rattle.std.proofs.Common.{rules, ◌≡◌, ◌∙◌, sym, ℕ, List, ◌+◌, ◌<◌, length, ◌++◌, ◌∷◌, [], ap, take, encode_utf8, encode_utf8_all, get_or}
use Rattle.std.proofs.lemmas.List.{append-nil, take_more}
use Rattle.std.proofs.lemmas.Str.{encodes-append}
use Rattle.std.proofs.Output.{has_written_append, has_written_of_eq}
use Rattle.awk_resolve.proofs.fault.NameDisplay.fmt.Goals as goal

encoded_next : (cs : List ℕ) (i : ℕ) → i < length cs → encode_utf8_all (take i cs) ++ encode_utf8 (get_or cs i 0) ≡ encode_utf8_all (take (i + 1) cs)
encoded_next cs i below =
    ap (λ last. encode_utf8_all (take i cs) ++ last) (sym (append-nil (encode_utf8 (get_or cs i 0))))
    ∙ sym (encodes-append (take i cs) (get_or cs i 0 ∷ []))
    ∙ sym (ap encode_utf8_all (take_more cs i 0 below))

-- src/fault.rt:48:9
pub loop-byte-preserved : goal.loop-byte-preserved
loop-byte-preserved g c p =
    has_written_of_eq _ _ _ _ _ (encoded_next c.deref-byte-items.result.now c.loop-byte.byte-index (search rules))
    (has_written_append _ _ _ _ (encode_utf8 (get_or c.deref-byte-items.result.now c.loop-byte.byte-index 0)) _ (c.loop-byte.invariant p) (search rules))
