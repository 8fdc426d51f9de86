-- What is left of a text from a place on.
use Rattle.std.proofs.Common.{◌≡◌, ℕ, ◌-◌, List, length, drop, slice_range, arith}
use Rattle.std.proofs.lemmas.List.{length-drop, take_all}

pub rest_of : (text : List ℕ) (from : ℕ) → slice_range text from (length text) ≡ drop from text
rest_of text from = take_all (length text - from) (drop from text) (omega (arith, length-drop from text))
