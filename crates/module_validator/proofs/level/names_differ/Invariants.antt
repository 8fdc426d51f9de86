use Rattle.std.proofs.Common.{◌≡◌, ◌<◌, ℕ, List, [], take, get_or, map}
use Rattle.std.specs.Prelude.{Contains, string_bytes}
use Rattle.std.specs.List.{list_any}
use Rattle.std.specs.Str.{bytes_eq}
use Rattle.std.specs.HashSet.{contains_by}
use Rattle.module_validator.proofs.level.names_differ.Given as goal

abbrev pub invariant-loop-export : goal.invariant-loop-export
invariant-loop-export l = record {
  known : (q : List ℕ) → contains_by (λ k. bytes_eq q k.now) l.seen ≡ list_any (bytes_eq q) (take l.export-index (map (λ e. string_bytes e.name) l.exports));
  distinct : (i : ℕ) → i < l.export-index → Contains (take i (map (λ e. string_bytes e.name) l.exports)) (get_or (map (λ e. string_bytes e.name) l.exports) i []) → ⊥;
}
