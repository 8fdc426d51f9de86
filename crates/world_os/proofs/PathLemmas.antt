-- The names of the program's own streams are paths.
use Rattle.std.proofs.Common.{◌≡◌, ℕ, ◌==◌, ◌<◌, List, [], ◌∷◌, length, true, codes, refl, sym, subst, lit<}
use Rattle.std.specs.Cmp.Lexicographic.{pointwise}
use Rattle.std.specs.List.{list_all}
use Rattle.std.specs.Prelude.{nat_lt}
use Rattle.std.specs.Str.{IsAscii}
use Rattle.std.proofs.lemmas.Bool.{and_parts, ltb-true}
use Rattle.std.proofs.lemmas.Str.{IsUtf8-from_ascii}
use Rattle.std.proofs.lemmas.Str.Ascii.{IsAscii-cons, IsAscii-nil}
use Rattle.world_core.proofs.NameLemmas.{same_name}
use Rattle.world_os.specs.OsStreams.{IsPath}

ascii : (bs : List ℕ) → list_all (λ b. nat_lt b 128) bs ≡ true → IsAscii bs
ascii [] h = IsAscii-nil
ascii (b ∷ bs) h =
    let parts = and_parts (nat_lt b 128) (list_all (λ b. nat_lt b 128) bs) h in
    IsAscii-cons b bs (ltb-true b 128 parts.0) (ascii bs parts.1)

path_as : (name own : List ℕ) → 0 < length own → list_all (λ b. nat_lt b 128) own ≡ true → pointwise ◌==◌ name own ≡ true → IsPath name
path_as name own some small same = subst IsPath (sym (same_name name own same)) (some, IsUtf8-from_ascii own (ascii own small))

pub input_is_path : (name : List ℕ) → pointwise ◌==◌ name (codes "/dev/stdin") ≡ true → IsPath name
input_is_path name = path_as name (codes "/dev/stdin") (lit< tt) refl

pub output_is_path : (name : List ℕ) → pointwise ◌==◌ name (codes "/dev/stdout") ≡ true → IsPath name
output_is_path name = path_as name (codes "/dev/stdout") (lit< tt) refl

pub errors_is_path : (name : List ℕ) → pointwise ◌==◌ name (codes "/dev/stderr") ≡ true → IsPath name
errors_is_path name = path_as name (codes "/dev/stderr") (lit< tt) refl
