-- A bracket that is spelled is read.
use Rattle.std.proofs.Common.{◌≡◌, ℕ, zero, suc, ◌≤◌, Bool, true, false, List, [], ◌∷◌, ◌++◌, length, Option, Some, refl, ap, ◌∙◌, append_assoc, arith, length-append}
use Rattle.ere_syntax.specs.Reading.{◌>>=◌}
use Rattle.ere_syntax.specs.Bracket.{starts, Escape, Octal, Letter, spell_escape, AreOctals, IsEscape, One, Raw, Escaped, spell_one, IsOne, closed_name, Member, Single, Range, Named, spell_member, front, dash_at, IsMember, spell_members, AreMembers, Bracket, spell_bracket, IsBracket}
use Rattle.ere_syntax.specs.Readers.{octals_at, escape_at, one_at, class_at, members_by, members_at, bracket_at}
use Rattle.ere_syntax.specs.declared.class.Class.{Class}
use Rattle.ere_syntax.specs.declared.class.Class.TheVariants.{Alnum, Alpha, Blank, Cntrl, Digit, Graph, Lower, Print, Punct, Space, Upper, Xdigit}

octals_again : (n : ℕ) (ds rest : List ℕ) → AreOctals n ds rest → octals_at n (ds ++ rest) ≡ (ds, rest)
octals_again zero [] rest h = refl
octals_again zero (d ∷ ds) rest h = absurd h
octals_again (suc n) [] [] h = refl
octals_again (suc n) [] (c ∷ cs) h = rw h refl
octals_again (suc n) (d ∷ ds) rest h = rw (h.0, octals_again n ds rest h.1) refl

pub escape_again : (e : Escape) (rest : List ℕ) → IsEscape e rest → escape_at (spell_escape e ++ rest) ≡ Some (e, rest)
escape_again (Octal d ds) rest h = rw (h.0, octals_again 2 ds rest h.1) refl
escape_again (Letter c) rest h = rw h refl

pub one_again : (o : One) (rest : List ℕ) → IsOne o rest → one_at (spell_one o ++ rest) ≡ Some (o, rest)
one_again (Raw c) rest h = rw h refl
one_again (Escaped e) rest h = rw (escape_again e rest h) refl

pub class_again : (c : Class) (rest : List ℕ) → class_at (closed_name c ++ rest) ≡ Some (c, rest)
class_again Alnum rest = refl
class_again Alpha rest = refl
class_again Blank rest = refl
class_again Cntrl rest = refl
class_again Digit rest = refl
class_again Graph rest = refl
class_again Lower rest = refl
class_again Print rest = refl
class_again Punct rest = refl
class_again Space rest = refl
class_again Upper rest = refl
class_again Xdigit rest = refl

dash_one : (h : One) (rest : List ℕ) → starts 93 (spell_one h ++ rest) ≡ false → dash_at (45 ∷ (spell_one h ++ rest)) ≡ Some (spell_one h ++ rest)
dash_one (Raw c) rest h = rw h refl
dash_one (Escaped e) rest h = refl

abbrev IsThen : Bool → List ℕ → Member → List ℕ → Type 0
IsThen first ts m rest = (go : List ℕ → Option (List Member × List ℕ)) → members_by go ts (front first ts) ≡ (go rest >>= λ y. Some (m ∷ y.0, y.1))

range_again : (first : Bool) (l h : One) (rest ts : List ℕ) → ts ≡ spell_one l ++ (45 ∷ (spell_one h ++ rest)) → IsMember first (Range l h) rest → IsThen first ts (Range l h) rest
range_again first l h rest ts p k go =
    let a = one_again l (45 ∷ (spell_one h ++ rest)) k.0 in
    let b = dash_one h rest k.3 in
    let c = one_again h rest k.2 in
    rw (p, k.1, a, b, k.4, c, k.5) refl

member_again : (first : Bool) (m : Member) (rest : List ℕ) → IsMember first m rest → IsThen first (spell_member m ++ rest) m rest
member_again first (Single o) rest h go = let a = one_again o rest h.0 in rw (h.1, a, h.2) refl
member_again first (Range l u) rest h go = range_again first l u rest ((spell_one l ++ (45 ∷ spell_one u)) ++ rest) (append_assoc (spell_one l) (45 ∷ spell_one u) rest) h go
member_again first (Named c) rest h go = rw (class_again c rest) refl

pub one_some : (o : One) → 1 ≤ length (spell_one o)
one_some (Raw c) = omega arith
one_some (Escaped e) = omega arith

pub member_some : (m : Member) → 1 ≤ length (spell_member m)
member_some (Single o) = one_some o
member_some (Range l h) = let p = one_some l in omega (arith, length-append (spell_one l) (45 ∷ spell_one h), p)
member_some (Named c) = omega arith

pub members_again : (w : ℕ) (first : Bool) (ms : List Member) (rest : List ℕ) → AreMembers first ms rest → length (spell_members ms ++ rest) ≤ w → members_at w first (spell_members ms ++ rest) ≡ Some (ms, rest)
members_again zero first [] rest h room = absurd (omega arith)
members_again (suc w) first [] rest h room = rw h refl
members_again zero first (m ∷ ms) rest h room =
    let p = member_some m in absurd (omega (arith, length-append (spell_member m ++ spell_members ms) rest, length-append (spell_member m) (spell_members ms), p, room))
members_again (suc w) first (m ∷ ms) rest h room =
    let p = member_some m in
    let q : (spell_member m ++ spell_members ms) ++ rest ≡ spell_member m ++ (spell_members ms ++ rest) = append_assoc (spell_member m) (spell_members ms) rest in
    let k = members_again w false ms rest h.1 (omega (arith, ap length q, length-append (spell_member m) (spell_members ms ++ rest), p, room)) in
    ap (members_at (suc w) first) q ∙ member_again first m (spell_members ms ++ rest) h.0 (members_at w false) ∙ ap (λ (o : Option (List Member × List ℕ)). o >>= λ y. Some (m ∷ y.0, y.1)) k

bracket_of : (n : Bool) (ms : List Member) (rest : List ℕ) → IsBracket (record { negated = n; members = ms }) rest → bracket_at (spell_bracket (record { negated = n; members = ms }) ++ rest) ≡ Some (record { negated = n; members = ms }, rest)
bracket_of true ms rest h = let k = members_again (length (94 ∷ (spell_members ms ++ rest))) true ms rest h.0 (omega arith) in rw k refl
bracket_of false ms rest h = let k = members_again (length (spell_members ms ++ rest)) true ms rest h.0 (omega arith) in rw (h.1, k) refl

pub bracket_again : (b : Bracket) (rest : List ℕ) → IsBracket b rest → bracket_at (spell_bracket b ++ rest) ≡ Some (b, rest)
bracket_again b rest h = bracket_of b.negated b.members rest h
