-- From the runs of an automaton to the matches of its expression.
use Rattle.std.proofs.Common.{◌≡◌, ℕ, zero, suc, ◌+◌, ◌<◌, ◌≤◌, Bool, List, length, Option, Some, None, refl, sym, ◌∙◌, subst, arith}
use Rattle.std.specs.Prelude.{slice_get}
use Rattle.std.specs.Option.{is_some}
use Rattle.ere_syntax.specs.Tree.{Tree}
use Rattle.ere_syntax.specs.Matches.{Matches}
use Rattle.ere_syntax.proofs.Meaning.{matches_inside}
use Rattle.ere_match.specs.declared.automaton.Auto.{Auto}
use Rattle.ere_match.specs.declared.node.Node.{Node}
use Rattle.ere_match.specs.declared.node.Node.TheVariants as nodes
use Rattle.ere_match.specs.Runs.{Runs}
use Rattle.ere_match.specs.Means.{Means, IsBuilt}
use Rattle.ere_match.specs.Threads.{IsBest}
use Rattle.ere_match.specs.Autos.{IsAutoOf}
use Rattle.ere_syntax.specs.FirstMatch.{IsFirstMatch, IsMatch}
use Rattle.ere_match.proofs.Paths.{go, gone}

match_run : (all : List Node) (text : List ℕ) (t : Tree) (entry accept i j : ℕ) → Means all text (Matches t text) entry accept → slice_get all accept ≡ Some nodes.Accept → Matches t text i j → (m : ℕ) × Runs all text j m entry i
match_run all text t entry accept i j m acc h = m.forward j i j 1 h (go all text j zero accept j _ acc refl)

run_match : (all : List Node) (text : List ℕ) (t : Tree) (entry accept i j n : ℕ) → Means all text (Matches t text) entry accept → slice_get all accept ≡ Some nodes.Accept → i ≤ length text → Runs all text j n entry i → Matches t text i j
run_match all text t entry accept i j n m acc inside r =
    let b = m.backward j i n inside r in ended b.at b.left b.related b.run
  where
    ended : (k left : ℕ) → Matches t text i k → Runs all text j left accept k → Matches t text i j
    ended k zero h s = absurd s
    ended k (suc left) h s = subst (λ x. Matches t text i x) (gone all text j left accept k _ acc s) h

pub first_is : (all : List Node) (text : List ℕ) (t : Tree) (entry accept from : ℕ) (found : Option (ℕ × ℕ)) → Means all text (Matches t text) entry accept → slice_get all accept ≡ Some nodes.Accept → IsBest all text entry from (length text + 1) found → IsFirstMatch t text from found
first_is all text t entry accept from None m acc b = λ i j above h.
    (let r = match_run all text t entry accept i j m acc h in
    let w = matches_inside t text i j h in
    b i j r.0 above (omega (arith, w.1)) r.1)
first_is all text t entry accept from (Some p) m acc b = record {
  above = b.0;
  matches = run_match all text t entry accept p.0 p.1 b.4.0 m acc b.1 b.4.1;
  least = λ i j above h.
      (let r = match_run all text t entry accept i j m acc h in
      let w = matches_inside t text i j h in
      (b.5 i j r.0 above (omega (arith, w.1)) r.1).0);
  greatest = λ j h.
      (let r = match_run all text t entry accept p.0 j m acc h in
      let w = matches_inside t text p.0 j h in
      (b.5 p.0 j r.0 b.0 (omega (arith, w.1)) r.1).1 refl);
}

pub auto_first : (auto : Auto) (text : List ℕ) (t : Tree) (from : ℕ) (found : Option (ℕ × ℕ)) → IsAutoOf auto t → IsBest auto.nodes.items text auto.entry from (length text + 1) found → IsFirstMatch t text from found
auto_first auto text t from found a b = first_is auto.nodes.items text t auto.entry a.accept from found (a.means text) a.accepts b

pub auto_kept : (old new : Auto) (t : Tree) → new.nodes.items ≡ old.nodes.items → new.entry ≡ old.entry → IsAutoOf old t → IsAutoOf new t
auto_kept old new t n e a = record {
  accept = a.accept;
  accepts = subst (λ (x : List Node). slice_get x a.accept ≡ Some nodes.Accept) (sym n) a.accepts;
  means = λ text. subst (λ (x : ℕ). Means new.nodes.items text (Matches t text) x a.accept) (sym e) (subst (λ (x : List Node). Means x text (Matches t text) old.entry a.accept) (sym n) (a.means text));
}

pub auto_built : (auto : Auto) (t : Tree) (one : List Node) (accept : ℕ) → slice_get one accept ≡ Some nodes.Accept → accept < length one → IsBuilt one auto.nodes.items t auto.entry accept → IsAutoOf auto t
auto_built auto t one accept is small b = record {
  accept = accept;
  accepts = b.longer.same accept small ∙ is;
  means = λ text. b.made auto.nodes.items text (λ k above below. refl);
}

match_some : (t : Tree) (text : List ℕ) (found : Option (ℕ × ℕ)) → IsFirstMatch t text 0 found → IsMatch t text (is_some found)
match_some t text None f = λ i j h. f i j (omega arith) h
match_some t text (Some p) f = (p.0, p.1, f.matches)

pub match_is : (t : Tree) (text : List ℕ) (found : Option (ℕ × ℕ)) (b : Bool) → b ≡ is_some found → IsFirstMatch t text 0 found → IsMatch t text b
match_is t text found b e f = subst (IsMatch t text) (sym e) (match_some t text found f)
