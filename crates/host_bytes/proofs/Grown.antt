-- Texts that grow, one addition after the other.
use Rattle.std.proofs.Common.{◌≡◌, ℕ, List, ◌++◌, Option, Some, None, Ok, sym, ap, subst, ◌∙◌, append_assoc}
use Rattle.awk_values.specs.declared.fault.Stop.{Stop}
use Rattle.host_bytes.specs.Growing.{Grows, StandsAfter}
use Rattle.host_bytes.specs.Outcomes.{IsPast}
use Rattle.host_bytes.specs.declared.growing.Growing.{Growing}
use Rattle.host_bytes.proofs.Replaced.{past_more}

both : (p q r : Option Stop) (old mid new xs ys : List ℕ) → StandsAfter p q old mid (Ok xs) → StandsAfter q r mid new (Ok ys) → StandsAfter p r old new (Ok (xs ++ ys))
both None None None old mid new xs ys g h = record {
  added = h.added ∙ (ap (λ zs. zs ++ ys) g.added ∙ append_assoc old xs ys);
  within = h.within;
}
both None None (Some s) old mid new xs ys g h = subst (λ zs. IsPast zs s) (ap (λ zs. zs ++ ys) g.added ∙ append_assoc old xs ys) h
both None (Some s) r old mid new xs ys g h = subst (λ k. StandsAfter None k old new (Ok (xs ++ ys))) (sym h) (past_more (old ++ xs) ys (old ++ (xs ++ ys)) s (append_assoc old xs ys) g)
both (Some s) q r old mid new xs ys g h = subst (λ k. StandsAfter k r mid new (Ok ys)) g h

pub grows_both : (a b c : Growing) (xs ys : List ℕ) → Grows a b (Ok xs) → Grows b c (Ok ys) → Grows a c (Ok (xs ++ ys))
grows_both a b c xs ys g h = record { stands = both a.stop b.stop c.stop a.bytes.items b.bytes.items c.bytes.items xs ys g.stands h.stands }

pub grows_same : (a b : Growing) (xs ys : List ℕ) → xs ≡ ys → Grows a b (Ok xs) → Grows a b (Ok ys)
grows_same a b xs ys e g = subst (λ zs. Grows a b (Ok zs)) e g
