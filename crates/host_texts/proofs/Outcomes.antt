-- What the rows of the table come to, from what automata and texts give.
use Rattle.std.proofs.Common.{◌≡◌, ℕ, Bool, true, false, List, Option, Some, Result, Ok, Err, length, refl, sym, ap, subst, ◌∙◌}
use Rattle.awk_values.specs.Values.{text_of_value}
use Rattle.awk_values.specs.declared.fault.Fault.{Fault}
use Rattle.awk_values.specs.declared.fault.Stop.{Stop}
use Rattle.awk_values.specs.declared.fault.Stop.TheVariants as stops
use Rattle.awk_values.specs.declared.value.Value.{Value}
use Rattle.awk_values.specs.declared.value.Value.TheVariants.{Text}
use Rattle.ere_syntax.specs.Tree.{Tree}
use Rattle.ere_syntax.specs.FirstMatch.{IsMatch}
use Rattle.sem_primitives.specs.FirstMatch.{first_match, has_match}
use Rattle.sem_primitives.specs.Eres.{expression_of}
use Rattle.sem_primitives.proofs.Firsts.{has_match_is}
use Rattle.sem_primitives.specs.Numbers.{Number}
use Rattle.sem_primitives.specs.SharedState.{Inner, ◌>>=◌}
use Rattle.sem_primitives.specs.TextMeaning.{match_row, match_start, places_of, replaced, substitute_row, with_match}
use Rattle.sem_primitives.specs.Rows.{matches_row}
use Rattle.sem_primitives.specs.Texts.{counted, limited}
use Rattle.host_bytes.specs.Outcomes.{IsStopOf}
use Rattle.sem_primitives.specs.FieldMeaning.{done}
use Rattle.host_step.specs.HostState.{HostState}
use Rattle.host_texts.specs.Evaluations.{settled}
use Rattle.host_texts.specs.States.{holding}
use Rattle.host_values.specs.declared.reply.Reply.{Reply}
use Rattle.host_texts.specs.declared.texts.Texts.{Texts}
use Rattle.host_format.specs.Substitutions.{substitution}

one_answer : (t : Tree) (text : List ℕ) (a b : Bool) → IsMatch t text a → IsMatch t text b → a ≡ b
one_answer t text true true f g = refl
one_answer t text false false f g = refl
one_answer t text true false (i, j, m) g = absurd (g i j m)
one_answer t text false true f (i, j, m) = absurd (f i j m)

pub matches_row_is : (v ere : Value) (t : Tree) (text : List ℕ) (found : Bool) → expression_of (text_of_value ere) ≡ Ok t → text ≡ text_of_value v
    → IsMatch t text found → matches_row v ere ≡ Ok found
matches_row_is v ere t text found is same f =
    ap (λ r. r >>= λ u. Ok (has_match u (text_of_value v))) is
    ∙ ap (λ x. Ok (has_match t x)) (sym same) ∙ ap (λ b. Ok b) (one_answer t text (has_match t text) found (has_match_is t text) f)

pub match_row_is : (v ere : Value) (inner : Inner) (t : Tree) (text : List ℕ) (found : Option (ℕ × ℕ)) → expression_of (text_of_value ere) ≡ Ok t
    → text ≡ text_of_value v → found ≡ first_match t text 0 → match_row v ere inner ≡ Ok (with_match found inner, counted (match_start found))
match_row_is v ere inner t text found is same f =
    ap (λ r. r >>= λ u. Ok (with_match (first_match u (text_of_value v) 0) inner, counted (match_start (first_match u (text_of_value v) 0)))) is
    ∙ ap (λ p. Ok (with_match p inner, counted (match_start p))) (ap (λ x. first_match t x 0) (sym same) ∙ sym f)

-- Substitution.

abbrev Made : Type 0
Made = Result (Inner × Number) Fault

same_made : (x y : ℕ × List ℕ) → ◌≡◌ {A = Result (ℕ × List ℕ) Fault} (Ok x) (Ok y) → x ≡ y
same_made x y e = cc

abbrev paired : ℕ → List ℕ → Result (ℕ × List ℕ) Fault
paired k x = Ok (k, x)

kept_by : (o : Result (List ℕ) Fault) (k n : ℕ) (new : List ℕ) (inner : Inner) → (o >>= paired k) ≡ Ok (n, new)
    → ◌≡◌ {A = Made} (o >>= λ x. Ok (record inner { substituted = Some (Text x) }, counted k)) (Ok (record inner { substituted = Some (Text new) }, counted n))
kept_by (Ok x) k n new inner e = ap (λ (p : ℕ × List ℕ). Ok (record inner { substituted = Some (Text p.1) }, counted p.0)) (same_made (k, x) (n, new) e)
kept_by (Err f) k n new inner e = cc

stops_by : (o : Result (List ℕ) Fault) (k : ℕ) (stop : Stop) (inner : Inner) → IsStopOf (o >>= paired k) stop
    → IsStopOf {A = Inner × Number} (o >>= λ x. Ok (record inner { substituted = Some (Text x) }, counted k)) stop
stops_by (Ok x) k (stops.Fault f) inner e = cc
stops_by (Err g) k (stops.Fault f) inner e = let same : g ≡ f = cc in ap (λ h. Err h) same
stops_by o k stops.NoMemory inner e = tt

module _ (ere by target : Value) (all : Bool) (t : Tree) (by_text text : List ℕ) where
  abbrev in_text : (inner : Inner) → List ℕ → List ℕ → Made
  in_text inner b x = limited (replaced x b 0 (places_of t x all)) >>= λ new. Ok (record inner { substituted = Some (Text new) }, counted (length (places_of t x all)))

  row_in : (inner : Inner) → expression_of (text_of_value ere) ≡ Ok t → by_text ≡ text_of_value by → text ≡ text_of_value target
      → substitute_row ere by target all inner ≡ in_text inner by_text text
  row_in inner is same_by same =
      ap (λ r. r >>= λ u. limited (replaced (text_of_value target) (text_of_value by) 0 (places_of u (text_of_value target) all))
      >>= λ new. Ok (record inner { substituted = Some (Text new) }, counted (length (places_of u (text_of_value target) all)))) is
      ∙ ap (λ b. in_text inner b (text_of_value target)) (sym same_by) ∙ ap (in_text inner by_text) (sym same)

  pub sub_is : (n : ℕ) (new : List ℕ) (inner : Inner) → expression_of (text_of_value ere) ≡ Ok t → by_text ≡ text_of_value by → text ≡ text_of_value target
      → substitution t by_text text all ≡ Ok (n, new) → substitute_row ere by target all inner ≡ Ok (record inner { substituted = Some (Text new) }, counted n)
  sub_is n new inner is same_by same e =
      row_in inner is same_by same ∙ kept_by (limited (replaced text by_text 0 (places_of t text all))) (length (places_of t text all)) n new inner e

  pub sub_stops : (stop : Stop) (inner : Inner) → expression_of (text_of_value ere) ≡ Ok t → by_text ≡ text_of_value by → text ≡ text_of_value target
      → IsStopOf (substitution t by_text text all) stop → IsStopOf (substitute_row ere by target all inner) stop
  sub_stops stop inner is same_by same e =
      subst (λ (r : Made). IsStopOf r stop) (sym (row_in inner is same_by same)) (stops_by (limited (replaced text by_text 0 (places_of t text all))) (length (places_of t text all)) stop inner e)

-- A fault changes nothing.

pub refused_outcome : {A : Type 0} (t u : Texts) (s : HostState) (f : A → Reply) (r : Result (Inner × A) Fault) (stop : Stop) (fault : Fault) → IsStopOf r stop
    → stop ≡ stops.Fault fault → u ≡ t → settled (holding t s) f r ≡ (holding u s, Err fault)
refused_outcome {A} t u s f r stop fault is same kept =
    let fails : r ≡ Err fault = subst (IsStopOf r) same is in
    ap (settled (holding t s) f) fails ∙ ap (λ x. (holding x s, Err fault)) (sym kept)

pub done_stop : (r : Result Inner Fault) (stop : Stop) → IsStopOf r stop → IsStopOf (done r) stop
done_stop r (stops.Fault fault) is = ap done is
done_stop r stops.NoMemory is = tt
