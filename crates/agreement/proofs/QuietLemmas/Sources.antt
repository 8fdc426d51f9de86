-- What is read without a handle, wherever a run is: whatever the words are, they are pushed, joined and compared.
use Rattle.std.proofs.Common.{ℕ, Bool, List, [], ◌∷◌, ℤ}
use Rattle.wasm_types.specs.Syntax.{Instructions}
use Rattle.wasm_store.specs.declared.word.Word.{Word}
use Rattle.wasm_model.specs.Frames.{LabelForm}
use Rattle.wasm_model.specs.Machines.{Conf, ProgramForm}
use Rattle.lower_model.specs.Emission.{Layout, name_read, source_pushed}
use Rattle.lower_model.specs.Quick.{Constant, Holder, OfName, OfParameter, Held, Source, all_unsure, joined}
use Rattle.lower_model.specs.Small.{emit}
use Rattle.agreement.proofs.QuietLemmas.Flowing.{Flows, binary, compare, const32, const64, get, get_global}

module _ {m : ProgramForm} {P : Conf → Type 0} {bs : List Bool} {base : Conf} (y : Layout) where
  -- a holder's number is read
  read_flows : {K : List LabelForm} {gs L vs : List Word} {k : Instructions} (x : Holder) → ((v : Word) → Flows m P bs base K gs L (v ∷ vs) k) → Flows m P bs base K gs L vs (emit (name_read y x) k)
  read_flows (OfName i) h = get_global (λ v e. h v)
  read_flows (OfParameter i) h = get (λ v e. h v)

  joined_flows : {K : List LabelForm} {gs L : List Word} {k : Instructions} (is : List Holder) (q : ℤ) (w : Word) → ((v : Word) → Flows m P bs base K gs L (v ∷ []) k) →
      Flows m P bs base K gs L (w ∷ []) (joined (name_read y) is q k)
  joined_flows [] q w h = h w
  joined_flows (i ∷ is) q w h = read_flows i (λ v. const64 (binary (λ u. binary (λ x. joined_flows is q x h))))

  pub all_flows : {K : List LabelForm} {gs L : List Word} {k : Instructions} (is : List Holder) (q : ℤ) (n : ℕ) → ((v : Word) → Flows m P bs base K gs L (v ∷ []) k) →
      Flows m P bs base K gs L [] (all_unsure (name_read y) is q n k)
  all_flows [] q n h = const32 (h _)
  all_flows (i ∷ is) q n h = read_flows i (λ v. const64 (binary (λ u. joined_flows is q u (λ x. const64 (compare (λ z r. h z))))))

  pub source_flows : {K : List LabelForm} {gs L vs : List Word} {k : Instructions} (x : Source) → ((v : Word) → Flows m P bs base K gs L (v ∷ vs) k) → Flows m P bs base K gs L vs (source_pushed y x k)
  source_flows (Held i) h = read_flows i h
  source_flows (Constant z) h = const64 (h _)
