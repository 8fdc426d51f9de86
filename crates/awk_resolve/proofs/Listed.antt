-- Items with names, one after the other.
use Rattle.std.proofs.Common.{◌≡◌, ℕ, false, List, [], ◌∷◌, ◌++◌, map, Result, Ok, Err, refl, ap, sym, subst, ◌∙◌, append_assoc, append-nil}
use Rattle.std.proofs.lemmas.List.{map-append, length-map}
use Rattle.std.specs.Result.{IfOk, IsOkAnd}
use Rattle.std.specs.Borrow.{Bor}
use Rattle.std.specs.Global.{Vec}
use Rattle.std.specs.declared.alloc.AllocError.{AllocError}
use Rattle.std.specs.HashMap.{HashMap}
use Rattle.awk_resolve.specs.Placed.{Puts}
use Rattle.awk_resolve.specs.Places.{place_of, ArePlaces}
use Rattle.awk_resolve.specs.declared.placed.Placed.{Placed}

taken : {T : Type 0} (P Q : T → Type 0) (item : Result T AllocError) → IsOkAnd item P → IfOk item Q → (x : T) × P x × Q x
taken P Q (Ok x) p q = (x, p, q)
taken P Q (Err e) p q = absurd p

module _ {T F : Type 0} (view : T → F) (name : F → List ℕ) where
  -- what is in it, with the rest after it, is the whole, and it has the places of the names, unless memory was wanting
  pub record Lists (out : Placed T) (rest whole : List F) : Type 0 where
    pub lists : out.is_refused ≡ false → (map view out.items.items ++ rest ≡ whole) × ArePlaces out.places.entries (place_of (map name (map view out.items.items)))

  pub lists_first : (out : Placed T) (whole : List F) → out.items.items ≡ [] → out.places.entries ≡ [] → Lists out whole whole
  lists_first out whole e f = record {
    lists = λ fine. (ap (λ (ts : List T). map view ts ++ whole) e, λ x. rw (e, f) refl);
  }

  pub lists_next : {before after : Placed T} (n : List ℕ) (item : Result T AllocError) (form : F) (rest : List F) {whole : List F} → Puts before after n item → IfOk item (λ x. view x ≡ form) → name form ≡ n → Lists before (form ∷ rest) whole → Lists after rest whole
  lists_next {before} {after} n item form rest {whole} put is same h = record {
    lists = λ fine.
        let t = put.puts fine in
        let p = taken (λ x. after.items.items ≡ before.items.items ++ x ∷ []) (λ x. view x ≡ form) item t.items is in
        let b = h.lists t.whole in
        let fs = map view before.items.items in
        let items : map view after.items.items ≡ fs ++ form ∷ [] = ap (map view) p.1 ∙ map-append view before.items.items (p.0 ∷ []) ∙ ap (λ (f : F). fs ++ f ∷ []) p.2 in
        let names : map name (map view after.items.items) ≡ map name fs ++ n ∷ [] = ap (map name) items ∙ map-append name fs (form ∷ []) ∙ ap (λ (u : List ℕ). map name fs ++ u ∷ []) same in (
          ap (λ (gs : List F). gs ++ rest) items ∙ append_assoc fs (form ∷ []) rest ∙ b.0,
          subst (λ (ns : List (List ℕ)). ArePlaces after.places.entries (place_of ns)) (sym names) (t.places (map name fs) (length-map fs name ∙ length-map before.items.items view) b.1),
        );
  }

  pub listed_items : (out : Placed T) (items : List T) (whole : List F) → out.is_refused ≡ false → items ≡ out.items.items → Lists out [] whole → map view items ≡ whole
  listed_items out items whole fine is h = ap (map view) is ∙ sym (append-nil (map view out.items.items)) ∙ (h.lists fine).0

  pub listed_places : (out : Placed T) (items : List T) (es : List (Bor (List ℕ) × ℕ)) {whole : List F} → out.is_refused ≡ false → items ≡ out.items.items → es ≡ out.places.entries → Lists out [] whole → ArePlaces es (place_of (map name (map view items)))
  listed_places out items es fine is same h = rw (is, same) ((h.lists fine).1)

pub all_listed : {T F S : Type 0} (view : T → F) (name : F → List ℕ) (out : Placed T) (r : Result (Vec T × HashMap (Bor (List ℕ)) ℕ S) AllocError) (whole : List F)
    → IfOk r (λ all. (out.is_refused ≡ false) × ((all.0.items ≡ out.items.items) × (all.1.entries ≡ out.places.entries))) → Lists view name out [] whole → IfOk r (λ all. map view all.0.items ≡ whole)
all_listed view name out (Ok all) whole is h = listed_items view name out all.0.items whole is.0 (is.1).0 h
all_listed view name out (Err e) whole is h = tt

pub all_placed : {T F S : Type 0} (view : T → F) (name : F → List ℕ) (out : Placed T) (r : Result (Vec T × HashMap (Bor (List ℕ)) ℕ S) AllocError) (whole : List F)
    → IfOk r (λ all. (out.is_refused ≡ false) × ((all.0.items ≡ out.items.items) × (all.1.entries ≡ out.places.entries))) → Lists view name out [] whole → IfOk r (λ all. ArePlaces all.1.entries (place_of (map name (map view all.0.items))))
all_placed view name out (Ok all) whole is h = listed_places view name out all.0.items all.1.entries is.0 (is.1).0 (is.1).1 h
all_placed view name out (Err e) whole is h = tt
