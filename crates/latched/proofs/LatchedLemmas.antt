-- Lists that remember a failed allocation: what is added, one after the other and in loops.
use Rattle.std.proofs.Common.{◌≡◌, false, List, [], ◌∷◌, ◌++◌, map, Result, Ok, Err, refl, ap, sym, subst, ◌∙◌, append_assoc, append-nil}
use Rattle.std.proofs.lemmas.List.{map-append}
use Rattle.std.specs.Prelude.{IfOk, IsOkAnd}
use Rattle.std.specs.Global.{Vec}
use Rattle.std.specs.declared.alloc.AllocError.{AllocError}
use Rattle.latched.specs.Latched.{Adds, Leads}
use Rattle.latched.specs.declared.latched_vec.LatchedVec.{LatchedVec}

-- what `push_made` says
abbrev pub Takes : {T : Type 0} → LatchedVec T → LatchedVec T → Result T AllocError → Type 0
Takes old new item = new.out_of_memory ≡ false → (old.out_of_memory ≡ false) × IsOkAnd item (λ x. new.items.items ≡ old.items.items ++ x ∷ [])

-- what `into_vec` says
abbrev pub IsAllOf : {T : Type 0} → LatchedVec T → Result (Vec T) AllocError → Type 0
IsAllOf list r = IfOk r (λ all. (list.out_of_memory ≡ false) × (all.items ≡ list.items.items))

pub both_said : {T : Type 0} (P Q : T → Type 0) (item : Result T AllocError) → IsOkAnd item P → IfOk item Q → (x : T) × P x × Q x
both_said P Q (Ok x) p q = (x, p, q)
both_said P Q (Err e) p q = absurd p

module _ {T F : Type 0} (view : T → F) where
  pub adds_none : (a : LatchedVec T) → Adds view a a []
  adds_none a = record { adds = λ h. (h, sym (append-nil (map view a.items.items))) }

  pub adds_as : {a b : LatchedVec T} (xs ys : List F) → xs ≡ ys → Adds view a b xs → Adds view a b ys
  adds_as {a} {b} xs ys e f = subst (Adds view a b) e f

  pub adds_both : {a b c : LatchedVec T} {xs ys : List F} → Adds view a b xs → Adds view b c ys → Adds view a c (xs ++ ys)
  adds_both {a} {b} {c} {xs} {ys} f g = record {
    adds = λ h. let q = g.adds h in let p = f.adds q.0 in (p.0, q.1 ∙ ap (λ (u : List F). u ++ ys) p.1 ∙ append_assoc (map view a.items.items) xs ys);
  }

  -- by an item that was made, as what it stands for
  pub adds_one : {a b : LatchedVec T} (item : Result T AllocError) (form : F) → Takes a b item → IfOk item (λ x. view x ≡ form) → Adds view a b (form ∷ [])
  adds_one {a} {b} item form took is = record {
    adds = λ h.
        let p = took h in
        let x = both_said (λ x. b.items.items ≡ a.items.items ++ x ∷ []) (λ x. view x ≡ form) item p.1 is in
        (p.0, ap (λ (ts : List T). map view ts) x.1 ∙ map-append view a.items.items (x.0 ∷ []) ∙ ap (λ (f : F). map view a.items.items ++ (f ∷ [])) x.2);
  }

  -- what was added in a loop, and the rest, are all of it
  pub record Adding (old now : LatchedVec T) (rest all : List F) : Type 0 where
    pub adding : now.out_of_memory ≡ false → (old.out_of_memory ≡ false) × (map view now.items.items ++ rest ≡ map view old.items.items ++ all)

  pub adding_first : (a : LatchedVec T) (xs : List F) → Adding a a xs xs
  adding_first a xs = record { adding = λ h. (h, refl) }

  pub adding_next : {a b c : LatchedVec T} {xs ys all : List F} (rest : List F) → rest ≡ xs ++ ys → Adding a b rest all → Adds view b c xs → Adding a c ys all
  adding_next {a} {b} {c} {xs} {ys} {all} rest e f g = record {
    adding = λ h. let q = g.adds h in let p = f.adding q.0 in
        (p.0, ap (λ (u : List F). u ++ ys) q.1 ∙ append_assoc (map view b.items.items) xs ys ∙ ap (λ (u : List F). map view b.items.items ++ u) (sym e) ∙ p.1);
  }

  pub adding_all : {a b : LatchedVec T} {all : List F} (rest : List F) → rest ≡ [] → Adding a b rest all → Adds view a b all
  adding_all {a} {b} {all} rest e f = record {
    adds = λ h. let p = f.adding h in (p.0, sym (append-nil (map view b.items.items)) ∙ ap (λ (u : List F). map view b.items.items ++ u) (sym e) ∙ p.1);
  }

  -- the same of a list that begins with none
  pub leads_first : (a : LatchedVec T) (xs : List F) → map view a.items.items ≡ [] → Leads view a xs xs
  leads_first a xs e = record { leads = λ h. ap (λ (u : List F). u ++ xs) e }

  pub leads_next : {b c : LatchedVec T} {xs ys all : List F} (rest : List F) → rest ≡ xs ++ ys → Leads view b rest all → Adds view b c xs → Leads view c ys all
  leads_next {b} {c} {xs} {ys} {all} rest e f g = record {
    leads = λ h. let q = g.adds h in
        ap (λ (u : List F). u ++ ys) q.1 ∙ append_assoc (map view b.items.items) xs ys ∙ ap (λ (u : List F). map view b.items.items ++ u) (sym e) ∙ f.leads q.0;
  }

  pub leads_all : {b : LatchedVec T} {all : List F} (rest : List F) (r : Result (Vec T) AllocError) → rest ≡ [] → Leads view b rest all → IsAllOf b r → IfOk r (λ v. map view v.items ≡ all)
  leads_all {b} {all} rest (Ok v) e f h =
      ap (λ (ts : List T). map view ts) h.1 ∙ sym (append-nil (map view b.items.items)) ∙ ap (λ (u : List F). map view b.items.items ++ u) (sym e) ∙ f.leads h.0
  leads_all rest (Err x) e f h = tt
