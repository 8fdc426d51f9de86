-- What the finite map of a list of slots answers, and what a write of one slot does to it.
use Rattle.std.proofs.Common.{◌≡◌, ◌≢◌, ℕ, zero, suc, ℤ, pos, negsuc, ◌+◌, ◌<◌, ◌<ℤ◌, List, [], ◌∷◌, ◌++◌, length, count_by, get_or, Option, Some, None, is_some, cond, Bool, true, false, refl, sym, ap, ◌∙◌, arith, rules, inl, inr, add-zero, true≢false, length-append}
use Rattle.std.proofs.lemmas.List.{append_assoc, append-nil, get_or_append_left, get_or_past, get_or_push}
use Rattle.std.proofs.lemmas.List.Sums.{sum_by-cons}
use Rattle.std.proofs.lemmas.Bool.{cases_lt}
use Rattle.std.specs.declared.cmp.Ordering.TheVariants.{Less, Greater}
use Rattle.std.specs.Ordering.{int_cmp, int_eq}
use Rattle.std.specs.Cmp.{int_cmp_is, int_cmp_total, tied_itself, signed_Decides}
use Rattle.std.specs.FinMap as map
use Rattle.std.specs.FinMap.{find, int_cmp-IsAntisymmetric}
use Rattle.slab.specs.Slab.{Slab, Updates}
use Rattle.host_handles.specs.Tables.{entries_from, table, Writes}

module _ {V : Type 0} where
  -- no number below the first is found
  found_before : (at key : ℕ) (slots : List (Option V)) → at < key → find int_cmp (pos at) (entries_from key slots) ≡ None
  found_before at key [] below = refl
  found_before at key (None ∷ rest) below = found_before at (key + 1) rest (omega arith)
  found_before at key (Some v ∷ rest) below =
      let lower : pos at <ℤ pos key = grind (arith) in
      rw (← int_cmp_is (pos at) (pos key) Less lower) (found_before at (key + 1) rest (omega arith))

  found_negative : (n key : ℕ) (slots : List (Option V)) → find int_cmp (negsuc n) (entries_from key slots) ≡ None
  found_negative n key [] = refl
  found_negative n key (None ∷ rest) = found_negative n (key + 1) rest
  found_negative n key (Some v ∷ rest) = found_negative n (key + 1) rest

  found_at : (key : ℕ) (slots : List (Option V)) (at : ℕ) → find int_cmp (pos (key + at)) (entries_from key slots) ≡ get_or slots at None
  found_at key [] at = refl
  found_at key (None ∷ rest) zero = rw add-zero (found_before key (key + 1) rest (omega arith))
  found_at key (Some v ∷ rest) zero = rw (add-zero, tied_itself int_cmp_total (pos key)) refl
  found_at key (None ∷ rest) (suc at) =
      let shift : key + suc at ≡ key + 1 + at = omega arith in rw shift (found_at (key + 1) rest at)
  found_at key (Some v ∷ rest) (suc at) =
      let shift : key + suc at ≡ key + 1 + at = omega arith in
      let above : pos key <ℤ pos (key + suc at) = search rules in
      rw (← int_cmp_is (pos (key + suc at)) (pos key) Greater above)
      (ap (λ k. find int_cmp (pos k) (entries_from (key + 1) rest)) shift ∙ found_at (key + 1) rest at)

  pub get-table : (slots : List (Option V)) (at : ℕ) → map.get (table slots) (pos at) ≡ get_or slots at None
  get-table slots at =
      map.get-from_entries int_cmp_total _ (pos at)
      ∙ (let shift : at ≡ 0 + at = omega arith in ap (λ k. find int_cmp (pos k) (entries_from 0 slots)) shift)
      ∙ found_at 0 slots at

  get-table-negative : (slots : List (Option V)) (n : ℕ) → map.get (table slots) (negsuc n) ≡ None
  get-table-negative slots n = map.get-from_entries int_cmp_total _ (negsuc n) ∙ found_negative n 0 slots

  -- below zero there is nothing
  pub get-table-below_zero : (slots : List (Option V)) (h : ℤ) → h <ℤ pos 0 → map.get (table slots) h ≡ None
  get-table-below_zero slots (pos k) below = absurd (grind (arith))
  get-table-below_zero slots (negsuc n) below = get-table-negative slots n

  get-Writes : (key : ℕ) (slot : Option V) (old new : List (Option V)) → Writes key slot old new → (q : ℕ) → get_or new q None ≡ cond (int_eq (pos q) (pos key)) slot (get_or old q None)
  get-Writes key slot old new w q = by (int_eq (pos q) (pos key)) refl
    where
      by : (b : Bool) → int_eq (pos q) (pos key) ≡ b → get_or new q None ≡ cond b slot (get_or old q None)
      by true e = let is : pos q ≡ pos key = (signed_Decides (pos q) (pos key)).0 e in let same : q ≡ key = cc in ap (λ k. get_or new k None) same ∙ w.written
      by false e = w.others q (λ same. true≢false (sym ((signed_Decides (pos q) (pos key)).1 (ap pos same)) ∙ e))

  -- a value written to a slot is inserted under its place
  pub table-insert : (key : ℕ) (v : V) (old new : List (Option V)) → Writes key (Some v) old new → table new ≡ map.insert (table old) (pos key) v
  table-insert key v old new w = map.same_map int_cmp_total int_cmp-IsAntisymmetric _ _ at
    where
      at : (q : ℤ) → map.get (table new) q ≡ map.get (map.insert (table old) (pos key) v) q
      at (pos q) = get-table new q ∙ get-Writes key (Some v) old new w q
          ∙ sym (map.get-insert int_cmp_total (table old) (pos key) v (pos q) ∙ ap (cond (int_eq (pos q) (pos key)) (Some v)) (get-table old q))
      at (negsuc n) = get-table-negative new n
          ∙ sym (map.get-insert int_cmp_total (table old) (pos key) v (negsuc n) ∙ get-table-negative old n)

  -- a slot emptied is a number removed
  pub table-remove : (key : ℕ) (old new : List (Option V)) → Writes key None old new → table new ≡ map.remove (table old) (pos key)
  table-remove key old new w = map.same_map int_cmp_total int_cmp-IsAntisymmetric _ _ at
    where
      at : (q : ℤ) → map.get (table new) q ≡ map.get (map.remove (table old) (pos key)) q
      at (pos q) = get-table new q ∙ get-Writes key None old new w q
          ∙ sym (map.get-remove int_cmp_total (table old) (pos key) (pos q) ∙ ap (cond (int_eq (pos q) (pos key)) None) (get-table old q))
      at (negsuc n) = get-table-negative new n
          ∙ sym (map.get-remove int_cmp_total (table old) (pos key) (negsuc n) ∙ get-table-negative old n)

  same_cond : (b : Bool) → ◌≡◌ {A = Option V} (cond b None None) None
  same_cond true = refl
  same_cond false = refl

  remove_absent : (slots : List (Option V)) (h q : ℤ) → map.get (table slots) h ≡ None → map.get (table slots) q ≡ map.get (map.remove (table slots) h) q
  remove_absent slots h q none = by (int_eq q h) refl
    where
      by : (b : Bool) → int_eq q h ≡ b → map.get (table slots) q ≡ map.get (map.remove (table slots) h) q
      by true e = ap (map.get (table slots)) ((signed_Decides q h).0 e) ∙ none ∙ sym (map.get-remove int_cmp_total (table slots) h q ∙ ap (λ b. cond b None (map.get (table slots) q)) e)
      by false e = sym (map.get-remove int_cmp_total (table slots) h q ∙ ap (λ b. cond b None (map.get (table slots) q)) e)

  -- a number below zero is not there to be removed
  pub table-remove-below_zero : (slots : List (Option V)) (h : ℤ) → h <ℤ pos 0 → table slots ≡ map.remove (table slots) h
  table-remove-below_zero slots h below =
      map.same_map int_cmp_total int_cmp-IsAntisymmetric _ _ (λ q. remove_absent slots h q (get-table-below_zero slots h below))

  -- a slot put at the end
  Writes-push : (key : ℕ) (slot : Option V) (slots : List (Option V)) → length slots ≡ key → Writes key slot slots (slots ++ slot ∷ [])
  Writes-push key slot slots end = record {
    written = get_or_push slots slot None key end;
    others = λ k other. elim (cases_lt k (length slots)) [
      | inl low ↦ get_or_append_left slots (slot ∷ []) None k low
      | inr high ↦ get_or_past (slots ++ slot ∷ []) k None (let apart : k ≢ length slots = λ same. other (same ∙ end) in omega (arith, length-append slots (slot ∷ []))) ∙ sym (get_or_past slots k None high)
    ];
  }

  -- a value put at the end, under the number of slots that there were
  get-table-end : (slots : List (Option V)) (key : ℕ) → length slots ≡ key → map.get (table slots) (pos key) ≡ None
  get-table-end slots key end = get-table slots key ∙ get_or_past slots key None (omega (arith, end))

  table-push : (slots : List (Option V)) (key : ℕ) (v : V) → length slots ≡ key → table (slots ++ Some v ∷ []) ≡ map.insert (table slots) (pos key) v
  table-push slots key v end = table-insert key v slots (slots ++ Some v ∷ []) (Writes-push key (Some v) slots end)

  len-table-push : (slots : List (Option V)) (v : V) → map.len (table (slots ++ Some v ∷ [])) ≡ map.len (table slots) + 1
  len-table-push slots v =
      ap (λ (t : map.FinMap int_cmp V). map.len t) (table-push slots (length slots) v refl)
      ∙ map.len-insert int_cmp_total (table slots) (pos (length slots)) v
      ∙ ap (λ o. cond (is_some o) (map.len (table slots)) (map.len (table slots) + 1)) (get-table-end slots (length slots) refl)

  -- what a slab's contracts say of a changed key
  pub writes_slot : (old new : Slab V) (key : ℕ) (slot : Option V) → Updates old new key slot → Writes key slot old.slots new.slots
  writes_slot old new key slot u = record { written = u.changed; others = u.others }

  entries-hole : (key : ℕ) (slots : List (Option V)) → entries_from key (slots ++ None ∷ []) ≡ entries_from key slots
  entries-hole key [] = refl
  entries-hole key (None ∷ rest) = entries-hole (key + 1) rest
  entries-hole key (Some v ∷ rest) = ap (λ more. (pos key, v) ∷ more) (entries-hole (key + 1) rest)

  counted : (front rest : List (Option V)) → map.len (table (front ++ rest)) ≡ map.len (table front) + count_by is_some rest
  counted front [] = let same = ap (λ slots. map.len (table slots)) (append-nil front) in omega (arith, same)
  counted front (None ∷ rest) =
      let one : map.len (table (front ++ None ∷ rest)) ≡ map.len (table (front ++ None ∷ [])) + count_by is_some rest
      = ap (λ slots. map.len (table slots)) (sym (append_assoc front (None ∷ []) rest)) ∙ counted (front ++ None ∷ []) rest in
      let hole : map.len (table (front ++ None ∷ [])) ≡ map.len (table front) = ap (λ es. map.len (map.from_entries {R = int_cmp} es)) (entries-hole 0 front) in
      omega (arith, one, hole, sum_by-cons (λ o. cond (is_some o) 1 0) None rest)
  counted front (Some v ∷ rest) =
      let one : map.len (table (front ++ Some v ∷ rest)) ≡ map.len (table (front ++ Some v ∷ [])) + count_by is_some rest
      = ap (λ slots. map.len (table slots)) (sym (append_assoc front (Some v ∷ []) rest)) ∙ counted (front ++ Some v ∷ []) rest in
      omega (arith, one, len-table-push front v, sum_by-cons (λ o. cond (is_some o) 1 0) (Some v) rest)

  -- as many values as slots that are taken
  pub len-table-count : (slots : List (Option V)) → map.len (table slots) ≡ count_by is_some slots
  len-table-count slots =
      let none : map.len (table {V = V} []) ≡ 0 = map.len-empty int_cmp V in
      omega (arith, counted [] slots, none)
