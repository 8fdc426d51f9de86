use Rattle.std.proofs.Common.{◌≡◌, ◌++◌, ◌-◌, ◌∙◌, ℕ, List, Bool, Option, None, Some, true, false, ap, length, refl, sym}
use Rattle.std.specs.Prelude.{◌&&◌, not, if◌then◌else◌, is_none, is_some, replicate}
use Rattle.sem_primitives.specs.Formats.{Conversion, blanks, filled, has_flag, is_zero_filled, number_text, padded, zero_filled}
use Rattle.host_bytes.specs.Conversions.{body_text, conversion_is, parts_text}
use Rattle.host_bytes.proofs.Grown.{grows_both, grows_same}
use Rattle.host_bytes.proofs.padding.put_number.Goals as goal
use Rattle.host_bytes.proofs.padding.put_number.Goals.{then-is_none, else-is_none, then-has, else-has, then-is_filled, else-is_filled}

padded_left : (d : Conversion) (text : List ℕ) (gap : ℕ) → has_flag 45 d ≡ true → gap ≡ d.width - length text → text ++ replicate gap 32 ≡ padded d text
padded_left d text gap left e =
    ap (λ n. text ++ replicate n 32) e ∙ sym (ap (λ b. if b then text ++ blanks (d.width - length text) else blanks (d.width - length text) ++ text) left)

padded_right : (d : Conversion) (text : List ℕ) (gap : ℕ) → has_flag 45 d ≡ false → gap ≡ d.width - length text → replicate gap 32 ++ text ≡ padded d text
padded_right d text gap right e =
    ap (λ n. replicate n 32 ++ text) e ∙ sym (ap (λ b. if b then text ++ blanks (d.width - length text) else blanks (d.width - length text) ++ text) right)

none_is : (some none : Bool) → some ≡ not none → none ≡ not some
none_is some true e = sym (ap not e)
none_is some false e = sym (ap not e)

both : (v b m : Bool) → (v ≡ true → b ≡ m) → (v ≡ false → b ≡ false) → b ≡ (v && m)
both true b m first second = first refl
both false b m first second = second refl

filled_is : (d : Conversion) (precision : Option ℕ) → ((is_none precision && has_flag 48 d) && not (has_flag 45 d)) ≡ is_zero_filled d precision
filled_is d None = refl
filled_is d (Some n) = refl

-- the text of the parts, by whether they were filled
text_by : (d : Conversion) (precision : Option ℕ) (front body now : List ℕ) (value fills : Bool) → value ≡ (is_none precision && has_flag 48 d) → fills ≡ (value && not (has_flag 45 d))
    → (fills ≡ true → now ≡ front ++ filled (d.width - length front) body) → (fills ≡ false → now ≡ front ++ body) → now ≡ zero_filled (is_zero_filled d precision) d front body
text_by d precision front body now value fills e f first second =
    by fills (f ∙ (ap (λ b. b && not (has_flag 45 d)) e ∙ filled_is d precision)) first second
  where
    by : (b : Bool) → b ≡ is_zero_filled d precision → (b ≡ true → now ≡ front ++ filled (d.width - length front) body) → (b ≡ false → now ≡ front ++ body) → now ≡ zero_filled (is_zero_filled d precision) d front body
    by true is first second = first refl ∙ ap (λ b. zero_filled b d front body) is
    by false is first second = second refl ∙ ap (λ b. zero_filled b d front body) is

pub returns-then-has-2 : goal.returns-then-has-2
returns-then-has-2 c =
    let d = conversion_is c.args.conversion in
    let front = c.args.parts.front.now in
    let body = body_text c.args.parts in
    let precision = c.args.precision in
    let none = none_is (is_some precision) c.is_none.result c.is_none.ensures in
    let value = both c.is_none.result c.if-is_none.value (has_flag 48 d)
    (λ e. elim c.if-is_none.branch [ then-is_none w ↦ w.value-is ∙ w.has.ensures | else-is_none w ↦ absurd (cc (sym e ∙ w.if-is_none.false)) ])
    (λ e. elim c.if-is_none.branch [ then-is_none w ↦ absurd (cc (sym e ∙ w.if-is_none.true)) | else-is_none w ↦ w.value-is ∙ w.if-is_none.false ]) in
    let fills = both c.if-is_none.value c.if-has.is_filled (not (has_flag 45 d))
    (λ e. elim c.if-has.branch [ then-has w ↦ w.is_filled-is ∙ ap not w.has-then-has.ensures | else-has w ↦ absurd (cc (sym e ∙ w.if-has.false)) ])
    (λ e. elim c.if-has.branch [ then-has w ↦ absurd (cc (sym e ∙ w.if-has.true)) | else-has w ↦ w.is_filled-is ∙ w.if-has.false ]) in
    let text = text_by d precision front body (parts_text c.if-is_filled.parts) c.if-is_none.value c.if-has.is_filled (value ∙ ap (λ b. b && has_flag 48 d) none) fills
    (λ e. elim c.if-is_filled.branch [
      | then-is_filled w ↦ ap parts_text w.parts-is ∙ (ap (λ xs. xs ++ body_text w.filled-parts.result) w.filled-parts.ensures.front ∙ ap (λ xs. front ++ xs) w.filled-parts.ensures.body)
      | else-is_filled w ↦ absurd (cc (sym e ∙ w.if-is_filled.false))
    ])
    (λ e. elim c.if-is_filled.branch [ then-is_filled w ↦ absurd (cc (sym e ∙ w.if-is_filled.true)) | else-is_filled w ↦ ap parts_text w.parts-is ]) in
    grows_same c.args.out.now c.fill.new.self (parts_text c.if-is_filled.parts ++ replicate c.gap-gap.result 32) (number_text d precision front body)
    (padded_left d (parts_text c.if-is_filled.parts) c.gap-gap.result (sym c.has-2.ensures ∙ c.if-has-2.true) c.gap-gap.ensures ∙ ap (padded d) text)
    (grows_both c.args.out.now c.put_parts.new.out c.fill.new.self (parts_text c.if-is_filled.parts) (replicate c.gap-gap.result 32) c.put_parts.ensures c.fill.ensures)

pub returns-else-has-2 : goal.returns-else-has-2
returns-else-has-2 c =
    let d = conversion_is c.args.conversion in
    let front = c.args.parts.front.now in
    let body = body_text c.args.parts in
    let precision = c.args.precision in
    let none = none_is (is_some precision) c.is_none.result c.is_none.ensures in
    let value = both c.is_none.result c.if-is_none.value (has_flag 48 d)
    (λ e. elim c.if-is_none.branch [ then-is_none w ↦ w.value-is ∙ w.has.ensures | else-is_none w ↦ absurd (cc (sym e ∙ w.if-is_none.false)) ])
    (λ e. elim c.if-is_none.branch [ then-is_none w ↦ absurd (cc (sym e ∙ w.if-is_none.true)) | else-is_none w ↦ w.value-is ∙ w.if-is_none.false ]) in
    let fills = both c.if-is_none.value c.if-has.is_filled (not (has_flag 45 d))
    (λ e. elim c.if-has.branch [ then-has w ↦ w.is_filled-is ∙ ap not w.has-then-has.ensures | else-has w ↦ absurd (cc (sym e ∙ w.if-has.false)) ])
    (λ e. elim c.if-has.branch [ then-has w ↦ absurd (cc (sym e ∙ w.if-has.true)) | else-has w ↦ w.is_filled-is ∙ w.if-has.false ]) in
    let text = text_by d precision front body (parts_text c.if-is_filled.parts) c.if-is_none.value c.if-has.is_filled (value ∙ ap (λ b. b && has_flag 48 d) none) fills
    (λ e. elim c.if-is_filled.branch [
      | then-is_filled w ↦ ap parts_text w.parts-is ∙ (ap (λ xs. xs ++ body_text w.filled-parts.result) w.filled-parts.ensures.front ∙ ap (λ xs. front ++ xs) w.filled-parts.ensures.body)
      | else-is_filled w ↦ absurd (cc (sym e ∙ w.if-is_filled.false))
    ])
    (λ e. elim c.if-is_filled.branch [ then-is_filled w ↦ absurd (cc (sym e ∙ w.if-is_filled.true)) | else-is_filled w ↦ ap parts_text w.parts-is ]) in
    grows_same c.args.out.now c.put_parts-else-has-2.new.out (replicate c.gap-gap.result 32 ++ parts_text c.if-is_filled.parts) (number_text d precision front body)
    (padded_right d (parts_text c.if-is_filled.parts) c.gap-gap.result (sym c.has-2.ensures ∙ c.if-has-2.false) c.gap-gap.ensures ∙ ap (padded d) text)
    (grows_both c.args.out.now c.fill-else-has-2.new.self c.put_parts-else-has-2.new.out (replicate c.gap-gap.result 32) (parts_text c.if-is_filled.parts) c.fill-else-has-2.ensures c.put_parts-else-has-2.ensures)
