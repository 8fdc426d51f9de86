-- Actions one after another.
use Rattle.std.proofs.Common.{◌≡◌, ℕ, ◌+◌, ◌-◌, ◌<◌, ◌≤◌, List, [], ◌∷◌, ◌++◌, length, take, drop, true, cond, refl, sym, ◌∙◌, ap, subst, arith, Option, Some, None, IfSome, length-append, Ok, Err}
use Rattle.std.proofs.lemmas.Cmp.{nat_list_eq_equiv}
use Rattle.std.proofs.Common.{zero, suc, length-take}
use Rattle.std.proofs.lemmas.List.{take_all}
use Rattle.std.proofs.Common.{take-add, length-drop}
use Rattle.sem_primitives.specs.Finds.{found_or, seen}
use Rattle.sem_primitives.specs.SharedState.{Shared}
use Rattle.host_streams.specs.Given.{SizeFits}
use Rattle.host_streams.specs.Puts.{IsOver, PutsText}
use Rattle.sem_primitives.specs.OutputMeaning.{all_fits, what_fits}
use Rattle.std.proofs.lemmas.Bool.{le-leb, lt-leb}
use Rattle.std.proofs.lemmas.List.{take-take}
use Rattle.world_core.specs.WorldState.{Target, Standard, Named, same_target, Entry, bytes_of, left_of, free, Outside, State, Action, Put, acted, step, after, puts}
use Rattle.world_core.specs.Calls.{Does, Fits, WritesSome, Writes}
use Rattle.world_core.specs.declared.world.WorldFault.{WorldFault}
use Rattle.world_core.specs.declared.world.WorldFault.TheVariants.{Failed, NoMemory}
use Rattle.std.specs.Option.{unwrap_or}
use Rattle.host_streams.specs.Puts.{PutsPart}

-- what is seen while nobody else changes what names hold
pub seen_over : (state : State) (shared : Shared) → IsOver state shared → seen shared.inner shared.outside ≡ state.outside
seen_over state shared e = ap (λ (f : Option (List Entry)). λ (t : Target). found_or f (shared.outside t)) e.kept ∙ e.outside

pub after-append : (xs ys : List Action) (f : Outside) → after (xs ++ ys) f ≡ after ys (after xs f)
after-append [] ys f = refl
after-append (x ∷ xs) ys f = after-append xs ys (step x f)

pub puts-append : (t : Target) (xs ys : List ℕ) → puts t (xs ++ ys) ≡ puts t xs ++ puts t ys
puts-append t [] ys = refl
puts-append t (x ∷ xs) ys = ap (λ r. Put t x ∷ r) (puts-append t xs ys)

pub does_more : {xs ys : List Action} {s t u : State} → Does xs s t → Does ys t u → Does (xs ++ ys) s u
does_more {xs} {ys} {s} {t} {u} a b = record {
  outside = b.outside ∙ ap (after ys) a.outside ∙ sym (after-append xs ys s.outside);
  readers = b.readers ∙ a.readers;
  writers = b.writers ∙ a.writers;
}

pub does_none : (s : State) → Does [] s s
does_none s = record { outside = refl; readers = refl; writers = refl }

pub same_target-refl : (t : Target) → same_target t t ≡ true
same_target-refl Standard = refl
same_target-refl (Named name) = nat_list_eq_equiv.refl name

-- the room that n more bytes leave
abbrev pub less : Option ℕ → ℕ → Option ℕ
less None n = None
less (Some k) n = Some (k - n)

left-more : (room : Option ℕ) (a b : ℕ) → left_of room (a + b) ≡ less (left_of room a) b
left-more None a b = refl
left-more (Some room) a b = ap (λ n. Some n) (let h : room - (a + b) ≡ room - a - b = omega arith in h)

less-less : (room : Option ℕ) (a b : ℕ) → less (less room a) b ≡ less room (a + b)
less-less None a b = refl
less-less (Some room) a b = ap (λ n. Some n) (let h : room - a - b ≡ room - (a + b) = omega arith in h)

put-free : (e : Entry) (t : Target) (x : ℕ) → free (acted (Put t x) e) ≡ less (free e) 1
put-free e t x = ap (left_of e.room) (length-append (bytes_of e.bytes) (x ∷ [])) ∙ left-more e.room (length (bytes_of e.bytes)) 1

less-zero : (room : Option ℕ) → less room 0 ≡ room
less-zero None = refl
less-zero (Some k) = ap (λ n. Some n) (let h : k - 0 ≡ k = omega arith in h)

-- the room after some bytes
pub puts-free : (t : Target) (xs : List ℕ) (f : Outside) → free (after (puts t xs) f t) ≡ less (free (f t)) (length xs)
puts-free t [] f = sym (less-zero (free (f t)))
puts-free t (x ∷ xs) f =
    puts-free t xs (step (Put t x) f)
    ∙ ap (λ b. less (free (cond b (acted (Put t x) (f t)) (f t))) (length xs)) (same_target-refl t)
    ∙ ap (λ r. less r (length xs)) (put-free (f t) t x) ∙ less-less (free (f t)) 1 (length xs) ∙ ap (less (free (f t))) (let h : 1 + length xs ≡ suc (length xs) = omega arith in h)

-- the room where a writer writes, after a part of a text
part-free : (n id : ℕ) (text : List ℕ) (s t : State) → n ≤ length text → PutsPart n id text s t →
    free (t.outside (t.writers id)) ≡ less (free (s.outside (s.writers id))) n
part-free n id text s t h p =
    ap (λ (w : ℕ → Target). free (t.outside (w id))) p.writers
    ∙ ap (λ (o : Outside). free (o (s.writers id))) p.outside
    ∙ puts-free (s.writers id) (take n text) s.outside
    ∙ ap (less (free (s.outside (s.writers id)))) (let e : length (take n text) ≡ n = omega (arith, length-take n text) in e)

fits_more : (room : Option ℕ) (a b : ℕ) → IfSome room (λ r. a ≤ r) → IfSome (less room a) (λ r. b ≤ r) → IfSome room (λ r. a + b ≤ r)
fits_more None a b h k = tt
fits_more (Some r) a b h k = omega arith

-- one more write
pub fits_next : (at n id : ℕ) (text : List ℕ) (s t u : State) → at ≤ length text → Fits at (s.outside (s.writers id)) → PutsPart at id text s t →
    WritesSome id n (drop at text) t u → Fits (at + n) (s.outside (s.writers id))
fits_next at n id text s t u h fits part w =
    fits_more (free (s.outside (s.writers id))) at n fits
    (subst (λ (r : Option ℕ). IfSome r (λ k. n ≤ k)) (part-free at id text s t h part) w.fits)

pub part_next : (at n id : ℕ) (text : List ℕ) (s t u : State) → PutsPart at id text s t → WritesSome id n (drop at text) t u → PutsPart (at + n) id text s u
part_next at n id text s t u part w =
    let tail : Does (puts (s.writers id) (take n (drop at text))) t u =
    subst (λ (ws : ℕ → Target). Does (puts (ws id) (take n (drop at text))) t u) part.writers w.does in
    subst (λ (acts : List Action). Does acts s u)
    (sym (puts-append (s.writers id) (take at text) (take n (drop at text))) ∙ ap (puts (s.writers id)) (sym (take-add at n text)))
    (does_more part tail)

pub part_none : (id : ℕ) (text : List ℕ) (s : State) → PutsPart 0 id text s s
part_none id text s = does_none s

filled : (room : Option ℕ) (at : ℕ) → IfSome room (λ r. at ≤ r) → less room at ≡ Some 0 → room ≡ Some at
filled None at h e = cc
filled (Some r) at h e = ap (λ n. Some n) (let k : r - at ≡ 0 = ap (λ (o : Option ℕ). unwrap_or o 0) e in let q : r ≡ at = omega arith in q)

all_fit : (room : Option ℕ) (text : List ℕ) → IfSome room (λ r. length text ≤ r) → all_fits room text ≡ true
all_fit None text h = refl
all_fit (Some r) text h = le-leb (length text) r h

what_fit : (room : Option ℕ) (text : List ℕ) → IfSome room (λ r. length text ≤ r) → what_fits room text ≡ text
what_fit None text h = refl
what_fit (Some r) text h = take_all r text h

-- the part that went out is a part of what fits
part_fits : (room : Option ℕ) (at : ℕ) (text : List ℕ) → at ≤ length text → IfSome room (λ r. at ≤ r) → at ≤ length (what_fits room text)
part_fits None at text h fits = h
part_fits (Some r) at text h fits = omega (arith, length-take r text)

pub part_is : (room : Option ℕ) (at : ℕ) (text : List ℕ) → IfSome room (λ r. at ≤ r) → take at text ≡ take at (what_fits room text)
part_is None at text fits = refl
part_is (Some r) at text fits = sym (take-take at r text fits)

-- a write that fails
pub put_fails : (at id : ℕ) (text : List ℕ) (s t u : State) (e : WorldFault) → at < length text → Fits at (s.outside (s.writers id)) → PutsPart at id text s t →
    Writes id (drop at text) t (Err e) u → PutsText id text s (Err e) u
put_fails at id text s t u Failed h fits part w =
    let full : free (s.outside (s.writers id)) ≡ Some at = filled (free (s.outside (s.writers id))) at fits (sym (part-free at id text s t (omega arith) part) ∙ w.full) in (
      ap (λ room. all_fits room text) full ∙ lt-leb (length text) at h,
      subst (λ (x : State). Does (puts (s.writers id) (what_fits (free (s.outside (s.writers id))) text)) s x) (sym w.unchanged)
          (subst (λ (room : Option ℕ). Does (puts (s.writers id) (what_fits room text)) s t) (sym full) part),
    )
put_fails at id text s t u NoMemory h fits part w = record {
  size = at;
  within = part_fits (free (s.outside (s.writers id))) at text (omega arith) fits;
  does = subst (λ (x : State). PutsPart at id (what_fits (free (s.outside (s.writers id))) text) s x) (sym w)
      (subst (λ (xs : List ℕ). Does (puts (s.writers id) xs) s t) (part_is (free (s.outside (s.writers id))) at text fits) part);
}

-- the whole text
pub put_all : (at id : ℕ) (text : List ℕ) (s t : State) → at ≤ length text → length text ≤ at → Fits at (s.outside (s.writers id)) → PutsPart at id text s t → PutsText id text s (Ok tt) t
put_all at id text s t a b fits part =
    let room : Option ℕ = free (s.outside (s.writers id)) in
    let whole : IfSome room (λ r. length text ≤ r) = subst (λ (n : ℕ). IfSome room (λ r. n ≤ r)) (let e : at ≡ length text = omega arith in e) fits in (
      all_fit room text whole,
      subst (λ (xs : List ℕ). Does (puts (s.writers id) xs) s t) (take_all at text b ∙ sym (what_fit room text whole)) part,
    )

-- so many bytes went out
pub size_fails : (at id : ℕ) (text : List ℕ) (s t u : State) (e : WorldFault) → at < length text → Fits at (s.outside (s.writers id)) → PutsPart at id text s t →
    Writes id (drop at text) t (Err e) u → SizeFits (free (s.outside (s.writers id))) text at (Err e) × PutsPart at id text s u
size_fails at id text s t u Failed h fits part w =
    let full : free (s.outside (s.writers id)) ≡ Some at = filled (free (s.outside (s.writers id))) at fits (sym (part-free at id text s t (omega arith) part) ∙ w.full) in
    (ap (λ room. what_fits room text) (sym full), subst (λ (x : State). PutsPart at id text s x) (sym w.unchanged) part)
size_fails at id text s t u NoMemory h fits part w =
    (part_is (free (s.outside (s.writers id))) at text fits, subst (λ (x : State). PutsPart at id text s x) (sym w) part)

pub size_all : (at id : ℕ) (text : List ℕ) (s : State) → at ≤ length text → length text ≤ at → Fits at (s.outside (s.writers id)) → take at text ≡ what_fits (free (s.outside (s.writers id))) text
size_all at id text s a b fits =
    let room : Option ℕ = free (s.outside (s.writers id)) in
    let whole : IfSome room (λ r. length text ≤ r) = subst (λ (n : ℕ). IfSome room (λ r. n ≤ r)) (let e : at ≡ length text = omega arith in e) fits in
    take_all at text b ∙ sym (what_fit room text whole)

-- `&text[at..]`
pub rest_is : (at : ℕ) (text : List ℕ) → take (length text - at) (drop at text) ≡ drop at text
rest_is at text = take_all (length text - at) (drop at text) (omega (arith, length-drop at text))

puts-take : (t : Target) (n : ℕ) (xs : List ℕ) → puts t (take n xs) ≡ take n (puts t xs)
puts-take t zero xs = refl
puts-take t (suc n) [] = refl
puts-take t (suc n) (x ∷ xs) = ap (λ r. Put t x ∷ r) (puts-take t n xs)

-- a part of what fits is the first actions of putting all of it
pub part_put : (t : Target) (n : ℕ) (text : List ℕ) (o p : Outside) → o ≡ p → puts t (take n (what_fits (free (p t)) text)) ≡ take n (puts t (what_fits (free (o t)) text))
part_put t n text o p e = puts-take t n (what_fits (free (p t)) text) ∙ ap (λ (f : Outside). take n (puts t (what_fits (free (f t)) text))) (sym e)
