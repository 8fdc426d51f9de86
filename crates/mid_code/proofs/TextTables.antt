-- Texts, each once.
use Rattle.std.proofs.Common.{◌≡◌, ℕ, Bool, true, false, ◌||◌, List, [], ◌∷◌, ◌++◌, Result, Ok, Err, refl, ap, sym, subst, true≢false, ◌∙◌, if◌then◌else◌}
use Rattle.std.specs.Cmp.Lexicographic.{nat_list_eq_equiv}
use Rattle.std.specs.Global.{Vec}
use Rattle.std.specs.Prelude.{IfOk, is_err}
use Rattle.std.specs.List.{list_any}
use Rattle.std.specs.declared.alloc.Global.{Global}
use Rattle.std.specs.declared.boxed.Box.{Box}
use Rattle.indexmap.specs.IndexSet.{insert_key}
use Rattle.awk_tokens.specs.declared.reserved_words.Builtin.{Builtin}
use Rattle.awk_grammar.specs.View.{view as tree, views as trees}
use Rattle.awk_grammar.specs.ViewStmt.{view_stmt, view_stmts}
use Rattle.awk_grammar.specs.declared.tree.Expr.{Expr, Element, Call, Apply, InList}
use Rattle.awk_grammar.specs.declared.tree.Stmt.{Stmt, Block}
use Rattle.awk_grammar.proofs.Views.{apply_is, block_is, call_is, element_is, in_list_is}
use Rattle.sem_scripts.specs.Names.{same_name}
use Rattle.mid_program.specs.Texts.{all_texts, has_text, once, stmt_texts, stmts_texts, texts_in}
use Rattle.mid_program.specs.View.{view_texts}
use Rattle.mid_code.specs.ViewTexts.{AddsTexts}
use Rattle.mid_code.specs.declared.texts.Texts.{Texts}

pub once_append : (known xs ys : List (List ℕ)) → once known (xs ++ ys) ≡ once (once known xs) ys
once_append known [] ys = refl
once_append known (x ∷ xs) ys = by (has_text known x) (once_append known xs ys) (once_append (known ++ (x ∷ [])) xs ys)
  where
    by : (b : Bool) → once known (xs ++ ys) ≡ once (once known xs) ys → once (known ++ (x ∷ [])) (xs ++ ys) ≡ once (once (known ++ (x ∷ [])) xs) ys →
        (if b then once known (xs ++ ys) else once (known ++ (x ∷ [])) (xs ++ ys)) ≡ once (if b then once known xs else once (known ++ (x ∷ [])) xs) ys
    by true h k = h
    by false h k = k

abbrev pub same_text : Vec ℕ → Vec ℕ → Bool
same_text a b = same_name a.items b.items

step_any : (b c d e : Bool) → b ≡ c → d ≡ e → (b || d) ≡ (if c then true else e)
step_any b true d e p q = ap (λ (x : Bool). x || d) p
step_any b false d e p q = ap (λ (x : Bool). x || d) p ∙ q

any_is : (ks : List (Vec ℕ)) (t : Vec ℕ) → list_any (same_text t) ks ≡ has_text (view_texts ks) t.items
any_is [] t = refl
any_is (k ∷ ks) t = step_any (same_text t k) (same_text k t) (list_any (same_text t) ks) (has_text (view_texts ks) t.items) (nat_list_eq_equiv.symm t.items k.items) (any_is ks t)

views_append : (ks ls : List (Vec ℕ)) → view_texts (ks ++ ls) ≡ view_texts ks ++ view_texts ls
views_append [] ls = refl
views_append (k ∷ ks) ls = ap (λ (x : List (List ℕ)). k.items ∷ x) (views_append ks ls)

put_by : (b c : Bool) (ks : List (Vec ℕ)) (t : Vec ℕ) → b ≡ c → view_texts (if b then ks else ks ++ t ∷ []) ≡ (if c then view_texts ks else view_texts ks ++ (t.items ∷ []))
put_by b true ks t e = ap (λ (x : Bool). view_texts (if x then ks else ks ++ t ∷ [])) e
put_by b false ks t e = ap (λ (x : Bool). view_texts (if x then ks else ks ++ t ∷ [])) e ∙ views_append ks (t ∷ [])

pub put_is : (ks : List (Vec ℕ)) (t : Vec ℕ) → view_texts (insert_key same_text ks t) ≡ once (view_texts ks) (t.items ∷ [])
put_is ks t = put_by (list_any (same_text t) ks) (has_text (view_texts ks) t.items) ks t (any_is ks t)

-- texts that are found, one after the other

pub adds_none : (a : Texts) → AddsTexts a a []
adds_none a = record { adds = λ h. (h, refl) }

pub adds_as : {a b : Texts} (xs ys : List (List ℕ)) → xs ≡ ys → AddsTexts a b xs → AddsTexts a b ys
adds_as {a} {b} xs ys e f = subst (AddsTexts a b) e f

pub adds_both : {a b c : Texts} {xs ys : List (List ℕ)} → AddsTexts a b xs → AddsTexts b c ys → AddsTexts a c (xs ++ ys)
adds_both {a} {b} {c} {xs} {ys} f g = record {
  adds = λ h. let q = g.adds h in let p = f.adds q.0 in (p.0, q.1 ∙ ap (λ (k : List (List ℕ)). once k ys) p.1 ∙ sym (once_append (view_texts a.found.keys) xs ys));
}

pub put_adds : {E : Type 0} (a b : Texts) (r : Result Bool E) (t : Vec ℕ) → a.is_refused ≡ false → b.is_refused ≡ is_err r → IfOk r (λ x. b.found.keys ≡ insert_key same_text a.found.keys t) →
    AddsTexts a b (t.items ∷ [])
put_adds a b (Ok x) t fine e k = record { adds = λ h. (fine, ap view_texts k ∙ put_is a.found.keys t) }
put_adds a b (Err x) t fine e k = record { adds = λ h. absurd (true≢false (sym e ∙ h)) }

-- what was found in a loop, and the rest, are all of it
pub record Leads (old now : Texts) (rest all : List (List ℕ)) : Type 0 where
  pub leads : now.is_refused ≡ false → (old.is_refused ≡ false) × (once (view_texts now.found.keys) rest ≡ once (view_texts old.found.keys) all)

pub leads_first : (a : Texts) (xs : List (List ℕ)) → Leads a a xs xs
leads_first a xs = record { leads = λ h. (h, refl) }

pub leads_next : {a b c : Texts} {xs ys all : List (List ℕ)} (rest : List (List ℕ)) → rest ≡ xs ++ ys → Leads a b rest all → AddsTexts b c xs → Leads a c ys all
leads_next {a} {b} {c} {xs} {ys} {all} rest e f g = record {
  leads = λ h. let q = g.adds h in let p = f.leads q.0 in
      (p.0, ap (λ (k : List (List ℕ)). once k ys) q.1 ∙ sym (once_append (view_texts b.found.keys) xs ys) ∙ ap (once (view_texts b.found.keys)) (sym e) ∙ p.1);
}

pub leads_all : {a b : Texts} {all : List (List ℕ)} (rest : List (List ℕ)) → rest ≡ [] → Leads a b rest all → AddsTexts a b all
leads_all {a} {b} {all} rest e f = record { adds = λ h. let p = f.leads h in (p.0, ap (once (view_texts b.found.keys)) (sym e) ∙ p.1) }

-- expressions with lists in them

pub element_texts : {n : Vec ℕ} (e : Expr) (v : Vec Expr) (es : List Expr) → e ≡ Element n v → es ≡ v.items → all_texts (trees es) ≡ texts_in (tree e)
unfolding texts_in
element_texts {n} e v es is i = ap texts_in (element_is e n v n.items es is refl i)

pub call_texts : {n : Vec ℕ} (e : Expr) (v : Vec Expr) (es : List Expr) → e ≡ Call n v → es ≡ v.items → all_texts (trees es) ≡ texts_in (tree e)
unfolding texts_in
call_texts {n} e v es is i = ap texts_in (call_is e n v n.items es is refl i)

pub apply_texts : {f : Builtin} (e : Expr) (v : Vec Expr) (es : List Expr) → e ≡ Apply f v → es ≡ v.items → all_texts (trees es) ≡ texts_in (tree e)
unfolding texts_in
apply_texts {f} e v es is i = ap texts_in (apply_is e f v es is i)

pub list_texts : {n : Vec ℕ} (e : Expr) (b : Box Expr Global) (v : Vec Expr) (first : Expr) (es : List Expr) → e ≡ InList b v n → first ≡ b.value → es ≡ v.items →
    texts_in (tree first) ++ all_texts (trees es) ≡ texts_in (tree e)
unfolding texts_in
list_texts {n} e b v first es is f i = ap texts_in (in_list_is e b v n first es n.items is f i refl)

pub block_texts : (s : Stmt) (v : Vec Stmt) (body : List Stmt) → s ≡ Block v → body ≡ v.items → stmts_texts (view_stmts body) ≡ stmt_texts (view_stmt s)
unfolding stmt_texts
block_texts s v body is i = ap stmt_texts (block_is s v body is i)
