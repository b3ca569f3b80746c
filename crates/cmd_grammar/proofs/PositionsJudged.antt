-- The sorts and terms of a form are judged one after the other, left to right.
use Rattle.std.proofs.Common.{◌≡◌, ℕ, not, ◌&&◌, ◌||◌, List, [], ◌∷◌, ◌++◌, Option, Some, None, is_some, Result, IsTrue, refl, ap, sym, append_assoc, ◌∙◌}
use Rattle.std.specs.List.{list_all}
use Rattle.lex_core.specs.declared.token.Tok.{Tok}
use Rattle.sexp_core.specs.Sexp.{Sexp, atom, list, Sexps, nil, cons}
use Rattle.sexp_core.specs.Parts.{whole}
use Rattle.sexp_core.specs.declared.parts.Part.{Part}
use Rattle.term_grammar.specs.FirstParts.{is_empty}
use Rattle.term_grammar.specs.Reads.{read_sort, read_sorts, read_sorted, read_term, read_terms}
use Rattle.term_grammar.specs.FormReading.{judged, both}
use Rattle.term_grammar.specs.Faults.{Position, a_sort, a_term, sorts, terms, seconds}
use Rattle.term_grammar.proofs.FormsRead.{judged-made_of, judged-made_of_two, judged-made_of_three}
use Rattle.term_grammar.proofs.FirstFaults.{judge, judge_all, both_ok, judge_append, sorts_judged, terms_judged, variables_judged}
use Rattle.cmd_grammar.specs.declared.declaration_form.FunDefParts.{FunDefParts}
use Rattle.cmd_grammar.specs.declared.command_form.CommandForm.{CommandForm}
use Rattle.cmd_grammar.specs.declared.command_form.CommandForm.TheVariants as form
use Rattle.cmd_grammar.specs.declared.command_form.DeclarationForm.TheVariants as declaration
use Rattle.cmd_grammar.specs.TreeLists.{each_tree, read_all}
use Rattle.cmd_grammar.specs.DeclarationForms.{constructor_dec_parts, is_constructor_dec, are_constructor_decs, parametric_parts, is_data_dec, are_data_decs, fun_dec_parts, is_fun_dec, are_fun_decs}
use Rattle.cmd_grammar.specs.DeclarationReads.{constructor_dec_by, read_constructor_dec, data_dec_by, read_data_dec, fun_dec_by, read_fun_dec, read_fun_def}
use Rattle.cmd_grammar.specs.CommandReads.{command_by}
use Rattle.cmd_grammar.specs.FormGrammar.{HasFunDef, HasForm}
use Rattle.cmd_grammar.specs.Grammar.{constructor_positions, data_dec_positions, data_decs_positions, fun_dec_positions, fun_def_positions, form_positions}
use Rattle.cmd_grammar.proofs.DoBlocks.{some_is}
use Rattle.cmd_grammar.proofs.EachTree.{both_true}
use Rattle.cmd_grammar.proofs.DeclarationsAgree.{constructor_is, parametric_is, fun_dec_is}

-- one more tree
and_one : (ps : List Position) (p : Position) → both (judge_all ps) (judge p) ≡ judge_all (ps ++ p ∷ [])
and_one ps p = sym (judge_append ps (p ∷ []) ∙ ap (both (judge_all ps)) (both_ok (judge p)))

one : (p : Position) → judge p ≡ judge_all (p ∷ [])
one p = sym (both_ok (judge p))

-- the first of some trees that are read one by one, and the others
more : {A : Type 0} (read : Sexp Tok → Result A ℕ) (t : Sexp Tok) (ts : Sexps Tok) (ps qs : List Position) → judged (read t) ≡ judge_all ps → judged (read_all read ts) ≡ judge_all qs
    → judged (read_all read (cons t ts)) ≡ judge_all (ps ++ qs)
more read t ts ps qs h k =
    judged-made_of_two _ (read t) (read_all read ts) ∙ ap (λ x. both x (judged (read_all read ts))) h ∙ ap (both (judge_all ps)) k ∙ sym (judge_append ps qs)

constructor_judged : (at : ℕ) (us : Sexps Tok) (p : Tok × Sexps Tok) → constructor_dec_parts us ≡ Some p → judged (read_constructor_dec (list at us)) ≡ judge_all (seconds a_sort p.1)
constructor_judged at us p k =
    ap (λ o. judged (constructor_dec_by at o)) k ∙ judged-made_of _ (read_sorted p.1) ∙ variables_judged p.1 (constructor_is us p k).2

pub constructors_judged : (ts : Sexps Tok) → IsTrue (are_constructor_decs ts) → judged (read_all read_constructor_dec ts) ≡ judge_all (constructor_positions ts)
constructors_judged nil h = refl
constructors_judged (cons (atom t) ts) h = absurd (cc)
constructors_judged (cons (list at us) ts) h =
    let b = both_true (is_constructor_dec (list at us)) (list_all is_constructor_dec (each_tree ts)) h in
    let s = some_is (constructor_dec_parts us) b.0 in
    more read_constructor_dec (list at us) ts (seconds a_sort s.0.1) (constructor_positions ts) (constructor_judged at us s.0 s.1) (constructors_judged ts b.1)
    ∙ ap (λ xs. judge_all (constructor_positions (cons (list at xs) ts))) (sym (constructor_is us s.0 s.1).0)

plain_positions : (at : ℕ) (ts : Sexps Tok) → IsTrue (are_constructor_decs ts) → data_dec_positions (list at ts) ≡ constructor_positions ts
plain_positions at nil h = refl
plain_positions at (cons (list a us) ts) h = refl
plain_positions at (cons (atom t) ts) h = absurd (cc)

data_judged_by : (at : ℕ) (ts : Sexps Tok) (o : Option (Sexps Tok × Sexps Tok)) → parametric_parts ts ≡ o → IsTrue (is_some o || (not (is_empty ts) && are_constructor_decs ts))
    → judged (data_dec_by at ts o) ≡ judge_all (data_dec_positions (list at ts))
data_judged_by at ts None k h =
    let b = both_true (not (is_empty ts)) (are_constructor_decs ts) h in
    judged-made_of _ (read_all read_constructor_dec ts) ∙ constructors_judged ts b.1 ∙ ap judge_all (sym (plain_positions at ts b.1))
data_judged_by at ts (Some p) k h =
    let (w, a, b, s, r, n, y, q, c) = parametric_is ts p k in
    judged-made_of _ (read_all read_constructor_dec p.1) ∙ constructors_judged p.1 c ∙ ap (λ xs. judge_all (data_dec_positions (list at xs))) (sym s)

data_judged : (t : Sexp Tok) → IsTrue (is_data_dec t) → judged (read_data_dec t) ≡ judge_all (data_dec_positions t)
data_judged (atom t) h = absurd (cc)
data_judged (list at ts) h = data_judged_by at ts (parametric_parts ts) refl h

datas_judged : (ts : Sexps Tok) → IsTrue (are_data_decs ts) → judged (read_all read_data_dec ts) ≡ judge_all (data_decs_positions ts)
datas_judged nil h = refl
datas_judged (cons t ts) h =
    let b = both_true (is_data_dec t) (list_all is_data_dec (each_tree ts)) h in
    more read_data_dec t ts (data_dec_positions t) (data_decs_positions ts) (data_judged t b.0) (datas_judged ts b.1)

fun_dec_judged : (at : ℕ) (us : Sexps Tok) (p : Tok × Sexps Tok × Part) → fun_dec_parts us ≡ Some p
    → judged (read_fun_dec (list at us)) ≡ judge_all (seconds a_sort p.1 ++ a_sort (whole p.2) ∷ [])
fun_dec_judged at us p k =
    ap (λ o. judged (fun_dec_by at o)) k ∙ judged-made_of_two _ (read_sorted p.1) (read_sort (whole p.2))
    ∙ ap (λ x. both x (judged (read_sort (whole p.2)))) (variables_judged p.1 (fun_dec_is us p k).3) ∙ and_one (seconds a_sort p.1) (a_sort (whole p.2))

append_one : (ps : List Position) (p : Position) (qs : List Position) → (ps ++ p ∷ []) ++ qs ≡ ps ++ p ∷ qs
append_one ps p qs = append_assoc ps (p ∷ []) qs

fun_decs_judged : (ts : Sexps Tok) → IsTrue (are_fun_decs ts) → judged (read_all read_fun_dec ts) ≡ judge_all (fun_dec_positions ts)
fun_decs_judged nil h = refl
fun_decs_judged (cons (atom t) ts) h = absurd (cc)
fun_decs_judged (cons (list at us) ts) h =
    let b = both_true (is_fun_dec (list at us)) (list_all is_fun_dec (each_tree ts)) h in
    let s = some_is (fun_dec_parts us) b.0 in
    let i = fun_dec_is us s.0 s.1 in
    more read_fun_dec (list at us) ts (seconds a_sort s.0.1 ++ a_sort (whole s.0.2) ∷ []) (fun_dec_positions ts) (fun_dec_judged at us s.0 s.1) (fun_decs_judged ts b.1)
    ∙ ap judge_all (append_one (seconds a_sort s.0.1) (a_sort (whole s.0.2)) (fun_dec_positions ts))
    ∙ ap (λ xs. judge_all (fun_dec_positions (cons (list at xs) ts))) (sym i.1)

fun_def_judged : (ts : Sexps Tok) (f : FunDefParts) → HasFunDef ts f → judged (read_fun_def f) ≡ judge_all (fun_def_positions f)
fun_def_judged ts f (a, i, s, n) =
    judged-made_of_three _ (read_sorted f.params) (read_sort (whole f.result)) (read_term (whole f.body))
    ∙ ap (λ x. both x (both (judged (read_sort (whole f.result))) (judged (read_term (whole f.body))))) (variables_judged f.params n)
    ∙ ap (λ x. both (judge_all (seconds a_sort f.params)) (both (judged (read_sort (whole f.result))) x)) (one (a_term (whole f.body)))
    ∙ sym (judge_append (seconds a_sort f.params) (a_sort (whole f.result) ∷ a_term (whole f.body) ∷ []))

pub form_judged : (t : Sexp Tok) (f : CommandForm) → HasForm t f → judged (command_by f) ≡ judge_all (form_positions f)
form_judged t (form.Complete k) h = refl
form_judged t (form.Declaration (declaration.Const n s)) h = judged-made_of _ (read_sort (whole s)) ∙ one (a_sort (whole s))
form_judged t (form.Declaration (declaration.Datatype n d)) (b, h, i) = judged-made_of _ (read_data_dec (whole d)) ∙ data_judged (whole d) i
form_judged t (form.Declaration (declaration.Datatypes ss ds)) (at, ts, a, b, n, i, q, k, l) = judged-made_of _ (read_all read_data_dec ds) ∙ datas_judged ds l
form_judged t (form.Declaration (declaration.Fun n ss r)) h =
    judged-made_of_two _ (read_sorts ss) (read_sort (whole r)) ∙ ap (λ x. both x (judged (read_sort (whole r)))) (sorts_judged ss) ∙ and_one (sorts ss) (a_sort (whole r))
form_judged t (form.Declaration (declaration.Sort n ps s)) h = judged-made_of _ (read_sort (whole s)) ∙ one (a_sort (whole s))
form_judged t (form.Assert u) h = judged-made_of _ (read_term (whole u)) ∙ one (a_term (whole u))
form_judged t (form.DefineFun f) (ts, b, h) = judged-made_of _ (read_fun_def f) ∙ fun_def_judged ts f h
form_judged t (form.DefineFunRec f) (ts, b, h) = judged-made_of _ (read_fun_def f) ∙ fun_def_judged ts f h
form_judged t (form.DefineFunsRec ds bs) (at, a, b, n, h, i, q) =
    judged-made_of_two _ (read_all read_fun_dec ds) (read_terms bs) ∙ ap (λ x. both x (judged (read_terms bs))) (fun_decs_judged ds h)
    ∙ ap (both (judge_all (fun_dec_positions ds))) (terms_judged bs) ∙ sym (judge_append (fun_dec_positions ds) (terms bs))
form_judged t (form.GetValue us) h = judged-made_of _ (read_terms us) ∙ terms_judged us
