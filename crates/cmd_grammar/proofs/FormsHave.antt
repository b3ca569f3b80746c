-- A tree for which the form of a command is found has that form.
use Rattle.std.proofs.Common.{◌≡◌, Bool, true, false, not, Option, Some, None, ◌==◌, IsTrue, if◌then◌else◌, refl, ap, sym, subst, ◌∙◌}
use Rattle.std.proofs.lemmas.Option.{option_and_then_some}
use Rattle.std.proofs.lemmas.Bool.{eqb-true}
use Rattle.lex_core.specs.declared.token.Tok.{Tok}
use Rattle.sexp_core.specs.Sexp.{Sexp, atom, list, Sexps, nil, cons, count_of}
use Rattle.sexp_core.specs.Parts.{whole}
use Rattle.term_grammar.specs.Words.{is_numeral, is_string, is_keyword}
use Rattle.term_grammar.specs.FirstParts.{any_first, token_first, symbol_first, list_first, is_empty, guard}
use Rattle.term_grammar.specs.TermForms.{are_symbols, are_named, value_first}
use Rattle.term_grammar.specs.Values.{is_value}
use Rattle.term_grammar.specs.Reads.{attribute_of}
use Rattle.cmd_grammar.specs.declared.command_word.CommandWord.{CommandWord}
use Rattle.cmd_grammar.specs.declared.command_word.CommandWord.TheVariants as command
use Rattle.cmd_grammar.specs.declared.command_kind.RawCommandKind.{RawCommandKind}
use Rattle.cmd_grammar.specs.declared.command_kind.RawCommandKind.TheVariants as kind
use Rattle.cmd_grammar.specs.declared.declaration_form.FunDefParts.{FunDefParts}
use Rattle.cmd_grammar.specs.declared.command_form.CommandForm.{CommandForm}
use Rattle.cmd_grammar.specs.declared.command_form.CommandForm.TheVariants as form
use Rattle.cmd_grammar.specs.DeclarationForms.{are_sort_decs, is_data_dec, are_data_decs, are_fun_decs, are_literals, attribute_parts, option_fits, fun_def_parts}
use Rattle.cmd_grammar.specs.CommandForms.{assert_form, check_sat_assuming_form, declare_const_form, declare_datatype_form, declare_datatypes_form, declare_fun_form, declare_sort_form, define_fun_form, define_fun_rec_form, define_funs_rec_form, define_sort_form, echo_form, get_info_form, get_option_form, get_value_form, pop_form, push_form, set_info_form, set_logic_form, set_option_form, plain_form, form_after}
use Rattle.term_grammar.specs.Grammar.{ReadsAttribute}
use Rattle.cmd_grammar.specs.FormGrammar.{Begins, attribute_fits, HasFunDef, HasForm}
use Rattle.cmd_grammar.proofs.DoBlocks.{guard_true, empty_nil, end_is, symbol_is_first, token_is_first, any_is_first, list_is_first}

-- the trees after the name, by what they are
pub begun : {t : Sexp Tok} {word : CommandWord} {ts us : Sexps Tok} → Begins t word ts → ts ≡ us → Begins t word us
begun b e = (b.0, b.1, b.2 ∙ ap (λ xs. list b.0 (cons (atom b.1) xs)) e, b.3)

-- the form that was found, by what it is
formed : (t : Sexp Tok) (f g : CommandForm) → Some g ≡ Some f → HasForm t g → HasForm t f
formed t f g e h = let s : g ≡ f = cc in subst (HasForm t) s h

assert_has : (t : Sexp Tok) (ts : Sexps Tok) (f : CommandForm) → Begins t command.Assert ts → assert_form ts ≡ Some f → HasForm t f
assert_has t ts f b h =
    option_and_then_some _ (any_first ts) f h (λ a p h1.
    option_and_then_some _ (guard (is_empty a.1)) f h1 (λ u q h2.
    formed t f _ h2 (begun b (any_is_first ts a p ∙ ap (cons (whole a.0)) (end_is a.1 u q)))))

check_sat_assuming_has : (t : Sexp Tok) (ts : Sexps Tok) (f : CommandForm) → Begins t command.CheckSatAssuming ts → check_sat_assuming_form ts ≡ Some f → HasForm t f
check_sat_assuming_has t ts f b h =
    option_and_then_some _ (list_first ts) f h (λ a p h1.
    option_and_then_some _ (guard (are_literals a.0)) f h1 (λ v r h2.
    option_and_then_some _ (guard (is_empty a.1)) f h2 (λ u q h3.
    formed t f _ h3 (let l = list_is_first ts a p in (l.0, a.0, begun b (l.1 ∙ ap (cons (list l.0 a.0)) (end_is a.1 u q)), guard_true (are_literals a.0) v r, refl)))))

declare_const_has : (t : Sexp Tok) (ts : Sexps Tok) (f : CommandForm) → Begins t command.DeclareConst ts → declare_const_form ts ≡ Some f → HasForm t f
declare_const_has t ts f b h =
    option_and_then_some _ (symbol_first ts) f h (λ a p h1.
    option_and_then_some _ (any_first a.1) f h1 (λ c r h2.
    option_and_then_some _ (guard (is_empty c.1)) f h2 (λ u q h3.
    formed t f _ h3 (let s = symbol_is_first ts a p in (begun b (s.1 ∙ ap (cons (atom a.0)) (any_is_first a.1 c r ∙ ap (cons (whole c.0)) (end_is c.1 u q))), s.0)))))

declare_datatype_has : (t : Sexp Tok) (ts : Sexps Tok) (f : CommandForm) → Begins t command.DeclareDatatype ts → declare_datatype_form ts ≡ Some f → HasForm t f
declare_datatype_has t ts f b h =
    option_and_then_some _ (symbol_first ts) f h (λ a p h1.
    option_and_then_some _ (any_first a.1) f h1 (λ c r h2.
    option_and_then_some _ (guard (is_data_dec (whole c.0))) f h2 (λ v k h3.
    option_and_then_some _ (guard (is_empty c.1)) f h3 (λ u q h4.
    formed t f _ h4 (let s = symbol_is_first ts a p in (begun b (s.1 ∙ ap (cons (atom a.0)) (any_is_first a.1 c r ∙ ap (cons (whole c.0)) (end_is c.1 u q))), s.0, guard_true (is_data_dec (whole c.0)) v k))))))

declare_datatypes_has : (t : Sexp Tok) (ts : Sexps Tok) (f : CommandForm) → Begins t command.DeclareDatatypes ts → declare_datatypes_form ts ≡ Some f → HasForm t f
declare_datatypes_has t ts f b h =
    option_and_then_some _ (list_first ts) f h (λ a p h1.
    option_and_then_some _ (list_first a.1) f h1 (λ c r h2.
    option_and_then_some _ (guard (not (is_empty a.0))) f h2 (λ u1 q1 h3.
    option_and_then_some _ (guard (are_sort_decs a.0)) f h3 (λ u2 q2 h4.
    option_and_then_some _ (guard (not (is_empty c.0))) f h4 (λ u3 q3 h5.
    option_and_then_some _ (guard (are_data_decs c.0)) f h5 (λ u4 q4 h6.
    option_and_then_some _ (guard (is_empty c.1)) f h6 (λ u5 q5 h7.
    formed t f _ h7 (let l = list_is_first ts a p in let m = list_is_first a.1 c r in (l.0, a.0, m.0, begun b (l.1 ∙ ap (cons (list l.0 a.0)) (m.1 ∙ ap (cons (list m.0 c.0)) (end_is c.1 u5 q5))), guard_true (not (is_empty a.0)) u1 q1, guard_true (are_sort_decs a.0) u2 q2, refl, guard_true (not (is_empty c.0)) u3 q3, guard_true (are_data_decs c.0) u4 q4)))))))))

declare_fun_has : (t : Sexp Tok) (ts : Sexps Tok) (f : CommandForm) → Begins t command.DeclareFun ts → declare_fun_form ts ≡ Some f → HasForm t f
declare_fun_has t ts f b h =
    option_and_then_some _ (symbol_first ts) f h (λ a p h1.
    option_and_then_some _ (list_first a.1) f h1 (λ c r h2.
    option_and_then_some _ (any_first c.1) f h2 (λ d k h3.
    option_and_then_some _ (guard (is_empty d.1)) f h3 (λ u q h4.
    formed t f _ h4 (let s = symbol_is_first ts a p in let l = list_is_first a.1 c r in (l.0, begun b (s.1 ∙ ap (cons (atom a.0)) (l.1 ∙ ap (cons (list l.0 c.0)) (any_is_first c.1 d k ∙ ap (cons (whole d.0)) (end_is d.1 u q)))), s.0))))))

declare_sort_has : (t : Sexp Tok) (ts : Sexps Tok) (f : CommandForm) → Begins t command.DeclareSort ts → declare_sort_form ts ≡ Some f → HasForm t f
declare_sort_has t ts f b h =
    option_and_then_some _ (symbol_first ts) f h (λ a p h1.
    option_and_then_some _ (token_first a.1) f h1 (λ c r h2.
    option_and_then_some _ (guard (is_numeral c.0)) f h2 (λ v k h3.
    option_and_then_some _ (guard (is_empty c.1)) f h3 (λ u q h4.
    formed t f _ h4 (let s = symbol_is_first ts a p in (begun b (s.1 ∙ ap (cons (atom a.0)) (token_is_first a.1 c r ∙ ap (cons (atom c.0)) (end_is c.1 u q))), s.0, guard_true (is_numeral c.0) v k))))))

fun_def_has : (ts : Sexps Tok) (f : FunDefParts) → fun_def_parts ts ≡ Some f → HasFunDef ts f
fun_def_has ts f h =
    option_and_then_some _ (symbol_first ts) f h (λ a p h1.
    option_and_then_some _ (list_first a.1) f h1 (λ c r h2.
    option_and_then_some _ (any_first c.1) f h2 (λ d k h3.
    option_and_then_some _ (any_first d.1) f h3 (λ e l h4.
    option_and_then_some _ (guard (are_named c.0)) f h4 (λ v m h5.
    option_and_then_some _ (guard (is_empty e.1)) f h5 (λ u q h6.
    let s = symbol_is_first ts a p in
    let i = list_is_first a.1 c r in
    let x = any_is_first d.1 e l ∙ ap (cons (whole e.0)) (end_is e.1 u q) in
    let g : record { name = a.0; params = c.0; result = d.0; body = e.0 } ≡ f = cc in
    subst (HasFunDef ts) g (i.0, s.1 ∙ ap (cons (atom a.0)) (i.1 ∙ ap (cons (list i.0 c.0)) (any_is_first c.1 d k ∙ ap (cons (whole d.0)) x)), s.0, guard_true (are_named c.0) v m)))))))

define_fun_has : (t : Sexp Tok) (ts : Sexps Tok) (f : CommandForm) → Begins t command.DefineFun ts → define_fun_form ts ≡ Some f → HasForm t f
define_fun_has t ts f b h =
    option_and_then_some _ (fun_def_parts ts) f h (λ a p h1.
    formed t f _ h1 ((ts, b, fun_def_has ts a p)))

define_fun_rec_has : (t : Sexp Tok) (ts : Sexps Tok) (f : CommandForm) → Begins t command.DefineFunRec ts → define_fun_rec_form ts ≡ Some f → HasForm t f
define_fun_rec_has t ts f b h =
    option_and_then_some _ (fun_def_parts ts) f h (λ a p h1.
    formed t f _ h1 ((ts, b, fun_def_has ts a p)))

define_funs_rec_has : (t : Sexp Tok) (ts : Sexps Tok) (f : CommandForm) → Begins t command.DefineFunsRec ts → define_funs_rec_form ts ≡ Some f → HasForm t f
define_funs_rec_has t ts f b h =
    option_and_then_some _ (list_first ts) f h (λ a p h1.
    option_and_then_some _ (list_first a.1) f h1 (λ c r h2.
    option_and_then_some _ (guard (not (is_empty a.0))) f h2 (λ u1 q1 h3.
    option_and_then_some _ (guard (are_fun_decs a.0)) f h3 (λ u2 q2 h4.
    option_and_then_some _ (guard (not (is_empty c.0))) f h4 (λ u3 q3 h5.
    option_and_then_some _ (guard (is_empty c.1)) f h5 (λ u4 q4 h6.
    option_and_then_some _ (guard (count_of a.0 == count_of c.0)) f h6 (λ u5 q5 h7.
    formed t f _ h7 (let l = list_is_first ts a p in let m = list_is_first a.1 c r in (l.0, m.0, begun b (l.1 ∙ ap (cons (list l.0 a.0)) (m.1 ∙ ap (cons (list m.0 c.0)) (end_is c.1 u4 q4))), guard_true (not (is_empty a.0)) u1 q1, guard_true (are_fun_decs a.0) u2 q2, guard_true (not (is_empty c.0)) u3 q3, eqb-true _ _ (guard_true (count_of a.0 == count_of c.0) u5 q5))))))))))

define_sort_has : (t : Sexp Tok) (ts : Sexps Tok) (f : CommandForm) → Begins t command.DefineSort ts → define_sort_form ts ≡ Some f → HasForm t f
define_sort_has t ts f b h =
    option_and_then_some _ (symbol_first ts) f h (λ a p h1.
    option_and_then_some _ (list_first a.1) f h1 (λ c r h2.
    option_and_then_some _ (any_first c.1) f h2 (λ d k h3.
    option_and_then_some _ (guard (are_symbols c.0)) f h3 (λ v m h4.
    option_and_then_some _ (guard (is_empty d.1)) f h4 (λ u q h5.
    formed t f _ h5 (let s = symbol_is_first ts a p in let l = list_is_first a.1 c r in (l.0, c.0, begun b (s.1 ∙ ap (cons (atom a.0)) (l.1 ∙ ap (cons (list l.0 c.0)) (any_is_first c.1 d k ∙ ap (cons (whole d.0)) (end_is d.1 u q)))), s.0, guard_true (are_symbols c.0) v m, refl)))))))

echo_has : (t : Sexp Tok) (ts : Sexps Tok) (f : CommandForm) → Begins t command.Echo ts → echo_form ts ≡ Some f → HasForm t f
echo_has t ts f b h =
    option_and_then_some _ (token_first ts) f h (λ a p h1.
    option_and_then_some _ (guard (is_string a.0)) f h1 (λ v r h2.
    option_and_then_some _ (guard (is_empty a.1)) f h2 (λ u q h3.
    formed t f _ h3 ((begun b (token_is_first ts a p ∙ ap (cons (atom a.0)) (end_is a.1 u q)), guard_true (is_string a.0) v r)))))

get_info_has : (t : Sexp Tok) (ts : Sexps Tok) (f : CommandForm) → Begins t command.GetInfo ts → get_info_form ts ≡ Some f → HasForm t f
get_info_has t ts f b h =
    option_and_then_some _ (token_first ts) f h (λ a p h1.
    option_and_then_some _ (guard (is_keyword a.0)) f h1 (λ v r h2.
    option_and_then_some _ (guard (is_empty a.1)) f h2 (λ u q h3.
    formed t f _ h3 ((begun b (token_is_first ts a p ∙ ap (cons (atom a.0)) (end_is a.1 u q)), guard_true (is_keyword a.0) v r)))))

get_option_has : (t : Sexp Tok) (ts : Sexps Tok) (f : CommandForm) → Begins t command.GetOption ts → get_option_form ts ≡ Some f → HasForm t f
get_option_has t ts f b h =
    option_and_then_some _ (token_first ts) f h (λ a p h1.
    option_and_then_some _ (guard (is_keyword a.0)) f h1 (λ v r h2.
    option_and_then_some _ (guard (is_empty a.1)) f h2 (λ u q h3.
    formed t f _ h3 ((begun b (token_is_first ts a p ∙ ap (cons (atom a.0)) (end_is a.1 u q)), guard_true (is_keyword a.0) v r)))))

pop_has : (t : Sexp Tok) (ts : Sexps Tok) (f : CommandForm) → Begins t command.Pop ts → pop_form ts ≡ Some f → HasForm t f
pop_has t ts f b h =
    option_and_then_some _ (token_first ts) f h (λ a p h1.
    option_and_then_some _ (guard (is_numeral a.0)) f h1 (λ v r h2.
    option_and_then_some _ (guard (is_empty a.1)) f h2 (λ u q h3.
    formed t f _ h3 ((begun b (token_is_first ts a p ∙ ap (cons (atom a.0)) (end_is a.1 u q)), guard_true (is_numeral a.0) v r)))))

push_has : (t : Sexp Tok) (ts : Sexps Tok) (f : CommandForm) → Begins t command.Push ts → push_form ts ≡ Some f → HasForm t f
push_has t ts f b h =
    option_and_then_some _ (token_first ts) f h (λ a p h1.
    option_and_then_some _ (guard (is_numeral a.0)) f h1 (λ v r h2.
    option_and_then_some _ (guard (is_empty a.1)) f h2 (λ u q h3.
    formed t f _ h3 ((begun b (token_is_first ts a p ∙ ap (cons (atom a.0)) (end_is a.1 u q)), guard_true (is_numeral a.0) v r)))))

get_value_has : (t : Sexp Tok) (ts : Sexps Tok) (f : CommandForm) → Begins t command.GetValue ts → get_value_form ts ≡ Some f → HasForm t f
get_value_has t ts f b h =
    option_and_then_some _ (list_first ts) f h (λ a p h1.
    option_and_then_some _ (guard (not (is_empty a.0))) f h1 (λ v r h2.
    option_and_then_some _ (guard (is_empty a.1)) f h2 (λ u q h3.
    formed t f _ h3 (let l = list_is_first ts a p in (l.0, begun b (l.1 ∙ ap (cons (list l.0 a.0)) (end_is a.1 u q)), guard_true (not (is_empty a.0)) v r)))))

set_logic_has : (t : Sexp Tok) (ts : Sexps Tok) (f : CommandForm) → Begins t command.SetLogic ts → set_logic_form ts ≡ Some f → HasForm t f
set_logic_has t ts f b h =
    option_and_then_some _ (symbol_first ts) f h (λ a p h1.
    option_and_then_some _ (guard (is_empty a.1)) f h1 (λ u q h2.
    formed t f _ h2 (let s = symbol_is_first ts a p in (begun b (s.1 ∙ ap (cons (atom a.0)) (end_is a.1 u q)), s.0))))

abbrev value_by : Bool → Sexp Tok → Sexps Tok → Option (Sexp Tok) × Sexps Tok
value_by b v us = if b then (Some v, us) else (None, cons v us)

value_tested : (k : Tok) (v : Sexp Tok) (us : Sexps Tok) (b : Bool) → is_value v ≡ b → IsTrue (is_keyword k) → IsTrue (is_empty (value_by b v us).1)
    → ReadsAttribute (cons (atom k) (cons v us)) (attribute_of k (value_by b v us).0)
value_tested k v us true i h e = (ap (λ xs. cons (atom k) (cons v xs)) (empty_nil us e), h, i)
value_tested k v us false i h e = absurd (cc)

-- the value that comes next, where nothing comes after it
attribute_by : (k : Tok) (us : Sexps Tok) → IsTrue (is_keyword k) → IsTrue (is_empty (value_first us).1) → ReadsAttribute (cons (atom k) us) (attribute_of k (value_first us).0)
attribute_by k nil h e = (refl, h)
attribute_by k (cons v us) h e = value_tested k v us (is_value v) refl h e

attribute_has : (ts : Sexps Tok) (p : Tok × Option (Sexp Tok)) → attribute_parts ts ≡ Some p → ReadsAttribute ts (attribute_of p.0 p.1)
attribute_has ts p h =
    option_and_then_some _ (token_first ts) p h (λ a i h1.
    option_and_then_some _ (guard (is_keyword a.0)) p h1 (λ v j h2.
    option_and_then_some _ (guard (is_empty (value_first a.1).1)) p h2 (λ u q h3.
    let g : (a.0, (value_first a.1).0) ≡ p = cc in
    let P : Sexps Tok → Type 0 = λ xs. ReadsAttribute xs (attribute_of a.0 (value_first a.1).0) in
    let Q : Tok × Option (Sexp Tok) → Type 0 = λ x. ReadsAttribute ts (attribute_of x.0 x.1) in
    subst Q g (subst P (sym (token_is_first ts a i)) (attribute_by a.0 a.1 (guard_true (is_keyword a.0) v j) (guard_true (is_empty (value_first a.1).1) u q))))))

fits : (k : Tok) (v : Option (Sexp Tok)) → IsTrue (option_fits k v) → IsTrue (attribute_fits (attribute_of k v))
fits k None h = h
fits k (Some v) h = h

set_info_has : (t : Sexp Tok) (ts : Sexps Tok) (f : CommandForm) → Begins t command.SetInfo ts → set_info_form ts ≡ Some f → HasForm t f
set_info_has t ts f b h =
    option_and_then_some _ (attribute_parts ts) f h (λ a p h1.
    formed t f _ h1 ((ts, b, attribute_has ts a p)))

set_option_has : (t : Sexp Tok) (ts : Sexps Tok) (f : CommandForm) → Begins t command.SetOption ts → set_option_form ts ≡ Some f → HasForm t f
set_option_has t ts f b h =
    option_and_then_some _ (attribute_parts ts) f h (λ a p h1.
    option_and_then_some _ (guard (option_fits a.0 a.1)) f h1 (λ u q h2.
    formed t f _ h2 ((ts, b, attribute_has ts a p, fits a.0 a.1 (guard_true (option_fits a.0 a.1) u q)))))

plain_has : (t : Sexp Tok) (word : CommandWord) (ts : Sexps Tok) (k : RawCommandKind) (f : CommandForm) → Begins t word ts → plain_form ts k ≡ Some f
    → (Begins t word nil → HasForm t (form.Complete k)) → HasForm t f
plain_has t word ts k f b h has =
    option_and_then_some _ (guard (is_empty ts)) f h (λ u q h1.
    formed t f _ h1 (has (begun b (end_is ts u q))))

pub form_has : (word : CommandWord) (t : Sexp Tok) (ts : Sexps Tok) (f : CommandForm) → Begins t word ts → form_after word ts ≡ Some f → HasForm t f
form_has command.Assert t ts f b h = assert_has t ts f b h
form_has command.CheckSat t ts f b h = plain_has t command.CheckSat ts kind.CheckSat f b h (λ n. n)
form_has command.CheckSatAssuming t ts f b h = check_sat_assuming_has t ts f b h
form_has command.DeclareConst t ts f b h = declare_const_has t ts f b h
form_has command.DeclareDatatype t ts f b h = declare_datatype_has t ts f b h
form_has command.DeclareDatatypes t ts f b h = declare_datatypes_has t ts f b h
form_has command.DeclareFun t ts f b h = declare_fun_has t ts f b h
form_has command.DeclareSort t ts f b h = declare_sort_has t ts f b h
form_has command.DefineFun t ts f b h = define_fun_has t ts f b h
form_has command.DefineFunRec t ts f b h = define_fun_rec_has t ts f b h
form_has command.DefineFunsRec t ts f b h = define_funs_rec_has t ts f b h
form_has command.DefineSort t ts f b h = define_sort_has t ts f b h
form_has command.Echo t ts f b h = echo_has t ts f b h
form_has command.Exit t ts f b h = plain_has t command.Exit ts kind.Exit f b h (λ n. n)
form_has command.GetAssertions t ts f b h = plain_has t command.GetAssertions ts kind.GetAssertions f b h (λ n. n)
form_has command.GetAssignment t ts f b h = plain_has t command.GetAssignment ts kind.GetAssignment f b h (λ n. n)
form_has command.GetInfo t ts f b h = get_info_has t ts f b h
form_has command.GetModel t ts f b h = plain_has t command.GetModel ts kind.GetModel f b h (λ n. n)
form_has command.GetOption t ts f b h = get_option_has t ts f b h
form_has command.GetProof t ts f b h = plain_has t command.GetProof ts kind.GetProof f b h (λ n. n)
form_has command.GetUnsatAssumptions t ts f b h = plain_has t command.GetUnsatAssumptions ts kind.GetUnsatAssumptions f b h (λ n. n)
form_has command.GetUnsatCore t ts f b h = plain_has t command.GetUnsatCore ts kind.GetUnsatCore f b h (λ n. n)
form_has command.GetValue t ts f b h = get_value_has t ts f b h
form_has command.Pop t ts f b h = pop_has t ts f b h
form_has command.Push t ts f b h = push_has t ts f b h
form_has command.Reset t ts f b h = plain_has t command.Reset ts kind.Reset f b h (λ n. n)
form_has command.ResetAssertions t ts f b h = plain_has t command.ResetAssertions ts kind.ResetAssertions f b h (λ n. n)
form_has command.SetInfo t ts f b h = set_info_has t ts f b h
form_has command.SetLogic t ts f b h = set_logic_has t ts f b h
form_has command.SetOption t ts f b h = set_option_has t ts f b h
form_has command.Other t ts f b h = absurd (cc)
