-- A tree is a command where it has the form of one and the sorts and terms in it read.
use Rattle.std.proofs.Common.{◌≡◌, Ok, IsTrue, refl, ap, sym, subst, ◌∙◌}
use Rattle.lex_core.specs.declared.token.Tok.{Tok}
use Rattle.sexp_core.specs.Sexp.{Sexp, atom, list, Sexps, nil, cons}
use Rattle.sexp_core.specs.Parts.{whole}
use Rattle.term_grammar.specs.FirstParts.{part_of, atoms}
use Rattle.term_grammar.specs.Syntax.{Sort, Sorts, Term, Terms}
use Rattle.term_grammar.specs.Codes.{tokens_of-atoms}
use Rattle.term_grammar.specs.Reads.{made_of, made_of_two, read_sort, read_sorts, read_term, read_terms}
use Rattle.term_grammar.specs.Grammar.{ReadsSort, ReadsSorts, ReadsTerm, ReadsTerms}
use Rattle.term_grammar.proofs.FormsRead.{whole-part_of}
use Rattle.term_grammar.proofs.GrammarComplete.{sort_complete, sorts_complete, term_complete, terms_complete}
use Rattle.term_grammar.proofs.GrammarSound.{sort_sound, sorts_sound, term_sound, terms_sound}
use Rattle.cmd_grammar.specs.declared.command_kind.RawCommandKind.{RawCommandKind}
use Rattle.cmd_grammar.specs.declared.command_kind.RawCommandKind.TheVariants as kind
use Rattle.cmd_grammar.specs.declared.command_form.CommandForm.{CommandForm}
use Rattle.cmd_grammar.specs.declared.command_form.CommandForm.TheVariants as form
use Rattle.cmd_grammar.specs.declared.command_form.DeclarationForm.{DeclarationForm}
use Rattle.cmd_grammar.specs.declared.command_form.DeclarationForm.TheVariants as declaration
use Rattle.cmd_grammar.specs.TreeLists.{read_all}
use Rattle.cmd_grammar.specs.Commands.{Command, assert, check_sat, check_sat_assuming, declare_const, declare_datatype, declare_datatypes, declare_fun, declare_sort, define_fun, define_fun_rec, define_funs_rec, define_sort, echo, exit, get_assertions, get_assignment, get_info, get_model, get_option, get_proof, get_unsat_assumptions, get_unsat_core, get_value, pop, push, reset, reset_assertions, set_info, set_logic, set_option}
use Rattle.cmd_grammar.specs.DeclarationForms.{is_sort_dec, is_data_dec, is_fun_dec, is_literal}
use Rattle.cmd_grammar.specs.DeclarationReads.{literal_of, sort_dec_of, read_data_dec, read_fun_dec, read_fun_def}
use Rattle.cmd_grammar.specs.CommandViews.{command_from}
use Rattle.cmd_grammar.specs.CommandReads.{declaration_by, command_by}
use Rattle.cmd_grammar.specs.FormGrammar.{HasKind, HasDeclaration, HasForm}
use Rattle.cmd_grammar.specs.Grammar.{ReadsLiteral, ReadsSortDec, ReadsDataDec, ReadsFunDec, ReadsCommand}
use Rattle.cmd_grammar.proofs.FormsHave.{begun}
use Rattle.cmd_grammar.proofs.EachAgrees.{if_ok, made_is, made_two_is, each_found, each_read, each_seen, each_shown, symbols_found, symbols_shown}
use Rattle.cmd_grammar.proofs.DeclarationsAgree.{literal_found, literal_shown, sort_dec_found, sort_dec_shown, data_found, data_read, fun_dec_found, fun_dec_read, fun_def_found, fun_def_read}

-- what reads is as the grammar says

sort_is : (t : Sexp Tok) (s : Sort) → read_sort t ≡ Ok s → ReadsSort t s
sort_is t s e = if_ok (read_sort t) (ReadsSort t) s (sort_complete t) e

sorts_are : (ts : Sexps Tok) (ss : Sorts) → read_sorts ts ≡ Ok ss → ReadsSorts ts ss
sorts_are ts ss e = if_ok (read_sorts ts) (ReadsSorts ts) ss (sorts_complete ts) e

term_is : (t : Sexp Tok) (u : Term) → read_term t ≡ Ok u → ReadsTerm t u
term_is t u e = if_ok (read_term t) (ReadsTerm t) u (term_complete t) e

terms_are : (ts : Sexps Tok) (us : Terms) → read_terms ts ≡ Ok us → ReadsTerms ts us
terms_are ts us e = if_ok (read_terms ts) (ReadsTerms ts) us (terms_complete ts) e

kind_reads : (t : Sexp Tok) (k : RawCommandKind) → HasKind t k → ReadsCommand t (command_from k)
kind_reads t kind.CheckSat b = b
kind_reads t (kind.CheckSatAssuming ls) (at, ts, b, h, e) =
    subst (λ x. ReadsCommand t (check_sat_assuming x)) (sym e) (at, ts, b, each_seen literal_of ReadsLiteral is_literal literal_found ts h)
kind_reads t (kind.DeclareSort n a) h = h
kind_reads t (kind.Echo s) h = h
kind_reads t kind.Exit b = b
kind_reads t kind.GetAssertions b = b
kind_reads t kind.GetAssignment b = b
kind_reads t (kind.GetInfo k) h = h
kind_reads t kind.GetModel b = b
kind_reads t (kind.GetOption k) h = h
kind_reads t kind.GetProof b = b
kind_reads t kind.GetUnsatAssumptions b = b
kind_reads t kind.GetUnsatCore b = b
kind_reads t (kind.Pop n) h = h
kind_reads t (kind.Push n) h = h
kind_reads t kind.Reset b = b
kind_reads t kind.ResetAssertions b = b
kind_reads t (kind.SetInfo a) h = h
kind_reads t (kind.SetLogic n) h = h
kind_reads t (kind.SetOption a) h = h
kind_reads t (kind.Assert u) h = absurd h
kind_reads t (kind.DeclareConst n s) h = absurd h
kind_reads t (kind.DeclareDatatype n d) h = absurd h
kind_reads t (kind.DeclareDatatypes ss ds) h = absurd h
kind_reads t (kind.DeclareFun n ss r) h = absurd h
kind_reads t (kind.DefineFun f) h = absurd h
kind_reads t (kind.DefineFunRec f) h = absurd h
kind_reads t (kind.DefineFunsRec ds bs) h = absurd h
kind_reads t (kind.DefineSort n ps s) h = absurd h
kind_reads t (kind.GetValue us) h = absurd h

declaration_reads : (t : Sexp Tok) (d : DeclarationForm) (c : Command) → HasDeclaration t d → declaration_by d ≡ Ok c → ReadsCommand t c
declaration_reads t (declaration.Const n s) c (b, h) e =
    let m = made_is (declare_const n) (read_sort (whole s)) c e in
    subst (ReadsCommand t) m.2 (whole s, b, h, sort_is (whole s) m.0 m.1)
declaration_reads t (declaration.Datatype n d) c (b, h, i) e =
    let m = made_is (declare_datatype n) (read_data_dec (whole d)) c e in
    subst (ReadsCommand t) m.2 (whole d, b, h, data_found (whole d) m.0 i m.1)
declaration_reads t (declaration.Datatypes ss ds) c (at, ts, a, b, n, i, q, k, l) e =
    let m = made_is (declare_datatypes ss) (read_all read_data_dec ds) c e in
    subst (ReadsCommand t) m.2
    (subst (λ x. ReadsCommand t (declare_datatypes x m.0)) (sym q)
    (at, ts, a, ds, b, n, each_seen sort_dec_of ReadsSortDec is_sort_dec sort_dec_found ts i, k, each_found read_data_dec ReadsDataDec is_data_dec data_found ds m.0 l m.1))
declaration_reads t (declaration.Fun n ss r) c (at, b, h) e =
    let m = made_two_is (declare_fun n) (read_sorts ss) (read_sort (whole r)) c e in
    subst (ReadsCommand t) m.4 (at, ss, whole r, b, h, sorts_are ss m.0 m.2, sort_is (whole r) m.1 m.3)
declaration_reads t (declaration.Sort n ps s) c (at, ts, b, h, i, q) e =
    let m = made_is (define_sort n ps) (read_sort (whole s)) c e in
    let z = symbols_found ts i in
    subst (ReadsCommand t) m.2
    (subst (λ x. ReadsCommand t (define_sort n x m.0)) (sym q)
    (at, whole s, begun b (ap (λ xs. cons (atom n) (cons (list at xs) (cons (whole s) nil))) z.0), h, z.1, sort_is (whole s) m.0 m.1))

pub form_reads : (t : Sexp Tok) (f : CommandForm) (c : Command) → HasForm t f → command_by f ≡ Ok c → ReadsCommand t c
form_reads t (form.Complete k) c h e = let s : command_from k ≡ c = cc in subst (ReadsCommand t) s (kind_reads t k h)
form_reads t (form.Declaration d) c h e = declaration_reads t d c h e
form_reads t (form.Assert u) c b e =
    let m = made_is assert (read_term (whole u)) c e in
    subst (ReadsCommand t) m.2 (whole u, b, term_is (whole u) m.0 m.1)
form_reads t (form.DefineFun f) c (ts, b, h) e =
    let m = made_is define_fun (read_fun_def f) c e in
    subst (ReadsCommand t) m.2 (ts, b, fun_def_found ts f m.0 h m.1)
form_reads t (form.DefineFunRec f) c (ts, b, h) e =
    let m = made_is define_fun_rec (read_fun_def f) c e in
    subst (ReadsCommand t) m.2 (ts, b, fun_def_found ts f m.0 h m.1)
form_reads t (form.DefineFunsRec ds bs) c (at, a, b, n, h, i, q) e =
    let m = made_two_is define_funs_rec (read_all read_fun_dec ds) (read_terms bs) c e in
    subst (ReadsCommand t) m.4
    (at, ds, a, bs, b, n, each_found read_fun_dec ReadsFunDec is_fun_dec fun_dec_found ds m.0 h m.2, i, terms_are bs m.1 m.3, q)
form_reads t (form.GetValue us) c (at, b, n) e =
    let m = made_is get_value (read_terms us) c e in
    subst (ReadsCommand t) m.2 (at, us, b, n, terms_are us m.0 m.1)

-- what the grammar says is read

abbrev pub FormReads : Sexp Tok → Command → Type 0
FormReads t c = (f : CommandForm) × HasForm t f × (command_by f ≡ Ok c)

-- a tree as a part
seen_whole : (v : Sexp Tok) → v ≡ whole (part_of v)
seen_whole v = sym (whole-part_of v)

pub command_shown : (t : Sexp Tok) (c : Command) → ReadsCommand t c → FormReads t c
command_shown t (assert u) (v, b, h) =
    (form.Assert (part_of v), begun b (ap (λ x. cons x nil) (seen_whole v)), ap (made_of assert) (ap read_term (whole-part_of v) ∙ term_sound u v h))
command_shown t check_sat b = (form.Complete kind.CheckSat, b, refl)
command_shown t (check_sat_assuming ls) (at, ts, b, h) =
    let n = each_shown literal_of ReadsLiteral is_literal literal_shown ls ts h in (form.Complete (kind.CheckSatAssuming ls), (at, ts, b, n.1, n.0), refl)
command_shown t (declare_const n s) (u, b, h, k) = (
  form.Declaration (declaration.Const n (part_of u)),
  (begun b (ap (λ x. cons (atom n) (cons x nil)) (seen_whole u)), h),
  ap (made_of (declare_const n)) (ap read_sort (whole-part_of u) ∙ sort_sound s u k),
)
command_shown t (declare_datatype n d) (u, b, h, k) =
    let m = data_read u d k in (
      form.Declaration (declaration.Datatype n (part_of u)),
      (begun b (ap (λ x. cons (atom n) (cons x nil)) (seen_whole u)), h, subst (λ x. IsTrue (is_data_dec x)) (seen_whole u) m.1),
      ap (made_of (declare_datatype n)) (ap read_data_dec (whole-part_of u) ∙ m.0),
    )
command_shown t (declare_datatypes ss ds) (at, ts, a, us, b, n, h, q, k) =
    let l = each_shown sort_dec_of ReadsSortDec is_sort_dec sort_dec_shown ss ts h in
    let m = each_read read_data_dec ReadsDataDec is_data_dec data_read ds us k in
    (form.Declaration (declaration.Datatypes ss us), (at, ts, a, b, n, l.1, l.0, q, m.1), ap (made_of (declare_datatypes ss)) m.0)
command_shown t (declare_fun n ss s) (at, ts, u, b, h, k, l) = (
  form.Declaration (declaration.Fun n ts (part_of u)),
  (at, begun b (ap (λ x. cons (atom n) (cons (list at ts) (cons x nil))) (seen_whole u)), h),
  ap (λ r. made_of_two (declare_fun n) r (read_sort (whole (part_of u)))) (sorts_sound ss ts k)
      ∙ ap (made_of (declare_fun n ss)) (ap read_sort (whole-part_of u) ∙ sort_sound s u l),
)
command_shown t (declare_sort n a) h = (form.Complete (kind.DeclareSort n a), h, refl)
command_shown t (define_fun f) (ts, b, h) =
    let (p, k, e) = fun_def_read ts f h in (form.DefineFun p, (ts, b, k), ap (made_of define_fun) e)
command_shown t (define_fun_rec f) (ts, b, h) =
    let (p, k, e) = fun_def_read ts f h in (form.DefineFunRec p, (ts, b, k), ap (made_of define_fun_rec) e)
command_shown t (define_funs_rec fs us) (at, ts, a, vs, b, n, h, q, k, e) =
    let m = each_read read_fun_dec ReadsFunDec is_fun_dec fun_dec_read fs ts h in (
      form.DefineFunsRec ts vs,
      (at, a, b, n, m.1, q, e),
      ap (λ r. made_of_two define_funs_rec r (read_terms vs)) m.0 ∙ ap (made_of (define_funs_rec fs)) (terms_sound us vs k),
    )
command_shown t (define_sort n ps s) (at, u, b, h, k, l) = (
  form.Declaration (declaration.Sort n ps (part_of u)),
  (at, atoms ps, begun b (ap (λ x. cons (atom n) (cons (list at (atoms ps)) (cons x nil))) (seen_whole u)), h, symbols_shown ps k, sym (tokens_of-atoms ps)),
  ap (made_of (define_sort n ps)) (ap read_sort (whole-part_of u) ∙ sort_sound s u l),
)
command_shown t (echo s) h = (form.Complete (kind.Echo s), h, refl)
command_shown t exit b = (form.Complete kind.Exit, b, refl)
command_shown t get_assertions b = (form.Complete kind.GetAssertions, b, refl)
command_shown t get_assignment b = (form.Complete kind.GetAssignment, b, refl)
command_shown t (get_info k) h = (form.Complete (kind.GetInfo k), h, refl)
command_shown t get_model b = (form.Complete kind.GetModel, b, refl)
command_shown t (get_option k) h = (form.Complete (kind.GetOption k), h, refl)
command_shown t get_proof b = (form.Complete kind.GetProof, b, refl)
command_shown t get_unsat_assumptions b = (form.Complete kind.GetUnsatAssumptions, b, refl)
command_shown t get_unsat_core b = (form.Complete kind.GetUnsatCore, b, refl)
command_shown t (get_value us) (at, vs, b, n, h) = (form.GetValue vs, (at, b, n), ap (made_of get_value) (terms_sound us vs h))
command_shown t (pop n) h = (form.Complete (kind.Pop n), h, refl)
command_shown t (push n) h = (form.Complete (kind.Push n), h, refl)
command_shown t reset b = (form.Complete kind.Reset, b, refl)
command_shown t reset_assertions b = (form.Complete kind.ResetAssertions, b, refl)
command_shown t (set_info a) h = (form.Complete (kind.SetInfo a), h, refl)
command_shown t (set_logic n) h = (form.Complete (kind.SetLogic n), h, refl)
command_shown t (set_option a) h = (form.Complete (kind.SetOption a), h, refl)
