-- The grammar of commands: what a tree reads as, or why it reads as nothing.
use Rattle.std.specs.Prelude.{ℕ, Result, Ok, Err}
use Rattle.sig_table.specs.declared.code.Code.TheVariants as code
use Rattle.lex_core.specs.declared.token.Tok.{Tok}
use Rattle.lex_core.specs.declared.place.Place.{Place}
use Rattle.sexp_core.specs.Sexp.{Sexp}
use Rattle.sexp_core.specs.Parts.{whole}
use Rattle.cmd_grammar.specs.declared.command_form.CommandForm.{CommandForm}
use Rattle.cmd_grammar.specs.declared.command_form.CommandForm.TheVariants as form
use Rattle.cmd_grammar.specs.declared.command_form.DeclarationForm.{DeclarationForm}
use Rattle.cmd_grammar.specs.declared.command_form.DeclarationForm.TheVariants as declaration
use Rattle.term_grammar.specs.Reads.{made_of, made_of_two, read_sort, read_sorts, read_term, read_terms}
use Rattle.cmd_grammar.specs.TreeLists.{read_all}
use Rattle.cmd_grammar.specs.Commands.{Command, assert, declare_const, declare_datatype, declare_datatypes, declare_fun, define_fun, define_fun_rec, define_funs_rec, define_sort, get_value}
use Rattle.cmd_grammar.specs.CommandForms.{command_form}
use Rattle.cmd_grammar.specs.DeclarationReads.{read_data_dec, read_fun_dec, read_fun_def}
use Rattle.cmd_grammar.specs.CommandViews.{command_from}

abbrev pub declaration_by : DeclarationForm → Result Command ℕ
declaration_by (declaration.Const n s) = made_of (declare_const n) (read_sort (whole s))
declaration_by (declaration.Datatype n d) = made_of (declare_datatype n) (read_data_dec (whole d))
declaration_by (declaration.Datatypes ss ds) = made_of (declare_datatypes ss) (read_all read_data_dec ds)
declaration_by (declaration.Fun n ss r) = made_of_two (declare_fun n) (read_sorts ss) (read_sort (whole r))
declaration_by (declaration.Sort n ps s) = made_of (define_sort n ps) (read_sort (whole s))

-- the command of a form, or the byte of the first tree in the position of a sort or a term that has no shape
abbrev pub command_by : CommandForm → Result Command ℕ
command_by (form.Complete k) = Ok (command_from k)
command_by (form.Declaration d) = declaration_by d
command_by (form.Assert t) = made_of assert (read_term (whole t))
command_by (form.DefineFun f) = made_of define_fun (read_fun_def f)
command_by (form.DefineFunRec f) = made_of define_fun_rec (read_fun_def f)
command_by (form.DefineFunsRec fs bs) = made_of_two define_funs_rec (read_all read_fun_dec fs) (read_terms bs)
command_by (form.GetValue ts) = made_of get_value (read_terms ts)

abbrev pub or_wrong_term : Result Command ℕ → Result Command Place
or_wrong_term (Ok c) = Ok c
or_wrong_term (Err at) = Err (record { code = code.WrongTermForm; at = at })

abbrev pub command_of_form : Result CommandForm Place → Result Command Place
command_of_form (Ok f) = or_wrong_term (command_by f)
command_of_form (Err place) = Err place

-- The command that a tree reads as, or why it reads as none: first the name of the command, then the command's form, then
-- the sorts and terms in it, a tree before its parts.
unfoldable pub read_command : Sexp Tok → Result Command Place
read_command t = command_of_form (command_form t)
