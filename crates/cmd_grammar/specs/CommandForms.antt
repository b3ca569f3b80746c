-- The form of a command: the parts of its production, where any tree is a sort or a term. A command without sorts and
-- terms is complete.
use Rattle.std.specs.Prelude.{ℕ, map, Bool, true, false, not, ◌==◌, Option, Some, None, Result, Ok, Err, if◌then◌else◌}
use Rattle.sig_table.specs.declared.code.Code.TheVariants as code
use Rattle.lex_core.specs.declared.token.Tok.{Tok}
use Rattle.lex_core.specs.declared.place.Place.{Place}
use Rattle.sexp_core.specs.Sexp.{Sexp, atom, list, Sexps, count_of}
use Rattle.sexp_core.specs.Parts.{whole}
use Rattle.cmd_grammar.specs.declared.command_word.CommandWord.{CommandWord}
use Rattle.cmd_grammar.specs.declared.command_word.CommandWord.TheVariants as command
use Rattle.cmd_grammar.specs.declared.command_form.CommandForm.{CommandForm}
use Rattle.cmd_grammar.specs.declared.command_form.CommandForm.TheVariants as form
use Rattle.cmd_grammar.specs.declared.command_form.DeclarationForm.TheVariants as declaration
use Rattle.cmd_grammar.specs.declared.command_kind.RawCommandKind.{RawCommandKind}
use Rattle.cmd_grammar.specs.declared.command_kind.RawCommandKind.TheVariants as kind
use Rattle.term_grammar.specs.Words.{is_numeral, is_string, is_keyword}
use Rattle.term_grammar.specs.FirstParts.{◌>>=◌, any_first, token_first, symbol_first, list_first, is_empty, guard}
use Rattle.term_grammar.specs.TermForms.{are_symbols}
use Rattle.term_grammar.specs.Reads.{tokens_of, attribute_of}
use Rattle.cmd_grammar.specs.TreeLists.{each_tree}
use Rattle.cmd_grammar.specs.DeclarationReads.{literal_of, sort_dec_of}
use Rattle.cmd_grammar.specs.DeclarationForms.{are_sort_decs, is_data_dec, are_data_decs, are_fun_decs, are_literals, attribute_parts, option_fits, fun_def_parts}
use Rattle.cmd_grammar.specs.CommandWords.{command_begun_by}

-- ( assert term )
abbrev pub assert_form : Sexps Tok → Option CommandForm
assert_form ts = do
  a ← any_first ts
  _ ← guard (is_empty a.1)
  Some (form.Assert a.0)

-- ( check-sat-assuming ( literal* ) )
abbrev pub check_sat_assuming_form : Sexps Tok → Option CommandForm
check_sat_assuming_form ts = do
  a ← list_first ts
  _ ← guard (are_literals a.0)
  _ ← guard (is_empty a.1)
  Some (form.Complete (kind.CheckSatAssuming (map literal_of (each_tree a.0))))

-- ( declare-const symbol sort )
abbrev pub declare_const_form : Sexps Tok → Option CommandForm
declare_const_form ts = do
  a ← symbol_first ts
  b ← any_first a.1
  _ ← guard (is_empty b.1)
  Some (form.Declaration (declaration.Const a.0 b.0))

-- ( declare-datatype symbol data_dec )
abbrev pub declare_datatype_form : Sexps Tok → Option CommandForm
declare_datatype_form ts = do
  a ← symbol_first ts
  b ← any_first a.1
  _ ← guard (is_data_dec (whole b.0))
  _ ← guard (is_empty b.1)
  Some (form.Declaration (declaration.Datatype a.0 b.0))

-- ( declare-datatypes ( sort_dec+ ) ( data_dec+ ) )
abbrev pub declare_datatypes_form : Sexps Tok → Option CommandForm
declare_datatypes_form ts = do
  a ← list_first ts
  b ← list_first a.1
  _ ← guard (not (is_empty a.0))
  _ ← guard (are_sort_decs a.0)
  _ ← guard (not (is_empty b.0))
  _ ← guard (are_data_decs b.0)
  _ ← guard (is_empty b.1)
  Some (form.Declaration (declaration.Datatypes (map sort_dec_of (each_tree a.0)) b.0))

-- ( declare-fun symbol ( sort* ) sort )
abbrev pub declare_fun_form : Sexps Tok → Option CommandForm
declare_fun_form ts = do
  a ← symbol_first ts
  b ← list_first a.1
  c ← any_first b.1
  _ ← guard (is_empty c.1)
  Some (form.Declaration (declaration.Fun a.0 b.0 c.0))

-- ( declare-sort symbol numeral )
abbrev pub declare_sort_form : Sexps Tok → Option CommandForm
declare_sort_form ts = do
  a ← symbol_first ts
  b ← token_first a.1
  _ ← guard (is_numeral b.0)
  _ ← guard (is_empty b.1)
  Some (form.Complete (kind.DeclareSort a.0 b.0))

-- ( define-fun fun_def )
abbrev pub define_fun_form : Sexps Tok → Option CommandForm
define_fun_form ts = do
  f ← fun_def_parts ts
  Some (form.DefineFun f)

-- ( define-fun-rec fun_def )
abbrev pub define_fun_rec_form : Sexps Tok → Option CommandForm
define_fun_rec_form ts = do
  f ← fun_def_parts ts
  Some (form.DefineFunRec f)

-- ( define-funs-rec ( fun_dec+ ) ( term+ ) ), with lists of equal lengths
abbrev pub define_funs_rec_form : Sexps Tok → Option CommandForm
define_funs_rec_form ts = do
  a ← list_first ts
  b ← list_first a.1
  _ ← guard (not (is_empty a.0))
  _ ← guard (are_fun_decs a.0)
  _ ← guard (not (is_empty b.0))
  _ ← guard (is_empty b.1)
  _ ← guard (count_of a.0 == count_of b.0)
  Some (form.DefineFunsRec a.0 b.0)

-- ( define-sort symbol ( symbol* ) sort )
abbrev pub define_sort_form : Sexps Tok → Option CommandForm
define_sort_form ts = do
  a ← symbol_first ts
  b ← list_first a.1
  c ← any_first b.1
  _ ← guard (are_symbols b.0)
  _ ← guard (is_empty c.1)
  Some (form.Declaration (declaration.Sort a.0 (tokens_of b.0) c.0))

-- ( echo string )
abbrev pub echo_form : Sexps Tok → Option CommandForm
echo_form ts = do
  a ← token_first ts
  _ ← guard (is_string a.0)
  _ ← guard (is_empty a.1)
  Some (form.Complete (kind.Echo a.0))

-- ( get-info keyword )
abbrev pub get_info_form : Sexps Tok → Option CommandForm
get_info_form ts = do
  a ← token_first ts
  _ ← guard (is_keyword a.0)
  _ ← guard (is_empty a.1)
  Some (form.Complete (kind.GetInfo a.0))

-- ( get-option keyword )
abbrev pub get_option_form : Sexps Tok → Option CommandForm
get_option_form ts = do
  a ← token_first ts
  _ ← guard (is_keyword a.0)
  _ ← guard (is_empty a.1)
  Some (form.Complete (kind.GetOption a.0))

-- ( get-value ( term+ ) )
abbrev pub get_value_form : Sexps Tok → Option CommandForm
get_value_form ts = do
  a ← list_first ts
  _ ← guard (not (is_empty a.0))
  _ ← guard (is_empty a.1)
  Some (form.GetValue a.0)

-- ( pop numeral )
abbrev pub pop_form : Sexps Tok → Option CommandForm
pop_form ts = do
  a ← token_first ts
  _ ← guard (is_numeral a.0)
  _ ← guard (is_empty a.1)
  Some (form.Complete (kind.Pop a.0))

-- ( push numeral )
abbrev pub push_form : Sexps Tok → Option CommandForm
push_form ts = do
  a ← token_first ts
  _ ← guard (is_numeral a.0)
  _ ← guard (is_empty a.1)
  Some (form.Complete (kind.Push a.0))

-- ( set-info attribute )
abbrev pub set_info_form : Sexps Tok → Option CommandForm
set_info_form ts = do
  a ← attribute_parts ts
  Some (form.Complete (kind.SetInfo (attribute_of a.0 a.1)))

-- ( set-logic symbol )
abbrev pub set_logic_form : Sexps Tok → Option CommandForm
set_logic_form ts = do
  a ← symbol_first ts
  _ ← guard (is_empty a.1)
  Some (form.Complete (kind.SetLogic a.0))

-- ( set-option attribute ), where `:global-declarations` has a truth value
abbrev pub set_option_form : Sexps Tok → Option CommandForm
set_option_form ts = do
  a ← attribute_parts ts
  _ ← guard (option_fits a.0 a.1)
  Some (form.Complete (kind.SetOption (attribute_of a.0 a.1)))

-- a command with no parts
abbrev pub plain_form : Sexps Tok → RawCommandKind → Option CommandForm
plain_form ts k = do
  _ ← guard (is_empty ts)
  Some (form.Complete k)

-- the form of a command after its word
abbrev pub form_after : CommandWord → Sexps Tok → Option CommandForm
form_after command.Assert ts = assert_form ts
form_after command.CheckSat ts = plain_form ts kind.CheckSat
form_after command.CheckSatAssuming ts = check_sat_assuming_form ts
form_after command.DeclareConst ts = declare_const_form ts
form_after command.DeclareDatatype ts = declare_datatype_form ts
form_after command.DeclareDatatypes ts = declare_datatypes_form ts
form_after command.DeclareFun ts = declare_fun_form ts
form_after command.DeclareSort ts = declare_sort_form ts
form_after command.DefineFun ts = define_fun_form ts
form_after command.DefineFunRec ts = define_fun_rec_form ts
form_after command.DefineFunsRec ts = define_funs_rec_form ts
form_after command.DefineSort ts = define_sort_form ts
form_after command.Echo ts = echo_form ts
form_after command.Exit ts = plain_form ts kind.Exit
form_after command.GetAssertions ts = plain_form ts kind.GetAssertions
form_after command.GetAssignment ts = plain_form ts kind.GetAssignment
form_after command.GetInfo ts = get_info_form ts
form_after command.GetModel ts = plain_form ts kind.GetModel
form_after command.GetOption ts = get_option_form ts
form_after command.GetProof ts = plain_form ts kind.GetProof
form_after command.GetUnsatAssumptions ts = plain_form ts kind.GetUnsatAssumptions
form_after command.GetUnsatCore ts = plain_form ts kind.GetUnsatCore
form_after command.GetValue ts = get_value_form ts
form_after command.Pop ts = pop_form ts
form_after command.Push ts = push_form ts
form_after command.Reset ts = plain_form ts kind.Reset
form_after command.ResetAssertions ts = plain_form ts kind.ResetAssertions
form_after command.SetInfo ts = set_info_form ts
form_after command.SetLogic ts = set_logic_form ts
form_after command.SetOption ts = set_option_form ts
form_after command.Other ts = None

abbrev pub is_other : CommandWord → Bool
is_other command.Other = true
is_other _ = false

abbrev pub unknown : ℕ → Result CommandForm Place
unknown at = Err (record { code = code.UnknownCommand; at = at })

abbrev pub or_wrong : ℕ → Option CommandForm → Result CommandForm Place
or_wrong at (Some f) = Ok f
or_wrong at None = Err (record { code = code.WrongCommandForm; at = at })

abbrev pub begun_form : ℕ → Tok → Sexps Tok → Result CommandForm Place
begun_form at w ts = if is_other (command_begun_by w) then unknown at else or_wrong at (form_after (command_begun_by w) ts)

abbrev pub begun_by : ℕ → Option (Tok × Sexps Tok) → Result CommandForm Place
begun_by at None = unknown at
begun_by at (Some p) = begun_form at p.0 p.1

abbrev pub list_form : ℕ → Sexps Tok → Result CommandForm Place
list_form at ts = begun_by at (token_first ts)

-- The form of a command, or why it has none: first the word that begins it, then its parts.
abbrev pub command_form : Sexp Tok → Result CommandForm Place
command_form (atom t) = unknown t.at
command_form (list at ts) = list_form at ts
