-- The forms of commands (SMT-LIB 2.6, section 3.9) as a relation, one case for each command: any tree fits in the position of
-- a sort or a term.
use Rattle.std.specs.Prelude.{◌≡◌, ℕ, Bool, map, Some, None, IsTrue}
use Rattle.lex_core.specs.declared.token.Tok.{Tok}
use Rattle.sexp_core.specs.Sexp.{Sexp, atom, list, Sexps, nil, cons, count_of}
use Rattle.sexp_core.specs.Parts.{whole}
use Rattle.term_grammar.specs.Words.{is_symbol, is_numeral, is_string, is_keyword}
use Rattle.term_grammar.specs.Syntax.{Attribute, keyword_attribute, valued_attribute}
use Rattle.term_grammar.specs.Grammar.{NotEmpty, ReadsAttribute}
use Rattle.term_grammar.specs.TermForms.{are_symbols, are_named}
use Rattle.term_grammar.specs.Reads.{tokens_of}
use Rattle.cmd_grammar.specs.declared.command_word.CommandWord.{CommandWord}
use Rattle.cmd_grammar.specs.declared.command_word.CommandWord.TheVariants as command
use Rattle.cmd_grammar.specs.declared.command_kind.RawCommandKind.{RawCommandKind}
use Rattle.cmd_grammar.specs.declared.command_kind.RawCommandKind.TheVariants as kind
use Rattle.cmd_grammar.specs.declared.declaration_form.FunDefParts.{FunDefParts}
use Rattle.cmd_grammar.specs.declared.command_form.CommandForm.{CommandForm}
use Rattle.cmd_grammar.specs.declared.command_form.CommandForm.TheVariants as form
use Rattle.cmd_grammar.specs.declared.command_form.DeclarationForm.{DeclarationForm}
use Rattle.cmd_grammar.specs.declared.command_form.DeclarationForm.TheVariants as declaration
use Rattle.cmd_grammar.specs.TreeLists.{each_tree}
use Rattle.cmd_grammar.specs.CommandWords.{command_begun_by}
use Rattle.cmd_grammar.specs.DeclarationForms.{are_sort_decs, is_data_dec, are_data_decs, are_fun_decs, are_literals, option_fits}
use Rattle.cmd_grammar.specs.DeclarationReads.{literal_of, sort_dec_of}

-- a list that begins with the name of a command, and the trees after the name
abbrev pub Begins : Sexp Tok → CommandWord → Sexps Tok → Type 0
Begins t word ts = (at : ℕ) × (w : Tok) × (t ≡ list at (cons (atom w) ts)) × (command_begun_by w ≡ word)

-- `:global-declarations` is set to `true` or `false`
abbrev pub attribute_fits : Attribute → Bool
attribute_fits (keyword_attribute k) = option_fits k None
attribute_fits (valued_attribute k v) = option_fits k (Some v)

-- symbol ( variable* ) sort term
abbrev pub HasFunDef : Sexps Tok → FunDefParts → Type 0
HasFunDef ts f =
    (at : ℕ) × (ts ≡ cons (atom f.name) (cons (list at f.params) (cons (whole f.result) (cons (whole f.body) nil))))
    × IsTrue (is_symbol f.name) × IsTrue (are_named f.params)

-- the commands without sorts and terms
abbrev pub HasKind : Sexp Tok → RawCommandKind → Type 0
HasKind t kind.CheckSat = Begins t command.CheckSat nil
HasKind t (kind.CheckSatAssuming ls) =
    (at : ℕ) × (ts : Sexps Tok) × Begins t command.CheckSatAssuming (cons (list at ts) nil) × IsTrue (are_literals ts) × (ls ≡ map literal_of (each_tree ts))
HasKind t (kind.DeclareSort n a) = Begins t command.DeclareSort (cons (atom n) (cons (atom a) nil)) × IsTrue (is_symbol n) × IsTrue (is_numeral a)
HasKind t (kind.Echo s) = Begins t command.Echo (cons (atom s) nil) × IsTrue (is_string s)
HasKind t kind.Exit = Begins t command.Exit nil
HasKind t kind.GetAssertions = Begins t command.GetAssertions nil
HasKind t kind.GetAssignment = Begins t command.GetAssignment nil
HasKind t (kind.GetInfo k) = Begins t command.GetInfo (cons (atom k) nil) × IsTrue (is_keyword k)
HasKind t kind.GetModel = Begins t command.GetModel nil
HasKind t (kind.GetOption k) = Begins t command.GetOption (cons (atom k) nil) × IsTrue (is_keyword k)
HasKind t kind.GetProof = Begins t command.GetProof nil
HasKind t kind.GetUnsatAssumptions = Begins t command.GetUnsatAssumptions nil
HasKind t kind.GetUnsatCore = Begins t command.GetUnsatCore nil
HasKind t (kind.Pop n) = Begins t command.Pop (cons (atom n) nil) × IsTrue (is_numeral n)
HasKind t (kind.Push n) = Begins t command.Push (cons (atom n) nil) × IsTrue (is_numeral n)
HasKind t kind.Reset = Begins t command.Reset nil
HasKind t kind.ResetAssertions = Begins t command.ResetAssertions nil
HasKind t (kind.SetInfo a) = (ts : Sexps Tok) × Begins t command.SetInfo ts × ReadsAttribute ts a
HasKind t (kind.SetLogic n) = Begins t command.SetLogic (cons (atom n) nil) × IsTrue (is_symbol n)
HasKind t (kind.SetOption a) = (ts : Sexps Tok) × Begins t command.SetOption ts × ReadsAttribute ts a × IsTrue (attribute_fits a)
HasKind t _ = ⊥

-- the declarations with sorts, and the definition of a sort
abbrev pub HasDeclaration : Sexp Tok → DeclarationForm → Type 0
HasDeclaration t (declaration.Const n s) = Begins t command.DeclareConst (cons (atom n) (cons (whole s) nil)) × IsTrue (is_symbol n)
HasDeclaration t (declaration.Datatype n d) =
    Begins t command.DeclareDatatype (cons (atom n) (cons (whole d) nil)) × IsTrue (is_symbol n) × IsTrue (is_data_dec (whole d))
HasDeclaration t (declaration.Datatypes ss ds) =
    (at : ℕ) × (ts : Sexps Tok) × (b : ℕ) × Begins t command.DeclareDatatypes (cons (list at ts) (cons (list b ds) nil))
    × NotEmpty ts × IsTrue (are_sort_decs ts) × (ss ≡ map sort_dec_of (each_tree ts)) × NotEmpty ds × IsTrue (are_data_decs ds)
HasDeclaration t (declaration.Fun n ss r) =
    (at : ℕ) × Begins t command.DeclareFun (cons (atom n) (cons (list at ss) (cons (whole r) nil))) × IsTrue (is_symbol n)
HasDeclaration t (declaration.Sort n ps s) =
    (at : ℕ) × (ts : Sexps Tok) × Begins t command.DefineSort (cons (atom n) (cons (list at ts) (cons (whole s) nil)))
    × IsTrue (is_symbol n) × IsTrue (are_symbols ts) × (ps ≡ tokens_of ts)

-- the form of a command
abbrev pub HasForm : Sexp Tok → CommandForm → Type 0
HasForm t (form.Complete k) = HasKind t k
HasForm t (form.Declaration d) = HasDeclaration t d
HasForm t (form.Assert u) = Begins t command.Assert (cons (whole u) nil)
HasForm t (form.DefineFun f) = (ts : Sexps Tok) × Begins t command.DefineFun ts × HasFunDef ts f
HasForm t (form.DefineFunRec f) = (ts : Sexps Tok) × Begins t command.DefineFunRec ts × HasFunDef ts f
HasForm t (form.DefineFunsRec ds bs) =
    (at : ℕ) × (b : ℕ) × Begins t command.DefineFunsRec (cons (list at ds) (cons (list b bs) nil))
    × NotEmpty ds × IsTrue (are_fun_decs ds) × NotEmpty bs × (count_of ds ≡ count_of bs)
HasForm t (form.GetValue us) = (at : ℕ) × Begins t command.GetValue (cons (list at us) nil) × NotEmpty us
