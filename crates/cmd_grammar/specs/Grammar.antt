-- The grammar of commands (SMT-LIB 2.6, section 3.9): which trees are which commands, one case for each command, and what is
-- wrong with a tree that is none.
use Rattle.std.specs.Prelude.{◌≡◌, ◌⊎◌, ℕ, not, List, [], ◌∷◌, IsTrue, ◌++◌}
use Rattle.sig_table.specs.declared.code.Code.TheVariants as code
use Rattle.lex_core.specs.declared.token.Tok.{Tok}
use Rattle.lex_core.specs.declared.place.Place.{Place}
use Rattle.sexp_core.specs.Sexp.{Sexp, atom, list, Sexps, nil, cons, count_of}
use Rattle.term_grammar.specs.declared.words.TheConstants.{PAR, NOT}
use Rattle.term_grammar.specs.Words.{is_symbol, is_numeral, is_string, is_keyword, is_reserved}
use Rattle.term_grammar.specs.FirstParts.{atoms}
use Rattle.term_grammar.specs.Grammar.{NotEmpty, AreSymbols, ReadsSort, ReadsSorts, ReadsVariables, ReadsAttribute, ReadsTerm, ReadsTerms}
use Rattle.term_grammar.specs.Reads.{byte_of}
use Rattle.cmd_grammar.specs.declared.command_word.CommandWord.{CommandWord}
use Rattle.cmd_grammar.specs.declared.command_word.CommandWord.TheVariants as command
use Rattle.cmd_grammar.specs.declared.declaration_form.FunDefParts.{FunDefParts}
use Rattle.cmd_grammar.specs.declared.command_form.CommandForm.{CommandForm}
use Rattle.cmd_grammar.specs.declared.command_form.CommandForm.TheVariants as form
use Rattle.cmd_grammar.specs.declared.command_form.DeclarationForm.TheVariants as declaration
use Rattle.term_grammar.specs.Faults.{Position, a_sort, a_term, sorts, terms, seconds, FirstFault}
use Rattle.sexp_core.specs.Parts.{whole}
use Rattle.cmd_grammar.specs.Commands.{SortDec, ConstructorDec, DataDec, plain_data, parametric_data, FunDec, FunDef, Literal, positive, negative, Command, assert, check_sat, check_sat_assuming, declare_const, declare_datatype, declare_datatypes, declare_fun, declare_sort, define_fun, define_fun_rec, define_funs_rec, define_sort, echo, exit, get_assertions, get_assignment, get_info, get_model, get_option, get_proof, get_unsat_assumptions, get_unsat_core, get_value, pop, push, reset, reset_assertions, set_info, set_logic, set_option}
use Rattle.cmd_grammar.specs.CommandForms.{is_other}
use Rattle.cmd_grammar.specs.FormGrammar.{Begins, attribute_fits, HasForm}

-- the trees read one by one
abbrev pub ReadsEach : {A : Type 0} → (Sexp Tok → A → Type 0) → Sexps Tok → List A → Type 0
ReadsEach R ts [] = ts ≡ nil
ReadsEach R ts (x ∷ xs) = (u : Sexp Tok) × (us : Sexps Tok) × (ts ≡ cons u us) × R u x × ReadsEach R us xs

-- symbol | ( not symbol )
abbrev pub ReadsLiteral : Sexp Tok → Literal → Type 0
ReadsLiteral t (positive s) = (t ≡ atom s) × IsTrue (is_symbol s)
ReadsLiteral t (negative at w s) =
    (t ≡ list at (cons (atom w) (cons (atom s) nil))) × IsTrue (is_symbol w) × (w.name ≡ NOT) × IsTrue (is_symbol s)

-- ( symbol numeral )
abbrev pub ReadsSortDec : Sexp Tok → SortDec → Type 0
ReadsSortDec t d = (t ≡ list d.at (cons (atom d.name) (cons (atom d.arity) nil))) × IsTrue (is_symbol d.name) × IsTrue (is_numeral d.arity)

-- ( symbol selector* )
abbrev pub ReadsConstructorDec : Sexp Tok → ConstructorDec → Type 0
ReadsConstructorDec t c = (us : Sexps Tok) × (t ≡ list c.at (cons (atom c.name) us)) × IsTrue (is_symbol c.name) × ReadsVariables us c.selectors

-- ( con_dec+ ) | ( par ( symbol+ ) ( con_dec+ ) )
abbrev pub ReadsDataDec : Sexp Tok → DataDec → Type 0
ReadsDataDec t (plain_data at cs) = (us : Sexps Tok) × (t ≡ list at us) × NotEmpty us × ReadsEach ReadsConstructorDec us cs
ReadsDataDec t (parametric_data at ps cs) =
    (w : Tok) × (a : ℕ) × (b : ℕ) × (us : Sexps Tok) × (t ≡ list at (cons (atom w) (cons (list a (atoms ps)) (cons (list b us) nil))))
    × IsTrue (is_reserved PAR w) × NotEmpty (atoms ps) × AreSymbols ps × NotEmpty us × ReadsEach ReadsConstructorDec us cs

-- ( symbol ( variable* ) sort )
abbrev pub ReadsFunDec : Sexp Tok → FunDec → Type 0
ReadsFunDec t f =
    (a : ℕ) × (vs : Sexps Tok) × (u : Sexp Tok) × (t ≡ list f.at (cons (atom f.name) (cons (list a vs) (cons u nil))))
    × IsTrue (is_symbol f.name) × ReadsVariables vs f.params × ReadsSort u f.result

-- symbol ( variable* ) sort term
abbrev pub ReadsFunDef : Sexps Tok → FunDef → Type 0
ReadsFunDef ts f =
    (a : ℕ) × (vs : Sexps Tok) × (u : Sexp Tok) × (v : Sexp Tok) × (ts ≡ cons (atom f.name) (cons (list a vs) (cons u (cons v nil))))
    × IsTrue (is_symbol f.name) × ReadsVariables vs f.params × ReadsSort u f.result × ReadsTerm v f.body

-- one case for each command
abbrev pub ReadsCommand : Sexp Tok → Command → Type 0
ReadsCommand t (assert u) = (v : Sexp Tok) × Begins t command.Assert (cons v nil) × ReadsTerm v u
ReadsCommand t check_sat = Begins t command.CheckSat nil
ReadsCommand t (check_sat_assuming ls) = (at : ℕ) × (ts : Sexps Tok) × Begins t command.CheckSatAssuming (cons (list at ts) nil) × ReadsEach ReadsLiteral ts ls
ReadsCommand t (declare_const n s) = (u : Sexp Tok) × Begins t command.DeclareConst (cons (atom n) (cons u nil)) × IsTrue (is_symbol n) × ReadsSort u s
ReadsCommand t (declare_datatype n d) = (u : Sexp Tok) × Begins t command.DeclareDatatype (cons (atom n) (cons u nil)) × IsTrue (is_symbol n) × ReadsDataDec u d
ReadsCommand t (declare_datatypes ss ds) =
    (at : ℕ) × (ts : Sexps Tok) × (b : ℕ) × (us : Sexps Tok) × Begins t command.DeclareDatatypes (cons (list at ts) (cons (list b us) nil))
    × NotEmpty ts × ReadsEach ReadsSortDec ts ss × NotEmpty us × ReadsEach ReadsDataDec us ds
ReadsCommand t (declare_fun n ss s) =
    (at : ℕ) × (ts : Sexps Tok) × (u : Sexp Tok) × Begins t command.DeclareFun (cons (atom n) (cons (list at ts) (cons u nil)))
    × IsTrue (is_symbol n) × ReadsSorts ts ss × ReadsSort u s
ReadsCommand t (declare_sort n a) = Begins t command.DeclareSort (cons (atom n) (cons (atom a) nil)) × IsTrue (is_symbol n) × IsTrue (is_numeral a)
ReadsCommand t (define_fun f) = (ts : Sexps Tok) × Begins t command.DefineFun ts × ReadsFunDef ts f
ReadsCommand t (define_fun_rec f) = (ts : Sexps Tok) × Begins t command.DefineFunRec ts × ReadsFunDef ts f
ReadsCommand t (define_funs_rec fs us) =
    (at : ℕ) × (ts : Sexps Tok) × (b : ℕ) × (vs : Sexps Tok) × Begins t command.DefineFunsRec (cons (list at ts) (cons (list b vs) nil))
    × NotEmpty ts × ReadsEach ReadsFunDec ts fs × NotEmpty vs × ReadsTerms vs us × (count_of ts ≡ count_of vs)
ReadsCommand t (define_sort n ps s) =
    (at : ℕ) × (u : Sexp Tok) × Begins t command.DefineSort (cons (atom n) (cons (list at (atoms ps)) (cons u nil)))
    × IsTrue (is_symbol n) × AreSymbols ps × ReadsSort u s
ReadsCommand t (echo s) = Begins t command.Echo (cons (atom s) nil) × IsTrue (is_string s)
ReadsCommand t exit = Begins t command.Exit nil
ReadsCommand t get_assertions = Begins t command.GetAssertions nil
ReadsCommand t get_assignment = Begins t command.GetAssignment nil
ReadsCommand t (get_info k) = Begins t command.GetInfo (cons (atom k) nil) × IsTrue (is_keyword k)
ReadsCommand t get_model = Begins t command.GetModel nil
ReadsCommand t (get_option k) = Begins t command.GetOption (cons (atom k) nil) × IsTrue (is_keyword k)
ReadsCommand t get_proof = Begins t command.GetProof nil
ReadsCommand t get_unsat_assumptions = Begins t command.GetUnsatAssumptions nil
ReadsCommand t get_unsat_core = Begins t command.GetUnsatCore nil
ReadsCommand t (get_value us) = (at : ℕ) × (vs : Sexps Tok) × Begins t command.GetValue (cons (list at vs) nil) × NotEmpty vs × ReadsTerms vs us
ReadsCommand t (pop n) = Begins t command.Pop (cons (atom n) nil) × IsTrue (is_numeral n)
ReadsCommand t (push n) = Begins t command.Push (cons (atom n) nil) × IsTrue (is_numeral n)
ReadsCommand t reset = Begins t command.Reset nil
ReadsCommand t reset_assertions = Begins t command.ResetAssertions nil
ReadsCommand t (set_info a) = (ts : Sexps Tok) × Begins t command.SetInfo ts × ReadsAttribute ts a
ReadsCommand t (set_logic n) = Begins t command.SetLogic (cons (atom n) nil) × IsTrue (is_symbol n)
ReadsCommand t (set_option a) = (ts : Sexps Tok) × Begins t command.SetOption ts × ReadsAttribute ts a × IsTrue (attribute_fits a)

-- the tree begins with the name of a command
abbrev pub BeginsCommand : Sexp Tok → Type 0
BeginsCommand t = (word : CommandWord) × (ts : Sexps Tok) × Begins t word ts × IsTrue (not (is_other word))

-- the sorts in declarations of constructors
abbrev pub constructor_positions : Sexps Tok → List Position
constructor_positions (cons (list at (cons n us)) ts) = seconds a_sort us ++ constructor_positions ts
constructor_positions _ = []

-- the sorts in the declaration of a datatype
abbrev pub data_dec_positions : Sexp Tok → List Position
data_dec_positions (list at (cons (atom w) (cons ps (cons (list b us) nil)))) = constructor_positions us
data_dec_positions (list at us) = constructor_positions us
data_dec_positions (atom t) = []

abbrev pub data_decs_positions : Sexps Tok → List Position
data_decs_positions nil = []
data_decs_positions (cons t ts) = data_dec_positions t ++ data_decs_positions ts

-- the sorts in declarations of functions
abbrev pub fun_dec_positions : Sexps Tok → List Position
fun_dec_positions (cons (list at (cons n (cons (list a vs) (cons s us)))) ts) = seconds a_sort vs ++ a_sort s ∷ fun_dec_positions ts
fun_dec_positions _ = []

abbrev pub fun_def_positions : FunDefParts → List Position
fun_def_positions f = seconds a_sort f.params ++ a_sort (whole f.result) ∷ a_term (whole f.body) ∷ []

-- the trees in the positions of the sorts and terms of a command, in the order of the text
abbrev pub form_positions : CommandForm → List Position
form_positions (form.Complete k) = []
form_positions (form.Declaration (declaration.Const n s)) = a_sort (whole s) ∷ []
form_positions (form.Declaration (declaration.Datatype n d)) = data_dec_positions (whole d)
form_positions (form.Declaration (declaration.Datatypes ss ds)) = data_decs_positions ds
form_positions (form.Declaration (declaration.Fun n ss s)) = sorts ss ++ a_sort (whole s) ∷ []
form_positions (form.Declaration (declaration.Sort n ps s)) = a_sort (whole s) ∷ []
form_positions (form.Assert u) = a_term (whole u) ∷ []
form_positions (form.DefineFun f) = fun_def_positions f
form_positions (form.DefineFunRec f) = fun_def_positions f
form_positions (form.DefineFunsRec ds bs) = fun_dec_positions ds ++ terms bs
form_positions (form.GetValue us) = terms us

-- What is wrong with a tree that is no command: it does not begin with the name of a command; or it has another form than
-- that command's; or the first tree, left to right and a tree before its parts, in the position of a sort or a term that has
-- the shape of no production.
abbrev pub IsGrammarFault : Sexp Tok → Place → Type 0
IsGrammarFault t place =
    ((BeginsCommand t → ⊥) × (place ≡ record { code = code.UnknownCommand; at = byte_of t }))
    ⊎ ((BeginsCommand t × ((f : CommandForm) → HasForm t f → ⊥) × (place ≡ record { code = code.WrongCommandForm; at = byte_of t }))
    ⊎ ((f : CommandForm) × (at : ℕ) × HasForm t f × FirstFault (form_positions f) at × (place ≡ record { code = code.WrongTermForm; at = at })))
