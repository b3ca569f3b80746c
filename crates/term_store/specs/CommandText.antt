-- The canonical text of commands, as an s-expression of words (SMT-LIB 2.6, section 3.9): one list that
-- begins with the name of the command. Sorts have their definitions expanded.
use Rattle.std.specs.Prelude.{ℕ, List, [], ◌∷◌, ◌++◌, codes, length, map, Option}
use Rattle.lex_core.specs.declared.token.Tok.{Tok}
use Rattle.lex_core.specs.declared.token.TokKind.TheVariants as kind
use Rattle.sexp_core.specs.Sexp.{Sexp, Sexps, atom, nil, cons}
use Rattle.term_store.specs.CanonicalText.{Word, token, numeral, fixed, symbol, symbols, group, sort_text, var_texts, value_texts, term_text}
use Rattle.term_store.specs.Command.{PlainCommand, PlainConstructor, PlainDatatype, PlainDef, PlainField}
use Rattle.term_store.specs.Command as command
use Rattle.term_store.specs.Depth.{nesting}

-- a text that the grammar fixes
abbrev pub word : List ℕ → Sexp Word
word text = atom (fixed text)

abbrev pub keyword : ℕ → Sexp Word
keyword n = atom (token kind.Keyword n)

abbrev pub number_text : ℕ → Sexp Word
number_text n = atom (numeral n)

-- the texts of a list, as s-expressions hold them
abbrev pub sexps : List (Sexp Word) → Sexps Word
sexps [] = nil
sexps (t ∷ ts) = cons t (sexps ts)

-- these texts in one list
abbrev pub group_of : List (Sexp Word) → Sexp Word
group_of ts = group (sexps ts)

-- a selector with its sort, where the parameters have these names
abbrev pub field_text : List ℕ → PlainField → Sexp Word
field_text params f = group_of (symbol f.name ∷ sort_text params f.sort ∷ [])

-- a constructor with its selectors
abbrev pub constructor_text : List ℕ → PlainConstructor → Sexp Word
constructor_text params c = group_of (symbol c.name ∷ map (field_text params) c.fields)

-- a text under parameters, where there are some
abbrev pub parametric_text : List ℕ → Sexp Word → Sexp Word
parametric_text [] t = t
parametric_text (x ∷ xs) t = group_of (word (codes "par") ∷ group (symbols (x ∷ xs)) ∷ t ∷ [])

-- the constructors of a datatype
abbrev pub datatype_text : PlainDatatype → Sexp Word
datatype_text t = parametric_text t.params (group_of (map (constructor_text t.params) t.constructors))

-- the sort symbol of a datatype with the number of its parameters
abbrev pub sort_declaration_text : PlainDatatype → Sexp Word
sort_declaration_text t = group_of (symbol t.name ∷ number_text (length t.params) ∷ [])

-- the name of a function with its parameters and its result
abbrev pub signature_texts : PlainDef → List (Sexp Word)
signature_texts d = symbol d.name ∷ group (var_texts d.params) ∷ sort_text [] d.result ∷ []

abbrev pub signature_text : PlainDef → Sexp Word
signature_text d = group_of (signature_texts d)

abbrev pub body_text : PlainDef → Sexp Word
body_text d = term_text d.body

abbrev pub definition_texts : PlainDef → List (Sexp Word)
definition_texts d = signature_texts d ++ body_text d ∷ []

-- a command with this name and these arguments
abbrev pub command_of : List ℕ → List (Sexp Word) → Sexp Word
command_of name ts = group_of (word name ∷ ts)

-- the same with an attribute, whose value is as it was written
abbrev pub attribute_command : List ℕ → ℕ → Option (Sexp Tok) → Sexp Word
attribute_command name k v = group (cons (word name) (cons (keyword k) (value_texts v)))

abbrev pub command_text : PlainCommand → Sexp Word
command_text (command.assert t) = command_of (codes "assert") (term_text t ∷ [])
command_text command.check_sat = command_of (codes "check-sat") []
command_text (command.check_sat_assuming ts) = command_of (codes "check-sat-assuming") (group_of (map term_text ts) ∷ [])
command_text (command.declare_const d f s) = command_of (codes "declare-const") (symbol f ∷ sort_text [] s ∷ [])
command_text (command.declare_datatype t) = command_of (codes "declare-datatype") (symbol t.name ∷ datatype_text t ∷ [])
command_text (command.declare_datatypes ts) = command_of (codes "declare-datatypes") (group_of (map sort_declaration_text ts) ∷ group_of (map datatype_text ts) ∷ [])
command_text (command.declare_fun d f args s) = command_of (codes "declare-fun") (symbol f ∷ group_of (map (sort_text []) args) ∷ sort_text [] s ∷ [])
command_text (command.declare_sort d n arity) = command_of (codes "declare-sort") (symbol n ∷ number_text arity ∷ [])
command_text (command.define_fun d) = command_of (codes "define-fun") (definition_texts d)
command_text (command.define_fun_rec d) = command_of (codes "define-fun-rec") (definition_texts d)
command_text (command.define_funs_rec ds) = command_of (codes "define-funs-rec") (group_of (map signature_text ds) ∷ group_of (map body_text ds) ∷ [])
command_text (command.define_sort n params s) = command_of (codes "define-sort") (symbol n ∷ group (symbols params) ∷ sort_text params s ∷ [])
command_text (command.echo t) = command_of (codes "echo") (atom (token kind.Str t) ∷ [])
command_text command.exit = command_of (codes "exit") []
command_text command.get_assertions = command_of (codes "get-assertions") []
command_text command.get_assignment = command_of (codes "get-assignment") []
command_text (command.get_info k) = command_of (codes "get-info") (keyword k ∷ [])
command_text command.get_model = command_of (codes "get-model") []
command_text (command.get_option k) = command_of (codes "get-option") (keyword k ∷ [])
command_text command.get_proof = command_of (codes "get-proof") []
command_text command.get_unsat_assumptions = command_of (codes "get-unsat-assumptions") []
command_text command.get_unsat_core = command_of (codes "get-unsat-core") []
command_text (command.get_value ts) = command_of (codes "get-value") (group_of (map term_text ts) ∷ [])
command_text (command.pop n) = command_of (codes "pop") (number_text n ∷ [])
command_text (command.push n) = command_of (codes "push") (number_text n ∷ [])
command_text command.reset = command_of (codes "reset") []
command_text command.reset_assertions = command_of (codes "reset-assertions") []
command_text (command.set_info k v) = attribute_command (codes "set-info") k v
command_text (command.set_logic n) = command_of (codes "set-logic") (symbol n ∷ [])
command_text (command.set_option k v) = attribute_command (codes "set-option") k v

-- how deep the text of a command nests
abbrev pub command_depth : PlainCommand → ℕ
command_depth c = nesting (command_text c)
