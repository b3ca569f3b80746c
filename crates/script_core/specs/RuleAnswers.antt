-- The rules as functions: `Ok`, or the first fault. The relation of the rules is above them.
use Rattle.std.specs.Prelude.{ℕ, ◌+◌, Bool, not, ◌==◌, ◌&&◌, nat_le, List, [], ◌∷◌, Option, Some, None, Result, Ok, Err, if◌then◌else◌}
use Rattle.std.specs.Option.{is_some}
use Rattle.lex_core.specs.declared.place.Place.{Place}
use Rattle.lex_core.specs.declared.token.Tok.{Tok}
use Rattle.sig_table.specs.declared.code.Code.{Code}
use Rattle.sig_table.specs.declared.code.Code.TheVariants as code
use Rattle.term_grammar.specs.declared.words.TheConstants.{GLOBAL_DECLARATIONS}
use Rattle.term_grammar.specs.declared.binder.RawVariable.{RawVariable}
use Rattle.term_grammar.specs.Syntax.{SortedSymbol, Term, Terms, no_terms, with_term}
use Rattle.cmd_grammar.specs.Commands.{Command, FunDec, Literal, echo, exit, get_info, get_option, pop, push, reset, set_info, set_logic, set_option}
use Rattle.cmd_grammar.specs.declared.fun_dec.RawFunDec.{RawFunDec}
use Rattle.cmd_grammar.specs.DeclarationViews.{fun_dec_seen, variable_seen}
use Rattle.typer.specs.Declarations.{depth}
use Rattle.script_core.specs.Environment.{Environment, logic_in}
use Rattle.script_core.specs.Rules.{value_of}
use Rattle.typer.specs.TermRules.{attribute_key}

abbrev pub Answer : Type 0
Answer = Result (Unit {0}) Place

abbrev pub fault : Code → ℕ → Answer
fault c at = Err (record { code = c; at = at })

abbrev pub test : Bool → Code → ℕ → Answer
test b c at = if b then Ok tt else fault c at

-- one rule, and then another
abbrev pub both : Answer → Answer → Answer
both (Ok u) next = next
both (Err place) next = Err place

abbrev pub answer_push : Environment → ℕ → Tok → Answer
answer_push env at n = both (test (is_some env.logic) code.LogicNotSet at) (test (nat_le (depth env.declarations + value_of env n) 65535) code.TooManyLevels at)

abbrev pub answer_pop : Environment → ℕ → Tok → Answer
answer_pop env at n = both (test (is_some env.logic) code.LogicNotSet at) (test (nat_le (value_of env n) (depth env.declarations)) code.TooFewLevels at)

abbrev pub answer_mode : Environment → ℕ → Command → Answer
answer_mode env at (set_logic n) = both (test (not (is_some env.logic)) code.LogicAlreadySet at) (test (is_some (logic_in env n)) code.UnknownLogic at)
answer_mode env at (set_option a) = test (not (((attribute_key a).name == GLOBAL_DECLARATIONS) && is_some env.logic)) code.GlobalOptionTooLate at
answer_mode env at (set_info a) = Ok tt
answer_mode env at (get_option k) = Ok tt
answer_mode env at (get_info k) = Ok tt
answer_mode env at (echo t) = Ok tt
answer_mode env at reset = Ok tt
answer_mode env at exit = Ok tt
answer_mode env at (push n) = answer_push env at n
answer_mode env at (pop n) = answer_pop env at n
answer_mode env at command = test (is_some env.logic) code.LogicNotSet at

-- the terms that are left
abbrev pub terms_left : Option (Term × Terms) → Terms
terms_left None = no_terms
terms_left (Some p) = with_term p.0 p.1

-- the literals that are left
abbrev pub literals_left : Option (Literal × List Literal) → List Literal
literals_left None = []
literals_left (Some p) = p.0 ∷ p.1

-- the parameters that are left
abbrev pub tokens_left : Option (Tok × List Tok) → List Tok
tokens_left None = []
tokens_left (Some p) = p.0 ∷ p.1

-- the variables that are left
abbrev pub variables_left : Option (RawVariable × List SortedSymbol) → List SortedSymbol
variables_left None = []
variables_left (Some p) = variable_seen p.0 ∷ p.1

-- the declarations of functions that are left
abbrev pub fun_decs_left : Option (RawFunDec × List FunDec) → List FunDec
fun_decs_left None = []
fun_decs_left (Some p) = fun_dec_seen p.0 ∷ p.1
