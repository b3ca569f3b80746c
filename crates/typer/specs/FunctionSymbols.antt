-- What the function symbol of a term stands for, and the ranks that it has (SMT-LIB 2.6, section 3.6).
use Rattle.std.specs.Prelude.{ℕ, ◌-◌, Bool, true, false, ◌&&◌, ◌||◌, if◌then◌else◌, List, [], ◌∷◌, ◌++◌, length, map, slice_index_or, Option, Some, None, option_map}
use Rattle.std.specs.Option.{is_some}
use Rattle.sig_table.specs.declared.theories.Theories.{Theories}
use Rattle.sig_table.specs.declared.theories.NameForm.{NameForm}
use Rattle.sig_table.specs.declared.theories.NameForm.TheVariants as form
use Rattle.lex_core.specs.declared.token.Tok.{Tok}
use Rattle.sort_store.specs.CoreRanks.{bool}
use Rattle.sort_store.specs.Tree.{Sort}
use Rattle.term_store.specs.Command.{PlainDatatype, plain_datatype}
use Rattle.term_store.specs.Script.{Kept}
use Rattle.judgement.specs.Judging.{Judging}
use Rattle.sort_store.specs.Ranks.{RankedSymbol, ranks_of}
use Rattle.sort_store.specs.Ranks as ranks
use Rattle.term_grammar.specs.Words.{is_numeral}
use Rattle.scope_stack.specs.Levels.{found}
use Rattle.scope_stack.specs.declared.entry.FunKind.{FunKind}
use Rattle.scope_stack.specs.declared.entry.FunKind.TheVariants as kind
use Rattle.theory_core.specs.IntsRanks.{ints_symbols}
use Rattle.theory_core.specs.ArraysRanks.{arrays_symbols}
use Rattle.theory_core.specs.TheorySymbols.{theory_symbols, form_of}
use Rattle.theory_bv.specs.declared.index.Index.{Index}
use Rattle.theory_bv.specs.Symbols.{listed_declaration}
use Rattle.typer.specs.declared.world.World.{World}
use Rattle.typer.specs.BitVectors.{HasBitsRank, bits_form, index_of, judge_bits}
use Rattle.typer.specs.Declarations.{FunDeclaration, Declarations, declarations_of}
use Rattle.typer.specs.LiveRanks.{HasInstance, judge_live}
use Rattle.typer.specs.LiveRanks as live
use Rattle.typer.specs.RankRules.{judge_rank}
use Rattle.typer.specs.SortSymbols.{or_else, is_theory_sort}

-- What the symbols of a term are looked up in: the texts of the names, the live declarations, the datatypes declared so far and
-- the theories of the logic; and the number of the first name that the command declares.
pub record Signature : Type 0 where
  pub texts : List (List ℕ)
  pub declarations : Declarations
  pub datatypes : List PlainDatatype
  pub theories : Theories
  pub first : ℕ

-- a function symbol of Core, Ints or ArraysEx, by its text; one on bit vectors, by its text and its indices; or a live one
pub data Function : Type 0 where
  theory : List ℕ → Function
  bits : List ℕ → List Index → Function
  declared : FunDeclaration → Function

-- the number of the first name that a world's command declares
abbrev pub first_number : World → ℕ
first_number world = world.next.0 - length world.seen.items

-- the datatypes that a script keeps
abbrev pub datatypes_of : Kept → List PlainDatatype
datatypes_of script = map plain_datatype script.defs.datatypes

-- the signature of a world
abbrev pub signature_of : World → Signature
signature_of world = record {
  texts = world.names;
  declarations = declarations_of world.scopes;
  datatypes = datatypes_of world.script;
  theories = world.theories;
  first = first_number world;
}

abbrev pub text_of : Signature → ℕ → List ℕ
text_of signature name = slice_index_or signature.texts name []

-- a theory symbol whose name is written without indices, or with them
abbrev pub if_plain : Option NameForm → Function → Option Function
if_plain (Some form.Plain) f = Some f
if_plain (Some form.Indexed) f = None
if_plain None f = None

abbrev pub if_indexed : Option NameForm → Function → Option Function
if_indexed (Some form.Plain) f = None
if_indexed (Some form.Indexed) f = Some f
if_indexed None f = None

-- what a text stands for that is written without indices: a symbol of Core, Ints or ArraysEx, else one on bit vectors
abbrev pub theory_function : Theories → List ℕ → Option Function
theory_function theories text = or_else (if_plain (form_of theories text) (theory text)) (if_plain (bits_form theories text) (bits text []))

-- what a symbol stands for that is written without indices: a theory symbol of the logic, else a live one
abbrev pub function_of : Signature → ℕ → Option Function
function_of signature name = or_else (theory_function signature.theories (text_of signature name)) (option_map declared (found name signature.declarations.funs))

-- with indices: theory symbols alone
abbrev pub indexed_function : Signature → ℕ → List Tok → Option Function
indexed_function signature name is =
    or_else (if_indexed (form_of signature.theories (text_of signature name)) (theory (text_of signature name)))
    (if_indexed (bits_form signature.theories (text_of signature name)) (bits (text_of signature name) (map (index_of signature.texts) is)))

-- the live constructor of this name
abbrev pub is_constructor : FunKind → Bool
is_constructor kind.Constructor = true
is_constructor _ = false

abbrev pub if_constructor : ℕ → Option FunDeclaration → Option (ℕ × FunDeclaration)
if_constructor name None = None
if_constructor name (Some f) = if is_constructor f.kind then Some (name, f) else None

-- the index, where there is one alone and it is a symbol
abbrev pub only_symbol : List Tok → Option Tok
only_symbol [] = None
only_symbol (t ∷ []) = if is_numeral t then None else Some t
only_symbol (t ∷ (u ∷ us)) = None

abbrev pub constructor_at : Signature → Option Tok → Option (ℕ × FunDeclaration)
constructor_at signature None = None
constructor_at signature (Some t) = if_constructor t.name (found t.name signature.declarations.funs)

-- the constructor of ( _ is c ), whose only index names it
abbrev pub tested : Signature → List Tok → Option (ℕ × FunDeclaration)
tested signature is = constructor_at signature (only_symbol is)

-- the tester of a constructor takes its datatype
abbrev pub tester_of : FunDeclaration → FunDeclaration
tester_of f = record { number = f.number; kind = f.kind; params = f.params; args = f.result ∷ []; result = bool }

-- the symbols of a theory, where the logic has it
abbrev pub if_present : Bool → List RankedSymbol → List RankedSymbol
if_present present symbols = if present then symbols else []

-- the symbols that Ints and ArraysEx give a logic with these theories
abbrev pub symbols_past_core : Theories → List RankedSymbol
symbols_past_core theories = if_present theories.ints ints_symbols ++ if_present theories.arrays arrays_symbols

-- the function symbol has the rank with these argument sorts and this result sort
abbrev pub HasRank : Theories → Function → List Sort → Sort → Type 0
HasRank theories (theory text) args result = ranks.HasRank (ranks_of text (theory_symbols theories)) args result
HasRank theories (bits text is) args result = HasBitsRank text is args result
HasRank theories (declared f) args result = HasInstance f args result

-- the arguments of a theory symbol always give its result sort
abbrev pub is_ambiguous : Function → Bool
is_ambiguous (theory text) = false
is_ambiguous (bits text is) = false
is_ambiguous (declared f) = live.is_ambiguous f

-- the rule on the rank of a theory symbol
abbrev pub judge_theory : Theories → List ℕ → ℕ → List Sort → Option Sort → Judging Sort
judge_theory theories text at args asked = judge_rank (HasRank theories (theory text) args) false at asked

-- the rule on the rank of a function symbol
abbrev pub judge_result : Theories → Function → ℕ → List Sort → Option Sort → Judging Sort
judge_result theories (theory text) at args asked = judge_theory theories text at args asked
judge_result theories (bits text is) at args asked = judge_bits text is at args asked
judge_result theories (declared f) at args asked = judge_live f at args asked

-- Core or a theory of the logic uses the text for a function; `bvX` is not in use
abbrev pub is_theory_fun : Theories → List ℕ → Bool
is_theory_fun theories text = is_some (form_of theories text) || (theories.bits && is_some (listed_declaration text))

-- Core or a theory of the logic uses the name for a function, or it is live
abbrev pub is_fun_in_use : Signature → ℕ → Bool
is_fun_in_use signature name = is_theory_fun signature.theories (text_of signature name) || is_some (found name signature.declarations.funs)

-- Core or a theory uses the name for a sort, or it is live
abbrev pub is_sort_in_use : Signature → ℕ → Bool
is_sort_in_use signature name = is_theory_sort signature.texts signature.theories name || is_some (found name signature.declarations.sorts)
