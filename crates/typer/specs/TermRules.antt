-- The rules on terms (SMT-LIB 2.6, section 3.6): one list of items for each production. A term is judged after its parts,
-- and these from left to right.
use Rattle.std.specs.Prelude.{◌≡◌, ℕ, ◌+◌, ◌-◌, ◌*◌, ◌≤◌, ◌==◌, Bool, true, false, not, IsTrue, if◌then◌else◌, List, [], ◌∷◌, ◌++◌, length, codes, bytes_eq, map, Option, Some, None, unwrap_or, ⊤}
use Rattle.std.specs.List.{list_any}
use Rattle.sig_table.specs.declared.code.Code.TheVariants.{WrongTermForm, WrongTermSort, WrongBranchSort, UncoveredConstructor, MatchOnNonDatatype, LiteralWithoutSort, NumberTooLarge, UnknownFunction, WrongIndex, AppliedVariable, RepeatedVariable, WrongNamedTerm}
use Rattle.sig_table.specs.declared.theories.Theories.{Theories}
use Rattle.lex_core.specs.declared.place.Place.{Place}
use Rattle.lex_core.specs.declared.token.Tok.{Tok}
use Rattle.lex_core.specs.declared.token.TokKind.{TokKind}
use Rattle.lex_core.specs.declared.token.TokKind.TheVariants as kind
use Rattle.judgement.specs.Judging.{Judging, well_sorted, ill_sorted, done, ◌>>=◌, check, find, names, declare}
use Rattle.sexp_core.specs.Sexp.{Sexp}
use Rattle.term_grammar.specs.Syntax.{Identifier, symbol, indexed, Qualified, unqualified, qualified, qualified_at, SortedSymbol, Attribute, keyword_attribute, valued_attribute, constant, qualified_term, application, let_in, for_all, there_exists, match_with, annotated, term_at, Terms, no_terms, with_term, Bindings, no_bindings, with_binding, no_cases, with_case, Notes, no_notes, with_note, Note, named_note, pattern_note, attribute_note}
use Rattle.term_grammar.specs.Syntax as syntax
use Rattle.sort_store.specs.declared.head.DeclNo.{DeclNo}
use Rattle.sort_store.specs.Tree.{Sort}
use Rattle.sort_store.specs.CoreRanks.{bool}
use Rattle.theory_core.specs.IntsRanks.{int}
use Rattle.theory_bv.specs.Indices.{greatest}
use Rattle.term_store.specs.Command.{PlainDatatype}
use Rattle.term_store.specs.Term.{Cases, PlainTerm, term, lit, var, app, quant, match_on, ann, plain_sort, plain_terms}
use Rattle.term_store.specs.Term as typed
use Rattle.term_store.specs.Value.{unplaced}
use Rattle.term_store.specs.declared.parts.Applied.{Applied}
use Rattle.term_store.specs.declared.parts.Pattern.{Pattern}
use Rattle.dt_rules.specs.Coverage.{Covers}
use Rattle.term_store.specs.declared.parts.Fun.{Fun}
use Rattle.term_store.specs.declared.parts.Fun.TheVariants as fun
use Rattle.typer.specs.BitVectors.{bit_vector, width_of}
use Rattle.typer.specs.SortRules.{only_numeral, judge_sort}
use Rattle.typer.specs.Declarations.{FunDeclaration}
use Rattle.typer.specs.LiveRanks.{judge_live}
use Rattle.typer.specs.MatchRules.{Instance, IsBranchSort, instance_of, judge_typed_pattern, pattern_variables}
use Rattle.typer.specs.SortSymbols.{is_text, or_else}
use Rattle.typer.specs.FunctionSymbols.{Signature, Function, theory, bits, declared, function_of, indexed_function, tested, tester_of, text_of, is_ambiguous, judge_result, is_fun_in_use}
use Rattle.typer.specs.FreeVariables.{has_free, is_one_of}

-- the sort of a literal with this text, which begins with two other bytes where it is binary or hexadecimal: a hexadecimal digit
-- stands for four bits
abbrev pub literal_sort : Theories → List ℕ → TokKind → Option Sort
literal_sort theories text kind.Numeral = if theories.ints then Some int else None
literal_sort theories text kind.Binary = if theories.bits then Some (bit_vector (length text - 2)) else None
literal_sort theories text kind.Hexadecimal = if theories.bits then Some (bit_vector (4 * (length text - 2))) else None
literal_sort theories text _ = None

-- what the last variable of this name has, which hides those before it
abbrev pub bound : {A : Type 0} → List (ℕ × A) → ℕ → Option A
bound [] name = None
bound (v ∷ vs) name = or_else (bound vs name) (if v.0 == name then Some v.1 else None)

-- what stands for the function symbol in the typed term
abbrev pub fun_of : Function → Fun
fun_of (theory text) = fun.Theory
fun_of (bits text is) = fun.Theory
fun_of (declared f) = fun.Declared f.number

abbrev pub applied : Function → ℕ → List ℕ → Applied
applied f name indices = record { fun = fun_of f; name = name; indices = indices; qualify = is_ambiguous f }

-- a function symbol with its result sort, where it stands with these argument sorts in a term that begins at a byte
abbrev pub judge_function : Signature → Function → ℕ → List Sort → Option Sort → ℕ → List ℕ → Judging (Applied × Sort)
judge_function signature f at args asked name indices = do
  result ← judge_result signature.theories f at args asked
  done (applied f name indices, result)

-- .. written without indices
abbrev pub judge_head : Signature → ℕ → List Sort → Option Sort → ℕ → Judging (Applied × Sort)
judge_head signature at args asked name = do
  f ← find (λ f. function_of signature name ≡ Some f) UnknownFunction at
  judge_function signature f at args asked name []

-- the index of (_ divisible n) is one numeral and not zero
pub record HasDivisor (signature : Signature) (is : List Tok) : Type 0 where
  pub divisor : Tok
  pub alone : only_numeral is ≡ Some divisor
  pub not_zero : IsTrue (not (bytes_eq (text_of signature divisor.name) (codes "0")))

-- what is asked of the indices before the rank: of the other theories' symbols only `divisible` has an index
abbrev pub TakesIndices : Signature → Function → List Tok → Type 0
TakesIndices signature (theory text) is = HasDivisor signature is
TakesIndices signature (bits text indices) is = ⊤
TakesIndices signature (declared f) is = ⊤

-- .. written with indices
abbrev pub judge_indexed_function : Signature → Function → ℕ → List Sort → Option Sort → ℕ → List Tok → Judging (Applied × Sort)
judge_indexed_function signature f at args asked name is = do
  _ ← check (TakesIndices signature f is) WrongIndex at
  judge_function signature f at args asked name (map (λ i. i.name) is)

-- .. of a theory
abbrev pub judge_indexed_theory : Signature → ℕ → List Sort → Option Sort → ℕ → List Tok → Judging (Applied × Sort)
judge_indexed_theory signature at args asked name is = do
  f ← find (λ f. indexed_function signature name is ≡ Some f) UnknownFunction at
  judge_indexed_function signature f at args asked name is

-- the tester of a constructor, which is a number and a name
abbrev pub applied_tester : ℕ → FunDeclaration → Applied
applied_tester name f = record { fun = fun.Tester f.number; name = name; indices = []; qualify = false }

-- ( _ is c ), whatever its indices
abbrev pub judge_tester : Signature → ℕ → List Sort → Option Sort → List Tok → Judging (Applied × Sort)
judge_tester signature at args asked is = do
  c ← find (λ c. tested signature is ≡ Some c) WrongIndex at
  result ← judge_live (tester_of c.1) at args asked
  done (applied_tester c.0 c.1, result)

abbrev pub judge_indexed_by : Bool → Signature → ℕ → List Sort → Option Sort → ℕ → List Tok → Judging (Applied × Sort)
judge_indexed_by true signature at args asked name is = judge_tester signature at args asked is
judge_indexed_by false signature at args asked name is = judge_indexed_theory signature at args asked name is

-- a symbol written with indices: a tester, else a theory's
abbrev pub judge_indexed_head : Signature → ℕ → List Sort → Option Sort → ℕ → List Tok → Judging (Applied × Sort)
judge_indexed_head signature at args asked name is = judge_indexed_by (is_text signature.texts (codes "is") name) signature at args asked name is

-- an application of a function symbol to arguments
abbrev pub apply_head : Applied × Sort → List PlainTerm → PlainTerm
apply_head head args = term tt head.1 (app head.0 (plain_terms args))

-- a bound variable, which takes no argument and no `as`
abbrev pub judge_variable : ℕ → List PlainTerm → Option Sort → ℕ → Sort → Judging PlainTerm
judge_variable at args asked name s = do
  _ ← check ((args ≡ []) × (asked ≡ None)) AppliedVariable at
  done (term tt s (var name))

-- A symbol with arguments that are judged already. A bound variable hides a function symbol of its name.
abbrev pub judge_symbol : Signature → Option Sort → ℕ → List PlainTerm → Option Sort → ℕ → Judging PlainTerm
judge_symbol signature (Some s) at args asked name = judge_variable at args asked name s
judge_symbol signature None at args asked name = do
  head ← judge_head signature at (map plain_sort args) asked name
  done (apply_head head args)

abbrev pub judge_indexed_symbol : Signature → ℕ → List PlainTerm → Option Sort → ℕ → List Tok → Judging PlainTerm
judge_indexed_symbol signature at args asked name is = do
  head ← judge_indexed_head signature at (map plain_sort args) asked name is
  done (apply_head head args)

abbrev pub judge_application : Signature → List (ℕ × Sort) → ℕ → List PlainTerm → Option Sort → Identifier → Judging PlainTerm
judge_application signature vars at args asked (symbol t) = judge_symbol signature (bound vars t.name) at args asked t.name
judge_application signature vars at args asked (indexed _ t is) = judge_indexed_symbol signature at args asked t.name is

-- the sort that `as` names, if the head has it
abbrev pub judge_asked : Signature → Qualified → Judging (Option Sort)
judge_asked signature (unqualified i) = done None
judge_asked signature (qualified _ i s) = do
  asked ← judge_sort signature.texts signature.declarations signature.theories [] s
  done (Some asked)

abbrev pub identifier_of : Qualified → Identifier
identifier_of (unqualified i) = i
identifier_of (qualified _ i s) = i

-- a head without arguments
abbrev pub judge_constant : Signature → List (ℕ × Sort) → Qualified → Judging PlainTerm
judge_constant signature vars q = do
  asked ← judge_asked signature q
  judge_application signature vars (qualified_at q) [] asked (identifier_of q)

-- the width of the sort, if it has one, is not too large
abbrev pub IsNarrow : Sort → Type 0
IsNarrow s = unwrap_or (width_of s) 0 ≤ greatest

abbrev pub judge_literal_sort : Signature → Tok → Judging Sort
judge_literal_sort signature t = do
  s ← find (λ s. literal_sort signature.theories (text_of signature t.name) t.kind ≡ Some s) LiteralWithoutSort t.at
  _ ← check (IsNarrow s) NumberTooLarge t.at
  done s

-- a literal
abbrev pub judge_literal : Signature → Tok → Judging PlainTerm
judge_literal signature t = do
  s ← judge_literal_sort signature t
  done (term tt s (lit t.kind t.name))

-- A variable of a let with its term.
abbrev pub Binding : Type 0
Binding = ℕ × PlainTerm

-- what a variable has in the body
abbrev pub bound_sort : Binding → ℕ × Sort
bound_sort b = (b.0, plain_sort b.1)

-- a variable that is not repeated, with its term
abbrev pub judge_binding : Bool → Tok → Judging PlainTerm → Judging Binding
judge_binding repeated x value = do
  _ ← check (repeated ≡ false) RepeatedVariable x.at
  u ← value
  done (x.name, u)

abbrev pub let_term : List Binding → PlainTerm → PlainTerm
let_term bs u = term tt (plain_sort u) (typed.let_in (map (λ b. b.0) bs) (plain_terms (map (λ b. b.1) bs)) u)

abbrev pub quantified : Bool → List (ℕ × Sort) → PlainTerm → PlainTerm
quantified all vs u = term tt bool (quant all vs u)

-- the variables of a quantifier with their sorts; a later one hides an earlier one of its name
abbrev pub judge_sorted : Signature → ℕ → syntax.Sort → Judging (ℕ × Sort)
judge_sorted signature name raw = do
  s ← judge_sort signature.texts signature.declarations signature.theories [] raw
  done (name, s)

abbrev pub judge_variables : Signature → List SortedSymbol → Judging (List (ℕ × Sort))
judge_variables signature [] = done []
judge_variables signature (v ∷ vs) = do
  w ← judge_sorted signature v.name.name v.sort
  ws ← judge_variables signature vs
  done (w ∷ ws)

-- forall, or else exists: the body, which begins at a byte, is of sort Bool where the variables are bound
abbrev pub judge_quantifier : Bool → ℕ → Judging (List (ℕ × Sort)) → (List (ℕ × Sort) → Judging PlainTerm) → Judging PlainTerm
judge_quantifier all at variables body = do
  vs ← variables
  u ← body vs
  _ ← check (plain_sort u ≡ bool) WrongTermSort at
  done (quantified all vs u)

-- an attribute of a term that is kept as it is written
abbrev pub attribute_key : Attribute → Tok
attribute_key (keyword_attribute k) = k
attribute_key (valued_attribute k v) = k

abbrev pub attribute_value : Attribute → Option (Sexp Tok)
attribute_value (keyword_attribute k) = None
attribute_value (valued_attribute k v) = Some (unplaced v)

abbrev pub PlainNote : Type 0
PlainNote = typed.Note (Unit {0}) Sort

abbrev pub plain_notes : List PlainNote → typed.Notes (Unit {0}) Sort
plain_notes [] = typed.no_notes
plain_notes (n ∷ ns) = typed.more_notes n (plain_notes ns)

abbrev pub annotated_term : PlainTerm → List PlainNote → PlainTerm
annotated_term u ns = term tt (plain_sort u) (ann u (plain_notes ns))

-- A term may be given a name where no variable stands free in it, and the name is not in use and none that the command has
-- declared.
abbrev pub MayBeNamed : Signature → List ℕ → PlainTerm → ℕ → Type 0
MayBeNamed signature seen u name = (has_free [] u ≡ false) × (is_fun_in_use signature name ≡ false) × (is_one_of seen name ≡ false)

-- the number of the next name that the command declares
abbrev pub number_after : Signature → List ℕ → DeclNo
number_after signature seen = record { 0 = signature.first + length seen }

-- :named for this term
abbrev pub judge_name : Signature → PlainTerm → Tok → Judging PlainNote
judge_name signature u t = do
  seen ← names
  _ ← check (MayBeNamed signature seen u t.name) WrongNamedTerm t.at
  _ ← declare t.name
  done (typed.named (number_after signature seen) t.name)

-- A case of a match: its pattern with its branch.
abbrev pub Case : Type 0
Case = Pattern × PlainTerm

-- A case of a match on a term of this instance of a datatype. The branch, which begins at a byte, has the sort of the first one, and
-- sees the variables of the pattern.
abbrev pub judge_case : Instance → Sort → Option Sort → syntax.Pattern → ℕ → (List (ℕ × Sort) → Judging PlainTerm) → Judging Case
judge_case i s first p at branch = do
  q ← judge_typed_pattern i p
  u ← branch (pattern_variables i s q)
  _ ← check (IsBranchSort first (plain_sort u)) WrongBranchSort at
  done (q, u)

abbrev pub plain_cases : List Case → Cases (Unit {0}) Sort
plain_cases [] = typed.no_cases
plain_cases (c ∷ cs) = typed.more_cases c.0 c.1 (plain_cases cs)

abbrev pub match_term : Sort → PlainTerm → List Case → PlainTerm
match_term s u cs = term tt s (match_on u (plain_cases cs))

-- the sort of the first branch
abbrev pub first_sort : List Case → Option Sort
first_sort [] = None
first_sort (c ∷ cs) = Some (plain_sort c.1)

-- A match with these cases, which cover the datatype. It has the sort of its first branch; without a case it is none.
abbrev pub judge_covered : ℕ → PlainDatatype → PlainTerm → List Case → Judging PlainTerm
judge_covered at t u cs = do
  _ ← check (Covers (map (λ c. c.0) cs) t) UncoveredConstructor at
  s ← find (λ s. first_sort cs ≡ Some s) WrongTermForm at
  done (match_term s u cs)

-- a term under a signature and the variables that are bound round it, the innermost last
abbrev mutual
  pub judge_term : Signature → List (ℕ × Sort) → syntax.Term → Judging PlainTerm
  judge_term signature vars (constant t) = judge_literal signature t
  judge_term signature vars (qualified_term q) = judge_constant signature vars q
  judge_term signature vars (application at q ts) = do
    asked ← judge_asked signature q
    args ← judge_terms signature vars ts
    judge_application signature vars at args asked (identifier_of q)
  judge_term signature vars (let_in at bs u) = do
    cs ← judge_bindings signature vars [] bs
    v ← judge_term signature (vars ++ map bound_sort cs) u
    done (let_term cs v)
  judge_term signature vars (for_all at vs u) = judge_quantifier true (term_at u) (judge_variables signature vs) (λ ws. judge_term signature (vars ++ ws) u)
  judge_term signature vars (there_exists at vs u) = judge_quantifier false (term_at u) (judge_variables signature vs) (λ ws. judge_term signature (vars ++ ws) u)
  judge_term signature vars (match_with at u cs) = do
    v ← judge_term signature vars u
    i ← find (λ i. instance_of signature.datatypes (plain_sort v) ≡ Some i) MatchOnNonDatatype (term_at u)
    ds ← judge_cases signature vars i (plain_sort v) None cs
    judge_covered at i.0 v ds
  judge_term signature vars (annotated at u ns) = do
    v ← judge_term signature vars u
    ms ← judge_notes signature vars v ns
    done (annotated_term v ms)

  pub judge_terms : Signature → List (ℕ × Sort) → Terms → Judging (List PlainTerm)
  judge_terms signature vars no_terms = done []
  judge_terms signature vars (with_term t ts) = do
    u ← judge_term signature vars t
    us ← judge_terms signature vars ts
    done (u ∷ us)

  -- Bindings after those of other variables: no variable is repeated, and each term stands in the outer variables.
  pub judge_bindings : Signature → List (ℕ × Sort) → List ℕ → Bindings → Judging (List Binding)
  judge_bindings signature vars others no_bindings = done []
  judge_bindings signature vars others (with_binding at x t bs) = do
    b ← judge_binding (list_any (λ n. n == x.name) others) x (judge_term signature vars t)
    cs ← judge_bindings signature vars (others ++ x.name ∷ []) bs
    done (b ∷ cs)

  -- cases of a match on a term of this sort, after a branch of some sort if there is one before
  pub judge_cases : Signature → List (ℕ × Sort) → Instance → Sort → Option Sort → syntax.Cases → Judging (List Case)
  judge_cases signature vars i s first no_cases = done []
  judge_cases signature vars i s first (with_case at p u cs) = do
    c ← judge_case i s first p (term_at u) (λ own. judge_term signature (vars ++ own) u)
    ds ← judge_cases signature vars i s (or_else first (Some (plain_sort c.1))) cs
    done (c ∷ ds)

  -- the attributes of a term; the terms of a :pattern are judged as terms
  pub judge_notes : Signature → List (ℕ × Sort) → PlainTerm → Notes → Judging (List PlainNote)
  judge_notes signature vars u no_notes = done []
  judge_notes signature vars u (with_note n ns) = do
    m ← judge_note signature vars u n
    ms ← judge_notes signature vars u ns
    done (m ∷ ms)

  pub judge_note : Signature → List (ℕ × Sort) → PlainTerm → Note → Judging PlainNote
  judge_note signature vars u (named_note t) = judge_name signature u t
  judge_note signature vars u (pattern_note ts) = do
    us ← judge_terms signature vars ts
    done (typed.pattern (plain_terms us))
  judge_note signature vars u (attribute_note a) = done (typed.other (attribute_key a).name (attribute_value a))

-- After these names that the command has declared the term is well sorted, and this is its typed term; then it has declared
-- these.
abbrev pub Elaborates : Signature → List (ℕ × Sort) → List ℕ → syntax.Term → PlainTerm → List ℕ → Type 0
Elaborates signature vars before t u after = judge_term signature vars t before (well_sorted u after)

-- The first rule that the term does not meet.
abbrev pub TermFault : Signature → List (ℕ × Sort) → List ℕ → syntax.Term → Place → Type 0
TermFault signature vars before t place = judge_term signature vars t before (ill_sorted place)
