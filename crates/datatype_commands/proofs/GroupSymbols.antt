-- The datatypes that a command declares are those of its sort symbols: each has its symbol's number and name, and as many parameters
-- as the symbol's arity.
use Rattle.std.proofs.Common.{◌≡◌, ℕ, ◌+◌, List, [], ◌∷◌, ◌++◌, length, refl, ap, sym, ◌∙◌, subst, arith, length-append}
use Rattle.lex_core.specs.declared.token.Tok.{Tok}
use Rattle.judgement.specs.Judging.{well_sorted}
use Rattle.cmd_grammar.specs.Commands.{DataDec, SortDec}
use Rattle.term_store.specs.Command.{PlainDatatype}
use Rattle.dt_rules.specs.PatternRules.{judge_variables}
use Rattle.typer.specs.Declarations.{Declarations, data_sort, with_sort}
use Rattle.typer.specs.FunctionSymbols.{Signature}
use Rattle.datatype_commands.specs.declared.symbols.DatatypeSymbol.{DatatypeSymbol}
use Rattle.datatype_commands.specs.DeclaredDatatypes.{with_sorts}
use Rattle.datatype_commands.specs.GroupRules.{all_part_names, judge_datatype, judge_datatypes, judge_symbols, params_of, under_symbol, with_symbol, with_symbols}

-- the sort symbols have the numbers from this one on
abbrev pub AreNumberedFrom : ℕ → List DatatypeSymbol → Type 0
AreNumberedFrom n [] = Unit {0}
AreNumberedFrom n (s ∷ ss) = (s.no ≡ record { 0 = n }) × AreNumberedFrom (n + 1) ss

pub symbols_numbered : (signature : Signature) (number : ℕ) (ds : List SortDec) (ss : List DatatypeSymbol) (before after : List ℕ) → judge_symbols signature number ds before (well_sorted ss after) → AreNumberedFrom number ss
symbols_numbered signature number [] ss before after (e, f) = subst (AreNumberedFrom number) (sym e) tt
symbols_numbered signature number (d ∷ ds) ss before after (s, between, (u, start, free, (v, middle, small, (made, same))), (rest, later, k, (e, f))) =
    subst (AreNumberedFrom number) (sym e) (ap (λ (x : DatatypeSymbol). x.no) made, symbols_numbered (under_symbol signature s) (number + 1) ds rest between later k)

-- there are as many names as variables
variable_count : (seen : List ℕ) (vs : List Tok) (names before after : List ℕ) → judge_variables seen vs before (well_sorted names after) → length names ≡ length seen + length vs
variable_count seen [] names before after (e, f) = omega (arith, ap (λ (ns : List ℕ). length ns) e)
variable_count seen (v ∷ vs) names before after (u, between, fresh, h) = omega (arith, variable_count (seen ++ v.name ∷ []) vs names between after h, length-append seen (v.name ∷ []))

-- the datatype of a sort symbol
pub record IsOfSymbol (s : DatatypeSymbol) (t : PlainDatatype) : Type 0 where
  pub number_is : t.no ≡ s.no
  pub name_is : t.name ≡ s.name.name
  pub arity_is : length t.params ≡ s.arity

-- .. of each
abbrev pub AreOfSymbols : List DatatypeSymbol → List PlainDatatype → Type 0
AreOfSymbols [] [] = Unit {0}
AreOfSymbols [] (t ∷ ts) = ⊥
AreOfSymbols (s ∷ ss) [] = ⊥
AreOfSymbols (s ∷ ss) (t ∷ ts) = IsOfSymbol s t × AreOfSymbols ss ts

pub of_symbol : (signature : Signature) (first : ℕ) (seen : List ℕ) (s : DatatypeSymbol) (d : DataDec) (t : PlainDatatype) (before after : List ℕ) → judge_datatype signature first seen s d before (well_sorted t after) → IsOfSymbol s t
of_symbol signature first seen s d t before after (params, between, (u, start, count, names), (cs, later, k, (e, f))) =
    subst (IsOfSymbol s) (sym e) (record { number_is = refl; name_is = refl; arity_is = omega (arith, variable_count [] (params_of d) params start between names, count.0) })

pub of_symbols : (signature : Signature) (first : ℕ) (seen : List ℕ) (at : ℕ) (ss : List DatatypeSymbol) (ds : List DataDec) (group : List PlainDatatype) (before after : List ℕ)
    → judge_datatypes signature first seen at ss ds before (well_sorted group after) → AreOfSymbols ss group
of_symbols signature first seen at [] ds group before after (e, f) = subst (AreOfSymbols []) (sym e) tt
of_symbols signature first seen at (s ∷ ss) [] group before after h = absurd h
of_symbols signature first seen at (s ∷ ss) (d ∷ ds) group before after (t, between, j, (ts, later, k, (e, f))) =
    subst (AreOfSymbols (s ∷ ss)) (sym e) (of_symbol signature first seen s d t before between j, of_symbols signature first (seen ++ all_part_names t.constructors) at ss ds ts between later k)

-- the live sort symbols of a group are those of its datatypes
same_symbol : (d : Declarations) (s : DatatypeSymbol) (t : PlainDatatype) → IsOfSymbol s t → with_symbol d s ≡ with_sort t.name (data_sort t.no (length t.params)) d
same_symbol d s t h =
    ap (λ n. with_sort n (data_sort s.no s.arity) d) (sym h.name_is) ∙ (ap (λ n. with_sort t.name (data_sort n s.arity) d) (sym h.number_is) ∙ ap (λ n. with_sort t.name (data_sort t.no n) d) (sym h.arity_is))

same_symbols : (d : Declarations) (ss : List DatatypeSymbol) (group : List PlainDatatype) → AreOfSymbols ss group → with_symbols d ss ≡ with_sorts d group
same_symbols d [] [] h = refl
same_symbols d [] (t ∷ ts) h = absurd h
same_symbols d (s ∷ ss) [] h = absurd h
same_symbols d (s ∷ ss) (t ∷ ts) h = ap (λ (x : Declarations). with_symbols x ss) (same_symbol d s t h.0) ∙ same_symbols (with_sort t.name (data_sort t.no (length t.params)) d) ss ts h.1

same_length : (ss : List DatatypeSymbol) (group : List PlainDatatype) → AreOfSymbols ss group → length ss ≡ length group
same_length [] [] h = refl
same_length [] (t ∷ ts) h = absurd h
same_length (s ∷ ss) [] h = absurd h
same_length (s ∷ ss) (t ∷ ts) h = omega (arith, same_length ss ts h.1)

pub group_symbols : (signature : Signature) (d : Declarations) (first at : ℕ) (seen : List ℕ) (ss : List DatatypeSymbol) (ds : List DataDec) (group : List PlainDatatype) (before after : List ℕ)
    → judge_datatypes signature first seen at ss ds before (well_sorted group after) → with_symbols d ss ≡ with_sorts d group
group_symbols signature d first at seen ss ds group before after h = same_symbols d ss group (of_symbols signature first seen at ss ds group before after h)

pub single_symbol : (signature : Signature) (d : Declarations) (first : ℕ) (seen : List ℕ) (s : DatatypeSymbol) (dec : DataDec) (t : PlainDatatype) (before after : List ℕ)
    → judge_datatype signature first seen s dec before (well_sorted t after) → with_symbol d s ≡ with_sorts d (t ∷ [])
single_symbol signature d first seen s dec t before after h = same_symbol d s t (of_symbol signature first seen s dec t before after h)

pub group_length : (signature : Signature) (first at : ℕ) (seen : List ℕ) (ss : List DatatypeSymbol) (ds : List DataDec) (group : List PlainDatatype) (before after : List ℕ)
    → judge_datatypes signature first seen at ss ds before (well_sorted group after) → length ss ≡ length group
group_length signature first at seen ss ds group before after h = same_length ss group (of_symbols signature first seen at ss ds group before after h)
