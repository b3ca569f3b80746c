-- The rules on the groups of datatypes that a command declares add no name to those that its terms declare.
use Rattle.std.proofs.Common.{ℕ, ◌+◌, List, [], ◌∷◌, ◌++◌, length}
use Rattle.lex_core.specs.declared.token.Tok.{Tok}
use Rattle.judgement.specs.Judging.{DeclaresNone}
use Rattle.judgement.proofs.NamesKept.{none-check, none-done, none-refuse, none-then}
use Rattle.term_grammar.specs.Syntax.{SortedSymbol}
use Rattle.cmd_grammar.specs.Commands.{ConstructorDec, DataDec, SortDec}
use Rattle.term_store.specs.Command.{PlainDatatype}
use Rattle.dt_rules.specs.Groups.{known}
use Rattle.dt_rules.specs.PatternRules.{judge_variables}
use Rattle.typer.specs.FunctionSymbols.{Signature}
use Rattle.typer.proofs.SortLaws.{none-sort}
use Rattle.datatype_commands.specs.declared.symbols.DatatypeSymbol.{DatatypeSymbol}
use Rattle.datatype_commands.specs.GroupRules.{all_part_names, constructors_of, judge_constructor, judge_constructors, judge_datatype, judge_datatypes, judge_group, judge_params, judge_part, judge_selector, judge_selectors, judge_settled, judge_single, judge_symbol, judge_symbols, judge_whole, only_symbol, params_of, part_names, under_symbol, under_symbols}

none-symbol : (signature : Signature) (number : ℕ) (d : SortDec) → DeclaresNone (judge_symbol signature number d)
none-symbol signature number d = none-then _ _ (none-check _ _ _) (λ u. none-then _ _ (none-check _ _ _) (λ v. none-done _))

none-symbols : (signature : Signature) (number : ℕ) (ds : List SortDec) → DeclaresNone (judge_symbols signature number ds)
none-symbols signature number [] = none-done _
none-symbols signature number (d ∷ ds) = none-then _ _ (none-symbol signature number d) (λ s. none-then _ _ (none-symbols (under_symbol signature s) (number + 1) ds) (λ ss. none-done _))

none-part : (signature : Signature) (first : ℕ) (before : List ℕ) (t : Tok) → DeclaresNone (judge_part signature first before t)
none-part signature first before t = none-then _ _ (none-check _ _ _) (λ u. none-done _)

none-selector : (signature : Signature) (params : List ℕ) (first : ℕ) (before : List ℕ) (f : SortedSymbol) → DeclaresNone (judge_selector signature params first before f)
none-selector signature params first before f =
    none-then _ _ (none-part signature first before f.name) (λ n. none-then _ _ (none-sort signature.texts signature.declarations signature.theories params f.sort) (λ s. none-done _))

none-selectors : (signature : Signature) (params : List ℕ) (first : ℕ) (before : List ℕ) (fs : List SortedSymbol) → DeclaresNone (judge_selectors signature params first before fs)
none-selectors signature params first before [] = none-done _
none-selectors signature params first before (f ∷ fs) =
    none-then _ _ (none-selector signature params first before f) (λ field. none-then _ _ (none-selectors signature params first (before ++ field.name ∷ []) fs) (λ fields. none-done _))

none-constructor : (signature : Signature) (params : List ℕ) (first : ℕ) (before : List ℕ) (c : ConstructorDec) → DeclaresNone (judge_constructor signature params first before c)
none-constructor signature params first before c =
    none-then _ _ (none-part signature first before c.name) (λ n. none-then _ _ (none-selectors signature params first (before ++ c.name.name ∷ []) c.selectors) (λ fields. none-done _))

none-constructors : (signature : Signature) (params : List ℕ) (first : ℕ) (before : List ℕ) (cs : List ConstructorDec) → DeclaresNone (judge_constructors signature params first before cs)
none-constructors signature params first before [] = none-done _
none-constructors signature params first before (c ∷ cs) =
    none-then _ _ (none-constructor signature params first before c) (λ made. none-then _ _ (none-constructors signature params first (before ++ part_names made) cs) (λ others. none-done _))

none-variables : (names : List ℕ) (vs : List Tok) → DeclaresNone (judge_variables names vs)
none-variables names [] = none-done _
none-variables names (v ∷ vs) = none-then _ _ (none-check _ _ _) (λ u. none-variables (names ++ v.name ∷ []) vs)

none-params : (s : DatatypeSymbol) (d : DataDec) → DeclaresNone (judge_params s d)
none-params s d = none-then _ _ (none-check _ _ _) (λ u. none-variables [] (params_of d))

none-datatype : (signature : Signature) (first : ℕ) (before : List ℕ) (s : DatatypeSymbol) (d : DataDec) → DeclaresNone (judge_datatype signature first before s d)
none-datatype signature first before s d =
    none-then _ _ (none-params s d) (λ params. none-then _ _ (none-constructors signature params first before (constructors_of d)) (λ cs. none-done _))

none-datatypes : (signature : Signature) (first : ℕ) (before : List ℕ) (at : ℕ) (ss : List DatatypeSymbol) (ds : List DataDec) → DeclaresNone (judge_datatypes signature first before at ss ds)
none-datatypes signature first before at [] ds = none-done _
none-datatypes signature first before at (s ∷ ss) [] = none-refuse _ _
none-datatypes signature first before at (s ∷ ss) (d ∷ ds) =
    none-then _ _ (none-datatype signature first before s d) (λ t. none-then _ _ (none-datatypes signature first (before ++ all_part_names t.constructors) at ss ds) (λ ts. none-done _))

none-settled : (ts group : List PlainDatatype) (ss : List DatatypeSymbol) (left : List PlainDatatype) → DeclaresNone (judge_settled ts group ss left)
none-settled ts group [] left = none-done _
none-settled ts group (s ∷ ss) [] = none-done _
none-settled ts group (s ∷ ss) (t ∷ left) = none-then _ _ (none-check _ _ _) (λ u. none-settled ts group ss left)

none-whole : (kept : List PlainDatatype) (at : ℕ) (ss : List DatatypeSymbol) (group : List PlainDatatype) → DeclaresNone (judge_whole kept at ss group)
none-whole kept at ss group = none-then _ _ (none-check _ _ _) (λ u. none-settled (known kept group) group ss group)

pub none-group : (signature : Signature) (at : ℕ) (ss : List SortDec) (ds : List DataDec) → DeclaresNone (judge_group signature at ss ds)
none-group signature at ss ds =
    none-then _ _ (none-symbols signature signature.first ss) (λ symbols. none-then _ _ (none-check _ _ _)
    (λ u. none-then _ _ (none-datatypes (under_symbols signature symbols) (signature.first + length symbols) [] at symbols ds)
    (λ group. none-then _ _ (none-whole signature.datatypes at symbols group) (λ v. none-done _))))

pub none-single : (signature : Signature) (at : ℕ) (n : Tok) (d : DataDec) → DeclaresNone (judge_single signature at n d)
none-single signature at n d =
    let symbol = only_symbol signature n d in
    none-then _ _ (none-check _ _ _) (λ u. none-then _ _ (none-datatype (under_symbol signature symbol) (signature.first + 1) [] symbol d)
    (λ t. none-then _ _ (none-whole signature.datatypes at (symbol ∷ []) (t ∷ [])) (λ v. none-done _)))
