-- Each group of datatypes that a command declares has exactly one outcome.
use Rattle.std.proofs.Common.{◌≡◌, ℕ, ◌+◌, ◌<◌, Bool, true, false, List, [], ◌∷◌, ◌++◌, length, ◌⊎◌, inl, inr, refl, arith}
use Rattle.std.specs.List.{Contains}
use Rattle.lex_core.specs.declared.token.Tok.{Tok}
use Rattle.judgement.specs.Judging.{Lawful}
use Rattle.judgement.proofs.JudgementLaws.{lawful-check, lawful-done, lawful-refuse, lawful-then, lawful-then_given}
use Rattle.term_grammar.specs.Syntax.{SortedSymbol}
use Rattle.cmd_grammar.specs.Commands.{ConstructorDec, DataDec, SortDec}
use Rattle.term_store.specs.Command.{PlainDatatype}
use Rattle.dt_rules.specs.Groups.{known}
use Rattle.dt_rules.specs.PatternRules.{judge_variables}
use Rattle.dt_rules.specs.Unfolding.{IsTooWide}
use Rattle.dt_rules.proofs.DecidedGroups.{own_settled_decided, wide_decided}
use Rattle.dt_rules.proofs.UnsettledLists.{here, there}
use Rattle.typer.specs.FunctionSymbols.{Signature}
use Rattle.typer.proofs.SortLaws.{at_most, lawful-sort, same_number}
use Rattle.datatype_commands.specs.declared.symbols.DatatypeSymbol.{DatatypeSymbol}
use Rattle.datatype_commands.specs.GroupRules.{all_part_names, constructors_of, judge_constructor, judge_constructors, judge_datatype, judge_datatypes, judge_group, judge_params, judge_part, judge_selector, judge_selectors, judge_settled, judge_single, judge_symbol, judge_symbols, judge_whole, only_symbol, params_of, part_names, under_symbol, under_symbols}

is_false : (b : Bool) → (b ≡ false) ⊎ (b ≡ false → ⊥)
is_false true = inr (λ e. cc)
is_false false = inl refl

is_below : (m n : ℕ) → (m < n) ⊎ (m < n → ⊥)
is_below m n = elim (at_most (m + 1) n) [ inl h ↦ inl (omega (arith, h)) | inr above ↦ inr (λ h. above (omega (arith, h))) ]

-- what is decided is decided where it is denied
denied : {P : Type 0} → P ⊎ (P → ⊥) → (P → ⊥) ⊎ ((P → ⊥) → ⊥)
denied (inl p) = inr (λ refused. refused p)
denied (inr refuted) = inl refuted

lawful-symbol : (signature : Signature) (number : ℕ) (d : SortDec) → Lawful (judge_symbol signature number d)
lawful-symbol signature number d = lawful-then _ _ (lawful-check _ _ _ (is_false _)) (λ u. lawful-then _ _ (lawful-check _ _ _ (is_below _ _)) (λ v. lawful-done _))

lawful-symbols : (signature : Signature) (number : ℕ) (ds : List SortDec) → Lawful (judge_symbols signature number ds)
lawful-symbols signature number [] = lawful-done _
lawful-symbols signature number (d ∷ ds) = lawful-then _ _ (lawful-symbol signature number d) (λ s. lawful-then _ _ (lawful-symbols (under_symbol signature s) (number + 1) ds) (λ ss. lawful-done _))

lawful-part : (signature : Signature) (first : ℕ) (before : List ℕ) (t : Tok) → Lawful (judge_part signature first before t)
lawful-part signature first before t = lawful-then _ _ (lawful-check _ _ _ (is_false _)) (λ u. lawful-done _)

lawful-selector : (signature : Signature) (params : List ℕ) (first : ℕ) (before : List ℕ) (f : SortedSymbol) → Lawful (judge_selector signature params first before f)
lawful-selector signature params first before f = lawful-then _ _ (lawful-part signature first before f.name) (λ n. lawful-then _ _ (lawful-sort _ _ _ _ f.sort) (λ s. lawful-done _))

lawful-selectors : (signature : Signature) (params : List ℕ) (first : ℕ) (before : List ℕ) (fs : List SortedSymbol) → Lawful (judge_selectors signature params first before fs)
lawful-selectors signature params first before [] = lawful-done _
lawful-selectors signature params first before (f ∷ fs) =
    lawful-then _ _ (lawful-selector signature params first before f) (λ field. lawful-then _ _ (lawful-selectors signature params first (before ++ field.name ∷ []) fs) (λ fields. lawful-done _))

lawful-constructor : (signature : Signature) (params : List ℕ) (first : ℕ) (before : List ℕ) (c : ConstructorDec) → Lawful (judge_constructor signature params first before c)
lawful-constructor signature params first before c =
    lawful-then _ _ (lawful-part signature first before c.name) (λ n. lawful-then _ _ (lawful-selectors signature params first (before ++ c.name.name ∷ []) c.selectors) (λ fields. lawful-done _))

lawful-constructors : (signature : Signature) (params : List ℕ) (first : ℕ) (before : List ℕ) (cs : List ConstructorDec) → Lawful (judge_constructors signature params first before cs)
lawful-constructors signature params first before [] = lawful-done _
lawful-constructors signature params first before (c ∷ cs) =
    lawful-then _ _ (lawful-constructor signature params first before c) (λ made. lawful-then _ _ (lawful-constructors signature params first (before ++ part_names made) cs) (λ others. lawful-done _))

lawful-variables : (names : List ℕ) (vs : List Tok) → Lawful (judge_variables names vs)
lawful-variables names [] = lawful-done _
lawful-variables names (v ∷ vs) = lawful-then _ _ (lawful-check _ _ _ (is_false _)) (λ u. lawful-variables (names ++ v.name ∷ []) vs)

lawful-params : (s : DatatypeSymbol) (d : DataDec) → Lawful (judge_params s d)
lawful-params s d = lawful-then _ _ (lawful-check _ _ _ (same_number _ _)) (λ u. lawful-variables [] (params_of d))

lawful-datatype : (signature : Signature) (first : ℕ) (before : List ℕ) (s : DatatypeSymbol) (d : DataDec) → Lawful (judge_datatype signature first before s d)
lawful-datatype signature first before s d =
    lawful-then _ _ (lawful-params s d) (λ params. lawful-then _ _ (lawful-constructors signature params first before (constructors_of d)) (λ cs. lawful-done _))

lawful-datatypes : (signature : Signature) (first : ℕ) (before : List ℕ) (at : ℕ) (ss : List DatatypeSymbol) (ds : List DataDec) → Lawful (judge_datatypes signature first before at ss ds)
lawful-datatypes signature first before at [] ds = lawful-done _
lawful-datatypes signature first before at (s ∷ ss) [] = lawful-refuse _ _
lawful-datatypes signature first before at (s ∷ ss) (d ∷ ds) =
    lawful-then _ _ (lawful-datatype signature first before s d) (λ t. lawful-then _ _ (lawful-datatypes signature first (before ++ all_part_names t.constructors) at ss ds) (λ ts. lawful-done _))

-- where the unfolding is not too wide, for datatypes of the group
lawful-settled : (ts group : List PlainDatatype) → (IsTooWide ts group → ⊥) → (ss : List DatatypeSymbol) (left : List PlainDatatype) → ((t : PlainDatatype) → Contains left t → Contains group t) → Lawful (judge_settled ts group ss left)
lawful-settled ts group narrow [] left within = lawful-done _
lawful-settled ts group narrow (s ∷ ss) [] within = lawful-done _
lawful-settled ts group narrow (s ∷ ss) (t ∷ left) within =
    lawful-then _ _ (lawful-check _ _ _ (own_settled_decided ts group narrow t (within t (here t t left refl)))) (λ u. lawful-settled ts group narrow ss left (λ other c. within other (there t other left c)))

lawful-whole : (kept : List PlainDatatype) (at : ℕ) (ss : List DatatypeSymbol) (group : List PlainDatatype) → Lawful (judge_whole kept at ss group)
lawful-whole kept at ss group =
    lawful-then_given _ _ (lawful-check _ _ _ (denied (wide_decided (known kept group) group))) (λ before u later h. lawful-settled (known kept group) group h.0 ss group (λ t c. c) later)

pub lawful-group : (signature : Signature) (at : ℕ) (ss : List SortDec) (ds : List DataDec) → Lawful (judge_group signature at ss ds)
lawful-group signature at ss ds =
    lawful-then _ _ (lawful-symbols signature signature.first ss) (λ symbols. lawful-then _ _ (lawful-check _ _ _ (same_number _ _))
    (λ u. lawful-then _ _ (lawful-datatypes (under_symbols signature symbols) (signature.first + length symbols) [] at symbols ds)
    (λ group. lawful-then _ _ (lawful-whole signature.datatypes at symbols group) (λ v. lawful-done _))))

pub lawful-single : (signature : Signature) (at : ℕ) (n : Tok) (d : DataDec) → Lawful (judge_single signature at n d)
lawful-single signature at n d =
    let symbol = only_symbol signature n d in
    lawful-then _ _ (lawful-check _ _ _ (is_false _)) (λ u. lawful-then _ _ (lawful-datatype (under_symbol signature symbol) (signature.first + 1) [] symbol d)
    (λ t. lawful-then _ _ (lawful-whole signature.datatypes at (symbol ∷ []) (t ∷ [])) (λ v. lawful-done _)))
