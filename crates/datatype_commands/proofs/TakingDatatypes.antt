-- The datatypes of a group, from what the calls answer.
use Rattle.std.proofs.Common.{◌≡◌, ℕ, ◌+◌, ◌-◌, false, List, [], ◌∷◌, ◌++◌, length, map, Option, Some, None, Ok, Err, Result, refl, ap, sym, ◌∙◌, subst, arith}
use Rattle.std.proofs.lemmas.List.{map-append}
use Rattle.lex_core.specs.declared.token.Tok.{Tok}
use Rattle.sig_table.specs.declared.code.Code.TheVariants.{SortNameInUse, WrongParameterCount}
use Rattle.judgement.specs.Judging.{Judging, ◌>>=◌, check, done, ill_sorted, well_sorted}
use Rattle.cmd_grammar.specs.Commands.{ConstructorDec, DataDec, SortDec}
use Rattle.cmd_grammar.specs.TreeLists.{SplitsBy}
use Rattle.dt_rules.specs.Answers.{Answers}
use Rattle.dt_rules.specs.declared.error.TyError.{TyError}
use Rattle.dt_rules.specs.declared.error.TyError.TheVariants as error
use Rattle.term_store.specs.Command.{PlainConstructor, PlainDatatype, plain_datatype}
use Rattle.term_store.specs.declared.command.Datatype.{Datatype}
use Rattle.typer.specs.Declarations.{Declarations, declarations_of}
use Rattle.typer.specs.FunctionSymbols.{Signature, is_sort_in_use, signature_of}
use Rattle.typer.specs.declared.world.World.{World}
use Rattle.typer.proofs.ListSteps.{Begins, Leads, onward_all}
use Rattle.typer.proofs.TermSteps.{first_fails, first_is}
use Rattle.datatype_commands.specs.Answers.{OnlyScopesChange, data_decs_left}
use Rattle.datatype_commands.specs.GroupRules.{all_part_names, constructors_of, judge_constructors, judge_datatype, judge_datatypes, judge_group, judge_params, judge_single, judge_symbols, judge_whole, only_symbol, under_symbol, under_symbols, with_symbol, with_symbols}
use Rattle.datatype_commands.specs.declared.symbols.DatatypeSymbol.{DatatypeSymbol}
use Rattle.datatype_commands.proofs.TakingLists.{Onward, answers_end, answers_fault, answers_on}

-- One datatype.
module _ (S : Signature) (first : ℕ) (names : List ℕ) (s : DatatypeSymbol) (d : DataDec) where
  abbrev Made : List ℕ → List PlainConstructor → PlainDatatype
  Made ps cs = record { no = s.no; name = s.name.name; params = ps; constructors = cs }

  abbrev ConstructorsRule : List ℕ → Judging (List PlainConstructor)
  ConstructorsRule ps = judge_constructors S ps first names (constructors_of d)

  abbrev Rest : List ℕ → Judging PlainDatatype
  Rest ps = ConstructorsRule ps >>= (λ cs. done (Made ps cs))

  pub datatype_unparametered : (e : TyError) → Answers {A = List ℕ} (Err e) (judge_params s d) → Answers {A = PlainDatatype} (Err e) (judge_datatype S first names s d)
  datatype_unparametered e h = first_fails (judge_params s d) Rest e h

  module _ (ps shown : List ℕ) (raws : List ConstructorDec) (same : shown ≡ ps) (its : raws ≡ constructors_of d) (params : Answers (Ok ps) (judge_params s d)) where
    moved : (r : Result (List PlainConstructor) TyError) → Answers r (judge_constructors S shown first names raws) → Answers r (ConstructorsRule ps)
    moved r h = subst (λ (ns : List ℕ). Answers r (judge_constructors S ns first names (constructors_of d))) same (subst (λ (cs : List ConstructorDec). Answers r (judge_constructors S shown first names cs)) its h)

    pub datatype_broken : (e : TyError) → Answers {A = List PlainConstructor} (Err e) (judge_constructors S shown first names raws) → Answers {A = PlainDatatype} (Err e) (judge_datatype S first names s d)
    datatype_broken e h = first_is {B = PlainDatatype} (judge_params s d) Rest ps (Err e) params (first_fails {B = PlainDatatype} (ConstructorsRule ps) (λ cs. done (Made ps cs)) e (moved (Err e) h))

    pub datatype_right : (cs : List PlainConstructor) → Answers (Ok cs) (judge_constructors S shown first names raws) → Answers (Ok (Made ps cs)) (judge_datatype S first names s d)
    datatype_right cs h =
        first_is {B = PlainDatatype} (judge_params s d) Rest ps (Ok (Made ps cs)) params (first_is {B = PlainDatatype} (ConstructorsRule ps) (λ cs. done (Made ps cs)) cs (Ok (Made ps cs)) (moved (Ok cs) h) (λ before. (refl, refl)))

-- Those of the sort symbols, one after the other.
pub data_decs_split : (ds : List DataDec) (o : Option (DataDec × List DataDec)) → SplitsBy (λ d. d) ds o → data_decs_left o ≡ ds
data_decs_split ds None e = sym e
data_decs_split ds (Some p) e = sym e

pub no_symbols_left : (ss : List DatatypeSymbol) → length ss ≡ 0 → ss ≡ []
no_symbols_left [] e = refl
no_symbols_left (s ∷ ss) e = absurd (omega (arith, e))

module _ (S : Signature) (first at : ℕ) where
  pub no_datatypes_yet : (names : List ℕ) (ss left : List DatatypeSymbol) (ds decs : List DataDec) (made : List Datatype) → names ≡ [] → left ≡ ss → decs ≡ ds → made ≡ []
      → Onward (judge_datatypes S first [] at ss ds) (judge_datatypes S first names at left decs) (map plain_datatype made)
  no_datatypes_yet names ss left ds decs made none same its empty before =
      subst (λ (ns : List ℕ). Leads (judge_datatypes S first [] at ss ds) (judge_datatypes S first ns at left decs) (map plain_datatype made) before before) (sym none)
      (subst (λ (xs : List DatatypeSymbol). Leads (judge_datatypes S first [] at ss ds) (judge_datatypes S first [] at xs decs) (map plain_datatype made) before before) (sym same)
      (subst (λ (ts : List Datatype). Leads (judge_datatypes S first [] at ss ds) (judge_datatypes S first [] at ss decs) (map plain_datatype ts) before before) (sym empty) (onward_all (judge_datatypes S first [] at ss) ds decs before its)))

  module _ (whole : Judging (List PlainDatatype)) (names : List ℕ) (left : List DatatypeSymbol) (decs : List DataDec) (made : List Datatype) (onward : Onward whole (judge_datatypes S first names at left decs) (map plain_datatype made)) where
    pub datatypes_taken : left ≡ [] → Answers (Ok (map plain_datatype made)) whole
    datatypes_taken none = answers_end whole (judge_datatypes S first names at left decs) (map plain_datatype made) (λ before. subst (λ (xs : List DatatypeSymbol). judge_datatypes S first names at xs decs before (well_sorted [] before)) (sym none) (refl, refl)) onward

    -- there is no declaration for a symbol
    pub none_declared : (s : DatatypeSymbol) (others : List DatatypeSymbol) → left ≡ s ∷ others → decs ≡ [] → Answers {A = List PlainDatatype} (Err (error.Fault (record { code = WrongParameterCount; at = at }))) whole
    none_declared s others some none before =
        onward before (ill_sorted (record { code = WrongParameterCount; at = at }))
        (subst (λ (xs : List DatatypeSymbol). judge_datatypes S first names at xs decs before (ill_sorted (record { code = WrongParameterCount; at = at }))) (sym some)
        (subst (λ (ds : List DataDec). judge_datatypes S first names at (s ∷ others) ds before (ill_sorted (record { code = WrongParameterCount; at = at }))) (sym none) refl))

    module _ (here : Signature) (here_first : ℕ) (s : DatatypeSymbol) (others : List DatatypeSymbol) (d : DataDec) (rest : List DataDec) (same : here ≡ S) (same_first : here_first ≡ first) (some : left ≡ s ∷ others) (shown : decs ≡ d ∷ rest) where
      begins : Begins (judge_datatypes S first names at left decs) (judge_datatype S first names s d) (λ t. judge_datatypes S first (names ++ all_part_names t.constructors) at others rest)
      begins before o h =
          subst (λ (xs : List DatatypeSymbol). judge_datatypes S first names at xs decs before o) (sym some) (subst (λ (ds : List DataDec). judge_datatypes S first names at (s ∷ others) ds before o) (sym shown) h)

      here_datatype : (r : Result PlainDatatype TyError) → Answers r (judge_datatype here here_first names s d) → Answers r (judge_datatype S first names s d)
      here_datatype r h = subst (λ (x : Signature). Answers r (judge_datatype x first names s d)) same (subst (λ (n : ℕ). Answers r (judge_datatype here n names s d)) same_first h)

      pub datatype_fault : (e : TyError) → Answers {A = PlainDatatype} (Err e) (judge_datatype here here_first names s d) → Answers {A = List PlainDatatype} (Err e) whole
      datatype_fault e h =
          answers_fault whole (judge_datatypes S first names at left decs) (judge_datatype S first names s d) (λ t. judge_datatypes S first (names ++ all_part_names t.constructors) at others rest) (map plain_datatype made) begins onward e (here_datatype (Err e) h)

      pub datatype_taken : (t : Datatype) (new : List Datatype) (later : List ℕ) (symbols : List DatatypeSymbol) (after : List DataDec) → Answers (Ok (plain_datatype t)) (judge_datatype here here_first names s d) → new ≡ made ++ t ∷ []
          → later ≡ names ++ all_part_names (plain_datatype t).constructors → symbols ≡ others → after ≡ rest → Onward whole (judge_datatypes S first later at symbols after) (map plain_datatype new)
      datatype_taken t new later symbols after h put e same_others next before =
          subst (λ (ns : List ℕ). Leads whole (judge_datatypes S first ns at symbols after) (map plain_datatype new) before before) (sym e)
          (subst (λ (xs : List DatatypeSymbol). Leads whole (judge_datatypes S first (names ++ all_part_names (plain_datatype t).constructors) at xs after) (map plain_datatype new) before before) (sym same_others)
          (subst (λ (ds : List DataDec). Leads whole (judge_datatypes S first (names ++ all_part_names (plain_datatype t).constructors) at others ds) (map plain_datatype new) before before) (sym next)
          (subst (λ (ts : List PlainDatatype). Leads whole (judge_datatypes S first (names ++ all_part_names (plain_datatype t).constructors) at others rest) ts before before) (sym (ap (map plain_datatype) put ∙ map-append plain_datatype made (t ∷ [])))
          (answers_on whole (judge_datatypes S first names at left decs) (judge_datatype S first names s d) (λ u. judge_datatypes S first (names ++ all_part_names u.constructors) at others rest) (map plain_datatype made) begins onward (plain_datatype t)
          (here_datatype (Ok (plain_datatype t)) h) before))))

-- The first number, where the command has declared no name.
pub first_number : (world : World) → world.seen.items ≡ [] → (signature_of world).first ≡ world.next.0
first_number world none = ap (λ (ns : List ℕ). world.next.0 - length ns) none ∙ less_none world.next.0
  where
    less_none : (n : ℕ) → n - 0 ≡ n
    less_none n = omega arith

-- The signature under the sort symbols.
pub symbols_signature : (old new : World) (ss : List DatatypeSymbol) → OnlyScopesChange old new → declarations_of new.scopes ≡ with_symbols (declarations_of old.scopes) ss → signature_of new ≡ under_symbols (signature_of old) ss
symbols_signature old new ss others effect = ap signature_of others ∙ ap (λ (d : Declarations). record (signature_of old) { declarations = d }) effect

pub symbol_signature : (old new : World) (s : DatatypeSymbol) → OnlyScopesChange old new → declarations_of new.scopes ≡ with_symbol (declarations_of old.scopes) s → signature_of new ≡ under_symbol (signature_of old) s
symbol_signature old new s others effect = ap signature_of others ∙ ap (λ (d : Declarations). record (signature_of old) { declarations = d }) effect

-- The rules of a group.
module _ (S : Signature) (at : ℕ) (ss : List SortDec) (ds : List DataDec) where
  abbrev SymbolsRule : Judging (List DatatypeSymbol)
  SymbolsRule = judge_symbols S S.first ss

  abbrev CountRule : Judging (Unit {0})
  CountRule = check (length ds ≡ length ss) WrongParameterCount at

  abbrev DatatypesRule : List DatatypeSymbol → Judging (List PlainDatatype)
  DatatypesRule symbols = judge_datatypes (under_symbols S symbols) (S.first + length symbols) [] at symbols ds

  abbrev WholeRule : List DatatypeSymbol → List PlainDatatype → Judging (Unit {0})
  WholeRule symbols group = judge_whole S.datatypes at symbols group

  abbrev AfterDatatypes : List DatatypeSymbol → List PlainDatatype → Judging (List PlainDatatype)
  AfterDatatypes symbols group = WholeRule symbols group >>= (λ u. done group)

  abbrev AfterCount : List DatatypeSymbol → Unit {0} → Judging (List PlainDatatype)
  AfterCount symbols u = DatatypesRule symbols >>= AfterDatatypes symbols

  abbrev AfterSymbols : List DatatypeSymbol → Judging (List PlainDatatype)
  AfterSymbols symbols = CountRule >>= AfterCount symbols

  pub group_unnamed : (e : TyError) → Answers {A = List DatatypeSymbol} (Err e) SymbolsRule → Answers {A = List PlainDatatype} (Err e) (judge_group S at ss ds)
  group_unnamed e h = first_fails SymbolsRule AfterSymbols e h

  module _ (symbols : List DatatypeSymbol) (named : Answers (Ok symbols) SymbolsRule) where
    pub group_uncounted : (length ds ≡ length ss → ⊥) → Answers {A = List PlainDatatype} (Err (error.Fault (record { code = WrongParameterCount; at = at }))) (judge_group S at ss ds)
    group_uncounted other =
        first_is {B = List PlainDatatype} SymbolsRule AfterSymbols symbols (Err (error.Fault (record { code = WrongParameterCount; at = at }))) named
        (first_fails {B = List PlainDatatype} CountRule (AfterCount symbols) (error.Fault (record { code = WrongParameterCount; at = at })) (λ before. (other, refl)))

    module _ (counted : length ds ≡ length ss) where
      after_count : (r : Result (List PlainDatatype) TyError) → Answers r (DatatypesRule symbols >>= AfterDatatypes symbols) → Answers r (judge_group S at ss ds)
      after_count r h = first_is {B = List PlainDatatype} SymbolsRule AfterSymbols symbols r named (first_is {B = List PlainDatatype} CountRule (AfterCount symbols) tt r (λ before. (counted, refl)) h)

      pub group_broken : (e : TyError) → Answers {A = List PlainDatatype} (Err e) (DatatypesRule symbols) → Answers {A = List PlainDatatype} (Err e) (judge_group S at ss ds)
      group_broken e h = after_count (Err e) (first_fails (DatatypesRule symbols) (AfterDatatypes symbols) e h)

      module _ (group : List PlainDatatype) (judged : Answers (Ok group) (DatatypesRule symbols)) where
        pub group_refused : (e : TyError) → Answers {A = Unit {0}} (Err e) (WholeRule symbols group) → Answers {A = List PlainDatatype} (Err e) (judge_group S at ss ds)
        group_refused e h = after_count (Err e) (first_is {B = List PlainDatatype} (DatatypesRule symbols) (AfterDatatypes symbols) group (Err e) judged (first_fails {B = List PlainDatatype} (WholeRule symbols group) (λ u. done group) e h))

        pub group_right : Answers (Ok tt) (WholeRule symbols group) → Answers (Ok group) (judge_group S at ss ds)
        group_right h =
            after_count (Ok group) (first_is {B = List PlainDatatype} (DatatypesRule symbols) (AfterDatatypes symbols) group (Ok group) judged (first_is {B = List PlainDatatype} (WholeRule symbols group) (λ u. done group) tt (Ok group) h (λ before. (refl, refl))))

-- The rules of one datatype.
module _ (S : Signature) (at : ℕ) (n : Tok) (d : DataDec) where
  abbrev NameRule : Judging (Unit {0})
  NameRule = check (is_sort_in_use S n.name ≡ false) SortNameInUse n.at

  abbrev Symbol : DatatypeSymbol
  Symbol = only_symbol S n d

  abbrev DatatypeRule : Judging PlainDatatype
  DatatypeRule = judge_datatype (under_symbol S Symbol) (S.first + 1) [] Symbol d

  abbrev SingleWhole : PlainDatatype → Judging (Unit {0})
  SingleWhole t = judge_whole S.datatypes at (Symbol ∷ []) (t ∷ [])

  abbrev AfterDatatype : PlainDatatype → Judging PlainDatatype
  AfterDatatype t = SingleWhole t >>= (λ u. done t)

  abbrev AfterName : Unit {0} → Judging PlainDatatype
  AfterName u = DatatypeRule >>= AfterDatatype

  module _ (free : is_sort_in_use S n.name ≡ false) where
    after_name : (r : Result PlainDatatype TyError) → Answers r (DatatypeRule >>= AfterDatatype) → Answers r (judge_single S at n d)
    after_name r h = first_is {B = PlainDatatype} NameRule AfterName tt r (λ before. (free, refl)) h

    pub single_broken : (e : TyError) → Answers {A = PlainDatatype} (Err e) DatatypeRule → Answers {A = PlainDatatype} (Err e) (judge_single S at n d)
    single_broken e h = after_name (Err e) (first_fails DatatypeRule AfterDatatype e h)

    module _ (t : PlainDatatype) (judged : Answers (Ok t) DatatypeRule) where
      pub single_refused : (e : TyError) → Answers {A = Unit {0}} (Err e) (SingleWhole t) → Answers {A = PlainDatatype} (Err e) (judge_single S at n d)
      single_refused e h = after_name (Err e) (first_is {B = PlainDatatype} DatatypeRule AfterDatatype t (Err e) judged (first_fails {B = PlainDatatype} (SingleWhole t) (λ u. done t) e h))

      pub single_right : Answers (Ok tt) (SingleWhole t) → Answers (Ok t) (judge_single S at n d)
      single_right h = after_name (Ok t) (first_is {B = PlainDatatype} DatatypeRule AfterDatatype t (Ok t) judged (first_is {B = PlainDatatype} (SingleWhole t) (λ u. done t) tt (Ok t) h (λ before. (refl, refl))))
