-- What the calls answer of a world in which the sort symbols of a group are live, told of the world before.
use Rattle.std.proofs.Common.{◌≡◌, ℕ, ◌+◌, List, [], ◌∷◌, length, map, Ok, Result, refl, ap, sym, ◌∙◌, subst, arith}
use Rattle.lex_core.specs.declared.token.Tok.{Tok}
use Rattle.judgement.specs.Judging.{well_sorted}
use Rattle.sort_store.specs.Interned.{Grows}
use Rattle.sort_store.specs.Tree.{Sort}
use Rattle.sort_store.proofs.GrownStores.{grows_more, grows_none}
use Rattle.cmd_grammar.specs.Commands.{DataDec, SortDec}
use Rattle.dt_rules.specs.Answers.{Answers}
use Rattle.dt_rules.specs.Groups.{IsReadyGroup}
use Rattle.dt_rules.specs.declared.error.TyError.{TyError}
use Rattle.term_store.specs.Command.{PlainDatatype, plain_datatype}
use Rattle.term_store.specs.Script.{Kept}
use Rattle.term_store.specs.declared.command.Datatype.{Datatype}
use Rattle.typer.specs.Declarations.{declarations_of}
use Rattle.typer.specs.FunctionSymbols.{Signature, datatypes_of, signature_of}
use Rattle.typer.specs.declared.world.World.{World}
use Rattle.datatype_commands.specs.Answers.{OnlyScopesChange, OnlySortsGrow, OnlySymbolsChange}
use Rattle.datatype_commands.specs.DeclaredDatatypes.{with_sorts}
use Rattle.datatype_commands.specs.GroupRules.{judge_datatype, judge_datatypes, judge_symbols, judge_whole, only_symbol, params_of, under_symbol, under_symbols, with_symbol, with_symbols}
use Rattle.datatype_commands.specs.KnownDatatypes.{KnowsDatatypes}
use Rattle.datatype_commands.specs.declared.symbols.DatatypeSymbol.{DatatypeSymbol}
use Rattle.datatype_commands.proofs.GroupSymbols.{group_length, group_symbols, single_symbol, symbols_numbered}
use Rattle.datatype_commands.proofs.ReadyGroups.{group_ready, single_ready}
use Rattle.datatype_commands.proofs.TakingDatatypes.{first_number, symbol_signature, symbols_signature}

-- the symbols, and then the sorts, have changed
pub symbols_changed : (old mid new : World) → OnlyScopesChange old mid → OnlySortsGrow mid new → OnlySymbolsChange old new
symbols_changed old mid new e g = record {
  others = g.others ∙ ap (λ (w : World). record w { sorts = new.sorts }) e ∙ ap (λ s. record old { scopes = s; sorts = new.sorts }) (ap (λ (w : World). w.scopes) (sym g.others));
  grows = subst (λ (store : List Sort). Grows store new.sorts) (ap (λ (w : World). w.sorts) e) g.grows;
}

pub scopes_changed : (old new : World) → OnlyScopesChange old new → OnlySymbolsChange old new
scopes_changed old new e = record {
  others = e ∙ ap (λ s. record old { scopes = new.scopes; sorts = s }) (sym (ap (λ (w : World). w.sorts) e));
  grows = subst (λ (store : List Sort). Grows old.sorts store) (sym (ap (λ (w : World). w.sorts) e)) (grows_none old.sorts);
}

pub sorts_more : (old mid new : World) → OnlySymbolsChange old mid → OnlySortsGrow mid new → OnlySymbolsChange old new
sorts_more old mid new e g = record {
  others = g.others ∙ ap (λ (w : World). record w { sorts = new.sorts }) e.others ∙ ap (λ s. record old { scopes = s; sorts = new.sorts }) (ap (λ (w : World). w.scopes) (sym g.others));
  grows = grows_more old.sorts mid.sorts new.sorts e.grows g.grows;
}

pub kept_script : (old new : World) → OnlySymbolsChange old new → new.script ≡ old.script
kept_script old new e = ap (λ (w : World). w.script) e.others

pub kept_scopes : (mid new : World) → OnlySortsGrow mid new → new.scopes ≡ mid.scopes
kept_scopes mid new g = ap (λ (w : World). w.scopes) g.others

-- the sort symbols have the next numbers
pub symbols_first : (world : World) (ss : List SortDec) → world.seen.items ≡ [] → (r : Result (List DatatypeSymbol) TyError) → Answers r (judge_symbols (signature_of world) world.next.0 ss) → Answers r (judge_symbols (signature_of world) (signature_of world).first ss)
symbols_first world ss none r h = subst (λ (n : ℕ). Answers r (judge_symbols (signature_of world) n ss)) (sym (first_number world none)) h

-- A group.
module _ (old mid : World) (symbols shown : List DatatypeSymbol) (number at : ℕ) (ds : List DataDec) (none : old.seen.items ≡ []) (others : OnlyScopesChange old mid) (effect : declarations_of mid.scopes ≡ with_symbols (declarations_of old.scopes) symbols)
    (same : shown ≡ symbols) (is : number ≡ old.next.0 + length shown) where
  abbrev S : Signature
  S = signature_of old

  number_is : number ≡ S.first + length symbols
  number_is = omega (arith, is, ap length same, first_number old none)

  pub datatypes_moved : (r : Result (List PlainDatatype) TyError) → Answers r (judge_datatypes (signature_of mid) number [] at shown ds) → Answers r (judge_datatypes (under_symbols S symbols) (S.first + length symbols) [] at symbols ds)
  datatypes_moved r h =
      subst (λ (n : ℕ). Answers r (judge_datatypes (under_symbols S symbols) n [] at symbols ds)) number_is
      (subst (λ (x : Signature). Answers r (judge_datatypes x number [] at symbols ds)) (symbols_signature old mid symbols others effect)
      (subst (λ (ss : List DatatypeSymbol). Answers r (judge_datatypes (signature_of mid) number [] at ss ds)) same h))

  module _ (sds : List SortDec) (group : List PlainDatatype) (named : Answers (Ok symbols) (judge_symbols S S.first sds)) (judged : Answers (Ok group) (judge_datatypes (signature_of mid) number [] at shown ds)) where
    judged_there : judge_datatypes (under_symbols S symbols) (S.first + length symbols) [] at symbols ds [] (well_sorted group [])
    judged_there = datatypes_moved (Ok group) judged []

    pub ready_there : KnowsDatatypes S → IsReadyGroup (datatypes_of old.script) group
    ready_there known = group_ready S known symbols (symbols_numbered S S.first sds symbols [] [] (named [])) (S.first + length symbols) at ds group [] [] judged_there

    pub as_many : length symbols ≡ length group
    as_many = group_length (under_symbols S symbols) (S.first + length symbols) at [] symbols ds group [] [] judged_there

    pub sorts_live : declarations_of mid.scopes ≡ with_sorts (declarations_of old.scopes) group
    sorts_live = effect ∙ group_symbols (under_symbols S symbols) (declarations_of old.scopes) (S.first + length symbols) at [] symbols ds group [] [] judged_there

-- the whole group is judged among the datatypes that the script keeps
pub whole_moved : (old here : World) (at : ℕ) (symbols shown : List DatatypeSymbol) (group seen : List Datatype) → here.script ≡ old.script → shown ≡ symbols → seen ≡ group
    → (r : Result (Unit {0}) TyError) → Answers r (judge_whole (datatypes_of here.script) at shown (map plain_datatype seen)) → Answers r (judge_whole (datatypes_of old.script) at symbols (map plain_datatype group))
whole_moved old here at symbols shown group seen script same its r h =
    subst (λ (ts : List Datatype). Answers r (judge_whole (datatypes_of old.script) at symbols (map plain_datatype ts))) its
    (subst (λ (ss : List DatatypeSymbol). Answers r (judge_whole (datatypes_of old.script) at ss (map plain_datatype seen))) same
    (subst (λ (k : Kept). Answers r (judge_whole (datatypes_of k) at shown (map plain_datatype seen))) script h))

pub ready_moved : (old here : World) (group seen : List Datatype) → here.script ≡ old.script → seen ≡ group → IsReadyGroup (datatypes_of old.script) (map plain_datatype group) → IsReadyGroup (datatypes_of here.script) (map plain_datatype seen)
ready_moved old here group seen script its h =
    subst (λ (ts : List Datatype). IsReadyGroup (datatypes_of here.script) (map plain_datatype ts)) (sym its) (subst (λ (k : Kept). IsReadyGroup (datatypes_of k) (map plain_datatype group)) (sym script) h)

-- A datatype that is declared alone.
module _ (old mid : World) (at number : ℕ) (name : Tok) (d : DataDec) (s : DatatypeSymbol) (names : List ℕ) (none : old.seen.items ≡ []) (others : OnlyScopesChange old mid) (effect : declarations_of mid.scopes ≡ with_symbol (declarations_of old.scopes) s)
    (is : s ≡ record { no = record { 0 = old.next.0 }; name = name; arity = length (params_of d) }) (next : number ≡ old.next.0 + 1) (unnamed : names ≡ []) where
  abbrev T : Signature
  T = signature_of old

  abbrev Symbol : DatatypeSymbol
  Symbol = only_symbol T name d

  pub symbol_is : s ≡ Symbol
  symbol_is = is ∙ ap (λ (n : ℕ). record { no = record { 0 = n }; name = name; arity = length (params_of d) }) (sym (first_number old none))

  single_number : number ≡ T.first + 1
  single_number = omega (arith, next, first_number old none)

  pub datatype_moved : (r : Result PlainDatatype TyError) → Answers r (judge_datatype (signature_of mid) number names s d) → Answers r (judge_datatype (under_symbol T Symbol) (T.first + 1) [] Symbol d)
  datatype_moved r h =
      subst (λ (x : DatatypeSymbol). Answers r (judge_datatype (under_symbol T x) (T.first + 1) [] x d)) symbol_is
      (subst (λ (n : ℕ). Answers r (judge_datatype (under_symbol T s) n [] s d)) single_number
      (subst (λ (ns : List ℕ). Answers r (judge_datatype (under_symbol T s) number ns s d)) unnamed
      (subst (λ (x : Signature). Answers r (judge_datatype x number names s d)) (symbol_signature old mid s others effect) h)))

  module _ (t : PlainDatatype) (judged : Answers (Ok t) (judge_datatype (signature_of mid) number names s d)) where
    judged_alone : judge_datatype (under_symbol T Symbol) (T.first + 1) [] Symbol d [] (well_sorted t [])
    judged_alone = datatype_moved (Ok t) judged []

    pub ready_alone : KnowsDatatypes T → IsReadyGroup (datatypes_of old.script) (t ∷ [])
    ready_alone known = single_ready T known Symbol refl (T.first + 1) d t [] [] judged_alone

    pub sort_live : declarations_of mid.scopes ≡ with_sorts (declarations_of old.scopes) (t ∷ [])
    sort_live = effect ∙ (ap (with_symbol (declarations_of old.scopes)) symbol_is ∙ single_symbol (under_symbol T Symbol) (declarations_of old.scopes) (T.first + 1) [] Symbol d t [] [] judged_alone)
