-- The sort symbols of a group are sound where its datatypes are declared, and so are then its field sorts; what is sound under some
-- declarations is sound under more.
use Rattle.std.proofs.Common.{ℕ, suc, List, [], ◌∷◌, ◌++◌, length, refl, sym, subst, arith}
use Rattle.std.specs.List.{All, Contains}
use Rattle.std.proofs.lemmas.List.Elements.{All-weaker}
use Rattle.judgement.specs.Judging.{well_sorted}
use Rattle.sort_store.specs.declared.head.DeclNo.{DeclNo}
use Rattle.sort_store.specs.declared.head.Head.{Head}
use Rattle.sort_store.specs.declared.head.Head.TheVariants as head
use Rattle.sort_store.specs.Tree.{Sort, sort, SortList, no_sorts, more_sorts}
use Rattle.scope_stack.specs.Levels.{live}
use Rattle.term_grammar.specs.Syntax.{SortedSymbol}
use Rattle.cmd_grammar.specs.Commands.{ConstructorDec, DataDec}
use Rattle.term_store.specs.Command.{PlainConstructor, PlainDatatype, PlainField}
use Rattle.term_store.specs.Declarations.{Declaration, datatype}
use Rattle.term_store.specs.SoundScript.{IsSoundDatatype}
use Rattle.term_store.specs.SoundTerms.{sort_count, IsDatatype, IsSoundHead, IsSoundSort, AreSoundSorts}
use Rattle.typer.specs.Declarations.{Declarations, SortDeclaration, free_sort, data_sort, defined_sort}
use Rattle.typer.specs.FunctionSymbols.{Signature}
use Rattle.typer.specs.Soundness.{IsSoundSortSymbol, HasSoundSorts}
use Rattle.typer.proofs.LiveDeclarations.{Each, all_of_each, each_declared, each_of_all}
use Rattle.typer.proofs.SoundSorts.{sound_sort}
use Rattle.datatype_commands.specs.declared.symbols.DatatypeSymbol.{DatatypeSymbol}
use Rattle.datatype_commands.specs.GroupRules.{all_part_names, constructors_of, judge_constructors, judge_datatype, judge_datatypes, judge_selectors, part_names, with_symbol, with_symbols}
use Rattle.datatype_commands.proofs.GroupSymbols.{AreOfSymbols}

-- What is sound under some declarations is sound under more.
module _ (fewer more : List Declaration) (holds : (d : Declaration) → Contains fewer d → Contains more d) where
  datatype_more : (no_of : DeclNo) (params : ℕ) → IsDatatype fewer no_of params → IsDatatype more no_of params
  datatype_more no_of params h = record { its = h.its; is_declared = holds (datatype h.its) h.is_declared; number_is = h.number_is; params_are = h.params_are }

  head_more : (params : ℕ) (h : Head) (args : ℕ) → IsSoundHead fewer params h args → IsSoundHead more params h args
  head_more params (head.Data d n) args s = datatype_more d args s
  head_more params (head.Param i) args s = s
  head_more params head.Bool args s = tt
  head_more params head.Int args s = tt
  head_more params head.Array args s = tt
  head_more params (head.BitVec m) args s = tt
  head_more params (head.Free d n) args s = tt

  mutual
    sort_more : (params : ℕ) (s : Sort) → IsSoundSort fewer params s → IsSoundSort more params s
    sort_more params (sort h ts) s = (head_more params h (sort_count ts) s.0, sorts_more params ts s.1)

    sorts_more : (params : ℕ) (ts : SortList) → AreSoundSorts fewer params ts → AreSoundSorts more params ts
    sorts_more params no_sorts s = tt
    sorts_more params (more_sorts t ts) s = (sort_more params t s.0, sorts_more params ts s.1)

  symbol_more : (d : SortDeclaration) → IsSoundSortSymbol fewer d → IsSoundSortSymbol more d
  symbol_more (free_sort number arity) s = tt
  symbol_more (data_sort number arity) s = datatype_more number arity s
  symbol_more (defined_sort params body) s = sort_more params body s

  pub live_more : (d : Declarations) → HasSoundSorts fewer d → HasSoundSorts more d
  live_more d h =
      All-weaker (λ (x : ℕ × SortDeclaration). IsSoundSortSymbol fewer x.1) (λ (x : ℕ × SortDeclaration). IsSoundSortSymbol more x.1) (λ x s. symbol_more x.1 s) (live d.sorts) h

  pub fields_more : (t : PlainDatatype) → IsSoundDatatype fewer t → IsSoundDatatype more t
  fields_more t h =
      All-weaker (λ (c : PlainConstructor). All (λ (f : PlainField). IsSoundSort fewer (length t.params) f.sort) c.fields)
      (λ (c : PlainConstructor). All (λ (f : PlainField). IsSoundSort more (length t.params) f.sort) c.fields)
      (λ c s. All-weaker (λ (f : PlainField). IsSoundSort fewer (length t.params) f.sort) (λ (f : PlainField). IsSoundSort more (length t.params) f.sort) (λ f s. sort_more (length t.params) f.sort s) c.fields s)
      t.constructors h

-- The sort symbols of a group are sound where its datatypes are declared.
symbol_live : (script : List Declaration) (s : DatatypeSymbol) (d : Declarations) → IsDatatype script s.no s.arity → HasSoundSorts script d → HasSoundSorts script (with_symbol d s)
symbol_live script s d its h =
    let P : ℕ × SortDeclaration → Type 0 = λ (x : ℕ × SortDeclaration). IsSoundSortSymbol script x.1 in
    all_of_each P _ (each_declared P d.global (s.name.name, data_sort s.no s.arity) d.sorts its (each_of_all P (live d.sorts) h))

pub symbols_live : (script : List Declaration) (ss : List DatatypeSymbol) (group : List PlainDatatype) (d : Declarations) → AreOfSymbols ss group → ((t : PlainDatatype) → Contains group t → Contains script (datatype t))
    → HasSoundSorts script d → HasSoundSorts script (with_symbols d ss)
symbols_live script [] [] d are holds h = h
symbols_live script [] (t ∷ ts) d are holds h = absurd are
symbols_live script (s ∷ ss) [] d are holds h = absurd are
symbols_live script (s ∷ ss) (t ∷ ts) d are holds h =
    let own : IsDatatype script s.no s.arity = record { its = t; is_declared = holds t (0, omega arith, refl); number_is = are.0.number_is; params_are = are.0.arity_is } in
    symbols_live script ss ts (with_symbol d s) are.1 (λ u c. holds u (suc c.0, omega (arith, c.1), c.2)) (symbol_live script s d own h)

-- The field sorts are sound where the live sort symbols are.
module _ (script : List Declaration) (signature : Signature) (live_sorts : HasSoundSorts script signature.declarations) where
  module _ (params : List ℕ) where
    fields_sound : (first : ℕ) (seen : List ℕ) (fs : List SortedSymbol) (fields : List PlainField) (before after : List ℕ) → judge_selectors signature params first seen fs before (well_sorted fields after)
        → Each (λ (f : PlainField). IsSoundSort script (length params) f.sort) fields
    fields_sound first seen [] fields before after (e, f) = subst (Each (λ (f : PlainField). IsSoundSort script (length params) f.sort)) (sym e) tt
    fields_sound first seen (d ∷ ds) fields before after (field, between, (number, start, part, (s, middle, j, (made, same))), (rest, later, k, (e, f))) =
        subst (Each (λ (f : PlainField). IsSoundSort script (length params) f.sort)) (sym e) (
          subst (λ (f : PlainField). IsSoundSort script (length params) f.sort) (sym made) (sound_sort script signature.texts signature.declarations signature.theories params live_sorts d.sort s start middle j),
          fields_sound first (seen ++ field.name ∷ []) ds rest between later k,
        )

    abbrev HasSoundFields : PlainConstructor → Type 0
    HasSoundFields c = All (λ (f : PlainField). IsSoundSort script (length params) f.sort) c.fields

    constructors_sound : (first : ℕ) (seen : List ℕ) (ds : List ConstructorDec) (cs : List PlainConstructor) (before after : List ℕ) → judge_constructors signature params first seen ds before (well_sorted cs after) → Each HasSoundFields cs
    constructors_sound first seen [] cs before after (e, f) = subst (Each HasSoundFields) (sym e) tt
    constructors_sound first seen (d ∷ ds) cs before after (c, between, (number, start, part, (fields, middle, j, (made, same))), (rest, later, k, (e, f))) =
        subst (Each HasSoundFields) (sym e) (
          subst HasSoundFields (sym made) (all_of_each (λ (f : PlainField). IsSoundSort script (length params) f.sort) fields (fields_sound first (seen ++ d.name.name ∷ []) d.selectors fields start middle j)),
          constructors_sound first (seen ++ part_names c) ds rest between later k,
        )

  pub single_sound : (first : ℕ) (seen : List ℕ) (s : DatatypeSymbol) (d : DataDec) (t : PlainDatatype) (before after : List ℕ) → judge_datatype signature first seen s d before (well_sorted t after) → IsSoundDatatype script t
  single_sound first seen s d t before after (params, between, j, (cs, later, k, (e, f))) =
      subst (IsSoundDatatype script) (sym e) (all_of_each (HasSoundFields params) cs (constructors_sound params first seen (constructors_of d) cs between later k))

  pub group_sound : (first : ℕ) (seen : List ℕ) (at : ℕ) (ss : List DatatypeSymbol) (ds : List DataDec) (group : List PlainDatatype) (before after : List ℕ)
      → judge_datatypes signature first seen at ss ds before (well_sorted group after) → Each (IsSoundDatatype script) group
  group_sound first seen at [] ds group before after (e, f) = subst (Each (IsSoundDatatype script)) (sym e) tt
  group_sound first seen at (s ∷ ss) [] group before after h = absurd h
  group_sound first seen at (s ∷ ss) (d ∷ ds) group before after (t, between, j, (ts, later, k, (e, f))) =
      subst (Each (IsSoundDatatype script)) (sym e) (single_sound first seen s d t before between j, group_sound first (seen ++ all_part_names t.constructors) at ss ds ts between later k)
