-- A group of datatypes that the rules accept leaves a sound signature, where the script declares all that the group declares.
use Rattle.std.proofs.Common.{◌≡◌, ℕ, zero, suc, ◌+◌, ◌<◌, List, [], ◌∷◌, ◌++◌, length, map, refl, ap, sym, ◌∙◌, subst, arith}
use Rattle.std.specs.List.{Contains}
use Rattle.std.proofs.lemmas.List.Elements.{All-append, Contains-append_right}
use Rattle.lex_core.specs.declared.token.Tok.{Tok}
use Rattle.judgement.specs.Judging.{well_sorted}
use Rattle.scope_stack.specs.Levels.{Levels, live}
use Rattle.cmd_grammar.specs.Commands.{DataDec, SortDec}
use Rattle.term_store.specs.Command.{PlainConstructor, PlainDatatype, PlainField}
use Rattle.term_store.specs.Declarations.{Declaration, constructor_of, datatype, joined, number_given, of_constructor, of_group, parts_of, selector_of}
use Rattle.term_store.specs.SoundScript.{IsSoundDatatype, IsSoundDeclaration}
use Rattle.typer.specs.Declarations.{Declarations, FunDeclaration, SortDeclaration, data_sort, depth, with_fun, with_sort}
use Rattle.typer.specs.Soundness.{IsSoundFunction, IsSoundInstance, IsSoundSortSymbol}
use Rattle.typer.proofs.LiveDeclarations.{Each, all_of_each, each_declared, each_of_all}
use Rattle.datatype_commands.specs.DeclaredDatatypes.{constructor_symbol, selector_symbol, with_constructors, with_parts, with_selectors, with_sorts}
use Rattle.datatype_commands.specs.GroupRules.{judge_group, judge_single, only_symbol, under_symbol, under_symbols}
use Rattle.datatype_commands.proofs.GroupSymbols.{of_symbol, of_symbols}
use Rattle.datatype_commands.proofs.SoundGroups.{group_sound, single_sound, symbols_live}
use Rattle.script_core.specs.Environment.{Environment, signature_in}
use Rattle.script_core.specs.Rules.{with_group}
use Rattle.script_core.proofs.GroupNumbers.{AreCounted, counted_ascend}
use Rattle.script_core.proofs.SoundNamed.{IsSoundEnv}
use Rattle.script_core.proofs.SoundNumbers.{ascend_below, length-declared}
use Rattle.script_core.proofs.SoundSymbols.{HasSoundFields, IsSoundField, constructor_symbol_sound, selector_symbol_sound}

each_append : {X : Type 0} (P : X → Type 0) (xs ys : List X) → Each P xs → Each P ys → Each P (xs ++ ys)
each_append P [] ys h k = k
each_append P (x ∷ xs) ys h k = (h.0, each_append P xs ys h.1 k)

each_left : {X : Type 0} (P : X → Type 0) (xs ys : List X) → Each P (xs ++ ys) → Each P xs
each_left P [] ys h = tt
each_left P (x ∷ xs) ys h = (h.0, each_left P xs ys h.1)

each_right : {X : Type 0} (P : X → Type 0) (xs ys : List X) → Each P (xs ++ ys) → Each P ys
each_right P [] ys h = h
each_right P (x ∷ xs) ys h = each_right P xs ys h.1

-- levels stay as many
sorts_funs : (d : Declarations) (ts : List PlainDatatype) → (with_sorts d ts).funs ≡ d.funs
sorts_funs d [] = refl
sorts_funs d (t ∷ ts) = sorts_funs (with_sort t.name (data_sort t.no (length t.params)) d) ts

selectors_depth : (d : Declarations) (t : PlainDatatype) (fs : List PlainField) → depth (with_selectors d t fs) ≡ depth d
selectors_depth d t [] = refl
selectors_depth d t (f ∷ fs) = selectors_depth (with_fun f.name (selector_symbol t f) d) t fs ∙ length-declared d.global (f.name, selector_symbol t f) d.funs

constructors_depth : (d : Declarations) (t : PlainDatatype) (cs : List PlainConstructor) → depth (with_constructors d t cs) ≡ depth d
constructors_depth d t [] = refl
constructors_depth d t (c ∷ cs) =
    let built = with_fun c.name (constructor_symbol t c) d in
    constructors_depth (with_selectors built t c.fields) t cs ∙ (selectors_depth built t c.fields ∙ length-declared d.global (c.name, constructor_symbol t c) d.funs)

parts_depth : (d : Declarations) (ts : List PlainDatatype) → depth (with_parts d ts) ≡ depth d
parts_depth d [] = refl
parts_depth d (t ∷ ts) = parts_depth (with_constructors d t t.constructors) ts ∙ constructors_depth d t t.constructors

pub of_group_depth : (env : Environment) (group : List PlainDatatype) → depth (with_group env group).declarations ≡ depth env.declarations
of_group_depth env group = parts_depth (with_sorts env.declarations group) group ∙ ap (λ (f : Levels FunDeclaration). length f.pushed) (sorts_funs env.declarations group)

-- constructors and selectors are no sort symbols
selectors_sorts : (d : Declarations) (t : PlainDatatype) (fs : List PlainField) → (with_selectors d t fs).sorts ≡ d.sorts
selectors_sorts d t [] = refl
selectors_sorts d t (f ∷ fs) = selectors_sorts (with_fun f.name (selector_symbol t f) d) t fs

constructors_sorts : (d : Declarations) (t : PlainDatatype) (cs : List PlainConstructor) → (with_constructors d t cs).sorts ≡ d.sorts
constructors_sorts d t [] = refl
constructors_sorts d t (c ∷ cs) =
    let built = with_fun c.name (constructor_symbol t c) d in constructors_sorts (with_selectors built t c.fields) t cs ∙ selectors_sorts built t c.fields

parts_sorts : (d : Declarations) (ts : List PlainDatatype) → (with_parts d ts).sorts ≡ d.sorts
parts_sorts d [] = refl
parts_sorts d (t ∷ ts) = parts_sorts (with_constructors d t t.constructors) ts ∙ constructors_sorts d t t.constructors

-- the group is in what it declares
group_holds : (group : List PlainDatatype) (others : List Declaration) (t : PlainDatatype) → Contains group t → Contains (map datatype group ++ others) (datatype t)
group_holds [] others t c = absurd (omega (arith, c.1))
group_holds (g ∷ gs) others t (zero, l, e) = (0, omega arith, ap datatype e)
group_holds (g ∷ gs) others t (suc k, l, e) = let c = group_holds gs others t (k, omega (arith, l), e) in (suc c.0, omega (arith, c.1), c.2)

module _ (script : List Declaration) where
  -- .. and the script declares it
  abbrev pub DeclaresGroup : List PlainDatatype → Type 0
  DeclaresGroup group = (d : Declaration) → Contains (of_group group) d → Contains script d

  own_declared : (group : List PlainDatatype) → DeclaresGroup group → (t : PlainDatatype) → Contains group t → Contains script (datatype t)
  own_declared group known t c = known (datatype t) (group_holds group (joined (map parts_of group)) t c)

  -- what parts are is no further condition
  selectors_declared : (t : PlainDatatype) (c : PlainConstructor) (fs : List PlainField) → Each (IsSoundDeclaration script) (map (selector_of t c) fs)
  selectors_declared t c [] = tt
  selectors_declared t c (f ∷ fs) = (tt, selectors_declared t c fs)

  constructors_declared : (t : PlainDatatype) (cs : List PlainConstructor) → Each (IsSoundDeclaration script) (joined (map (of_constructor t) cs))
  constructors_declared t [] = tt
  constructors_declared t (c ∷ cs) = each_append (IsSoundDeclaration script) (of_constructor t c) (joined (map (of_constructor t) cs)) (tt, selectors_declared t c c.fields) (constructors_declared t cs)

  parts_declared : (ts : List PlainDatatype) → Each (IsSoundDeclaration script) (joined (map parts_of ts))
  parts_declared [] = tt
  parts_declared (t ∷ ts) = each_append (IsSoundDeclaration script) (parts_of t) (joined (map parts_of ts)) (constructors_declared t t.constructors) (parts_declared ts)

  datatypes_declared : (ts : List PlainDatatype) → Each (IsSoundDatatype script) ts → Each (IsSoundDeclaration script) (map datatype ts)
  datatypes_declared [] h = tt
  datatypes_declared (t ∷ ts) h = (h.0, datatypes_declared ts h.1)

  pub of_group_sound : (group : List PlainDatatype) → Each (IsSoundDatatype script) group → Each (IsSoundDeclaration script) (of_group group)
  of_group_sound group h = each_append (IsSoundDeclaration script) (map datatype group) (joined (map parts_of group)) (datatypes_declared group h) (parts_declared group)

  module _ (top : ℕ) where
    -- the script has the declaration, with a number below the next one
    abbrev IsGood : Declaration → Type 0
    IsGood d = Contains script d × (number_given d < top)

    abbrev OfFun : ℕ × FunDeclaration → Type 0
    OfFun f = IsSoundFunction script f.1 × (f.1.number.0 < top)

    all_good : (ds : List Declaration) → ((d : Declaration) → Contains ds d → Contains script d) → Each (λ (m : ℕ). m < top) (map number_given ds) → Each IsGood ds
    all_good [] known low = tt
    all_good (d ∷ ds) known low = ((known d (0, omega arith, refl), low.0), all_good ds (λ x c. known x (Contains-append_right (d ∷ []) ds x c)) low.1)

    -- the selectors are live, the constructors with theirs, and those of all datatypes
    selectors_live : (d : Declarations) (t : PlainDatatype) (c : PlainConstructor) (fs : List PlainField) → Contains script (datatype t) → Each IsGood (map (selector_of t c) fs) → Each (IsSoundField script (length t.params)) fs
        → Each OfFun (live d.funs) → Each OfFun (live (with_selectors d t fs).funs)
    selectors_live d t c [] its good fields funs = funs
    selectors_live d t c (f ∷ fs) its good fields funs =
        selectors_live (with_fun f.name (selector_symbol t f) d) t c fs its good.1 fields.1
        (each_declared OfFun d.global (f.name, selector_symbol t f) d.funs (selector_symbol_sound script t c f its good.0.0 fields.0, good.0.1) funs)

    constructors_live : (d : Declarations) (t : PlainDatatype) (cs : List PlainConstructor) → Contains script (datatype t) → Each IsGood (joined (map (of_constructor t) cs)) → Each (HasSoundFields script (length t.params)) cs
        → Each OfFun (live d.funs) → Each OfFun (live (with_constructors d t cs).funs)
    constructors_live d t [] its good fields funs = funs
    constructors_live d t (c ∷ cs) its good fields funs =
        let own = each_left IsGood (of_constructor t c) (joined (map (of_constructor t) cs)) good in
        let built = with_fun c.name (constructor_symbol t c) d in
        constructors_live (with_selectors built t c.fields) t cs its (each_right IsGood (of_constructor t c) (joined (map (of_constructor t) cs)) good) fields.1
        (selectors_live built t c c.fields its own.1 (each_of_all (IsSoundField script (length t.params)) c.fields fields.0)
        (each_declared OfFun d.global (c.name, constructor_symbol t c) d.funs (constructor_symbol_sound script t c its own.0.0 fields.0, own.0.1) funs))

    parts_live : (d : Declarations) (ts : List PlainDatatype) → Each (λ (t : PlainDatatype). Contains script (datatype t)) ts → Each IsGood (joined (map parts_of ts)) → Each (IsSoundDatatype script) ts
        → Each OfFun (live d.funs) → Each OfFun (live (with_parts d ts).funs)
    parts_live d [] its good fields funs = funs
    parts_live d (t ∷ ts) its good fields funs =
        parts_live (with_constructors d t t.constructors) ts its.1 (each_right IsGood (parts_of t) (joined (map parts_of ts)) good) fields.1
        (constructors_live d t t.constructors its.0 (each_left IsGood (parts_of t) (joined (map parts_of ts)) good) (each_of_all (HasSoundFields script (length t.params)) t.constructors fields.0) funs)

    -- .. and each datatype is declared with its constructors
    own_constructors : (t : PlainDatatype) (cs : List PlainConstructor) → Each IsGood (joined (map (of_constructor t) cs)) → Each (λ (c : PlainConstructor). Contains script (constructor_of t c)) cs
    own_constructors t [] good = tt
    own_constructors t (c ∷ cs) good =
        ((each_left IsGood (of_constructor t c) (joined (map (of_constructor t) cs)) good).0.0, own_constructors t cs (each_right IsGood (of_constructor t c) (joined (map (of_constructor t) cs)) good))

    instances : (ts : List PlainDatatype) → Each (λ (t : PlainDatatype). Contains script (datatype t)) ts → Each IsGood (joined (map parts_of ts)) → Each (IsSoundDatatype script) ts → Each (IsSoundInstance script) ts
    instances [] its good fields = tt
    instances (t ∷ ts) its good fields = (
      record {
        is_declared = its.0;
        constructors = all_of_each (λ (c : PlainConstructor). Contains script (constructor_of t c)) t.constructors (own_constructors t t.constructors (each_left IsGood (parts_of t) (joined (map parts_of ts)) good));
        fields = fields.0;
      },
      instances ts its.1 (each_right IsGood (parts_of t) (joined (map parts_of ts)) good) fields.1,
    )

    own_datatypes : (ts : List PlainDatatype) → Each IsGood (map datatype ts) → Each (λ (t : PlainDatatype). Contains script (datatype t)) ts
    own_datatypes [] good = tt
    own_datatypes (t ∷ ts) good = (good.0.0, own_datatypes ts good.1)

  abbrev OfSort : ℕ × SortDeclaration → Type 0
  OfSort d = IsSoundSortSymbol script d.1

  sorts_live : (d : Declarations) (ts : List PlainDatatype) → Each (λ (t : PlainDatatype). Contains script (datatype t)) ts → Each OfSort (live d.sorts) → Each OfSort (live (with_sorts d ts).sorts)
  sorts_live d [] its sorts = sorts
  sorts_live d (t ∷ ts) its sorts =
      sorts_live (with_sort t.name (data_sort t.no (length t.params)) d) ts its.1
      (each_declared OfSort d.global (t.name, data_sort t.no (length t.params)) d.sorts (record { its = t; is_declared = its.0; number_is = refl; params_are = refl }) sorts)

  module _ (env : Environment) (sound : IsSoundEnv script env) where
    -- the group is live
    pub of_group_live : (group : List PlainDatatype) → AreCounted env.next (of_group group) → DeclaresGroup group → Each (IsSoundDatatype script) group → IsSoundEnv script (with_group env group)
    of_group_live group counted known fields =
        let top = env.next + length (of_group group) in
        let parts = joined (map parts_of group) in
        let good = all_good top (of_group group) known (ascend_below env.next (map number_given (of_group group)) top (counted_ascend env.next (of_group group) counted)) in
        let its = own_datatypes top group (each_left (IsGood top) (map datatype group) parts good) in
        let others = each_right (IsGood top) (map datatype group) parts good in
        let sorts = sorts_live env.declarations group its (each_of_all OfSort (live env.declarations.sorts) sound.signature.sorts) in
        let before = each_of_all (OfFun top) (live env.declarations.funs) (λ k f few. (sound.signature.funs k f few, omega (arith, sound.below k f few))) in
        let funs = all_of_each (OfFun top) (live (with_group env group).declarations.funs)
        (parts_live top (with_sorts env.declarations group) group its others fields (subst (λ (l : Levels FunDeclaration). Each (OfFun top) (live l)) (sym (sorts_funs env.declarations group)) before)) in record {
          signature = record {
            table = sound.signature.table;
            sorts = all_of_each OfSort (live (with_group env group).declarations.sorts) (subst (λ (l : Levels SortDeclaration). Each OfSort (live l)) (sym (parts_sorts (with_sorts env.declarations group) group)) sorts);
            funs = λ k f l. (funs k f l).0;
            datatypes = All-append (IsSoundInstance script) env.datatypes group sound.signature.datatypes (all_of_each (IsSoundInstance script) group (instances top group its others fields));
          };
          below = λ k f l. (funs k f l).1;
        }

    -- its field sorts are sound
    pub judged_sound : (at : ℕ) (ss : List SortDec) (ds : List DataDec) (group : List PlainDatatype) (before after : List ℕ) → judge_group (signature_in env) at ss ds before (well_sorted group after) → DeclaresGroup group → Each (IsSoundDatatype script) group
    judged_sound at ss ds group before after (symbols, between, listed, (u, start, count, (made, later, j, (w, last, whole, (e, g))))) known =
        let under = under_symbols (signature_in env) symbols in
        let first = env.next + length symbols in
        let is = own_declared made (subst DeclaresGroup e known) in
        subst (Each (IsSoundDatatype script)) (sym e)
        (group_sound script under (symbols_live script symbols made env.declarations (of_symbols under first [] at symbols ds made start later j) is sound.signature.sorts) first [] at symbols ds made start later j)

    pub judged_single_sound : (at : ℕ) (n : Tok) (d : DataDec) (t : PlainDatatype) (before after : List ℕ) → judge_single (signature_in env) at n d before (well_sorted t after) → DeclaresGroup (t ∷ []) → IsSoundDatatype script t
    judged_single_sound at n d t before after (u, start, free, (made, later, j, (w, last, whole, (e, g)))) known =
        let symbol = only_symbol (signature_in env) n d in
        let under = under_symbol (signature_in env) symbol in
        let first = env.next + 1 in
        let is = own_declared (made ∷ []) (subst (λ (x : PlainDatatype). DeclaresGroup (x ∷ [])) e known) in
        subst (IsSoundDatatype script) (sym e)
        (single_sound script under (symbols_live script (symbol ∷ []) (made ∷ []) env.declarations (of_symbol under first [] symbol d made start later j, tt) is sound.signature.sorts) first [] symbol d made start later j)
