-- The numbers of the datatypes that a command declares, and of their parts.
use Rattle.std.proofs.Common.{◌≡◌, ℕ, suc, ◌+◌, List, [], ◌∷◌, ◌++◌, length, map, refl, ap, sym, ◌∙◌, subst, arith, length-append}
use Rattle.std.proofs.lemmas.List.{length-map}
use Rattle.judgement.specs.Judging.{well_sorted}
use Rattle.sort_store.specs.declared.head.DeclNo.{DeclNo}
use Rattle.lex_core.specs.declared.token.Tok.{Tok}
use Rattle.term_grammar.specs.Syntax.{SortedSymbol}
use Rattle.cmd_grammar.specs.Commands.{ConstructorDec, DataDec, SortDec}
use Rattle.term_store.specs.Command.{PlainConstructor, PlainDatatype, PlainDef, PlainField, plain_command, plain_datatype, plain_def}
use Rattle.term_store.specs.Declarations.{Declaration, sort_symbol, function_symbol, datatype, constructor_of, selector_of, definition, term_name, declared_by, joined, names_in, names_in_all, names_in_cases, names_in_each, names_in_node, names_in_note, names_in_notes, number_given, of_constructor, of_group, parts_of}
use Rattle.term_store.specs.Term.{PlainTerm, tree, Node, Terms, Cases, Note, Notes, term, lit, var, app, let_in, quant, match_on, ann, no_terms, more_terms, no_cases, more_cases, named, pattern, other, no_notes, more_notes}
use Rattle.term_store.specs.declared.command.TypedCommand.{TypedCommand}
use Rattle.term_store.specs.declared.command.TypedCommand.TheVariants as kept
use Rattle.sort_store.specs.Tree.{Sort}
use Rattle.typer.specs.FunctionSymbols.{Signature}
use Rattle.datatype_commands.specs.declared.symbols.DatatypeSymbol.{DatatypeSymbol}
use Rattle.datatype_commands.specs.GroupRules.{all_part_names, constructors_of, judge_constructor, judge_constructors, judge_datatype, judge_datatypes, judge_group, judge_part, judge_selector, judge_selectors, judge_single, only_symbol, part_names, under_symbol, under_symbols}
use Rattle.datatype_commands.proofs.GroupSymbols.{AreNumberedFrom, AreOfSymbols, group_length, of_symbol, of_symbols, symbols_numbered}
use Rattle.script_core.specs.Environment.{Environment, signature_in}
use Rattle.script_core.specs.Keeping.{datatypes_in, defined_in, group_in}
use Rattle.script_core.proofs.NamedWalks.{defined_joined}
use Rattle.script_core.proofs.SoundNumbers.{AscendFrom, AscendTo}

-- The datatypes among declarations.
pub datatypes_joined : (xs ys : List Declaration) → datatypes_in (xs ++ ys) ≡ datatypes_in xs ++ datatypes_in ys
datatypes_joined [] ys = refl
datatypes_joined (datatype t ∷ xs) ys = ap (λ ts. t ∷ ts) (datatypes_joined xs ys)
datatypes_joined (sort_symbol n m a ∷ xs) ys = datatypes_joined xs ys
datatypes_joined (function_symbol n m args r ∷ xs) ys = datatypes_joined xs ys
datatypes_joined (constructor_of t c ∷ xs) ys = datatypes_joined xs ys
datatypes_joined (selector_of t c f ∷ xs) ys = datatypes_joined xs ys
datatypes_joined (definition d ∷ xs) ys = datatypes_joined xs ys
datatypes_joined (term_name n m t ∷ xs) ys = datatypes_joined xs ys

none_in_both : (xs ys : List Declaration) → datatypes_in xs ≡ [] → datatypes_in ys ≡ [] → datatypes_in (xs ++ ys) ≡ []
none_in_both xs ys e f = datatypes_joined xs ys ∙ (ap (λ ts. ts ++ datatypes_in ys) e ∙ f)

-- named terms are no datatypes
mutual
  pub none_in_term : (t : PlainTerm) → datatypes_in (names_in t) ≡ []
  none_in_term (term n s x) = none_in_node x

  none_in_node : (x : Node (Unit {0}) Sort) → datatypes_in (names_in_node x) ≡ []
  none_in_node (lit k n) = refl
  none_in_node (var n) = refl
  none_in_node (app f ts) = none_in_each ts
  none_in_node (let_in vs ts b) = none_in_both (names_in_each ts) (names_in b) (none_in_each ts) (none_in_term b)
  none_in_node (quant all vs b) = none_in_term b
  none_in_node (match_on t cs) = none_in_both (names_in t) (names_in_cases cs) (none_in_term t) (none_in_cases cs)
  none_in_node (ann b ns) = none_in_both (names_in b) (names_in_notes b ns) (none_in_term b) (none_in_notes b ns)

  none_in_each : (ts : Terms (Unit {0}) Sort) → datatypes_in (names_in_each ts) ≡ []
  none_in_each no_terms = refl
  none_in_each (more_terms t ts) = none_in_both (names_in t) (names_in_each ts) (none_in_term t) (none_in_each ts)

  none_in_cases : (cs : Cases (Unit {0}) Sort) → datatypes_in (names_in_cases cs) ≡ []
  none_in_cases no_cases = refl
  none_in_cases (more_cases p t cs) = none_in_both (names_in t) (names_in_cases cs) (none_in_term t) (none_in_cases cs)

  none_in_note : (t : PlainTerm) (n : Note (Unit {0}) Sort) → datatypes_in (names_in_note t n) ≡ []
  none_in_note t (named d n) = refl
  none_in_note t (pattern ts) = none_in_each ts
  none_in_note t (other k v) = refl

  none_in_notes : (t : PlainTerm) (ns : Notes (Unit {0}) Sort) → datatypes_in (names_in_notes t ns) ≡ []
  none_in_notes t no_notes = refl
  none_in_notes t (more_notes n ns) = none_in_both (names_in_note t n) (names_in_notes t ns) (none_in_note t n) (none_in_notes t ns)

pub none_in_all : (ts : List PlainTerm) → datatypes_in (names_in_all ts) ≡ []
none_in_all [] = refl
none_in_all (t ∷ ts) = none_in_both (names_in t) (names_in_all ts) (none_in_term t) (none_in_all ts)

-- the parts of datatypes are none
none_in_selectors : (t : PlainDatatype) (c : PlainConstructor) (fs : List PlainField) → datatypes_in (map (selector_of t c) fs) ≡ []
none_in_selectors t c [] = refl
none_in_selectors t c (f ∷ fs) = none_in_selectors t c fs

none_in_constructors : (t : PlainDatatype) (cs : List PlainConstructor) → datatypes_in (joined (map (of_constructor t) cs)) ≡ []
none_in_constructors t [] = refl
none_in_constructors t (c ∷ cs) = none_in_both (of_constructor t c) (joined (map (of_constructor t) cs)) (none_in_selectors t c c.fields) (none_in_constructors t cs)

none_in_parts : (ts : List PlainDatatype) → datatypes_in (joined (map parts_of ts)) ≡ []
none_in_parts [] = refl
none_in_parts (t ∷ ts) = none_in_both (parts_of t) (joined (map parts_of ts)) (none_in_constructors t t.constructors) (none_in_parts ts)

all_datatypes : (ts : List PlainDatatype) (ds : List Declaration) → datatypes_in (map datatype ts ++ ds) ≡ ts ++ datatypes_in ds
all_datatypes [] ds = refl
all_datatypes (t ∷ ts) ds = ap (λ us. t ∷ us) (all_datatypes ts ds)

nothing_more : (ts us : List PlainDatatype) → us ≡ [] → ts ++ us ≡ ts
nothing_more [] us e = e
nothing_more (t ∷ ts) us e = ap (λ xs. t ∷ xs) (nothing_more ts us e)

-- a group declares its datatypes
pub datatypes_of_group : (group : List PlainDatatype) → datatypes_in (of_group group) ≡ group
datatypes_of_group group = all_datatypes group (joined (map parts_of group)) ∙ nothing_more group (datatypes_in (joined (map parts_of group))) (none_in_parts group)

none_in_definitions : (ds : List PlainDef) (es : List Declaration) → datatypes_in es ≡ [] → datatypes_in (map definition ds ++ es) ≡ []
none_in_definitions [] es e = e
none_in_definitions (d ∷ ds) es e = none_in_definitions ds es e

-- the datatypes of a typed command are those that it declares
pub group_declared : (c : TypedCommand) → map plain_datatype (group_in c) ≡ datatypes_in (declared_by (plain_command c))
group_declared (kept.DeclareDatatype t) = sym (datatypes_of_group (plain_datatype t ∷ []))
group_declared (kept.DeclareDatatypes ts) = sym (datatypes_of_group (map plain_datatype ts))
group_declared (kept.Assert t) = sym (none_in_term (tree t))
group_declared (kept.CheckSatAssuming ts) = sym (none_in_all (map tree ts))
group_declared (kept.DefineFun d) = sym (none_in_term (tree d.body))
group_declared (kept.DefineFunRec d) = sym (none_in_term (tree d.body))
group_declared (kept.DefineFunsRec ds) = sym (none_in_definitions (map plain_def ds) (names_in_all (map (λ (d : PlainDef). d.body) (map plain_def ds))) (none_in_all (map (λ (d : PlainDef). d.body) (map plain_def ds))))
group_declared (kept.GetValue ts) = sym (none_in_all (map tree ts))
group_declared c = refl

-- A group defines no function.
no_selectors_defined : (t : PlainDatatype) (c : PlainConstructor) (fs : List PlainField) → defined_in (map (selector_of t c) fs) ≡ []
no_selectors_defined t c [] = refl
no_selectors_defined t c (f ∷ fs) = no_selectors_defined t c fs

none_defined : (xs ys : List Declaration) → defined_in xs ≡ [] → defined_in ys ≡ [] → defined_in (xs ++ ys) ≡ []
none_defined xs ys e f = defined_joined xs ys ∙ (ap (λ ds. ds ++ defined_in ys) e ∙ f)

no_constructors_defined : (t : PlainDatatype) (cs : List PlainConstructor) → defined_in (joined (map (of_constructor t) cs)) ≡ []
no_constructors_defined t [] = refl
no_constructors_defined t (c ∷ cs) = none_defined (of_constructor t c) (joined (map (of_constructor t) cs)) (no_selectors_defined t c c.fields) (no_constructors_defined t cs)

no_parts_defined : (ts : List PlainDatatype) → defined_in (joined (map parts_of ts)) ≡ []
no_parts_defined [] = refl
no_parts_defined (t ∷ ts) = none_defined (parts_of t) (joined (map parts_of ts)) (no_constructors_defined t t.constructors) (no_parts_defined ts)

no_datatypes_defined : (ts : List PlainDatatype) → defined_in (map datatype ts) ≡ []
no_datatypes_defined [] = refl
no_datatypes_defined (t ∷ ts) = no_datatypes_defined ts

pub group_defines_none : (group : List PlainDatatype) → defined_in (of_group group) ≡ []
group_defines_none group = none_defined (map datatype group) (joined (map parts_of group)) (no_datatypes_defined group) (no_parts_defined group)

-- The declarations have the numbers from this one on, without a gap.
abbrev pub AreCounted : ℕ → List Declaration → Type 0
AreCounted n [] = Unit {0}
AreCounted n (d ∷ ds) = (number_given d ≡ n) × AreCounted (n + 1) ds

counted_as : (n m : ℕ) (ds : List Declaration) → n ≡ m → AreCounted n ds → AreCounted m ds
counted_as n m ds e h = subst (λ (k : ℕ). AreCounted k ds) e h

counted_on : (n : ℕ) (xs ys : List Declaration) → AreCounted n xs → AreCounted (n + length xs) ys → AreCounted n (xs ++ ys)
counted_on n [] ys h k = counted_as (n + 0) n ys (omega arith) k
counted_on n (x ∷ xs) ys h k = (h.0, counted_on (n + 1) xs ys h.1 (counted_as (n + length (x ∷ xs)) (n + 1 + length xs) ys (omega arith) k))

pub counted_ascend : (n : ℕ) (ds : List Declaration) → AreCounted n ds → AscendTo n (map number_given ds) (n + length ds)
counted_ascend n [] h = omega arith
counted_ascend n (d ∷ ds) h = (
  omega (arith, h.0),
  subst (λ (m : ℕ). AscendTo m (map number_given ds) (n + length (d ∷ ds))) (ap (λ (m : ℕ). m + 1) (sym h.0))
      (subst (λ (m : ℕ). AscendTo (n + 1) (map number_given ds) m) (by_one n (length ds)) (counted_ascend (n + 1) ds h.1)),
)
  where
    by_one : (n m : ℕ) → n + 1 + m ≡ n + suc m
    by_one n m = omega arith

-- Each part has the number that comes after those of the parts before it.
module _ (signature : Signature) (params : List ℕ) (first : ℕ) where
  part_number : (seen : List ℕ) (t : Tok) (n : DeclNo) (before after : List ℕ) → judge_part signature first seen t before (well_sorted n after) → n.0 ≡ first + length seen
  part_number seen t n before after (u, between, free, (e, f)) = ap (λ (m : DeclNo). m.0) e

  selector_number : (seen : List ℕ) (f : SortedSymbol) (field : PlainField) (before after : List ℕ) → judge_selector signature params first seen f before (well_sorted field after) → field.no.0 ≡ first + length seen
  selector_number seen f field before after (n, between, part, (s, later, j, (e, g))) = ap (λ (x : PlainField). x.no.0) e ∙ part_number seen f.name n before between part

  selectors_counted : (t : PlainDatatype) (c : PlainConstructor) (seen : List ℕ) (fs : List SortedSymbol) (fields : List PlainField) (before after : List ℕ) → judge_selectors signature params first seen fs before (well_sorted fields after)
      → AreCounted (first + length seen) (map (selector_of t c) fields)
  selectors_counted t c seen [] fields before after (e, g) = subst (λ (xs : List PlainField). AreCounted (first + length seen) (map (selector_of t c) xs)) (sym e) tt
  selectors_counted t c seen (f ∷ fs) fields before after (field, between, j, (rest, later, k, (e, g))) =
      subst (λ (xs : List PlainField). AreCounted (first + length seen) (map (selector_of t c) xs)) (sym e) (
        selector_number seen f field before between j,
        counted_as (first + length (seen ++ field.name ∷ [])) (first + length seen + 1) (map (selector_of t c) rest) (omega (arith, length-append seen (field.name ∷ [])))
            (selectors_counted t c (seen ++ field.name ∷ []) fs rest between later k),
      )

  constructor_counted : (t : PlainDatatype) (seen : List ℕ) (d : ConstructorDec) (c : PlainConstructor) (before after : List ℕ) → judge_constructor signature params first seen d before (well_sorted c after)
      → AreCounted (first + length seen) (of_constructor t c)
  constructor_counted t seen d c before after (n, between, part, (fields, later, j, (e, g))) =
      let made : PlainConstructor = record { no = n; name = d.name.name; fields = fields } in
      subst (λ (x : PlainConstructor). AreCounted (first + length seen) (of_constructor t x)) (sym e) (
        part_number seen d.name n before between part,
        counted_as (first + length (seen ++ d.name.name ∷ [])) (first + length seen + 1) (map (selector_of t made) fields) (omega (arith, length-append seen (d.name.name ∷ [])))
            (selectors_counted t made (seen ++ d.name.name ∷ []) d.selectors fields between later j),
      )

  part_count : (t : PlainDatatype) (c : PlainConstructor) → length (of_constructor t c) ≡ length (part_names c)
  part_count t c = omega (arith, length-map c.fields (selector_of t c), length-map c.fields (λ (f : PlainField). f.name))

  constructors_counted : (t : PlainDatatype) (seen : List ℕ) (ds : List ConstructorDec) (cs : List PlainConstructor) (before after : List ℕ) → judge_constructors signature params first seen ds before (well_sorted cs after)
      → AreCounted (first + length seen) (joined (map (of_constructor t) cs))
  constructors_counted t seen [] cs before after (e, g) = subst (λ (xs : List PlainConstructor). AreCounted (first + length seen) (joined (map (of_constructor t) xs))) (sym e) tt
  constructors_counted t seen (d ∷ ds) cs before after (c, between, j, (rest, later, k, (e, g))) =
      subst (λ (xs : List PlainConstructor). AreCounted (first + length seen) (joined (map (of_constructor t) xs))) (sym e)
      (counted_on (first + length seen) (of_constructor t c) (joined (map (of_constructor t) rest)) (constructor_counted t seen d c before between j)
      (counted_as (first + length (seen ++ part_names c)) (first + length seen + length (of_constructor t c)) (joined (map (of_constructor t) rest)) (omega (arith, length-append seen (part_names c), part_count t c))
      (constructors_counted t (seen ++ part_names c) ds rest between later k)))

all_part_count : (t : PlainDatatype) (cs : List PlainConstructor) → length (joined (map (of_constructor t) cs)) ≡ length (all_part_names cs)
all_part_count t [] = refl
all_part_count t (c ∷ cs) =
    omega (arith, length-append (of_constructor t c) (joined (map (of_constructor t) cs)), length-append (part_names c) (all_part_names cs), all_part_count t cs, length-map c.fields (selector_of t c), length-map c.fields (λ (f : PlainField). f.name))

module _ (signature : Signature) (first : ℕ) where
  datatype_counted : (seen : List ℕ) (s : DatatypeSymbol) (d : DataDec) (t : PlainDatatype) (before after : List ℕ) → judge_datatype signature first seen s d before (well_sorted t after) → AreCounted (first + length seen) (parts_of t)
  datatype_counted seen s d t before after (params, between, j, (cs, later, k, (e, g))) =
      let made : PlainDatatype = record { no = s.no; name = s.name.name; params = params; constructors = cs } in
      subst (λ (x : PlainDatatype). AreCounted (first + length seen) (parts_of x)) (sym e) (constructors_counted signature params first made seen (constructors_of d) cs between later k)

  datatypes_counted : (at : ℕ) (seen : List ℕ) (ss : List DatatypeSymbol) (ds : List DataDec) (group : List PlainDatatype) (before after : List ℕ) → judge_datatypes signature first seen at ss ds before (well_sorted group after)
      → AreCounted (first + length seen) (joined (map parts_of group))
  datatypes_counted at seen [] ds group before after (e, g) = subst (λ (xs : List PlainDatatype). AreCounted (first + length seen) (joined (map parts_of xs))) (sym e) tt
  datatypes_counted at seen (s ∷ ss) [] group before after h = absurd h
  datatypes_counted at seen (s ∷ ss) (d ∷ ds) group before after (t, between, j, (ts, later, k, (e, g))) =
      subst (λ (xs : List PlainDatatype). AreCounted (first + length seen) (joined (map parts_of xs))) (sym e)
      (counted_on (first + length seen) (parts_of t) (joined (map parts_of ts)) (datatype_counted seen s d t before between j)
      (counted_as (first + length (seen ++ all_part_names t.constructors)) (first + length seen + length (parts_of t)) (joined (map parts_of ts))
      (omega (arith, length-append seen (all_part_names t.constructors), all_part_count t t.constructors)) (datatypes_counted at (seen ++ all_part_names t.constructors) ss ds ts between later k)))

-- The datatypes of a group have the numbers of their sort symbols.
of_symbols_counted : (n : ℕ) (ss : List DatatypeSymbol) (group : List PlainDatatype) → AreNumberedFrom n ss → AreOfSymbols ss group → AreCounted n (map datatype group)
of_symbols_counted n [] [] h are = tt
of_symbols_counted n [] (t ∷ ts) h are = absurd are
of_symbols_counted n (s ∷ ss) [] h are = absurd are
of_symbols_counted n (s ∷ ss) (t ∷ ts) h are = (ap (λ (m : DeclNo). m.0) (are.0.number_is ∙ h.0), of_symbols_counted (n + 1) ss ts h.1 are.1)

whole_counted : (n count : ℕ) (group : List PlainDatatype) → count ≡ length group → AreCounted n (map datatype group) → AreCounted (n + count + 0) (joined (map parts_of group)) → AreCounted n (of_group group)
whole_counted n count group e h k =
    counted_on n (map datatype group) (joined (map parts_of group)) h
    (counted_as (n + count + 0) (n + length (map datatype group)) (joined (map parts_of group)) (omega (arith, e, length-map group datatype)) k)

datatypes_first : (n : ℕ) (group : List PlainDatatype) → AreCounted n (map datatype group) → AscendFrom n (map (λ (t : PlainDatatype). t.no.0) group)
datatypes_first n [] h = tt
datatypes_first n (t ∷ ts) h = (omega (arith, h.0), subst (λ (m : ℕ). AscendFrom m (map (λ (u : PlainDatatype). u.no.0) ts)) (ap (λ (m : ℕ). m + 1) (sym h.0)) (datatypes_first (n + 1) ts h.1))

-- What a group declares has the next numbers: first its datatypes, and then each constructor followed by its selectors.
module _ (env : Environment) (at : ℕ) where
  pub group_counted : (ss : List SortDec) (ds : List DataDec) (group : List PlainDatatype) (before after : List ℕ) → judge_group (signature_in env) at ss ds before (well_sorted group after) → AreCounted env.next (of_group group)
  group_counted ss ds group before after (symbols, between, listed, (u, start, count, (made, later, j, (w, last, whole, (e, g))))) =
      let under = under_symbols (signature_in env) symbols in
      let first = env.next + length symbols in
      subst (λ (xs : List PlainDatatype). AreCounted env.next (of_group xs)) (sym e)
      (whole_counted env.next (length symbols) made (group_length under first at [] symbols ds made start later j)
      (of_symbols_counted env.next symbols made (symbols_numbered (signature_in env) env.next ss symbols before between listed) (of_symbols under first [] at symbols ds made start later j))
      (datatypes_counted under first at [] symbols ds made start later j))

  pub group_numbers : (ss : List SortDec) (ds : List DataDec) (group : List PlainDatatype) (before after : List ℕ) → judge_group (signature_in env) at ss ds before (well_sorted group after)
      → AscendFrom env.next (map (λ (t : PlainDatatype). t.no.0) group)
  group_numbers ss ds group before after (symbols, between, listed, (u, start, count, (made, later, j, (w, last, whole, (e, g))))) =
      subst (λ (xs : List PlainDatatype). AscendFrom env.next (map (λ (t : PlainDatatype). t.no.0) xs)) (sym e)
      (datatypes_first env.next made (of_symbols_counted env.next symbols made (symbols_numbered (signature_in env) env.next ss symbols before between listed)
      (of_symbols (under_symbols (signature_in env) symbols) (env.next + length symbols) [] at symbols ds made start later j)))

  pub single_number : (n : Tok) (d : DataDec) (t : PlainDatatype) (before after : List ℕ) → judge_single (signature_in env) at n d before (well_sorted t after) → t.no.0 ≡ env.next
  single_number n d t before after (u, start, free, (made, later, j, (w, last, whole, (e, g)))) =
      let symbol = only_symbol (signature_in env) n d in
      ap (λ (x : PlainDatatype). x.no.0) e ∙ ap (λ (m : DeclNo). m.0) (of_symbol (under_symbol (signature_in env) symbol) (env.next + 1) [] symbol d made start later j).number_is

  pub single_counted : (n : Tok) (d : DataDec) (t : PlainDatatype) (before after : List ℕ) → judge_single (signature_in env) at n d before (well_sorted t after) → AreCounted env.next (of_group (t ∷ []))
  single_counted n d t before after (u, start, free, (made, later, j, (w, last, whole, (e, g)))) =
      let symbol = only_symbol (signature_in env) n d in
      let under = under_symbol (signature_in env) symbol in
      subst (λ (x : PlainDatatype). AreCounted env.next (of_group (x ∷ []))) (sym e)
      (whole_counted env.next 1 (made ∷ []) refl
      (ap (λ (m : DeclNo). m.0) (of_symbol under (env.next + 1) [] symbol d made start later j).number_is, tt)
      (counted_on (env.next + 1 + 0) (parts_of made) [] (datatype_counted under (env.next + 1) [] symbol d made start later j) tt))
