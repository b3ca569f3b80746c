-- A group of datatypes that the rules accept is ready: its numbers are distinct, and each datatype in a field sort is known, with as
-- many parameters as it has arguments there.
use Rattle.std.proofs.Common.{◌≡◌, ℕ, zero, suc, ◌+◌, ◌<◌, ◌≤◌, ◌==◌, Bool, true, false, cond, eq-eqb, List, [], ◌∷◌, ◌++◌, length, map, Option, Some, refl, ap, sym, ◌∙◌, subst, arith, inl, inr}
use Rattle.std.specs.Prelude.{◌⊎◌}
use Rattle.std.specs.List.{All, Contains}
use Rattle.std.proofs.lemmas.Bool.{ne_eqb}
use Rattle.std.proofs.lemmas.List.Elements.{All-append, All-contains, All-weaker, Contains-append_right}
use Rattle.judgement.specs.Judging.{well_sorted}
use Rattle.sort_store.specs.declared.head.DeclNo.{DeclNo}
use Rattle.sort_store.specs.declared.head.Head.{Head}
use Rattle.sort_store.specs.declared.head.Head.TheVariants as head
use Rattle.sort_store.specs.Instance.{ParamsBelow, EachParamsBelow}
use Rattle.sort_store.specs.Tree.{Sort, sort, SortList, no_sorts, more_sorts}
use Rattle.cmd_grammar.specs.Commands.{DataDec}
use Rattle.term_store.specs.Command.{PlainConstructor, PlainDatatype, PlainField}
use Rattle.term_store.specs.Declarations.{Declaration, datatype}
use Rattle.term_store.specs.SoundScript.{IsSoundDatatype}
use Rattle.term_store.specs.SoundTerms.{sort_count, IsSoundHead, IsSoundSort, AreSoundSorts}
use Rattle.dt_rules.specs.Groups.{known, numbered, sort_list, HasArity, HasArities, EachHasArities, IsReadyField, IsReadyGroup}
use Rattle.typer.specs.FunctionSymbols.{Signature}
use Rattle.typer.specs.Soundness.{HasSoundSorts}
use Rattle.typer.proofs.LiveDeclarations.{Each, all_of_each, each_of_all}
use Rattle.datatype_commands.specs.declared.symbols.DatatypeSymbol.{DatatypeSymbol}
use Rattle.datatype_commands.specs.GroupRules.{judge_datatype, judge_datatypes, under_symbol, under_symbols, with_symbols}
use Rattle.datatype_commands.specs.KnownDatatypes.{KnowsDatatypes}
use Rattle.datatype_commands.proofs.GroupSymbols.{AreNumberedFrom, AreOfSymbols, IsOfSymbol, of_symbol, of_symbols}
use Rattle.datatype_commands.proofs.SoundGroups.{fields_more, group_sound, live_more, single_sound, symbols_live}

-- A sound sort may be a field's where each declared datatype is known.
module _ (script : List Declaration) (ts : List PlainDatatype) (found : (t : PlainDatatype) → Contains script (datatype t) → numbered ts t.no.0 ≡ Some t) where
  count_of_list : (us : SortList) → sort_count us ≡ length (sort_list us)
  count_of_list no_sorts = refl
  count_of_list (more_sorts u us) = omega (arith, count_of_list us)

  head_ready : (params : ℕ) (h : Head) (args : ℕ) → IsSoundHead script params h args → HasArity ts h args
  head_ready params (head.Data d n) args s = (s.its, ap (λ (m : DeclNo). numbered ts m.0) (sym s.number_is) ∙ found s.its s.is_declared, s.params_are)
  head_ready params (head.Param i) args s = tt
  head_ready params head.Bool args s = tt
  head_ready params head.Int args s = tt
  head_ready params head.Array args s = tt
  head_ready params (head.BitVec m) args s = tt
  head_ready params (head.Free d n) args s = tt

  mutual
    arities_ready : (params : ℕ) (s : Sort) → IsSoundSort script params s → HasArities ts s
    arities_ready params (sort h us) s = (subst (HasArity ts h) (count_of_list us) (head_ready params h (sort_count us) s.0), each_ready params us s.1)

    each_ready : (params : ℕ) (us : SortList) → AreSoundSorts script params us → EachHasArities ts us
    each_ready params no_sorts s = tt
    each_ready params (more_sorts u us) s = (arities_ready params u s.0, each_ready params us s.1)

  mutual
    params_ready : (params : ℕ) (s : Sort) → IsSoundSort script params s → ParamsBelow params s
    params_ready params (sort (head.Param i) us) s = (s.0, each_params params us s.1)
    params_ready params (sort (head.Data d n) us) s = (tt, each_params params us s.1)
    params_ready params (sort head.Bool us) s = (tt, each_params params us s.1)
    params_ready params (sort head.Int us) s = (tt, each_params params us s.1)
    params_ready params (sort head.Array us) s = (tt, each_params params us s.1)
    params_ready params (sort (head.BitVec m) us) s = (tt, each_params params us s.1)
    params_ready params (sort (head.Free d n) us) s = (tt, each_params params us s.1)

    each_params : (params : ℕ) (us : SortList) → AreSoundSorts script params us → EachParamsBelow params us
    each_params params no_sorts s = tt
    each_params params (more_sorts u us) s = (params_ready params u s.0, each_params params us s.1)

  field_ready : (params : ℕ) (s : Sort) → IsSoundSort script params s → IsReadyField ts params s
  field_ready params s h = record { params = params_ready params s h; arities = arities_ready params s h }

-- The datatypes of the group are found first, each under its own number.
abbrev AreFrom : ℕ → List PlainDatatype → Type 0
AreFrom n [] = Unit {0}
AreFrom n (t ∷ ts) = (t.no.0 ≡ n) × AreFrom (n + 1) ts

numbers_from : (n : ℕ) (ss : List DatatypeSymbol) (group : List PlainDatatype) → AreNumberedFrom n ss → AreOfSymbols ss group → AreFrom n group
numbers_from n [] [] h are = tt
numbers_from n [] (t ∷ ts) h are = absurd are
numbers_from n (s ∷ ss) [] h are = absurd are
numbers_from n (s ∷ ss) (t ∷ ts) h are = (ap (λ (m : DeclNo). m.0) (are.0.number_is ∙ h.0), numbers_from (n + 1) ss ts h.1 are.1)

own_first : (k m : ℕ) (o p : Option PlainDatatype) → k ≡ m → cond (k == m) o p ≡ o
own_first k m o p same = ap (λ b. cond b o p) (eq-eqb k m same)

other_later : (k m : ℕ) (o p : Option PlainDatatype) → (k ≡ m → ⊥) → cond (k == m) o p ≡ p
other_later k m o p different = ap (λ b. cond b o p) (ne_eqb k m different)

lowest : (n : ℕ) (ts : List PlainDatatype) (t : PlainDatatype) → AreFrom n ts → Contains ts t → n ≤ t.no.0
lowest n [] t h c = absurd (omega (arith, c.1))
lowest n (u ∷ us) t h (zero, l, e) = omega (arith, h.0, ap (λ (x : PlainDatatype). x.no.0) e)
lowest n (u ∷ us) t h (suc k, l, e) = omega (arith, lowest (n + 1) us t h.1 (k, omega (arith, l), e))

found_own : (n : ℕ) (ts kept : List PlainDatatype) (t : PlainDatatype) → AreFrom n ts → Contains ts t → numbered (ts ++ kept) t.no.0 ≡ Some t
found_own n [] kept t h c = absurd (omega (arith, c.1))
found_own n (u ∷ us) kept t h (zero, l, e) = own_first t.no.0 u.no.0 (Some u) (numbered (us ++ kept) t.no.0) (ap (λ (x : PlainDatatype). x.no.0) (sym e)) ∙ ap Some e
found_own n (u ∷ us) kept t h (suc k, l, e) =
    let c : Contains us t = (k, omega (arith, l), e) in
    other_later t.no.0 u.no.0 (Some u) (numbered (us ++ kept) t.no.0) (λ same. omega (arith, same, h.0, lowest (n + 1) us t h.1 c)) ∙ found_own (n + 1) us kept t h.1 c

found_past : (n : ℕ) (ts kept : List PlainDatatype) (m : ℕ) → AreFrom n ts → m < n → numbered (ts ++ kept) m ≡ numbered kept m
found_past n [] kept m h l = refl
found_past n (u ∷ us) kept m h l = other_later m u.no.0 (Some u) (numbered (us ++ kept) m) (λ same. omega (arith, same, h.0, l)) ∙ found_past (n + 1) us kept m h.1 (omega (arith, l))

-- what is found has a number below the first one, as all do
below_first : (kept : List PlainDatatype) (m n : ℕ) (t : PlainDatatype) → Each (λ (u : PlainDatatype). u.no.0 < n) kept → numbered kept m ≡ Some t → t.no.0 < n
below_first [] m n t h e = cc
below_first (u ∷ us) m n t h e = by (m == u.no.0) (below_first us m n t h.1) e
  where
    by : (b : Bool) → (numbered us m ≡ Some t → t.no.0 < n) → cond b (Some u) (numbered us m) ≡ Some t → t.no.0 < n
    by true f e = let same : u ≡ t = cc in subst (λ (x : PlainDatatype). x.no.0 < n) same h.0
    by false f e = f e

-- a datatype that is declared is of the group, or declared before
declared_cases : (group : List PlainDatatype) (script : List Declaration) (t : PlainDatatype) → Contains (map datatype group ++ script) (datatype t) → Contains group t ⊎ Contains script (datatype t)
declared_cases [] script t c = inr c
declared_cases (g ∷ gs) script t (zero, l, e) = let same : g ≡ t = cc in inl (0, omega arith, same)
declared_cases (g ∷ gs) script t (suc k, l, e) = elim (declared_cases gs script t (k, omega (arith, l), e)) [
  | inl c ↦ inl (suc c.0, omega (arith, c.1), c.2)
  | inr c ↦ inr c
]

declared_own : (group : List PlainDatatype) (script : List Declaration) (t : PlainDatatype) → Contains group t → Contains (map datatype group ++ script) (datatype t)
declared_own [] script t c = absurd (omega (arith, c.1))
declared_own (g ∷ gs) script t (zero, l, e) = (0, omega arith, ap datatype e)
declared_own (g ∷ gs) script t (suc k, l, e) = let c = declared_own gs script t (k, omega (arith, l), e) in (suc c.0, omega (arith, c.1), c.2)

-- The group, with what the signature knows.
module _ (signature : Signature) (knows : KnowsDatatypes signature) (group : List PlainDatatype) (numbers : AreFrom signature.first group) where
  abbrev script_with : List Declaration
  script_with = map datatype group ++ knows.script

  found_before : (t : PlainDatatype) → numbered signature.datatypes t.no.0 ≡ Some t → numbered (known signature.datatypes group) t.no.0 ≡ Some t
  found_before t at =
      found_past signature.first group signature.datatypes t.no.0 numbers
      (below_first signature.datatypes t.no.0 signature.first t (each_of_all (λ (u : PlainDatatype). u.no.0 < signature.first) signature.datatypes knows.below) at) ∙ at

  found_known : (t : PlainDatatype) → Contains script_with (datatype t) → numbered (known signature.datatypes group) t.no.0 ≡ Some t
  found_known t c = elim (declared_cases group knows.script t c) [
    | inl own ↦ found_own signature.first group signature.datatypes t numbers own
    | inr old ↦ found_before t (knows.kept t old)
  ]

  old_holds : (d : Declaration) → Contains knows.script d → Contains script_with d
  old_holds d c = Contains-append_right (map datatype group) knows.script d c

  all_sound : Each (IsSoundDatatype script_with) group → All (IsSoundDatatype script_with) (known signature.datatypes group)
  all_sound sound =
      All-append (IsSoundDatatype script_with) group signature.datatypes (all_of_each (IsSoundDatatype script_with) group sound)
      (All-weaker (IsSoundDatatype knows.script) (IsSoundDatatype script_with) (λ t h. fields_more knows.script script_with old_holds t h) signature.datatypes knows.fields)

  ready_with : Each (IsSoundDatatype script_with) group → IsReadyGroup signature.datatypes group
  ready_with sound = record {
    apart = λ t c. found_own signature.first group signature.datatypes t numbers c;
    fields = λ t c f in_known in_t in_c. field_ready script_with (known signature.datatypes group) found_known (length t.params) f.sort
        (All-contains (λ (x : PlainField). IsSoundSort script_with (length t.params) x.sort) c.fields f
        (All-contains (λ (x : PlainConstructor). All (λ (y : PlainField). IsSoundSort script_with (length t.params) y.sort) x.fields) t.constructors c
        (All-contains (IsSoundDatatype script_with) (known signature.datatypes group) t (all_sound sound) in_known) in_t) in_c);
  }

  -- .. whose sort symbols are live
  live_with : (ss : List DatatypeSymbol) → AreOfSymbols ss group → HasSoundSorts script_with (with_symbols signature.declarations ss)
  live_with ss are = symbols_live script_with ss group signature.declarations are (declared_own group knows.script) (live_more knows.script script_with old_holds signature.declarations knows.sorts)

pub group_ready : (signature : Signature) → KnowsDatatypes signature → (ss : List DatatypeSymbol) → AreNumberedFrom signature.first ss → (first at : ℕ) (ds : List DataDec) (group : List PlainDatatype) (before after : List ℕ)
    → judge_datatypes (under_symbols signature ss) first [] at ss ds before (well_sorted group after) → IsReadyGroup signature.datatypes group
group_ready signature knows ss numbers first at ds group before after h =
    let are = of_symbols (under_symbols signature ss) first [] at ss ds group before after h in
    let from = numbers_from signature.first ss group numbers are in
    ready_with signature knows group from (group_sound (script_with signature knows group from) (under_symbols signature ss) (live_with signature knows group from ss are) first [] at ss ds group before after h)

-- the same of one datatype
pub single_ready : (signature : Signature) → KnowsDatatypes signature → (s : DatatypeSymbol) → s.no ≡ record { 0 = signature.first } → (first : ℕ) (d : DataDec) (t : PlainDatatype) (before after : List ℕ)
    → judge_datatype (under_symbol signature s) first [] s d before (well_sorted t after) → IsReadyGroup signature.datatypes (t ∷ [])
single_ready signature knows s number first d t before after h =
    let is : IsOfSymbol s t = of_symbol (under_symbol signature s) first [] s d t before after h in
    let are : AreOfSymbols (s ∷ []) (t ∷ []) = (is, tt) in
    let from = numbers_from signature.first (s ∷ []) (t ∷ []) (number, tt) are in
    ready_with signature knows (t ∷ []) from
    (single_sound (script_with signature knows (t ∷ []) from) (under_symbol signature s) (live_with signature knows (t ∷ []) from (s ∷ []) are) first [] s d t before after h, tt)
