-- The parts of a match as the code makes them, and what their outcomes say of the whole.
use Rattle.std.proofs.Common.{◌≡◌, ℕ, ◌↔◌, Bool, true, false, if◌then◌else◌, IsTrue, List, [], ◌∷◌, length, map, Option, Some, None, Result, Ok, Err, ap, inl, inr, refl, sym, ◌∙◌, subst}
use Rattle.std.proofs.lemmas.List.{length-map}
use Rattle.std.specs.Global.{Global}
use Rattle.std.specs.List.{All, Contains, zip}
use Rattle.std.specs.Option.{IfSome, option_map}
use Rattle.std.specs.Prelude.{Vec}
use Rattle.std.specs.Result.{IfErr, IfOk}
use Rattle.sig_table.specs.declared.code.Code.TheVariants.{UncoveredConstructor, WrongTermForm}
use Rattle.judgement.specs.Judging.{Judging, done, ◌>>=◌}
use Rattle.term_grammar.specs.Syntax.{pattern_at}
use Rattle.term_grammar.specs.Syntax as syntax
use Rattle.sort_store.specs.declared.head.DeclNo.{DeclNo}
use Rattle.sort_store.specs.declared.head.Head.{Head}
use Rattle.sort_store.specs.declared.head.Head.TheVariants as head
use Rattle.sort_store.specs.Instance.{ParamsBelow}
use Rattle.sort_store.specs.Interned.{AllInterned}
use Rattle.sort_store.specs.Tree.{NumberedSort, Sort, parts}
use Rattle.sort_store.specs.Tree as sort_tree
use Rattle.term_store.specs.Command.{PlainConstructor, PlainDatatype, PlainField, plain_constructor, plain_datatype, plain_field}
use Rattle.term_store.specs.declared.command.Constructor.{Constructor}
use Rattle.term_store.specs.declared.command.Datatype.{Datatype}
use Rattle.term_store.specs.declared.command.Field.{Field}
use Rattle.term_store.specs.declared.parts.Pattern.{Pattern}
use Rattle.term_store.specs.declared.parts.Pattern.TheVariants as patterns
use Rattle.term_store.specs.NumberedNodes as numbered
use Rattle.term_store.specs.Term.{NumberedTerm, PlainTerm, case_trees as plain_case_trees, match_on, more_cases, plain_var, term, tree}
use Rattle.dt_rules.specs.Coverage.{Covers}
use Rattle.dt_rules.specs.PatternRules.{constructor_named, judge_pattern}
use Rattle.dt_rules.specs.declared.error.TyError.{TyError}
use Rattle.dt_rules.specs.declared.error.TyError.TheVariants as error
use Rattle.dt_rules.proofs.Lists.{contains_map}
use Rattle.typer.specs.declared.typed.TypedTerm.{TypedTerm}
use Rattle.typer.specs.Answers.{Answers, fault_at, sorts_answer, typed_answer}
use Rattle.typer.specs.MatchRules.{Instance, at_values, instance_at, instance_of, judge_small, judge_typed_pattern, pattern_sorts, sorts_of_fields}
use Rattle.typer.specs.Ready.{IsReadyDatatype}
use Rattle.typer.specs.TermRules.{Case, first_sort, judge_covered, plain_cases}
use Rattle.typer.proofs.Instances.{is_instance, named_itself}
use Rattle.typer.proofs.MatchSteps.{by_parts}
use Rattle.typer.proofs.TermSteps.{first_fails, first_is}

pub at_some : {X : Type 0} (P : X → Type 0) (o : Option X) (x : X) → o ≡ Some x → P x → IfSome o P
at_some P o x e h = subst (λ z. IfSome z P) (sym e) h

-- a datatype that is found is at the arguments of the sort
module _ (ts : List PlainDatatype) (r : NumberedSort) (t : PlainDatatype) where
  abbrev values : List Sort
  values = map sort_tree.tree (parts r)

  abbrev at_test : Bool → PlainDatatype → Option Instance
  at_test b u = if b then Some (u, values) else None

  tested : (b : Bool) (u : PlainDatatype) → option_map {T = Instance} (λ i. i.0) (at_test b u) ≡ Some t → at_test b u ≡ Some (t, values)
  tested true u e = let same : u ≡ t = cc in ap (λ z. Some (z, values)) same
  tested false u e = cc

  with_values : (n : ℕ) (o : Option PlainDatatype) → option_map {T = Instance} (λ i. i.0) (at_values n values o) ≡ Some t → at_values n values o ≡ Some (t, values)
  with_values n None e = cc
  with_values n (Some u) e = tested _ u e

  by_head : (h : Head) → option_map {T = Instance} (λ i. i.0) (instance_at ts h values) ≡ Some t → instance_at ts h values ≡ Some (t, values)
  by_head (head.Data d n) e = with_values n _ e
  by_head head.Bool e = cc
  by_head head.Int e = cc
  by_head head.Array e = cc
  by_head (head.BitVec m) e = cc
  by_head (head.Free d n) e = cc
  by_head (head.Param k) e = cc

  pub found_instance : option_map {T = Instance} (λ i. i.0) (instance_of ts (sort_tree.tree r)) ≡ Some t → instance_of ts (sort_tree.tree r) ≡ Some (t, values)
  found_instance e = by_parts ts r ∙ by_head (sort_tree.head r) (sym (ap (option_map {T = Instance} (λ i. i.0)) (by_parts ts r)) ∙ e)

  module _ (its : instance_of ts (sort_tree.tree r) ≡ Some (t, values)) where
    pub instance_ready : All IsReadyDatatype ts → IsReadyDatatype t
    instance_ready all = let (k, l, e) = (is_instance ts (sort_tree.tree r) (t, values) its).is_one in subst IsReadyDatatype e (all k t l)

    pub instance_count : (rs : List NumberedSort) → rs ≡ parts r → length rs ≡ length t.params
    instance_count rs e = sym (length-map rs sort_tree.tree) ∙ ap (λ z. length (map sort_tree.tree z)) e ∙ (is_instance ts (sort_tree.tree r) (t, values) its).count

-- a pattern with its variables
abbrev with_small : Instance → syntax.Pattern → Pattern → Judging Pattern
with_small i p q = judge_small (pattern_at p) (pattern_sorts i q) >>= (λ _. done q)

pub typed_pattern_fails : (i : Instance) (p : syntax.Pattern) (q : Pattern) (e : TyError) → Answers (Ok q) (judge_pattern i.0 p) → Answers {A = List Sort} (Err e) (judge_small (pattern_at p) (pattern_sorts i q)) → Answers {A = Pattern} (Err e) (judge_typed_pattern i p)
typed_pattern_fails i p q e h k = first_is (judge_pattern i.0 p) (with_small i p) q (Err e) h (first_fails (judge_small (pattern_at p) (pattern_sorts i q)) (λ _. done q) e k)

pub typed_pattern_is : (i : Instance) (p : syntax.Pattern) (q : Pattern) → Answers (Ok q) (judge_pattern i.0 p) → Answers (Ok (pattern_sorts i q)) (judge_small (pattern_at p) (pattern_sorts i q)) → Answers (Ok q) (judge_typed_pattern i p)
typed_pattern_is i p q h k = first_is (judge_pattern i.0 p) (with_small i p) q (Ok q) h (first_is (judge_small (pattern_at p) (pattern_sorts i q)) (λ _. done q) (pattern_sorts i q) (Ok q) k (λ before. (refl, refl)))

-- the constructor that a pattern begins with
pub constructor_sorts : (i : Instance) (q : Pattern) (d : DeclNo) (n : ℕ) (vs : List ℕ) (o : Option PlainConstructor) → q ≡ patterns.Con d n vs → o ≡ constructor_named i.0 n → pattern_sorts i q ≡ sorts_of_fields o i.1
constructor_sorts i q d n vs o e f = ap (pattern_sorts i) e ∙ ap (λ z. sorts_of_fields z i.1) (sym f)

pub fields_below : (t : Datatype) (n : ℕ) (c : Constructor) (fs : List Field) (count : ℕ) → IsReadyDatatype (plain_datatype t) → constructor_named (plain_datatype t) n ≡ Some (plain_constructor c) → fs ≡ c.fields → count ≡ length t.params
    → (f : Field) → Contains fs f → ParamsBelow count (sort_tree.tree f.sort)
fields_below t n c fs count ready e same as_many f within =
    let (k, l, is) = (named_itself (plain_datatype t) n (plain_constructor c) e).1 in
    let (j, m, at) = contains_map plain_field c.fields f (subst (λ z. Contains z f) same within) in
    let each = subst (λ (d : PlainConstructor). All (λ (g : PlainField). ParamsBelow (length t.params) g.sort) d.fields) is (ready k (plain_constructor c) l) in
    subst (λ z. ParamsBelow z (sort_tree.tree f.sort)) (sym as_many) (subst (λ (g : PlainField). ParamsBelow (length t.params) g.sort) at (each j (plain_field f) m))

-- variables with the sorts of fields
pub zip_none : (vs : List ℕ) → zip {X = Sort} vs [] ≡ []
zip_none [] = refl
zip_none (v ∷ vs) = refl

zip_plain : (vs : List ℕ) (rs : List NumberedSort) → map plain_var (zip vs rs) ≡ zip vs (map sort_tree.tree rs)
zip_plain [] rs = refl
zip_plain (v ∷ vs) [] = refl
zip_plain (v ∷ vs) (r ∷ rs) = ap (λ z. (v, sort_tree.tree r) ∷ z) (zip_plain vs rs)

zip_interned : (store : List Sort) (vs : List ℕ) (rs : List NumberedSort) → AllInterned store rs → AllInterned store (map (λ (p : ℕ × NumberedSort). p.1) (zip vs rs))
zip_interned store [] rs h = tt
zip_interned store (v ∷ vs) [] h = tt
zip_interned store (v ∷ vs) (r ∷ rs) h = (h.0, zip_interned store vs rs h.1)

module _ (ss : List Sort) (at : ℕ) (own : List NumberedSort) (made : Answers (Ok (map sort_tree.tree own)) (judge_small at ss)) where
  own_is : map sort_tree.tree own ≡ ss
  own_is = let (x, between, small, (e, f)) = made [] in e

  pub variables_answer : (r : Result (Vec (ℕ × NumberedSort) Global) TyError) → IfErr r (λ e. e ≡ error.NoMemory) → Answers (sorts_answer ss r) (judge_small at ss)
  variables_answer (Ok v) err = subst (λ z. Answers (Ok z) (judge_small at ss)) own_is made
  variables_answer (Err e) err = subst (λ z. Answers {A = List Sort} (Err z) (judge_small at ss)) (sym err) tt

  pub variables_are : (vs : List ℕ) (r : Result (Vec (ℕ × NumberedSort) Global) TyError) (all : List (ℕ × Sort)) → zip vs ss ≡ all → IfOk r (λ v. v.items ≡ zip vs own) → IfOk r (λ v. map plain_var v.items ≡ all)
  variables_are vs (Ok v) all e h = ap (map plain_var) h ∙ zip_plain vs own ∙ ap (zip vs) own_is ∙ e
  variables_are vs (Err f) all e h = tt

pub variables_interned : (store : List Sort) (vs : List ℕ) (own : List NumberedSort) (r : Result (Vec (ℕ × NumberedSort) Global) TyError) → AllInterned store own → IfOk r (λ v. v.items ≡ zip vs own) → IfOk r (λ v. AllInterned store (map (λ p. p.1) v.items))
variables_interned store vs own (Ok v) h e = subst (λ z. AllInterned store (map (λ (p : ℕ × NumberedSort). p.1) z)) (sym e) (zip_interned store vs own h)
variables_interned store vs own (Err f) h e = tt

pub small_fault : (e : TyError) (at : ℕ) (ss us : List Sort) → ss ≡ us → Answers {A = List Sort} (Err e) (judge_small at ss) → Answers {A = List Sort} (Err e) (judge_small at us)
small_fault e at ss us same h = subst (λ z. Answers {A = List Sort} (Err e) (judge_small at z)) same h

pub small_made : (at : ℕ) (own : List NumberedSort) (ss us : List Sort) → ss ≡ us → Answers (Ok (map sort_tree.tree own)) (judge_small at ss) → Answers (Ok (map sort_tree.tree own)) (judge_small at us)
small_made at own ss us same h = subst (λ z. Answers (Ok (map sort_tree.tree own)) (judge_small at z)) same h

-- the cases of a match
abbrev case_of : Pattern × NumberedTerm → Case
case_of c = (c.0, tree c.1)

pub patterns_are : (cs : List (Pattern × NumberedTerm)) → map (λ (c : Case). c.0) (map case_of cs) ≡ map (λ (c : Pattern × NumberedTerm). c.0) cs
patterns_are [] = refl
patterns_are (c ∷ cs) = ap (λ ps. c.0 ∷ ps) (patterns_are cs)

cases_are : (cs : List (Pattern × NumberedTerm)) → plain_case_trees (numbered.cases cs) ≡ plain_cases (map case_of cs)
cases_are [] = refl
cases_are (c ∷ cs) = ap (more_cases c.0 (tree c.1)) (cases_are cs)

module _ (at : ℕ) (t : PlainDatatype) (u : NumberedTerm) (cs : List (Pattern × NumberedTerm)) where
  abbrev plain : List Case
  plain = map case_of cs

  abbrev judged : Result PlainTerm TyError → Type 0
  judged r = Answers r (judge_covered at t (tree u) plain)

  covering : (ps : List Pattern) → ps ≡ map (λ (c : Pattern × NumberedTerm). c.0) cs → Covers ps t → Covers (map (λ (c : Case). c.0) plain) t
  covering ps e h = subst (λ z. Covers z t) (e ∙ sym (patterns_are cs)) h

  pub uncovered : (ps : List Pattern) (b : Bool) → ps ≡ map (λ (c : Pattern × NumberedTerm). c.0) cs → (IsTrue b ↔ Covers ps t) → b ≡ false → (e : TyError) → e ≡ fault_at UncoveredConstructor at → judged (Err e)
  uncovered ps b e f n error same = subst (λ z. judged (Err z)) (sym same) (λ before. inl ((λ h. (let is = f.1 (subst (λ z. Covers z t) (patterns_are cs ∙ sym e) h) in cc)), refl))

  pub without_case : (ps : List Pattern) (b : Bool) → ps ≡ map (λ (c : Pattern × NumberedTerm). c.0) cs → (IsTrue b ↔ Covers ps t) → b ≡ true → first_sort plain ≡ None → (e : TyError) → e ≡ fault_at WrongTermForm at → judged (Err e)
  without_case ps b e f y none error same = subst (λ z. judged (Err z)) (sym same) (λ before. inr (tt, before, (covering ps e (f.0 y), refl), inl ((λ s g. cc), refl)))

  pub covered : (ps : List Pattern) (b : Bool) → ps ≡ map (λ (c : Pattern × NumberedTerm). c.0) cs → (IsTrue b ↔ Covers ps t) → b ≡ true → (s : Sort) → first_sort plain ≡ Some s → (r : Result TypedTerm TyError)
      → IfOk r (λ v. tree v.term ≡ term tt s (match_on (tree u) (plain_case_trees (numbered.cases cs)))) → IfErr r (λ e. e ≡ error.NoMemory) → judged (typed_answer r)
  covered ps b e f y s first (Ok v) made err =
      λ before. (tt, before, (covering ps e (f.0 y), refl), (s, before, (first, refl), (made ∙ ap (λ z. term tt s (match_on (tree u) z)) (cases_are cs), refl)))
  covered ps b e f y s first (Err x) made err = subst (λ z. judged (Err z)) (sym err) tt
