-- What is true of the datatype that a sort is an instance of, and of the constructor that a name finds.
use Rattle.std.proofs.Common.{◌≡◌, ℕ, zero, suc, ◌==◌, ◌&&◌, Bool, true, false, if◌then◌else◌, List, [], ◌∷◌, length, Option, Some, None, inl, inr, ap, arith, refl, sym, ◌∙◌, subst}
use Rattle.std.proofs.lemmas.Bool.{cases_Bool, eqb-true}
use Rattle.std.specs.List.{Contains}
use Rattle.std.specs.List as lists
use Rattle.lex_core.specs.declared.token.Tok.{Tok}
use Rattle.sort_store.specs.declared.head.DeclNo.{DeclNo}
use Rattle.sort_store.specs.declared.head.Head.TheVariants as head
use Rattle.sort_store.specs.Tree.{Sort, sort, SortList, no_sorts, more_sorts, sorts}
use Rattle.term_store.specs.Command.{PlainConstructor, PlainDatatype}
use Rattle.term_store.specs.SoundTerms.{datatype_sort}
use Rattle.dt_rules.specs.Groups.{numbered, sort_list}
use Rattle.dt_rules.specs.PatternRules.{constructor_named}
use Rattle.scope_stack.specs.Levels.{found}
use Rattle.scope_stack.specs.declared.entry.FunKind.{FunKind}
use Rattle.scope_stack.specs.declared.entry.FunKind.TheVariants as kind
use Rattle.typer.specs.Declarations.{FunDeclaration}
use Rattle.typer.specs.FunctionSymbols.{Signature, constructor_at, if_constructor, is_constructor, only_symbol, tested}
use Rattle.typer.specs.MatchRules.{Instance, at_values, instance_of}

-- an element that is found is one of the list, and passes the test
pub found_by : {X : Type 0} (p : X → Bool) (xs : List X) (x : X) → lists.find p xs ≡ Some x → Contains xs x × (p x ≡ true)
found_by p [] x e = cc
found_by p (y ∷ ys) x e = elim (cases_Bool (p y)) [
  | inl t ↦ (let here : Some y ≡ Some x = sym (ap (λ b. if b then Some y else lists.find p ys) t) ∙ e in let same : y ≡ x = cc in ((zero, omega arith, same), subst (λ z. p z ≡ true) same t))
  | inr f ↦ (let later = found_by p ys x (sym (ap (λ b. if b then Some y else lists.find p ys) f) ∙ e) in let within = later.0 in ((suc within.0, omega (arith, within.1), within.2), later.1))
]

pub as_list : (ts : SortList) → sorts (sort_list ts) ≡ ts
as_list no_sorts = refl
as_list (more_sorts t ts) = ap (more_sorts t) (as_list ts)

-- the constructor of a name, by its own name
pub named_itself : (t : PlainDatatype) (name : ℕ) (c : PlainConstructor) → constructor_named t name ≡ Some c → (constructor_named t c.name ≡ Some c) × Contains t.constructors c
named_itself t name c e =
    let f = found_by (λ (d : PlainConstructor). d.name == name) t.constructors c e in
    (ap (constructor_named t) (eqb-true c.name name f.1) ∙ e, f.0)

-- the constructor of a tester is live, and a constructor
pub tested_live : (signature : Signature) (is : List Tok) (c : ℕ × FunDeclaration) → tested signature is ≡ Some c → (found c.0 signature.declarations.funs ≡ Some c.1) × (c.1.kind ≡ kind.Constructor)
tested_live signature is c e = at (only_symbol is) e
  where
    a_constructor : (k : FunKind) → is_constructor k ≡ true → k ≡ kind.Constructor
    a_constructor kind.Constructor f = refl
    a_constructor kind.Free f = cc
    a_constructor kind.Defined f = cc
    a_constructor kind.Recursive f = cc
    a_constructor kind.Selector f = cc
    a_constructor kind.Named f = cc

    by : (t : Tok) (f : FunDeclaration) (b : Bool) → found t.name signature.declarations.funs ≡ Some f → is_constructor f.kind ≡ b → (if b then Some (t.name, f) else None) ≡ Some c → (found c.0 signature.declarations.funs ≡ Some c.1) × (c.1.kind ≡ kind.Constructor)
    by t f true h k l = let same : (t.name, f) ≡ c = cc in subst (λ (z : ℕ × FunDeclaration). (found z.0 signature.declarations.funs ≡ Some z.1) × (z.1.kind ≡ kind.Constructor)) same (h, a_constructor f.kind k)
    by t f false h k l = cc

    live_at : (t : Tok) (o : Option FunDeclaration) → found t.name signature.declarations.funs ≡ o → if_constructor t.name o ≡ Some c → (found c.0 signature.declarations.funs ≡ Some c.1) × (c.1.kind ≡ kind.Constructor)
    live_at t None h k = cc
    live_at t (Some f) h k = by t f (is_constructor f.kind) h refl k

    at : (o : Option Tok) → constructor_at signature o ≡ Some c → (found c.0 signature.declarations.funs ≡ Some c.1) × (c.1.kind ≡ kind.Constructor)
    at None h = cc
    at (Some t) h = live_at t (found t.name signature.declarations.funs) refl h

-- the sort is the datatype, which is one of these, at as many values as it has parameters
pub record IsInstance (ts : List PlainDatatype) (s : Sort) (i : Instance) : Type 0 where
  pub is_one : Contains ts i.0
  pub sort_is : s ≡ datatype_sort i.0 i.1
  pub count : length i.1 ≡ length i.0.params

module _ (ts : List PlainDatatype) where
  values_at : (d : DeclNo) (n : ℕ) (args : SortList) (o : Option PlainDatatype) (i : Instance) → numbered ts d.0 ≡ o → at_values n (sort_list args) o ≡ Some i → IsInstance ts (sort (head.Data d n) args) i
  values_at d n args None i e h = cc
  values_at d n args (Some t) i e h = by (n == t.name) (length (sort_list args) == length t.params) refl refl h
    where
      by : (a b : Bool) → (n == t.name) ≡ a → (length (sort_list args) == length t.params) ≡ b → (if a && b then Some (t, sort_list args) else None) ≡ Some i → IsInstance ts (sort (head.Data d n) args) i
      by true true f g k =
          let same : (t, sort_list args) ≡ i = cc in
          let found = found_by (λ (u : PlainDatatype). d.0 == u.no.0) ts t e in
          subst (IsInstance ts (sort (head.Data d n) args)) same (record {
            is_one = found.0;
            sort_is = ap (λ m. sort (head.Data d m) args) (eqb-true n t.name f) ∙ ap (λ m. sort (head.Data (record { 0 = m }) t.name) args) (eqb-true d.0 t.no.0 found.1) ∙ ap (sort (head.Data t.no t.name)) (sym (as_list args));
            count = eqb-true (length (sort_list args)) (length t.params) g;
          })
      by true false f g k = cc
      by false b f g k = cc

  pub is_instance : (s : Sort) (i : Instance) → instance_of ts s ≡ Some i → IsInstance ts s i
  is_instance (sort (head.Data d n) args) i e = values_at d n args (numbered ts d.0) i refl e
  is_instance (sort head.Bool args) i e = cc
  is_instance (sort head.Int args) i e = cc
  is_instance (sort head.Array args) i e = cc
  is_instance (sort (head.BitVec m) args) i e = cc
  is_instance (sort (head.Free d n) args) i e = cc
  is_instance (sort (head.Param k) args) i e = cc
