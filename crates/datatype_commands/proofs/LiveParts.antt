-- Constructors and selectors that are live one after the other, from what the calls answer.
use Rattle.std.proofs.Common.{◌≡◌, ℕ, zero, suc, ◌≤◌, List, [], ◌∷◌, ◌++◌, length, map, refl, ap, sym, ◌∙◌, subst, arith}
use Rattle.std.specs.List.{All}
use Rattle.sort_store.specs.Instance.{EachParamsBelow, ParamsBelow}
use Rattle.sort_store.specs.Interned.{AllInterned, Grows}
use Rattle.sort_store.specs.Tree.{NumberedSort, Sort, no_sorts, nodes, sort, sorts, tree, trees}
use Rattle.sort_store.specs.declared.head.DeclNo.{DeclNo}
use Rattle.sort_store.specs.declared.head.Head.TheVariants as head
use Rattle.sort_store.proofs.GrownStores.{grows_more}
use Rattle.scope_stack.specs.Environment.{Environment}
use Rattle.scope_stack.specs.Environment as scopes
use Rattle.scope_stack.specs.declared.entry.FunEntry.{FunEntry}
use Rattle.scope_stack.specs.declared.entry.FunKind.{FunKind}
use Rattle.scope_stack.specs.declared.entry.FunKind.TheVariants as kind
use Rattle.dt_rules.specs.Groups.{own_sort, param_sorts}
use Rattle.term_store.specs.Command.{PlainDatatype, plain_constructor, plain_datatype, plain_field}
use Rattle.term_store.specs.declared.command.Constructor.{Constructor}
use Rattle.term_store.specs.declared.command.Datatype.{Datatype}
use Rattle.term_store.specs.declared.command.Field.{Field}
use Rattle.typer.specs.Declarations.{Declarations, FunDeclaration, declarations_of, fun_declaration, with_fun}
use Rattle.typer.specs.Ready.{IsReady, IsReadyFunEntry}
use Rattle.typer.specs.declared.world.World.{World}
use Rattle.typer.proofs.DeclarationsByTrees.{fun_by_trees}
use Rattle.typer.proofs.NameSteps.{params_below}
use Rattle.typer.proofs.ReadyCalls.{ready_with_fun}
use Rattle.typer.proofs.ReadyKept.{schema_grown}
use Rattle.datatype_commands.specs.Answers.{AreReadyParts, HasReadyParts, HoldsOwnSort, IsReadyPart, OnlyScopesChange, OnlySymbolsChange}
use Rattle.datatype_commands.specs.DeclaredDatatypes.{constructor_symbol, selector_symbol, with_constructors, with_parts, with_selectors}

pub fun_added : (name : ℕ) (d : FunEntry) (old s : Environment) → s ≡ scopes.with_fun name d old → declarations_of s ≡ with_fun name (fun_declaration d) (declarations_of old)
fun_added name d old s e = ap declarations_of e ∙ fun_by_trees name d old

pub fun_ready : (world : World) (name : ℕ) (d : FunEntry) (s : Environment) → IsReady world → s ≡ scopes.with_fun name d world.scopes → IsReadyFunEntry world.sorts d → IsReady (record world { scopes = s })
fun_ready world name d s ready e entry = subst (λ (x : Environment). IsReady (record world { scopes = x })) (sym e) (ready_with_fun world ready name d entry)

-- the sort of a datatype at its own parameters has no others
below_more : (n : ℕ) (ts : List Sort) (t : Sort) → EachParamsBelow n (sorts ts) → ParamsBelow n t → EachParamsBelow n (sorts (ts ++ t ∷ []))
below_more n [] t h k = (k, tt)
below_more n (x ∷ ts) t h k = (h.0, below_more n ts t h.1 k)

params_within : (n m : ℕ) → m ≤ n → EachParamsBelow n (sorts (param_sorts m))
params_within n zero l = tt
params_within n (suc m) l = below_more n (param_sorts m) (sort (head.Param m) no_sorts) (params_within n m (omega (arith, l))) (omega (arith, l), tt)

own_below : (t : PlainDatatype) → ParamsBelow (length t.params) (own_sort t)
own_below t = (tt, params_within (length t.params) (length t.params) (omega arith))

-- the sorts of fields
fields_interned : (world : World) (n : ℕ) (fs : List Field) → All (IsReadyPart world n) fs → AllInterned world.sorts (map (λ f. f.sort) fs)
fields_interned world n [] h = tt
fields_interned world n (f ∷ fs) h = ((h zero f (omega arith)).interned, fields_interned world n fs (λ k d l. h (suc k) d (omega (arith, l))))

fields_below : (world : World) (n : ℕ) (fs : List Field) → All (IsReadyPart world n) fs → EachParamsBelow n (trees (nodes (map (λ f. f.sort) fs)))
fields_below world n [] h = tt
fields_below world n (f ∷ fs) h = (params_below world.names n (tree f.sort) (h zero f (omega arith)).ready, fields_below world n fs (λ k d l. h (suc k) d (omega (arith, l))))

field_trees : (fs : List Field) → map tree (map (λ f. f.sort) fs) ≡ map (λ f. f.sort) (map plain_field fs)
field_trees [] = refl
field_trees (f ∷ fs) = ap (λ (ts : List Sort). tree f.sort ∷ ts) (field_trees fs)

-- a symbol whose parts are these
same_symbol : (d : DeclNo) (k : FunKind) (n m : ℕ) (ts us : List Sort) (r s : Sort) → n ≡ m → ts ≡ us → r ≡ s
    → ◌≡◌ {A = FunDeclaration} (record { number = d; kind = k; params = n; args = ts; result = r }) (record { number = d; kind = k; params = m; args = us; result = s })
same_symbol d k n m ts us r s e f g =
    ap (λ (x : ℕ). record { number = d; kind = k; params = x; args = ts; result = r }) e
    ∙ (ap (λ (x : List Sort). record { number = d; kind = k; params = m; args = x; result = r }) f ∙ ap (λ (x : Sort). record { number = d; kind = k; params = m; args = us; result = x }) g)

same_entry : (store : List Sort) (d : DeclNo) (k : FunKind) (n m : ℕ) (ts us : List NumberedSort) (r s : NumberedSort) → n ≡ m → ts ≡ us → r ≡ s
    → IsReadyFunEntry store (record { no = d; kind = k; params = m; args = us; result = s }) → IsReadyFunEntry store (record { no = d; kind = k; params = n; args = ts; result = r })
same_entry store d k n m ts us r s e f g h =
    subst (λ (x : ℕ). IsReadyFunEntry store (record { no = d; kind = k; params = x; args = ts; result = r })) (sym e)
    (subst (λ (x : List NumberedSort). IsReadyFunEntry store (record { no = d; kind = k; params = m; args = x; result = r })) (sym f)
    (subst (λ (x : NumberedSort). IsReadyFunEntry store (record { no = d; kind = k; params = m; args = us; result = x })) (sym g) h))

module _ (world : World) (t : Datatype) (own : NumberedSort) (holds : HoldsOwnSort world.sorts t own) where
  own_within : ParamsBelow (length t.params) (tree own)
  own_within = subst (ParamsBelow (length t.params)) (sym holds.sort) (own_below (plain_datatype t))

  module _ (params : ℕ) (args : List NumberedSort) (result : NumberedSort) (count : params ≡ length t.params) where
    module _ (f : Field) (takes : args ≡ own ∷ []) (gives : result ≡ f.sort) where
      pub selector_ready : IsReadyPart world (length t.params) f → IsReadyFunEntry world.sorts (record { no = f.no; kind = kind.Selector; params = params; args = args; result = result })
      selector_ready part = same_entry world.sorts f.no kind.Selector params (length t.params) args (own ∷ []) result f.sort count takes gives (record {
        entry = record { args = (holds.interned, tt); result = part.interned; below = λ _. ((own_within, tt), params_below world.names (length t.params) (tree f.sort) part.ready) };
        params = λ e. cc;
      })

      pub selector_effect : (new : Declarations) → new ≡ with_fun f.name (fun_declaration (record { no = f.no; kind = kind.Selector; params = params; args = args; result = result })) (declarations_of world.scopes)
          → new ≡ with_fun f.name (selector_symbol (plain_datatype t) (plain_field f)) (declarations_of world.scopes)
      selector_effect new e = e ∙ ap (λ (d : FunDeclaration). with_fun f.name d (declarations_of world.scopes))
          (same_symbol f.no kind.Selector params (length t.params) (map tree args) (own_sort (plain_datatype t) ∷ []) (tree result) (tree f.sort) count (ap (map tree) takes ∙ ap (λ (s : Sort). s ∷ []) holds.sort) (ap tree gives))

    module _ (c : Constructor) (takes : args ≡ map (λ f. f.sort) c.fields) (gives : result ≡ own) where
      pub constructor_ready : AreReadyParts world (length t.params) c → IsReadyFunEntry world.sorts (record { no = c.no; kind = kind.Constructor; params = params; args = args; result = result })
      constructor_ready parts = same_entry world.sorts c.no kind.Constructor params (length t.params) args (map (λ f. f.sort) c.fields) result own count takes gives (record {
        entry = record { args = fields_interned world (length t.params) c.fields parts; result = holds.interned; below = λ _. (fields_below world (length t.params) c.fields parts, own_within) };
        params = λ e. cc;
      })

      pub constructor_effect : (new : Declarations) → new ≡ with_fun c.name (fun_declaration (record { no = c.no; kind = kind.Constructor; params = params; args = args; result = result })) (declarations_of world.scopes)
          → new ≡ with_fun c.name (constructor_symbol (plain_datatype t) (plain_constructor c)) (declarations_of world.scopes)
      constructor_effect new e = e ∙ ap (λ (d : FunDeclaration). with_fun c.name d (declarations_of world.scopes))
          (same_symbol c.no kind.Constructor params (length t.params) (map tree args) (map (λ f. f.sort) (map plain_field c.fields)) (tree result) (own_sort (plain_datatype t)) count (ap (map tree) takes ∙ field_trees c.fields) (ap tree gives ∙ holds.sort))

-- what stays where only the live symbols change
pub own_stays : (old new : World) (t : Datatype) (own : NumberedSort) → OnlyScopesChange old new → HoldsOwnSort old.sorts t own → HoldsOwnSort new.sorts t own
own_stays old new t own e h = subst (λ (w : World). HoldsOwnSort w.sorts t own) (sym e) h

pub parts_stay : (old new : World) (n : ℕ) (fs : List Field) → OnlyScopesChange old new → All (IsReadyPart old n) fs → All (IsReadyPart new n) fs
parts_stay old new n fs e h = subst (λ (w : World). All (IsReadyPart w n) fs) (sym e) h

pub constructors_stay : (old new : World) (n : ℕ) (cs : List Constructor) → OnlyScopesChange old new → All (AreReadyParts old n) cs → All (AreReadyParts new n) cs
constructors_stay old new n cs e h = subst (λ (w : World). All (AreReadyParts w n) cs) (sym e) h

pub listed_parts : (old new : World) (n : ℕ) (fs shown : List Field) → OnlyScopesChange old new → shown ≡ fs → All (IsReadyPart old n) fs → All (IsReadyPart new n) shown
listed_parts old new n fs shown e same h = parts_stay old new n shown e (subst (λ (xs : List Field). All (IsReadyPart old n) xs) (sym same) h)

-- .. and the store of sorts grows
pub parts_grown_there : (world : World) (store : List Sort) (t : Datatype) → Grows world.sorts store → HasReadyParts world t → HasReadyParts (record world { sorts = store }) t
parts_grown_there world store t g h = λ k d l m x y. schema_grown world.names world.sorts store g _ _ (h k d l m x y)

pub symbols_more : (old mid new : World) → OnlySymbolsChange old mid → OnlySymbolsChange mid new → OnlySymbolsChange old new
symbols_more old mid new g k = record { others = k.others ∙ ap (λ (w : World). record w { scopes = new.scopes; sorts = new.sorts }) g.others; grows = grows_more old.sorts mid.sorts new.sorts g.grows k.grows }

pub datatypes_stay : (old new : World) (ts : List Datatype) → OnlySymbolsChange old new → All (HasReadyParts old) ts → All (HasReadyParts new) ts
datatypes_stay old new ts g h = subst (λ (w : World). All (HasReadyParts w) ts) (sym g.others) (λ k d l m x y i z u. schema_grown old.names old.sorts new.sorts g.grows _ _ (h k d l m x y i z u))

-- the first of a list, and those after it
pub first_one : {X : Type 0} (P : X → Type 0) (left rest : List X) (x : X) → left ≡ x ∷ rest → All P left → P x
first_one {X} P left rest x e h = subst (λ (xs : List X). All P xs) e h zero x (omega arith)

pub later_ones : {X : Type 0} (P : X → Type 0) (left rest : List X) (x : X) → left ≡ x ∷ rest → All P left → All P rest
later_ones {X} P left rest x e h k d l = subst (λ (xs : List X). All P xs) e h (suc k) d (omega (arith, l))

-- one more of the fields, the constructors or the datatypes is live
pub selector_live : (here : Declarations) (t : PlainDatatype) (left rest : List Field) (f : Field) (new all : Declarations) → left ≡ f ∷ rest → new ≡ with_fun f.name (selector_symbol t (plain_field f)) here
    → with_selectors here t (map plain_field left) ≡ all → with_selectors new t (map plain_field rest) ≡ all
selector_live here t left rest f new all shown e before = ap (λ (d : Declarations). with_selectors d t (map plain_field rest)) e ∙ (ap (λ (fs : List Field). with_selectors here t (map plain_field fs)) (sym shown) ∙ before)

pub constructor_live : (here mid : Declarations) (t : PlainDatatype) (left rest : List Constructor) (c : Constructor) (new all : Declarations) → left ≡ c ∷ rest → mid ≡ with_fun c.name (constructor_symbol t (plain_constructor c)) here
    → new ≡ with_selectors mid t (map plain_field c.fields) → with_constructors here t (map plain_constructor left) ≡ all → with_constructors new t (map plain_constructor rest) ≡ all
constructor_live here mid t left rest c new all shown put e before =
    ap (λ (d : Declarations). with_constructors d t (map plain_constructor rest)) (e ∙ ap (λ (d : Declarations). with_selectors d t (map plain_field c.fields)) put)
    ∙ (ap (λ (cs : List Constructor). with_constructors here t (map plain_constructor cs)) (sym shown) ∙ before)

pub datatype_live : (here : Declarations) (left rest : List Datatype) (t : Datatype) (new all : Declarations) → left ≡ t ∷ rest → new ≡ with_parts here (plain_datatype t ∷ [])
    → with_parts here (map plain_datatype left) ≡ all → with_parts new (map plain_datatype rest) ≡ all
datatype_live here left rest t new all shown e before = ap (λ (d : Declarations). with_parts d (map plain_datatype rest)) e ∙ (ap (λ (ts : List Datatype). with_parts here (map plain_datatype ts)) (sym shown) ∙ before)
