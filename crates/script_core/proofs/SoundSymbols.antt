-- The live constructors and selectors of a sound datatype are sound function symbols.
use Rattle.std.proofs.Common.{◌≡◌, ℕ, zero, suc, ◌≤◌, List, [], ◌∷◌, ◌++◌, length, map, take, refl, ap, sym, ◌∙◌, arith}
use Rattle.std.specs.List.{All, Contains}
use Rattle.std.proofs.lemmas.List.{length-append, map-append}
use Rattle.std.proofs.Math.Seq.{take-length, take-suc}
use Rattle.sort_store.specs.declared.head.Head.TheVariants as head
use Rattle.sort_store.specs.Instance.{inst, insts}
use Rattle.sort_store.specs.Tree.{Sort, sort, more_sorts, no_sorts, sorts}
use Rattle.scope_stack.specs.declared.entry.FunKind.TheVariants as kind
use Rattle.term_store.specs.Command.{PlainConstructor, PlainDatatype, PlainField}
use Rattle.term_store.specs.Declarations.{Declaration, constructor_of, datatype, selector_of}
use Rattle.term_store.specs.SoundTerms.{IsSoundSort, datatype_sort}
use Rattle.dt_rules.specs.Groups.{own_sort, param_sorts}
use Rattle.typer.specs.Soundness.{IsSoundFunction}
use Rattle.typer.proofs.LiveDeclarations.{Each, all_of_each, each_of_all}
use Rattle.typer.proofs.SoundInstances.{are_sound, count_of_sorts}
use Rattle.datatype_commands.specs.DeclaredDatatypes.{constructor_symbol, selector_symbol}

-- the fields of a constructor of a datatype with as many parameters
abbrev pub IsSoundField : List Declaration → ℕ → PlainField → Type 0
IsSoundField script count f = IsSoundSort script count f.sort

abbrev pub HasSoundFields : List Declaration → ℕ → PlainConstructor → Type 0
HasSoundFields script count c = All (IsSoundField script count) c.fields

-- The sort of a datatype at its own parameters.
param_count : (n : ℕ) → length (param_sorts n) ≡ n
param_count zero = refl
param_count (suc n) = omega (arith, length-append (param_sorts n) (sort (head.Param n) no_sorts ∷ []), param_count n)

each_append : {X : Type 0} (P : X → Type 0) (xs : List X) (x : X) → Each P xs → P x → Each P (xs ++ x ∷ [])
each_append P [] x h p = (p, tt)
each_append P (y ∷ xs) x h p = (h.0, each_append P xs x h.1 p)

each_param : (script : List Declaration) (count n : ℕ) → n ≤ count → Each (IsSoundSort script count) (param_sorts n)
each_param script count zero l = tt
each_param script count (suc n) l = each_append (IsSoundSort script count) (param_sorts n) (sort (head.Param n) no_sorts) (each_param script count n (omega (arith, l))) (omega (arith, l), tt)

own_sort_sound : (script : List Declaration) (t : PlainDatatype) → Contains script (datatype t) → IsSoundSort script (length t.params) (own_sort t)
own_sort_sound script t declared =
    let count = length t.params in (
      record { its = t; is_declared = declared; number_is = refl; params_are = sym (count_of_sorts (param_sorts count) ∙ param_count count) },
      are_sound script count (param_sorts count) (all_of_each (IsSoundSort script count) (param_sorts count) (each_param script count count (omega arith))),
    )

insts_sorts : (values ts : List Sort) → insts values (sorts ts) ≡ sorts (map (inst values) ts)
insts_sorts values [] = refl
insts_sorts values (t ∷ ts) = ap (more_sorts (inst values t)) (insts_sorts values ts)

-- the parameters stand for the values
params_taken : (values : List Sort) (n : ℕ) → n ≤ length values → map (inst values) (param_sorts n) ≡ take n values
params_taken values zero l = refl
params_taken values (suc n) l =
    map-append (inst values) (param_sorts n) (sort (head.Param n) no_sorts ∷ []) ∙ ap (λ (z : List Sort). z ++ inst values (sort (head.Param n) no_sorts) ∷ []) (params_taken values n (omega (arith, l)))
    ∙ sym (take-suc values n (sort (head.Param n) no_sorts) (omega (arith, l)))

own_sort_at : (t : PlainDatatype) (values : List Sort) → length values ≡ length t.params → inst values (own_sort t) ≡ datatype_sort t values
own_sort_at t values e =
    let count = length t.params in
    let same : map (inst values) (param_sorts count) ≡ values = params_taken values count (omega (arith, e)) ∙ ap (λ (n : ℕ). take n values) (sym e) ∙ take-length values in
    ap (sort (head.Data t.no t.name)) (insts_sorts values (param_sorts count) ∙ ap sorts same)

-- The live symbols.

field_sorts_at : (values : List Sort) (fs : List PlainField) → map (inst values) (map (λ (f : PlainField). f.sort) fs) ≡ map (λ (f : PlainField). inst values f.sort) fs
field_sorts_at values [] = refl
field_sorts_at values (f ∷ fs) = ap (λ (z : List Sort). inst values f.sort ∷ z) (field_sorts_at values fs)

each_sort : (script : List Declaration) (count : ℕ) (fs : List PlainField) → Each (IsSoundField script count) fs → Each (IsSoundSort script count) (map (λ (f : PlainField). f.sort) fs)
each_sort script count [] h = tt
each_sort script count (f ∷ fs) h = (h.0, each_sort script count fs h.1)

not_constructor : kind.Selector ≡ kind.Constructor → ⊥
not_constructor e = cc

pub constructor_symbol_sound : (script : List Declaration) (t : PlainDatatype) (c : PlainConstructor) → Contains script (datatype t) → Contains script (constructor_of t c) → HasSoundFields script (length t.params) c → IsSoundFunction script (constructor_symbol t c)
constructor_symbol_sound script t c declared built fields =
    let count = length t.params in
    record {
      args = all_of_each (IsSoundSort script count) (map (λ (f : PlainField). f.sort) c.fields) (each_sort script count c.fields (each_of_all (IsSoundField script count) c.fields fields));
      result = own_sort_sound script t declared;
      its = constructor_of t c;
      is_declared = built;
      number_is = refl;
      ranks = λ values e. (e, field_sorts_at values c.fields, own_sort_at t values e);
      tester = λ is_constructor values e. (e, ap (λ (s : Sort). s ∷ []) (own_sort_at t values e), refl);
    }

pub selector_symbol_sound : (script : List Declaration) (t : PlainDatatype) (c : PlainConstructor) (f : PlainField) → Contains script (datatype t) → Contains script (selector_of t c f) → IsSoundField script (length t.params) f → IsSoundFunction script (selector_symbol t f)
selector_symbol_sound script t c f declared selected field =
    let count = length t.params in
    record {
      args = all_of_each (IsSoundSort script count) (own_sort t ∷ []) (own_sort_sound script t declared, tt);
      result = field;
      its = selector_of t c f;
      is_declared = selected;
      number_is = refl;
      ranks = λ values e. (e, ap (λ (s : Sort). s ∷ []) (own_sort_at t values e), refl);
      tester = λ is_constructor values e. absurd (not_constructor is_constructor);
    }
