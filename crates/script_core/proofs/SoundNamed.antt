-- The named terms of a command are sound definitions, and leave a sound signature where they are live.
use Rattle.std.proofs.Common.{◌≡◌, ℕ, ◌+◌, ◌<◌, ◌≤◌, List, [], ◌∷◌, ◌++◌, length, refl, sym, ◌∙◌, subst, arith, length-append}
use Rattle.std.specs.List.{All, Contains}
use Rattle.std.proofs.lemmas.List.Elements.{Contains-append_left, Contains-append_right}
use Rattle.sort_store.specs.declared.head.DeclNo.{DeclNo}
use Rattle.sort_store.specs.Tree.{Sort}
use Rattle.sort_store.specs.Instance.{inst}
use Rattle.scope_stack.specs.Levels.{live}
use Rattle.scope_stack.specs.declared.entry.FunKind.TheVariants as kind
use Rattle.term_store.specs.Command.{PlainDef}
use Rattle.term_store.specs.Declarations.{Declaration, sort_symbol, function_symbol, datatype, constructor_of, selector_of, definition, term_name}
use Rattle.term_store.specs.SoundScript.{IsSoundDeclaration, IsSoundDef, named_def}
use Rattle.term_store.specs.SoundTerms.{AppliesBelow, IsSoundSort}
use Rattle.term_store.specs.Term.{PlainTerm, plain_sort}
use Rattle.typer.specs.Declarations.{FunDeclaration, depth, with_fun}
use Rattle.typer.specs.FunctionSymbols.{Signature}
use Rattle.typer.specs.NamedTerms.{AreNamedAfter}
use Rattle.typer.specs.Soundness.{IsSoundFunction, IsSoundSignature}
use Rattle.typer.proofs.AppliedNumbers.{AreFunctionsBelow}
use Rattle.typer.proofs.EachNamed.{EachNamed, none_named}
use Rattle.typer.proofs.LiveDeclarations.{Each, all_of_each, each_declared, each_of_all}
use Rattle.typer.proofs.LiveRankSteps.{inst_none}
use Rattle.typer.proofs.SoundApplications.{sort_sound}
use Rattle.typer.proofs.SoundNames.{AreSoundNames, IsSoundAnywhere}
use Rattle.script_core.specs.Environment.{Environment, signature_in}
use Rattle.script_core.specs.Keeping.{defined_in}
use Rattle.script_core.specs.Rules.{with_name, with_names_given}
use Rattle.script_core.proofs.NamedParts.{applies_more}
use Rattle.script_core.proofs.SoundNumbers.{length-declared}
use Rattle.script_core.proofs.StepNumbers.{AreNumberedFrom}

-- the signature is sound, and each live function has a number below the next one
pub record IsSoundEnv (script : List Declaration) (env : Environment) : Type 0 where
  pub signature : IsSoundSignature script (signature_in env)
  pub below : AreFunctionsBelow env.next env.declarations

-- these named terms are sound, and apply only functions below this number
pub record AreGoodNames (script : List Declaration) (n : ℕ) (ds : List Declaration) : Type 0 where
  pub sound : AreSoundNames script ds
  pub lower : EachNamed (AppliesBelow n) ds

pub no_names : (script : List Declaration) (n : ℕ) → AreGoodNames script n []
no_names script n = record { sound = none_named (IsSoundAnywhere script); lower = none_named (AppliesBelow n) }

pub good_as : (script : List Declaration) (n : ℕ) (ds es : List Declaration) → es ≡ ds → AreGoodNames script n ds → AreGoodNames script n es
good_as script n ds es e h = subst (AreGoodNames script n) (sym e) h

module _ (script : List Declaration) where
  first_in : (d : Declaration) (ds : List Declaration) → Contains (d ∷ ds) d
  first_in d ds = Contains-append_left (d ∷ []) ds d (0, omega arith, refl)

  -- what is true of all is true of those after the first
  rest_of : (n : ℕ) (d : Declaration) (ds : List Declaration) → AreGoodNames script n (d ∷ ds) → AreGoodNames script n ds
  rest_of n d ds h = record {
    sound = λ e m u c. h.sound e m u (Contains-append_right (d ∷ []) ds _ c);
    lower = λ e m u c. h.lower e m u (Contains-append_right (d ∷ []) ds _ c);
  }

  named_sort : (t : PlainTerm) → IsSoundAnywhere script t → IsSoundSort script 0 (plain_sort t)
  named_sort t h = sort_sound script [] t (h [])

  -- a named term is kept as a sound definition
  named_def_sound : (n : ℕ) (d : DeclNo) (m : ℕ) (t : PlainTerm) → n ≤ d.0 → IsSoundAnywhere script t → AppliesBelow n t → IsSoundDef script (named_def d m t)
  named_def_sound n d m t l h below = record {
    params_distinct = record { distinct = λ i j k e f. cc };
    param_sorts = all_of_each (λ (v : ℕ × Sort). IsSoundSort script 0 v.1) [] tt;
    result_sort = named_sort t h;
    body = h [];
    body_sort = refl;
    lower = λ plain. applies_more n d.0 l t below;
  }

  module _ (signature : Signature) where
    symbols_from : (n : ℕ) (ds : List Declaration) (before after : List ℕ) → n ≤ signature.first + length before → AreNamedAfter signature before ds after → AreGoodNames script n ds → Each (IsSoundDeclaration script) ds
    symbols_from n [] before after l given good = tt
    symbols_from n (term_name d m t ∷ ds) before after l given good = (
      named_def_sound n d m t (omega (arith, l, given.0)) (good.sound d m t (first_in (term_name d m t) ds)) (good.lower d m t (first_in (term_name d m t) ds)),
      symbols_from n ds (before ++ m ∷ []) after (omega (arith, l, length-append before (m ∷ []))) given.1 (rest_of n (term_name d m t) ds good),
    )
    symbols_from n (sort_symbol d m a ∷ ds) before after l given good = absurd given.0
    symbols_from n (function_symbol d m args r ∷ ds) before after l given good = absurd given.0
    symbols_from n (datatype t ∷ ds) before after l given good = absurd given.0
    symbols_from n (constructor_of t c ∷ ds) before after l given good = absurd given.0
    symbols_from n (selector_of t c f ∷ ds) before after l given good = absurd given.0
    symbols_from n (definition d ∷ ds) before after l given good = absurd given.0

  -- the named terms of a command are sound declarations
  pub names_symbols : (n : ℕ) (ds : List Declaration) → AreNumberedFrom n ds → AreGoodNames script n ds → Each (IsSoundDeclaration script) ds
  names_symbols n ds h good = symbols_from h.signature n ds h.before h.after (omega (arith, h.counts)) h.given good

  no_values : (result : Sort) (values : List Sort) → length values ≡ 0 → inst values result ≡ result
  no_values result [] e = inst_none result
  no_values result (v ∷ values) e = absurd (omega (arith, e))

  -- a named term is live
  module _ (env : Environment) (sound : IsSoundEnv script env) (d : DeclNo) (m : ℕ) (t : PlainTerm) (number : d.0 ≡ env.next) (its : IsSoundAnywhere script t) (declared : Contains script (term_name d m t)) where
    abbrev live_name : FunDeclaration
    live_name = record { number = d; kind = kind.Named; params = 0; args = []; result = plain_sort t }

    abbrev OfFun : ℕ × FunDeclaration → Type 0
    OfFun f = IsSoundFunction script f.1 × (f.1.number.0 < env.next + 1)

    entry : IsSoundFunction script live_name
    entry = record {
      args = all_of_each (IsSoundSort script 0) [] tt;
      result = named_sort t its;
      its = term_name d m t;
      is_declared = declared;
      number_is = refl;
      ranks = λ values e. (refl, no_values (plain_sort t) values e);
      tester = λ e. cc;
    }

    all_funs : All OfFun (live (with_fun m live_name env.declarations).funs)
    all_funs = all_of_each OfFun _ (each_declared OfFun env.declarations.global (m, live_name) env.declarations.funs (entry, omega (arith, number))
        (each_of_all OfFun (live env.declarations.funs) (λ k f few. (sound.signature.funs k f few, omega (arith, sound.below k f few)))))

    name_live : IsSoundEnv script (with_name env (named_def d m t))
    name_live = record {
      signature = record { table = sound.signature.table; sorts = sound.signature.sorts; funs = λ k f l. (all_funs k f l).0; datatypes = sound.signature.datatypes };
      below = λ k f l. (all_funs k f l).1;
    }

  module _ (signature : Signature) where
    live_from : (n : ℕ) (ds : List Declaration) (before after : List ℕ) (env : Environment) → signature.first + length before ≡ env.next → AreNamedAfter signature before ds after → AreGoodNames script n ds
        → ((d : Declaration) → Contains ds d → Contains script d) → IsSoundEnv script env → IsSoundEnv script (with_names_given env (defined_in ds))
    live_from n [] before after env counts given good declares sound = sound
    live_from n (term_name d m t ∷ ds) before after env counts given good declares sound =
        let here = first_in (term_name d m t) ds in
        live_from n ds (before ++ m ∷ []) after (with_name env (named_def d m t)) (omega (arith, counts, length-append before (m ∷ []))) given.1 (rest_of n (term_name d m t) ds good)
        (λ x c. declares x (Contains-append_right (term_name d m t ∷ []) ds x c)) (name_live env sound d m t (given.0 ∙ counts) (good.sound d m t here) (declares (term_name d m t) here))
    live_from n (sort_symbol d m a ∷ ds) before after env counts given good declares sound = absurd given.0
    live_from n (function_symbol d m args r ∷ ds) before after env counts given good declares sound = absurd given.0
    live_from n (datatype t ∷ ds) before after env counts given good declares sound = absurd given.0
    live_from n (constructor_of t c ∷ ds) before after env counts given good declares sound = absurd given.0
    live_from n (selector_of t c f ∷ ds) before after env counts given good declares sound = absurd given.0
    live_from n (definition d ∷ ds) before after env counts given good declares sound = absurd given.0

  pub names_live : (n : ℕ) (ds : List Declaration) (env : Environment) → AreNumberedFrom env.next ds → AreGoodNames script n ds → ((d : Declaration) → Contains ds d → Contains script d) → IsSoundEnv script env
      → IsSoundEnv script (with_names_given env (defined_in ds))
  names_live n ds env h good declares sound = live_from h.signature n ds h.before h.after env h.counts h.given good declares sound

-- levels stay as many
pub names_depth : (env : Environment) (ds : List PlainDef) → depth (with_names_given env ds).declarations ≡ depth env.declarations
names_depth env [] = refl
names_depth env (d ∷ ds) = names_depth (with_name env d) ds ∙ length-declared env.declarations.global _ env.declarations.funs
