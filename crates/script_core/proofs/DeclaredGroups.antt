-- What the commands that declare datatypes lead to, from what the calls answer.
use Rattle.std.proofs.Common.{◌≡◌, ℕ, zero, suc, Bool, false, List, [], ◌∷◌, ◌++◌, length, map, take, IsTrue, Ok, Err, refl, ap, sym, ◌∙◌, subst, arith, inl}
use Rattle.std.specs.Option.{IsSome}
use Rattle.std.specs.List.{All, Contains}
use Rattle.std.proofs.lemmas.List.{map-append}
use Rattle.lex_core.specs.declared.token.Tok.{Tok}
use Rattle.judgement.specs.Judging.{ill_sorted, well_sorted}
use Rattle.cmd_grammar.specs.Commands.{DataDec, SortDec, declare_datatype, declare_datatypes}
use Rattle.dt_rules.specs.Answers.{Answers}
use Rattle.dt_rules.specs.Groups.{IsReadyGroup}
use Rattle.dt_rules.specs.declared.error.TyError.{TyError}
use Rattle.dt_rules.specs.declared.error.TyError.TheVariants as ty
use Rattle.dt_rules.proofs.UnsettledLists.{here, there}
use Rattle.term_store.specs.Command.{PlainDatatype, plain_datatype}
use Rattle.term_store.specs.Command as typed
use Rattle.term_store.specs.Script.{Kept}
use Rattle.term_store.specs.declared.command.Datatype.{Datatype}
use Rattle.term_store.specs.declared.command.TypedCommand.TheVariants as kept
use Rattle.typer.specs.Declarations.{Declarations, declarations_of}
use Rattle.typer.specs.FunctionSymbols.{Signature, datatypes_of, signature_of}
use Rattle.typer.specs.Ready.{IsReady, IsReadyDatatype}
use Rattle.typer.specs.declared.world.World.{World}
use Rattle.typer.proofs.LiveDeclarations.{Each, all_of_each, each_of_all}
use Rattle.datatype_commands.specs.Answers.{OnlySymbolsChange}
use Rattle.datatype_commands.specs.DeclaredDatatypes.{with_sorts}
use Rattle.datatype_commands.specs.GroupRules.{judge_group, judge_single}
use Rattle.script_core.specs.declared.scope.Scope.{Scope}
use Rattle.script_core.specs.declared.scope.StepError.{StepError}
use Rattle.script_core.specs.Checking.{IsReadyScope, environment_of}
use Rattle.script_core.specs.Effects.{BeginsNames, DeclaresNoName, MeetsParts, seen_by, step_error_of}
use Rattle.script_core.specs.Environment.{Environment, signature_from, signature_in}
use Rattle.script_core.specs.Keeping.{EachDatatypeUnused, KeepsBelow, KeepsEarlier, KeepsGroupPart, with_datatypes}
use Rattle.script_core.specs.Rules.{with_group, with_parts_kept}
use Rattle.script_core.proofs.SetLogics.{under_logic}
use Rattle.script_core.proofs.GroupCounts.{take_all}
use Rattle.script_core.proofs.GroupNumbers.{group_numbers, single_number}
use Rattle.script_core.proofs.KeptNumbers.{each_datatype_unused, group_part_earlier}
use Rattle.script_core.proofs.SoundNumbers.{AscendFrom}
use Rattle.script_core.proofs.TakingParts.{same_pair}

-- numbers that ascend, by those of what is kept
kept_ascend : (n : ℕ) (ts : List Datatype) → AscendFrom n (map (λ (t : PlainDatatype). t.no.0) (map plain_datatype ts)) → AscendFrom n (map (λ (t : Datatype). t.no.0) ts)
kept_ascend n ts h = subst (AscendFrom n) (sym (numbers_of ts)) h
  where
    numbers_of : (ts : List Datatype) → map (λ (t : Datatype). t.no.0) ts ≡ map (λ (t : PlainDatatype). t.no.0) (map plain_datatype ts)
    numbers_of [] = refl
    numbers_of (t ∷ ts) = ap (λ ns. t.no.0 ∷ ns) (numbers_of ts)

-- a datatype that is declared alone
single_ascends : (n : ℕ) (t : Datatype) → t.no.0 ≡ n → AscendFrom n (map (λ (u : Datatype). u.no.0) (t ∷ []))
single_ascends n t e = (omega (arith, e), tt)

-- No field sort of the group has a parameter past those of its datatype.
all_contained : {X : Type 0} (P : X → Type 0) (xs : List X) → ((x : X) → Contains xs x → P x) → All P xs
all_contained {X} P xs h = all_of_each P xs (each xs h)
  where
    each : (xs : List X) → ((x : X) → Contains xs x → P x) → Each P xs
    each [] h = tt
    each (x ∷ xs) h = (h x (here x x xs refl), each xs (λ y c. h y (there x y xs c)))

contained_first : {X : Type 0} (xs ys : List X) (x : X) → Contains xs x → Contains (xs ++ ys) x
contained_first [] ys x c = absurd (omega (arith, c.1))
contained_first (z ∷ xs) ys x (zero, l, e) = here z x (xs ++ ys) e
contained_first (z ∷ xs) ys x (suc k, l, e) = there z x (xs ++ ys) (contained_first xs ys x (k, omega (arith, l), e))

fields_ready : (before group : List PlainDatatype) → IsReadyGroup before group → Each IsReadyDatatype group
fields_ready before group ready =
    each_of_all IsReadyDatatype group (all_contained IsReadyDatatype group (λ t mine. all_contained _ t.constructors (λ c part. all_contained _ c.fields
    (λ f field. (ready.fields t c f (contained_first group before t mine) part field).params))))

each_first : (P : PlainDatatype → Type 0) (ts : List Datatype) (i : ℕ) → Each P (map plain_datatype ts) → Each P (map plain_datatype (take i ts))
each_first P ts zero h = tt
each_first P [] (suc i) h = tt
each_first P (t ∷ ts) (suc i) h = (h.0, each_first P ts i h.1)

each_joined : (P : PlainDatatype → Type 0) (xs ys : List PlainDatatype) → Each P xs → Each P ys → Each P (xs ++ ys)
each_joined P [] ys h k = k
each_joined P (x ∷ xs) ys h k = (h.0, each_joined P xs ys h.1 k)

part_ready : (old new : Kept) (group : List Datatype) → All IsReadyDatatype (datatypes_of old) → IsReadyGroup (datatypes_of old) (map plain_datatype group) → KeepsGroupPart old group new → All IsReadyDatatype (datatypes_of new)
part_ready old new group before ready (i, e) =
    subst (λ (k : Kept). All IsReadyDatatype (datatypes_of k)) (sym e)
    (subst (All IsReadyDatatype) (sym (map-append plain_datatype old.defs.datatypes (take i group)))
    (all_of_each IsReadyDatatype (datatypes_of old ++ map plain_datatype (take i group))
    (each_joined IsReadyDatatype (datatypes_of old) (map plain_datatype (take i group)) (each_of_all IsReadyDatatype (datatypes_of old) before)
    (each_first IsReadyDatatype group i (fields_ready (datatypes_of old) (map plain_datatype group) ready)))))

-- all of them are kept
pub all_part : (old new : Kept) (group : List Datatype) → new ≡ with_datatypes old group → KeepsGroupPart old group new
all_part old new group e = (length group, e ∙ ap (with_datatypes old) (sym (take_all group (length group) refl)))

-- the scope stands where some of the group are kept
pub kept_stands : (scope : Scope) (world : World) (script : Kept) (group : List Datatype) (next : ℕ) → IsSome scope.logic → IsReady world → OnlySymbolsChange scope.world world
    → IsReadyGroup (datatypes_of scope.world.script) (map plain_datatype group) → KeepsGroupPart world.script group script → IsReadyScope (record scope { world = record world { script = script }; next = next })
kept_stands scope world script group next set ready others fields part =
    let same : world.script ≡ scope.world.script = ap (λ (w : World). w.script) others.others in
    record {
      ready = record {
        distinct = ready.distinct;
        sorts = ready.sorts;
        funs = ready.funs;
        datatypes = part_ready scope.world.script script group (subst (λ (k : Kept). All IsReadyDatatype (datatypes_of k)) same ready.datatypes) fields (subst (λ (k : Kept). KeepsGroupPart k group script) same part);
        numbered = ready.numbered;
      };
      undeclared = under_logic scope.logic set;
    }

-- The sort symbols of the group are live.
module _ (scope : Scope) (begins : BeginsNames scope) where
  abbrev env : Environment
  env = environment_of scope.world.names scope

  here_signature : signature_of scope.world ≡ signature_in env
  here_signature = ap (λ (n : ℕ). signature_from n env) begins.1

  pub group_fault : (at : ℕ) (ss : List SortDec) (ds : List DataDec) (new : Environment) (after : List ℕ) (e : TyError) (error : StepError) → error ≡ step_error_of e
      → Answers {A = List PlainDatatype} (Err e) (judge_group (signature_of scope.world) at ss ds) → MeetsParts env at (declare_datatypes ss ds) (Err error) new after
  group_fault at ss ds new after (ty.Fault place) error is h =
      subst (λ (x : StepError). MeetsParts env at (declare_datatypes ss ds) (Err x) new after) (sym is) (inl (subst (λ (s : Signature). judge_group s at ss ds [] (ill_sorted place)) here_signature (h [])))
  group_fault at ss ds new after ty.NoMemory error is h = subst (λ (x : StepError). MeetsParts env at (declare_datatypes ss ds) (Err x) new after) (sym is) tt

  pub single_fault : (at : ℕ) (n : Tok) (d : DataDec) (new : Environment) (after : List ℕ) (e : TyError) (error : StepError) → error ≡ step_error_of e
      → Answers {A = PlainDatatype} (Err e) (judge_single (signature_of scope.world) at n d) → MeetsParts env at (declare_datatype n d) (Err error) new after
  single_fault at n d new after (ty.Fault place) error is h =
      subst (λ (x : StepError). MeetsParts env at (declare_datatype n d) (Err x) new after) (sym is) (inl (subst (λ (s : Signature). judge_single s at n d [] (ill_sorted place)) here_signature (h [])))
  single_fault at n d new after ty.NoMemory error is h = subst (λ (x : StepError). MeetsParts env at (declare_datatype n d) (Err x) new after) (sym is) tt

  group_judged : (at : ℕ) (ss : List SortDec) (ds : List DataDec) (group : List Datatype) → Answers (Ok (map plain_datatype group)) (judge_group (signature_of scope.world) at ss ds) → judge_group (signature_in env) at ss ds [] (well_sorted (map plain_datatype group) [])
  group_judged at ss ds group h = subst (λ (s : Signature). judge_group s at ss ds [] (well_sorted (map plain_datatype group) [])) here_signature (h [])

  single_judged : (at : ℕ) (n : Tok) (d : DataDec) (t : Datatype) → Answers (Ok (plain_datatype t)) (judge_single (signature_of scope.world) at n d) → judge_single (signature_in env) at n d [] (well_sorted (plain_datatype t) [])
  single_judged at n d t h = subst (λ (s : Signature). judge_single s at n d [] (well_sorted (plain_datatype t) [])) here_signature (h [])

  pub group_ascends : (at : ℕ) (ss : List SortDec) (ds : List DataDec) (group : List Datatype) → Answers (Ok (map plain_datatype group)) (judge_group (signature_of scope.world) at ss ds) → AscendFrom scope.next (map (λ (t : Datatype). t.no.0) group)
  group_ascends at ss ds group h = kept_ascend scope.next group (group_numbers env at ss ds (map plain_datatype group) [] [] (group_judged at ss ds group h))

  pub single_alone : (at : ℕ) (n : Tok) (d : DataDec) (t : Datatype) → Answers (Ok (plain_datatype t)) (judge_single (signature_of scope.world) at n d) → AscendFrom scope.next (map (λ (u : Datatype). u.no.0) (t ∷ []))
  single_alone at n d t h = single_ascends scope.next t (single_number env at n d (plain_datatype t) [] [] (single_judged at n d t h))

  module _ (world : World) (others : OnlySymbolsChange scope.world world) (group shown : List Datatype) (same : shown ≡ group) where
    same_script : world.script ≡ scope.world.script
    same_script = ap (λ (w : World). w.script) others.others

    module _ (ascends : AscendFrom scope.next (map (λ (t : Datatype). t.no.0) group)) where
      shown_ascend : AscendFrom scope.next (map (λ (t : Datatype). t.no.0) shown)
      shown_ascend = subst (λ (ts : List Datatype). AscendFrom scope.next (map (λ (t : Datatype). t.no.0) ts)) (sym same) ascends

      -- nothing is kept under the numbers of the group
      pub group_unused : KeepsBelow scope.next scope.world.script.defs → EachDatatypeUnused world.script.defs shown
      group_unused below =
          subst (λ (k : Kept). EachDatatypeUnused k.defs shown) (sym same_script) (each_datatype_unused scope.world.script.defs shown scope.next below shown_ascend)

      -- some of the group may be kept
      pub part_kept_earlier : (script : Kept) → KeepsGroupPart world.script shown script → KeepsEarlier scope.next scope.world.script script
      part_kept_earlier script part =
          group_part_earlier scope.world.script script shown scope.next shown_ascend (subst (λ (k : Kept). KeepsGroupPart k shown script) same_script part)

    module _ (new : Scope) (live : declarations_of world.scopes ≡ with_sorts (declarations_of scope.world.scopes) (map plain_datatype group))
        (effect : environment_of world.names new ≡ with_parts_kept (environment_of world.names (record scope { world = world })) (map plain_datatype shown)) (unnamed : DeclaresNoName (record scope { world = world }) new) where
      group_env : environment_of scope.world.names new ≡ with_group env (map plain_datatype group)
      group_env =
          ap (λ (ns : List (List ℕ)). environment_of ns new) (sym (ap (λ (w : World). w.names) others.others))
          ∙ (effect
          ∙ (ap (λ (ts : List Datatype). with_parts_kept (environment_of world.names (record scope { world = world })) (map plain_datatype ts)) same
          ∙ ap (λ (e : Environment). with_parts_kept e (map plain_datatype group))
          (ap (λ (w : World). environment_of w.names (record scope { world = w })) others.others ∙ ap (λ (d : Declarations). record env { declarations = d }) live)))

      none_named : seen_by new ≡ []
      none_named = unnamed.0 ∙ (ap (λ (w : World). w.seen.items) others.others ∙ begins.0)

      pub group_taken : (at : ℕ) (ss : List SortDec) (ds : List DataDec) → Answers (Ok (map plain_datatype group)) (judge_group (signature_of scope.world) at ss ds)
          → MeetsParts env at (declare_datatypes ss ds) (Ok (kept.DeclareDatatypes group)) (environment_of scope.world.names new) (seen_by new)
      group_taken at ss ds h =
          (map plain_datatype group, [], group_judged at ss ds group h, (same_pair (typed.declare_datatypes (map plain_datatype group)) (typed.declare_datatypes (map plain_datatype group)) _ _ refl group_env, none_named))

      pub single_taken : (at : ℕ) (n : Tok) (d : DataDec) (t : Datatype) → group ≡ t ∷ [] → Answers (Ok (plain_datatype t)) (judge_single (signature_of scope.world) at n d)
          → MeetsParts env at (declare_datatype n d) (Ok (kept.DeclareDatatype t)) (environment_of scope.world.names new) (seen_by new)
      single_taken at n d t one h = (
        plain_datatype t,
        [],
        single_judged at n d t h,
        (
          same_pair (typed.declare_datatype (plain_datatype t)) (typed.declare_datatype (plain_datatype t)) _ _ refl (group_env ∙ ap (λ (ts : List Datatype). with_group env (map plain_datatype ts)) one),
          none_named,
        ),
      )
