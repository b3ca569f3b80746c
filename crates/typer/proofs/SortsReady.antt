-- What a raw sort is well sorted with may stand in a declaration with the command's parameters: its names are in the table,
-- and its parameters are the command's.
use Rattle.std.proofs.Common.{◌≡◌, ℕ, zero, suc, ◌<◌, ◌==◌, Bool, true, false, if◌then◌else◌, List, [], ◌∷◌, map, length, slice_index_or, Option, Some, None, Result, Ok, Err, refl, sym, arith, subst}
use Rattle.std.specs.Option.{option_map}
use Rattle.std.specs.List.{position}
use Rattle.std.proofs.lemmas.List.Quantifiers.{position-Some}
use Rattle.judgement.specs.Judging.{well_sorted}
use Rattle.term_grammar.specs.Syntax as syntax
use Rattle.term_grammar.specs.Syntax.{Identifier, symbol, indexed, named_sort, applied_sort, Sorts, with_sort}
use Rattle.sort_store.specs.declared.head.Head.TheVariants as head
use Rattle.sort_store.specs.Tree.{Sort, sort, SortList, no_sorts, more_sorts, sorts, NumberedSort, tree}
use Rattle.sort_store.specs.Instance.{inst, insts}
use Rattle.scope_stack.specs.declared.entry.SortEntry.{SortEntry}
use Rattle.scope_stack.specs.declared.entry.SortEntry.TheVariants as entry
use Rattle.scope_stack.specs.Levels.{found}
use Rattle.std.specs.Prelude.{Vec}
use Rattle.std.specs.Global.{Global}
use Rattle.std.specs.List.{All}
use Rattle.std.specs.Result.{IfOk}
use Rattle.sort_store.specs.Interned.{IsInterned, AllInterned}
use Rattle.dt_rules.specs.declared.error.TyError.{TyError}
use Rattle.typer.specs.declared.world.World.{World}
use Rattle.typer.specs.Answers.{Answers, tree_answer, trees_answer}
use Rattle.typer.specs.Declarations.{sort_declaration, declarations_of}
use Rattle.typer.specs.Ready.{IsReady, IsReadySchema, IsReadySort, IsReadyHead, IsReadyTree, AreReadyTrees}
use Rattle.typer.specs.SortSymbols.{Meaning, symbol_of, definition_of, declared_symbol, or_else, meaning}
use Rattle.typer.specs.SortRules.{judge_meaning}
use Rattle.typer.proofs.DeclarationsByTrees.{sort_found}
use Rattle.typer.proofs.LiveDeclarations.{Each, all_of_each}
use Rattle.typer.proofs.NameSteps.{sort_kept}
use Rattle.typer.proofs.SortSteps.{sort_in, sorts_in, identifier_in, OthersStay}

module _ (texts : List (List ℕ)) (params : ℕ) where
  -- each of some arguments may stand there
  abbrev pub AreReady : List Sort → Type 0
  AreReady ts = AreReadyTrees texts params (sorts ts)

  ready_at : (args : List Sort) (i : ℕ) (other : Sort) → AreReady args → i < length args → IsReadyTree texts params (slice_index_or args i other)
  ready_at [] i other r l = absurd (omega (arith, l))
  ready_at (t ∷ ts) zero other r l = r.0
  ready_at (t ∷ ts) (suc i) other r l = ready_at ts i other r.1 (omega (arith, l))

  mutual
    inst_ready : (args : List Sort) (t : Sort) → AreReady args → IsReadyTree texts (length args) t → IsReadyTree texts params (inst args t)
    inst_ready args (sort (head.Param i) ts) a r = ready_at args i _ a r.0
    inst_ready args (sort head.Bool ts) a r = (tt, insts_ready args ts a r.1)
    inst_ready args (sort head.Int ts) a r = (tt, insts_ready args ts a r.1)
    inst_ready args (sort head.Array ts) a r = (tt, insts_ready args ts a r.1)
    inst_ready args (sort (head.BitVec m) ts) a r = (tt, insts_ready args ts a r.1)
    inst_ready args (sort (head.Free number name) ts) a r = (r.0, insts_ready args ts a r.1)
    inst_ready args (sort (head.Data number name) ts) a r = (r.0, insts_ready args ts a r.1)

    insts_ready : (args : List Sort) (ts : SortList) → AreReady args → AreReadyTrees texts (length args) ts → AreReadyTrees texts params (insts args ts)
    insts_ready args no_sorts a r = tt
    insts_ready args (more_sorts t ts) a r = (inst_ready args t a r.0, insts_ready args ts a r.1)

  -- what a symbol stands for has names of the table
  abbrev IsReadyMeaning : Meaning → Type 0
  IsReadyMeaning (symbol_of h arity) = IsReadyHead texts params h
  IsReadyMeaning (definition_of arity body) = IsReadyTree texts arity body

  abbrev IsReadyOption : Option Meaning → Type 0
  IsReadyOption None = Unit {0}
  IsReadyOption (Some m) = IsReadyMeaning m

  ready_or_else : (a b : Option Meaning) → IsReadyOption a → IsReadyOption b → IsReadyOption (or_else a b)
  ready_or_else (Some m) b r s = r
  ready_or_else None b r s = s

  theory_ready : (a b c : Bool)
      → IsReadyOption (if a then Some (symbol_of head.Bool 0) else if b then Some (symbol_of head.Int 0) else if c then Some (symbol_of head.Array 2) else None)
  theory_ready true b c = tt
  theory_ready false true c = tt
  theory_ready false false true = tt
  theory_ready false false false = tt

module _ (world : World) (params : List ℕ) (ready : IsReady world) where
  parameter_ready : (o : Option ℕ) (name : ℕ) → position (λ p. p == name) params ≡ o → IsReadyOption world.names (length params) (option_map (λ i. symbol_of (head.Param i) 0) o)
  parameter_ready None name e = tt
  parameter_ready (Some i) name e = (position-Some (λ p. p == name) params i 0 e).0

  entry_ready : (name : ℕ) (d : SortEntry) → IsReadySort world.names world.theories world.sorts (name, d) → IsReadyMeaning world.names (length params) (declared_symbol name (sort_declaration d))
  entry_ready name (entry.Free number arity) r = r.name
  entry_ready name (entry.Data number arity) r = r.name
  entry_ready name (entry.Defined count body) r = r.entry.ready

  live_ready : (o : Option SortEntry) (name : ℕ) → found name world.scopes.sorts ≡ o → IsReadyOption world.names (length params) (option_map (declared_symbol name) (option_map sort_declaration o))
  live_ready None name e = tt
  live_ready (Some d) name e = entry_ready name d (sort_kept world name d ready e)

  meaning_ready : (name : ℕ) → IsReadyOption world.names (length params) (meaning world.names (declarations_of world.scopes) world.theories params name)
  meaning_ready name =
      ready_or_else _ _ _ _ (parameter_ready (position (λ p. p == name) params) name refl)
      (ready_or_else _ _ _ _ (theory_ready world.names (length params) _ _ _)
      (subst (λ o. IsReadyOption world.names (length params) (option_map (declared_symbol name) o)) (sym (sort_found name world.scopes)) (live_ready (found name world.scopes.sorts) name refl)))

  applied_ready : (m : Meaning) (at : ℕ) (args : List Sort) (t : Sort) (before after : List ℕ) → IsReadyMeaning world.names (length params) m → AreReady world.names (length params) args
      → judge_meaning world.names params at args m before (well_sorted t after) → IsReadyTree world.names (length params) t
  applied_ready (symbol_of h arity) at args t before after r a (x, s, count, (y, s', small, (e, f))) = subst (IsReadyTree world.names (length params)) (sym e) (r, a)
  applied_ready (definition_of arity body) at args t before after r a (x, s, count, (y, s', small, (z, s'', free, (e, f)))) =
      subst (IsReadyTree world.names (length params)) (sym e) (inst_ready world.names (length params) args body a (subst (λ n. IsReadyTree world.names n body) (sym count.0) r))

  identifier_ready : (i : Identifier) (at : ℕ) (args : List Sort) (t : Sort) (before after : List ℕ) → AreReady world.names (length params) args
      → identifier_in world params at args i before (well_sorted t after) → IsReadyTree world.names (length params) t
  identifier_ready (symbol tok) at args t before after a (m, s, (e, f), h) =
      applied_ready m at args t s after (subst (IsReadyOption world.names (length params)) e (meaning_ready tok.name)) a h
  identifier_ready (indexed _ tok is) at args t before after a (x, s, bits, (y, s', alone, (i, s'', one, (z, s3, small, (w, s4, positive, (e, f)))))) =
      subst (IsReadyTree world.names (length params)) (sym e) (tt, tt)

  mutual
    -- the result may stand in a declaration with these parameters
    pub sort_ready : (raw : syntax.Sort) (t : Sort) (before after : List ℕ) → sort_in world params raw before (well_sorted t after) → IsReadyTree world.names (length params) t
    sort_ready (named_sort i) t before after h = identifier_ready i _ [] t before after tt h
    sort_ready (applied_sort at i ss) t before after (args, s, j, h) = identifier_ready i at args t s after (sorts_ready ss args before s j) h

    pub sorts_ready : (ss : Sorts) (ts : List Sort) (before after : List ℕ) → sorts_in world params ss before (well_sorted ts after) → AreReady world.names (length params) ts
    sorts_ready syntax.no_sorts ts before after (e, f) = subst (AreReady world.names (length params)) (sym e) tt
    sorts_ready (with_sort raw ss) ts before after (t, s, j, (us, s', k, (e, f))) =
        subst (AreReady world.names (length params)) (sym e) (sort_ready raw t before s j, sorts_ready ss us s s' k)

-- the same of an answer, in the world after the call
pub schema_of : (old new : World) (params : List ℕ) (raw : syntax.Sort) (r : Result NumberedSort TyError) → IsReady old → OthersStay old new
    → Answers (tree_answer r) (sort_in old params raw) → IfOk r (λ s. IsInterned new.sorts s) → IfOk r (λ s. IsReadySchema new.names new.sorts (length params) s)
schema_of old new params raw (Ok s) ready others h i =
    record { interned = i; ready = subst (λ w. IsReadyTree w.names (length params) (tree s)) (sym others) (sort_ready old params ready raw (tree s) [] [] (h [])) }
schema_of old new params raw (Err e) ready others h i = tt

each_schema : (texts : List (List ℕ)) (store : List Sort) (params : ℕ) (rs : List NumberedSort) → AllInterned store rs → AreReady texts params (map tree rs) → Each (IsReadySchema texts store params) rs
each_schema texts store params [] i r = tt
each_schema texts store params (s ∷ rs) i r = (record { interned = i.0; ready = r.0 }, each_schema texts store params rs i.1 r.1)

-- .. and of each of some sorts
pub schemas_of : (old new : World) (params : List ℕ) (raws : Sorts) (r : Result (Vec NumberedSort Global) TyError) → IsReady old → OthersStay old new
    → Answers (trees_answer r) (sorts_in old params raws) → IfOk r (λ v. AllInterned new.sorts v.items) → IfOk r (λ v. All (IsReadySchema new.names new.sorts (length params)) v.items)
schemas_of old new params raws (Ok v) ready others h i =
    all_of_each (IsReadySchema new.names new.sorts (length params)) v.items (each_schema new.names new.sorts (length params) v.items i
    (subst (λ w. AreReady w.names (length params) (map tree v.items)) (sym others) (sorts_ready old params ready raws (map tree v.items) [] [] (h []))))
schemas_of old new params raws (Err e) ready others h i = tt
