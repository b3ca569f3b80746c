-- What a raw sort is well sorted with is sound where the live sort symbols are.
use Rattle.std.proofs.Common.{◌≡◌, ℕ, ◌==◌, Bool, true, false, if◌then◌else◌, List, [], length, Option, Some, None, refl, sym, subst, ◌∙◌}
use Rattle.std.specs.Option.{option_map}
use Rattle.std.specs.List.{All, position}
use Rattle.std.proofs.lemmas.List.Quantifiers.{position-Some}
use Rattle.sig_table.specs.declared.theories.Theories.{Theories}
use Rattle.judgement.specs.Judging.{well_sorted}
use Rattle.term_grammar.specs.Syntax as syntax
use Rattle.term_grammar.specs.Syntax.{Identifier, symbol, indexed, named_sort, applied_sort, Sorts, with_sort}
use Rattle.sort_store.specs.declared.head.Head.TheVariants as head
use Rattle.sort_store.specs.Tree.{Sort}
use Rattle.scope_stack.specs.Levels.{found, live}
use Rattle.term_store.specs.Declarations.{Declaration}
use Rattle.term_store.specs.SoundTerms.{IsSoundHead, IsSoundSort}
use Rattle.typer.specs.Declarations.{Declarations, SortDeclaration, free_sort, data_sort, defined_sort}
use Rattle.typer.specs.SortSymbols.{Meaning, symbol_of, definition_of, declared_symbol, or_else, meaning}
use Rattle.typer.specs.SortRules.{judge_meaning, judge_identifier, judge_sort, judge_sorts}
use Rattle.typer.specs.Soundness.{IsSoundSortSymbol, HasSoundSorts}
use Rattle.typer.proofs.NameSteps.{lookup_all}
use Rattle.typer.proofs.SoundInstances.{count_of_sorts, AreSound, all_sound, instance_sound}

module _ (script : List Declaration) (params : ℕ) where
  -- what a symbol stands for makes a sound sort of sound arguments
  abbrev IsSoundMeaning : Meaning → Type 0
  IsSoundMeaning (symbol_of h arity) = IsSoundHead script params h arity
  IsSoundMeaning (definition_of arity body) = IsSoundSort script arity body

  abbrev IsSoundOption : Option Meaning → Type 0
  IsSoundOption None = Unit {0}
  IsSoundOption (Some m) = IsSoundMeaning m

  sound_or_else : (a b : Option Meaning) → IsSoundOption a → IsSoundOption b → IsSoundOption (or_else a b)
  sound_or_else (Some m) b r s = r
  sound_or_else None b r s = s

  theory_sound : (a b c : Bool)
      → IsSoundOption (if a then Some (symbol_of head.Bool 0) else if b then Some (symbol_of head.Int 0) else if c then Some (symbol_of head.Array 2) else None)
  theory_sound true b c = tt
  theory_sound false true c = tt
  theory_sound false false true = tt
  theory_sound false false false = tt

  symbol_sound : (name : ℕ) (d : SortDeclaration) → IsSoundSortSymbol script d → IsSoundMeaning (declared_symbol name d)
  symbol_sound name (free_sort number arity) s = tt
  symbol_sound name (data_sort number arity) s = s
  symbol_sound name (defined_sort count body) s = s

module _ (script : List Declaration) (texts : List (List ℕ)) (declarations : Declarations) (theories : Theories) (params : List ℕ) (live_sorts : HasSoundSorts script declarations) where
  parameter_sound : (o : Option ℕ) (name : ℕ) → position (λ p. p == name) params ≡ o → IsSoundOption script (length params) (option_map (λ i. symbol_of (head.Param i) 0) o)
  parameter_sound None name e = tt
  parameter_sound (Some i) name e = (position-Some (λ p. p == name) params i 0 e).0

  live_sound : (o : Option SortDeclaration) (name : ℕ) → found name declarations.sorts ≡ o → IsSoundOption script (length params) (option_map (declared_symbol name) o)
  live_sound None name e = tt
  live_sound (Some d) name e = symbol_sound script (length params) name d (lookup_all (λ (d : ℕ × SortDeclaration). IsSoundSortSymbol script d.1) name (live declarations.sorts) d live_sorts e)

  meaning_sound : (name : ℕ) → IsSoundOption script (length params) (meaning texts declarations theories params name)
  meaning_sound name =
      sound_or_else _ _ _ _ (parameter_sound (position (λ p. p == name) params) name refl)
      (sound_or_else _ _ _ _ (theory_sound script (length params) _ _ _) (live_sound (found name declarations.sorts) name refl))

  applied_sound : (m : Meaning) (at : ℕ) (args : List Sort) (t : Sort) (before after : List ℕ) → IsSoundMeaning script (length params) m → AreSound script (length params) args
      → judge_meaning texts params at args m before (well_sorted t after) → IsSoundSort script (length params) t
  applied_sound (symbol_of h arity) at args t before after r a (x, s, count, (y, s', small, (e, f))) =
      subst (IsSoundSort script (length params)) (sym e) (subst (IsSoundHead script (length params) h) (sym (count_of_sorts args ∙ count.0)) r, a)
  applied_sound (definition_of arity body) at args t before after r a (x, s, count, (y, s', small, (z, s'', free, (e, f)))) =
      subst (IsSoundSort script (length params)) (sym e) (instance_sound script (length params) args body a (subst (λ n. IsSoundSort script n body) (sym count.0) r))

  identifier_sound : (i : Identifier) (at : ℕ) (args : List Sort) (t : Sort) (before after : List ℕ) → AreSound script (length params) args
      → judge_identifier texts declarations theories params at args i before (well_sorted t after) → IsSoundSort script (length params) t
  identifier_sound (symbol tok) at args t before after a (m, s, (e, f), h) =
      applied_sound m at args t s after (subst (IsSoundOption script (length params)) e (meaning_sound tok.name)) a h
  identifier_sound (indexed _ tok is) at args t before after a (x, s, bits, (y, s', alone, (i, s'', one, (z, s3, small, (w, s4, positive, (e, f)))))) =
      subst (IsSoundSort script (length params)) (sym e) (tt, tt)

  mutual
    pub sound_sort : (raw : syntax.Sort) (t : Sort) (before after : List ℕ) → judge_sort texts declarations theories params raw before (well_sorted t after) → IsSoundSort script (length params) t
    sound_sort (named_sort i) t before after h = identifier_sound i _ [] t before after tt h
    sound_sort (applied_sort at i ss) t before after (args, s, j, h) = identifier_sound i at args t s after (each_sound ss args before s j) h

    each_sound : (ss : Sorts) (ts : List Sort) (before after : List ℕ) → judge_sorts texts declarations theories params ss before (well_sorted ts after) → AreSound script (length params) ts
    each_sound syntax.no_sorts ts before after (e, f) = subst (AreSound script (length params)) (sym e) tt
    each_sound (with_sort raw ss) ts before after (t, s, j, (us, s', k, (e, f))) =
        subst (AreSound script (length params)) (sym e) (sound_sort raw t before s j, each_sound ss us s s' k)

  pub sound_sorts : (ss : Sorts) (ts : List Sort) (before after : List ℕ) → judge_sorts texts declarations theories params ss before (well_sorted ts after) → All (IsSoundSort script (length params)) ts
  sound_sorts ss ts before after h = all_sound script (length params) ts (each_sound ss ts before after h)
