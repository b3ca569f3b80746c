-- Sort symbols that are live one after the other, from what the calls answer.
use Rattle.std.proofs.Common.{◌≡◌, ℕ, ◌+◌, ◌<◌, false, List, [], ◌∷◌, ◌++◌, length, Option, Some, None, Ok, Err, refl, ap, sym, ◌∙◌, subst}
use Rattle.judgement.specs.Judging.{Judging, well_sorted}
use Rattle.scope_stack.specs.declared.entry.SortEntry.{SortEntry}
use Rattle.scope_stack.specs.Environment.{Environment}
use Rattle.scope_stack.specs.Environment as scopes
use Rattle.cmd_grammar.specs.Commands.{SortDec}
use Rattle.cmd_grammar.specs.DeclarationViews.{sort_dec_seen}
use Rattle.cmd_grammar.specs.TreeLists.{SplitsBy}
use Rattle.cmd_grammar.specs.declared.sort_dec.RawSortDec.{RawSortDec}
use Rattle.dt_rules.specs.Answers.{Answers}
use Rattle.dt_rules.specs.declared.error.TyError.{TyError}
use Rattle.typer.specs.Declarations.{Declarations, declarations_of, sort_declaration, with_sort}
use Rattle.typer.specs.FunctionSymbols.{Signature, signature_of}
use Rattle.typer.specs.Ready.{IsReady, IsReadySortEntry}
use Rattle.typer.specs.SortSymbols.{is_theory_sort}
use Rattle.typer.specs.declared.world.World.{World}
use Rattle.typer.proofs.DeclarationsByTrees.{sort_by_trees}
use Rattle.typer.proofs.ListSteps.{Begins, Leads, onward_all}
use Rattle.typer.proofs.ReadyCalls.{ready_with_sort}
use Rattle.datatype_commands.specs.Answers.{HaveNames, OnlyScopesChange, sort_decs_left}
use Rattle.datatype_commands.specs.GroupRules.{judge_symbol, judge_symbols, under_symbol, with_symbol, with_symbols}
use Rattle.datatype_commands.specs.declared.symbols.DatatypeSymbol.{DatatypeSymbol}
use Rattle.datatype_commands.proofs.TakingLists.{Onward, answers_end, answers_fault, answers_on}

pub sort_added : (name : ℕ) (d : SortEntry) (old s : Environment) → s ≡ scopes.with_sort name d old → declarations_of s ≡ with_sort name (sort_declaration d) (declarations_of old)
sort_added name d old s e = ap declarations_of e ∙ sort_by_trees name d old

pub sort_ready : (world : World) (name : ℕ) (d : SortEntry) (s : Environment) → IsReady world → s ≡ scopes.with_sort name d world.scopes → name < length world.names → is_theory_sort world.names world.theories name ≡ false
    → IsReadySortEntry world.names world.sorts d → IsReady (record world { scopes = s })
sort_ready world name d s ready e named free entry =
    subst (λ (x : Environment). IsReady (record world { scopes = x })) (sym e) (ready_with_sort world ready name d (record { name = named; no_theory_sort = free; entry = entry }))

pub sort_decs_split : (ds : List SortDec) (o : Option (RawSortDec × List SortDec)) → SplitsBy sort_dec_seen ds o → sort_decs_left o ≡ ds
sort_decs_split ds None e = sym e
sort_decs_split ds (Some p) e = sym e

-- one more symbol is live
more_symbols : (d : Declarations) (ss : List DatatypeSymbol) (s : DatatypeSymbol) → with_symbols d (ss ++ s ∷ []) ≡ with_symbol (with_symbols d ss) s
more_symbols d [] s = refl
more_symbols d (x ∷ ss) s = more_symbols (with_symbol d x) ss s

pub symbols_live : (old here new : Declarations) (ss made : List DatatypeSymbol) (s : DatatypeSymbol) → here ≡ with_symbols old ss → new ≡ with_symbol here s → made ≡ ss ++ s ∷ [] → new ≡ with_symbols old made
symbols_live old here new ss made s e put more = put ∙ (ap (λ d. with_symbol d s) e ∙ (sym (more_symbols old ss s) ∙ ap (with_symbols old) (sym more)))

pub scopes_more : (old mid new : World) → OnlyScopesChange old mid → OnlyScopesChange mid new → OnlyScopesChange old new
scopes_more old mid new e f = f ∙ ap (λ (w : World). record w { scopes = new.scopes }) e

pub same_names : (old new : World) → OnlyScopesChange old new → new.names ≡ old.names
same_names old new e = ap (λ (w : World). w.names) e

live_signature : (old new : World) (s : DatatypeSymbol) → OnlyScopesChange old new → declarations_of new.scopes ≡ with_symbol (declarations_of old.scopes) s → signature_of new ≡ under_symbol (signature_of old) s
live_signature old new s others effect = ap signature_of others ∙ ap (λ (d : Declarations). record (signature_of old) { declarations = d }) effect

-- no symbol is judged yet, and all are
pub no_symbols_yet : (S : Signature) (first : ℕ) (raws left : List SortDec) (made : List DatatypeSymbol) → left ≡ raws → made ≡ [] → Onward (judge_symbols S first raws) (judge_symbols S first left) made
no_symbols_yet S first raws left made e none before =
    subst (λ (rs : List DatatypeSymbol). Leads (judge_symbols S first raws) (judge_symbols S first left) rs before before) (sym none) (onward_all (judge_symbols S first) raws left before e)

pub symbols_taken : (whole : Judging (List DatatypeSymbol)) (S : Signature) (number : ℕ) (left : List SortDec) (made : List DatatypeSymbol) → left ≡ [] → Onward whole (judge_symbols S number left) made → Answers (Ok made) whole
symbols_taken whole S number left made empty onward =
    answers_end whole (judge_symbols S number left) made (λ before. subst (λ z. judge_symbols S number z before (well_sorted [] before)) (sym empty) (refl, refl)) onward

module _ (whole : Judging (List DatatypeSymbol)) (here : World) (number : ℕ) (left rest : List SortDec) (raw : SortDec) (made : List DatatypeSymbol) (shown : left ≡ raw ∷ rest) (onward : Onward whole (judge_symbols (signature_of here) number left) made) where
  begins : Begins (judge_symbols (signature_of here) number left) (judge_symbol (signature_of here) number raw) (λ s. judge_symbols (under_symbol (signature_of here) s) (number + 1) rest)
  begins before o h = subst (λ z. judge_symbols (signature_of here) number z before o) (sym shown) h

  pub symbol_broken : (e : TyError) → Answers {A = DatatypeSymbol} (Err e) (judge_symbol (signature_of here) number raw) → Answers {A = List DatatypeSymbol} (Err e) whole
  symbol_broken e h = answers_fault whole (judge_symbols (signature_of here) number left) (judge_symbol (signature_of here) number raw) (λ s. judge_symbols (under_symbol (signature_of here) s) (number + 1) rest) made begins onward e h

  pub symbol_taken : (new : World) (s : DatatypeSymbol) (more : List DatatypeSymbol) (later : ℕ) (after : List SortDec) → Answers (Ok s) (judge_symbol (signature_of here) number raw) → OnlyScopesChange here new
      → declarations_of new.scopes ≡ with_symbol (declarations_of here.scopes) s → more ≡ made ++ s ∷ [] → later ≡ number + 1 → after ≡ rest → Onward whole (judge_symbols (signature_of new) later after) more
  symbol_taken new s more later after h others effect put number_is next before =
      subst (λ (S : Signature). Leads whole (judge_symbols S later after) more before before) (sym (live_signature here new s others effect))
      (subst (λ (n : ℕ). Leads whole (judge_symbols (under_symbol (signature_of here) s) n after) more before before) (sym number_is)
      (subst (λ (z : List SortDec). Leads whole (judge_symbols (under_symbol (signature_of here) s) (number + 1) z) more before before) (sym next)
      (subst (λ (ss : List DatatypeSymbol). Leads whole (judge_symbols (under_symbol (signature_of here) s) (number + 1) rest) ss before before) (sym put)
      (answers_on whole (judge_symbols (signature_of here) number left) (judge_symbol (signature_of here) number raw) (λ s. judge_symbols (under_symbol (signature_of here) s) (number + 1) rest) made begins onward s h before))))

  -- the names of those that are left
  pub names_left : (texts later : List (List ℕ)) (after : List SortDec) → later ≡ texts → after ≡ rest → HaveNames texts left → HaveNames later after
  names_left texts later after same next named =
      subst (λ (ns : List (List ℕ)). HaveNames ns after) (sym same) (subst (HaveNames texts) (sym next) ((subst (HaveNames texts) shown named).1))
