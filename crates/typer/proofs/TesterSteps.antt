-- What the code finds of a tester.
use Rattle.std.proofs.Common.{◌≡◌, ℕ, Bool, if◌then◌else◌, List, [], ◌∷◌, Option, Some, None, Ok, Err, ap, inl, inr, refl, sym, ◌∙◌, subst}
use Rattle.std.specs.Option.{IfSome, option_map}
use Rattle.lex_core.specs.declared.token.Tok.{Tok}
use Rattle.sig_table.specs.declared.code.Code.TheVariants.{WrongIndex}
use Rattle.sort_store.specs.CoreRanks.{bool}
use Rattle.sort_store.specs.Instance.{ParamsBelow}
use Rattle.sort_store.specs.Interned.{AllInterned, Grows, IsInterned}
use Rattle.sort_store.specs.Tree.{NumberedSort, Sort, nodes, tree, trees}
use Rattle.sort_store.specs.Instance.{EachParamsBelow}
use Rattle.sort_store.proofs.GrownStores.{interned_grown}
use Rattle.scope_stack.specs.declared.entry.FunEntry.{FunEntry}
use Rattle.scope_stack.specs.Levels.{found}
use Rattle.term_store.specs.declared.parts.Applied.{Applied}
use Rattle.dt_rules.specs.declared.error.TyError.{TyError}
use Rattle.dt_rules.specs.declared.error.TyError.TheVariants as error
use Rattle.typer.specs.declared.head.TypedHead.{TypedHead}
use Rattle.typer.specs.declared.world.World.{World}
use Rattle.typer.specs.Answers.{Answers, fault_at, head_answer}
use Rattle.typer.specs.Declarations.{FunDeclaration, fun_declaration}
use Rattle.typer.specs.FunctionSymbols.{Signature, constructor_at, if_constructor, is_constructor, only_symbol, signature_of, tested, tester_of}
use Rattle.typer.specs.LiveRanks.{IsReadyEntry, judge_live}
use Rattle.typer.specs.TermRules.{applied_tester, judge_tester}
use Rattle.typer.proofs.DeclarationsByTrees.{fun_found}

abbrev pub Head : Type 0
Head = Applied × Sort

-- a tester of a declaration that is ready
pub tester_ready : (store larger : List Sort) (f tester : FunEntry) → tester.params ≡ f.params → tester.args ≡ f.result ∷ [] → tree tester.result ≡ bool → IsReadyEntry store f → Grows store larger → IsInterned larger tester.result → IsReadyEntry larger tester
tester_ready store larger f tester params args result ready grows its = record {
  args = subst (AllInterned larger) (sym args) (interned_grown store larger f.result grows ready.result, tt);
  result = its;
  below = λ n. (
    subst (λ rs. EachParamsBelow tester.params (trees (nodes rs))) (sym args) (subst (λ k. ParamsBelow k (tree f.result)) (sym params) (ready.below (λ z. n (params ∙ z))).1, tt),
    subst (ParamsBelow tester.params) (sym result) (tt, tt),
  );
}

pub some_interned_grown : (store larger : List Sort) (o : Option NumberedSort) → Grows store larger → IfSome o (IsInterned store) → IfSome o (IsInterned larger)
some_interned_grown store larger (Some r) grows h = interned_grown store larger r grows h
some_interned_grown store larger None grows h = h

-- what the index of a tester stands for
module _ (world : World) (is : List Tok) where
  pub no_index : only_symbol is ≡ None → tested (signature_of world) is ≡ None
  no_index e = ap (constructor_at (signature_of world)) e

  module _ (i : Tok) (alone : only_symbol is ≡ Some i) where
    by_name : tested (signature_of world) is ≡ if_constructor i.name (found i.name (signature_of world).declarations.funs)
    by_name = ap (constructor_at (signature_of world)) alone

    by_entry : (o : Option FunEntry) → found i.name world.scopes.funs ≡ o → tested (signature_of world) is ≡ if_constructor i.name (option_map fun_declaration o)
    by_entry o e = by_name ∙ ap (if_constructor i.name) (fun_found i.name world.scopes ∙ ap (option_map fun_declaration) e)

    pub not_live : found i.name world.scopes.funs ≡ None → tested (signature_of world) is ≡ None
    not_live e = by_entry None e

    pub live_function : (f : FunEntry) (b : Bool) → found i.name world.scopes.funs ≡ Some f → is_constructor f.kind ≡ b → tested (signature_of world) is ≡ (if b then Some (i.name, fun_declaration f) else None)
    live_function f b e k = by_entry (Some f) e ∙ ap (λ z. if z then Some (i.name, fun_declaration f) else None) k

module _ (signature : Signature) (at : ℕ) (args : List Sort) (asked : Option Sort) (is : List Tok) where
  pub no_constructor : (e : TyError) → tested signature is ≡ None → e ≡ fault_at WrongIndex at → Answers {A = Head} (Err e) (judge_tester signature at args asked is)
  no_constructor e none same = subst (λ z. Answers {A = Head} (Err z) (judge_tester signature at args asked is)) (sym same) (λ before. inl ((λ c f. cc), refl))

  module _ (c : ℕ × FunDeclaration) (its : tested signature is ≡ Some c) where
    pub tester_fails : (e : TyError) → Answers {A = Sort} (Err e) (judge_live (tester_of c.1) at args asked) → Answers {A = Head} (Err e) (judge_tester signature at args asked is)
    tester_fails (error.Fault place) h = λ before. inr (c, before, (its, refl), inl (h before))
    tester_fails error.NoMemory h = tt

    pub tester_is : (h : TypedHead) (s : NumberedSort) → h.applied ≡ applied_tester c.0 c.1 → h.sort ≡ s → Answers (Ok (tree s)) (judge_live (tester_of c.1) at args asked) → Answers (head_answer (Ok h)) (judge_tester signature at args asked is)
    tester_is h s symbol same k = λ before. (c, before, (its, refl), (tree s, before, k before, (ap (λ (z : Applied). (z, tree h.sort)) symbol ∙ ap (λ z. (applied_tester c.0 c.1, tree z)) same, refl)))
