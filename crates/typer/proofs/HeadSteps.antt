-- What a symbol stands for, and what the outcome of its rank says of it.
use Rattle.std.proofs.Common.{◌≡◌, ℕ, zero, suc, arith, Bool, true, false, if◌then◌else◌, not, IsTrue, List, [], ◌∷◌, ◌++◌, map, Option, Some, None, Result, Ok, Err, refl, ap, ◌∙◌, inl, inr, subst, sym, codes}
use Rattle.std.proofs.lemmas.Bool.{cases_Bool}
use Rattle.std.specs.Str.{bytes_eq}
use Rattle.std.specs.Option.{option_map}
use Rattle.std.specs.Result.{IfErr, IfOk}
use Rattle.sig_table.specs.declared.code.Code.TheVariants.{UnknownFunction, WrongIndex}
use Rattle.lex_core.specs.declared.token.Tok.{Tok}
use Rattle.sig_table.specs.declared.theories.NameForm.{NameForm}
use Rattle.term_grammar.specs.Words.{is_numeral}
use Rattle.sort_store.specs.Tree.{Sort, NumberedSort, tree}
use Rattle.scope_stack.specs.declared.entry.FunEntry.{FunEntry}
use Rattle.scope_stack.specs.Levels.{found}
use Rattle.theory_core.specs.TheorySymbols.{form_of}
use Rattle.term_store.specs.declared.parts.Applied.{Applied}
use Rattle.dt_rules.specs.declared.error.TyError.{TyError}
use Rattle.dt_rules.specs.declared.error.TyError.TheVariants as error
use Rattle.typer.specs.declared.head.TypedHead.{TypedHead}
use Rattle.typer.specs.declared.world.World.{World}
use Rattle.typer.specs.Answers.{Answers, fault_at, head_answer}
use Rattle.typer.specs.Declarations.{fun_declaration}
use Rattle.typer.specs.BitVectors.{bits_form, index_of}
use Rattle.typer.specs.FunctionSymbols.{Signature, Function, theory, bits, declared, function_of, indexed_function, if_plain, if_indexed, judge_result, signature_of, text_of}
use Rattle.judgement.specs.Judging.{Judging}
use Rattle.typer.specs.SortRules.{only_numeral}
use Rattle.typer.specs.SortSymbols.{or_else}
use Rattle.typer.specs.TermRules.{HasDivisor, TakesIndices, applied, judge_function, judge_head, judge_indexed_function, judge_indexed_theory}
use Rattle.std.specs.List.{All}
use Rattle.sort_store.specs.Tree.{nodes, trees}
use Rattle.sort_store.specs.Instance.{EachParamsBelow}
use Rattle.sort_store.specs.Interned.{AllInterned}
use Rattle.typer.specs.LiveRanks.{IsReadyEntry}
use Rattle.typer.specs.Ready.{IsReady, IsReadySchema}
use Rattle.typer.proofs.NameSteps.{fun_kept, params_below}
use Rattle.typer.proofs.DeclarationsByTrees.{fun_found}

abbrev pub Head : Type 0
Head = Applied × Sort

-- the outcome of the rank, with the symbol put in
module _ (signature : Signature) (f : Function) (at : ℕ) (args : List Sort) (asked : Option Sort) (name : ℕ) (indices : List ℕ) where
  abbrev Rank : Result Sort TyError → Type 0
  Rank r = Answers r (judge_result signature.theories f at args asked)

  pub with_symbol : (t : Sort) (h : Head) → Rank (Ok t) → h ≡ (applied f name indices, t) → Answers (Ok h) (judge_function signature f at args asked name indices)
  with_symbol t h k e before = (t, before, k before, (e, refl))

  pub without_symbol : (e : TyError) → Rank (Err e) → Answers {A = Head} (Err e) (judge_function signature f at args asked name indices)
  without_symbol (error.Fault place) k = λ before. inl (k before)
  without_symbol error.NoMemory k = tt

-- what the code's test of a form says of the text that has it
module _ (if_written : Option NameForm → Function → Option Function) (forms : List ℕ → Option NameForm) (text its : List ℕ) (same : text ≡ its) (o : Option NameForm) (stands : o ≡ forms text)
    (b : Bool) (tells : (f : Function) → (if b then Some f else None) ≡ if_written o f) where
  written : (f : Function) → if_written (forms its) f ≡ (if b then Some f else None)
  written f = ap (λ z. if_written (forms z) f) (sym same) ∙ ap (λ z. if_written z f) (sym stands) ∙ sym (tells f)

  pub is_written : (f : Function) → b ≡ true → if_written (forms its) f ≡ Some f
  is_written f t = written f ∙ ap (λ z. if z then Some f else None) t

  pub not_written : (f : Function) → b ≡ false → if_written (forms its) f ≡ None
  not_written f t = written f ∙ ap (λ z. if z then Some f else None) t

module _ (world : World) (name : ℕ) where
  abbrev S : Signature
  S = signature_of world

  abbrev of_scopes : Option Function
  of_scopes = option_map declared (found name S.declarations.funs)

  abbrev text : List ℕ
  text = text_of S name

  -- the symbol by the two tests of its form
  abbrev plain_theory : Option Function
  plain_theory = if_plain (form_of S.theories text) (theory text)

  abbrev plain_bits : Option Function
  plain_bits = if_plain (bits_form S.theories text) (bits text [])

  pub theory_means : plain_theory ≡ Some (theory text) → function_of S name ≡ Some (theory text)
  theory_means e = ap (λ o. or_else (or_else o plain_bits) of_scopes) e

  pub bits_means : plain_theory ≡ None → plain_bits ≡ Some (bits text []) → function_of S name ≡ Some (bits text [])
  bits_means e g = ap (λ o. or_else (or_else o plain_bits) of_scopes) e ∙ ap (λ o. or_else o of_scopes) g

  pub live_means : (o : Option FunEntry) → plain_theory ≡ None → plain_bits ≡ None → found name world.scopes.funs ≡ o → function_of S name ≡ option_map declared (option_map fun_declaration o)
  live_means o e g f =
      ap (λ o. or_else (or_else o plain_bits) of_scopes) e ∙ ap (λ o. or_else o of_scopes) g
      ∙ ap (option_map declared) (fun_found name world.scopes ∙ ap (option_map fun_declaration) f)

  module _ (at : ℕ) (args : List Sort) (asked : Option Sort) where
    pub symbol_step : (f : Function) (r : Result Head TyError) → function_of S name ≡ Some f → Answers r (judge_function S f at args asked name []) → Answers r (judge_head S at args asked name)
    symbol_step f (Ok t) e h = λ before. (f, before, (e, refl), h before)
    symbol_step f (Err (error.Fault place)) e h = λ before. inr (f, before, (e, refl), h before)
    symbol_step f (Err error.NoMemory) e h = tt

    pub symbol_unknown : (e : TyError) → function_of S name ≡ None → e ≡ fault_at UnknownFunction at → Answers {A = Head} (Err e) (judge_head S at args asked name)
    symbol_unknown e n same = subst (λ z. Answers {A = Head} (Err z) (judge_head S at args asked name)) (sym same) (λ before. inl (never, refl))
      where
        never : (f : Function) → function_of S name ≡ Some f → ⊥
        never f g = cc

    module _ (is : List Tok) where
      -- the symbol with indices
      abbrev indexed_theory : Option Function
      indexed_theory = if_indexed (form_of S.theories text) (theory text)

      abbrev on_bits : Function
      on_bits = bits text (map (index_of S.texts) is)

      abbrev indexed_bits : Option Function
      indexed_bits = if_indexed (bits_form S.theories text) on_bits

      pub indexed_step : (f : Function) (r : Result Head TyError) → indexed_function S name is ≡ Some f → Answers r (judge_indexed_function S f at args asked name is) → Answers r (judge_indexed_theory S at args asked name is)
      indexed_step f (Ok t) e h = λ before. (f, before, (e, refl), h before)
      indexed_step f (Err (error.Fault place)) e h = λ before. inr (f, before, (e, refl), h before)
      indexed_step f (Err error.NoMemory) e h = tt

      pub indexed_unknown : (e : TyError) → indexed_theory ≡ None → indexed_bits ≡ None → e ≡ fault_at UnknownFunction at → Answers {A = Head} (Err e) (judge_indexed_theory S at args asked name is)
      indexed_unknown e n m same = subst (λ z. Answers {A = Head} (Err z) (judge_indexed_theory S at args asked name is)) (sym same) (λ before. inl (never, refl))
        where
          never : (f : Function) → indexed_function S name is ≡ Some f → ⊥
          never f g = let none : indexed_function S name is ≡ None = ap (λ o. or_else o indexed_bits) n ∙ m in cc

      pub indexed_theory_means : indexed_theory ≡ Some (theory text) → indexed_function S name is ≡ Some (theory text)
      indexed_theory_means e = ap (λ o. or_else o indexed_bits) e

      pub indexed_bits_means : indexed_theory ≡ None → indexed_bits ≡ Some on_bits → indexed_function S name is ≡ Some on_bits
      indexed_bits_means e g = ap (λ o. or_else o indexed_bits) e ∙ g

      pub wrong_indices : (f : Function) (e : TyError) → (TakesIndices S f is → ⊥) → e ≡ fault_at WrongIndex at → Answers {A = Head} (Err e) (judge_indexed_function S f at args asked name is)
      wrong_indices f e wrong same = subst (λ z. Answers {A = Head} (Err z) (judge_indexed_function S f at args asked name is)) (sym same) (λ before. inl (wrong, refl))

      pub takes_indices : (f : Function) (r : Result Head TyError) → TakesIndices S f is → Answers r (judge_function S f at args asked name (map (λ i. i.name) is)) → Answers r (judge_indexed_function S f at args asked name is)
      takes_indices f (Ok t) takes h = λ before. (tt, before, (takes, refl), h before)
      takes_indices f (Err (error.Fault place)) takes h = λ before. inr (tt, before, (takes, refl), h before)
      takes_indices f (Err error.NoMemory) takes h = tt

-- the index of `divisible`
pub alone_is : (is : List Tok) (i : Tok) → only_numeral is ≡ Some i → is ≡ i ∷ []
alone_is [] i e = cc
alone_is (t ∷ []) i e = elim (cases_Bool (is_numeral t)) [
  | inl n ↦ (let same : Some t ≡ Some i = sym (ap (λ b. if b then Some t else None) n) ∙ e in let stands : t ≡ i = cc in ap (λ z. z ∷ []) stands)
  | inr n ↦ (let none : None ≡ Some i = sym (ap (λ b. if b then Some t else None) n) ∙ e in cc)
]
alone_is (t ∷ (u ∷ us)) i e = cc

module _ (signature : Signature) (is : List Tok) where
  pub no_divisor : only_numeral is ≡ None → HasDivisor signature is → ⊥
  no_divisor n h = let e = h.alone in cc

  module _ (i : Tok) (alone : only_numeral is ≡ Some i) where
    pub zero_divisor : bytes_eq (text_of signature i.name) (codes "0") ≡ true → HasDivisor signature is → ⊥
    zero_divisor z h =
        let e = h.alone in
        let same : h.divisor ≡ i = cc in
        refuted _ (ap (λ (t : Tok). bytes_eq (text_of signature t.name) (codes "0")) same ∙ z) h.not_zero
      where
        refuted : (b : Bool) → b ≡ true → IsTrue (not b) → ⊥
        refuted true e h = cc
        refuted false e h = cc

    pub divisor : bytes_eq (text_of signature i.name) (codes "0") ≡ false → HasDivisor signature is
    divisor z = record { divisor = i; alone = alone; not_zero = by _ z }
      where
        by : (b : Bool) → b ≡ false → IsTrue (not b)
        by true e = sym e
        by false e = refl

-- a head as the code makes it
pub head_made : (h : TypedHead) (f : Function) (name : ℕ) (indices : List ℕ) (s : NumberedSort) → h.applied ≡ applied f name indices → h.sort ≡ s → ◌≡◌ {A = Head} (h.applied, tree h.sort) (applied f name indices, tree s)
head_made h f name indices s e g = ap (λ (z : Applied). (z, tree h.sort)) e ∙ ap (λ z. (applied f name indices, tree z)) g

pub fault_moved : (e : TyError) (f : TyError) (J : Judging Head) → e ≡ f → Answers {A = Head} (Err f) J → Answers {A = Head} (Err e) J
fault_moved e f J same h = subst (λ z. Answers {A = Head} (Err z) J) (sym same) h

pub schemas_interned : (texts : List (List ℕ)) (store : List Sort) (params : ℕ) (rs : List NumberedSort) → All (IsReadySchema texts store params) rs → AllInterned store rs
schemas_interned texts store params [] h = tt
schemas_interned texts store params (r ∷ rs) h = ((h zero r (omega arith)).interned, schemas_interned texts store params rs (λ k d l. h (suc k) d (omega (arith, l))))

pub schemas_below : (texts : List (List ℕ)) (store : List Sort) (params : ℕ) (rs : List NumberedSort) → All (IsReadySchema texts store params) rs → EachParamsBelow params (trees (nodes rs))
schemas_below texts store params [] h = tt
schemas_below texts store params (r ∷ rs) h = (params_below texts params (tree r) (h zero r (omega arith)).ready, schemas_below texts store params rs (λ k d l. h (suc k) d (omega (arith, l))))

-- a live declaration of a ready world may be matched with argument sorts
pub entry_ready : (world : World) (name : ℕ) (f : FunEntry) → IsReady world → found name world.scopes.funs ≡ Some f → IsReadyEntry world.sorts f
entry_ready world name f ready e = (fun_kept world name f ready e).entry

-- a symbol with its indices
pub index_head : (r : Result TypedHead TyError) (symbol : TypedHead) (f : Function) (name : ℕ) (is : List Tok) (s : NumberedSort) (signature : Signature) (at : ℕ) (args : List Sort) (asked : Option Sort)
    → IfOk r (λ h. h.applied ≡ record symbol.applied { indices = symbol.applied.indices ++ map (λ (i : Tok). i.name) is }) → IfOk r (λ h. h.sort ≡ symbol.sort) → IfErr r (λ e. e ≡ error.NoMemory) → symbol.applied ≡ applied f name []
    → symbol.sort ≡ s → Answers (Ok (tree s)) (judge_result signature.theories f at args asked) → Answers (head_answer r) (judge_function signature f at args asked name (map (λ i. i.name) is))
index_head (Ok h) symbol f name is s signature at args asked e g err made same k =
    with_symbol signature f at args asked name (map (λ i. i.name) is) (tree s) (h.applied, tree h.sort) k
    (head_made h f name (map (λ i. i.name) is) s (e ∙ ap (λ (z : Applied). record z { indices = z.indices ++ map (λ (i : Tok). i.name) is }) made) (g ∙ same))
index_head (Err e) symbol f name is s signature at args asked ok g same made sort k = subst (λ z. Answers {A = Head} (Err z) (judge_function signature f at args asked name (map (λ i. i.name) is))) (sym same) tt
