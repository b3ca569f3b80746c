-- What the outcomes of the parts of an application say of the whole.
use Rattle.std.proofs.Common.{◌≡◌, ◌==◌, ℕ, Bool, true, false, if◌then◌else◌, List, [], ◌∷◌, map, Option, Some, None, Result, Ok, Err, refl, ap, sym, ◌∙◌, inl, subst}
use Rattle.std.specs.Option.{option_map, IfSome}
use Rattle.std.specs.Result.{IfErr, IfOk}
use Rattle.judgement.specs.Judging.{Judging, well_sorted, done, ◌>>=◌}
use Rattle.lex_core.specs.declared.token.Tok.{Tok}
use Rattle.sig_table.specs.declared.code.Code.TheVariants.{AppliedVariable}
use Rattle.term_grammar.specs.Syntax as syntax
use Rattle.term_grammar.specs.Syntax.{Identifier, symbol, indexed, Qualified, Terms}
use Rattle.term_grammar.specs.declared.identifier.RawIdentifierKind.TheVariants as kind
use Rattle.term_grammar.specs.IdentifierViews.{identifier_kind}
use Rattle.sort_store.specs.Tree.{Sort, NumberedSort}
use Rattle.sort_store.specs.Tree as sort_tree
use Rattle.sort_store.specs.Interned.{IsInterned}
use Rattle.term_store.specs.NumberedNodes as numbered
use Rattle.term_store.specs.declared.parts.Applied.{Applied}
use Rattle.term_store.specs.Term.{NumberedTerm, PlainTerm, term, var, app, more_terms, tree, trees, plain_sort, plain_terms, plain_var}
use Rattle.dt_rules.specs.declared.error.TyError.{TyError}
use Rattle.dt_rules.specs.declared.error.TyError.TheVariants as error
use Rattle.typer.specs.declared.head.TypedHead.{TypedHead}
use Rattle.typer.specs.declared.typed.TypedTerm.{TypedTerm}
use Rattle.typer.specs.declared.typed.TypedTerms.{TypedTerms}
use Rattle.typer.specs.declared.world.World.{World}
use Rattle.typer.specs.Answers.{Answers, Meets, fault_at, head_answer, typed_answer}
use Rattle.typer.specs.FunctionSymbols.{Signature, signature_of}
use Rattle.typer.specs.SortSymbols.{or_else}
use Rattle.typer.specs.TermRules.{apply_head, bound, identifier_of, judge_application, judge_asked, judge_head, judge_indexed_head, judge_indexed_symbol, judge_symbol, judge_term, judge_terms, judge_variable}
use Rattle.typer.specs.Typed.{AreBound, HasElaborated}
use Rattle.typer.proofs.TermSteps.{first_is, first_fails, meets, then_is, then_fails}
use Rattle.typer.proofs.TypedSteps.{elaborated_signature}

abbrev pub Head : Type 0
Head = Applied × Sort

-- the terms of a node, without numbers
pub trees_plain : (ts : List NumberedTerm) → trees (numbered.terms ts) ≡ plain_terms (map tree ts)
trees_plain [] = refl
trees_plain (t ∷ ts) = ap (more_terms (tree t)) (trees_plain ts)

pub application_made : (r : Result TypedTerm TyError) (f : Applied) (s : Sort) (ts : List NumberedTerm) → IfOk r (λ t. tree t.term ≡ term tt s (app f (trees (numbered.terms ts)))) → IfOk r (λ t. tree t.term ≡ apply_head (f, s) (map tree ts))
application_made (Ok t) f s ts e = e ∙ ap (λ z. term tt s (app f z)) (trees_plain ts)
application_made (Err e) f s ts h = tt

-- variables by their numbered sorts and by their trees
tree_or : (o p : Option NumberedSort) → or_else (option_map sort_tree.tree o) (option_map sort_tree.tree p) ≡ option_map sort_tree.tree (or_else o p)
tree_or (Some r) p = refl
tree_or None p = refl

tree_if : (b : Bool) (r : NumberedSort) → (if b then Some (sort_tree.tree r) else None) ≡ option_map sort_tree.tree (if b then Some r else None)
tree_if true r = refl
tree_if false r = refl

pub bound_trees : (vars : List (ℕ × NumberedSort)) (name : ℕ) → bound (map plain_var vars) name ≡ option_map sort_tree.tree (bound vars name)
bound_trees [] name = refl
bound_trees (v ∷ vs) name = ap (λ o. or_else o (if v.0 == name then Some (sort_tree.tree v.1) else None)) (bound_trees vs name)
    ∙ ap (or_else (option_map sort_tree.tree (bound vs name))) (tree_if (v.0 == name) v.1) ∙ tree_or (bound vs name) (if v.0 == name then Some v.1 else None)

or_interned : (store : List Sort) (o p : Option NumberedSort) → IfSome o (IsInterned store) → IfSome p (IsInterned store) → IfSome (or_else o p) (IsInterned store)
or_interned store (Some r) p h k = h
or_interned store None p h k = k

if_interned : (store : List Sort) (b : Bool) (r : NumberedSort) → IsInterned store r → IfSome (if b then Some r else None) (IsInterned store)
if_interned store true r h = h
if_interned store false r h = tt

all_bound : (world : World) (vars : List (ℕ × NumberedSort)) (name : ℕ) → AreBound world vars → IfSome (bound vars name) (IsInterned world.sorts)
all_bound world [] name h = tt
all_bound world (v ∷ vs) name h = or_interned world.sorts (bound vs name) (if v.0 == name then Some v.1 else None) (all_bound world vs name h.1) (if_interned world.sorts (v.0 == name) v.1 h.0)

pub bound_interned : (world : World) (vars : List (ℕ × NumberedSort)) (name : ℕ) (r : NumberedSort) → AreBound world vars → bound vars name ≡ Some r → IsInterned world.sorts r
bound_interned world vars name r h e = subst (λ o. IfSome o (IsInterned world.sorts)) e (all_bound world vars name h)

-- an answer that a term was made, or memory ran out
pub made_answer : (r : Result TypedTerm TyError) (x : PlainTerm) (J : Judging PlainTerm) → IfOk r (λ t. tree t.term ≡ x) → IfErr r (λ e. e ≡ error.NoMemory) → Answers (Ok x) J → Answers (typed_answer r) J
made_answer (Ok t) x J e err h = subst (λ z. Answers (Ok z) J) (sym e) h
made_answer (Err e) x J ok same h = subst (λ z. Answers {A = PlainTerm} (Err z) J) (sym same) tt

pub made_meets : (r : Result TypedTerm TyError) (x : PlainTerm) (J : Judging PlainTerm) (before between after : List ℕ) → IfOk r (λ t. tree t.term ≡ x) → IfErr r (λ e. e ≡ error.NoMemory) → after ≡ between → Meets (Ok x) J before between
    → Meets (typed_answer r) J before after
made_meets (Ok t) x J before between after e err same h = subst (λ z. J before (well_sorted z after)) (sym e) (subst (λ z. J before (well_sorted x z)) (sym same) h)
made_meets (Err e) x J before between after ok err same h = subst (λ z. Meets {A = PlainTerm} (Err z) J before after) (sym err) tt

pub variable_applied : (at : ℕ) (args : List PlainTerm) (asked : Option Sort) (name : ℕ) (s : Sort) (e : TyError) → ((args ≡ []) × (asked ≡ None) → ⊥) → e ≡ fault_at AppliedVariable at → Answers {A = PlainTerm} (Err e) (judge_variable at args asked name s)
variable_applied at args asked name s e n same = subst (λ z. Answers {A = PlainTerm} (Err z) (judge_variable at args asked name s)) (sym same) (λ before. inl (n, refl))

pub variable_alone : (at : ℕ) (args : List PlainTerm) (asked : Option Sort) (name : ℕ) (s : Sort) → (args ≡ []) × (asked ≡ None) → Answers (Ok (term tt s (var name))) (judge_variable at args asked name s)
variable_alone at args asked name s h before = (tt, before, (h, refl), (refl, refl))

-- a symbol
module _ (world : World) (at : ℕ) (args : TypedTerms) (asked : Option Sort) (name : ℕ) (same : map sort_tree.tree args.sorts.items ≡ map plain_sort (map tree args.terms.items)) where
  abbrev S : Signature
  S = signature_of world

  abbrev terms_of : List PlainTerm
  terms_of = map tree args.terms.items

  module _ (is : List Tok) where
    pub indexed_applied : (h : TypedHead) (r : Result TypedTerm TyError) (sorts : List Sort) → sorts ≡ map sort_tree.tree args.sorts.items → Answers (head_answer (Ok h)) (judge_indexed_head S at sorts asked name is)
        → IfOk r (λ t. tree t.term ≡ apply_head (h.applied, sort_tree.tree h.sort) terms_of) → IfErr r (λ e. e ≡ error.NoMemory) → Answers (typed_answer r) (judge_indexed_symbol S at terms_of asked name is)
    indexed_applied h r sorts e k ok err =
        first_is (judge_indexed_head S at (map plain_sort terms_of) asked name is) (λ head. done (apply_head head terms_of)) (h.applied, sort_tree.tree h.sort) (typed_answer r)
        (subst (λ z. Answers {A = Head} (Ok (h.applied, sort_tree.tree h.sort)) (judge_indexed_head S at z asked name is)) (e ∙ same) k)
        (made_answer r (apply_head (h.applied, sort_tree.tree h.sort) terms_of) (done (apply_head (h.applied, sort_tree.tree h.sort) terms_of)) ok err (λ before. (refl, refl)))

    pub indexed_failed : (e : TyError) (sorts : List Sort) → sorts ≡ map sort_tree.tree args.sorts.items → Answers {A = Head} (Err e) (judge_indexed_head S at sorts asked name is) → Answers {A = PlainTerm} (Err e) (judge_indexed_symbol S at terms_of asked name is)
    indexed_failed e sorts g k =
        first_fails (judge_indexed_head S at (map plain_sort terms_of) asked name is) (λ head. done (apply_head head terms_of)) e
        (subst (λ z. Answers {A = Head} (Err e) (judge_indexed_head S at z asked name is)) (g ∙ same) k)

  module _ (vars : List (ℕ × NumberedSort)) where
    of_bound : (o : Option NumberedSort) (r : Result PlainTerm TyError) → bound vars name ≡ o → Answers r (judge_symbol S (option_map sort_tree.tree o) at terms_of asked name) → Answers r (judge_symbol S (bound (map plain_var vars) name) at terms_of asked name)
    of_bound o r e h = subst (λ z. Answers r (judge_symbol S z at terms_of asked name)) (sym (bound_trees vars name ∙ ap (option_map sort_tree.tree) e)) h

    pub variable_symbol : (x : NumberedSort) (r : Result PlainTerm TyError) → bound vars name ≡ Some x → Answers r (judge_variable at terms_of asked name (sort_tree.tree x)) → Answers r (judge_symbol S (bound (map plain_var vars) name) at terms_of asked name)
    variable_symbol x r e h = of_bound (Some x) r e h

    pub applied_symbol : (h : TypedHead) (r : Result TypedTerm TyError) (sorts : List Sort) → bound vars name ≡ None → sorts ≡ map sort_tree.tree args.sorts.items → Answers (head_answer (Ok h)) (judge_head S at sorts asked name)
        → IfOk r (λ t. tree t.term ≡ apply_head (h.applied, sort_tree.tree h.sort) terms_of) → IfErr r (λ e. e ≡ error.NoMemory) → Answers (typed_answer r) (judge_symbol S (bound (map plain_var vars) name) at terms_of asked name)
    applied_symbol h r sorts n e k ok err =
        of_bound None (typed_answer r) n
        (first_is (judge_head S at (map plain_sort terms_of) asked name) (λ head. done (apply_head head terms_of)) (h.applied, sort_tree.tree h.sort) (typed_answer r)
        (subst (λ z. Answers {A = Head} (Ok (h.applied, sort_tree.tree h.sort)) (judge_head S at z asked name)) (e ∙ same) k)
        (made_answer r (apply_head (h.applied, sort_tree.tree h.sort) terms_of) (done (apply_head (h.applied, sort_tree.tree h.sort) terms_of)) ok err (λ before. (refl, refl))))

    pub failed_symbol : (e : TyError) (sorts : List Sort) → bound vars name ≡ None → sorts ≡ map sort_tree.tree args.sorts.items → Answers {A = Head} (Err e) (judge_head S at sorts asked name) → Answers {A = PlainTerm} (Err e) (judge_symbol S (bound (map plain_var vars) name) at terms_of asked name)
    failed_symbol e sorts n g k =
        of_bound None (Err e) n
        (first_fails (judge_head S at (map plain_sort terms_of) asked name) (λ head. done (apply_head head terms_of)) e (subst (λ z. Answers {A = Head} (Err e) (judge_head S at z asked name)) (g ∙ same) k))

-- an identifier with indices, as its view shows it
indexed_shown : (i : Identifier) (t : Tok) (is : List Tok) → kind.Indexed t is ≡ identifier_kind i → (b : ℕ) × (i ≡ indexed b t is)
indexed_shown (indexed b u us) t is e = let p : u ≡ t = cc in let q : us ≡ is = cc in (b, ap (λ z. indexed b z us) p ∙ ap (indexed b t) q)
indexed_shown (symbol u) t is e = cc

pub of_indexed : (signature : Signature) (vars : List (ℕ × Sort)) (at : ℕ) (args : List PlainTerm) (asked : Option Sort) (i : Identifier) (t : Tok) (is : List Tok) (r : Result PlainTerm TyError) → kind.Indexed t is ≡ identifier_kind i
    → Answers r (judge_indexed_symbol signature at args asked t.name is) → Answers r (judge_application signature vars at args asked i)
of_indexed signature vars at args asked i t is r e h = let p = indexed_shown i t is e in subst (λ z. Answers r (judge_application signature vars at args asked z)) (sym p.1) h

-- an outcome with its parts as the code has them
pub application_moved : (signature new : Signature) (vars : List (ℕ × Sort)) (at byte : ℕ) (args made : List PlainTerm) (asked : Option Sort) (i shown : Identifier) (r : Result PlainTerm TyError)
    → new ≡ signature → byte ≡ at → made ≡ args → shown ≡ i → Answers r (judge_application new vars byte made asked shown) → Answers r (judge_application signature vars at args asked i)
application_moved signature new vars at byte args made asked i shown r e f g h k =
    subst (λ z. Answers r (judge_application z vars at args asked i)) e
    (subst (λ z. Answers r (judge_application new vars z args asked i)) f
    (subst (λ z. Answers r (judge_application new vars byte z asked i)) g
    (subst (λ z. Answers r (judge_application new vars byte made asked z)) h k)))

-- what the rules say after a part they say before it
pub moved : {A : Type 0} (J : Signature → Judging A) (r : Result A TyError) (old new : World) (before after : List ℕ) → HasElaborated old new → Meets r (J (signature_of new)) before after → Meets r (J (signature_of old)) before after
moved J r old new before after g h = subst (λ z. Meets r (J z) before after) (elaborated_signature old new g) h

-- the body of a binder, with the variables as the code has them
pub body_moved : (old new : World) (vars inner : List (ℕ × Sort)) (t : syntax.Term) (r : Result PlainTerm TyError) (before after : List ℕ) → HasElaborated old new → inner ≡ vars → Meets r (judge_term (signature_of new) inner t) before after
    → Meets r (judge_term (signature_of old) vars t) before after
body_moved old new vars inner t r before after g e h = moved (λ z. judge_term z vars t) r old new before after g (subst (λ z. Meets r (judge_term (signature_of new) z t) before after) e h)

-- a head with its arguments
module _ (signature : Signature) (vars : List (ℕ × Sort)) (at : ℕ) (q : Qualified) (ts : Terms) (asked : Option Sort) (before : List ℕ) (first : Answers (Ok asked) (judge_asked signature q)) where
  abbrev with_arguments : Option Sort → List PlainTerm → Judging PlainTerm
  with_arguments asked args = judge_application signature vars at args asked (identifier_of q)

  abbrev with_asked : Option Sort → Judging PlainTerm
  with_asked asked = judge_terms signature vars ts >>= with_arguments asked

  pub applied_fails : (e : TyError) (after : List ℕ) → Meets {A = List PlainTerm} (Err e) (judge_terms signature vars ts) before after → Meets {A = PlainTerm} (Err e) (judge_term signature vars (syntax.application at q ts)) before after
  applied_fails e after k = then_is (judge_asked signature q) with_asked asked (Err e) before before after (first before) (then_fails (judge_terms signature vars ts) (with_arguments asked) e before after after k)

  pub applied_is : (args : List PlainTerm) (r : Result PlainTerm TyError) (between after : List ℕ) → Meets (Ok args) (judge_terms signature vars ts) before between → after ≡ between → Answers r (judge_application signature vars at args asked (identifier_of q))
      → Meets r (judge_term signature vars (syntax.application at q ts)) before after
  applied_is args r between after k same l =
      then_is (judge_asked signature q) with_asked asked r before before after (first before)
      (then_is (judge_terms signature vars ts) (with_arguments asked) args r before between after k (meets r (with_arguments asked args) between after same l))

pub asked_fails : (signature : Signature) (vars : List (ℕ × Sort)) (at : ℕ) (q : Qualified) (ts : Terms) (e : TyError) (before after : List ℕ) → Answers {A = Option Sort} (Err e) (judge_asked signature q)
    → Meets {A = PlainTerm} (Err e) (judge_term signature vars (syntax.application at q ts)) before after
asked_fails signature vars at q ts e before after h =
    then_fails (judge_asked signature q) (λ asked. judge_terms signature vars ts >>= (λ args. judge_application signature vars at args asked (identifier_of q))) e before before after (meets (Err e) (judge_asked signature q) before before refl h)
