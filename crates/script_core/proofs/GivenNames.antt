-- The named terms of a command come one after the other, behind the names that it declares of its own.
use Rattle.std.proofs.Common.{◌≡◌, ℕ, List, [], ◌∷◌, ◌++◌, map, ap, sym, ◌∙◌, subst, append-nil, append_assoc}
use Rattle.judgement.specs.Judging.{well_sorted}
use Rattle.term_grammar.specs.Syntax.{Term, Terms, no_terms, with_term}
use Rattle.cmd_grammar.specs.Commands.{Literal}
use Rattle.cmd_grammar.specs.DeclarationViews.{literal_term}
use Rattle.term_store.specs.Command.{PlainDef}
use Rattle.term_store.specs.Declarations.{Declaration, names_in, names_in_all}
use Rattle.term_store.specs.Term.{PlainTerm}
use Rattle.typer.specs.FunctionSymbols.{Signature}
use Rattle.typer.specs.NamedTerms.{AreNamedAfter}
use Rattle.typer.specs.TermRules.{judge_terms}
use Rattle.typer.proofs.NamesGiven.{named_append, names_given}
use Rattle.script_core.specs.Environment.{Environment, signature_from, signature_in}
use Rattle.script_core.specs.Rules.{Header, declare_each, judge_body, judge_bool, judge_literals, judge_members}

abbrev From : Signature → List ℕ → List Declaration → List ℕ → Type 0
From signature before ds after = AreNamedAfter signature before ds after

pub terms_given : (signature : Signature) (ts : Terms) (us : List PlainTerm) (before after : List ℕ) → judge_terms signature [] ts before (well_sorted us after) → From signature before (names_in_all us) after
terms_given signature no_terms us before after (made, same) = subst (λ z. From signature before (names_in_all z) after) (sym made) same
terms_given signature (with_term t ts) us before after (u, between, h, (rest, later, k, (made, same))) =
    subst (λ z. From signature before (names_in_all z) after) (sym made)
    (named_append signature (names_in u) (names_in_all rest) before between after (names_given signature t [] u before between h)
    (subst (From signature between (names_in_all rest)) (sym same) (terms_given signature ts rest between later k)))

pub bool_given : (env : Environment) (t : Term) (u : PlainTerm) (before after : List ℕ) → judge_bool env t before (well_sorted u after) → From (signature_in env) before (names_in u) after
bool_given env t u before after (v, between, h, (w, later, k, (e, f))) =
    subst (λ z. From (signature_in env) before (names_in z) after) (sym e) (subst (From (signature_in env) before (names_in v)) (sym (f ∙ k.1)) (names_given (signature_in env) t [] v before between h))

pub literals_given : (env : Environment) (ls : List Literal) (us : List PlainTerm) (before after : List ℕ) → judge_literals env ls before (well_sorted us after) → From (signature_in env) before (names_in_all us) after
literals_given env [] us before after (made, same) = subst (λ z. From (signature_in env) before (names_in_all z) after) (sym made) same
literals_given env (l ∷ ls) us before after (u, between, h, (rest, later, k, (made, same))) =
    subst (λ z. From (signature_in env) before (names_in_all z) after) (sym made)
    (named_append (signature_in env) (names_in u) (names_in_all rest) before between after (bool_given env (literal_term l) u before between h)
    (subst (From (signature_in env) between (names_in_all rest)) (sym same) (literals_given env ls rest between later k)))

pub body_given : (first : ℕ) (env : Environment) (h : Header) (t : Term) (u : PlainTerm) (before after : List ℕ) → judge_body first env h t before (well_sorted u after) → From (signature_from first env) before (names_in u) after
body_given first env h t u before after (v, between, j, (w, later, k, (e, f))) =
    subst (λ z. From (signature_from first env) before (names_in z) after) (sym e)
    (subst (From (signature_from first env) before (names_in v)) (sym (f ∙ k.1)) (names_given (signature_from first env) t h.params v before between j))

abbrev bodies : List PlainDef → List PlainTerm
bodies ds = map (λ (d : PlainDef). d.body) ds

pub members_given : (first : ℕ) (env : Environment) (at : ℕ) (hs : List Header) (ts : Terms) (ds : List PlainDef) (before after : List ℕ) → judge_members first env at hs ts before (well_sorted ds after)
    → From (signature_from first env) before (names_in_all (bodies ds)) after
members_given first env at [] ts ds before after (made, same) = subst (λ z. From (signature_from first env) before (names_in_all (bodies z)) after) (sym made) same
members_given first env at (h ∷ hs) no_terms ds before after j = absurd j
members_given first env at (h ∷ hs) (with_term t ts) ds before after (d, between, (u, middle, j, (e, f)), (rest, later, k, (made, same))) =
    subst (λ z. From (signature_from first env) before (names_in_all (bodies z)) after) (sym made)
    (named_append (signature_from first env) (names_in d.body) (names_in_all (bodies rest)) before between after
    (subst (λ (z : PlainDef). From (signature_from first env) before (names_in z.body) between) (sym e) (subst (From (signature_from first env) before (names_in u)) (sym f) (body_given first env h t u before middle j)))
    (subst (From (signature_from first env) between (names_in_all (bodies rest))) (sym same) (members_given first env at hs ts rest between later k)))

-- the names of a group, one after the other
pub each_after : (ns before after : List ℕ) → declare_each ns before (well_sorted tt after) → after ≡ before ++ ns
each_after [] before after (e, f) = f ∙ sym (append-nil before)
each_after (n ∷ ns) before after (u, between, h, k) = each_after ns between after k ∙ (ap (λ (xs : List ℕ). xs ++ ns) h ∙ append_assoc before (n ∷ []) ns)
