use Rattle.std.proofs.Common.{◌≡◌, sym, subst, Result, Ok, Err}
use Rattle.std.specs.Result.{IfOk, MatchResult}
use Rattle.term_store.specs.NumberedNodes.{term_of}
use Rattle.term_store.specs.Term.{NumberedTerm, tree}
use Rattle.term_store.proofs.KeyedTerms.{Added, added_as, found_as}
use Rattle.term_store.proofs.store.TermStore.intern.Goals as goal
use Rattle.term_store.proofs.store.TermStore.intern.Goals.{In_ok-term}

-- what is true of a term is true of its copy
copied : {E : Type 0} (o : Result NumberedTerm E) (t : NumberedTerm) (P : NumberedTerm → Type 0) (Q : E → Type 0) → MatchResult o (λ copy. copy ≡ t) Q → P t → IfOk o P
copied (Ok r) t P Q h p = subst P (sym h) p
copied (Err e) t P Q h p = tt

pub returns-in-Some-clause-tree : goal.returns-in-Some-clause-tree
returns-in-Some-clause-tree c =
    let f = found_as c.args.self.now c.self.inside.table.entries c.in-Some.term.now c.args.node c.args.sort c.self.view_is c.self.invariant c.requires c.in-Some.ensures.found c.in-Some.ensures.made in
    copied c.clone.result c.in-Some.term.now (λ t. tree t ≡ term_of c.args.sort c.args.node) _ c.clone.ensures.cases f.tree_is

facts : (c : In_ok-term) → Added c.args.self.now c.add_entry.new.table.entries c.in_ok-term.term c.args.node c.args.sort
facts c =
    added_as c.args.self.now c.self.inside.table.entries c.add_entry.new.table.entries c.find_made.new.key c.in_ok-term.term c.args.node c.args.sort c.self.view_is c.self.invariant c.requires
    c.in_default.ensures.missing c.in_default.ensures.new_key c.in_ok-term.ensures.term c.in_ok-term.ensures.put

pub invariant_of-self-2 : goal.invariant_of-self-2
invariant_of-self-2 c = (facts c).stored

pub returns-clause-interned : goal.returns-clause-interned
returns-clause-interned c = (facts c).interned

pub returns-clause-interns : goal.returns-clause-interns
returns-clause-interns c = (facts c).interns

pub returns-clause-distinct : goal.returns-clause-distinct
returns-clause-distinct c = (facts c).distinct
