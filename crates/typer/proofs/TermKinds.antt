-- What holds of a production holds of the term that the view shows as one.
use Rattle.std.proofs.Common.{◌≡◌, ℕ, List, ap, sym, ◌∙◌, subst}
use Rattle.lex_core.specs.declared.token.Tok.{Tok}
use Rattle.term_grammar.specs.Syntax.{Qualified, SortedSymbol, Term, constant, qualified_term, application, let_in, for_all, there_exists, match_with, annotated, term_at, Terms, Bindings, Cases, Notes}
use Rattle.term_grammar.specs.declared.term.RawTermKind.TheVariants as kind
use Rattle.term_grammar.specs.TermViews.{term_kind}

let_shown : (raw : Term) (bs : Bindings) (u : Term) → kind.Let bs u ≡ term_kind raw → (at : ℕ) × (raw ≡ let_in at bs u)
let_shown (let_in at cs v) bs u e = let p : cs ≡ bs = cc in let q : v ≡ u = cc in (at, ap (λ z. let_in at z v) p ∙ ap (let_in at bs) q)
let_shown (constant t) bs u e = cc
let_shown (qualified_term q) bs u e = cc
let_shown (application at q ts) bs u e = cc
let_shown (for_all at vs v) bs u e = cc
let_shown (there_exists at vs v) bs u e = cc
let_shown (match_with at v cs) bs u e = cc
let_shown (annotated at v ns) bs u e = cc

forall_shown : (raw : Term) (vs : List SortedSymbol) (u : Term) → kind.Forall vs u ≡ term_kind raw → (at : ℕ) × (raw ≡ for_all at vs u)
forall_shown (for_all at ws v) vs u e = let p : ws ≡ vs = cc in let q : v ≡ u = cc in (at, ap (λ z. for_all at z v) p ∙ ap (for_all at vs) q)
forall_shown (constant t) vs u e = cc
forall_shown (qualified_term q) vs u e = cc
forall_shown (application at q ts) vs u e = cc
forall_shown (let_in at bs v) vs u e = cc
forall_shown (there_exists at ws v) vs u e = cc
forall_shown (match_with at v cs) vs u e = cc
forall_shown (annotated at v ns) vs u e = cc

exists_shown : (raw : Term) (vs : List SortedSymbol) (u : Term) → kind.Exists vs u ≡ term_kind raw → (at : ℕ) × (raw ≡ there_exists at vs u)
exists_shown (there_exists at ws v) vs u e = let p : ws ≡ vs = cc in let q : v ≡ u = cc in (at, ap (λ z. there_exists at z v) p ∙ ap (there_exists at vs) q)
exists_shown (constant t) vs u e = cc
exists_shown (qualified_term q) vs u e = cc
exists_shown (application at q ts) vs u e = cc
exists_shown (let_in at bs v) vs u e = cc
exists_shown (for_all at ws v) vs u e = cc
exists_shown (match_with at v cs) vs u e = cc
exists_shown (annotated at v ns) vs u e = cc

match_shown : (raw : Term) (u : Term) (cs : Cases) → kind.Match u cs ≡ term_kind raw → raw ≡ match_with (term_at raw) u cs
match_shown (match_with at v ds) u cs e = let p : v ≡ u = cc in let q : ds ≡ cs = cc in ap (λ z. match_with at z ds) p ∙ ap (match_with at u) q
match_shown (constant t) u cs e = cc
match_shown (qualified_term q) u cs e = cc
match_shown (application at q ts) u cs e = cc
match_shown (let_in at bs v) u cs e = cc
match_shown (for_all at vs v) u cs e = cc
match_shown (there_exists at vs v) u cs e = cc
match_shown (annotated at v ns) u cs e = cc

annotated_shown : (raw : Term) (u : Term) (ns : Notes) → kind.Annotated u ns ≡ term_kind raw → (at : ℕ) × (raw ≡ annotated at u ns)
annotated_shown (annotated at v ms) u ns e = let p : v ≡ u = cc in let q : ms ≡ ns = cc in (at, ap (λ z. annotated at z ms) p ∙ ap (annotated at u) q)
annotated_shown (constant t) u ns e = cc
annotated_shown (qualified_term q) u ns e = cc
annotated_shown (application at q ts) u ns e = cc
annotated_shown (let_in at bs v) u ns e = cc
annotated_shown (for_all at vs v) u ns e = cc
annotated_shown (there_exists at vs v) u ns e = cc
annotated_shown (match_with at v cs) u ns e = cc

constant_shown : (raw : Term) (t : Tok) → kind.Constant t ≡ term_kind raw → raw ≡ constant t
constant_shown (constant u) t e = let p : u ≡ t = cc in ap constant p
constant_shown (qualified_term q) t e = cc
constant_shown (application at q ts) t e = cc
constant_shown (let_in at bs v) t e = cc
constant_shown (for_all at ws v) t e = cc
constant_shown (there_exists at ws v) t e = cc
constant_shown (match_with at v cs) t e = cc
constant_shown (annotated at v ns) t e = cc

qualified_shown : (raw : Term) (q : Qualified) → kind.Qualified q ≡ term_kind raw → raw ≡ qualified_term q
qualified_shown (qualified_term r) q e = let p : r ≡ q = cc in ap qualified_term p
qualified_shown (constant u) q e = cc
qualified_shown (application at r ts) q e = cc
qualified_shown (let_in at bs v) q e = cc
qualified_shown (for_all at ws v) q e = cc
qualified_shown (there_exists at ws v) q e = cc
qualified_shown (match_with at v cs) q e = cc
qualified_shown (annotated at v ns) q e = cc

application_shown : (raw : Term) (q : Qualified) (ts : Terms) → kind.Application q ts ≡ term_kind raw → raw ≡ application (term_at raw) q ts
application_shown (application at r us) q ts e = let p : r ≡ q = cc in let o : us ≡ ts = cc in ap (λ z. application at z us) p ∙ ap (application at q) o
application_shown (constant u) q ts e = cc
application_shown (qualified_term r) q ts e = cc
application_shown (let_in at bs v) q ts e = cc
application_shown (for_all at ws v) q ts e = cc
application_shown (there_exists at ws v) q ts e = cc
application_shown (match_with at v cs) q ts e = cc
application_shown (annotated at v ns) q ts e = cc

module _ (P : Term → Type 0) (raw : Term) where
  shown : (t : Term) → raw ≡ t → P t → P raw
  shown t e h = subst P (sym e) h

  pub of_constant : (t : Tok) → kind.Constant t ≡ term_kind raw → P (constant t) → P raw
  of_constant t e h = shown (constant t) (constant_shown raw t e) h

  pub of_qualified : (q : Qualified) → kind.Qualified q ≡ term_kind raw → P (qualified_term q) → P raw
  of_qualified q e h = shown (qualified_term q) (qualified_shown raw q e) h

  pub of_application : (q : Qualified) (ts : Terms) → kind.Application q ts ≡ term_kind raw → P (application (term_at raw) q ts) → P raw
  of_application q ts e h = shown (application (term_at raw) q ts) (application_shown raw q ts e) h

  pub of_let : (bs : Bindings) (u : Term) → kind.Let bs u ≡ term_kind raw → ((at : ℕ) → P (let_in at bs u)) → P raw
  of_let bs u e h = let p = let_shown raw bs u e in shown (let_in p.0 bs u) p.1 (h p.0)

  pub of_forall : (vs : List SortedSymbol) (u : Term) → kind.Forall vs u ≡ term_kind raw → ((at : ℕ) → P (for_all at vs u)) → P raw
  of_forall vs u e h = let p = forall_shown raw vs u e in shown (for_all p.0 vs u) p.1 (h p.0)

  pub of_exists : (vs : List SortedSymbol) (u : Term) → kind.Exists vs u ≡ term_kind raw → ((at : ℕ) → P (there_exists at vs u)) → P raw
  of_exists vs u e h = let p = exists_shown raw vs u e in shown (there_exists p.0 vs u) p.1 (h p.0)

  pub of_match : (u : Term) (cs : Cases) → kind.Match u cs ≡ term_kind raw → P (match_with (term_at raw) u cs) → P raw
  of_match u cs e h = shown (match_with (term_at raw) u cs) (match_shown raw u cs e) h

  pub of_annotated : (u : Term) (ns : Notes) → kind.Annotated u ns ≡ term_kind raw → ((at : ℕ) → P (annotated at u ns)) → P raw
  of_annotated u ns e h = let p = annotated_shown raw u ns e in shown (annotated p.0 u ns) p.1 (h p.0)
