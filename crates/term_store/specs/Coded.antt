-- How a term is stored: as a binary tree of labels.
use Rattle.std.specs.Prelude.{◌≡◌, ℕ, Bool, List, Option, refl}
use Rattle.std.specs.Coded.{Coded, code_by}
use Rattle.std.proofs.Common.{ap, ◌∙◌}
use Rattle.lex_core.specs.declared.token.TokKind.{TokKind}
use Rattle.lex_core.specs.declared.token.TokKind.TheVariants.{Numeral}
use Rattle.lex_core.specs.declared.token.Tok.{Tok}
use Rattle.sexp_core.specs.Sexp.{Sexp}
use Rattle.sort_store.specs.declared.head.DeclNo.{DeclNo}
use Rattle.sort_store.specs.declared.head.Head.TheVariants as head
use Rattle.sort_store.specs.Tree.{Sort, sort, no_sorts, NumberedSort, no_nodes, node as numbered}
use Rattle.term_store.specs.declared.parts.Applied.{Applied}
use Rattle.term_store.specs.declared.parts.Pattern.{Pattern}
use Rattle.term_store.specs.Binary.{Binary, tip, fork, binary_code}
use Rattle.term_store.specs.Term.{Term, Node, Terms, Cases, Note, Notes, NumberedTerm, PlainTerm, term, lit, var, app, let_in, quant, match_on, ann, no_terms, more_terms, no_cases, more_cases, named, pattern, other, no_notes, more_notes}

-- one for each constructor, with the fields that are no terms
pub data Label (N S : Type 0) : Type 0 where
  label_term : N → S → Label N S
  label_lit : TokKind → ℕ → Label N S
  label_var : ℕ → Label N S
  label_app : Applied → Label N S
  label_let : List ℕ → Label N S
  label_quant : Bool → List (ℕ × S) → Label N S
  label_match : Label N S
  label_ann : Label N S
  label_term_of : Label N S
  label_case : Pattern → Label N S
  label_named : DeclNo → ℕ → Label N S
  label_pattern : Label N S
  label_other : ℕ → Option (Sexp Tok) → Label N S
  label_note : Label N S

module _ {N S : Type 0} where
  abbrev mutual
    pub encoded_term : Term N S → Binary (Label N S)
    encoded_term (term n s x) = fork (label_term n s) (encoded_node x) tip

    pub encoded_node : Node N S → Binary (Label N S)
    encoded_node (lit k n) = fork (label_lit k n) tip tip
    encoded_node (var n) = fork (label_var n) tip tip
    encoded_node (app f ts) = fork (label_app f) (encoded_terms ts) tip
    encoded_node (let_in vs ts b) = fork (label_let vs) (encoded_terms ts) (encoded_term b)
    encoded_node (quant all vs b) = fork (label_quant all vs) (encoded_term b) tip
    encoded_node (match_on t cs) = fork label_match (encoded_term t) (encoded_cases cs)
    encoded_node (ann b ns) = fork label_ann (encoded_term b) (encoded_notes ns)

    pub encoded_terms : Terms N S → Binary (Label N S)
    encoded_terms no_terms = tip
    encoded_terms (more_terms t ts) = fork label_term_of (encoded_term t) (encoded_terms ts)

    pub encoded_cases : Cases N S → Binary (Label N S)
    encoded_cases no_cases = tip
    encoded_cases (more_cases p t cs) = fork (label_case p) (encoded_term t) (encoded_cases cs)

    pub encoded_note : Note N S → Binary (Label N S)
    encoded_note (named d n) = fork (label_named d n) tip tip
    encoded_note (pattern ts) = fork label_pattern (encoded_terms ts) tip
    encoded_note (other k v) = fork (label_other k v) tip tip

    pub encoded_notes : Notes N S → Binary (Label N S)
    encoded_notes no_notes = tip
    encoded_notes (more_notes n ns) = fork label_note (encoded_note n) (encoded_notes ns)

-- the other way, with any answer where there is none
module _ {N S : Type 0} (some_number : N) (some_sort : S) where
  abbrev pub some_node : Node N S
  some_node = lit Numeral 0

  abbrev mutual
    pub decoded_term : Binary (Label N S) → Term N S
    decoded_term (fork (label_term n s) x b) = term n s (decoded_node x)
    decoded_term _ = term some_number some_sort some_node

    pub decoded_node : Binary (Label N S) → Node N S
    decoded_node (fork (label_lit k n) a b) = lit k n
    decoded_node (fork (label_var n) a b) = var n
    decoded_node (fork (label_app f) a b) = app f (decoded_terms a)
    decoded_node (fork (label_let vs) a b) = let_in vs (decoded_terms a) (decoded_term b)
    decoded_node (fork (label_quant all vs) a b) = quant all vs (decoded_term a)
    decoded_node (fork label_match a b) = match_on (decoded_term a) (decoded_cases b)
    decoded_node (fork label_ann a b) = ann (decoded_term a) (decoded_notes b)
    decoded_node _ = some_node

    pub decoded_terms : Binary (Label N S) → Terms N S
    decoded_terms (fork l a b) = more_terms (decoded_term a) (decoded_terms b)
    decoded_terms tip = no_terms

    pub decoded_cases : Binary (Label N S) → Cases N S
    decoded_cases (fork (label_case p) a b) = more_cases p (decoded_term a) (decoded_cases b)
    decoded_cases _ = no_cases

    pub decoded_note : Binary (Label N S) → Note N S
    decoded_note (fork (label_named d n) a b) = named d n
    decoded_note (fork (label_other k v) a b) = other k v
    decoded_note (fork l a b) = pattern (decoded_terms a)
    decoded_note tip = pattern no_terms

    pub decoded_notes : Binary (Label N S) → Notes N S
    decoded_notes (fork l a b) = more_notes (decoded_note a) (decoded_notes b)
    decoded_notes tip = no_notes

  mutual
    pub decoded-encoded_term : (t : Term N S) → decoded_term (encoded_term t) ≡ t
    decoded-encoded_term (term n s x) = ap (term n s) (decoded-encoded_node x)

    pub decoded-encoded_node : (x : Node N S) → decoded_node (encoded_node x) ≡ x
    decoded-encoded_node (lit k n) = refl
    decoded-encoded_node (var n) = refl
    decoded-encoded_node (app f ts) = ap (app f) (decoded-encoded_terms ts)
    decoded-encoded_node (let_in vs ts b) = ap (λ z. let_in vs z (decoded_term (encoded_term b))) (decoded-encoded_terms ts) ∙ ap (let_in vs ts) (decoded-encoded_term b)
    decoded-encoded_node (quant all vs b) = ap (quant all vs) (decoded-encoded_term b)
    decoded-encoded_node (match_on t cs) = ap (λ z. match_on z (decoded_cases (encoded_cases cs))) (decoded-encoded_term t) ∙ ap (match_on t) (decoded-encoded_cases cs)
    decoded-encoded_node (ann b ns) = ap (λ z. ann z (decoded_notes (encoded_notes ns))) (decoded-encoded_term b) ∙ ap (ann b) (decoded-encoded_notes ns)

    pub decoded-encoded_terms : (ts : Terms N S) → decoded_terms (encoded_terms ts) ≡ ts
    decoded-encoded_terms no_terms = refl
    decoded-encoded_terms (more_terms t ts) = ap (λ z. more_terms z (decoded_terms (encoded_terms ts))) (decoded-encoded_term t) ∙ ap (more_terms t) (decoded-encoded_terms ts)

    pub decoded-encoded_cases : (cs : Cases N S) → decoded_cases (encoded_cases cs) ≡ cs
    decoded-encoded_cases no_cases = refl
    decoded-encoded_cases (more_cases p t cs) = ap (λ z. more_cases p z (decoded_cases (encoded_cases cs))) (decoded-encoded_term t) ∙ ap (more_cases p t) (decoded-encoded_cases cs)

    pub decoded-encoded_note : (n : Note N S) → decoded_note (encoded_note n) ≡ n
    decoded-encoded_note (named d n) = refl
    decoded-encoded_note (pattern ts) = ap pattern (decoded-encoded_terms ts)
    decoded-encoded_note (other k v) = refl

    pub decoded-encoded_notes : (ns : Notes N S) → decoded_notes (encoded_notes ns) ≡ ns
    decoded-encoded_notes no_notes = refl
    decoded-encoded_notes (more_notes n ns) = ap (λ z. more_notes z (decoded_notes (encoded_notes ns))) (decoded-encoded_note n) ∙ ap (more_notes n) (decoded-encoded_notes ns)

abbrev pub numbered_term_code : Coded (Label ℕ NumberedSort) → Coded NumberedTerm
numbered_term_code c =
    let s = numbered 0 head.Bool no_nodes in
    code_by (Binary (Label ℕ NumberedSort)) (binary_code c) encoded_term (decoded_term 0 s) (decoded-encoded_term 0 s)

abbrev pub plain_term_code : Coded (Label (Unit {0}) Sort) → Coded PlainTerm
plain_term_code c =
    let s = sort head.Bool no_sorts in
    code_by (Binary (Label (Unit {0}) Sort)) (binary_code c) encoded_term (decoded_term tt s) (decoded-encoded_term tt s)
