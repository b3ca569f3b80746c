-- The first tree, in pre-order, in the position of a sort or a term that has the shape of no production. A tree's own shape
-- is judged before its parts, and any tree fits in the position of a sort or a term.
use Rattle.std.specs.Prelude.{◌≡◌, ℕ, List, [], ◌∷◌, ◌++◌, IsTrue, if◌then◌else◌}
use Rattle.lex_core.specs.declared.token.Tok.{Tok}
use Rattle.sexp_core.specs.Sexp.{Sexp, atom, list, Sexps, nil, cons}
use Rattle.term_grammar.specs.declared.words.TheConstants.{AS, LET, FORALL, EXISTS, MATCH, ANNOTATION, PATTERN}
use Rattle.term_grammar.specs.Words.{is_constant, is_reserved, is_key, is_value_token}
use Rattle.term_grammar.specs.Syntax.{Identifier, Sort, Term}
use Rattle.term_grammar.specs.TermForms.{are_named, are_cases, are_notes}
use Rattle.term_grammar.specs.Reads.{byte_of}
use Rattle.term_grammar.specs.Grammar.{NotEmpty, ReadsIdentifier, ReadsSort, ReadsTerm}

-- a tree in the position of a sort or of a term
pub data Position : Type 0 where
  a_sort : Sexp Tok → Position
  a_term : Sexp Tok → Position

abbrev pub position_at : Position → ℕ
position_at (a_sort t) = byte_of t
position_at (a_term t) = byte_of t

abbrev pub sorts : Sexps Tok → List Position
sorts nil = []
sorts (cons t ts) = a_sort t ∷ sorts ts

abbrev pub terms : Sexps Tok → List Position
terms nil = []
terms (cons t ts) = a_term t ∷ terms ts

-- the second of two trees, again and again: the terms of bindings and cases, the sorts of variables
abbrev pub seconds : (Sexp Tok → Position) → Sexps Tok → List Position
seconds f (cons (list b (cons u (cons t nil))) ts) = f t ∷ seconds f ts
seconds f _ = []

-- the terms of the patterns among the attributes of a term; a keyword takes the value that comes next
abbrev pub pattern_terms : Sexps Tok → List Position
pattern_terms (cons (atom k) (cons (atom v) ts)) = if is_value_token v then pattern_terms ts else pattern_terms (cons (atom v) ts)
pattern_terms (cons (atom k) (cons (list b us) ts)) = if is_key PATTERN k then terms us ++ pattern_terms ts else pattern_terms ts
pattern_terms _ = []

-- identifier | ( identifier tree+ ), with the sorts in it
pub data SortShape (t : Sexp Tok) (ps : List Position) : Type 0 where
  named : (i : Identifier) → ReadsIdentifier t i → ps ≡ [] → SortShape t ps
  applied : (at : ℕ) (h : Sexp Tok) (ts : Sexps Tok) (i : Identifier) → t ≡ list at (cons h ts) → ReadsIdentifier h i → NotEmpty ts
      → ps ≡ sorts ts → SortShape t ps

-- identifier | ( as identifier tree )
pub data QualifiedShape (t : Sexp Tok) (ps : List Position) : Type 0 where
  bare : (i : Identifier) → ReadsIdentifier t i → ps ≡ [] → QualifiedShape t ps
  as_sort : (at : ℕ) (w : Tok) (h u : Sexp Tok) (i : Identifier) → t ≡ list at (cons (atom w) (cons h (cons u nil)))
      → IsTrue (is_reserved AS w) → ReadsIdentifier h i → ps ≡ a_sort u ∷ [] → QualifiedShape t ps

-- each production of a term over trees, with the sorts and terms in it, in the order of the text
pub data TermShape (t : Sexp Tok) (ps : List Position) : Type 0 where
  constant_shape : (c : Tok) → t ≡ atom c → IsTrue (is_constant c) → ps ≡ [] → TermShape t ps
  qualified_shape : QualifiedShape t ps → TermShape t ps
  application_shape : (at : ℕ) (h : Sexp Tok) (ts : Sexps Tok) (qs : List Position) → t ≡ list at (cons h ts) → QualifiedShape h qs → NotEmpty ts
      → ps ≡ qs ++ terms ts → TermShape t ps
  let_shape : (at : ℕ) (w : Tok) (b : ℕ) (bs : Sexps Tok) (u : Sexp Tok) → t ≡ list at (cons (atom w) (cons (list b bs) (cons u nil)))
      → IsTrue (is_reserved LET w) → NotEmpty bs → IsTrue (are_named bs) → ps ≡ seconds a_term bs ++ a_term u ∷ [] → TermShape t ps
  forall_shape : (at : ℕ) (w : Tok) (b : ℕ) (vs : Sexps Tok) (u : Sexp Tok) → t ≡ list at (cons (atom w) (cons (list b vs) (cons u nil)))
      → IsTrue (is_reserved FORALL w) → NotEmpty vs → IsTrue (are_named vs) → ps ≡ seconds a_sort vs ++ a_term u ∷ [] → TermShape t ps
  exists_shape : (at : ℕ) (w : Tok) (b : ℕ) (vs : Sexps Tok) (u : Sexp Tok) → t ≡ list at (cons (atom w) (cons (list b vs) (cons u nil)))
      → IsTrue (is_reserved EXISTS w) → NotEmpty vs → IsTrue (are_named vs) → ps ≡ seconds a_sort vs ++ a_term u ∷ [] → TermShape t ps
  match_shape : (at : ℕ) (w : Tok) (u : Sexp Tok) (b : ℕ) (cs : Sexps Tok) → t ≡ list at (cons (atom w) (cons u (cons (list b cs) nil)))
      → IsTrue (is_reserved MATCH w) → NotEmpty cs → IsTrue (are_cases cs) → ps ≡ a_term u ∷ seconds a_term cs → TermShape t ps
  annotation_shape : (at : ℕ) (w : Tok) (u : Sexp Tok) (ns : Sexps Tok) → t ≡ list at (cons (atom w) (cons u ns))
      → IsTrue (is_reserved ANNOTATION w) → NotEmpty ns → IsTrue (are_notes ns) → ps ≡ a_term u ∷ pattern_terms ns → TermShape t ps

-- the tree has the shape of a production, with these sorts and terms in it
abbrev pub HasShape : Position → List Position → Type 0
HasShape (a_sort t) ps = SortShape t ps
HasShape (a_term t) ps = TermShape t ps

-- the tree reads as a sort or a term
abbrev pub ReadsAt : Position → Type 0
ReadsAt (a_sort t) = (s : Sort) × ReadsSort t s
ReadsAt (a_term t) = (u : Term) × ReadsTerm t u

-- the byte of the first tree without a shape: the first tree itself, one in it, or one after it where it reads
pub data FirstFault : List Position → ℕ → Type 0 where
  here : (p : Position) (ps : List Position) → ((qs : List Position) → HasShape p qs → ⊥) → FirstFault (p ∷ ps) (position_at p)
  inside : (p : Position) (qs ps : List Position) (n : ℕ) → HasShape p qs → FirstFault qs n → FirstFault (p ∷ ps) n
  after : (p : Position) (ps : List Position) (n : ℕ) → ReadsAt p → FirstFault ps n → FirstFault (p ∷ ps) n

abbrev pub FaultOfSort : Sexp Tok → ℕ → Type 0
FaultOfSort t n = FirstFault (a_sort t ∷ []) n

abbrev pub FaultOfTerm : Sexp Tok → ℕ → Type 0
FaultOfTerm t n = FirstFault (a_term t ∷ []) n
