-- The canonical text of sorts and terms, as an s-expression of words (SMT-LIB 2.6, sections 3.5 and
-- 3.6). A head without arguments is written alone, and with arguments in one list with them. A head
-- that is ambiguous is written with `as` and the sort of its application.
use Rattle.std.specs.Prelude.{ℕ, Bool, true, false, List, [], ◌∷◌, codes, slice_index, Option, Some, None}
use Rattle.lex_core.specs.declared.token.TokKind.{TokKind}
use Rattle.lex_core.specs.declared.token.TokKind.TheVariants as kind
use Rattle.lex_core.specs.declared.token.Tok.{Tok}
use Rattle.sexp_core.specs.Sexp.{Sexp, Sexps, atom, list, nil, cons, map_sexp, append}
use Rattle.sort_store.specs.declared.head.Head.{Head}
use Rattle.sort_store.specs.declared.head.Head.TheVariants as head
use Rattle.sort_store.specs.Tree.{Sort, sort, SortList, no_sorts, more_sorts}
use Rattle.term_store.specs.declared.parts.Fun.{Fun}
use Rattle.term_store.specs.declared.parts.Fun.TheVariants as fun
use Rattle.term_store.specs.declared.parts.Applied.{Applied}
use Rattle.term_store.specs.declared.parts.Pattern.{Pattern}
use Rattle.term_store.specs.declared.parts.Pattern.TheVariants as patterns
use Rattle.term_store.specs.Term.{Term, Node, Terms, Cases, Note, Notes, term, lit, var, app, let_in, quant, match_on, ann, no_terms, more_terms, no_cases, more_cases, named, pattern, other, no_notes, more_notes}

-- A word of a canonical text: a token with the number of its name, a number in decimal digits, or a
-- text that the grammar fixes.
pub data Word : Type 0 where
  token : TokKind → ℕ → Word
  numeral : ℕ → Word
  fixed : List ℕ → Word

abbrev pub symbol : ℕ → Sexp Word
symbol n = atom (token kind.Symbol n)

-- a list, which stands at no byte
abbrev pub group : Sexps Word → Sexp Word
group ts = list 0 ts

abbrev pub symbols : List ℕ → Sexps Word
symbols [] = nil
symbols (n ∷ ns) = cons (symbol n) (symbols ns)

-- a text alone, or in one list with those after it
abbrev pub applied_text : Sexp Word → Sexps Word → Sexp Word
applied_text t nil = t
applied_text t (cons u us) = group (cons t (cons u us))

-- an identifier with these indices
abbrev pub indexed_text : Sexp Word → Sexps Word → Sexp Word
indexed_text t nil = t
indexed_text t (cons i is) = group (cons (atom (fixed (codes "_"))) (cons t (cons i is)))

-- the sort symbol of a sort, where the parameters have these names
abbrev pub head_text : List ℕ → Head → Sexp Word
head_text params head.Bool = atom (fixed (codes "Bool"))
head_text params head.Int = atom (fixed (codes "Int"))
head_text params head.Array = atom (fixed (codes "Array"))
head_text params (head.BitVec m) = indexed_text (atom (fixed (codes "BitVec"))) (cons (atom (numeral m)) nil)
head_text params (head.Free d n) = symbol n
head_text params (head.Data d n) = symbol n
head_text params (head.Param i) = symbol (slice_index params i)

abbrev mutual
  pub sort_text : List ℕ → Sort → Sexp Word
  sort_text params (sort h ts) = applied_text (head_text params h) (sort_texts params ts)

  pub sort_texts : List ℕ → SortList → Sexps Word
  sort_texts params no_sorts = nil
  sort_texts params (more_sorts t ts) = cons (sort_text params t) (sort_texts params ts)

abbrev pub index_texts : List ℕ → Sexps Word
index_texts [] = nil
index_texts (n ∷ ns) = cons (atom (token kind.Numeral n)) (index_texts ns)

-- the function symbol of an application, with its indices
abbrev pub function_text : Fun → ℕ → List ℕ → Sexp Word
function_text (fun.Tester d) n is = indexed_text (atom (fixed (codes "is"))) (cons (symbol n) nil)
function_text _ n is = indexed_text (symbol n) (index_texts is)

-- the same with `as` and the sort of the application where it is ambiguous
abbrev pub qualified_text : Bool → Sexp Word → Sort → Sexp Word
qualified_text true t s = group (cons (atom (fixed (codes "as"))) (cons t (cons (sort_text [] s) nil)))
qualified_text false t s = t

abbrev pub applied_head : Applied → Sort → Sexp Word
applied_head f s = qualified_text f.qualify (function_text f.fun f.name f.indices) s

abbrev pub pattern_text : Pattern → Sexp Word
pattern_text (patterns.Var n) = symbol n
pattern_text (patterns.Con d n vs) = applied_text (symbol n) (symbols vs)

-- the variables of a quantifier
abbrev pub var_texts : List (ℕ × Sort) → Sexps Word
var_texts [] = nil
var_texts (v ∷ vs) = cons (group (cons (symbol v.0) (cons (sort_text [] v.1) nil))) (var_texts vs)

-- the value of an attribute, kept as written
abbrev pub value_texts : Option (Sexp Tok) → Sexps Word
value_texts None = nil
value_texts (Some t) = cons (map_sexp (λ x. token x.kind x.name) t) nil

abbrev pub quantifier : Bool → Sexp Word
quantifier true = atom (fixed (codes "forall"))
quantifier false = atom (fixed (codes "exists"))

abbrev pub first_name : List ℕ → ℕ
first_name [] = 0
first_name (n ∷ ns) = n

abbrev pub other_names : List ℕ → List ℕ
other_names [] = []
other_names (n ∷ ns) = ns

abbrev mutual
  pub term_text : Term (Unit {0}) Sort → Sexp Word
  term_text (term u s x) = node_text s x

  pub node_text : Sort → Node (Unit {0}) Sort → Sexp Word
  node_text s (lit k n) = atom (token k n)
  node_text s (var n) = symbol n
  node_text s (app f ts) = applied_text (applied_head f s) (term_texts ts)
  node_text s (let_in vs ts b) = group (cons (atom (fixed (codes "let"))) (cons (group (binding_texts vs ts)) (cons (term_text b) nil)))
  node_text s (quant all vs b) = group (cons (quantifier all) (cons (group (var_texts vs)) (cons (term_text b) nil)))
  node_text s (match_on t cs) = group (cons (atom (fixed (codes "match"))) (cons (term_text t) (cons (group (case_texts cs)) nil)))
  node_text s (ann b ns) = group (cons (atom (fixed (codes "!"))) (cons (term_text b) (note_texts ns)))

  pub term_texts : Terms (Unit {0}) Sort → Sexps Word
  term_texts no_terms = nil
  term_texts (more_terms t ts) = cons (term_text t) (term_texts ts)

  -- each value with the variable at its place
  pub binding_texts : List ℕ → Terms (Unit {0}) Sort → Sexps Word
  binding_texts vs no_terms = nil
  binding_texts vs (more_terms t ts) = cons (group (cons (symbol (first_name vs)) (cons (term_text t) nil))) (binding_texts (other_names vs) ts)

  pub case_texts : Cases (Unit {0}) Sort → Sexps Word
  case_texts no_cases = nil
  case_texts (more_cases p t cs) = cons (group (cons (pattern_text p) (cons (term_text t) nil))) (case_texts cs)

  pub note_text : Note (Unit {0}) Sort → Sexps Word
  note_text (named d n) = cons (atom (fixed (codes ":named"))) (cons (symbol n) nil)
  note_text (pattern ts) = cons (atom (fixed (codes ":pattern"))) (cons (group (term_texts ts)) nil)
  note_text (other k v) = cons (atom (token kind.Keyword k)) (value_texts v)

  pub note_texts : Notes (Unit {0}) Sort → Sexps Word
  note_texts no_notes = nil
  note_texts (more_notes n ns) = append (note_text n) (note_texts ns)
