-- The form of a sort or a term: the parts of its production, whose own forms are not judged yet.
use Rattle.std.specs.Prelude.{ℕ, Bool, true, false, not, ◌&&◌, Option, Some, None, is_some, Result, Ok, Err, if◌then◌else◌}
use Rattle.lex_core.specs.declared.token.Tok.{Tok}
use Rattle.sexp_core.specs.Sexp.{Sexp, atom, list, Sexps, nil, cons}
use Rattle.sexp_core.specs.Parts.{whole}
use Rattle.sexp_core.specs.declared.parts.Part.{Part}
use Rattle.term_grammar.specs.declared.words.TheConstants.{UNDERSCORE}
use Rattle.term_grammar.specs.declared.form.SortForm.{SortForm}
use Rattle.term_grammar.specs.declared.form.SortForm.TheVariants as sort
use Rattle.term_grammar.specs.Words.{is_symbol, is_index, is_reserved}
use Rattle.term_grammar.specs.FirstParts.{◌>>=◌, any_first, token_first, symbol_first, is_empty, guard}

-- each of some trees is an index
abbrev pub are_indices : Sexps Tok → Bool
are_indices nil = true
are_indices (cons (atom t) ts) = is_index t && are_indices ts
are_indices (cons (list at us) ts) = false

-- ( _ symbol index+ )
abbrev pub indexed_parts : Sexps Tok → Option (Tok × Sexps Tok)
indexed_parts ts = do
  w ← token_first ts
  _ ← guard (is_reserved UNDERSCORE w.0)
  n ← symbol_first w.1
  _ ← guard (not (is_empty n.1))
  _ ← guard (are_indices n.1)
  Some (n.0, n.1)

-- symbol | ( _ symbol index+ )
abbrev pub is_identifier : Sexp Tok → Bool
is_identifier (atom t) = is_symbol t
is_identifier (list at ts) = is_some (indexed_parts ts)

-- ( identifier sort+ )
abbrev pub applied_parts : Sexps Tok → Option (Part × Sexps Tok)
applied_parts ts = do
  i ← any_first ts
  _ ← guard (is_identifier (whole i.0))
  _ ← guard (not (is_empty i.1))
  Some (i.0, i.1)

abbrev pub applied_form : ℕ → Option (Part × Sexps Tok) → Result SortForm ℕ
applied_form at (Some p) = Ok (sort.Applied p.0 p.1)
applied_form at None = Err at

abbrev pub unnamed_form : Sexp Tok → Result SortForm ℕ
unnamed_form (atom t) = Err t.at
unnamed_form (list at ts) = applied_form at (applied_parts ts)

-- the form of a sort, or the first byte of a tree that has none
abbrev pub sort_form : Sexp Tok → Result SortForm ℕ
sort_form t = if is_identifier t then Ok sort.Identifier else unnamed_form t
