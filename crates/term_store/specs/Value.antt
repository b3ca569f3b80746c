-- The value of an attribute is an s-expression (SMT-LIB 2.6, section 3.4). Where its tokens stood in
-- the input plays no part in what it is.
use Rattle.std.specs.Prelude.{Option, Some, None}
use Rattle.lex_core.specs.declared.token.Tok.{Tok}
use Rattle.sexp_core.specs.declared.tree.Item.{Item}
use Rattle.sexp_core.specs.declared.tree.Item.TheVariants as item
use Rattle.sexp_core.specs.Sexp.{Sexp, Sexps, atom, list, nil, cons}

-- the same token at byte 0
abbrev pub unplaced_token : Tok → Tok
unplaced_token t = record { kind = t.kind; name = t.name; at = 0 }

-- the same s-expression with each byte 0
abbrev mutual
  pub unplaced : Sexp Tok → Sexp Tok
  unplaced (atom t) = atom (unplaced_token t)
  unplaced (list at ts) = list 0 (unplaced_all ts)

  pub unplaced_all : Sexps Tok → Sexps Tok
  unplaced_all nil = nil
  unplaced_all (cons t ts) = cons (unplaced t) (unplaced_all ts)

abbrev pub unplaced_value : Option (Sexp Tok) → Option (Sexp Tok)
unplaced_value None = None
unplaced_value (Some t) = Some (unplaced t)

-- the same item of a flat tree at byte 0
abbrev pub unplaced_item : Item → Item
unplaced_item (item.Open skip at) = item.Open skip 0
unplaced_item (item.Atom t) = item.Atom (unplaced_token t)
