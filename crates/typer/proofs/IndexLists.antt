-- The lists that a function symbol's indices and arguments go through.
use Rattle.std.proofs.Common.{◌≡◌, ℕ, ◌==◌, true, List, [], ◌∷◌, ◌++◌, length, Option, Some, None, refl, ap, sym, ◌∙◌, arith, append_assoc}
use Rattle.std.proofs.lemmas.Bool.{eqb-true}
use Rattle.lex_core.specs.declared.token.Tok.{Tok}
use Rattle.term_grammar.specs.IdentifierViews.{SplitsTokens}
use Rattle.sort_store.specs.declared.head.Head.TheVariants as heads
use Rattle.sort_store.specs.Tree.{NumberedSort, node, no_nodes, more_nodes, no_sorts, head, parts, tree}
use Rattle.typer.specs.BitVectors.{head_width, width_of}

-- the tokens of a list that is split
abbrev pub tokens_left : Option (Tok × List Tok) → List Tok
tokens_left None = []
tokens_left (Some p) = p.0 ∷ p.1

pub tokens_split : (ts : List Tok) (o : Option (Tok × List Tok)) → SplitsTokens ts o → ts ≡ tokens_left o
tokens_split ts None e = e
tokens_split ts (Some p) e = e

-- one more token is taken
pub tokens_onward : (made new all left : List Tok) (t : Tok) (rest : List Tok) (next : Option (Tok × List Tok)) → made ++ left ≡ all → left ≡ t ∷ rest → SplitsTokens rest next → new ≡ made ++ t ∷ [] → new ++ tokens_left next ≡ all
tokens_onward made new all left t rest next so_far is split more =
    ap (λ z. z ++ tokens_left next) more ∙ append_assoc made (t ∷ []) (tokens_left next) ∙ ap (λ z. made ++ t ∷ z) (sym (tokens_split rest next split)) ∙ ap (λ z. made ++ z) (sym is) ∙ so_far

pub none_empty : (ts : List Tok) → (length ts == 0) ≡ true → ts ≡ []
none_empty [] e = refl
none_empty (t ∷ ts) e = absurd (omega (arith, eqb-true (length (t ∷ ts)) 0 e))

-- the width of a sort, by its sort symbol and the number of its arguments
module _ (width : ℕ) where
  pub width_is : (r : NumberedSort) → heads.BitVec width ≡ head r → length (parts r) ≡ 0 → Some width ≡ width_of (tree r)
  width_is (node n h no_nodes) e none = ap (λ z. head_width z no_sorts) e
  width_is (node n h (more_nodes a rs)) e none = absurd (omega (arith, none))

  pub no_width : (r : NumberedSort) → heads.BitVec width ≡ head r → (length (parts r) ≡ 0 → ⊥) → None ≡ width_of (tree r)
  no_width (node n h no_nodes) e some = absurd (some refl)
  no_width (node n h (more_nodes a rs)) e some = ap (λ z. width_of (tree (node n z (more_nodes a rs)))) e
