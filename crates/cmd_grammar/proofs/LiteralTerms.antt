-- A literal reads as a term.
use Rattle.std.proofs.Common.{◌≡◌, ℕ, false, ◌==◌, Some, Ok, IsTrue, refl, ap, sym, subst, ◌∙◌}
use Rattle.std.proofs.lemmas.Bool.{eqb-true}
use Rattle.std.proofs.lemmas.Option.{option_and_then_some}
use Rattle.lex_core.specs.declared.token.TokKind.{TokKind}
use Rattle.lex_core.specs.declared.token.TokKind.TheVariants as kind
use Rattle.lex_core.specs.declared.token.Tok.{Tok}
use Rattle.sexp_core.specs.Sexp.{Sexp, atom, list, Sexps, nil, cons}
use Rattle.term_grammar.specs.Words.{is_symbol, symbol_kind}
use Rattle.term_grammar.specs.Reads.{read_term, read_qualified}
use Rattle.cmd_grammar.specs.DeclarationForms.{is_literal, negated_parts}
use Rattle.cmd_grammar.specs.DeclarationReads.{negative_by, literal_of}
use Rattle.cmd_grammar.specs.DeclarationViews.{literal_term, symbol_term}
use Rattle.cmd_grammar.proofs.DoBlocks.{some_is, guard_true, end_is, symbol_is_first}
use Rattle.term_grammar.specs.FirstParts.{symbol_first, guard, is_empty}
use Rattle.term_grammar.specs.declared.words.TheConstants.{NOT}
use Rattle.cmd_grammar.specs.Commands.{negative}
use Rattle.term_grammar.specs.Words.{reserved_kind}

symbol_reads : (t : Tok) → IsTrue (is_symbol t) → read_term (atom t) ≡ Ok (symbol_term t)
unfolding read_term read_qualified
symbol_reads t h = rw h refl

not_reserved : (k : TokKind) → IsTrue (symbol_kind k) → reserved_kind k ≡ false
not_reserved kind.Symbol h = refl
not_reserved kind.Open h = absurd (cc)
not_reserved kind.Close h = absurd (cc)
not_reserved kind.Numeral h = absurd (cc)
not_reserved kind.Decimal h = absurd (cc)
not_reserved kind.Hexadecimal h = absurd (cc)
not_reserved kind.Binary h = absurd (cc)
not_reserved kind.Str h = absurd (cc)
not_reserved kind.Reserved h = absurd (cc)
not_reserved kind.Keyword h = absurd (cc)

negation_reads : (at : ℕ) (w t : Tok) → IsTrue (is_symbol w) → IsTrue (is_symbol t)
    → read_term (list at (cons (atom w) (cons (atom t) nil))) ≡ Ok (literal_term (negative at w t))
unfolding read_term read_qualified
negation_reads at w t h k = rw (not_reserved w.kind h, h, k) refl

-- the parts of a negation are two symbols, `not` and another
pub negation_is : (ts : Sexps Tok) (p : Tok × Tok) → negated_parts ts ≡ Some p
    → (ts ≡ cons (atom p.0) (cons (atom p.1) nil)) × IsTrue (is_symbol p.0) × (p.0.name ≡ NOT) × IsTrue (is_symbol p.1)
negation_is ts p h =
    option_and_then_some _ (symbol_first ts) p h (λ w a h1.
    option_and_then_some _ (guard (w.0.name == NOT)) p h1 (λ u b h2.
    option_and_then_some _ (symbol_first w.1) p h2 (λ s c h3.
    option_and_then_some _ (guard (is_empty s.1)) p h3 (λ v d h4.
    let i = symbol_is_first ts w a in
    let j = symbol_is_first w.1 s c in
    let q : (w.0, s.0) ≡ p = cc in
    let P : Tok × Tok → Type 0 = λ x. (ts ≡ cons (atom x.0) (cons (atom x.1) nil)) × IsTrue (is_symbol x.0) × (x.0.name ≡ NOT) × IsTrue (is_symbol x.1) in
    subst P q (i.1 ∙ ap (cons (atom w.0)) (j.1 ∙ ap (cons (atom s.0)) (end_is s.1 v d)), i.0, eqb-true _ _ (guard_true (w.0.name == NOT) u b), j.0)))))

negation_term : (at : ℕ) (ts : Sexps Tok) (p : Tok × Tok) → negated_parts ts ≡ Some p → read_term (list at ts) ≡ Ok (literal_term (literal_of (list at ts)))
negation_term at ts p h =
    let n = negation_is ts p h in
    ap (λ us. read_term (list at us)) n.0 ∙ negation_reads at p.0 p.1 n.1 n.3 ∙ ap (λ o. Ok (literal_term (negative_by at o))) (sym h)

pub literal_reads : (t : Sexp Tok) → IsTrue (is_literal t) → read_term t ≡ Ok (literal_term (literal_of t))
literal_reads (atom t) h = symbol_reads t h
literal_reads (list at ts) h = let s = some_is (negated_parts ts) h in negation_term at ts s.0 s.1

pub ruleset literals = (literal_reads)
