-- What the width of a literal says of its sort.
use Rattle.std.proofs.Common.{◌≡◌, ℕ, ◌-◌, ◌*◌, ◌<◌, true, if◌then◌else◌, List, length, Some, None, Result, Ok, Err, refl, ap, sym, ◌∙◌, inl, inr, arith, subst}
use Rattle.sig_table.specs.declared.theories.Theories.{Theories}
use Rattle.sig_table.specs.declared.code.Code.TheVariants.{NumberTooLarge}
use Rattle.lex_core.specs.declared.token.Tok.{Tok}
use Rattle.lex_core.specs.declared.token.TokKind.{TokKind}
use Rattle.lex_core.specs.declared.token.TokKind.TheVariants as kind
use Rattle.std.specs.Result.{IfErr, IfOk}
use Rattle.sort_store.specs.declared.head.Head.{Head}
use Rattle.sort_store.specs.Tree.{Sort, NumberedSort, no_sorts, sort}
use Rattle.sort_store.specs.Tree as sort_tree
use Rattle.term_store.specs.declared.term.TermNode.TheVariants as node
use Rattle.term_store.specs.NumberedNodes.{term_of}
use Rattle.term_store.specs.Term as terms
use Rattle.term_store.specs.Term.{PlainTerm, lit, term}
use Rattle.dt_rules.specs.declared.error.TyError.TheVariants as error
use Rattle.typer.specs.declared.typed.TypedTerm.{TypedTerm}
use Rattle.dt_rules.specs.declared.error.TyError.{TyError}
use Rattle.typer.specs.Answers.{Answers, fault_at, typed_answer}
use Rattle.typer.specs.BitVectors.{bit_vector}
use Rattle.typer.specs.FunctionSymbols.{Signature, text_of}
use Rattle.typer.specs.TermRules.{judge_literal, judge_literal_sort, literal_sort}

module _ (theories : Theories) (text : List ℕ) (k : TokKind) (bits : theories.bits ≡ true) where
  pub binary_sort : k ≡ kind.Binary → literal_sort theories text k ≡ Some (bit_vector (length text - 2))
  binary_sort e = ap (literal_sort theories text) e ∙ ap (λ b. if b then Some (bit_vector (length text - 2)) else None) bits

  pub hexadecimal_sort : k ≡ kind.Hexadecimal → literal_sort theories text k ≡ Some (bit_vector (4 * (length text - 2)))
  hexadecimal_sort e = ap (literal_sort theories text) e ∙ ap (λ b. if b then Some (bit_vector (4 * (length text - 2))) else None) bits

pub wide_literal : (signature : Signature) (t : Tok) (width : ℕ) (e : TyError) → literal_sort signature.theories (text_of signature t.name) t.kind ≡ Some (bit_vector width) → (width < 4294967296 → ⊥)
    → e ≡ fault_at NumberTooLarge t.at → Answers {A = Sort} (Err e) (judge_literal_sort signature t)
wide_literal signature t width e is wide same =
    subst (λ z. Answers {A = Sort} (Err z) (judge_literal_sort signature t)) (sym same) (λ before. inr (bit_vector width, before, (is, refl), inl ((λ narrow. wide (omega (arith, narrow))), refl)))

-- the literal with its sort
module _ (signature : Signature) (t : Tok) where
  pub literal_fails : (e : TyError) → Answers {A = Sort} (Err e) (judge_literal_sort signature t) → Answers {A = PlainTerm} (Err e) (judge_literal signature t)
  literal_fails (error.Fault place) h = λ before. inl (h before)
  literal_fails error.NoMemory h = tt

  pub literal_made : (h : Head) (s : NumberedSort) (r : Result TypedTerm TyError) → Answers (Ok (sort h no_sorts)) (judge_literal_sort signature t) → sort_tree.tree s ≡ sort h no_sorts
      → IfOk r (λ u. terms.tree u.term ≡ term_of s (node.Lit t.kind t.name)) → IfErr r (λ e. e ≡ error.NoMemory) → Answers (typed_answer r) (judge_literal signature t)
  literal_made h s (Ok u) k e made err = λ before. (sort h no_sorts, before, k before, (made ∙ ap (λ z. term tt z (lit t.kind t.name)) e, refl))
  literal_made h s (Err e) k f made same = subst (λ z. Answers {A = PlainTerm} (Err z) (judge_literal signature t)) (sym same) tt
