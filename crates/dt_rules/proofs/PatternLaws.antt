-- Each pattern has exactly one outcome.
use Rattle.std.proofs.Common.{◌≡◌, ℕ, zero, suc, arith, ap, Bool, true, false, List, [], ◌∷◌, ◌++◌, Option, Some, None, ◌⊎◌, inl, inr, refl}
use Rattle.lex_core.specs.declared.token.Tok.{Tok}
use Rattle.judgement.specs.Judging.{Lawful}
use Rattle.judgement.proofs.JudgementLaws.{lawful-done, lawful-check, lawful-find, lawful-then, option_decided}
use Rattle.term_grammar.specs.Syntax.{symbol_pattern, constructor_pattern}
use Rattle.term_grammar.specs.Syntax as syntax
use Rattle.term_store.specs.Command.{PlainConstructor, PlainDatatype}
use Rattle.dt_rules.specs.PatternRules.{constructor_named, judge_constant, judge_pattern, judge_variables}

same_number : (m n : ℕ) → (m ≡ n) ⊎ (m ≡ n → ⊥)
same_number zero zero = inl refl
same_number zero (suc n) = inr (λ h. omega (arith, h))
same_number (suc m) zero = inr (λ h. omega (arith, h))
same_number (suc m) (suc n) = elim (same_number m n) [ inl h ↦ inl (ap suc h) | inr differs ↦ inr (λ h. differs (omega (arith, h))) ]

is_false : (b : Bool) → (b ≡ false) ⊎ (b ≡ false → ⊥)
is_false true = inr (λ h. cc)
is_false false = inl refl

lawful-constant : (s : Tok) (o : Option PlainConstructor) → Lawful (judge_constant s o)
lawful-constant s None = lawful-done _
lawful-constant s (Some c) = lawful-then _ _ (lawful-check _ _ _ (same_number _ _)) (λ _. lawful-done _)

lawful-variables : (names : List ℕ) (vs : List Tok) → Lawful (judge_variables names vs)
lawful-variables names [] = lawful-done _
lawful-variables names (v ∷ vs) = lawful-then _ _ (lawful-check _ _ _ (is_false _)) (λ _. lawful-variables (names ++ v.name ∷ []) vs)

pub lawful_pattern : (t : PlainDatatype) (p : syntax.Pattern) → Lawful (judge_pattern t p)
lawful_pattern t (symbol_pattern s) = lawful-constant s (constructor_named t s.name)
lawful_pattern t (constructor_pattern at s vs) =
    lawful-then _ _ (lawful-find _ _ _ (option_decided (constructor_named t s.name))) (λ c. lawful-then _ _ (lawful-check _ _ _ (same_number _ _)) (λ _. lawful-then _ _ (lawful-variables [] vs) (λ names. lawful-done _)))
