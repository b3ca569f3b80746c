-- The tests of the code tell whether the patterns cover a datatype.
use Rattle.std.proofs.Common.{◌≡◌, ◌↔◌, ◌⊎◌, Bool, true, false, IsTrue, List, map, inl, inr, ap, refl, sym, ◌∙◌}
use Rattle.std.proofs.lemmas.Bool.{false≢true}
use Rattle.std.specs.List.{list_all, list_any}
use Rattle.std.proofs.lemmas.List.Folds.{Any-from_list_any, list_all-map, list_any-from_Any}
use Rattle.std.proofs.lemmas.List.Sums.{AllPass-from_list_all, list_all-from_AllPass}
use Rattle.term_store.specs.declared.command.Constructor.{Constructor}
use Rattle.term_store.specs.Command.{PlainConstructor, PlainDatatype, plain_constructor}
use Rattle.term_store.specs.declared.parts.Pattern.{Pattern}
use Rattle.dt_rules.specs.Coverage.{is_variable, is_of_constructor, Covers}

module _ (ps : List Pattern) (t : PlainDatatype) where
  variable_covers : list_any is_variable ps ≡ true → Covers ps t
  variable_covers e = inl (Any-from_list_any is_variable ps e)

  patterns_cover : list_all (λ c. list_any (is_of_constructor c.no) ps) t.constructors ≡ true → Covers ps t
  patterns_cover e = inr (λ k d l. Any-from_list_any (is_of_constructor _) ps (AllPass-from_list_all (λ c. list_any (is_of_constructor c.no) ps) t.constructors e k d l))

  only_patterns : Covers ps t → false ≡ list_any is_variable ps → list_all (λ c. list_any (is_of_constructor c.no) ps) t.constructors ≡ true
  only_patterns (inl some) e = absurd (false≢true (e ∙ list_any-from_Any is_variable ps some))
  only_patterns (inr all) e = list_all-from_AllPass (λ c. list_any (is_of_constructor c.no) ps) t.constructors (λ k d l. list_any-from_Any (is_of_constructor _) ps (all k d l))

  -- a pattern is a variable
  pub covered_by_variable : (b : Bool) → b ≡ true → true ≡ list_any is_variable ps → IsTrue b ↔ Covers ps t
  covered_by_variable b e f = (λ h. variable_covers (sym f), λ h. e)

  -- none is, so that the constructors decide
  pub covered_by_patterns : (b : Bool) (cs : List Constructor) → false ≡ list_any is_variable ps → b ≡ list_all (λ c. list_any (is_of_constructor c.no) ps) cs → map plain_constructor cs ≡ t.constructors → IsTrue b ↔ Covers ps t
  covered_by_patterns b cs e f same =
      let all = f ∙ sym (list_all-map (λ (c : PlainConstructor). list_any (is_of_constructor c.no) ps) plain_constructor cs) ∙ ap (list_all (λ (c : PlainConstructor). list_any (is_of_constructor c.no) ps)) same in
      (λ h. patterns_cover (sym all ∙ h), λ h. all ∙ only_patterns h e)

  -- whether they do is decided
  pub covers_decided : Covers ps t ⊎ (Covers ps t → ⊥)
  covers_decided = by (list_any is_variable ps) (list_all (λ c. list_any (is_of_constructor c.no) ps) t.constructors) refl refl
    where
      by : (a b : Bool) → list_any is_variable ps ≡ a → list_all (λ (c : PlainConstructor). list_any (is_of_constructor c.no) ps) t.constructors ≡ b → Covers ps t ⊎ (Covers ps t → ⊥)
      by true b e f = inl (variable_covers e)
      by false true e f = inl (patterns_cover f)
      by false false e f = inr (λ h. false≢true (sym f ∙ only_patterns h (sym e)))
