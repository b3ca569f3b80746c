-- A test that decides a kind of terms finds one exactly where a command has one.
use Rattle.std.proofs.Common.{Bool, IsTrue, refl, rules}
use Rattle.std.specs.Prelude.{◌↔◌}
use Rattle.std.specs.List.{list_any}
use Rattle.std.proofs.lemmas.List.Folds.{list_any-from_Any, Any-from_list_any}
use Rattle.term_store.specs.Command.{PlainCommand}
use Rattle.term_store.specs.Term.{PlainTerm, term, lit, var, app, let_in, quant, match_on, ann}
use Rattle.logic_frag.specs.FragmentRules.{HasTerm, IsQuantifier}
use Rattle.logic_frag.specs.Occurrences.{Occurrence, occurrences_in}
use Rattle.logic_frag.specs.Quantifiers.{is_quantifier}

pub has_term : (test : Occurrence → Bool) (Kind : Occurrence → Type 0) → ((o : Occurrence) → IsTrue (test o) ↔ Kind o) → (c : PlainCommand) → IsTrue (list_any test (occurrences_in c)) ↔ HasTerm c Kind
has_term test Kind decides c = (there_is, is_found)
  where
    there_is : IsTrue (list_any test (occurrences_in c)) → HasTerm c Kind
    there_is h =
        let any = Any-from_list_any test (occurrences_in c) h in
        record { its = any.1; contained = (any.0, any.2, any.3); kind = (decides any.1).0 any.4 }

    is_found : HasTerm c Kind → IsTrue (list_any test (occurrences_in c))
    is_found h =
        let at = h.contained in
        list_any-from_Any test (occurrences_in c) (at.0, h.its, at.1, at.2, (decides h.its).1 h.kind)

pub quantifier_decides : (t : PlainTerm) → IsTrue (is_quantifier t) ↔ IsQuantifier t
quantifier_decides (term u s (lit k n)) = search rules
quantifier_decides (term u s (var n)) = search rules
quantifier_decides (term u s (app f ts)) = search rules
quantifier_decides (term u s (let_in vs ts b)) = search rules
quantifier_decides (term u s (quant all vs b)) = (λ h. tt, λ h. refl)
quantifier_decides (term u s (match_on t cs)) = search rules
quantifier_decides (term u s (ann b ns)) = search rules
