-- The search for an array sort finds one exactly where one is among the sorts of the command.
use Rattle.std.proofs.Common.{◌≡◌, Bool, true, false, ◌||◌, ◌&&◌, not, List, [], ◌∷◌, ◌++◌, IsTrue, refl, sym, ap, subst, ◌∙◌, rules}
use Rattle.std.specs.Prelude.{◌↔◌, Result, Ok, Err, IfOk}
use Rattle.std.specs.List.{list_any, flat_map}
use Rattle.std.proofs.lemmas.List.Folds.{list_any-append, list_any-from_Any, Any-from_list_any}
use Rattle.sort_store.specs.declared.head.Head.TheVariants as head
use Rattle.sort_store.specs.Tree.{Sort, sort, SortList, no_sorts, more_sorts, sorts}
use Rattle.term_store.specs.Command.{PlainCommand}
use Rattle.logic_frag.specs.declared.logic.ArrayPart.{ArrayPart}
use Rattle.logic_frag.specs.declared.logic.ArrayPart.TheVariants as arrays
use Rattle.logic_frag.specs.ArraySorts.{sorts_in, sorts_in_each, sorts_at, declared_sorts, command_sorts, IsBitVector, AreBitVectors, IsOtherArray}
use Rattle.logic_frag.specs.FragmentRules.{HasSort, HasTerm}
use Rattle.logic_frag.specs.IntegerTerms.{int}
use Rattle.logic_frag.specs.Occurrences.{Occurrence, occurrences_in}
use Rattle.logic_frag.specs.SortSearch.{has_sort, any_has_sort, is_element, are_elements, is_other_array, has_other_array, has_array_at, command_has_array}
use Rattle.logic_frag.proofs.FoundTerms.{has_term}

-- the test of one sort

pub is_int : (s : Sort) → IsTrue (is_element arrays.Ints s) → s ≡ int
is_int (sort head.Bool no_sorts) h = cc
is_int (sort head.Int no_sorts) h = refl
is_int (sort head.Array no_sorts) h = cc
is_int (sort (head.BitVec m) no_sorts) h = cc
is_int (sort (head.Free d n) no_sorts) h = cc
is_int (sort (head.Data d n) no_sorts) h = cc
is_int (sort (head.Param i) no_sorts) h = cc
is_int (sort h (more_sorts t ts)) e = cc

pub both_true : (a b : Bool) → IsTrue (a && b) → IsTrue a × IsTrue b
both_true true true h = (refl, refl)
both_true true false h = cc
both_true false b h = cc

ints : (ts : SortList) → IsTrue (are_elements arrays.Ints ts) ↔ (ts ≡ sorts (int ∷ int ∷ []))
ints ts = (are_ints ts, λ e. subst (λ x. IsTrue (are_elements arrays.Ints x)) (sym e) refl)
  where
    are_ints : (us : SortList) → IsTrue (are_elements arrays.Ints us) → us ≡ sorts (int ∷ int ∷ [])
    are_ints no_sorts h = cc
    are_ints (more_sorts s no_sorts) h = cc
    are_ints (more_sorts s (more_sorts t no_sorts)) h =
        let both = both_true (is_element arrays.Ints s) (is_element arrays.Ints t) h in
        ap (λ x. more_sorts x (more_sorts t no_sorts)) (is_int s both.0) ∙ ap (λ x. more_sorts int (more_sorts x no_sorts)) (is_int t both.1)
    are_ints (more_sorts s (more_sorts t (more_sorts u us))) h = cc

bit_vector : (s : Sort) → IsTrue (is_element arrays.Bits s) ↔ IsBitVector s
bit_vector (sort head.Bool no_sorts) = search rules
bit_vector (sort head.Int no_sorts) = search rules
bit_vector (sort head.Array no_sorts) = search rules
bit_vector (sort (head.BitVec m) no_sorts) = (λ h. tt, λ h. refl)
bit_vector (sort (head.Free d n) no_sorts) = search rules
bit_vector (sort (head.Data d n) no_sorts) = search rules
bit_vector (sort (head.Param i) no_sorts) = search rules
bit_vector (sort head.Bool (more_sorts t ts)) = search rules
bit_vector (sort head.Int (more_sorts t ts)) = search rules
bit_vector (sort head.Array (more_sorts t ts)) = search rules
bit_vector (sort (head.BitVec m) (more_sorts t ts)) = search rules
bit_vector (sort (head.Free d n) (more_sorts t ts)) = search rules
bit_vector (sort (head.Data d n) (more_sorts t ts)) = search rules
bit_vector (sort (head.Param i) (more_sorts t ts)) = search rules

pub both_are : (a b : Bool) → IsTrue a → IsTrue b → IsTrue (a && b)
both_are true b p q = q
both_are false b p q = cc

bit_vectors : (ts : SortList) → IsTrue (are_elements arrays.Bits ts) ↔ AreBitVectors ts
bit_vectors no_sorts = search rules
bit_vectors (more_sorts s no_sorts) = search rules
bit_vectors (more_sorts s (more_sorts t no_sorts)) = (
  λ h. let both = both_true (is_element arrays.Bits s) (is_element arrays.Bits t) h in ((bit_vector s).0 both.0, (bit_vector t).0 both.1),
  λ h. both_are (is_element arrays.Bits s) (is_element arrays.Bits t) ((bit_vector s).1 h.0) ((bit_vector t).1 h.1),
)
bit_vectors (more_sorts s (more_sorts t (more_sorts u us))) = search rules

pub not_decides : (b : Bool) (P : Type 0) → (IsTrue b ↔ P) → IsTrue (not b) ↔ (P → ⊥)
not_decides true P d = (λ h. cc, λ f. absurd (f (d.0 refl)))
not_decides false P d = (λ h p. let e : false ≡ true = d.1 p in cc, λ f. refl)

other_array : (part : ArrayPart) (s : Sort) → IsTrue (is_other_array part s) ↔ IsOtherArray part s
other_array arrays.Absent (sort h ts) = search rules
other_array arrays.Any (sort h ts) = search rules
other_array arrays.Ints (sort head.Array ts) = not_decides (are_elements arrays.Ints ts) (ts ≡ sorts (int ∷ int ∷ [])) (ints ts)
other_array arrays.Ints (sort head.Bool ts) = search rules
other_array arrays.Ints (sort head.Int ts) = search rules
other_array arrays.Ints (sort (head.BitVec m) ts) = search rules
other_array arrays.Ints (sort (head.Free d n) ts) = search rules
other_array arrays.Ints (sort (head.Data d n) ts) = search rules
other_array arrays.Ints (sort (head.Param i) ts) = search rules
other_array arrays.Bits (sort head.Array ts) = not_decides (are_elements arrays.Bits ts) (AreBitVectors ts) (bit_vectors ts)
other_array arrays.Bits (sort head.Bool ts) = search rules
other_array arrays.Bits (sort head.Int ts) = search rules
other_array arrays.Bits (sort (head.BitVec m) ts) = search rules
other_array arrays.Bits (sort (head.Free d n) ts) = search rules
other_array arrays.Bits (sort (head.Data d n) ts) = search rules
other_array arrays.Bits (sort (head.Param i) ts) = search rules

-- the search through the sorts of a command

mutual
  found_sort : (kind : Sort → Bool) (s : Sort) → list_any kind (sorts_in s) ≡ has_sort kind s
  found_sort kind (sort h ts) = ap (λ b. kind (sort h ts) || b) (found_each kind ts)

  found_each : (kind : Sort → Bool) (ts : SortList) → list_any kind (sorts_in_each ts) ≡ any_has_sort kind ts
  found_each kind no_sorts = refl
  found_each kind (more_sorts t ts) =
      list_any-append kind (sorts_in t) (sorts_in_each ts) ∙ ap (λ b. b || list_any kind (sorts_in_each ts)) (found_sort kind t)
      ∙ ap (λ b. has_sort kind t || b) (found_each kind ts)

-- in one of the lists that the items stand for
any_flat : {X Y : Type 0} (f : X → List Y) (p : X → Bool) (q : Y → Bool) → ((x : X) → list_any q (f x) ≡ p x) → (xs : List X) → list_any q (flat_map f xs) ≡ list_any p xs
any_flat f p q e [] = refl
any_flat f p q e (x ∷ xs) =
    list_any-append q (f x) (flat_map f xs) ∙ ap (λ b. b || list_any q (flat_map f xs)) (e x) ∙ ap (λ b. p x || b) (any_flat f p q e xs)

found_in_sorts : (part : ArrayPart) (c : PlainCommand) → list_any (is_other_array part) (command_sorts c) ≡ command_has_array part c
found_in_sorts part c =
    any_flat sorts_in (has_other_array part) (is_other_array part) (found_sort (is_other_array part)) (declared_sorts c ++ flat_map sorts_at (occurrences_in c))
    ∙ list_any-append (has_other_array part) (declared_sorts c) (flat_map sorts_at (occurrences_in c))
    ∙ ap (λ b. list_any (has_other_array part) (declared_sorts c) || b)
    (any_flat sorts_at (λ (o : Occurrence). has_array_at part o.its) (has_other_array part) (λ o. refl) (occurrences_in c))

pub has_array_sort : (part : ArrayPart) (c : PlainCommand) → IsTrue (command_has_array part c) ↔ HasSort c (IsOtherArray part)
has_array_sort part c = (there_is, is_found)
  where
    there_is : IsTrue (command_has_array part c) → HasSort c (IsOtherArray part)
    there_is h =
        let any = Any-from_list_any (is_other_array part) (command_sorts c) (found_in_sorts part c ∙ h) in
        record { its = any.1; contained = (any.0, any.2, any.3); kind = (other_array part any.1).0 any.4 }

    is_found : HasSort c (IsOtherArray part) → IsTrue (command_has_array part c)
    is_found h =
        let at = h.contained in
        sym (found_in_sorts part c) ∙ list_any-from_Any (is_other_array part) (command_sorts c) (at.0, h.its, at.1, at.2, (other_array part h.its).1 h.kind)

abbrev HasArrayTerm : ArrayPart → PlainCommand → Type 0
HasArrayTerm part c = HasTerm c (λ o. IsTrue (has_array_at part o.its))

-- where no declaration has such a sort, a term has it
in_terms : (part : ArrayPart) (c : PlainCommand) → list_any (has_other_array part) (declared_sorts c) ≡ false → HasArrayTerm part c ↔ HasSort c (IsOtherArray part)
in_terms part c e =
    let test = λ (o : Occurrence). has_array_at part o.its in
    let found = has_term test (λ o. IsTrue (test o)) (λ o. (λ h. h, λ h. h)) c in
    let all : command_has_array part c ≡ list_any test (occurrences_in c) = ap (λ b. b || list_any test (occurrences_in c)) e in
    (λ h. (has_array_sort part c).0 (all ∙ found.1 h), λ h. found.0 (sym all ∙ (has_array_sort part c).1 h))

pub terms_answer : {E : Type 0} (part : ArrayPart) (c : PlainCommand) (r : Result Bool E) → list_any (has_other_array part) (declared_sorts c) ≡ false
    → IfOk r (λ b. IsTrue b ↔ HasArrayTerm part c) → IfOk r (λ b. IsTrue b ↔ HasSort c (IsOtherArray part))
terms_answer part c (Ok b) e h = (λ t. (in_terms part c e).0 (h.0 t), λ s. h.1 ((in_terms part c e).1 s))
terms_answer part c (Err x) e h = tt

-- .. and where one has it, the command has it
pub in_declarations : (part : ArrayPart) (c : PlainCommand) → list_any (has_other_array part) (declared_sorts c) ≡ true → HasSort c (IsOtherArray part)
in_declarations part c e = (has_array_sort part c).0 (ap (λ b. b || list_any (λ (o : Occurrence). has_array_at part o.its) (occurrences_in c)) e)

pub appended : (part : ArrayPart) (xs ys : List Sort) → list_any (has_other_array part) (xs ++ ys) ≡ (list_any (has_other_array part) xs || list_any (has_other_array part) ys)
appended part xs ys = list_any-append (has_other_array part) xs ys

pub ruleset declared_words = (appended)
