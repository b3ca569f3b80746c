-- What the symbols on bit vectors answer says which of their rules is not met, and the rank of each is decided.
use Rattle.std.proofs.Common.{◌≡◌, ℕ, ◌↔◌, ◌⊎◌, List, map, Option, Some, None, Ok, Err, refl, ap, sym, ◌∙◌, inl, inr, subst}
use Rattle.sort_store.specs.Tree.{Sort}
use Rattle.theory_core.proofs.RankDecisions.{IsDecided, decided_by}
use Rattle.theory_core.proofs.SortsDecided.{sort_decided}
use Rattle.theory_bv.specs.declared.index.Index.{Index}
use Rattle.theory_bv.specs.declared.rank.BvResult.{BvResult}
use Rattle.theory_bv.specs.declared.rank.BvFault.TheVariants.{BadIndex, TooWide}
use Rattle.theory_bv.specs.Answers.{Answer, bv_answer}
use Rattle.theory_bv.specs.Declarations.{Declaration}
use Rattle.theory_bv.specs.Ranks.{HasBvRank, HasBvBadIndex, IsBvTooWide}
use Rattle.theory_bv.specs.Symbols.{declaration_of}
use Rattle.theory_bv.proofs.RankAnswers.{rank-found, rank-bad_index, rank-too_wide}
use Rattle.typer.specs.BitVectors.{HasBitsRank, sort_of, width_of}

module _ (text : List ℕ) (is : List Index) (ws : List (Option ℕ)) where
  by_declaration : {P : Type 0} → (declaration_of text ≡ None → P) → ((d : Declaration) → declaration_of text ≡ Some d → P) → P
  by_declaration {P} none some = by (declaration_of text) refl
    where
      by : (o : Option Declaration) → declaration_of text ≡ o → P
      by None e = none e
      by (Some d) e = some d e

  pub rank_answered : (r : BvResult) → (bv_answer text is ws ≡ Ok (Some r)) ↔ HasBvRank text is ws r
  rank_answered r = by_declaration (λ e. rw e (λ h. cc, λ h. absurd h)) (λ d e. rank-found text is ws d e (bv_answer text is ws) (rw e refl) r)

  pub bad_index_answered : (bv_answer text is ws ≡ Err BadIndex) ↔ HasBvBadIndex text is ws
  bad_index_answered = by_declaration (λ e. rw e (λ h. cc, λ h. absurd h)) (λ d e. rank-bad_index text is ws d e (bv_answer text is ws) (rw e refl))

  pub too_wide_answered : (bv_answer text is ws ≡ Err TooWide) ↔ IsBvTooWide text is ws
  too_wide_answered = by_declaration (λ e. rw e (λ h. cc, λ h. absurd h)) (λ d e. rank-too_wide text is ws d e (bv_answer text is ws) (rw e refl))

-- an answer is one of these or another
is_bad_index : (x : Answer) → IsDecided (x ≡ Err BadIndex)
is_bad_index (Ok o) = inr (λ e. cc)
is_bad_index (Err BadIndex) = inl refl
is_bad_index (Err TooWide) = inr (λ e. cc)

is_too_wide : (x : Answer) → IsDecided (x ≡ Err TooWide)
is_too_wide (Ok o) = inr (λ e. cc)
is_too_wide (Err BadIndex) = inr (λ e. cc)
is_too_wide (Err TooWide) = inl refl

is_found : (x : Answer) → IsDecided ((r : BvResult) × (x ≡ Ok (Some r)))
is_found (Ok (Some r)) = inl (r, refl)
is_found (Ok None) = inr (λ h. (let e = h.1 in cc))
is_found (Err f) = inr (λ h. (let e = h.1 in cc))

module _ (text : List ℕ) (is : List Index) (args : List Sort) where
  abbrev ws : List (Option ℕ)
  ws = map width_of args

  pub bad_index_decided : IsDecided (HasBvBadIndex text is ws)
  bad_index_decided = decided_by (bv_answer text is ws ≡ Err BadIndex) (HasBvBadIndex text is ws) (bad_index_answered text is ws).0 (bad_index_answered text is ws).1 (is_bad_index (bv_answer text is ws))

  pub too_wide_decided : IsDecided (IsBvTooWide text is ws)
  too_wide_decided = decided_by (bv_answer text is ws ≡ Err TooWide) (IsBvTooWide text is ws) (too_wide_answered text is ws).0 (too_wide_answered text is ws).1 (is_too_wide (bv_answer text is ws))

  pub bits_rank_decided : IsDecided ((t : Sort) × HasBitsRank text is args t)
  bits_rank_decided =
      decided_by ((r : BvResult) × (bv_answer text is ws ≡ Ok (Some r))) ((t : Sort) × HasBitsRank text is args t) (λ h. (sort_of h.0, record { found = h.0; rank = (rank_answered text is ws h.0).0 h.1; sort_is = refl }))
      (λ h. (h.1.found, (rank_answered text is ws h.1.found).1 h.1.rank)) (is_found (bv_answer text is ws))

  pub bits_result_once : (t u : Sort) → HasBitsRank text is args t → HasBitsRank text is args u → t ≡ u
  bits_result_once t u h k =
      let same : Ok (Some h.found) ≡ Ok (Some k.found) = sym ((rank_answered text is ws h.found).1 h.rank) ∙ (rank_answered text is ws k.found).1 k.rank in
      let one : h.found ≡ k.found = cc in
      h.sort_is ∙ ap sort_of one ∙ sym k.sort_is

  pub bits_result_decided : (t : Sort) → HasBitsRank text is args t ⊎ (HasBitsRank text is args t → ⊥)
  bits_result_decided t = elim bits_rank_decided [
    | inl w ↦ decided_by (w.0 ≡ t) (HasBitsRank text is args t) (λ e. subst (HasBitsRank text is args) e w.1) (bits_result_once w.0 t w.1) (sort_decided w.0 t)
    | inr n ↦ inr (λ h. n (t, h))
  ]
