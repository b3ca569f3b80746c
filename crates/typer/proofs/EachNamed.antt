-- What is true of each named term among declarations.
use Rattle.std.proofs.Common.{◌≡◌, ℕ, zero, suc, List, [], ◌∷◌, ◌++◌, ◌⊎◌, inl, inr, arith, subst}
use Rattle.std.specs.List.{Contains}
use Rattle.std.proofs.lemmas.List.Elements.{Contains-append_cases}
use Rattle.sort_store.specs.declared.head.DeclNo.{DeclNo}
use Rattle.term_store.specs.Term.{PlainTerm}
use Rattle.term_store.specs.Declarations.{Declaration, term_name}

module _ (P : PlainTerm → Type 0) where
  abbrev pub EachNamed : List Declaration → Type 0
  EachNamed ds = (d : DeclNo) (name : ℕ) (u : PlainTerm) → Contains ds (term_name d name u) → P u

  pub none_named : EachNamed []
  none_named d name u h = absurd (omega (arith, h.1))

  pub append_named : (ds es : List Declaration) → EachNamed ds → EachNamed es → EachNamed (ds ++ es)
  append_named ds es h k d name u c = by (Contains-append_cases ds es (term_name d name u) c)
    where
      by : Contains ds (term_name d name u) ⊎ Contains es (term_name d name u) → P u
      by (inl a) = h d name u a
      by (inr b) = k d name u b

  pub one_named : (d : DeclNo) (name : ℕ) (u : PlainTerm) → P u → EachNamed (term_name d name u ∷ [])
  one_named d name u h e other v c = by c
    where
      by : Contains (term_name d name u ∷ []) (term_name e other v) → P v
      by (zero, l, same) = let p : u ≡ v = cc in subst P p h
      by (suc k, l, same) = absurd (omega (arith, l))
