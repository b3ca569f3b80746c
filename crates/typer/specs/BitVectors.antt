-- Function symbols on bit vectors in a term: their indices, the widths of their arguments and the rule on their ranks (SMT-LIB 2.6,
-- theory declaration FixedSizeBitVectors, and the logic declaration QF_BV).
use Rattle.std.specs.Prelude.{◌≡◌, ℕ, false, if◌then◌else◌, List, [], map, Option, Some, None, slice_index_or}
use Rattle.sig_table.specs.declared.code.Code.TheVariants.{NumberTooLarge, WrongIndex}
use Rattle.sig_table.specs.declared.theories.NameForm.{NameForm}
use Rattle.sig_table.specs.declared.theories.Theories.{Theories}
use Rattle.lex_core.specs.declared.token.Tok.{Tok}
use Rattle.judgement.specs.Judging.{Judging, ◌>>=◌, check}
use Rattle.term_grammar.specs.Words.{is_numeral}
use Rattle.sort_store.specs.declared.head.Head.{Head}
use Rattle.sort_store.specs.declared.head.Head.TheVariants as head
use Rattle.sort_store.specs.Tree.{Sort, sort, SortList, no_sorts}
use Rattle.sort_store.specs.CoreRanks.{bool}
use Rattle.theory_bv.specs.declared.index.Index.{Index}
use Rattle.theory_bv.specs.declared.index.Index.TheVariants.{Symbol}
use Rattle.theory_bv.specs.declared.rank.BvResult.{BvResult}
use Rattle.theory_bv.specs.declared.rank.BvResult.TheVariants as result
use Rattle.theory_bv.specs.Indices.{index_with, numeral_value}
use Rattle.theory_bv.specs.Ranks.{HasBvRank, HasBvBadIndex, IsBvTooWide}
use Rattle.theory_bv.specs.Symbols.{form_of}
use Rattle.typer.specs.RankRules.{judge_rank}

-- (_ BitVec m)
abbrev pub bit_vector : ℕ → Sort
bit_vector width = sort (head.BitVec width) no_sorts

abbrev pub head_width : Head → SortList → Option ℕ
head_width (head.BitVec width) no_sorts = Some width
head_width _ ts = None

-- the width of a sort of bit vectors
abbrev pub width_of : Sort → Option ℕ
width_of (sort h ts) = head_width h ts

-- the index that a token is, which is a numeral or a symbol
abbrev pub index_of : List (List ℕ) → Tok → Index
index_of texts t = if is_numeral t then index_with (numeral_value (slice_index_or texts t.name [])) else Symbol

-- how a symbol on bit vectors with this text is written, where the logic has bit vectors
abbrev pub bits_form : Theories → List ℕ → Option NameForm
bits_form theories text = if theories.bits then form_of text else None

-- the sort of a result
abbrev pub sort_of : BvResult → Sort
sort_of result.Bool = bool
sort_of (result.Width width) = bit_vector width

-- the symbol with these indices has the rank with these argument sorts and this result sort
pub record HasBitsRank (text : List ℕ) (is : List Index) (args : List Sort) (t : Sort) : Type 0 where
  pub found : BvResult
  pub rank : HasBvRank text is (map width_of args) found
  pub sort_is : t ≡ sort_of found

-- The rule on the rank of the symbol: no index is wrong, no index and no width is too large, and the rest is as it is for other
-- symbols.
abbrev pub judge_bits : List ℕ → List Index → ℕ → List Sort → Option Sort → Judging Sort
judge_bits text is at args asked = do
  _ ← check (HasBvBadIndex text is (map width_of args) → ⊥) WrongIndex at
  _ ← check (IsBvTooWide text is (map width_of args) → ⊥) NumberTooLarge at
  judge_rank (HasBitsRank text is args) false at asked
