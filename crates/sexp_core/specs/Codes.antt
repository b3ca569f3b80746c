-- Codes of tokens and items, which the codes of trees are made of.
use Rattle.std.specs.Prelude.{◌≡◌, ℕ, refl}
use Rattle.std.specs.Coded.{Coded, code_by, coded×, coded⊎, coded_ℕ}
use Rattle.std.proofs.Common.{zero, suc, inl, inr, ◌⊎◌}
use Rattle.lex_core.specs.declared.token.TokKind.{TokKind}
use Rattle.lex_core.specs.declared.token.TokKind.TheVariants as kind
use Rattle.lex_core.specs.declared.token.Tok.{Tok}
use Rattle.sexp_core.specs.declared.tree.Item.{Item}
use Rattle.sexp_core.specs.declared.tree.Item.TheVariants as item

abbrev kind_number : TokKind → ℕ
kind_number kind.Open = 0
kind_number kind.Close = 1
kind_number kind.Numeral = 2
kind_number kind.Decimal = 3
kind_number kind.Hexadecimal = 4
kind_number kind.Binary = 5
kind_number kind.Str = 6
kind_number kind.Symbol = 7
kind_number kind.Reserved = 8
kind_number kind.Keyword = 9

abbrev number_kind : ℕ → TokKind
number_kind zero = kind.Open
number_kind (suc zero) = kind.Close
number_kind (suc (suc zero)) = kind.Numeral
number_kind (suc (suc (suc zero))) = kind.Decimal
number_kind (suc (suc (suc (suc zero)))) = kind.Hexadecimal
number_kind (suc (suc (suc (suc (suc zero))))) = kind.Binary
number_kind (suc (suc (suc (suc (suc (suc zero)))))) = kind.Str
number_kind (suc (suc (suc (suc (suc (suc (suc zero))))))) = kind.Symbol
number_kind (suc (suc (suc (suc (suc (suc (suc (suc zero)))))))) = kind.Reserved
number_kind (suc (suc (suc (suc (suc (suc (suc (suc (suc n))))))))) = kind.Keyword

pub kind_back : (k : TokKind) → number_kind (kind_number k) ≡ k
kind_back kind.Open = refl
kind_back kind.Close = refl
kind_back kind.Numeral = refl
kind_back kind.Decimal = refl
kind_back kind.Hexadecimal = refl
kind_back kind.Binary = refl
kind_back kind.Str = refl
kind_back kind.Symbol = refl
kind_back kind.Reserved = refl
kind_back kind.Keyword = refl

abbrev pub tok_code : Coded Tok
tok_code = code_by (ℕ × (ℕ × ℕ)) (coded× coded_ℕ (coded× coded_ℕ coded_ℕ))
    (λ t. (kind_number t.kind, (t.name, t.at))) (λ p. record { kind = number_kind p.0; name = p.1.0; at = p.1.1 })
    tok_back
  where
    tok_back : (t : Tok) → record { kind = number_kind (kind_number t.kind); name = t.name; at = t.at } ≡ t
    tok_back t = rw kind_back refl

abbrev item_parts : Item → (ℕ × ℕ) ⊎ Tok
item_parts (item.Open skip at) = inl (skip, at)
item_parts (item.Atom t) = inr t

abbrev parts_item : (ℕ × ℕ) ⊎ Tok → Item
parts_item (inl p) = item.Open p.0 p.1
parts_item (inr t) = item.Atom t

pub parts_back : (i : Item) → parts_item (item_parts i) ≡ i
parts_back (item.Open skip at) = refl
parts_back (item.Atom t) = refl

abbrev pub item_code : Coded Item
item_code = code_by ((ℕ × ℕ) ⊎ Tok) (coded⊎ (coded× coded_ℕ coded_ℕ) tok_code) item_parts parts_item parts_back
