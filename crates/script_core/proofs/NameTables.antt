-- The numbers of names in a table that gains names.
use Rattle.std.proofs.Common.{◌≡◌, ℕ, ◌<◌, true, false, not, List, [], ◌∷◌, ◌++◌, length, take, Option, None, Some, refl, sym, ◌∙◌, ap, subst, ◌⊎◌, inl, inr, get_or}
use Rattle.std.specs.List.{list_any}
use Rattle.std.specs.Str.{bytes_eq}
use Rattle.std.proofs.lemmas.Bool.{and_parts, cases_Bool, false≢true, not-true}
use Rattle.std.proofs.lemmas.List.Folds.{list_any_at}
use Rattle.std.proofs.lemmas.Slice.Eq.{bytes_eq-Decides}
use Rattle.lex_core.proofs.NameNumbers.{number_at}
use Rattle.lex_core.specs.LexerCalls.{GainsNameOf}
use Rattle.lex_core.specs.NameTable.{BeginsFixed, IsNameTable, no_repeats, with_text}
use Rattle.lex_core.specs.Token.{IsInterned, Token, fed_tokens, option_tokens, token_of}
use Rattle.lex_core.specs.declared.lexer.Fed.{Fed}
use Rattle.lex_core.specs.declared.token.Tok.{Tok}
use Rattle.sexp_core.specs.Sexp.{Sexp, Sexps, FlatToken, Opening, Closing, Word, atom, list, nil, cons, flat, flat_all, map_sexps}
use Rattle.sexp_core.specs.Tokens.{flat_token, flat_tokens}
use Rattle.script_core.specs.Interned.{AreInterned, sexp_of}
use Rattle.script_core.specs.Numbering.{numbered, numbered_sexp, table_after}

pub table_append : (texts : List (List ℕ)) (xs ys : List (FlatToken Token)) → table_after texts (xs ++ ys) ≡ table_after (table_after texts xs) ys
table_append texts [] ys = refl
table_append texts (Opening at ∷ xs) ys = table_append texts xs ys
table_append texts (Closing ∷ xs) ys = table_append texts xs ys
table_append texts (Word t ∷ xs) ys = table_append (with_text texts t.name) xs ys

-- the number of a token's text is the token's number
numbered_token : (texts : List (List ℕ)) (tok : Tok) → no_repeats texts ≡ true → tok.name < length texts → numbered texts (token_of texts tok) ≡ tok
numbered_token texts tok once named = ap (λ (n : ℕ). record tok { name = n }) (number_at texts tok.name once named)

pub interned_front : (texts : List (List ℕ)) (xs ys : List (FlatToken Tok)) → AreInterned texts (xs ++ ys) → AreInterned texts xs
interned_front texts [] ys h = tt
interned_front texts (Opening at ∷ xs) ys h = interned_front texts xs ys h
interned_front texts (Closing ∷ xs) ys h = interned_front texts xs ys h
interned_front texts (Word tok ∷ xs) ys h = (h.0, interned_front texts xs ys h.1)

interned_back : (texts : List (List ℕ)) (xs ys : List (FlatToken Tok)) → AreInterned texts (xs ++ ys) → AreInterned texts ys
interned_back texts [] ys h = h
interned_back texts (Opening at ∷ xs) ys h = interned_back texts xs ys h
interned_back texts (Closing ∷ xs) ys h = interned_back texts xs ys h
interned_back texts (Word tok ∷ xs) ys h = interned_back texts xs ys h.1

-- a tree is that of its texts with their numbers
mutual
  pub numbered_tree : (texts : List (List ℕ)) (t : Sexp Tok) → no_repeats texts ≡ true → AreInterned texts (flat t) → numbered_sexp texts (sexp_of texts t) ≡ t
  numbered_tree texts (atom tok) once h = ap atom (numbered_token texts tok once h.0)
  numbered_tree texts (list at ts) once h = ap (list at) (numbered_trees texts ts once (interned_front texts (flat_all ts) (Closing ∷ []) h))

  numbered_trees : (texts : List (List ℕ)) (ts : Sexps Tok) → no_repeats texts ≡ true → AreInterned texts (flat_all ts) → map_sexps (numbered texts) (map_sexps (token_of texts) ts) ≡ ts
  numbered_trees texts nil once h = refl
  numbered_trees texts (cons t ts) once h =
      ap (λ (s : Sexp Tok). cons s (map_sexps (numbered texts) (map_sexps (token_of texts) ts))) (numbered_tree texts t once (interned_front texts (flat t) (flat_all ts) h))
      ∙ ap (cons t) (numbered_trees texts ts once (interned_back texts (flat t) (flat_all ts) h))

-- the name of a token is in the table
pub name_in_table : (texts : List (List ℕ)) (tok : Tok) → tok.name < length texts → list_any (bytes_eq (token_of texts tok).name) texts ≡ true
name_in_table texts tok named = list_any_at (bytes_eq (get_or texts tok.name [])) texts tok.name [] named ((bytes_eq-Decides (get_or texts tok.name []) (get_or texts tok.name [])).1 refl)

known_text : (texts : List (List ℕ)) (text : List ℕ) → list_any (bytes_eq text) texts ≡ true → with_text texts text ≡ texts
known_text texts text h = rw h refl

any_last : (text : List ℕ) (texts : List (List ℕ)) → list_any (bytes_eq text) (texts ++ text ∷ []) ≡ true
any_last text [] = rw ((bytes_eq-Decides text text).1 refl) refl
any_last text (t ∷ texts) = elim (cases_Bool (bytes_eq text t)) [
  | inl same ↦ rw same refl
  | inr apart ↦ rw apart (any_last text texts)
]

-- where the last text of a table is, it is nowhere before
push_absent : (texts : List (List ℕ)) (text : List ℕ) → no_repeats (texts ++ text ∷ []) ≡ true → list_any (bytes_eq text) texts ≡ false
push_absent [] text h = refl
push_absent (t ∷ texts) text h =
    let parts = and_parts (not (list_any (bytes_eq t) (texts ++ text ∷ []))) (no_repeats (texts ++ text ∷ [])) h in
    let absent : list_any (bytes_eq t) (texts ++ text ∷ []) ≡ false = not-true (list_any (bytes_eq t) (texts ++ text ∷ [])) parts.0 in
    elim (cases_Bool (bytes_eq text t)) [
      | inl same ↦ absurd (false≢true (sym absent
          ∙ subst (λ (s : List ℕ). list_any (bytes_eq s) (texts ++ text ∷ []) ≡ true) ((bytes_eq-Decides text t).0 same) (any_last text texts)))
      | inr apart ↦ rw apart (push_absent texts text parts.1)
    ]

-- a table that has gained the name of a token, or nothing, and has the name, is the table with the name
gained_one : (old new : List (List ℕ)) (text : List ℕ) → no_repeats new ≡ true → list_any (bytes_eq text) new ≡ true → (new ≡ old) ⊎ (new ≡ old ++ text ∷ []) → new ≡ with_text old text
gained_one old new text once there (inl same) =
    same ∙ sym (known_text old text (subst (λ (ts : List (List ℕ)). list_any (bytes_eq text) ts ≡ true) same there))
gained_one old new text once there (inr more) =
    let absent = push_absent old text (subst (λ (ts : List (List ℕ)). no_repeats ts ≡ true) more once) in more ∙ rw absent refl

-- What a token adds to a table is its name. The name of a parenthesis is the empty text, which is in every table.
abbrev pub AddsName : Token → Type 0
AddsName t = (texts : List (List ℕ)) → BeginsFixed texts → table_after texts (flat_token t ∷ []) ≡ with_text texts t.name

abbrev pub AddNames : List Token → Type 0
AddNames [] = Unit {0}
AddNames (t ∷ ts) = AddsName t × AddNames ts

pub add_names_front : (ts us : List Token) → AddNames (ts ++ us) → AddNames us
add_names_front [] us h = h
add_names_front (t ∷ ts) us h = add_names_front ts us h.1

pub gained_names : (old new : List (List ℕ)) (tokens : List Token) → IsNameTable old → IsNameTable new → AddNames tokens
    → ((t : Token) (ts : List Token) → tokens ≡ t ∷ ts → list_any (bytes_eq t.name) new ≡ true) → GainsNameOf old new tokens → new ≡ table_after old (flat_tokens (take 1 tokens))
gained_names old new [] was is adds there gain = gain
gained_names old new (t ∷ ts) was is adds there gain =
    gained_one old new t.name is.distinct (there t ts refl) gain ∙ sym (adds.0 old was.fixed)

-- the first token of a byte is in the table
pub first_there : (texts : List (List ℕ)) (fed : Fed) → IsInterned texts fed.first → IsInterned texts fed.second
    → (t : Token) (ts : List Token) → fed_tokens texts fed ≡ t ∷ ts → list_any (bytes_eq t.name) texts ≡ true
first_there texts fed first second t ts e = by fed.first fed.second first second e
  where
    by : (a b : Option Tok) → IsInterned texts a → IsInterned texts b → option_tokens texts a ++ option_tokens texts b ≡ t ∷ ts → list_any (bytes_eq t.name) texts ≡ true
    by None None h k e = cc
    by None (Some tok) h k e = let same : token_of texts tok ≡ t = cc in subst (λ (x : Token). list_any (bytes_eq x.name) texts ≡ true) same (name_in_table texts tok k)
    by (Some tok) b h k e = let same : token_of texts tok ≡ t = cc in subst (λ (x : Token). list_any (bytes_eq x.name) texts ≡ true) same (name_in_table texts tok h)

pub option_there : (texts : List (List ℕ)) (o : Option Tok) → IsInterned texts o
    → (t : Token) (ts : List Token) → option_tokens texts o ≡ t ∷ ts → list_any (bytes_eq t.name) texts ≡ true
option_there texts None h t ts e = cc
option_there texts (Some tok) h t ts e = let same : token_of texts tok ≡ t = cc in subst (λ (x : Token). list_any (bytes_eq x.name) texts ≡ true) same (name_in_table texts tok h)

pub take_option : (texts : List (List ℕ)) (o : Option Tok) → take 1 (option_tokens texts o) ≡ option_tokens texts o
take_option texts None = refl
take_option texts (Some tok) = refl
