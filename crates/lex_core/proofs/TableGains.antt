-- A byte adds no text to the table but the name of the first token that it completes.
use Rattle.std.proofs.Common.{◌≡◌, ℕ, List, [], ◌∷◌, ◌++◌, refl, sym, ◌∙◌, ap, subst, arith, append-nil, Option, Some, None, Result, Ok, Err, IfSome, IsSomeAnd, inl, inr}
use Rattle.std.specs.List.{list_any}
use Rattle.std.specs.Str.{bytes_eq}
use Rattle.std.proofs.lemmas.Bool.{cond_both}
use Rattle.lex_core.specs.LexerCalls.{GainsFed, GainsNameOf, IsStep, KeepsTexts, after_tokens}
use Rattle.lex_core.specs.LexerSteps.{LexerState, Step, begin_lexeme}
use Rattle.lex_core.specs.NameTable.{with_text}
use Rattle.lex_core.specs.Token.{Token, option_tokens, token_of}
use Rattle.lex_core.specs.declared.lexer.Fed.{Fed}
use Rattle.lex_core.specs.declared.lexer.LexError.{LexError}
use Rattle.lex_core.specs.declared.lexer.LexError.TheVariants.{Fault, NoMemory}
use Rattle.lex_core.specs.declared.token.Tok.{Tok}
use Rattle.lex_core.specs.declared.token.TokKind.{TokKind}

-- the name of one token
pub text_gained : (old : List (List ℕ)) (text : List ℕ) (token : Token) (tokens : List Token) → token.name ≡ text → GainsNameOf old (with_text old text) (token ∷ tokens)
text_gained old text token tokens e =
    cond_both (list_any (bytes_eq text) old) old (old ++ text ∷ []) (λ new. GainsNameOf old new (token ∷ tokens)) (λ _. inl refl) (λ _. inr (ap (λ t. old ++ t ∷ []) (sym e)))

pub token_gained : (old new : List (List ℕ)) (text : List ℕ) (tok : Tok) (kind : TokKind) (at : ℕ) → new ≡ with_text old text
    → token_of new tok ≡ record { kind = kind; name = text; at = at } → GainsNameOf old new (option_tokens new (Some tok))
token_gained old new text tok kind at grown token =
    subst (λ ts. GainsNameOf old ts (token_of new tok ∷ [])) (sym grown) (text_gained old text (token_of new tok) [] (ap (λ t. t.name) token))

-- more tokens after the first
gained_more : (old new : List (List ℕ)) (xs ys : List Token) → GainsNameOf old new xs → GainsNameOf old new (xs ++ ys)
gained_more old new [] [] g = g
gained_more old new [] (y ∷ ys) g = inl g
gained_more old new (x ∷ xs) ys g = g

gained_keeps : (old new : List (List ℕ)) (tokens : List Token) → GainsNameOf old new tokens → KeepsTexts old new
gained_keeps old new [] g = ([], omega arith, g ∙ sym (append-nil old))
gained_keeps old new (token ∷ tokens) (inl g) = ([], omega arith, g ∙ sym (append-nil old))
gained_keeps old new (token ∷ tokens) (inr g) = (token.name ∷ [], omega arith, g)

begun_at : (old texts : List (List ℕ)) (before : Option Tok) (next : Step) (new : Option LexerState) (result : Result Fed LexError)
    → GainsNameOf old texts (option_tokens texts before) → IsStep texts (after_tokens (option_tokens texts before) next) new result → GainsFed old texts result
begun_at old texts before next new (Ok fed) g s =
    subst (GainsNameOf old texts) (sym s.2) (gained_more old texts (option_tokens texts before) next.out g)
begun_at old texts before next new (Err (Fault fault)) g s =
    subst (GainsNameOf old texts) (sym s.2) (gained_more old texts (option_tokens texts before) next.out g)
begun_at old texts before next new (Err NoMemory) g s = gained_keeps old texts (option_tokens texts before) g

-- a byte after a token begins a lexeme
pub begun_gained : (P : LexerState → Type 0) (old texts : List (List ℕ)) (before : Option Tok) (b : ℕ) (state new : Option LexerState) (result : Result Fed LexError)
    → GainsNameOf old texts (option_tokens texts before) → IsSomeAnd state P
    → IfSome state (λ p. IsStep texts (after_tokens (option_tokens texts before) (begin_lexeme p.at b)) new result) → GainsFed old texts result
begun_gained P old texts before b None new result g some s = absurd some
begun_gained P old texts before b (Some p) new result g some s = begun_at old texts before (begin_lexeme p.at b) new result g s
