-- Laws of s-expressions and of the readings of tokens.
use Rattle.std.specs.Prelude.{◌≡◌, ℕ, List, map}
use Rattle.lex_core.specs.declared.token.Tok.{Tok}
use Rattle.lex_core.specs.Token.{token_of}
use Rattle.sexp_core.specs.Sexp.{Sexp, FlatToken, flat, map_sexp, map_flat}
use Rattle.sexp_core.specs.Tokens.{flat_toks, flat_tokens}
use Rattle.sexp_core.specs.Reading.{Reads, BreaksIn, ReadsOrBreaks}

-- tokens fix their s-expression
abbrev pub FlatFixes : Type 0 → Type 0
FlatFixes A = (t u : Sexp A) → flat t ≡ flat u → t ≡ u

-- tokens read in one way at most
abbrev pub ReadsOnce : Type 0 → Type 0
ReadsOnce A = (tokens : List (FlatToken A)) (ts us : List (Sexp A)) (u v : List (FlatToken A)) → Reads tokens ts u → Reads tokens us v → (ts ≡ us) × (u ≡ v)

-- all tokens read, or there is a first one that breaks a rule
abbrev pub ReadsOrFaults : Type 0 → Type 0
ReadsOrFaults A = (tokens : List (FlatToken A)) → ReadsOrBreaks tokens

-- and not both
abbrev pub NotBoth : Type 0 → Type 0
NotBoth A = (tokens : List (FlatToken A)) (ts : List (Sexp A)) (u : List (FlatToken A)) → Reads tokens ts u → BreaksIn tokens → ⊥

-- the first token that breaks a rule is fixed, with its rule
abbrev pub FirstFaultFixed : Type 0 → Type 0
FirstFaultFixed A = (tokens : List (FlatToken A)) (b c : BreaksIn tokens) → (b.before ≡ c.before) × (b.next ≡ c.next) × (b.rule ≡ c.rule)

-- what tokens read as is the same with name numbers and with the texts that they name
abbrev pub ReadsWithTexts : Type 0
ReadsWithTexts = (texts : List (List ℕ)) (toks : List Tok) (ts : List (Sexp Tok)) (u : List (FlatToken Tok)) → Reads (flat_toks toks) ts u
    → Reads (flat_tokens (map (token_of texts) toks)) (map (map_sexp (token_of texts)) ts) (map (map_flat (token_of texts)) u)
