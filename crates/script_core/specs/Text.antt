-- A text as tokens and as lists, up to its end or to its first fault.
use Rattle.std.specs.Prelude.{◌≡◌, ℕ, Bool, true, false, List, ◌∷◌, ◌++◌, Option, Some, None}
use Rattle.lex_core.specs.Faults.{ShowsFault}
use Rattle.lex_core.specs.Lexeme.{Lexeme, Lexes, lexeme_tokens}
use Rattle.lex_core.specs.Segmentation.{IsSegmentation, PartialLexeme}
use Rattle.lex_core.specs.Token.{Token}
use Rattle.lex_core.specs.declared.place.Place.{Place}
use Rattle.sexp_core.specs.Reading.{Reads, TreeFault}
use Rattle.sexp_core.specs.Sexp.{FlatToken, Sexp}
use Rattle.sexp_core.specs.Tokens.{flat_token, flat_tokens}

-- the tokens that are complete in bytes that may go on
pub record AreComplete (bytes : List ℕ) (tokens : List Token) : Type 0 where
  pub lexemes : List Lexeme
  pub partial : PartialLexeme
  pub segmentation : IsSegmentation bytes lexemes partial
  pub in_order : tokens ≡ lexeme_tokens lexemes

-- The tokens of a text, whose end was seen or not, and the fault of the lexicon that it shows after them, if there is one.
pub data HasTokens (bytes : List ℕ) (tokens : List Token) : Bool → Option Place → Type 0 where
  Whole : Lexes bytes tokens → HasTokens bytes tokens true None
  GoesOn : AreComplete bytes tokens → HasTokens bytes tokens false None
  Faulty : {ended : Bool} (place : Place) → ShowsFault bytes tokens ended place.at place.code → HasTokens bytes tokens ended (Some place)

-- what comes after the complete lists: the tokens of a list that lacks its end, or none; or a token that breaks a rule of lists
pub data ListsEnd : Type 0 where
  Unfinished : List (FlatToken Token) → ListsEnd
  Broken : Place → ListsEnd

-- the complete lists of some tokens, and what comes after them
pub data HasLists (tokens : List Token) (lists : List (Sexp Token)) : ListsEnd → Type 0 where
  AllRead : (unfinished : List (FlatToken Token)) → Reads (flat_tokens tokens) lists unfinished → HasLists tokens lists (Unfinished unfinished)
  BreaksAt : (place : Place) (before : List Token) (next : Token) (after : List Token) (unfinished : List (FlatToken Token)) → tokens ≡ before ++ next ∷ after
      → Reads (flat_tokens before) lists unfinished → TreeFault unfinished (flat_token next) place.code → place.at ≡ next.at → HasLists tokens lists (Broken place)
