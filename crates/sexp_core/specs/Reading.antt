-- How tokens read as s-expressions, and which token breaks a rule.
use Rattle.std.specs.Prelude.{◌≡◌, ◌≢◌, ℕ, ◌+◌, ◌-◌, ◌≤◌, List, [], ◌∷◌, ◌++◌, All, ⊤}
use Rattle.sig_table.specs.declared.code.Code.{Code}
use Rattle.sig_table.specs.declared.code.Code.TheVariants as code
use Rattle.sexp_core.specs.declared.builder.TheConstants.{MAX_DEPTH}
use Rattle.sexp_core.specs.Sexp.{Sexp, Sexps, atom, list, FlatToken, Opening, Closing, Word, flat}

-- how many lists are open after some tokens, where n were open before
abbrev pub open_count : {A : Type 0} → ℕ → List (FlatToken A) → ℕ
open_count n [] = n
open_count n (Word a ∷ tokens) = open_count n tokens
open_count n (Opening at ∷ tokens) = open_count (n + 1) tokens
open_count n (Closing ∷ tokens) = open_count (n - 1) tokens

-- Tokens that a list begins with and that lack its end. No token at all is such a beginning.
pub record IsUnfinished {A : Type 0} (tokens : List (FlatToken A)) : Type 0 where
  pub at : ℕ
  pub parts : Sexps A
  pub more : List (FlatToken A)
  pub spelled : flat (list at parts) ≡ tokens ++ more
  pub lacks_some : more ≢ []

-- Which rule the next token breaks, after the tokens of an unfinished list or none.
abbrev pub TreeFault : {A : Type 0} → List (FlatToken A) → FlatToken A → Code → Type 0
TreeFault before Closing rule = (before ≡ []) × (rule ≡ code.UnmatchedClose)
TreeFault before (Word a) rule = (before ≡ []) × (rule ≡ code.AtomOutsideLists)
TreeFault before (Opening at) rule = (open_count 0 before ≡ MAX_DEPTH) × (rule ≡ code.ListsTooDeep)

-- the unfinished list begins at this byte
abbrev pub IsUnclosed : {A : Type 0} → List (FlatToken A) → ℕ → Type 0
IsUnclosed {A} tokens at = (rest : List (FlatToken A)) × (tokens ≡ Opening at ∷ rest)

-- no token stands in more lists than are allowed
abbrev pub IsWithinDepth : {A : Type 0} → List (FlatToken A) → Type 0
IsWithinDepth {A} tokens = (before after : List (FlatToken A)) → tokens ≡ before ++ after → open_count 0 before ≤ MAX_DEPTH

abbrev pub IsList : {A : Type 0} → Sexp A → Type 0
IsList (atom a) = ⊥
IsList (list at ts) = ⊤

-- the tokens of s-expressions, one after the other
abbrev pub flat_each : {A : Type 0} → List (Sexp A) → List (FlatToken A)
flat_each [] = []
flat_each (t ∷ ts) = flat t ++ flat_each ts

-- The tokens read as lists, and after them the tokens of an unfinished list or none.
pub record Reads {A : Type 0} (tokens : List (FlatToken A)) (lists : List (Sexp A)) (unfinished : List (FlatToken A)) : Type 0 where
  pub spelled : tokens ≡ flat_each lists ++ unfinished
  pub are_lists : All IsList lists
  pub is_unfinished : IsUnfinished unfinished
  pub within_depth : IsWithinDepth tokens

-- The tokens read as lists, and the next one is the first that breaks a rule.
pub record Breaks {A : Type 0} (tokens : List (FlatToken A)) (next : FlatToken A) (rule : Code) : Type 0 where
  pub lists : List (Sexp A)
  pub unfinished : List (FlatToken A)
  pub reads : Reads tokens lists unfinished
  pub fault : TreeFault unfinished next rule

-- Some token of these is the first that breaks a rule.
pub record BreaksIn {A : Type 0} (tokens : List (FlatToken A)) : Type 0 where
  pub before : List (FlatToken A)
  pub next : FlatToken A
  pub after : List (FlatToken A)
  pub rule : Code
  pub spelled : tokens ≡ before ++ next ∷ after
  pub breaks : Breaks before next rule

pub data ReadsOrBreaks {A : Type 0} (tokens : List (FlatToken A)) : Type 0 where
  reads : (lists : List (Sexp A)) (unfinished : List (FlatToken A)) → Reads tokens lists unfinished → ReadsOrBreaks tokens
  breaks_in : BreaksIn tokens → ReadsOrBreaks tokens
