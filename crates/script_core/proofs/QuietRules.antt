-- The rules on the mode of a command, and on what a definition says before its body, declare no name.
use Rattle.std.proofs.Common.{ℕ, List, [], ◌∷◌, ◌++◌, Option, Some, None}
use Rattle.sig_table.specs.declared.code.Code.{Code}
use Rattle.judgement.specs.Judging.{DeclaresNone}
use Rattle.judgement.proofs.NamesKept.{none-check, none-done, none-then}
use Rattle.lex_core.specs.declared.token.Tok.{Tok}
use Rattle.term_grammar.specs.Syntax as syntax
use Rattle.term_grammar.specs.Syntax.{SortedSymbol}
use Rattle.cmd_grammar.specs.Commands.{Command, FunDec, echo, exit, get_info, get_option, pop, push, reset, set_info, set_logic, set_option}
use Rattle.term_store.specs.Command.{PlainCommand, PlainDef}
use Rattle.logic_frag.specs.FragmentRules.{BreaksRule, context_of, fragment_codes}
use Rattle.logic_frag.specs.Logics.{Description}
use Rattle.typer.proofs.SortLaws.{none-sort}
use Rattle.script_core.specs.Environment.{Environment}
use Rattle.script_core.specs.Rules.{judge_codes, judge_fragment, judge_header, judge_headers, judge_mode, judge_variables, judge_whole, with_header}

pub none-mode : (env : Environment) (at : ℕ) (c : Command) → DeclaresNone (judge_mode env at c)
none-mode env at (set_logic n) = none-then _ _ (none-check _ _ _) (λ v. none-check _ _ _)
none-mode env at (set_option a) = none-check _ _ _
none-mode env at (set_info a) = none-done _
none-mode env at (get_option k) = none-done _
none-mode env at (get_info k) = none-done _
none-mode env at (echo t) = none-done _
none-mode env at reset = none-done _
none-mode env at exit = none-done _
none-mode env at (push n) = none-then _ _ (none-check _ _ _) (λ v. none-check _ _ _)
none-mode env at (pop n) = none-then _ _ (none-check _ _ _) (λ v. none-check _ _ _)
none-mode env at c = none-check _ _ _

none-variables : (env : Environment) (before : List ℕ) (ps : List SortedSymbol) → DeclaresNone (judge_variables env before ps)
none-variables env before [] = none-done _
none-variables env before (p ∷ ps) =
    none-then _ _ (none-then _ _ (none-check _ _ _) (λ u. none-then _ _ (none-sort env.names env.declarations env.theories [] p.sort) (λ s. none-done _)))
    (λ v. none-then _ _ (none-variables env (before ++ v.0 ∷ []) ps) (λ vs. none-done _))

pub none-header : (env : Environment) (n : Tok) (ps : List SortedSymbol) (s : syntax.Sort) → DeclaresNone (judge_header env n ps s)
none-header env n ps s =
    none-then _ _ (none-check _ _ _) (λ u. none-then _ _ (none-variables env [] ps) (λ vs. none-then _ _ (none-sort env.names env.declarations env.theories [] s) (λ r. none-done _)))

pub none-headers : (env : Environment) (fs : List FunDec) → DeclaresNone (judge_headers env fs)
none-headers env [] = none-done _
none-headers env (f ∷ fs) = none-then _ _ (none-header env f.name f.params f.result) (λ h. none-then _ _ (none-headers (with_header env h) fs) (λ hs. none-done _))

none-codes : (Broken : Code → Type 0) (at : ℕ) (cs : List Code) → DeclaresNone (judge_codes Broken at cs)
none-codes Broken at [] = none-done _
none-codes Broken at (c ∷ cs) = none-then _ _ (none-check _ _ _) (λ u. none-codes Broken at cs)

none-fragment : (logic : Option Description) (texts : List (List ℕ)) (kept : List PlainDef) (at : ℕ) (c : PlainCommand) → DeclaresNone (judge_fragment logic texts kept at c)
none-fragment None texts kept at c = none-done _
none-fragment (Some l) texts kept at c = none-codes (BreaksRule l (context_of texts kept c) c) at fragment_codes

pub none-whole : (logic : Option Description) (texts : List (List ℕ)) (kept : List PlainDef) (at : ℕ) (c : PlainCommand) → DeclaresNone (judge_whole logic texts kept at c)
none-whole logic texts kept at c = none-then _ _ (none-check _ _ _) (λ u. none-fragment logic texts kept at c)
