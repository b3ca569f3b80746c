-- The form that a tree has is found.
use Rattle.std.proofs.Common.{◌≡◌, false, Option, Some, None, Ok, IsTrue, if◌then◌else◌, eq-eqb, refl, ap, sym, ◌∙◌}
use Rattle.lex_core.specs.declared.token.Tok.{Tok}
use Rattle.sexp_core.specs.Sexp.{Sexp, Sexps, nil, count_of}
use Rattle.sexp_core.specs.Parts.{whole}
use Rattle.sexp_core.specs.declared.parts.Part.{Part}
use Rattle.sexp_core.specs.declared.parts.Part.TheVariants as part
use Rattle.term_grammar.specs.FirstParts.{◌>>=◌, part_of, guard}
use Rattle.term_grammar.specs.Syntax.{Attribute, keyword_attribute, valued_attribute}
use Rattle.term_grammar.specs.Reads.{attribute_of}
use Rattle.cmd_grammar.specs.declared.command_word.CommandWord.{CommandWord}
use Rattle.cmd_grammar.specs.declared.command_word.CommandWord.TheVariants as command
use Rattle.cmd_grammar.specs.declared.command_kind.RawCommandKind.{RawCommandKind}
use Rattle.cmd_grammar.specs.declared.command_kind.RawCommandKind.TheVariants as kind
use Rattle.cmd_grammar.specs.declared.declaration_form.FunDefParts.{FunDefParts}
use Rattle.cmd_grammar.specs.declared.command_form.CommandForm.{CommandForm}
use Rattle.cmd_grammar.specs.declared.command_form.CommandForm.TheVariants as form
use Rattle.cmd_grammar.specs.declared.command_form.DeclarationForm.{DeclarationForm}
use Rattle.cmd_grammar.specs.declared.command_form.DeclarationForm.TheVariants as declaration
use Rattle.cmd_grammar.specs.DeclarationForms.{attribute_parts, option_fits, fun_def_parts}
use Rattle.cmd_grammar.specs.CommandForms.{form_after, is_other, unknown, or_wrong, command_form}
use Rattle.term_grammar.specs.Grammar.{ReadsAttribute}
use Rattle.cmd_grammar.specs.FormGrammar.{Begins, attribute_fits, HasFunDef, HasKind, HasDeclaration, HasForm}

part_of-whole : (p : Part) → part_of (whole p) ≡ p
part_of-whole (part.Atom t) = refl
part_of-whole (part.List at ts) = refl

pub begun_by_word : (t : Sexp Tok) (word : CommandWord) (ts : Sexps Tok) (b : Begins t word ts)
    → command_form t ≡ (if is_other word then unknown b.0 else or_wrong b.0 (form_after word ts))
begun_by_word t word ts b = ap command_form b.2 ∙ ap (λ x. if is_other x then unknown b.0 else or_wrong b.0 (form_after x ts)) b.3

found : (t : Sexp Tok) (word : CommandWord) (ts : Sexps Tok) (f : CommandForm) → Begins t word ts → is_other word ≡ false → form_after word ts ≡ Some f → command_form t ≡ Ok f
found t word ts f b n h = begun_by_word t word ts b ∙ rw n (ap (or_wrong b.0) h)

fun_def_found : (ts : Sexps Tok) (f : FunDefParts) → HasFunDef ts f → fun_def_parts ts ≡ Some f
fun_def_found ts f (at, e, s, n) = ap fun_def_parts e ∙ (rw (s, n, part_of-whole f.result, part_of-whole f.body) refl)

attribute_found : (ts : Sexps Tok) (a : Attribute) → ReadsAttribute ts a → (p : Tok × Option (Sexp Tok)) × (attribute_parts ts ≡ Some p) × (attribute_of p.0 p.1 ≡ a)
attribute_found ts (keyword_attribute k) (e, h) = ((k, None), ap attribute_parts e ∙ (rw h refl), refl)
attribute_found ts (valued_attribute k v) (e, h, i) = ((k, Some v), ap attribute_parts e ∙ (rw (h, i) refl), refl)

option_fits_back : (k : Tok) (v : Option (Sexp Tok)) → IsTrue (attribute_fits (attribute_of k v)) → IsTrue (option_fits k v)
option_fits_back k None h = h
option_fits_back k (Some v) h = h

kind_found : (t : Sexp Tok) (k : RawCommandKind) → HasKind t k → command_form t ≡ Ok (form.Complete k)
kind_found t kind.CheckSat b = found t command.CheckSat nil _ b refl refl
kind_found t kind.Exit b = found t command.Exit nil _ b refl refl
kind_found t kind.GetAssertions b = found t command.GetAssertions nil _ b refl refl
kind_found t kind.GetAssignment b = found t command.GetAssignment nil _ b refl refl
kind_found t kind.GetModel b = found t command.GetModel nil _ b refl refl
kind_found t kind.GetProof b = found t command.GetProof nil _ b refl refl
kind_found t kind.GetUnsatAssumptions b = found t command.GetUnsatAssumptions nil _ b refl refl
kind_found t kind.GetUnsatCore b = found t command.GetUnsatCore nil _ b refl refl
kind_found t kind.Reset b = found t command.Reset nil _ b refl refl
kind_found t kind.ResetAssertions b = found t command.ResetAssertions nil _ b refl refl
kind_found t (kind.CheckSatAssuming ls) (at, ts, b, h, e) =
    found t command.CheckSatAssuming _ _ b refl (rw h (ap (λ x. Some (form.Complete (kind.CheckSatAssuming x))) (sym e)))
kind_found t (kind.DeclareSort n a) (b, s, h) = found t command.DeclareSort _ _ b refl (rw (s, h) refl)
kind_found t (kind.Echo s) (b, h) = found t command.Echo _ _ b refl (rw h refl)
kind_found t (kind.GetInfo k) (b, h) = found t command.GetInfo _ _ b refl (rw h refl)
kind_found t (kind.GetOption k) (b, h) = found t command.GetOption _ _ b refl (rw h refl)
kind_found t (kind.Pop n) (b, h) = found t command.Pop _ _ b refl (rw h refl)
kind_found t (kind.Push n) (b, h) = found t command.Push _ _ b refl (rw h refl)
kind_found t (kind.SetLogic n) (b, h) = found t command.SetLogic _ _ b refl (rw h refl)
kind_found t (kind.SetInfo a) (ts, b, i) =
    let p = attribute_found ts a i in
    found t command.SetInfo ts _ b refl (ap (λ o. o >>= (λ x. Some (form.Complete (kind.SetInfo (attribute_of x.0 x.1))))) p.1 ∙ ap (λ x. Some (form.Complete (kind.SetInfo x))) p.2)
kind_found t (kind.SetOption a) (ts, b, i, h) =
    let p = attribute_found ts a i in
    let k = option_fits_back p.0.0 p.0.1 (rw (← p.2) at h) in
    found t command.SetOption ts _ b refl
    (ap (λ o. o >>= (λ x. guard (option_fits x.0 x.1) >>= (λ _. Some (form.Complete (kind.SetOption (attribute_of x.0 x.1)))))) p.1
    ∙ ap (λ c. guard c >>= (λ _. Some (form.Complete (kind.SetOption (attribute_of p.0.0 p.0.1))))) k
    ∙ ap (λ x. Some (form.Complete (kind.SetOption x))) p.2)
kind_found t (kind.Assert u) h = absurd h
kind_found t (kind.DeclareConst n s) h = absurd h
kind_found t (kind.DeclareDatatype n d) h = absurd h
kind_found t (kind.DeclareDatatypes ss ds) h = absurd h
kind_found t (kind.DeclareFun n ss r) h = absurd h
kind_found t (kind.DefineFun f) h = absurd h
kind_found t (kind.DefineFunRec f) h = absurd h
kind_found t (kind.DefineFunsRec ds bs) h = absurd h
kind_found t (kind.DefineSort n ps s) h = absurd h
kind_found t (kind.GetValue us) h = absurd h

declaration_found : (t : Sexp Tok) (d : DeclarationForm) → HasDeclaration t d → command_form t ≡ Ok (form.Declaration d)
declaration_found t (declaration.Const n s) (b, h) = found t command.DeclareConst _ _ b refl (rw (h, part_of-whole s) refl)
declaration_found t (declaration.Datatype n d) (b, h, i) = found t command.DeclareDatatype _ _ b refl (rw (h, part_of-whole d, i) refl)
declaration_found t (declaration.Datatypes ss ds) (at, ts, c, b, h, i, e, j, k) =
    found t command.DeclareDatatypes _ _ b refl (rw (h, i, j, k) (ap (λ x. Some (form.Declaration (declaration.Datatypes x ds))) (sym e)))
declaration_found t (declaration.Fun n ss r) (at, b, h) = found t command.DeclareFun _ _ b refl (rw (h, part_of-whole r) refl)
declaration_found t (declaration.Sort n ps s) (at, ts, b, h, i, e) =
    found t command.DefineSort _ _ b refl (rw (h, i, part_of-whole s) (ap (λ x. Some (form.Declaration (declaration.Sort n x s))) (sym e)))

pub form_found : (t : Sexp Tok) (f : CommandForm) → HasForm t f → command_form t ≡ Ok f
form_found t (form.Complete k) h = kind_found t k h
form_found t (form.Declaration d) h = declaration_found t d h
form_found t (form.Assert u) b = found t command.Assert _ _ b refl (rw (part_of-whole u) refl)
form_found t (form.DefineFun f) (ts, b, h) = found t command.DefineFun ts _ b refl (ap (λ o. o >>= (λ x. Some (form.DefineFun x))) (fun_def_found ts f h))
form_found t (form.DefineFunRec f) (ts, b, h) = found t command.DefineFunRec ts _ b refl (ap (λ o. o >>= (λ x. Some (form.DefineFunRec x))) (fun_def_found ts f h))
form_found t (form.DefineFunsRec ds bs) (at, c, b, h, i, j, e) = found t command.DefineFunsRec _ _ b refl (rw (h, i, j, eq-eqb (count_of ds) (count_of bs) e) refl)
form_found t (form.GetValue us) (at, b, h) = found t command.GetValue _ _ b refl (rw h refl)
