-- The declarations and literals in commands read as the grammar says.
use Rattle.std.proofs.Common.{◌≡◌, ℕ, false, not, ◌&&◌, ◌||◌, List, [], ◌∷◌, Option, Some, None, is_some, Ok, IsTrue, eq-eqb, refl, ap, sym, subst, ◌∙◌}
use Rattle.std.proofs.lemmas.Option.{option_and_then_some}
use Rattle.lex_core.specs.declared.token.Tok.{Tok}
use Rattle.sexp_core.specs.Sexp.{Sexp, atom, list, Sexps, nil, cons}
use Rattle.sexp_core.specs.Parts.{whole}
use Rattle.sexp_core.specs.declared.parts.Part.{Part}
use Rattle.term_grammar.specs.declared.words.TheConstants.{PAR, NOT}
use Rattle.term_grammar.specs.Words.{is_symbol, is_numeral, is_reserved}
use Rattle.term_grammar.specs.FirstParts.{part_of, atoms, any_first, token_first, symbol_first, list_first, is_empty, guard}
use Rattle.term_grammar.specs.TermForms.{are_symbols, are_named}
use Rattle.term_grammar.specs.Reads.{made_of, made_of_two, tokens_of, read_sort, read_sorted, read_term}
use Rattle.term_grammar.specs.Codes.{tokens_of-atoms}
use Rattle.term_grammar.specs.Grammar.{NotEmpty, ReadsSort, ReadsVariables, ReadsTerm}
use Rattle.term_grammar.proofs.FormsRead.{whole-part_of}
use Rattle.term_grammar.proofs.GrammarComplete.{sort_complete, variables_complete, term_complete}
use Rattle.term_grammar.proofs.GrammarSound.{sort_sound, variables_sound, term_sound}
use Rattle.cmd_grammar.specs.declared.declaration_form.FunDefParts.{FunDefParts}
use Rattle.cmd_grammar.specs.TreeLists.{read_all}
use Rattle.cmd_grammar.specs.Commands.{SortDec, ConstructorDec, DataDec, plain_data, parametric_data, FunDec, FunDef, Literal, positive, negative}
use Rattle.cmd_grammar.specs.DeclarationForms.{sort_dec_parts, is_sort_dec, constructor_dec_parts, is_constructor_dec, are_constructor_decs, parametric_parts, is_data_dec, fun_dec_parts, is_fun_dec, negated_parts, is_literal}
use Rattle.cmd_grammar.specs.DeclarationReads.{negative_by, literal_of, sort_dec_by, sort_dec_of, constructor_dec, constructor_dec_by, read_constructor_dec, data_dec_by, read_data_dec, fun_dec, fun_dec_by, read_fun_dec, fun_def, read_fun_def}
use Rattle.cmd_grammar.specs.FormGrammar.{HasFunDef}
use Rattle.cmd_grammar.specs.Grammar.{ReadsEach, ReadsLiteral, ReadsSortDec, ReadsConstructorDec, ReadsDataDec, ReadsFunDec, ReadsFunDef}
use Rattle.cmd_grammar.proofs.DoBlocks.{some_is, guard_true, end_is, symbol_is_first, token_is_first, any_is_first, list_is_first}
use Rattle.cmd_grammar.proofs.EachTree.{both_true}
use Rattle.cmd_grammar.proofs.LiteralTerms.{negation_is}
use Rattle.cmd_grammar.proofs.EachAgrees.{true_both, if_ok, made_is, made_two_is, made_three_is, made_three, empty_not, each_found, each_read, symbols_found, symbols_shown}

-- literals

pub literal_found : (t : Sexp Tok) → IsTrue (is_literal t) → ReadsLiteral t (literal_of t)
literal_found (atom t) h = (refl, h)
literal_found (list at ts) h =
    let s = some_is (negated_parts ts) h in
    let n = negation_is ts s.0 s.1 in
    subst (λ o. ReadsLiteral (list at ts) (negative_by at o)) (sym s.1) (ap (list at) n.0, n.1, n.2, n.3)

pub literal_shown : (t : Sexp Tok) (l : Literal) → ReadsLiteral t l → (literal_of t ≡ l) × IsTrue (is_literal t)
literal_shown t (positive s) (e, h) = (ap literal_of e, subst (λ x. IsTrue (is_literal x)) (sym e) h)
literal_shown t (negative at w s) (e, h, n, k) =
    let g : negated_parts (cons (atom w) (cons (atom s) nil)) ≡ Some (w, s) = rw (h, eq-eqb w.name NOT n, k) refl in
    (ap literal_of e ∙ ap (negative_by at) g, subst (λ x. IsTrue (is_literal x)) (sym e) (ap is_some g))

-- declarations of sorts

sort_dec_is : (ts : Sexps Tok) (p : Tok × Tok) → sort_dec_parts ts ≡ Some p
    → (ts ≡ cons (atom p.0) (cons (atom p.1) nil)) × IsTrue (is_symbol p.0) × IsTrue (is_numeral p.1)
sort_dec_is ts p h =
    option_and_then_some _ (symbol_first ts) p h (λ n a h1.
    option_and_then_some _ (token_first n.1) p h1 (λ m b h2.
    option_and_then_some _ (guard (is_numeral m.0)) p h2 (λ u c h3.
    option_and_then_some _ (guard (is_empty m.1)) p h3 (λ v d h4.
    let i = symbol_is_first ts n a in
    let q : (n.0, m.0) ≡ p = cc in
    let P : Tok × Tok → Type 0 = λ x. (ts ≡ cons (atom x.0) (cons (atom x.1) nil)) × IsTrue (is_symbol x.0) × IsTrue (is_numeral x.1) in
    subst P q (i.1 ∙ ap (cons (atom n.0)) (token_is_first n.1 m b ∙ ap (cons (atom m.0)) (end_is m.1 v d)), i.0, guard_true (is_numeral m.0) u c)))))

pub sort_dec_found : (t : Sexp Tok) → IsTrue (is_sort_dec t) → ReadsSortDec t (sort_dec_of t)
sort_dec_found (atom t) h = absurd (cc)
sort_dec_found (list at ts) h =
    let s = some_is (sort_dec_parts ts) h in
    let n = sort_dec_is ts s.0 s.1 in
    subst (λ o. ReadsSortDec (list at ts) (sort_dec_by at o)) (sym s.1) (ap (list at) n.0, n.1, n.2)

pub sort_dec_shown : (t : Sexp Tok) (d : SortDec) → ReadsSortDec t d → (sort_dec_of t ≡ d) × IsTrue (is_sort_dec t)
sort_dec_shown t d (e, h, k) =
    let g : sort_dec_parts (cons (atom d.name) (cons (atom d.arity) nil)) ≡ Some (d.name, d.arity) = rw (h, k) refl in
    (ap sort_dec_of e ∙ ap (sort_dec_by d.at) g, subst (λ x. IsTrue (is_sort_dec x)) (sym e) (ap is_some g))

-- declarations of constructors

pub constructor_is : (ts : Sexps Tok) (p : Tok × Sexps Tok) → constructor_dec_parts ts ≡ Some p → (ts ≡ cons (atom p.0) p.1) × IsTrue (is_symbol p.0) × IsTrue (are_named p.1)
constructor_is ts p h =
    option_and_then_some _ (symbol_first ts) p h (λ n a h1.
    option_and_then_some _ (guard (are_named n.1)) p h1 (λ u b h2.
    let i = symbol_is_first ts n a in
    let q : (n.0, n.1) ≡ p = cc in
    let P : Tok × Sexps Tok → Type 0 = λ x. (ts ≡ cons (atom x.0) x.1) × IsTrue (is_symbol x.0) × IsTrue (are_named x.1) in
    subst P q (i.1, i.0, guard_true (are_named n.1) u b)))

constructor_by : (at : ℕ) (ts : Sexps Tok) (c : ConstructorDec) (o : Option (Tok × Sexps Tok)) → constructor_dec_parts ts ≡ o → constructor_dec_by at o ≡ Ok c
    → ReadsConstructorDec (list at ts) c
constructor_by at ts c None k e = absurd (cc)
constructor_by at ts c (Some p) k e =
    let n = constructor_is ts p k in
    let m = made_is (constructor_dec at p.0) (read_sorted p.1) c e in
    subst (ReadsConstructorDec (list at ts)) m.2
    (p.1, ap (list at) n.0, n.1, if_ok (read_sorted p.1) (ReadsVariables p.1) m.0 (variables_complete p.1 n.2) m.1)

pub constructor_found : (t : Sexp Tok) (c : ConstructorDec) → IsTrue (is_constructor_dec t) → read_constructor_dec t ≡ Ok c → ReadsConstructorDec t c
constructor_found (atom t) c h e = absurd (cc)
constructor_found (list at ts) c h e = constructor_by at ts c (constructor_dec_parts ts) refl e

pub constructor_read : (t : Sexp Tok) (c : ConstructorDec) → ReadsConstructorDec t c → (read_constructor_dec t ≡ Ok c) × IsTrue (is_constructor_dec t)
constructor_read t c (us, e, s, v) =
    let n = variables_sound c.selectors us v in
    let g : constructor_dec_parts (cons (atom c.name) us) ≡ Some (c.name, us) = rw (s, n.1) refl in (
      ap read_constructor_dec e ∙ ap (constructor_dec_by c.at) g ∙ ap (made_of (constructor_dec c.at c.name)) n.0,
      subst (λ x. IsTrue (is_constructor_dec x)) (sym e) (ap is_some g),
    )

constructors_found : (ts : Sexps Tok) (cs : List ConstructorDec) → IsTrue (are_constructor_decs ts) → read_all read_constructor_dec ts ≡ Ok cs → ReadsEach ReadsConstructorDec ts cs
constructors_found ts cs h e = each_found read_constructor_dec ReadsConstructorDec is_constructor_dec constructor_found ts cs h e

constructors_read : (cs : List ConstructorDec) (ts : Sexps Tok) → ReadsEach ReadsConstructorDec ts cs → (read_all read_constructor_dec ts ≡ Ok cs) × IsTrue (are_constructor_decs ts)
constructors_read cs ts h = each_read read_constructor_dec ReadsConstructorDec is_constructor_dec constructor_read cs ts h

-- declarations of datatypes

abbrev pub IsParametric : Sexps Tok → Sexps Tok × Sexps Tok → Type 0
IsParametric ts p =
    (w : Tok) × (a : ℕ) × (b : ℕ) × (ts ≡ cons (atom w) (cons (list a p.0) (cons (list b p.1) nil))) × IsTrue (is_reserved PAR w)
    × NotEmpty p.0 × IsTrue (are_symbols p.0) × NotEmpty p.1 × IsTrue (are_constructor_decs p.1)

pub parametric_is : (ts : Sexps Tok) (p : Sexps Tok × Sexps Tok) → parametric_parts ts ≡ Some p → IsParametric ts p
parametric_is ts p h =
    option_and_then_some _ (token_first ts) p h (λ w a h1.
    option_and_then_some _ (guard (is_reserved PAR w.0)) p h1 (λ u1 a1 h2.
    option_and_then_some _ (list_first w.1) p h2 (λ x b h3.
    option_and_then_some _ (guard (not (is_empty x.0))) p h3 (λ u2 a2 h4.
    option_and_then_some _ (guard (are_symbols x.0)) p h4 (λ u3 a3 h5.
    option_and_then_some _ (list_first x.1) p h5 (λ y d h6.
    option_and_then_some _ (guard (is_empty y.1)) p h6 (λ u4 a4 h7.
    option_and_then_some _ (guard (not (is_empty y.0))) p h7 (λ u5 a5 h8.
    option_and_then_some _ (guard (are_constructor_decs y.0)) p h8 (λ u6 a6 h9.
    let i = list_is_first w.1 x b in
    let j = list_is_first x.1 y d in
    let q : (x.0, y.0) ≡ p = cc in
    subst (IsParametric ts) q (
      w.0,
      i.0,
      j.0,
      token_is_first ts w a ∙ ap (cons (atom w.0)) (i.1 ∙ ap (cons (list i.0 x.0)) (j.1 ∙ ap (cons (list j.0 y.0)) (end_is y.1 u4 a4))),
      guard_true (is_reserved PAR w.0) u1 a1,
      guard_true (not (is_empty x.0)) u2 a2,
      guard_true (are_symbols x.0) u3 a3,
      guard_true (not (is_empty y.0)) u5 a5,
      guard_true (are_constructor_decs y.0) u6 a6,
    ))))))))))

data_by : (at : ℕ) (ts : Sexps Tok) (d : DataDec) (o : Option (Sexps Tok × Sexps Tok)) → parametric_parts ts ≡ o
    → IsTrue (is_some o || (not (is_empty ts) && are_constructor_decs ts)) → data_dec_by at ts o ≡ Ok d → ReadsDataDec (list at ts) d
data_by at ts d None k h e =
    let b = both_true (not (is_empty ts)) (are_constructor_decs ts) h in
    let m = made_is (plain_data at) (read_all read_constructor_dec ts) d e in
    subst (ReadsDataDec (list at ts)) m.2 (ts, refl, b.0, constructors_found ts m.0 b.1 m.1)
data_by at ts d (Some p) k h e =
    let (w, a, b, s, r, n, y, q, c) = parametric_is ts p k in
    let m = made_is (parametric_data at (tokens_of p.0)) (read_all read_constructor_dec p.1) d e in
    let z = symbols_found p.0 y in
    subst (ReadsDataDec (list at ts)) m.2 (
      w,
      a,
      b,
      p.1,
      ap (list at) s ∙ ap (λ xs. list at (cons (atom w) (cons (list a xs) (cons (list b p.1) nil)))) z.0,
      r,
      subst NotEmpty z.0 n,
      z.1,
      q,
      constructors_found p.1 m.0 c m.1,
    )

pub data_found : (t : Sexp Tok) (d : DataDec) → IsTrue (is_data_dec t) → read_data_dec t ≡ Ok d → ReadsDataDec t d
data_found (atom t) d h e = absurd (cc)
data_found (list at ts) d h e = data_by at ts d (parametric_parts ts) refl h e

-- constructors do not begin with a word
no_parameters : (cs : List ConstructorDec) (us : Sexps Tok) → NotEmpty us → ReadsEach ReadsConstructorDec us cs → parametric_parts us ≡ None
no_parameters [] us n e = absurd (empty_not (subst NotEmpty e n))
no_parameters (c ∷ cs) us n (u, vs, e, (ws, k, h, i), r) = ap parametric_parts (e ∙ ap (λ x. cons x vs) k)

pub data_read : (t : Sexp Tok) (d : DataDec) → ReadsDataDec t d → (read_data_dec t ≡ Ok d) × IsTrue (is_data_dec t)
data_read t (plain_data at cs) (us, e, n, r) =
    let m = constructors_read cs us r in
    let g = no_parameters cs us n r in (
      ap read_data_dec e ∙ ap (data_dec_by at us) g ∙ ap (made_of (plain_data at)) m.0,
      subst (λ x. IsTrue (is_data_dec x)) (sym e) (ap (λ o. is_some o || (not (is_empty us) && are_constructor_decs us)) g ∙ true_both (not (is_empty us)) (are_constructor_decs us) n m.1),
    )
data_read t (parametric_data at ps cs) (w, a, b, us, e, h, n, s, q, r) =
    let m = constructors_read cs us r in
    let y = symbols_shown ps s in
    let g : parametric_parts (cons (atom w) (cons (list a (atoms ps)) (cons (list b us) nil))) ≡ Some (atoms ps, us) = rw (h, n, y, q, m.1) refl in (
      ap read_data_dec e ∙ ap (data_dec_by at (cons (atom w) (cons (list a (atoms ps)) (cons (list b us) nil)))) g ∙ ap (λ xs. made_of (parametric_data at xs) (read_all read_constructor_dec us)) (tokens_of-atoms ps)
          ∙ ap (made_of (parametric_data at ps)) m.0,
      subst (λ x. IsTrue (is_data_dec x)) (sym e) (ap (λ o. is_some o || false) g),
    )

-- declarations and definitions of functions

abbrev pub IsFunDec : Sexps Tok → Tok × Sexps Tok × Part → Type 0
IsFunDec ts p = (a : ℕ) × (ts ≡ cons (atom p.0) (cons (list a p.1) (cons (whole p.2) nil))) × IsTrue (is_symbol p.0) × IsTrue (are_named p.1)

pub fun_dec_is : (ts : Sexps Tok) (p : Tok × Sexps Tok × Part) → fun_dec_parts ts ≡ Some p → IsFunDec ts p
fun_dec_is ts p h =
    option_and_then_some _ (symbol_first ts) p h (λ n a h1.
    option_and_then_some _ (list_first n.1) p h1 (λ v b h2.
    option_and_then_some _ (guard (are_named v.0)) p h2 (λ u1 a1 h3.
    option_and_then_some _ (any_first v.1) p h3 (λ s d h4.
    option_and_then_some _ (guard (is_empty s.1)) p h4 (λ u2 a2 h5.
    let i = symbol_is_first ts n a in
    let j = list_is_first n.1 v b in
    let q : (n.0, v.0, s.0) ≡ p = cc in
    subst (IsFunDec ts) q
    (j.0, i.1 ∙ ap (cons (atom n.0)) (j.1 ∙ ap (cons (list j.0 v.0)) (any_is_first v.1 s d ∙ ap (cons (whole s.0)) (end_is s.1 u2 a2))), i.0, guard_true (are_named v.0) u1 a1))))))

fun_by : (at : ℕ) (ts : Sexps Tok) (f : FunDec) (o : Option (Tok × Sexps Tok × Part)) → fun_dec_parts ts ≡ o → fun_dec_by at o ≡ Ok f → ReadsFunDec (list at ts) f
fun_by at ts f None k e = absurd (cc)
fun_by at ts f (Some p) k e =
    let (a, i, s, n) = fun_dec_is ts p k in
    let m = made_two_is (fun_dec at p.0) (read_sorted p.1) (read_sort (whole p.2)) f e in
    subst (ReadsFunDec (list at ts)) m.4 (
      a,
      p.1,
      whole p.2,
      ap (list at) i,
      s,
      if_ok (read_sorted p.1) (ReadsVariables p.1) m.0 (variables_complete p.1 n) m.2,
      if_ok (read_sort (whole p.2)) (ReadsSort (whole p.2)) m.1 (sort_complete (whole p.2)) m.3,
    )

pub fun_dec_found : (t : Sexp Tok) (f : FunDec) → IsTrue (is_fun_dec t) → read_fun_dec t ≡ Ok f → ReadsFunDec t f
fun_dec_found (atom t) f h e = absurd (cc)
fun_dec_found (list at ts) f h e = fun_by at ts f (fun_dec_parts ts) refl e

pub fun_dec_read : (t : Sexp Tok) (f : FunDec) → ReadsFunDec t f → (read_fun_dec t ≡ Ok f) × IsTrue (is_fun_dec t)
fun_dec_read t f (a, vs, u, e, s, v, r) =
    let n = variables_sound f.params vs v in
    let g : fun_dec_parts (cons (atom f.name) (cons (list a vs) (cons u nil))) ≡ Some (f.name, vs, part_of u) = rw (s, n.1) refl in (
      ap read_fun_dec e ∙ ap (fun_dec_by f.at) g ∙ ap (λ r. made_of_two (fun_dec f.at f.name) r (read_sort (whole (part_of u)))) n.0
          ∙ ap (λ x. made_of (fun_dec f.at f.name f.params) (read_sort x)) (whole-part_of u) ∙ ap (made_of (fun_dec f.at f.name f.params)) (sort_sound f.result u r),
      subst (λ x. IsTrue (is_fun_dec x)) (sym e) (ap is_some g),
    )

pub fun_def_found : (ts : Sexps Tok) (p : FunDefParts) (f : FunDef) → HasFunDef ts p → read_fun_def p ≡ Ok f → ReadsFunDef ts f
fun_def_found ts p f (a, i, s, n) e =
    let m = made_three_is (fun_def p.name) (read_sorted p.params) (read_sort (whole p.result)) (read_term (whole p.body)) f e in
    subst (ReadsFunDef ts) m.6 (
      a,
      p.params,
      whole p.result,
      whole p.body,
      i,
      s,
      if_ok (read_sorted p.params) (ReadsVariables p.params) m.0 (variables_complete p.params n) m.3,
      if_ok (read_sort (whole p.result)) (ReadsSort (whole p.result)) m.1 (sort_complete (whole p.result)) m.4,
      if_ok (read_term (whole p.body)) (ReadsTerm (whole p.body)) m.2 (term_complete (whole p.body)) m.5,
    )

pub fun_def_read : (ts : Sexps Tok) (f : FunDef) → ReadsFunDef ts f → (p : FunDefParts) × HasFunDef ts p × (read_fun_def p ≡ Ok f)
fun_def_read ts f (a, vs, u, v, i, s, h, r, b) =
    let n = variables_sound f.params vs h in
    let p : FunDefParts = record { name = f.name; params = vs; result = part_of u; body = part_of v } in (
      p,
      (
        a,
        i ∙ ap (λ x. cons (atom f.name) (cons (list a vs) (cons x (cons v nil)))) (sym (whole-part_of u))
            ∙ ap (λ x. cons (atom f.name) (cons (list a vs) (cons (whole (part_of u)) (cons x nil)))) (sym (whole-part_of v)),
        s,
        n.1,
      ),
      made_three (fun_def f.name) (read_sorted vs) (read_sort (whole (part_of u))) (read_term (whole (part_of v))) f.params f.result f.body
          n.0 (ap read_sort (whole-part_of u) ∙ sort_sound f.result u r) (ap read_term (whole-part_of v) ∙ term_sound f.body v b),
    )
