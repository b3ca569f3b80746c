-- What the outcomes of the parts of a let, of a quantifier and of an annotation say of the whole.
use Rattle.std.proofs.Common.{◌≡◌, ◌==◌, ◌||◌, ℕ, Bool, true, false, List, [], ◌∷◌, ◌++◌, map, Result, Ok, Err, refl, ap, sym, ◌∙◌, inl, subst}
use Rattle.std.specs.List.{list_any}
use Rattle.std.specs.Global.{Global}
use Rattle.std.specs.Prelude.{Vec}
use Rattle.std.specs.Result.{IfErr, IfOk}
use Rattle.std.proofs.lemmas.List.{map-append}
use Rattle.lex_core.specs.declared.token.Tok.{Tok}
use Rattle.sig_table.specs.declared.code.Code.TheVariants.{RepeatedVariable, WrongTermSort}
use Rattle.judgement.specs.Judging.{Judging, well_sorted, ill_sorted, check, done, ◌>>=◌}
use Rattle.term_grammar.specs.Syntax as syntax
use Rattle.term_grammar.specs.Syntax.{Bindings, with_binding, Notes}
use Rattle.term_grammar.specs.declared.note.RawNoteKind.TheVariants as note_kinds
use Rattle.term_grammar.specs.TermViews.{note_kind}
use Rattle.sort_store.specs.CoreRanks.{bool}
use Rattle.sort_store.specs.Tree.{Sort, NumberedSort}
use Rattle.term_store.specs.declared.term.Note.{Note}
use Rattle.term_store.specs.declared.term.Note.TheVariants as program_note
use Rattle.term_store.specs.NumberedNodes as numbered
use Rattle.term_store.specs.Term.{NumberedTerm, PlainTerm, term, let_in, quant, ann, other, pattern, more_notes, more_terms, note_trees, tree, trees, plain_sort, plain_terms, plain_var}
use Rattle.dt_rules.specs.declared.error.TyError.{TyError}
use Rattle.dt_rules.specs.declared.error.TyError.TheVariants as error
use Rattle.typer.specs.declared.typed.TypedBinding.{TypedBinding}
use Rattle.typer.specs.declared.typed.TypedTerm.{TypedTerm}
use Rattle.typer.specs.declared.world.World.{World}
use Rattle.typer.specs.Answers.{Answers, Meets, fault_at, note_answer}
use Rattle.typer.specs.FunctionSymbols.{Signature}
use Rattle.typer.specs.TermRules.{Binding, PlainNote, annotated_term, attribute_key, attribute_value, bound_sort, judge_binding, judge_bindings, judge_name, judge_note, judge_notes, judge_quantifier, judge_term, judge_terms, let_term, plain_notes, quantified}
use Rattle.typer.specs.Typed.{AreTypedBindings, binding_tree, bound_variable, plain_note}
use Rattle.typer.proofs.ListSteps.{Begins, Leads, leads_on, leads_fault}
use Rattle.typer.proofs.SymbolSteps.{trees_plain}
use Rattle.typer.proofs.TermSteps.{meets, then_is, then_fails}

-- a test on the bindings is one on their names
pub any_name : (bs : List TypedBinding) (name : ℕ) → list_any (λ b. b.name == name) bs ≡ list_any (λ n. n == name) (map (λ b. b.name) bs)
any_name [] name = refl
any_name (b ∷ bs) name = ap (λ t. (b.name == name) || t) (any_name bs name)

-- The parts of a let, by the bindings that the code makes.

names_of : (bs : List TypedBinding) → map (λ b. b.name) bs ≡ map (λ (b : Binding). b.0) (map binding_tree bs)
names_of [] = refl
names_of (b ∷ bs) = ap (λ ns. b.name ∷ ns) (names_of bs)

values_of : (bs : List TypedBinding) → trees (numbered.terms (map (λ b. b.value.term) bs)) ≡ plain_terms (map (λ (b : Binding). b.1) (map binding_tree bs))
values_of [] = refl
values_of (b ∷ bs) = ap (more_terms (tree b.value.term)) (values_of bs)

bound_sorts : (world : World) (bs : List TypedBinding) → AreTypedBindings world bs → map plain_var (map bound_variable bs) ≡ map bound_sort (map binding_tree bs)
bound_sorts world [] h = refl
bound_sorts world (b ∷ bs) h = ap (λ s. (b.name, s) ∷ map plain_var (map bound_variable bs)) h.0.same ∙ ap (λ vs. bound_sort (binding_tree b) ∷ vs) (bound_sorts world bs h.1)

-- the variables of the body
pub inner_variables : (world : World) (vars inner : List (ℕ × NumberedSort)) (bs : List TypedBinding) → AreTypedBindings world bs → inner ≡ vars ++ map bound_variable bs
    → map plain_var inner ≡ map plain_var vars ++ map bound_sort (map binding_tree bs)
inner_variables world vars inner bs h e = ap (map plain_var) e ∙ map-append plain_var vars (map bound_variable bs) ∙ ap (λ vs. map plain_var vars ++ vs) (bound_sorts world bs h)

pub let_made : (r : Result TypedTerm TyError) (bs : List TypedBinding) (vs : List ℕ) (ts : List NumberedTerm) (s : Sort) (u : NumberedTerm)
    → vs ≡ map (λ b. b.name) bs → ts ≡ map (λ b. b.value.term) bs → s ≡ plain_sort (tree u)
    → IfOk r (λ t. tree t.term ≡ term tt s (let_in vs (trees (numbered.terms ts)) (tree u))) → IfOk r (λ t. tree t.term ≡ let_term (map binding_tree bs) (tree u))
let_made (Err failed) bs vs ts s u e f g h = tt
let_made (Ok t) bs vs ts s u e f g h =
    h ∙ ap (λ z. term tt z (let_in vs (trees (numbered.terms ts)) (tree u))) g
    ∙ ap (λ z. term tt (plain_sort (tree u)) (let_in z (trees (numbered.terms ts)) (tree u))) (e ∙ names_of bs)
    ∙ ap (λ z. term tt (plain_sort (tree u)) (let_in (map (λ (b : Binding). b.0) (map binding_tree bs)) z (tree u))) (ap (λ z. trees (numbered.terms z)) f ∙ values_of bs)

pub quantifier_made : (r : Result TypedTerm TyError) (all : Bool) (vs : List (ℕ × NumberedSort)) (s : Sort) (u : NumberedTerm) → s ≡ bool
    → IfOk r (λ t. tree t.term ≡ term tt s (quant all (map plain_var vs) (tree u))) → IfOk r (λ t. tree t.term ≡ quantified all (map plain_var vs) (tree u))
quantifier_made (Err e) all vs s u g h = tt
quantifier_made (Ok t) all vs s u g h = h ∙ ap (λ z. term tt z (quant all (map plain_var vs) (tree u))) g

notes_of : (ns : List Note) → note_trees (numbered.numbered_notes ns) ≡ plain_notes (map plain_note ns)
notes_of [] = refl
notes_of (n ∷ ns) = ap (more_notes (plain_note n)) (notes_of ns)

pub annotation_made : (r : Result TypedTerm TyError) (ns : List Note) (s : Sort) (u : NumberedTerm) → s ≡ plain_sort (tree u)
    → IfOk r (λ t. tree t.term ≡ term tt s (ann (tree u) (note_trees (numbered.numbered_notes ns)))) → IfOk r (λ t. tree t.term ≡ annotated_term (tree u) (map plain_note ns))
annotation_made (Err e) ns s u g h = tt
annotation_made (Ok t) ns s u g h =
    h ∙ ap (λ z. term tt z (ann (tree u) (note_trees (numbered.numbered_notes ns)))) g ∙ ap (λ z. term tt (plain_sort (tree u)) (ann (tree u) z)) (notes_of ns)

module _ (signature : Signature) (vars : List (ℕ × Sort)) where
  -- one more binding
  module _ (raws left rest : Bindings) (at : ℕ) (x : Tok) (raw : syntax.Term) (bs : List TypedBinding) (start so_far : List ℕ) (shown : left ≡ with_binding at x raw rest)
      (leads : Leads (judge_bindings signature vars [] raws) (judge_bindings signature vars (map (λ b. b.name) bs) left) (map binding_tree bs) start so_far) where
    abbrev others : List ℕ
    others = map (λ b. b.name) bs

    abbrev value : Judging PlainTerm
    value = judge_term signature vars raw

    abbrev this : Judging Binding
    this = judge_binding (list_any (λ n. n == x.name) others) x value

    abbrev unrepeated : Judging (Unit {0})
    unrepeated = check (list_any (λ n. n == x.name) others ≡ false) RepeatedVariable x.at

    abbrev with_value : Unit {0} → Judging Binding
    with_value _ = value >>= (λ u. done (x.name, u))

    begins : Begins (judge_bindings signature vars others left) this (λ _. judge_bindings signature vars (others ++ x.name ∷ []) rest)
    begins before o h = subst (λ z. judge_bindings signature vars others z before o) (sym shown) (same before o h)
      where
        same : Begins (judge_bindings signature vars others (with_binding at x raw rest)) this (λ _. judge_bindings signature vars (others ++ x.name ∷ []) rest)
        same before (well_sorted cs after) h = h
        same before (ill_sorted place) h = h

    fails_here : (e : TyError) (later after : List ℕ) → Meets {A = Binding} (Err e) this so_far later → Meets {A = List Binding} (Err e) (judge_bindings signature vars [] raws) start after
    fails_here e later after h =
        leads_fault (judge_bindings signature vars [] raws) (judge_bindings signature vars others left) this (λ _. judge_bindings signature vars (others ++ x.name ∷ []) rest) (map binding_tree bs) start so_far begins leads e later after h

    pub binding_repeated : (after : List ℕ) → list_any (λ n. n == x.name) others ≡ true → Meets {A = List Binding} (Err (fault_at RepeatedVariable x.at)) (judge_bindings signature vars [] raws) start after
    binding_repeated after e = fails_here (fault_at RepeatedVariable x.at) after after (inl ((λ f. cc), refl))

    pub binding_fails : (e : TyError) (later after : List ℕ) → list_any (λ n. n == x.name) others ≡ false → Meets {A = PlainTerm} (Err e) value so_far later → Meets {A = List Binding} (Err e) (judge_bindings signature vars [] raws) start after
    binding_fails e later after f h =
        fails_here e later after (then_is unrepeated with_value tt (Err e) so_far so_far later (f, refl) (then_fails value (λ u. done (x.name, u)) e so_far later later h))

    pub binding_step : (next : Bindings) (new : List TypedBinding) (b : TypedBinding) (later : List ℕ) → next ≡ rest → b.name ≡ x.name → list_any (λ n. n == x.name) others ≡ false → Meets (Ok (tree b.value.term)) value so_far later
        → new ≡ bs ++ b ∷ [] → Leads (judge_bindings signature vars [] raws) (judge_bindings signature vars (map (λ b. b.name) new) next) (map binding_tree new) start later
    binding_step next new b later e named f h put =
        let same : (x.name, tree b.value.term) ≡ binding_tree b = ap (λ n. (n, tree b.value.term)) (sym named) in
        let on = leads_on (judge_bindings signature vars [] raws) (judge_bindings signature vars others left) this (λ _. judge_bindings signature vars (others ++ x.name ∷ []) rest) (map binding_tree bs) start so_far begins leads (x.name, tree b.value.term) later
        (then_is unrepeated with_value tt (Ok (x.name, tree b.value.term)) so_far so_far later (f, refl)
        (then_is value (λ u. done (x.name, u)) (tree b.value.term) (Ok (x.name, tree b.value.term)) so_far later later h (refl, refl))) in
        subst (λ z. Leads (judge_bindings signature vars [] raws) (judge_bindings signature vars (map (λ b. b.name) new) z) (map binding_tree new) start later) (sym e)
        (subst (λ z. Leads (judge_bindings signature vars [] raws) (judge_bindings signature vars (map (λ b. b.name) z) rest) (map binding_tree z) start later) (sym put)
        (subst (λ z. Leads (judge_bindings signature vars [] raws) (judge_bindings signature vars z rest) (map binding_tree (bs ++ b ∷ [])) start later) (ap (λ n. others ++ n ∷ []) (sym named) ∙ sym (map-append (λ b. b.name) bs (b ∷ [])))
        (subst (λ z. Leads (judge_bindings signature vars [] raws) (judge_bindings signature vars (others ++ x.name ∷ []) rest) z start later) (ap (λ c. map binding_tree bs ++ c ∷ []) same ∙ sym (map-append binding_tree bs (b ∷ []))) on)))

  -- a let
  module _ (at : ℕ) (bs : Bindings) (u : syntax.Term) (before : List ℕ) where
    abbrev let_end : List Binding → PlainTerm → Judging PlainTerm
    let_end cs v = done (let_term cs v)

    abbrev let_body : List Binding → Judging PlainTerm
    let_body cs = judge_term signature (vars ++ map bound_sort cs) u >>= let_end cs

    pub let_bindings_fail : (e : TyError) (between after : List ℕ) → Meets {A = List Binding} (Err e) (judge_bindings signature vars [] bs) before between → Meets {A = PlainTerm} (Err e) (judge_term signature vars (syntax.let_in at bs u)) before after
    let_bindings_fail e between after h = then_fails (judge_bindings signature vars [] bs) let_body e before between after h

    pub let_body_fails : (cs : List Binding) (e : TyError) (between after : List ℕ) → Meets (Ok cs) (judge_bindings signature vars [] bs) before between
        → Meets {A = PlainTerm} (Err e) (judge_term signature (vars ++ map bound_sort cs) u) between after → Meets {A = PlainTerm} (Err e) (judge_term signature vars (syntax.let_in at bs u)) before after
    let_body_fails cs e between after h k =
        then_is (judge_bindings signature vars [] bs) let_body cs (Err e) before between after h (then_fails (judge_term signature (vars ++ map bound_sort cs) u) (let_end cs) e between after after k)

    pub let_is : (cs : List Binding) (v : PlainTerm) (between after : List ℕ) → Meets (Ok cs) (judge_bindings signature vars [] bs) before between → Meets (Ok v) (judge_term signature (vars ++ map bound_sort cs) u) between after
        → Meets (Ok (let_term cs v)) (judge_term signature vars (syntax.let_in at bs u)) before after
    let_is cs v between after h k =
        then_is (judge_bindings signature vars [] bs) let_body cs (Ok (let_term cs v)) before between after h
        (then_is (judge_term signature (vars ++ map bound_sort cs) u) (let_end cs) v (Ok (let_term cs v)) between after after k (refl, refl))

  -- an annotation
  module _ (at : ℕ) (u : syntax.Term) (ns : Notes) (before : List ℕ) where
    abbrev annotated_end : PlainTerm → List PlainNote → Judging PlainTerm
    annotated_end v ms = done (annotated_term v ms)

    abbrev with_notes : PlainTerm → Judging PlainTerm
    with_notes v = judge_notes signature vars v ns >>= annotated_end v

    pub annotated_fails : (e : TyError) (between after : List ℕ) → Meets {A = PlainTerm} (Err e) (judge_term signature vars u) before between → Meets {A = PlainTerm} (Err e) (judge_term signature vars (syntax.annotated at u ns)) before after
    annotated_fails e between after h = then_fails (judge_term signature vars u) with_notes e before between after h

    pub annotation_fails : (v : PlainTerm) (e : TyError) (between after : List ℕ) → Meets (Ok v) (judge_term signature vars u) before between → Meets {A = List PlainNote} (Err e) (judge_notes signature vars v ns) between after
        → Meets {A = PlainTerm} (Err e) (judge_term signature vars (syntax.annotated at u ns)) before after
    annotation_fails v e between after h k = then_is (judge_term signature vars u) with_notes v (Err e) before between after h (then_fails (judge_notes signature vars v ns) (annotated_end v) e between after after k)

    pub annotated_is : (v : PlainTerm) (ms : List PlainNote) (between after : List ℕ) → Meets (Ok v) (judge_term signature vars u) before between → Meets (Ok ms) (judge_notes signature vars v ns) between after
        → Meets (Ok (annotated_term v ms)) (judge_term signature vars (syntax.annotated at u ns)) before after
    annotated_is v ms between after h k =
        then_is (judge_term signature vars u) with_notes v (Ok (annotated_term v ms)) before between after h
        (then_is (judge_notes signature vars v ns) (annotated_end v) ms (Ok (annotated_term v ms)) between after after k (refl, refl))

-- the variables of a quantifier's body
pub quantifier_variables : (vars own inner : List (ℕ × NumberedSort)) → inner ≡ vars ++ own → map plain_var inner ≡ map plain_var vars ++ map plain_var own
quantifier_variables vars own inner e = ap (map plain_var) e ∙ map-append plain_var vars own

-- the attributes of a term
module _ (signature : Signature) (vars : List (ℕ × Sort)) (u : PlainTerm) (before after : List ℕ) where
  pub pattern_is : (raw : syntax.Note) (ts : syntax.Terms) (v : Vec NumberedTerm Global) → note_kinds.Pattern ts ≡ note_kind raw → Meets (Ok (map tree v.items)) (judge_terms signature vars ts) before after
      → Meets (Ok (plain_note (program_note.Pattern v))) (judge_note signature vars u raw) before after
  pattern_is (syntax.pattern_note us) ts v e h =
      let same : us ≡ ts = cc in
      let g : Meets (Ok (map tree v.items)) (judge_terms signature vars us) before after = subst (λ z. Meets (Ok (map tree v.items)) (judge_terms signature vars z) before after) (sym same) h in
      subst (λ z. Meets (Ok (pattern z)) (judge_note signature vars u (syntax.pattern_note us)) before after) (sym (trees_plain v.items))
      (then_is (judge_terms signature vars us) (λ us. done (pattern (plain_terms us))) (map tree v.items) (Ok (pattern (plain_terms (map tree v.items)))) before after after g (refl, refl))
  pattern_is (syntax.named_note t) ts v e h = cc
  pattern_is (syntax.attribute_note a) ts v e h = cc

  pub pattern_fails : (raw : syntax.Note) (ts : syntax.Terms) (e : TyError) → note_kinds.Pattern ts ≡ note_kind raw → Meets {A = List PlainTerm} (Err e) (judge_terms signature vars ts) before after
      → Meets {A = PlainNote} (Err e) (judge_note signature vars u raw) before after
  pattern_fails (syntax.pattern_note us) ts e f h =
      let same : us ≡ ts = cc in
      then_fails (judge_terms signature vars us) (λ us. done (pattern (plain_terms us))) e before after after (subst (λ z. Meets {A = List PlainTerm} (Err e) (judge_terms signature vars z) before after) (sym same) h)
  pattern_fails (syntax.named_note t) ts e f h = cc
  pattern_fails (syntax.attribute_note a) ts e f h = cc

  pub named_is : (raw : syntax.Note) (t : Tok) (r : Result PlainNote TyError) → note_kinds.Named t ≡ note_kind raw → Meets r (judge_name signature u t) before after → Meets r (judge_note signature vars u raw) before after
  named_is (syntax.named_note s) t r e h = let same : s ≡ t = cc in subst (λ z. Meets r (judge_name signature u z) before after) (sym same) h
  named_is (syntax.pattern_note us) t r e h = cc
  named_is (syntax.attribute_note a) t r e h = cc

  pub other_is : (raw : syntax.Note) (a : syntax.Attribute) (r : Result Note TyError) → note_kinds.Attribute a ≡ note_kind raw → after ≡ before
      → IfOk r (λ n. plain_note n ≡ other (attribute_key a).name (attribute_value a)) → IfErr r (λ e. e ≡ error.NoMemory) → Meets (note_answer r) (judge_note signature vars u raw) before after
  other_is (syntax.attribute_note b) a (Ok n) e same h err = let p : b ≡ a = cc in (h ∙ ap (λ z. other (attribute_key z).name (attribute_value z)) (sym p), same)
  other_is (syntax.attribute_note b) a (Err f) e same h err = subst (λ z. Meets {A = PlainNote} (Err z) (judge_note signature vars u (syntax.attribute_note b)) before after) (sym err) tt
  other_is (syntax.named_note t) a r e same h err = cc
  other_is (syntax.pattern_note us) a r e same h err = cc

-- a quantifier
module _ (all : Bool) (at : ℕ) (variables : Judging (List (ℕ × Sort))) (body : List (ℕ × Sort) → Judging PlainTerm) (before : List ℕ) where
  abbrev quantifier_end : List (ℕ × Sort) → PlainTerm → Judging PlainTerm
  quantifier_end vs u = done (quantified all vs u)

  abbrev is_bool : PlainTerm → Judging (Unit {0})
  is_bool u = check (plain_sort u ≡ bool) WrongTermSort at

  abbrev quantifier_checked : List (ℕ × Sort) → PlainTerm → Judging PlainTerm
  quantifier_checked vs u = is_bool u >>= (λ _. quantifier_end vs u)

  abbrev quantifier_body : List (ℕ × Sort) → Judging PlainTerm
  quantifier_body vs = body vs >>= quantifier_checked vs

  pub quantifier_variables_fail : (e : TyError) (after : List ℕ) → Answers {A = List (ℕ × Sort)} (Err e) variables → Meets {A = PlainTerm} (Err e) (judge_quantifier all at variables body) before after
  quantifier_variables_fail e after h = then_fails variables quantifier_body e before before after (meets (Err e) variables before before refl h)

  -- the variables declare no name
  module _ (vs : List (ℕ × Sort)) (after : List ℕ) (own : Answers (Ok vs) variables) where
    pub quantifier_body_fails : (e : TyError) → Meets {A = PlainTerm} (Err e) (body vs) before after → Meets {A = PlainTerm} (Err e) (judge_quantifier all at variables body) before after
    quantifier_body_fails e k = then_is variables quantifier_body vs (Err e) before before after (own before) (then_fails (body vs) (quantifier_checked vs) e before after after k)

    pub quantifier_of_other : (u : PlainTerm) → Meets (Ok u) (body vs) before after → (plain_sort u ≡ bool → ⊥) → Meets {A = PlainTerm} (Err (fault_at WrongTermSort at)) (judge_quantifier all at variables body) before after
    quantifier_of_other u k n = then_is variables quantifier_body vs (Err (fault_at WrongTermSort at)) before before after (own before) (then_is (body vs) (quantifier_checked vs) u (Err (fault_at WrongTermSort at)) before after after k (inl (n, refl)))

    pub quantifier_is : (u : PlainTerm) → Meets (Ok u) (body vs) before after → plain_sort u ≡ bool → Meets (Ok (quantified all vs u)) (judge_quantifier all at variables body) before after
    quantifier_is u k e =
        then_is variables quantifier_body vs (Ok (quantified all vs u)) before before after (own before)
        (then_is (body vs) (quantifier_checked vs) u (Ok (quantified all vs u)) before after after k (then_is (is_bool u) (λ _. quantifier_end vs u) tt (Ok (quantified all vs u)) after after after (e, refl) (refl, refl)))
