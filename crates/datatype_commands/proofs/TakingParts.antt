-- Selectors and constructors, from what the calls answer.
use Rattle.std.proofs.Common.{◌≡◌, ℕ, List, [], ◌∷◌, ◌++◌, map, Option, Some, None, Result, Ok, Err, refl, ap, sym, ◌∙◌, subst, append_assoc, append-nil}
use Rattle.std.proofs.lemmas.List.{map-append}
use Rattle.judgement.specs.Judging.{Judging, Outcome, ◌>>=◌, done}
use Rattle.sort_store.specs.declared.head.DeclNo.{DeclNo}
use Rattle.sort_store.specs.Tree.{Sort}
use Rattle.term_grammar.specs.Syntax.{SortedSymbol}
use Rattle.cmd_grammar.specs.Commands.{ConstructorDec}
use Rattle.cmd_grammar.specs.DeclarationViews.{constructor_dec_seen, selector_seen}
use Rattle.cmd_grammar.specs.TreeLists.{SplitsBy}
use Rattle.cmd_grammar.specs.declared.datatype_dec.RawConDec.{RawConDec}
use Rattle.cmd_grammar.specs.declared.datatype_dec.RawSelector.{RawSelector}
use Rattle.dt_rules.specs.Answers.{Answers}
use Rattle.dt_rules.specs.declared.error.TyError.{TyError}
use Rattle.term_store.specs.Command.{PlainConstructor, PlainField, plain_constructor, plain_field}
use Rattle.term_store.specs.declared.command.Constructor.{Constructor}
use Rattle.term_store.specs.declared.command.Field.{Field}
use Rattle.typer.specs.FunctionSymbols.{Signature, signature_of}
use Rattle.typer.specs.SortRules.{judge_sort}
use Rattle.typer.specs.declared.world.World.{World}
use Rattle.typer.proofs.TermSteps.{first_fails, first_is}
use Rattle.datatype_commands.specs.Answers.{OnlySortsGrow, constructors_left, selectors_left}
use Rattle.datatype_commands.specs.GroupRules.{all_part_names, judge_constructor, judge_constructors, judge_part, judge_selector, judge_selectors, part_names}
use Rattle.datatype_commands.proofs.GrownWorlds.{same_signature}
use Rattle.datatype_commands.proofs.TakingLists.{Onward, all_taken, none_taken, one_broken, one_taken}

-- A selector, and a constructor.
module _ (S : Signature) (params : List ℕ) (first : ℕ) (names : List ℕ) where
  abbrev SortRule : SortedSymbol → Judging Sort
  SortRule f = judge_sort S.texts S.declarations S.theories params f.sort

  abbrev FieldMade : SortedSymbol → DeclNo → Sort → PlainField
  FieldMade f number s = record { no = number; name = f.name.name; sort = s }

  abbrev FieldRest : SortedSymbol → DeclNo → Judging PlainField
  FieldRest f number = SortRule f >>= (λ s. done (FieldMade f number s))

  pub field_unnamed : (f : SortedSymbol) (e : TyError) → Answers {A = DeclNo} (Err e) (judge_part S first names f.name) → Answers {A = PlainField} (Err e) (judge_selector S params first names f)
  field_unnamed f e h = first_fails (judge_part S first names f.name) (FieldRest f) e h

  pub field_unsorted : (f : SortedSymbol) (d : DeclNo) (e : TyError) → Answers (Ok d) (judge_part S first names f.name) → Answers {A = Sort} (Err e) (SortRule f) → Answers {A = PlainField} (Err e) (judge_selector S params first names f)
  field_unsorted f d e h k = first_is {B = PlainField} (judge_part S first names f.name) (FieldRest f) d (Err e) h (first_fails {B = PlainField} (SortRule f) (λ s. done (FieldMade f d s)) e k)

  pub field_right : (f : SortedSymbol) (d : DeclNo) (s : Sort) → Answers (Ok d) (judge_part S first names f.name) → Answers (Ok s) (SortRule f) → Answers (Ok (FieldMade f d s)) (judge_selector S params first names f)
  field_right f d s h k = first_is {B = PlainField} (judge_part S first names f.name) (FieldRest f) d (Ok (FieldMade f d s)) h (first_is {B = PlainField} (SortRule f) (λ s. done (FieldMade f d s)) s (Ok (FieldMade f d s)) k (λ before. (refl, refl)))

  module _ (c : ConstructorDec) where
    abbrev Named : Judging DeclNo
    Named = judge_part S first names c.name

    abbrev FieldsRule : Judging (List PlainField)
    FieldsRule = judge_selectors S params first (names ++ c.name.name ∷ []) c.selectors

    abbrev Made : DeclNo → List PlainField → PlainConstructor
    Made number fs = record { no = number; name = c.name.name; fields = fs }

    abbrev AllFields : DeclNo → Judging PlainConstructor
    AllFields number = FieldsRule >>= (λ fs. done (Made number fs))

    pub constructor_unnamed : (e : TyError) → Answers {A = DeclNo} (Err e) Named → Answers {A = PlainConstructor} (Err e) (judge_constructor S params first names c)
    constructor_unnamed e h = first_fails Named AllFields e h

    -- the fields are judged after the name
    module _ (here : ℕ) (named : List ℕ) (same : here ≡ first) (put : named ≡ names ++ c.name.name ∷ []) where
      fields_moved : (r : Result (List PlainField) TyError) → Answers r (judge_selectors S params here named c.selectors) → Answers r (judge_selectors S params first (names ++ c.name.name ∷ []) c.selectors)
      fields_moved r h =
          subst (λ (n : ℕ). Answers r (judge_selectors S params n (names ++ c.name.name ∷ []) c.selectors)) same
          (subst (λ (ns : List ℕ). Answers r (judge_selectors S params here ns c.selectors)) put h)

      pub constructor_broken : (d : DeclNo) (e : TyError) → Answers (Ok d) Named → Answers {A = List PlainField} (Err e) (judge_selectors S params here named c.selectors) → Answers {A = PlainConstructor} (Err e) (judge_constructor S params first names c)
      constructor_broken d e h k = first_is {B = PlainConstructor} Named AllFields d (Err e) h (first_fails {B = PlainConstructor} FieldsRule (λ fs. done (Made d fs)) e (fields_moved (Err e) k))

      pub constructor_right : (d : DeclNo) (fs : List PlainField) → Answers (Ok d) Named → Answers (Ok fs) (judge_selectors S params here named c.selectors) → Answers (Ok (Made d fs)) (judge_constructor S params first names c)
      constructor_right d fs h k =
          first_is {B = PlainConstructor} Named AllFields d (Ok (Made d fs)) h (first_is {B = PlainConstructor} FieldsRule (λ fs. done (Made d fs)) fs (Ok (Made d fs)) (fields_moved (Ok fs) k) (λ before. (refl, refl)))

-- Names.
pub field_names : (fs : List Field) → map (λ (f : PlainField). f.name) (map plain_field fs) ≡ map (λ (f : Field). f.name) fs
field_names [] = refl
field_names (f ∷ fs) = ap (λ ns. f.name ∷ ns) (field_names fs)

-- those of one more field, and of one more constructor
pub more_names : (start names later : List ℕ) (fs new : List Field) (f : Field) → names ≡ start ++ map (λ (x : Field). x.name) fs → later ≡ names ++ f.name ∷ [] → new ≡ fs ++ f ∷ [] → later ≡ start ++ map (λ (x : Field). x.name) new
more_names start names later fs new f e put made =
    put ∙ (ap (λ ns. ns ++ f.name ∷ []) e ∙ (append_assoc start (map (λ (x : Field). x.name) fs) (f.name ∷ []) ∙ ap (λ ns. start ++ ns) (sym (map-append (λ (x : Field). x.name) fs (f ∷ [])) ∙ ap (map (λ (x : Field). x.name)) (sym made))))

pub constructor_names : (names named later : List ℕ) (name : ℕ) (c : Constructor) (fs : List Field) → named ≡ names ++ name ∷ [] → later ≡ named ++ map (λ (x : Field). x.name) fs → c.name ≡ name → c.fields ≡ fs → later ≡ names ++ part_names (plain_constructor c)
constructor_names names named later name c fs put e same own =
    e ∙ (ap (λ ns. ns ++ map (λ (x : Field). x.name) fs) put ∙ (append_assoc names (name ∷ []) (map (λ (x : Field). x.name) fs)
    ∙ ap (λ ns. names ++ ns) (ap (λ n. n ∷ map (λ (x : Field). x.name) fs) (sym same) ∙ ap (λ ns. c.name ∷ ns) (sym (ap (λ xs. map (λ (f : PlainField). f.name) (map plain_field xs)) own ∙ field_names fs)))))

all_names_append : (cs ds : List PlainConstructor) → all_part_names (cs ++ ds) ≡ all_part_names cs ++ all_part_names ds
all_names_append [] ds = refl
all_names_append (c ∷ cs) ds = ap (λ ns. part_names c ++ ns) (all_names_append cs ds) ∙ sym (append_assoc (part_names c) (all_part_names cs) (all_part_names ds))

pub more_constructor_names : (start names later : List ℕ) (cs new : List Constructor) (c : Constructor) → names ≡ start ++ all_part_names (map plain_constructor cs) → later ≡ names ++ part_names (plain_constructor c) → new ≡ cs ++ c ∷ []
    → later ≡ start ++ all_part_names (map plain_constructor new)
more_constructor_names start names later cs new c e put made =
    put ∙ (ap (λ ns. ns ++ part_names (plain_constructor c)) e ∙ (append_assoc start (all_part_names (map plain_constructor cs)) (part_names (plain_constructor c))
    ∙ ap (λ ns. start ++ ns) (ap (λ ns. all_part_names (map plain_constructor cs) ++ ns) (sym (append-nil (part_names (plain_constructor c))))
    ∙ (sym (all_names_append (map plain_constructor cs) (plain_constructor c ∷ [])) ∙ ap all_part_names (sym (map-append plain_constructor cs (c ∷ [])) ∙ ap (map plain_constructor) (sym made))))))

-- Loops.
pub selectors_split : (fs : List SortedSymbol) (o : Option (RawSelector × List SortedSymbol)) → SplitsBy selector_seen fs o → selectors_left o ≡ fs
selectors_split fs None e = sym e
selectors_split fs (Some p) e = sym e

pub constructors_split : (cs : List ConstructorDec) (o : Option (RawConDec × List ConstructorDec)) → SplitsBy constructor_dec_seen cs o → constructors_left o ≡ cs
constructors_split cs None e = sym e
constructors_split cs (Some p) e = sym e

module _ (S : Signature) (params : List ℕ) (first : ℕ) where
  abbrev after_field : List ℕ → PlainField → List ℕ
  after_field names f = names ++ f.name ∷ []

  joins_fields : (names : List ℕ) (a : SortedSymbol) (rest : List SortedSymbol) (before : List ℕ) (o : Outcome (List PlainField))
      → (judge_selector S params first names a >>= (λ f. judge_selectors S params first (after_field names f) rest >>= (λ fs. done (f ∷ fs)))) before o → judge_selectors S params first names (a ∷ rest) before o
  joins_fields names a rest before o h = h

  abbrev after_constructor : List ℕ → PlainConstructor → List ℕ
  after_constructor names c = names ++ part_names c

  joins_constructors : (names : List ℕ) (a : ConstructorDec) (rest : List ConstructorDec) (before : List ℕ) (o : Outcome (List PlainConstructor))
      → (judge_constructor S params first names a >>= (λ c. judge_constructors S params first (after_constructor names c) rest >>= (λ cs. done (c ∷ cs)))) before o → judge_constructors S params first names (a ∷ rest) before o
  joins_constructors names a rest before o h = h

-- no selector is judged yet, and all are; so with constructors
module _ (S : Signature) (params : List ℕ) (first : ℕ) (start names : List ℕ) where
  pub no_fields_yet : (raws left : List SortedSymbol) (made : List Field) → names ≡ start → left ≡ raws → made ≡ [] → Onward (judge_selectors S params first start raws) (judge_selectors S params first names left) (map plain_field made)
  no_fields_yet raws left made same e none = none_taken plain_field (judge_selector S params first) (after_field S params first) (judge_selectors S params first) (joins_fields S params first) start names raws left made same e none

  pub fields_taken : (raws left : List SortedSymbol) (made : List Field) → left ≡ [] → Onward (judge_selectors S params first start raws) (judge_selectors S params first names left) (map plain_field made)
      → Answers (Ok (map plain_field made)) (judge_selectors S params first start raws)
  fields_taken raws left made empty onward =
      all_taken plain_field (judge_selector S params first) (after_field S params first) (judge_selectors S params first) (joins_fields S params first) start names raws left made (λ before. (refl, refl)) empty onward

  pub no_constructors_yet : (raws left : List ConstructorDec) (made : List Constructor) → names ≡ start → left ≡ raws → made ≡ [] → Onward (judge_constructors S params first start raws) (judge_constructors S params first names left) (map plain_constructor made)
  no_constructors_yet raws left made same e none =
      none_taken plain_constructor (judge_constructor S params first) (after_constructor S params first) (judge_constructors S params first) (joins_constructors S params first) start names raws left made same e none

  pub constructors_taken : (raws left : List ConstructorDec) (made : List Constructor) → left ≡ [] → Onward (judge_constructors S params first start raws) (judge_constructors S params first names left) (map plain_constructor made)
      → Answers (Ok (map plain_constructor made)) (judge_constructors S params first start raws)
  constructors_taken raws left made empty onward =
      all_taken plain_constructor (judge_constructor S params first) (after_constructor S params first) (judge_constructors S params first) (joins_constructors S params first) start names raws left made (λ before. (refl, refl)) empty onward

-- One among those that are left, judged where sorts have come into the world.
module _ (old here : World) (params : List ℕ) (first here_first : ℕ) (start names : List ℕ) (grown : OnlySortsGrow old here) (same : here_first ≡ first) where
  abbrev OldSignature : Signature
  OldSignature = signature_of old

  here_part : {R : Type 0} (J : Signature → ℕ → Judging R) (r : Result R TyError) → Answers r (J (signature_of here) here_first) → Answers r (J OldSignature first)
  here_part J r h = subst (λ (S : Signature). Answers r (J S first)) (same_signature old here grown) (subst (λ (n : ℕ). Answers r (J (signature_of here) n)) same h)

  module _ (raws left rest : List SortedSymbol) (raw : SortedSymbol) (made : List Field) (shown : left ≡ raw ∷ rest)
      (onward : Onward (judge_selectors OldSignature params first start raws) (judge_selectors OldSignature params first names left) (map plain_field made)) where
    pub field_broken : (e : TyError) → Answers {A = PlainField} (Err e) (judge_selector (signature_of here) params here_first names raw) → Answers {A = List PlainField} (Err e) (judge_selectors OldSignature params first start raws)
    field_broken e h =
        one_broken plain_field (judge_selector OldSignature params first) (after_field OldSignature params first) (judge_selectors OldSignature params first) (joins_fields OldSignature params first) start names raws left rest raw made shown onward e
        (here_part (λ S n. judge_selector S params n names raw) (Err e) h)

    pub field_taken : (f : Field) (new : List Field) (later : List ℕ) (after : List SortedSymbol) → Answers (Ok (plain_field f)) (judge_selector (signature_of here) params here_first names raw) → new ≡ made ++ f ∷ [] → later ≡ names ++ f.name ∷ [] → after ≡ rest
        → Onward (judge_selectors OldSignature params first start raws) (judge_selectors OldSignature params first later after) (map plain_field new)
    field_taken f new later after h put e next =
        one_taken plain_field (judge_selector OldSignature params first) (after_field OldSignature params first) (judge_selectors OldSignature params first) (joins_fields OldSignature params first) start names raws left rest raw made shown onward f new later after
        (here_part (λ S n. judge_selector S params n names raw) (Ok (plain_field f)) h) put e next

  module _ (raws left rest : List ConstructorDec) (raw : ConstructorDec) (made : List Constructor) (shown : left ≡ raw ∷ rest)
      (onward : Onward (judge_constructors OldSignature params first start raws) (judge_constructors OldSignature params first names left) (map plain_constructor made)) where
    pub constructor_fault : (e : TyError) → Answers {A = PlainConstructor} (Err e) (judge_constructor (signature_of here) params here_first names raw) → Answers {A = List PlainConstructor} (Err e) (judge_constructors OldSignature params first start raws)
    constructor_fault e h =
        one_broken plain_constructor (judge_constructor OldSignature params first) (after_constructor OldSignature params first) (judge_constructors OldSignature params first) (joins_constructors OldSignature params first) start names raws left rest raw made
        shown onward e (here_part (λ S n. judge_constructor S params n names raw) (Err e) h)

    pub constructor_taken : (c : Constructor) (new : List Constructor) (later : List ℕ) (after : List ConstructorDec) → Answers (Ok (plain_constructor c)) (judge_constructor (signature_of here) params here_first names raw) → new ≡ made ++ c ∷ []
        → later ≡ names ++ part_names (plain_constructor c) → after ≡ rest → Onward (judge_constructors OldSignature params first start raws) (judge_constructors OldSignature params first later after) (map plain_constructor new)
    constructor_taken c new later after h put e next =
        one_taken plain_constructor (judge_constructor OldSignature params first) (after_constructor OldSignature params first) (judge_constructors OldSignature params first) (joins_constructors OldSignature params first) start names raws left rest raw made
        shown onward c new later after (here_part (λ S n. judge_constructor S params n names raw) (Ok (plain_constructor c)) h) put e next
