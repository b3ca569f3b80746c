-- Judgements that declare no name: one lemma for each kind of item, and one for a part with the items after it.
use Rattle.std.proofs.Common.{ℕ, refl, inl, inr, ◌∙◌}
use Rattle.sig_table.specs.declared.code.Code.{Code}
use Rattle.judgement.specs.Judging.{Judging, well_sorted, ill_sorted, done, ◌>>=◌, check, find, refuse, DeclaresNone}

pub none-done : {A : Type 0} (x : A) → DeclaresNone (done x)
none-done x before (well_sorted y after) h = (h.1, λ other. (h.0, refl))
none-done x before (ill_sorted place) h = absurd h

pub none-check : (rule : Type 0) (code : Code) (at : ℕ) → DeclaresNone (check rule code at)
none-check rule code at before (well_sorted y after) h = (h.1, λ other. (h.0, refl))
none-check rule code at before (ill_sorted place) h = λ other. h

pub none-find : {A : Type 0} (rule : A → Type 0) (code : Code) (at : ℕ) → DeclaresNone (find rule code at)
none-find rule code at before (well_sorted y after) h = (h.1, λ other. (h.0, refl))
none-find rule code at before (ill_sorted place) h = λ other. h

pub none-refuse : {A : Type 0} (code : Code) (at : ℕ) → DeclaresNone (refuse {A = A} code at)
none-refuse code at before (well_sorted y after) h = absurd h
none-refuse code at before (ill_sorted place) h = λ other. h

pub none-then : {A B : Type 0} (J : Judging A) (K : A → Judging B) → DeclaresNone J → ((x : A) → DeclaresNone (K x)) → DeclaresNone (J >>= K)
none-then J K j k before (well_sorted y after) (x, between, h, l) =
    let p = j before (well_sorted x between) h in
    let q = k x between (well_sorted y after) l in
    (q.0 ∙ p.0, λ other. (x, other, p.1 other, q.1 other))
none-then J K j k before (ill_sorted place) (inl h) = λ other. inl (j before (ill_sorted place) h other)
none-then J K j k before (ill_sorted place) (inr (x, between, h, l)) =
    let p = j before (well_sorted x between) h in
    let q = k x between (ill_sorted place) l in
    λ other. inr (x, other, p.1 other, q other)
