-- What is decided: equality of sorts, whether a sort is in a list, and a search in a list.
use Rattle.std.proofs.Common.{◌≡◌, ℕ, zero, suc, ◌⊎◌, Bool, true, false, List, [], ◌∷◌, refl, ap, subst, inl, inr, arith}
use Rattle.std.specs.List.{Contains}
use Rattle.sort_store.specs.declared.head.DeclNo.{DeclNo}
use Rattle.sort_store.specs.declared.head.Head.{Head}
use Rattle.sort_store.specs.declared.head.Head.TheVariants as head
use Rattle.sort_store.specs.Tree.{Sort, sort, SortList, no_sorts, more_sorts}
use Rattle.dt_rules.proofs.UnsettledLists.{cons_cases, here, there}

abbrev pub IsDecided : Type 0 → Type 0
IsDecided P = P ⊎ (P → ⊥)

-- an item of the first kind, or else all are of the second
pub find_or_all : {X : Type 0} (P Q : X → Type 0) → ((x : X) → P x ⊎ Q x) → (xs : List X) → ((x : X) × Contains xs x × P x) ⊎ ((x : X) → Contains xs x → Q x)
find_or_all P Q test [] = inr (λ x c. absurd (omega (arith, c.1)))
find_or_all P Q test (y ∷ xs) = elim (test y) [
  | inl p ↦ inl (y, here y y xs refl, p)
  | inr q ↦ elim (find_or_all P Q test xs) [
    | inl found ↦ inl (found.0, there y found.0 xs found.1, found.2)
    | inr all ↦ inr (λ x c. elim (cons_cases y x xs c) [ inl e ↦ subst Q e q | inr d ↦ all x d ])
  ]
]

-- both parts, where they are what the whole is made of
both : {P Q R : Type 0} → (P → Q → R) → (R → P) → (R → Q) → IsDecided P → IsDecided Q → IsDecided R
both make first second (inl p) (inl q) = inl (make p q)
both make first second (inl p) (inr differs) = inr (λ r. differs (second r))
both make first second (inr differs) d = inr (λ r. differs (first r))

same_number : (m n : ℕ) → IsDecided (m ≡ n)
same_number zero zero = inl refl
same_number zero (suc n) = inr (λ e. omega (arith, e))
same_number (suc m) zero = inr (λ e. omega (arith, e))
same_number (suc m) (suc n) = elim (same_number m n) [ inl e ↦ inl (ap suc e) | inr differs ↦ inr (λ e. differs (omega (arith, e))) ]

pub is_true : (b : Bool) → (b ≡ true) ⊎ (b ≡ false)
is_true true = inl refl
is_true false = inr refl

same_declaration : (d e : DeclNo) → IsDecided (d ≡ e)
same_declaration d e = elim (same_number d.0 e.0) [ inl same ↦ inl (λ i. record { 0 = same i }) | inr differs ↦ inr (λ h. differs (ap (λ (z : DeclNo). z.0) h)) ]

free_no : (d e : DeclNo) (m n : ℕ) → head.Free d m ≡ head.Free e n → d ≡ e
free_no d e m n h = cc

free_name : (d e : DeclNo) (m n : ℕ) → head.Free d m ≡ head.Free e n → m ≡ n
free_name d e m n h = cc

data_no : (d e : DeclNo) (m n : ℕ) → head.Data d m ≡ head.Data e n → d ≡ e
data_no d e m n h = cc

data_name : (d e : DeclNo) (m n : ℕ) → head.Data d m ≡ head.Data e n → m ≡ n
data_name d e m n h = cc

same_head : (h k : Head) → IsDecided (h ≡ k)
same_head head.Bool head.Bool = inl refl
same_head head.Bool k = inr (λ e. cc)
same_head head.Int head.Int = inl refl
same_head head.Int k = inr (λ e. cc)
same_head head.Array head.Array = inl refl
same_head head.Array k = inr (λ e. cc)
same_head (head.BitVec m) (head.BitVec n) = elim (same_number m n) [ inl e ↦ inl (ap head.BitVec e) | inr differs ↦ inr (λ e. differs cc) ]
same_head (head.BitVec m) k = inr (λ e. cc)
same_head (head.Free d m) (head.Free e n) = both (λ p q. cc) (free_no d e m n) (free_name d e m n) (same_declaration d e) (same_number m n)
same_head (head.Free d m) k = inr (λ e. cc)
same_head (head.Data d m) (head.Data e n) = both (λ p q. cc) (data_no d e m n) (data_name d e m n) (same_declaration d e) (same_number m n)
same_head (head.Data d m) k = inr (λ e. cc)
same_head (head.Param m) (head.Param n) = elim (same_number m n) [ inl e ↦ inl (ap head.Param e) | inr differs ↦ inr (λ e. differs cc) ]
same_head (head.Param m) k = inr (λ e. cc)

head_same : (h k : Head) (ss us : SortList) → sort h ss ≡ sort k us → h ≡ k
head_same h k ss us e = cc

args_same : (h k : Head) (ss us : SortList) → sort h ss ≡ sort k us → ss ≡ us
args_same h k ss us e = cc

first_same : (s u : Sort) (ss us : SortList) → more_sorts s ss ≡ more_sorts u us → s ≡ u
first_same s u ss us e = cc

rest_same : (s u : Sort) (ss us : SortList) → more_sorts s ss ≡ more_sorts u us → ss ≡ us
rest_same s u ss us e = cc

mutual
  pub same_sort : (s u : Sort) → IsDecided (s ≡ u)
  same_sort (sort h ss) (sort k us) = both (λ p q. cc) (head_same h k ss us) (args_same h k ss us) (same_head h k) (same_sorts ss us)

  same_sorts : (ss us : SortList) → IsDecided (ss ≡ us)
  same_sorts no_sorts no_sorts = inl refl
  same_sorts no_sorts (more_sorts u us) = inr (λ e. cc)
  same_sorts (more_sorts s ss) no_sorts = inr (λ e. cc)
  same_sorts (more_sorts s ss) (more_sorts u us) = both (λ p q. cc) (first_same s u ss us) (rest_same s u ss us) (same_sort s u) (same_sorts ss us)

pub listed : (xs : List Sort) (s : Sort) → IsDecided (Contains xs s)
listed xs s = elim (find_or_all (λ x. x ≡ s) (λ x. x ≡ s → ⊥) (λ x. same_sort x s) xs) [
  | inl found ↦ inl (subst (Contains xs) found.2 found.1)
  | inr all ↦ inr (λ c. all s c refl)
]
