-- Whether a group of datatypes may be declared (SMT-LIB 2.6, section 4.2.3).
use Rattle.std.specs.Prelude.{◌≡◌, ℕ, ◌<◌, ⊤, List, Result, Ok, Err, length, slice_index_or}
use Rattle.std.specs.List.{Contains}
use Rattle.sort_store.specs.Tree.{Sort}
use Rattle.term_store.specs.Command.{PlainDatatype}
use Rattle.dt_rules.specs.declared.error.DtError.{DtError}
use Rattle.dt_rules.specs.declared.error.DtError.TheVariants as error
use Rattle.dt_rules.specs.Groups.{own_sort}
use Rattle.dt_rules.specs.Unfolding.{IsSettled, IsTooWide}

-- the datatype at this place is the first of the group that is not settled
pub record IsFirstUnsettled (known group : List PlainDatatype) (i : ℕ) : Type 0 where
  pub its : PlainDatatype
  pub inside : i < length group
  pub at : its ≡ slice_index_or group i its
  pub unsettled : IsSettled known group (own_sort its) → ⊥
  pub before : (k : ℕ) (d : PlainDatatype) → k < i → IsSettled known group (own_sort (slice_index_or group k d))

-- the unfolding is small enough, and each datatype of the group is settled
pub record IsAccepted (known group : List PlainDatatype) : Type 0 where
  pub narrow : IsTooWide known group → ⊥
  pub settled : (t : PlainDatatype) → Contains group t → IsSettled known group (own_sort t)

pub record IsUnsettledAt (known group : List PlainDatatype) (i : ℕ) : Type 0 where
  pub narrow : IsTooWide known group → ⊥
  pub first : IsFirstUnsettled known group i

-- what each answer says; want of memory says nothing
abbrev pub Judges : Result (Unit {0}) DtError → List PlainDatatype → List PlainDatatype → Type 0
Judges (Ok u) known group = IsAccepted known group
Judges (Err error.TooWide) known group = IsTooWide known group
Judges (Err (error.NotSettled i)) known group = IsUnsettledAt known group i
Judges (Err error.NoMemory) known group = ⊤

-- no own sort before this place is in the list
abbrev pub NoneListed : List PlainDatatype → List Sort → ℕ → Type 0
NoneListed group unsettled n = (k : ℕ) (d : PlainDatatype) → k < n → k < length group → Contains unsettled (own_sort (slice_index_or group k d)) → ⊥

-- the own sort at this place is the first in the list
pub record IsFirstListed (group : List PlainDatatype) (unsettled : List Sort) (i : ℕ) : Type 0 where
  pub its : PlainDatatype
  pub inside : i < length group
  pub at : its ≡ slice_index_or group i its
  pub listed : Contains unsettled (own_sort its)
  pub before : NoneListed group unsettled i
