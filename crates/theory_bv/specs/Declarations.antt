-- The forms in which function symbols on bit vectors are declared (SMT-LIB 2.6, theory declaration FixedSizeBitVectors,
-- and the logic declaration QF_BV, which adds to it). In each declaration i and j are the indices of the symbol, m and n
-- the widths of its arguments, in order.
use Rattle.std.specs.Prelude.{ℕ, ◌+◌, ◌-◌, ◌*◌, Bool, true, nat_le, nat_lt}

-- Bool, or (_ BitVec m) with m of any size
pub data ResultSort : Type 0 where
  boolean : ResultSort
  bit_vec : ℕ → ResultSort

-- The arguments, all of them bit vectors: none; one; two of any widths; two of one width; or two or more of one width,
-- where two are declared with the attribute :left-assoc (section 3.7).
pub data Arguments : Type 0 where
  no_argument : Arguments
  one : Arguments
  two : Arguments
  two_alike : Arguments
  left_assoc : Arguments

pub record Declaration : Type 0 where
  -- how many indices the symbol has, 0 where it is written without
  pub indices : ℕ
  -- what i and j have to meet
  pub condition : ℕ → ℕ → Bool
  pub arguments : Arguments
  -- what they have to meet beside m
  pub within : ℕ → ℕ → ℕ → Bool
  -- the sort of the result, from i, j, m and n
  pub result : ℕ → ℕ → ℕ → ℕ → ResultSort

-- a symbol without indices
abbrev pub plain : Arguments → (ℕ → ℕ → ResultSort) → Declaration
plain arguments result = record { indices = 0; condition = λ i j. true; arguments = arguments; within = λ i j m. true; result = λ i j m n. result m n }

-- a symbol with one index and one argument
abbrev pub indexed : (ℕ → Bool) → (ℕ → ℕ → ResultSort) → Declaration
indexed condition result = record { indices = 1; condition = λ i j. condition i; arguments = one; within = λ i j m. true; result = λ i j m n. result i m }

-- (concat (_ BitVec m) (_ BitVec n) (_ BitVec m+n))
abbrev pub concatenation : Declaration
concatenation = plain two (λ m n. bit_vec (m + n))

-- ((_ extract i j) (_ BitVec m) (_ BitVec i-j+1)), where m > i and i ≥ j
abbrev pub extraction : Declaration
extraction = record { indices = 2; condition = λ i j. nat_le j i; arguments = one; within = λ i j m. nat_lt i m; result = λ i j m n. bit_vec (i - j + 1) }

-- (op (_ BitVec m) (_ BitVec m))
abbrev pub unary : Declaration
unary = plain one (λ m n. bit_vec m)

-- (op (_ BitVec m) (_ BitVec m) (_ BitVec m))
abbrev pub binary : Declaration
binary = plain two_alike (λ m n. bit_vec m)

-- (op (_ BitVec m) (_ BitVec m) (_ BitVec m) :left-assoc)
abbrev pub associative : Declaration
associative = plain left_assoc (λ m n. bit_vec m)

-- (op (_ BitVec m) (_ BitVec m) Bool)
abbrev pub predicate : Declaration
predicate = plain two_alike (λ m n. boolean)

-- (bvcomp (_ BitVec m) (_ BitVec m) (_ BitVec 1))
abbrev pub comparison : Declaration
comparison = plain two_alike (λ m n. bit_vec 1)

-- ((_ repeat i) (_ BitVec m) (_ BitVec i*m)), where i ≥ 1
abbrev pub repetition : Declaration
repetition = indexed (λ i. nat_le 1 i) (λ i m. bit_vec (i * m))

-- ((_ op i) (_ BitVec m) (_ BitVec m+i))
abbrev pub extension : Declaration
extension = indexed (λ i. true) (λ i m. bit_vec (m + i))

-- ((_ op i) (_ BitVec m) (_ BitVec m))
abbrev pub rotation : Declaration
rotation = indexed (λ i. true) (λ i m. bit_vec m)

-- ((_ bvX i) (_ BitVec i)), where i ≥ 1
abbrev pub literal : Declaration
literal = record { indices = 1; condition = λ i j. nat_le 1 i; arguments = no_argument; within = λ i j m. true; result = λ i j m n. bit_vec i }
