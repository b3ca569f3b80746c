-- What tests on numbers say.
use Rattle.std.proofs.Common.{◌≡◌, ◌≢◌, ℕ, ◌<◌, ◌≤◌, true, false, ◌==◌, nat_le, arith}
use Rattle.std.proofs.lemmas.Bool.Decides.{nat_tests}

pub le_from_test : (m n : ℕ) → nat_le m n ≡ true → m ≤ n
le_from_test m n h = grind (arith, nat_tests)

pub test_from_le : (m n : ℕ) → m ≤ n → nat_le m n ≡ true
test_from_le m n h = grind (arith, nat_tests)

pub lt_from_test : (m n : ℕ) → nat_le m n ≡ false → n < m
lt_from_test m n h = grind (arith, nat_tests)

pub test_from_lt : (m n : ℕ) → n < m → nat_le m n ≡ false
test_from_lt m n h = grind (arith, nat_tests)

pub test_from_eq : (m n : ℕ) → m ≡ n → (m == n) ≡ true
test_from_eq m n e = grind (arith, nat_tests)

pub test_from_ne : (m n : ℕ) → m ≢ n → (m == n) ≡ false
test_from_ne m n e = grind (arith, nat_tests)
