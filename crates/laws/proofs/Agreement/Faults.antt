-- Equal faults in each place give the same first fault. Assumes nothing.
use Prim.Native.Nat.{ℕ, zero, suc, ◌<◌}
use mathlib.Core.Path.{◌≡◌, refl}
use native.Mathlib.Nat.{le-suc, lt_of_lt_of_le, lt-suc_self}
use Rattle.checks.specs.Faults.{Fault, first_fault_def}

pub faults_same : (f g : ℕ → Fault) (n : ℕ) → ((i : ℕ) → i < n → f i ≡ g i) → first_fault_def f n ≡ first_fault_def g n
unfolding first_fault_def
faults_same f g zero h = refl
faults_same f g (suc n) h = rw (faults_same f g n (λ i l. h i (lt_of_lt_of_le l (le-suc n))), h n (lt-suc_self n))
