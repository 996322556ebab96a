-- A significand of 24 digits below the entry that its first ten digits find: its first 24 digits are a double's. Assumes nothing.
use Rattle.std.proofs.Common.{◌≡◌, ℕ, ◌+◌, ◌-◌, ◌*◌, ◌/◌, ◌%◌, ◌^◌, ◌<◌, ◌≤◌, sym, ap, ◌∙◌, subst, le_refl, div-mul-le_self, arith}
use Rattle.table.specs.Entry.{entry, index_at_def}
use Rattle.kernels.specs.Logarithm.{gap63}
use Rattle.kernels.specs.inner.Single.{index_of}
use Rattle.kernels.proofs.log_double.Index.{Gap, index_is, index_most, gap_in}

wide : (m : ℕ) → 2 ^ 23 ≤ m → m < 2 ^ 24 → (2 ^ 63 ≤ m * 2 ^ 40) × (m * 2 ^ 40 < 2 ^ 64) × (m / 2 ^ 14 ≡ m * 2 ^ 40 / 2 ^ 54)
wide m lo hi = (omega arith, omega arith, omega arith)

same : (m q : ℕ) → (m * q * 2 ^ 64 ≤ m * 2 ^ 40 * (2 * (q * 2 ^ 23))) × (m * 2 ^ 40 * (2 * (q * 2 ^ 23)) < (m * q + 3) * 2 ^ 64)
same m q = (omega arith, omega arith)

-- the index i as the code reads it
pub read_is : (m i : ℕ) → 2 ^ 23 ≤ m → m < 2 ^ 24 → i ≡ index_at_def (m / 2 ^ 14 % 512) → i ≡ index_of m
read_is m i lo hi e = let w = wide m lo hi in index_is (m * 2 ^ 40) i w.0 w.1 (e ∙ ap (λ (x : ℕ). index_at_def (x % 512)) w.2)

module _ (m i : ℕ) (lo : 2 ^ 23 ≤ m) (hi : m < 2 ^ 24) (is : i ≡ index_of m) where
  pub index_le : i ≤ 256
  index_le = index_most (m * 2 ^ 40) i (wide m lo hi).0 (wide m lo hi).1 is

  pub gap_of : (t : ℕ) → t ≡ entry (256 - i) → Gap (m * (t / 2 ^ 23)) × (2 ^ 63 - m * (t / 2 ^ 23) ≡ gap63 i m)
  unfolding gap63
  gap_of t e =
      let r = entry (256 - i) in
      let s = same m (r / 2 ^ 23) in
      let g = gap_in (m * 2 ^ 40) i (wide m lo hi).0 (wide m lo hi).1 is (r / 2 ^ 23 * 2 ^ 23) (m * (r / 2 ^ 23)) (div-mul-le_self r (2 ^ 23)) (le_refl (r / 2 ^ 23 * 2 ^ 23)) s.0 s.1 in
      (subst (λ (x : ℕ). Gap (m * (x / 2 ^ 23))) (sym e) g, ap (λ (x : ℕ). 2 ^ 63 - m * (x / 2 ^ 23)) e)
