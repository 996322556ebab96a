-- The logarithm behind ln and pow, over whole numbers: for x = m 2 ^ e, the k with 2 ^ k ≤ x < 2 ^ (k + 1), the first entry i that lies above every
-- number with x's first ten digits, and the part g by which x lies below that entry: ln x = J ln 2 / 256 + ln (1 - g), J = 256 k + i. Assumes nothing.
use Rattle.std.specs.Prelude.{ℕ, ◌+◌, ◌-◌, ◌*◌, ◌/◌, ◌^◌, Bool, false, cond, ◌&&◌, ℤ, pos, negsuc, ◌+ℤ◌, ◌-ℤ◌, ◌*ℤ◌, ◌==◌, nat_lt}
use Rattle.std.specs.Float.{Format, binary32, binary64}
use Rattle.std.specs.Float.Ieee.{size}
use Rattle.table.specs.Exact.{N}
use Rattle.table.specs.Entry.{entry, first_from, index_at_def}
use Rattle.kernels.specs.Power.{hi}

-- ---- k, i and J
abbrev pub binade : ℕ → ℤ → ℤ
binade m e = e +ℤ pos (size m - 1)

-- m with its digits moved up to 24 or 64
abbrev pub moved : (w m : ℕ) → ℕ
moved w m = m * 2 ^ (w - size m)

-- i, by the 9 digits below the leading one of 64
abbrev pub interval : ℕ → ℕ
interval M = M / 2 ^ 54 - 512

abbrev pub first64 : ℕ → ℕ
first64 m = index_at_def (interval (moved 64 m))

abbrev pub first24 : ℕ → ℕ
first24 m = index_at_def (interval (moved 24 m * 2 ^ 40))

abbrev pub steps : ℤ → ℕ → ℤ
steps k i = k *ℤ pos 256 +ℤ pos i

-- x = 1
abbrev pub is_one_def : ℕ → ℤ → Bool
is_one_def m (pos e) = m == 1 && e == 0
is_one_def m (negsuc e) = false

-- ---- double: g and -ln(1 - g) in units of 2 ^ -64, by seven terms
unfoldable pub gap64 : (i M : ℕ) → ℕ
unfolding hi
gap64 i M = 2 * (2 ^ 63 - hi M (2 * entry (256 - i)))

unfoldable pub low64 : ℕ → ℕ
unfolding hi
low64 g =
    let e = g / 2 ^ 24 in
    let h6 = 2 ^ 33 / 6 + e * (2 ^ 33 / 7) / 2 ^ 40 in
    let h5 = 2 ^ 33 / 5 + e * h6 / 2 ^ 40 in
    let h4 = 2 ^ 33 / 4 + e * h5 / 2 ^ 40 in
    let h3 = 2 ^ 64 / 3 + e * h4 / 2 ^ 9 in
    let h2 = 2 ^ 63 + hi g h3 in
    g + hi g (hi g h2)

unfoldable pub below64 : ℕ → ℕ
unfolding gap64 low64 first_from
below64 m = low64 (gap64 (first64 m) (moved 64 m))

-- ---- single: g in units of 2 ^ -63, exact
unfoldable pub gap63 : (i m : ℕ) → ℕ
gap63 i m = 2 ^ 63 - m * (entry (256 - i) / 2 ^ 23)

-- -ln(1 - g) in units of 2 ^ -63, by four terms
unfoldable pub low63 : ℕ → ℕ
low63 g =
    let e = g / 2 ^ 24 in
    let w = 2 ^ 30 + e * (2 ^ 31 / 3 + e / 2 ^ 10) / 2 ^ 39 in
    g + e * e / 2 ^ 31 * w / 2 ^ 15

-- and in units of 2 ^ -22 of a step, by three
unfoldable pub low22 : ℕ → ℕ
low22 g =
    let e = g / 2 ^ 24 in
    (2 ^ 95 / N * e + e * e / 2 ^ 31 * (2 ^ 94 / N + e * (2 ^ 88 / (3 * N)) / 2 ^ 32) / 2 ^ 8) / 2 ^ 40

unfoldable pub below24 : (ℕ → ℕ) → ℕ → ℕ
unfolding gap63 first_from
below24 low m = low (gap63 (first24 m) (moved 24 m))

-- ---- ln x, in units of 2 ^ -64 and 2 ^ -56
abbrev pub log_units : Format → ℕ
log_units binary32 = 56
log_units binary64 = 64

-- 1 ≤ x < 1 + 2 ^ -9: there x = 1 + n / 2 ^ 23, and n - n ^ 2 / 2 + n ^ 3 / 3 has no difference of long numbers in it
abbrev pub next_to_one : ℤ → ℕ → Bool
next_to_one (pos k) m = k == 0 && nat_lt m (2 ^ 23 + 2 ^ 14)
next_to_one (negsuc k) m = false

abbrev pub cubic : ℕ → ℤ
cubic n = pos (2 ^ 33 * n + n * n * n / 24576) -ℤ pos (2 ^ 9 * (n * n))

unfoldable pub logarithm : Format → ℕ → ℤ → ℤ
unfolding first_from below64 below24 low63
logarithm binary32 m e =
    cond (next_to_one (binade m e) (moved 24 m)) (cubic (moved 24 m - 2 ^ 23)) (steps (binade m e) (first24 m) *ℤ pos (N / 2 ^ 16) -ℤ pos (below24 low63 m / 2 ^ 7))
logarithm binary64 m e = cond (is_one_def m e) (pos 0) (steps (binade m e) (first64 m) *ℤ pos ((N + 128) / 2 ^ 8) -ℤ pos (below64 m))

-- ---- ln x in units of 2 ^ -22 and 2 ^ -50 of a step, for pow: neither J N nor a division by N is worked
unfoldable pub step_log_def : Format → ℕ → ℤ → ℤ
unfolding first_from below64 below24 low22 hi
step_log_def binary32 m e = steps (binade m e) (first24 m) *ℤ pos (2 ^ 22) -ℤ pos (below24 low22 m)
step_log_def binary64 m e = cond (is_one_def m e) (pos 0) (steps (binade m e) (first64 m) *ℤ pos (2 ^ 50) -ℤ pos (hi (below64 m) (2 ^ 122 / N)))
