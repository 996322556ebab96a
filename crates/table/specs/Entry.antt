-- The kernels' table, and which of its entries a significand meets first. Assumes nothing.
use Rattle.std.specs.Prelude.{ℕ, zero, suc, ◌+◌, ◌*◌, ◌/◌, ◌^◌, cond, leb, ltb}
use Rattle.table.specs.Exact.{N, P}

-- entry i is the whole part of 2 ^ 62 P(i N / 2 ^ 72), for i below 256; 2 ^ 63 stands from 256 on
unfoldable pub entry : ℕ → ℕ
unfolding P
entry i = cond (ltb i 256) (2 ^ 62 * (P (i * N) (2 ^ 72)).num / (P (i * N) (2 ^ 72)).den) (2 ^ 63)

-- the first entry from i on, of d, that is M or more
unfoldable pub first_from : (d i M : ℕ) → ℕ
unfolding entry
first_from zero i M = i
first_from (suc d) i M = let r = first_from d (suc i) M in cond (leb M (entry i)) i r

abbrev pub index : ℕ → ℕ
index M = first_from 256 0 M

-- The significands from (512 + k) 2 ^ 53 to the next such number, which have 63 digits and k in the 9 below the leading one, all lie below this entry.
abbrev pub index_at_def : ℕ → ℕ
index_at_def k = index ((513 + k) * 2 ^ 53)
