-- The single logarithm before its rounding lies within 255 + 2 ^ 31 |L| units of 2 ^ -56 of L, outside 1 ≤ x < 1 + 2 ^ -9. Assumes nothing.
use mathlib.Core.Path.{◌≡◌, refl}
use mathlib.Core.Bool.{Bool}
use mathlib.Core.Logic.{◌⊎◌, inl, inr}
use Prim.Native.Nat.{ℕ, zero, suc, ◌+◌, ◌-◌, ◌*◌, ◌/◌, ◌^◌, ◌≤◌, ◌<◌}
use native.Mathlib.Nat.{mul_assoc, le_trans, le_of_lt, mul-le-mul_left, mul-pos, eq-or-lt_of_le, div-mul-le_self, lt-div-mul-add}
use native.Mathlib.Omega.{arith}
use lib.Dec.{lit<, lit≤}
use lib.IntN.{ℤ, pos, negsuc}
use lib.Ieee.{size}
use lib.Pow.{pow_pos}
use Rattle.table.specs.Exact.{N, P, taylor, fact, series_num, series_den, log_at}
use Rattle.table.specs.Entry.{entry, index_at_def}
use Rattle.table.proofs.Entries.{entry_zero}
use Rattle.table.proofs.First.{index_found}
use Rattle.kernels.specs.Logarithm.{interval, moved, first24, gap63, low63, low22, below24}
use Rattle.laws.proofs.Distances.logarithm.Sum.{Sn, Sd}
use Rattle.laws.proofs.Distances.logarithm.Table.{indexed, digits}
use Rattle.laws.proofs.Distances.logarithm.Low64.{below_small}
use Rattle.laws.proofs.Distances.power.Chain.{le_cut}
use Rattle.laws.proofs.Distances.logarithm.Low63.{chain, lacks}
use Rattle.laws.proofs.Distances.logarithm.Low22 as Low22
use Rattle.laws.proofs.Distances.logarithm.Low22.{lacks22}
use Rattle.laws.proofs.Distances.logarithm.Core.{Counted, Sides, Scaled, place, near_place, near_scaled}
use Rattle.laws.proofs.Distances.logarithm.Moved.{series, move_sides, move_scaled, lead_moved, moved_ge, moved_room}
use Rattle.laws.proofs.Distances.logarithm.Near.{series_den_pos, from_one, below_one, strict, all}
use Rattle.laws.proofs.Distances.logarithm.SingleSum.{pos_above, pos_below, neg_above, neg_below}
use Rattle.laws.proofs.Distances.logarithm.Pairs.{N56, Apart, pair_at, PairNear}

-- ---- the gap by one product of a word: the entry's partner cut by 23 digits, m of 24 digits
any : Counted (2 ^ 33 + 2 ^ 26) 8657045280
any = record { all = lit≤ tt; rough = lit≤ tt; fit = lit≤ tt; room = lit≤ tt }

end : Counted 0 1824
end = record { all = lit≤ tt; rough = lit≤ tt; fit = lit≤ tt; room = lit≤ tt }

abbrev slack : ℕ → ℕ
slack g = 256 * (2 * lacks g) + 1172

abbrev M24 : ℕ → ℕ
M24 m = m * 2 ^ 40

abbrev i_of : ℕ → ℕ
i_of m = index_at_def (interval (M24 m))

in_lo : (m : ℕ) → 2 ^ 23 ≤ m → 2 ^ 63 ≤ M24 m
in_lo m l = omega arith

in_hi : (m : ℕ) → m < 2 ^ 24 → M24 m < 2 ^ 64
in_hi m l = omega arith

record Sided (m k : ℕ) : Type 0 where
  small : 2 * gap63 (i_of m) m * 2560 ≤ 12 * 2 ^ 64
  sides : Sides (i_of m * N) (2 * low63 (gap63 (i_of m) m)) (k + 1) (slack (gap63 (i_of m) m)) (Sn (M24 m - 2 ^ 63) (M24 m + 2 ^ 63)) (Sd (M24 m + 2 ^ 63))
  steps : Scaled (i_of m * N) (low22 (gap63 (i_of m) m) * N) (k + 1) (lacks22 + 1172 * 2 ^ 22) (2 ^ 22) (Sn (M24 m - 2 ^ 63) (M24 m + 2 ^ 63)) (Sd (M24 m + 2 ^ 63))

sided : (m j v k : ℕ) → 2 ^ 23 ≤ m → m < 2 ^ 24 → M24 m * (2 * entry (256 - i_of m)) ≤ (m * (entry (256 - i_of m) / 2 ^ 23) + j) * 2 ^ 64
    → 1024000 * j ≤ 2 ^ 64 → 2560 * (512 * j) ≤ 2548 * v → Counted v k → Sided m k
unfolding gap63
sided m j v k lo hi ge few share count =
    let M = M24 m in
    let i = i_of m in
    let r = entry (256 - i) in
    let Q = m * (r / 2 ^ 23) in
    let g = 2 ^ 63 - Q in
    let e : M - 2 ^ 63 + 2 ^ 63 ≡ M = omega (arith, in_lo m lo) in
    let le : Q * 2 ^ 64 ≤ M * (2 * r) = omega (arith, mul-le-mul_left (m * (2 ^ 40)) (div-mul-le_self r (2 ^ 23))) in
    let p = place (M - 2 ^ 63) i Q j v k (rw e (in_hi m hi)) (rw e (indexed M (in_lo m lo) (in_hi m hi))) (rw e le) (rw e ge) few share count in
    let s : 2 * g * 2560 ≤ 12 * 2 ^ 64 = rw p.whole at p.small in
    let C = chain g s in
    let B = Low22.chain g s in
    record {
      small = s;
      sides = rw e at (near_place (M - 2 ^ 63) (2 * g) (2 * Q) (i * N) (2 * entry i) v k p (2 * low63 g) (2 * lacks g) C.never C.nearly);
      steps = rw e at (near_scaled (M - 2 ^ 63) (2 * g) (2 * Q) (i * N) (2 * entry i) v k p (low22 g * N) lacks22 (2 ^ 22) B.never B.nearly);
    }

sided_any : (m : ℕ) → 2 ^ 23 ≤ m → m < 2 ^ 24 → Sided m 8657045280
sided_any m lo hi =
    let r = entry (256 - i_of m) in
    sided m (2 ^ 24) (2 ^ 33 + 2 ^ 26) 8657045280 lo hi
    (omega (arith, mul-le-mul_left (m * (2 ^ 40)) (le_cut r (2 ^ 23) (lit< tt)), mul-le-mul_left ((2 ^ 23) * (2 ^ 40)) (le_of_lt hi))) (lit≤ tt) (lit≤ tt) any

-- the last entry's partner is not cut at all
sided_end : (m : ℕ) → 2 ^ 23 ≤ m → m < 2 ^ 24 → i_of m ≡ 256 → Sided m 1824
sided_end m lo hi e = sided m 0 0 1824 lo hi (rw e (rw entry_zero (turn m (2 ^ 40) (2 ^ 62) (2 ^ 39) (2 ^ 64) refl))) (lit≤ tt) (lit≤ tt) end
  where
    turn : (m a b c d : ℕ) → a * (2 * b) ≡ c * d → m * a * (2 * b) ≤ (m * c + 0) * d
    turn m a b c d h = rw (mul_assoc m a (2 * b), h) (omega arith)

-- ---- sizes
slack_small : (g : ℕ) → 2 * g * 2560 ≤ 12 * 2 ^ 64 → slack g ≤ 2 ^ 32
slack_small g m = omega (arith, div-mul-le_self g (2 ^ 24), div-mul-le_self (g / 2 ^ 24) 512, m)

low_ge : (g : ℕ) → g ≤ low63 g
unfolding low63
low_ge g = omega arith

-- the last entry's gap is never 0 below 1
end_gap : (m i : ℕ) → i ≡ 256 → m < 2 ^ 24 → 2 ^ 39 ≤ gap63 i m
unfolding gap63
end_gap m i e l = rw e (rw entry_zero (omega (arith, l)))

-- ---- what is known of the logarithm's parts at any m below 2 ^ 24
abbrev pub g_of : ℕ → ℕ
g_of m = gap63 (first24 m) (moved 24 m)

abbrev At : (i g n d k : ℕ) → Type 0
At i g n d k = Sides (i * N) (2 * low63 g) k (slack g) n d

pub record Parts (i g n d : ℕ) : Type 0 where
  pub first : 1 ≤ i
  pub last : i ≤ 256
  pub small : 2 * g * 2560 ≤ 12 * 2 ^ 64
  pub gap : i ≡ 256 → 2 ^ 39 ≤ g
  pub any : At i g n d 8657045281
  pub end : i ≡ 256 → At i g n d 1825
  pub steps : Scaled (i * N) (low22 g * N) 8657045281 (lacks22 + 1172 * 2 ^ 22) (2 ^ 22) n d
  pub under : 2 ^ 64 * n < N * d

pub parts : (m : ℕ) → zero < m → m < 2 ^ 24 → Parts (first24 m) (g_of m) (series_num m) (series_den m)
parts m z l =
    let M = moved 24 m in
    let i = first24 m in
    let g = g_of m in
    let lo : 2 ^ 23 ≤ M = moved_ge 24 m z l in
    let hi : M < 2 ^ 24 = omega (arith, moved_room 24 24 m (lit≤ tt) l) in
    let I = indexed (M24 M) (in_lo M lo) (in_hi M hi) in
    let S =
    rw (← mul_assoc m (2 ^ (24 - size m)) (2 ^ 40)) at (series m (2 ^ (24 - size m) * 2 ^ 40) (2 ^ 63) (mul-pos (pow_pos (24 - size m)) (pow_pos 40)) (omega (arith, lead_moved 24 m z l))) in
    let R = sided_any M lo hi in
    let A : At i g (series_num m) (series_den m) 8657045281 = move_sides (i * N) (2 * low63 g) 8657045281 (slack g) S R.sides in
    let E : (i ≡ 256 → At i g (series_num m) (series_den m) 1825) = λ (e : i ≡ 256). move_sides (i * N) (2 * low63 g) 1825 (slack g) S (sided_end M lo hi e).sides in
    let G : (i ≡ 256 → 2 ^ 39 ≤ g) = λ (e : i ≡ 256). end_gap M i e hi in
    record {
      first = I.first;
      last = I.last;
      small = R.small;
      gap = G;
      any = A;
      end = E;
      steps = move_scaled (i * N) (low22 g * N) 8657045281 (lacks22 + 1172 * 2 ^ 22) (2 ^ 22) S R.steps;
      under = ln2 i g (series_num m) (series_den m) (series_den_pos m z) I.last A E G (eq-or-lt_of_le I.last);
    }
  where
    ln2 : (i g n d : ℕ) → zero < d → i ≤ 256 → At i g n d 8657045281 → (i ≡ 256 → At i g n d 1825)
        → (i ≡ 256 → 2 ^ 39 ≤ g) → (i ≡ 256) ⊎ (i < 256) → 2 ^ 64 * n < N * d
    ln2 i g n d z h A E G (inl e) = strict i (2 * low63 g) 1825 n d (2 ^ 64) N z h (E e).above (omega (arith, G e, low_ge g))
    ln2 i g n d z h A E G (inr s) = strict i (2 * low63 g) 8657045281 n d (2 ^ 64) N z h A.above (omega (arith, s))

-- ---- the answer in units of 2 ^ -56
low7 : (l : ℕ) → l ≤ 128 * (l / 2 ^ 7) + 128
low7 l = omega (arith, lt-div-mul-add {a = l} {b = 2 ^ 7} (lit< tt))

hi7 : (l : ℕ) → 128 * (l / 2 ^ 7) ≤ l
hi7 l = omega (arith, div-mul-le_self l (2 ^ 7))

-- ---- outside the first interval the index is 2 or more
entry_1 : entry 1 < 514 * 2 ^ 53
unfolding entry P taylor fact
entry_1 = lit< tt

second : (i : ℕ) → 514 * 2 ^ 53 ≤ entry i → 2 ≤ i
second zero l = absurd (omega (arith, (rw entry_zero at l)))
second (suc zero) l = absurd (omega (arith, l, entry_1))
second (suc (suc i)) l = omega arith

beyond : (M : ℕ) → 2 ^ 63 + 2 ^ 54 ≤ M → M < 2 ^ 64 → 2 ≤ index_at_def (interval M)
beyond M a b =
    let D = digits M (omega (arith, a)) b in
    second (index_at_def (interval M)) (le_trans (omega (arith, a, D.below)) (index_found ((513 + interval M) * 2 ^ 53) D.inner).reached)

-- ---- by the sign of the exponent
num_pos : (x n u : ℕ) → u ≡ x + 2 ^ 64 * n → 256 * u ≡ 256 * x + n * 2 ^ 72
num_pos x n u e = omega arith

num_neg : (q n u : ℕ) → u + 2 ^ 64 * n ≡ q → 256 * u + n * 2 ^ 72 ≡ 256 * q
num_neg q n u e = omega arith

abbrev Claim : (i l n d : ℕ) → ℤ → Type 0
Claim i l n d k = PairNear (2 ^ 56) 255 (2 ^ 31) (pair_at k i N56 (l / 2 ^ 7)) (log_at k n d)

up : (i l n d s k : ℕ) → Sides (i * N) (2 * l) 8657045281 s n d → 2 * l * 2560 ≤ 13 * 2 ^ 64 → s ≤ 2 ^ 32 → 2 ≤ 256 * k + i → Claim i l n d (pos k)
up i l n d s k A ls ss two =
    from_one k n d (λ (b : Bool) (u : ℕ). Apart (2 ^ 56) 255 (2 ^ 31) b ((256 * k + i) * N56) (l / 2 ^ 7) u (2 ^ 64 * d))
    (λ (u : ℕ) e. (
      pos_above k i l (l / 2 ^ 7) (n * 2 ^ 72) d N N56 u s (lit≤ tt) (num_pos (k * N * d) n u e) A.below (low7 l) (omega (arith, two, ls, ss)),
      pos_below k i l (l / 2 ^ 7) (n * 2 ^ 72) d N N56 u s 8657045281 31147 (lit≤ tt) (num_pos (k * N * d) n u e) A.above A.below (hi7 l) (omega (arith, two, ls, ss)),
    ))

down : (i l n d s k x : ℕ) → i ≤ 256 → 2 ^ 64 * n < N * d → Sides (i * N) (2 * l) x s n d → 2 ^ 25 * x + x ≤ (256 * suc k - i) * N + 512 * l + 2 ^ 25 * 255 * 65536
    → 2 ^ 25 * (s + 65536 + 31147 * (256 * suc k - i)) + x ≤ (256 * suc k - i) * N + 512 * l + 2 ^ 25 * 255 * 65536 → Claim i l n d (negsuc k)
down i l n d s k x last under A ra rb =
    let j = 256 * suc k - i in
    let h = all k i last in
    below_one k n d (λ (b : Bool) (u : ℕ). Apart (2 ^ 56) 255 (2 ^ 31) b 0 (j * N56 + l / 2 ^ 7) u (2 ^ 64 * d)) under
    (λ (u : ℕ) e. (
      neg_above (suc k) i l (l / 2 ^ 7) (n * 2 ^ 72) d N N56 u x j (lit≤ tt) (num_neg (suc k * N * d) n u e) h A.above (hi7 l) ra,
      neg_below (suc k) i l (l / 2 ^ 7) (n * 2 ^ 72) d N N56 u s x 31147 j (lit≤ tt) (num_neg (suc k * N * d) n u e) h A.above A.below (low7 l) rb,
    ))

pub near : (m : ℕ) (k : ℤ) → zero < m → m < 2 ^ 24 → (k ≡ pos 0 → 2 ^ 23 + 2 ^ 14 ≤ moved 24 m)
    → PairNear (2 ^ 56) 255 (2 ^ 31) (pair_at k (first24 m) N56 (below24 low63 m / 2 ^ 7)) (log_at k (series_num m) (series_den m))
unfolding below24
near m k z t away = go k away
  where
    p : Parts (first24 m) (g_of m) (series_num m) (series_den m)
    p = parts m z t

    i : ℕ
    i = first24 m

    g : ℕ
    g = g_of m

    above : (k : ℕ) → 2 ≤ 256 * k + i → Claim i (low63 g) (series_num m) (series_den m) (pos k)
    above k two =
        up i (low63 g) (series_num m) (series_den m) (slack g) k p.any (below_small (2 * low63 g) (2 * g) p.small (chain g p.small).never) (slack_small g p.small) two

    below : (k : ℕ) → (i ≡ 256) ⊎ (i < 256) → Claim i (low63 g) (series_num m) (series_den m) (negsuc k)
    below k (inl e) =
        down i (low63 g) (series_num m) (series_den m) (slack g) k 1825 p.last p.under (p.end e) (omega arith)
        (omega (arith, low_ge g, p.gap e, div-mul-le_self g (2 ^ 24), div-mul-le_self (g / 2 ^ 24) 512))
    below k (inr e) =
        let one : 1 ≤ 256 * suc k - i = omega arith in
        down i (low63 g) (series_num m) (series_den m) (slack g) k 8657045281 p.last p.under p.any (omega (arith, one)) (omega (arith, one, slack_small g p.small))

    two : (k i : ℕ) → 1 ≤ i → 2 ≤ 256 * suc k + i
    two k i h = omega arith

    go : (k : ℤ) → (k ≡ pos 0 → 2 ^ 23 + 2 ^ 14 ≤ moved 24 m) → Claim i (low63 g) (series_num m) (series_den m) k
    go (pos zero) a = above zero (omega (arith, beyond (M24 (moved 24 m)) (omega (arith, a refl)) (omega (arith, moved_room 24 24 m (lit≤ tt) t))))
    go (pos (suc k)) a = above (suc k) (two k i p.first)
    go (negsuc k) a = below k (eq-or-lt_of_le p.last)
