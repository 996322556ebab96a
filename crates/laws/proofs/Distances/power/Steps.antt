-- 2 ^ K P(r) at two neighbouring arguments K ln 2 + r that lie n / u apart: no further apart than 260 / 256 of that, also where K steps up between them.
-- Assumes nothing.
use mathlib.Core.Path.{◌≡◌}
use mathlib.Core.Logic.{inl, inr}
use Prim.Native.Nat.{ℕ, zero, suc, ◌+◌, ◌-◌, ◌*◌, ◌^◌, ◌≤◌, ◌<◌}
use native.Mathlib.Nat.{eq-or-lt_of_le, le_trans, le_of_lt, mul_left_comm, mul-le-mul, mul-le-mul_left, mul-le-mul_right, le_of_mul-le-mul_right, lt_of_mul-lt-mul_right, mul-lt-mul_of_pos_left, mul-pos, le-add_right, pow-succ'}
use native.Mathlib.Omega.{arith}
use lib.Dec.{lit<, lit≤}
use lib.Pow.{pow_mono}
use Rattle.table.specs.Exact.{N}
use Rattle.table.proofs.Exact.Poly.{h}
use Rattle.table.proofs.Exact.Laws.{pow-mul}
use Rattle.table.proofs.Exact.Frac.{h_homog, either}
use Rattle.table.proofs.Exact.Terms.{pcoef, f23}
use Rattle.table.proofs.Exact.Near.{h_grows, P-one, P-small, P-step}

-- Arguments are whole numbers of units, and 2 ^ 72 * b of them are one; ln 2 is N / 2 ^ 64
abbrev pub unit : ℕ → ℕ
unit b = b * 2 ^ 72

abbrev pub span : ℕ → ℕ
span b = b * (256 * N)

-- P(r) is value b r over denom b
abbrev pub value : ℕ → ℕ → ℕ
value b r = h 23 pcoef r (unit b)

abbrev pub denom : ℕ → ℕ
denom b = f23 * unit b ^ 23

-- the same fraction over b
unfoldable pub D : ℕ
unfolding f23
D = f23 * (2 ^ 72) ^ 23

pub value-is : (b x : ℕ) → value b (b * x) ≡ b ^ 23 * h 23 pcoef x (2 ^ 72)
value-is b x = h_homog 23 pcoef b x (2 ^ 72)

pub denom_is : (b : ℕ) → denom b ≡ b ^ 23 * D
unfolding D
denom_is b = rw (pow-mul b (2 ^ 72) 23) (mul_left_comm f23 (b ^ 23) ((2 ^ 72) ^ 23))

-- ---- P(N / 2 ^ 64) is 2, nearly
two_hi : h 23 pcoef (256 * N) (2 ^ 72) ≤ 2 * D
unfolding h pcoef f23 D
two_hi = lit≤ tt

two_lo : 2 * D * (2 ^ 63 - 1) ≤ h 23 pcoef (256 * N) (2 ^ 72) * 2 ^ 63
unfolding h pcoef f23 D
two_lo = lit≤ tt

-- ---- arithmetic alone
within : (x y B d u n c : ℕ) → zero < B → x * (256 * B) ≤ y * (256 * B + c * d) → d * u ≤ n * B → x * (256 * u) ≤ y * (256 * u + c * n)
within x y B d u n c z l m = le_of_mul-le-mul_right {k = B} (omega (arith, mul-le-mul_right u l, mul-le-mul_left (c * y) m)) z

-- (1 + 257 / 256 t) (1 + 257 / 256 d) ≤ 1 + 258 / 256 (t + d)
both_sides : (B t d : ℕ) → (t + d) * 256 ≤ B → (256 * B + 257 * t) * (256 * B + 257 * d) ≤ 256 * B * (256 * B + 258 * (t + d))
both_sides B t d l = omega (arith, mul-le-mul_right d tl, mul-le-mul_right t dl)
  where
    tl : t * 256 ≤ B
    tl = omega arith

    dl : d * 256 ≤ B
    dl = omega arith

-- D the denominator, m = P(ln 2), r and s the numerators on either side of ln 2, t and d how far from it
across : (D m r s B t d v' v : ℕ) → zero < B → 2 * D * v' ≤ m * v → m * (256 * B) ≤ r * (256 * B + 257 * t) → s * (256 * B) ≤ D * (256 * B + 257 * d)
    → (t + d) * 256 ≤ B → 2 * s * v' * (256 * B) ≤ r * v * (256 * B + 258 * (t + d))
across D m r s B t d v' v z a b c l =
    le_of_mul-le-mul_right {k = 256 * B} (omega (
      arith,
      mul-le-mul_left (2 * v' * (256 * B)) c,
      mul-le-mul_right ((256 * B + 257 * d) * (256 * B)) a,
      mul-le-mul_right (v * (256 * B + 257 * d)) b,
      mul-le-mul_left (r * v) (both_sides B t d l),
    )) (mul-pos {m = 256} (lit< tt) z)

rounded : (x r v' v y y' k : ℕ) → zero < v' → x * v' * k ≤ r * v * y → v * y ≤ v' * y' → x * k ≤ r * y'
rounded x r v' v y y' k z l room = le_of_mul-le-mul_right {k = v'} (omega (arith, mul-le-mul_left r room)) z

whole_le : (W K r K' r' : ℕ) → r' < W → K * W + r ≤ K' * W + r' → K ≤ K'
whole_le W K r K' r' s l = omega (arith, lt_of_mul-lt-mul_right W {m = K} {n = K' + 1} (omega arith))

-- ---- two arguments K ln 2 + r, over b
module _ (b : ℕ) (z : zero < b) where
  unit_pos : zero < unit b
  unit_pos = mul-pos z (lit< tt)

  in_span : (r : ℕ) → r ≤ span b → r * 2560 ≤ 1792 * unit b
  in_span r l = go r (256 * N) (2 ^ 72) (lit≤ tt) l
    where
      go : (r w c : ℕ) → w * 2560 ≤ 1792 * c → r ≤ b * w → r * 2560 ≤ 1792 * (b * c)
      go r w c e l = omega (arith, mul-le-mul_left b e)

  grows : (K r K' r' : ℕ) → r ≤ span b → r' < span b → K * span b + r ≤ K' * span b + r' → 2 ^ K * value b r ≤ 2 ^ K' * value b r'
  grows K r K' r' m s l =
      elim (eq-or-lt_of_le (whole_le (span b) K r K' r' s l)) [
        | inl e ↦ rw (← e) (mul-le-mul_left (2 ^ K) (h_grows 23 pcoef r r' (unit b) (omega (arith, (rw (← e) at l)))))
        | inr n ↦ omega (
          arith,
          mul-le-mul_left (2 ^ K)
              (le_trans (h_grows 23 pcoef r (span b) (unit b) m) (le_trans (rw (value-is b (256 * N), denom_is b) (omega (arith, two_hi, mul-le-mul_left (b ^ 23) two_hi))) (mul-le-mul_left 2 (P-one r' (unit b))))),
          mul-le-mul_right (value b r') (rw (pow-succ' 2 K) at (pow_mono {i = suc K} {j = K'} n)),
        )
      ]

  module _ (u n : ℕ) (pos : zero < u) (big : 256 * n ≤ u) (room : 2 ^ 63 * (256 * u + 258 * n) ≤ (2 ^ 63 - 1) * (256 * u + 260 * n)) where
    pub near_by : (d : ℕ) → d * u ≤ n * unit b → d * 256 ≤ 1 * unit b
    near_by d l = le_of_mul-le-mul_right {k = u} (omega (arith, big, l, mul-le-mul_right (unit b) big)) pos

    same_up : (r r' d : ℕ) → r ≤ span b → r' ≤ r + d → d * u ≤ n * unit b → value b r' * (256 * u) ≤ value b r * (256 * u + 260 * n)
    same_up r r' d m l k =
        le_trans (mul-le-mul_right (256 * u) (h_grows 23 pcoef r' (r + d) (unit b) l))
        (le_trans (within (value b (r + d)) (value b r) (unit b) d u n 257 unit_pos (P-step r d (unit b) unit_pos (in_span r m) (near_by d k)) k)
        (omega arith))

    -- K steps up: r is t short of ln 2, and r' beyond it
    next_up : (r r' t : ℕ) → r + t ≡ span b → (t + r') * u ≤ n * unit b → 2 * value b r' * (256 * u) ≤ value b r * (256 * u + 260 * n)
    next_up r r' t e l =
        rounded (2 * value b r') (value b r) (2 ^ 63 - 1) (2 ^ 63) (256 * u + 258 * n) (256 * u + 260 * n) (256 * u) (lit< tt)
        (within (2 * value b r' * (2 ^ 63 - 1)) (value b r * 2 ^ 63) (unit b) (t + r') u n 258 unit_pos
        (across (denom b) (value b (span b)) (value b r) (value b r') (unit b) t r' (2 ^ 63 - 1) (2 ^ 63) unit_pos
        (rw (value-is b (256 * N), denom_is b) (omega (arith, two_lo, mul-le-mul_left (b ^ 23) two_lo)))
        (rw e at (P-step r t (unit b) unit_pos (in_span r (rw (← e) (le-add_right r t))) (omega (arith, near_by (t + r') l))))
        (P-small r' (unit b) (omega (arith, near_by (t + r') l))) (omega (arith, near_by (t + r') l))) l)
        room

    beyond : (K r r' d : ℕ) → r < span b → suc K * span b + r' ≤ K * span b + r + d → d * u ≤ n * unit b
        → 2 ^ suc K * value b r' * (256 * u) ≤ 2 ^ K * value b r * (256 * u + 260 * n)
    beyond K r r' d s l k =
        rw (pow-succ' 2 K)
        (omega (arith, mul-le-mul_left (2 ^ K) (next_up r r' (span b - r) (omega (arith, s)) (le_trans (mul-le-mul_right u (apart (span b) K r r' d s l)) k))))
      where
        apart : (W K r r' d : ℕ) → r < W → suc K * W + r' ≤ K * W + r + d → W - r + r' ≤ d
        apart W K r r' d s l = omega arith

    little_more : (K r K' r' d : ℕ) → r < span b → r' < span b → K * span b + r ≤ K' * span b + r' → K' * span b + r' ≤ K * span b + r + d
        → d * u ≤ n * unit b → 2 ^ K' * value b r' * (256 * u) ≤ 2 ^ K * value b r * (256 * u + 260 * n)
    little_more K r K' r' d s s' l l' k =
        elim (eq-or-lt_of_le (whole_le (span b) K r K' r' s' l)) [
          | inl e ↦ rw (← e) (omega (arith, mul-le-mul_left (2 ^ K) (same_up r r' d (le_of_lt s) (omega (arith, (rw (← e) at l'))) k)))
          | inr o ↦
              let e : K' ≡ suc K = one_more (span b) K r K' r' d s (short d (256 * N) (2 ^ 72) (near_by d k) (lit< tt)) l' o in
              rw e (beyond K r r' d s (rw e at l') k)
        ]
      where
        short : (d w c : ℕ) → d * 256 ≤ 1 * (b * c) → c < 256 * w → d < b * w
        short d w c l m = lt_of_mul-lt-mul_right 256 (omega (arith, mul-lt-mul_of_pos_left {k = b} m z))

        one_more : (W K r K' r' d : ℕ) → r < W → d < W → K' * W + r' ≤ K * W + r + d → K < K' → K' ≡ suc K
        one_more W K r K' r' d s t l k = omega (arith, lt_of_mul-lt-mul_right W {m = K'} {n = K + 2} (omega arith))

    -- either way round
    pub close : (K r K' r' d : ℕ) → r < span b → r' < span b → K * span b + r ≤ K' * span b + r' + d → d * u ≤ n * unit b
        → 2 ^ K * value b r * (256 * u) ≤ 2 ^ K' * value b r' * (256 * u + 260 * n)
    close K r K' r' d s s' l k =
        elim (either (K * span b + r) (K' * span b + r'))
        [ inl o ↦ omega (arith, mul-le-mul (grows K r K' r' (le_of_lt s) s' o) (le-add_right (256 * u) (260 * n))) | inr o ↦ little_more K' r' K r d s' s o l k ]
