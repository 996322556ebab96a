-- A number that lies strictly between w and w + 1, in units of 2 ^ y, rounds as w and a half does, where w has more digits than the format keeps:
-- of what was cut off, only "something is left" counts. So one bit, the sticky bit, stands for it. Assumes nothing.
use Rattle.std.proofs.Common.{◌≡◌, ℕ, suc, ◌+◌, ◌-◌, ◌*◌, ◌/◌, ◌%◌, ◌^◌, ◌<◌, ◌≤◌, Bool, true, false, cond, not, T, ltb, leb, ◌⊎◌, sym, ap, ◌∙◌, subst, inl, inr, le_trans, le_of_eq, lt_of_lt_of_le, le_of_suc-le-suc, lt_of_le_of_lt, add-zero, le_of_lt, lt_irrefl, mul-le-mul_right, mod-lt, mul_assoc, mul_comm, div-lt_iff_lt-mul, add-sub_of_le, le_antisymm, lt_of_mul-lt-mul_right, mul-le-mul_left, mul-lt-mul_of_pos_right, mul-pos, one-mul, lt_of_not-le, div-add-mod', le-div_iff_mul-le, sub-add_cancel, not-le_of_lt, arith, lit≤, ltb→lt, leb→le, nltb→le, pow_pos, pow_mono, pow-add}
use Prim.Native.Nat.{compare, Ordering}
use lib.Dec.{nleb→lt}
use lib.Arith.{digits_div, digits_mod}
use lib.Ieee.{Format, binary32, binary64, prec, low, size, nearest, units, round}
use lib.Ieee.Digits.{size-lt, size-le}
use lib.Ieee.Fits.{core, round_is}
use lib.Ieee.Nearest.{closest}
use lib.Ieee.Scale.{round_same}
use Rattle.soft.proofs.Rounding.Basics.{pos_of}
use Rattle.soft.specs.inner.Cuts.{Cut}
use Rattle.soft.proofs.Rounding.Closest.{cmp, is_lt, is_gt}

-- ---- which way r and a bit of 2 h goes
side : ℕ → ℕ → Ordering
side r h = cond (ltb r h) Ordering.lt Ordering.gt

-- a / b lies strictly between q * 2 h + r and the next number: in units of 2 h it is nearest to q or to the next by r alone
module _ (a b h q r : ℕ) (b0 : 0 < b) (h0 : 0 < h) (rl : r < h * 2) (lo : (q * (h * 2) + r) * b < a) (hi : a < (q * (h * 2) + r + 1) * b) where
  split : (t : ℕ) × (a ≡ q * (b * (h * 2)) + t) × (r * b < t) × (t < r * b + b)
  split = (a - q * (b * (h * 2)), omega arith, omega arith, omega arith)

  inside : split.0 < b * (h * 2)
  inside =
      let z : r + 1 ≤ h * 2 = omega arith in
      let y : b * (r + 1) ≤ b * (h * 2) = mul-le-mul_left b z in
      let s : r * b + b ≤ b * (h * 2) = omega arith in
      lt_of_lt_of_le split.3 s

  decide : compare (split.0 * 2) (b * (h * 2)) ≡ side r h
  unfolding side
  decide = go (ltb r h) (ltb→lt r h) (nltb→le r h)
    where
      go : (c : Bool) → (T c → r < h) → (T (not c) → h ≤ r) → compare (split.0 * 2) (b * (h * 2)) ≡ cond c Ordering.lt Ordering.gt
      go true l g =
          let k : r < h = l tt in
          let m : b * suc r ≤ b * h = mul-le-mul_left b k in
          is_lt (compare (split.0 * 2) (b * (h * 2))) (split.0 * 2) (b * (h * 2)) (cmp (split.0 * 2) (b * (h * 2))) (omega (arith, split.3))
      go false l g =
          let k : h ≤ r = g tt in
          let m : b * h ≤ b * r = mul-le-mul_left b k in
          is_gt (compare (split.0 * 2) (b * (h * 2))) (split.0 * 2) (b * (h * 2)) (cmp (split.0 * 2) (b * (h * 2))) (omega (arith, split.2))

  closest_side : closest a (b * (h * 2)) ≡ nearest q (side r h)
  closest_side =
      let t = split.0 in
      let u = b * (h * 2) in
      let e : a / u ≡ q = ap (λ (n : ℕ). n / u) split.1 ∙ digits_div q inside in
      let m : a % u ≡ t = ap (λ (n : ℕ). n % u) split.1 ∙ digits_mod q inside in
      ap (λ (n : ℕ). nearest n (compare (a % u * 2) u)) e ∙ ap (λ (n : ℕ). nearest q (compare (n * 2) u)) m ∙ ap (nearest q) decide

-- so two fractions in one gap round alike
pub same_gap : (a b c d w h : ℕ) → 0 < b → 0 < d → 0 < h → w * b < a → a < (w + 1) * b → w * d < c → c < (w + 1) * d → closest a (b * (h * 2)) ≡ closest c (d * (h * 2))
same_gap a b c d w h b0 d0 h0 p q r s =
    let t = h * 2 in
    let e : w / t * t + w % t ≡ w = div-add-mod' w t in
    let l : w % t < t = mod-lt w (omega arith) in
    closest_side a b h (w / t) (w % t) b0 h0 l (subst (λ (x : ℕ). x * b < a) (sym e) p) (subst (λ (x : ℕ). a < (x + 1) * b) (sym e) q)
    ∙ sym (closest_side c d h (w / t) (w % t) d0 h0 l (subst (λ (x : ℕ). x * d < c) (sym e) r) (subst (λ (x : ℕ). c < (x + 1) * d) (sym e) s))

-- ---- a gap holds no power of two: of 2 ^ i and the bounds w * 2 ^ j and (w + 1) * 2 ^ j
pow_split : (i j : ℕ) → j ≤ i → 2 ^ i ≡ 2 ^ (i - j) * 2 ^ j
pow_split i j h = ap (λ (x : ℕ). 2 ^ x) (sym (sub-add_cancel h)) ∙ pow-add 2 (i - j) j

double_lt : (w c : ℕ) → w * 2 + 1 < c * 2 → w + 1 ≤ c
double_lt w c h = omega arith

-- the middle of the gap is below 2 ^ i exactly where the whole gap is
gap_below : (w i j : ℕ) → 0 < w → (w * 2 + 1) * 2 ^ j < 2 ^ i * 2 → (w + 1) * 2 ^ j ≤ 2 ^ i
gap_below w i j p h = go (leb j i) (leb→le j i) (nleb→lt j i)
  where
    go : (b : Bool) → (T b → j ≤ i) → (T (not b) → i < j) → (w + 1) * 2 ^ j ≤ 2 ^ i
    go true l g =
        let e = pow_split i j (l tt) in
        let k : (w * 2 + 1) * 2 ^ j < 2 ^ (i - j) * 2 * 2 ^ j = lt_of_lt_of_le h (le_of_eq (ap (λ (x : ℕ). x * 2) e ∙ swap (2 ^ (i - j)) (2 ^ j))) in
        le_trans (mul-le-mul_right (2 ^ j) (double_lt w (2 ^ (i - j)) (lt_of_mul-lt-mul_right (2 ^ j) k))) (le_of_eq (sym e))
      where
        swap : (x y : ℕ) → x * y * 2 ≡ x * 2 * y
        swap x y = omega arith
    go false l g = absurd (clash (2 ^ i) (2 ^ j) ((w * 2 + 1) * 2 ^ j) (pow_mono (le_of_lt (g tt))) h (le_trans (le_of_eq (three (2 ^ j))) (mul-le-mul_right (2 ^ j) (more w p))))
      where
        three : (y : ℕ) → y * 3 ≡ 3 * y
        three y = omega arith

        more : (w : ℕ) → 0 < w → 3 ≤ w * 2 + 1
        more w p = omega arith

        clash : (a b m : ℕ) → a ≤ b → m < a * 2 → b * 3 ≤ m → ⊥
        clash a b m x y z = omega arith

gap_above : (w i j : ℕ) → 0 < w → w * 2 ^ j < 2 ^ i → (w * 2 + 1) * 2 ^ j < 2 ^ i * 2
gap_above w i j p h = go (leb j i) (leb→le j i) (nleb→lt j i)
  where
    go : (b : Bool) → (T b → j ≤ i) → (T (not b) → i < j) → (w * 2 + 1) * 2 ^ j < 2 ^ i * 2
    go true l g =
        let e = pow_split i j (l tt) in
        let k : w < 2 ^ (i - j) = lt_of_mul-lt-mul_right (2 ^ j) (lt_of_lt_of_le h (le_of_eq e)) in
        lt_of_lt_of_le (mul-lt-mul_of_pos_right (odd w (2 ^ (i - j)) k) (pow_pos j)) (le_of_eq (swap (2 ^ (i - j)) (2 ^ j) ∙ ap (λ (x : ℕ). x * 2) (sym e)))
      where
        odd : (w c : ℕ) → w < c → w * 2 + 1 < c * 2
        odd w c h = omega arith

        swap : (x y : ℕ) → x * 2 * y ≡ x * y * 2
        swap x y = omega arith
    go false l g = absurd (lt_irrefl (2 ^ i) (lt_of_le_of_lt (pow_mono (le_of_lt (g tt)))
        (lt_of_le_of_lt (le_trans (le_of_eq (sym (one-mul (2 ^ j)))) (mul-le-mul_right (2 ^ j) p)) h)))

-- ---- at `round`
room : (p l y u z : ℕ) → (u ≤ l + y → p + (l + y - u) < z) → (l + y < u → ⊥) ⊎ (l + y < u) → y + l + 1 ≤ u + (z - p)
room p l y u z h (inl n) = let k = h (le_of_not n) in omega arith
  where
    le_of_not : (l + y < u → ⊥) → u ≤ l + y
    le_of_not n = le_of_suc-le-suc (lt_of_not-le n)
room p l y u z h (inr k) = omega arith

module _ (f : Format) (s : Bool) (x w y u : ℕ) (lo : w * 2 ^ y < x) (hi : x < (w + 1) * 2 ^ y) (big : 2 ^ prec f ≤ w) where
  w_pos : 0 < w
  w_pos = lt_of_lt_of_le (pow_pos (prec f)) big

  -- both fractions in smallest values: a / 2 ^ u, and c / 2 ^ (u + 1); the gap is m wide in the first, and twice that in the second
  abbrev a : ℕ
  a = x * 2 ^ low f

  abbrev c : ℕ
  c = (w * 2 + 1) * 2 ^ y * 2 ^ low f

  abbrev m : ℕ
  m = 2 ^ (y + low f)

  scaled : (n : ℕ) → n * 2 ^ y * 2 ^ low f ≡ n * m
  scaled n = mul_assoc n (2 ^ y) (2 ^ low f) ∙ ap (λ (z : ℕ). n * z) (sym (pow-add 2 y (low f)))

  a_lo : w * m < a
  a_lo = lt_of_le_of_lt (le_of_eq (sym (scaled w))) (mul-lt-mul_of_pos_right lo (pow_pos (low f)))

  a_hi : a < (w + 1) * m
  a_hi = lt_of_lt_of_le (mul-lt-mul_of_pos_right hi (pow_pos (low f))) (le_of_eq (scaled (w + 1)))

  c_is : c ≡ (w * 2 + 1) * m
  c_is = scaled (w * 2 + 1)

  c_lo : w * (m * 2) < c
  c_lo = subst (λ (z : ℕ). w * (m * 2) < z) (sym c_is) (half m (pow_pos (y + low f)))
    where
      half : (m : ℕ) → 0 < m → w * (m * 2) < (w * 2 + 1) * m
      half m p = omega arith

  c_hi : c < (w + 1) * (m * 2)
  c_hi = subst (λ (z : ℕ). z < (w + 1) * (m * 2)) (sym c_is) (half m (pow_pos (y + low f)))
    where
      half : (m : ℕ) → 0 < m → (w * 2 + 1) * m < (w + 1) * (m * 2)
      half m p = omega arith

  den : (j : ℕ) → 2 ^ j * 2 ^ (u + 1) ≡ 2 ^ (j + u) * 2
  den j = ap (λ (z : ℕ). 2 ^ j * z) (pow-add 2 u 1) ∙ sym (mul_assoc (2 ^ j) (2 ^ u) 2) ∙ ap (λ (z : ℕ). z * 2) (sym (pow-add 2 j u))

  to_a : (j : ℕ) → c / 2 ^ (u + 1) < 2 ^ j → a / 2 ^ u < 2 ^ j
  to_a j h =
      let k : (w * 2 + 1) * m < 2 ^ (j + u) * 2 = subst (λ (z : ℕ). z < 2 ^ (j + u) * 2) c_is (lt_of_lt_of_le ((div-lt_iff_lt-mul (pow_pos (u + 1))).0 h) (le_of_eq (den j))) in
      (div-lt_iff_lt-mul (pow_pos u)).1 (lt_of_lt_of_le a_hi (le_trans (gap_below w (j + u) (y + low f) w_pos k) (le_of_eq (pow-add 2 j u))))

  to_c : (j : ℕ) → a / 2 ^ u < 2 ^ j → c / 2 ^ (u + 1) < 2 ^ j
  to_c j h =
      let k : w * m < 2 ^ (j + u) = lt_of_lt_of_le a_lo (le_trans (le_of_lt ((div-lt_iff_lt-mul (pow_pos u)).0 h)) (le_of_eq (sym (pow-add 2 j u)))) in
      (div-lt_iff_lt-mul (pow_pos (u + 1))).1 (lt_of_lt_of_le (subst (λ (z : ℕ). z < 2 ^ (j + u) * 2) (sym c_is) (gap_above w (j + u) (y + low f) w_pos k)) (le_of_eq (sym (den j))))

  same_size : size (a / 2 ^ u) ≡ size (c / 2 ^ (u + 1))
  same_size = le_antisymm (size-le (a / 2 ^ u) (size (c / 2 ^ (u + 1))) (to_a (size (c / 2 ^ (u + 1))) (size-lt (c / 2 ^ (u + 1)))))
      (size-le (c / 2 ^ (u + 1)) (size (a / 2 ^ u)) (to_c (size (a / 2 ^ u)) (size-lt (a / 2 ^ u))))

  -- the digits that are dropped reach past the gap
  reaches : u ≤ low f + y → prec f + (low f + y - u) < size (a / 2 ^ u)
  reaches h =
      let j = prec f + (low f + y - u) in
      let e : 2 ^ j * 2 ^ u ≡ 2 ^ prec f * m = sym (pow-add 2 j u) ∙ ap (λ (z : ℕ). 2 ^ z) (add (prec f) (low f) y u h) ∙ pow-add 2 (prec f) (y + low f) in
      let k : 2 ^ j ≤ a / 2 ^ u = (le-div_iff_mul-le (pow_pos u)).1 (le_trans (le_of_eq e) (le_trans (mul-le-mul_right m big) (le_of_lt a_lo))) in
      lt_of_not-le (λ (g : size (a / 2 ^ u) ≤ j). not-le_of_lt (lt_of_lt_of_le (size-lt (a / 2 ^ u)) (pow_mono g)) k)
    where
      add : (p l y u : ℕ) → u ≤ l + y → p + (l + y - u) + u ≡ p + (y + l)
      add p l y u h = omega arith

  abbrev k : ℕ
  k = size (a / 2 ^ u) - prec f

  past : y + low f + 1 ≤ u + k
  past = room (prec f) (low f) y u (size (a / 2 ^ u)) reaches (either (low f + y) u)
    where
      either : (i j : ℕ) → (i < j → ⊥) ⊎ (i < j)
      either i j = go (ltb i j) (ltb→lt i j) (nltb→le i j)
        where
          go : (b : Bool) → (T b → i < j) → (T (not b) → j ≤ i) → (i < j → ⊥) ⊎ (i < j)
          go true l g = inr (l tt)
          go false l g = inl (λ (h : i < j). not-le_of_lt h (g tt))

  -- the unit of the result, in gaps: 2 h of them
  abbrev h : ℕ
  h = 2 ^ (u + k - (y + low f + 1))

  unit : 2 ^ u * 2 ^ k ≡ m * (h * 2)
  unit = sym (pow-add 2 u k) ∙ ap (λ (z : ℕ). 2 ^ z) (sym (add-sub_of_le past)) ∙ pow-add 2 (y + low f + 1) (u + k - (y + low f + 1))
      ∙ ap (λ (z : ℕ). z * h) (pow-add 2 (y + low f) 1) ∙ swap m h
    where
      swap : (m h : ℕ) → m * 2 * h ≡ m * (h * 2)
      swap m h = omega arith

  unit_2 : 2 ^ (u + 1) * 2 ^ k ≡ m * 2 * (h * 2)
  unit_2 = ap (λ (z : ℕ). z * 2 ^ k) (pow-add 2 u 1) ∙ swap (2 ^ u) (2 ^ k) ∙ ap (λ (z : ℕ). z * 2) unit ∙ sym (swap m (h * 2))
    where
      swap : (m h : ℕ) → m * 2 * h ≡ m * h * 2
      swap m h = omega arith

  pub sticky : round f s x (2 ^ u) ≡ round f s ((w * 2 + 1) * 2 ^ y) (2 ^ (u + 1))
  sticky =
      let q : closest a (2 ^ u * 2 ^ k) ≡ closest c (2 ^ (u + 1) * 2 ^ k) =
      ap (closest a) unit ∙ same_gap a m c (m * 2) w h (pow_pos (y + low f)) (mul-pos (pow_pos (y + low f)) (pow_pos 1))
      (pow_pos (u + k - (y + low f + 1))) a_lo a_hi c_lo c_hi ∙ ap (closest c) (sym unit_2) in
      round_is f s x (2 ^ u) ∙ ap (λ (z : ℕ). units f s z k) q
      ∙ ap (λ (j : ℕ). core f s c (2 ^ (u + 1)) (j - prec f)) same_size
      ∙ sym (round_is f s ((w * 2 + 1) * 2 ^ y) (2 ^ (u + 1)))

-- ---- with the bit: x is w units of 2 ^ y, and a little more exactly where the bit is set
abbrev pub bit : Bool → ℕ
bit b = cond b 1 0

-- and where it is, w is at least m
pub cut_rounds : (f : Format) (s : Bool) (m x w y u : ℕ) (b : Bool) → 2 ^ prec f ≤ m → Cut m x w y b → round f s x (2 ^ u) ≡ round f s ((w * 2 + bit b) * 2 ^ y) (2 ^ (u + 1))
cut_rounds f s m x w y u true g h = sticky f s x w y u h.0 h.1 (le_trans g h.2)
cut_rounds f s m x w y u false g e =
    round_same f s x (2 ^ u) ((w * 2 + 0) * 2 ^ y) (2 ^ (u + 1)) (pow_pos u) (pow_pos (u + 1))
    (ap (λ (z : ℕ). z * 2 ^ (u + 1)) e ∙ ap (λ (z : ℕ). w * 2 ^ y * z) (pow-add 2 u 1) ∙ swap w (2 ^ y) (2 ^ u))
  where
    swap : (w y u : ℕ) → w * y * (u * 2) ≡ (w * 2 + 0) * y * u
    swap w y u = omega arith

-- 60 digits are enough for either format
pub keeps : (f : Format) → 2 ^ prec f ≤ 2 ^ 60
keeps binary32 = lit≤ tt
keeps binary64 = lit≤ tt

-- ---- w * 2 ^ y cut n digits higher: whether anything was lost is the bit
module _ (w y n : ℕ) where
  abbrev q : ℕ
  q = w / 2 ^ n

  place : (v : ℕ) → v * 2 ^ (y + n) ≡ v * 2 ^ n * 2 ^ y
  place v = ap (λ (z : ℕ). v * z) (pow-add 2 y n ∙ mul_comm (2 ^ y) (2 ^ n)) ∙ sym (mul_assoc v (2 ^ n) (2 ^ y))

  whole : q * 2 ^ n + w % 2 ^ n ≡ w
  whole = div-add-mod' w (2 ^ n)

  next : w < (q + 1) * 2 ^ n
  next = step (2 ^ n) q (w % 2 ^ n) w whole (mod-lt w (pow_pos n))
    where
      step : (p q r w : ℕ) → q * p + r ≡ w → r < p → w < (q + 1) * p
      step p q r w e h = omega arith

  over : (w % 2 ^ n ≡ 0 → ⊥) → q * 2 ^ n < w
  over h = more (q * 2 ^ n) (w % 2 ^ n) w whole (pos_of (w % 2 ^ n) h)
    where
      more : (a r w : ℕ) → a + r ≡ w → 0 < r → a < w
      more a r w e h = omega arith

  pub cut_at : (k : ℕ) (c : Bool) → (T c → w % 2 ^ n ≡ 0) → (T (not c) → w % 2 ^ n ≡ 0 → ⊥) → (T (not c) → k ≤ q) → Cut k (w * 2 ^ y) q (y + n) (not c)
  cut_at k true z l g =
      ap (λ (v : ℕ). v * 2 ^ y) (sym (sym (add-zero (q * 2 ^ n)) ∙ ap (λ (r : ℕ). q * 2 ^ n + r) (sym (z tt)) ∙ whole)) ∙ sym (place q)
  cut_at k false z l g = (
    lt_of_le_of_lt (le_of_eq (place q)) (mul-lt-mul_of_pos_right (over (l tt)) (pow_pos y)),
    lt_of_lt_of_le (mul-lt-mul_of_pos_right next (pow_pos y)) (le_of_eq (sym (place (q + 1)))),
    g tt,
  )
