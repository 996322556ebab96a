-- Next to 1: t - t^2/2 + t^3/3 against L's series, from what P says of the three. Assumes nothing.
use mathlib.Core.Path.{◌≡◌, ap, subst, ◌∙◌}
use Prim.Native.Nat.{ℕ, zero, ◌+◌, ◌-◌, ◌*◌, ◌^◌, ◌≤◌, ◌<◌}
use native.Mathlib.Nat.{le_trans, mul-le-mul, mul-le-mul_left, mul-le-mul_right, le_of_mul-le-mul_left, le_of_mul-le-mul_right, mul-pos, one-le-pow, pow-succ'}
use native.Mathlib.Omega.{arith}
use lib.Dec.{lit<, lit≤}
use lib.Pow.{pow-add}
use Rattle.table.proofs.Exact.Poly.{h}
use Rattle.table.proofs.Exact.Laws.{pow-mul, pow-pow}
use Rattle.table.proofs.Exact.Near.{P-one}
use Rattle.table.proofs.Exact.Terms.{f23}
use Rattle.table.proofs.Exact.Chain as Chain
use Rattle.table.proofs.Exact.Chain.{ac}
use Rattle.laws.proofs.Distances.logarithm.Ratio.{nearest}
use Rattle.laws.proofs.Distances.logarithm.Sum.{PP, FF, f_pos, Sn, Sd, Sd-pos, S-up, S-down, S-small, sum_up, sum_down, FX-is}
use Rattle.laws.proofs.Distances.logarithm.First.{An, Bn, PA, PB, pa, pb, at_i, at_ii}

-- ---- arithmetic alone
cross_ii : (F c3 c2 x y v b M PL PY q s : ℕ) → 3 * c2 * PY * s ≤ c3 * (x * (q * (M * PL))) * s + 3 * c2 * c3 * F * (x * (v * (b * y))) → F * (c2 * y) ≤ PL → b ≤ M
    → b * PY * (F * (c2 * y)) * (3 * v * s) ≤ M * PL * (F * (c3 * (x * (v * (b * y))))) * (q * s + 3 * v)
cross_ii F c3 c2 x y v b M PL PY q s l m n =
    end (b * PY * (F * (c2 * y)) * (3 * v * s)) (c3 * (x * (q * (M * PL))) * s) (3 * c2 * c3 * F * (x * (v * (b * y)))) (F * b * y * v)
    (M * PL * (F * (c3 * (x * (v * (b * y)))))) (q * s) (3 * v) s1 (simp ac) (simp ac (simp ac at (mul-le-mul_left (3 * c3 * F * (x * (v * (b * y))) * v) (mul-le-mul m n))))
  where
    end : (a p r z u d e : ℕ) → a ≤ (p + r) * z → p * z ≡ u * d → r * z ≤ u * e → a ≤ u * (d + e)
    end a p r z u d e h k l = omega (arith, h, k, l)

    s1 : b * PY * (F * (c2 * y)) * (3 * v * s) ≤ (c3 * (x * (q * (M * PL))) * s + 3 * c2 * c3 * F * (x * (v * (b * y)))) * (F * b * y * v)
    s1 = subst (λ (k : ℕ). k ≤ (c3 * (x * (q * (M * PL))) * s + 3 * c2 * c3 * F * (x * (v * (b * y)))) * (F * b * y * v)) turn (mul-le-mul_right (F * b * y * v) l)
      where
        turn : 3 * c2 * PY * s * (F * b * y * v) ≡ b * PY * (F * (c2 * y)) * (3 * v * s)
        turn = simp ac

conv : (P Q w v c0 c1 s : ℕ) → zero < c0 → P * (w * c0) ≤ Q * ((w + v) * c1) → c1 * s ≤ c0 * (s + 1) → P * (w * s) ≤ Q * (w * s + (w + v * (s + 1)))
conv P Q w v c0 c1 s z a b =
    le_of_mul-le-mul_left {k = c0} (le_trans {m = Q * ((w + v) * c1) * s} (omega (arith, mul-le-mul_right s a)) (omega (arith, mul-le-mul_left (Q * (w + v)) b))) z

seven : (x z A D w t c : ℕ) → zero < D * (w * t) → x * D * w * t ≤ (A * w * t + c * D) * z → A * 20 ≤ 7 * D → 20 * c ≤ 7 * (w * t) → x * 10 ≤ 7 * z
seven x z A D w t c p a b e =
    le_of_mul-le-mul_right {k = D * (w * t)} (half x z D (w * t) (omega (arith, mul-le-mul_left 20 a, mul-le-mul_left (w * t * z) b, mul-le-mul_left (D * z) e))) p
  where
    half : (x z D u : ℕ) → 20 * (x * D * u) ≤ 14 * (D * u * z) → x * 10 * (D * u) ≤ 7 * z * (D * u)
    half x z D u l = omega (arith, l)

F3-is : (b : ℕ) → FF (3 * b ^ 3) ≡ f23 * (3 ^ 23 * b ^ 69)
F3-is b = ap (λ (x : ℕ). f23 * x) (pow-mul 3 (b ^ 3) 23 ∙ ap (λ (x : ℕ). 3 ^ 23 * x) (pow-pow b 3 23))

F2-is : (b : ℕ) → FF (2 * b ^ 2) ≡ f23 * (2 ^ 23 * b ^ 46)
F2-is b = ap (λ (x : ℕ). f23 * x) (pow-mul 2 (b ^ 2) 23 ∙ ap (λ (x : ℕ). 2 ^ 23 * x) (pow-pow b 2 23))

b47 : (b : ℕ) → b ^ 69 ≡ b ^ 22 * (b * b ^ 46)
b47 b = pow-add b 22 47 ∙ ap (λ (x : ℕ). b ^ 22 * x) (pow-succ' b 46)

b51 : (b : ℕ) → b ^ 69 ≡ b ^ 18 * (b ^ 4 * (b * b ^ 46))
b51 b = pow-add b 18 51 ∙ ap (λ (x : ℕ). b ^ 18 * x) (pow-add b 4 47 ∙ ap (λ (x : ℕ). b ^ 4 * x) (pow-succ' b 46))

poly_ii : (n b : ℕ) → n * 512 ≤ 1 * b
    → b * PP (An n b) (3 * b ^ 3) * FF (2 * b ^ 2) * (3 * b ^ 4 * 2 ^ 90) ≤ (n + b) * PP (Bn n b) (2 * b ^ 2) * FF (3 * b ^ 3) * ((3 * b ^ 4 + n * (n * (n * n))) * 2 ^ 90 + 3 * b ^ 4)
poly_ii n b l =
    rw (F3-is b, F2-is b, PA n b, PB n b, b51 b)
    (cross_ii f23 (3 ^ 23) (2 ^ 23) (b ^ 18) (b ^ 46) (b ^ 4) b (n + b) (h 46 pb n b) (h 69 pa n b) (3 * b ^ 4 + n * (n * (n * n))) (2 ^ 90) (rw (b51 b) at (at_ii n b l))
    (rw (F2-is b, PB n b) at (P-one (Bn n b) (2 * b ^ 2))) (omega arith))

-- ---- X = S + t^2/2 and Y = t + t^3/3
abbrev pub Zn : ℕ → ℕ → ℕ
Zn n b = 2 * b ^ 2 * Sn n (n + b + b) + Sd (n + b + b) * Bn n b

abbrev pub Zd : ℕ → ℕ → ℕ
Zd n b = 2 * b ^ 2 * Sd (n + b + b)

module _ (n b : ℕ) (zb : zero < b) (l : n * 512 ≤ 1 * b) (lb : Bn n b * 2560 ≤ 13 * (2 * b ^ 2)) (la : An n b * 20 ≤ 7 * (3 * b ^ 3)) where
  abbrev e : ℕ
  e = Sd (n + b + b)

  z_s : zero < e
  z_s = Sd-pos (n + b + b) (omega arith)

  z2 : zero < 2 * b ^ 2
  z2 = mul-pos {m = 2} (lit< tt) (one-le-pow 2 b zb)

  z3 : zero < 3 * b ^ 3
  z3 = mul-pos {m = 3} (lit< tt) (one-le-pow 3 b zb)

  nb : n ≤ b
  nb = omega arith

  ys : Sn n (n + b + b) * 10 ≤ 7 * e
  ys = S-small n (n + b + b) (omega arith)

  up : PP (Zn n b) (Zd n b) * FF (3 * b ^ 3) * (2 * 2 ^ 93) ≤ PP (An n b) (3 * b ^ 3) * FF (Zd n b) * (2 * 2 ^ 93 + 2)
  up =
      Chain.sum_up f23 (FF e) (FF (2 * b ^ 2)) (FF (Zd n b)) (PP (Sn n (n + b + b)) e) (PP (Bn n b) (2 * b ^ 2)) (PP (Zn n b) (Zd n b)) (n + b) b (2 * 2 ^ 93) (2 * 2 ^ 93 + 2) 1 1
      (FF (3 * b ^ 3)) (PP (An n b) (3 * b ^ 3))
      (mul-pos f_pos zb) (FX-is e (2 * b ^ 2)) (sum_up (Sn n (n + b + b)) e (Bn n b) (2 * b ^ 2) z_s z2 ys lb) (S-up n b zb nb) (mul-le-mul_right 1
      (rw (F3-is b, F2-is b, PA n b, PB n b, b47 b) (simp ac (simp ac at (mul-le-mul_left (f23 * b * (b ^ 46)) (at_i n b l))))))

  down : PP (An n b) (3 * b ^ 3) * FF (Zd n b) * (3 * b ^ 4 * 2 ^ 90 * (2 * (2 ^ 81 - 1) * 2 ^ 93))
      ≤ PP (Zn n b) (Zd n b) * FF (3 * b ^ 3) * (((3 * b ^ 4 + n * (n * (n * n))) * 2 ^ 90 + 3 * b ^ 4) * (2 * 2 ^ 81 * (2 ^ 93 + 1)))
  down =
      Chain.sum_down f23 (FF e) (FF (2 * b ^ 2)) (FF (Zd n b)) (PP (Sn n (n + b + b)) e) (PP (Bn n b) (2 * b ^ 2)) (PP (Zn n b) (Zd n b)) (n + b) b (2 * 2 ^ 81) (2 * (2 ^ 81 - 1))
      (2 ^ 93) (2 ^ 93 + 1)
      (3 * b ^ 4 * 2 ^ 90) ((3 * b ^ 4 + n * (n * (n * n))) * 2 ^ 90 + 3 * b ^ 4) (FF (3 * b ^ 3)) (PP (An n b) (3 * b ^ 3))
      (mul-pos f_pos zb) (FX-is e (2 * b ^ 2)) (sum_down (Sn n (n + b + b)) e (Bn n b) (2 * b ^ 2) z_s z2 ys lb) (S-down n b zb nb) (poly_ii n b l)

  -- S + t^2/2 ≤ t + t^3/3, but for 2 ^ -92
  pub first_up : Zn n b * (3 * b ^ 3) * (2 * 2 ^ 93) * 2 ^ 93 ≤ (An n b * (2 * 2 ^ 93) * 2 ^ 93 + (2 * 2 ^ 93 + 2 * 2 ^ 93 + 2) * (3 * b ^ 3)) * Zd n b
  first_up = nearest (Zn n b) (Zd n b) (An n b) (3 * b ^ 3) (2 * 2 ^ 93) 2 (mul-pos z2 z_s) z3 (lit< tt) (omega (arith, la)) (lit≤ tt) up

  Z-seven : Zn n b * 10 ≤ 7 * Zd n b
  Z-seven = seven (Zn n b) (Zd n b) (An n b) (3 * b ^ 3) (2 * 2 ^ 93) (2 ^ 93) (2 * 2 ^ 93 + 2 * 2 ^ 93 + 2) (mul-pos z3 (lit< tt)) first_up la (lit≤ tt)

  abbrev pub W : ℕ
  W = 3 * b ^ 4 * 2 ^ 90

  abbrev pub G : ℕ
  G = n * (n * (n * n)) * 2 ^ 90 + 3 * b ^ 4

  down' : PP (An n b) (3 * b ^ 3) * FF (Zd n b) * (W * 2 ^ 79) ≤ PP (Zn n b) (Zd n b) * FF (3 * b ^ 3) * (W * 2 ^ 79 + (W + G * (2 ^ 79 + 1)))
  down' =
      conv (PP (An n b) (3 * b ^ 3) * FF (Zd n b)) (PP (Zn n b) (Zd n b) * FF (3 * b ^ 3)) W G (2 * (2 ^ 81 - 1) * 2 ^ 93) (2 * 2 ^ 81 * (2 ^ 93 + 1)) (2 ^ 79) (lit< tt)
      (subst (λ (x : ℕ). PP (An n b) (3 * b ^ 3) * FF (Zd n b) * (W * (2 * (2 ^ 81 - 1) * 2 ^ 93)) ≤ PP (Zn n b) (Zd n b) * FF (3 * b ^ 3) * (x * (2 * 2 ^ 81 * (2 ^ 93 + 1))))
      (omega arith) down) (lit≤ tt)

  -- t + t^3/3 ≤ S + t^2/2, but for t^4/3 and 2 ^ -78
  pub first_down : 3 * (W + G * (2 ^ 79 + 1)) * 256 ≤ W * 2 ^ 79
      → An n b * Zd n b * (W * 2 ^ 79) * 2 ^ 93 ≤ (Zn n b * (W * 2 ^ 79) * 2 ^ 93 + ((W + G * (2 ^ 79 + 1)) * 2 ^ 93 + W * 2 ^ 79 + (W + G * (2 ^ 79 + 1))) * Zd n b) * (3 * b ^ 3)
  first_down r =
      nearest (An n b) (3 * b ^ 3) (Zn n b) (Zd n b) (W * 2 ^ 79) (W + G * (2 ^ 79 + 1)) z3 (mul-pos z2 z_s)
      (mul-pos (mul-pos (mul-pos {m = 3} (lit< tt) (one-le-pow 4 b zb)) (lit< tt)) (lit< tt)) Z-seven r down'
