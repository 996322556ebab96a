-- P(S(z)) against (1 + z) / (1 - z), for 0 ≤ z ≤ 1/3, by the composition cut at degree 63
use mathlib.Core.List.{List, [], ◌∷◌}
use Prim.Native.Nat.{ℕ, zero, ◌+◌, ◌*◌, ◌^◌, ◌≤◌, ◌<◌}
use native.Mathlib.Nat.{mul-le-mul_left, mul-le-mul_right, le_of_mul-le-mul_right, one-le-pow, pow-succ'}
use native.Mathlib.Omega.{arith}
use lib.Dec.{T, lit<, lit≤}
use Rattle.table.proofs.Exact.Poly.{h, add, axpy, mul}
use Rattle.table.proofs.Exact.Laws.{sub, fits, h_two, h_more, h_next, near}
use Rattle.table.proofs.Exact.Cap.{cut, cap, up, comp_by, fits_cut, fits_cap, fits_by, lo_le, le_up}
use Rattle.table.proofs.Exact.Terms.{pcoef}

unfoldable pub scoef : List ℕ
scoef = 0 ∷ 27670040216482113450 ∷ 0 ∷ 9223346738827371150 ∷ 0 ∷ 5534008043296422690 ∷ 0 ∷ 3952862888068873350 ∷ 0 ∷ 3074448912942457050 ∷ 0 ∷
    2515458201498373950 ∷ 0 ∷ 2128464632037085650 ∷ 0 ∷ 1844669347765474230 ∷ 0 ∷ 1627649424498947850 ∷ 0 ∷ 1456317906130637550 ∷ 0 ∷
    1317620962689624450 ∷ 0 ∷ 1203045226803570150 ∷ 0 ∷ 1106801608659284538 ∷ 0 ∷ 1024816304314152350 ∷ 0 ∷ 954139317809728050 ∷ 0 ∷
    892581942467164950 ∷ 0 ∷ 838486067166124650 ∷ 0 ∷ 790572577613774670 ∷ 0 ∷ 747838924769786850 ∷ 0 ∷ 709488210679028550 ∷ 0 ∷ 674879029670295450 ∷
    0 ∷ 643489307360049150 ∷ 0 ∷ 614889782588491410 ∷ 0 ∷ 588724259925151350 ∷ []

unfoldable pub d_s : ℕ
d_s = 13835020108241056725

unfoldable pub u_s : ℕ
u_s = 25852016738884976640000 * d_s ^ 23

-- U times P(S(z)), from below and from above
pub lo : List ℕ
lo = comp_by (cut 63) 23 pcoef d_s scoef

pub hi : List ℕ
hi = comp_by (cap 63) 23 pcoef d_s scoef

-- U times 1 + z + z p
abbrev next : List ℕ → List ℕ
next p = add (u_s ∷ u_s ∷ []) (0 ∷ p)

no_more : h 64 (sub hi (next lo)) 1 3 * 2 ^ 93 ≤ u_s * 3 ^ 64
unfolding lo hi comp_by cut cap up u_s d_s pcoef scoef axpy mul add sub h
no_more = lit≤ tt

little_less : h 64 (sub (next hi) lo) 1 3 * 2 ^ 81 ≤ u_s * 3 ^ 64
unfolding lo hi comp_by cut cap up u_s d_s pcoef scoef axpy mul add sub h
little_less = lit≤ tt

fits_s : T (fits 47 scoef)
unfolding scoef
fits_s = tt

-- U b ^ 1081 P(S(a / b))
abbrev pub p_s : ℕ → ℕ → ℕ
p_s a b = h 23 pcoef (h 47 scoef a b) (d_s * b ^ 47)

lo_is : (a b : ℕ) → h 63 lo a b * b ^ 1081 ≤ p_s a b * b ^ 63
unfolding lo
lo_is a b = lo_le 63 23 47 pcoef d_s scoef a b fits_s

is_hi : (a b : ℕ) → a * 3 ≤ b → p_s a b * b ^ 63 ≤ h 63 hi a b * b ^ 1081
unfolding hi
is_hi a b l = le_up 63 23 47 pcoef d_s scoef a b l fits_s

fits_l : T (fits 63 lo)
unfolding lo
fits_l = fits_by 63 (cut 63) (fits_cut 63) 23 pcoef d_s scoef

fits_h : T (fits 63 hi)
unfolding hi
fits_h = fits_by 63 (cap 63) (fits_cap 63) 23 pcoef d_s scoef

-- arithmetic alone: v the value, x and y its bounds, c = b ^ 63, d = b ^ 1081
carry_up : (B A k c d v x y : ℕ) → zero < c → x * d ≤ v * c → v * c ≤ y * d → B * y ≤ k * c + A * x → B * v ≤ k * d + A * v
carry_up B A k c d v x y z l m n = le_of_mul-le-mul_right {k = c} (omega (arith, mul-le-mul_right d n, mul-le-mul_left B m, mul-le-mul_left A l)) z

carry_down : (B A k j c d v x y : ℕ) → zero < c → x * d ≤ v * c → v * c ≤ y * d → k * c + A * y ≤ B * x + j * c → k * d + A * v ≤ B * v + j * d
carry_down B A k j c d v x y z l m n = le_of_mul-le-mul_right {k = c} (omega (arith, mul-le-mul_right d n, mul-le-mul_left B l, mul-le-mul_left A m)) z

through_up : (a b c d u v x y t : ℕ) → zero < c → x * d ≤ v * c → v * c ≤ y * d → b * y * t ≤ (u * (b * c) + a * (u * c) + a * x) * t + u * (b * c)
    → b * v * t ≤ (u * (b * d) + a * (u * d) + a * v) * t + u * (b * d)
through_up a b c d u v x y t z l m n = omega (arith, carry_up (b * t) (a * t) ((u * b + a * u) * t + u * b) c d v x y z l m (omega arith))

through_down : (a b c d u v x y t : ℕ) → zero < c → x * d ≤ v * c → v * c ≤ y * d → (u * (b * c) + a * (u * c) + a * y) * t ≤ b * x * t + u * (b * c)
    → (u * (b * d) + a * (u * d) + a * v) * t ≤ b * v * t + u * (b * d)
through_down a b c d u v x y t z l m n = omega (arith, carry_down (b * t) (a * t) ((u * b + a * u) * t) (u * b) c d v x y z l m (omega arith))

pub upper : (a b : ℕ) → zero < b → a * 3 ≤ 1 * b → b * p_s a b * 2 ^ 93 ≤ (u_s * b ^ 1082 + a * (u_s * b ^ 1081) + a * p_s a b) * 2 ^ 93 + u_s * b ^ 1082
upper a b z l =
    rw (pow-succ' b 1081)
    (through_up a b (b ^ 63) (b ^ 1081) u_s (p_s a b) (h 63 lo a b) (h 63 hi a b) (2 ^ 93) (one-le-pow 63 b z) (lo_is a b) (is_hi a b (omega arith))
    (rw (h_more 63 hi a b fits_h, h_next 63 (u_s ∷ u_s ∷ []) lo a b, h_two 63 u_s u_s a b, pow-succ' b 63) at (near 64 hi (next lo) a b 1 3 (2 ^ 93) u_s l (lit< tt) no_more)))

pub lower : (a b : ℕ) → zero < b → a * 3 ≤ 1 * b → (u_s * b ^ 1082 + a * (u_s * b ^ 1081) + a * p_s a b) * 2 ^ 81 ≤ b * p_s a b * 2 ^ 81 + u_s * b ^ 1082
lower a b z l =
    rw (pow-succ' b 1081)
    (through_down a b (b ^ 63) (b ^ 1081) u_s (p_s a b) (h 63 lo a b) (h 63 hi a b) (2 ^ 81) (one-le-pow 63 b z) (lo_is a b) (is_hi a b (omega arith))
    (rw (h_more 63 lo a b fits_l, h_next 63 (u_s ∷ u_s ∷ []) hi a b, h_two 63 u_s u_s a b, pow-succ' b 63) at (near 64 (next hi) lo a b 1 3 (2 ^ 81) u_s l (lit< tt) little_less)))
