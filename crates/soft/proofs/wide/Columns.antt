-- Multiplying two numbers of two digits each in any base P by three products: the middle column from the products of the lower and of the upper
-- digits and of the digits' differences, the columns with their carries, and the upper half modulo P * P.
-- Assumes nothing.
use Rattle.std.proofs.Common.{◌≡◌, ℕ, zero, suc, ◌+◌, ◌-◌, ◌*◌, ◌/◌, ◌%◌, ◌^◌, ◌<◌, ◌≤◌, sym, ap, ◌∙◌, mod-lt, mod-eq_of_lt, mul-pos, div-add-mod', arith}
use native.Mathlib.Nat.{mod-add-mod, mul-add-mod_self_right, div-eq_of_lt}
use lib.Arith.{digits_lt, digits_div, digits_mod}

-- ---- a difference x = u₁ - u₀ modulo 2 ^ 64, by its top bit and its low half; q says whether 2 ^ 64 was borrowed

borrowing : (q u₁ u₀ x : ℕ) → q * 2 ^ 64 + u₁ ≡ x + u₀ → u₀ < 2 ^ 32 → u₁ < 2 ^ 32 → x < 2 ^ 64
    → (u₁ + x / 2 ^ 63 * 2 ^ 32 ≡ u₀ + x % 2 ^ 32) × (x + x / 2 ^ 63 * 2 ^ 32 ≡ x % 2 ^ 32 + x / 2 ^ 63 * 2 ^ 64)
borrowing zero u₁ u₀ x e h k l =
    let s : x / 2 ^ 63 ≡ 0 = div-eq_of_lt (omega arith) in
    let a : x % 2 ^ 32 ≡ x = mod-eq_of_lt (omega arith) in
    rw (s, a) (omega arith, omega arith)
borrowing (suc zero) u₁ u₀ x e h k l =
    let s : x / 2 ^ 63 ≡ 1 = ap (λ (n : ℕ). n / 2 ^ 63) (upper x (omega arith)) ∙ digits_div 1 {m = 2 ^ 63} {r = x - 2 ^ 63} (omega arith) in
    let a : x % 2 ^ 32 ≡ x - 0xffff_ffff_0000_0000 =
    ap (λ (n : ℕ). n % 2 ^ 32) (lower x (omega arith)) ∙ digits_mod 0xffff_ffff {m = 2 ^ 32} {r = x - 0xffff_ffff_0000_0000} (omega arith) in
    rw (s, a) (omega arith, omega arith)
  where
    upper : (x : ℕ) → 2 ^ 63 ≤ x → x ≡ 1 * 2 ^ 63 + (x - 2 ^ 63)
    upper x h = omega arith

    lower : (x : ℕ) → 0xffff_ffff_0000_0000 ≤ x → x ≡ 0xffff_ffff * 2 ^ 32 + (x - 0xffff_ffff_0000_0000)
    lower x h = omega arith
borrowing (suc (suc q)) u₁ u₀ x e h k l = absurd (omega arith)

pub signed : (u₁ u₀ x : ℕ) → (x + u₀) % 2 ^ 64 ≡ u₁ → u₀ < 2 ^ 32 → u₁ < 2 ^ 32 → x < 2 ^ 64
    → (u₁ + x / 2 ^ 63 * 2 ^ 32 ≡ u₀ + x % 2 ^ 32) × (x + x / 2 ^ 63 * 2 ^ 32 ≡ x % 2 ^ 32 + x / 2 ^ 63 * 2 ^ 64)
signed u₁ u₀ x e = borrowing ((x + u₀) / 2 ^ 64) u₁ u₀ x (ap (λ (n : ℕ). (x + u₀) / 2 ^ 64 * 2 ^ 64 + n) (sym e) ∙ div-add-mod' (x + u₀) (2 ^ 64))

-- ---- the columns

-- the middle column, where u₁ - u₀ is a - s P and v₀ - v₁ is b - t P
middle : (P u₀ u₁ v₀ v₁ a b s t : ℕ) → u₁ + s * P ≡ u₀ + a → v₀ + t * P ≡ v₁ + b
    → u₁ * v₀ + u₀ * v₁ + (s * b + t * a) * P ≡ u₀ * v₀ + u₁ * v₁ + a * b + s * t * (P * P)
middle P u₀ u₁ v₀ v₁ a b s t e f =
    omega (arith, ap (λ (n : ℕ). n * v₀) e, ap (λ (n : ℕ). n * v₁) e, ap (λ (n : ℕ). n * a) f, ap (λ (n : ℕ). n * (s * P)) f)

-- the columns, given each one's carry and digit
columns : (P p₀ p₂ d q₀ r₀ t₁ t₀ w₁ w₀ c₁ c₀ : ℕ) → q₀ * P + r₀ ≡ p₀ → t₁ * P + t₀ ≡ q₀ + p₂ → w₁ * P + w₀ ≡ t₀ + p₀ → c₁ * P + c₀ ≡ w₀ + d
    → (t₁ + p₂ + (w₁ + c₁)) * (P * P) + (c₀ * P + r₀) ≡ p₂ * (P * P) + (p₀ + p₂ + d) * P + p₀
columns P p₀ p₂ d q₀ r₀ t₁ t₀ w₁ w₀ c₁ c₀ e₀ e₁ e₂ e₃ =
    omega (arith, ap (λ (n : ℕ). n * P) e₁, ap (λ (n : ℕ). n * P) e₂, ap (λ (n : ℕ). n * P) e₃)

-- the program's columns, and its `g + e`
abbrev pub first : (P p₀ p₂ : ℕ) → ℕ
first P p₀ p₂ = p₀ / P + p₂

abbrev pub second : (P p₀ p₂ : ℕ) → ℕ
second P p₀ p₂ = first P p₀ p₂ % P + p₀

abbrev pub third : (P p₀ p₂ d : ℕ) → ℕ
third P p₀ p₂ d = second P p₀ p₂ % P + d

abbrev pub carried : (P p₀ p₂ d : ℕ) → ℕ
carried P p₀ p₂ d = first P p₀ p₂ / P + p₂ + (second P p₀ p₂ / P + third P p₀ p₂ d / P)

added : (P p₀ p₂ d : ℕ) → carried P p₀ p₂ d * (P * P) + (third P p₀ p₂ d % P * P + p₀ % P) ≡ p₂ * (P * P) + (p₀ + p₂ + d) * P + p₀
added P p₀ p₂ d =
    columns P p₀ p₂ d (p₀ / P) (p₀ % P) (first P p₀ p₂ / P) (first P p₀ p₂ % P) (second P p₀ p₂ / P) (second P p₀ p₂ % P)
    (third P p₀ p₂ d / P) (third P p₀ p₂ d % P)
    (div-add-mod' p₀ P) (div-add-mod' (first P p₀ p₂) P) (div-add-mod' (second P p₀ p₂) P) (div-add-mod' (third P p₀ p₂ d) P)

-- u * v is those columns, less what the signs count
product_is : (P u₀ u₁ v₀ v₁ a b s t H L : ℕ) → u₁ + s * P ≡ u₀ + a → v₀ + t * P ≡ v₁ + b
    → H * (P * P) + L ≡ u₁ * v₁ * (P * P) + (u₀ * v₀ + u₁ * v₁ + a * b) * P + u₀ * v₀
    → (u₁ * P + u₀) * (v₁ * P + v₀) + (s * b + t * a) * (P * P) ≡ (H + s * t * P) * (P * P) + L
product_is P u₀ u₁ v₀ v₁ a b s t H L e f g = omega (arith, ap (λ (n : ℕ). n * P) (middle P u₀ u₁ v₀ v₁ a b s t e f))

-- two numbers of two digits that are the same have the same digits
digits_same : (m q r p n : ℕ) → r < m → n < m → q * m + r ≡ p * m + n → (q ≡ p) × (r ≡ n)
digits_same m q r p n h k e =
    (sym (digits_div q h) ∙ ap (λ (x : ℕ). x / m) e ∙ digits_div p k, sym (digits_mod q h) ∙ ap (λ (x : ℕ). x % m) e ∙ digits_mod p k)

-- ---- the upper half, modulo M

cancel : (M m n z : ℕ) → m < M → n < M → (m + z) % M ≡ (n + z) % M → m ≡ n
cancel M m n z h k e =
    sym (digits_mod ((n + z) / M) h)
    ∙ ap (λ (x : ℕ). x % M) (turn M m n z ((m + z) / M) ((n + z) / M) ((m + z) % M) ((n + z) % M) (div-add-mod' (m + z) M) (div-add-mod' (n + z) M) e)
    ∙ digits_mod ((m + z) / M) k
  where
    turn : (M m n z q p r o : ℕ) → q * M + r ≡ m + z → p * M + o ≡ n + z → r ≡ o → p * M + m ≡ q * M + n
    turn M m n z q p r o e f g = omega arith

-- what is taken off twice modulo M leaves T
taken : (M P s t a b x H T k r : ℕ) → r < M → T < M → x + s * P ≡ a + s * M → T + (s * b + t * a) ≡ H + s * t * P
    → (k + s * b) % M ≡ H % M → (r + t * x) % M ≡ k → r ≡ T
taken M P s t a b x H T k r h l e f g c =
    cancel M r T (t * x + s * b) h l
    (ap (λ (n : ℕ). n % M) (regroup r (t * x) (s * b))
    ∙ sym (mod-add-mod (r + t * x) M (s * b))
    ∙ ap (λ (n : ℕ). (n + s * b) % M) c
    ∙ g
    ∙ sym (ap (λ (n : ℕ). n % M) (more M P s t a b x H T e f) ∙ mul-add-mod_self_right (s * t) M H))
  where
    regroup : (r y z : ℕ) → r + (y + z) ≡ r + y + z
    regroup r y z = omega arith

    more : (M P s t a b x H T : ℕ) → x + s * P ≡ a + s * M → T + (s * b + t * a) ≡ H + s * t * P → T + (t * x + s * b) ≡ s * t * M + H
    more M P s t a b x H T e f = omega (arith, ap (λ (n : ℕ). n * t) e)

-- the halves of u * v, each as the program has it
pub halves : (P u₀ u₁ v₀ v₁ x a b s t k r : ℕ) → zero < P → r < P * P → (u₁ * P + u₀) * (v₁ * P + v₀) / (P * P) < P * P
    → u₁ + s * P ≡ u₀ + a → x + s * P ≡ a + s * (P * P) → v₀ + t * P ≡ v₁ + b
    → (k + s * b) % (P * P) ≡ carried P (u₀ * v₀) (u₁ * v₁) (a * b) % (P * P) → (r + t * x) % (P * P) ≡ k
    → r * (P * P) + (third P (u₀ * v₀) (u₁ * v₁) (a * b) % P * P + u₀ * v₀ % P) ≡ (u₁ * P + u₀) * (v₁ * P + v₀)
halves P u₀ u₁ v₀ v₁ x a b s t k r p h l e f g c d =
    let n = (u₁ * P + u₀) * (v₁ * P + v₀) in
    let H = carried P (u₀ * v₀) (u₁ * v₁) (a * b) in
    let L = third P (u₀ * v₀) (u₁ * v₁) (a * b) % P * P + u₀ * v₀ % P in
    let w = digits_same (P * P) (n / (P * P) + (s * b + t * a)) (n % (P * P)) (H + s * t * P) L (mod-lt n (mul-pos p p))
    (digits_lt (mod-lt (third P (u₀ * v₀) (u₁ * v₁) (a * b)) p) (mod-lt (u₀ * v₀) p))
    (regroup (P * P) (n / (P * P)) (s * b + t * a) (n % (P * P)) n (div-add-mod' n (P * P))
    ∙ product_is P u₀ u₁ v₀ v₁ a b s t H L e g (added P (u₀ * v₀) (u₁ * v₁) (a * b))) in
    (λ i. taken (P * P) P s t a b x H (n / (P * P)) k r h l f w.0 c d i * (P * P) + sym w.1 i) ∙ div-add-mod' n (P * P)
  where
    regroup : (M q z r n : ℕ) → q * M + r ≡ n → (q + z) * M + r ≡ n + z * M
    regroup M q z r n e = omega arith
