-- The words of a number of 128 bits: it has one pair of them, the upper and the lower one, and each is below 2 ^ 64. Assumes nothing.
use Rattle.std.specs.Prelude.{List}
use Rattle.std.proofs.Common.{◌≡◌, ℕ, ◌+◌, ◌*◌, ◌/◌, ◌%◌, ◌^◌, ◌<◌, ◌∙◌, sym, ap, subst, div-add-mod', mod-lt, pow_pos, arith}
use contract.Lifetimes.{Lfts}
use borrow.Fn.Kinds.{ParamKind, Out, Dens}
use Rattle.soft.proofs.wide.product
use Rattle.outcomes.specs.Outcome.{One, Outcome, Satisfies}

-- h and l stand for w
pub record Pair (w h l : ℕ) : Type 0 where
  pub value : w ≡ h * 2 ^ 64 + l
  pub low_below : l < 2 ^ 64

-- every number has a pair
pub parted : (w : ℕ) → Pair w (w / 2 ^ 64) (w % 2 ^ 64)
parted w = record { value = sym (div-add-mod' w (2 ^ 64)); low_below = mod-lt w (pow_pos 64) }

upper : (h l h' l' : ℕ) → l < 2 ^ 64 → l' < 2 ^ 64 → h * 2 ^ 64 + l ≡ h' * 2 ^ 64 + l' → h ≡ h'
upper h l h' l' b b' e = omega arith

lower : (h l h' l' : ℕ) → l < 2 ^ 64 → l' < 2 ^ 64 → h * 2 ^ 64 + l ≡ h' * 2 ^ 64 + l' → l ≡ l'
lower h l h' l' b b' e = omega arith

-- w is a value of the type u128, as `product` answers one
abbrev Whole : Lfts 0 → ℕ → Type 0
Whole κs w = (product.Kinds.r).is.Ok κs w

below : (h l : ℕ) → h * 2 ^ 64 + l < 2 ^ 128 → h < 2 ^ 64
below h l b = omega arith

high_below : (κs : Lfts 0) (w h l : ℕ) → Whole κs w → w ≡ h * 2 ^ 64 + l → h < 2 ^ 64
high_below κs w h l t e = below h l (subst (λ (n : ℕ). n < 2 ^ 128) e t)

-- equal numbers have the same two words
pub words : {u v h l h' l' : ℕ} (κs : Lfts 0) → Whole κs u → u ≡ v → Pair u h l → Pair v h' l' → (h ≡ h') × (l ≡ l') × (h < 2 ^ 64) × (l < 2 ^ 64)
words {u} {v} {h} {l} {h'} {l'} κs b e p q =
    let i : h * 2 ^ 64 + l ≡ h' * 2 ^ 64 + l' = sym p.value ∙ e ∙ q.value in
    (upper h l h' l' p.low_below q.low_below i, lower h l h' l' p.low_below q.low_below i, high_below κs u h l b p.value, p.low_below)

-- A function with such an answer, whose contract is C: two words stand for its answer in one way only, and each is below 2 ^ 64
abbrev pub OnePair : (ps : List (ParamKind 0)) → Out 0 ps product.Kinds.r → Type 0
OnePair ps C =
    (κs : Lfts 0) (a : Dens κs ps) (o o' : Outcome ps product.Kinds.r κs a) → Satisfies ps product.Kinds.r C κs a o → Satisfies ps product.Kinds.r C κs a o' →
    (h l h' l' : ℕ) → Pair o.0 h l → Pair o'.0 h' l' → (h ≡ h') × (l ≡ l') × (h < 2 ^ 64) × (l < 2 ^ 64)

pub one_pair : {ps : List (ParamKind 0)} {C : Out 0 ps product.Kinds.r} → One ps product.Kinds.r C → OnePair ps C
one_pair s κs a o o' c c' h l h' l' p q = words κs c.0 (ap (λ z. z.0) (s.same κs a o o' c c')) p q
