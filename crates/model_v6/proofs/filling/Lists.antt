-- Stores into a copy of the given weights. Assumes nothing.
use Rattle.std.proofs.Common.{◌≡◌, ℕ, ◌+◌, ◌-◌, List, [], ◌∷◌, ◌++◌, length, set, replicate, suc-add, zero-add, arith, length-set}
use lib.Ieee.{Float}
use lib.Seq.{set-append_left}
use Rattle.domain.proofs.weights.Copy.{copy_short}
use Rattle.domain.specs.Floats.{◌+ᶠ◌, ◌/ᶠ◌}
use Rattle.domain.specs.Limits.{zero32, half, one, two, three}
use Rattle.domain.specs.Weights.{◌!◌, copy_def}
use Rattle.kernels.specs.Calls.{ln32}
use Rattle.model_v6.specs.Curve.{mul-add}
use Rattle.model_v6.specs.Filling.{fill17, fill19}

set_past : (p q : List Float) (k : ℕ) (a : Float) → set (p ++ q) (length p + k) a ≡ p ++ set q k a
set_past [] q k a = rw zero-add
set_past (x ∷ p) q k a = rw (suc-add, set_past p q k a)

past : (p q : List Float) (n k : ℕ) (a : Float) → length p ≡ n → set (p ++ q) (n + k) a ≡ p ++ set q k a
past p q n k a e = rw (← e) (set_past p q k a)

pub stores_19 : (p : List Float) → length p ≡ 19 → set (copy_def p) 20 half ≡ fill19 p
unfolding fill19
stores_19 p l = rw (copy_short p (omega arith), l) (past p (replicate 2 zero32) 19 1 half l)

-- the stores of the Rust's lines go to the given weights, and the last to what was put after them
pub stores_17 :
    (p : List Float) → length p ≡ 17 →
    set
    (set
    (set
    (set (copy_def p) 4 (mul-add (p ! 5) two (p ! 4)))
    5
    (ln32 (mul-add (p ! 5) three one) /ᶠ three))
    6
    (p ! 6 +ᶠ half))
    20
    half ≡
    fill17 p
unfolding fill17
stores_17 p l =
    let w4 = mul-add (p ! 5) two (p ! 4) in
    let w5 = ln32 (mul-add (p ! 5) three one) /ᶠ three in
    let z = replicate (21 - length p) zero32 in
    rw (
      copy_short p (omega arith),
      set-append_left p z 4 w4 (omega arith),
      set-append_left (set p 4 w4) z 5 w5 (rw length-set (omega arith)),
      set-append_left (set (set p 4 w4) 5 w5) z 6 (p ! 6 +ᶠ half) (rw (length-set, length-set) (omega arith)),
      l,
    )
    (past (set (set (set p 4 w4) 5 w5) 6 (p ! 6 +ᶠ half)) (replicate 4 zero32) 17 3 half (rw (length-set, length-set, length-set) l))
