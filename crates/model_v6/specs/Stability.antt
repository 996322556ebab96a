-- The stability after a review, by model_v6.rs, line for line: `w` is the 21 weights, and each product, sum and clamp stands where
-- the Rust has it. Assumes nothing.
use Rattle.std.specs.Prelude.{ℕ, cond, List, pos, ◌==◌, nat_le, Float}
use Rattle.std.specs.Float.{binary32}
use Rattle.std.specs.Float.Ieee.{neg, of_int}
use Rattle.domain.specs.Floats.{◌+ᶠ◌, ◌-ᶠ◌, ◌*ᶠ◌, ◌/ᶠ◌, clamp_def, max_def, min_def}
use Rattle.domain.specs.Limits.{one, three, eleven, s_min_def, s_max_def}
use Rattle.domain.specs.Weights.{◌!◌}
use Rattle.kernels.specs.Calls.{exp32, pow32}

-- rating as f32
abbrev pub as_f32 : ℕ → Float
as_f32 n = of_int binary32 (pos n)

-- stability_after_success_scalar
unfoldable pub stability_after_success_def : (w : List Float) (s r d : Float) (rating : ℕ) → Float
stability_after_success_def w s r d rating =
    let hard-penalty = cond (rating == 2) (w ! 15) one in
    let easy-bonus = cond (rating == 4) (w ! 16) one in
    let increase = exp32 (w ! 8) *ᶠ (eleven -ᶠ d) *ᶠ pow32 s (neg (w ! 9)) *ᶠ (exp32 ((one -ᶠ r) *ᶠ w ! 10) -ᶠ one) in
    clamp_def (s *ᶠ (increase *ᶠ hard-penalty *ᶠ easy-bonus +ᶠ one)) s_min_def s_max_def

-- stability_after_failure_scalar: its `new_s_min`, its `new_s`, and the lesser of the two
unfoldable pub failure_floor_def : (w : List Float) (s : Float) → Float
failure_floor_def w s = s /ᶠ exp32 (w ! 17 *ᶠ w ! 18)

unfoldable pub failure_raw_def : (w : List Float) (s r d : Float) → Float
failure_raw_def w s r d = w ! 11 *ᶠ pow32 d (neg (w ! 12)) *ᶠ (pow32 (s +ᶠ one) (w ! 13) -ᶠ one) *ᶠ exp32 ((one -ᶠ r) *ᶠ w ! 14)

unfoldable pub stability_after_failure_def : (w : List Float) (s r d : Float) → Float
stability_after_failure_def w s r d = clamp_def (min_def (failure_raw_def w s r d) (failure_floor_def w s)) s_min_def s_max_def

-- if rating >= 2 { sinc.max(1.0) } else { sinc }
unfoldable pub increase_def : (rating : ℕ) (sinc : Float) → Float
increase_def rating sinc = cond (nat_le 2 rating) (max_def sinc one) sinc

-- stability_short_term_scalar
unfoldable pub stability_short_term_def : (w : List Float) (s : Float) (rating : ℕ) → Float
stability_short_term_def w s rating =
    let sinc = exp32 (w ! 17 *ᶠ (as_f32 rating -ᶠ three +ᶠ w ! 18)) *ᶠ pow32 s (neg (w ! 19)) in
    clamp_def (s *ᶠ increase_def rating sinc) s_min_def s_max_def
