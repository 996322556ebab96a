-- Change request K6: the search of initial_stability (parameter_initialization.rs), in double, for any two derivatives D. What compares false with a
-- NaN takes the Rust's else. Assumes nothing.
use Rattle.std.specs.Prelude.{ℕ, zero, suc, Bool, cond, ◌&&◌, ◌||◌, from_bits, Float}
use Rattle.std.specs.Float.{binary32, binary64}
use Rattle.std.specs.Float.Ieee.{neg, lt, le, eq}
use Rattle.soft.specs.Narrow.{narrow_def}
use Rattle.domain.specs.Doubles.{◌+ᵈ◌, ◌-ᵈ◌, ◌/ᵈ◌, zero64}
use Rattle.domain.specs.Limits.{decimal, s_min_def}
use Rattle.parameter_initialization.specs.declared.derivatives.Derivatives.{Derivatives}
use Rattle.parameter_initialization.specs.declared.search.Bracket.{Bracket}
use Rattle.parameter_initialization.specs.declared.search.Side.{Side}

abbrev pub two64 : Float
two64 = from_bits binary64 0x4000_0000_0000_0000

-- 1.0 / 16.0
abbrev pub sixteenth : Float
sixteenth = from_bits binary64 0x3fb0_0000_0000_0000

-- INIT_S_MAX as f64
unfoldable pub init_s_max_def : Float
init_s_max_def = decimal 100 1

-- ---- one round
-- if slope > 0.0 { high = s; } else { low = s; }
unfoldable pub narrowed : (b : Bracket) (slope : Float) → Bracket
narrowed b slope =
    cond (lt zero64 slope) (record { low = b.low; high = b.s; s = b.s }) (record { low = b.s; high = b.high; s = b.s })

-- (low + high) / 2.0
unfoldable pub middle : Bracket → Float
middle b = (b.low +ᵈ b.high) /ᵈ two64

-- x as f32 == y as f32
unfoldable pub same_single : (x y : Float) → Bool
same_single x y = eq (narrow_def binary32 x) (narrow_def binary32 y)

-- let newton = s - slope / curvature; if curvature > 0.0 && newton > low && newton < high { newton } else { (low + high) / 2.0 }
unfoldable pub next_guess_def : (b : Bracket) (slope curvature : Float) → Float
next_guess_def b slope curvature =
    let newton = b.s -ᵈ slope /ᵈ curvature in
    cond (lt zero64 curvature && (lt b.low newton && lt newton b.high)) newton (middle b)

-- ---- the rounds that are left, and the double that they yield
unfoldable pub search_def : (D : Float → Derivatives) (prior : Float) (rounds : ℕ) (b : Bracket) → Float
search_def D prior zero b = middle b
search_def D prior (suc k) b =
    let slope = (D b.s).slope +ᵈ prior in
    let c = narrowed b slope in
    let next = next_guess_def c slope (D b.s).curvature in
    cond (same_single c.low c.high)
    (middle c)
    (cond (same_single next b.s) next (search_def D prior k (record { low = c.low; high = c.high; s = next })))

-- ---- before the first round
-- slope.abs() <= 1.0 / 16.0
unfoldable pub flat : (slope : Float) → Bool
flat slope = le (neg sixteenth) slope && le slope sixteenth

-- if slope > 0.0 { (S_MIN as f64, default, -1.0 / 16.0) } else { (default, INIT_S_MAX as f64, 1.0 / 16.0) }, and
-- boundary = if slope > 0.0 { low } else { high }
unfoldable pub side_def : (slope default : Float) → Side
side_def slope default =
    cond (lt zero64 slope)
    (record { low = s_min_def; high = default; prior = neg sixteenth; boundary = s_min_def })
    (record { low = default; high = init_s_max_def; prior = sixteenth; boundary = init_s_max_def })

-- (slope > 0.0 && boundary_slope >= 0.0) || (slope < 0.0 && boundary_slope <= 0.0)
unfoldable pub keeps : (slope boundary-slope : Float) → Bool
keeps slope boundary-slope = (lt zero64 slope && le zero64 boundary-slope) || (lt slope zero64 && le boundary-slope zero64)

-- for _ in 0..80
abbrev pub rounds_def : ℕ
rounds_def = 80

-- the default, the boundary, or what the rounds find
unfoldable pub sought_def : (D : Float → Derivatives) (default : Float) → Float
sought_def D default =
    let slope = (D default).slope in
    let side = side_def slope default in
    cond (flat slope)
    default
    (cond (keeps slope ((D side.boundary).slope +ᵈ side.prior))
    side.boundary
    (search_def D side.prior rounds_def (record { low = side.low; high = side.high; s = default })))
