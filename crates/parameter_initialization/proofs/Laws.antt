-- The Rust's text and K6's words once more, as laws of the definitions: a definition that is wrong together with its code is refused here. The first two
-- run the search to its end on derivatives that are made up for it. Assumes nothing.
use Rattle.std.proofs.Common.{◌≡◌, ◌+◌, ◌^◌, true, false, cond, refl}
use lib.Ieee.{Float, binary64, add, sub, div, neg, lt, le, eq, of_bits, round, sum}
use Rattle.soft.specs.Narrow.{narrow_def}
use Rattle.domain.specs.Doubles.{zero64, one64}
use Rattle.domain.specs.Limits.{decimal, s_min_def}
use Rattle.parameter_initialization.specs.Search.{init_s_max_def, narrowed, middle, same_single, next_guess_def, search_def, flat, side_def, keeps, sought_def}
use Rattle.parameter_initialization.specs.declared.derivatives.Derivatives.{Derivatives}
use Rattle.parameter_initialization.specs.declared.search.Bracket.{Bracket}

-- below 50 the loss falls, by 1 beyond the prior, and Newton's step is an eighth; from 50 on it rises
steady : Float → Derivatives
steady s =
    cond (lt s (round binary64 false 50 1))
    (record { slope = round binary64 true 17 16; curvature = round binary64 false 8 1 })
    (record { slope = one64; curvature = one64 })

-- 'at most 80 rounds': from 1 the lower end is at 1 + 79 / 8 after 80 rounds, and the middle from there to 100 is 887 / 16
eighty : sought_def steady one64 ≡ round binary64 false 887 16
unfolding sought_def search_def narrowed middle same_single next_guess_def flat side_def keeps init_s_max_def s_min_def decimal narrow_def add sub div sum neg lt le eq of_bits round steady
eighty = refl

-- at 1 the loss falls by 2 ^ -30 beyond the prior, and curves by 1
near : Float → Derivatives
near s =
    cond (lt s (round binary64 false 50 1))
    (record { slope = round binary64 true (2 ^ 26 + 1) (2 ^ 30); curvature = one64 })
    (record { slope = one64; curvature = one64 })

-- if next as f32 == s as f32 { return next as f32; }: the next guess is the single 1 and not the double 1, and it is what the search yields
next_yielded : sought_def near one64 ≡ round binary64 false (2 ^ 30 + 1) (2 ^ 30)
unfolding sought_def search_def narrowed middle same_single next_guess_def flat side_def keeps init_s_max_def s_min_def decimal narrow_def add sub div sum neg lt le eq of_bits round near
next_yielded = refl

-- if slope > 0.0 { high = s; } else { low = s; }: a slope of 0 moves the lower end
level_moves_low : (b : Bracket) → narrowed b zero64 ≡ record { low = b.s; high = b.high; s = b.s }
unfolding narrowed lt of_bits
level_moves_low b = refl
