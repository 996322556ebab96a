-- Change request K2: a review on a day, of a state that carries the day when its card was last seen. Assumes nothing.
use Rattle.std.specs.Prelude.{ℕ, ◌-◌, Bool, cond, ◌&&◌, List, ◌==◌, nat_le, Float}
use Rattle.model_v6.specs.Answers.{scalar_refusal_def, finite_memory}
use Rattle.model_v6.specs.NextState.{next_state_def}
use Rattle.model_v6.specs.Stability.{as_f32}
use Rattle.model_v6.specs.Results.{NextSeen}
use Rattle.model_v6.specs.declared.seen.Seen.{Seen}

-- 'a whole day number, 0 to 100000'
abbrev pub day_number_max : ℕ
day_number_max = 100000

abbrev pub day_number_good : (day : ℕ) → Bool
day_number_good day = nat_le day day_number_max

-- 'A review then names its day, and the elapsed days are the difference'; 'Stability and difficulty are what they were'
unfoldable pub on_day_def : (w : List Float) (seen : Seen) (day rating : ℕ) → Seen
on_day_def w seen day rating = record { state = next_state_def w seen.state (as_f32 (day - seen.day)) rating; day = day }

-- '13 also for a day number out of range; new 15 for the earlier day, after 13': so 1, 2, 13, 15
unfoldable pub on_day_refusal_def : (w : List Float) (seen : Seen) (day : ℕ) → ℕ
on_day_refusal_def w seen day =
    let n = scalar_refusal_def w (finite_memory seen.state && (day_number_good seen.day && day_number_good day)) in
    cond (n == 0) (cond (nat_le seen.day day) 0 15) n

-- 'a refused step hands back the given state in place of zeros'
unfoldable pub on_day_scalar : (w : List Float) (seen : Seen) (day rating : ℕ) → NextSeen
on_day_scalar w seen day rating =
    let n = on_day_refusal_def w seen day in
    record { refusal = n; seen = cond (n == 0) (on_day_def w seen day rating) seen }
