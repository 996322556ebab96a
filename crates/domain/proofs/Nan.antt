-- x != x exactly where x is a NaN. Assumes nothing.
use Rattle.std.proofs.Common.{◌≡◌, true, false, refl, eq-eqb}
use lib.Ieee.{Float, nan, inf, fin, eq, ne, is_nan}

pub ne_self : (x : Float) → ne x x ≡ is_nan x
unfolding ne eq is_nan
ne_self nan = refl
ne_self (inf true) = refl
ne_self (inf false) = refl
ne_self (fin true m e) = rw (eq-eqb _ _ refl)
ne_self (fin false m e) = rw (eq-eqb _ _ refl)
