-- Rows that are read are the definition's, and what a loss works with its decay and factor is what the definition works. Assumes nothing.
use Rattle.std.proofs.Common.{◌≡◌, ℕ, List}
use lib.Ieee.{Float}
use Rattle.checks.specs.Columns.{total}
use Rattle.parameter_initialization.specs.Derivatives.{DECAY, recall_factor_def, row_terms_def, rows_of, row_of, derivatives_of_def, derivatives_def}

pub same_row :
    (decay factor s t y n t' y' n' : Float) → n ≡ n' → y ≡ y' → t ≡ t' → row_terms_def decay factor s t y n ≡ row_terms_def decay factor s t' y' n'
same_row decay factor s t y n t' y' n' e f g = rw (e, f, g)

pub worked :
    (decay factor : Float) → decay ≡ DECAY → factor ≡ recall_factor_def DECAY → (days shares counts : List Float) (s : Float) (n : ℕ)
    → n ≡ rows_of decay factor days shares counts → (slope curvature : Float)
    → slope ≡ total (λ k. (row_of decay factor days shares counts s k).slope) n
    → curvature ≡ total (λ k. (row_of decay factor days shares counts s k).curvature) n
    → record { slope = slope; curvature = curvature } ≡ derivatives_def days shares counts s
unfolding derivatives_def derivatives_of_def
worked decay factor d f days shares counts s n e slope curvature g h = rw (g, h, e, d, f)
