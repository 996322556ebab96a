-- Change request K6, a starting stability from first recalls: loss_derivatives of parameter_initialization.rs, line for line and in double. A single
-- widened is the same number, so that `as f64` of one leaves no trace here. Assumes nothing.
use Rattle.std.specs.Prelude.{ℕ, List, length, from_bits, slice_index_or, Float}
use Rattle.std.specs.Float.{binary64}
use Rattle.std.specs.Float.Ieee.{neg}
use Rattle.kernels.specs.Calls.{pow64}
use Rattle.domain.specs.Doubles.{◌+ᵈ◌, ◌-ᵈ◌, ◌*ᵈ◌, ◌/ᵈ◌, zero64, one64}
use Rattle.domain.specs.Weights.{◌!◌, FSRS6_DEFAULT_PARAMETERS}
use Rattle.checks.specs.Columns.{total}
use Rattle.checks.specs.Tables.{least}
use Rattle.parameter_initialization.specs.declared.derivatives.Derivatives.{Derivatives}

-- 0.9f64
abbrev pub nine_tenths : Float
nine_tenths = from_bits binary64 0x3fec_cccc_cccc_cccd

-- FSRS6_DEFAULT_PARAMETERS[20] as f64
unfoldable pub DECAY : Float
DECAY = FSRS6_DEFAULT_PARAMETERS ! 20

-- 0.9f64.powf(-1.0 / decay) - 1.0
unfoldable pub recall_factor_def : (decay : Float) → Float
recall_factor_def decay = pow64 nine_tenths (neg one64 /ᵈ decay) -ᵈ one64

-- what a row of t days, the share y and the count n adds to the two sums; (..).powi(2) is one product
unfoldable pub row_terms_def : (decay factor s t y n : Float) → Derivatives
row_terms_def decay factor s t y n =
    let c = t *ᵈ factor in
    let p = pow64 (one64 +ᵈ c /ᵈ s) (neg decay) in
    let b = decay *ᵈ c /ᵈ (s *ᵈ (s +ᵈ c)) in
    let a = (p -ᵈ y) /ᵈ (one64 -ᵈ p) in
    let q = b /ᵈ (one64 -ᵈ p) in
    record {
      slope = n *ᵈ a *ᵈ b;
      curvature = n *ᵈ ((one64 -ᵈ y) *ᵈ p *ᵈ (q *ᵈ q) -ᵈ a *ᵈ b *ᵈ (one64 /ᵈ s +ᵈ one64 /ᵈ (s +ᵈ c)));
    }

-- a cell; past the end +0.0, which no row has
infixl 9 ◌at◌
abbrev pub ◌at◌ : List Float → ℕ → Float
xs at k = slice_index_or xs k zero64

module _ (decay factor : Float) (days shares counts : List Float) where
  -- delta_t.iter().zip(recall).zip(count): the shortest ends the rows
  abbrev pub rows_of : ℕ
  rows_of = least (length days) (least (length shares) (length counts))

  abbrev pub row_of : (s : Float) (k : ℕ) → Derivatives
  row_of s k = row_terms_def decay factor s (days at k) (shares at k) (counts at k)

  -- slope += ..; curvature += ..;
  unfoldable pub derivatives_of_def : (s : Float) → Derivatives
  derivatives_of_def s = record { slope = total (λ k. (row_of s k).slope) rows_of; curvature = total (λ k. (row_of s k).curvature) rows_of }

-- loss_derivatives
unfoldable pub derivatives_def : (days shares counts : List Float) (s : Float) → Derivatives
derivatives_def days shares counts s = derivatives_of_def DECAY (recall_factor_def DECAY) days shares counts s
