-- The search: what stops it before its first round. A round of it: it stops by the first test, by the second, or goes on with one round less; and where none is left, it stops. Assumes nothing.
use Rattle.std.proofs.Common.{◌≡◌, ℕ, suc, ◌+◌, ◌-◌, ◌≤◌, Bool, true, false, sym, ap, ◌∙◌, arith}
use lib.Ieee.{Float}
use Rattle.domain.specs.Doubles.{◌+ᵈ◌}
use Rattle.parameter_initialization.specs.Search.{rounds_def, narrowed, middle, same_single, next_guess_def, search_def, flat, side_def, keeps, sought_def}
use Rattle.parameter_initialization.specs.declared.derivatives.Derivatives.{Derivatives}
use Rattle.parameter_initialization.specs.declared.search.Bracket.{Bracket}
use Rattle.parameter_initialization.specs.declared.search.Side.{Side}

-- after k rounds that went on from `start`, the search is where it is from b with the rounds that are left
abbrev pub Reached : (D : Float → Derivatives) (prior : Float) (rounds : ℕ) (start : Bracket) (k : ℕ) (b : Bracket) → Type 0
Reached D prior rounds start k b = search_def D prior rounds start ≡ search_def D prior (rounds - k) b

one_more : (n k : ℕ) → k ≤ n → (k ≡ n → ⊥) → n - k ≡ suc (n - (k + 1))
one_more n k l h = omega (arith, l, h)

none_more : (n k : ℕ) → k ≡ n → n - k ≡ 0
none_more n k e = omega (arith, e)

module _ (D : Float → Derivatives) (prior : Float) (rounds : ℕ) (start : Bracket) (k : ℕ) (b : Bracket) (r : Reached D prior rounds start k b) where
  none_left : rounds - k ≡ 0 → search_def D prior (rounds - k) b ≡ middle b
  unfolding search_def
  none_left e = rw e

  pub ends_last : k ≡ rounds → (x : Float) → x ≡ middle b → x ≡ search_def D prior rounds start
  ends_last e x h = h ∙ sym (r ∙ none_left (none_more rounds k e))

  -- d and c are what the round works
  module _
      (l : k ≤ rounds) (h : k ≡ rounds → ⊥) (d : Derivatives) (e : d ≡ D b.s) (c : Bracket) (f : c ≡ narrowed b (d.slope +ᵈ prior)) where
    left : search_def D prior rounds start ≡ search_def D prior (suc (rounds - (k + 1))) b
    left = r ∙ ap (λ (n : ℕ). search_def D prior n b) (one_more rounds k l h)

    pub ends_met :
        (met : Bool) → met ≡ same_single c.low c.high → met ≡ true → (x : Float) → x ≡ middle c → x ≡ search_def D prior rounds start
    unfolding search_def
    ends_met met g t x i = i ∙ sym (left ∙ rw (← e, ← f, ← g, t))

    module _ (met : Bool) (g : met ≡ same_single c.low c.high) (n : met ≡ false) (x : Float) (i : x ≡ next_guess_def c (d.slope +ᵈ prior) d.curvature) where
      pub ends_same : (same : Bool) → same ≡ same_single x b.s → same ≡ true → x ≡ search_def D prior rounds start
      unfolding search_def
      ends_same same j t = sym (left ∙ rw (← e, ← f, ← g, n, ← i, ← j, t))

      pub goes_on :
          (same : Bool) → same ≡ same_single x b.s → same ≡ false
          → Reached D prior rounds start (k + 1) (record { low = c.low; high = c.high; s = x })
      unfolding search_def
      goes_on same j t = left ∙ rw (← e, ← f, ← g, n, ← i, ← j, t)

-- ---- before the first round: `here` is what is worked at the default, `there` at the boundary
module _ (D : Float → Derivatives) (default : Float) (here : Derivatives) (e : here ≡ D default) (level : Bool) (f : level ≡ flat here.slope) where
  pub takes_default : level ≡ true → default ≡ sought_def D default
  unfolding sought_def
  takes_default t = rw (← e, ← f, t)

  module _
      (n : level ≡ false) (side : Side) (g : side ≡ side_def here.slope default) (there : Derivatives) (h : there ≡ D side.boundary)
      (kept : Bool) (i : kept ≡ keeps here.slope (there.slope +ᵈ side.prior)) where
    pub takes_boundary : kept ≡ true → side.boundary ≡ sought_def D default
    unfolding sought_def
    takes_boundary t = rw (← e, ← f, n, ← g, ← h, ← i, t)

    pub takes_found :
        kept ≡ false → (x : Float) → x ≡ search_def D side.prior rounds_def (record { low = side.low; high = side.high; s = default })
        → x ≡ sought_def D default
    unfolding sought_def
    takes_found t x j = j ∙ rw (← e, ← f, n, ← g, ← h, ← i, t)
