-- No two records share a cell, and no two fields of one record. Assumes nothing.
use Rattle.std.proofs.Common.{◌≡◌, ℕ, suc, ◌+◌, ◌*◌, ◌/◌, ◌<◌, ◌≤◌, Bool, true, false, leb, ◌≢◌, sym, refl, subst, mul-le-mul_right, suc-mul, div-mul-le_self, arith, leb-false, leb-true}
use Rattle.columns.specs.Records.{place, room_def}

-- a later column lies behind all rows of an earlier one
behind : (n f g r s : ℕ) → r < n → f < g → f * n + r < g * n + s
behind n f g r s h l =
    let up : suc f * n ≤ g * n = mul-le-mul_right n l in
    let turn = suc-mul f n in
    omega (arith, up, turn)

rows_apart : (n f g r s : ℕ) → r < n → s < n → r ≢ s → (a b : Bool) → a ≡ leb g f → b ≡ leb f g → f * n + r ≢ g * n + s
rows_apart n f g r s h k d false b ea eb e = let l = behind n f g r s h (leb-false _ _ (sym ea)) in omega (arith, l, e)
rows_apart n f g r s h k d true false ea eb e = let l = behind n g f s r k (leb-false _ _ (sym eb)) in omega (arith, l, e)
rows_apart n f g r s h k d true true ea eb e =
    let same : f ≡ g = omega (arith, leb-true g f (sym ea), leb-true f g (sym eb)) in
    let t : g * n + r ≡ g * n + s = subst (λ (x : ℕ). x * n + r ≡ g * n + s) same e in
    d (omega (arith, t))

module _ (cells row : ℕ) (l : row < room_def cells) where
  pub other_row : (f g other : ℕ) → other < room_def cells → other ≢ row → place cells f other ≢ place cells g row
  unfolding place room_def
  other_row f g other h d = rows_apart (cells / 10) f g other row h l d _ _ refl refl

  pub later_field : (f g : ℕ) → f < g → place cells f row ≢ place cells g row
  unfolding place room_def
  later_field f g h e = let b = behind (cells / 10) f g row row l h in omega (arith, b, e)

  pub inside : (f : ℕ) → f < 10 → place cells f row < cells
  unfolding place room_def
  inside f h =
      let b = behind (cells / 10) f 10 row 0 l h in
      let t = div-mul-le_self cells 10 in
      omega (arith, b, t)
