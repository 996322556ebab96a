use Rattle.std.proofs.Common.{◌≡◌, ℕ, true, length, ◌∙◌, ne_eqb, eqb-true, rules}
use Rattle.domain.proofs.weights.Copy.{copy_whole}
use Rattle.model_v6.specs.Filling.{length_good, fill_def}
use Rattle.model_v6.proofs.filling.fill.Goals as goal

full : (n : ℕ) → length_good n ≡ true → (n ≡ 0 → ⊥) → (n ≡ 17 → ⊥) → (n ≡ 19 → ⊥) → n ≡ 21
full n h a b d = eqb-true _ _ (rw (ne_eqb _ 0 a, ne_eqb _ 17 b, ne_eqb _ 19 d) at h)

pub returns-in-0 : goal.returns-in-0
unfolding fill_def
returns-in-0 c = rw c.in-0.is c.default_weights.ensures

pub returns-in-17 : goal.returns-in-17
unfolding fill_def
returns-in-17 c = rw c.in-17.is c.filled_17.ensures

pub returns-in-19 : goal.returns-in-19
unfolding fill_def
returns-in-19 c = rw c.in-19.is c.filled_19.ensures

pub returns-in_default : goal.returns-in_default
unfolding fill_def
returns-in_default c =
    let e = full (length c.args.parameters.now) c.requires (search rules) (search rules) (search rules) in
    rw e (c.copy_weights.ensures ∙ copy_whole _ e)
