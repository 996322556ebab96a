-- `ln` of a single meets its contract. Assumes nothing.
use Rattle.std.proofs.Common.{ℤ, ap, ◌∙◌, to_z-of_z}
use lib.Ieee.{binary32}
use Rattle.kernels.specs.Kernels.{nearest_of}
use Rattle.kernels.proofs.log_double.Words.{fits_size}
use Rattle.kernels.proofs.ln.One.{ln_single}
use Rattle.kernels.proofs.single.F32Kernel.ln.Goals as goal

pub returns : goal.returns
returns c =
    let l = c.log in
    c.nearest.ensures ∙ ap (λ (z : ℤ). nearest_of binary32 z 56) (to_z-of_z (fits_size l.result l.ensures.1) ∙ l.ensures.0) ∙ ln_single c.args.x c.requires
