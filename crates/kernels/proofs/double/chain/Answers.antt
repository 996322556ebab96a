-- `power_chain` meets its contract. Assumes nothing.
use Rattle.std.proofs.Common.{◌/◌, ◌^◌, arith}
use Rattle.kernels.proofs.power.Sizes.{Chain, chain_sizes, chain_is}
use Rattle.kernels.proofs.double.chain.Goals.{Start}
use Rattle.kernels.proofs.double.chain.Goals as goal

sized : (c : goal.Start) → Chain (c.args.parts.f / 2 ^ 12)
sized c = chain_sizes c.args.parts.f c.args.parts.f_lt

pub overflow_mul-q : goal.overflow_mul-q
overflow_mul-q c = record { fits = (sized (goal.at.overflow_mul-q c).Start).q_fits }

pub overflow_add-b : goal.overflow_add-b
overflow_add-b c = record { fits = (sized (goal.at.overflow_add-b c).Start).b_fits }

pub overflow_mul-r : goal.overflow_mul-r
overflow_mul-r c = record { fits = (sized (goal.at.overflow_mul-r c).Start).r_fits }

pub overflow_add-result : goal.overflow_add-result
overflow_add-result c = omega (arith, (sized (goal.at.overflow_add-result c).Start).c_le)

pub returns : goal.returns
returns c = (chain_is c.args.parts.f, (sized (goal.at.returns c).Start).c_le)
