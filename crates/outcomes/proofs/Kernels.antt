-- One outcome: the kernels and what they stand on. A line for each function: its answer, then each parameter in turn. Assumes nothing.
use denote.RattleType.{RattleType}
use denote.Param.Laws.{Laws, IsCopy}
use mir.Syntax.{Dict}
use contract.Lifetimes.{Lfts}
use borrow.Fn.Kinds.{Dens}
use Rattle.std.specs.Prelude.{◌<◌, ◌^◌}
use Rattle.outcomes.specs.Outcome.{One, Outcome, Satisfies, one}
use Rattle.outcomes.proofs.Tuples.{◌⨾◌, none, end}
use Rattle.outcomes.proofs.Words.{OnePair, one_pair}
use Rattle.soft.proofs.wide.product
use Rattle.soft.proofs.shifts.shr
use Rattle.soft.proofs.shifts.digits64
use Rattle.soft.proofs.units.measure
use Rattle.soft.proofs.units.is_finite
use Rattle.soft.proofs.half_away.round_f64
use Rattle.soft.proofs.half_away.round_f32
use Rattle.soft.proofs.fma.fma_f64
use Rattle.soft.proofs.fma.fma_f32
use Rattle.soft.proofs.narrow.narrow
use Rattle.table.proofs.entry_at
use Rattle.table.proofs.index.index_at
use Rattle.kernels.proofs.exp.exp
use Rattle.kernels.proofs.ln.ln
use Rattle.kernels.proofs.pow.pow
use Rattle.kernels.proofs.expm1.expm1_f32
use Rattle.kernels.proofs.pow_ln.pow_ln_f64

-- soft::wide
pub one_product : One product.Kinds.ps product.Kinds.r product.Reads.Post
one_product = one (λ κs a o c. c ⨾ none ⨾ none ⨾ end)

-- two words stand for a product in one way only
pub pair_product : OnePair product.Kinds.ps product.Reads.Post
pair_product = one_pair one_product

-- what answers is a value of its type: a product is two words, the lower one below 2 ^ 64
pub words_product : (κs : Lfts 0) (a : Dens κs product.Kinds.ps) (o : Outcome product.Kinds.ps product.Kinds.r κs a) → Satisfies product.Kinds.ps product.Kinds.r product.Reads.Post κs a o → o.0 < 2 ^ 128
words_product κs a o c = c.0

-- soft::shifts
pub one_shr : One shr.Kinds.ps shr.Kinds.r shr.Reads.Post
one_shr = one (λ κs a o c. c ⨾ none ⨾ none ⨾ end)

pub pair_shr : OnePair shr.Kinds.ps shr.Reads.Post
pair_shr = one_pair one_shr

pub one_digits64 : One digits64.Kinds.ps digits64.Kinds.r digits64.Reads.Post
one_digits64 = one (λ κs a o c. c ⨾ none ⨾ end)

-- soft::units
pub one_measure : One measure.Kinds.ps measure.Kinds.r measure.Reads.Post
one_measure = one (λ κs a o c. c ⨾ none ⨾ end)

pub one_is_finite : One is_finite.Kinds.ps is_finite.Kinds.r is_finite.Reads.Post
one_is_finite = one (λ κs a o c. c ⨾ none ⨾ end)

-- soft::half_away
pub one_round_f64 : One round_f64.Kinds.ps round_f64.Kinds.r round_f64.Reads.Post
one_round_f64 = one (λ κs a o c. c ⨾ none ⨾ end)

pub one_round_f32 : One round_f32.Kinds.ps round_f32.Kinds.r round_f32.Reads.Post
one_round_f32 = one (λ κs a o c. c ⨾ none ⨾ end)

-- soft::fma
pub one_fma_f64 : One fma_f64.Kinds.ps fma_f64.Kinds.r fma_f64.Reads.Post
one_fma_f64 = one (λ κs a o c. c ⨾ none ⨾ none ⨾ none ⨾ end)

pub one_fma_f32 : One fma_f32.Kinds.ps fma_f32.Kinds.r fma_f32.Reads.Post
one_fma_f32 = one (λ κs a o c. c ⨾ none ⨾ none ⨾ none ⨾ end)

-- soft::narrow
pub one_narrow : One narrow.Kinds.ps narrow.Kinds.r narrow.Reads.Post
one_narrow = one (λ κs a o c. c ⨾ none ⨾ end)

-- table
pub one_entry_at : One entry_at.Kinds.ps entry_at.Kinds.r entry_at.Reads.Post
one_entry_at = one (λ κs a o c. c ⨾ none ⨾ end)

-- table::index
pub one_index_at : One index_at.Kinds.ps index_at.Kinds.r index_at.Reads.Post
one_index_at = one (λ κs a o c. c ⨾ none ⨾ end)

-- kernels::expm1
pub one_expm1_f32 : One expm1_f32.Kinds.ps expm1_f32.Kinds.r expm1_f32.Reads.Post
one_expm1_f32 = one (λ κs a o c. c ⨾ none ⨾ end)

-- kernels::pow_ln
pub one_pow_ln_f64 : One pow_ln_f64.Kinds.ps pow_ln_f64.Kinds.r pow_ln_f64.Reads.Post
one_pow_ln_f64 = one (λ κs a o c. c ⨾ none ⨾ none ⨾ end)

-- kernels::exp, kernels::ln, kernels::pow: of every format
pub one_exp : (F : RattleType) (L : Laws F) (C : IsCopy F) (G1 : _) (D1 : Dict) (G2 : _) (D2 : Dict) (G3 : _) (D3 : Dict) (G4 : _) (D4 : Dict) → One (exp.Kinds.ps F L C) (exp.Kinds.r F L C) (exp.Reads.Post F L C G1 D1 G2 D2 G3 D3 G4 D4)
one_exp F L C G1 D1 G2 D2 G3 D3 G4 D4 = one (λ κs a o c. c ⨾ none ⨾ end)

pub one_ln : (F : RattleType) (L : Laws F) (C : IsCopy F) (G1 : _) (D1 : Dict) (G2 : _) (D2 : Dict) (G3 : _) (D3 : Dict) (G4 : _) (D4 : Dict) → One (ln.Kinds.ps F L C) (ln.Kinds.r F L C) (ln.Reads.Post F L C G1 D1 G2 D2 G3 D3 G4 D4)
one_ln F L C G1 D1 G2 D2 G3 D3 G4 D4 = one (λ κs a o c. c ⨾ none ⨾ end)

pub one_pow : (F : RattleType) (L : Laws F) (C : IsCopy F) (G1 : _) (D1 : Dict) (G2 : _) (D2 : Dict) (G3 : _) (D3 : Dict) (G4 : _) (D4 : Dict) → One (pow.Kinds.ps F L C) (pow.Kinds.r F L C) (pow.Reads.Post F L C G1 D1 G2 D2 G3 D3 G4 D4)
one_pow F L C G1 D1 G2 D2 G3 D3 G4 D4 = one (λ κs a o c. c ⨾ none ⨾ none ⨾ end)
