-- Kernel calls that are accepted: a number is no refusal. Assumes nothing.
use mathlib.Core.Path.{◌≡◌}
use mathlib.Core.List.{List, [], ◌∷◌, ◌++◌}
use Prim.Native.Nat.{ℕ}
use lib.Ieee.{Float}
use Rattle.kernels.specs.Kernels.{kernel_refusal}
use Rattle.laws.specs.KernelCalls.{KernelCall, NoneRefused}
use Rattle.laws.proofs.Values.Sizes.{Size, size_number}

pub accepted : (k : ℕ) (x : Float) → Size k x → kernel_refusal x ≡ 0
accepted k x h = rw (size_number k x h)

pub none_append : (cs ds : List KernelCall) → NoneRefused cs → NoneRefused ds → NoneRefused (cs ++ ds)
none_append [] ds h g = g
none_append (c ∷ cs) ds h g = (h.0, none_append cs ds h.1 g)
