-- What it is for a contract to leave one outcome, and for a refused call to leave what was lent to it as it was. Document 01 asks
-- both of every public function, and proofs/ has a line for each. Assumes nothing.
use Rattle.std.specs.Prelude.{ℕ, List, ◌≡◌}
use Rattle.std.proofs.Common.{sym, ◌∙◌, subst, ap}
use contract.Lifetimes.{Lfts}
use denote.Triple.Clauses.{Lasts, AtExit, at_exit}
use borrow.Fn.Kinds.{ParamKind, ResultKind, Out, Dens, res_t, ended_of}

-- the number of a refusal: document 01's table has '0 accepted'
abbrev pub Refused : ℕ → Type 0
Refused k = k ≡ 0 → ⊥

-- A function has n lifetimes, parameters of the kinds ps and an answer of the kind r. Its contract C is the claim of its own
-- `ensures`, which the kit hands out as `Post`:
-- C κs a z e is said of a call's lifetimes κs, its arguments a, its answer z and the parameters e as the call leaves them. The
-- kit's names: Dens κs ps are the arguments, (res_t r κs).Denot the answers,
-- Lasts .. κs a what a call can leave in that which it was lent, and at_exit .. κs a ws its parameters then.
module _ {n : ℕ} (ps : List (ParamKind n)) (r : ResultKind n) where
  -- 'the returned value and the final contents of every lent slice', where the arguments are a: the answer, and for each parameter
  -- in turn the final content of what it lends by `&mut`.
  -- A parameter that lends nothing so has the one element of `Unit` there
  abbrev pub Outcome : (κs : Lfts n) → Dens κs ps → Type 0
  Outcome κs a = (res_t r κs).Denot × Lasts (ended_of n ps r) κs a

  -- the parameters as the outcome o leaves them
  abbrev pub left : (κs : Lfts n) (a : Dens κs ps) → Outcome κs a → AtExit (ended_of n ps r) κs
  left κs a o = at_exit (ended_of n ps r) κs a o.1

  -- what the contract claims, of the outcome o
  abbrev pub Claims : Out n ps r → (κs : Lfts n) (a : Dens κs ps) → Outcome κs a → Type 0
  Claims C κs a o = C κs a o.0 (left κs a o)

  -- o satisfies the contract; its answer is a value of the answer's type, as a word is below 2 ^ 64
  abbrev pub Satisfies : Out n ps r → (κs : Lfts n) (a : Dens κs ps) → Outcome κs a → Type 0
  Satisfies C κs a o = r.is.Ok κs o.0 × Claims C κs a o

  -- 'Each public contract determines the returned value and the final contents of every lent slice, for accepted and refused calls
  -- alike; show that no second outcome satisfies it'
  pub record One (C : Out n ps r) : Type 0 where
    pub same : (κs : Lfts n) (a : Dens κs ps) (o o' : Outcome κs a) → Satisfies C κs a o → Satisfies C κs a o' → o ≡ o'

  -- The same with nothing asked of the answer's type: of the passes and entries that are lent step records
  pub record Sole (C : Out n ps r) : Type 0 where
    pub same : (κs : Lfts n) (a : Dens κs ps) (o o' : Outcome κs a) → Claims C κs a o → Claims C κs a o' → o ≡ o'

  -- 'A refusal [..] writes nothing': if the call's number is a refusal's, then every parameter is left as it was passed, each lent
  -- slice and place with its content.
  -- number: where the call's number stands, in its answer or its arguments. same-type: what a call leaves of its parameters, read
  -- as arguments. It is the identity in every line, for the two types are one
  pub record Kept
      (number : (κs : Lfts n) → Dens κs ps → (res_t r κs).Denot → ℕ) (same-type : (κs : Lfts n) → AtExit (ended_of n ps r) κs → Dens κs ps)
      (C : Out n ps r) : Type 0 where
    pub kept : (κs : Lfts n) (a : Dens κs ps) (o : Outcome κs a) → Claims C κs a o → Refused (number κs a o.0) → same-type κs (left κs a o) ≡ a

-- the law: where a contract claims the outcome to be a function of the call, there is one
pub one :
    {n : ℕ} {ps : List (ParamKind n)} {r : ResultKind n} {C : Out n ps r} {says : (κs : Lfts n) (a : Dens κs ps) → Outcome ps r κs a}
    → ((κs : Lfts n) (a : Dens κs ps) (o : Outcome ps r κs a) → Claims ps r C κs a o → o ≡ says κs a) → One ps r C
one h = record { same = λ κs a o o' c c'. h κs a o c.1 ∙ sym (h κs a o' c'.1) }

pub sole :
    {n : ℕ} {ps : List (ParamKind n)} {r : ResultKind n} {C : Out n ps r} {X : Type 0} {stands : (κs : Lfts n) → (res_t r κs).Denot → X}
    {says : (κs : Lfts n) (a : Dens κs ps) → X × Lasts (ended_of n ps r) κs a}
    → ((κs : Lfts n) (x y : (res_t r κs).Denot) → stands κs x ≡ stands κs y → x ≡ y)
    → ((κs : Lfts n) (a : Dens κs ps) (o : Outcome ps r κs a) → Claims ps r C κs a o → (stands κs o.0, o.1) ≡ says κs a) → Sole ps r C
sole {stands = stands} known h =
    record {
      same = λ κs a o o' c c' i. let e = h κs a o c ∙ sym (h κs a o' c') in (known κs o.0 o'.0 (ap (λ z. z.0) e) i, ap (λ z. z.1) e i);
    }

pub one_of : {n : ℕ} {ps : List (ParamKind n)} {r : ResultKind n} {C : Out n ps r} → Sole ps r C → One ps r C
one_of h = record { same = λ κs a o o' c c'. h.same κs a o o' c.1 c'.1 }

-- likewise where it claims what the answer stands for to be a function of the call, and an answer is known by that
pub one_by :
    {n : ℕ} {ps : List (ParamKind n)} {r : ResultKind n} {C : Out n ps r} {X : Type 0} {stands : (κs : Lfts n) → (res_t r κs).Denot → X}
    {says : (κs : Lfts n) (a : Dens κs ps) → X × Lasts (ended_of n ps r) κs a}
    → ((κs : Lfts n) (x y : (res_t r κs).Denot) → stands κs x ≡ stands κs y → x ≡ y)
    → ((κs : Lfts n) (a : Dens κs ps) (o : Outcome ps r κs a) → Claims ps r C κs a o → (stands κs o.0, o.1) ≡ says κs a) → One ps r C
one_by {stands = stands} known h =
    record {
      same = λ κs a o o' c c' i.
          let e = h κs a o c.1 ∙ sym (h κs a o' c'.1) in (known κs o.0 o'.0 (ap (λ z. z.0) e) i, ap (λ z. z.1) e i);
    }

-- likewise for refusals, where it claims the number to be a function of the call
pub keeps :
    {n : ℕ} {ps : List (ParamKind n)} {r : ResultKind n}
    {number : (κs : Lfts n) → Dens κs ps → (res_t r κs).Denot → ℕ} {same-type : (κs : Lfts n) → AtExit (ended_of n ps r) κs → Dens κs ps} {C : Out n ps r}
    {says : (κs : Lfts n) → Dens κs ps → ℕ}
    → ((κs : Lfts n) (a : Dens κs ps) (o : Outcome ps r κs a) → Claims ps r C κs a o → number κs a o.0 ≡ says κs a)
    → ((κs : Lfts n) (a : Dens κs ps) (o : Outcome ps r κs a) → Claims ps r C κs a o → Refused (says κs a) → same-type κs (left ps r κs a o) ≡ a)
    → Kept ps r number same-type C
keeps e h = record { kept = λ κs a o c k. h κs a o c (subst Refused (e κs a o c) k) }
