-- What was told, by its number.
use Rattle.std.proofs.Common.{◌≡◌, ◌≤◌, ℕ, List, [], Some, Option, ap, arith, inl, inr, refl, subst, sym}
use Rattle.std.specs.Prelude.{cond, unwrap_or, ◌==◌}
use Rattle.hpr_io.specs.Counts.{Rose}
use Rattle.hpr_io.specs.Taken.{taken_then}
use Rattle.hpr_decisions.specs.Asked.{Took}
use Rattle.hpr_decisions.specs.Number.{number_of}
use Rattle.hpr_decisions.specs.declared.status.Status.{Status}
use Rattle.hpr_decisions.specs.declared.status.Status.TheVariants as status
use Rattle.hpr_c.specs.Call.{change, kept}

-- the status with a number
abbrev pub status_at : ℕ → Status
status_at n =
    cond (n == 0) status.Done (cond (n == 1) status.Interference (cond (n == 2) status.NoProgram (cond (n == 3) status.Spent (cond (n == 4) status.Refused
    (cond (n == 5) status.ReadFault (cond (n == 6) status.WriteFault (cond (n == 7) status.Words (cond (n == 8) status.Memory
    (cond (n == 9) status.NotEnded status.Rejected)))))))))

pub numbered : (s : Status) → status_at (number_of s) ≡ s
numbered status.Done = refl
numbered status.Interference = refl
numbered status.NoProgram = refl
numbered status.Spent = refl
numbered status.Refused = refl
numbered status.ReadFault = refl
numbered status.WriteFault = refl
numbered status.Words = refl
numbered status.Memory = refl
numbered status.NotEnded = refl
numbered status.Rejected = refl

-- what an output took that was empty
pub took_all : (P : List ℕ → Type 0) (new : List ℕ) → Took (Some []) (Some new) P → P new
took_all P new took = let all : new ≡ took.0 = ap (λ (o : Option (List ℕ)). unwrap_or o []) took.1 in subst P (sym all) took.2

pub all_taken : (text new : List ℕ) → Some new ≡ taken_then (Some []) text → new ≡ text
all_taken text new e = ap (λ (o : Option (List ℕ)). unwrap_or o []) e

pub not_risen : Rose 0 0 → ⊥
not_risen (inl less) = omega (arith, less)
not_risen (inr last) = absurd cc

none_above : (n : ℕ) → n ≤ 0 → n ≡ 0
none_above n low = omega (arith, low)

-- a sink that took nothing before and never failed
pub kept_so : (before now : ℕ) (old new : List ℕ) → before ≡ 0 → now ≤ 0 → old ≡ [] → change before now old new ≡ kept new
kept_so before now old new first low empty = let last : now ≡ 0 = none_above now low in rw (first, last, empty) refl
