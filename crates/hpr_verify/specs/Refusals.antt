-- Why there is no verdict.
--
-- IfTooManyEdges result P == P of the number of the program that is named, where its graph has too many edges
-- IsFirstOf cs v          == v is the first of the conflicts cs
use Rattle.std.specs.Prelude.{◌≡◌, ℕ, List, ◌∷◌, Result, Ok, Err}
use Rattle.hpr_graph.specs.declared.conflict.Conflict.{Conflict}
use Rattle.hpr_verify.specs.declared.error.VerifyError.{VerifyError}
use Rattle.hpr_verify.specs.declared.error.VerifyError.TheVariants.{TooManyEdges, Memory}
use Rattle.hpr_verify.specs.declared.verdict.Verdict.{Verdict}
use Rattle.hpr_verify.specs.declared.verdict.Verdict.TheVariants as verdict

abbrev pub IfTooManyEdges : {X : Type 0} → Result X VerifyError → (ℕ → Type 0) → Type 0
IfTooManyEdges (Ok x) P = Unit {0}
IfTooManyEdges (Err (TooManyEdges n)) P = P n
IfTooManyEdges (Err Memory) P = Unit {0}

abbrev pub IsFirstOf : List Conflict → Verdict → Type 0
IsFirstOf cs v = (c : Conflict) × (rest : List Conflict) × (cs ≡ c ∷ rest) × (v ≡ verdict.Conflict c)
