-- What comes of an integration, by how it stops.
use Rattle.std.proofs.Common.{◌≡◌, ℕ, zero, suc, ◌+◌, ◌-◌, ◌≤◌, List, [], ◌∷◌, Contains, get_or, length, map, refl, ap, ◌∙◌, inl, inr, arith}
use Rattle.hpr_syntax.specs.Tree.{Tree}
use Rattle.hpr_graph.specs.declared.conflict.ManyConflict.{ManyConflict}
use Rattle.hpr_graph.specs.Conflicts.{told_many}
use Rattle.hpr_graph.proofs.Lists.{in_here, in_later}
use Rattle.hpr_engine.specs.Limit.{AreAllInLimit, IsFirstTooLargeOf}
use Rattle.hpr_words.specs.Request.{Text}
use Rattle.hpr_decisions.specs.IntegrateMany.{conflict_of}
use Rattle.hpr_decisions.proofs.Unrefused.{first_in_limit, rest_in_limit}
use Rattle.hpr_data.specs.Findings.{Finding, OnAllEdges, too_large}

-- the first graph that is too large is told, by the name of its text
pub first_too_large : (next : Type 0) (file other : Text) (names : List Text) (ps : List Tree) → length ps ≡ length names → (n : ℕ) → IsFirstTooLargeOf ps n → file ≡ get_or names n other
    → OnAllEdges names ps next (too_large file)
first_too_large next file other names [] count n many e = absurd many
first_too_large next file other [] (p ∷ ps) count n many e = absurd (omega (arith, count))
first_too_large next file other (name ∷ names) (p ∷ ps) count zero many e = inl (many, ap too_large e)
first_too_large next file other (name ∷ names) (p ∷ ps) count (suc n) (few, many) e = inr (few, first_too_large next file other names ps (omega (arith, count)) n many e)

-- where none is, what comes of their programs is
pub within_all : (names : List Text) (ps : List Tree) (next : Type 0) (f : Finding) → AreAllInLimit ps → next → OnAllEdges names ps next f
within_all [] ps next f few h = h
within_all (name ∷ names) [] next f few h = h
within_all (name ∷ names) (p ∷ ps) next f few h = inr (first_in_limit p ps few, within_all names ps next f (rest_in_limit p ps few) h)

-- a conflict is told by its variant's number from 0, and back
pub told_back : (cs : List ManyConflict) → ((c : ManyConflict) → Contains cs c → 1 ≤ c.variant) → map conflict_of (map told_many cs) ≡ cs
told_back [] from_one = refl
told_back (c ∷ cs) from_one =
    let here : c.variant - 1 + 1 ≡ c.variant = (let one = from_one c (in_here c cs) in omega (arith, one)) in
    let first : conflict_of (told_many c) ≡ c = (λ k. record { variant = here k; point = c.point; edge = c.edge }) in
    ap (λ (d : ManyConflict). d ∷ map conflict_of (map told_many cs)) first ∙ ap (λ (ds : List ManyConflict). c ∷ ds) (told_back cs (λ d there. from_one d (in_later c d cs there)))
