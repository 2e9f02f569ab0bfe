-- Places of a run, and which of two comes first (Reps and Yang 1988).
--
-- Place                  == a part, and a turn for each loop that encloses it, the outermost first; a loop
--                           encloses its own predicate
-- turn_at d turns        == the turn on the loop that d loops are around; 0 where there is none
-- InLoop t b i           == the place i is one of the loop t with the body b: of its predicate, or of a part
--                           in its body
-- ComesBefore sk d i j   == i comes before j in a block that d loops are around. At the first block where
--                           they stand in different statements, the left one is first. In one loop the lower
--                           turn is first, and in one turn the predicate is before the body. A predicate is
--                           before its branches, and two branches aren't compared
-- IsBefore body i j      == i comes before j in a program
-- HaveLessTurns c d a b  == on the c loops that d loops are around, the turns a are less than the turns b,
--                           the outermost loop first
-- HaveSameTurns c d a b  == on these loops the turns are the same
use Rattle.std.specs.Prelude.{◌≡◌, ℕ, zero, suc, ◌<◌, ◌⊎◌, List, [], ◌∷◌}
use Rattle.hpr_terms.specs.declared.tag.Tag.{Tag}
use Rattle.hpr_syntax.specs.Body.{Body}
use Rattle.hpr_syntax.specs.Skeleton.{Skeleton, nil, act, fork, round, at, StandsIn, skeleton}

abbrev pub Place : Type 0
Place = Tag × List ℕ

abbrev pub turn_at : ℕ → List ℕ → ℕ
turn_at d [] = zero
turn_at zero (k ∷ turns) = k
turn_at (suc d) (k ∷ turns) = turn_at d turns

abbrev pub InLoop : Tag → Skeleton → Place → Type 0
InLoop t b i = (at i.0 ≡ at t) ⊎ StandsIn b (at i.0)

abbrev pub ComesBefore : Skeleton → ℕ → Place → Place → Type 0
ComesBefore nil d i j = ⊥
ComesBefore (act t k) d i j = ((at i.0 ≡ at t) × StandsIn k (at j.0)) ⊎ ComesBefore k d i j
ComesBefore (fork t b c k) d i j =
    ((at i.0 ≡ at t) × (StandsIn b (at j.0) ⊎ (StandsIn c (at j.0) ⊎ StandsIn k (at j.0))))
    ⊎ (((StandsIn b (at i.0) ⊎ StandsIn c (at i.0)) × StandsIn k (at j.0)) ⊎ (ComesBefore b d i j ⊎ (ComesBefore c d i j ⊎ ComesBefore k d i j)))
ComesBefore (round t b k) d i j =
    (InLoop t b i × StandsIn k (at j.0))
    ⊎ (ComesBefore k d i j
    ⊎ (InLoop t b i × InLoop t b j
    × ((turn_at d i.1 < turn_at d j.1)
    ⊎ ((turn_at d i.1 ≡ turn_at d j.1) × (((at i.0 ≡ at t) × StandsIn b (at j.0)) ⊎ ComesBefore b (suc d) i j)))))

abbrev pub IsBefore : Body → Place → Place → Type 0
IsBefore p i j = ComesBefore (skeleton p) 0 i j

abbrev pub HaveLessTurns : ℕ → ℕ → List ℕ → List ℕ → Type 0
HaveLessTurns zero d a b = ⊥
HaveLessTurns (suc c) d a b = (turn_at d a < turn_at d b) ⊎ ((turn_at d a ≡ turn_at d b) × HaveLessTurns c (suc d) a b)

abbrev pub HaveSameTurns : ℕ → ℕ → List ℕ → List ℕ → Type 0
HaveSameTurns zero d a b = Unit {0}
HaveSameTurns (suc c) d a b = (turn_at d a ≡ turn_at d b) × HaveSameTurns c (suc d) a b
